use Rattle.std.proofs.Common.{◌++◌, ap, ◌∙◌, arith}
use Rattle.hdlc_channel.specs.Bits.{low_bits}
use Rattle.hdlc_channel.proofs.LaidBits.{laid, laid_small, laid_fits, room_inside}
use Rattle.hdlc_channel.proofs.laid.Laid.push.Goals as goal

pub overflow_add-self : goal.overflow_add-self
overflow_add-self c =
    let i = c.self.inside in
    let room = room_inside i.len i.bits c.args.len _ c.self.view_is c.requires.room in
    let h = laid_fits i.bits i.len c.args.bits c.args.len c.self.invariant.small c.requires.small room in
    omega (arith, h)

pub invariant_of-self : goal.invariant_of-self
invariant_of-self c =
    let i = c.self.inside in
    let room = room_inside i.len i.bits c.args.len _ c.self.view_is c.requires.room in
    record { small = laid_small i.bits i.len c.args.bits c.args.len c.self.invariant.small c.requires.small room; few = room }

pub returns : goal.returns
returns c =
    let i = c.self.inside in
    let room = room_inside i.len i.bits c.args.len _ c.self.view_is c.requires.room in
    laid i.bits i.len c.args.bits c.args.len c.self.invariant.small c.requires.small room ∙ ap (λ bs. bs ++ low_bits c.args.len c.args.bits) c.self.view_is
