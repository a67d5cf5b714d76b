use Rattle.std.proofs.Common.{◌≡◌, ◌≤◌, length, drop, take, sym, ap, ◌∙◌, subst, arith}
use Rattle.std.proofs.lemmas.Bool.{eqb-true, eq-eqb}
use Rattle.hdlc_channel.specs.Outgoing.{OutView}
use Rattle.hdlc_channel.proofs.LaidBits.{is_last_iff, later_bits-length, some_left}
use Rattle.hdlc_channel.proofs.OutSteps.{some_at}
use Rattle.hdlc_channel.proofs.outgoing.Outgoing.is_last.Goals as goal

pub returns-clause-last : goal.returns-clause-last
returns-clause-last c =
    let i = c.self.inside in
    let room : length i.octets.items ≡ 1502 = c.self.invariant.room in
    let within : i.end ≤ 1502 = c.self.invariant.within in
    let iff = is_last_iff i.ones i.octets.items i.at i.end (omega arith) c.self.invariant.left in (
      (λ e. ap (λ v. v.later) (sym c.self.view_is) ∙ iff.0 (eqb-true i.at i.end e)),
      (λ e. eq-eqb i.at i.end (iff.1 (ap (λ v. v.later) c.self.view_is ∙ e))),
    )

pub returns-clause-long : goal.returns-clause-long
returns-clause-long c some =
    let i = c.self.inside in
    let room : length i.octets.items ≡ 1502 = c.self.invariant.room in
    let within : i.end ≤ 1502 = c.self.invariant.within in
    let before = some_at i.ready i.ones i.octets.items i.at i.end c.self.invariant (λ none. some (ap (λ v. v.later) (sym c.self.view_is) ∙ none)) in
    subst (λ (v : OutView). 8 ≤ length v.later) c.self.view_is
    (later_bits-length i.ones (drop i.at (take i.end i.octets.items)) (some_left i.octets.items i.at i.end (omega arith) before))
