use Rattle.std.proofs.Common.{◌≡◌, ℕ, ◌+◌, ◌-◌, take, ap, sym, ◌∙◌, arith, ⊎_elim}
use Rattle.std.proofs.lemmas.Bool.{cases_lt}
use Rattle.carrier_plan.specs.declared.plan.Piece.{Piece}
use Rattle.link_base.specs.Bits.{bit_of}
use Rattle.plan_checker.specs.Container.{pieces_size}
use Rattle.plan_checker.specs.Place.{iq_bit}
use Rattle.link_receiver_blocks.proofs.Pieces.{iq_bit-piece, pieces_size-more, pieces_size-within}
use Rattle.link_receiver_blocks.proofs.gathering.gather.Goals as goal

pub loop-piece-preserved : goal.loop-piece-preserved
loop-piece-preserved c =
    let route = c.args.route.now in
    let i : ℕ = c.loop-piece.piece-index in
    let none : Piece = record { start = 0; size = 0 } in
    let before = pieces_size (take i route) in
    let done = c.loop-piece.invariant in
    let new = c.copy_bits.new.dst in
    let frame = c.args.octets.now in
    let more = pieces_size-more route i none (omega arith) in
    let within = pieces_size-within route i none (omega arith) in
    let reached = done.reached in
    record {
      reached = omega arith;
      copied = λ b h. ⊎_elim
          (λ early. c.copy_bits.ensures.before (c.args.at + b) (omega arith) ∙ done.copied b early)
          (λ late.
          let j : ℕ = b - before in
          let there : c.args.at + b ≡ c.loop-piece.next + j = omega arith in
          let here : before + j ≡ b = omega arith in
          ap (bit_of new) there ∙ c.copy_bits.ensures.copied j (omega arith)
          ∙ ap (bit_of frame) (sym (iq_bit-piece route i j none (omega arith) (omega arith)) ∙ ap (iq_bit route) here))
          (cases_lt b before);
      before = λ x h. c.copy_bits.ensures.before x (omega arith) ∙ done.before x h;
      after = λ x h. c.copy_bits.ensures.after x (omega arith) ∙ done.after x h;
    }
