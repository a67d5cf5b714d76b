use Rattle.std.proofs.Common.{◌≡◌, ℕ, ◌+◌, ◌-◌, get_or, take, sym, ap, ◌∙◌, arith, ⊎_elim}
use Rattle.std.proofs.lemmas.Bool.{cases_lt}
use Rattle.carrier_plan.specs.declared.plan.Piece.{Piece}
use Rattle.link_base.specs.Bits.{bit_of}
use Rattle.plan_checker.specs.Container.{pieces_size}
use Rattle.plan_checker.specs.Place.{iq_bit}
use Rattle.link_sender_blocks.proofs.Pieces.{beside, earlier_apart, iq_bit-piece, pieces_size-more, pieces_size-within, pieces_size-whole}
use Rattle.link_sender_blocks.proofs.Pieces.IsBeside.{is_before, is_behind, is_inside}
use Rattle.link_sender_blocks.proofs.cutting.cut.Goals as goal

pub loop-piece-preserved : goal.loop-piece-preserved
loop-piece-preserved c =
    let pieces = c.args.pieces.now in
    let i : ℕ = c.loop-piece.piece-index in
    let none : Piece = record { start = 0; size = 0 } in
    let piece = get_or pieces i none in
    let before = pieces_size (take i pieces) in
    let at : ℕ = piece.start in
    let new = c.copy_bits.new.dst in
    let done = c.loop-piece.invariant in
    let more = pieces_size-more pieces i none (omega arith) in
    let within = pieces_size-within pieces i none (omega arith) in
    let reached = done.reached in
    let copy = c.copy_bits.ensures in
    record {
      reached = omega arith;
      copied = λ b h. ⊎_elim
          (λ early.
          let x : ℕ = iq_bit pieces b in
          elim (beside at piece.size x) [
            | is_before lt ↦ copy.before x (omega arith) ∙ done.copied b early
            | is_behind le ↦ copy.after x (omega arith) ∙ done.copied b early
            | is_inside j small is ↦ absurd (earlier_apart pieces i b j none c.requires.apart (omega arith) early small (omega arith))
          ])
          (λ late.
          let j : ℕ = b - before in
          let here : before + j ≡ b = omega arith in
          let bit : iq_bit pieces b ≡ piece.start + j = ap (iq_bit pieces) (sym here) ∙ iq_bit-piece pieces i j none (omega arith) (omega arith) in
          let there : iq_bit pieces b ≡ at + j = bit in
          let from : c.loop-piece.next + j ≡ b = omega arith in
          ap (bit_of new) there ∙ copy.copied j (omega arith) ∙ ap (bit_of c.args.container.now) from)
          (cases_lt b before);
      others = λ k h. elim (beside at piece.size k) [
        | is_before lt ↦ copy.before k (omega arith) ∙ done.others k (λ b less. h b (omega arith))
        | is_behind le ↦ copy.after k (omega arith) ∙ done.others k (λ b less. h b (omega arith))
        | is_inside j small is ↦
            let bit = iq_bit-piece pieces i j none (omega arith) small in
            absurd (h (before + j) (omega arith) (omega arith))
      ];
    }

pub returns : goal.returns
returns c =
    let pieces = c.args.pieces.now in
    let whole = pieces_size-whole pieces c.loop-piece.piece-index (omega arith) in
    record {
      same_length = c.loop-piece.auto.octets;
      copied = λ b h. c.loop-piece.invariant.copied b (omega arith);
      others = λ k h. c.loop-piece.invariant.others k (λ b less. h b (omega arith));
    }
