-- Pieces that are written one after another.
use Rattle.std.proofs.Common.{◌+◌, ◌++◌, ℕ, List, IsTrue, take, drop, subst, sym, ap, ◌∙◌, append_assoc}
use Rattle.std.proofs.Math.Seq.{take-add}
use Rattle.link_base.specs.Sink.{Taken, Appends}

-- the next k octets of a piece, behind the first n of it
pub appends_more : (piece : List ℕ) (n k : ℕ) (old mid new : Taken) → Appends (take n piece) old mid → Appends (take k (drop n piece)) mid new → Appends (take (n + k) piece) old new
appends_more piece n k old mid new first next = record {
  tells = next.tells ∙ first.tells;
  written = λ told.
      next.written (subst IsTrue (sym first.tells) told)
      ∙ ap (λ written. written ++ take k (drop n piece)) (first.written told)
      ∙ append_assoc old.written (take n piece) (take k (drop n piece))
      ∙ ap (λ octets. old.written ++ octets) (sym (take-add n k piece));
}
