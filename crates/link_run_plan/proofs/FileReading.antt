-- A plan's file that is selected and then read.
use Rattle.std.proofs.Common.{◌≡◌, ◌++◌, inl, inr, [], ℕ, List, length, take, drop, arith, sym, ap, ◌∙◌, append-nil}
use Rattle.std.proofs.lemmas.Bool.{cases_lt}
use Rattle.std.proofs.lemmas.List.{drop_all, take_at, take_all, take-append-drop, length-take-le}
use Rattle.link_base.specs.Shelf.{Shown, Opens, FailsToOpen}
use Rattle.link_base.specs.Filling.{Fills}
use Rattle.link_run_feed.proofs.Courses.{select_failed}
use Rattle.link_run_plan.specs.PlanFile.{plan_limit, IsPlanFile, FailsAtFile, FailsToRead}

pub select_fails : (name : List ℕ) (old new : Shown) → FailsToOpen name old new → FailsAtFile name old new
select_fails name old new fails = record {
  chosen = inr fails.chosen;
  failed = select_failed name old new fails;
  taken = λ whole found chosen. absurd (let none = fails.chosen in cc);
}

pub read_fails : (name : List ℕ) (old mid new : Shown) → Opens name old mid → FailsToRead mid new → FailsAtFile name old new
read_fails name old mid new opens fails = record {
  chosen = inl (fails.chosen ∙ sym fails.failed);
  failed = inl (fails.failed ∙ opens.chosen);
  taken = λ whole found chosen.
      let same : whole ≡ mid.left = let left = opens.left in cc in
      omega (arith, ap length same, fails.taken);
}

-- the buffer was filled as far as the file goes
pub prefix_read : (before after : List ℕ) (k : ℕ) (mid new : Shown) → length before ≡ plan_limit → Fills k before after mid new → take k after ≡ take plan_limit mid.left
prefix_read before after k mid new size fills =
    ap (take k) fills.prefix.buffer
    ∙ take_at (take k mid.left) (drop k before) k (length-take-le k mid.left fills.prefix.within)
    ∙ elim (cases_lt k plan_limit) [
      | inl short ↦
          let none_left : drop k mid.left ≡ [] = sym fills.prefix.left ∙ fills.end (omega (arith, size)) in
          let all : take k mid.left ≡ mid.left = sym (append-nil (take k mid.left)) ∙ ap (λ rest. take k mid.left ++ rest) (sym none_left) ∙ take-append-drop k mid.left in
          all ∙ sym (take_all plan_limit mid.left (omega (arith, length-take-le k mid.left fills.prefix.within, ap length all)))
      | inr full ↦ let same : k ≡ plan_limit = omega (arith, size, fills.prefix.fits) in ap (λ n. take n mid.left) same
    ]

pub plan_file_read : (name octets : List ℕ) (old mid : Shown) → Opens name old mid → octets ≡ take plan_limit mid.left → IsPlanFile name old.held octets
plan_file_read name octets old mid opens prefix = record { whole = mid.left; held_here = opens.left; prefix = prefix }

-- a vector is cut to its first octets after all of it was lent and given back
pub cut_to : (count n : ℕ) (written items : List ℕ) → length written ≡ length items → n ≡ length items
    → take count (take n (written ++ drop (length written) items)) ≡ take count written
cut_to count n written items same size =
    ap (λ rest. take count (take n (written ++ rest))) (drop_all (length written) items (omega (arith, same)))
    ∙ ap (λ all. take count (take n all)) (append-nil written)
    ∙ ap (take count) (take_all n written (omega (arith, same, size)))
