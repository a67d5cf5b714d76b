-- A look for the next line, as far as it has come.
use Rattle.std.proofs.Common.{◌≡◌, ℕ, ◌<◌, ◌≤◌, List, ◌++◌, length, take, ap, subst, arith, Some}
use Rattle.link_base.specs.Shelf.{Shown, SameFiles}
use Rattle.link_text.specs.Lines.{longest, HasNoFeed, HasNoFault, Took}
use Rattle.link_text.specs.LineBuffer.{Buffered, Advanced}
use Rattle.link_text.specs.declared.lines.Ending.TheVariants.{TooLong}

-- octets were read after the rest, and none of the first `searched` is a line feed
pub record Looks (old now : Buffered) (before after : Shown) (searched : ℕ) : Type 0 where
  pub octets : List ℕ
  pub took : Took octets before after
  pub no_fault : HasNoFault before after
  pub files : SameFiles before after
  pub rest : now.rest ≡ old.rest ++ octets
  pub within : searched ≤ length now.rest
  pub none : HasNoFeed (take searched now.rest)

-- no line where there are too many octets
pub too_long : (old now : Buffered) (before after : Shown) (searched : ℕ) → Looks old now before after searched
    → longest < length now.rest → HasNoFeed (take 4097 now.rest) → Advanced old now before after (Some TooLong)
too_long old now before after searched looks long none = record {
  octets = looks.octets;
  took = looks.took;
  advances = (
    omega (arith, ap length looks.rest),
    subst (λ rest. HasNoFeed (take 4097 rest)) looks.rest none,
    looks.rest,
  );
}
