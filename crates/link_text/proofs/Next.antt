-- What a caller of `next` learns of its answer, for a reader that has not ended.
use Rattle.std.proofs.Common.{◌≡◌, ℕ, ◌+◌, ◌≤◌, List, ◌∷◌, ◌++◌, length, sym, ◌∙◌, ap, subst, Some, None, IsTrue, Bor, MatchOption, append_assoc}
use Rattle.link_base.specs.Shelf.{Shown}
use Rattle.link_text.specs.declared.lines.Line.{Line}
use Rattle.link_text.specs.declared.lines.Line.TheVariants.{Text}
use Rattle.link_text.specs.declared.lines.Ending.{Ending}
use Rattle.link_text.specs.Lines.{lines_of, rest_of, IsLine, Reading, Stops, GivesNext, Keeps, Took, ending_of}
use Rattle.link_text.proofs.LinesOf.{lines_of-line, rest_of-line}
use Rattle.link_text.proofs.Answered.{Stops-answer}

-- a line was given, the first of those that are left
pub record GivesLine (old new : Reading) (before after : Shown) (text : List ℕ) : Type 0 where
  pub octets : List ℕ
  pub took : Took octets before after
  pub is_line : IsLine text
  -- the octets that were kept and those that were read
  pub hand : old.rest ++ octets ≡ text ++ 10 ∷ new.rest
  pub ended : new.ended ≡ None
  pub fits : length text + 1 + length new.rest ≤ 8192
  -- all that is left of the file
  pub lines : IsTrue before.tells → lines_of (old.rest ++ before.left) ≡ text ∷ lines_of (new.rest ++ after.left)
  pub rest : IsTrue before.tells → rest_of (old.rest ++ before.left) ≡ rest_of (new.rest ++ after.left)

-- no line was given, for this reason
pub record GivesNone (old new : Reading) (before after : Shown) (ending : Ending) : Type 0 where
  pub octets : List ℕ
  pub took : Took octets before after
  pub stops : Stops (old.rest ++ octets) new.rest ending
  pub ended : new.ended ≡ Some ending

gives_next : (old new : Reading) (before after : Shown) (answer : Line) → old.ended ≡ None → Keeps old new before after answer → GivesNext old new before after answer
gives_next old new before after answer fresh keeps = subst (λ o. MatchOption o (GivesNext old new before after answer) (λ _. new ≡ old)) fresh keeps

pub gives_line : (old new : Reading) (before after : Shown) (answer : Line) (text : Bor (List ℕ))
    → old.ended ≡ None → Keeps old new before after answer → answer ≡ Text text → GivesLine old new before after text.now
gives_line old new before after answer text fresh keeps is =
    let next : GivesNext old new before after (Text text) = subst (GivesNext old new before after) is (gives_next old new before after answer fresh keeps) in
    let all : IsTrue before.tells → old.rest ++ before.left ≡ text.now ++ 10 ∷ (new.rest ++ after.left) =
    (λ tells. ap (λ left. old.rest ++ left) (next.took.left tells) ∙ sym (append_assoc old.rest next.octets after.left)
    ∙ ap (λ hand. hand ++ after.left) next.gives.1 ∙ append_assoc text.now (10 ∷ new.rest) after.left) in record {
      octets = next.octets;
      took = next.took;
      is_line = next.gives.0;
      hand = next.gives.1;
      ended = next.ended;
      fits = next.fits;
      lines = λ tells. ap lines_of (all tells) ∙ lines_of-line text.now (new.rest ++ after.left) next.gives.0.1;
      rest = λ tells. ap rest_of (all tells) ∙ rest_of-line text.now (new.rest ++ after.left) next.gives.0.1;
    }

pub gives_none : (old new : Reading) (before after : Shown) (answer : Line) (ending : Ending)
    → old.ended ≡ None → Keeps old new before after answer → ending_of answer ≡ Some ending → GivesNone old new before after ending
gives_none old new before after answer ending fresh keeps is =
    let next = gives_next old new before after answer fresh keeps in record {
      octets = next.octets;
      took = next.took;
      stops = Stops-answer (old.rest ++ next.octets) new.rest answer ending is next.gives;
      ended = next.ended ∙ is;
    }
