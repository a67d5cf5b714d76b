-- An answer that gives no line, by its reason.
use Rattle.std.proofs.Common.{◌≡◌, ℕ, ◌+◌, ◌≤◌, List, ◌++◌, length, refl, sym, ◌∙◌, subst, arith, Option, Some, None, IfNone}
use Rattle.link_base.specs.Shelf.{Shown}
use Rattle.link_text.specs.declared.lines.Line.{Line}
use Rattle.link_text.specs.declared.lines.Line.TheVariants as line
use Rattle.link_text.specs.declared.lines.Ending.{Ending}
use Rattle.link_text.specs.declared.lines.Ending.TheVariants as ending
use Rattle.link_text.specs.Lines.{Reading, ending_of, Stops, Gives, lent_len, Keeps, ShowsEnding}
use Rattle.link_text.specs.LineBuffer.{Buffered, Advances, Advanced}

same_ending : (e f : Ending) → ◌≡◌ {A = Option Ending} (Some e) (Some f) → f ≡ e
same_ending e f is = cc

Gives-ending : (hand rest : List ℕ) (answer : Line) (e : Ending) → ending_of answer ≡ Some e → Stops hand rest e → Gives hand rest answer
Gives-ending hand rest (line.Text text) e is stops = cc
Gives-ending hand rest line.End e is stops = subst (Stops hand rest) (same_ending ending.End e is) stops
Gives-ending hand rest line.TooLong e is stops = subst (Stops hand rest) (same_ending ending.TooLong e is) stops
Gives-ending hand rest line.Unended e is stops = subst (Stops hand rest) (same_ending ending.Unended e is) stops
Gives-ending hand rest line.Failed e is stops = subst (Stops hand rest) (same_ending ending.Failed e is) stops

lent_len-ending : (answer : Line) (e : Ending) → ending_of answer ≡ Some e → lent_len answer ≡ 0
lent_len-ending (line.Text text) e is = cc
lent_len-ending line.End e is = refl
lent_len-ending line.TooLong e is = refl
lent_len-ending line.Unended e is = refl
lent_len-ending line.Failed e is = refl

-- what is kept after such an answer
pub keeps_ending : (old : Reading) (was now : Buffered) (before after : Shown) (result : Option Ending) (e : Ending) (answer : Line)
    → old.ended ≡ None → was.rest ≡ old.rest → Advanced was now before after result → result ≡ Some e
    → length now.line + length now.rest ≤ 8192 → ending_of answer ≡ Some e
    → Keeps old (record { rest = now.rest; ended = result }) before after answer
keeps_ending old was now before after result e answer fresh same advanced is fits answers =
    let found : Advances (was.rest ++ advanced.octets) now (Some e) = subst (Advances (was.rest ++ advanced.octets) now) is advanced.advances in
    let stops : Stops (old.rest ++ advanced.octets) now.rest e = subst (λ rest. Stops (rest ++ advanced.octets) now.rest e) same found in
    rw fresh (record {
      octets = advanced.octets;
      took = advanced.took;
      gives = Gives-ending (old.rest ++ advanced.octets) now.rest answer e answers stops;
      ended = is ∙ sym answers;
      fits = omega (arith, lent_len-ending answer e answers);
    })

-- what the shelf shows then
pub shows_ending : (old : Reading) (before after : Shown) (result : Option Ending) (e : Ending) (answer : Line)
    → old.ended ≡ None → result ≡ Some e → ending_of answer ≡ Some e → ShowsEnding before after result
    → IfNone old.ended (ShowsEnding before after (ending_of answer))
shows_ending old before after result e answer fresh is answers shows =
    let shown : ShowsEnding before after (ending_of answer) = subst (ShowsEnding before after) (is ∙ sym answers) shows in
    rw fresh shown

-- and back
pub Stops-answer : (hand rest : List ℕ) (answer : Line) (e : Ending) → ending_of answer ≡ Some e → Gives hand rest answer → Stops hand rest e
Stops-answer hand rest (line.Text text) e is gives = cc
Stops-answer hand rest line.End e is gives = subst (Stops hand rest) (sym (same_ending ending.End e is)) gives
Stops-answer hand rest line.TooLong e is gives = subst (Stops hand rest) (sym (same_ending ending.TooLong e is)) gives
Stops-answer hand rest line.Unended e is gives = subst (Stops hand rest) (sym (same_ending ending.Unended e is)) gives
Stops-answer hand rest line.Failed e is gives = subst (Stops hand rest) (sym (same_ending ending.Failed e is)) gives
