use Rattle.std.proofs.Common.{◌≡◌, ◌≤◌, true, false, [], length, take, Some, sym, ap, ◌∙◌, subst}
use Rattle.std.proofs.lemmas.Bool.{cond-true, cond-false}
use Rattle.hdlc_channel.specs.SlowText.{content_answer}
use Rattle.hdlc_channel.specs.Reader.{SlowView, before_flag, closed_content, kept_frame}
use Rattle.hdlc_channel.proofs.ReaderCases.{content_none, answer_none, answer_short, answer_uneven, answer_octets, whole_front}
use Rattle.hdlc_channel.proofs.slow_reader.SlowReader.close.Goals as goal

-- what is closed, where a frame is open
opened_content : (v w : SlowView) → v ≡ w → v.in_frame ≡ true → before_flag v.collected ≡ closed_content w
opened_content v w same on = sym (cond-true v.in_frame (before_flag v.collected) [] on) ∙ ap closed_content same

nothing_closed : (v w : SlowView) → v ≡ w → v.in_frame ≡ false → [] ≡ closed_content w
nothing_closed v w same off = sym (cond-false v.in_frame (before_flag v.collected) [] off) ∙ ap closed_content same

pub returns-then-not-self-clause-answer : goal.returns-then-not-self-clause-answer
returns-then-not-self-clause-answer c = content_none ∙ ap content_answer (nothing_closed _ _ c.self.view_is c.if-not-self.true)

pub returns-then-bits-eq0-clause-answer : goal.returns-then-bits-eq0-clause-answer
returns-then-bits-eq0-clause-answer c =
    answer_none c.self.inside.content (before_flag c.self.inside.content) c.len_before_flag-bits.result c.len_before_flag-bits.ensures.front c.len_before_flag-bits.ensures.within c.if-bits-eq0.true
    ∙ ap content_answer (opened_content _ _ c.self.view_is c.if-not-self.false)

pub returns-then-bits-lt-FEWEST_BITS-clause-answer : goal.returns-then-bits-lt-FEWEST_BITS-clause-answer
returns-then-bits-lt-FEWEST_BITS-clause-answer c =
    answer_short c.self.inside.content (before_flag c.self.inside.content) c.len_before_flag-bits.result c.len_before_flag-bits.ensures.front c.len_before_flag-bits.ensures.within c.if-bits-eq0.false c.if-bits-lt-FEWEST_BITS.true
    ∙ ap content_answer (opened_content _ _ c.self.view_is c.if-not-self.false)

pub returns-then-bits-ne0-clause-answer : goal.returns-then-bits-ne0-clause-answer
returns-then-bits-ne0-clause-answer c =
    answer_uneven c.self.inside.content (before_flag c.self.inside.content) c.len_before_flag-bits.result c.len_before_flag-bits.ensures.front c.len_before_flag-bits.ensures.within c.if-bits-lt-FEWEST_BITS.false c.if-bits-ne0.true
    ∙ ap content_answer (opened_content _ _ c.self.view_is c.if-not-self.false)

pub returns-else-bits-ne0-clause-answer : goal.returns-else-bits-ne0-clause-answer
returns-else-bits-ne0-clause-answer c =
    answer_octets c.args.self.now.collected (before_flag c.args.self.now.collected) c.len_before_flag-bits.result
    (subst (λ (v : SlowView). take c.len_before_flag-bits.result v.collected ≡ before_flag v.collected) c.self.view_is c.len_before_flag-bits.ensures.front)
    (subst (λ (v : SlowView). c.len_before_flag-bits.result ≤ length v.collected) c.self.view_is c.len_before_flag-bits.ensures.within)
    c.check.result c.if-bits-lt-FEWEST_BITS.false c.if-bits-ne0.false c.check.ensures.answer
    ∙ ap (λ v. content_answer (before_flag v.collected)) (sym c.self.view_is)
    ∙ ap content_answer (opened_content _ _ c.self.view_is c.if-not-self.false)

pub returns-else-bits-ne0-clause-frame : goal.returns-else-bits-ne0-clause-frame
returns-else-bits-ne0-clause-frame c =
    c.check.ensures.frame
    ∙ ap (λ content. kept_frame (Some c.check.result) content c.args.self.now.frame)
    (whole_front c.args.self.now.collected (before_flag c.args.self.now.collected) c.len_before_flag-bits.result
    (subst (λ (v : SlowView). take c.len_before_flag-bits.result v.collected ≡ before_flag v.collected) c.self.view_is c.len_before_flag-bits.ensures.front)
    (subst (λ (v : SlowView). c.len_before_flag-bits.result ≤ length v.collected) c.self.view_is c.len_before_flag-bits.ensures.within)
    c.if-bits-ne0.false
    ∙ ap (λ v. before_flag v.collected) (sym c.self.view_is)
    ∙ opened_content _ _ c.self.view_is c.if-not-self.false)
