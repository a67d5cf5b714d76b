use Rattle.std.proofs.Common.{◌≡◌, ◌+◌, ◌++◌, ◌∙◌, append_assoc, length, sym, ap, subst, take, drop}
use Rattle.std.proofs.lemmas.List.{take-append-drop}
use Rattle.link_text.specs.Lines.{Reading, with_feeds}
use Rattle.link_run_feed.specs.Feed.{in_lines, Read}
use Rattle.link_run_feed.specs.FeedCalls.{GoesOn, form_with}
use Rattle.link_run_feed.proofs.FeedLines.{goes_on_ahead}
use Rattle.link_run_feed.proofs.feed_reader.read_ahead.Goals as goal

pub returns-clause-goes_on : goal.returns-clause-goes_on
returns-clause-goes_on g c = λ header s number hand left sink stands.
    let form = form_with header g.F.Feed.lines in
    let old = c.args.reader.now.rest in
    let many = c.read_ahead-ahead.result.octets in
    let reads = c.read_ahead-ahead.ensures.reads s stands in
    let r : Read g.F.Feed.State = record { at = in_lines s; number = number; text = hand } in
    let taken : take many old ≡ with_feeds reads.lines = ap (take many) (sym c.at_hand.ensures) ∙ reads.octets_are in
    let whole : with_feeds reads.lines ++ (drop many old ++ left) ≡ old ++ left =
    sym (append_assoc (with_feeds reads.lines) (drop many old) left) ∙ ap (λ front. (front ++ drop many old) ++ left) (sym taken) ∙ ap (λ hand. hand ++ left) (take-append-drop many old) in
    let rest : drop many old ≡ c.pass.new.self.rest = sym (ap (λ (reading : Reading). reading.rest) c.pass.ensures) in
    let on = goes_on_ahead form s reads.next number hand reads.lines (drop many old ++ left) sink reads.lead in (
      reads.next,
      reads.stands_for,
      subst (λ after. GoesOn form r (old ++ left) sink (in_lines reads.next) (number + c.read_ahead-ahead.result.lines) hand (after ++ left) sink) rest
          (subst (λ n. GoesOn form r (old ++ left) sink (in_lines reads.next) (number + n) hand (drop many old ++ left) sink) (sym reads.as_many)
          (subst (λ octets. GoesOn form r octets sink (in_lines reads.next) (number + length reads.lines) hand (drop many old ++ left) sink) whole on)),
    )
