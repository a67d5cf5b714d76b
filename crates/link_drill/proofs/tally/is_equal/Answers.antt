use Rattle.std.proofs.Common.{◌∙◌, sym, ap, get_or}
use Rattle.link_sender.specs.Senders.{zero_sample}
use Rattle.link_drill.specs.Summary.{is_same}
use Rattle.link_drill.proofs.SummarySteps.{equal_by}
use Rattle.link_drill.proofs.tally.is_equal.Goals as goal

pub returns-in-Some : goal.returns-in-Some
returns-in-Some c =
    let drawn = c.args.drawn.now in
    let place = ap (λ k. is_same c.in-Some.value (get_or drawn k zero_sample)) c.place_of.ensures.value in
    c.eq.ensures ∙ place ∙ sym (equal_by c.args.words 256 drawn c.args.entry.now c.in-Some.value c.requires.run c.in-Some.is)
