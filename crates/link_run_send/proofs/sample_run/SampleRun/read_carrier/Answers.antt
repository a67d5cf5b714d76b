use Rattle.std.proofs.Common.{◌≡◌, ◌<◌, ◌++◌, length, All, take, sym, ap, ap₂, ◌∙◌, subst, arith}
use Rattle.std.proofs.lemmas.List.Elements.{All-append}
use Rattle.carrier_plan.specs.declared.plan.Plan.{Plan}
use Rattle.link_sender.specs.HandedIn.{with_samples}
use Rattle.plan_checker.specs.Run.{samples_due}
use Rattle.sample_bits.specs.Samples.{IsWithin}
use Rattle.link_run_send.specs.Ahead.{AreSamples}
use Rattle.link_run_send.specs.ComesNext.{HandedTo}
use Rattle.link_run_send.specs.Sends.{come_of, made_to, room_for}
use Rattle.link_run_send.specs.Sent.{has_samples, width_of}
use Rattle.link_run_send.proofs.AheadLines.{as_many_samples}
use Rattle.link_run_send.proofs.AheadStates.{all_within, leads, state_with, still_sampled}
use Rattle.link_run_send.proofs.Kept.{as_many}
use Rattle.link_run_send.proofs.TakenSamples.{made_true}
use Rattle.link_run_send.proofs.sample_run.SampleRun.read_carrier.Goals as goal

pub invariant_of-self : goal.invariant_of-self
invariant_of-self c =
    let w = c.args.self.now in
    let p = w.checked in
    let due = c.read_due-ahead.new.due in
    let takes = c.read_due-ahead.ensures.takes in
    let within = w.next.within in
    let missing = c.requires.missing in
    let are = subst (λ m. AreSamples m takes.lines takes.samples) c.width-width.ensures.width takes.are in
    let all = All-append (IsWithin (width_of p w.due.carrier)) (come_of w.due) takes.samples w.within (all_within (width_of p w.due.carrier) takes.lines takes.samples are) in record {
      of_plan = w.of_plan;
      of_run = w.of_run;
      announced = w.announced;
      short = w.short;
      next = record {
        within = omega (arith, takes.tick, within);
        few = omega (arith, takes.due, w.next.few);
        carrier = λ less. omega (arith, takes.carrier, w.next.carrier missing);
        count = λ less.
            takes.due ∙ w.next.count missing ∙ ap (λ b. samples_due p b w.due.tick) (sym takes.carrier) ∙ ap (samples_due p due.carrier) (sym takes.tick);
        missing = λ less. takes.missing;
        none = λ end. absurd (omega (arith, end, takes.tick, missing));
      };
      handed = subst (λ n. HandedTo p w.output.sender.handed n due.carrier) (sym takes.tick) (subst (HandedTo p w.output.sender.handed w.due.tick) (sym takes.carrier) w.handed);
      early = λ less. omega (arith, takes.tick, w.early missing);
      within = subst (λ b. All (IsWithin (width_of p b)) (take due.come due.samples)) (sym takes.carrier)
          (subst (All (IsWithin (width_of p w.due.carrier))) (sym takes.taken) all);
    }

pub returns-clause-reads : goal.returns-clause-reads
returns-clause-reads c = λ s between.
    let w = c.args.self.now in
    let due = c.read_due-ahead.new.due in
    let takes = c.read_due-ahead.ensures.takes in
    let keeps = between.keeps in
    let missing = c.requires.missing in
    let sampled = c.requires.sampled in
    let width = c.width-width.ensures.width ∙ ap (λ (p : Plan). width_of p w.due.carrier) (sym keeps.plan) in
    let are = subst (λ m. AreSamples m takes.lines takes.samples) width takes.are in
    let many = as_many_samples _ takes.lines takes.samples are in
    let inside : w.due.carrier < length keeps.handed.samples = omega (arith, w.next.carrier missing, as_many w s keeps) in
    let made : w.output.sender.tick ≡ w.due.tick = between.made ∙ ap (λ b. made_to w.header.version b w.due.tick) sampled ∙ made_true w.header.version w.due.tick in record {
      lines = takes.lines;
      octets_are = takes.octets_are;
      as_many = takes.as_many;
      next = state_with w s between sampled missing (come_of w.due ++ takes.samples);
      lead = leads w s between sampled missing takes.lines takes.samples (omega (arith, w.next.missing missing, w.next.few)) are (omega (arith, takes.come, takes.missing, takes.as_many, takes.due, many));
      stands_for = record {
        keeps = record {
          plan = keeps.plan;
          header = keeps.header;
          output = keeps.output;
          handed = keeps.handed;
          sends = keeps.sends;
          stream = ap₂ (with_samples keeps.handed) (sym takes.carrier) (sym takes.taken);
          settled = sym made;
          sampled = sampled
              ∙ sym (still_sampled keeps.handed w.due.carrier (come_of w.due) takes.samples inside (sym (ap has_samples keeps.stream) ∙ sym keeps.sampled ∙ sampled));
          room = keeps.room ∙ ap room_for keeps.stream;
        };
        made = between.made ∙ ap (made_to w.header.version w.sampled) (sym takes.tick);
        left = omega (arith, between.left, takes.tick, takes.carrier, takes.come, takes.due, takes.missing, w.next.few, c.requires.left);
      };
    }
