use Rattle.std.proofs.Common.{◌≡◌, ◌+◌, ◌≤◌, ◌++◌, [], ◌∷◌, List, ℕ, Ok, length, length-take, length-set, set, take, All, refl, sym, ap, ◌∙◌, subst, arith, append-nil}
use Rattle.std.proofs.lemmas.List.{take_more_set}
use Rattle.std.proofs.lemmas.List.Elements.{All-nil}
use Rattle.carrier_plan.specs.declared.plan.Plan.{Plan}
use Rattle.link_sender.specs.HandedIn.{with_samples}
use Rattle.link_sender.specs.Stream.{Stream}
use Rattle.plan_checker.specs.Run.{samples_before, samples_due}
use Rattle.sample_bits.specs.Samples.{IsWithin}
use Rattle.link_run_send.specs.ComesNext.{HandedTo, IsCounted}
use Rattle.link_run_send.specs.Sends.{made_to}
use Rattle.link_run_send.specs.Sent.{complete_of, settled_to, width_of, with_sample}
use Rattle.link_run_send.proofs.AheadLines.{take_past}
use Rattle.link_run_send.proofs.AheadStates.{by_each_version, is_not_end}
use Rattle.link_run_send.proofs.HandedOn.{counts_on, sends_on}
use Rattle.link_run_send.proofs.HandedStreams.{with_none}
use Rattle.link_run_send.proofs.Kept.{next_some}
use Rattle.link_run_send.proofs.NextSamples.{line_reads}
use Rattle.link_run_send.proofs.SettledTexts.{text_none}
use Rattle.link_run_send.proofs.TakenSamples.{complete_next, fewer_at, has_on, made_true, stream_on, within_more}
use Rattle.link_run_send.proofs.sample_run.SampleRun.finish_carrier.Goals as goal

pub hand_over-requires-clause-due : goal.hand_over-requires-clause-due
hand_over-requires-clause-due c =
    let w = c.args.self.now in
    let long : length (take w.due.count (set w.due.samples w.due.come c.in-Some.front.sample)) ≡ w.due.count =
    omega (arith, length-take w.due.count (set w.due.samples w.due.come c.in-Some.front.sample), length-set w.due.samples w.due.come c.in-Some.front.sample, w.next.few) in
    long ∙ w.next.count c.requires.missing ∙ ap (λ (p : Plan). samples_due p w.due.carrier w.due.tick) (sym w.of_plan)
    ∙ ap (samples_due w.output.sender.plan w.due.carrier) (sym c.requires.made)

pub hand_over-requires-clause-once : goal.hand_over-requires-clause-once
hand_over-requires-clause-once c =
    let w = c.args.self.now in
    w.handed.from w.due.carrier (omega arith) (w.next.carrier c.requires.missing) ∙ ap (λ (p : Plan). samples_before p w.due.carrier w.due.tick) (sym w.of_plan)
    ∙ ap (samples_before w.output.sender.plan w.due.carrier) (sym c.requires.made)

pub hand_over-requires-clause-within : goal.hand_over-requires-clause-within
hand_over-requires-clause-within c =
    let w = c.args.self.now in
    let v = c.in-Some.front.sample in
    let missing = c.requires.missing in
    let whole : w.due.count ≡ w.due.come + 1 = omega (arith, w.next.missing missing, c.if-self.false) in
    let fits = subst (λ m. IsWithin m v) c.width.ensures.width c.in-Some.ensures.fits in
    subst (λ (p : Plan). All (IsWithin (width_of p w.due.carrier)) (take w.due.count (set w.due.samples w.due.come v))) (sym w.of_plan)
    (subst (λ n. All (IsWithin (width_of w.checked w.due.carrier)) (take n (set w.due.samples w.due.come v))) (sym whole)
    (within_more w.checked w.due.carrier w.due.come w.due.samples v (omega (arith, w.next.missing missing, w.next.few)) w.within fits))

pub invariant_of-self-3 : goal.invariant_of-self-3
invariant_of-self-3 c =
    let w = c.args.self.now in
    let over = c.hand_over.ensures.ok in
    let next = c.next.new.self in
    let inside = w.next.carrier c.requires.missing in
    let later = c.next.ensures c.hand_over.new.sender.handed (counts_on w.output.sender c.hand_over.new.sender w.checked w.due.carrier w.due.tick w.of_plan c.requires.made over w.handed inside) in
    let width = width_of w.checked next.carrier in record {
      of_plan = over.plan ∙ w.of_plan;
      of_run = over.frames ∙ w.of_run;
      announced = over.announcement ∙ w.announced;
      short = w.short;
      next = later.next;
      handed = later.handed_to;
      early = λ less. omega (arith, over.tick, c.requires.made, later.later);
      within = subst (λ n. All (IsWithin width) (take n next.samples)) (sym later.none_come) (All-nil (IsWithin width));
    }

pub returns-clause-reads : goal.returns-clause-reads
returns-clause-reads c = λ s between.
    let w = c.args.self.now in
    let keeps = between.keeps in
    let octets = c.args.octets.now in
    let v = c.in-Some.front.sample in
    let size = c.in-Some.front.length in
    let front = c.in-Some.ensures in
    let line = take size octets in
    let missing = c.requires.missing in
    let made = c.requires.made in
    let next = c.next.new.self in
    let sender = c.hand_over.new.sender in
    let over = c.hand_over.ensures.ok in
    let inside = w.next.carrier missing in
    let later = c.next.ensures sender.handed (counts_on w.output.sender sender w.checked w.due.carrier w.due.tick w.of_plan made over w.handed inside) in
    let same : next.tick ≡ w.due.tick = c.if-next-self.false in
    let whole : w.due.count ≡ w.due.come + 1 = omega (arith, w.next.missing missing, c.if-self.false) in
    let x = with_sample s w.due.carrier v in
    let more = take w.due.count (set w.due.samples w.due.come v) in
    let all = ap (λ n. take n (set w.due.samples w.due.come v)) whole ∙ take_more_set w.due.samples w.due.come v (omega (arith, w.next.missing missing, w.next.few)) in
    let σ = with_samples keeps.handed w.due.carrier more in
    let stream = stream_on w s keeps v missing ∙ ap (with_samples keeps.handed w.due.carrier) (sym all) in
    let stands = c.hand_over.ensures.stands keeps.handed keeps.sends.stands in
    let plan = over.plan ∙ w.of_plan in
    let carriers = ap (λ (q : Plan). length q.carriers) plan in
    let counted : IsCounted w.checked σ sender.handed = record {
      carriers = stands.as_many ∙ carriers;
      each = λ d there. stands.handed d (omega (arith, there, carriers));
    } in
    let counts = subst (λ (τ : Stream). IsCounted w.checked τ sender.handed) (sym stream) counted in
    let complete = complete_next w s keeps v missing sender.handed w.due next later counts in
    let settled : complete_of x ≤ s.settled = omega (arith, complete, same, made, keeps.settled) in
    let width = c.width.ensures.width ∙ ap (λ (p : Plan). width_of p w.due.carrier) (sym keeps.plan) in
    let reads =
    by_each_version s.header.version s line v front.gives
    ∙ line_reads s line w.due.carrier (next_some w s keeps missing) v front.gives (subst (λ m. IsWithin m v) width front.fits)
    ∙ ap (λ (text : List ℕ). Ok (settled_to x (complete_of x), text)) (text_none s.output s.plan s.header.run_ticks x.stream s.settled (complete_of x) settled) in
    let to = subst (λ n. HandedTo w.checked w.output.sender.handed n w.due.carrier) (sym made) w.handed in
    let none = ap (λ n. with_samples σ next.carrier (take n next.samples)) later.none_come ∙ with_none σ next.carrier in record {
      lines = line ∷ [];
      octets_are = take_past size octets _ front.at front.within ∙ sym (append-nil (line ++ 10 ∷ []));
      as_many = refl;
      next = settled_to x (complete_of x);
      lead = (front.line, is_not_end line v front.gives, (settled_to x (complete_of x), reads, refl));
      stands_for = record {
        keeps = record {
          plan = keeps.plan;
          header = keeps.header;
          output = keeps.output;
          handed = σ;
          sends = sends_on w.output.sender w.checked w.of_plan w.due.carrier inside to keeps.handed keeps.sends.good keeps.sends.stands more sender w.output.output w.output.rd over stands keeps.sends;
          stream = stream ∙ sym none;
          settled = complete ∙ same ∙ sym made ∙ sym over.tick;
          sampled = c.requires.sampled ∙ sym (has_on w s keeps v missing);
          room = keeps.room;
        };
        made = over.tick ∙ made ∙ sym same ∙ sym (ap (λ b. made_to w.header.version b next.tick) c.requires.sampled ∙ made_true w.header.version next.tick);
        left = omega (arith, between.left, fewer_at w s keeps v missing sender.handed w.due next refl refl later, c.requires.left);
      };
    }
