use Rattle.std.proofs.Common.{length, slice_index, take, sym, ap, ◌∙◌, subst, arith}
use Rattle.carrier_plan.specs.declared.plan.Plan.{Plan}
use Rattle.link_sender.specs.HandedIn.{with_samples}
use Rattle.link_text.specs.Gathered.{BreaksOff, Gathers}
use Rattle.link_run_send.specs.ComesNext.{ComesLater, HandedTo}
use Rattle.link_run_send.proofs.HandedOn.{counts_on, map_err, map_ok, same_text, sends_on}
use Rattle.link_run_send.proofs.sample_lines.go_on.Goals as goal

pub make_to-requires : goal.make_to-requires
make_to-requires g c =
    let p = c.args.checked.now in
    let due = c.args.due.now in
    let output = c.args.output.now in
    let over = c.hand_over.ensures.ok in
    let later = c.next.ensures c.hand_over.new.sender.handed (counts_on output.sender c.hand_over.new.sender p due.carrier due.tick c.requires.plan c.requires.tick over c.requires.handed c.requires.carrier) in
    omega (arith, later.next.within, c.requires.short)

pub returns-clause-later : goal.returns-clause-later
returns-clause-later g c =
    let p = c.args.checked.now in
    let due = c.args.due.now in
    let output = c.args.output.now in
    let over = c.hand_over.ensures.ok in
    let later = c.next.ensures c.hand_over.new.sender.handed (counts_on output.sender c.hand_over.new.sender p due.carrier due.tick c.requires.plan c.requires.tick over c.requires.handed c.requires.carrier) in
    subst (λ counts. ComesLater p c.args.run_ticks counts due c.next.new.self) (sym c.make_to.ensures.same.handed) later

pub returns-clause-none : goal.returns-clause-none
returns-clause-none g c =
    let p = c.args.checked.now in
    let due = c.args.due.now in
    let output = c.args.output.now in
    let over = c.hand_over.ensures.ok in
    let later = c.next.ensures c.hand_over.new.sender.handed (counts_on output.sender c.hand_over.new.sender p due.carrier due.tick c.requires.plan c.requires.tick over c.requires.handed c.requires.carrier) in
    ap (λ n. take n c.next.new.self.samples) later.none_come

pub returns-clause-counted : goal.returns-clause-counted
returns-clause-counted g c = λ σ stands.
    let over = c.hand_over.ensures.ok in
    let after = c.hand_over.ensures.stands σ stands in
    let plan = over.plan ∙ c.requires.plan in record {
      carriers = after.as_many ∙ ap (λ (q : Plan). length q.carriers) plan;
      each = λ d inside.
          after.handed d (omega (arith, inside, ap (λ (q : Plan). length q.carriers) plan)) ∙ ap (λ counts. slice_index counts d) (sym c.make_to.ensures.same.handed);
    }

pub returns-clause-early : goal.returns-clause-early
returns-clause-early g c =
    let p = c.args.checked.now in
    let due = c.args.due.now in
    let output = c.args.output.now in
    let over = c.hand_over.ensures.ok in
    let later = c.next.ensures c.hand_over.new.sender.handed (counts_on output.sender c.hand_over.new.sender p due.carrier due.tick c.requires.plan c.requires.tick over c.requires.handed c.requires.carrier) in
    c.make_to.ensures.late (omega (arith, over.tick, c.requires.tick, later.later))

pub returns-clause-tick : goal.returns-clause-tick
returns-clause-tick g c =
    let p = c.args.checked.now in
    let due = c.args.due.now in
    let output = c.args.output.now in
    let over = c.hand_over.ensures.ok in
    let later = c.next.ensures c.hand_over.new.sender.handed (counts_on output.sender c.hand_over.new.sender p due.carrier due.tick c.requires.plan c.requires.tick over c.requires.handed c.requires.carrier) in
    map_ok c.make_to.result (λ reaches. reaches (omega (arith, over.tick, c.requires.tick, later.later))) c.make_to.ensures.tick

pub returns-clause-sends : goal.returns-clause-sends
returns-clause-sends g c =
    let p = c.args.checked.now in
    let due = c.args.due.now in
    let output = c.args.output.now in
    let more = take due.count due.samples in
    let to = subst (λ n. HandedTo p output.sender.handed n due.carrier) (sym c.requires.tick) c.requires.handed in
    let over = c.hand_over.ensures.ok in
    map_ok c.make_to.result (λ after σ sends. after (with_samples σ due.carrier more) (sends_on output.sender p c.requires.plan due.carrier c.requires.carrier to σ sends.good sends.stands more c.hand_over.new.sender output.output output.rd over (c.hand_over.ensures.stands σ sends.stands) sends)) c.make_to.ensures.sends

pub returns-clause-puts : goal.returns-clause-puts
returns-clause-puts g c =
    let p = c.args.checked.now in
    let due = c.args.due.now in
    let output = c.args.output.now in
    let more = take due.count due.samples in
    let to = subst (λ n. HandedTo p output.sender.handed n due.carrier) (sym c.requires.tick) c.requires.handed in
    let over = c.hand_over.ensures.ok in
    map_ok c.make_to.result
    (λ after σ sends.
    subst (λ text. Gathers text c.args.text.now (g.K.Sink.taken c.args.out.now) c.make_to.new.text (g.K.Sink.taken c.make_to.new.out))
    (same_text output.output c.hand_over.new.sender.plan p c.hand_over.new.sender.frames c.args.run_ticks (with_samples σ due.carrier more) c.hand_over.new.sender.tick due.tick c.next.new.self.tick
    (over.plan ∙ c.requires.plan) (over.frames ∙ c.requires.run) (over.tick ∙ c.requires.tick))
    (after (with_samples σ due.carrier more) (sends_on output.sender p c.requires.plan due.carrier c.requires.carrier to σ sends.good sends.stands more c.hand_over.new.sender output.output output.rd over (c.hand_over.ensures.stands σ sends.stands) sends)))
    c.make_to.ensures.puts

pub returns-clause-fails : goal.returns-clause-fails
returns-clause-fails g c =
    let p = c.args.checked.now in
    let due = c.args.due.now in
    let output = c.args.output.now in
    let more = take due.count due.samples in
    let to = subst (λ n. HandedTo p output.sender.handed n due.carrier) (sym c.requires.tick) c.requires.handed in
    let over = c.hand_over.ensures.ok in
    map_err c.make_to.result
    (λ after σ sends.
    subst (λ text. BreaksOff text c.args.text.now (g.K.Sink.taken c.args.out.now) (g.K.Sink.taken c.make_to.new.out))
    (same_text output.output c.hand_over.new.sender.plan p c.hand_over.new.sender.frames c.args.run_ticks (with_samples σ due.carrier more) c.hand_over.new.sender.tick due.tick c.next.new.self.tick
    (over.plan ∙ c.requires.plan) (over.frames ∙ c.requires.run) (over.tick ∙ c.requires.tick))
    (after (with_samples σ due.carrier more) (sends_on output.sender p c.requires.plan due.carrier c.requires.carrier to σ sends.good sends.stands more c.hand_over.new.sender output.output output.rd over (c.hand_over.ensures.stands σ sends.stands) sends)))
    c.make_to.ensures.fails
