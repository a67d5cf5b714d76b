use Rattle.std.proofs.Common.{◌≡◌, ◌++◌, ◌∷◌, [], set, sym, ◌∙◌, subst}
use Rattle.link_receiver.specs.Answers.{answer_by, arrives}
use Rattle.link_receiver.specs.Sessions.{SessionView, StandsFor}
use Rattle.link_receiver.proofs.Steps.{is_unmoved, with_flows, place-small, session-taken, stands-none, stands-place}
use Rattle.link_receiver.proofs.Taking.{Takes, at_tick}
use Rattle.link_receiver.proofs.session.Session.arrive.Goals as goal

pub answer-requires : goal.answer-requires
answer-requires g c =
    let s : SessionView = record {
      plan = c.self.inside.checked;
      frames = c.self.inside.frames;
      tick = c.self.inside.present;
      flows = c.self.inside.flows.items;
      carriers = c.self.inside.carriers.items;
      listed = c.self.inside.listed;
      entries = c.self.inside.entries.items;
      control = c.self.inside.control;
    } in
    place-small s c.self.invariant.0 c.args.octets.now c.in-Ok.arrival.payload.now c.in-Ok.arrival.flow c.in-Ok.arrival.seq c.in-Ok.ensures

pub invariant_of-self : goal.invariant_of-self
invariant_of-self g c =
    let s : SessionView = record {
      plan = c.self.inside.checked;
      frames = c.self.inside.frames;
      tick = c.self.inside.present;
      flows = c.self.inside.flows.items;
      carriers = c.self.inside.carriers.items;
      listed = c.self.inside.listed;
      entries = c.self.inside.entries.items;
      control = c.self.inside.control;
    } in
    let takes : Takes c.index_mut.result.now c.take-put.new.self c.in-Ok.arrival.seq c.in-Ok.arrival.payload.now c.take-put.result
    = record { answered = c.take-put.ensures.answer; held = c.take-put.ensures.held; taken = c.take-put.ensures.taken } in
    (session-taken s c.self.invariant.0 c.args.octets.now c.in-Ok.arrival.payload.now c.in-Ok.arrival.flow c.in-Ok.arrival.seq c.in-Ok.ensures c.index_mut.result.now c.take-put.new.self c.take-put.result (sym c.index_mut.ensures.value) takes, c.self.invariant.1, c.self.invariant.2, c.self.invariant.3)

pub returns-in-Ok-clause-answer : goal.returns-in-Ok-clause-answer
returns-in-Ok-clause-answer g c records stands =
    let s : SessionView = record {
      plan = c.self.inside.checked;
      frames = c.self.inside.frames;
      tick = c.self.inside.present;
      flows = c.self.inside.flows.items;
      carriers = c.self.inside.carriers.items;
      listed = c.self.inside.listed;
      entries = c.self.inside.entries.items;
      control = c.self.inside.control;
    } in
    let takes : Takes c.index_mut.result.now c.take-put.new.self c.in-Ok.arrival.seq c.in-Ok.arrival.payload.now c.take-put.result
    = record { answered = c.take-put.ensures.answer; held = c.take-put.ensures.held; taken = c.take-put.ensures.taken } in
    c.answer.ensures
    ∙ subst (λ (v : SessionView). answer_by c.in-Ok.arrival.flow c.in-Ok.arrival.seq c.take-put.result ≡ arrives v.plan v.frames records v.tick c.args.octets.now) c.self.view_is
    (stands-place s c.self.invariant.0 c.args.octets.now c.in-Ok.arrival.payload.now c.in-Ok.arrival.flow c.in-Ok.arrival.seq c.in-Ok.ensures c.index_mut.result.now c.take-put.new.self c.take-put.result (sym c.index_mut.ensures.value) takes
    c.held_is_received.ensures c.taken_are_counted.ensures records (is_unmoved s.plan s.frames s.tick records c.args.octets.now c.self.invariant.0.good)
    (subst (λ v. StandsFor v records) (sym c.self.view_is) stands)).0

pub returns-in-Ok-clause-stands : goal.returns-in-Ok-clause-stands
returns-in-Ok-clause-stands g c records stands =
    let s : SessionView = record {
      plan = c.self.inside.checked;
      frames = c.self.inside.frames;
      tick = c.self.inside.present;
      flows = c.self.inside.flows.items;
      carriers = c.self.inside.carriers.items;
      listed = c.self.inside.listed;
      entries = c.self.inside.entries.items;
      control = c.self.inside.control;
    } in
    let takes : Takes c.index_mut.result.now c.take-put.new.self c.in-Ok.arrival.seq c.in-Ok.arrival.payload.now c.take-put.result
    = record { answered = c.take-put.ensures.answer; held = c.take-put.ensures.held; taken = c.take-put.ensures.taken } in
    subst (λ (v : SessionView). StandsFor (with_flows s (set s.flows c.in-Ok.arrival.flow c.take-put.new.self)) (records ++ at_tick v.tick c.args.octets.now ∷ [])) c.self.view_is
    (stands-place s c.self.invariant.0 c.args.octets.now c.in-Ok.arrival.payload.now c.in-Ok.arrival.flow c.in-Ok.arrival.seq c.in-Ok.ensures c.index_mut.result.now c.take-put.new.self c.take-put.result (sym c.index_mut.ensures.value) takes
    c.held_is_received.ensures c.taken_are_counted.ensures records (is_unmoved s.plan s.frames s.tick records c.args.octets.now c.self.invariant.0.good)
    (subst (λ v. StandsFor v records) (sym c.self.view_is) stands)).1

pub returns-in-Err-clause-answer : goal.returns-in-Err-clause-answer
returns-in-Err-clause-answer g c records stands =
    let s : SessionView = record {
      plan = c.self.inside.checked;
      frames = c.self.inside.frames;
      tick = c.self.inside.present;
      flows = c.self.inside.flows.items;
      carriers = c.self.inside.carriers.items;
      listed = c.self.inside.listed;
      entries = c.self.inside.entries.items;
      control = c.self.inside.control;
    } in
    subst (λ (v : SessionView). c.in-Err.answer ≡ arrives v.plan v.frames records v.tick c.args.octets.now) c.self.view_is
    (stands-none s c.args.octets.now c.in-Err.answer records c.in-Err.ensures (is_unmoved s.plan s.frames s.tick records c.args.octets.now c.self.invariant.0.good)
    (subst (λ v. StandsFor v records) (sym c.self.view_is) stands)).0

pub returns-in-Err-clause-stands : goal.returns-in-Err-clause-stands
returns-in-Err-clause-stands g c records stands =
    let s : SessionView = record {
      plan = c.self.inside.checked;
      frames = c.self.inside.frames;
      tick = c.self.inside.present;
      flows = c.self.inside.flows.items;
      carriers = c.self.inside.carriers.items;
      listed = c.self.inside.listed;
      entries = c.self.inside.entries.items;
      control = c.self.inside.control;
    } in
    subst (λ (v : SessionView). StandsFor v (records ++ at_tick v.tick c.args.octets.now ∷ [])) c.self.view_is
    (stands-none s c.args.octets.now c.in-Err.answer records c.in-Err.ensures (is_unmoved s.plan s.frames s.tick records c.args.octets.now c.self.invariant.0.good)
    (subst (λ v. StandsFor v records) (sym c.self.view_is) stands)).1
