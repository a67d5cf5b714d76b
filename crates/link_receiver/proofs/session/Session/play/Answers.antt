use Rattle.std.proofs.Common.{◌≡◌, ◌+◌, ◌-◌, ◌<◌, ◌≤◌, false, ◌++◌, length, map, take, drop, refl, sym, ap, ◌∙◌, subst, arith}
use Rattle.std.proofs.lemmas.List.{length-map}
use Rattle.plan_checker.specs.Run.{ticks_of_run}
use Rattle.link_receiver.specs.Flows.{AreInTime, advanced_flow}
use Rattle.link_receiver.specs.Playing.{HavePlayed, IsControlInHand, KeepCarriers, KeepFlows}
use Rattle.link_receiver.specs.Sessions.{SessionView, StandsFor}
use Rattle.link_receiver.proofs.Begun.{few_octets}
use Rattle.link_receiver.proofs.Items.{items-written}
use Rattle.link_receiver.proofs.Ticks.{Ticks, in_time, keep_carriers, keep_flows, same-length, session-ticked, stands-ticked, ticks-small}
use Rattle.link_receiver.proofs.session.Session.play.Goals as goal

pub play_tick-requires : goal.play_tick-requires
play_tick-requires g c =
    let s : SessionView = record {
      plan = c.self.inside.checked;
      frames = c.self.inside.frames;
      tick = c.self.inside.present;
      flows = c.self.inside.flows.items;
      carriers = c.self.inside.carriers.items;
      listed = c.self.inside.listed;
      entries = c.self.inside.entries.items;
      control = c.self.inside.control;
    } in
    let is = c.self.invariant.0 in
    let words = c.self.invariant.1 in (
      omega arith,
      (
        few_octets s.plan _ is.good words,
        (
          is.good,
          (
            words,
            (
              subst (KeepCarriers s.plan s.frames s.tick) (sym c.as_mut_slice.ensures.value) (keep_carriers s is),
              (subst (KeepFlows s.plan s.frames s.tick) (sym c.as_slice.ensures.value) (keep_flows s is), is.few),
            ),
          ),
        ),
      ),
    )

pub advance_all-requires : goal.advance_all-requires
advance_all-requires g c =
    let s : SessionView = record {
      plan = c.self.inside.checked;
      frames = c.self.inside.frames;
      tick = c.self.inside.present;
      flows = c.self.inside.flows.items;
      carriers = c.self.inside.carriers.items;
      listed = c.self.inside.listed;
      entries = c.self.inside.entries.items;
      control = c.self.inside.control;
    } in
    subst AreInTime (sym c.as_mut_slice-2.ensures.value) (in_time s c.self.invariant.0)

pub overflow_add-self : goal.overflow_add-self
overflow_add-self g c =
    let s : SessionView = record {
      plan = c.self.inside.checked;
      frames = c.self.inside.frames;
      tick = c.self.inside.present;
      flows = c.self.inside.flows.items;
      carriers = c.self.inside.carriers.items;
      listed = c.self.inside.listed;
      entries = c.self.inside.entries.items;
      control = c.self.inside.control;
    } in
    let small = ticks-small s c.self.invariant.0 in
    record { fits = omega (arith, small) }

pub invariant_of-self : goal.invariant_of-self
invariant_of-self g c =
    let s : SessionView = record {
      plan = c.self.inside.checked;
      frames = c.self.inside.frames;
      tick = c.self.inside.present;
      flows = c.self.inside.flows.items;
      carriers = c.self.inside.carriers.items;
      listed = c.self.inside.listed;
      entries = c.self.inside.entries.items;
      control = c.self.inside.control;
    } in
    let s' : SessionView = record {
      plan = c.self.inside.checked;
      frames = c.self.inside.frames;
      tick = c.self.inside.present + 1;
      flows = take c.self.inside.flows.len (c.advance_all.new.flows ++ drop (length c.advance_all.new.flows) c.self.inside.flows.items);
      carriers = take c.self.inside.carriers.len (c.play_tick.new.carriers ++ drop (length c.play_tick.new.carriers) c.self.inside.carriers.items);
      listed = false;
      entries = c.self.inside.entries.items;
      control = c.play_tick.new.control;
    } in
    let is = c.self.invariant.0 in
    let advanced : c.advance_all.new.flows ≡ map advanced_flow c.self.inside.flows.items = c.advance_all.ensures ∙ ap (map advanced_flow) c.as_mut_slice-2.ensures.value in
    let flows : s'.flows ≡ c.advance_all.new.flows = items-written c.advance_all.new.flows c.self.inside.flows.items c.self.inside.flows.len
    (ap length advanced ∙ length-map c.self.inside.flows.items advanced_flow) (omega (arith, c.self.inside.flows.ok.0)) in
    let early : s.tick < s.plan.playout → c.play_tick.new.carriers ≡ s.carriers = λ before. c.play_tick.ensures.early before ∙ c.as_mut_slice.ensures.value in
    let played : s.plan.playout ≤ s.tick → HavePlayed s.plan s.flows (s.tick - s.plan.playout) s.frames s.carriers c.play_tick.new.carriers
    = λ after. subst (λ xs. HavePlayed s.plan s.flows (s.tick - s.plan.playout) s.frames xs c.play_tick.new.carriers) c.as_mut_slice.ensures.value
    (subst (λ xs. HavePlayed s.plan xs (s.tick - s.plan.playout) s.frames c.as_mut_slice.result.now c.play_tick.new.carriers) c.as_slice.ensures.value (c.play_tick.ensures.played after)) in
    let long = same-length s.plan s.frames s.tick s.flows s.carriers c.play_tick.new.carriers is.good (keep_carriers s is) early played in
    let carriers : s'.carriers ≡ c.play_tick.new.carriers = items-written c.play_tick.new.carriers c.self.inside.carriers.items c.self.inside.carriers.len long (omega (arith, c.self.inside.carriers.ok.0)) in
    let does : Ticks s s' g.row.Y = record {
      plan = refl;
      frames = refl;
      tick = refl;
      flows = flows ∙ advanced;
      early = λ before. carriers ∙ early before;
      played = λ after. subst (λ xs. HavePlayed s.plan s.flows (s.tick - s.plan.playout) s.frames s.carriers xs) (sym carriers) (played after);
      control = λ after. subst (λ xs. IsControlInHand s.plan xs g.row.Y (s.tick - s.plan.playout) c.play_tick.new.control) c.as_slice.ensures.value (c.play_tick.ensures.control after);
      unlisted = refl;
    } in
    let now : s.tick < ticks_of_run s.plan s.frames = subst (λ (v : SessionView). v.tick < ticks_of_run v.plan v.frames) (sym c.self.view_is) c.requires in
    (session-ticked s s' g.row.Y is now does, c.self.invariant.1, c.self.invariant.2, c.play_tick.ensures.octets c.self.invariant.3)

pub returns-clause-stands : goal.returns-clause-stands
returns-clause-stands g c records stands =
    let s : SessionView = record {
      plan = c.self.inside.checked;
      frames = c.self.inside.frames;
      tick = c.self.inside.present;
      flows = c.self.inside.flows.items;
      carriers = c.self.inside.carriers.items;
      listed = c.self.inside.listed;
      entries = c.self.inside.entries.items;
      control = c.self.inside.control;
    } in
    let s' : SessionView = record {
      plan = c.self.inside.checked;
      frames = c.self.inside.frames;
      tick = c.self.inside.present + 1;
      flows = take c.self.inside.flows.len (c.advance_all.new.flows ++ drop (length c.advance_all.new.flows) c.self.inside.flows.items);
      carriers = take c.self.inside.carriers.len (c.play_tick.new.carriers ++ drop (length c.play_tick.new.carriers) c.self.inside.carriers.items);
      listed = false;
      entries = c.self.inside.entries.items;
      control = c.play_tick.new.control;
    } in
    let is = c.self.invariant.0 in
    let advanced : c.advance_all.new.flows ≡ map advanced_flow c.self.inside.flows.items = c.advance_all.ensures ∙ ap (map advanced_flow) c.as_mut_slice-2.ensures.value in
    let flows : s'.flows ≡ c.advance_all.new.flows = items-written c.advance_all.new.flows c.self.inside.flows.items c.self.inside.flows.len
    (ap length advanced ∙ length-map c.self.inside.flows.items advanced_flow) (omega (arith, c.self.inside.flows.ok.0)) in
    let early : s.tick < s.plan.playout → c.play_tick.new.carriers ≡ s.carriers = λ before. c.play_tick.ensures.early before ∙ c.as_mut_slice.ensures.value in
    let played : s.plan.playout ≤ s.tick → HavePlayed s.plan s.flows (s.tick - s.plan.playout) s.frames s.carriers c.play_tick.new.carriers
    = λ after. subst (λ xs. HavePlayed s.plan s.flows (s.tick - s.plan.playout) s.frames xs c.play_tick.new.carriers) c.as_mut_slice.ensures.value
    (subst (λ xs. HavePlayed s.plan xs (s.tick - s.plan.playout) s.frames c.as_mut_slice.result.now c.play_tick.new.carriers) c.as_slice.ensures.value (c.play_tick.ensures.played after)) in
    let long = same-length s.plan s.frames s.tick s.flows s.carriers c.play_tick.new.carriers is.good (keep_carriers s is) early played in
    let carriers : s'.carriers ≡ c.play_tick.new.carriers = items-written c.play_tick.new.carriers c.self.inside.carriers.items c.self.inside.carriers.len long (omega (arith, c.self.inside.carriers.ok.0)) in
    let does : Ticks s s' g.row.Y = record {
      plan = refl;
      frames = refl;
      tick = refl;
      flows = flows ∙ advanced;
      early = λ before. carriers ∙ early before;
      played = λ after. subst (λ xs. HavePlayed s.plan s.flows (s.tick - s.plan.playout) s.frames s.carriers xs) (sym carriers) (played after);
      control = λ after. subst (λ xs. IsControlInHand s.plan xs g.row.Y (s.tick - s.plan.playout) c.play_tick.new.control) c.as_slice.ensures.value (c.play_tick.ensures.control after);
      unlisted = refl;
    } in
    let now : s.tick < ticks_of_run s.plan s.frames = subst (λ (v : SessionView). v.tick < ticks_of_run v.plan v.frames) (sym c.self.view_is) c.requires in
    stands-ticked s s' g.row.Y is now does c.held_is_received.ensures c.self.invariant.1 records (subst (λ v. StandsFor v records) (sym c.self.view_is) stands)
