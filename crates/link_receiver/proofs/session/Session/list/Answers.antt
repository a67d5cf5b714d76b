use Rattle.std.proofs.Common.{◌-◌, ◌<◌, All, length, sym, ap, ◌∙◌, subst, arith}
use Rattle.plan_checker.specs.Rules.Rule.{Counts}
use Rattle.link_receiver.specs.Runs.{CanBeListed, entries_from}
use Rattle.link_receiver.specs.Sessions.{SessionView, StandsFor}
use Rattle.link_receiver.proofs.ListedEntries.{can_be_listed, stands-listed}
use Rattle.link_receiver.proofs.session.Session.list.Goals as goal

pub list_carriers-requires-clause-few : goal.list_carriers-requires-clause-few
list_carriers-requires-clause-few g c =
    let is = c.self.invariant.0 in
    let counts = is.good Counts 0 (omega arith) in
    let few = counts.few_carriers in
    let many = is.as_many_carriers in
    let same = ap length c.as_slice.ensures.value in
    omega (arith, few, many, same)

pub list_carriers-requires-clause-can : goal.list_carriers-requires-clause-can
list_carriers-requires-clause-can g c =
    let s : SessionView = record {
      plan = c.self.inside.checked;
      frames = c.self.inside.frames;
      tick = c.self.inside.present;
      flows = c.self.inside.flows.items;
      carriers = c.self.inside.carriers.items;
      listed = c.self.inside.listed;
      entries = c.self.inside.entries.items;
      control = c.self.inside.control;
    } in
    subst (All CanBeListed) (sym c.as_slice.ensures.value) (can_be_listed s c.self.invariant.0)

pub returns-clause-stands : goal.returns-clause-stands
returns-clause-stands g c records stands =
    let s : SessionView = record {
      plan = c.self.inside.checked;
      frames = c.self.inside.frames;
      tick = c.self.inside.present;
      flows = c.self.inside.flows.items;
      carriers = c.self.inside.carriers.items;
      listed = c.self.inside.listed;
      entries = c.self.inside.entries.items;
      control = c.self.inside.control;
    } in
    let some : 0 < s.tick = subst (λ (v : SessionView). 0 < v.tick) (sym c.self.view_is) c.requires in
    stands-listed s c.list_carriers.new.entries.items records c.self.invariant.0 some (c.list_carriers.ensures.items ∙ ap (entries_from (s.tick - 1) 0) c.as_slice.ensures.value)
    (subst (λ v. StandsFor v records) (sym c.self.view_is) stands)
