use Rattle.std.proofs.Common.{ℕ, ◌<◌, length, get_or, sym, subst, arith}
use Rattle.std.proofs.lemmas.Option.{get_or_from_slice_get, slice_get_within}
use Rattle.carrier_plan.specs.declared.plan.Flow.{Flow}
use Rattle.link_sender.specs.Rings.{IsRing}
use Rattle.link_sender.proofs.Items.{item, item_at}
use Rattle.link_sender.proofs.RingsSteps.{done_more, left_more, rings_more}
use Rattle.link_sender.proofs.packets.put_frame.Goals as goal

pub put-after-requires : goal.put-after-requires
put-after-requires g c =
    let p = c.args.checked.now in
    let i : ℕ = c.loop-f.f in
    let h = c.index-rings-f.result in
    let rings = c.loop-f.invariant.rings in
    let inside : i < length p.flows = omega (arith, rings.as_many, c.loop-f.auto.rings, c.loop-f-test.true) in
    let f = item p.flows i inside in
    let read = item_at p.flows i inside in
    (omega arith, (inside, ((λ d. subst (λ (x : Flow). IsRing p x (get_or c.loop-f.rings i h)) (sym (get_or_from_slice_get p.flows i f d read)) (rings.each i f read h)), (c.requires.word, c.requires.comma))))

pub loop-f-preserved : goal.loop-f-preserved
loop-f-preserved g c =
    let p = c.args.checked.now in
    let i : ℕ = c.loop-f.f in
    let h = c.index-rings-f.result in
    let first = c.args.rings.now in
    let rings = c.loop-f.rings in
    let new = c.put-after.new.self in
    let before = c.loop-f.invariant in
    let inside : i < length rings = omega (arith, c.loop-f.auto.rings, c.loop-f-test.true) in
    record {
      rings = rings_more p c.args.n c.args.rd c.args.frame.now first rings i h new inside before.rings c.put-after.ensures.ring c.put-after.ensures.part before.left before.done;
      done = done_more p c.args.n c.args.rd c.args.frame.now first rings i h new inside before.rings c.put-after.ensures.ring c.put-after.ensures.part before.left before.done;
      left = left_more p c.args.n c.args.rd c.args.frame.now first rings i h new inside before.rings c.put-after.ensures.ring c.put-after.ensures.part before.left before.done;
      after = λ some. c.put-after.ensures.disparity;
    }

pub returns-clause-parts : goal.returns-clause-parts
returns-clause-parts g c = record {
  as_many = c.loop-f.auto.rings;
  each = λ i f d read.
      let inside = slice_get_within c.args.checked.now.flows i f read in
      c.loop-f.invariant.done i f d (omega (arith, inside, c.requires.rings.as_many, c.loop-f-test.false)) read;
}

pub returns-clause-disparity : goal.returns-clause-disparity
returns-clause-disparity g c = c.loop-f.invariant.after (omega (arith, c.requires.some, c.requires.rings.as_many, c.loop-f-test.false))
