use Rattle.std.proofs.Common.{◌≡◌, ◌^◌, ◌<◌, ◌≤◌, List, [], ◌++◌, length, map, take, drop, slice_get, sym, ap, ◌∙◌, subst, arith}
use Rattle.std.proofs.lemmas.List.{length-map}
use Rattle.carrier_plan.specs.declared.plan.Method.TheVariants.{Sample}
use Rattle.carrier_plan.specs.declared.plan.Plan.{Plan}
use Rattle.control_words.specs.ControlWord.{word}
use Rattle.link_base.specs.WordSize.{IsWordSize}
use Rattle.link_sender_blocks.specs.InHand.{SamplesView, after_frame}
use Rattle.plan_checker.specs.Rules.Rule.{Counts}
use Rattle.roe_mappers.specs.Parts.{disparity_after_frame}
use Rattle.link_sender.specs.Containers.{AreMapped, MakesFrame}
use Rattle.link_sender.specs.Rings.{AreRings, PutsParts}
use Rattle.link_sender.specs.Senders.{IsSender, SenderView, StandsFor}
use Rattle.link_sender.specs.declared.packet_ring.PacketRing.{PacketRing}
use Rattle.link_sender.proofs.Items.{items-written}
use Rattle.link_sender.proofs.ManagedWords.{some_octets}
use Rattle.link_sender.proofs.TickSteps.{Ticked, comma, is_after, mapped, parts_same, stands_after_tick}
use Rattle.link_sender.proofs.WordSizes.{good_word_size}
use Rattle.link_sender.proofs.sender.Sender.tick.Goals as goal

pub next-managed-requires-clause-size : goal.next-managed-requires-clause-size
next-managed-requires-clause-size g c =
    let s : SenderView = record {
      plan = c.self.inside.checked;
      frames = c.self.inside.frames;
      announcement = c.self.inside.announce;
      tick = c.self.inside.next;
      handed = c.self.inside.handed.items;
      carriers = c.self.inside.carriers.items;
      slow = c.self.inside.channels.slow;
      fast = c.self.inside.channels.fast;
      frame = c.self.inside.frame;
      octets = c.self.inside.octets.items;
      rd = c.self.inside.rd;
      rings = c.self.inside.rings.items;
    } in
    let is = c.self.invariant.0 in
    let words = c.self.invariant.1 in
    subst IsWordSize (sym words) (good_word_size s.plan is.good)

pub control_word-word-requires-clause-size : goal.control_word-word-requires-clause-size
control_word-word-requires-clause-size g c =
    let s : SenderView = record {
      plan = c.self.inside.checked;
      frames = c.self.inside.frames;
      announcement = c.self.inside.announce;
      tick = c.self.inside.next;
      handed = c.self.inside.handed.items;
      carriers = c.self.inside.carriers.items;
      slow = c.self.inside.channels.slow;
      fast = c.self.inside.channels.fast;
      frame = c.self.inside.frame;
      octets = c.self.inside.octets.items;
      rd = c.self.inside.rd;
      rings = c.self.inside.rings.items;
    } in
    let is = c.self.invariant.0 in
    let words = c.self.invariant.1 in
    subst IsWordSize (sym words) (good_word_size s.plan is.good)

pub control_word-word-requires-clause-managed : goal.control_word-word-requires-clause-managed
control_word-word-requires-clause-managed g c = ap length c.as_slice.ensures.value ∙ c.next-managed.ensures.length

pub make_frame-requires-clause-mapped : goal.make_frame-requires-clause-mapped
make_frame-requires-clause-mapped g c =
    let s : SenderView = record {
      plan = c.self.inside.checked;
      frames = c.self.inside.frames;
      announcement = c.self.inside.announce;
      tick = c.self.inside.next;
      handed = c.self.inside.handed.items;
      carriers = c.self.inside.carriers.items;
      slow = c.self.inside.channels.slow;
      fast = c.self.inside.channels.fast;
      frame = c.self.inside.frame;
      octets = c.self.inside.octets.items;
      rd = c.self.inside.rd;
      rings = c.self.inside.rings.items;
    } in
    let is = c.self.invariant.0 in
    let words = c.self.invariant.1 in
    subst (λ (p : Plan). AreMapped p c.as_mut_slice.result.now) (sym c.plan.ensures.same) (subst (AreMapped s.plan) (sym c.as_mut_slice.ensures.value) (mapped s is))

pub put_frame-self-inside-requires : goal.put_frame-self-inside-requires
put_frame-self-inside-requires g c =
    let s : SenderView = record {
      plan = c.self.inside.checked;
      frames = c.self.inside.frames;
      announcement = c.self.inside.announce;
      tick = c.self.inside.next;
      handed = c.self.inside.handed.items;
      carriers = c.self.inside.carriers.items;
      slow = c.self.inside.channels.slow;
      fast = c.self.inside.channels.fast;
      frame = c.self.inside.frame;
      octets = c.self.inside.octets.items;
      rd = c.self.inside.rd;
      rings = c.self.inside.rings.items;
    } in
    let is = c.self.invariant.0 in
    let words = c.self.invariant.1 in
    let first = c.as_slice-2.result.now in
    let octets = c.make_frame.new.octets in
    let makes : MakesFrame s.plan first s.carriers s.octets octets =
    subst (λ (p : Plan). MakesFrame p first s.carriers s.octets octets) c.plan.ensures.same
    (subst (λ (hands : List SamplesView). MakesFrame c.plan.result.now first hands s.octets octets) c.as_mut_slice.ensures.value
    (subst (λ old. MakesFrame c.plan.result.now first c.as_mut_slice.result.now old octets) c.as_mut_slice-2.ensures.value c.make_frame.ensures.frame)) in
    let word_is : first ≡ word g.row.Y s.tick s.announcement c.next-managed.result.items =
    c.as_slice-2.ensures.value ∙ c.control_word-word.ensures.word ∙ ap (word g.row.Y s.tick s.announcement) c.as_slice.ensures.value in
    let refilled : take c.self.inside.octets.len (octets ++ drop (length octets) c.self.inside.octets.items) ≡ octets =
    items-written octets c.self.inside.octets.items c.self.inside.octets.len makes.same_length (omega (arith, c.self.inside.octets.ok.0)) in
    let frame : c.set_octets.new.self ≡ octets = c.set_octets.ensures ∙ c.as_slice-3.ensures.value ∙ refilled in
    let some : 1 ≤ g.row.Y = some_octets g.row.Y (subst IsWordSize (sym words) (good_word_size s.plan is.good)) in
    let counts = is.good Counts 0 (omega arith) in
    let long : 1 ≤ length octets = omega (arith, makes.same_length, is.octets, words, some) in
    let control : take g.row.Y octets ≡ word g.row.Y s.tick s.announcement c.next-managed.result.items = ap (λ y. take y octets) words ∙ makes.control ∙ word_is in (
      omega arith,
      (
        counts.some_flows,
        (
          subst (AreRings s.plan) (sym c.as_mut_slice-3.ensures.value) is.rings,
          (
            sym words,
            λ tunnel first_frame. ap (λ xs. slice_get xs 0) frame ∙ comma g.row.Y s.tick s.announcement c.next-managed.result.items octets some long control first_frame,
          ),
        ),
      ),
    )

pub invariant_of-self : goal.invariant_of-self
invariant_of-self g c =
    let s : SenderView = record {
      plan = c.self.inside.checked;
      frames = c.self.inside.frames;
      announcement = c.self.inside.announce;
      tick = c.self.inside.next;
      handed = c.self.inside.handed.items;
      carriers = c.self.inside.carriers.items;
      slow = c.self.inside.channels.slow;
      fast = c.self.inside.channels.fast;
      frame = c.self.inside.frame;
      octets = c.self.inside.octets.items;
      rd = c.self.inside.rd;
      rings = c.self.inside.rings.items;
    } in
    let is = c.self.invariant.0 in
    let words = c.self.invariant.1 in
    let first = c.as_slice-2.result.now in
    let octets = c.make_frame.new.octets in
    let makes : MakesFrame s.plan first s.carriers s.octets octets =
    subst (λ (p : Plan). MakesFrame p first s.carriers s.octets octets) c.plan.ensures.same
    (subst (λ (hands : List SamplesView). MakesFrame c.plan.result.now first hands s.octets octets) c.as_mut_slice.ensures.value
    (subst (λ old. MakesFrame c.plan.result.now first c.as_mut_slice.result.now old octets) c.as_mut_slice-2.ensures.value c.make_frame.ensures.frame)) in
    let word_is : first ≡ word g.row.Y s.tick s.announcement c.next-managed.result.items =
    c.as_slice-2.ensures.value ∙ c.control_word-word.ensures.word ∙ ap (word g.row.Y s.tick s.announcement) c.as_slice.ensures.value in
    let refilled : take c.self.inside.octets.len (octets ++ drop (length octets) c.self.inside.octets.items) ≡ octets =
    items-written octets c.self.inside.octets.items c.self.inside.octets.len makes.same_length (omega (arith, c.self.inside.octets.ok.0)) in
    let frame : c.set_octets.new.self ≡ octets = c.set_octets.ensures ∙ c.as_slice-3.ensures.value ∙ refilled in
    let hands : c.make_frame.new.carriers ≡ map after_frame s.carriers = c.make_frame.ensures.next ∙ ap (map after_frame) c.as_mut_slice.ensures.value in
    let parts : PutsParts s.plan s.tick s.rd octets s.rings c.put_frame-self-inside.new.rings =
    subst (λ x. PutsParts s.plan s.tick s.rd x s.rings c.put_frame-self-inside.new.rings) frame
    (subst (λ (old : List PacketRing). PutsParts s.plan s.tick s.rd c.set_octets.new.self old c.put_frame-self-inside.new.rings) c.as_mut_slice-3.ensures.value c.put_frame-self-inside.ensures.parts) in
    let at_words : Ticked g.row.Y s c.next-managed.result.items first octets c.next-managed.new.self.slow c.next-managed.new.self.fast c.put_frame-self-inside.result c.put_frame-self-inside.new.rings = record {
      given = c.next-managed.ensures.octets;
      slow_is = c.next-managed.ensures.slow;
      fast_is = c.next-managed.ensures.fast;
      word_is = word_is;
      makes = makes;
      small = c.make_frame.ensures.small;
      are_rings = c.put_frame-self-inside.ensures.rings;
      parts = parts;
      disparity = c.put_frame-self-inside.ensures.disparity ∙ ap (disparity_after_frame s.plan.mode s.tick s.rd) frame;
    } in
    let ticked = subst (λ y. Ticked y s c.next-managed.result.items first octets c.next-managed.new.self.slow c.next-managed.new.self.fast c.put_frame-self-inside.result c.put_frame-self-inside.new.rings) words at_words in
    let new_hands = items-written c.make_frame.new.carriers c.self.inside.carriers.items c.self.inside.carriers.len (ap length hands ∙ length-map s.carriers after_frame) (omega (arith, c.self.inside.carriers.ok.0)) in
    let new_rings = items-written c.put_frame-self-inside.new.rings c.self.inside.rings.items c.self.inside.rings.len (parts.as_many) (omega (arith, c.self.inside.rings.ok.0)) in
    let same = parts_same s (map after_frame s.carriers) (take c.self.inside.carriers.len (c.make_frame.new.carriers ++ drop (length c.make_frame.new.carriers) c.self.inside.carriers.items))
    c.next-managed.new.self.slow c.next-managed.new.self.fast octets c.set_octets.new.self octets (take c.self.inside.octets.len (octets ++ drop (length octets) c.self.inside.octets.items)) c.put_frame-self-inside.result
    c.put_frame-self-inside.new.rings (take c.self.inside.rings.len (c.put_frame-self-inside.new.rings ++ drop (length c.put_frame-self-inside.new.rings) c.self.inside.rings.items))
    (new_hands ∙ hands) frame refilled new_rings in
    let none : SamplesView = record { mapping = record { method = Sample; s = 0; k = 0; m = 0 }; taken = []; sent = []; phase = 0 } in
    let early : s.tick < 2 ^ 41 = subst (λ (v : SenderView). v.tick < 2 ^ 41) (sym c.self.view_is) c.requires in
    (subst IsSender same (is_after s is c.next-managed.result.items first octets c.next-managed.new.self.slow c.next-managed.new.self.fast c.put_frame-self-inside.result c.put_frame-self-inside.new.rings ticked none early), words)

pub returns-clause-stands : goal.returns-clause-stands
returns-clause-stands g c σ stands =
    let s : SenderView = record {
      plan = c.self.inside.checked;
      frames = c.self.inside.frames;
      announcement = c.self.inside.announce;
      tick = c.self.inside.next;
      handed = c.self.inside.handed.items;
      carriers = c.self.inside.carriers.items;
      slow = c.self.inside.channels.slow;
      fast = c.self.inside.channels.fast;
      frame = c.self.inside.frame;
      octets = c.self.inside.octets.items;
      rd = c.self.inside.rd;
      rings = c.self.inside.rings.items;
    } in
    let is = c.self.invariant.0 in
    let words = c.self.invariant.1 in
    let first = c.as_slice-2.result.now in
    let octets = c.make_frame.new.octets in
    let makes : MakesFrame s.plan first s.carriers s.octets octets =
    subst (λ (p : Plan). MakesFrame p first s.carriers s.octets octets) c.plan.ensures.same
    (subst (λ (hands : List SamplesView). MakesFrame c.plan.result.now first hands s.octets octets) c.as_mut_slice.ensures.value
    (subst (λ old. MakesFrame c.plan.result.now first c.as_mut_slice.result.now old octets) c.as_mut_slice-2.ensures.value c.make_frame.ensures.frame)) in
    let word_is : first ≡ word g.row.Y s.tick s.announcement c.next-managed.result.items =
    c.as_slice-2.ensures.value ∙ c.control_word-word.ensures.word ∙ ap (word g.row.Y s.tick s.announcement) c.as_slice.ensures.value in
    let refilled : take c.self.inside.octets.len (octets ++ drop (length octets) c.self.inside.octets.items) ≡ octets =
    items-written octets c.self.inside.octets.items c.self.inside.octets.len makes.same_length (omega (arith, c.self.inside.octets.ok.0)) in
    let frame : c.set_octets.new.self ≡ octets = c.set_octets.ensures ∙ c.as_slice-3.ensures.value ∙ refilled in
    let hands : c.make_frame.new.carriers ≡ map after_frame s.carriers = c.make_frame.ensures.next ∙ ap (map after_frame) c.as_mut_slice.ensures.value in
    let parts : PutsParts s.plan s.tick s.rd octets s.rings c.put_frame-self-inside.new.rings =
    subst (λ x. PutsParts s.plan s.tick s.rd x s.rings c.put_frame-self-inside.new.rings) frame
    (subst (λ (old : List PacketRing). PutsParts s.plan s.tick s.rd c.set_octets.new.self old c.put_frame-self-inside.new.rings) c.as_mut_slice-3.ensures.value c.put_frame-self-inside.ensures.parts) in
    let at_words : Ticked g.row.Y s c.next-managed.result.items first octets c.next-managed.new.self.slow c.next-managed.new.self.fast c.put_frame-self-inside.result c.put_frame-self-inside.new.rings = record {
      given = c.next-managed.ensures.octets;
      slow_is = c.next-managed.ensures.slow;
      fast_is = c.next-managed.ensures.fast;
      word_is = word_is;
      makes = makes;
      small = c.make_frame.ensures.small;
      are_rings = c.put_frame-self-inside.ensures.rings;
      parts = parts;
      disparity = c.put_frame-self-inside.ensures.disparity ∙ ap (disparity_after_frame s.plan.mode s.tick s.rd) frame;
    } in
    let ticked = subst (λ y. Ticked y s c.next-managed.result.items first octets c.next-managed.new.self.slow c.next-managed.new.self.fast c.put_frame-self-inside.result c.put_frame-self-inside.new.rings) words at_words in
    let new_hands = items-written c.make_frame.new.carriers c.self.inside.carriers.items c.self.inside.carriers.len (ap length hands ∙ length-map s.carriers after_frame) (omega (arith, c.self.inside.carriers.ok.0)) in
    let new_rings = items-written c.put_frame-self-inside.new.rings c.self.inside.rings.items c.self.inside.rings.len (parts.as_many) (omega (arith, c.self.inside.rings.ok.0)) in
    let same = parts_same s (map after_frame s.carriers) (take c.self.inside.carriers.len (c.make_frame.new.carriers ++ drop (length c.make_frame.new.carriers) c.self.inside.carriers.items))
    c.next-managed.new.self.slow c.next-managed.new.self.fast octets c.set_octets.new.self octets (take c.self.inside.octets.len (octets ++ drop (length octets) c.self.inside.octets.items)) c.put_frame-self-inside.result
    c.put_frame-self-inside.new.rings (take c.self.inside.rings.len (c.put_frame-self-inside.new.rings ++ drop (length c.put_frame-self-inside.new.rings) c.self.inside.rings.items))
    (new_hands ∙ hands) frame refilled new_rings in
    let none : SamplesView = record { mapping = record { method = Sample; s = 0; k = 0; m = 0 }; taken = []; sent = []; phase = 0 } in
    subst (λ (v : SenderView). StandsFor v σ) same (stands_after_tick s is c.next-managed.result.items first octets c.next-managed.new.self.slow c.next-managed.new.self.fast c.put_frame-self-inside.result c.put_frame-self-inside.new.rings ticked none σ
    (subst (λ (v : SenderView). StandsFor v σ) (sym c.self.view_is) stands))
