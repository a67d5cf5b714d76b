-- A sender after a tick more.
use Rattle.std.proofs.Common.{◌≡◌, ℕ, ◌+◌, ◌%◌, ◌^◌, ◌<◌, ◌≤◌, List, All, length, get_or, map, take, drop, slice_get, slice_index, Some, refl, sym, ap, ◌∙◌, subst, arith}
use Rattle.std.proofs.lemmas.List.{get_or-map, get_or-take, length-map}
use Rattle.std.proofs.lemmas.List.FromFn.{get_or-map-range_with_len}
use Rattle.std.proofs.lemmas.Option.{slice_get-get_or, slice_get_within}
use Rattle.carrier_plan.specs.declared.plan.Carrier.{Carrier}
use Rattle.carrier_plan.specs.declared.plan.Plan.{Plan}
use Rattle.control_words.specs.ControlWord.{octet_of, word}
use Rattle.control_words.specs.declared.announce.Announce.{Announce}
use Rattle.ethernet_channel.specs.Codes.{idle}
use Rattle.ethernet_channel.specs.FastStream as fast
use Rattle.hdlc_channel.specs.SlowStream as slow
use Rattle.hdlc_channel.specs.SlowText.{flag}
use Rattle.hyperframe.specs.Numbering.{frame_bfn, frame_x, frame_z}
use Rattle.line_code.specs.declared.characters.Rd.{Rd}
use Rattle.link_sender_blocks.specs.InHand.{SamplesView, after_frame}
use Rattle.plan_checker.specs.WordSize.{word_size}
use Rattle.roe_mappers.specs.Parts.{disparity_after_frame}
use Rattle.sample_bits.proofs.OctetLemmas.{bit_of-drop}
use Rattle.link_sender.specs.Channels.{fast_left, managed_next, slow_left}
use Rattle.link_sender.specs.Containers.{AreMapped, MakesFrame}
use Rattle.link_sender.specs.Frames.{IsFrame}
use Rattle.link_sender.specs.Managed.{fast_in_word, managed, octets_below, slow_in_word}
use Rattle.link_sender.specs.Rings.{AreRings, PutsParts}
use Rattle.link_sender.specs.Senders.{IsSender, KeepsSamples, SenderView, StandsFor, StandsForSamples}
use Rattle.link_sender.specs.Stream.{Stream}
use Rattle.link_sender.specs.declared.packet_ring.PacketRing.{PacketRing}
use Rattle.link_sender.proofs.ChannelSteps.{fast_left-add, slow_left-add}
use Rattle.link_sender.proofs.FrameLists.{carries_part, frames_more}
use Rattle.link_sender.proofs.FrameSteps.{carried_is_one, one_is_carried}
use Rattle.link_sender.proofs.GoodCarriers.{good_carrier}
use Rattle.link_sender.proofs.GoodFlows.{good_flow}
use Rattle.link_sender.proofs.ManagedSteps.{managed_is, octets_below-more}
use Rattle.link_sender.proofs.PacketSteps.{packets_more}
use Rattle.link_sender.proofs.SampleSteps.{keeps_after, stands_after}

pub mapped : (s : SenderView) → IsSender s → AreMapped s.plan s.carriers
mapped s is = record { as_many = is.as_many_carriers; each = λ c carrier read d. (is.carriers c carrier read d).mapping }

-- what the calls of a tick gave
pub record Ticked (Y : ℕ) (s : SenderView) (managed_octets first octets : List ℕ) (slow_channel : slow.Channel) (fast_channel : fast.Channel) (rd : Rd) (rings : List PacketRing) : Type 0 where
  pub given : managed_octets ≡ managed_next Y s.announcement (frame_x s.tick) s.slow s.fast
  pub slow_is : slow_channel ≡ slow_left (slow_in_word Y s.announcement (frame_x s.tick)) s.slow
  pub fast_is : fast_channel ≡ fast_left (fast_in_word Y s.announcement (frame_x s.tick)) s.fast
  pub word_is : first ≡ word Y s.tick s.announcement managed_octets
  pub makes : MakesFrame s.plan first s.carriers s.octets octets
  pub small : All (λ octet. octet < 256) octets
  pub are_rings : AreRings s.plan rings
  pub parts : PutsParts s.plan s.tick s.rd octets s.rings rings
  pub disparity : rd ≡ disparity_after_frame s.plan.mode s.tick s.rd octets

abbrev pub after_tick : SenderView → List ℕ → slow.Channel → fast.Channel → Rd → List PacketRing → SenderView
after_tick s octets slow_channel fast_channel rd rings = record {
  plan = s.plan;
  frames = s.frames;
  announcement = s.announcement;
  tick = s.tick + 1;
  handed = s.handed;
  carriers = map after_frame s.carriers;
  slow = slow_channel;
  fast = fast_channel;
  frame = octets;
  octets = octets;
  rd = rd;
  rings = rings;
}

module _ (s : SenderView) (is : IsSender s) (managed_octets first octets : List ℕ) (slow_channel : slow.Channel) (fast_channel : fast.Channel) (rd : Rd) (rings : List PacketRing)
    (ticked : Ticked (word_size s.plan.option) s managed_octets first octets slow_channel fast_channel rd rings) (d : SamplesView) where
  abbrev p : Plan
  p = s.plan

  abbrev Y : ℕ
  Y = word_size p.option

  abbrev t : ℕ
  t = s.tick

  -- a carrier that has sent a frame more
  sent_hand : (c : ℕ) (carrier : Carrier) → slice_get p.carriers c ≡ Some carrier → (e : SamplesView) → get_or (map after_frame s.carriers) c e ≡ after_frame (get_or s.carriers c d)
  sent_hand c carrier read e = let inside = slice_get_within p.carriers c carrier read in get_or-map after_frame s.carriers c d e (omega (arith, inside, is.as_many_carriers))

  pub is_after : t < 2 ^ 41 → IsSender (after_tick s octets slow_channel fast_channel rd rings)
  is_after early = record {
    good = is.good;
    few = is.few;
    present = omega arith;
    announced = is.announced;
    as_many_numbers = is.as_many_numbers;
    as_many_carriers = length-map s.carriers after_frame ∙ is.as_many_carriers;
    carriers = λ c carrier read e.
        let one = good_carrier p c carrier is.good read in
        subst (KeepsSamples (t + 1) (slice_index s.handed c) carrier) (sym (sent_hand c carrier read e))
        (keeps_after t (slice_index s.handed c) carrier (get_or s.carriers c d) one.some_frames (is.carriers c carrier read d));
    octets = ticked.makes.same_length ∙ is.octets;
    free = λ x free. ticked.makes.containers.free x free ∙ is.free x free;
    rings = ticked.are_rings;
  }

  module _ (σ : Stream) (stands : StandsFor s σ) where
    announced : managed_octets ≡ managed Y σ t
    announced =
        let a = stands.announcement in
        ticked.given ∙ ap (λ x. managed_next Y x (frame_x t) s.slow s.fast) (sym a)
        ∙ managed_is Y σ t s.slow s.fast (stands.slow ∙ ap (λ x. slow_left (octets_below (slow_in_word Y x) t) (record { rest = flag; queue = σ.slow })) (sym a))
        (stands.fast ∙ ap (λ x. fast_left (octets_below (fast_in_word Y x) t) (record { rest = idle; queue = σ.fast })) (sym a))

    frame_is : IsFrame p σ t octets
    frame_is =
        let old = drop Y s.octets in
        let new = drop Y octets in
        record {
          size = ticked.makes.same_length ∙ is.octets;
          small = ticked.small;
          control = ticked.makes.control ∙ ticked.word_is ∙ ap (word Y t s.announcement) announced ∙ ap (λ a. word Y t a (managed Y σ t)) (sym stands.announcement);
          bits = λ x within. (
            λ one. one_is_carried p σ t is.good s.carriers (slice_index s.handed) is.carriers stands.samples old new ticked.makes.containers is.free d x (bit_of-drop Y octets x ∙ one),
            λ carries. sym (bit_of-drop Y octets x) ∙ carried_is_one p σ t is.good s.carriers (slice_index s.handed) is.carriers stands.samples old new ticked.makes.containers is.free d x carries,
          );
        }

    pub stands_after_tick : StandsFor (after_tick s octets slow_channel fast_channel rd rings) σ
    stands_after_tick = record {
      announcement = stands.announcement;
      as_many = stands.as_many;
      handed = stands.handed;
      samples = λ c carrier read e.
          let one = good_carrier p c carrier is.good read in
          subst (StandsForSamples σ (t + 1) c carrier) (sym (sent_hand c carrier read e))
          (stands_after t (slice_index s.handed c) carrier (get_or s.carriers c d) one.some_frames (is.carriers c carrier read d) σ c (stands.samples c carrier read d) (stands.handed c one.inside));
      slow =
          let more = slow_in_word Y s.announcement (frame_x t) in
          let before = octets_below (slow_in_word Y s.announcement) t in
          let start : slow.Channel = record { rest = flag; queue = σ.slow } in
          ticked.slow_is ∙ ap (slow_left more) stands.slow ∙ sym (slow_left-add before more start) ∙ ap (λ n. slow_left n start) (sym (octets_below-more (slow_in_word Y s.announcement) t));
      fast =
          let more = fast_in_word Y s.announcement (frame_x t) in
          let before = octets_below (fast_in_word Y s.announcement) t in
          let start : fast.Channel = record { rest = idle; queue = σ.fast } in
          ticked.fast_is ∙ ap (fast_left more) stands.fast ∙ sym (fast_left-add before more start) ∙ ap (λ n. fast_left n start) (sym (octets_below-more (fast_in_word Y s.announcement) t));
      frames = frames_more p σ t s.frame octets s.rd stands.frames frame_is rd ticked.disparity;
      packets = λ i f read e.
          let one = good_flow p i f is.good read in
          packets_more p σ t f s.rd octets (get_or s.rings i e) (get_or rings i e) one.payload.some_frames (is.rings.each i f read e) (ticked.parts.each i f e read) (stands.packets i f read e)
          (λ part here. carries_part p σ t s.frame octets s.rd stands.frames frame_is f part here);
    }

-- the same where the fields are found by equal values
abbrev pub with_parts : SenderView → List SamplesView → slow.Channel → fast.Channel → (frame octets : List ℕ) → Rd → List PacketRing → SenderView
with_parts s carriers slow_channel fast_channel frame octets rd rings = record {
  plan = s.plan;
  frames = s.frames;
  announcement = s.announcement;
  tick = s.tick + 1;
  handed = s.handed;
  carriers = carriers;
  slow = slow_channel;
  fast = fast_channel;
  frame = frame;
  octets = octets;
  rd = rd;
  rings = rings;
}

pub parts_same : (s : SenderView) (hands hands' : List SamplesView) (slow_channel : slow.Channel) (fast_channel : fast.Channel) (frame frame' octets octets' : List ℕ) (rd : Rd) (rings rings' : List PacketRing)
    → hands' ≡ hands → frame' ≡ frame → octets' ≡ octets → rings' ≡ rings
    → with_parts s hands slow_channel fast_channel frame octets rd rings ≡ with_parts s hands' slow_channel fast_channel frame' octets' rd rings'
parts_same s hands hands' slow_channel fast_channel frame frame' octets octets' rd rings rings' h f o r =
    ap (λ x. with_parts s x slow_channel fast_channel frame octets rd rings) (sym h) ∙ ap (λ x. with_parts s hands' slow_channel fast_channel x octets rd rings) (sym f)
    ∙ ap (λ x. with_parts s hands' slow_channel fast_channel frame' x rd rings) (sym o) ∙ ap (λ x. with_parts s hands' slow_channel fast_channel frame' octets' rd x) (sym r)

-- the comma, with which a hyperframe begins
pub comma : (y n : ℕ) (a : Announce) (managed_octets octets : List ℕ) → 1 ≤ y → 1 ≤ length octets → take y octets ≡ word y n a managed_octets → n % 256 ≡ 0 → slice_get octets 0 ≡ Some 188
unfolding octet_of
comma y n a managed_octets octets some long control here =
    let first = octet_of (frame_x n) (frame_z n) (frame_bfn n) a managed_octets in
    let read : get_or octets 0 0 ≡ get_or (take y octets) 0 0 = sym (get_or-take y octets 0 0 some) in
    let value : get_or (word y n a managed_octets) 0 0 ≡ first 0 = get_or-map-range_with_len first 0 y 0 0 0 some refl in
    let is : first 0 ≡ 188 = ap (λ x. octet_of x (frame_z n) (frame_bfn n) a managed_octets 0) here in
    slice_get-get_or octets 0 0 long ∙ ap Some (read ∙ ap (λ xs. get_or xs 0 0) control ∙ value ∙ is)
