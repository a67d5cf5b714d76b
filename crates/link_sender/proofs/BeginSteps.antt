-- A sender before the first tick.
use Rattle.std.proofs.Common.{◌≡◌, ℕ, zero, suc, ◌+◌, ◌*◌, ◌/◌, ◌%◌, ◌^◌, ◌≤◌, List, [], ◌∷◌, length, get_or, slice_get, slice_index, map, replicate, drop, Some, refl, sym, ap, ◌∙◌, subst, arith, inl, inr}
use Rattle.std.specs.Int.{bit_at}
use Rattle.std.proofs.Math.ListN.{get_or-eq_default}
use Rattle.std.proofs.Math.Nat.{zero-mod}
use Rattle.std.proofs.lemmas.Bool.{cases_lt}
use Rattle.std.proofs.lemmas.List.{get_or-map, get_or-replicate, length-map, length-replicate}
use Rattle.std.proofs.lemmas.Nat.Bits.{bit_at-zero}
use Rattle.std.proofs.lemmas.Option.{get_or_from_slice_get, slice_get_within}
use Rattle.carrier_plan.specs.declared.plan.Carrier.{Carrier}
use Rattle.carrier_plan.specs.declared.plan.Plan.{Plan}
use Rattle.control_words.specs.Announcement.{IsWithinTable}
use Rattle.control_words.specs.declared.announce.Announce.{Announce}
use Rattle.ethernet_channel.specs.FastStream as fast
use Rattle.hdlc_channel.specs.SlowStream as slow
use Rattle.line_code.specs.Line.{characters_from, disparity_after_all}
use Rattle.line_code.specs.declared.characters.Rd.TheVariants.{Minus}
use Rattle.link_base.specs.Bits.{bit_of}
use Rattle.link_sender_blocks.specs.Containers.{mapping_of}
use Rattle.link_sender_blocks.specs.InHand.{SamplesView, begun}
use Rattle.plan_checker.specs.Rules.{IsGood}
use Rattle.plan_checker.specs.WordSize.{word_size}
use Rattle.sample_bits.specs.declared.iq.RawIq.{RawIq}
use Rattle.sample_bits.proofs.OctetLemmas.{bit_of-drop}
use Rattle.link_sender.specs.HandedIn.{nothing_yet}
use Rattle.link_sender.specs.Rings.{AreRings}
use Rattle.link_sender.specs.Senders.{IsSender, KeepsSamples, SenderView, StandsFor, StandsForSamples, zero_sample}
use Rattle.link_sender.specs.declared.packet_ring.PacketRing.{PacketRing}
use Rattle.link_sender.proofs.ChannelSteps.{fast_left-none, slow_left-none}
use Rattle.link_sender.proofs.GoodCarriers.{good_carrier}
use Rattle.link_sender.proofs.SampleSteps.{sent_early}

-- the view of such a sender
abbrev pub new_sender : (p : Plan) (h : ℕ) (a : Announce) (handed : List ℕ) (carriers : List SamplesView) (slow_one : slow.Channel) (fast_one : fast.Channel) (frame octets : List ℕ) (rings : List PacketRing) → SenderView
new_sender p h a handed carriers slow_one fast_one frame octets rings = record {
  plan = p;
  frames = h;
  announcement = a;
  tick = 0;
  handed = handed;
  carriers = carriers;
  slow = slow_one;
  fast = fast_one;
  frame = frame;
  octets = octets;
  rd = Minus;
  rings = rings;
}

-- what is in hand of each carrier
abbrev pub hands_of : Plan → List SamplesView
hands_of p = map (λ (carrier : Carrier). begun (mapping_of carrier)) p.carriers

hand_at : (p : Plan) (c : ℕ) (carrier : Carrier) (d : SamplesView) → slice_get p.carriers c ≡ Some carrier → get_or (hands_of p) c d ≡ begun (mapping_of carrier)
hand_at p c carrier d read =
    let inside = slice_get_within p.carriers c carrier read in
    get_or-map (λ (x : Carrier). begun (mapping_of x)) p.carriers c carrier d inside
    ∙ ap (λ (x : Carrier). begun (mapping_of x)) (get_or_from_slice_get p.carriers c carrier carrier read)

abbrev no_sample : List RawIq
no_sample = []

zero_at : (n c : ℕ) → get_or (replicate n zero) c zero ≡ zero
zero_at n c = elim (cases_lt c n) [
  | inl low ↦ get_or-replicate n c 0 0 low
  | inr past ↦ get_or-eq_default (replicate n 0) 0 (omega (arith, length-replicate n zero, past))
]

no_frames : Minus ≡ disparity_after_all Minus (characters_from 0 [])
no_frames = refl

none_at : (carriers : List Carrier) (c : ℕ) → get_or (map (λ (x : Carrier). no_sample) carriers) c no_sample ≡ no_sample
none_at [] c = refl
none_at (x ∷ xs) zero = refl
none_at (x ∷ xs) (suc c) = none_at xs c

module _ (p : Plan) (h : ℕ) (a : Announce) (handed : List ℕ) (carriers : List SamplesView) (slow_one : slow.Channel) (fast_one : fast.Channel) (frame octets : List ℕ) (rings : List PacketRing)
    (good : IsGood p)
    (handed_is : handed ≡ replicate (length p.carriers) 0) (carriers_is : carriers ≡ hands_of p) (octets_is : octets ≡ replicate (16 * word_size p.option) 0) (rings_are : AreRings p rings) where
  begun_sender : SenderView
  begun_sender = new_sender p h a handed carriers slow_one fast_one frame octets rings

  none_handed : (c : ℕ) → slice_index handed c ≡ 0
  none_handed c = ap (λ xs. get_or xs c 0) handed_is ∙ zero_at (length p.carriers) c

  begun_hand : (c : ℕ) (carrier : Carrier) (d : SamplesView) → slice_get p.carriers c ≡ Some carrier → get_or carriers c d ≡ begun (mapping_of carrier)
  begun_hand c carrier d read = ap (λ xs. get_or xs c d) carriers_is ∙ hand_at p c carrier d read

  keeps : (c : ℕ) (carrier : Carrier) → slice_get p.carriers c ≡ Some carrier → KeepsSamples 0 (slice_index handed c) carrier (begun (mapping_of carrier))
  keeps c carrier read =
      let some = (good_carrier p c carrier good read).some_frames in
      let none = none_handed c in
      record {
        mapping = refl;
        phase = sym (zero-mod carrier.k);
        taken = omega (arith, none);
        few = omega arith;
        sent = length-replicate carrier.s zero_sample;
      }

  all_zero : (n x : ℕ) → bit_of (drop n octets) x ≡ 0
  all_zero n x =
      bit_of-drop n octets x ∙ ap (λ xs. bit_of xs (8 * n + x)) octets_is
      ∙ ap (λ v. bit_at v ((8 * n + x) % 8)) (zero_at (16 * word_size p.option) ((8 * n + x) / 8)) ∙ bit_at-zero ((8 * n + x) % 8)

  pub is_begun : h ≤ 2 ^ 40 → IsWithinTable (word_size p.option) a → IsSender (new_sender p h a handed carriers slow_one fast_one frame octets rings)
  is_begun few announced = record {
    good = good;
    few = few;
    present = omega arith;
    announced = announced;
    as_many_numbers = ap length handed_is ∙ length-replicate (length p.carriers) 0;
    as_many_carriers = ap length carriers_is ∙ length-map p.carriers (λ (x : Carrier). begun (mapping_of x));
    carriers = λ c carrier read d. subst (KeepsSamples 0 (slice_index handed c) carrier) (sym (begun_hand c carrier d read)) (keeps c carrier read);
    octets = ap length octets_is ∙ length-replicate (16 * word_size p.option) 0;
    free = λ x free. all_zero (word_size p.option) x;
    rings = rings_are;
  }

  silent : (c : ℕ) (carrier : Carrier) → slice_get p.carriers c ≡ Some carrier → StandsForSamples (nothing_yet p a) 0 c carrier (begun (mapping_of carrier))
  silent c carrier read =
      let some = (good_carrier p c carrier good read).some_frames in
      record {
        taken = λ r less. absurd (omega (arith, less));
        sent = λ r low d. get_or-replicate carrier.s r zero_sample d low ∙ sym (sent_early (nothing_yet p a) c carrier 0 r (omega (arith, some)));
      }

  pub stands_begun : slow_one ≡ slow.new_channel → fast_one ≡ fast.new_channel → frame ≡ replicate (16 * word_size p.option) 0
      → StandsFor (new_sender p h a handed carriers slow_one fast_one frame octets rings) (nothing_yet p a)
  stands_begun slow_is fast_is frame_is = record {
    announcement = refl;
    as_many = length-map p.carriers (λ (x : Carrier). no_sample);
    handed = λ c less. ap length (none_at p.carriers c) ∙ sym (none_handed c);
    samples = λ c carrier read d. subst (StandsForSamples (nothing_yet p a) 0 c carrier) (sym (begun_hand c carrier d read)) (silent c carrier read);
    slow = slow_is ∙ slow_left-none slow.new_channel;
    fast = fast_is ∙ fast_left-none fast.new_channel;
    frames = record {
      made = [];
      count = refl;
      are_frames = λ n less. absurd (omega (arith, less));
      disparity = λ tunnel. no_frames;
      none = λ first. frame_is;
      last = λ n next. absurd (omega (arith, next));
    };
    packets = λ i f read d. record {
      order = λ j less fresh. absurd (omega (arith, less));
      parts = λ j k low less fresh. absurd (omega (arith, less));
    };
  }
