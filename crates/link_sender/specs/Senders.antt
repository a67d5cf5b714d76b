-- What a sender keeps of the stream that was handed in. This is the project's own.
use Rattle.std.specs.Prelude.{ℕ, ◌≡◌, ◌+◌, ◌-◌, ◌*◌, ◌/◌, ◌%◌, ◌^◌, ◌<◌, ◌≤◌, nat_lt, List, length, drop, replicate, pos, slice_get, slice_index, slice_set, Some, if◌then◌else◌}
use Rattle.std.specs.List.{HoldsAt}
use Rattle.carrier_plan.specs.declared.plan.Carrier.{Carrier}
use Rattle.carrier_plan.specs.declared.plan.Flow.{Flow}
use Rattle.carrier_plan.specs.declared.plan.Mode.TheVariants.{Tunnel}
use Rattle.carrier_plan.specs.declared.plan.Plan.{Plan}
use Rattle.control_words.specs.Announcement.{IsWithinTable}
use Rattle.control_words.specs.declared.announce.Announce.{Announce}
use Rattle.ethernet_channel.specs.Codes.{idle}
use Rattle.ethernet_channel.specs.FastStream as fast
use Rattle.hdlc_channel.specs.SlowStream as slow
use Rattle.hdlc_channel.specs.SlowText.{flag}
use Rattle.line_code.specs.Line.{characters_from, disparity_after_all}
use Rattle.line_code.specs.declared.characters.Rd.{Rd}
use Rattle.line_code.specs.declared.characters.Rd.TheVariants.{Minus}
use Rattle.link_base.specs.Bits.{bit_of}
use Rattle.link_base.specs.Window.{last_frame}
use Rattle.link_sender_blocks.specs.Containers.{IsFirstOutside, mapping_of}
use Rattle.link_sender_blocks.specs.InHand.{SamplesView}
use Rattle.plan_checker.specs.Packets.{run_packets, sequence_of}
use Rattle.plan_checker.specs.Rules.{IsGood}
use Rattle.plan_checker.specs.Run.{samples_before}
use Rattle.plan_checker.specs.WordSize.{word_size}
use Rattle.roe_header.specs.Layout.{four_octets}
use Rattle.sample_bits.specs.declared.iq.RawIq.{RawIq}
use Rattle.link_sender.specs.Channels.{fast_left, slow_left}
use Rattle.link_sender.specs.Containers.{IsFree}
use Rattle.link_sender.specs.Frames.{IsFrame}
use Rattle.link_sender.specs.Managed.{fast_in_word, octets_below, slow_in_word}
use Rattle.link_sender.specs.Packets.{CarriesFrame}
use Rattle.link_sender.specs.Rings.{AreRings, order_of, part_of, slot_of}
use Rattle.link_sender.specs.Stream.{Stream, sample_at, samples_of}
use Rattle.link_sender.specs.declared.packet_ring.PacketRing.{PacketRing}
use Rattle.link_sender.specs.declared.range.Range.{Range}

pub record SenderView : Type 0 where
  pub plan : Plan
  -- the ticks of the run
  pub frames : ℕ
  -- what the control words announce
  pub announcement : Announce
  -- the next tick
  pub tick : ℕ
  -- how many samples of each carrier were handed in
  pub handed : List ℕ
  -- the samples of each carrier that are in hand
  pub carriers : List SamplesView
  -- what is not yet written of the management channels
  pub slow : slow.Channel
  pub fast : fast.Channel
  -- the frame that was made last, and the octets of which the next one is made
  pub frame : List ℕ
  pub octets : List ℕ
  -- the disparity after it
  pub rd : Rd
  -- the packets of each flow
  pub rings : List PacketRing

-- the first sample of the block that is handed in at tick t
abbrev pub block_start : Carrier → ℕ → ℕ
block_start carrier t = t / carrier.k * carrier.s

-- what is in hand of a carrier at tick t, after so many of its samples were handed in
pub record KeepsSamples (t handed : ℕ) (carrier : Carrier) (h : SamplesView) : Type 0 where
  pub mapping : h.mapping ≡ mapping_of carrier
  pub phase : h.phase ≡ t % carrier.k
  pub taken : length h.taken ≡ handed - block_start carrier t
  pub few : length h.taken ≤ carrier.s
  pub sent : length h.sent ≡ carrier.s

-- what holds of every sender
pub record IsSender (s : SenderView) : Type 0 where
  pub good : IsGood s.plan
  pub few : s.frames ≤ 2 ^ 40
  pub present : s.tick ≤ 2 ^ 41
  pub announced : IsWithinTable (word_size s.plan.option) s.announcement
  pub as_many_numbers : length s.handed ≡ length s.plan.carriers
  pub as_many_carriers : length s.carriers ≡ length s.plan.carriers
  pub carriers : (c : ℕ) (carrier : Carrier) → slice_get s.plan.carriers c ≡ Some carrier → HoldsAt (KeepsSamples s.tick (slice_index s.handed c) carrier) s.carriers c
  pub octets : length s.octets ≡ 16 * word_size s.plan.option
  pub free : (x : ℕ) → IsFree s.plan x → bit_of (drop (word_size s.plan.option) s.octets) x ≡ 0
  pub rings : AreRings s.plan s.rings

abbrev pub zero_sample : RawIq
zero_sample = record { i = pos 0; q = pos 0 }

-- sample r of the block that the frame of tick t carries: in the frames of the first block there is silence
abbrev pub sent_sample : Stream → ℕ → Carrier → (t r : ℕ) → RawIq
sent_sample σ c carrier t r = if nat_lt t carrier.k then zero_sample else sample_at σ c ((t / carrier.k - 1) * carrier.s + r)

-- what is in hand of carrier c at tick t is of the stream
pub record StandsForSamples (σ : Stream) (t c : ℕ) (carrier : Carrier) (h : SamplesView) : Type 0 where
  pub taken : (r : ℕ) → r < length h.taken → HoldsAt (λ v. v ≡ sample_at σ c (block_start carrier t + r)) h.taken r
  pub sent : (r : ℕ) → r < carrier.s → HoldsAt (λ v. v ≡ sent_sample σ c carrier t r) h.sent r

-- The packets of the flow that are begun before tick t, in slots that no later one was begun in, carry its frames of the stream.
pub record StandsForPackets (p : Plan) (σ : Stream) (t : ℕ) (f : Flow) (ring : PacketRing) : Type 0 where
  pub order : (i : ℕ) → i * f.frames < t → t ≤ (i + ring.count) * f.frames → order_of (slot_of ring i) ≡ four_octets (sequence_of f i)
  pub parts : (i k : ℕ) → k < f.frames → i * f.frames + k < t → t ≤ (i + ring.count) * f.frames → CarriesFrame p σ f (i * f.frames + k) (part_of p f k (slot_of ring i))

-- The frames that were made are those of the stream, the last one is kept, and its disparity.
pub record StandsForFrames (p : Plan) (σ : Stream) (t : ℕ) (frame : List ℕ) (rd : Rd) : Type 0 where
  pub made : List (List ℕ)
  pub count : length made ≡ t
  pub are_frames : (n : ℕ) → n < t → HoldsAt (IsFrame p σ n) made n
  pub disparity : p.mode ≡ Tunnel → rd ≡ disparity_after_all Minus (characters_from 0 made)
  pub none : t ≡ 0 → frame ≡ replicate (16 * word_size p.option) 0
  pub last : (n : ℕ) → n + 1 ≡ t → IsFrame p σ n frame

-- The sender was handed this stream: these samples, and these frames of the management channels.
pub record StandsFor (s : SenderView) (σ : Stream) : Type 0 where
  pub announcement : σ.announcement ≡ s.announcement
  pub as_many : length σ.samples ≡ length s.plan.carriers
  pub handed : (c : ℕ) → c < length s.plan.carriers → length (samples_of σ c) ≡ slice_index s.handed c
  pub samples : (c : ℕ) (carrier : Carrier) → slice_get s.plan.carriers c ≡ Some carrier → HoldsAt (StandsForSamples σ s.tick c carrier) s.carriers c
  pub slow : s.slow ≡ slow_left (octets_below (slow_in_word (word_size s.plan.option) s.announcement) s.tick) (record { rest = flag; queue = σ.slow })
  pub fast : s.fast ≡ fast_left (octets_below (fast_in_word (word_size s.plan.option) s.announcement) s.tick) (record { rest = idle; queue = σ.fast })
  pub frames : StandsForFrames s.plan σ s.tick s.frame s.rd
  pub packets : (i : ℕ) (f : Flow) → slice_get s.plan.flows i ≡ Some f → HoldsAt (StandsForPackets s.plan σ s.tick f) s.rings i

-- packet i of the run is one whose window opens at the tick before t
pub record OpensBefore (p : Plan) (h : ℕ) (f : Flow) (t i : ℕ) : Type 0 where
  pub in_run : i < run_packets p f h
  pub opens : last_frame f.frames i + f.lmin + 1 ≡ t

-- The run stays the same, and its tick and the samples that were handed in.
pub record KeepsRun (old new : SenderView) : Type 0 where
  pub plan : new.plan ≡ old.plan
  pub frames : new.frames ≡ old.frames
  pub announcement : new.announcement ≡ old.announcement
  pub tick : new.tick ≡ old.tick
  pub handed : new.handed ≡ old.handed

-- The samples of carrier c that are due at the tick were handed in.
pub record TakesOn (old new : SenderView) (c : ℕ) : Type 0 where
  pub plan : new.plan ≡ old.plan
  pub frames : new.frames ≡ old.frames
  pub announcement : new.announcement ≡ old.announcement
  pub tick : new.tick ≡ old.tick
  pub handed : new.handed ≡ slice_set old.handed c (samples_before old.plan c (old.tick + 1))

-- The first of the samples that does not have m bits is named, where the first of them has this number.
pub record NamesFirst (m c first : ℕ) (samples : List RawIq) (range : Range) : Type 0 where
  pub place : ℕ
  pub outside : IsFirstOutside m samples place
  pub carrier : range.carrier ≡ c
  pub number : range.number ≡ first + place
  pub value : HoldsAt (λ sample. range.value ≡ sample) samples place
