-- The octets of the basic frames and packets of a stream, written out: the only ones that `IsFrame` and `IsPacket` allow (CPRI
-- V7.0, sections 4.2.7.1 to 4.2.7.4). How frames are put into payloads is this project's own.
use Rattle.std.specs.Prelude.{ℕ, ◌+◌, ◌-◌, ◌*◌, ◌==◌, ◌&&◌, Bool, false, List, ◌++◌, length, map, take, replicate, flat_map, Option, Some, None, slice_get}
use Rattle.std.specs.Int.{div_ceil}
use Rattle.std.specs.List.{list_any, range_with_len}
use Rattle.basic_frame.specs.Frames.{iq_bit}
use Rattle.carrier_plan.specs.declared.plan.Carrier.{Carrier}
use Rattle.carrier_plan.specs.declared.plan.Flow.{Flow}
use Rattle.carrier_plan.specs.declared.plan.Mode.{Mode}
use Rattle.carrier_plan.specs.declared.plan.Mode.TheVariants.{Aware, Bytes, Tunnel}
use Rattle.carrier_plan.specs.declared.plan.Plan.{Plan}
use Rattle.control_words.specs.ControlWord.{word}
use Rattle.hdlc_channel.specs.Bits.{low_bits, octets_of}
use Rattle.line_code.specs.Line.{characters_from, disparity_after_all, frame_characters, symbols_of}
use Rattle.line_code.specs.declared.characters.Rd.{Rd}
use Rattle.line_code.specs.declared.characters.Rd.TheVariants.{Minus}
use Rattle.plan_checker.specs.Flows.{control_octets}
use Rattle.plan_checker.specs.Place.{place_of}
use Rattle.plan_checker.specs.WordSize.{iq_bits, word_size}
use Rattle.roe_header.specs.Layout.{packet_octets}
use Rattle.roe_mappers.specs.CarriedBits.{carried_bits}
use Rattle.sample_bits.specs.Samples.{sample_bit}
use Rattle.link_sender.specs.Managed.{managed}
use Rattle.link_sender.specs.Packets.{packet_fields}
use Rattle.link_sender.specs.Stream.{Stream, sample_at}

-- ---- a frame

-- whether a number below n passes
abbrev pub some_below : ℕ → (ℕ → Bool) → Bool
some_below n test = list_any test (range_with_len 0 n)

-- whether bit b of sample j of this carrier, the one in place c, is 1 and stands at IQ bit x of frame n
abbrev pub sample_gives_one : Stream → (n x c : ℕ) → Carrier → (j b : ℕ) → Bool
sample_gives_one σ n x c carrier j b = (place_of carrier j b).frame == n && (place_of carrier j b).bit == x && sample_bit (sample_at σ c j) b == 1

-- Whether a bit of the carrier in place c does. A block is sent after it was handed in, so the samples of frame n are among those of
-- the first n blocks.
abbrev pub carrier_gives_one : Stream → (n x c : ℕ) → Option Carrier → Bool
carrier_gives_one σ n x c None = false
carrier_gives_one σ n x c (Some carrier) = some_below (n * carrier.s) (λ j. some_below (2 * carrier.m) (sample_gives_one σ n x c carrier j))

-- whether IQ bit x of frame n is 1
unfoldable pub is_one : Plan → Stream → (n x : ℕ) → Bool
is_one p σ n x = some_below (length p.carriers) (λ c. carrier_gives_one σ n x c (slice_get p.carriers c))

-- the octets of frame n: its control word, and the octets of its IQ bits
unfoldable pub frame_of : Plan → Stream → ℕ → List ℕ
frame_of p σ n =
    word (word_size p.option) n σ.announcement (managed (word_size p.option) σ n)
    ++ octets_of (map (is_one p σ n) (range_with_len 0 (iq_bits p.option)))

-- ---- a frame on the line

-- the disparity before frame n on the line of all frames of the run, which begins at negative disparity at frame 0
abbrev pub disparity_before : Plan → Stream → ℕ → Rd
disparity_before p σ n = disparity_after_all Minus (characters_from 0 (map (frame_of p σ) (range_with_len 0 n)))

-- the octets of symbols of ten bits without a gap, bit a of a symbol first
abbrev pub packed_symbols : List ℕ → List ℕ
packed_symbols symbols = octets_of (flat_map (low_bits 10) symbols)

-- the octets that have the symbols of frame n on that line
unfoldable pub line_octets : Plan → Stream → ℕ → List ℕ
line_octets p σ n = packed_symbols (symbols_of (disparity_before p σ n) (frame_characters n (frame_of p σ n)))

-- ---- a packet

-- what is 0 after so many bits up to the end of an octet
abbrev pub zeros_after : ℕ → List Bool
zeros_after n = replicate (8 * div_ceil n 8 - n) false

-- the IQ bits of the carriers of a flow in a frame
abbrev pub carried_of : Plan → Flow → List ℕ → List Bool
carried_of p f frame = map (λ x. iq_bit (word_size p.option) frame x == 1) (carried_bits p f)

-- In mode `aware`: the control word, where the flow has control, then those bits without a gap, and 0 to the end of the last octet.
abbrev pub aware_octets : Plan → Flow → List ℕ → List ℕ
aware_octets p f frame = take (control_octets p f) frame ++ octets_of (carried_of p f frame ++ zeros_after (length (carried_bits p f)))

-- the octets that carry frame n in a packet of the flow, by the payload mode
abbrev pub part_by : Mode → Plan → Stream → Flow → ℕ → List ℕ
part_by Tunnel p σ f n = line_octets p σ n
part_by Bytes p σ f n = frame_of p σ n
part_by Aware p σ f n = aware_octets p f (frame_of p σ n)

unfoldable pub part_of_frame : Plan → Stream → Flow → ℕ → List ℕ
part_of_frame p σ f n = part_by p.mode p σ f n

-- the payload of packet i of the flow: its frames, one after another
unfoldable pub payload_of : Plan → Stream → Flow → ℕ → List ℕ
payload_of p σ f i = flat_map (λ k. part_of_frame p σ f (i * f.frames + k)) (range_with_len 0 f.frames)

-- the octets of packet i of the flow
unfoldable pub packet_of : Plan → Stream → Flow → ℕ → List ℕ
packet_of p σ f i = packet_octets (packet_fields p f i (payload_of p σ f i))
