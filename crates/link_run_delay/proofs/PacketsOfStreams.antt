-- The octets of each packet of a stream.
use Rattle.std.proofs.Common.{◌≡◌, ℕ, zero, suc, ◌+◌, ◌-◌, ◌*◌, ◌/◌, ◌%◌, ◌^◌, ◌<◌, ◌≤◌, List, [], ◌∷◌, ◌++◌, length, take, drop, replicate, Contains, lit<, sym, refl, ap, ◌∙◌, subst, arith, length-append}
use Rattle.std.specs.List.{flat_map, range_with_len}
use Rattle.std.proofs.Math.Seq.{drop-append-add, take-append_seam}
use Rattle.std.proofs.lemmas.List.Elements.{All-append, All-cons, All-contains, All-nil, All-replicate}
use Rattle.carrier_plan.specs.declared.plan.Flow.{Flow}
use Rattle.carrier_plan.specs.declared.plan.Mode.{Mode}
use Rattle.carrier_plan.specs.declared.plan.Mode.TheVariants.{Aware, Bytes, Tunnel}
use Rattle.carrier_plan.specs.declared.plan.Plan.{Plan}
use Rattle.line_code.specs.Line.{characters_from, disparity_after_all}
use Rattle.line_code.specs.declared.characters.Rd.TheVariants.{Minus}
use Rattle.link_sender.specs.Packets.{CarriesFrame, IsPayload, packet_fields}
use Rattle.link_sender.specs.Stream.{IsStream, Stream}
use Rattle.plan_checker.specs.Flows.{HasPayload, octets_of_frame}
use Rattle.plan_checker.specs.Packets.{subtype_of}
use Rattle.plan_checker.specs.Rules.{IsGood}
use Rattle.plan_checker.specs.Rules.Rule.{PayloadSize, SequenceNumbers, SharedOut}
use Rattle.plan_checker.specs.Timing.{HasSequenceNumbers}
use Rattle.roe_header.specs.Layout.{Fields, four_octets, header, packet_octets, two_octets}
use Rattle.link_run_delay.specs.Existing.{AreOctets, HasPacket, PacketsExist}
use Rattle.link_run_delay.proofs.FramesOfStreams.{IsFrame-before, frame_of, frames_before, length-frames_before}
use Rattle.link_run_delay.proofs.PartsOfFrames.{SymbolsHaveTenBits, part_of}
use Rattle.link_run_delay.proofs.ReceivedPackets.{at_contained, sequence_of-lt}

-- ---- the payload

-- pieces of one length
length-pieces : (f : ℕ → List ℕ) (size : ℕ) → ((i : ℕ) → length (f i) ≡ size) → (a n : ℕ) → length (flat_map f (range_with_len a n)) ≡ n * size
length-pieces f size each a zero = omega arith
length-pieces f size each a (suc n) =
    let rest = length-pieces f size each (a + 1) n in
    let first = each a in
    length-append (f a) (flat_map f (range_with_len (a + 1) n)) ∙ omega arith

-- a piece stands after the pieces before it
piece_at : (f : ℕ → List ℕ) (size : ℕ) → ((i : ℕ) → length (f i) ≡ size) → (n a k : ℕ) → k < n → take size (drop (k * size) (flat_map f (range_with_len a n))) ≡ f (a + k)
piece_at f size each zero a k lt = absurd (omega arith)
piece_at f size each (suc n) a zero lt =
    let rest = flat_map f (range_with_len (a + 1) n) in
    let none : 0 * size ≡ 0 = omega arith in
    let here : a ≡ a + 0 = omega arith in
    ap (λ k. take size (drop k (f a ++ rest))) none ∙ ap (λ k. take k (f a ++ rest)) (sym (each a)) ∙ take-append_seam (f a) rest ∙ ap f here
piece_at f size each (suc n) a (suc k) lt =
    let rest = flat_map f (range_with_len (a + 1) n) in
    let first = each a in
    let past : suc k * size ≡ length (f a) + k * size = omega arith in
    let here : a + 1 + k ≡ a + suc k = omega arith in
    ap (λ m. take size (drop m (f a ++ rest))) past ∙ ap (take size) (drop-append-add (f a) rest (k * size))
    ∙ piece_at f size each n (a + 1) k (omega arith) ∙ ap f here

pieces_small : (f : ℕ → List ℕ) → ((i : ℕ) → AreOctets (f i)) → (a n : ℕ) → AreOctets (flat_map f (range_with_len a n))
pieces_small f each a zero = All-nil (λ k. k < 256)
pieces_small f each a (suc n) = All-append (λ k. k < 256) (f a) (flat_map f (range_with_len (a + 1) n)) (each a) (pieces_small f each (a + 1) n)

-- ---- the packet

-- the octets of numbers that fit
two_small : (n : ℕ) → n < 65536 → AreOctets (two_octets n)
two_small n low = All-cons (λ k. k < 256) (n / 256) (n % 256 ∷ []) (omega arith) (All-cons (λ k. k < 256) (n % 256) [] (omega arith) (All-nil (λ k. k < 256)))

four_small : (n : ℕ) → n < 2 ^ 32 → AreOctets (four_octets n)
four_small n low =
    let S : ℕ → Type 0 = λ k. k < 256 in
    All-cons S (n / 16777216) (n / 65536 % 256 ∷ n / 256 % 256 ∷ n % 256 ∷ []) (omega arith)
    (All-cons S (n / 65536 % 256) (n / 256 % 256 ∷ n % 256 ∷ []) (omega arith)
    (All-cons S (n / 256 % 256) (n % 256 ∷ []) (omega arith)
    (All-cons S (n % 256) [] (omega arith) (All-nil S))))

packet_small : (x : Fields) → AreOctets x.dst → AreOctets x.src → x.sub < 256 → x.flow < 256 → length x.payload < 65536 → x.seq < 2 ^ 32
    → AreOctets x.payload → AreOctets (packet_octets x)
unfolding packet_octets
packet_small x dst src sub flow size seq payload =
    let S : ℕ → Type 0 = λ k. k < 256 in
    let kind = two_octets 64573 in
    let ids = x.sub ∷ x.flow ∷ [] in
    let count = two_octets (length x.payload) in
    let order = four_octets x.seq in
    let addresses = All-append S x.dst x.src dst src in
    let typed = All-append S (x.dst ++ x.src) kind addresses (two_small 64573 (lit< tt)) in
    let named = All-append S (x.dst ++ x.src ++ kind) ids typed (All-cons S x.sub (x.flow ∷ []) sub (All-cons S x.flow [] flow (All-nil S))) in
    let counted = All-append S (x.dst ++ x.src ++ kind ++ ids) count named (two_small (length x.payload) size) in
    let whole = All-append S (x.dst ++ x.src ++ kind ++ ids ++ count) order counted (four_small x.seq seq) in
    let written = All-append S (header x) x.payload whole payload in
    All-append S (header x ++ x.payload) (replicate (60 - length (header x ++ x.payload)) 0) written
    (All-replicate S (60 - length (header x ++ x.payload)) 0 (lit< tt))

subtype_of-lt : (mode : Mode) → subtype_of mode < 256
subtype_of-lt Tunnel = lit< tt
subtype_of-lt Bytes = lit< tt
subtype_of-lt Aware = lit< tt

module _ (law : SymbolsHaveTenBits) (p : Plan) (h : ℕ) (σ : Stream) (f : Flow) (good : IsGood p) (stream : IsStream p h σ) where
  -- the octets that carry frame n
  carried : (n : ℕ) → (part : List ℕ) × CarriesFrame p σ f n part
  carried n =
      let found = frame_of p h σ good stream n in
      let before = frames_before p h σ good stream n in
      let part = part_of p f n (disparity_after_all Minus (characters_from 0 before)) found.0 found.1.size found.1.small law in (
        part.0,
        record {
          before = before;
          count = length-frames_before p h σ good stream n;
          are_frames = IsFrame-before p h σ good stream n;
          frame = found.0;
          is_frame = found.1;
          is_part = part.1;
        },
      )

  module _ (i : ℕ) where
    -- those of frame k of the packet
    abbrev part : ℕ → List ℕ
    part k = (carried (i * f.frames + k)).0

    abbrev payload : List ℕ
    payload = flat_map part (range_with_len 0 f.frames)

    size_of-part : (k : ℕ) → length (part k) ≡ octets_of_frame p f
    size_of-part k = (carried (i * f.frames + k)).1.is_part.size

    IsPayload-payload : IsPayload p σ f i payload
    IsPayload-payload = record {
      size = length-pieces part (octets_of_frame p f) size_of-part 0 f.frames;
      parts = λ k lt.
          let place : 0 + k ≡ k = omega arith in
          subst (CarriesFrame p σ f (i * f.frames + k)) (sym (piece_at part (octets_of_frame p f) size_of-part f.frames 0 k lt ∙ ap part place)) (carried (i * f.frames + k)).1;
    }

    payload_small : AreOctets payload
    payload_small = pieces_small part (λ k. (carried (i * f.frames + k)).1.is_part.small) 0 f.frames

    packet_of : Contains p.flows f → HasPacket p σ f i
    packet_of listed =
        let bounds = at_contained (HasPayload p) p.flows f (good PayloadSize) listed in
        let numbers = at_contained HasSequenceNumbers p.flows f (good SequenceNumbers) listed in
        let shared = good SharedOut 0 (omega arith) in
        let id = All-contains (λ (g : Flow). g.id ≤ 255) p.flows f shared.small_ids listed in
        record {
          octets = packet_octets (packet_fields p f i payload);
          packet = record { payload = payload; carries = IsPayload-payload; written = refl };
          are_octets = λ dst src.
              packet_small (packet_fields p f i payload) dst src (subtype_of-lt p.mode) (omega arith)
              (omega (arith, IsPayload-payload.size, bounds.few_octets)) (sequence_of-lt f i numbers) payload_small;
        }

pub PacketsExist-holds : SymbolsHaveTenBits → PacketsExist
PacketsExist-holds law p h σ f i good stream listed _ = packet_of law p h σ f good stream i listed
