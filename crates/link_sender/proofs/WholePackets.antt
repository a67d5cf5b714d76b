-- The octets of a packet are determined.
use Rattle.std.proofs.Common.{◌≡◌, ℕ, zero, suc, ◌+◌, ◌-◌, ◌*◌, ◌<◌, ◌≤◌, max, List, ◌++◌, length, take, drop, replicate, flat_map, Some, slice_get, length-append, take-append-drop, sym, ap, ◌∙◌, arith}
use Rattle.std.specs.List.{range_with_len}
use Rattle.std.proofs.lemmas.List.{drop-drop, length-drop, length-replicate, nil_from_length}
use Rattle.carrier_plan.specs.declared.plan.Flow.{Flow}
use Rattle.carrier_plan.specs.declared.plan.Plan.{Plan}
use Rattle.plan_checker.specs.Flows.{octets_of_frame}
use Rattle.plan_checker.specs.Rules.{IsGood}
use Rattle.roe_header.specs.Layout.{Fields, header, packet_octets}
use Rattle.link_sender.specs.Laws.{PacketsAreDetermined}
use Rattle.link_sender.specs.Packets.{packet_fields}
use Rattle.link_sender.specs.Stream.{Stream}
use Rattle.link_sender.specs.Whole.{packet_of, part_of_frame, payload_of}
use Rattle.link_sender.proofs.GoodFlows.{good_flow}
use Rattle.link_sender.proofs.PacketOctets.{length-header}
use Rattle.link_sender.proofs.WholeParts.{length-part_of_frame, part_is}

-- ---- pieces of one length

-- a list by its pieces
pieces : (g : ℕ → List ℕ) (size a n : ℕ) (xs : List ℕ) → length xs ≡ n * size → ((k : ℕ) → k < n → take size (drop (k * size) xs) ≡ g (a + k)) → xs ≡ flat_map g (range_with_len a n)
pieces g size a zero xs long each = nil_from_length xs (omega (arith, long))
pieces g size a (suc n) xs long each =
    let rest = drop size xs in
    let none : 0 * size ≡ 0 = omega arith in
    let here : a + 0 ≡ a = omega arith in
    let first : take size xs ≡ g a = sym (ap (λ k. take size (drop k xs)) none) ∙ each 0 (omega arith) ∙ ap g here in
    let later : (k : ℕ) → k < n → take size (drop (k * size) rest) ≡ g (a + 1 + k) =
    λ k lt.
    let past : size + k * size ≡ suc k * size = omega arith in
    let there : a + suc k ≡ a + 1 + k = omega arith in
    ap (take size) (drop-drop (k * size) size xs ∙ ap (λ m. drop m xs) past) ∙ each (suc k) (omega arith) ∙ ap g there in
    let others = pieces g size (a + 1) n rest (omega (arith, length-drop size xs, long)) later in
    sym (take-append-drop size xs) ∙ ap (λ piece. piece ++ rest) first ∙ ap (λ more. g a ++ more) others

length-pieces : (g : ℕ → List ℕ) (size : ℕ) → ((i : ℕ) → length (g i) ≡ size) → (a n : ℕ) → length (flat_map g (range_with_len a n)) ≡ n * size
length-pieces g size each a zero = omega arith
length-pieces g size each a (suc n) = length-append (g a) (flat_map g (range_with_len (a + 1) n)) ∙ omega (arith, each a, length-pieces g size each (a + 1) n)

-- ---- the packet

pub PacketsAreDetermined-holds : PacketsAreDetermined
unfolding packet_of payload_of
PacketsAreDetermined-holds p σ f i octets good is =
    let part : ℕ → List ℕ = λ k. part_of_frame p σ f (i * f.frames + k) in
    let payload : is.payload ≡ flat_map part (range_with_len 0 f.frames) =
    pieces part (octets_of_frame p f) 0 f.frames is.payload is.carries.size
    (λ k lt. let here : k ≡ 0 + k = omega arith in part_is p σ f (i * f.frames + k) _ good (is.carries.parts k lt) ∙ ap part here) in
    is.written ∙ ap (λ octets. packet_octets (packet_fields p f i octets)) payload

pub length-payload_of : (p : Plan) (σ : Stream) (f : Flow) (i : ℕ) → length (payload_of p σ f i) ≡ f.frames * octets_of_frame p f
unfolding payload_of
length-payload_of p σ f i = length-pieces (λ k. part_of_frame p σ f (i * f.frames + k)) (octets_of_frame p f) (λ k. length-part_of_frame p σ f (i * f.frames + k)) 0 f.frames

length-octets : (x : Fields) → length x.dst ≡ 6 → length x.src ≡ 6 → length (packet_octets x) ≡ max 60 (22 + length x.payload)
unfolding packet_octets
length-octets x dst src =
    let written = length-append (header x) x.payload in
    let all = length-append (header x ++ x.payload) (replicate (60 - length (header x ++ x.payload)) 0) in
    let rest = length-replicate {A = ℕ} (60 - length (header x ++ x.payload)) 0 in
    omega (arith, written, all, rest, length-header x dst src)

-- how many octets a packet has: 22 and those of its payload, and at least 60
pub record HasLength (p : Plan) (f : Flow) (octets : List ℕ) : Type 0 where
  pub is : length octets ≡ max 60 (22 + f.frames * octets_of_frame p f)
  pub least : 60 ≤ length octets
  pub most : length octets ≤ 1514

pub length-packet_of : (p : Plan) (σ : Stream) (f : Flow) (i place : ℕ) → IsGood p → slice_get p.flows place ≡ Some f → length f.dst ≡ 6 → length f.src ≡ 6 → HasLength p f (packet_of p σ f i)
unfolding packet_of
length-packet_of p σ f i place good read dst src =
    let payload = length-payload_of p σ f i in
    let is : length (packet_octets (packet_fields p f i (payload_of p σ f i))) ≡ max 60 (22 + f.frames * octets_of_frame p f) =
    length-octets (packet_fields p f i (payload_of p σ f i)) dst src ∙ ap (λ n. max 60 (22 + n)) payload in
    let few = (good_flow p place f good read).payload.few_octets in
    record { is = is; least = omega (arith, is); most = omega (arith, is, few) }
