-- Bits that are handed in, some behind others.
use Rattle.std.proofs.Common.{◌≡◌, ℕ, ◌+◌, ◌<◌, Bool, false, List, [], ◌∷◌, ◌++◌, length, take, drop, get_or, sym, ◌∙◌, ap, subst, append_assoc, append-nil}
use Rattle.std.proofs.lemmas.List.{take_more, take-append-drop}
use Rattle.std.proofs.lemmas.Grind.{flat_map-append}
use Rattle.hdlc_channel.specs.Bits.{bits_of, octet_bits}
use Rattle.link_base.specs.Sink.{Taken, AppendsFront}
use Rattle.link_text.specs.Gathered.{Gathers}
use Rattle.link_text.proofs.Gathering.{gathers_none, gathers_then, breaks_then, front_of_more}
use Rattle.link_run_management.specs.Events.{bit_lines}
use Rattle.link_run_management.specs.HandsIn.{HandsIn, BreaksAmong}

pub bit_lines-append : (line : ℕ → List Bool → List ℕ) (n : ℕ) (before a b : List Bool) → bit_lines line n before (a ++ b) ≡ bit_lines line n before a ++ bit_lines line n (before ++ a) b
unfolding bit_lines
bit_lines-append line n before [] b = ap (λ bits. bit_lines line n bits b) (sym (append-nil before))
bit_lines-append line n before (bit ∷ a) b =
    ap (λ rest. line n (before ++ bit ∷ []) ++ rest) (bit_lines-append line n (before ++ bit ∷ []) a b)
    ∙ ap (λ bits. line n (before ++ bit ∷ []) ++ (bit_lines line n (before ++ bit ∷ []) a ++ bit_lines line n bits b)) (append_assoc before (bit ∷ []) a)
    ∙ sym (append_assoc (line n (before ++ bit ∷ [])) (bit_lines line n (before ++ bit ∷ []) a) (bit_lines line n (before ++ bit ∷ a) b))

pub hands_none : {C : Type 0} (stands : C → List Bool → Type 0) (line : ℕ → List Bool → List ℕ) (n : ℕ) (c : C) (hand : List ℕ) (sink : Taken)
    → HandsIn stands line n [] c c hand sink hand sink
unfolding bit_lines
hands_none stands line n c hand sink bits s = (subst (λ b. stands c b) (sym (append-nil bits)) s, gathers_none hand sink)

pub hands_then : {C : Type 0} (stands : C → List Bool → Type 0) (line : ℕ → List Bool → List ℕ) (n : ℕ) (a b : List Bool) (c0 c1 c2 : C) (h0 h1 h2 : List ℕ) (s0 s1 s2 : Taken)
    → HandsIn stands line n a c0 c1 h0 s0 h1 s1 → HandsIn stands line n b c1 c2 h1 s1 h2 s2 → HandsIn stands line n (a ++ b) c0 c2 h0 s0 h2 s2
hands_then stands line n a b c0 c1 c2 h0 h1 h2 s0 s1 s2 first second bits s =
    let one = first bits s in
    let two = second (bits ++ a) one.0 in (
      subst (λ all. stands c2 all) (append_assoc bits a b) two.0,
      subst (λ text. Gathers text h0 s0 h2 s2) (sym (bit_lines-append line n bits a b))
          (gathers_then (bit_lines line n bits a) (bit_lines line n (bits ++ a) b) h0 h1 h2 s0 s1 s2 one.1 two.1),
    )

-- a write failed after some bits, among others, before the rest
pub breaks_behind : {C : Type 0} (stands : C → List Bool → Type 0) (line : ℕ → List Bool → List ℕ) (n : ℕ) (a b rest : List Bool) (c0 c1 : C) (h0 h1 : List ℕ) (s0 s1 s2 : Taken)
    → HandsIn stands line n a c0 c1 h0 s0 h1 s1 → BreaksAmong stands line n b c1 h1 s1 s2 → BreaksAmong stands line n (a ++ b ++ rest) c0 h0 s0 s2
breaks_behind stands line n a b rest c0 c1 h0 h1 s0 s1 s2 first breaks bits s =
    let one = first bits s in
    let front : AppendsFront (h0 ++ (bit_lines line n bits a ++ bit_lines line n (bits ++ a) b)) s0 s2 =
    breaks_then (bit_lines line n bits a) (bit_lines line n (bits ++ a) b) h0 h1 s0 s1 s2 one.1 (breaks (bits ++ a) one.0) in
    let joined : AppendsFront (h0 ++ bit_lines line n bits (a ++ b)) s0 s2 =
    subst (λ text. AppendsFront (h0 ++ text) s0 s2) (sym (bit_lines-append line n bits a b)) front in
    let more : AppendsFront ((h0 ++ bit_lines line n bits (a ++ b)) ++ bit_lines line n (bits ++ (a ++ b)) rest) s0 s2 =
    front_of_more (h0 ++ bit_lines line n bits (a ++ b)) (bit_lines line n (bits ++ (a ++ b)) rest) s0 s2 joined in
    subst (λ text. AppendsFront text s0 s2)
    (append_assoc h0 (bit_lines line n bits (a ++ b)) (bit_lines line n (bits ++ (a ++ b)) rest) ∙ ap (λ text. h0 ++ text) (sym (bit_lines-append line n bits (a ++ b) rest))) more

-- ---- in a loop

pub more_bits : (bits : List Bool) (k : ℕ) → k < length bits → take k bits ++ get_or bits k false ∷ [] ≡ take (k + 1) bits
more_bits bits k h = sym (take_more bits k false h)

pub more_octets : (octets : List ℕ) (k : ℕ) → k < length octets → bits_of (take k octets) ++ octet_bits (get_or octets k 0) ≡ bits_of (take (k + 1) octets)
more_octets octets k h =
    ap (λ b. bits_of (take k octets) ++ b) (sym (append-nil (octet_bits (get_or octets k 0))))
    ∙ sym (flat_map-append octet_bits (take k octets) (get_or octets k 0 ∷ []))
    ∙ ap bits_of (sym (take_more octets k 0 h))

pub all_octets : (octets : List ℕ) (k : ℕ) → k < length octets
    → bits_of (take k octets) ++ octet_bits (get_or octets k 0) ++ bits_of (drop (k + 1) octets) ≡ bits_of octets
all_octets octets k h =
    ap (λ front. front ++ bits_of (drop (k + 1) octets)) (more_octets octets k h)
    ∙ sym (flat_map-append octet_bits (take (k + 1) octets) (drop (k + 1) octets))
    ∙ ap bits_of (take-append-drop (k + 1) octets)
