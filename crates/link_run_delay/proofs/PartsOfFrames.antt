-- The octets that carry a frame in a packet of a flow.
use Rattle.std.proofs.Common.{◌≡◌, ℕ, ◌+◌, ◌-◌, ◌*◌, ◌/◌, ◌%◌, ◌<◌, ◌≤◌, cond, ltb, List, [], ◌∷◌, length, take, get_or, All, refl, sym, ap, ◌∙◌, subst, suc, arith, inl, inr}
use Rattle.std.specs.Int.{bit_at, div_ceil}
use Rattle.std.proofs.lemmas.Bool.{cases_lt, cond-false, cond-true, cond_both, le-ltb, lt-ltb}
use Rattle.std.proofs.lemmas.List.{get_or_past, length-map, length-take-le}
use Rattle.std.proofs.lemmas.List.Elements.{All-cons, All-head, All-nil, All-tail, All-take}
use Rattle.std.proofs.lemmas.Nat.Bits.{bit_at-lt, bit_at-zero}
use Rattle.basic_frame.specs.Frames.{iq_bit}
use Rattle.carrier_plan.specs.declared.plan.Flow.{Flow}
use Rattle.carrier_plan.specs.declared.plan.Mode.{Mode}
use Rattle.carrier_plan.specs.declared.plan.Mode.TheVariants.{Aware, Bytes, Tunnel}
use Rattle.carrier_plan.specs.declared.plan.Plan.{Plan}
use Rattle.line_code.proofs.LineLaws.{frame_has_characters, length-symbols_of}
use Rattle.line_code.specs.Code.{IsCharacter, Spells, disparity_after, symbol_of}
use Rattle.line_code.specs.Line.{frame_characters, symbols_of}
use Rattle.line_code.specs.declared.characters.Char.{Char}
use Rattle.line_code.specs.declared.characters.Char.TheVariants.{Octet}
use Rattle.line_code.specs.declared.characters.Rd.{Rd}
use Rattle.link_base.specs.Bits.{bit_of}
use Rattle.plan_checker.specs.Flows.{bits_of_carriers, control_octets, octets_by}
use Rattle.plan_checker.specs.WordSize.{word_size}
use Rattle.roe_mappers.proofs.Carried.{length-carried}
use Rattle.roe_mappers.specs.CarriedBits.{carried_bits}
use Rattle.roe_mappers.specs.Parts.{Carries, IsAwarePart, IsPart}
use Rattle.link_run_delay.specs.Existing.{AreOctets}
use Rattle.link_run_delay.proofs.OctetsOfBits.{octets_with}
use Rattle.link_run_delay.proofs.OctetsOfSymbols.{AreSymbols, octets_of}

-- the law that a spelled symbol has ten bits
abbrev pub SymbolsHaveTenBits : Type 0
SymbolsHaveTenBits = (rd : Rd) (ch : Char) (bits : ℕ) (next : Rd) → Spells rd ch bits next → bits < 1024

-- ---- in mode `tunnel`

length-frame_characters : (n : ℕ) (frame : List ℕ) → length (frame_characters n frame) ≡ length frame
length-frame_characters n [] = refl
length-frame_characters n (x ∷ frame) = ap suc (length-map frame Octet)

symbols_small : SymbolsHaveTenBits → (rd : Rd) (chars : List Char) → All IsCharacter chars → AreSymbols (symbols_of rd chars)
symbols_small law rd [] all = All-nil (λ bits. bits < 1024)
symbols_small law rd (ch ∷ chars) all =
    All-cons (λ bits. bits < 1024) (symbol_of rd ch) (symbols_of (disparity_after rd ch) chars)
    (law rd ch (symbol_of rd ch) (disparity_after rd ch) (record { character = All-head IsCharacter ch chars all; symbol = refl; disparity = refl }))
    (symbols_small law (disparity_after rd ch) chars (All-tail IsCharacter ch chars all))

-- ---- in mode `aware`

bit_past : (octets : List ℕ) (k : ℕ) → 8 * length octets ≤ k → bit_of octets k ≡ 0
bit_past octets k past = ap (λ octet. bit_at octet (k % 8)) (get_or_past octets (k / 8) 0 (omega arith)) ∙ bit_at-zero (k % 8)

-- the control word of c octets, then the IQ bits of the frame at the places of a list, and then 0
module _ (y c : ℕ) (frame carried : List ℕ) (short : c ≤ length frame) (small : AreOctets frame) where
  -- IQ bit of the frame at place x of the list
  abbrev listed : ℕ → ℕ
  listed x = iq_bit y frame (get_or carried x 0)

  abbrev bits : ℕ → ℕ
  bits x = cond (ltb x (length carried)) (listed x) 0

  bits-le : (x : ℕ) → bits x ≤ 1
  bits-le x = cond_both (ltb x (length carried)) (listed x) 0 (λ b. b ≤ 1) (λ _. omega (arith, bit_at-lt)) (λ _. omega arith)

  record CarriesListed (m : ℕ) (octets : List ℕ) : Type 0 where
    size : length octets ≡ c + m
    are_octets : AreOctets octets
    control : take c octets ≡ take c frame
    in_order : (i : ℕ) → i < length carried → bit_of octets (8 * c + i) ≡ listed i
    padding : (k : ℕ) → 8 * c + length carried ≤ k → bit_of octets k ≡ 0

  octets_listed : (m : ℕ) → length carried ≤ 8 * m → (octets : List ℕ) × CarriesListed m octets
  octets_listed m room =
      let found = octets_with c m (take c frame) bits (length-take-le c frame short) (All-take (λ octet. octet < 256) c frame small) bits-le in
      let after : (x : ℕ) → length carried ≤ x → bit_of found.0 (8 * c + x) ≡ 0 =
      λ x high. elim (cases_lt x (8 * m)) [
        | inl within ↦ found.1.same x within ∙ cond-false (ltb x (length carried)) (listed x) 0 (le-ltb x (length carried) high)
        | inr past ↦ bit_past found.0 (8 * c + x) (omega (arith, found.1.size))
      ] in (
        found.0,
        record {
          size = found.1.size;
          are_octets = found.1.small;
          control = found.1.front;
          in_order = λ i lt. found.1.same i (omega arith) ∙ cond-true (ltb i (length carried)) (listed i) 0 (lt-ltb i (length carried) lt);
          padding = λ k le. let place : 8 * c + (k - 8 * c) ≡ k = omega arith in subst (λ x. bit_of found.0 x ≡ 0) place (after (k - 8 * c) (omega arith));
        },
      )

-- ---- in each mode

module _ (p : Plan) (f : Flow) (n : ℕ) (rd : Rd) (frame : List ℕ) (size : length frame ≡ 16 * word_size p.option) (small : AreOctets frame) where
  IsPart-by : (mode : Mode) (part : List ℕ) → p.mode ≡ mode → length part ≡ octets_by mode p f → AreOctets part → Carries mode p f n rd frame part → IsPart p f n rd frame part
  IsPart-by mode part is long are_octets carries = record {
    size = long ∙ sym (ap (λ m. octets_by m p f) is);
    small = are_octets;
    carries = subst (λ m. Carries m p f n rd frame part) (sym is) carries;
  }

  tunnel_part : SymbolsHaveTenBits → p.mode ≡ Tunnel → (part : List ℕ) × IsPart p f n rd frame part
  tunnel_part law is =
      let chars = frame_characters n frame in
      let symbols = symbols_of rd chars in
      let long : length symbols ≡ 4 * (4 * word_size p.option) = length-symbols_of rd chars ∙ length-frame_characters n frame ∙ omega (arith, size) in
      let found = octets_of (4 * word_size p.option) symbols long (symbols_small law rd chars (frame_has_characters n frame small)) in
      (found.0, IsPart-by Tunnel found.0 is (omega (arith, found.1.size)) found.1.small found.1.same)

  control_octets-le : control_octets p f ≤ length frame
  control_octets-le = cond_both f.control (word_size p.option) 0 (λ k. k ≤ length frame) (λ _. omega (arith, size)) (λ _. omega arith)

  aware_part : p.mode ≡ Aware → (part : List ℕ) × IsPart p f n rd frame part
  aware_part is =
      let c = control_octets p f in
      let count = bits_of_carriers p f.carriers in
      let carried = carried_bits p f in
      let many : length carried ≡ count = length-carried p f.carriers in
      let room : length carried ≤ 8 * div_ceil count 8 = omega arith in
      let found = octets_listed (word_size p.option) c frame carried control_octets-le small (div_ceil count 8) room in
      let carries : IsAwarePart p f frame found.0 = record { control = found.1.control; bits = found.1.in_order; padding = found.1.padding } in
      (found.0, IsPart-by Aware found.0 is found.1.size found.1.are_octets carries)

  part_by : (mode : Mode) → SymbolsHaveTenBits → p.mode ≡ mode → (part : List ℕ) × IsPart p f n rd frame part
  part_by Tunnel law is = tunnel_part law is
  part_by Bytes law is = (frame, IsPart-by Bytes frame is size small refl)
  part_by Aware law is = aware_part is

  -- There are octets that carry the frame.
  pub part_of : SymbolsHaveTenBits → (part : List ℕ) × IsPart p f n rd frame part
  part_of law = part_by p.mode law refl
