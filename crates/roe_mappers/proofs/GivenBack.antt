-- What is read back of the octets that carry a frame.
use Rattle.std.proofs.Common.{◌≡◌, ℕ, zero, suc, ◌+◌, ◌*◌, ◌%◌, ◌<◌, ◌==◌, ◌&&◌, ◌↔◌, Bool, true, false, cond, List, [], ◌∷◌, length, map, take, get_or, All, Contains, Some, None, slice_get, refl, sym, ap, subst, ◌∙◌, arith}
use Rattle.std.specs.List.{before_first}
use Rattle.std.proofs.lemmas.Bool.{eqb-true, ne_eqb}
use Rattle.std.proofs.lemmas.List.Elements.{All-head, All-tail}
use Rattle.basic_frame.specs.Frames as frames
use Rattle.carrier_plan.specs.declared.plan.Flow.{Flow}
use Rattle.carrier_plan.specs.declared.plan.Mode.{Mode}
use Rattle.carrier_plan.specs.declared.plan.Mode.TheVariants.{Tunnel, Bytes, Aware}
use Rattle.carrier_plan.specs.declared.plan.Plan.{Plan}
use Rattle.line_code.specs.declared.characters.Char.{Char}
use Rattle.line_code.specs.declared.characters.Char.TheVariants.{Octet, Comma}
use Rattle.line_code.specs.declared.characters.Rd.{Rd}
use Rattle.line_code.specs.Code.{IsCharacter, Spells, disparity_after, symbol_of}
use Rattle.line_code.specs.Decoded.{decoded, octet_by, octet_of}
use Rattle.line_code.specs.Line.{frame_characters, symbols_of}
use Rattle.line_code.proofs.LineLaws.{frame_has_characters, length-symbols_of}
use Rattle.line_code.proofs.Spelling.{decoded_is}
use Rattle.link_base.specs.Bits.{bit_of}
use Rattle.plan_checker.specs.Flows.{bits_of_carriers, control_octets}
use Rattle.plan_checker.specs.Place.{iq_bit}
use Rattle.plan_checker.specs.Rules.{IsGood}
use Rattle.plan_checker.specs.WordSize.{word_size}
use Rattle.roe_mappers.specs.CarriedBits.{carried_bits}
use Rattle.roe_mappers.specs.Laws.{IsFrame, IsGivenBack, PartsAreGivenBack}
use Rattle.roe_mappers.specs.Parts.{Carries, IsAwarePart, part_bit, part_control, place_by, place_in_part, spelled}
use Rattle.roe_mappers.specs.Symbols.{bad_symbol, first_bad_symbol, is_bad_by}
use Rattle.roe_mappers.proofs.AwareParts.{part_bit-aware, part_control-aware}
use Rattle.roe_mappers.proofs.Carried.{length-carried}
use Rattle.roe_mappers.proofs.CharacterRuns.{length-frame_characters}
use Rattle.roe_mappers.proofs.RouteBits.{carried_at, ends_within}
use Rattle.roe_mappers.proofs.SymbolRuns.{first_bad-none}

-- ---- symbols that spell characters

-- a symbol spells one character
abbrev pub OneCharacter : Type 0
OneCharacter = (rd rd' : Rd) (ch ch' : Char) (bits : ℕ) (next next' : Rd) → Spells rd ch bits next → Spells rd' ch' bits next' → ch ≡ ch'

decoded-symbol_of : (one : OneCharacter) (rd : Rd) (ch : Char) → IsCharacter ch → decoded (symbol_of rd ch) ≡ Some ch
decoded-symbol_of one rd ch h =
    let bits = symbol_of rd ch in
    let here : Spells rd ch bits (disparity_after rd ch) = record { character = h; symbol = refl; disparity = refl } in
    let both : (ch' : Char) → (Some ch ≡ Some ch') ↔ ((rd' : Rd) × (next : Rd) × Spells rd' ch' bits next) =
    λ ch'. (
      λ e. let same : ch ≡ ch' = cc in (rd, disparity_after rd ch, subst (λ (c : Char). Spells rd c bits (disparity_after rd ch)) same here),
      λ s. ap Some (one rd s.0 ch ch' bits (disparity_after rd ch) s.1 here s.2),
    ) in
    sym (decoded_is bits (Some ch) both)

decoded_at : (one : OneCharacter) (rd : Rd) (chars : List Char) (s : ℕ) → All IsCharacter chars → s < length chars → decoded (get_or (symbols_of rd chars) s 0) ≡ Some (get_or chars s Comma)
decoded_at one rd [] s all lt = absurd (omega arith)
decoded_at one rd (ch ∷ chars) zero all lt = decoded-symbol_of one rd ch (All-head IsCharacter ch chars all)
decoded_at one rd (ch ∷ chars) (suc s) all lt = decoded_at one (disparity_after rd ch) chars s (All-tail IsCharacter ch chars all) (omega arith)

octet_of-symbol_of : (one : OneCharacter) (rd : Rd) (ch : Char) → IsCharacter ch → octet_of (symbol_of rd ch) ≡ octet_by (Some ch)
unfolding octet_of
octet_of-symbol_of one rd ch h = ap octet_by (decoded-symbol_of one rd ch h)

octets_back : (one : OneCharacter) (rd : Rd) (octets : List ℕ) → All (λ octet. octet < 256) octets → map octet_of (symbols_of rd (map Octet octets)) ≡ octets
octets_back one rd [] all = refl
octets_back one rd (octet ∷ octets) all =
    let P : ℕ → Type 0 = λ o. o < 256 in
    ap (λ o. o ∷ map octet_of (symbols_of (disparity_after rd (Octet octet)) (map Octet octets))) (octet_of-symbol_of one rd (Octet octet) (All-head P octet octets all))
    ∙ ap (λ os. octet ∷ os) (octets_back one (disparity_after rd (Octet octet)) octets (All-tail P octet octets all))

first_back : (one : OneCharacter) (rd : Rd) (b : Bool) (first : ℕ) → first < 256 → (b ≡ true → first ≡ 188) → octet_of (symbol_of rd (cond b Comma (Octet first))) ≡ first
first_back one rd true first small due = octet_of-symbol_of one rd Comma tt ∙ sym (due refl)
first_back one rd false first small due = octet_of-symbol_of one rd (Octet first) small

frame_back : (one : OneCharacter) (rd : Rd) (n : ℕ) (frame : List ℕ) → All (λ octet. octet < 256) frame → (n % 256 ≡ 0 → slice_get frame 0 ≡ Some 188) → map octet_of (symbols_of rd (frame_characters n frame)) ≡ frame
frame_back one rd n [] small comma = refl
frame_back one rd n (first ∷ rest) small comma =
    let P : ℕ → Type 0 = λ o. o < 256 in
    let ch = cond (n % 256 == 0) Comma (Octet first) in
    let due : (n % 256 == 0) ≡ true → first ≡ 188 = λ e. let read : Some first ≡ Some 188 = comma (eqb-true (n % 256) 0 e) in cc in
    ap (λ o. o ∷ map octet_of (symbols_of (disparity_after rd ch) (map Octet rest))) (first_back one rd (n % 256 == 0) first (All-head P first rest small) due)
    ∙ ap (λ os. first ∷ os) (octets_back one (disparity_after rd ch) rest (All-tail P first rest small))

-- ---- none of them is bad

first_good : (b : Bool) (first : ℕ) → is_bad_by b (Some (cond b Comma (Octet first))) ≡ false
first_good true first = refl
first_good false first = refl

later_good : (octets : List ℕ) (s : ℕ) → s < length octets → is_bad_by false (Some (get_or (map Octet octets) s Comma)) ≡ false
later_good [] s lt = absurd (omega arith)
later_good (octet ∷ octets) zero lt = refl
later_good (octet ∷ octets) (suc s) lt = later_good octets s (omega arith)

characters_good : (n : ℕ) (frame : List ℕ) (s : ℕ) → s < length frame → is_bad_by (s == 0 && n % 256 == 0) (Some (get_or (frame_characters n frame) s Comma)) ≡ false
characters_good n [] s lt = absurd (omega arith)
characters_good n (first ∷ rest) zero lt = first_good (n % 256 == 0) first
characters_good n (first ∷ rest) (suc s) lt =
    ap (λ b. is_bad_by (b && n % 256 == 0) (Some (get_or (map Octet rest) s Comma))) (ne_eqb (suc s) 0 (λ e. omega arith)) ∙ later_good rest s (omega arith)

symbols_good : (one : OneCharacter) (rd : Rd) (n : ℕ) (frame : List ℕ) → All (λ octet. octet < 256) frame → first_bad_symbol n (symbols_of rd (frame_characters n frame)) ≡ None
symbols_good one rd n frame small =
    let chars = frame_characters n frame in
    let long = length-frame_characters n frame in
    let all = frame_has_characters n frame small in
    sym (first_bad-none n (symbols_of rd chars) (λ s lt.
    let below : s < length chars = omega (arith, length-symbols_of rd chars) in
    ap (is_bad_by (s == 0 && n % 256 == 0)) (decoded_at one rd chars s all below) ∙ characters_good n frame s (omega arith)))

-- ---- by the payload mode

module _ (p : Plan) (f : Flow) (n : ℕ) (rd : Rd) (frame part : List ℕ) where
  -- a part that spells the whole frame
  whole_back : (m : Mode) → p.mode ≡ m → bad_symbol m n part ≡ None → spelled m part ≡ frame → ((x : ℕ) → place_by m p f x ≡ 8 * word_size p.option + x) → IsGivenBack p f n frame part
  unfolding part_bit part_control
  whole_back m mode good is place =
      let all : spelled p.mode part ≡ frame = ap (λ o. spelled o part) mode ∙ is in
      record {
        good = ap (λ o. bad_symbol o n part) mode ∙ good;
        control = λ has. ap (take (word_size p.option)) all;
        containers = λ c b carrier listed read lt.
            let x = iq_bit carrier.pieces b in
            let there : place_in_part p f x ≡ 8 * word_size p.option + x = ap (λ o. place_by o p f x) mode ∙ place x in
            ap (λ octets. bit_of octets (place_in_part p f x)) all ∙ ap (bit_of frame) there;
      }

  aware_back : IsGood p → Contains p.flows f → p.mode ≡ Aware → IsAwarePart p f frame part → IsGivenBack p f n frame part
  aware_back good flow mode carries =
      record {
        good = ap (λ o. bad_symbol o n part) mode;
        control = λ has.
            let octets : control_octets p f ≡ word_size p.option = ap (λ b. cond b (word_size p.option) 0) has in
            part_control-aware p part mode ∙ subst (λ w. take w part ≡ take w frame) octets carries.control;
        containers = λ c b carrier listed read lt.
            let before = bits_of_carriers p (before_first (λ k. k == c) f.carriers) in
            let is = carried_at p f c carrier good flow mode listed read b lt in
            let all = length-carried p f.carriers in
            let below : before + b < length (carried_bits p f) = omega (arith, all, ends_within p f c carrier good flow mode listed read) in
            ap (part_bit p f part) (sym is) ∙ part_bit-aware p f part (before + b) good flow mode below ∙ carries.bits (before + b) below
            ∙ ap (frames.iq_bit (word_size p.option) frame) is;
      }

  pub given_back : (one : OneCharacter) (m : Mode) → IsGood p → Contains p.flows f → IsFrame p n frame → p.mode ≡ m → Carries m p f n rd frame part → IsGivenBack p f n frame part
  given_back one Tunnel good flow is mode carries =
      whole_back Tunnel mode (ap (first_bad_symbol n) carries ∙ symbols_good one rd n frame is.small) (ap (map octet_of) carries ∙ frame_back one rd n frame is.small is.comma) (λ x. refl)
  given_back one Bytes good flow is mode carries = whole_back Bytes mode refl carries (λ x. refl)
  given_back one Aware good flow is mode carries = aware_back good flow mode carries

pub PartsAreGivenBack-holds : OneCharacter → PartsAreGivenBack
PartsAreGivenBack-holds one p f n rd frame part good flow is carried = given_back p f n rd frame part one p.mode good flow is refl carried.carries
