-- What holds of the symbols of a line.
use Rattle.std.proofs.Common.{◌≡◌, ℕ, ◌+◌, ◌<◌, ◌%◌, suc, Bool, true, false, ◌==◌, if◌then◌else◌, List, [], ◌∷◌, ◌++◌, map, length, ◌↔◌, Option, Some, None, refl, ap}
use Rattle.std.specs.Prelude.{All}
use Rattle.std.proofs.lemmas.List.Elements.{All-nil, All-cons, All-head, All-tail, All-append, All-map}
use Rattle.std.proofs.lemmas.Option.{some_pair_parts}
use Rattle.line_code.specs.declared.characters.Char.{Char}
use Rattle.line_code.specs.declared.characters.Char.TheVariants.{Octet, Comma}
use Rattle.line_code.specs.declared.characters.Rd.{Rd}
use Rattle.line_code.specs.Code.{disparity_after, symbol_of, IsCharacter}
use Rattle.line_code.specs.Line.{frame_characters, characters_from, symbols_of, disparity_after_all, IsFrame, ChecksAlong}
use Rattle.line_code.proofs.CodeLaws.{Spells-symbol_of, IsCheckOf-symbol_of}

-- the symbols of characters check as these characters
checks_as_spelled : (rd : Rd) (chars : List Char) → All IsCharacter chars → ChecksAlong rd (symbols_of rd chars) (map Some chars)
checks_as_spelled rd [] h = tt
checks_as_spelled rd (ch ∷ chars) h = (
  disparity_after rd ch,
  IsCheckOf-symbol_of rd ch (All-head IsCharacter ch chars h),
  checks_as_spelled (disparity_after rd ch) chars (All-tail IsCharacter ch chars h),
)

-- and as nothing else
only_as_spelled : (rd : Rd) (chars : List Char) → All IsCharacter chars → (answers : List (Option Char))
    → ChecksAlong rd (symbols_of rd chars) answers → answers ≡ map Some chars
only_as_spelled rd [] all [] h = refl
only_as_spelled rd [] all (answer ∷ answers) h = absurd h
only_as_spelled rd (ch ∷ chars) all [] h = absurd h
only_as_spelled rd (ch ∷ chars) all (Some got ∷ answers) h =
    let spelled = Spells-symbol_of rd ch (All-head IsCharacter ch chars all) in
    let same = some_pair_parts _ _ _ _ ((h.1 ch (disparity_after rd ch)).1 spelled) in
    let next_same = same.1 in
    let here = rw next_same at h.2 in
    let rest = only_as_spelled (disparity_after rd ch) chars (All-tail IsCharacter ch chars all) answers here in
    rw (same.0, rest) refl
only_as_spelled rd (ch ∷ chars) all (None ∷ answers) h =
    let spelled = Spells-symbol_of rd ch (All-head IsCharacter ch chars all) in
    let e = (h.0 ch (disparity_after rd ch)).1 spelled in
    cc

pub checks_along : (rd : Rd) (chars : List Char) → All IsCharacter chars → (answers : List (Option Char))
    → (ChecksAlong rd (symbols_of rd chars) answers) ↔ (answers ≡ map Some chars)
checks_along rd chars all answers =
    (only_as_spelled rd chars all answers, λ e. rw e (checks_as_spelled rd chars all))

-- ---- frames

first_character : (b : Bool) (first : ℕ) → first < 256 → IsCharacter (if b then Comma else Octet first)
first_character true first small = tt
first_character false first small = small

pub frame_has_characters : (n : ℕ) (frame : List ℕ) → IsFrame frame → All IsCharacter (frame_characters n frame)
frame_has_characters n [] h = All-nil IsCharacter
frame_has_characters n (first ∷ rest) h =
    All-cons IsCharacter _ (map Octet rest)
    (first_character (n % 256 == 0) first (All-head (λ octet. octet < 256) first rest h))
    (All-map IsCharacter Octet rest (All-tail (λ octet. octet < 256) first rest h))

pub frames_have_characters : (n : ℕ) (frames : List (List ℕ)) → All IsFrame frames → All IsCharacter (characters_from n frames)
frames_have_characters n [] h = All-nil IsCharacter
frames_have_characters n (frame ∷ frames) h =
    All-append IsCharacter (frame_characters n frame) (characters_from (n + 1) frames)
    (frame_has_characters n frame (All-head IsFrame frame frames h))
    (frames_have_characters (n + 1) frames (All-tail IsFrame frame frames h))

-- ---- one piece of a line after another

pub length-symbols_of : (rd : Rd) (chars : List Char) → length (symbols_of rd chars) ≡ length chars
length-symbols_of rd [] = refl
length-symbols_of rd (ch ∷ chars) = ap suc (length-symbols_of (disparity_after rd ch) chars)

pub symbols_of-append : (rd : Rd) (xs ys : List Char)
    → symbols_of rd (xs ++ ys) ≡ symbols_of rd xs ++ symbols_of (disparity_after_all rd xs) ys
symbols_of-append rd [] ys = refl
symbols_of-append rd (ch ∷ xs) ys = ap (λ symbols. symbol_of rd ch ∷ symbols) (symbols_of-append (disparity_after rd ch) xs ys)

pub disparity_after_all-append : (rd : Rd) (xs ys : List Char)
    → disparity_after_all rd (xs ++ ys) ≡ disparity_after_all (disparity_after_all rd xs) ys
disparity_after_all-append rd [] ys = refl
disparity_after_all-append rd (ch ∷ xs) ys = disparity_after_all-append (disparity_after rd ch) xs ys
