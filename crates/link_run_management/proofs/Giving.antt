-- What frames give to a channel, one more at the end, and the octets at the places of a control word.
use Rattle.std.proofs.Common.{◌≡◌, ℕ, zero, suc, ◌+◌, ◌-◌, ◌<◌, Bool, true, false, cond, ◌||◌, List, [], ◌∷◌, ◌++◌, length, take, drop, get_or, Option, Some, None, is_none, refl, sym, ◌∙◌, ap, arith, append_assoc, append-nil}
use Rattle.std.specs.List.{flat_map, list_any, range_with_len}
use Rattle.std.specs.Option.{option_map, MatchOption}
use Rattle.std.proofs.lemmas.Bool.{lt-ltb, le-ltb}
use Rattle.std.proofs.lemmas.Grind.{flat_map-append}
use Rattle.std.proofs.lemmas.List.Folds.{list_any-append}
use Rattle.hdlc_channel.specs.Bits.{octet_bits, bits_of}
use Rattle.hyperframe.specs.Numbering.{frame_x}
use Rattle.link_run_management.specs.Events.{bit_lines}
use Rattle.link_run_management.specs.Following.{behind}
use Rattle.link_run_management.specs.Management.{octets_in, has_place, given_by, given_from, given_lines, since_cut, octets_so_far}
use Rattle.link_run_management.specs.Reads.{IsFront}
use Rattle.link_run_management.proofs.WordPlaces.{pick, fronts_from}

-- ---- one more frame

given_from-push : (is_place : ℕ → ℕ → Bool) (width n : ℕ) (words : List (Option (List ℕ))) (word : Option (List ℕ))
    → given_from is_place width n (words ++ word ∷ []) ≡ given_from is_place width n words ++ given_by is_place width (n + length words) word ∷ []
unfolding given_from
given_from-push is_place width n [] word = ap (λ k. given_by is_place width k word ∷ []) (omega arith)
given_from-push is_place width n (first ∷ words) word =
    ap (λ given. given_by is_place width n first ∷ given)
    (given_from-push is_place width (suc n) words word ∙ ap (λ k. given_from is_place width (suc n) words ++ given_by is_place width k word ∷ []) (omega arith))

none_so_far : (g : Option (List ℕ)) (b : Bool) → (b || list_any is_none (g ∷ [])) ≡ (b || is_none g)
none_so_far None true = refl
none_so_far None false = refl
none_so_far (Some octets) true = refl
none_so_far (Some octets) false = refl

cut_by : (b : Bool) (octets so_far all : List ℕ) (g : Option (List ℕ)) → all ≡ behind so_far g
    → cond (b || is_none g) all (octets ++ all) ≡ behind (cond b so_far (octets ++ so_far)) g
cut_by true octets so_far all None e = e
cut_by true octets so_far all (Some more) e = e
cut_by false octets so_far all None e = e
cut_by false octets so_far all (Some more) e = ap (λ t. octets ++ t) e ∙ sym (append_assoc octets so_far more)

since_cut-one : (g : Option (List ℕ)) → since_cut (g ∷ []) ≡ behind [] g
unfolding since_cut
since_cut-one None = refl
since_cut-one (Some octets) = append-nil octets

since_cut-push : (given : List (Option (List ℕ))) (g : Option (List ℕ)) → since_cut (given ++ g ∷ []) ≡ behind (since_cut given) g
unfolding since_cut
since_cut-push [] g = since_cut-one g
since_cut-push (None ∷ given) g = since_cut-push given g
since_cut-push (Some octets ∷ given) g =
    ap (λ b. cond b (since_cut (given ++ g ∷ [])) (octets ++ since_cut (given ++ g ∷ [])))
    (list_any-append is_none given (g ∷ []) ∙ none_so_far g (list_any is_none given))
    ∙ cut_by (list_any is_none given) octets (since_cut given) (since_cut (given ++ g ∷ [])) g (since_cut-push given g)

pub octets_so_far-push : (is_place : ℕ → ℕ → Bool) (width : ℕ) (words : List (Option (List ℕ))) (word : Option (List ℕ))
    → octets_so_far is_place width (words ++ word ∷ []) ≡ behind (octets_so_far is_place width words) (given_by is_place width (length words) word)
octets_so_far-push is_place width words word =
    ap since_cut (given_from-push is_place width 0 words word ∙ ap (λ k. given_from is_place width 0 words ++ given_by is_place width k word ∷ []) (omega arith))
    ∙ since_cut-push (given_from is_place width 0 words) (given_by is_place width (length words) word)

pub bits_behind : (before : List ℕ) (octets : List ℕ) → bits_of before ++ bits_of octets ≡ bits_of (behind before (Some octets))
bits_behind before octets = sym (flat_map-append octet_bits before octets)

-- ---- by the places of a word

picked : (f g : ℕ → List ℕ) (xs : List ℕ) → ((y : ℕ) → f y ≡ g y) → flat_map f xs ≡ flat_map g xs
picked f g [] h = refl
picked f g (x ∷ xs) h = ap (λ t. t ++ flat_map f xs) (h x) ∙ ap (λ t. g x ++ t) (picked f g xs h)

first_of_word : (is_place : ℕ → ℕ → Bool) (width x count : ℕ) (word : List ℕ) → length word ≡ width → IsFront is_place width x count
    → octets_in is_place x word ≡ take count word
unfolding pick
first_of_word is_place width x count word long front =
    picked (λ y. cond (is_place x y) (get_or word y 0 ∷ []) []) (pick (is_place x) word 0) (range_with_len 0 (length word))
    (λ y. ap (λ k. cond (is_place x y) (get_or word k 0 ∷ []) []) (let e : y ≡ 0 + y = omega arith in e))
    ∙ fronts_from (is_place x) word 0 count 0 (length word) (omega (arith, front.fits, long)) (λ y lt. front.first y (omega (arith, lt, long))) (omega arith)
    ∙ ap (λ i. take i (drop 0 word)) (let e : count - 0 ≡ count = omega arith in e)

no_place_from : (is : ℕ → Bool) (k n : ℕ) → ((y : ℕ) → y < k + n → is y ≡ false) → list_any is (range_with_len k n) ≡ false
no_place_from is k zero none = refl
no_place_from is k (suc n) none =
    ap (λ b. b || list_any is (range_with_len (k + 1) n)) (none k (omega arith))
    ∙ no_place_from is (k + 1) n (λ y lt. none y (omega (arith, lt)))

no_place : (is_place : ℕ → ℕ → Bool) (width x : ℕ) → IsFront is_place width x 0 → has_place is_place width x ≡ false
no_place is_place width x front =
    no_place_from (is_place x) 0 width (λ y lt. front.first y (omega (arith, lt)) ∙ le-ltb y 0 (omega arith))

some_place : (is_place : ℕ → ℕ → Bool) (width x count : ℕ) → IsFront is_place width x count → 0 < count → has_place is_place width x ≡ true
some_place is_place zero x count front some = absurd (omega (arith, front.fits, some))
some_place is_place (suc width) x count front some =
    ap (λ b. b || list_any (is_place x) (range_with_len 1 width)) (front.first 0 (omega arith) ∙ lt-ltb 0 count some)

-- The word carries octets of the channel: they are given, and without them the channel is cut.
pub given_carried : (is_place : ℕ → ℕ → Bool) (width n count : ℕ) (word : Option (List ℕ)) → MatchOption word (Unit {0}) (λ octets. length octets ≡ width)
    → IsFront is_place width (frame_x n) count → 0 < count → given_by is_place width n word ≡ option_map (take count) word
unfolding given_by
given_carried is_place width n count None long front some =
    ap (λ b. cond b None (Some [])) (some_place is_place width (frame_x n) count front some)
given_carried is_place width n count (Some word) long front some = ap Some (first_of_word is_place width (frame_x n) count word long front)

take_none : (xs : List ℕ) → take 0 xs ≡ []
take_none xs = refl

-- The word carries no octet of the channel.
pub given_nothing : (is_place : ℕ → ℕ → Bool) (width n : ℕ) (word : Option (List ℕ)) → MatchOption word (Unit {0}) (λ octets. length octets ≡ width)
    → IsFront is_place width (frame_x n) 0 → given_by is_place width n word ≡ Some []
unfolding given_by
given_nothing is_place width n None long front = ap (λ b. cond b None (Some [])) (no_place is_place width (frame_x n) front)
given_nothing is_place width n (Some word) long front =
    ap Some (first_of_word is_place width (frame_x n) 0 word long front ∙ take_none word)

-- Such a frame has no line, and the octets behind the last cut stay.
pub lines_of_nothing : (line : ℕ → List Bool → List ℕ) (missed : List ℕ) (tick : ℕ) (before : List ℕ) (given : Option (List ℕ)) → given ≡ Some []
    → given_lines line missed tick before given ≡ []
unfolding given_lines bit_lines
lines_of_nothing line missed tick before given e = ap (given_lines line missed tick before) e

pub behind_nothing : (before : List ℕ) (given : Option (List ℕ)) → given ≡ Some [] → behind before given ≡ before
behind_nothing before given e = ap (behind before) e ∙ append-nil before
