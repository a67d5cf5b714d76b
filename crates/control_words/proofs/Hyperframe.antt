-- The control words of a hyperframe, as they are read.
use Rattle.std.specs.Prelude.{◌≡◌, ℕ, ◌+◌, ◌*◌, ◌/◌, ◌%◌, ◌<◌, List, [], ◌∷◌, length, take, Bool, true, false, ◌==◌, ◌&&◌, ◌||◌, slice_index, Ok, refl}
use Rattle.std.specs.List.{range_with_len, flat_map}
use Rattle.std.proofs.Common.{arith, ap, ◌∙◌, sym, get_or, length-append, length-take-le, zero-add}
use Rattle.std.proofs.lemmas.Bool.Decides.{nat_tests}
use Rattle.std.proofs.lemmas.List.Concat.{get_or-flat_map}
use Rattle.std.proofs.lemmas.List.FromFn.{length-range_with_len, get_or-range_with_len, length-map-range_with_len, get_or-map-range_with_len}
use Rattle.hyperframe.specs.Numbering.{frame_x, frame_z, frame_bfn}
use Rattle.control_words.specs.declared.announce.Announce.{Announce}
use Rattle.link_base.specs.WordSize.{IsWordSize}
use Rattle.control_words.specs.Announcement.{IsWithinTable, allows_hdlc, allows_pointer}
use Rattle.control_words.specs.ControlWord.{octet_of, word, words_of_hyperframe}
use Rattle.control_words.proofs.Octets.{word_size_bounds}
use Rattle.control_words.specs.Reading.{control_octet, is_synchronized, announced, numbers}

-- pieces of one length
length_of_pieces : {A : Type 0} (f : ℕ → List A) (n : ℕ) → ((i : ℕ) → length (f i) ≡ n) → (xs : List ℕ) →
    length (flat_map f xs) ≡ n * length xs
length_of_pieces f n h [] = omega arith
length_of_pieces f n h (x ∷ xs) =
    let e = length_of_pieces f n h xs in
    length-append (f x) (flat_map f xs) ∙ grind (arith, h x)

-- element y of piece x stands after the pieces before it
element_of_piece : (f : ℕ → List ℕ) (Y n x y : ℕ) → ((i : ℕ) → length (f i) ≡ Y) → x < n → y < Y →
    slice_index (flat_map f (range_with_len 0 n)) (Y * x + y) ≡ slice_index (f x) y
element_of_piece f Y n x y h lx ly =
    let at : get_or (range_with_len 0 n) x 0 ≡ x = get_or-range_with_len 0 n x 0 lx ∙ zero-add x in
    let here : length (f (get_or (range_with_len 0 n) x 0)) ≡ Y = h _ in
    let short : length (take x (range_with_len 0 n)) ≡ x = length-take-le x (range_with_len 0 n) (omega (arith, length-range_with_len 0 n)) in
    let before : length (flat_map f (take x (range_with_len 0 n))) ≡ Y * x = length_of_pieces f Y h (take x (range_with_len 0 n)) ∙ ap (λ (k : ℕ). Y * k) short in
    let e = get_or-flat_map f (range_with_len 0 n) x y 0 0 (omega (arith, length-range_with_len 0 n)) (omega arith) in
    ap (λ (k : ℕ). get_or (flat_map f (range_with_len 0 n)) (k + y) 0) (sym before) ∙ e ∙ ap (λ (k : ℕ). get_or (f k) y 0) at

-- octet y of word x is where it is read
pub octet_read : (Y h : ℕ) (a : Announce) (managed : ℕ → List ℕ) (x y : ℕ) → x < 256 → y < Y →
    control_octet Y (words_of_hyperframe Y h a managed) x y ≡ octet_of x (frame_z (256 * h + x)) (frame_bfn (256 * h + x)) a (managed x) y
unfolding words_of_hyperframe
octet_read Y h a managed x y lx ly =
    let f : ℕ → List ℕ = λ i. word Y (256 * h + i) a (managed i) in
    let place : frame_x (256 * h + x) ≡ x = omega arith in
    element_of_piece f Y 256 x y (λ i. length-map-range_with_len (octet_of (frame_x (256 * h + i)) (frame_z (256 * h + i)) (frame_bfn (256 * h + i)) a (managed i)) 0 Y) lx ly
    ∙ get_or-map-range_with_len (octet_of (frame_x (256 * h + x)) (frame_z (256 * h + x)) (frame_bfn (256 * h + x)) a (managed x)) 0 Y y y 0 ly (omega arith)
    ∙ ap (λ (k : ℕ). octet_of k (frame_z (256 * h + x)) (frame_bfn (256 * h + x)) a (managed x) y) place

-- the sync word
synchronized : (single : Bool) (first second : ℕ) → first ≡ 188 → (single ≡ false → second ≡ 80) →
    (first == 188 && (single || second == 80 || second == 197)) ≡ true
synchronized true first second e k = rw e refl
synchronized false first second e k = rw (e, k refl) refl

-- what words with these octets announce
announced_by : (Y : ℕ) (control : List ℕ) (a : Announce) → IsWithinTable Y a → is_synchronized Y control ≡ true →
    control_octet Y control 2 0 ≡ a.version → control_octet Y control 66 0 ≡ a.hdlc → control_octet Y control 130 0 ≡ a.l1 → control_octet Y control 194 0 ≡ a.pointer →
    announced Y control ≡ Ok a
announced_by Y control a w sync version hdlc l1 pointer =
    let one : (a.version == 1) ≡ true = ap (λ (k : ℕ). k == 1) w.version in
    let rate : a.hdlc % 8 ≡ a.hdlc = grind (arith, nat_tests, w.hdlc) in
    let first : a.pointer % 64 ≡ a.pointer = grind (arith, nat_tests, w.pointer) in
    let state : a.l1 % 32 ≡ a.l1 = omega (arith, w.l1) in
    let allowed : allows_hdlc Y a.hdlc ≡ true = w.hdlc in
    let pointed : allows_pointer a.pointer ≡ true = w.pointer in
    rw (sync, version, hdlc, l1, pointer, one, rate, first, state, allowed, pointed) refl

pub read_back : (Y h : ℕ) (a : Announce) (managed : ℕ → List ℕ) → IsWordSize Y → IsWithinTable Y a →
    announced Y (words_of_hyperframe Y h a managed) ≡ Ok a
unfolding octet_of
read_back Y h a managed size w =
    let bounds = word_size_bounds Y size in
    let sync = synchronized (Y == 1) (control_octet Y (words_of_hyperframe Y h a managed) 0 0) (control_octet Y (words_of_hyperframe Y h a managed) 0 1)
    (octet_read Y h a managed 0 0 (omega arith) (omega arith))
    (λ (e : (Y == 1) ≡ false). octet_read Y h a managed 0 1 (omega arith) (grind (arith, nat_tests))) in
    announced_by Y (words_of_hyperframe Y h a managed) a w sync (octet_read Y h a managed 2 0 (omega arith) (omega arith)) (octet_read Y h a managed 66 0 (omega arith) (omega arith))
    (octet_read Y h a managed 130 0 (omega arith) (omega arith)) (octet_read Y h a managed 194 0 (omega arith) (omega arith))

-- two frames of a hyperframe have the same Z and BFN
same_z : (h x y : ℕ) → x < 256 → y < 256 → frame_z (256 * h + x) ≡ frame_z (256 * h + y)
same_z h x y lx ly = omega arith

same_bfn : (h x y : ℕ) → x < 256 → y < 256 → frame_bfn (256 * h + x) ≡ frame_bfn (256 * h + y)
same_bfn h x y lx ly = omega arith

pair : {a b c d : ℕ} → a ≡ b → c ≡ d → ◌≡◌ {A = ℕ × ℕ} (a, c) (b, d)
pair e f = cc

-- BFN by its low eight bits and its high four
joined : (bfn low high : ℕ) → low ≡ bfn % 256 → high ≡ bfn / 256 → bfn < 4096 → low + 256 * (high % 16) ≡ bfn
joined bfn low high l h b = omega arith

pub numbers_back : (Y h x : ℕ) (a : Announce) (managed : ℕ → List ℕ) → IsWordSize Y → x < 256 →
    numbers Y (words_of_hyperframe Y h a managed) ≡ (frame_z (256 * h + x), frame_bfn (256 * h + x))
unfolding octet_of
numbers_back Y h x a managed size l =
    let bounds = word_size_bounds Y size in
    let z : control_octet Y (words_of_hyperframe Y h a managed) 64 0 ≡ frame_z (256 * h + 64) = octet_read Y h a managed 64 0 (omega arith) (omega arith) in
    let low : control_octet Y (words_of_hyperframe Y h a managed) 128 0 ≡ frame_bfn (256 * h + 128) % 256 = octet_read Y h a managed 128 0 (omega arith) (omega arith) in
    let high : control_octet Y (words_of_hyperframe Y h a managed) 192 0 ≡ frame_bfn (256 * h + 192) / 256 = octet_read Y h a managed 192 0 (omega arith) (omega arith) in
    pair (z ∙ same_z h 64 x (omega arith) l)
    (joined _ _ _ (low ∙ ap (λ (b : ℕ). b % 256) (same_bfn h 128 x (omega arith) l)) (high ∙ ap (λ (b : ℕ). b / 256) (same_bfn h 192 x (omega arith) l)) (omega arith))
