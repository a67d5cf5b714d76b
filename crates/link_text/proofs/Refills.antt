-- What the buffer of a reader of lines holds after a read after its rest.
use Rattle.std.proofs.Common.{◌≡◌, ℕ, ◌+◌, ◌-◌, ◌≤◌, List, [], ◌++◌, length, take, drop, sym, ◌∙◌, ap, arith, length-append, length-take, length-drop, append-nil, slice_range}
use Rattle.std.proofs.Math.Seq.{take-append-add, take-append_seam}
use Rattle.std.proofs.lemmas.List.{take-append-drop, take_all, drop_all, length-take-le}
use borrow.Rule.Slice.PartMut.{put_mid}
use Rattle.link_base.specs.Shelf.{Shown, Takes}

-- how many octets `&xs[len..]` has
pub length_behind : (xs : List ℕ) (len : ℕ) → length (take (length xs - len) (drop len xs)) ≡ length xs - len
length_behind xs len = simp (length-take, length-drop) (omega arith)

-- the octets up to `len` and the first `count` of those that were read after them
pub refilled : (xs ys buf : List ℕ) (len n count : ℕ) → len ≤ length xs → length buf ≡ length xs - len → n ≡ length xs → length ys ≡ length xs
    → (let octets = put_mid len (length xs - len) xs buf in slice_range (take n (octets ++ drop (length octets) ys)) 0 (len + count))
    ≡ take len xs ++ take count buf
refilled xs ys buf len n count within size whole same =
    let front = take len xs in
    let front_len : length front ≡ len = length-take-le len xs within in
    let octets = put_mid len (length xs - len) xs buf in
    let back : drop (length xs - len) (drop len xs) ≡ [] = drop_all (length xs - len) (drop len xs) (omega (arith, length-drop len xs)) in
    let written : octets ≡ front ++ buf = ap (λ more. front ++ (buf ++ more)) back ∙ ap (λ more. front ++ more) (append-nil buf) in
    let octets_len : length octets ≡ length xs = ap length written ∙ simp (length-append, front_len, size) (omega arith) in
    let none : drop (length octets) ys ≡ [] = drop_all (length octets) ys (omega arith) in
    let all : take n (octets ++ drop (length octets) ys) ≡ front ++ buf =
    ap (λ more. take n (octets ++ more)) none ∙ ap (take n) (append-nil octets) ∙ take_all n octets (omega arith) ∙ written in
    let parts : take (len + count) (front ++ buf) ≡ front ++ take count buf =
    ap (λ m. take (m + count) (front ++ buf)) (sym front_len) ∙ take-append-add front buf count in
    ap (λ octets. slice_range octets 0 (len + count)) all ∙ ap (λ m. take m (front ++ buf)) (omega arith) ∙ parts

-- the first octets of the buffer after a read are those that the shelf had
pub took_of : (k : ℕ) (before after : List ℕ) (old new : Shown) → Takes k before after old new → old.left ≡ take k after ++ new.left
took_of k before after old new takes =
    let taken : take k after ≡ take k old.left =
    ap (take k) takes.buffer
    ∙ ap (λ m. take m (take k old.left ++ drop k before)) (sym (length-take-le k old.left takes.within))
    ∙ take-append_seam (take k old.left) (drop k before) in
    sym (take-append-drop k old.left) ∙ sym (ap (λ front. front ++ drop k old.left) taken) ∙ ap (λ left. take k after ++ left) (sym takes.left)
