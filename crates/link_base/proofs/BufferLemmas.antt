-- A buffer that is filled by one read after another.
use Rattle.std.proofs.Common.{IsTrue, ◌≡◌, ◌+◌, ◌-◌, ◌≤◌, ◌++◌, ℕ, List, length, take, drop, length-drop, length-append, arith, refl, sym, ap, subst, ◌∙◌, append_assoc, append-nil}
use Rattle.std.proofs.Math.Seq.{take-add}
use Rattle.std.proofs.lemmas.List.{take_at, drop_at, drop_all, drop-drop, length-take-le}
use borrow.Rule.Slice.PartMut.{put_mid}
use Rattle.link_base.specs.Shelf.{Shown, SameFiles, Takes}
use Rattle.link_base.specs.Filling.{FillsTo}

-- nothing is read yet
pub fills_none : (buffer : List ℕ) (shelf : Shown) → FillsTo 0 buffer buffer shelf shelf
fills_none buffer shelf = record {
  within = omega arith;
  fits = omega arith;
  buffer = refl;
  left = refl;
  chosen = refl;
  failed = refl;
}

-- the rest of the buffer is put behind what is filled
part_filled : (done : ℕ) (buffer part : List ℕ) → done ≤ length buffer → put_mid done (length buffer - done) buffer part ≡ take done buffer ++ part
part_filled done buffer part within =
    ap (λ rest. take done buffer ++ (part ++ rest)) (drop_all (length buffer - done) (drop done buffer) (omega (arith, length-drop done buffer)))
    ∙ ap (λ ending. take done buffer ++ ending) (append-nil part)

module _ (done k : ℕ) (start buffer part : List ℕ) (first now next : Shown) where
  -- the next k octets, behind those that are filled
  pub fills_more : FillsTo done start buffer first now → length buffer ≡ length start → done ≤ length buffer → k ≤ length buffer - done
      → Takes k (drop done buffer) part now next → FillsTo (done + k) start (put_mid done (length buffer - done) buffer part) first next
  fills_more filled same within fits takes =
      let taken : length (take done first.left) ≡ done = length-take-le done first.left filled.within in
      let front : take done buffer ≡ take done first.left = ap (take done) filled.buffer ∙ take_at (take done first.left) (drop done start) done taken in
      let rest : drop done buffer ≡ drop done start = ap (drop done) filled.buffer ∙ drop_at (take done first.left) (drop done start) done taken in
      let left_now = filled.left in
      record {
        within = omega (arith, takes.within, ap length left_now, length-drop done first.left, filled.within);
        fits = omega arith;
        buffer =
            part_filled done buffer part within
            ∙ ap (λ xs. xs ++ part) front
            ∙ ap (λ xs. take done first.left ++ xs) (takes.buffer ∙ ap (λ left. take k left ++ drop k (drop done buffer)) left_now
            ∙ ap (λ xs. take k (drop done first.left) ++ drop k xs) rest)
            ∙ sym (append_assoc (take done first.left) (take k (drop done first.left)) (drop k (drop done start)))
            ∙ ap (λ xs. xs ++ drop k (drop done start)) (sym (take-add done k first.left))
            ∙ ap (λ xs. take (done + k) first.left ++ xs) (drop-drop k done start);
        left = takes.left ∙ ap (drop k) left_now ∙ drop-drop k done first.left;
        chosen = takes.chosen ∙ filled.chosen;
        failed = takes.failed ∙ filled.failed;
      }

pub part_length : (done : ℕ) (buffer part : List ℕ) → done ≤ length buffer → length part ≡ length (drop done buffer) → length (put_mid done (length buffer - done) buffer part) ≡ length buffer
part_length done buffer part within same =
    ap length (part_filled done buffer part within) ∙ length-append (take done buffer) part
    ∙ omega (arith, length-take-le done buffer within, length-drop done buffer)

-- files that stay over two calls stay over both
pub files_stay : (first now next : Shown) → SameFiles first now → SameFiles now next → SameFiles first next
files_stay first now next one two = record {
  tells = two.tells ∙ one.tells;
  held = λ told. two.held (subst IsTrue (sym one.tells) told) ∙ one.held told;
}
