-- The control words of basic frames (CPRI Specification V7.0, sections 4.2.7.4 to 4.2.7.7). The filler 50h beside the
-- comma is this project's own choice.
use Rattle.std.specs.Prelude.{ℕ, ◌+◌, ◌*◌, ◌/◌, ◌%◌, List, map, ◌==◌, ◌&&◌, if◌then◌else◌, slice_index}
use Rattle.std.specs.List.{range_with_len, flat_map}
use Rattle.hyperframe.specs.Numbering.{frame_x, frame_z, frame_bfn}
use Rattle.control_words.specs.declared.announce.Announce.{Announce}
use Rattle.control_words.specs.Places.{is_managed_place, managed_before}

-- Octet y of the control word of place X in hyperframe Z of radio frame BFN, which announces a. The octets of the
-- management channels are taken in order.
unfoldable pub octet_of : ℕ → ℕ → ℕ → Announce → List ℕ → ℕ → ℕ
octet_of x z bfn a managed y =
    if y == 0 && x == 0 then 188 else (
    if x == 0 then 80 else (
    if y == 0 && x == 64 then z else (
    if y == 0 && x == 128 then bfn % 256 else (
    if y == 0 && x == 192 then bfn / 256 else (
    if y == 0 && x == 2 then a.version else (
    if y == 0 && x == 66 then a.hdlc else (
    if y == 0 && x == 130 then a.l1 else (
    if y == 0 && x == 194 then a.pointer else (
    if is_managed_place a x y then slice_index managed (managed_before y x a) else 0)))))))))

-- the control word of basic frame n, of Y octets
abbrev pub word : ℕ → ℕ → Announce → List ℕ → List ℕ
word Y n a managed = map (octet_of (frame_x n) (frame_z n) (frame_bfn n) a managed) (range_with_len 0 Y)

-- the control words of hyperframe h one after another, with the management octets of each word
unfoldable pub words_of_hyperframe : ℕ → ℕ → Announce → (ℕ → List ℕ) → List ℕ
words_of_hyperframe Y h a managed = flat_map (λ (x : ℕ). word Y (256 * h + x) a (managed x)) (range_with_len 0 256)
