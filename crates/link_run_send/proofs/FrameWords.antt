-- Lines whose first octet begins no word of a frame.
use Rattle.std.proofs.Common.{◌≡◌, ◌≢◌, ℕ, ◌<◌, false, List, [], ◌∷◌, length, Option, Some, None, refl, sym, ◌∙◌, arith}
use Rattle.std.specs.Prelude.{bytes_eq, slice_index}
use Rattle.std.specs.List.{position}
use Rattle.std.proofs.lemmas.Bool.{ne_eqb}
use Rattle.std.proofs.lemmas.List.{get_or-take, length-take}
use Rattle.link_text.specs.Fields.{is_space, cut_at}
use Rattle.link_run_send.specs.FrameWord.{NamesNoFrame}
use Rattle.link_run_send.specs.Sent.{word_and_rest}

differs : (word : List ℕ) (c : ℕ) (cs : List ℕ) → (0 < length word → slice_index word 0 ≢ c) → bytes_eq word (c ∷ cs) ≡ false
differs [] c cs other = refl
differs (x ∷ xs) c cs other = rw (ne_eqb x c (other (omega arith))) refl

first_of : (line : List ℕ) (place : Option ℕ) → 0 < length (word_and_rest line (cut_at line place)).0
    → slice_index (word_and_rest line (cut_at line place)).0 0 ≡ slice_index line 0
first_of line None some = refl
first_of line (Some place) some = get_or-take place line 0 0 (omega (arith, length-take place line))

pub names_no_frame : (line : List ℕ) → slice_index line 0 ≢ 115 → slice_index line 0 ≢ 102 → NamesNoFrame line
names_no_frame line no_s no_f =
    let first = first_of line (position is_space line) in
    record {
      no_slow = differs _ 115 _ (λ some is. no_s (sym (first some) ∙ is));
      no_fast = differs _ 102 _ (λ some is. no_f (sym (first some) ∙ is));
    }
