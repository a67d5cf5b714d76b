-- The files of a shelf in memory, as the map from their names.
use Rattle.std.proofs.Common.{◌≡◌, ◌≢◌, ◌+◌, ◌<◌, ℕ, zero, suc, List, [], ◌∷◌, ◌++◌, Bool, true, false, cond, length, get_or, length-append, Option, Some, None, arith, refl, sym, ◌∙◌, ap, subst}
use Rattle.std.specs.Prelude.{Contains, IsSomeAnd, ◌≤◌, map, drop, is_some, unwrap_or, slice_get, slice_set, string_bytes}
use Rattle.std.specs.Option.{option_map}
use Rattle.std.specs.Ordering.{nat_cmp, is_eq}
use Rattle.std.specs.Str.{bytes_eq}
use Rattle.std.specs.Cmp.Lexicographic.{slice_cmp, nat_list_cmp_total}
use Rattle.std.specs.FinMap.{find, get, insert, from_entries, get-from_entries, get-insert, same_map, slice_cmp-IsAntisymmetric, nat_cmp-IsAntisymmetric, from_entries_push}
use Rattle.std.proofs.lemmas.Map.Text.{is_eq-slice_cmp}
use Rattle.std.proofs.lemmas.Slice.Eq.{bytes_eq-Decides}
use Rattle.std.proofs.lemmas.Bool.{false_from_ne_true, cond-false, cond-true}
use Rattle.std.proofs.lemmas.List.{map-append, length-set}
use Rattle.link_base.specs.MemShelf.{ShelfMemory, HasStop, entry_of, held_of, name_at, left_at, IsPlace, IsFirstNamed, KeepsNames}
use Rattle.link_base.specs.declared.mem_shelf.File.{File}

-- a name ties with itself in byte order
ties : (p q : List ℕ) → p ≡ q → is_eq (slice_cmp nat_cmp p q) ≡ true
ties p q same = is_eq-slice_cmp p q ∙ (bytes_eq-Decides p q).1 same

-- different names don't tie
differs : (p q : List ℕ) → p ≢ q → is_eq (slice_cmp nat_cmp p q) ≡ false
differs p q other = is_eq-slice_cmp p q ∙ false_from_ne_true (bytes_eq p q) (λ h. other ((bytes_eq-Decides p q).0 h))

-- names that tie are one
same_name : (p q : List ℕ) → is_eq (slice_cmp nat_cmp p q) ≡ true → p ≡ q
same_name p q h = (bytes_eq-Decides p q).0 (sym (is_eq-slice_cmp p q) ∙ h)

-- none of the first n files has this name
abbrev pub NoneNamed : List ℕ → List File → ℕ → Type 0
NoneNamed name files n = (k : ℕ) (d : File) → k < n → string_bytes (get_or files k d).name ≢ name

-- a file of this name with none before it is the first of the name
pub first_from : (name : List ℕ) (files : List File) (i : ℕ) (d : File) → NoneNamed name files i → i < length files → string_bytes (get_or files i d).name ≡ name → IsFirstNamed name files i
first_from name [] i d none within same = absurd (omega arith)
first_from name (file ∷ files) zero d none within same = same
first_from name (file ∷ files) (suc i) d none within same = (none 0 d (omega arith), first_from name files i d (λ k e below. none (suc k) e (omega arith)) (omega arith) same)

-- where no file has the name, the map has no entry of it
none_found : (name : List ℕ) (files : List File) (d : File) → NoneNamed name files (length files) → find (slice_cmp nat_cmp) name (map entry_of files) ≡ None
none_found name [] d none = refl
none_found name (file ∷ files) d none =
    cond-false (is_eq (slice_cmp nat_cmp name (string_bytes file.name))) _ _ (differs name (string_bytes file.name) (λ same. none 0 d (omega arith) (sym same)))
    ∙ none_found name files d (λ k e below. none (suc k) e (omega arith))

-- the same of the map itself
pub get_none : (name : List ℕ) (files : List File) → NoneNamed name files (length files) → get (held_of files) name ≡ None
get_none name [] none = get-from_entries nat_list_cmp_total [] name
get_none name (file ∷ files) none = get-from_entries nat_list_cmp_total (map entry_of (file ∷ files)) name ∙ none_found name (file ∷ files) file none

-- what the first file of a name holds is what the map has at that name
found_first : (name : List ℕ) (files : List File) (i : ℕ) → IsFirstNamed name files i → find (slice_cmp nat_cmp) name (map entry_of files) ≡ option_map (λ file. file.octets.items) (slice_get files i)
found_first name [] i h = absurd h
found_first name (file ∷ files) zero h = cond-true (is_eq (slice_cmp nat_cmp name (string_bytes file.name))) _ _ (ties name (string_bytes file.name) (sym h))
found_first name (file ∷ files) (suc i) h =
    cond-false (is_eq (slice_cmp nat_cmp name (string_bytes file.name))) _ _ (differs name (string_bytes file.name) (λ same. h.0 (sym same)))
    ∙ found_first name files i h.1

-- the same of the map itself
pub get_first : (name : List ℕ) (files : List File) (i : ℕ) → IsFirstNamed name files i → get (held_of files) name ≡ option_map (λ file. file.octets.items) (slice_get files i)
get_first name files i h = get-from_entries nat_list_cmp_total (map entry_of files) name ∙ found_first name files i h

-- the first file of a name has that name
pub first_name : (name : List ℕ) (files : List File) (i : ℕ) → IsFirstNamed name files i → option_map (λ file. string_bytes file.name) (slice_get files i) ≡ Some name
first_name name [] i h = absurd h
first_name name (file ∷ files) zero h = ap Some h
first_name name (file ∷ files) (suc i) h = first_name name files i h.1

-- the first file of a name is in the list
pub first_within : (name : List ℕ) (files : List File) (i : ℕ) → IsFirstNamed name files i → i < length files
first_within name [] i h = absurd h
first_within name (file ∷ files) zero h = omega arith
first_within name (file ∷ files) (suc i) h = omega (arith, first_within name files i h.1)

-- two tests that can't both hold may be made in either order
in_either_order : {X : Type 0} (a b : Bool) (x y z : X) → (a ≡ true → b ≡ true → ⊥) → cond a x (cond b y z) ≡ cond b y (cond a x z)
in_either_order true true x y z h = absurd (h refl refl)
in_either_order true false x y z h = refl
in_either_order false true x y z h = refl
in_either_order false false x y z h = refl

-- after a test has failed it may be made again
asked_twice : {X : Type 0} (b : Bool) (x y z : X) → cond b x z ≡ cond b x (cond b y z)
asked_twice true x y z = refl
asked_twice false x y z = refl

-- the first file of a name is replaced by another of this name
find_replaced : (name : List ℕ) (files : List File) (i : ℕ) (file : File) (q : List ℕ) → IsFirstNamed name files i → string_bytes file.name ≡ name
    → find (slice_cmp nat_cmp) q (map entry_of (slice_set files i file)) ≡ cond (is_eq (slice_cmp nat_cmp q name)) (Some file.octets.items) (find (slice_cmp nat_cmp) q (map entry_of files))
find_replaced name [] i file q h new = absurd h
find_replaced name (first ∷ files) zero file q h new =
    rw (new, h) (asked_twice (is_eq (slice_cmp nat_cmp q name)) (Some file.octets.items) (Some first.octets.items) (find (slice_cmp nat_cmp) q (map entry_of files)))
find_replaced name (first ∷ files) (suc i) file q h new =
    ap (cond (is_eq (slice_cmp nat_cmp q (string_bytes first.name))) (Some first.octets.items)) (find_replaced name files i file q h.1 new)
    ∙ in_either_order (is_eq (slice_cmp nat_cmp q (string_bytes first.name))) (is_eq (slice_cmp nat_cmp q name)) _ _ _
    (λ one two. h.0 (sym (same_name q (string_bytes first.name) one) ∙ same_name q name two))

-- to replace the first file of a name is to insert its octets in the map
pub held_replaced : (name : List ℕ) (files : List File) (i : ℕ) (file : File) → IsFirstNamed name files i → string_bytes file.name ≡ name
    → held_of (slice_set files i file) ≡ insert (held_of files) name file.octets.items
held_replaced name files i file h new = same_map nat_list_cmp_total (slice_cmp-IsAntisymmetric nat_cmp-IsAntisymmetric) _ _ (λ q.
    get-from_entries nat_list_cmp_total (map entry_of (slice_set files i file)) q
    ∙ find_replaced name files i file q h new
    ∙ sym (get-insert nat_list_cmp_total (held_of files) name file.octets.items q
    ∙ ap (cond (is_eq (slice_cmp nat_cmp q name)) (Some file.octets.items)) (get-from_entries nat_list_cmp_total (map entry_of files) q)))

-- to add a file of a new name is to insert its octets in the map
pub held_pushed : (name : List ℕ) (files : List File) (file : File) → get (held_of files) name ≡ None → string_bytes file.name ≡ name
    → held_of (files ++ file ∷ []) ≡ insert (held_of files) name file.octets.items
held_pushed name files file none new =
    ap from_entries (map-append entry_of files (file ∷ []))
    ∙ ap (λ n. from_entries (map entry_of files ++ (n, file.octets.items) ∷ [])) new
    ∙ from_entries_push nat_list_cmp_total (slice_cmp-IsAntisymmetric nat_cmp-IsAntisymmetric) (map entry_of files) name file.octets.items (sym (get-from_entries nat_list_cmp_total (map entry_of files) name) ∙ none)

-- the first file of a name has that name, by its place
pub first_name_or : (name : List ℕ) (files : List File) (i : ℕ) (d : File) → IsFirstNamed name files i → string_bytes (get_or files i d).name ≡ name
first_name_or name [] i d h = absurd h
first_name_or name (file ∷ files) zero d h = h
first_name_or name (file ∷ files) (suc i) d h = first_name_or name files i d h.1

-- the same of a value that is known to be that file
pub name_of_first : (name : List ℕ) (files : List File) (i : ℕ) (file : File) → IsFirstNamed name files i → file ≡ get_or files i file → string_bytes file.name ≡ name
name_of_first name files i file found is = ap (λ (f : File). string_bytes f.name) is ∙ first_name_or name files i file found

-- a file is replaced by another of its name
replaced_name : (files : List File) (i j : ℕ) (file : File) → string_bytes (get_or files i file).name ≡ string_bytes file.name
    → option_map (λ f. string_bytes f.name) (slice_get (slice_set files i file) j) ≡ option_map (λ f. string_bytes f.name) (slice_get files j)
replaced_name [] i j file h = refl
replaced_name (f ∷ files) zero zero file h = ap Some (sym h)
replaced_name (f ∷ files) zero (suc j) file h = refl
replaced_name (f ∷ files) (suc i) zero file h = refl
replaced_name (f ∷ files) (suc i) (suc j) file h = replaced_name files i j file h

-- a file behind the others leaves their names
pushed_name : (files : List File) (j : ℕ) (file : File) → j < length files → option_map (λ f. string_bytes f.name) (slice_get (files ++ file ∷ []) j) ≡ option_map (λ f. string_bytes f.name) (slice_get files j)
pushed_name [] j file h = absurd (omega arith)
pushed_name (f ∷ files) zero file h = refl
pushed_name (f ∷ files) (suc j) file h = pushed_name files j file (omega arith)

-- the name of an entry is the name of its file
two_maps : (o : Option File) → option_map (λ entry. entry.0) (option_map entry_of o) ≡ option_map (λ f. string_bytes f.name) o
two_maps None = refl
two_maps (Some f) = refl

-- the names at all places stay where a file is replaced by another of its name
pub keeps_replaced : (name : List ℕ) (files : List File) (i : ℕ) (file : File) → IsFirstNamed name files i → string_bytes file.name ≡ name → KeepsNames files (slice_set files i file)
keeps_replaced name files i file found new = record {
  longer = omega (arith, length-set {A = File});
  names = λ place in_old. elim place as (λ p. name_at (slice_set files i file) p ≡ name_at files p) [
    | None ↦ refl
    | Some j ↦ two_maps (slice_get (slice_set files i file) j) ∙ replaced_name files i j file (first_name_or name files i file found ∙ sym new) ∙ sym (two_maps (slice_get files j))
  ];
}

-- the names at all places stay where a file is added behind the others
pub keeps_pushed : (files : List File) (file : File) → KeepsNames files (files ++ file ∷ [])
keeps_pushed files file = record {
  longer = omega (arith, length-append files (file ∷ []));
  names = λ place in_old. elim place as (λ p. IsPlace files p → name_at (files ++ file ∷ []) p ≡ name_at files p) [
    | None ↦ λ h. refl
    | Some j ↦ λ h. two_maps (slice_get (files ++ file ∷ []) j) ∙ pushed_name files j file h ∙ sym (two_maps (slice_get files j))
  ] in_old;
}

-- equal files have one name
pub name_is : (name : List ℕ) (file found : File) → file ≡ found → string_bytes file.name ≡ name → string_bytes found.name ≡ name
name_is name file found is same = ap (λ (f : File). string_bytes f.name) (sym is) ∙ same

-- where the first file of a name is selected, the name of the selected file is that name
pub name_at_first : (name : List ℕ) (files : List File) (i : ℕ) → IsFirstNamed name files i → name_at files (Some i) ≡ Some name
name_at_first name files i found = two_maps (slice_get files i) ∙ first_name name files i found

-- all octets of a file are those from 0 on
whole : (o : Option File) (some : is_some o ≡ true) → option_map (λ file. file.octets.items) o ≡ Some (drop 0 (unwrap_or (option_map (λ entry. entry.1) (option_map entry_of o)) []))
whole None some = absurd (cc)
whole (Some file) some = refl

-- a place in the list has a file
there : (files : List File) (i : ℕ) → i < length files → is_some (slice_get files i) ≡ true
there [] i within = absurd (omega arith)
there (file ∷ files) zero within = refl
there (file ∷ files) (suc i) within = there files i (omega arith)

-- what the map has at a name is all of its first file
pub left_at_first : (name : List ℕ) (files : List File) (i : ℕ) → IsFirstNamed name files i → get (held_of files) name ≡ Some (left_at files (Some i) 0)
left_at_first name files i found = get_first name files i found ∙ whole (slice_get files i) (there files i (first_within name files i found))

-- the name at the place of a file
name_in : (files : List File) (i : ℕ) (file : File) → i < length files → option_map (λ f. string_bytes f.name) (slice_get files i) ≡ Some (string_bytes (get_or files i file).name)
name_in [] i file within = absurd (omega arith)
name_in (f ∷ files) zero file within = refl
name_in (f ∷ files) (suc i) file within = name_in files i file (omega arith)

-- the same of a value that is known to be that file
pub name_at_place : (files : List File) (i : ℕ) (file : File) → i < length files → file ≡ get_or files i file → name_at files (Some i) ≡ Some (string_bytes file.name)
name_at_place files i file within is = two_maps (slice_get files i) ∙ name_in files i file within ∙ ap (λ (f : File). Some (string_bytes f.name)) (sym is)

-- a read that passes no stop of the selected file passes none by its name
pub passes_by_name : (view now : ShelfMemory) (name : List ℕ) (k : ℕ) → view ≡ now → view.chosen ≡ Some name
    → ((offset : ℕ) → view.position < offset → Contains view.stops (name, offset) → view.position + k ≤ offset)
    → (chosen : List ℕ) (offset : ℕ) → now.chosen ≡ Some chosen → now.position < offset → HasStop now chosen offset → now.position + k ≤ offset
passes_by_name view now name k is selected free =
    subst (λ (s : ShelfMemory). (chosen : List ℕ) (offset : ℕ) → s.chosen ≡ Some chosen → s.position < offset → HasStop s chosen offset → s.position + k ≤ offset) is
    (λ chosen offset of_it after stop.
    let same : chosen ≡ name = cc in
    free offset after (subst (λ n. Contains view.stops (n, offset)) same stop))

-- a stop at the position of the selected file is known by its name
pub stopped_by_name : (view now : ShelfMemory) (name : List ℕ) → view ≡ now → view.chosen ≡ Some name → Contains view.stops (name, view.position)
    → IsSomeAnd now.chosen (λ chosen. HasStop now chosen now.position)
stopped_by_name view now name is selected stop =
    subst (λ (s : ShelfMemory). IsSomeAnd s.chosen (λ chosen. HasStop s chosen s.position)) is
    (subst (λ o. IsSomeAnd o (λ chosen. HasStop view chosen view.position)) (sym selected) stop)
