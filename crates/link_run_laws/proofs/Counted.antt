-- Entries are counted as equal or as marked, where each has its sample's value or none.
use Rattle.std.proofs.Common.{◌≡◌, ℕ, ◌+◌, true, List, [], ◌∷◌, All, length, cond, Option, Some, None, IfSome, refl, sym, ap, ◌∙◌, arith}
use Rattle.std.specs.Option.{is_none}
use Rattle.std.specs.Ordering.{int_eq}
use Rattle.std.proofs.lemmas.Bool.{and_from, cond-true}
use Rattle.std.proofs.lemmas.Bool.Decides.{Decides-int_eq}
use Rattle.std.proofs.lemmas.List.Elements.{All-head, All-tail}
use Rattle.std.proofs.lemmas.List.Sums.{sum_by-cons}
use Rattle.link_receiver.specs.declared.entry.Entry.{Entry}
use Rattle.link_sender.specs.Stream.{Stream, sample_at}
use Rattle.sample_bits.specs.declared.iq.RawIq.{RawIq}
use Rattle.link_drill.specs.Summary.{equal_in, is_equal, is_marked, is_same, is_value, marked_in}

same_as_itself : (s : RawIq) → is_same s s ≡ true
same_as_itself s = and_from (int_eq s.i s.i) (int_eq s.q s.q) ((Decides-int_eq s.i s.i).1 refl) ((Decides-int_eq s.q s.q).1 refl)

-- a value that is the sample's counts as equal, and none as marked
value_counts : (value : Option RawIq) (sample : RawIq) → IfSome value (λ v. v ≡ sample) → cond (is_value value sample) 1 0 + cond (is_none value) 1 0 ≡ 1
value_counts None sample is = refl
value_counts (Some v) sample is =
    let same : is_same v sample ≡ true = ap (is_same v) (sym is) ∙ same_as_itself v in
    ap (λ (n : ℕ). n + 0) (cond-true {A = ℕ} (is_same v sample) 1 0 same)

-- the entry has its sample's value, or none
abbrev pub HasValue : Stream → Entry → Type 0
HasValue σ e = IfSome e.value (λ v. v ≡ sample_at σ e.carrier e.number)

pub all_counted : (σ : Stream) (entries : List Entry) → All (HasValue σ) entries → equal_in σ entries + marked_in entries ≡ length entries
all_counted σ [] each = refl
all_counted σ (e ∷ entries) each =
    let one = value_counts e.value (sample_at σ e.carrier e.number) (All-head (HasValue σ) e entries each) in
    let rest = all_counted σ entries (All-tail (HasValue σ) e entries each) in
    let equal = sum_by-cons (λ x. cond (is_equal σ x) 1 0) e entries in
    let marked = sum_by-cons (λ x. cond (is_marked x) 1 0) e entries in
    omega (arith, one, rest, equal, marked)
