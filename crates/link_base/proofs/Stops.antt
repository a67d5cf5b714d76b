-- The run of octets before the next stop, one stop after another.
use Rattle.std.proofs.Common.{map, take, length, get_or, string_bytes, ◌∙◌, ◌≡◌, ◌≢◌, ◌+◌, ◌-◌, ◌<◌, ◌≤◌, ◌⊎◌, inl, inr, ℕ, List, [], ◌∷◌, ◌++◌, min, arith, refl, sym, ap, subst}
use Rattle.std.specs.Prelude.{Contains, Bool, true, false, not}
use Rattle.std.specs.Str.{bytes_eq}
use Rattle.std.proofs.lemmas.Slice.Eq.{bytes_eq-Decides}
use Rattle.std.proofs.lemmas.Bool.{cases_lt}
use Rattle.std.proofs.lemmas.List.{map_more}
use Rattle.std.proofs.lemmas.List.Elements.{Contains-push, Contains-push_cases, Contains-append_left}
use Rattle.link_base.specs.MemShelf.{stop_of, IsFreeRun}
use Rattle.link_base.specs.declared.mem_shelf.Stop.{Stop}

-- where there are no stops, every run is free
pub no_stops : (name : List ℕ) (position free : ℕ) → 0 < free → IsFreeRun [] name position free
no_stops name position free some = record {
  stopped = (λ none. absurd (omega arith), λ h. absurd (omega (arith, h.1)));
  passes_none = λ offset after h. absurd (omega (arith, h.1));
}

-- a stop of another file, or one that lies behind
pub one_passed : (stops : List (List ℕ × ℕ)) (name other : List ℕ) (position free offset : ℕ) → (other ≢ name) ⊎ (offset < position)
    → IsFreeRun stops name position free → IsFreeRun (stops ++ (other, offset) ∷ []) name position free
one_passed stops name other position free offset passed run = record {
  stopped = (
    λ none. Contains-append_left stops ((other, offset) ∷ []) (name, position) (run.stopped.0 none),
    λ h. elim (Contains-push_cases stops (other, offset) (name, position) h) [
      | inl before ↦ run.stopped.1 before
      | inr same ↦ elim passed [
        | inl differs ↦ absurd (differs (ap (λ (stop : List ℕ × ℕ). stop.0) same))
        | inr behind ↦ let e = ap (λ (stop : List ℕ × ℕ). stop.1) same in absurd (omega (arith, e))
      ]
    ],
  );
  passes_none = λ o after h. elim (Contains-push_cases stops (other, offset) (name, o) h) [
    | inl before ↦ run.passes_none o after before
    | inr same ↦ elim passed [
      | inl differs ↦ absurd (differs (ap (λ (stop : List ℕ × ℕ). stop.0) same))
      | inr behind ↦ let e = ap (λ (stop : List ℕ × ℕ). stop.1) same in absurd (omega (arith, e))
    ]
  ];
}

-- a stop of this file from the position on
pub one_ahead : (stops : List (List ℕ × ℕ)) (name : List ℕ) (position free offset : ℕ) → position ≤ offset
    → IsFreeRun stops name position free → IsFreeRun (stops ++ (name, offset) ∷ []) name position (min free (offset - position))
one_ahead stops name position free offset ahead run = record {
  stopped = (
    λ none. elim (cases_lt 0 free) [
      | inl some ↦ let here : offset ≡ position = omega arith in
          subst (λ o. Contains (stops ++ (name, offset) ∷ []) (name, o)) here (Contains-push stops (name, offset))
      | inr none_free ↦ Contains-append_left stops ((name, offset) ∷ []) (name, position) (run.stopped.0 (omega arith))
    ],
    λ h. elim (Contains-push_cases stops (name, offset) (name, position) h) [
      | inl before ↦ let none = run.stopped.1 before in omega arith
      | inr same ↦ let e = ap (λ (stop : List ℕ × ℕ). stop.1) same in omega (arith, e)
    ],
  );
  passes_none = λ o after h. elim (Contains-push_cases stops (name, offset) (name, o) h) [
    | inl before ↦ let further = run.passes_none o after before in omega arith
    | inr same ↦ let e = ap (λ (stop : List ℕ × ℕ). stop.1) same in omega (arith, e)
  ];
}

-- the stops up to this one
pub one_more : (stops : List Stop) (i : ℕ) (stop : Stop) → i < length stops → stop ≡ get_or stops i stop
    → map stop_of (take (i + 1) stops) ≡ map stop_of (take i stops) ++ (string_bytes stop.name, stop.offset) ∷ []
one_more stops i stop within is = map_more stop_of stops i stop within ∙ ap (λ (s : Stop). map stop_of (take i stops) ++ stop_of s ∷ []) (sym is)

-- the same by an equal name
pub same_stop_name : (name other : List ℕ) (position free offset : ℕ) (stops : List (List ℕ × ℕ)) → other ≡ name
    → IsFreeRun (stops ++ (name, offset) ∷ []) name position free → IsFreeRun (stops ++ (other, offset) ∷ []) name position free
same_stop_name name other position free offset stops same run = subst (λ n. IsFreeRun (stops ++ (n, offset) ∷ []) name position free) (sym same) run

-- names that the code finds different differ
pub names_differ : (name other : List ℕ) → true ≡ not (bytes_eq other name) → other ≢ name
names_differ name other differs same = let equal = (bytes_eq-Decides other name).1 same in cc

-- what is not false is true
twice_not : (b : Bool) → false ≡ not b → b ≡ true
twice_not true h = refl
twice_not false h = absurd (cc)

-- names that the code does not find different are one
pub names_same : (name other : List ℕ) → false ≡ not (bytes_eq other name) → other ≡ name
names_same name other same = (bytes_eq-Decides other name).0 (twice_not (bytes_eq other name) same)
