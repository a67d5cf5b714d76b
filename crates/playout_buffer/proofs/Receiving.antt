-- What is held is what is received of the packets that are awaited.
use Rattle.std.proofs.Common.{◌≡◌, ◌≢◌, ◌==◌, ℕ, ◌+◌, ◌/◌, Bool, true, false, cond, List, [], ◌∷◌, ◌++◌, filter_map, slice_get, Option, Some, None, refl, sym, ap, subst, ◌∙◌, inl, inr}
use Rattle.std.specs.Cmp.{nat_cmp_total, unsigned_tied}
use Rattle.std.specs.FinMap.{empty, get, get-empty, get-insert, get-retain_keys, insert, nat_cmp-IsAntisymmetric, retain_keys}
use Rattle.std.specs.List.{cons_option}
use Rattle.std.specs.Option.{is_some, option_map}
use Rattle.std.specs.Ordering.{nat_cmp}
use Rattle.std.proofs.lemmas.Bool.{cases_eq, both_ways, eq-eqb, false_from_ne_true, ne_eqb}
use Rattle.std.proofs.lemmas.List.Elements.{filter_map-append}
use Rattle.std.proofs.lemmas.Option.{none-some, same_Some}
use Rattle.playout_buffer.specs.Candidate.{IsCandidate, candidate_of, is_candidate}
use Rattle.playout_buffer.specs.Conditions.{IsWindow}
use Rattle.playout_buffer.specs.declared.put.Put.TheVariants.{Taken, Repeat}
use Rattle.playout_buffer.specs.declared.window.Window.{Window}
use Rattle.playout_buffer.specs.Held.{Payloads, is_awaited, part_of, payloads_with, put_answer}
use Rattle.playout_buffer.specs.Laws.{HeldIsReceived}
use Rattle.playout_buffer.specs.Received.{Arrival, HoldsReceived, arrival_answer, payload_for, received}
use Rattle.playout_buffer.specs.View.{PlayoutView}
use Rattle.playout_buffer.proofs.Awaited.{candidate_awaited, frame_awaited, still_awaited}
use Rattle.playout_buffer.proofs.Candidates.{candidate_from, candidate_of-is, candidate_of-some, candidate_parts}

-- the first of two values
abbrev pub or_else : Option (List ℕ) → Option (List ℕ) → Option (List ℕ)
or_else None y = y
or_else (Some x) y = Some x

pub or_else-none : (x : Option (List ℕ)) → or_else x None ≡ x
or_else-none None = refl
or_else-none (Some x) = refl

neither : (b : Bool) → ◌≡◌ {A = Option (List ℕ)} (cond b None None) None
neither true = refl
neither false = refl

-- what a payload brings for packet i, by its candidate
abbrev pub brought : Option ℕ → List ℕ → ℕ → Option (List ℕ)
brought None payload i = None
brought (Some c) payload i = cond (i == c) (Some payload) None

-- ---- what is received with one more arrival

slice_get-append : (xs ys : List (List ℕ)) → slice_get (xs ++ ys) 0 ≡ or_else (slice_get xs 0) (slice_get ys 0)
slice_get-append [] ys = refl
slice_get-append (x ∷ xs) ys = refl

slice_get-option : (o : Option (List ℕ)) → slice_get (cons_option o []) 0 ≡ o
slice_get-option None = refl
slice_get-option (Some x) = refl

pub received-push : (w : Window) (arrivals : List Arrival) (a : Arrival) (i : ℕ) → received w (arrivals ++ a ∷ []) i ≡ or_else (received w arrivals i) (payload_for w i a)
received-push w arrivals a i =
    ap (λ payloads. slice_get payloads 0) (filter_map-append (payload_for w i) arrivals (a ∷ []))
    ∙ slice_get-append (filter_map (payload_for w i) arrivals) (cons_option (payload_for w i a) [])
    ∙ ap (or_else (received w arrivals i)) (slice_get-option (payload_for w i a))

not_candidate : (w : Window) (t seq i : ℕ) → IsWindow w → (o : Option ℕ) → candidate_of w t seq ≡ o → Some i ≢ o → is_candidate w t seq i ≡ false
not_candidate w t seq i is o found other =
    false_from_ne_true (is_candidate w t seq i) (λ passes. other (sym (candidate_of-some w t seq i is (candidate_parts w t seq i passes)) ∙ found))

pub payload_for-brought : (w : Window) (a : Arrival) (i : ℕ) → IsWindow w → (o : Option ℕ) → candidate_of w a.tick a.seq ≡ o → payload_for w i a ≡ brought o a.payload i
unfolding payload_for
payload_for-brought w a i is None found =
    ap (λ b. cond b (Some a.payload) None) (not_candidate w a.tick a.seq i is None found (λ e. none-some i (sym e)))
payload_for-brought w a i is (Some c) found =
    elim (cases_eq i c) [
      | inl same ↦
          let candidate = subst (λ k. IsCandidate w a.tick a.seq k) (sym same) (candidate_of-is w a.tick a.seq c found) in
          ap (λ b. cond b (Some a.payload) None) (candidate_from w a.tick a.seq i candidate ∙ sym (eq-eqb i c same))
      | inr other ↦
          ap (λ b. cond b (Some a.payload) None) (not_candidate w a.tick a.seq i is (Some c) found (λ e. other (same_Some i c e)) ∙ sym (ne_eqb i c other))
    ]

-- ---- what is held after a payload

get-payloads_with_one : (held : Payloads) (c i : ℕ) (payload : List ℕ) (x : Option (List ℕ)) → get held c ≡ x
    → get (cond (is_some x) held (insert held c payload)) i ≡ or_else (get held i) (cond (i == c) (Some payload) None)
get-payloads_with_one held c i payload None none =
    get-insert nat_cmp_total held c payload i
    ∙ (elim (cases_eq i c) [
      | inl same ↦
          ap (λ b. cond b (Some payload) (get held i)) (unsigned_tied i c ∙ eq-eqb i c same)
          ∙ sym (ap (λ o. or_else o (cond (i == c) (Some payload) None)) (ap (get held) same ∙ none) ∙ ap (λ b. cond b (Some payload) None) (eq-eqb i c same))
      | inr other ↦
          ap (λ b. cond b (Some payload) (get held i)) (unsigned_tied i c ∙ ne_eqb i c other)
          ∙ sym (ap (λ b. or_else (get held i) (cond b (Some payload) None)) (ne_eqb i c other) ∙ or_else-none (get held i))
    ])
get-payloads_with_one held c i payload (Some x) some =
    elim (cases_eq i c) [
      | inl same ↦
          let here : get held i ≡ Some x = ap (get held) same ∙ some in
          here ∙ sym (ap (λ o. or_else o (cond (i == c) (Some payload) None)) here)
      | inr other ↦ sym (ap (λ b. or_else (get held i) (cond b (Some payload) None)) (ne_eqb i c other) ∙ or_else-none (get held i))
    ]

get-payloads_with : (held : Payloads) (o : Option ℕ) (payload : List ℕ) (i : ℕ) → get (payloads_with held o payload) i ≡ or_else (get held i) (brought o payload i)
get-payloads_with held None payload i = sym (or_else-none (get held i))
get-payloads_with held (Some c) payload i = get-payloads_with_one held c i payload (get held c) (λ _. get held c)

-- no payload is brought for a packet that is not awaited
brought_awaited : (w : Window) (t seq i : ℕ) (payload : List ℕ) → IsWindow w → (o : Option ℕ) → candidate_of w t seq ≡ o → is_awaited w t i ≡ false → brought o payload i ≡ None
brought_awaited w t seq i payload is None found past = refl
brought_awaited w t seq i payload is (Some c) found past =
    ap (λ b. cond b (Some payload) None) (ne_eqb i c (λ same. both_ways (is_awaited w t i) past
    (ap (is_awaited w t) same ∙ candidate_awaited w t seq c is (candidate_of-is w t seq c found))))

both_or_none : (b : Bool) (x y : Option (List ℕ)) → (b ≡ false → y ≡ None) → or_else (cond b x None) y ≡ cond b (or_else x y) None
both_or_none true x y none = refl
both_or_none false x y none = none refl

-- ---- the steps

at_first : (w : Window) → HoldsReceived (record { window = w; tick = 0; held = empty }) []
at_first w i = get-empty nat_cmp i ∙ sym (neither (is_awaited w 0 i))

after_put : (v : PlayoutView) (seq : ℕ) (payload : List ℕ) (arrivals : List Arrival) → IsWindow v.window → HoldsReceived v arrivals
    → HoldsReceived (record { window = v.window; tick = v.tick; held = payloads_with v.held (candidate_of v.window v.tick seq) payload })
    (arrivals ++ record { tick = v.tick; seq = seq; payload = payload } ∷ [])
after_put v seq payload arrivals is holds i =
    let w = v.window in
    let o = candidate_of w v.tick seq in
    let a : Arrival = record { tick = v.tick; seq = seq; payload = payload } in
    get-payloads_with v.held o payload i
    ∙ ap (λ x. or_else x (brought o payload i)) (holds i)
    ∙ both_or_none (is_awaited w v.tick i) (received w arrivals i) (brought o payload i) (brought_awaited w v.tick seq i payload is o (λ _. o))
    ∙ ap (λ x. cond (is_awaited w v.tick i) x None) (sym (received-push w arrivals a i ∙ ap (or_else (received w arrivals i)) (payload_for-brought w a i is o (λ _. o))))

twice : (w : Window) (t i : ℕ) (next : Bool) (x : Option (List ℕ)) → is_awaited w (t + 1) i ≡ next → cond next (cond (is_awaited w t i) x None) None ≡ cond next x None
twice w t i true x later = ap (λ b. cond b x None) (still_awaited w t i later)
twice w t i false x later = refl

after_advance : (v : PlayoutView) (arrivals : List Arrival) → HoldsReceived v arrivals
    → HoldsReceived (record { window = v.window; tick = v.tick + 1; held = retain_keys v.held (is_awaited v.window (v.tick + 1)) }) arrivals
after_advance v arrivals holds i =
    let w = v.window in
    get-retain_keys v.held (is_awaited w (v.tick + 1)) i (λ x tied. ap (is_awaited w (v.tick + 1)) (sym (nat_cmp-IsAntisymmetric i x tied)))
    ∙ ap (λ x. cond (is_awaited w (v.tick + 1) i) x None) (holds i)
    ∙ twice w v.tick i (is_awaited w (v.tick + 1) i) (received w arrivals i) (λ _. is_awaited w (v.tick + 1) i)

-- of a packet that is awaited, what is held is what is received
held_of_awaited : (v : PlayoutView) (arrivals : List Arrival) (i : ℕ) → HoldsReceived v arrivals → is_awaited v.window v.tick i ≡ true → get v.held i ≡ received v.window arrivals i
held_of_awaited v arrivals i holds awaited = holds i ∙ ap (λ b. cond b (received v.window arrivals i) None) awaited

answer_by_candidate : (v : PlayoutView) (seq : ℕ) (arrivals : List Arrival) → IsWindow v.window → HoldsReceived v arrivals
    → (o : Option ℕ) → candidate_of v.window v.tick seq ≡ o → put_answer v.held o ≡ arrival_answer v.window arrivals o
answer_by_candidate v seq arrivals is holds None found = refl
answer_by_candidate v seq arrivals is holds (Some i) found =
    ap (λ x. cond (is_some x) (Repeat i) (Taken i))
    (held_of_awaited v arrivals i holds (candidate_awaited v.window v.tick seq i is (candidate_of-is v.window v.tick seq i found)))

pub held_is_received : HeldIsReceived
held_is_received = record {
  at_first = at_first;
  after_put = after_put;
  after_advance = after_advance;
  answer = λ v seq arrivals is holds. answer_by_candidate v seq arrivals is holds (candidate_of v.window v.tick seq) (λ _. candidate_of v.window v.tick seq);
  part = λ v n arrivals is played holds. ap (option_map (part_of v.window n)) (held_of_awaited v arrivals (n / v.window.frames) holds (frame_awaited v.window v.tick n is played));
}
