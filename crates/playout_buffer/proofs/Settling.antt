-- What later arrivals leave as it is, and how many packets are received.
use Rattle.std.proofs.Common.{◌≡◌, ◌≢◌, ℕ, zero, suc, ◌+◌, ◌<◌, ◌≤◌, Bool, true, false, cond, List, [], ◌∷◌, ◌++◌, All, count_by, filter_map, slice_get, Option, Some, None, arith, refl, sym, ap, ◌∙◌, inl, inr}
use Rattle.std.specs.List.{cons_option, range_with_len}
use Rattle.std.specs.Option.{is_some}
use Rattle.std.proofs.lemmas.Bool.{cases_eq, eq-eqb, false_from_ne_true, ne_eqb}
use Rattle.std.proofs.lemmas.List.{append-nil}
use Rattle.std.proofs.lemmas.List.Elements.{All-head, All-tail, filter_map-append}
use Rattle.std.proofs.lemmas.List.Sums.{sum_by-cons}
use Rattle.link_base.specs.Window.{last_frame}
use Rattle.playout_buffer.specs.Candidate.{candidate_of}
use Rattle.playout_buffer.specs.Conditions.{IsWindow}
use Rattle.playout_buffer.specs.declared.put.Put.TheVariants.{Taken, Repeat}
use Rattle.playout_buffer.specs.declared.window.Window.{Window}
use Rattle.playout_buffer.specs.Laws.{ReceivedIsSettled, TakenAreCounted}
use Rattle.playout_buffer.specs.Received.{Arrival, arrival_answer, is_taken, payload_for, received, taken}
use Rattle.playout_buffer.proofs.Candidates.{candidate_of-is, candidate_parts}
use Rattle.playout_buffer.proofs.Receiving.{brought, or_else, or_else-none, payload_for-brought, received-push}

-- ---- later arrivals

payload_for-late : (w : Window) (i : ℕ) (a : Arrival) → last_frame w.frames i + w.lmax < a.tick → payload_for w i a ≡ None
unfolding payload_for
payload_for-late w i a late =
    ap (λ b. cond b (Some a.payload) None) (false_from_ne_true _ (λ passes.
    let end = (candidate_parts w a.tick a.seq i passes).arrives.1 in absurd (omega arith)))

none_brought : (w : Window) (i : ℕ) (later : List Arrival) → All (λ a. last_frame w.frames i + w.lmax < a.tick) later → filter_map (payload_for w i) later ≡ []
none_brought w i [] late = refl
none_brought w i (a ∷ later) late =
    ap (λ o. cons_option o (filter_map (payload_for w i) later)) (payload_for-late w i a (All-head (λ (b : Arrival). last_frame w.frames i + w.lmax < b.tick) a later late))
    ∙ none_brought w i later (All-tail (λ (b : Arrival). last_frame w.frames i + w.lmax < b.tick) a later late)

pub received_is_settled : ReceivedIsSettled
received_is_settled w i arrivals later late =
    ap (λ payloads. slice_get payloads 0)
    (filter_map-append (payload_for w i) arrivals later
    ∙ ap (λ more. filter_map (payload_for w i) arrivals ++ more) (none_brought w i later late) ∙ append-nil (filter_map (payload_for w i) arrivals))

-- ---- how many are received

-- a test that counts
abbrev counted_as : Bool → ℕ
counted_as b = cond b 1 0

count-cons : (p : ℕ → Bool) (a n : ℕ) → count_by p (range_with_len a (suc n)) ≡ counted_as (p a) + count_by p (range_with_len (a + 1) n)
count-cons p a n = sum_by-cons (λ i. cond (p i) 1 0) a (range_with_len (a + 1) n)

same_count : (p q : ℕ → Bool) (a n : ℕ) → ((i : ℕ) → a ≤ i → q i ≡ p i) → count_by q (range_with_len a n) ≡ count_by p (range_with_len a n)
same_count p q a zero same = refl
same_count p q a (suc n) same =
    count-cons q a n ∙ ap (λ b. counted_as b + count_by q (range_with_len (a + 1) n)) (same a (omega arith))
    ∙ ap (λ k. counted_as (p a) + k) (same_count p q (a + 1) n (λ i less. same i (omega arith))) ∙ sym (count-cons p a n)

one_more : (p q : ℕ → Bool) (a n c : ℕ) → a ≤ c → c < a + n → p c ≡ false → q c ≡ true → ((i : ℕ) → i ≢ c → q i ≡ p i)
    → count_by q (range_with_len a n) ≡ count_by p (range_with_len a n) + 1
one_more p q a zero c low high was is same = absurd (omega arith)
one_more p q a (suc n) c low high was is same =
    let left = count-cons p a n in
    let right = count-cons q a n in
    elim (cases_eq a c) [
      | inl here ↦
          let now : counted_as (q a) ≡ 1 = ap (λ k. counted_as (q k)) here ∙ ap counted_as is in
          let before : counted_as (p a) ≡ 0 = ap (λ k. counted_as (p k)) here ∙ ap counted_as was in
          let rest = same_count p q (a + 1) n (λ i less. same i (λ e. absurd (omega arith))) in
          omega arith
      | inr other ↦
          let first : counted_as (q a) ≡ counted_as (p a) = ap counted_as (same a other) in
          let rest = one_more p q (a + 1) n c (omega arith) (omega arith) was is same in
          omega arith
    ]

module _ (w : Window) (arrivals : List Arrival) (a : Arrival) (is : IsWindow w) where
  abbrev before : ℕ → Bool
  before i = is_some (received w arrivals i)

  abbrev after : ℕ → Bool
  after i = is_some (received w (arrivals ++ a ∷ []) i)

  received_after : (o : Option ℕ) → candidate_of w a.tick a.seq ≡ o → (i : ℕ) → received w (arrivals ++ a ∷ []) i ≡ or_else (received w arrivals i) (brought o a.payload i)
  received_after o found i = received-push w arrivals a i ∙ ap (or_else (received w arrivals i)) (payload_for-brought w a i is o found)

  unchanged : (o : Option ℕ) → candidate_of w a.tick a.seq ≡ o → (i : ℕ) → brought o a.payload i ≡ None → after i ≡ before i
  unchanged o found i none = ap is_some (received_after o found i ∙ ap (or_else (received w arrivals i)) none ∙ or_else-none (received w arrivals i))

  others : (c : ℕ) → candidate_of w a.tick a.seq ≡ Some c → (i : ℕ) → i ≢ c → after i ≡ before i
  others c found i other = unchanged (Some c) found i (ap (λ b. cond b (Some a.payload) None) (ne_eqb i c other))

  by_candidate : (c : ℕ) → candidate_of w a.tick a.seq ≡ Some c → (x : Option (List ℕ)) → received w arrivals c ≡ x
      → count_by after (range_with_len 0 w.packets) ≡ count_by before (range_with_len 0 w.packets) + cond (is_taken (cond (is_some x) (Repeat c) (Taken c))) 1 0
  by_candidate c found None none =
      let within = (candidate_of-is w a.tick a.seq c found).within in
      let now : received w (arrivals ++ a ∷ []) c ≡ Some a.payload
      = received_after (Some c) found c ∙ ap (λ x. or_else x (brought (Some c) a.payload c)) none ∙ ap (λ b. cond b (Some a.payload) None) (eq-eqb c c refl) in
      one_more before after 0 w.packets c (omega arith) (omega arith) (ap is_some none) (ap is_some now) (others c found)
  by_candidate c found (Some x) some =
      let alike : (i : ℕ) → 0 ≤ i → after i ≡ before i =
      λ i low. elim (cases_eq i c) [
        | inl here ↦
            let now : received w (arrivals ++ a ∷ []) c ≡ Some x = received_after (Some c) found c ∙ ap (λ y. or_else y (brought (Some c) a.payload c)) some in
            ap after here ∙ ap is_some now ∙ sym (ap before here ∙ ap is_some some)
        | inr other ↦ others c found i other
      ] in
      let same = same_count before after 0 w.packets alike in
      omega arith

  counted : (o : Option ℕ) → candidate_of w a.tick a.seq ≡ o → taken w (arrivals ++ a ∷ []) ≡ taken w arrivals + cond (is_taken (arrival_answer w arrivals o)) 1 0
  unfolding taken
  counted None found = let same = same_count before after 0 w.packets (λ i low. unchanged None found i refl) in omega arith
  counted (Some c) found = by_candidate c found (received w arrivals c) (λ _. received w arrivals c)

pub taken_are_counted : TakenAreCounted
taken_are_counted w arrivals a is = counted w arrivals a is (candidate_of w a.tick a.seq) (λ _. candidate_of w a.tick a.seq)
