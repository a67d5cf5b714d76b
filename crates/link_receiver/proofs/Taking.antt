-- What is kept of a flow after a record.
use Rattle.std.proofs.Common.{◌≡◌, ℕ, ◌+◌, ◌≤◌, min, Bool, true, false, cond, List, [], ◌∷◌, ◌++◌, append-nil, Some, None, sym, ap, ◌∙◌, subst, arith}
use Rattle.std.specs.List.{cons_option, range_with_len}
use Rattle.std.specs.Option.{is_some}
use Rattle.std.proofs.lemmas.List.Elements.{filter_map-append}
use Rattle.std.proofs.lemmas.List.FromFn.{length-range_with_len}
use Rattle.std.proofs.lemmas.List.Sums.{count_by-le-length}
use Rattle.std.proofs.Math.Nat.{min-eq_left}
use Rattle.carrier_plan.specs.declared.plan.Flow.{Flow}
use Rattle.carrier_plan.specs.declared.plan.Plan.{Plan}
use Rattle.link_base.specs.Record.{Record}
use Rattle.playout_buffer.specs.Candidate.{candidate_of}
use Rattle.playout_buffer.specs.Conditions.{IsWindow}
use Rattle.playout_buffer.specs.Held.{payloads_with, put_answer}
use Rattle.playout_buffer.specs.Laws.{HeldIsReceived, TakenAreCounted}
use Rattle.playout_buffer.specs.Received as buffer
use Rattle.playout_buffer.specs.Received.{Arrival, arrival_answer, is_taken}
use Rattle.playout_buffer.specs.declared.put.Put.{Put}
use Rattle.playout_buffer.specs.declared.window.Window.{Window}
use Rattle.roe_header.specs.Layout.{parsed}
use Rattle.link_receiver.specs.Received.{taken}
use Rattle.link_receiver.specs.Records.{arrival_by, arrival_of, arrivals_of, window_of}
use Rattle.link_receiver.specs.Sessions.{KeepsFlow, StandsForFlow}
use Rattle.link_receiver.specs.declared.flow_in_hand.FlowInHand.{FlowInHand}

abbrev pub at_tick : ℕ → List ℕ → Record
at_tick t octets = record { tick = t; octets = octets }

-- the arrivals of a flow after one more record
pub arrivals-more : (p : Plan) (f : Flow) (records : List Record) (r : Record) → arrivals_of p f (records ++ r ∷ []) ≡ arrivals_of p f records ++ cons_option (arrival_of p f r) []
arrivals-more p f records r = filter_map-append (arrival_of p f) records (r ∷ [])

pub arrivals-same : (p : Plan) (f : Flow) (records : List Record) (t : ℕ) (octets : List ℕ) → arrival_by p f t (parsed octets) ≡ None → arrivals_of p f (records ++ at_tick t octets ∷ []) ≡ arrivals_of p f records
arrivals-same p f records t octets none =
    arrivals-more p f records (at_tick t octets) ∙ ap (λ o. arrivals_of p f records ++ cons_option o []) none ∙ append-nil (arrivals_of p f records)

taken-same : (p : Plan) (f : Flow) (h : ℕ) (records more : List Record) → arrivals_of p f more ≡ arrivals_of p f records → taken p f h more ≡ taken p f h records
unfolding taken
taken-same p f h records more same = ap (buffer.taken (window_of p f h)) same

-- a record that brings nothing for the flow changes nothing of it
pub stands-same : (p : Plan) (h : ℕ) (records : List Record) (f : Flow) (kept : FlowInHand) (t : ℕ) (octets : List ℕ) → arrival_by p f t (parsed octets) ≡ None
    → StandsForFlow p h records f kept → StandsForFlow p h (records ++ at_tick t octets ∷ []) f kept
stands-same p h records f kept t octets none stands =
    let same = arrivals-same p f records t octets none in record {
      held = subst (buffer.HoldsReceived kept.playout) (sym same) stands.held;
      taken = stands.taken ∙ sym (taken-same p f h records (records ++ at_tick t octets ∷ []) same);
    }

-- ---- a payload that arrives for the flow

buffer-few : (w : Window) (arrivals : List Arrival) → buffer.taken w arrivals ≤ w.packets
unfolding buffer.taken
buffer-few w arrivals =
    let few = count_by-le-length (λ i. is_some (buffer.received w arrivals i)) (range_with_len 0 w.packets) in
    let long = length-range_with_len 0 w.packets in
    omega (arith, few, long)

pub taken-few : (p : Plan) (f : Flow) (h : ℕ) (records : List Record) → taken p f h records ≤ (window_of p f h).packets
unfolding taken
taken-few p f h records = buffer-few (window_of p f h) (arrivals_of p f records)

taken-more : (p : Plan) (f : Flow) (h : ℕ) (records : List Record) (t : ℕ) (octets : List ℕ) (a : Arrival) → TakenAreCounted → IsWindow (window_of p f h) → arrival_by p f t (parsed octets) ≡ Some a
    → taken p f h (records ++ at_tick t octets ∷ []) ≡ taken p f h records + cond (is_taken (arrival_answer (window_of p f h) (arrivals_of p f records) (candidate_of (window_of p f h) a.tick a.seq))) 1 0
unfolding taken
taken-more p f h records t octets a counted is brings =
    ap (buffer.taken (window_of p f h)) (arrivals-more p f records (at_tick t octets) ∙ ap (λ o. arrivals_of p f records ++ cons_option o []) brings)
    ∙ counted (window_of p f h) (arrivals_of p f records) a is

counted-by : (b : Bool) (n m : ℕ) → n + cond b 1 0 ≤ 18446744073709551615 → m ≡ n → cond b (min (m + 1) 18446744073709551615) m ≡ n + cond b 1 0
counted-by true n m few same = min-eq_left (omega arith) ∙ omega arith
counted-by false n m few same = omega arith

-- what a flow that keeps its window becomes with a payload
pub record Takes (kept kept' : FlowInHand) (seq : ℕ) (payload : List ℕ) (answer : Put) : Type 0 where
  pub answered : answer ≡ put_answer kept.playout.held (candidate_of kept.playout.window kept.playout.tick seq)
  pub held : kept'.playout ≡ record { window = kept.playout.window; tick = kept.playout.tick; held = payloads_with kept.playout.held (candidate_of kept.playout.window kept.playout.tick seq) payload }
  pub taken : kept'.taken ≡ cond (is_taken answer) (min (kept.taken + 1) 18446744073709551615) kept.taken

module _ (p : Plan) (h : ℕ) (records : List Record) (f : Flow) (kept : FlowInHand) (t seq : ℕ) (octets payload : List ℕ) (answer : Put)
    (law : HeldIsReceived) (counted : TakenAreCounted) (is : IsWindow (window_of p f h)) (keeps : KeepsFlow p h t f kept)
    (brings : arrival_by p f t (parsed octets) ≡ Some (record { tick = t; seq = seq; payload = payload })) (stands : StandsForFlow p h records f kept) where
  abbrev arrival : Arrival
  arrival = record { tick = t; seq = seq; payload = payload }

  is_here : IsWindow kept.playout.window
  is_here = subst IsWindow (sym keeps.window) is

  candidates : candidate_of kept.playout.window kept.playout.tick seq ≡ candidate_of (window_of p f h) t seq
  candidates = ap (λ w. candidate_of w kept.playout.tick seq) keeps.window ∙ ap (λ u. candidate_of (window_of p f h) u seq) keeps.tick

  pub answer-received : answer ≡ put_answer kept.playout.held (candidate_of kept.playout.window kept.playout.tick seq)
      → answer ≡ arrival_answer (window_of p f h) (arrivals_of p f records) (candidate_of (window_of p f h) t seq)
  answer-received answered =
      answered ∙ law.answer kept.playout seq (arrivals_of p f records) is_here stands.held
      ∙ ap (arrival_answer kept.playout.window (arrivals_of p f records)) candidates
      ∙ ap (λ w. arrival_answer w (arrivals_of p f records) (candidate_of (window_of p f h) t seq)) keeps.window

  pub stands-taken : (kept' : FlowInHand) → Takes kept kept' seq payload answer → StandsForFlow p h (records ++ at_tick t octets ∷ []) f kept'
  stands-taken kept' takes =
      let more : arrivals_of p f (records ++ at_tick t octets ∷ []) ≡ arrivals_of p f records ++ arrival ∷ []
      = arrivals-more p f records (at_tick t octets) ∙ ap (λ o. arrivals_of p f records ++ cons_option o []) brings in
      let after = law.after_put kept.playout seq payload (arrivals_of p f records) is_here stands.held in
      let arrived = subst (λ u. buffer.HoldsReceived (record { window = kept.playout.window; tick = kept.playout.tick; held = payloads_with kept.playout.held (candidate_of kept.playout.window kept.playout.tick seq) payload })
      (arrivals_of p f records ++ record { tick = u; seq = seq; payload = payload } ∷ [])) keeps.tick after in
      let count = taken-more p f h records t octets arrival counted is brings in
      let few = taken-few p f h (records ++ at_tick t octets ∷ []) in
      let few_packets = is.few_packets in record {
        held = subst (buffer.HoldsReceived kept'.playout) (sym more) (subst (λ v. buffer.HoldsReceived v (arrivals_of p f records ++ arrival ∷ [])) (sym takes.held) arrived);
        taken = takes.taken ∙ ap (λ a. cond (is_taken a) (min (kept.taken + 1) 18446744073709551615) kept.taken) (answer-received takes.answered)
            ∙ counted-by (is_taken (arrival_answer (window_of p f h) (arrivals_of p f records) (candidate_of (window_of p f h) t seq))) (taken p f h records) kept.taken (omega (arith, count, few, few_packets)) stands.taken
            ∙ sym count;
      }
