-- The capture that is printed of a stream is that of the records that are sent.
use Rattle.std.proofs.Common.{codes, ◌≡◌, ℕ, ◌-◌, List, [], ◌∷◌, ◌++◌, map, refl, sym, ap, ◌∙◌, arith, append_assoc, append-nil}
use Rattle.std.specs.List.{flat_map, range_with_len}
use Rattle.std.proofs.lemmas.List.Concat.{flat_map-append}
use Rattle.carrier_plan.specs.declared.plan.Flow.{Flow}
use Rattle.carrier_plan.specs.declared.plan.Plan.{Plan}
use Rattle.link_base.specs.Record.{Record}
use Rattle.link_run_capture.specs.Written.{header_text}
use Rattle.link_run_capture.specs.declared.header.Header.{Header}
use Rattle.link_run_send.specs.SentText.{flow_text, last_tick, opening_at, packets_text, text_between, tick_text}
use Rattle.link_run_send.specs.WholeText.{whole_text}
use Rattle.link_run_send.specs.declared.run_output.Output.TheVariants.{Packets}
use Rattle.link_sender.specs.Stream.{Stream}
use Rattle.link_text.specs.Printed.{ended}
use Rattle.plan_checker.specs.Run.{ticks_of_run}
use Rattle.link_run_laws.specs.SentRecords.{flow_records, sent_records, tick_records}
use Rattle.link_run_laws.proofs.ReadCaptures.{line_of}
use Rattle.link_run_laws.proofs.SentPackets.{record_of}

-- ---- pieces of pieces

flat_map-flat_map : {X Y Z : Type 0} (g : Y → List Z) (f : X → List Y) (xs : List X) → flat_map g (flat_map f xs) ≡ flat_map (λ x. flat_map g (f x)) xs
flat_map-flat_map g f [] = refl
flat_map-flat_map g f (x ∷ xs) = flat_map-append g (f x) (flat_map f xs) ∙ ap (λ zs. flat_map g (f x) ++ zs) (flat_map-flat_map g f xs)

flat_map-map : {X Y Z : Type 0} (g : Y → List Z) (f : X → Y) (xs : List X) → flat_map g (map f xs) ≡ flat_map (λ x. g (f x)) xs
flat_map-map g f [] = refl
flat_map-map g f (x ∷ xs) = ap (λ zs. g (f x) ++ zs) (flat_map-map g f xs)

flat_map-agree : {X Y : Type 0} (f g : X → List Y) → ((x : X) → f x ≡ g x) → (xs : List X) → flat_map f xs ≡ flat_map g xs
flat_map-agree f g same [] = refl
flat_map-agree f g same (x ∷ xs) = ap (λ ys. ys ++ flat_map f xs) (same x) ∙ ap (λ ys. g x ++ ys) (flat_map-agree f g same xs)

-- ---- the lines of the records

abbrev printed_line : Record → List ℕ
printed_line r = ended (line_of r)

module _ (p : Plan) (h : ℕ) (σ : Stream) where
  of_flow : (t : ℕ) (f : Flow) → flat_map printed_line (flow_records p h σ t f) ≡ flow_text p h σ t f
  unfolding flow_records flow_text
  of_flow t f = flat_map-map printed_line (record_of p h σ t f) (opening_at p h f t)

  of_tick : (t : ℕ) → flat_map printed_line (tick_records p h σ t) ≡ tick_text Packets p h σ t
  unfolding tick_records packets_text
  of_tick t =
      flat_map-flat_map printed_line (flow_records p h σ t) p.flows
      ∙ flat_map-agree (λ f. flat_map printed_line (flow_records p h σ t f)) (flow_text p h σ t) (of_flow t) p.flows

  of_run : flat_map printed_line (sent_records p h σ) ≡ text_between Packets p h σ 0 (last_tick Packets p h)
  unfolding sent_records text_between
  of_run =
      let end = ticks_of_run p h in
      let all : end ≡ end - 0 = omega arith in
      flat_map-flat_map printed_line (tick_records p h σ) (range_with_len 0 end)
      ∙ flat_map-agree (λ t. flat_map printed_line (tick_records p h σ t)) (tick_text Packets p h σ) of_tick (range_with_len 0 end)
      ∙ ap (λ n. flat_map (tick_text Packets p h σ) (range_with_len 0 n)) all

pub capture_lines : (p : Plan) (header : Header) (σ : Stream)
    → whole_text Packets p header σ ≡ flat_map ended (header_text header ∷ (map line_of (sent_records p header.run_ticks σ) ++ codes "end" ∷ []))
capture_lines p header σ =
    let h = header.run_ticks in
    let records = sent_records p h σ in
    let first = ended (header_text header) in
    let text = text_between Packets p h σ 0 (last_tick Packets p h) in
    let last = ended (codes "end") in
    let is : text ≡ flat_map ended (map line_of records) = sym (of_run p h σ) ∙ sym (flat_map-map ended line_of records) in
    append_assoc first text last
    ∙ ap (λ all. first ++ (all ++ last)) is
    ∙ ap (λ more. first ++ (flat_map ended (map line_of records) ++ more)) (sym (append-nil last))
    ∙ ap (λ all. first ++ all) (sym (flat_map-append ended (map line_of records) (codes "end" ∷ [])))
