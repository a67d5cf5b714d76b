-- A summary by its parts.
use Rattle.std.proofs.Common.{◌≡◌, ℕ, ◌+◌, ◌*◌, List, length, count_by, get_or, Some, Result, Ok, Err, IfOk, ap, ◌∙◌}
use Rattle.carrier_plan.specs.declared.plan.Plan.{Plan}
use Rattle.link_receiver.specs.declared.entry.Entry.{Entry}
use Rattle.plan_checker.specs.WordSize.{word_size}
use Rattle.link_sender.specs.Senders.{zero_sample}
use Rattle.link_sender.specs.Stream.{sample_at}
use Rattle.sample_bits.specs.declared.iq.RawIq.{RawIq}
use Rattle.link_drill.specs.declared.fates.Fate.{Fate}
use Rattle.link_drill.specs.declared.summary.Summary.{Summary}
use Rattle.link_drill.specs.Draws.{drawn_samples}
use Rattle.link_drill.specs.DrillPlan.{drill_plan}
use Rattle.link_drill.specs.DrillStream.{drawn_place, drill_stream}
use Rattle.link_drill.specs.Fates.{fates_of, is_lost, is_repeated}
use Rattle.link_drill.specs.InRun.{IsInRun}
use Rattle.link_drill.specs.Summary.{entries_by, equal_in, is_equal, is_same, is_value, marked_in, option_of, summary_by, summary_in, summary_of}
use Rattle.link_drill.proofs.SendSteps.{drill_sample_at}

abbrev by_plan : (number option Y : ℕ) → Plan → Summary
by_plan number option Y p =
    summary_by option Y (drawn_samples number (4 * (256 * Y))) (fates_of number (1 + 2 * (4 * (256 * Y))) 65)
    (entries_by p Y (drawn_samples number (4 * (256 * Y))) (fates_of number (1 + 2 * (4 * (256 * Y))) 65))

pub summary_is : (number option Y : ℕ) (p : Plan) (drawn : List RawIq) (fates : List Fate) (given : Summary)
    → option ≡ option_of number → p ≡ drill_plan option → Y ≡ word_size option → drawn ≡ drawn_samples number (4 * (256 * Y))
    → fates ≡ fates_of number (1 + 2 * (4 * (256 * Y))) 65 → given ≡ summary_by option Y drawn fates (entries_by p Y drawn fates) → given ≡ summary_of number
unfolding summary_of
summary_is number option Y p drawn fates given e_option e_plan e_words e_drawn e_fates e_given =
    e_given ∙ ap (λ d. summary_by option Y d fates (entries_by p Y d fates)) e_drawn ∙ ap (λ fs. summary_by option Y (drawn_samples number (4 * (256 * Y))) fs (entries_by p Y (drawn_samples number (4 * (256 * Y))) fs)) e_fates
    ∙ ap (λ q. by_plan number option Y q) e_plan ∙ ap (summary_in number option) e_words ∙ ap (λ o. summary_in number o (word_size o)) e_option

-- ---- the counts

abbrev made : (option samples equal marked lost repeated : ℕ) → Summary
made option samples equal marked lost repeated = record {
  option = option;
  samples = samples;
  equal = equal;
  marked = marked;
  lost = lost;
  repeated = repeated;
}

pub made_is : (option Y : ℕ) (drawn : List RawIq) (fates : List Fate) (entries : List Entry) (o samples equal marked lost repeated : ℕ) → o ≡ option → samples ≡ length entries
    → equal ≡ equal_in (drill_stream Y 256 drawn) entries → marked ≡ marked_in entries → lost ≡ count_by is_lost fates → repeated ≡ count_by is_repeated fates
    → made o samples equal marked lost repeated ≡ summary_by option Y drawn fates entries
unfolding summary_by
made_is option Y drawn fates entries o samples equal marked lost repeated e_o e_samples e_equal e_marked e_lost e_repeated =
    ap (λ x. made x samples equal marked lost repeated) e_o ∙ ap (λ x. made option x equal marked lost repeated) e_samples
    ∙ ap (λ x. made option (length entries) x marked lost repeated) e_equal ∙ ap (λ x. made option (length entries) (equal_in (drill_stream Y 256 drawn) entries) x lost repeated) e_marked
    ∙ ap (λ x. made option (length entries) (equal_in (drill_stream Y 256 drawn) entries) (marked_in entries) x repeated) e_lost
    ∙ ap (λ x. made option (length entries) (equal_in (drill_stream Y 256 drawn) entries) (marked_in entries) (count_by is_lost fates) x) e_repeated

-- whether an entry of the run has its sample's value
pub equal_by : (Y h : ℕ) (drawn : List RawIq) (e : Entry) (value : RawIq) → IsInRun Y h e → e.value ≡ Some value
    → is_equal (drill_stream Y h drawn) e ≡ is_same value (get_or drawn (drawn_place Y e.carrier e.number) zero_sample)
equal_by Y h drawn e value run is =
    ap (λ v. is_value v (sample_at (drill_stream Y h drawn) e.carrier e.number)) is
    ∙ ap (is_same value) (drill_sample_at Y h drawn e.carrier e.number run.carrier run.number)

pub ok_more : {T E : Type 0} (P Q : T → Type 0) (r : Result T E) → ((x : T) → P x → Q x) → IfOk r P → IfOk r Q
ok_more P Q (Ok x) more holds = more x holds
ok_more P Q (Err e) more holds = tt
