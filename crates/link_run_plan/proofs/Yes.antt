-- The text of a plan that meets the rules, as its lines are gathered and written.
use Rattle.std.proofs.Common.{◌≡◌, ◌≤◌, ◌++◌, ℕ, List, length, inr, refl, sym, ap, subst, ◌∙◌, append_assoc}
use Rattle.std.specs.Prelude.{codes}
use Rattle.carrier_plan.specs.declared.plan.Plan.{Plan}
use Rattle.link_base.specs.Faults.{Rose}
use Rattle.link_base.specs.Sink.{Taken, AppendsFront}
use Rattle.link_text.specs.Gathered.{Gathers, BreaksOff}
use Rattle.link_text.specs.Printed.{ended, lines_below}
use Rattle.link_text.proofs.Gathering.{breaks_then, front_of_more}
use Rattle.link_run_feed.specs.declared.status.Status.{Status}
use Rattle.link_run_feed.specs.declared.status.Status.TheVariants.{Done, WriteFault}
use Rattle.link_run_feed.specs.Given.{IsGiven}
use Rattle.link_run_feed.proofs.Counting.{given_then, given_all}
use Rattle.link_run_plan.specs.Texts.{delay_line, need_line, yes_text}

module _ (p : Plan) (hand : List ℕ) (yes : hand ≡ ended (codes "yes")) (old : Taken) where
  abbrev delays : List ℕ
  delays = lines_below (delay_line p) (length p.carriers)

  abbrev needs : List ℕ
  needs = lines_below (need_line p) (length p.flows)

  whole : yes_text p ≡ hand ++ (delays ++ needs)
  unfolding yes_text
  whole = ap (λ xs. (xs ++ delays) ++ needs) (sym yes) ∙ append_assoc hand delays needs

  -- a write failed among the lines of the carriers
  pub cut_in_delays : (new : Taken) → BreaksOff delays hand old new → old.faults ≤ new.faults → Rose old.faults new.faults → IsGiven Done (yes_text p) old new WriteFault
  cut_in_delays new front never_falls rose = inr (record {
    status = refl;
    front = subst (λ text. AppendsFront text old new) (append_assoc hand delays needs ∙ sym whole) (front_of_more (hand ++ delays) needs old new front);
    never_falls = never_falls;
    rose = rose;
  })

  module _ (hand1 : List ℕ) (mid : Taken) (first : Gathers delays hand old hand1 mid) (same : mid.faults ≡ old.faults) where
    -- a write failed among the lines of the flows
    pub cut_in_needs : (new : Taken) → BreaksOff needs hand1 mid new → mid.faults ≤ new.faults → Rose mid.faults new.faults → IsGiven Done (yes_text p) old new WriteFault
    cut_in_needs new front never_falls rose = inr (record {
      status = refl;
      front = subst (λ text. AppendsFront text old new) (sym whole) (breaks_then delays needs hand hand1 old mid new first front);
      never_falls = subst (λ n. n ≤ new.faults) same never_falls;
      rose = subst (λ n. Rose n new.faults) same rose;
    })

    -- all lines were gathered, and what is in hand is given
    pub all_given : (hand2 : List ℕ) (mid2 new : Taken) (result : Status) → Gathers needs hand1 mid hand2 mid2 → mid2.faults ≡ mid.faults → IsGiven Done hand2 mid2 new result
        → IsGiven Done (yes_text p) old new result
    all_given hand2 mid2 new result second still given =
        subst (λ text. IsGiven Done text old new result) (sym whole)
        (given_then Done result delays needs hand hand1 old mid new first same (given_all Done result needs hand1 hand2 mid mid2 new second still given))
