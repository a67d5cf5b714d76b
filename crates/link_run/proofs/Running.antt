-- The promise of a call, from that of its form.
use Rattle.std.proofs.Common.{◌≡◌, inl, inr, ◌∷◌, [], ℕ, ◌+◌, ◌-◌, ◌<◌, leb, List, IsTrue, refl, sym, ◌∙◌, subst, false, arith}
use Rattle.std.specs.Prelude.{codes}
use Rattle.std.proofs.lemmas.Bool.{cases_Bool, cond-false, cond-true, leb-true}
use Rattle.carrier_plan.specs.declared.plan.Plan.{Plan}
use Rattle.link_base.specs.Record.{Record}
use Rattle.link_base.specs.Shelf.{Files, Shown}
use Rattle.link_base.specs.Sink.{Taken}
use Rattle.link_text.proofs.Gathering.{appends_none}
use Rattle.link_run_feed.specs.declared.status.Status.{Status}
use Rattle.link_run_feed.specs.declared.status.Status.TheVariants.{Done, Usage}
use Rattle.link_run_feed.specs.Course.{says}
use Rattle.link_run_feed.specs.Promises.{Promises}
use Rattle.link_run_feed.proofs.Courses.{answered}
use Rattle.link_run_plan.specs.ChecksPlan.{ChecksPlan}
use Rattle.link_run_plan.proofs.Checks.{checks}
use Rattle.link_run_replay.specs.WholeText.{ReplaysCapture}
use Rattle.link_run_replay.proofs.Replays.{replays}
use Rattle.link_run_replay.specs.RunText.{lines_of_frame, management_lines, words_below}
use Rattle.link_run_send.specs.SendsFile.{SendsFile}
use Rattle.link_run_send.specs.declared.run_output.Output.TheVariants.{Packets, Symbols}
use Rattle.link_run_send.proofs.FilesSent.{FilesAreSent-holds}
use Rattle.link_run_delay.specs.Delay.{SamplesAreDelayed}
use Rattle.link_run_delay.specs.ManagementArrives.{ManagementArrives, ManagementIsPrinted, arriving_lines}
use Rattle.link_run_delay.proofs.PlainPlans.{IsPlain-plan_of}
use Rattle.link_sender.specs.Stream.{Stream}
use Rattle.plan_checker.specs.Run.{longest_block, ticks_of_run}
use Rattle.plan_checker.specs.WordSize.{word_size}
use Rattle.link_run.specs.Arrives.{lines_at}
use Rattle.link_run.specs.Call.{call_of, course_of, reads_feed}
use Rattle.link_run.specs.Plays.{PlaysCapture}

-- words of no form
pub of_no_form : (shelf : Shown) (sink : Taken) → Promises false (says Usage []) shelf shelf sink sink Usage
of_no_form shelf sink =
    answered false (says Usage []) shelf shelf sink sink (record { status = Usage; text = [] }) Usage (record { tells = refl; held = λ told. refl }) refl refl (λ line reason bad. absurd (cc)) (λ told. refl)
    (inl (record { status = refl; written = appends_none sink; count = refl }))

-- At a tick the lines about the frame that is played are printed.
printed_at : (p : Plan) (h : ℕ) (σ : Stream) (records : List Record) (t : ℕ) → ManagementIsPrinted p h σ records (h + longest_block p) → t < ticks_of_run p h
    → management_lines p h σ.announcement records t ≡ lines_at p σ t
unfolding management_lines lines_of_frame words_below
printed_at p h σ records t printed lt =
    let played = lines_of_frame p h σ.announcement records t (t - p.playout) in
    let sent = arriving_lines (word_size p.option) σ t (t - p.playout) in
    elim (cases_Bool (leb p.playout t)) [
      | inl late ↦
          cond-true (leb p.playout t) played [] late
          ∙ printed.lines t (t - p.playout) (omega (arith, leb-true p.playout t late))
          ∙ sym (cond-true (leb p.playout t) sent [] late)
      | inr early ↦ cond-false (leb p.playout t) played [] early ∙ sym (cond-false (leb p.playout t) sent [] early)
    ]

-- a replay that is done has played its capture
plays_capture : SamplesAreDelayed → ManagementArrives → (plan capture : List ℕ) (held : Files) (sink sink' : Taken) → ReplaysCapture plan capture held sink sink' → PlaysCapture plan capture held sink sink'
plays_capture delayed arrives plan capture held sink sink' all =
    let plain = IsPlain-plan_of all.octets all.p all.is_plan in
    let h = all.header.run_ticks in
    record {
      replays = all;
      plays = λ σ stream unaltered fresh. delayed all.p h σ all.records all.good plain stream unaltered fresh;
      arrives = λ σ stream unaltered fresh announced whole.
          let printed = arrives all.p h σ all.records all.good plain stream unaltered fresh whole in
          record {
            ticks = λ t lt. printed_at all.p h σ all.records t printed lt;
            frames = printed;
          };
    }

-- what a call of these words promises
abbrev pub Keeps : List (List ℕ) → Shown → Shown → Taken → Taken → Status → Type 0
Keeps words shelf shelf' sink sink' status = Promises (reads_feed (call_of words)) (course_of (call_of words) shelf.held) shelf shelf' sink sink' status

module _ (words : List (List ℕ)) (shelf shelf' : Shown) (sink sink' : Taken) (status : Status) (keeps : Keeps words shelf shelf' sink sink' status) where
  pub checks_words : (plan : List ℕ) → words ≡ codes "check" ∷ plan ∷ [] → IsTrue shelf.tells → ChecksPlan plan shelf.held sink sink' status
  checks_words plan is told = checks plan shelf shelf' sink sink' status (subst (λ w. Keeps w shelf shelf' sink sink' status) is keeps) told

  pub plays_words : SamplesAreDelayed → ManagementArrives → (plan capture : List ℕ) → words ≡ codes "replay" ∷ plan ∷ capture ∷ [] → IsTrue shelf.tells → status ≡ Done → PlaysCapture plan capture shelf.held sink sink'
  plays_words delayed arrives plan capture is told done =
      plays_capture delayed arrives plan capture shelf.held sink sink'
      (replays plan capture shelf shelf' sink sink' status (subst (λ w. Keeps w shelf shelf' sink sink' status) is keeps) told done)

  pub sends_words : (plan samples : List ℕ) → words ≡ codes "send" ∷ plan ∷ samples ∷ [] → IsTrue shelf.tells → status ≡ Done → SendsFile Packets plan samples shelf.held sink sink'
  sends_words plan samples is told done =
      FilesAreSent-holds Packets plan samples shelf shelf' sink sink' status (subst (λ w. Keeps w shelf shelf' sink sink' status) is keeps) told done

  pub lines_words : (plan samples : List ℕ) → words ≡ codes "line" ∷ plan ∷ samples ∷ [] → IsTrue shelf.tells → status ≡ Done → SendsFile Symbols plan samples shelf.held sink sink'
  lines_words plan samples is told done =
      FilesAreSent-holds Symbols plan samples shelf shelf' sink sink' status (subst (λ w. Keeps w shelf shelf' sink sink' status) is keeps) told done
