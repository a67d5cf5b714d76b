-- Counts of failures over calls, and what is given after what was written.
use Rattle.std.proofs.Common.{◌≡◌, ◌≢◌, ◌≤◌, inl, inr, ◌++◌, [], ℕ, List, Bool, arith, refl, sym, subst, ◌∙◌, append-nil, IsTrue}
use Rattle.link_base.specs.Faults.{Rose}
use Rattle.link_base.specs.Shelf.{Shown, SameFiles}
use Rattle.link_base.specs.Sink.{Taken, Appends}
use Rattle.link_text.specs.Gathered.{Gathers}
use Rattle.link_text.proofs.Gathering.{appends_then, front_then, behind}
use Rattle.link_run_feed.specs.declared.status.Status.{Status}
use Rattle.link_run_feed.specs.declared.status.Status.TheVariants.{ReadFault}
use Rattle.link_run_feed.specs.FaultCounts.{FaultCounts, CountsReads}
use Rattle.link_run_feed.specs.Given.{IsGiven}

pub counted_ok : (failed : Type 0) (before now : ℕ) → ¬ failed → now ≡ before → FaultCounts failed before now
counted_ok failed before now not_failed same = record {
  never_falls = omega (arith, same);
  rose = λ h. absurd (not_failed h);
  stays = λ h. same;
}

pub counted_err : (failed : Type 0) (before now : ℕ) → failed → before ≤ now → Rose before now → FaultCounts failed before now
counted_err failed before now fails never_falls rose = record {
  never_falls = never_falls;
  rose = λ h. rose;
  stays = λ h. absurd (h fails);
}

pub reads_stay : (reads_feed : Bool) (status : Status) (before now : ℕ) → status ≢ ReadFault → now ≡ before → CountsReads reads_feed status before now
reads_stay reads_feed status before now other same = record {
  never_falls = omega (arith, same);
  rose = λ is. absurd (other is);
  stays = λ not_read not_write. same;
}

pub reads_failed : (reads_feed : Bool) (before now : ℕ) → before ≤ now → Rose before now → CountsReads reads_feed ReadFault before now
reads_failed reads_feed before now never_falls rose = record {
  never_falls = never_falls;
  rose = λ is. rose;
  stays = λ not_read not_write. absurd (not_read refl);
}

-- a count over two calls, of which the first succeeds
pub counted_then : (failed : Type 0) (before mid now : ℕ) → mid ≡ before → FaultCounts failed mid now → FaultCounts failed before now
counted_then failed before mid now same counts = subst (λ n. FaultCounts failed n now) same counts

pub reads_then : (reads_feed : Bool) (status : Status) (before mid now : ℕ) → mid ≡ before → CountsReads reads_feed status mid now → CountsReads reads_feed status before now
reads_then reads_feed status before mid now same counts = subst (λ n. CountsReads reads_feed status n now) same counts

-- files that stay over two calls stay over both
pub files_stay : (first now next : Shown) → SameFiles first now → SameFiles now next → SameFiles first next
files_stay first now next one two = record {
  tells = two.tells ∙ one.tells;
  held = λ told. two.held (subst IsTrue (sym one.tells) told) ∙ one.held told;
}

-- a text is given after what was written before it
pub given_behind : (status result : Status) (moved text : List ℕ) (old mid new : Taken) → Appends moved old mid → mid.faults ≡ old.faults
    → IsGiven status text mid new result → IsGiven status (moved ++ text) old new result
given_behind status result moved text old mid new written same (inl whole) =
    inl (record { status = whole.status; written = appends_then moved text old mid new written whole.written; count = whole.count ∙ same })
given_behind status result moved text old mid new written same (inr cut) =
    inr (record {
      status = cut.status;
      front = front_then moved text old mid new written cut.front;
      never_falls = subst (λ n. n ≤ new.faults) same cut.never_falls;
      rose = subst (λ n. Rose n new.faults) same cut.rose;
    })

-- text was gathered, and what is in hand and more is given
pub given_then : (status result : Status) (more rest hand hand' : List ℕ) (old mid new : Taken) → Gathers more hand old hand' mid → mid.faults ≡ old.faults
    → IsGiven status (hand' ++ rest) mid new result → IsGiven status (hand ++ (more ++ rest)) old new result
given_then status result more rest hand hand' old mid new gathers same given =
    subst (λ text. IsGiven status text old new result) (behind more rest hand hand' old mid gathers)
    (given_behind status result gathers.moved (hand' ++ rest) old mid new gathers.written same given)

-- what is in hand is all that is given
pub given_all : (status result : Status) (more hand hand' : List ℕ) (old mid new : Taken) → Gathers more hand old hand' mid → mid.faults ≡ old.faults
    → IsGiven status hand' mid new result → IsGiven status (hand ++ more) old new result
given_all status result more hand hand' old mid new gathers same given =
    subst (λ text. IsGiven status (hand ++ text) old new result) (append-nil more)
    (given_then status result more [] hand hand' old mid new gathers same (subst (λ text. IsGiven status text mid new result) (sym (append-nil hand')) given))
