-- What is sent plays each sample unchanged.
use Rattle.link_receiver.specs.Laws.{CandidatesAreUnique}
use Rattle.link_run_delay.specs.Delay.{SamplesAreDelayed}
use Rattle.link_run_delay.specs.Existing.{PacketsAreThose}
use Rattle.plan_checker.specs.Laws.{EachBitHasOneSample}
use Rattle.roe_mappers.specs.Laws.{PartsAreGivenBack}
use Rattle.link_run_laws.specs.SentArePlayed.{SentArePlayed}
use Rattle.link_run_laws.specs.SentRecords.{sent_records}
use Rattle.link_run_laws.proofs.InWindows.{fresh, unaltered}
use Rattle.link_run_laws.proofs.SentPackets.{all_in_windows, all_sent, none_lost}
use Rattle.link_run_laws.proofs.WholePlay.{all_received, entries_at-whole, leaves_unchanged}

pub SentArePlayed-holds : EachBitHasOneSample → PartsAreGivenBack → SamplesAreDelayed → PacketsAreThose → CandidatesAreUnique → SentArePlayed
SentArePlayed-holds one law delayed those unique p h σ good plain stream =
    let records = sent_records p h σ in
    let in_windows = all_in_windows p h σ those good stream in
    let all_unaltered = unaltered p h σ good plain records in_windows in
    let all_fresh = fresh p h σ good plain unique records in_windows in
    let kept = none_lost p h σ those good stream in
    record {
      sent = all_sent p h σ;
      unaltered = all_unaltered;
      fresh = all_fresh;
      none_lost = kept;
      samples = leaves_unchanged p h σ records good plain stream all_fresh kept delayed all_unaltered;
      entries = entries_at-whole p h σ records good plain stream all_fresh kept one law;
      received = all_received p h σ records good plain stream all_fresh kept;
    }
