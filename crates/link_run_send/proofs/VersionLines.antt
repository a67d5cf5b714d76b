-- What a line is by the version of its file, and by its first word.
use Rattle.std.proofs.Common.{◌≡◌, List, [], ℕ, true, false, Result, refl, sym, ap, ◌∙◌}
use Rattle.std.specs.Prelude.{bytes_eq, codes, if◌then◌else◌}
use Rattle.link_base.specs.Sink.{Taken}
use Rattle.link_run_capture.specs.declared.header.Version.TheVariants.{One, Two}
use Rattle.link_run_feed.specs.FeedCalls.{IsReadAs}
use Rattle.link_run_feed.specs.declared.feed.Reading.{Reading}
use Rattle.link_run_feed.specs.declared.feed.Reading.TheVariants.{Bad, Good}
use Rattle.link_run_feed.specs.declared.reason.Reason.{Reason}
use Rattle.link_text.specs.Fields.{at_first_space}
use Rattle.link_text.proofs.Gathering.{gathers_none}
use Rattle.link_run_send.specs.Sends.{IsQueuedAs}
use Rattle.link_run_send.specs.Sent.{Sent, by_version, by_word, fast_line, sample_line, slow_line, word_and_rest}

-- a frame of a management channel settles no text
pub queued_read : (line : Result (Sent × List ℕ) Reason) (reading : Reading) (stands : Sent → Type 0) (hand : List ℕ) (sink : Taken) → IsQueuedAs line reading stands → IsReadAs line reading stands hand sink hand sink
queued_read line Good stands hand sink (next, is, stands_next) = (next, [], is, stands_next, gathers_none hand sink)
queued_read line (Bad reason) stands hand sink is = (is, refl, refl)

module _ (s : Sent) (line : List ℕ) where
  pub line_one : s.header.version ≡ One → by_version s.header.version s line ≡ sample_line s line
  line_one version = ap (λ v. by_version v s line) version

  module _ (version : s.header.version ≡ Two) (fields : List ℕ × List ℕ) (are : fields ≡ word_and_rest line (at_first_space line)) where
    by_fields : by_version s.header.version s line ≡ by_word s line fields
    by_fields = ap (λ v. by_version v s line) version ∙ ap (by_word s line) (sym are)

    pub line_slow : bytes_eq fields.0 (codes "slow") ≡ true → by_version s.header.version s line ≡ slow_line s fields.1
    line_slow is =
        by_fields
        ∙ ap (λ b. if b then slow_line s fields.1 else (if bytes_eq fields.0 (codes "fast") then fast_line s fields.1 else sample_line s line)) is

    other : bytes_eq fields.0 (codes "slow") ≡ false → by_version s.header.version s line ≡ (if bytes_eq fields.0 (codes "fast") then fast_line s fields.1 else sample_line s line)
    other is =
        by_fields
        ∙ ap (λ b. if b then slow_line s fields.1 else (if bytes_eq fields.0 (codes "fast") then fast_line s fields.1 else sample_line s line)) is

    pub line_fast : bytes_eq fields.0 (codes "slow") ≡ false → bytes_eq fields.0 (codes "fast") ≡ true → by_version s.header.version s line ≡ fast_line s fields.1
    line_fast no_slow is = other no_slow ∙ ap (λ b. if b then fast_line s fields.1 else sample_line s line) is

    pub line_sample : bytes_eq fields.0 (codes "slow") ≡ false → bytes_eq fields.0 (codes "fast") ≡ false → by_version s.header.version s line ≡ sample_line s line
    line_sample no_slow no_fast = other no_slow ∙ ap (λ b. if b then fast_line s fields.1 else sample_line s line) no_fast
