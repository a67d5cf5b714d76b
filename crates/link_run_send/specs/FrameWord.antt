-- The first word of a line, where it is not that of a frame of a management channel. This is the project's own.
use Rattle.std.specs.Prelude.{◌≡◌, bytes_eq, codes, false, List, ℕ}
use Rattle.link_text.specs.Fields.{at_first_space}
use Rattle.link_run_send.specs.Sent.{word_and_rest}

pub record NamesNoFrame (line : List ℕ) : Type 0 where
  pub no_slow : bytes_eq (word_and_rest line (at_first_space line)).0 (codes "slow") ≡ false
  pub no_fast : bytes_eq (word_and_rest line (at_first_space line)).0 (codes "fast") ≡ false
