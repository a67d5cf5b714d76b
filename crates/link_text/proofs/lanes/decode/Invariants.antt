use Rattle.std.proofs.Common.{◌≡◌, ℕ, ◌*◌, ◌<◌, slice_index}
use Rattle.link_text.specs.Lanes.{octet_at, DigitsBetween}
use Rattle.link_text.proofs.lanes.decode.Given as goal

abbrev pub invariant-loop-step : goal.invariant-loop-step
invariant-loop-step l = record {
  digits : DigitsBetween l.text 0 (64 * l.step);
  octets : (k : ℕ) → k < 32 * l.step → slice_index l.out k ≡ octet_at l.text k;
}
