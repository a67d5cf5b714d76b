use Rattle.std.proofs.Common.{◌≡◌, ℕ, ◌*◌, ◌<◌, slice_index}
use Rattle.link_text.specs.Lanes.{digit_at}
use Rattle.link_text.proofs.lanes.encode.Given as goal

abbrev pub invariant-loop-step : goal.invariant-loop-step
invariant-loop-step l = (k : ℕ) → k < 64 * l.step → slice_index l.out k ≡ digit_at l.octets k
