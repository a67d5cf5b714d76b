use Rattle.std.proofs.Common.{◌≡◌, ℕ, ◌*◌, ◌≤◌, length}
use Rattle.std.specs.List.{flat_map, range_with_len}
use Rattle.control_words.specs.Places.{is_fast_place}
use Rattle.link_run_inspect.specs.Managed.{octets_in_word}
use Rattle.link_run_inspect.proofs.channel_octets.put_fast.Given as goal

abbrev pub invariant-loop-x : goal.invariant-loop-x
invariant-loop-x g l = record {
  octets : l.out.items ≡ flat_map (octets_in_word (λ (x y : ℕ). is_fast_place l.a.pointer x) g.row.Y l.control) (range_with_len 0 l.x);
  few : length l.out.items ≤ g.row.Y * l.x;
}
