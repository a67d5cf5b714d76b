use Rattle.std.proofs.Common.{◌≡◌, ◌*◌, ◌≤◌, length}
use Rattle.std.specs.List.{flat_map, range_with_len}
use Rattle.control_words.specs.Places.{is_slow_place}
use Rattle.link_run_inspect.specs.Managed.{octets_in_word}
use Rattle.link_run_inspect.proofs.channel_octets.put_slow.Given as goal

abbrev pub invariant-loop-x : goal.invariant-loop-x
invariant-loop-x g l = record {
  octets : l.out.items ≡ flat_map (octets_in_word (is_slow_place l.a.hdlc) g.row.Y l.control) (range_with_len 0 l.x);
  few : length l.out.items ≤ g.row.Y * l.x;
}
