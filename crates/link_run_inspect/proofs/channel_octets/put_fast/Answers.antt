use Rattle.std.proofs.Common.{◌≡◌, ℕ, [], arith, ap, ◌∙◌}
use Rattle.std.specs.List.{flat_map, range_with_len}
use Rattle.control_words.specs.Places.{is_fast_place}
use Rattle.link_run_inspect.specs.Managed.{octets_in_word, fast_octets}
use Rattle.link_run_inspect.proofs.Octets.{more_places}
use Rattle.link_run_inspect.proofs.channel_octets.put_fast.Goals as goal

pub loop-x-preserved : goal.loop-x-preserved
loop-x-preserved g c = record {
  octets = more_places (octets_in_word (λ (x y : ℕ). is_fast_place c.args.a.pointer x) g.row.Y c.args.control.now) [] c.loop-x.out.items c.put_fast_word.new.out.items c.loop-x.x c.loop-x.invariant.octets c.put_fast_word.ensures.octets;
  few = c.put_fast_word.ensures.few;
}

pub returns : goal.returns
unfolding fast_octets
returns g c =
    let whole : c.loop-x.x ≡ 256 = omega arith in
    c.loop-x.invariant.octets ∙ ap (λ n. flat_map (octets_in_word (λ (x y : ℕ). is_fast_place c.args.a.pointer x) g.row.Y c.args.control.now) (range_with_len 0 n)) whole
