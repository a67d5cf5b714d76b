use Rattle.std.proofs.Common.{ℕ, ◌+◌, ◌*◌, ◌≤◌, ◌++◌, length, ap, ◌∙◌, arith}
use Rattle.std.proofs.Math.Nat.{mul-le-mul_left, mul-add}
use Rattle.control_words.specs.Places.{is_fast_place}
use Rattle.link_run_inspect.proofs.Octets.{front_of_word}
use Rattle.link_run_inspect.proofs.channel_octets.put_fast_word.Goals as goal

pub returns-clause-octets : goal.returns-clause-octets
returns-clause-octets g c =
    let Y = g.row.Y in
    let x = c.args.x in
    let below : Y * (x + 1) ≤ Y * 256 = mul-le-mul_left Y (omega arith) in
    let inside : Y * x + Y ≤ length c.args.control.now = omega (arith, below, mul-add Y x 1, c.requires.whole) in
    c.put_front.ensures.octets
    ∙ ap (λ w. c.args.out.now.items ++ w) (front_of_word (λ (i j : ℕ). is_fast_place c.args.a.pointer i) Y c.fast_len.result x c.args.control.now c.fast_len.ensures.fits c.fast_len.ensures.first inside)
