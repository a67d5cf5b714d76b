use Rattle.std.proofs.Common.{◌*◌, ◌+◌, ◌∙◌, ap, map, arith}
use Rattle.std.proofs.lemmas.Simd.{get_or-put_chunk_below}
use Rattle.link_text.specs.Lanes.{digit_of}
use Rattle.link_text.proofs.DigitLanes.{digits_put}
use Rattle.link_text.proofs.lanes.put_digits.Goals as goal

pub returns-clause-digits : goal.returns-clause-digits
returns-clause-digits c =
    digits_put c.args.octets.now c.args.out.now c.digits.result c.digits-2.result c.woven.result.0 c.woven.result.1 c.args.at
    (c.digits.ensures ∙ ap (map digit_of) c.high_values.ensures) (c.digits-2.ensures ∙ ap (map digit_of) c.low_values.ensures)
    c.woven.ensures.front c.woven.ensures.back c.requires.source c.requires.room

pub returns-clause-before : goal.returns-clause-before
returns-clause-before c = λ k below.
    get_or-put_chunk_below (2 * c.args.at + 32) _ c.woven.result.1 k 0 (omega arith) ∙ get_or-put_chunk_below (2 * c.args.at) c.args.out.now c.woven.result.0 k 0 below
