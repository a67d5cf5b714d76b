use Rattle.std.proofs.Common.{◌*◌}
use Rattle.std.proofs.lemmas.Simd.{get_or-put_chunk_below}
use Rattle.link_text.proofs.LaneLemmas.{digits_told, octets_put}
use Rattle.link_text.proofs.lanes.put_octets.Goals as goal

pub returns-clause-digits : goal.returns-clause-digits
returns-clause-digits c =
    digits_told c.args.text.now (2 * c.args.at) c.are_digits.result c.are_digits-2.result c.requires.source (rw c.values-first.ensures at c.are_digits.ensures)
    (rw c.values-second.ensures at c.are_digits-2.ensures)

pub returns-clause-octets : goal.returns-clause-octets
returns-clause-octets c =
    octets_put c.args.text.now c.args.out.now c.values-first.result c.values-second.result c.pairs.result c.args.at c.values-first.ensures c.values-second.ensures
    c.pairs.ensures c.requires.source c.requires.room

pub returns-clause-before : goal.returns-clause-before
returns-clause-before c = λ k below. get_or-put_chunk_below c.args.at c.args.out.now c.pairs.result k 0 below
