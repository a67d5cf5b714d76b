use Rattle.sample_bits.proofs.interleaving.spread_sixteens.Goals as goal

pub returns : goal.returns
returns c bits end spread =
    let octets = c.part_runs-octets.ensures bits end spread in
    let fours = c.part_runs-fours.ensures bits end octets in
    c.part_runs.ensures bits end (c.part_runs-pairs.ensures bits end fours)
