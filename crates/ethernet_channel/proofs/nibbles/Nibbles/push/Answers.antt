use Rattle.std.proofs.Common.{◌+◌, ◌*◌, ◌/◌, ◌%◌, ◌<◌, length, take, set, ◌∙◌, ap, arith, length-set}
use Rattle.ethernet_channel.specs.Nibbles.{nibbles_in}
use Rattle.ethernet_channel.proofs.NibbleLemmas.{length-take-nibbles_in, take-nibbles_in-low, take-nibbles_in-high}
use Rattle.ethernet_channel.proofs.nibbles.Nibbles.push.Goals.{then-self-eq0, else-self-eq0}
use Rattle.ethernet_channel.proofs.nibbles.Nibbles.push.Goals as goal

pub index_mut-requires : goal.index_mut-requires
index_mut-requires c =
    let kept = c.self.inside in
    let count = rw (← c.self.view_is) at c.requires.room in
    omega (arith, count, c.self.invariant, length-take-nibbles_in kept.octets.items kept.count c.self.invariant.0 c.self.invariant.1)

pub invariant_of-self : goal.invariant_of-self
invariant_of-self c =
    let kept = c.self.inside in
    let count = rw (← c.self.view_is) at c.requires.room in (
      length-set kept.octets.items (kept.count / 2) _ ∙ c.self.invariant.0,
      omega (arith, count, length-take-nibbles_in kept.octets.items kept.count c.self.invariant.0 c.self.invariant.1),
    )

pub returns : goal.returns
returns c =
    let kept = c.self.inside in
    let octets = kept.octets.items in
    let count = rw (← c.self.view_is) at c.requires.room in
    let within : kept.count < 2 * length octets =
    omega (arith, count, c.self.invariant, length-take-nibbles_in octets kept.count c.self.invariant.0 c.self.invariant.1) in
    rw (← c.self.view_is)
    (elim c.if-self-eq0.branch [
      | then-self-eq0 w ↦
          ap (λ t. take (kept.count + 1) (nibbles_in (set octets (kept.count / 2) t))) w.t-9-is
          ∙ take-nibbles_in-low octets kept.count c.args.nibble within c.requires.small w.if-self-eq0.true
      | else-self-eq0 w ↦
          let old = w.index.result.now in
          ap (λ t. take (kept.count + 1) (nibbles_in (set octets (kept.count / 2) t)))
          (w.t-9-is ∙ ap (λ n. n % 16 + 16 * c.args.nibble) w.index.ensures)
          ∙ take-nibbles_in-high octets kept.count c.args.nibble old within c.requires.small w.if-self-eq0.false
    ])
