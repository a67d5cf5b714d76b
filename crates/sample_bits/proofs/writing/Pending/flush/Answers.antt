use Rattle.sample_bits.proofs.FilledLemmas.{PutsBits-front, flushed}
use Rattle.sample_bits.proofs.writing.Pending.flush.Goals as goal

pub returns-clause-filled : goal.returns-clause-filled
returns-clause-filled c bits filled k h =
    let self = c.args.self in
    let put = PutsBits-front c.args.octets.now c.store.new.octets self.octet self.count self.bits c.load-old.result c.replaced-word.result
    self.few c.store.auto.octets c.requires c.replaced-word.ensures.copied c.replaced-word.ensures.after c.load-old.ensures
    c.store.ensures.written c.store.ensures.before c.store.ensures.after in
    flushed bits c.args.octets.now c.store.new.octets self.octet self.bits self.count filled put k h

pub returns-clause-after : goal.returns-clause-after
returns-clause-after c k h =
    let self = c.args.self in
    let put = PutsBits-front c.args.octets.now c.store.new.octets self.octet self.count self.bits c.load-old.result c.replaced-word.result
    self.few c.store.auto.octets c.requires c.replaced-word.ensures.copied c.replaced-word.ensures.after c.load-old.ensures
    c.store.ensures.written c.store.ensures.before c.store.ensures.after in
    put.after k h
