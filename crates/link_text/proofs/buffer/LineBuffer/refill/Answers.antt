use Rattle.std.proofs.Common.{◌≡◌, ◌-◌, ◌∙◌, ap, arith, take, drop, length, ◌++◌}
use Rattle.link_text.specs.LineBuffer.{Buffered}
use Rattle.std.proofs.lemmas.List.{length-take-le}
use Rattle.link_text.proofs.Refills.{length_behind, refilled, took_of}
use Rattle.link_text.proofs.buffer.LineBuffer.refill.Goals as goal

pub returns-clause-ok : goal.returns-clause-ok
returns-clause-ok g c =
    let count = c.in_ok-count.count in
    let buf = c.read.new.buf in
    let len = c.self.inside.end - c.self.inside.start in
    let size : length buf ≡ length c.deref_mut.result.now - len = c.read.auto.buf ∙ length_behind c.deref_mut.result.now len in
    let rest : take len c.deref_mut.result.now ≡ c.args.self.now.rest =
    ap (take len) c.deref_mut.ensures.value ∙ c.move_to_front.ensures.moved ∙ ap (λ (b : Buffered). b.rest) c.self.view_is in (
      take count buf,
      length-take-le count buf (omega (arith, size, c.in_ok-count.ensures.bound, length-take-le (length c.deref_mut.result.now - len) (drop len c.deref_mut.result.now))),
      refilled c.deref_mut.result.now c.move_to_front.new.octets.items buf len c.move_to_front.new.octets.len count (omega arith) size (omega (arith, c.move_to_front.new.octets.ok)) (omega (arith, c.deref_mut.ensures.len))
          ∙ ap (λ front. front ++ take count buf) rest,
      record {
        left = λ tells. took_of count _ buf _ _ (c.in_ok-count.ensures.takes tells);
        chosen = λ tells. (c.in_ok-count.ensures.takes tells).chosen;
      },
      record {
        faults = c.in_ok-count.ensures.cause.by_result;
        failed = λ tells. (c.in_ok-count.ensures.takes tells).failed;
      },
    )
