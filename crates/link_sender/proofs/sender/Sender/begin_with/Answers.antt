use Rattle.std.proofs.Common.{◌≡◌, ◌*◌, length, replicate, sym, ap, ◌∙◌, subst, arith}
use Rattle.std.proofs.lemmas.Grind.{common_steps}
use Rattle.carrier_plan.specs.declared.plan.Plan.{Plan}
use Rattle.control_words.specs.Announcement.{IsWithinTable}
use Rattle.link_base.specs.WordSize.{IsWordSize}
use Rattle.plan_checker.specs.Rules.{IsGood}
use Rattle.plan_checker.specs.WordSize.{word_size}
use Rattle.link_sender.specs.HandedIn.{nothing_yet}
use Rattle.link_sender.specs.Rings.{AreRings}
use Rattle.link_sender.specs.Senders.{StandsFor}
use Rattle.link_sender.proofs.BeginSteps.{hands_of, is_begun, new_sender, stands_begun}
use Rattle.link_sender.proofs.WordSizes.{good_word_size}
use Rattle.link_sender.proofs.sender.Sender.begin_with.Goals as goal

pub new-requires : goal.new-requires
new-requires g c =
    let p = c.plan.result.now in
    let good = c.plan.ensures.good in
    let words = c.requires.words ∙ ap (λ (q : Plan). word_size q.option) (sym c.plan.ensures.same) in
    (omega arith, subst IsWordSize (sym words) (good_word_size p good))

pub invariant_of-result : goal.invariant_of-result
invariant_of-result g c =
    let p = c.in_ok-copy.field-0 in
    let same : p ≡ c.plan.result.now = c.in_ok-copy.ensures ∙ sym c.plan.ensures.same in
    let words : g.row.Y ≡ word_size p.option = c.requires.words ∙ ap (λ (q : Plan). word_size q.option) (sym c.in_ok-copy.ensures) in
    let good = subst IsGood (sym same) c.plan.ensures.good in
    let count : c.len.result ≡ length p.carriers = c.len.ensures ∙ ap (λ (q : Plan). length q.carriers) (sym same) in
    let all_zero : c.in_ok-vec.field-0.items ≡ replicate c.len.result 0 = grind (arith, common_steps) in
    let handed : c.in_ok-vec.field-0.items ≡ replicate (length p.carriers) 0 = all_zero ∙ ap (λ n. replicate n 0) count in
    let hands : c.in_ok-samples_in_hand.field-0.items ≡ hands_of p = c.in_ok-samples_in_hand.ensures ∙ ap hands_of (sym c.in_ok-copy.ensures) in
    let octets_zero : c.in_ok-vec-2.field-0.items ≡ replicate (16 * g.row.Y) 0 = grind (arith, common_steps) in
    let octets : c.in_ok-vec-2.field-0.items ≡ replicate (16 * word_size p.option) 0 = octets_zero ∙ ap (λ y. replicate (16 * y) 0) words in
    let rings = subst (λ (q : Plan). AreRings q c.in_ok-packet_rings.field-0.items) (sym c.in_ok-copy.ensures) c.in_ok-packet_rings.ensures in (
      is_begun p c.args.frames c.args.announce c.in_ok-vec.field-0.items c.in_ok-samples_in_hand.field-0.items c.in_ok-begin.field-0.slow c.in_ok-begin.field-0.fast
          c.in_ok-new.field-0 c.in_ok-vec-2.field-0.items c.in_ok-packet_rings.field-0.items good handed hands octets rings c.requires.run
          (subst (λ y. IsWithinTable y c.args.announce) words c.requires.announced),
      words,
    )

pub returns-clause-stands : goal.returns-clause-stands
returns-clause-stands g c =
    let p = c.in_ok-copy.field-0 in
    let same : p ≡ c.plan.result.now = c.in_ok-copy.ensures ∙ sym c.plan.ensures.same in
    let words : g.row.Y ≡ word_size p.option = c.requires.words ∙ ap (λ (q : Plan). word_size q.option) (sym c.in_ok-copy.ensures) in
    let good = subst IsGood (sym same) c.plan.ensures.good in
    let count : c.len.result ≡ length p.carriers = c.len.ensures ∙ ap (λ (q : Plan). length q.carriers) (sym same) in
    let all_zero : c.in_ok-vec.field-0.items ≡ replicate c.len.result 0 = grind (arith, common_steps) in
    let handed : c.in_ok-vec.field-0.items ≡ replicate (length p.carriers) 0 = all_zero ∙ ap (λ n. replicate n 0) count in
    let hands : c.in_ok-samples_in_hand.field-0.items ≡ hands_of p = c.in_ok-samples_in_hand.ensures ∙ ap hands_of (sym c.in_ok-copy.ensures) in
    let octets_zero : c.in_ok-vec-2.field-0.items ≡ replicate (16 * g.row.Y) 0 = grind (arith, common_steps) in
    let octets : c.in_ok-vec-2.field-0.items ≡ replicate (16 * word_size p.option) 0 = octets_zero ∙ ap (λ y. replicate (16 * y) 0) words in
    let rings = subst (λ (q : Plan). AreRings q c.in_ok-packet_rings.field-0.items) (sym c.in_ok-copy.ensures) c.in_ok-packet_rings.ensures in
    let frame : c.in_ok-new.field-0 ≡ replicate (16 * word_size p.option) 0 = c.in_ok-new.ensures ∙ ap (λ y. replicate (16 * y) 0) words in
    let s = new_sender p c.args.frames c.args.announce c.in_ok-vec.field-0.items c.in_ok-samples_in_hand.field-0.items c.in_ok-begin.field-0.slow c.in_ok-begin.field-0.fast c.in_ok-new.field-0 c.in_ok-vec-2.field-0.items c.in_ok-packet_rings.field-0.items in
    subst (λ (q : Plan). StandsFor s (nothing_yet q c.args.announce)) c.in_ok-copy.ensures
    (stands_begun p c.args.frames c.args.announce c.in_ok-vec.field-0.items c.in_ok-samples_in_hand.field-0.items c.in_ok-begin.field-0.slow c.in_ok-begin.field-0.fast c.in_ok-new.field-0 c.in_ok-vec-2.field-0.items
    c.in_ok-packet_rings.field-0.items good handed hands octets rings c.in_ok-begin.ensures.slow c.in_ok-begin.ensures.fast frame)
