use Rattle.std.proofs.Common.{◌≡◌, arith, sym, subst}
use Rattle.control_words.specs.Announcement.{IsWithinTable}
use Rattle.plan_checker.specs.Rules.{IsGood}
use Rattle.plan_checker.specs.WordSize.{word_size}
use Rattle.link_sender.proofs.WordSizes.{last_word_size}
use Rattle.link_sender.proofs.word_sizes.AnySender.begin_with.Goals as goal

pub begin_with-requires-2 : goal.begin_with-requires-2
begin_with-requires-2 c =
    let plan = c.args.checked.now
    in let octets = c.octets_of_word-octets.result
    in let good : IsGood plan = subst IsGood c.plan.ensures.same c.plan.ensures.good
    in let is : octets ≡ word_size plan.option = subst (λ p. octets ≡ word_size p.option) c.plan.ensures.same c.octets_of_word-octets.ensures.value
    in let sixteen : 16 ≡ word_size plan.option = last_word_size plan octets good is c.if-octets-eq1.false c.if-octets-eq2.false c.if-octets-eq4.false c.if-octets-eq5.false c.if-octets-eq8.false c.if-octets-eq10.false
    in (omega arith, (sixteen, (c.requires.run, subst (λ y. IsWithinTable y c.args.announce) (sym sixteen) c.requires.announced)))
