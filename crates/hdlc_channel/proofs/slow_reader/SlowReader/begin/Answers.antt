use Rattle.std.proofs.Common.{◌≡◌, ℕ, ◌<◌, length, [], false, replicate, sym, ap, ◌∙◌, subst, arith}
use Rattle.std.proofs.lemmas.List.{length-replicate}
use Rattle.std.proofs.lemmas.List.Elements.{All-replicate, All-same}
use Rattle.hdlc_channel.specs.Reader.{StandsFor, reader_view}
use Rattle.hdlc_channel.proofs.StepLaw.{begun_stands}
use Rattle.hdlc_channel.proofs.slow_reader.SlowReader.begin.Goals as goal

pub invariant_of-result : goal.invariant_of-result
invariant_of-result c =
    let zeros : c.in_ok-frame.frame.items ≡ replicate 1502 0 = c.in_ok-frame.ensures.items_if_clones_equal (λ y e. e) in
    let none : length c.in_ok-content.content ≡ 0 = ap length c.in_ok-content.ensures in
    record {
      few = omega arith;
      collected_few = omega arith;
      room = record { len = ap length zeros ∙ length-replicate {A = ℕ} 1502 0; small = All-same (λ x. x < 256) c.in_ok-frame.frame.items (replicate 1502 0) zeros (All-replicate (λ x. x < 256) 1502 0 (omega arith)) };
      within = omega arith;
    }

pub returns : goal.returns
returns c = subst (λ bits. StandsFor (reader_view 7 false bits c.in_ok-frame.frame.items 0) []) (sym c.in_ok-content.ensures) begun_stands
