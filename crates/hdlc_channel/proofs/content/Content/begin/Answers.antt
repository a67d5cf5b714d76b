use Rattle.std.proofs.Common.{◌≡◌, ℕ, ◌<◌, length, replicate, ap, ◌∙◌, arith}
use Rattle.std.proofs.lemmas.List.{length-replicate}
use Rattle.std.proofs.lemmas.List.Elements.{All-replicate, All-same}
use Rattle.hdlc_channel.proofs.ContentReads.{content-nil, empty_content}
use Rattle.hdlc_channel.proofs.content.Content.begin.Goals as goal

pub invariant_of-result : goal.invariant_of-result
invariant_of-result c =
    let zeros : c.in_ok-octets.octets.items ≡ replicate 1502 0 = c.in_ok-octets.ensures.items_if_clones_equal (λ y e. e) in
    empty_content c.in_ok-octets.octets.items
    (record { len = ap length zeros ∙ length-replicate {A = ℕ} 1502 0; small = All-same (λ x. x < 256) c.in_ok-octets.octets.items (replicate 1502 0) zeros (All-replicate (λ x. x < 256) 1502 0 (omega arith)) })

pub returns : goal.returns
returns c = content-nil c.in_ok-octets.octets.items
