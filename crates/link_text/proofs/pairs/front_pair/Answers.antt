use Rattle.std.proofs.Common.{◌+◌, ℕ, ◌<◌, ◌≤◌, take, drop, length, w32, sym, ap, ◌∙◌, ◌≡◌, arith}
use Rattle.std.proofs.lemmas.Int.{to_z-of_z}
use Rattle.std.proofs.lemmas.List.{length-take-le, take-take, drop-take, get_or-take}
use Rattle.link_text.specs.Decimals.{signed_value}
use Rattle.link_text.specs.Pair.{IsPair}
use Rattle.link_text.proofs.WordNumbers.{pair_is, eight_of}
use Rattle.link_text.proofs.pairs.front_pair.Goals as goal

pub returns : goal.returns
returns c =
    let octets = c.args.octets.now in
    let n = c.in_ok-length.length in
    let line = take n octets in
    let end = c.in_ok-first.end in
    let count = c.in_ok-second.count in
    let feed = c.in_ok-length.ensures in
    let all : end + 1 + count ≡ n = c.if-end-count.false in
    let few : count < 8 = c.in_ok-second.ensures.few in
    let inside : n ≤ length octets = omega (arith, feed.0.within) in
    let long = length-take-le n octets inside in
    let fits = λ (i : ℕ). (c.type_inv.octets i).fits in
    let front = eight_of octets 0 c.word_at.result fits (omega (arith, c.requires)) c.word_at.ensures in
    let back = eight_of octets (end + 1) c.word_at-2.result fits (omega (arith, c.requires, c.in_ok-first.ensures.few)) c.word_at-2.ensures in
    let first_text : take end line ≡ take end (take 8 (drop 0 octets)) =
    take-take end n octets (omega (arith, all)) ∙ sym (take-take end 8 octets (omega (arith, c.in_ok-first.ensures.few))) in
    let second_text : drop (end + 1) line ≡ take count (take 8 (drop (end + 1) octets)) =
    ap (λ k. drop (end + 1) (take k octets)) (sym all) ∙ drop-take (end + 1) count octets ∙ sym (take-take count 8 (drop (end + 1) octets) (omega (arith, few))) in
    let space = get_or-take n octets end 0 (omega (arith, all)) ∙ c.if-octets-end-ne32.false in
    let pair : IsPair line c.in_ok-first.first c.in_ok-second.second =
    pair_is line c.in_ok-first.first c.in_ok-second.second end (omega (arith, all, long)) (ap signed_value first_text ∙ c.in_ok-first.ensures.value _ front.0 front.1) space
    (ap signed_value second_text ∙ c.in_ok-second.ensures.value _ back.0 back.1) in
    rw (to_z-of_z w32 c.in_ok-first.first c.in_ok-first.ensures.fits, to_z-of_z w32 c.in_ok-second.second c.in_ok-second.ensures.fits)
    (record { within = feed.0.within; line = (omega (arith, long, feed.1), feed.0.before); at = feed.0.at; pair = pair })
