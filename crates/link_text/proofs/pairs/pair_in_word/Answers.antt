use Rattle.std.proofs.Common.{◌+◌, ◌<◌, List, ℕ, take, drop, length, ◌++◌, w32, sym, ap, ◌∙◌, ◌≡◌, arith}
use Rattle.std.specs.Prelude.{replicate}
use Rattle.std.proofs.lemmas.Int.{to_z-of_z}
use Rattle.std.proofs.lemmas.List.{length-append, length-drop, take_all, drop-take, take-append-le}
use Rattle.core.specs.Slice.Scan.{little_endian}
use Rattle.link_text.specs.Decimals.{signed_value}
use Rattle.link_text.proofs.WordNumbers.{pair_is, later, eight_of, octets_before, zeros_left, take_front}
use Rattle.link_text.proofs.pairs.pair_in_word.Goals as goal

pub returns-then-end-count : goal.returns-then-end-count
returns-then-end-count c =
    let line = c.args.line.now in
    let rest : List ℕ = drop (length line) (replicate 8 0) in
    let octets : List ℕ = line ++ rest in
    let end = c.in_ok-first.end in
    let count = c.in_ok-second.count in
    let all : end + 1 + count ≡ length line = c.if-end-count.true in
    let few : length line < 8 = c.requires in
    let long : length octets ≡ 8 = omega (arith, length-append line rest, length-drop (length line) (replicate {A = ℕ} 8 0)) in
    let fits = octets_before line rest (λ i. (c.type_inv.line i).fits) (zeros_left (length line)) in
    let word = c.word_at-word.ensures ∙ ap (λ front. little_endian (front ++ rest) 0) c.copy_from_slice.ensures.after in
    let whole = eight_of octets 0 c.word_at-word.result fits (omega (arith, long)) word in
    let eight : take 8 octets ≡ octets = take_all 8 octets (omega (arith, long)) in
    let last = later (take 8 octets) c.word_at-word.result (end + 1) whole.0 whole.1 (omega arith) in
    let first_text : take end line ≡ take end (take 8 octets) = sym (ap (take end) eight ∙ take-append-le end line rest (omega arith)) in
    let second_text : drop (end + 1) line ≡ take count (drop (end + 1) (take 8 octets) ++ replicate (end + 1) 0) =
    ap (drop (end + 1)) (sym (take_front line rest) ∙ ap (λ n. take n octets) (sym all)) ∙ drop-take (end + 1) count octets
    ∙ ap (λ text. take count (drop (end + 1) text)) (sym eight)
    ∙ sym (take-append-le count (drop (end + 1) (take 8 octets)) (replicate (end + 1) 0) (omega (arith, length-drop (end + 1) (take 8 octets), ap length eight, long))) in
    rw (to_z-of_z w32 c.in_ok-first.first c.in_ok-first.ensures.fits, to_z-of_z w32 c.in_ok-second.second c.in_ok-second.ensures.fits)
    (pair_is line c.in_ok-first.first c.in_ok-second.second end (omega arith)
    (ap signed_value first_text ∙ c.in_ok-first.ensures.value (take 8 octets) whole.0 whole.1) c.if-line-end-ne32.false
    (ap signed_value second_text ∙ c.in_ok-second.ensures.value _ last.0 last.1))
