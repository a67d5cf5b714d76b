use Rattle.std.proofs.Common.{◌+◌, ◌-◌, ◌<◌, ◌≤◌, take, drop, length, ◌++◌, w32, sym, ap, ◌∙◌, ◌≡◌, arith}
use Rattle.std.specs.Prelude.{replicate}
use Rattle.std.proofs.lemmas.Int.{to_z-of_z}
use Rattle.std.proofs.lemmas.List.{length-drop, take_all, take-take, drop-drop, take-append-le}
use Rattle.link_text.specs.Decimals.{signed_value}
use Rattle.link_text.proofs.WordNumbers.{pair_is, later, eight_of}
use Rattle.link_text.proofs.pairs.short_pair.Goals as goal

pub returns-then-length-count : goal.returns-then-length-count
returns-then-length-count c =
    let line = c.args.line.now in
    let end = c.in_ok-first.end in
    let count = length line - end - 1 in
    let few : end < 8 = c.in_ok-first.ensures.few in
    let long : 8 ≤ length line = c.if-line-lt-WORD.false in
    let some : 0 < count = omega (arith, c.if-count-eq0.false) in
    let most : count ≤ 8 = c.if-count-gt-WORD.false in
    let from = length line - 8 in
    let front = eight_of line 0 c.word_at.result (λ i. (c.type_inv.line i).fits) (omega arith) c.word_at.ensures in
    let back = eight_of line from c.word_at-2.result (λ i. (c.type_inv.line i).fits) (omega arith) c.word_at-2.ensures in
    let last = later (take 8 (drop from line)) c.word_at-2.result (8 - count) back.0 back.1 (omega arith) in
    let first_text : take end line ≡ take end (take 8 (drop 0 line)) = sym (take-take end 8 line (omega arith)) in
    let begin : from + (8 - count) ≡ end + 1 = omega arith in
    let rest : drop (8 - count) (take 8 (drop from line)) ≡ drop (end + 1) line =
    ap (drop (8 - count)) (take_all 8 (drop from line) (omega (arith, length-drop from line))) ∙ drop-drop (8 - count) from line ∙ ap (λ n. drop n line) begin in
    let second_text : drop (end + 1) line ≡ take c.in_ok-second.length (drop (8 - count) (take 8 (drop from line)) ++ replicate (8 - count) 0) =
    sym (ap (λ text. take c.in_ok-second.length (text ++ replicate (8 - count) 0)) rest
    ∙ take-append-le c.in_ok-second.length (drop (end + 1) line) (replicate (8 - count) 0) (omega (arith, c.if-length-count.true, length-drop (end + 1) line))
    ∙ take_all c.in_ok-second.length (drop (end + 1) line) (omega (arith, c.if-length-count.true, length-drop (end + 1) line))) in
    rw (to_z-of_z w32 c.in_ok-first.first c.in_ok-first.ensures.fits, to_z-of_z w32 c.in_ok-second.second c.in_ok-second.ensures.fits)
    (pair_is line c.in_ok-first.first c.in_ok-second.second end (omega arith)
    (ap signed_value first_text ∙ c.in_ok-first.ensures.value (take 8 (drop 0 line)) front.0 front.1) c.if-line-end-ne32.false
    (ap signed_value second_text ∙ c.in_ok-second.ensures.value _ last.0 last.1))
