use Rattle.std.proofs.Common.{◌≡◌, ◌+◌, ◌-◌, ◌*◌, [], length, take, drop, sym, ap, ◌∙◌, refl, arith, length-drop}
use Rattle.std.proofs.lemmas.List.{length-take-le, take_all}
use Rattle.std.proofs.lemmas.Slice.{take-put_mid}
use borrow.Rule.Slice.PartMut.{put_mid}
use Rattle.line_code.specs.Line.{disparity_after_all, frame_characters, symbols_of}
use Rattle.line_code.specs.Packed.{symbols_in}
use Rattle.roe_mappers.proofs.CharacterRuns.{length-frame_characters, spelled_more}
use Rattle.roe_mappers.proofs.spelling.spell.Goals as goal

none_packed : symbols_in [] ≡ []
unfolding symbols_in
none_packed = refl

pub loop-group-init : goal.loop-group-init
loop-group-init c = record { spelled = none_packed; after = refl }

pub loop-group-preserved : goal.loop-group-preserved
loop-group-preserved c =
    let g = c.loop-group.group in
    let chars = frame_characters c.args.n c.args.octets.now in
    let out = c.loop-group.out in
    let written = c.copy_from_slice.new.self in
    let five : symbols_in written ≡ symbols_of c.loop-group.disparity (take 4 (drop (4 * g) chars)) =
    ap symbols_in c.copy_from_slice.ensures.after ∙ c.spell_four-next.ensures.symbols ∙ ap (symbols_of c.loop-group.disparity) c.characters_at-characters.ensures in
    let after = c.spell_four-next.ensures.disparity ∙ ap (disparity_after_all c.loop-group.disparity) c.characters_at-characters.ensures in
    let front = length-take-le (5 * g) out (omega (arith, c.loop-group.auto.out, c.requires.room)) in
    let rest = length-take-le (5 * g + 5 - 5 * g) (drop (5 * g) out) (omega (arith, length-drop (5 * g) out, c.loop-group.auto.out, c.requires.room)) in
    let long : length written ≡ 5 = c.copy_from_slice.ensures.len ∙ rest ∙ omega arith in
    let put = take-put_mid (5 * g) (5 * g + 5 - 5 * g) out written (5 * g + 5) (omega (arith, long)) (omega (arith, c.loop-group.auto.out, c.requires.room)) in
    let more = spelled_more out written chars c.args.rd c.loop-group.disparity c.spell_four-next.result.1 g front c.loop-group.invariant.spelled c.loop-group.invariant.after five after in
    let next : 5 * (g + 1) ≡ 5 * g + 5 = omega arith in
    record {
      spelled = ap (λ m. symbols_in (take m (put_mid (5 * g) (5 * g + 5 - 5 * g) out written))) next ∙ ap symbols_in put ∙ more.0;
      after = more.1;
    }

pub returns-clause-symbols : goal.returns-clause-symbols
returns-clause-symbols c =
    let g = c.loop-group.group in
    let chars = frame_characters c.args.n c.args.octets.now in
    let all = take_all (5 * g) c.loop-group.out (omega (arith, c.loop-group.auto.out)) in
    let whole = take_all (4 * g) chars (omega (arith, length-frame_characters c.args.n c.args.octets.now)) in
    ap symbols_in (sym all) ∙ c.loop-group.invariant.spelled ∙ ap (symbols_of c.args.rd) whole

pub returns-clause-disparity : goal.returns-clause-disparity
returns-clause-disparity c =
    let g = c.loop-group.group in
    let chars = frame_characters c.args.n c.args.octets.now in
    let whole = take_all (4 * g) chars (omega (arith, length-frame_characters c.args.n c.args.octets.now)) in
    c.loop-group.invariant.after ∙ ap (disparity_after_all c.args.rd) whole
