use Rattle.std.proofs.Common.{◌≡◌, ℕ, ◌<◌, List, length, slice_index, ap, sym, ◌∙◌, arith}
use Rattle.std.proofs.lemmas.List.FromFn.{length-map-range_with_len, map-range_with_len_more, get_or-map-range_with_len}
use Rattle.control_words.specs.ControlWord.{octet_of}
use Rattle.control_words.proofs.Octets.{word_size_bounds, octet_of_channel, managed_fits}
use Rattle.control_words.specs.Places.{managed_before}
use Rattle.control_words.proofs.write.control_word.Goals as goal

pub push-requires : goal.push-requires
push-requires g c =
    let place = c.place_of-place.result in
    let f : ℕ → ℕ = octet_of place.x place.z place.bfn c.args.a c.args.managed.now in
    let written : length c.loop-y.word.items ≡ c.loop-y.y = ap length c.loop-y.invariant ∙ length-map-range_with_len f 0 c.loop-y.y in
    let bounds = word_size_bounds g.row.Y c.requires.size in
    (omega arith, omega arith)

pub loop-y-preserved : goal.loop-y-preserved
loop-y-preserved g c =
    let place = c.place_of-place.result in
    let f : ℕ → ℕ = octet_of place.x place.z place.bfn c.args.a c.args.managed.now in
    let more = map-range_with_len_more f 0 c.loop-y.y c.loop-y.y (omega arith) in
    cc

pub returns-clause-channels : goal.returns-clause-channels
returns-clause-channels g c = λ (y : ℕ) (k : y < length c.args.managed.now).
    let place = c.place_of-place.result in
    let f : ℕ → ℕ = octet_of place.x place.z place.bfn c.args.a c.args.managed.now in
    let count : length c.args.managed.now ≡ managed_before g.row.Y place.x c.args.a =
    c.requires.managed ∙ ap (λ (x : ℕ). managed_before g.row.Y x c.args.a) (sym c.place_of-place.ensures.x) in
    let in_word : y < g.row.Y = omega (arith, managed_fits g.row.Y place.x c.args.a) in
    ap (λ (xs : List ℕ). slice_index xs y) c.loop-y.invariant
    ∙ get_or-map-range_with_len f 0 c.loop-y.y y y 0 (omega arith) (omega arith)
    ∙ octet_of_channel g.row.Y place.x place.z place.bfn y c.args.a c.args.managed.now count in_word k
