use Rattle.std.proofs.Common.{◌≡◌, ◌+◌, [], ◌∷◌, get_or, sym, ap, ◌∙◌, arith}
use Rattle.line_code.specs.declared.characters.Char.TheVariants.{Octet, Comma}
use Rattle.line_code.specs.Line.{frame_characters}
use Rattle.roe_mappers.proofs.CharacterRuns.{four_from, later_character, length-frame_characters}
use Rattle.roe_mappers.proofs.spelling.characters_at.Goals as goal

pub returns : goal.returns
returns c =
    let octets = c.args.octets.now in
    let n = c.args.n in
    let at = c.args.at in
    let chars = frame_characters n octets in
    let one = later_character n octets at (omega arith) in
    let two = ap (λ k. get_or chars k Comma) (let e : at + 2 ≡ at + 1 + 1 = omega arith in e) ∙ later_character n octets (at + 1) (omega arith) ∙ ap (λ k. Octet (get_or octets k 0)) (let e : at + 1 + 1 ≡ at + 2 = omega arith in e) in
    let three = ap (λ k. get_or chars k Comma) (let e : at + 3 ≡ at + 2 + 1 = omega arith in e) ∙ later_character n octets (at + 2) (omega arith) ∙ ap (λ k. Octet (get_or octets k 0)) (let e : at + 2 + 1 ≡ at + 3 = omega arith in e) in
    let first = c.character_at.ensures in
    sym (four_from chars at (omega (arith, length-frame_characters n octets))
    ∙ ap (λ x. x ∷ get_or chars (at + 1) Comma ∷ get_or chars (at + 2) Comma ∷ get_or chars (at + 3) Comma ∷ []) (sym first)
    ∙ ap (λ x. c.character_at.result ∷ x ∷ get_or chars (at + 2) Comma ∷ get_or chars (at + 3) Comma ∷ []) one
    ∙ ap (λ x. c.character_at.result ∷ Octet (get_or octets (at + 1) 0) ∷ x ∷ get_or chars (at + 3) Comma ∷ []) two
    ∙ ap (λ x. c.character_at.result ∷ Octet (get_or octets (at + 1) 0) ∷ Octet (get_or octets (at + 2) 0) ∷ x ∷ []) three)
