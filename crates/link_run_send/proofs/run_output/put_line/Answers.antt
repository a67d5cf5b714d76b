use Rattle.std.proofs.Common.{◌∙◌, ◌++◌, ◌∷◌, [], ap, append_assoc}
use Rattle.hex.specs.Hex.{encode_lower}
use Rattle.link_run_send.proofs.SentSymbols.{packed_are}
use Rattle.link_run_send.proofs.run_output.put_line.Goals as goal

pub returns : goal.returns
returns c =
    let octets = c.args.octets.now in
    let start = c.args.text.now in
    c.put.ensures ∙ ap (λ text. text ++ 10 ∷ []) c.put_hex.ensures.text ∙ append_assoc start (encode_lower octets) (10 ∷ [])
    ∙ ap (λ line. start ++ (encode_lower line ++ 10 ∷ [])) (packed_are octets c.type_inv.octets c.requires.groups)
