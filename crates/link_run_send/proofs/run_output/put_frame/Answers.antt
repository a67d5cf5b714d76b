use Rattle.std.proofs.Common.{◌≡◌, ◌∙◌, ◌++◌, ap}
use Rattle.hex.specs.Hex.{encode_lower}
use Rattle.line_code.specs.Packed.{symbols_in}
use Rattle.link_sender.specs.Whole.{packed_symbols}
use Rattle.link_text.specs.Printed.{ended}
use Rattle.link_run_send.proofs.run_output.put_frame.Goals as goal

pub returns-clause-text : goal.returns-clause-text
returns-clause-text c =
    let put : c.put_line.new.text ≡ c.args.text.now ++ ended (encode_lower (packed_symbols (symbols_in c.spell-disparity.new.out))) = c.put_line.ensures in
    put ∙ ap (λ symbols. c.args.text.now ++ ended (encode_lower (packed_symbols symbols))) c.spell-disparity.ensures.symbols
