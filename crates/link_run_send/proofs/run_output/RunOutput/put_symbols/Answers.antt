use Rattle.std.proofs.Common.{◌∙◌, [], List, ℕ, sym, subst}
use Rattle.hex.specs.Hex.{encode_lower}
use Rattle.line_code.specs.Line.{frame_characters, symbols_of}
use Rattle.link_sender.specs.Whole.{packed_symbols}
use Rattle.link_text.proofs.Gathering.{gathers_put, gathers_then}
use Rattle.link_text.specs.Gathered.{Gathers}
use Rattle.link_text.specs.Printed.{ended}
use Rattle.link_run_send.proofs.SentSymbols.{disparity_next, symbols_are}
use Rattle.link_run_send.proofs.run_output.RunOutput.put_symbols.Goals as goal

pub returns-in-Ok-clause-disparity : goal.returns-in-Ok-clause-disparity
returns-in-Ok-clause-disparity g c σ good stands before =
    let s = c.args.self.now.sender in
    let is = c.frame.ensures.last σ c.args.tick stands (sym c.requires) in
    c.put_frame-self.ensures.disparity ∙ disparity_next s.plan σ c.args.tick c.args.self.now.rd c.frame.result.now good is before

pub returns-in-Ok-clause-puts : goal.returns-in-Ok-clause-puts
returns-in-Ok-clause-puts g c σ good stands before =
    let s = c.args.self.now.sender in
    let taken = g.K.Sink.taken in
    let is = c.frame.ensures.last σ c.args.tick stands (sym c.requires) in
    let line : List ℕ = ended (encode_lower (packed_symbols (symbols_of c.args.self.now.rd (frame_characters c.args.tick c.frame.result.now)))) in
    subst (λ (text : List ℕ). Gathers text c.args.text.now (taken c.args.out.now) c.put_frame-self.new.text (taken c.make_room.new.out))
    (symbols_are s.plan σ c.args.tick c.args.self.now.rd c.frame.result.now good is before)
    (gathers_then [] line c.args.text.now c.make_room.new.self c.put_frame-self.new.text (taken c.args.out.now) (taken c.make_room.new.out) (taken c.make_room.new.out) c.in-Ok.ensures.gathers
    (gathers_put line c.make_room.new.self c.put_frame-self.new.text (taken c.make_room.new.out) c.put_frame-self.ensures.text))
