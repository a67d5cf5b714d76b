use Rattle.std.proofs.Common.{◌≡◌, ◌==◌, ◌∙◌, false, take, length, sym, ap, Err}
use Rattle.std.proofs.lemmas.Bool.{cond-false, ne_eqb}
use Rattle.link_run_feed.specs.declared.reason.Reason.TheVariants.{Count}
use Rattle.line_code.specs.Packed.{symbols_in}
use Rattle.link_run_inspect.specs.Inspect.{with_frame, with_octets, frame_octets, frame_text}
use Rattle.link_run_inspect.proofs.inspector.InspectorFeed.read.Goals as goal

pub returns-in-Err-clause-fails : goal.returns-in-Err-clause-fails
returns-in-Err-clause-fails g c s h =
    let frame = symbols_in (take c.in-Some.count c.frame_octets.new.buffer) in
    let other : (length s.frames == s.due) ≡ false = ne_eqb (length s.frames) s.due (λ e. c.if-self.false (h.receives.number ∙ e ∙ sym h.due)) in (
      with_frame s frame,
      frame_text s.width s.frames frame,
      cond-false (length s.frames == s.due) (Err Count) (with_octets s (frame_octets s.width c.args.line.now)) other
          ∙ ap (with_octets s) (ap (λ w. frame_octets w c.args.line.now) (sym h.width) ∙ c.in-Some.ensures.some),
      c.in-Err.ensures.fails s h,
    )
