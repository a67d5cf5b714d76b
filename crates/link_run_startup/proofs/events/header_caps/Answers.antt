use Rattle.std.proofs.Common.{◌∙◌}
use Rattle.std.specs.Prelude.{codes, bytes_eq}
use Rattle.startup_machine.specs.Offers.{greatest_offer}
use Rattle.link_run_startup.proofs.Headers.{header_one, header_two, header_three, header_four, header_five, caps_other, caps_none_one, caps_none_two, caps_some, not_true, not_false}
use Rattle.link_run_startup.proofs.events.header_caps.Goals as goal

pub returns-in_err-word-clause-none : goal.returns-in_err-word-clause-none
returns-in_err-word-clause-none c = rw c.from_residual.ensures (header_one c.args.line.now c.args.line.now c.args.line.now c.in_err-word.ensures.none)

pub returns-in_err-hdlc-clause-none : goal.returns-in_err-hdlc-clause-none
returns-in_err-hdlc-clause-none c =
    rw c.from_residual-in_err-hdlc.ensures (header_two c.args.line.now c.in_ok-word.word.now c.in_ok-word.rest.now c.in_ok-word.ensures.some c.in_err-hdlc.ensures.none)

pub returns-in_err-pointer-clause-none : goal.returns-in_err-pointer-clause-none
returns-in_err-pointer-clause-none c =
    rw c.from_residual-in_err-pointer.ensures
    (header_three c.args.line.now c.in_ok-word.word.now c.in_ok-word.rest.now c.in_ok-hdlc.hdlc.now c.in_ok-hdlc.rest.now c.in_ok-word.ensures.some c.in_ok-hdlc.ensures.some c.in_err-pointer.ensures.none)

pub returns-in_err-other_hdlc-clause-none : goal.returns-in_err-other_hdlc-clause-none
returns-in_err-other_hdlc-clause-none c =
    rw c.from_residual-in_err-other_hdlc.ensures
    (header_four c.args.line.now c.in_ok-word.word.now c.in_ok-word.rest.now c.in_ok-hdlc.hdlc.now c.in_ok-hdlc.rest.now c.in_ok-pointer.pointer.now c.in_ok-pointer.rest.now
    c.in_ok-word.ensures.some c.in_ok-hdlc.ensures.some c.in_ok-pointer.ensures.some c.in_err-other_hdlc.ensures.none)

pub returns-then-ne-clause-none : goal.returns-then-ne-clause-none
returns-then-ne-clause-none c =
    header_five c.args.line.now c.in_ok-word.word.now c.in_ok-word.rest.now c.in_ok-hdlc.hdlc.now c.in_ok-hdlc.rest.now c.in_ok-pointer.pointer.now c.in_ok-pointer.rest.now
    c.in_ok-other_hdlc.other_hdlc.now c.in_ok-other_hdlc.other_pointer.now
    c.in_ok-word.ensures.some c.in_ok-hdlc.ensures.some c.in_ok-pointer.ensures.some c.in_ok-other_hdlc.ensures.some
    ∙ caps_other c.in_ok-word.word.now c.in_ok-hdlc.hdlc.now c.in_ok-pointer.pointer.now c.in_ok-other_hdlc.other_hdlc.now c.in_ok-other_hdlc.other_pointer.now
    (not_true (bytes_eq c.in_ok-word.word.now (codes "startup")) (rw c.as_slice.ensures at c.if-ne.ensures))

pub returns-clause-some : goal.returns-clause-some
returns-clause-some c =
    header_five c.args.line.now c.in_ok-word.word.now c.in_ok-word.rest.now c.in_ok-hdlc.hdlc.now c.in_ok-hdlc.rest.now c.in_ok-pointer.pointer.now c.in_ok-pointer.rest.now
    c.in_ok-other_hdlc.other_hdlc.now c.in_ok-other_hdlc.other_pointer.now
    c.in_ok-word.ensures.some c.in_ok-hdlc.ensures.some c.in_ok-pointer.ensures.some c.in_ok-other_hdlc.ensures.some
    ∙ caps_some c.in_ok-word.word.now c.in_ok-hdlc.hdlc.now c.in_ok-pointer.pointer.now c.in_ok-other_hdlc.other_hdlc.now c.in_ok-other_hdlc.other_pointer.now
    (greatest_offer c.in_ok-caps_of.field-0) (greatest_offer c.in_ok-caps_of-2.field-0)
    (not_false (bytes_eq c.in_ok-word.word.now (codes "startup")) (rw c.as_slice.ensures at c.if-ne.ensures))
    c.in_ok-caps_of.ensures.some c.in_ok-caps_of-2.ensures.some

pub returns-in_err-caps_of-clause-none : goal.returns-in_err-caps_of-clause-none
returns-in_err-caps_of-clause-none c =
    rw c.from_residual-in_err-caps_of.ensures
    (header_five c.args.line.now c.in_ok-word.word.now c.in_ok-word.rest.now c.in_ok-hdlc.hdlc.now c.in_ok-hdlc.rest.now c.in_ok-pointer.pointer.now c.in_ok-pointer.rest.now
    c.in_ok-other_hdlc.other_hdlc.now c.in_ok-other_hdlc.other_pointer.now
    c.in_ok-word.ensures.some c.in_ok-hdlc.ensures.some c.in_ok-pointer.ensures.some c.in_ok-other_hdlc.ensures.some
    ∙ caps_none_one c.in_ok-word.word.now c.in_ok-hdlc.hdlc.now c.in_ok-pointer.pointer.now c.in_ok-other_hdlc.other_hdlc.now c.in_ok-other_hdlc.other_pointer.now c.in_err-caps_of.ensures.none)

pub returns-in_err-caps_of-2-clause-none : goal.returns-in_err-caps_of-2-clause-none
returns-in_err-caps_of-2-clause-none c =
    rw c.from_residual-in_err-caps_of-2.ensures
    (header_five c.args.line.now c.in_ok-word.word.now c.in_ok-word.rest.now c.in_ok-hdlc.hdlc.now c.in_ok-hdlc.rest.now c.in_ok-pointer.pointer.now c.in_ok-pointer.rest.now
    c.in_ok-other_hdlc.other_hdlc.now c.in_ok-other_hdlc.other_pointer.now
    c.in_ok-word.ensures.some c.in_ok-hdlc.ensures.some c.in_ok-pointer.ensures.some c.in_ok-other_hdlc.ensures.some
    ∙ caps_none_two c.in_ok-word.word.now c.in_ok-hdlc.hdlc.now c.in_ok-pointer.pointer.now c.in_ok-other_hdlc.other_hdlc.now c.in_ok-other_hdlc.other_pointer.now c.in_err-caps_of-2.ensures.none)
