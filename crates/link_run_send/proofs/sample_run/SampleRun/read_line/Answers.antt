use Rattle.std.proofs.Common.{refl, sym, ap, ◌∙◌, subst}
use Rattle.link_run_capture.specs.declared.header.Header.{Header}
use Rattle.link_run_feed.specs.FeedCalls.{BreaksOffAt, IsReadAs}
use Rattle.link_run_send.specs.Sends.{GoesOn}
use Rattle.link_text.specs.Fields.{at_first_space}
use Rattle.link_run_send.specs.Sent.{fast_line, slow_line, word_and_rest}
use Rattle.link_run_send.proofs.HandedOn.{map_err}
use Rattle.link_run_send.proofs.VersionLines.{line_fast, line_one, line_sample, line_slow, queued_read}
use Rattle.link_run_send.proofs.sample_run.SampleRun.read_line.Goals as goal

pub returns-then-eq-clause-reads : goal.returns-then-eq-clause-reads
returns-then-eq-clause-reads g c = λ s between.
    let word = c.word_and_rest.result.0.now in
    let rest = c.word_and_rest.result.1.now in
    let version = ap (λ (h : Header). h.version) between.keeps.header ∙ c.in-Two.is in
    let is = sym (rw c.as_slice.ensures at c.if-eq.ensures) in
    let hand = c.args.text.now in
    let sink = g.K.Sink.taken c.args.out.now in
    subst (λ line. IsReadAs line c.read_slow.result (GoesOn c.args.self.now c.read_slow.new.self) hand sink hand sink) (sym (line_slow s c.args.line.now version (word, rest) c.word_and_rest.ensures.fields is))
    (queued_read (slow_line s rest) c.read_slow.result (GoesOn c.args.self.now c.read_slow.new.self) hand sink (c.read_slow.ensures.reads s between))

pub returns-then-eq-2-clause-reads : goal.returns-then-eq-2-clause-reads
returns-then-eq-2-clause-reads g c = λ s between.
    let word = c.word_and_rest.result.0.now in
    let rest = c.word_and_rest.result.1.now in
    let version = ap (λ (h : Header). h.version) between.keeps.header ∙ c.in-Two.is in
    let no_slow = sym (rw c.as_slice.ensures at c.if-eq.ensures) in
    let is = sym (rw c.as_slice-in-Two.ensures at c.if-eq-2.ensures) in
    let hand = c.args.text.now in
    let sink = g.K.Sink.taken c.args.out.now in
    subst (λ line. IsReadAs line c.read_fast.result (GoesOn c.args.self.now c.read_fast.new.self) hand sink hand sink) (sym (line_fast s c.args.line.now version (word, rest) c.word_and_rest.ensures.fields no_slow is))
    (queued_read (fast_line s rest) c.read_fast.result (GoesOn c.args.self.now c.read_fast.new.self) hand sink (c.read_fast.ensures.reads s between))

pub returns-in-One-clause-fails : goal.returns-in-One-clause-fails
returns-in-One-clause-fails g c =
    map_err c.read_sample_line.result
    (λ fails s between.
    subst (λ line. BreaksOffAt line c.args.text.now (g.K.Sink.taken c.args.out.now) (g.K.Sink.taken c.read_sample_line.new.out))
    (sym (line_one s c.args.line.now (ap (λ (h : Header). h.version) between.keeps.header ∙ c.in-One.is))) (fails s between))
    c.read_sample_line.ensures.fails

pub returns-else-eq-2-clause-fails : goal.returns-else-eq-2-clause-fails
returns-else-eq-2-clause-fails g c =
    map_err c.read_sample_line-in-Two.result
    (λ fails s between.
    let word = c.word_and_rest.result.0.now in
    let rest = c.word_and_rest.result.1.now in
    let version = ap (λ (h : Header). h.version) between.keeps.header ∙ c.in-Two.is in
    let no_slow = sym (rw c.as_slice.ensures at c.if-eq.ensures) in
    let no_fast = sym (rw c.as_slice-in-Two.ensures at c.if-eq-2.ensures) in
    subst (λ line. BreaksOffAt line c.args.text.now (g.K.Sink.taken c.args.out.now) (g.K.Sink.taken c.read_sample_line-in-Two.new.out))
    (sym (line_sample s c.args.line.now version (word, rest) c.word_and_rest.ensures.fields no_slow no_fast)) (fails s between))
    c.read_sample_line-in-Two.ensures.fails

pub returns-then-not-may_be_frame-clause-fails : goal.returns-then-not-may_be_frame-clause-fails
returns-then-not-may_be_frame-clause-fails g c =
    map_err c.read_sample_line-then-not-may_be_frame.result
    (λ fails s between.
    let line = c.args.line.now in
    let version = ap (λ (h : Header). h.version) between.keeps.header ∙ c.in-Two.is in
    let no_frame = c.may_be_frame.ensures c.if-not-may_be_frame.true in
    subst (λ read. BreaksOffAt read c.args.text.now (g.K.Sink.taken c.args.out.now) (g.K.Sink.taken c.read_sample_line-then-not-may_be_frame.new.out))
    (sym (line_sample s line version (word_and_rest line (at_first_space line)) refl no_frame.no_slow no_frame.no_fast)) (fails s between))
    c.read_sample_line-then-not-may_be_frame.ensures.fails
