use Rattle.std.proofs.Common.{arith, inl, inr, sym, ◌∙◌}
use Rattle.playout_buffer.proofs.Candidates.{candidate_of-none, candidate_of-some, no_such_number, none_opened, latest_is, latest_is_none}
use Rattle.playout_buffer.proofs.window.Window.candidate.Goals as goal
use Rattle.playout_buffer.proofs.window.Window.candidate.Goals.{then-low-p-via-then-low-p, then-low-p-via-else-low-p+then-high-q, else-latest-self-via-then-latest-self+else-now-whole, else-latest-self-via-else-latest-self}

pub returns-then-low-p : goal.returns-then-low-p
returns-then-low-p c =
    sym (candidate_of-none c.args.self.now c.args.now c.args.seq (no_such_number c.args.self.now c.requires.window c.args.now c.args.seq (elim c.then-low-p.branch [
      | then-low-p-via-then-low-p w ↦ inl (omega (arith, w.if-low-p.true, c.from-p.ensures, c.from-low.ensures))
      | then-low-p-via-else-low-p+then-high-q w ↦ inr (omega (arith, w.if-high-q.true, c.from-q.ensures, c.from-high.ensures))
    ])))

pub returns-in_err-latest : goal.returns-in_err-latest
returns-in_err-latest c =
    let past = rw (c.from-p.ensures, c.from-q.ensures, c.from-low.ensures, c.from-high.ensures, c.requires.opened) at c.in_err-latest.ensures in
    c.from_residual.ensures ∙ sym (candidate_of-none c.args.self.now c.args.now c.args.seq (none_opened c.args.self.now c.requires.window c.args.now c.args.seq past))

pub returns-then-now-whole : goal.returns-then-now-whole
returns-then-now-whole c =
    let latest = rw (c.from-p.ensures, c.from-q.ensures, c.from-low.ensures, c.from-high.ensures, c.requires.opened) at c.in_ok-latest.ensures in
    let still = rw (c.from.ensures, c.from-then-latest-self.ensures) at c.if-now-whole.true in
    sym (candidate_of-some c.args.self.now c.args.now c.args.seq c.in_ok-latest.latest c.requires.window
    (latest_is c.args.self.now c.requires.window c.args.now c.args.seq c.in_ok-latest.latest
    (omega (arith, c.if-low-p.false, c.from-p.ensures, c.from-low.ensures)) latest.0 latest.1 c.if-latest-self.true still))

pub returns-else-latest-self : goal.returns-else-latest-self
returns-else-latest-self c =
    let latest = rw (c.from-p.ensures, c.from-q.ensures, c.from-low.ensures, c.from-high.ensures, c.requires.opened) at c.in_ok-latest.ensures in
    sym (candidate_of-none c.args.self.now c.args.now c.args.seq
    (latest_is_none c.args.self.now c.requires.window c.args.now c.args.seq c.in_ok-latest.latest
    latest.0 latest.1 latest.2 (λ within. elim c.else-latest-self.branch [
      | else-latest-self-via-then-latest-self+else-now-whole w ↦ rw (c.from.ensures, w.from-then-latest-self.ensures) at w.if-now-whole.false
      | else-latest-self-via-else-latest-self w ↦ absurd (omega (arith, w.if-latest-self.false, within))
    ])))
