use Rattle.playout_buffer.proofs.Candidates.{one_more_opened}
use Rattle.playout_buffer.proofs.window.Window.opened.Goals as goal

pub returns-then-now-whole : goal.returns-then-now-whole
returns-then-now-whole c = one_more_opened c.args.self.now c.requires.window c.args.now c.args.before (rw (c.from.ensures, c.from-2.ensures) at c.if-now-whole.true)
