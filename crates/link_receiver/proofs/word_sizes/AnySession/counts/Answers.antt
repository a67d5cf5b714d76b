use Rattle.std.proofs.Common.{sym, ap, ◌∙◌}
use Rattle.link_receiver.specs.WordSizes.{session_in}
use Rattle.link_receiver.proofs.Sizes.{counted}
use Rattle.link_receiver.proofs.word_sizes.AnySession.counts.Goals as goal

pub returns-in-One : goal.returns-in-One
returns-in-One c records flow stands read =
    counted c.in-One.session c.args.self.now c.args.f c.counts.result.taken c.counts.result.packets (sym (ap session_in c.in-One.is) ∙ c.self.view_is) c.counts.ensures records flow stands read

pub returns-in-Two : goal.returns-in-Two
returns-in-Two c records flow stands read =
    counted c.in-Two.session c.args.self.now c.args.f c.counts-in-Two.result.taken c.counts-in-Two.result.packets (sym (ap session_in c.in-Two.is) ∙ c.self.view_is) c.counts-in-Two.ensures records flow stands read

pub returns-in-Four : goal.returns-in-Four
returns-in-Four c records flow stands read =
    counted c.in-Four.session c.args.self.now c.args.f c.counts-in-Four.result.taken c.counts-in-Four.result.packets (sym (ap session_in c.in-Four.is) ∙ c.self.view_is) c.counts-in-Four.ensures records flow stands read

pub returns-in-Five : goal.returns-in-Five
returns-in-Five c records flow stands read =
    counted c.in-Five.session c.args.self.now c.args.f c.counts-in-Five.result.taken c.counts-in-Five.result.packets (sym (ap session_in c.in-Five.is) ∙ c.self.view_is) c.counts-in-Five.ensures records flow stands read

pub returns-in-Eight : goal.returns-in-Eight
returns-in-Eight c records flow stands read =
    counted c.in-Eight.session c.args.self.now c.args.f c.counts-in-Eight.result.taken c.counts-in-Eight.result.packets (sym (ap session_in c.in-Eight.is) ∙ c.self.view_is) c.counts-in-Eight.ensures records flow stands read

pub returns-in-Ten : goal.returns-in-Ten
returns-in-Ten c records flow stands read =
    counted c.in-Ten.session c.args.self.now c.args.f c.counts-in-Ten.result.taken c.counts-in-Ten.result.packets (sym (ap session_in c.in-Ten.is) ∙ c.self.view_is) c.counts-in-Ten.ensures records flow stands read

pub returns-in-Sixteen : goal.returns-in-Sixteen
returns-in-Sixteen c records flow stands read =
    counted c.in-Sixteen.session c.args.self.now c.args.f c.counts-in-Sixteen.result.taken c.counts-in-Sixteen.result.packets (sym (ap session_in c.in-Sixteen.is) ∙ c.self.view_is) c.counts-in-Sixteen.ensures records flow stands read
