use Rattle.std.proofs.Common.{sym, ap, ◌∙◌}
use Rattle.link_sender.specs.WordSizes.{sender_in}
use Rattle.link_sender.proofs.Sizes.{last_frame, no_frame, size_same}
use Rattle.link_sender.proofs.word_sizes.AnySender.frame.Goals as goal

pub returns-in-One-clause-none : goal.returns-in-One-clause-none
returns-in-One-clause-none c =
    no_frame c.in-One.sender c.args.self.now c.frame.result.now c.octets.result.now (sym (ap sender_in c.in-One.is) ∙ c.self.view_is) c.octets.ensures.value c.frame.ensures.none

pub returns-in-One-clause-last : goal.returns-in-One-clause-last
returns-in-One-clause-last c =
    last_frame c.in-One.sender c.args.self.now c.frame.result.now c.octets.result.now (sym (ap sender_in c.in-One.is) ∙ c.self.view_is) c.octets.ensures.value c.frame.ensures.last

pub returns-in-Two-clause-none : goal.returns-in-Two-clause-none
returns-in-Two-clause-none c =
    no_frame c.in-Two.sender c.args.self.now c.frame-in-Two.result.now c.octets-in-Two.result.now (sym (ap sender_in c.in-Two.is) ∙ c.self.view_is) c.octets-in-Two.ensures.value c.frame-in-Two.ensures.none

pub returns-in-Two-clause-last : goal.returns-in-Two-clause-last
returns-in-Two-clause-last c =
    last_frame c.in-Two.sender c.args.self.now c.frame-in-Two.result.now c.octets-in-Two.result.now (sym (ap sender_in c.in-Two.is) ∙ c.self.view_is) c.octets-in-Two.ensures.value c.frame-in-Two.ensures.last

pub returns-in-Four-clause-none : goal.returns-in-Four-clause-none
returns-in-Four-clause-none c =
    no_frame c.in-Four.sender c.args.self.now c.frame-in-Four.result.now c.octets-in-Four.result.now (sym (ap sender_in c.in-Four.is) ∙ c.self.view_is) c.octets-in-Four.ensures.value c.frame-in-Four.ensures.none

pub returns-in-Four-clause-last : goal.returns-in-Four-clause-last
returns-in-Four-clause-last c =
    last_frame c.in-Four.sender c.args.self.now c.frame-in-Four.result.now c.octets-in-Four.result.now (sym (ap sender_in c.in-Four.is) ∙ c.self.view_is) c.octets-in-Four.ensures.value c.frame-in-Four.ensures.last

pub returns-in-Five-clause-none : goal.returns-in-Five-clause-none
returns-in-Five-clause-none c =
    no_frame c.in-Five.sender c.args.self.now c.frame-in-Five.result.now c.octets-in-Five.result.now (sym (ap sender_in c.in-Five.is) ∙ c.self.view_is) c.octets-in-Five.ensures.value c.frame-in-Five.ensures.none

pub returns-in-Five-clause-last : goal.returns-in-Five-clause-last
returns-in-Five-clause-last c =
    last_frame c.in-Five.sender c.args.self.now c.frame-in-Five.result.now c.octets-in-Five.result.now (sym (ap sender_in c.in-Five.is) ∙ c.self.view_is) c.octets-in-Five.ensures.value c.frame-in-Five.ensures.last

pub returns-in-Eight-clause-none : goal.returns-in-Eight-clause-none
returns-in-Eight-clause-none c =
    no_frame c.in-Eight.sender c.args.self.now c.frame-in-Eight.result.now c.octets-in-Eight.result.now (sym (ap sender_in c.in-Eight.is) ∙ c.self.view_is) c.octets-in-Eight.ensures.value c.frame-in-Eight.ensures.none

pub returns-in-Eight-clause-last : goal.returns-in-Eight-clause-last
returns-in-Eight-clause-last c =
    last_frame c.in-Eight.sender c.args.self.now c.frame-in-Eight.result.now c.octets-in-Eight.result.now (sym (ap sender_in c.in-Eight.is) ∙ c.self.view_is) c.octets-in-Eight.ensures.value c.frame-in-Eight.ensures.last

pub returns-in-Ten-clause-none : goal.returns-in-Ten-clause-none
returns-in-Ten-clause-none c =
    no_frame c.in-Ten.sender c.args.self.now c.frame-in-Ten.result.now c.octets-in-Ten.result.now (sym (ap sender_in c.in-Ten.is) ∙ c.self.view_is) c.octets-in-Ten.ensures.value c.frame-in-Ten.ensures.none

pub returns-in-Ten-clause-last : goal.returns-in-Ten-clause-last
returns-in-Ten-clause-last c =
    last_frame c.in-Ten.sender c.args.self.now c.frame-in-Ten.result.now c.octets-in-Ten.result.now (sym (ap sender_in c.in-Ten.is) ∙ c.self.view_is) c.octets-in-Ten.ensures.value c.frame-in-Ten.ensures.last

pub returns-in-Sixteen-clause-none : goal.returns-in-Sixteen-clause-none
returns-in-Sixteen-clause-none c =
    no_frame c.in-Sixteen.sender c.args.self.now c.frame-in-Sixteen.result.now c.octets-in-Sixteen.result.now (sym (ap sender_in c.in-Sixteen.is) ∙ c.self.view_is) c.octets-in-Sixteen.ensures.value c.frame-in-Sixteen.ensures.none

pub returns-in-Sixteen-clause-last : goal.returns-in-Sixteen-clause-last
returns-in-Sixteen-clause-last c =
    last_frame c.in-Sixteen.sender c.args.self.now c.frame-in-Sixteen.result.now c.octets-in-Sixteen.result.now (sym (ap sender_in c.in-Sixteen.is) ∙ c.self.view_is) c.octets-in-Sixteen.ensures.value c.frame-in-Sixteen.ensures.last

pub returns-in-One-clause-size : goal.returns-in-One-clause-size
returns-in-One-clause-size c = size_same 1 c.in-One.sender c.args.self.now c.octets.result.now (sym (ap sender_in c.in-One.is) ∙ c.self.view_is) c.frame.ensures.words c.octets.ensures.length

pub returns-in-Two-clause-size : goal.returns-in-Two-clause-size
returns-in-Two-clause-size c = size_same 2 c.in-Two.sender c.args.self.now c.octets-in-Two.result.now (sym (ap sender_in c.in-Two.is) ∙ c.self.view_is) c.frame-in-Two.ensures.words c.octets-in-Two.ensures.length

pub returns-in-Four-clause-size : goal.returns-in-Four-clause-size
returns-in-Four-clause-size c = size_same 4 c.in-Four.sender c.args.self.now c.octets-in-Four.result.now (sym (ap sender_in c.in-Four.is) ∙ c.self.view_is) c.frame-in-Four.ensures.words c.octets-in-Four.ensures.length

pub returns-in-Five-clause-size : goal.returns-in-Five-clause-size
returns-in-Five-clause-size c = size_same 5 c.in-Five.sender c.args.self.now c.octets-in-Five.result.now (sym (ap sender_in c.in-Five.is) ∙ c.self.view_is) c.frame-in-Five.ensures.words c.octets-in-Five.ensures.length

pub returns-in-Eight-clause-size : goal.returns-in-Eight-clause-size
returns-in-Eight-clause-size c = size_same 8 c.in-Eight.sender c.args.self.now c.octets-in-Eight.result.now (sym (ap sender_in c.in-Eight.is) ∙ c.self.view_is) c.frame-in-Eight.ensures.words c.octets-in-Eight.ensures.length

pub returns-in-Ten-clause-size : goal.returns-in-Ten-clause-size
returns-in-Ten-clause-size c = size_same 10 c.in-Ten.sender c.args.self.now c.octets-in-Ten.result.now (sym (ap sender_in c.in-Ten.is) ∙ c.self.view_is) c.frame-in-Ten.ensures.words c.octets-in-Ten.ensures.length

pub returns-in-Sixteen-clause-size : goal.returns-in-Sixteen-clause-size
returns-in-Sixteen-clause-size c = size_same 16 c.in-Sixteen.sender c.args.self.now c.octets-in-Sixteen.result.now (sym (ap sender_in c.in-Sixteen.is) ∙ c.self.view_is) c.frame-in-Sixteen.ensures.words c.octets-in-Sixteen.ensures.length
