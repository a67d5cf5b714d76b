use Rattle.link_run_inspect.proofs.channels.Channels.follow.Goals as goal

pub hand_in-requires-clause-within : goal.hand_in-requires-clause-within
hand_in-requires-clause-within g c = c.requires.within c.in-Some.hyperframe c.in-Some.is c.in-Ok.a c.in-Ok.is
