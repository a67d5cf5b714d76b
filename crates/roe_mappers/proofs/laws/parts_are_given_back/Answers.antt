use Rattle.roe_mappers.proofs.GivenBack.{PartsAreGivenBack-holds}
use Rattle.roe_mappers.proofs.laws.parts_are_given_back.Goals as goal

pub returns : goal.returns
returns c = PartsAreGivenBack-holds c.spells_one_character.ensures
