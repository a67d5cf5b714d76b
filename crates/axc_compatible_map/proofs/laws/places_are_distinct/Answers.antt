use Rattle.axc_compatible_map.proofs.Places.{PlacesAreDistinct-holds}
use Rattle.axc_compatible_map.proofs.laws.places_are_distinct.Goals as goal

pub returns : goal.returns
returns c = PlacesAreDistinct-holds
