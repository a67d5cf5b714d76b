use Rattle.axc_compatible_map.proofs.Places.{PlacesAreWithin-holds}
use Rattle.axc_compatible_map.proofs.laws.places_are_within.Goals as goal

pub returns : goal.returns
returns c = PlacesAreWithin-holds
