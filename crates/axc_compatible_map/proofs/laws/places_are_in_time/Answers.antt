use Rattle.axc_compatible_map.proofs.Places.{PlacesAreInTime-holds}
use Rattle.axc_compatible_map.proofs.laws.places_are_in_time.Goals as goal

pub returns : goal.returns
returns c = PlacesAreInTime-holds
