-- By what stands at one level of a type.
use Rattle.value_laws.proofs.PlaceLaws.{counted, each_has_one, numbered_from_the_left}
use Rattle.value_laws.proofs.places.big_maps_stand_at_their_own_places.Goals as goal

pub returns : goal.returns
returns c = record { each = each_has_one; placed = numbered_from_the_left; counted = counted }
