-- By what stands at one level of a type.
use Rattle.value_core.proofs.BigMapLemmas.{no_maps}
use Rattle.value_laws.proofs.PlaceLaws.{maps_of-big_map, maps_of-pair}
use Rattle.value_laws.proofs.places.big_maps_stand_on_the_path_of_pairs.Goals as goal

pub returns : goal.returns
returns c = record { pair = maps_of-pair; big_map = maps_of-big_map; other = no_maps }
