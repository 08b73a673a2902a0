-- A key is there exactly where it has a place.
use Rattle.michelson_data.proofs.KeyLaws.{map_tells, set_tells}
use Rattle.michelson_data.proofs.keys.member.Goals as goal

pub returns-in-Set : goal.returns-in-Set
returns-in-Set c = set_tells c.args.key.now c.args.of.now c.in-Set.items c.as_slice.result.now c.place_in_set.result c.is_ok.result
    c.in-Set.is c.as_slice.ensures c.is_ok.ensures.value c.place_in_set.ensures.place

pub returns-in-Map : goal.returns-in-Map
returns-in-Map c = map_tells c.args.key.now c.args.of.now c.in-Map.entries c.as_slice-in-Map.result.now c.place_in_map.result c.is_ok-in-Map.result
    c.in-Map.is c.as_slice-in-Map.ensures c.is_ok-in-Map.ensures.value c.place_in_map.ensures.place
