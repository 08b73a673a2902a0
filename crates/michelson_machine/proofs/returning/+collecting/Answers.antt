use Rattle.std.proofs.Common.{rules}
use Rattle.michelson_machine.proofs.ReturnLaws.{maps_of_list, maps_of_map, maps_of_set}
use Rattle.michelson_machine.proofs.returning.+collecting.Goals as goal

pub collect-returns-in-Map : goal.collect-returns-in-Map
collect-returns-in-Map t c = search (rules, maps_of_map)

pub collect-returns-in-List : goal.collect-returns-in-List
collect-returns-in-List t c = search (rules, maps_of_list, maps_of_set)
