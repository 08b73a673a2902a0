-- A map of a pair stands in its first part, or behind that in the second.
use Rattle.std.proofs.Common.{arith}
use Rattle.code_book.proofs.MapPlaces.{in_first, in_second, at_map, same_answer}
use Rattle.code_book.proofs.storage.+big_map_at.Goals as goal

pub returns-then-from-count : goal.returns-then-from-count
returns-then-from-count t c =
    same_answer c.big_map_at.result _ _
    (in_first c.args.t.now c.in-Pair.first c.in-Pair.second c.get.result.now c.get-then-from-count.result.now c.args.place c.count_big_maps-count.result c.in-Pair.is c.get.ensures c.get-then-from-count.ensures c.count_big_maps-count.ensures (omega arith))
    c.big_map_at.ensures

pub returns-else-from-count : goal.returns-else-from-count
returns-else-from-count t c =
    same_answer c.big_map_at-else-from-count.result _ _
    (in_second c.args.t.now c.in-Pair.first c.in-Pair.second c.get.result.now c.get-else-from-count.result.now c.args.place c.count_big_maps-count.result c.in-Pair.is c.get.ensures c.get-else-from-count.ensures c.count_big_maps-count.ensures (omega arith) (omega arith))
    c.big_map_at-else-from-count.ensures

pub returns-then-place-eq0 : goal.returns-then-place-eq0
returns-then-place-eq0 t c =
    at_map c.args.t.now c.in-BigMap.keys c.in-BigMap.values c.get-then-place-eq0.result.now c.get-then-place-eq0-2.result.now c.args.place c.in-BigMap.is c.get-then-place-eq0.ensures c.get-then-place-eq0-2.ensures c.if-place-eq0.true
