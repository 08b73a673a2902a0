-- How deep the reader still goes, and what its loops have read.
use Rattle.std.proofs.Common.{◌≡◌, ◌+◌, ◌-◌, ◌*◌, None}
use Rattle.byte_fields.specs.Readers.{many}
use Rattle.byte_fields.proofs.Loops.{with_front}
use Rattle.value_core.specs.Lasts.{last_item, last_key}
use Rattle.value_codec.specs.Reading.{value, ascending, entries}
use Rattle.value_codec.proofs.reader.+reading.Given as goal

abbrev pub decreases-value_at : goal.decreases-value_at
decreases-value_at l = 4 * l.depth

abbrev pub decreases-items_at : goal.decreases-items_at
decreases-items_at l = 4 * l.depth + 1

abbrev pub decreases-ascending_at : goal.decreases-ascending_at
decreases-ascending_at l = 4 * l.depth + 1

abbrev pub decreases-entries_at : goal.decreases-entries_at
decreases-entries_at l = 4 * l.depth + 1

abbrev pub decreases-behind : goal.decreases-behind
decreases-behind l = 4 * l.depth + 3

abbrev pub decreases-some_at : goal.decreases-some_at
decreases-some_at l = 4 * l.depth + 2

abbrev pub decreases-left_at : goal.decreases-left_at
decreases-left_at l = 4 * l.depth + 2

abbrev pub decreases-right_at : goal.decreases-right_at
decreases-right_at l = 4 * l.depth + 2

abbrev pub decreases-pair_at : goal.decreases-pair_at
decreases-pair_at l = 4 * l.depth + 2

abbrev pub decreases-list_at : goal.decreases-list_at
decreases-list_at l = 4 * l.depth + 2

abbrev pub decreases-set_at : goal.decreases-set_at
decreases-set_at l = 4 * l.depth + 2

abbrev pub decreases-map_at : goal.decreases-map_at
decreases-map_at l = 4 * l.depth + 2

abbrev pub invariant-items_at-loop : goal.invariant-items_at-loop
invariant-items_at-loop l =
    with_front l.items (many (value l.most l.depth) (l.count - l.counter) l.rest) ≡ many (value l.most l.depth) l.count l.bytes

abbrev pub invariant-ascending_at-loop : goal.invariant-ascending_at-loop
invariant-ascending_at-loop l =
    with_front l.items (ascending (value l.most l.depth) (last_item l.items) (l.count - l.counter) l.rest) ≡ ascending (value l.most l.depth) None l.count l.bytes

abbrev pub invariant-entries_at-loop : goal.invariant-entries_at-loop
invariant-entries_at-loop l =
    with_front l.entries (entries (value l.most l.depth) (last_key l.entries) (l.count - l.counter) l.rest) ≡ entries (value l.most l.depth) None l.count l.bytes
