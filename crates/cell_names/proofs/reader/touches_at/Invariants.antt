-- What was read ascends, and with what is still read it is the whole.
use Rattle.std.proofs.Common.{◌≡◌, ◌-◌, None}
use Rattle.std.specs.Prelude.{IsTrue}
use Rattle.byte_fields.specs.Readers.{chained}
use Rattle.byte_fields.proofs.Loops.{with_front}
use Rattle.cell_names.specs.Footprints.{ascends}
use Rattle.cell_names.specs.Reading.{touch, next_last, last_cell}
use Rattle.cell_names.proofs.reader.touches_at.Given as goal

abbrev pub invariant-loop : goal.invariant-loop
invariant-loop l = record {
  ascending : IsTrue (ascends l.touches.items);
  so_far : with_front l.touches.items (chained touch next_last (last_cell l.touches.items) (l.count - l.counter) l.rest) ≡ chained touch next_last None l.count l.bytes;
}
