use Rattle.std.proofs.Common.{◌≡◌, drop}
use Rattle.std.specs.Prelude.{IsTrue}
use Rattle.std.specs.List.{list_all}
use Rattle.value_core.specs.Leaves.{is_printable}
use Rattle.michelson_rules.specs.Collections.{strings}
use Rattle.michelson_data.proofs.RowLaws.{before}
use Rattle.michelson_data.proofs.rows.strings.Given as goal

abbrev pub invariant-loop-item : goal.invariant-loop-item
invariant-loop-item l = record {
  gathered : strings l.items ≡ before l.row.items (strings (drop l.item-index l.items));
  printable : IsTrue (list_all is_printable l.row.items);
}
