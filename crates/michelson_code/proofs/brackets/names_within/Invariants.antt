-- All names are within so many brackets where those that are left are.
use Rattle.std.proofs.Common.{drop, map}
use Rattle.std.specs.Prelude.{◌≤◌, ◌↔◌}
use Rattle.value_core.specs.Depth.{greatest}
use Rattle.michelson_code.specs.Brackets.{name_brackets}
use Rattle.michelson_code.proofs.brackets.names_within.Given as goal

abbrev pub invariant-loop-name : goal.invariant-loop-name
invariant-loop-name l = (greatest (map name_brackets l.names) ≤ l.most) ↔ (greatest (map name_brackets (drop l.name-index l.names)) ≤ l.most)
