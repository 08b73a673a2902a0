-- What was gone over is spelt, and may be.
use Rattle.std.proofs.Common.{◌≡◌, ◌++◌, take}
use Rattle.std.specs.List.{flat_map, AllByRecursion}
use Rattle.cell_names.specs.Spelling.{spell_footprint, IsFootprint}
use Rattle.block_codec.proofs.writer.put_footprints.Given as goal

abbrev pub invariant-loop-footprint : goal.invariant-loop-footprint
invariant-loop-footprint l = record {
  written : l.out.items ≡ l.fn.out.items ++ flat_map spell_footprint (take l.footprint-index l.all);
  spelt : AllByRecursion IsFootprint (take l.footprint-index l.all);
}
