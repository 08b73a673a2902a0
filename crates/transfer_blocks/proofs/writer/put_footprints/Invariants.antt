-- What was gone over is spelt.
use Rattle.std.proofs.Common.{◌≡◌, ◌++◌, take}
use Rattle.std.specs.List.{flat_map}
use Rattle.cell_names.specs.Spelling.{spell_footprint}
use Rattle.transfer_blocks.proofs.writer.put_footprints.Given as goal

abbrev pub invariant-loop-footprint : goal.invariant-loop-footprint
invariant-loop-footprint l = l.out.items ≡ l.fn.out.items ++ flat_map spell_footprint (take l.footprint-index l.all)
