use Rattle.std.proofs.Common.{◌≡◌, ◌+◌, drop}
use Rattle.std.specs.Prelude.{sum_by}
use Rattle.value_core.specs.Size.{size_of}
use Rattle.michelson_data.proofs.pairs.are_within_size.Given as goal

abbrev pub invariant-loop-part : goal.invariant-loop-part
invariant-loop-part l = sum_by size_of l.parts + l.left ≡ l.most + sum_by size_of (drop l.part-index l.parts)
