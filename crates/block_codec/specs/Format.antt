-- The limits of the format, which whoever writes a block has to keep.
use Rattle.std.specs.Prelude.{◌≡◌, ◌≤◌, List, length, Option, Some}
use Rattle.std.specs.List.{AllByRecursion}
use Rattle.michelson_code.specs.declared.why.Why.{Why}
use Rattle.michelson_code.specs.declared.why.Why.TheVariants.{Raised}
use Rattle.cell_names.specs.declared.cell.Cell.{Cell}
use Rattle.cell_names.specs.declared.mode.Mode.{Mode}
use Rattle.cell_names.specs.declared.footprint.TheConstants.{MOST_CELLS}
use Rattle.cell_names.specs.Spelling.{CanBeSpelt}
use Rattle.op_rules.specs.Operations.{IsLawful}
use Rattle.block_codec.specs.declared.limits.TheConstants.{MOST_BLOCK_GAS, MOST_OPS}
use Rattle.block_codec.specs.Block.{BlockView, MayBeRaised, gas_of}

-- no more cells than one operation may touch, each of which can be written
pub record CanBePublished (f : List (Cell × Mode)) : Type 0 where
  pub few : length f ≤ MOST_CELLS
  pub cells : AllByRecursion (λ t. CanBeSpelt t.0) f

-- a value that is raised may be
abbrev pub CanEnd : Option Why → Type 0
CanEnd (Some (Raised v)) = MayBeRaised v
CanEnd _ = Unit {0}

-- lawful operations within the gas of a block, and of each a join list, a footprint and a receipt
pub record IsWithinFormat (b : BlockView) : Type 0 where
  pub few : length b.ops ≤ MOST_OPS
  pub ops : AllByRecursion IsLawful b.ops
  pub gas : gas_of b.ops ≤ MOST_BLOCK_GAS
  pub joined : length b.joins ≡ length b.ops
  pub joins : AllByRecursion (λ list. length list ≤ MOST_OPS) b.joins
  pub touched : length b.footprints ≡ length b.ops
  pub footprints : AllByRecursion CanBePublished b.footprints
  pub ended : length b.receipts ≡ length b.ops
  pub receipts : AllByRecursion (λ r. CanEnd r.end) b.receipts
