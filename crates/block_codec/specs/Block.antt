-- Blocks, and which of them have a spelling.
use Rattle.std.specs.Prelude.{◌≡◌, ℕ, ◌<◌, ◌≤◌, ◌^◌, List, length, map, sum, Option, Some, IsTrue}
use Rattle.std.specs.List.{AllByRecursion}
use Rattle.value_core.specs.declared.val.Val.{Val}
use Rattle.value_core.specs.BigMaps.{has_no_big_map}
use Rattle.value_core.specs.Depth.{depth_of}
use Rattle.value_core.specs.Lawful.{is_lawful, is_lawful_address}
use Rattle.value_core.specs.Leaves.{is_name}
use Rattle.value_core.specs.Sound.{is_plain}
use Rattle.michelson_code.specs.declared.why.Why.{Why}
use Rattle.michelson_code.specs.declared.why.Why.TheVariants.{Raised}
use Rattle.cell_names.specs.declared.cell.Cell.{Cell}
use Rattle.cell_names.specs.declared.mode.Mode.{Mode}
use Rattle.cell_names.specs.Spelling.{IsFootprint}
use Rattle.op_rules.specs.declared.limits.TheConstants.{MOST_DEPTH}
use Rattle.op_rules.specs.declared.op.Op.{Op}
use Rattle.op_rules.specs.declared.receipt.Receipt.{Receipt}
use Rattle.op_rules.specs.Operations.{IsLawful}
use Rattle.block_codec.specs.declared.limits.TheConstants.{MOST_BLOCK_GAS, MOST_OPS}

-- a block, as contracts see it
pub record BlockView : Type 0 where
  pub parent : List ℕ
  pub level : ℕ
  pub now : ℕ
  pub ops : List Op
  pub joins : List (List ℕ)
  pub footprints : List (List (Cell × Mode))
  pub receipts : List Receipt
  pub state : List ℕ

-- the gas that operations may use together
abbrev pub gas_of : List Op → ℕ
gas_of ops = sum (map (λ op. op.gas) ops)

-- a lawful operation between addresses, with a name and a param that the program can hold
pub record IsOp (op : Op) : Type 0 where
  pub lawful : IsLawful op
  pub source : IsTrue (is_lawful_address op.source)
  pub dest : IsTrue (is_lawful_address op.dest)
  pub entry : IsTrue (is_name op.entry)
  pub leaves : IsTrue (is_lawful op.param)

-- at most as many numbers as operations, whatever they are
pub record IsList (list : List ℕ) : Type 0 where
  pub few : length list ≤ MOST_OPS
  pub numbers : AllByRecursion (λ n. n < 2 ^ 32) list

-- a value that a failure may raise: plain, without big maps, at most 128 deep
pub record MayBeRaised (v : Val) : Type 0 where
  pub plain : IsTrue (is_plain v)
  pub mapless : IsTrue (has_no_big_map v)
  pub deep : depth_of v ≤ MOST_DEPTH

-- the value of a failure that has one
abbrev pub IsEnd : Option Why → Type 0
IsEnd (Some (Raised v)) = IsTrue (is_lawful v) × MayBeRaised v
IsEnd _ = Unit {0}

-- how an operation ended, and its gas
pub record IsReceipt (r : Receipt) : Type 0 where
  pub end : IsEnd r.end
  pub gas : r.gas < 2 ^ 32

-- what has a spelling: each operation with its joins, its footprint and its receipt
pub record IsBlock (b : BlockView) : Type 0 where
  pub parent : length b.parent ≡ 32
  pub level : b.level < 2 ^ 32
  pub now : b.now < 2 ^ 64
  pub few : length b.ops ≤ MOST_OPS
  pub ops : AllByRecursion IsOp b.ops
  pub gas : gas_of b.ops ≤ MOST_BLOCK_GAS
  pub joined : length b.joins ≡ length b.ops
  pub joins : AllByRecursion IsList b.joins
  pub touched : length b.footprints ≡ length b.ops
  pub footprints : AllByRecursion IsFootprint b.footprints
  pub ended : length b.receipts ≡ length b.ops
  pub receipts : AllByRecursion IsReceipt b.receipts
  pub state : length b.state ≡ 32
