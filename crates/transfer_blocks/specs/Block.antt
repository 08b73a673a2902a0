-- Blocks of plain transfers, and which of them have a spelling.
use Rattle.std.specs.Prelude.{◌≡◌, ℕ, ◌<◌, ◌≤◌, ◌^◌, List, length, map, sum}
use Rattle.std.specs.List.{AllByRecursion}
use Rattle.cell_names.specs.Accounts.{IsImplicit}
use Rattle.cell_names.specs.declared.cell.Cell.{Cell}
use Rattle.cell_names.specs.declared.mode.Mode.{Mode}
use Rattle.cell_names.specs.Spelling.{IsFootprint}
use Rattle.transfer_blocks.specs.declared.transfer.Transfer.{Transfer}
use Rattle.transfer_blocks.specs.declared.transfer.Receipt.{Receipt}

-- a block, as contracts see it
pub record BlockView : Type 0 where
  pub parent : List ℕ
  pub level : ℕ
  pub now : ℕ
  pub ops : List Transfer
  pub joins : List (List ℕ)
  pub footprints : List (List (Cell × Mode))
  pub receipts : List Receipt
  pub state : List ℕ

-- which transfers are lawful
pub record IsTransfer (t : Transfer) : Type 0 where
  pub source : IsImplicit t.source
  pub dest : IsImplicit t.dest
  pub amount : t.amount < 2 ^ 63
  pub gas : t.gas ≤ 100000000
  pub turns : t.turns ≤ 1000000

-- the gas that operations may use together
abbrev pub gas_of : List Transfer → ℕ
gas_of ops = sum (map (λ t. t.gas) ops)

-- at most 512 numbers, whatever they are
pub record IsList (list : List ℕ) : Type 0 where
  pub few : length list ≤ 512
  pub numbers : AllByRecursion (λ n. n < 2 ^ 32) list

-- what has a spelling: each operation with its joins, its footprint and its receipt
pub record IsBlock (b : BlockView) : Type 0 where
  pub parent : length b.parent ≡ 32
  pub level : b.level < 2 ^ 32
  pub now : b.now < 2 ^ 64
  pub few : length b.ops ≤ 512
  pub ops : AllByRecursion IsTransfer b.ops
  pub gas : gas_of b.ops ≤ 1000000000
  pub joined : length b.joins ≡ length b.ops
  pub joins : AllByRecursion IsList b.joins
  pub touched : length b.footprints ≡ length b.ops
  pub footprints : AllByRecursion IsFootprint b.footprints
  pub ended : length b.receipts ≡ length b.ops
  pub receipts : AllByRecursion (λ r. r.gas < 2 ^ 32) b.receipts
  pub state : length b.state ≡ 32
