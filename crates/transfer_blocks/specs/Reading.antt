-- Reading a block from its front: which fault comes where, and which lawful field isn't built.
use Rattle.std.specs.Prelude.{ℕ, List, length, Result, nat_le, ◌==◌}
use Rattle.std.specs.Int.{w8, w32, w64}
use Rattle.byte_fields.specs.Stops.{Stop}
use Rattle.byte_fields.specs.Readers.{Reader, number, run, made, both, with, checked, built}
use Rattle.byte_fields.specs.Readers.{chained, many, behind, whole}
use Rattle.byte_fields.specs.Told.{alone}
use Rattle.cell_names.specs.declared.cell.Cell.{Cell}
use Rattle.cell_names.specs.declared.mode.Mode.{Mode}
use Rattle.cell_names.specs.Reading.{footprint}
use Rattle.transfer_blocks.specs.declared.transfer.Transfer.{Transfer}
use Rattle.transfer_blocks.specs.declared.transfer.Receipt.{Receipt}
use Rattle.transfer_blocks.specs.Block.{BlockView}
use Rattle.transfer_blocks.specs.Spelling.{magic}
use Rattle.transfer_blocks.specs.Operation.{op, gas_up_to}

-- n operations, the first of which has no gas before it
abbrev pub ops : ℕ → Reader (List Transfer)
ops = chained op gas_up_to 0

-- a number of at most 512
abbrev pub small : Reader ℕ
small = checked (λ n. nat_le n 512) (number w32)

-- n numbers, whatever they are
abbrev pub numbers : ℕ → Reader (List ℕ)
numbers = many (number w32)

-- what an operation is joined to: how many numbers, and each
abbrev pub list : Reader (List ℕ)
list = with small numbers

-- the tag of a receipt, of which Applied and BalanceTooLow are built
abbrev pub tag : Reader ℕ
tag = built (λ t. nat_le t 1) (checked (λ t. nat_le t 14) (number w8))

-- how an operation ended, and its gas
unfoldable pub receipt : Reader Receipt
receipt = made (λ p. record { applied = p.0 == 0; gas = p.1 }) (both tag (number w32))

-- operations, and the join list, the footprint and the receipt of each
abbrev pub Parts : Type 0
Parts = List Transfer × (List (List ℕ) × (List (List (Cell × Mode)) × List Receipt))

-- the parts of n operations
unfoldable pub parts : ℕ → Reader Parts
parts n = both (ops n) (both (many list n) (both (many footprint n) (many receipt n)))

-- how many operations, and the parts
abbrev pub published : Reader Parts
published = with small parts

-- parent, level, now, what is published, and the digest of the state
abbrev pub Fields : Type 0
Fields = List ℕ × (ℕ × (ℕ × (Parts × List ℕ)))

-- the block of these fields
abbrev pub block_from : Fields → BlockView
block_from p = record {
  parent = p.0;
  level = p.1.0;
  now = p.1.1.0;
  ops = p.1.1.1.0.0;
  joins = p.1.1.1.0.1.0;
  footprints = p.1.1.1.0.1.1.0;
  receipts = p.1.1.1.0.1.1.1;
  state = p.1.1.1.1;
}

-- the fields, behind the magic
abbrev pub fields : Reader Fields
fields =
    both (run 32) (both (number w32) (both (number w64)
    (both published (run 32))))

-- all of the bytes
unfoldable pub block : Reader BlockView
block = whole (made block_from (behind magic fields))

-- the block that all of the bytes spell, or the place of the first fault or field that isn't built
abbrev pub block_of : List ℕ → Result BlockView Stop
block_of bytes = alone (length bytes) (block bytes)
