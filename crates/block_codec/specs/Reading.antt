-- Reading a block from its front: its fields in their order, and which fault comes where.
use Rattle.std.specs.Prelude.{ℕ, List, length, Result, nat_le}
use Rattle.std.specs.Int.{w32, w64}
use Rattle.byte_fields.specs.Stops.{Stop}
use Rattle.byte_fields.specs.Readers.{Reader, given, number, run, mark, checked, chained, many, whole}
use Rattle.byte_fields.specs.Told.{alone}
use Rattle.cell_names.specs.Reading.{footprint}
use Rattle.op_rules.specs.declared.op.Op.{Op}
use Rattle.block_codec.specs.declared.limits.TheConstants.{MOST_OPS}
use Rattle.block_codec.specs.Block.{BlockView}
use Rattle.block_codec.specs.Spelling.{magic}
use Rattle.block_codec.specs.Fields.{◌>>=◌, ◌>>◌}
use Rattle.block_codec.specs.Operation.{gas_up_to, op}
use Rattle.block_codec.specs.Receipts.{receipt}

-- n operations, the first of which has no gas before it
abbrev pub ops : ℕ → Reader (List Op)
ops = chained op gas_up_to 0

-- how many operations, or joins
abbrev pub small : Reader ℕ
small = checked (λ n. nat_le n MOST_OPS) (number w32)

-- n numbers, whatever they are
abbrev pub numbers : ℕ → Reader (List ℕ)
numbers = many (number w32)

-- what an operation is joined to: how many numbers, and each
abbrev pub list : Reader (List ℕ)
list = do
  count ← small
  numbers count

-- the fields of a block
unfoldable pub fields : Reader BlockView
fields = do
  mark magic
  parent ← run 32
  level ← number w32
  now ← number w64
  count ← small
  ops ← ops count
  joins ← many list count
  footprints ← many footprint count
  receipts ← many receipt count
  state ← run 32
  given (record {
    parent = parent;
    level = level;
    now = now;
    ops = ops;
    joins = joins;
    footprints = footprints;
    receipts = receipts;
    state = state;
  })

-- all of the bytes
abbrev pub block : Reader BlockView
block = whole fields

-- the block that all of the bytes spell, or the place of the first fault
abbrev pub block_of : List ℕ → Result BlockView Stop
block_of bytes = alone (length bytes) (block bytes)
