-- Reading an operation: its fields in their order, and which fault comes where.
use Rattle.std.specs.Prelude.{ℕ, ◌+◌, ◌&&◌, List, nat_le}
use Rattle.std.specs.Int.{w8, w32}
use Rattle.byte_fields.specs.Readers.{Reader, given, number, run, checked}
use Rattle.value_core.specs.declared.val.Val.{Val}
use Rattle.value_core.specs.Leaves.{is_name}
use Rattle.value_core.specs.Size.{size_of}
use Rattle.value_codec.specs.declared.tag.TheConstants.{PASSED_VALUE}
use Rattle.value_codec.specs.Reading.{address, mutez, value}
use Rattle.cell_names.specs.Accounts.{is_implicit}
use Rattle.op_rules.specs.declared.limits.TheConstants.{MOST_DEPTH, MOST_GAS, MOST_SIZE, MOST_TURNS}
use Rattle.op_rules.specs.declared.op.Op.{Op}
use Rattle.block_codec.specs.declared.limits.TheConstants.{MOST_BLOCK_GAS}
use Rattle.block_codec.specs.Fields.{◌>>=◌}

-- the address of an implicit account
abbrev pub account : Reader (List ℕ)
account = checked is_implicit address

-- the length of a name, from 1 to 31
abbrev pub name_length : Reader ℕ
name_length = checked (λ n. nat_le 1 n && nat_le n 31) (number w8)

-- a length, and so many letters, digits and underscores: two fields
abbrev pub name : Reader (List ℕ)
name = do
  n ← name_length
  checked is_name (run n)

-- a value without big maps, at most 128 deep
abbrev pub passed : Reader Val
passed = value PASSED_VALUE MOST_DEPTH

-- a param is such a value; one that is too large is told at its tag, once it is read
abbrev pub given_value : Reader Val
given_value = checked (λ v. nat_le (size_of v) MOST_SIZE) passed

-- the gas of an operation, with which that of all up to it stays within a block's
abbrev pub gas_behind : ℕ → Reader ℕ
gas_behind total = checked (λ n. nat_le n MOST_GAS && nat_le (total + n) MOST_BLOCK_GAS) (number w32)

-- at most a million turns
abbrev pub few_turns : Reader ℕ
few_turns = checked (λ n. nat_le n MOST_TURNS) (number w32)

-- what stands behind source, destination and entry, where the operations before have so much gas together
unfoldable pub call : ℕ → List ℕ → List ℕ → List ℕ → Reader Op
call total source dest entry = do
  param ← given_value
  amount ← mutez
  gas ← gas_behind total
  turns ← few_turns
  given (record { source = source; dest = dest; entry = entry; param = param; amount = amount; gas = gas; turns = turns })

-- an operation, where those before it have so much gas together
unfoldable pub op : ℕ → Reader Op
op total = do
  source ← account
  dest ← address
  entry ← name
  call total source dest entry

-- the gas of the operations up to this one
abbrev pub gas_up_to : ℕ → Op → ℕ
gas_up_to total op = total + op.gas
