-- Reading an operation: which fault comes where, and which lawful field isn't built.
use Rattle.std.specs.Prelude.{ℕ, ◌+◌, ◌^◌, ◌&&◌, List, nat_le, nat_lt, ◌==◌, bytes_eq}
use Rattle.std.specs.Int.{w8, w32, w64}
use Rattle.byte_fields.specs.Readers.{Reader, number, run, made, both, checked, built}
use Rattle.value_core.specs.Leaves.{is_name}
use Rattle.value_codec.specs.Reading.{address}
use Rattle.cell_names.specs.Accounts.{is_implicit}
use Rattle.transfer_blocks.specs.declared.transfer.Transfer.{Transfer}
use Rattle.transfer_blocks.specs.Spelling.{default_name}

-- the source is an implicit account
abbrev pub source : Reader (List ℕ)
source = checked is_implicit address

-- a destination that is a contract isn't built
abbrev pub dest : Reader (List ℕ)
dest = built is_implicit address

-- from which account to which
unfoldable pub accounts : Reader (List ℕ × List ℕ)
accounts = both source dest

-- the length of an entry's name, from 1 to 31, of which only 7 is built
abbrev pub name_length : Reader ℕ
name_length = built (λ n. n == 7) (checked (λ n. nat_le 1 n && nat_le n 31) (number w8))

-- seven letters, digits or underscores, of which only `default` is built
abbrev pub name : Reader (List ℕ)
name = built (bytes_eq default_name) (checked is_name (run 7))

-- the tag of a param, of which only Unit is built; a big map is no param
abbrev pub param_tag : Reader ℕ
param_tag = built (λ t. t == 0) (checked (λ t. nat_le t 17) (number w8))

-- what is called: an entry, and with which param
unfoldable pub call : Reader (ℕ × (List ℕ × ℕ))
call = both name_length (both name param_tag)

-- an amount is below 2^63
abbrev pub amount : Reader ℕ
amount = checked (λ n. nat_lt n (2 ^ 63)) (number w64)

-- the gas of an operation, with which that of all up to it stays within a block's
abbrev pub gas : ℕ → Reader ℕ
gas total = checked (λ n. nat_le n 100000000 && nat_le (total + n) 1000000000) (number w32)

-- at most a million turns
abbrev pub turns : Reader ℕ
turns = checked (λ n. nat_le n 1000000) (number w32)

-- from where to where, the call, amount, gas and turns
abbrev pub Fields : Type 0
Fields = (List ℕ × List ℕ) × ((ℕ × (List ℕ × ℕ)) × (ℕ × (ℕ × ℕ)))

-- the transfer of these fields
abbrev pub op_from : Fields → Transfer
op_from p = record {
  source = p.0.0;
  dest = p.0.1;
  amount = p.1.1.0;
  gas = p.1.1.1.0;
  turns = p.1.1.1.1;
}

-- an operation, by the gas of those before it
unfoldable pub op : ℕ → Reader Transfer
op total = made op_from (both accounts (both call (both amount (both (gas total) turns))))

-- the gas of the operations up to this one
abbrev pub gas_up_to : ℕ → Transfer → ℕ
gas_up_to total t = total + t.gas
