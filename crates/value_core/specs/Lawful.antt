-- Lawful values: what stands in them is what the program can hold.
use Rattle.std.specs.Prelude.{ℕ, ℤ, pos, negsuc, ◌-◌, ◌^◌, List, Bool, true, ◌&&◌, int_le, nat_lt}
use Rattle.std.specs.List.{list_all}
use Rattle.value_core.specs.declared.val.Val.{Val}
use Rattle.value_core.specs.declared.val.Val.TheOpen as one
use Rattle.value_core.specs.Layer.{Layer}
use Rattle.value_core.specs.Leaves.{is_address, is_blob, is_name, is_text}
use Rattle.value_core.specs.Everywhere.{everywhere}

-- from -(2^127 - 1) to 2^127 - 1
abbrev pub is_number : ℤ → Bool
is_number z = int_le (negsuc (2 ^ 127 - 2)) z && int_le z (pos (2 ^ 127 - 1))

-- each below 256
abbrev pub are_bytes : List ℕ → Bool
are_bytes bytes = list_all (λ b. nat_lt b 256) bytes

-- at most 131,071 bytes
abbrev pub is_lawful_blob : List ℕ → Bool
is_lawful_blob bytes = is_blob bytes && are_bytes bytes

-- an address, and bytes
abbrev pub is_lawful_address : List ℕ → Bool
is_lawful_address bytes = is_address bytes && are_bytes bytes

-- one level of a lawful value: what stands in it keeps the rule of its type; a Mutez may still be too large to be sound
abbrev pub is_lawful_level : {A : Type 0} → Layer A → Bool
is_lawful_level (one.Int n) = is_number n
is_lawful_level (one.Nat n) = is_number n
is_lawful_level (one.Mutez n) = nat_lt n (2 ^ 64)
is_lawful_level (one.Time n) = is_number n
is_lawful_level (one.Text bytes) = is_text bytes
is_lawful_level (one.Bytes bytes) = is_lawful_blob bytes
is_lawful_level (one.Addr address) = is_lawful_address address
is_lawful_level (one.BigMap place version) = nat_lt place 256 && nat_lt version (2 ^ 32)
is_lawful_level (one.Contract address entry) = is_lawful_address address && is_name entry
is_lawful_level (one.Operation emit) = is_lawful_address emit.dest && is_name emit.entry && nat_lt emit.amount (2 ^ 64)
is_lawful_level _ = true

-- lawful at each level
abbrev pub is_lawful : Val → Bool
is_lawful = everywhere is_lawful_level

-- a key and its value
abbrev pub is_lawful_entry : Val × Val → Bool
is_lawful_entry e = is_lawful e.0 && is_lawful e.1
