-- Which addresses are those of implicit accounts.
use Rattle.std.specs.Prelude.{◌≡◌, ℕ, List, Bool, IsTrue, slice_index, ◌==◌}
use Rattle.value_core.specs.Lawful.{is_lawful_address}

-- the address of an implicit account: one whose first byte is 0
pub record IsImplicit (address : List ℕ) : Type 0 where
  pub lawful : IsTrue (is_lawful_address address)
  pub implicit : slice_index address 0 ≡ 0

-- the test by which an address is that of an implicit account, and not of a contract
abbrev pub is_implicit : List ℕ → Bool
is_implicit address = slice_index address 0 == 0
