-- Books: contracts by their addresses, each with its script.
use Rattle.std.specs.Prelude.{◌≡◌, ℕ, ◌≤◌, ◌<◌, ◌^◌, Bool, false, ◌||◌, List, length, IsTrue, Some}
use Rattle.std.specs.Ordering.{nat_cmp}
use Rattle.std.specs.Cmp.Lexicographic.{slice_cmp}
use Rattle.std.specs.FinMap.{FinMap, get, contains_key, len}
use Rattle.value_core.specs.Lawful.{is_lawful_address}
use Rattle.michelson_code.specs.declared.script.Script.{Script}
use Rattle.michelson_code.specs.TypedScript.{IsTypedScript}
use Rattle.michelson_reader.specs.Printed.{script_text}
use Rattle.cell_names.specs.Accounts.{is_implicit}
use Rattle.code_book.specs.declared.book.TheConstants.{MOST_CONTRACTS}

-- the script of each contract, by the order of the addresses' bytes
abbrev pub Contracts : Type 0
Contracts = FinMap (slice_cmp nat_cmp) Script

-- how many bytes the text of a script has
unfoldable pub text_length : Script → ℕ
text_length s = length (script_text s)

-- a contract that may stand in a book: its address isn't an implicit account's, it may run, and its text has a length in four bytes
pub record IsListed (address : List ℕ) (s : Script) : Type 0 where
  pub lawful : IsTrue (is_lawful_address address)
  pub contract : is_implicit address ≡ false
  pub typed : ∥ IsTypedScript s ∥₁
  pub short : text_length s < 2 ^ 32

-- what every book keeps
pub record IsBook (book : Contracts) : Type 0 where
  pub few : len book ≤ MOST_CONTRACTS
  pub listed : (address : List ℕ) (s : Script) → get book address ≡ Some s → IsListed address s

-- whose account may have money: an implicit account, or a contract of the book
abbrev pub has_account : Contracts → List ℕ → Bool
has_account book address = is_implicit address || contains_key book address
