-- What each line of a genesis text says, after those before it.
use Rattle.std.specs.Prelude.{ℕ, ◌+◌, ◌-◌, ◌^◌, nat_lt, List, [], ◌∷◌, ◌++◌, codes, if◌then◌else◌, is_none, Ok, Err}
use Rattle.std.specs.Option.{ok_or}
use Rattle.std.specs.Str.{bytes_eq}
use Rattle.std.specs.FinMap.{contains_key, get, insert, len}
use Rattle.std.specs.FinSet as set
use Rattle.michelson_code.specs.declared.script.Script.{Script}
use Rattle.cell_names.specs.Accounts.{is_implicit}
use Rattle.cell_names.specs.Supply.{supply}
use Rattle.code_book.specs.declared.book.TheConstants.{MOST_CONTRACTS}
use Rattle.code_book.specs.Adding.{is_too_long}
use Rattle.code_book.specs.Books.{has_account}
use Rattle.chain_text.specs.declared.fault.ChainKind.TheVariants.{BadWord, BadAddress, BadData, BadScript, NotClosed, Twice, Unknown, TooMuch}
use Rattle.chain_text.specs.Fields.{Read, ◌>>=◌, ◌>>◌, must, must_not, word, address, number, end}
use Rattle.chain_text.specs.Groups.{Group}
use Rattle.chain_text.specs.Lines.{next_word, unspaced}
use Rattle.chain_text.specs.Standing.{Standing, with_amount, with_storage}
use Rattle.chain_text.specs.Scripts.{script_of, storage_of}

-- ---- balances

-- `balance ADDR N`, behind its first word
abbrev pub balance_line : Standing → List ℕ → Read Standing
balance_line s words = do
  (a, words) ← address words
  must_not (set.contains s.balanced a) Twice
  must (has_account s.book a) Unknown
  (n, words) ← number (2 ^ 63 - 1) words
  must (nat_lt (supply s.cells + n) (2 ^ 63)) TooMuch
  end words
  Ok (with_amount s a n)

-- ---- contracts

-- the address of a contract that may be listed, as the last word
abbrev pub new_contract : Standing → List ℕ → Read (List ℕ)
new_contract s words = do
  (a, words) ← address words
  must_not (is_implicit a) BadAddress
  must_not (contains_key s.book a) Twice
  must (nat_lt (len s.book) MOST_CONTRACTS) TooMuch
  end words
  Ok a

-- the same with a contract of this line, where its text isn't too long
abbrev pub with_contract : Standing → List ℕ → ℕ → Script → Read Standing
with_contract s a at script = do
  must_not (is_too_long script) TooMuch
  Ok (record s { book = insert s.book a script; lines = s.lines ++ (a, at) ∷ [] })

-- `contract ADDR`, behind its first word, and the script behind the line
abbrev pub contract_line : Standing → Group → List ℕ → Read Standing
contract_line s g words = do
  a ← new_contract s words
  text ← ok_or g.script NotClosed
  script ← ok_or (script_of text) BadScript
  with_contract s a g.line script

-- ---- storages

-- `storage ADDR DATA`, behind its first word
abbrev pub storage_line : Standing → List ℕ → Read Standing
storage_line s words = do
  (a, words) ← address words
  script ← ok_or (get s.book a) Unknown
  must_not (set.contains s.stored a) Twice
  must_not (is_none (next_word words)) BadWord
  kept ← ok_or (storage_of script.storage (unspaced words)) BadData
  Ok (with_storage s a kept)

-- ---- any line

-- by its first word
abbrev pub line_of : Standing → Group → List ℕ → List ℕ → Read Standing
line_of s g verb words =
    if bytes_eq verb (codes "balance") then balance_line s words else
    if bytes_eq verb (codes "contract") then contract_line s g words else
    if bytes_eq verb (codes "storage") then storage_line s words else
    Err BadWord

-- a line behind the first two
abbrev pub line : Standing → Group → Read Standing
line s g = do
  (verb, words) ← word g.bytes
  line_of s g verb words
