-- Addresses as words: `0x` and 44 hexadecimal digits, in lower case where they are printed.
use Rattle.std.specs.Prelude.{ℕ, ◌≡◌, ◌++◌, List, take, drop, codes, IsTrue, if◌then◌else◌, Option, Some, None, Result, Ok, Err}
use Rattle.std.specs.Str.{bytes_eq}
use Rattle.hex.specs.declared.error.FromHexError.{FromHexError}
use Rattle.hex.specs.Hex.{decode_sized, encode_lower}
use Rattle.value_core.specs.Lawful.{is_lawful_address}
use Rattle.value_core.specs.Leaves.{is_address}

-- the address that these bytes are
abbrev pub address_or_none : Result (List ℕ) FromHexError → Option (List ℕ)
address_or_none (Ok bytes) = if is_address bytes then Some bytes else None
address_or_none (Err e) = None

-- the address that a word spells, in either case
unfoldable pub address_of : List ℕ → Option (List ℕ)
address_of word = if bytes_eq (take 2 word) (codes "0x") then address_or_none (decode_sized (drop 2 word) 22) else None

-- the word of an address as it is printed
abbrev pub address_word : List ℕ → List ℕ
address_word address = codes "0x" ++ encode_lower address

-- what is printed for an address is read as it
abbrev pub AddressesAreReadAgain : Type 0
AddressesAreReadAgain = (address : List ℕ) → IsTrue (is_lawful_address address) → address_of (address_word address) ≡ Some address
