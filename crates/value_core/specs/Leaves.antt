-- Which numbers, texts, bytes, names and addresses there are.
use Rattle.std.specs.Prelude.{ℕ, ℤ, pos, negsuc, ◌≤ℤ◌, ◌-◌, ◌^◌, List, Bool, ◌&&◌, ◌||◌, ◌==◌, nat_le, length, slice_index}
use Rattle.std.specs.List.{list_all}

-- from -(2^127 - 1) to 2^127 - 1
abbrev pub IsNumber : ℤ → Type 0
IsNumber z = (negsuc (2 ^ 127 - 2) ≤ℤ z) × (z ≤ℤ pos (2 ^ 127 - 1))

-- a newline, or a character from blank to tilde
abbrev pub is_printable : ℕ → Bool
is_printable b = b == 10 || (nat_le 32 b && nat_le b 126)

-- at most 131,071 bytes, whatever they are
abbrev pub is_blob : List ℕ → Bool
is_blob bytes = nat_le (length bytes) 131071

-- at most 131,071 bytes, each of them printable
abbrev pub is_text : List ℕ → Bool
is_text bytes = is_blob bytes && list_all is_printable bytes

-- a letter, a digit or an underscore
abbrev pub is_word_byte : ℕ → Bool
is_word_byte b = (nat_le 48 b && nat_le b 57) || (nat_le 65 b && nat_le b 90) || (b == 95) || (nat_le 97 b && nat_le b 122)

-- from 1 to 31 letters, digits and underscores
abbrev pub is_name : List ℕ → Bool
is_name bytes = nat_le 1 (length bytes) && nat_le (length bytes) 31 && list_all is_word_byte bytes

-- 22 bytes, the first 0 for an account or 1 for a contract
abbrev pub is_address : List ℕ → Bool
is_address bytes = (length bytes == 22) && nat_le (slice_index bytes 0) 1
