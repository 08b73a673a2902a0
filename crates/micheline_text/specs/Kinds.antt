-- Which bytes are digits, letters, blanks.
use Rattle.std.specs.Prelude.{ℕ, Bool, ◌&&◌, ◌||◌, ◌==◌, nat_le}
use Rattle.micheline_text.specs.declared.kinds.Kind.{Kind}
use Rattle.micheline_text.specs.declared.kinds.Kind.TheVariants as kind

-- 0 to 9
abbrev pub is_digit : ℕ → Bool
is_digit b = nat_le 48 b && nat_le b 57

-- A to Z and a to z
abbrev pub is_letter : ℕ → Bool
is_letter b = (nat_le 65 b && nat_le b 90) || (nat_le 97 b && nat_le b 122)

-- what a word goes on with
abbrev pub is_word_byte : ℕ → Bool
is_word_byte b = is_letter b || is_digit b || (b == 95)

-- the `%` that begins the name of an entry
abbrev pub percent : ℕ
percent = 37

-- what an annotation goes on with: also `.`, `%` and `@`
abbrev pub is_note_byte : ℕ → Bool
is_note_byte b = is_word_byte b || (b == 46) || (b == percent) || (b == 64)

-- what an annotation begins with: `%`, `:` or `@`
abbrev pub begins_note : ℕ → Bool
begins_note b = (b == percent) || (b == 58) || (b == 64)

-- a hexadecimal digit in either case
abbrev pub is_hex : ℕ → Bool
is_hex b = is_digit b || (nat_le 65 b && nat_le b 70) || (nat_le 97 b && nat_le b 102)

-- a tab, a newline, a carriage return or a blank
abbrev pub is_blank : ℕ → Bool
is_blank b = (b == 9) || (b == 10) || (b == 13) || (b == 32)

-- what stands in a string as it is
abbrev pub is_plain : ℕ → Bool
is_plain b = nat_le 32 b && nat_le b 126

-- what a token of the kind goes on with
abbrev pub is_kind : Kind → ℕ → Bool
is_kind kind.Digit = is_digit
is_kind kind.Word = is_word_byte
is_kind kind.Note = is_note_byte
is_kind kind.Hex = is_hex
