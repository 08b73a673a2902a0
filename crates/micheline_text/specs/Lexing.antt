-- The token in front of bytes that begin with no gap, and how many bytes it takes.
use Rattle.std.specs.Prelude.{ℕ, zero, suc, ◌+◌, ◌-◌, ◌%◌, ◌^◌, Bool, true, false, List, [], ◌∷◌, length, take, drop, nat_lt, nat_le, ◌==◌, ◌&&◌, if◌then◌else◌, slice_index, None}
use Rattle.std.specs.List.{prefix_len}
use Rattle.value_core.specs.Leaves.{is_text, is_blob}
use Rattle.micheline_text.specs.Kinds.{is_digit, is_letter, is_word_byte, is_note_byte, is_hex, begins_note}
use Rattle.micheline_text.specs.Gaps.{gap_from}
use Rattle.micheline_text.specs.Literals.{decimal_value, signed, unhex, quoted}
use Rattle.micheline_text.specs.declared.token.Token.{Token}
use Rattle.micheline_text.specs.declared.token.Token.TheVariants as token
use Rattle.micheline_text.specs.declared.text.Ending.{Ending}
use Rattle.micheline_text.specs.declared.text.Ending.TheVariants as ending
use Rattle.micheline_text.specs.declared.gap.Gap.{Gap}
use Rattle.micheline_text.specs.declared.gap.Gap.TheVariants as gap
use Rattle.micheline_text.specs.declared.gap.Mode.TheVariants as mode

-- ---- numbers

-- the number of that size, below zero or not, if it fits
abbrev pub numeral : Bool → ℕ → Token
numeral below n = if nat_lt n (2 ^ 127) then token.Number (signed below n) else token.Wide

-- the number that the digits stand for
abbrev pub number_token : Bool → List ℕ → Token
number_token below digits = numeral below (decimal_value digits)

-- ---- byte literals

-- the bytes that the digits stand for, if they are pairs and not too many
abbrev pub bytes_token : List ℕ → Token
bytes_token digits =
    if (length digits % 2 == 0) && is_blob (unhex None digits) then token.Bytes (unhex None digits)
    else token.Faulty

-- ---- strings

-- a string by how it ends
abbrev pub text_by : Ending → List ℕ → Token
text_by ending.Closed text = if is_text text then token.Text text else token.Faulty
text_by ending.Open text = if is_text text then token.OpenText else token.Faulty
text_by ending.Wrong text = token.Faulty

-- ---- any token

-- a token of one byte
abbrev pub mark : ℕ → Token
mark b =
    if b == 123 then token.OpenBrace else if b == 125 then token.CloseBrace
    else if b == 40 then token.OpenParen else if b == 41 then token.CloseParen
    else if b == 59 then token.Semicolon else token.Faulty

-- a string, from its quote on
abbrev pub text_at : List ℕ → Token × ℕ
text_at bytes = let q = quoted false (drop 1 bytes) in (text_by q.2 q.0, 1 + q.1)

-- a numeral from its `-` on; a `-` alone is none
abbrev pub minus_at : List ℕ → Token × ℕ
minus_at bytes =
    let n = prefix_len is_digit (drop 1 bytes) in
    if n == 0 then (token.Faulty, 1) else (number_token true (take n (drop 1 bytes)), 1 + n)

-- `0x` stands in front
abbrev pub begins_hex : List ℕ → Bool
begins_hex bytes =
    nat_le 2 (length bytes) && (slice_index bytes 0 == 48) && (slice_index bytes 1 == 120)

-- a byte literal or a numeral
abbrev pub digits_at : List ℕ → Token × ℕ
digits_at bytes =
    if begins_hex bytes then
    (let n = prefix_len is_hex (drop 2 bytes) in (bytes_token (take n (drop 2 bytes)), 2 + n))
    else (let n = prefix_len is_digit bytes in (number_token false (take n bytes), n))

-- a word
abbrev pub word_at : List ℕ → Token × ℕ
word_at bytes = let n = prefix_len is_word_byte bytes in (token.Word (take n bytes), n)

-- an annotation
abbrev pub note_at : List ℕ → Token × ℕ
note_at bytes = let n = 1 + prefix_len is_note_byte (drop 1 bytes) in (token.Note (take n bytes), n)

-- the token that begins with this byte
abbrev pub token_by : ℕ → List ℕ → Token × ℕ
token_by b bytes =
    if b == 34 then text_at bytes else if b == 45 then minus_at bytes
    else if is_digit b then digits_at bytes else if is_letter b then word_at bytes
    else if begins_note b then note_at bytes else (mark b, 1)

-- the token in front, or what stands in the place of one
abbrev pub front_token : List ℕ → Token × ℕ
front_token bytes = token_by (slice_index bytes 0) bytes

-- whether it begins nothing
abbrev pub is_faulty : Token → Bool
is_faulty token.Faulty = true
is_faulty t = false

-- how many bytes it takes: what begins nothing takes all that are left
abbrev pub reach : Token → ℕ → ℕ → ℕ
reach t taken left = if is_faulty t then left else taken

-- the same, and how far it reaches
abbrev pub token_at : List ℕ → Token × ℕ
token_at bytes = let found = front_token bytes in (found.0, reach found.0 found.1 (length bytes))

-- ---- all tokens

-- each token with the offset of its first byte; so many bytes stand before these
abbrev pub after_gap : ℕ → List ℕ → Gap → (ℕ → List ℕ → List (ℕ × Token)) → List (ℕ × Token)
after_gap at bytes gap.End rest = []
after_gap at bytes (gap.Comment left) rest = (at + (length bytes - left), token.OpenComment) ∷ []
after_gap at bytes (gap.Token left) rest =
    let from = length bytes - left in
    let found = token_at (drop from bytes) in
    (at + from, found.0) ∷ rest (at + from + found.1) (drop found.1 (drop from bytes))

-- at most so many of them
abbrev pub tokens_from : ℕ → ℕ → List ℕ → List (ℕ × Token)
tokens_from zero at bytes = []
tokens_from (suc n) at bytes = after_gap at bytes (gap_from mode.Between bytes) (tokens_from n)

-- the tokens of a text, and what stands in the place of one
unfoldable pub tokens_of : ℕ → List ℕ → List (ℕ × Token)
tokens_of at bytes = tokens_from (suc (length bytes)) at bytes
