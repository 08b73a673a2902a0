-- The token in front of bytes that begin with no gap, and all tokens of a text.
use Rattle.std.specs.Prelude.{ℕ, zero, suc, ◌+◌, ◌-◌, ◌*◌, ◌%◌, ◌^◌, pos, Bool, true, false, List, [], ◌∷◌, length, take, drop, nat_lt, nat_le, ◌==◌, ◌&&◌, ◌||◌, if◌then◌else◌, fold, codes, bytes_eq, slice_index, Option, Some, None}
use Rattle.std.specs.List.{prefix_len}
use Rattle.value_core.specs.Leaves.{is_text}
use Rattle.micheline_text.specs.Kinds.{is_digit, is_letter, is_hex}
use Rattle.micheline_text.specs.Lexing.{begins_hex}
use Rattle.micheline_text.specs.Literals.{hexadecimal, quoted}
use Rattle.micheline_text.specs.declared.text.Ending.{Ending}
use Rattle.micheline_text.specs.declared.text.Ending.TheVariants as ending
use Rattle.ligo_tokens.specs.Gaps.{gap_from}
use Rattle.micheline_text.specs.declared.gap.Gap.{Gap}
use Rattle.micheline_text.specs.declared.gap.Gap.TheVariants as gap
use Rattle.ligo_tokens.specs.declared.gap.Mode.TheVariants as mode
use Rattle.ligo_tokens.specs.declared.runs.Run.{Run}
use Rattle.ligo_tokens.specs.declared.runs.Run.TheVariants as run
use Rattle.ligo_tokens.specs.declared.numerals.Suffix.{Suffix}
use Rattle.ligo_tokens.specs.declared.numerals.Suffix.TheVariants as suffix
use Rattle.ligo_tokens.specs.declared.token.Kind.{Kind}
use Rattle.ligo_tokens.specs.declared.token.Kind.TheVariants as kind
use Rattle.ligo_tokens.specs.declared.token.Says.{Says}
use Rattle.ligo_tokens.specs.declared.token.Says.TheVariants as says
use Rattle.ligo_tokens.specs.declared.token.Token.{Token}
use Rattle.ligo_tokens.specs.declared.lexer.Front.{Front}

-- ---- bytes

-- a letter from a to z, or `_`
abbrev pub is_lower : ℕ → Bool
is_lower b = (nat_le 97 b && nat_le b 122) || (b == 95)

abbrev pub is_upper : ℕ → Bool
is_upper b = nat_le 65 b && nat_le b 90

-- what a name goes on with: letters, digits, `_` and `'`
abbrev pub is_name_byte : ℕ → Bool
is_name_byte b = is_letter b || is_digit b || (b == 95) || (b == 39)

-- what a number goes on with
abbrev pub is_number_byte : ℕ → Bool
is_number_byte b = is_digit b || (b == 95)

abbrev pub is_run : Run → ℕ → Bool
is_run run.Name = is_name_byte
is_run run.Number = is_number_byte
is_run run.Hex = is_hex

abbrev pub begins_with : List ℕ → List ℕ → Bool
begins_with bytes word = nat_le (length word) (length bytes) && bytes_eq (take (length word) bytes) word

-- ---- words

abbrev pub front_of_kind : Kind → Option Says → ℕ → Front
front_of_kind k said n = record { kind = k; says = said; taken = n }

-- the words that are no names
abbrev pub keyword : List ℕ → Option Kind
keyword word =
    if bytes_eq word (codes "type") then Some kind.Type
    else if bytes_eq word (codes "let") then Some kind.Let
    else if bytes_eq word (codes "rec") then Some kind.Rec
    else if bytes_eq word (codes "in") then Some kind.In
    else if bytes_eq word (codes "match") then Some kind.Match
    else if bytes_eq word (codes "with") then Some kind.With
    else if bytes_eq word (codes "if") then Some kind.If
    else if bytes_eq word (codes "then") then Some kind.Then
    else if bytes_eq word (codes "else") then Some kind.Else
    else if bytes_eq word (codes "of") then Some kind.Of
    else if bytes_eq word (codes "mod") then Some kind.Mod
    else if bytes_eq word (codes "_") then Some kind.Underscore
    else None

-- the names that write types of their own
abbrev pub name_kind : List ℕ → Kind
name_kind word =
    if bytes_eq word (codes "list") then kind.List
    else if bytes_eq word (codes "option") then kind.Option
    else if bytes_eq word (codes "contract") then kind.Contract
    else if bytes_eq word (codes "map") then kind.Map
    else if bytes_eq word (codes "big_map") then kind.BigMap
    else kind.Name

abbrev pub name_front : Kind → List ℕ → Front
name_front k word = front_of_kind k (Some (says.Word word)) (length word)

abbrev pub word_front : Option Kind → List ℕ → Front
word_front (Some k) word = front_of_kind k None (length word)
word_front None word = name_front (name_kind word) word

abbrev pub name_run : List ℕ → List ℕ
name_run bytes = take (prefix_len is_name_byte bytes) bytes

abbrev pub lower_at : List ℕ → Front
lower_at bytes = word_front (keyword (name_run bytes)) (name_run bytes)

abbrev pub upper_at : List ℕ → Front
upper_at bytes = name_front kind.Upper (name_run bytes)

-- ---- numerals, byte literals and strings

-- what the digits stand for; `_` counts nothing
abbrev pub numeral_value : List ℕ → ℕ
numeral_value digits = fold (λ n b. if b == 95 then n else 10 * n + (b - 48)) 0 digits

abbrev pub suffix_at : List ℕ → Suffix
suffix_at bytes =
    if begins_with bytes (codes "n") then suffix.Nat
    else if begins_with bytes (codes "mutez") then suffix.Mutez
    else if begins_with bytes (codes "tez") then suffix.Tez
    else suffix.Plain

abbrev pub suffix_length : Suffix → ℕ
suffix_length suffix.Plain = 0
suffix_length suffix.Nat = 1
suffix_length suffix.Mutez = 5
suffix_length suffix.Tez = 3

abbrev pub suffix_kind : Suffix → Kind
suffix_kind suffix.Plain = kind.Int
suffix_kind suffix.Nat = kind.Nat
suffix_kind suffix.Mutez = kind.Tez
suffix_kind suffix.Tez = kind.Tez

-- a number up to 2^127 - 1, and mutez below 2^63
abbrev pub number_says : ℕ → Says
number_says n = if nat_lt n (2 ^ 127) then says.Number (pos n) else says.Wide

abbrev pub mutez_says : ℕ → Says
mutez_says n = if nat_lt n (2 ^ 63) then says.Mutez n else says.Wide

abbrev pub numeral_says : Suffix → ℕ → Says
numeral_says suffix.Plain n = number_says n
numeral_says suffix.Nat n = number_says n
numeral_says suffix.Mutez n = mutez_says n
numeral_says suffix.Tez n = mutez_says (n * 1000000)

abbrev pub numeral_front : Suffix → List ℕ → Front
numeral_front s digits = front_of_kind (suffix_kind s) (Some (numeral_says s (numeral_value digits))) (length digits + suffix_length s)

abbrev pub numeral_at : List ℕ → Front
numeral_at bytes =
    let n = prefix_len is_number_byte bytes in
    numeral_front (suffix_at (drop n bytes)) (take n bytes)

-- a literal, or what takes all that is left where it is none
abbrev pub literal_front : Kind → Option Says → ℕ → ℕ → Front
literal_front k (Some s) taken left = front_of_kind k (Some s) taken
literal_front k None taken left = front_of_kind kind.Faulty None left

abbrev pub bytes_says : Option (List ℕ) → Option Says
bytes_says (Some t) = Some (says.Bytes t)
bytes_says None = None

abbrev pub bytes_at : List ℕ → Front
bytes_at bytes =
    let n = prefix_len is_hex (drop 2 bytes) in
    literal_front kind.Bytes (bytes_says (hexadecimal (take n (drop 2 bytes)))) (2 + n) (length bytes)

-- a string that has its end and isn't too long
abbrev pub text_says : Ending → List ℕ → Option Says
text_says ending.Closed t = if is_text t then Some (says.Text t) else None
text_says ending.Open t = None
text_says ending.Wrong t = None

abbrev pub quoted_at : List ℕ → Front
quoted_at bytes =
    let q = quoted false (drop 1 bytes) in
    literal_front kind.Text (text_says q.2 q.0) (1 + q.1) (length bytes)

-- ---- signs

-- signs of two bytes
abbrev pub double_sign : ℕ → ℕ → Option Kind
double_sign a b =
    if (a == 45) && (b == 62) then Some kind.Arrow
    else if (a == 58) && (b == 58) then Some kind.Cons
    else if (a == 60) && (b == 62) then Some kind.Differs
    else if (a == 60) && (b == 61) then Some kind.AtMost
    else if (a == 62) && (b == 61) then Some kind.AtLeast
    else if (a == 38) && (b == 38) then Some kind.And
    else if (a == 124) && (b == 124) then Some kind.Or
    else None

-- signs of one byte
abbrev pub single_sign : ℕ → Option Kind
single_sign a =
    if a == 40 then Some kind.OpenParen else if a == 41 then Some kind.CloseParen
    else if a == 91 then Some kind.OpenSquare else if a == 93 then Some kind.CloseSquare
    else if a == 123 then Some kind.OpenBrace else if a == 125 then Some kind.CloseBrace
    else if a == 58 then Some kind.Colon else if a == 59 then Some kind.Semicolon
    else if a == 44 then Some kind.Comma else if a == 46 then Some kind.Dot
    else if a == 124 then Some kind.Bar else if a == 61 then Some kind.Equals
    else if a == 60 then Some kind.Less else if a == 62 then Some kind.Greater
    else if a == 94 then Some kind.Caret else if a == 43 then Some kind.Plus
    else if a == 45 then Some kind.Minus else if a == 42 then Some kind.Star
    else if a == 47 then Some kind.Slash else None

abbrev pub single_front : Option Kind → ℕ → Front
single_front (Some k) left = front_of_kind k None 1
single_front None left = front_of_kind kind.Faulty None left

abbrev pub double_at : ℕ → List ℕ → Option Kind
double_at a bytes = if nat_lt (length bytes) 2 then None else double_sign a (slice_index bytes 1)

abbrev pub sign_front : Option Kind → ℕ → ℕ → Front
sign_front (Some k) a left = front_of_kind k None 2
sign_front None a left = single_front (single_sign a) left

abbrev pub sign_at : ℕ → List ℕ → Front
sign_at a bytes =
    if begins_with bytes (codes "[@entry]") then front_of_kind kind.Entry None 8
    else if begins_with bytes (codes "[@inline]") then front_of_kind kind.Inline None 9
    else sign_front (double_at a bytes) a (length bytes)

-- ---- any token

abbrev pub front_by : ℕ → List ℕ → Front
front_by b bytes =
    if is_lower b then lower_at bytes else if is_upper b then upper_at bytes
    else if is_digit b then (if begins_hex bytes then bytes_at bytes else numeral_at bytes)
    else if b == 34 then quoted_at bytes else sign_at b bytes

abbrev pub front : List ℕ → Front
front bytes = front_by (slice_index bytes 0) bytes

-- ---- all tokens

abbrev pub placed : ℕ → Front → Token
placed at f = record { at = at; kind = f.kind; says = f.says }

-- each token with the offset of its first byte; so many bytes stand before these
abbrev pub after_gap : ℕ → List ℕ → Gap → (ℕ → List ℕ → List Token) → List Token
after_gap at bytes gap.End rest = []
after_gap at bytes (gap.Comment left) rest = placed (at + (length bytes - left)) (front_of_kind kind.Faulty None left) ∷ []
after_gap at bytes (gap.Token left) rest =
    let from = length bytes - left in
    let found = front (drop from bytes) in
    placed (at + from) found ∷ rest (at + from + found.taken) (drop found.taken (drop from bytes))

abbrev pub tokens_from : ℕ → ℕ → List ℕ → List Token
tokens_from zero at bytes = []
tokens_from (suc n) at bytes = after_gap at bytes (gap_from mode.Between bytes) (tokens_from n)

-- the tokens of a text, and what stands in the place of one
unfoldable pub tokens_of : ℕ → List ℕ → List Token
tokens_of at bytes = tokens_from (suc (length bytes)) at bytes
