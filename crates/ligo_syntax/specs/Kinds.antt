-- Tokens by kind, and sets of kinds.
use Rattle.std.specs.Prelude.{◌≡◌, ℕ, Bool, false, ◌==◌, ◌||◌, List, [], ◌∷◌, Option, Some}
use Rattle.ligo_tokens.specs.declared.token.Token.{Token}
use Rattle.ligo_tokens.specs.declared.token.Kind.{Kind}
use Rattle.ligo_tokens.specs.declared.token.Kind.TheVariants as kind
use Rattle.ligo_tokens.specs.declared.token.Says.{Says}
use Rattle.ligo_tokens.specs.declared.token.Says.TheVariants as says

-- a text as tokens
abbrev pub Tokens : Type 0
Tokens = List Token

-- a set of kinds
abbrev pub Kinds : Type 0
Kinds = List Kind

-- each kind by its number
abbrev pub code : Kind → ℕ
code kind.Name = 1
code kind.List = 2
code kind.Option = 3
code kind.Contract = 4
code kind.Map = 5
code kind.BigMap = 6
code kind.Upper = 7
code kind.Int = 8
code kind.Nat = 9
code kind.Tez = 10
code kind.Bytes = 11
code kind.Text = 12
code kind.Type = 13
code kind.Let = 14
code kind.Rec = 15
code kind.In = 16
code kind.Match = 17
code kind.With = 18
code kind.If = 19
code kind.Then = 20
code kind.Else = 21
code kind.Of = 22
code kind.Mod = 23
code kind.Underscore = 24
code kind.Entry = 25
code kind.Inline = 26
code kind.OpenParen = 27
code kind.CloseParen = 28
code kind.OpenSquare = 29
code kind.CloseSquare = 30
code kind.OpenBrace = 31
code kind.CloseBrace = 32
code kind.Colon = 33
code kind.Semicolon = 34
code kind.Comma = 35
code kind.Dot = 36
code kind.Bar = 37
code kind.Arrow = 38
code kind.Or = 39
code kind.And = 40
code kind.Equals = 41
code kind.Differs = 42
code kind.Less = 43
code kind.Greater = 44
code kind.AtMost = 45
code kind.AtLeast = 46
code kind.Caret = 47
code kind.Cons = 48
code kind.Plus = 49
code kind.Minus = 50
code kind.Star = 51
code kind.Slash = 52
code kind.Faulty = 53

-- that of a numeral past its range, which is of no kind
abbrev pub past_range : ℕ
past_range = 64

-- the same of a token
abbrev pub sort_of : Kind → Option Says → ℕ
sort_of k (Some says.Wide) = past_range
sort_of k said = code k

-- the number of a token
abbrev pub sort : Token → ℕ
sort t = sort_of t.kind t.says

-- that of the token in front, 0 at the end
abbrev pub next : Tokens → ℕ
next [] = 0
next (t ∷ ts) = sort t

-- one of the kinds has this number
abbrev pub has : Kinds → ℕ → Bool
has [] n = false
has (k ∷ kinds) n = (code k == n) || has kinds n

-- the token in front is none of these
abbrev pub Ends : Kinds → Tokens → Type 0
Ends kinds ts = has kinds (next ts) ≡ false
