-- What tokens say: words, numbers, literals.
use Rattle.std.specs.Prelude.{ℕ, ℤ, pos, List, [], Option, Some}
use Rattle.ligo_tokens.specs.declared.token.Token.{Token}
use Rattle.ligo_tokens.specs.declared.token.Kind.{Kind}
use Rattle.ligo_tokens.specs.declared.token.Kind.TheVariants as kind
use Rattle.ligo_tokens.specs.declared.token.Says.{Says}
use Rattle.ligo_tokens.specs.declared.token.Says.TheVariants as says
use Rattle.ligo_syntax.specs.declared.name.Name.{Name}
use Rattle.ligo_syntax.specs.declared.expr.Literal.{Literal}
use Rattle.ligo_syntax.specs.declared.expr.Literal.TheVariants as literal

-- the bytes of a name
abbrev pub said_word : Option Says → List ℕ
said_word (Some (says.Word word)) = word
said_word said = []

-- that of a token
abbrev pub word_of : Token → List ℕ
word_of t = said_word t.says

-- a token as a name
abbrev pub name_of : Token → Name
name_of t = record { at = t.at; word = word_of t }

-- the number of a numeral
abbrev pub said_number : Option Says → ℤ
said_number (Some (says.Number n)) = n
said_number said = pos 0

-- what a literal says
abbrev pub literal_of : Kind → Option Says → Literal
literal_of kind.Nat said = literal.Nat (said_number said)
literal_of k (Some (says.Mutez n)) = literal.Tez n
literal_of k (Some (says.Bytes bytes)) = literal.Bytes bytes
literal_of k (Some (says.Text bytes)) = literal.Text bytes
literal_of k said = literal.Int (said_number said)
