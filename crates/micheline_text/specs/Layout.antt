-- Which bytes are laid out as which tokens: how each token is spelled, and what may part two.
use Rattle.std.specs.Prelude.{codes, ◌≡◌, ◌≢◌, ℕ, ◌+◌, ◌%◌, ◌<◌, ◌^◌, ◌⊎◌, Bool, true, false, not, ◌==◌, ◌&&◌, IsTrue, List, [], ◌∷◌, ◌++◌, length, None}
use Rattle.std.specs.List.{flat_map, AllByRecursion}
use Rattle.value_core.specs.Leaves.{is_text, is_blob}
use Rattle.micheline_text.specs.declared.token.Token.{Token}
use Rattle.micheline_text.specs.declared.token.Token.TheVariants as token
use Rattle.micheline_text.specs.Kinds.{is_digit, is_letter, is_word_byte, is_note_byte, is_hex, begins_note, is_blank}
use Rattle.micheline_text.specs.Literals.{decimal_value, signed, unhex}
use Rattle.micheline_text.specs.Printed.{in_quotes}
use Rattle.micheline_text.specs.Grammar.{Tokens}

-- each byte passes the test
abbrev pub AllAre : (ℕ → Bool) → List ℕ → Type 0
AllAre test = AllByRecursion (λ b. IsTrue (test b))

-- a token is the longest run: what stands behind it doesn't go on with such a byte
abbrev pub Stops : (ℕ → Bool) → List ℕ → Type 0
Stops test [] = Unit {0}
Stops test (b ∷ rest) = test b ≡ false

-- ---- what parts tokens

-- a `/` stands in front
abbrev pub begins_slash : List ℕ → Bool
begins_slash [] = false
begins_slash (b ∷ bytes) = b == 47

-- nowhere a `*` with a `/` behind it
abbrev pub has_no_end : List ℕ → Bool
has_no_end [] = true
has_no_end (b ∷ bytes) = not ((b == 42) && begins_slash bytes) && has_no_end bytes

-- a blank, a comment to the end of its line, or a comment from `/*` to the next `*/`
abbrev pub IsPart : List ℕ → Type 0
IsPart part = ((b : ℕ) × (part ≡ b ∷ []) × IsTrue (is_blank b))
    ⊎ (((line : List ℕ) × (part ≡ 35 ∷ (line ++ 10 ∷ [])) × AllAre (λ b. not (b == 10)) line)
    ⊎ ((inner : List ℕ) × (part ≡ codes "/*" ++ (inner ++ codes "*/")) × IsTrue (has_no_end inner)))

-- such parts, one after another
abbrev pub IsGap : List ℕ → Type 0
IsGap gap =
    (parts : List (List ℕ)) × (gap ≡ flat_map (λ part. part) parts) × AllByRecursion IsPart parts

-- the end of a text: a gap, and maybe a comment whose line ends with the text
abbrev pub IsLast : List ℕ → Type 0
IsLast bytes = (gap line : List ℕ) × IsGap gap × AllAre (λ b. not (b == 10)) line ×
    ((bytes ≡ gap) ⊎ (bytes ≡ gap ++ 35 ∷ line))

-- ---- how tokens are spelled

-- a `-` below zero
abbrev pub sign : Bool → List ℕ
sign false = []
sign true = codes "-"

-- digits behind their sign, with these bytes behind them; `0x` begins a byte literal
abbrev pub IsNumeral : Bool → List ℕ → List ℕ → List ℕ → Type 0
IsNumeral below digits s rest =
    (s ≡ sign below ++ digits) × (digits ≢ []) × AllAre is_digit digits × Stops is_digit rest ×
    (s ≡ codes "0" → Stops (λ b. b == 120) rest)

-- with these bytes behind it
abbrev pub IsSpelled : Token → List ℕ → List ℕ → Type 0
IsSpelled (token.Number z) s rest = (below : Bool) × (digits : List ℕ) × IsNumeral below digits s rest ×
    (decimal_value digits < 2 ^ 127) × (z ≡ signed below (decimal_value digits))
IsSpelled (token.Text t) s rest = (s ≡ in_quotes t) × IsTrue (is_text t)
IsSpelled (token.Bytes t) s rest = (digits : List ℕ) × (s ≡ codes "0x" ++ digits) × AllAre is_hex digits ×
    (length digits % 2 ≡ 0) × (t ≡ unhex None digits) × IsTrue (is_blob t) × Stops is_hex rest
IsSpelled (token.Word w) s rest = (first : ℕ) × (more : List ℕ) × (s ≡ first ∷ more) × (w ≡ s) ×
    IsTrue (is_letter first) × AllAre is_word_byte more × Stops is_word_byte rest
IsSpelled (token.Note w) s rest = (first : ℕ) × (more : List ℕ) × (s ≡ first ∷ more) × (w ≡ s) ×
    IsTrue (begins_note first) × AllAre is_note_byte more × Stops is_note_byte rest
IsSpelled token.OpenBrace s rest = s ≡ codes "{"
IsSpelled token.CloseBrace s rest = s ≡ codes "}"
IsSpelled token.OpenParen s rest = s ≡ codes "("
IsSpelled token.CloseParen s rest = s ≡ codes ")"
IsSpelled token.Semicolon s rest = s ≡ codes ";"
IsSpelled token.Wide s rest = ⊥
IsSpelled token.OpenText s rest = ⊥
IsSpelled token.OpenComment s rest = ⊥
IsSpelled token.Faulty s rest = ⊥

-- ---- all tokens

-- the bytes, of which the first has this offset, are these with gaps between them
abbrev pub ArePlaced : (Token → List ℕ → List ℕ → Type 0) → ℕ → List ℕ → Tokens → Type 0
ArePlaced Is at bytes [] = IsLast bytes
ArePlaced Is at bytes (t ∷ ts) = (gap s rest : List ℕ) × (bytes ≡ gap ++ (s ++ rest)) × IsGap gap ×
    (t.0 ≡ at + length gap) × Is t.1 s rest × ArePlaced Is (t.0 + length s) rest ts

-- the bytes are laid out as the tokens
abbrev pub IsLaidOut : ℕ → List ℕ → Tokens → Type 0
IsLaidOut = ArePlaced IsSpelled
