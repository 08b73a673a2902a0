-- Any bytes, as tokens and what is none.
use Rattle.std.specs.Prelude.{codes, ◌≡◌, ◌≢◌, ℕ, ◌≤◌, ◌^◌, ◌⊎◌, Bool, IsTrue, List, [], ◌++◌}
use Rattle.std.specs.List.{flat_map}
use Rattle.value_core.specs.Leaves.{is_text}
use Rattle.micheline_text.specs.declared.token.Token.{Token}
use Rattle.micheline_text.specs.declared.token.Token.TheVariants as token
use Rattle.micheline_text.specs.Literals.{decimal_value}
use Rattle.micheline_text.specs.Printed.{escaped}
use Rattle.micheline_text.specs.Grammar.{Tokens}
use Rattle.micheline_text.specs.Layout.{has_no_end, IsPart, IsLast, IsNumeral, IsSpelled, ArePlaced}

-- more bytes would make it a string
abbrev pub IsOpenText : List ℕ → Type 0
IsOpenText s = (said more t : List ℕ) × (s ≡ codes "\"" ++ said) × (more ≢ []) ×
    (said ++ more ≡ flat_map escaped t ++ codes "\"") × IsTrue (is_text t)

-- a numeral too wide, and a string or a comment that goes on to the end without one
abbrev pub IsUnfit : Token → List ℕ → List ℕ → Type 0
IsUnfit token.Wide s rest =
    (below : Bool) × (digits : List ℕ) × IsNumeral below digits s rest × (2 ^ 127 ≤ decimal_value digits)
IsUnfit token.OpenText s rest = (rest ≡ []) × IsOpenText s
IsUnfit token.OpenComment s rest =
    (rest ≡ []) × ((inner : List ℕ) × (s ≡ codes "/*" ++ inner) × IsTrue (has_no_end inner))
IsUnfit t s rest = ⊥

-- neither the end of a text, nor what parts tokens, nor any of these stands in front
pub record BeginsNothing (bytes : List ℕ) : Type 0 where
  pub no_end : IsLast bytes → ⊥
  pub no_part : (part rest : List ℕ) → bytes ≡ part ++ rest → IsPart part → ⊥
  pub no_token : (t : Token) (s rest : List ℕ) → bytes ≡ s ++ rest →
      IsSpelled t s rest ⊎ IsUnfit t s rest → ⊥

-- what stands between two gaps of any bytes; what begins nothing takes all that is left
abbrev pub Stands : Token → List ℕ → List ℕ → Type 0
Stands t s rest =
    IsSpelled t s rest ⊎ (IsUnfit t s rest ⊎ ((t ≡ token.Faulty) × (rest ≡ []) × BeginsNothing s))

-- the bytes, of which the first has this offset, are cut into tokens and what is none
abbrev pub IsCutInto : ℕ → List ℕ → Tokens → Type 0
IsCutInto = ArePlaced Stands
