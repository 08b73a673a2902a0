-- The first fault of a text: the leftmost token after which no text of the grammar goes on.
use Rattle.std.specs.Prelude.{◌≡◌, ◌≢◌, ℕ, ◌≤◌, ◌⊎◌, pos, List, [], ◌∷◌, ◌++◌, length}
use Rattle.micheline_text.specs.declared.fault.TextFault.{TextFault}
use Rattle.micheline_text.specs.declared.fault.TextFault.TheVariants as fault
use Rattle.micheline_text.specs.declared.node.Node.{Node}
use Rattle.micheline_text.specs.declared.token.Token.{Token}
use Rattle.micheline_text.specs.declared.token.Token.TheVariants as token
use Rattle.micheline_text.specs.Grammar.{Tokens, Bracket, Brace, Paren, begins, IsText}
use Rattle.micheline_text.specs.Cuts.{IsCutInto}

-- some tokens behind these make them a text of the grammar
abbrev pub GoesOn : Tokens → Type 0
GoesOn ts = (more : Tokens) × (ns : List Node) × IsText (ts ++ more) ns

-- a literal may stand there
abbrev pub LiteralGoes : Tokens → ℕ → Type 0
LiteralGoes before at = GoesOn (before ++ (at, token.Number (pos 0)) ∷ [])

-- an annotation may stand there, and so an argument
abbrev pub NoteGoes : Tokens → ℕ → Type 0
NoteGoes before at = GoesOn (before ++ (at, token.Note []) ∷ [])

-- such a bracket may open there, were it not too deep
abbrev pub BracketGoes : Bracket → Tokens → ℕ → Type 0
BracketGoes Brace before at = LiteralGoes before at
BracketGoes Paren before at = NoteGoes before at

-- the places of the brackets that are open, from the innermost out, after one more token
abbrev pub open_after : List ℕ → ℕ → Token → List ℕ
open_after places at token.OpenBrace = at ∷ places
open_after places at token.OpenParen = at ∷ places
open_after [] at token.CloseBrace = []
open_after (p ∷ places) at token.CloseBrace = places
open_after [] at token.CloseParen = []
open_after (p ∷ places) at token.CloseParen = places
open_after places at t = places

-- the places of the brackets that are open after these tokens, from the innermost out
abbrev pub open_places : List ℕ → Tokens → List ℕ
open_places places [] = places
open_places places (t ∷ ts) = open_places (open_after places t.0 t.1) ts

-- the outermost of them, or this place
abbrev pub outermost : List ℕ → ℕ → ℕ
outermost [] at = at
outermost (p ∷ places) at = outermost places p

-- the tokens before it go on, and with it they don't
pub record IsStuck (before : Tokens) (at : ℕ) (t : Token) : Type 0 where
  pub goes_on : GoesOn before
  pub stuck : GoesOn (before ++ (at, t) ∷ []) → ⊥

-- neither a numeral that is only too wide, nor a bracket that is only too deep, nor what only has no
-- end
pub record IsNoOther (before : Tokens) (at : ℕ) (t : Token) : Type 0 where
  pub not_wide : t ≡ token.Wide → LiteralGoes before at → ⊥
  pub not_deep : (k : Bracket) → t ≡ begins k → BracketGoes k before at → ⊥
  pub not_open : t ≡ token.OpenComment → ⊥
  pub not_unclosed : t ≡ token.OpenText → LiteralGoes before at → ⊥

-- something has no end: a bracket, or a string or a comment in the place of a token that could
-- follow
abbrev pub IsOpen : Tokens → Tokens → ℕ → Type 0
IsOpen before [] p = (open_places [] before ≢ []) × (p ≡ outermost (open_places [] before) 0)
IsOpen before (t ∷ after) p = (p ≡ outermost (open_places [] before) t.0) ×
    ((t.1 ≡ token.OpenComment) ⊎ ((t.1 ≡ token.OpenText) × LiteralGoes before t.0))

-- what each fault says of the tokens of a text
abbrev pub IsFault : Tokens → TextFault → Type 0
IsFault ts (fault.BadToken p) =
    (before after : Tokens) × (t : Token) × (ts ≡ before ++ (p, t) ∷ after) ×
    IsStuck before p t × IsNoOther before p t
IsFault ts (fault.WiderNumber p) =
    (before after : Tokens) × (ts ≡ before ++ (p, token.Wide) ∷ after) ×
    IsStuck before p token.Wide × LiteralGoes before p
IsFault ts (fault.TooDeep p) =
    (before after : Tokens) × (k : Bracket) × (ts ≡ before ++ (p, begins k) ∷ after) ×
    IsStuck before p (begins k) × BracketGoes k before p ×
    (256 ≤ length (open_places [] before))
IsFault ts (fault.Unclosed p) =
    (before after : Tokens) × (ts ≡ before ++ after) × GoesOn before × IsOpen before after p
IsFault ts fault.NoMemory = ⊥

-- the fault of bytes, by the tokens that they are cut into
abbrev pub IsFaultOf : List ℕ → TextFault → Type 0
IsFaultOf bytes f = (ts : Tokens) × IsCutInto 0 bytes ts × IsFault ts f
