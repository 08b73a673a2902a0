-- Which tokens make up a text of Micheline, each node with its place.
use Rattle.std.specs.Prelude.{◌≡◌, ℕ, ℤ, zero, suc, ◌≤◌, ◌⊎◌, List, [], ◌∷◌, ◌++◌}
use Rattle.micheline_text.specs.declared.node.Node.{Node}
use Rattle.micheline_text.specs.declared.node.Body.{Body}
use Rattle.micheline_text.specs.declared.node.Body.TheVariants as body
use Rattle.micheline_text.specs.declared.token.Token.{Token}
use Rattle.micheline_text.specs.declared.token.Token.TheVariants as token

-- tokens, each with the offset of its first byte
abbrev pub Tokens : Type 0
Tokens = List (ℕ × Token)

-- a node with its place
abbrev pub node_at : ℕ → Body → Node
node_at at b = record { at = at; body = b }

-- a number, a string or a byte literal
abbrev pub IsLiteral : Tokens → Node → Type 0
IsLiteral ts n =
    ((at : ℕ) × (z : ℤ) × (ts ≡ (at, token.Number z) ∷ []) × (n ≡ node_at at (body.Int z)))
    ⊎ (((at : ℕ) × (t : List ℕ) × (ts ≡ (at, token.Text t) ∷ []) × (n ≡ node_at at (body.Text t)))
    ⊎ ((at : ℕ) × (t : List ℕ) × (ts ≡ (at, token.Bytes t) ∷ []) × (n ≡ node_at at (body.Bytes t))))

-- a word alone
abbrev pub IsWord : Tokens → Node → Type 0
IsWord ts n =
    (at : ℕ) × (w : List ℕ) × (ts ≡ (at, token.Word w) ∷ []) × (n ≡ node_at at (body.Prim w [] []))

-- the two kinds of brackets
pub data Bracket : Type 0 where
  Brace : Bracket
  Paren : Bracket

-- the token that opens it
abbrev pub begins : Bracket → Token
begins Brace = token.OpenBrace
begins Paren = token.OpenParen

-- the token that closes it
abbrev pub ends : Bracket → Token
ends Brace = token.CloseBrace
ends Paren = token.CloseParen

-- ---- lists: text = [node {";" node} [";"]]

-- {";" node}
abbrev pub IsRest : (Tokens → Node → Type 0) → Tokens → List Node → Type 0
IsRest Item ts [] = ts ≡ []
IsRest Item ts (n ∷ ns) = (at : ℕ) × (first rest : Tokens) ×
    (ts ≡ (at, token.Semicolon) ∷ (first ++ rest)) × Item first n × IsRest Item rest ns

-- node {";" node}
abbrev pub IsParted : (Tokens → Node → Type 0) → Tokens → List Node → Type 0
IsParted Item ts [] = ⊥
IsParted Item ts (n ∷ ns) =
    (first rest : Tokens) × (ts ≡ first ++ rest) × Item first n × IsRest Item rest ns

-- nothing, or nodes and their last `;`
abbrev pub IsStart : (Tokens → Node → Type 0) → Tokens → List Node → Type 0
IsStart Item ts ns = ((ts ≡ []) × (ns ≡ []))
    ⊎ ((at : ℕ) × (front : Tokens) × (ts ≡ front ++ (at, token.Semicolon) ∷ []) × IsParted Item front ns)

-- a list of nodes
abbrev pub IsList : (Tokens → Node → Type 0) → Tokens → List Node → Type 0
IsList Item ts ns = IsStart Item ts ns ⊎ IsParted Item ts ns

-- ---- application = word {annotation | argument}

-- what follows the word of an application: annotations and arguments in any mixture
pub data Piece : Type 0 where
  Note : List ℕ → Piece
  Arg : Node → Piece

-- the annotations, in their order
abbrev pub notes_of : List Piece → List (List ℕ)
notes_of [] = []
notes_of (Note note ∷ ps) = note ∷ notes_of ps
notes_of (Arg n ∷ ps) = notes_of ps

-- the arguments, in their order
abbrev pub args_of : List Piece → List Node
args_of [] = []
args_of (Note note ∷ ps) = args_of ps
args_of (Arg n ∷ ps) = n ∷ args_of ps

-- the tokens of the pieces, one after another
abbrev pub ArePieces : (Tokens → Node → Type 0) → Tokens → List Piece → Type 0
ArePieces Argument ts [] = ts ≡ []
ArePieces Argument ts (Note note ∷ ps) =
    (at : ℕ) × (rest : Tokens) × (ts ≡ (at, token.Note note) ∷ rest) × ArePieces Argument rest ps
ArePieces Argument ts (Arg n ∷ ps) =
    (first rest : Tokens) × (ts ≡ first ++ rest) × Argument first n × ArePieces Argument rest ps

-- a word with its annotations and arguments
abbrev pub IsApplication : (Tokens → Node → Type 0) → Tokens → Node → Type 0
IsApplication Argument ts n = (at : ℕ) × (w : List ℕ) × (rest : Tokens) × (ps : List Piece) ×
    (ts ≡ (at, token.Word w) ∷ rest) × ArePieces Argument rest ps ×
    (n ≡ node_at at (body.Prim w (notes_of ps) (args_of ps)))

-- ---- nodes; Inside says what a pair of brackets spells

-- argument = literal | sequence | word | "(" application ")"
abbrev pub IsArgument : (Bracket → Tokens → Node → Type 0) → Tokens → Node → Type 0
IsArgument Inside ts n = IsLiteral ts n ⊎ (IsWord ts n ⊎ (Inside Brace ts n ⊎ Inside Paren ts n))

-- node = literal | sequence | application
abbrev pub IsNode : (Bracket → Tokens → Node → Type 0) → Tokens → Node → Type 0
IsNode Inside ts n = IsLiteral ts n ⊎ (Inside Brace ts n ⊎ IsApplication (IsArgument Inside) ts n)

-- sequence = "{" text "}", its place is the bracket's; a parenthesis has the place of its word
abbrev pub IsContent : Bracket → (Bracket → Tokens → Node → Type 0) → ℕ → Tokens → Node → Type 0
IsContent Brace Inside at ts n =
    (ns : List Node) × IsList (IsNode Inside) ts ns × (n ≡ node_at at (body.Seq ns))
IsContent Paren Inside at ts n = IsApplication (IsArgument Inside) ts n

-- brackets with at most so many, they among them, open at once
abbrev pub IsBracketed : ℕ → Bracket → Tokens → Node → Type 0
IsBracketed zero k ts n = ⊥
IsBracketed (suc d) k ts n = (at to : ℕ) × (inner : Tokens) ×
    (ts ≡ (at, begins k) ∷ (inner ++ (to, ends k) ∷ [])) × IsContent k (IsBracketed d) at inner n

-- a text, whose brackets are at most so deep
abbrev pub IsTextWithin : ℕ → Tokens → List Node → Type 0
IsTextWithin d = IsList (IsNode (IsBracketed d))

-- a text of the grammar
abbrev pub IsText : Tokens → List Node → Type 0
IsText ts ns = (d : ℕ) × (d ≤ 256) × IsTextWithin d ts ns
