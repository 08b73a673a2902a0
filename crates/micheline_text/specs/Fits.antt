-- Which nodes are printed as texts of the grammar, by what the grammar has in their places.
use Rattle.std.specs.Prelude.{◌≡◌, ℕ, ℤ, zero, suc, ◌≤◌, ◌⊎◌, true, nat_lt, IsTrue, List, [], ◌∷◌}
use Rattle.std.specs.List.{AllByRecursion}
use Rattle.value_core.specs.Leaves.{IsNumber, is_text, is_blob}
use Rattle.micheline_text.specs.declared.node.Node.{Node}
use Rattle.micheline_text.specs.declared.node.Body.{Body}
use Rattle.micheline_text.specs.declared.node.Body.TheVariants as variant
use Rattle.micheline_text.specs.Kinds.{is_letter, is_word_byte, begins_note, is_note_byte}
use Rattle.micheline_text.specs.Layout.{AllAre}
use Rattle.micheline_text.specs.Grammar.{Bracket, Brace, Paren}
use Rattle.micheline_text.specs.Printed.{print_body}

-- a word of the grammar
abbrev pub IsName : List ℕ → Type 0
IsName [] = ⊥
IsName (b ∷ more) = IsTrue (is_letter b) × AllAre is_word_byte more

-- an annotation of the grammar
abbrev pub IsNote : List ℕ → Type 0
IsNote [] = ⊥
IsNote (b ∷ more) = IsTrue (begins_note b) × AllAre is_note_byte more

-- each number, text and byte literal is one, whatever its type promises
abbrev pub IsFitLiteral : Body → Type 0
IsFitLiteral b = ((z : ℤ) × (b ≡ variant.Int z) × IsNumber z)
    ⊎ (((t : List ℕ) × (b ≡ variant.Text t) × IsTrue (is_text t))
    ⊎ ((t : List ℕ) × (b ≡ variant.Bytes t) × IsTrue (is_blob t) × AllAre (λ x. nat_lt x 256) t))

-- a word with its annotations and arguments; Argument says what fits as one
abbrev pub IsFitApplication : (Body → Type 0) → Body → Type 0
IsFitApplication Argument b = (name : List ℕ) × (notes : List (List ℕ)) × (args : List Node) ×
    (b ≡ variant.Prim name notes args) × IsName name × AllByRecursion IsNote notes ×
    AllByRecursion (λ n. Argument n.body) args

-- an argument as the grammar has them; Inside says what fits into brackets
abbrev pub IsFitArgument : (Bracket → Body → Type 0) → Body → Type 0
IsFitArgument Inside b = IsFitLiteral b
    ⊎ (((name : List ℕ) × (b ≡ variant.Prim name [] []) × IsName name) ⊎ (Inside Brace b ⊎ Inside Paren b))

-- a node as the grammar has them
abbrev pub IsFitNode : (Bracket → Body → Type 0) → Body → Type 0
IsFitNode Inside b = IsFitLiteral b ⊎ (Inside Brace b ⊎ IsFitApplication (IsFitArgument Inside) b)

-- what fits into such a bracket
abbrev pub IsFitContent : Bracket → (Bracket → Body → Type 0) → Body → Type 0
IsFitContent Brace Inside b =
    (ns : List Node) × (b ≡ variant.Seq ns) × AllByRecursion (λ n. IsFitNode Inside n.body) ns
IsFitContent Paren Inside b = IsFitApplication (IsFitArgument Inside) b × ((print_body b).1 ≡ true)

-- with brackets at most so deep, they among them
abbrev pub IsInside : ℕ → Bracket → Body → Type 0
IsInside zero k b = ⊥
IsInside (suc d) k b = IsFitContent k (IsInside d) b

-- names and annotations are the grammar's, and the text is at most 256 brackets deep
abbrev pub IsPrintable : Node → Type 0
IsPrintable n = (d : ℕ) × (d ≤ 256) × IsFitNode (IsInside d) n.body
