-- Which bytes are a text of Micheline.
use Rattle.std.specs.Prelude.{ℕ, List}
use Rattle.micheline_text.specs.declared.node.Node.{Node}
use Rattle.micheline_text.specs.Grammar.{Tokens, IsText}
use Rattle.micheline_text.specs.Layout.{IsLaidOut}

-- the bytes are laid out as tokens that are a text of the grammar, with these nodes
abbrev pub IsTextOf : List ℕ → List Node → Type 0
IsTextOf bytes ns = (ts : Tokens) × IsLaidOut 0 bytes ts × IsText ts ns
