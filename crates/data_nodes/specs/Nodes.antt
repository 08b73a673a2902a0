-- What a node of a text must be, and nodes that are printed.
use Rattle.std.specs.Prelude.{ℕ, ℤ, Bool, false, ◌&&◌, List, [], ◌∷◌}
use Rattle.std.specs.Cmp.Lexicographic.{pointwise}
use Rattle.std.specs.Ordering.{int_eq}
use Rattle.std.specs.Str.{bytes_eq}
use Rattle.micheline_text.specs.declared.node.Node.{Node}
use Rattle.micheline_text.specs.declared.node.Body.{Body}
use Rattle.micheline_text.specs.declared.node.Body.TheVariants as body
use Rattle.micheline_text.specs.declared.node.Body.TheOpen as one
use Rattle.micheline_text.specs.declared.node.Body.TheOpen.{Body-F}
use Rattle.micheline_text.specs.declared.node.Body.TheViews.{out-Body}

-- ---- what a node must be; its place and its annotations say nothing

-- what is asked of a node
abbrev pub Test : Type 0
Test = Node → Bool

-- as many nodes as tests, each as its own test asks
abbrev pub all_are : List Test → List Node → Bool
all_are = pointwise (λ test n. test n)

-- one level of a numeral
abbrev pub is_numeral_body : ℤ → Body-F Body Node → Bool
is_numeral_body z (one.Int y) = int_eq y z
is_numeral_body z _ = false

-- of a string
abbrev pub is_text_body : List ℕ → Body-F Body Node → Bool
is_text_body s (one.Text t) = bytes_eq t s
is_text_body s _ = false

-- of a byte literal
abbrev pub is_bytes_body : List ℕ → Body-F Body Node → Bool
is_bytes_body b (one.Bytes t) = bytes_eq t b
is_bytes_body b _ = false

-- of a word with arguments
abbrev pub is_applied_body : List ℕ → List Test → Body-F Body Node → Bool
is_applied_body word tests (one.Prim name notes args) = bytes_eq name word && all_are tests args
is_applied_body word tests _ = false

-- of nodes in braces
abbrev pub is_sequence_body : List Test → Body-F Body Node → Bool
is_sequence_body tests (one.Seq nodes) = all_are tests nodes
is_sequence_body tests _ = false

-- this numeral
abbrev pub is_numeral : ℤ → Test
is_numeral z n = is_numeral_body z (out-Body n.body)

-- this string
abbrev pub is_string : List ℕ → Test
is_string s n = is_text_body s (out-Body n.body)

-- this byte literal
abbrev pub is_bytes : List ℕ → Test
is_bytes b n = is_bytes_body b (out-Body n.body)

-- the word with such arguments
abbrev pub is_applied : List ℕ → List Test → Test
is_applied word tests n = is_applied_body word tests (out-Body n.body)

-- such nodes in braces
abbrev pub is_sequence : List Test → Test
is_sequence tests n = is_sequence_body tests (out-Body n.body)

-- ---- nodes without a place

-- with this body
abbrev pub node : Body → Node
node b = record { at = 0; body = b }

-- a word alone
abbrev pub word : List ℕ → Node
word name = node (body.Prim name [] [])

-- a word with arguments
abbrev pub applied : List ℕ → List Node → Node
applied name args = node (body.Prim name [] args)

-- ---- combs, with two items or more

-- the first item, and the second; or the others as what the word is applied to
abbrev pub are_items : List ℕ → Test → Test → List Node → Bool
are_items name first rest [] = false
are_items name first rest (x ∷ []) = false
are_items name first rest (x ∷ y ∷ []) = first x && rest y
are_items name first rest (x ∷ y ∷ z ∷ more) = first x && rest (applied name (y ∷ z ∷ more))
