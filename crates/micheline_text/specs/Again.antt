-- Which nodes are printed as texts of the grammar, and what is read of them.
use Rattle.std.specs.Prelude.{◌≡◌, ℕ, ◌+◌, Bool, true, false, not, ◌&&◌, if◌then◌else◌, List, [], ◌∷◌, map}
use Rattle.std.specs.List.{list_all}
use Rattle.value_core.specs.Depth.{greatest}
use Rattle.micheline_text.specs.declared.node.Node.{Node}
use Rattle.micheline_text.specs.declared.node.Body.{Body}
use Rattle.micheline_text.specs.declared.node.Body.TheOpen as one
use Rattle.micheline_text.specs.declared.node.Body.TheOpen.{Body-F}
use Rattle.micheline_text.specs.declared.node.Body.TheViews.{roll-Body}
use Rattle.micheline_text.specs.declared.node.Body.TheFolds.{fold-Body, fold-Node}
use Rattle.micheline_text.specs.Kinds.{is_letter, is_word_byte, begins_note, is_note_byte}
use Rattle.micheline_text.specs.Printed.{is_empty}
use Rattle.micheline_text.specs.Text.{IsTextOf}

-- the node with 0 for each place in it
abbrev pub unplaced : Node → Node
unplaced = fold-Node Body Node roll-Body (λ n. record { at = 0; body = n.body })

-- the same of what stands at a node
abbrev pub unplaced_body : Body → Body
unplaced_body = fold-Body Body Node roll-Body (λ n. record { at = 0; body = n.body })

-- ---- what the grammar has

-- a word of the grammar
abbrev pub is_word : List ℕ → Bool
is_word [] = false
is_word (b ∷ more) = is_letter b && list_all is_word_byte more

-- an annotation of the grammar
abbrev pub is_annotation : List ℕ → Bool
is_annotation [] = false
is_annotation (b ∷ more) = begins_note b && list_all is_note_byte more

-- one level of a node, whose parts say whether they are well named
abbrev pub named_level : Body-F Bool Bool → Bool
named_level (one.Prim name notes args) =
    is_word name && (list_all is_annotation notes && list_all (λ named. named) args)
named_level (one.Seq ns) = list_all (λ named. named) ns
named_level x = true

-- each name in the node is a word, and each annotation is one
abbrev pub is_well_named : Node → Bool
is_well_named = fold-Node Bool Bool named_level (λ n. n.body)

-- how many brackets go round what stands in a node, and whether it stands in parentheses as an
-- argument
abbrev pub Depth : Type 0
Depth = ℕ × Bool

-- the same with the parentheses that it stands in as an argument
abbrev pub argument_depth : Depth → ℕ
argument_depth d = if d.1 then 1 + d.0 else d.0

-- one level of a node, with the depth of each part
abbrev pub brackets_level : Body-F Depth Depth → Depth
brackets_level (one.Prim name notes args) =
    (greatest (map argument_depth args), not (is_empty notes && is_empty args))
brackets_level (one.Seq ns) = (1 + greatest (map (λ d. d.0) ns), false)
brackets_level x = (0, false)

-- of what stands at a node
abbrev pub depth_of_body : Body → Depth
depth_of_body = fold-Body Depth Depth brackets_level (λ n. n.body)

-- of a node
abbrev pub depth_of_node : Node → Depth
depth_of_node = fold-Node Depth Depth brackets_level (λ n. n.body)

-- how deep the brackets of the printed text go
abbrev pub brackets : Node → ℕ
brackets n = (depth_of_node n).0

-- ---- what is read

-- the bytes are a text of one node, equal to this one up to places
abbrev pub IsTextOfOne : List ℕ → Node → Type 0
IsTextOfOne bytes n = (m : Node) × IsTextOf bytes (m ∷ []) × (unplaced m ≡ unplaced n)
