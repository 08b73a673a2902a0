-- Lawful nodes: what stands in them is what the program can hold.
use Rattle.std.specs.Prelude.{Bool}
use Rattle.std.specs.List.{list_all}
use Rattle.value_core.specs.Lawful.{is_lawful_blob, is_number}
use Rattle.value_core.specs.Leaves.{is_text}
use Rattle.micheline_text.specs.declared.node.Node.{Node}
use Rattle.micheline_text.specs.declared.node.Body.{Body}
use Rattle.micheline_text.specs.declared.node.Body.TheOpen as one
use Rattle.micheline_text.specs.declared.node.Body.TheOpen.{Body-F}
use Rattle.micheline_text.specs.declared.node.Body.TheFolds.{fold-Body, fold-Node}

-- one level of a node, whose parts say whether they are lawful
abbrev pub lawful_level : Body-F Bool Bool → Bool
lawful_level (one.Int z) = is_number z
lawful_level (one.Text t) = is_text t
lawful_level (one.Bytes b) = is_lawful_blob b
lawful_level (one.Prim name notes args) = list_all (λ lawful. lawful) args
lawful_level (one.Seq ns) = list_all (λ lawful. lawful) ns

-- the same of what stands at a node
abbrev pub is_lawful_body : Body → Bool
is_lawful_body = fold-Body Bool Bool lawful_level (λ n. n.body)

-- each number, text and byte literal in the node is one
abbrev pub is_lawful : Node → Bool
is_lawful = fold-Node Bool Bool lawful_level (λ n. n.body)
