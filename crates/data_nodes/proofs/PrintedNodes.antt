-- The node of each variant with many parts, and of pairs.
use Rattle.std.proofs.Common.{◌≡◌, List, [], ◌∷◌, ◌++◌, map, refl, sym, ap, ◌∙◌}
use Rattle.value_core.specs.declared.val.Val.{Val}
use Rattle.value_core.specs.declared.val.Val.TheVariants as variant
use Rattle.value_core.specs.declared.val.Val.TheOpen as one
use Rattle.value_core.specs.Combs.{comb}
use Rattle.value_core.proofs.Combs.{one_more_part}
use Rattle.value_core.proofs.Levels.{by_level-roll}
use Rattle.micheline_text.specs.declared.node.Node.{Node}
use Rattle.micheline_text.specs.declared.node.Body.TheVariants as body
use Rattle.data_nodes.specs.Nodes.{node}
use Rattle.data_nodes.specs.Printed.{node_of, printed_level}
use Rattle.data_nodes.specs.Printing.{entry_of, paired}
use Rattle.data_nodes.proofs.WrittenNodes.{pair_node, nodes_of}

entries_are : (es : List (Val × Val)) → map pair_node (map nodes_of es) ≡ map entry_of es
entries_are [] = refl
entries_are (e ∷ es) = ap (λ ns. entry_of e ∷ ns) (entries_are es)

pub node_map : (es : List (Val × Val)) → node_of (variant.Map es) ≡ node (body.Seq (map entry_of es))
node_map es = ap node_of (sym (variant.rolls-Map es)) ∙ by_level-roll printed_level (one.Map es) ∙ ap (λ ns. node (body.Seq ns)) (entries_are es)

pub node_pair : (a b : Val) → node_of (variant.Pair a b) ≡ paired (node_of a) (node_of b)
node_pair a b = ap node_of (sym (variant.rolls-Pair a b)) ∙ by_level-roll printed_level (one.Pair a b)

pub ruleset nodes = (node_map, node_pair)

-- where the last part of a comb is a pair, its first part stands behind the others
pub comb_turn : (whole : Node) (firsts : List Node) (last a b : Val) → last ≡ variant.Pair a b → whole ≡ comb paired firsts (node_of last) →
    whole ≡ comb paired (firsts ++ node_of a ∷ []) (node_of b)
comb_turn whole firsts last a b is so_far =
    so_far ∙ ap (comb paired firsts) (ap node_of is ∙ node_pair a b) ∙ sym (one_more_part paired firsts (node_of a) (node_of b))
