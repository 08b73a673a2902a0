-- The node of a comb of pairs: one first part more, and one pair more round the last.
use Rattle.std.proofs.Common.{◌≡◌, List, [], ◌∷◌, ◌++◌, ap, sym, ◌∙◌}
use Rattle.value_core.specs.declared.ty.Ty.{Ty}
use Rattle.value_core.specs.declared.ty.Ty.TheVariants as kind
use Rattle.value_core.specs.declared.ty.Ty.TheVariants.{rolls-Pair}
use Rattle.value_core.specs.declared.ty.Ty.TheOpen as ty
use Rattle.value_core.specs.declared.ty.Ty.TheFolds.{fold-roll-Ty}
use Rattle.value_core.specs.Combs.{comb}
use Rattle.value_core.proofs.Combs.{one_more_part}
use Rattle.micheline_text.specs.declared.node.Node.{Node}
use Rattle.michelson_reader.specs.Printed.{noted, type_node}
use Rattle.michelson_reader.specs.Printing.{pair_node}
use Rattle.michelson_reader.specs.Types.{word_and_parts}

type_node-pair : (s t : Ty) → type_node (kind.Pair s t) ≡ pair_node (type_node s) (type_node t)
type_node-pair s t = ap type_node (sym (rolls-Pair s t)) ∙ fold-roll-Ty Node (λ x. noted [] (word_and_parts x)) (ty.Pair s t)

-- where what is left is a pair, its first part goes behind those before it
pub one_more_first : (whole : Node) (firsts : List Node) (rest s t : Ty) → rest ≡ kind.Pair s t → whole ≡ comb pair_node firsts (type_node rest) →
    whole ≡ comb pair_node (firsts ++ type_node s ∷ []) (type_node t)
one_more_first whole firsts rest s t is so_far =
    so_far ∙ ap (comb pair_node firsts) (ap type_node is ∙ type_node-pair s t) ∙ sym (one_more_part pair_node firsts (type_node s) (type_node t))

-- the last of them goes into a pair with what stands behind it
pub one_more_pair : (whole : Node) (all firsts : List Node) (first last : Node) → all ≡ firsts ++ first ∷ [] → comb pair_node all last ≡ whole →
    comb pair_node firsts (pair_node first last) ≡ whole
one_more_pair whole all firsts first last is so_far = sym (one_more_part pair_node firsts first last) ∙ ap (λ (xs : List Node). comb pair_node xs last) (sym is) ∙ so_far
