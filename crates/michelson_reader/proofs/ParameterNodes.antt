-- A part of the parameter that is no `or` is printed as its type with annotations.
use Rattle.std.proofs.Common.{◌≡◌, ℕ, List, [], map, refl, ap, sym, subst, ◌∙◌, rules}
use Rattle.value_core.specs.declared.ty.Ty.{Ty}
use Rattle.value_core.specs.declared.ty.Ty.TheVariants as variant
use Rattle.value_core.specs.declared.ty.Ty.TheOpen as ty
use Rattle.value_core.specs.declared.ty.Ty.TheOpen.{Ty-F}
use Rattle.value_core.specs.declared.ty.Ty.TheViews.{out-Ty, roll-Ty, the_lemmas}
use Rattle.value_core.specs.declared.ty.Ty.TheFolds.{fold-Ty, fold_out-Ty, fold-roll-Ty, ind-Ty, map-Ty}
use Rattle.micheline_text.specs.declared.node.Node.{Node}
use Rattle.micheline_text.specs.declared.node.Body.TheVariants as body
use Rattle.data_nodes.specs.Nodes.{node}
use Rattle.michelson_code.specs.Entries.{NamedEntry}
use Rattle.michelson_reader.specs.Printed.{PartNode, names_here, noted, part_nodes, type_node}
use Rattle.michelson_reader.specs.Printing.{annotated, note_of, part_level, part_node, type_parts}
use Rattle.michelson_reader.specs.Types.{word_and_parts}

-- a type's node as it is, and as a part with names
abbrev whole : Ty → PartNode
whole = fold-Ty PartNode part_level

abbrev Agrees : Ty → Type 0
Agrees t = (whole t).0 ≡ type_node t

abbrev Agreed : Type 0
Agreed = (t : Ty) × Agrees t

-- the nodes of the parts as they are
abbrev plain_nodes : Ty-F Ty → Ty-F Node
plain_nodes x = map-Ty PartNode Node (λ p. p.0) (map-Ty Ty PartNode whole x)

parts_agree : (y : Ty-F Agreed) → plain_nodes (map-Ty Agreed Ty (λ p. p.0) y) ≡ map-Ty Ty Node type_node (map-Ty Agreed Ty (λ p. p.0) y)
parts_agree (ty.Option t) = λ i. ty.Option (t.1 i)
parts_agree (ty.List t) = λ i. ty.List (t.1 i)
parts_agree (ty.Set t) = λ i. ty.Set (t.1 i)
parts_agree (ty.Contract t) = λ i. ty.Contract (t.1 i)
parts_agree (ty.Or s t) = λ i. ty.Or (s.1 i) (t.1 i)
parts_agree (ty.Pair s t) = λ i. ty.Pair (s.1 i) (t.1 i)
parts_agree (ty.Map s t) = λ i. ty.Map (s.1 i) (t.1 i)
parts_agree (ty.BigMap s t) = λ i. ty.BigMap (s.1 i) (t.1 i)
parts_agree _ = refl

-- as it is it is the node of the type
agrees : (t : Ty) → Agrees t
agrees = ind-Ty Agrees (λ x y is.
    ap (λ (p : PartNode). p.0) (fold-roll-Ty PartNode part_level x)
    ∙ ap (λ (x : Ty-F Node). noted [] (word_and_parts x)) (subst (λ (x : Ty-F Ty). plain_nodes x ≡ map-Ty Ty Node type_node x) is (parts_agree y))
    ∙ sym (fold-roll-Ty Node (λ x. noted [] (word_and_parts x)) x))

back : (x : Ty-F Ty) → map-Ty Agreed Ty (λ p. p.0) (map-Ty Ty Agreed (λ t. (t, agrees t)) x) ≡ x
back ty.Unit = refl
back _ = refl

level_agrees : (x : Ty-F Ty) → plain_nodes x ≡ map-Ty Ty Node type_node x
level_agrees x = subst (λ (x : Ty-F Ty). plain_nodes x ≡ map-Ty Ty Node type_node x) (back x) (parts_agree (map-Ty Ty Agreed (λ t. (t, agrees t)) x))

-- parts don't turn the word of a type
pub word_of-map : {A B : Type 0} (f : A → B) (x : Ty-F A) → (word_and_parts (map-Ty A B f x)).0 ≡ (word_and_parts x).0
word_of-map f ty.Unit = refl
word_of-map f _ = refl

-- a part that is no `or` is its type's node with annotations
other_parts : (x : Ty-F Ty) (names : List NamedEntry) → ((s u : Ty) → x ≡ ty.Or s u → ⊥) → part_nodes (map-Ty Ty PartNode whole x) names ≡ word_and_parts (plain_nodes x)
other_parts (ty.Or s u) names other = absurd (other s u refl)
other_parts _ names other = refl

no_or : (t : Ty) → ((s u : Ty) → t ≡ variant.Or s u → ⊥) → (s u : Ty) → out-Ty t ≡ ty.Or s u → ⊥
no_or t other s u is =
    let same : roll-Ty (out-Ty t) ≡ t = search (rules, the_lemmas) in
    other s u (sym same ∙ ap roll-Ty is ∙ variant.rolls-Or s u)

pub part_other : (t : Ty) (names : List NamedEntry) → ((s u : Ty) → t ≡ variant.Or s u → ⊥) → part_node t names ≡ annotated (map note_of (names_here names)) t
part_other t names other =
    let x = out-Ty t in
    ap (λ (p : PartNode). p.1 names) (fold_out-Ty PartNode part_level t)
    ∙ ap (noted (names_here names)) (other_parts x names (no_or t other) ∙ ap word_and_parts (level_agrees x))
    ∙ ap (λ (name : List ℕ). node (body.Prim name (map note_of (names_here names)) (type_parts t))) (word_of-map type_node x)
