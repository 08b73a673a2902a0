-- The node that is printed for a type, with names or without, is written for it.
use Rattle.std.proofs.Common.{◌≡◌, ℕ, true, List, [], ◌∷◌, map, refl, ap, ◌∙◌}
use Rattle.std.specs.Prelude.{codes}
use Rattle.std.proofs.lemmas.Bool.{and_from}
use Rattle.std.proofs.lemmas.Cmp.{nat_list_eq_equiv}
use Rattle.value_core.specs.declared.ty.Ty.{Ty}
use Rattle.value_core.specs.declared.ty.Ty.TheOpen as ty
use Rattle.value_core.specs.declared.ty.Ty.TheOpen.{Ty-F}
use Rattle.value_core.specs.declared.ty.Ty.TheViews.{out-Ty}
use Rattle.value_core.specs.declared.ty.Ty.TheFolds.{fold-Ty, fold_out-Ty, map-Ty}
use Rattle.micheline_text.specs.declared.node.Node.{Node}
use Rattle.michelson_code.specs.declared.script.Side.TheVariants.{Left, Right}
use Rattle.data_nodes.specs.Nodes.{Test, all_are, is_applied, is_applied_body}
use Rattle.data_nodes.proofs.NodeLevels.{shows_prim}
use Rattle.michelson_code.specs.Entries.{NamedEntry}
use Rattle.michelson_reader.specs.Types.{is_pair, is_pair_body, is_type, type_level, word_and_parts}
use Rattle.michelson_reader.specs.Printed.{PartNode, names_below, names_here, noted, parameter_node, part_nodes, type_node}
use Rattle.michelson_reader.proofs.TypeLevels.{Each, induction, is_type-level, parts_of}

applied_noted : (word : List ℕ) (tests : List Test) (names : List (List ℕ)) (args : List Node) → all_are tests args ≡ true → is_applied word tests (noted names (word, args)) ≡ true
applied_noted word tests names args fit =
    ap (is_applied_body word tests) (shows_prim word (map (λ name. 37 ∷ name) names) args) ∙ and_from _ _ (nat_list_eq_equiv.refl word) fit

pair_noted : (first rest : Test) (names : List (List ℕ)) (a b : Node) → first a ≡ true → rest b ≡ true → is_pair first rest (noted names (codes "pair", a ∷ b ∷ [])) ≡ true
pair_noted first rest names a b p q = ap (is_pair_body first rest) (shows_prim (codes "pair") (map (λ name. 37 ∷ name) names) (a ∷ b ∷ [])) ∙ and_from _ _ p q

-- ---- one level, by the nodes of its parts

module _ (f : Ty → Node) where
  abbrev Fits : Ty → Type 0
  Fits t = is_type t (f t) ≡ true

  all_fit : (ts : List Ty) → Each Fits ts → all_are (map is_type ts) (map f ts) ≡ true
  all_fit [] h = refl
  all_fit (t ∷ ts) h = and_from _ _ h.0 (all_fit ts h.1)

  level_fits : (x : Ty-F Ty) → Each Fits (parts_of x) → (names : List (List ℕ)) → type_level (map-Ty Ty Test is_type x) (noted names (word_and_parts (map-Ty Ty Node f x))) ≡ true
  level_fits (ty.Pair s t) h names = pair_noted (is_type s) (is_type t) names (f s) (f t) h.0 h.1.0
  level_fits x h names = applied_noted (word_and_parts x).0 (map is_type (parts_of x)) names (map f (parts_of x)) (all_fit (parts_of x) h)

-- the node of a type is written for it
pub type_is_written : (t : Ty) → is_type t (type_node t) ≡ true
type_is_written = induction (λ t. is_type t (type_node t) ≡ true) (λ t h.
    ap (is_type t) (fold_out-Ty Node (λ x. noted [] (word_and_parts x)) t)
    ∙ is_type-level t (noted [] (word_and_parts (map-Ty Ty Node type_node (out-Ty t)))) ∙ level_fits type_node (out-Ty t) h [])

-- ---- parameters

abbrev pub part_level : Ty-F PartNode → PartNode
part_level x = (noted [] (word_and_parts (map-Ty PartNode Node (λ p. p.0) x)), λ names. noted (names_here names) (part_nodes x names))

abbrev pub part_of : Ty → PartNode
part_of = fold-Ty PartNode part_level

pub part_of-level : (t : Ty) → part_of t ≡ part_level (map-Ty Ty PartNode part_of (out-Ty t))
part_of-level = fold_out-Ty PartNode part_level

abbrev plain : Ty → Node
plain t = (part_of t).0

record IsWrittenPart (t : Ty) : Type 0 where
  pub alone : is_type t (plain t) ≡ true
  pub named : (names : List NamedEntry) → is_type t (parameter_node t names) ≡ true

plain_parts : (x : Ty-F Ty) → map-Ty PartNode Node (λ p. p.0) (map-Ty Ty PartNode part_of x) ≡ map-Ty Ty Node plain x
plain_parts ty.Unit = refl
plain_parts _ = refl

each_alone : (ts : List Ty) → Each IsWrittenPart ts → Each (λ t. is_type t (plain t) ≡ true) ts
each_alone [] h = tt
each_alone (t ∷ ts) h = (h.0.alone, each_alone ts h.1)

level_alone : (x : Ty-F Ty) → Each IsWrittenPart (parts_of x) → (names : List (List ℕ)) →
    type_level (map-Ty Ty Test is_type x) (noted names (word_and_parts (map-Ty PartNode Node (λ p. p.0) (map-Ty Ty PartNode part_of x)))) ≡ true
level_alone x h names =
    ap (λ (y : Ty-F Node). type_level (map-Ty Ty Test is_type x) (noted names (word_and_parts y))) (plain_parts x) ∙ level_fits plain x (each_alone (parts_of x) h) names

level_named : (x : Ty-F Ty) → Each IsWrittenPart (parts_of x) → (names : List NamedEntry) →
    type_level (map-Ty Ty Test is_type x) (noted (names_here names) (part_nodes (map-Ty Ty PartNode part_of x) names)) ≡ true
level_named (ty.Or s t) h names =
    applied_noted (codes "or") (is_type s ∷ is_type t ∷ []) (names_here names) (parameter_node s (names_below Left names) ∷ parameter_node t (names_below Right names) ∷ [])
    (and_from _ _ (h.0.named (names_below Left names)) (and_from _ _ (h.1.0.named (names_below Right names)) refl))
level_named x h names = level_alone x h (names_here names)

part_is_written : (t : Ty) → IsWrittenPart t
part_is_written = induction IsWrittenPart (λ t h. record {
  alone = ap (λ (p : PartNode). is_type t p.0) (part_of-level t) ∙ is_type-level t _ ∙ level_alone (out-Ty t) h [];
  named = λ names. ap (λ (p : PartNode). is_type t (p.1 names)) (part_of-level t) ∙ is_type-level t _ ∙ level_named (out-Ty t) h names;
})

-- the node of a parameter is written for its type, whatever the names
pub parameter_is_written : (t : Ty) (names : List NamedEntry) → is_type t (parameter_node t names) ≡ true
parameter_is_written t names = (part_is_written t).named names
