-- The node that is printed for a type is well named, and its brackets go as deep as the type, less two.
use Rattle.std.proofs.Common.{◌≡◌, ℕ, ◌+◌, ◌-◌, Bool, true, List, [], ◌∷◌, map, refl, ap, ◌∙◌, arith}
use Rattle.std.specs.List.{list_all}
use Rattle.std.proofs.lemmas.List.Folds.{list_all-map}
use Rattle.value_core.specs.declared.ty.Ty.{Ty}
use Rattle.value_core.specs.declared.ty.Ty.TheOpen as ty
use Rattle.value_core.specs.declared.ty.Ty.TheOpen.{Ty-F}
use Rattle.value_core.specs.declared.ty.Ty.TheViews.{out-Ty}
use Rattle.value_core.specs.declared.ty.Ty.TheFolds.{fold_out-Ty, map-Ty}
use Rattle.value_core.specs.Depth.{depth_of_type, greatest, level_depth}
use Rattle.micheline_text.specs.declared.node.Node.{Node}
use Rattle.micheline_text.specs.Again.{Depth, argument_depth, brackets, depth_of_node, is_well_named, is_word, named_level}
use Rattle.micheline_text.proofs.FitDepths.{deepest_argument, depth_node, depth_prim}
use Rattle.micheline_text.proofs.NodeLevels.{at_node, at_prim}
use Rattle.michelson_reader.specs.Printed.{noted, type_node}
use Rattle.michelson_reader.specs.Types.{word_and_parts}
use Rattle.michelson_reader.proofs.TypeLevels.{Each, induction, parts_of}

-- ---- depths of types

parts_deep : (x : Ty-F Ty) → level_depth (map-Ty Ty ℕ depth_of_type x) ≡ 1 + greatest (map depth_of_type (parts_of x))
parts_deep (ty.Option t) = omega arith
parts_deep (ty.Or s t) = omega arith
parts_deep (ty.Pair s t) = omega arith
parts_deep (ty.List t) = omega arith
parts_deep (ty.Set t) = omega arith
parts_deep (ty.Map k v) = omega arith
parts_deep (ty.BigMap k v) = omega arith
parts_deep (ty.Contract t) = omega arith
parts_deep _ = refl

depth-is : (t : Ty) → depth_of_type t ≡ 1 + greatest (map depth_of_type (parts_of (out-Ty t)))
depth-is t = fold_out-Ty ℕ level_depth t ∙ parts_deep (out-Ty t)

-- ---- one level

word_is : (x : Ty-F Ty) → is_word (word_and_parts x).0 ≡ true
word_is ty.Unit = refl
word_is _ = refl

-- well named, and as deep as the type, less one, where it stands as an argument
record IsFit (t : Ty) : Type 0 where
  named : is_well_named (type_node t) ≡ true
  argued : argument_depth (depth_of_node (type_node t)) ≡ depth_of_type t - 1

all_named : (ts : List Ty) → Each IsFit ts → list_all is_well_named (map type_node ts) ≡ true
all_named [] h = refl
all_named (t ∷ ts) h = rw (h.0.named) (all_named ts h.1)

applied_named : (word : List ℕ) (args : List Node) → is_word word ≡ true → list_all is_well_named args ≡ true → is_well_named (noted [] (word, args)) ≡ true
applied_named word args name all =
    at_node Bool named_level (noted [] (word, args)) ∙ at_prim Bool named_level word [] args
    ∙ rw (name, list_all-map (λ (v : Bool). v) is_well_named args) all

all_deep : (ts : List Ty) → Each IsFit ts → deepest_argument (map type_node ts) ≡ greatest (map depth_of_type ts) - 1
all_deep [] h = refl
all_deep (t ∷ ts) h = omega (arith, h.0.argued, all_deep ts h.1)

applied_deep : (word : List ℕ) (args : List Node) → brackets (noted [] (word, args)) ≡ deepest_argument args
applied_deep word args = ap (λ (d : Depth). d.0) (depth_node (noted [] (word, args)) ∙ depth_prim word [] args)

-- a word with arguments stands in parentheses as an argument
applied_argued : (word : List ℕ) (ts : List Ty) → Each IsFit ts → argument_depth (depth_of_node (noted [] (word, map type_node ts))) ≡ greatest (map depth_of_type ts)
applied_argued word [] h = ap argument_depth (depth_node (noted [] (word, [])) ∙ depth_prim word [] [])
applied_argued word (t ∷ ts) h =
    let args : List Node = map type_node (t ∷ ts) in
    let deep : argument_depth (depth_of_node (noted [] (word, args))) ≡ 1 + deepest_argument args = ap argument_depth (depth_node (noted [] (word, args)) ∙ depth_prim word [] args) in
    omega (arith, deep, all_deep (t ∷ ts) h, depth-is t)

-- ---- types

level_named : (x : Ty-F Ty) → Each IsFit (parts_of x) → is_well_named (noted [] (word_and_parts (map-Ty Ty Node type_node x))) ≡ true
level_named ty.Unit h = applied_named (word_and_parts {A = Ty} ty.Unit).0 [] refl refl
level_named x h = applied_named (word_and_parts x).0 (map type_node (parts_of x)) (word_is x) (all_named (parts_of x) h)

level_argued : (x : Ty-F Ty) → Each IsFit (parts_of x) → argument_depth (depth_of_node (noted [] (word_and_parts (map-Ty Ty Node type_node x)))) ≡ greatest (map depth_of_type (parts_of x))
level_argued ty.Unit h = applied_argued (word_and_parts {A = Ty} ty.Unit).0 [] tt
level_argued x h = applied_argued (word_and_parts x).0 (parts_of x) h

level_deep : (x : Ty-F Ty) → Each IsFit (parts_of x) → brackets (noted [] (word_and_parts (map-Ty Ty Node type_node x))) ≡ greatest (map depth_of_type (parts_of x)) - 1
level_deep ty.Unit h = applied_deep (word_and_parts {A = Ty} ty.Unit).0 []
level_deep x h = applied_deep (word_and_parts x).0 (map type_node (parts_of x)) ∙ all_deep (parts_of x) h

node_is : (t : Ty) → type_node t ≡ noted [] (word_and_parts (map-Ty Ty Node type_node (out-Ty t)))
node_is t = fold_out-Ty Node (λ x. noted [] (word_and_parts x)) t

is_fit : (t : Ty) → IsFit t
is_fit = induction IsFit (λ t h. record {
  named = ap is_well_named (node_is t) ∙ level_named (out-Ty t) h;
  argued = ap (λ (n : Node). argument_depth (depth_of_node n)) (node_is t) ∙ level_argued (out-Ty t) h ∙ omega (arith, depth-is t);
})

each_fit : (ts : List Ty) → Each IsFit ts
each_fit [] = tt
each_fit (t ∷ ts) = (is_fit t, each_fit ts)

-- the node of a type is well named
pub type_is_named : (t : Ty) → is_well_named (type_node t) ≡ true
type_is_named t = (is_fit t).named

-- and its brackets go so deep
pub type_brackets : (t : Ty) → brackets (type_node t) ≡ depth_of_type t - 2
type_brackets t = ap brackets (node_is t) ∙ level_deep (out-Ty t) (each_fit (parts_of (out-Ty t))) ∙ omega (arith, depth-is t)
