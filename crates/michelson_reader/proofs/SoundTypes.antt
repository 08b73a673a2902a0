-- The node that is printed for a type is lawful and well named, with brackets as deep as the type, less one.
use Rattle.std.proofs.Common.{◌≡◌, ℕ, ◌+◌, true, List, [], ◌∷◌, map, refl, sym, ap, subst, ◌∙◌, arith}
use Rattle.std.specs.Prelude.{◌&&◌, not}
use Rattle.std.specs.List.{list_all}
use Rattle.value_core.specs.declared.ty.Ty.{Ty}
use Rattle.value_core.specs.declared.ty.Ty.TheOpen as ty
use Rattle.value_core.specs.declared.ty.Ty.TheOpen.{Ty-F}
use Rattle.value_core.specs.declared.ty.Ty.TheViews.{out-Ty}
use Rattle.value_core.specs.declared.ty.Ty.TheFolds.{fold_out-Ty, map-Ty}
use Rattle.value_core.specs.Depth.{depth_of_type, greatest, level_depth}
use Rattle.micheline_text.specs.declared.node.Node.{Node}
use Rattle.micheline_text.specs.declared.node.Body.TheVariants as body
use Rattle.micheline_text.specs.Again.{Depth, argument_depth, is_annotation, is_word}
use Rattle.micheline_text.specs.Printed.{is_empty}
use Rattle.michelson_code.specs.Brackets.{type_brackets}
use Rattle.data_nodes.specs.Nodes.{node}
use Rattle.michelson_reader.specs.Printed.{noted, type_node}
use Rattle.michelson_reader.specs.Printing.{annotated, type_parts}
use Rattle.michelson_reader.specs.Types.{word_and_parts}
use Rattle.michelson_reader.proofs.ParameterNodes.{word_of-map}
use Rattle.michelson_reader.proofs.SoundNodes.{AllFit, Fit, Sound, prim_sound}
use Rattle.michelson_reader.proofs.TypeLevels.{Each, induction, parts_of}

-- ---- depths

parts_deep : (x : Ty-F Ty) → level_depth (map-Ty Ty ℕ depth_of_type x) ≡ 1 + greatest (map depth_of_type (parts_of x))
parts_deep (ty.Option t) = omega arith
parts_deep (ty.Or s t) = omega arith
parts_deep (ty.Pair s t) = omega arith
parts_deep (ty.List t) = omega arith
parts_deep (ty.Set t) = omega arith
parts_deep (ty.Map k v) = omega arith
parts_deep (ty.BigMap k v) = omega arith
parts_deep (ty.Contract t) = omega arith
parts_deep _ = refl

pub depth-is : (t : Ty) → depth_of_type t ≡ 1 + greatest (map depth_of_type (parts_of (out-Ty t)))
depth-is t = fold_out-Ty ℕ level_depth t ∙ parts_deep (out-Ty t)

-- the brackets of parts are one less than their depths
one_less : (t : Ty) (ts : List Ty) → 1 + greatest (map type_brackets (t ∷ ts)) ≡ greatest (map depth_of_type (t ∷ ts))
one_less t [] = omega (arith, depth-is t)
one_less t (u ∷ ts) = omega (arith, depth-is t, one_less u ts)

argued_parts : (ts : List Ty) → argument_depth (greatest (map type_brackets ts), not (is_empty (map type_brackets ts))) ≡ greatest (map depth_of_type ts)
argued_parts [] = refl
argued_parts (t ∷ ts) = one_less t ts

-- as an argument
pub type_argued : (t : Ty) → argument_depth (greatest (map type_brackets (parts_of (out-Ty t))), not (is_empty (map type_brackets (parts_of (out-Ty t))))) ≡ type_brackets t
type_argued t = argued_parts (parts_of (out-Ty t)) ∙ omega (arith, depth-is t)

-- ---- one level

type_word_is : (x : Ty-F Ty) → is_word (word_and_parts x).0 ≡ true
type_word_is ty.Unit = refl
type_word_is _ = refl

abbrev FitPart : Ty → Type 0
FitPart t = Fit argument_depth (type_node t) (type_brackets t)

all_fit : (ts : List Ty) → Each FitPart ts → AllFit argument_depth (map type_node ts) (map type_brackets ts)
all_fit [] h = tt
all_fit (t ∷ ts) h = (h.0, all_fit ts h.1)

-- with what is told of annotations and of the brackets of parts
abbrev pub depth_with : List (List ℕ) → List Ty → Depth
depth_with notes ts = (greatest (map type_brackets ts), not (is_empty notes && is_empty (map type_brackets ts)))

level_sound : (notes : List (List ℕ)) (x : Ty-F Ty) → list_all is_annotation notes ≡ true → Each FitPart (parts_of x) →
    Sound (node (body.Prim (word_and_parts x).0 notes (word_and_parts (map-Ty Ty Node type_node x)).1)) (depth_with notes (parts_of x))
level_sound notes ty.Unit annotations h = prim_sound (word_and_parts {A = Ty} ty.Unit).0 notes [] [] refl annotations tt
level_sound notes x annotations h =
    prim_sound (word_and_parts x).0 notes (map type_node (parts_of x)) (map type_brackets (parts_of x)) (type_word_is x) annotations (all_fit (parts_of x) h)

type_node-is : (t : Ty) → type_node t ≡ annotated [] t
type_node-is t =
    fold_out-Ty Node (λ x. noted [] (word_and_parts x)) t
    ∙ ap (λ (name : List ℕ). node (body.Prim name [] (type_parts t))) (word_of-map type_node (out-Ty t))

-- the node of a type as an argument
pub type_fits : (t : Ty) → Fit argument_depth (type_node t) (type_brackets t)
type_fits = induction FitPart (λ t h.
    let s = level_sound [] (out-Ty t) refl h in
    subst (λ (n : Node). Fit argument_depth n (type_brackets t)) (sym (type_node-is t))
    (record { lawful = s.lawful; named = s.named; deep = ap argument_depth s.nested ∙ type_argued t }))

each_fits : (ts : List Ty) → Each FitPart ts
each_fits [] = tt
each_fits (t ∷ ts) = (type_fits t, each_fits ts)

-- and with annotations
pub annotated_sound : (notes : List (List ℕ)) (t : Ty) → list_all is_annotation notes ≡ true → Sound (annotated notes t) (depth_with notes (parts_of (out-Ty t)))
annotated_sound notes t annotations = level_sound notes (out-Ty t) annotations (each_fits (parts_of (out-Ty t)))
