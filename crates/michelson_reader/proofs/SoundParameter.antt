-- The node that is printed for a parameter with names is lawful and well named, with the brackets of its type and names.
use Rattle.std.proofs.Common.{◌≡◌, ◌≤◌, ℕ, ◌+◌, max, Bool, true, false, List, [], ◌∷◌, map, Option, None, refl, sym, ap, subst, ◌∙◌, arith, rules}
use Rattle.std.specs.Prelude.{◌&&◌, codes, is_some, not}
use Rattle.std.specs.List.{list_all}
use Rattle.std.specs.Option.{option_and_then}
use Rattle.std.proofs.lemmas.Bool.{and_from, and_parts, true≢false}
use Rattle.value_core.specs.declared.ty.Ty.{Ty}
use Rattle.value_core.specs.declared.ty.Ty.TheVariants as variant
use Rattle.value_core.specs.declared.ty.Ty.TheOpen as ty
use Rattle.value_core.specs.declared.ty.Ty.TheOpen.{Ty-F}
use Rattle.value_core.specs.declared.ty.Ty.TheViews.{out-Ty, the_lemmas}
use Rattle.value_core.specs.declared.ty.Ty.TheFolds.{map-Ty}
use Rattle.value_core.specs.Depth.{depth_of_type, greatest}
use Rattle.micheline_text.specs.declared.node.Node.{Node}
use Rattle.micheline_text.specs.Again.{argument_depth, is_annotation}
use Rattle.micheline_text.specs.Printed.{is_empty}
use Rattle.michelson_code.specs.declared.script.Side.{Side}
use Rattle.michelson_code.specs.declared.script.Side.TheVariants.{Left, Right}
use Rattle.michelson_code.specs.Brackets.{name_brackets, type_brackets}
use Rattle.michelson_code.specs.Entries.{NamedEntry, Path, part_at, type_at}
use Rattle.michelson_code.specs.Lawful.{is_lawful_entry}
use Rattle.michelson_code.specs.Printable.{stands_in}
use Rattle.michelson_reader.specs.Printed.{PartNode, names_below, names_here, noted, parameter_node, part_nodes}
use Rattle.michelson_reader.specs.Printing.{annotated}
use Rattle.michelson_reader.proofs.PrintedTypes.{part_of, part_of-level}
use Rattle.michelson_reader.proofs.ParameterNodes.{part_other}
use Rattle.michelson_reader.proofs.SoundCode.{name_annotates}
use Rattle.michelson_reader.proofs.SoundNodes.{Fit, prim_sound}
use Rattle.michelson_reader.proofs.SoundTypes.{annotated_sound, depth-is, depth_with, type_argued}
use Rattle.michelson_reader.proofs.TypeLevels.{Each, induction, parts_of}

-- ---- names here and below

annotated_names : (names : List NamedEntry) → list_all is_lawful_entry names ≡ true → list_all is_annotation (map (λ name. 37 ∷ name) (names_here names)) ≡ true
annotated_names [] h = refl
annotated_names (([], name) ∷ names) h = let both = and_parts _ _ h in and_from _ _ (name_annotates name both.0) (annotated_names names both.1)
annotated_names ((side ∷ path, name) ∷ names) h = annotated_names names (and_parts _ _ h).1

-- what holds of names holds in its own way of those below a part
module _ (P Q : NamedEntry → Bool) where
  all_below : (side : Side) → ((path : Path) (name : List ℕ) → P (side ∷ path, name) ≡ true → Q (path, name) ≡ true) →
      (names : List NamedEntry) → list_all P names ≡ true → list_all Q (names_below side names) ≡ true
  all_below side each [] h = refl
  all_below Left each (([], name) ∷ names) h = all_below Left each names (and_parts _ _ h).1
  all_below Right each (([], name) ∷ names) h = all_below Right each names (and_parts _ _ h).1
  all_below Left each ((Left ∷ path, name) ∷ names) h = let both = and_parts _ _ h in and_from _ _ (each path name both.0) (all_below Left each names both.1)
  all_below Left each ((Right ∷ path, name) ∷ names) h = all_below Left each names (and_parts _ _ h).1
  all_below Right each ((Left ∷ path, name) ∷ names) h = all_below Right each names (and_parts _ _ h).1
  all_below Right each ((Right ∷ path, name) ∷ names) h = let both = and_parts _ _ h in and_from _ _ (each path name both.0) (all_below Right each names both.1)

abbrev deepest : List NamedEntry → ℕ
deepest names = greatest (map name_brackets names)

-- the names of a node with two parts stand at it, or one deeper than from a part
deepest_parts : (k : ℕ) (names : List NamedEntry) → max (1 + k) (deepest names) ≡ 1 + max k (max (deepest (names_below Left names)) (deepest (names_below Right names)))
deepest_parts k [] = omega arith
deepest_parts k (([], name) ∷ names) = omega (arith, deepest_parts k names)
deepest_parts k ((Left ∷ path, name) ∷ names) = omega (arith, deepest_parts k names)
deepest_parts k ((Right ∷ path, name) ∷ names) = omega (arith, deepest_parts k names)

-- ---- a node that is an `or`

abbrev IsFitParameter : Ty → Type 0
IsFitParameter t = (names : List NamedEntry) → list_all is_lawful_entry names ≡ true → list_all (stands_in t) names ≡ true →
    Fit argument_depth (parameter_node t names) (max (type_brackets t) (deepest names))

stands_left : (t s u : Ty) → out-Ty t ≡ ty.Or s u → (path : Path) (name : List ℕ) → stands_in t (Left ∷ path, name) ≡ true → stands_in s (path, name) ≡ true
stands_left t s u is path name h = sym (ap (λ (x : Ty-F Ty). is_some (option_and_then (type_at path) (part_at Left x))) is) ∙ h

stands_right : (t s u : Ty) → out-Ty t ≡ ty.Or s u → (path : Path) (name : List ℕ) → stands_in t (Right ∷ path, name) ≡ true → stands_in u (path, name) ≡ true
stands_right t s u is path name h = sym (ap (λ (x : Ty-F Ty). is_some (option_and_then (type_at path) (part_at Right x))) is) ∙ h

abbrev notes_here : List NamedEntry → List (List ℕ)
notes_here names = map (λ name. 37 ∷ name) (names_here names)

-- as a word with arguments, whatever the annotations
argued : (notes : List (List ℕ)) (k : ℕ) → argument_depth (k, not (is_empty notes && false)) ≡ 1 + k
argued [] k = refl
argued (note ∷ notes) k = refl

no_more : (k : ℕ) → max k 0 ≡ k
no_more k = omega arith

both_pairs : (a b c d : ℕ) → max (max a c) (max b d) ≡ max (max a b) (max c d)
both_pairs a b c d = omega arith

-- an `or` has one pair of parentheses more than its parts
or_brackets : (t s u : Ty) → out-Ty t ≡ ty.Or s u → type_brackets t ≡ 1 + max (type_brackets s) (type_brackets u)
or_brackets t s u is =
    let parts = depth-is t ∙ ap (λ (x : Ty-F Ty). 1 + greatest (map depth_of_type (parts_of x))) is in
    omega (arith, parts, depth-is s, depth-is u)

or_sum : (t s u : Ty) → out-Ty t ≡ ty.Or s u → (names : List NamedEntry) →
    1 + max (max (type_brackets s) (deepest (names_below Left names))) (max (max (type_brackets u) (deepest (names_below Right names))) 0) ≡ max (type_brackets t) (deepest names)
or_sum t s u is names =
    let a : ℕ = type_brackets s in
    let b : ℕ = type_brackets u in
    let left : ℕ = deepest (names_below Left names) in
    let right : ℕ = deepest (names_below Right names) in
    ap (λ (k : ℕ). 1 + max (max a left) k) (no_more (max b right))
    ∙ ap (λ (k : ℕ). 1 + k) (both_pairs a b left right)
    ∙ sym (deepest_parts (max a b) names)
    ∙ ap (λ (k : ℕ). max k (deepest names)) (sym (or_brackets t s u is))

or_fits : (t s u : Ty) → out-Ty t ≡ ty.Or s u → IsFitParameter s → IsFitParameter u → (names : List NamedEntry) → list_all is_lawful_entry names ≡ true → list_all (stands_in t) names ≡ true →
    Fit argument_depth (noted (names_here names) (codes "or", parameter_node s (names_below Left names) ∷ parameter_node u (names_below Right names) ∷ [])) (max (type_brackets t) (deepest names))
or_fits t s u is first second names lawful stands =
    let left = first (names_below Left names) (all_below is_lawful_entry is_lawful_entry Left (λ path name h. h) names lawful) (all_below (stands_in t) (stands_in s) Left (stands_left t s u is) names stands) in
    let right = second (names_below Right names) (all_below is_lawful_entry is_lawful_entry Right (λ path name h. h) names lawful) (all_below (stands_in t) (stands_in u) Right (stands_right t s u is) names stands) in
    let a : ℕ = max (type_brackets s) (deepest (names_below Left names)) in
    let b : ℕ = max (type_brackets u) (deepest (names_below Right names)) in
    let whole = prim_sound (codes "or") (map (λ name. 37 ∷ name) (names_here names)) (parameter_node s (names_below Left names) ∷ parameter_node u (names_below Right names) ∷ []) (a ∷ b ∷ [])
    refl (annotated_names names lawful) (left, (right, tt)) in
    record {
      lawful = whole.lawful;
      named = whole.named;
      deep = ap argument_depth whole.nested ∙ argued (notes_here names) (max a (max b 0)) ∙ or_sum t s u is names;
    }

-- ---- a node that is none

shows_or : (s u : Ty) → out-Ty (variant.Or s u) ≡ ty.Or s u
shows_or s u = search (rules, the_lemmas)

abbrev IsNoOr : Ty-F Ty → Type 0
IsNoOr x = (s u : Ty) → x ≡ ty.Or s u → ⊥

no_part : (side : Side) (x : Ty-F Ty) → IsNoOr x → part_at side x ≡ None
no_part Left (ty.Or s u) other = absurd (other s u refl)
no_part Right (ty.Or s u) other = absurd (other s u refl)
no_part Left x other = refl
no_part Right x other = refl

module _ (t : Ty) (other : IsNoOr (out-Ty t)) where
  no_way : (side : Side) (path : Path) (name : List ℕ) → stands_in t (side ∷ path, name) ≡ true → ⊥
  no_way side path name h =
      let gone : stands_in t (side ∷ path, name) ≡ false = ap (λ (o : Option Ty). is_some (option_and_then (type_at path) o)) (no_part side (out-Ty t) other) in
      true≢false (sym h ∙ gone)

  -- all names stand right there
  shallow : (names : List NamedEntry) → list_all (stands_in t) names ≡ true → deepest names ≤ 1
  shallow [] h = omega arith
  shallow (([], name) ∷ names) h = omega (arith, shallow names h)
  shallow ((side ∷ path, name) ∷ names) h = absurd (no_way side path name (and_parts (stands_in t (side ∷ path, name)) (list_all (stands_in t) names) h).0)

  word_alone : (names : List NamedEntry) → list_all (stands_in t) names ≡ true → argument_depth (0, not (is_empty (notes_here names) && true)) ≡ deepest names
  word_alone [] h = refl
  word_alone (([], name) ∷ names) h = omega (arith, shallow names h)
  word_alone ((side ∷ path, name) ∷ names) h = absurd (no_way side path name (and_parts (stands_in t (side ∷ path, name)) (list_all (stands_in t) names) h).0)

  other_deep : (ts : List Ty) (k : ℕ) → argument_depth (greatest (map type_brackets ts), not (is_empty (map type_brackets ts))) ≡ k →
      (names : List NamedEntry) → list_all (stands_in t) names ≡ true → argument_depth (depth_with (notes_here names) ts) ≡ max k (deepest names)
  other_deep [] k is names h = word_alone names h ∙ omega (arith, is)
  other_deep (u ∷ ts) k is names h = argued (notes_here names) (greatest (map type_brackets (u ∷ ts))) ∙ omega (arith, is, shallow names h)

  other_fits : IsFitParameter t
  other_fits names lawful stands =
      let s = annotated_sound (notes_here names) t (annotated_names names lawful) in
      let node : parameter_node t names ≡ annotated (notes_here names) t = part_other t names (λ u v is. other u v (ap out-Ty is ∙ shows_or u v)) in
      subst (λ (n : Node). Fit argument_depth n (max (type_brackets t) (deepest names))) (sym node)
      (record { lawful = s.lawful; named = s.named; deep = ap argument_depth s.nested ∙ other_deep (parts_of (out-Ty t)) (type_brackets t) (type_argued t) names stands })

-- ---- any type

or_node : (t s u : Ty) → out-Ty t ≡ ty.Or s u → (names : List NamedEntry) →
    parameter_node t names ≡ noted (names_here names) (codes "or", parameter_node s (names_below Left names) ∷ parameter_node u (names_below Right names) ∷ [])
or_node t s u is names =
    ap (λ (p : PartNode). p.1 names) (part_of-level t) ∙ ap (λ (x : Ty-F Ty). noted (names_here names) (part_nodes (map-Ty Ty PartNode part_of x) names)) is

by_level : (t : Ty) (x : Ty-F Ty) → out-Ty t ≡ x → Each IsFitParameter (parts_of x) → IsFitParameter t
by_level t (ty.Or s u) is h = λ names lawful stands.
    subst (λ (n : Node). Fit argument_depth n (max (type_brackets t) (deepest names))) (sym (or_node t s u is names)) (or_fits t s u is h.0 h.1.0 names lawful stands)
by_level t x is h = other_fits t (λ s u e. cc)

-- the node of a parameter as an argument
pub parameter_fits : (t : Ty) → IsFitParameter t
parameter_fits = induction IsFitParameter (λ t h. by_level t (out-Ty t) refl h)
