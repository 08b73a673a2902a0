-- Types and names of entries don't turn on the places of nodes.
use Rattle.std.proofs.Common.{◌≡◌, ℕ, List, [], ◌∷◌, map, Option, refl, ap, sym, ◌∙◌}
use Rattle.std.specs.Prelude.{◌&&◌, codes}
use Rattle.std.specs.Option.{option_and_then}
use Rattle.std.specs.Str.{bytes_eq}
use Rattle.value_core.specs.declared.ty.Ty.{Ty}
use Rattle.value_core.specs.declared.ty.Ty.TheOpen as ty
use Rattle.value_core.specs.declared.ty.Ty.TheOpen.{Ty-F}
use Rattle.value_core.specs.declared.ty.Ty.TheViews.{out-Ty}
use Rattle.value_core.specs.declared.ty.Ty.TheFolds.{map-Ty}
use Rattle.micheline_text.specs.declared.node.Node.{Node}
use Rattle.micheline_text.specs.declared.node.Body.{Body}
use Rattle.micheline_text.specs.declared.node.Body.TheVariants as variant
use Rattle.micheline_text.specs.declared.node.Body.TheVariants.{rolls-Prim}
use Rattle.micheline_text.specs.declared.node.Body.TheOpen as body
use Rattle.micheline_text.specs.declared.node.Body.TheOpen.{Body-F}
use Rattle.micheline_text.specs.declared.node.Body.TheViews.{out-Body, roll-Body}
use Rattle.micheline_text.specs.Again.{unplaced}
use Rattle.data_nodes.specs.Nodes.{Test, applied}
use Rattle.data_nodes.proofs.Unplaced.{IgnoresPlaces, are_items-unplaced, bare, is_applied-unplaced, level-unplaced}
use Rattle.data_nodes.proofs.NodeLevels.{shows_prim}
use Rattle.michelson_reader.specs.Types.{is_pair, is_pair_body, is_type, type_level, word_and_parts}
use Rattle.michelson_code.specs.Entries.{NamedEntry}
use Rattle.michelson_reader.specs.Entries.{entries_below, entries_level, entries_of, entry_in}
use Rattle.michelson_reader.proofs.NodeInduction as nodes
use Rattle.michelson_reader.proofs.ParameterLevels.{entries-level, parts_entries}
use Rattle.michelson_reader.proofs.TypeLevels.{Each, induction, is_type-level, parts_of}

-- ---- types

module _ (first rest : Test) (first_ignores : IgnoresPlaces first) (rest_ignores : IgnoresPlaces rest) where
  pair_level : (x : Body-F Body Node) → is_pair_body first rest (bare x) ≡ is_pair_body first rest x
  pair_level (body.Prim name notes args) = ap (λ b. bytes_eq name (codes "pair") && b) (are_items-unplaced (codes "pair") first rest first_ignores rest_ignores args)
  pair_level _ = refl

  is_pair-unplaced : IgnoresPlaces (is_pair first rest)
  is_pair-unplaced n = ap (is_pair_body first rest) (level-unplaced n) ∙ pair_level (out-Body n.body)

abbrev Ignored : Ty → Type 0
Ignored t = IgnoresPlaces (is_type t)

level_ignored : (x : Ty-F Ty) → Each Ignored (parts_of x) → IgnoresPlaces (type_level (map-Ty Ty Test is_type x))
level_ignored (ty.Pair s t) h = is_pair-unplaced (is_type s) (is_type t) h.0 h.1.0
level_ignored x h = is_applied-unplaced (word_and_parts (map-Ty Ty Test is_type x)).0 (word_and_parts (map-Ty Ty Test is_type x)).1 h

-- whether a node is written for a type doesn't turn on places
pub is_type-unplaced : (t : Ty) → IgnoresPlaces (is_type t)
is_type-unplaced = induction Ignored (λ t h n. is_type-level t (unplaced n) ∙ level_ignored (out-Ty t) h n ∙ sym (is_type-level t n))

-- ---- names of entries

abbrev SameNames : Node → Type 0
SameNames n = entries_of (unplaced n) ≡ entries_of n

all_same : (ns : List Node) → nodes.Each SameNames ns → map entries_of (map unplaced ns) ≡ map entries_of ns
all_same [] h = refl
all_same (n ∷ ns) h = λ i. h.0 i ∷ all_same ns h.1 i

level_same : (x : Body-F Body Node) → nodes.Each SameNames (nodes.parts_of x) → entries_level (parts_entries (bare x)) ≡ entries_level (parts_entries x)
level_same (body.Prim name notes args) h = ap (λ (below : List (Option (List NamedEntry))). option_and_then (entries_below name below) (entry_in notes)) (all_same args h)
level_same _ h = refl

-- the names of entries don't turn on places
pub entries_of-unplaced : (n : Node) → entries_of (unplaced n) ≡ entries_of n
entries_of-unplaced = nodes.induction SameNames (λ n h.
    entries-level (unplaced n) ∙ ap (λ (x : Body-F Body Node). entries_level (parts_entries x)) (level-unplaced n) ∙ level_same (out-Body n.body) h ∙ sym (entries-level n))

-- ---- a word with one argument

abbrev Section : List ℕ → Node → Body → Type 0
Section name x b = (notes : List (List ℕ)) × (y : Node) × (b ≡ variant.Prim name notes (y ∷ [])) × (unplaced y ≡ unplaced x)

one_argument : (name word : List ℕ) (notes : List (List ℕ)) (x : Node) (b : Body) (args : List Node) → b ≡ variant.Prim word notes args → word ≡ name → map unplaced args ≡ unplaced x ∷ [] → Section name x b
one_argument name word notes x b [] is same args_same = absurd cc
one_argument name word notes x b (y ∷ []) is same args_same = (notes, y, is ∙ ap (λ (w : List ℕ). variant.Prim w notes (y ∷ [])) same, cc)
one_argument name word notes x b (y ∷ z ∷ more) is same args_same = absurd cc

section_level : (name : List ℕ) (x : Node) (b : Body) (l : Body-F Body Node) → out-Body b ≡ l → bare l ≡ body.Prim name [] (unplaced x ∷ []) → Section name x b
section_level name x b (body.Prim word notes args) is same =
    let word_same : word ≡ name = cc in
    let args_same : map unplaced args ≡ unplaced x ∷ [] = cc in
    one_argument name word notes x b args (sym (nodes.roll-out b) ∙ ap roll-Body is ∙ rolls-Prim word notes args) word_same args_same
section_level name x b _ is same = absurd cc

-- what differs in its places alone from a word with one argument is one too
pub section_alike : (name : List ℕ) (x m : Node) → unplaced m ≡ unplaced (applied name (x ∷ [])) → Section name x m.body
section_alike name x m same =
    section_level name x m.body (out-Body m.body) refl
    (sym (level-unplaced m) ∙ ap (λ (n : Node). out-Body n.body) same ∙ level-unplaced (applied name (x ∷ [])) ∙ ap bare (shows_prim name [] (x ∷ [])))
