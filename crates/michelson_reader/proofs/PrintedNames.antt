-- The names of a printed parameter are read again, where they stand at nodes of it and in order.
use Rattle.std.proofs.Common.{◌≡◌, ℕ, Bool, true, false, List, [], ◌∷◌, ◌++◌, map, Option, None, Some, refl, ap, sym, subst, ◌∙◌}
use Rattle.std.specs.Prelude.{codes, is_some, IsTrue}
use Rattle.std.specs.List.{AllByRecursion, list_all}
use Rattle.std.specs.Option.{option_and_then}
use Rattle.std.proofs.lemmas.Bool.{and_from, and_parts}
use Rattle.value_core.specs.declared.ty.Ty.{Ty}
use Rattle.value_core.specs.declared.ty.Ty.TheOpen as ty
use Rattle.value_core.specs.declared.ty.Ty.TheOpen.{Ty-F}
use Rattle.value_core.specs.declared.ty.Ty.TheViews.{out-Ty}
use Rattle.value_core.specs.declared.ty.Ty.TheFolds.{fold-Ty, fold_out-Ty, map-Ty}
use Rattle.value_core.specs.Leaves.{is_name}
use Rattle.micheline_text.specs.declared.node.Node.{Node}
use Rattle.micheline_text.specs.declared.node.Body.{Body}
use Rattle.micheline_text.specs.declared.node.Body.TheOpen.{Body-F}
use Rattle.michelson_code.specs.declared.script.Side.{Side}
use Rattle.michelson_code.specs.declared.script.Side.TheVariants.{Left, Right}
use Rattle.data_nodes.proofs.NodeLevels.{shows_prim}
use Rattle.michelson_code.specs.Entries.{NamedEntry, Path, are_in_order, part_at, type_at}
use Rattle.michelson_code.specs.Lawful.{is_lawful_entry}
use Rattle.michelson_code.specs.Printable.{are_entries_of, stands_in}
use Rattle.michelson_reader.specs.Entries.{entries_below, entries_level, entries_of, entry_in, from, in_order, names_in, only_name, own}
use Rattle.michelson_reader.specs.Printed.{PartNode, names_below, names_here, noted, parameter_node, part_nodes}
use Rattle.michelson_reader.specs.Types.{word_and_parts}
use Rattle.michelson_reader.proofs.TypeLevels.{Each, induction, parts_of}
use Rattle.michelson_reader.proofs.PrintedTypes.{part_of, part_of-level}
use Rattle.michelson_reader.proofs.ParameterLevels.{entries-level, parts_entries}

-- ---- ways through `or` alone

-- one level of a type, whose parts say which ways lead to a node of theirs through `or` alone
abbrev reached_level : Ty-F (Path → Bool) → Path → Bool
reached_level (ty.Or s t) (Left ∷ path) = s path
reached_level (ty.Or s t) (Right ∷ path) = t path
reached_level x [] = true
reached_level x path = false

abbrev is_reached : Ty → Path → Bool
is_reached = fold-Ty (Path → Bool) reached_level

reached_here : (x : Ty-F (Path → Bool)) → reached_level x [] ≡ true
reached_here (ty.Or s t) = refl
reached_here _ = refl

reached_part : (side : Side) (path : Path) (x : Ty-F Ty) → ((t : Ty) → is_reached t path ≡ is_some (type_at path t)) →
    reached_level (map-Ty Ty (Path → Bool) is_reached x) (side ∷ path) ≡ is_some (option_and_then (type_at path) (part_at side x))
reached_part Left path (ty.Or s t) below = below s
reached_part Right path (ty.Or s t) below = below t
reached_part Left path x below = refl
reached_part Right path x below = refl

-- they lead to a node
reached-is : (path : Path) (t : Ty) → is_reached t path ≡ is_some (type_at path t)
reached-is [] t = ap (λ (f : Path → Bool). f []) (fold_out-Ty (Path → Bool) reached_level t) ∙ reached_here (map-Ty Ty (Path → Bool) is_reached (out-Ty t))
reached-is (side ∷ path) t =
    ap (λ (f : Path → Bool). f (side ∷ path)) (fold_out-Ty (Path → Bool) reached_level t) ∙ reached_part side path (out-Ty t) (reached-is path)

-- ---- names in order are the one here, those below left and those below right

record Shape (names : List NamedEntry) : Type 0 where
  pub here : Option (List ℕ)
  pub left : List NamedEntry
  pub right : List NamedEntry
  pub is : names ≡ in_order here left right
  pub left_order : are_in_order left ≡ true
  pub right_order : are_in_order right ≡ true

tail_order : (e : NamedEntry) (names : List NamedEntry) → are_in_order (e ∷ names) ≡ true → are_in_order names ≡ true
tail_order e [] h = refl
tail_order e (f ∷ names) h = (and_parts _ _ h).1

-- one more name before the others
one_more : (p : Path) (name : List ℕ) (here : Option (List ℕ)) (left right : List NamedEntry) → are_in_order ((p, name) ∷ in_order here left right) ≡ true →
    are_in_order left ≡ true → are_in_order right ≡ true → Shape ((p, name) ∷ in_order here left right)
one_more [] name None left right h l r = record { here = Some name; left = left; right = right; is = refl; left_order = l; right_order = r }
one_more [] name (Some other) left right h l r = absurd cc
one_more (side ∷ p) name (Some other) left right h l r = absurd cc
one_more (Left ∷ p) name None [] right h l r = record { here = None; left = (p, name) ∷ []; right = right; is = refl; left_order = refl; right_order = r }
one_more (Left ∷ p) name None (e ∷ left) right h l r = record { here = None; left = (p, name) ∷ e ∷ left; right = right; is = refl; left_order = and_from _ _ (and_parts _ _ h).0 l; right_order = r }
one_more (Right ∷ p) name None (e ∷ left) right h l r = absurd cc
one_more (Right ∷ p) name None [] [] h l r = record { here = None; left = []; right = (p, name) ∷ []; is = refl; left_order = refl; right_order = refl }
one_more (Right ∷ p) name None [] (e ∷ right) h l r = record { here = None; left = []; right = (p, name) ∷ e ∷ right; is = refl; left_order = refl; right_order = and_from _ _ (and_parts _ _ h).0 r }

shape : (names : List NamedEntry) → are_in_order names ≡ true → Shape names
shape [] h = record { here = None; left = []; right = []; is = refl; left_order = refl; right_order = refl }
shape (e ∷ names) h =
    let s = shape names (tail_order e names h) in
    subst (λ (x : List NamedEntry). Shape (e ∷ x)) (sym s.is)
    (one_more e.0 e.1 s.here s.left s.right (subst (λ (x : List NamedEntry). are_in_order (e ∷ x) ≡ true) s.is h) s.left_order s.right_order)

-- ---- the parts of such names

abbrev here_of : Option (List ℕ) → List (List ℕ)
here_of None = []
here_of (Some name) = name ∷ []

here_right : (right : List NamedEntry) → names_here (from Right right) ≡ []
here_right [] = refl
here_right (e ∷ right) = here_right right

here_left : (left right : List NamedEntry) → names_here (from Left left ++ from Right right) ≡ []
here_left [] right = here_right right
here_left (e ∷ left) right = here_left left right

here_is : (here : Option (List ℕ)) (left right : List NamedEntry) → names_here (in_order here left right) ≡ here_of here
here_is None left right = here_left left right
here_is (Some name) left right = ap (λ (x : List (List ℕ)). name ∷ x) (here_left left right)

left_right : (right : List NamedEntry) → names_below Left (from Right right) ≡ []
left_right [] = refl
left_right (e ∷ right) = left_right right

left_left : (left right : List NamedEntry) → names_below Left (from Left left ++ from Right right) ≡ left
left_left [] right = left_right right
left_left (e ∷ left) right = ap (λ (x : List NamedEntry). e ∷ x) (left_left left right)

left_is : (here : Option (List ℕ)) (left right : List NamedEntry) → names_below Left (in_order here left right) ≡ left
left_is None left right = left_left left right
left_is (Some name) left right = left_left left right

right_right : (right : List NamedEntry) → names_below Right (from Right right) ≡ right
right_right [] = refl
right_right (e ∷ right) = ap (λ (x : List NamedEntry). e ∷ x) (right_right right)

right_left : (left right : List NamedEntry) → names_below Right (from Left left ++ from Right right) ≡ right
right_left [] right = right_right right
right_left (e ∷ left) right = right_left left right

right_is : (here : Option (List ℕ)) (left right : List NamedEntry) → names_below Right (in_order here left right) ≡ right
right_is None left right = right_left left right
right_is (Some name) left right = right_left left right

-- ---- conditions on each name

module _ (P : NamedEntry → Type 0) where
  all_right : (right : List NamedEntry) → AllByRecursion P (from Right right) → AllByRecursion (λ e. P (Right ∷ e.0, e.1)) right
  all_right [] h = tt
  all_right (e ∷ right) h = (h.0, all_right right h.1)

  all_left : (left right : List NamedEntry) → AllByRecursion P (from Left left ++ from Right right) →
      AllByRecursion (λ e. P (Left ∷ e.0, e.1)) left × AllByRecursion (λ e. P (Right ∷ e.0, e.1)) right
  all_left [] right h = (tt, all_right right h)
  all_left (e ∷ left) right h = let more = all_left left right h.1 in ((h.0, more.0), more.1)

  abbrev AtHere : Option (List ℕ) → Type 0
  AtHere None = Unit {0}
  AtHere (Some name) = P ([], name)

  all_parts : (here : Option (List ℕ)) (left right : List NamedEntry) → AllByRecursion P (in_order here left right) →
      AtHere here × (AllByRecursion (λ e. P (Left ∷ e.0, e.1)) left × AllByRecursion (λ e. P (Right ∷ e.0, e.1)) right)
  all_parts None left right h = (tt, all_left left right h)
  all_parts (Some name) left right h = (h.0, all_left left right h.1)

-- ---- the name at a node

names_in_notes : (names : List (List ℕ)) → names_in (map (λ name. 37 ∷ name) names) ≡ names
names_in_notes [] = refl
names_in_notes (name ∷ names) = ap (λ (x : List (List ℕ)). name ∷ x) (names_in_notes names)

abbrev IsGood : Ty-F (Path → Bool) → NamedEntry → Type 0
IsGood x e = IsTrue (is_name e.1) × IsTrue (reached_level x e.0)

only_here : (x : Ty-F (Path → Bool)) (here : Option (List ℕ)) → AtHere (IsGood x) here → only_name (here_of here) ≡ Some here
only_here x None h = refl
only_here x (Some name) h = let fit = h.0 in rw fit refl

entry_here : (x : Ty-F (Path → Bool)) (here : Option (List ℕ)) (left right : List NamedEntry) → AtHere (IsGood x) here →
    entry_in (map (λ name. 37 ∷ name) (names_here (in_order here left right))) ≡ Some here
entry_here x here left right h = ap only_name (names_in_notes (names_here (in_order here left right)) ∙ here_is here left right) ∙ only_here x here h

-- ---- one level of a parameter

entries_noted : (names : List (List ℕ)) (name : List ℕ) (args : List Node) → entries_of (noted names (name, args)) ≡ option_and_then (entries_below name (map entries_of args)) (entry_in (map (λ note. 37 ∷ note) names))
entries_noted names name args =
    entries-level (noted names (name, args)) ∙ ap (λ (x : Body-F Body Node). entries_level (parts_entries x)) (shows_prim name (map (λ note. 37 ∷ note) names) args)

-- no name stands below a node that isn't reached
none_below : (x : Ty-F (Path → Bool)) (side : Side) (es : List NamedEntry) → ((p : Path) → reached_level x (side ∷ p) ≡ false) → AllByRecursion (λ e. IsGood x (side ∷ e.0, e.1)) es → es ≡ []
none_below x side [] unreached h = refl
none_below x side (e ∷ es) unreached h = absurd (let no = unreached e.0 in let yes = h.0.1 in cc)

own_alone : (here : Option (List ℕ)) → own here ≡ in_order here [] []
own_alone None = refl
own_alone (Some name) = refl

-- a node that isn't an `or`
module _ (name : List ℕ) (args : List Node) (x : Ty-F (Path → Bool)) where
  leaf_found : ((p : Path) → reached_level x (Left ∷ p) ≡ false) → ((p : Path) → reached_level x (Right ∷ p) ≡ false) →
      ((e : Option (List ℕ)) → entries_below name (map entries_of args) e ≡ Some (own e)) →
      (here : Option (List ℕ)) (left right : List NamedEntry) → AllByRecursion (IsGood x) (in_order here left right) →
      entries_of (noted (names_here (in_order here left right)) (name, args)) ≡ Some (in_order here left right)
  leaf_found no_left no_right below here left right good =
      let parts = all_parts (IsGood x) here left right good in
      let left_none : left ≡ [] = none_below x Left left no_left parts.1.0 in
      let right_none : right ≡ [] = none_below x Right right no_right parts.1.1 in
      entries_noted (names_here (in_order here left right)) name args
      ∙ ap (option_and_then (entries_below name (map entries_of args))) (entry_here x here left right parts.0)
      ∙ below here ∙ ap Some (own_alone here) ∙ (λ i. Some (in_order here (sym left_none i) (sym right_none i)))

abbrev reaching : Ty-F Ty → Ty-F (Path → Bool)
reaching = map-Ty Ty (Path → Bool) is_reached

abbrev FoundAgain : Ty → Type 0
FoundAgain t = (names : List NamedEntry) → AllByRecursion (λ e. IsTrue (is_name e.1) × IsTrue (is_reached t e.0)) names → are_in_order names ≡ true →
    entries_of (parameter_node t names) ≡ Some names

abbrev LevelFound : Ty-F Ty → Type 0
LevelFound x = (here : Option (List ℕ)) (left right : List NamedEntry) → AllByRecursion (IsGood (reaching x)) (in_order here left right) → are_in_order left ≡ true → are_in_order right ≡ true →
    entries_of (noted (names_here (in_order here left right)) (part_nodes (map-Ty Ty PartNode part_of x) (in_order here left right))) ≡ Some (in_order here left right)

or_found : (s t : Ty) → FoundAgain s → FoundAgain t → LevelFound (ty.Or s t)
or_found s t first second here left right good left_order right_order =
    let names : List NamedEntry = in_order here left right in
    let parts = all_parts (IsGood (reaching (ty.Or s t))) here left right good in
    let on_left : entries_of (parameter_node s (names_below Left names)) ≡ Some left =
    ap (λ (es : List NamedEntry). entries_of (parameter_node s es)) (left_is here left right) ∙ first left parts.1.0 left_order in
    let on_right : entries_of (parameter_node t (names_below Right names)) ≡ Some right =
    ap (λ (es : List NamedEntry). entries_of (parameter_node t es)) (right_is here left right) ∙ second right parts.1.1 right_order in
    entries_noted (names_here names) (codes "or") (parameter_node s (names_below Left names) ∷ parameter_node t (names_below Right names) ∷ [])
    ∙ (λ i. option_and_then (entries_below (codes "or") (on_left i ∷ on_right i ∷ [])) (entry_here (reaching (ty.Or s t)) here left right parts.0 i))

level_found : (x : Ty-F Ty) → Each FoundAgain (parts_of x) → LevelFound x
level_found (ty.Or s t) h = or_found s t h.0 h.1.0
level_found x h = λ here left right good left_order right_order.
    let written = word_and_parts (map-Ty PartNode Node (λ p. p.0) (map-Ty Ty PartNode part_of x)) in
    leaf_found written.0 written.1 (reaching x) (λ p. refl) (λ p. refl) (λ e. refl) here left right good

found_step : (t : Ty) → Each FoundAgain (parts_of (out-Ty t)) → FoundAgain t
found_step t h names good order =
    let x = out-Ty t in
    let s = shape names order in
    let reached : is_reached t ≡ reached_level (reaching x) = fold_out-Ty (Path → Bool) reached_level t in
    let fit : AllByRecursion (IsGood (reaching x)) names = subst (λ (test : Path → Bool). AllByRecursion (λ e. IsTrue (is_name e.1) × IsTrue (test e.0)) names) reached good in
    ap (λ (p : PartNode). entries_of (p.1 names)) (part_of-level t)
    ∙ subst (λ (es : List NamedEntry). entries_of (noted (names_here es) (part_nodes (map-Ty Ty PartNode part_of x) es)) ≡ Some es) (sym s.is)
    (level_found x h s.here s.left s.right (subst (AllByRecursion (IsGood (reaching x))) s.is fit) s.left_order s.right_order)

reached_names : (t : Ty) → FoundAgain t
reached_names = induction FoundAgain found_step

each_good : (t : Ty) (names : List NamedEntry) → list_all is_lawful_entry names ≡ true → list_all (stands_in t) names ≡ true → AllByRecursion (λ e. IsTrue (is_name e.1) × IsTrue (is_reached t e.0)) names
each_good t [] lawful stands = tt
each_good t (e ∷ names) lawful stands =
    let name = and_parts _ _ lawful in
    let place = and_parts _ _ stands in
    ((name.0, reached-is e.0 t ∙ place.0), each_good t names name.1 place.1)

-- names that stand at nodes of the parameter, in order, are those of the node that is printed for it
pub names_are_found : (t : Ty) (names : List NamedEntry) → list_all is_lawful_entry names ≡ true → are_entries_of t names ≡ true → entries_of (parameter_node t names) ≡ Some names
names_are_found t names lawful entries =
    let both = and_parts _ _ entries in
    reached_names t names (each_good t names lawful both.0) both.1
