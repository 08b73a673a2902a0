-- A well named node with at most so many brackets fits into the grammar's places, and what fits is one.
use Rattle.std.proofs.Common.{◌≡◌, ℕ, ℤ, zero, suc, pos, negsuc, ◌≤ℤ◌, ◌+◌, ◌-◌, ◌^◌, ◌≤◌, ◌⊎◌, inl, inr, max, Bool, true, false, List, [], ◌∷◌, map, refl, sym, ap, subst, ◌∙◌, arith, rules}
use Rattle.std.specs.Prelude.{◌&&◌, not, int_le, nat_lt}
use Rattle.std.specs.List.{AllByRecursion, list_all}
use Rattle.std.proofs.lemmas.Bool.{and_parts}
use Rattle.std.proofs.lemmas.Int.{ints}
use Rattle.std.proofs.lemmas.List.Folds.{list_all-map}
use Rattle.value_core.specs.Depth.{greatest}
use Rattle.value_core.specs.Leaves.{is_blob}
use Rattle.micheline_text.specs.declared.node.Node.{Node}
use Rattle.micheline_text.specs.declared.node.Body.{Body}
use Rattle.micheline_text.specs.declared.node.Body.TheVariants as variant
use Rattle.micheline_text.specs.declared.node.Body.TheVariants.{rolls-Int, rolls-Text, rolls-Bytes, rolls-Prim, rolls-Seq}
use Rattle.micheline_text.specs.declared.node.Body.TheOpen as one
use Rattle.micheline_text.specs.declared.node.Body.TheOpen.{Body-F}
use Rattle.micheline_text.specs.declared.node.Body.TheViews.{out-Body, roll-Body, the_lemmas}
use Rattle.micheline_text.specs.declared.node.Body.TheFolds.{fold-Body}
use Rattle.micheline_text.specs.Kinds.{is_letter, is_word_byte, begins_note, is_note_byte}
use Rattle.micheline_text.specs.Layout.{AllAre}
use Rattle.micheline_text.specs.Grammar.{Brace, Paren}
use Rattle.micheline_text.specs.Printed.{Print, is_empty}
use Rattle.micheline_text.specs.Lawful.{is_lawful, is_lawful_body}
use Rattle.micheline_text.specs.Again.{is_word, is_annotation, named_level, is_well_named, Depth, argument_depth, brackets_level, depth_of_body, depth_of_node, brackets}
use Rattle.micheline_text.specs.Fits.{IsName, IsNote, IsFitLiteral, IsFitApplication, IsFitArgument, IsFitNode, IsInside, IsPrintable}
use Rattle.micheline_text.proofs.NodeLevels.{at_node, at_int, at_text, at_bytes, at_prim, at_seq}
use Rattle.micheline_text.proofs.PrintLemmas.{print_prim, is_lawful-node, is_lawful-int, is_lawful-text, is_lawful-bytes, is_lawful-prim, is_lawful-seq}

-- ---- tests of each element

pub all_are : (test : ℕ → Bool) (xs : List ℕ) → list_all test xs ≡ true → AllAre test xs
all_are test [] h = tt
all_are test (x ∷ xs) h = let both = and_parts (test x) (list_all test xs) h in (both.0, all_are test xs both.1)

all_pass : (test : ℕ → Bool) (xs : List ℕ) → AllAre test xs → list_all test xs ≡ true
all_pass test [] h = refl
all_pass test (x ∷ xs) h = rw h.0 (all_pass test xs h.1)

name_is : (name : List ℕ) → is_word name ≡ true → IsName name
name_is [] h = absurd cc
name_is (b ∷ more) h = let both = and_parts (is_letter b) (list_all is_word_byte more) h in (both.0, all_are is_word_byte more both.1)

is_name : (name : List ℕ) → IsName name → is_word name ≡ true
is_name [] h = absurd h
is_name (b ∷ more) h = rw h.0 (all_pass is_word_byte more h.1)

note_is : (note : List ℕ) → is_annotation note ≡ true → IsNote note
note_is [] h = absurd cc
note_is (b ∷ more) h = let both = and_parts (begins_note b) (list_all is_note_byte more) h in (both.0, all_are is_note_byte more both.1)

is_note : (note : List ℕ) → IsNote note → is_annotation note ≡ true
is_note [] h = absurd h
is_note (b ∷ more) h = rw h.0 (all_pass is_note_byte more h.1)

notes_are : (notes : List (List ℕ)) → list_all is_annotation notes ≡ true → AllByRecursion IsNote notes
notes_are [] h = tt
notes_are (note ∷ notes) h = let both = and_parts (is_annotation note) (list_all is_annotation notes) h in (note_is note both.0, notes_are notes both.1)

are_notes : (notes : List (List ℕ)) → AllByRecursion IsNote notes → list_all is_annotation notes ≡ true
are_notes [] h = refl
are_notes (note ∷ notes) h = rw (is_note note h.0) (are_notes notes h.1)

-- ---- names and depths at each kind of node

abbrev pub is_named_body : Body → Bool
is_named_body = fold-Body Bool Bool named_level (λ n. n.body)

named_prim : (name : List ℕ) (notes : List (List ℕ)) (args : List Node) → is_named_body (variant.Prim name notes args) ≡ (is_word name && (list_all is_annotation notes && list_all is_well_named args))
named_prim name notes args = at_prim Bool named_level name notes args ∙ ap (λ (v : Bool). is_word name && (list_all is_annotation notes && v)) (list_all-map (λ (v : Bool). v) is_well_named args)

named_seq : (ns : List Node) → is_named_body (variant.Seq ns) ≡ list_all is_well_named ns
named_seq ns = at_seq Bool named_level ns ∙ list_all-map (λ (v : Bool). v) is_well_named ns

named_node : (n : Node) → is_well_named n ≡ is_named_body n.body
named_node n = at_node Bool named_level n

-- the deepest argument, and the deepest item
abbrev pub deepest_argument : List Node → ℕ
deepest_argument ns = greatest (map argument_depth (map depth_of_node ns))

abbrev pub deepest_item : List Node → ℕ
deepest_item ns = greatest (map (λ (d : Depth). d.0) (map depth_of_node ns))

is_empty-map : (ns : List Node) → is_empty (map depth_of_node ns) ≡ is_empty ns
is_empty-map [] = refl
is_empty-map (n ∷ ns) = refl

pub depth_prim : (name : List ℕ) (notes : List (List ℕ)) (args : List Node) → depth_of_body (variant.Prim name notes args) ≡ (deepest_argument args, not (is_empty notes && is_empty args))
depth_prim name notes args = at_prim Depth brackets_level name notes args ∙ ap (λ (v : Bool). (deepest_argument args, not (is_empty notes && v))) (is_empty-map args)

pub depth_seq : (ns : List Node) → depth_of_body (variant.Seq ns) ≡ (1 + deepest_item ns, false)
depth_seq ns = at_seq Depth brackets_level ns

pub depth_node : (n : Node) → depth_of_node n ≡ depth_of_body n.body
depth_node n = at_node Depth brackets_level n

-- ---- which kind a body is

abbrev pub IsSound : Body → Type 0
IsSound b = (is_lawful_body b ≡ true) × (is_named_body b ≡ true)

abbrev AreSound : List Node → Type 0
AreSound ns = (list_all is_lawful ns ≡ true) × (list_all is_well_named ns ≡ true)

first_sound : (n : Node) (ns : List Node) → AreSound (n ∷ ns) → IsSound n.body × AreSound ns
first_sound n ns h =
    let lawful = and_parts (is_lawful n) (list_all is_lawful ns) h.0 in
    let named = and_parts (is_well_named n) (list_all is_well_named ns) h.1 in
    ((sym (is_lawful-node n) ∙ lawful.0, sym (named_node n) ∙ named.0), (lawful.1, named.1))

-- a literal, a sequence, or a word with what follows it
abbrev pub Kind : Body → Type 0
Kind b = IsFitLiteral b ⊎ (((ns : List Node) × (b ≡ variant.Seq ns) × AreSound ns)
    ⊎ ((name : List ℕ) × (notes : List (List ℕ)) × (args : List Node) × (b ≡ variant.Prim name notes args) × IsName name × AllByRecursion IsNote notes × AreSound args))

above_is : (a z : ℤ) → int_le a z ≡ true → a ≤ℤ z
above_is a z h = grind (arith, ints)

roll-out : (b : Body) → roll-Body (out-Body b) ≡ b
roll-out b = search (rules, the_lemmas)

kind_at : (x : Body-F Body Node) → IsSound (roll-Body x) → Kind (roll-Body x)
kind_at (one.Int z) h =
    let both = and_parts (int_le (negsuc (2 ^ 127 - 2)) z) (int_le z (pos (2 ^ 127 - 1))) (sym (is_lawful-int z) ∙ ap is_lawful_body (sym (rolls-Int z)) ∙ h.0) in
    inl (inl (z, rolls-Int z, (above_is (negsuc (2 ^ 127 - 2)) z both.0, above_is z (pos (2 ^ 127 - 1)) both.1)))
kind_at (one.Text t) h = inl (inr (inl (t, rolls-Text t, sym (is_lawful-text t) ∙ ap is_lawful_body (sym (rolls-Text t)) ∙ h.0)))
kind_at (one.Bytes t) h =
    let both = and_parts (is_blob t) (list_all (λ b. nat_lt b 256) t) (sym (is_lawful-bytes t) ∙ ap is_lawful_body (sym (rolls-Bytes t)) ∙ h.0) in
    inl (inr (inr (t, rolls-Bytes t, both.0, all_are (λ b. nat_lt b 256) t both.1)))
kind_at (one.Prim name notes args) h =
    let is = rolls-Prim name notes args in
    let lawful : list_all is_lawful args ≡ true = sym (is_lawful-prim name notes args) ∙ ap is_lawful_body (sym is) ∙ h.0 in
    let named = and_parts (is_word name) (list_all is_annotation notes && list_all is_well_named args) (sym (named_prim name notes args) ∙ ap is_named_body (sym is) ∙ h.1) in
    let behind = and_parts (list_all is_annotation notes) (list_all is_well_named args) named.1 in
    inr (inr (name, notes, args, is, name_is name named.0, notes_are notes behind.0, (lawful, behind.1)))
kind_at (one.Seq ns) h =
    let is = rolls-Seq ns in
    inr (inl (ns, is, (sym (is_lawful-seq ns) ∙ ap is_lawful_body (sym is) ∙ h.0, sym (named_seq ns) ∙ ap is_named_body (sym is) ∙ h.1)))

kind_of : (b : Body) → IsSound b → Kind b
kind_of b h = subst Kind (roll-out b) (kind_at (out-Body b) (subst IsSound (sym (roll-out b)) h))

-- ---- what is sound fits

-- what so many brackets hold
record Held (d : ℕ) : Type 0 where
  pub braces : (ns : List Node) → AreSound ns → 1 + deepest_item ns ≤ d → IsInside d Brace (variant.Seq ns)
  pub parens : (name : List ℕ) (notes : List (List ℕ)) (args : List Node) → IsName name → AllByRecursion IsNote notes → AreSound args → not (is_empty notes && is_empty args) ≡ true →
      1 + deepest_argument args ≤ d → IsInside d Paren (variant.Prim name notes args)

module _ (d : ℕ) (held : Held d) where
  applied_fits : (name : List ℕ) (notes : List (List ℕ)) (args : List Node) (b : Body) → b ≡ variant.Prim name notes args → IsName name → AllByRecursion IsNote notes → AreSound args →
      argument_depth (deepest_argument args, not (is_empty notes && is_empty args)) ≤ d → IsFitArgument (IsInside d) b
  applied_fits name [] [] b is named fine sound deep = inr (inl (name, is, named))
  applied_fits name [] (n ∷ ns) b is named fine sound deep = inr (inr (inr (subst (IsInside d Paren) (sym is) (held.parens name [] (n ∷ ns) named fine sound refl deep))))
  applied_fits name (note ∷ notes) args b is named fine sound deep = inr (inr (inr (subst (IsInside d Paren) (sym is) (held.parens name (note ∷ notes) args named fine sound refl deep))))

  argument_fits : (b : Body) → Kind b → argument_depth (depth_of_body b) ≤ d → IsFitArgument (IsInside d) b
  argument_fits b (inl literal) deep = inl literal
  argument_fits b (inr (inl (ns, is, sound))) deep =
      let depth : argument_depth (depth_of_body b) ≡ 1 + deepest_item ns = ap argument_depth (ap depth_of_body is ∙ depth_seq ns) in
      inr (inr (inl (subst (IsInside d Brace) (sym is) (held.braces ns sound (subst (λ (k : ℕ). k ≤ d) depth deep)))))
  argument_fits b (inr (inr (name, notes, args, is, named, fine, sound))) deep =
      applied_fits name notes args b is named fine sound (subst (λ (x : Depth). argument_depth x ≤ d) (ap depth_of_body is ∙ depth_prim name notes args) deep)

  arguments_fit : (ns : List Node) → AreSound ns → deepest_argument ns ≤ d → AllByRecursion (λ n. IsFitArgument (IsInside d) n.body) ns
  arguments_fit [] sound deep = tt
  arguments_fit (n ∷ ns) sound deep =
      let s = first_sound n ns sound in
      let here : argument_depth (depth_of_body n.body) ≡ argument_depth (depth_of_node n) = ap argument_depth (sym (depth_node n)) in
      let whole : max (argument_depth (depth_of_node n)) (deepest_argument ns) ≤ d = deep in
      (argument_fits n.body (kind_of n.body s.0) (omega arith), arguments_fit ns s.1 (omega arith))

  node_fits : (b : Body) → Kind b → (depth_of_body b).0 ≤ d → IsFitNode (IsInside d) b
  node_fits b (inl literal) deep = inl literal
  node_fits b (inr (inl (ns, is, sound))) deep =
      let depth : (depth_of_body b).0 ≡ 1 + deepest_item ns = ap (λ (x : Depth). x.0) (ap depth_of_body is ∙ depth_seq ns) in
      inr (inl (subst (IsInside d Brace) (sym is) (held.braces ns sound (subst (λ (k : ℕ). k ≤ d) depth deep))))
  node_fits b (inr (inr (name, notes, args, is, named, fine, sound))) deep =
      let depth : (depth_of_body b).0 ≡ deepest_argument args = ap (λ (x : Depth). x.0) (ap depth_of_body is ∙ depth_prim name notes args) in
      inr (inr (name, notes, args, is, named, fine, arguments_fit args sound (subst (λ (k : ℕ). k ≤ d) depth deep)))

  nodes_fit : (ns : List Node) → AreSound ns → deepest_item ns ≤ d → AllByRecursion (λ n. IsFitNode (IsInside d) n.body) ns
  nodes_fit [] sound deep = tt
  nodes_fit (n ∷ ns) sound deep =
      let s = first_sound n ns sound in
      let here : (depth_of_body n.body).0 ≡ (depth_of_node n).0 = ap (λ (x : Depth). x.0) (sym (depth_node n)) in
      let whole : max (depth_of_node n).0 (deepest_item ns) ≤ d = deep in
      (node_fits n.body (kind_of n.body s.0) (omega arith), nodes_fit ns s.1 (omega arith))

held_at : (d : ℕ) → Held d
held_at zero = record { braces = λ ns sound deep. absurd (omega arith); parens = λ name notes args named fine sound shown deep. absurd (omega arith) }
held_at (suc d) = record {
  braces = λ ns sound deep. (ns, refl, nodes_fit d (held_at d) ns sound (omega arith));
  parens = λ name notes args named fine sound shown deep. (
    (name, notes, args, refl, named, fine, arguments_fit d (held_at d) args sound (omega arith)),
    ap (λ (x : Print). x.1) (print_prim name notes args) ∙ shown,
  );
}

-- a node fits into brackets as deep as its own
pub sound_fits : (d : ℕ) (n : Node) → is_lawful n ≡ true → is_well_named n ≡ true → brackets n ≤ d → IsFitNode (IsInside d) n.body
sound_fits d n lawful named deep =
    let sound : IsSound n.body = (sym (is_lawful-node n) ∙ lawful, sym (named_node n) ∙ named) in
    node_fits d (held_at d) n.body (kind_of n.body sound) (subst (λ (x : Depth). x.0 ≤ d) (depth_node n) deep)

pub sound_is_printable : (n : Node) → is_lawful n ≡ true → is_well_named n ≡ true → brackets n ≤ 256 → IsPrintable n
sound_is_printable n lawful named deep = (256, omega arith, sound_fits 256 n lawful named deep)

-- ---- what fits is well named, and as deep

abbrev pub IsNamedWithin : ℕ → ℕ → Body → Type 0
IsNamedWithin d depth b = (is_named_body b ≡ true) × (depth ≤ d)

literal_named : (b : Body) → IsFitLiteral b → (is_named_body b ≡ true) × (depth_of_body b ≡ (0, false))
literal_named b (inl (z, is, fits)) = (ap is_named_body is ∙ at_int Bool named_level z, ap depth_of_body is ∙ at_int Depth brackets_level z)
literal_named b (inr (inl (t, is, fits))) = (ap is_named_body is ∙ at_text Bool named_level t, ap depth_of_body is ∙ at_text Depth brackets_level t)
literal_named b (inr (inr (t, is, fits, small))) = (ap is_named_body is ∙ at_bytes Bool named_level t, ap depth_of_body is ∙ at_bytes Depth brackets_level t)

one_deeper : (x : Depth) → argument_depth x ≤ 1 + x.0
one_deeper x = at x.1
  where
    at : (v : Bool) → argument_depth (x.0, v) ≤ 1 + x.0
    at true = omega arith
    at false = omega arith

-- what so many brackets hold
record Told (d : ℕ) : Type 0 where
  pub braces : (b : Body) → IsInside d Brace b → IsNamedWithin d (depth_of_body b).0 b × (argument_depth (depth_of_body b) ≤ d)
  pub parens : (b : Body) → IsInside d Paren b → IsNamedWithin d (argument_depth (depth_of_body b)) b

module _ (d : ℕ) (told : Told d) where
  argument_named : (b : Body) → IsFitArgument (IsInside d) b → IsNamedWithin d (argument_depth (depth_of_body b)) b
  argument_named b (inl literal) =
      let h = literal_named b literal in
      (h.0, subst (λ (x : Depth). argument_depth x ≤ d) (sym h.1) (omega arith))
  argument_named b (inr (inl (name, is, named))) =
      let word : is_named_body b ≡ true = ap is_named_body is ∙ named_prim name [] [] ∙ rw (is_name name named) refl in
      let depth : depth_of_body b ≡ (0, false) = ap depth_of_body is ∙ depth_prim name [] [] in
      (word, subst (λ (x : Depth). argument_depth x ≤ d) (sym depth) (omega arith))
  argument_named b (inr (inr (inl inside))) = let h = told.braces b inside in (h.0.0, h.1)
  argument_named b (inr (inr (inr inside))) = told.parens b inside

  arguments_named : (ns : List Node) → AllByRecursion (λ n. IsFitArgument (IsInside d) n.body) ns → (list_all is_well_named ns ≡ true) × (deepest_argument ns ≤ d)
  arguments_named [] fit = (refl, omega arith)
  arguments_named (n ∷ ns) fit =
      let one = argument_named n.body fit.0 in
      let more = arguments_named ns fit.1 in
      let named : is_well_named n ≡ true = named_node n ∙ one.0 in
      let deep : argument_depth (depth_of_node n) ≤ d = subst (λ (x : Depth). argument_depth x ≤ d) (sym (depth_node n)) one.1 in
      let whole : max (argument_depth (depth_of_node n)) (deepest_argument ns) ≤ d = omega (arith, more.1) in
      (rw named more.0, whole)

  application_named : (b : Body) → IsFitApplication (IsFitArgument (IsInside d)) b → IsNamedWithin d (depth_of_body b).0 b
  application_named b (name, notes, args, is, named, fine, fit) =
      let more = arguments_named args fit in
      let depth : (depth_of_body b).0 ≡ deepest_argument args = ap (λ (x : Depth). x.0) (ap depth_of_body is ∙ depth_prim name notes args) in
      let whole : is_named_body b ≡ true = ap is_named_body is ∙ named_prim name notes args ∙ rw (is_name name named, are_notes notes fine) more.0 in
      (whole, subst (λ (k : ℕ). k ≤ d) (sym depth) more.1)

  node_named : (b : Body) → IsFitNode (IsInside d) b → IsNamedWithin d (depth_of_body b).0 b
  node_named b (inl literal) =
      let h = literal_named b literal in
      (h.0, subst (λ (x : Depth). x.0 ≤ d) (sym h.1) (omega arith))
  node_named b (inr (inl inside)) = (told.braces b inside).0
  node_named b (inr (inr application)) = application_named b application

  nodes_named : (ns : List Node) → AllByRecursion (λ n. IsFitNode (IsInside d) n.body) ns → (list_all is_well_named ns ≡ true) × (deepest_item ns ≤ d)
  nodes_named [] fit = (refl, omega arith)
  nodes_named (n ∷ ns) fit =
      let one = node_named n.body fit.0 in
      let more = nodes_named ns fit.1 in
      let named : is_well_named n ≡ true = named_node n ∙ one.0 in
      let deep : (depth_of_node n).0 ≤ d = subst (λ (x : Depth). x.0 ≤ d) (sym (depth_node n)) one.1 in
      let whole : max (depth_of_node n).0 (deepest_item ns) ≤ d = omega (arith, more.1) in
      (rw named more.0, whole)

told_at : (d : ℕ) → Told d
told_at zero = record { braces = λ b inside. absurd inside; parens = λ b inside. absurd inside }
told_at (suc d) = record {
  braces = λ b inside. braced inside.0 b inside.1 (nodes_named d (told_at d) inside.0 inside.2);
  parens = λ b inside. parted b (application_named d (told_at d) b inside.0);
}
  where
    braced : (ns : List Node) (b : Body) → b ≡ variant.Seq ns → (list_all is_well_named ns ≡ true) × (deepest_item ns ≤ d) → IsNamedWithin (suc d) (depth_of_body b).0 b × (argument_depth (depth_of_body b) ≤ suc d)
    braced ns b is h =
        let depth : depth_of_body b ≡ (1 + deepest_item ns, false) = ap depth_of_body is ∙ depth_seq ns in
        let deep : 1 + deepest_item ns ≤ suc d = omega (arith, h.1) in (
          (ap is_named_body is ∙ named_seq ns ∙ h.0, subst (λ (x : Depth). x.0 ≤ suc d) (sym depth) deep),
          subst (λ (x : Depth). argument_depth x ≤ suc d) (sym depth) deep,
        )

    parted : (b : Body) → IsNamedWithin d (depth_of_body b).0 b → IsNamedWithin (suc d) (argument_depth (depth_of_body b)) b
    parted b h = (h.0, omega (arith, one_deeper (depth_of_body b), h.1))

-- a printable node is well named, and at most so many brackets deep
pub printable_is_named : (n : Node) → IsPrintable n → (is_well_named n ≡ true) × (brackets n ≤ 256)
printable_is_named n (d, small, fit) =
    let h = node_named d (told_at d) n.body fit in
    let deep : brackets n ≤ d = subst (λ (x : Depth). x.0 ≤ d) (sym (depth_node n)) h.1 in
    (named_node n ∙ h.0, omega arith)
