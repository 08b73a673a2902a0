-- Tests that don't look at places answer of a node as of the node without them.
use Rattle.std.proofs.Common.{◌≡◌, ℕ, ℤ, List, [], ◌∷◌, map, refl, sym, ap, ◌∙◌, rules}
use Rattle.std.specs.Prelude.{◌&&◌}
use Rattle.std.specs.List.{AllByRecursion}
use Rattle.std.specs.Str.{bytes_eq}
use Rattle.micheline_text.specs.declared.node.Node.{Node}
use Rattle.micheline_text.specs.declared.node.Body.{Body}
use Rattle.micheline_text.specs.declared.node.Body.TheVariants as variant
use Rattle.micheline_text.specs.declared.node.Body.TheVariants.{rolls-Prim, rolls-Seq}
use Rattle.micheline_text.specs.declared.node.Body.TheOpen as one
use Rattle.micheline_text.specs.declared.node.Body.TheOpen.{Body-F, Node-F}
use Rattle.micheline_text.specs.declared.node.Body.TheViews.{out-Body, roll-Body, the_lemmas}
use Rattle.micheline_text.specs.declared.node.Body.TheFolds.{fold-roll-Node, fold-roll-Body, fold_out-Body, map-Body}
use Rattle.micheline_text.specs.Again.{unplaced, unplaced_body}
use Rattle.data_nodes.specs.Nodes.{Test, all_are, applied, are_items, is_applied, is_applied_body, is_bytes, is_bytes_body, is_numeral, is_numeral_body, is_sequence, is_sequence_body, is_string, is_text_body, node}

-- ---- nodes without places

-- one level with each part without places
abbrev pub bare : Body-F Body Node → Body-F Body Node
bare = map-Body Body Node Body Node unplaced_body unplaced

one_node : Node → Node-F Body Node
one_node n = record { at = n.at; body = n.body }

pub unplaced_is : (n : Node) → unplaced n ≡ node (unplaced_body n.body)
unfolding one_node
unplaced_is n = fold-roll-Node Body Node roll-Body (λ m. record { at = 0; body = m.body }) (one_node n)

rolled : (x : Body-F Body Node) → unplaced_body (roll-Body x) ≡ roll-Body (bare x)
rolled = fold-roll-Body Body Node roll-Body (λ n. record { at = 0; body = n.body })

out-roll : (x : Body-F Body Node) → out-Body (roll-Body x) ≡ x
out-roll x = search (rules, the_lemmas)

level_is : (b : Body) → out-Body (unplaced_body b) ≡ bare (out-Body b)
level_is b = ap out-Body (fold_out-Body Body Node roll-Body (λ n. record { at = 0; body = n.body }) b) ∙ out-roll (bare (out-Body b))

-- what stands at a node without places
pub level-unplaced : (n : Node) → out-Body (unplaced n).body ≡ bare (out-Body n.body)
level-unplaced n = ap (λ (m : Node). out-Body m.body) (unplaced_is n) ∙ level_is n.body

pub unplaced_applied : (name : List ℕ) (args : List Node) → unplaced (applied name args) ≡ applied name (map unplaced args)
unplaced_applied name args = unplaced_is (applied name args)
    ∙ ap node (ap unplaced_body (sym (rolls-Prim name [] args)) ∙ rolled (one.Prim name [] args) ∙ rolls-Prim name [] (map unplaced args))

pub unplaced_sequence : (ns : List Node) → unplaced (node (variant.Seq ns)) ≡ node (variant.Seq (map unplaced ns))
unplaced_sequence ns = unplaced_is (node (variant.Seq ns))
    ∙ ap node (ap unplaced_body (sym (rolls-Seq ns)) ∙ rolled (one.Seq ns) ∙ rolls-Seq (map unplaced ns))

-- ---- tests

-- the test doesn't look at places
abbrev pub IgnoresPlaces : Test → Type 0
IgnoresPlaces test = (n : Node) → test (unplaced n) ≡ test n

-- so it answers alike of nodes that differ in their places alone
pub same_answer : (test : Test) → IgnoresPlaces test → (m n : Node) → unplaced m ≡ unplaced n → test m ≡ test n
same_answer test ignores m n same = sym (ignores m) ∙ ap test same ∙ ignores n

number_level : (z : ℤ) (x : Body-F Body Node) → is_numeral_body z (bare x) ≡ is_numeral_body z x
number_level z (one.Int y) = refl
number_level z _ = refl

pub is_numeral-unplaced : (z : ℤ) → IgnoresPlaces (is_numeral z)
is_numeral-unplaced z n = ap (is_numeral_body z) (level-unplaced n) ∙ number_level z (out-Body n.body)

string_level : (s : List ℕ) (x : Body-F Body Node) → is_text_body s (bare x) ≡ is_text_body s x
string_level s (one.Text t) = refl
string_level s _ = refl

pub is_string-unplaced : (s : List ℕ) → IgnoresPlaces (is_string s)
is_string-unplaced s n = ap (is_text_body s) (level-unplaced n) ∙ string_level s (out-Body n.body)

bytes_level : (b : List ℕ) (x : Body-F Body Node) → is_bytes_body b (bare x) ≡ is_bytes_body b x
bytes_level b (one.Bytes t) = refl
bytes_level b _ = refl

pub is_bytes-unplaced : (b : List ℕ) → IgnoresPlaces (is_bytes b)
is_bytes-unplaced b n = ap (is_bytes_body b) (level-unplaced n) ∙ bytes_level b (out-Body n.body)

-- ---- tests of parts

pub all_are-unplaced : (tests : List Test) → AllByRecursion IgnoresPlaces tests → (ns : List Node) → all_are tests (map unplaced ns) ≡ all_are tests ns
all_are-unplaced [] ignore [] = refl
all_are-unplaced [] ignore (n ∷ ns) = refl
all_are-unplaced (test ∷ tests) ignore [] = refl
all_are-unplaced (test ∷ tests) ignore (n ∷ ns) = λ i. ignore.0 n i && all_are-unplaced tests ignore.1 ns i

applied_level : (word : List ℕ) (tests : List Test) → AllByRecursion IgnoresPlaces tests → (x : Body-F Body Node) → is_applied_body word tests (bare x) ≡ is_applied_body word tests x
applied_level word tests ignore (one.Prim name notes args) = ap (λ b. bytes_eq name word && b) (all_are-unplaced tests ignore args)
applied_level word tests ignore _ = refl

pub is_applied-unplaced : (word : List ℕ) (tests : List Test) → AllByRecursion IgnoresPlaces tests → IgnoresPlaces (is_applied word tests)
is_applied-unplaced word tests ignore n = ap (is_applied_body word tests) (level-unplaced n) ∙ applied_level word tests ignore (out-Body n.body)

sequence_level : (tests : List Test) → AllByRecursion IgnoresPlaces tests → (x : Body-F Body Node) → is_sequence_body tests (bare x) ≡ is_sequence_body tests x
sequence_level tests ignore (one.Seq ns) = all_are-unplaced tests ignore ns
sequence_level tests ignore _ = refl

pub is_sequence-unplaced : (tests : List Test) → AllByRecursion IgnoresPlaces tests → IgnoresPlaces (is_sequence tests)
is_sequence-unplaced tests ignore n = ap (is_sequence_body tests) (level-unplaced n) ∙ sequence_level tests ignore (out-Body n.body)

-- items of a pair, or of another word that is written as pairs are
module _ (word : List ℕ) (first rest : Test) (first_ignores : IgnoresPlaces first) (rest_ignores : IgnoresPlaces rest) where
  pub are_items-unplaced : (ns : List Node) → are_items word first rest (map unplaced ns) ≡ are_items word first rest ns
  are_items-unplaced [] = refl
  are_items-unplaced (x ∷ []) = refl
  are_items-unplaced (x ∷ y ∷ []) = λ i. first_ignores x i && rest_ignores y i
  are_items-unplaced (x ∷ y ∷ z ∷ more) = λ i. first_ignores x i &&
      (ap rest (sym (unplaced_applied word (y ∷ z ∷ more))) ∙ rest_ignores (applied word (y ∷ z ∷ more))) i
