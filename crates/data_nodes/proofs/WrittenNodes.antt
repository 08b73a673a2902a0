-- The tests of data don't look at places, and the node that is printed for a value is written for it.
use Rattle.std.proofs.Common.{◌≡◌, ℕ, ℤ, Bool, true, List, [], ◌∷◌, map, refl, sym, ap, subst, ◌∙◌, rules}
use Rattle.std.specs.Prelude.{◌&&◌, codes, if◌then◌else◌}
use Rattle.std.proofs.lemmas.Cmp.{int_eq_equiv, nat_list_eq_equiv}
use Rattle.std.specs.List.{AllByRecursion, list_all}
use Rattle.std.specs.Str.{bytes_eq}
use Rattle.std.proofs.lemmas.Bool.{and_from, and_parts}
use Rattle.value_core.specs.declared.val.Val.{Val}
use Rattle.value_core.specs.declared.val.Val.TheOpen as one
use Rattle.value_core.specs.declared.val.Val.TheViews.{out-Val}
use Rattle.value_core.specs.Layer.{Layer, flat, on_parts, parts_of}
use Rattle.value_core.specs.Everywhere.{everywhere}
use Rattle.value_core.specs.Lawful.{is_lawful, is_lawful_level}
use Rattle.value_core.specs.Leaves.{is_address}
use Rattle.value_core.proofs.Everywhere.{everywhere-is}
use Rattle.value_core.proofs.Levels.{Each, by_level-is, induction}
use Rattle.value_core.proofs.PlainTyped.{everywhere-joins}
use Rattle.micheline_text.specs.declared.node.Node.{Node}
use Rattle.micheline_text.specs.declared.node.Body.{Body}
use Rattle.micheline_text.specs.declared.node.Body.TheVariants as variant
use Rattle.micheline_text.specs.declared.node.Body.TheOpen as body
use Rattle.micheline_text.specs.declared.node.Body.TheOpen.{Body-F}
use Rattle.micheline_text.specs.declared.node.Body.TheViews.{out-Body, the_lemmas}
use Rattle.micheline_text.specs.Again.{unplaced}
use Rattle.data_nodes.specs.Nodes.{Test, all_are, applied, is_applied, is_applied_body, is_bytes, is_bytes_body, is_numeral, is_numeral_body, is_sequence, is_sequence_body, is_string, is_text_body, node}
use Rattle.data_nodes.specs.Data.{is_comb, is_comb_body, is_entry, is_written, written_level}
use Rattle.data_nodes.specs.Printed.{is_printed_whole, node_of, printed_level}
use Rattle.data_nodes.proofs.DataLevels.{is_data, is_data_level, printed_whole_is_data}
use Rattle.data_nodes.proofs.Unplaced.{IgnoresPlaces, are_items-unplaced, bare, is_applied-unplaced, is_bytes-unplaced, is_numeral-unplaced, is_sequence-unplaced, is_string-unplaced, level-unplaced, same_answer}
use Rattle.data_nodes.proofs.NodeLevels.{shows_prim, shows_seq}

-- ---- pairs and entries

module _ (first rest : Test) (first_ignores : IgnoresPlaces first) (rest_ignores : IgnoresPlaces rest) where
  comb_level : (x : Body-F Body Node) → is_comb_body first rest (bare x) ≡ is_comb_body first rest x
  comb_level (body.Prim name notes args) = ap (λ b. bytes_eq name (codes "Pair") && b) (are_items-unplaced (codes "Pair") first rest first_ignores rest_ignores args)
  comb_level (body.Seq ns) = are_items-unplaced (codes "Pair") first rest first_ignores rest_ignores ns
  comb_level _ = refl

  pub is_comb-unplaced : IgnoresPlaces (is_comb first rest)
  is_comb-unplaced n = ap (is_comb_body first rest) (level-unplaced n) ∙ comb_level (out-Body n.body)

  pub is_entry-unplaced : IgnoresPlaces (is_entry (first, rest))
  is_entry-unplaced = is_applied-unplaced (codes "Elt") (first ∷ rest ∷ []) (first_ignores, (rest_ignores, tt))

-- ---- values

abbrev Ignored : Val → Type 0
Ignored v = IgnoresPlaces (is_written v)

items_ignored : (vs : List Val) → Each Ignored vs → AllByRecursion IgnoresPlaces (map is_written vs)
items_ignored [] h = tt
items_ignored (v ∷ vs) h = (h.0, items_ignored vs h.1)

abbrev pub tests_of : Val × Val → Test × Test
tests_of e = (is_written e.0, is_written e.1)

entries_ignored : (es : List (Val × Val)) → Each Ignored (flat es) → AllByRecursion IgnoresPlaces (map is_entry (map tests_of es))
entries_ignored [] h = tt
entries_ignored (e ∷ es) h = (is_entry-unplaced (is_written e.0) (is_written e.1) h.0 h.1.0, entries_ignored es h.1.1)

word_ignored : (word : List ℕ) → IgnoresPlaces (is_applied word [])
word_ignored word = is_applied-unplaced word [] tt

level_ignored : (x : Layer Val) → Each Ignored (parts_of x) → IgnoresPlaces (written_level (on_parts is_written x))
level_ignored one.Unit h = word_ignored (codes "Unit")
level_ignored (one.Bool b) h = word_ignored (if b then codes "True" else codes "False")
level_ignored (one.Int z) h = is_numeral-unplaced z
level_ignored (one.Nat z) h = is_numeral-unplaced z
level_ignored (one.Mutez n) h = is_numeral-unplaced _
level_ignored (one.Time z) h = is_numeral-unplaced z
level_ignored (one.Text s) h = is_string-unplaced s
level_ignored (one.Bytes b) h = is_bytes-unplaced b
level_ignored (one.Addr address) h = λ n. ap (λ (b : Bool). is_address address && b) (is_bytes-unplaced address n)
level_ignored one.Nothing h = word_ignored (codes "None")
level_ignored (one.Some part) h = is_applied-unplaced (codes "Some") (is_written part ∷ []) (h.0, tt)
level_ignored (one.Left part) h = is_applied-unplaced (codes "Left") (is_written part ∷ []) (h.0, tt)
level_ignored (one.Right part) h = is_applied-unplaced (codes "Right") (is_written part ∷ []) (h.0, tt)
level_ignored (one.Pair a b) h = is_comb-unplaced (is_written a) (is_written b) h.0 h.1.0
level_ignored (one.List items) h = is_sequence-unplaced (map is_written items) (items_ignored items h)
level_ignored (one.Set items) h = is_sequence-unplaced (map is_written items) (items_ignored items h)
level_ignored (one.Map entries) h = is_sequence-unplaced (map is_entry (map tests_of entries)) (entries_ignored entries h)
level_ignored _ h = λ n. refl

pub written-is : (v : Val) → is_written v ≡ written_level (on_parts is_written (out-Val v))
written-is = by_level-is {A = Test} written_level

-- whether a node is written for a value doesn't turn on places
pub is_written-unplaced : (v : Val) → IgnoresPlaces (is_written v)
is_written-unplaced = induction Ignored (λ v h. subst IgnoresPlaces (sym (written-is v)) (level_ignored (out-Val v) h))

-- ---- the node that is printed

shows_number : (z : ℤ) → out-Body (variant.Int z) ≡ body.Int z
shows_number z = search (rules, the_lemmas)

shows_text : (s : List ℕ) → out-Body (variant.Text s) ≡ body.Text s
shows_text s = search (rules, the_lemmas)

shows_bytes : (b : List ℕ) → out-Body (variant.Bytes b) ≡ body.Bytes b
shows_bytes b = search (rules, the_lemmas)

pub number_written : (z : ℤ) → is_numeral z (node (variant.Int z)) ≡ true
number_written z = ap (is_numeral_body z) (shows_number z) ∙ int_eq_equiv.refl z

pub string_written : (s : List ℕ) → is_string s (node (variant.Text s)) ≡ true
string_written s = ap (is_text_body s) (shows_text s) ∙ nat_list_eq_equiv.refl s

pub bytes_written : (b : List ℕ) → is_bytes b (node (variant.Bytes b)) ≡ true
bytes_written b = ap (is_bytes_body b) (shows_bytes b) ∙ nat_list_eq_equiv.refl b

pub applied_written : (word : List ℕ) (tests : List Test) (args : List Node) → all_are tests args ≡ true → is_applied word tests (applied word args) ≡ true
applied_written word tests args fit = ap (is_applied_body word tests) (shows_prim word [] args) ∙ and_from _ _ (nat_list_eq_equiv.refl word) fit

pub sequence_written : (tests : List Test) (ns : List Node) → all_are tests ns ≡ true → is_sequence tests (node (variant.Seq ns)) ≡ true
sequence_written tests ns fit = ap (is_sequence_body tests) (shows_seq ns) ∙ fit

-- one level of data with lawful leaves
abbrev is_lawful_data_level : Layer Val → Bool
is_lawful_data_level x = is_data_level x && is_lawful_level x

abbrev is_lawful_data : Val → Bool
is_lawful_data = everywhere is_lawful_data_level

abbrev Written : Val → Type 0
Written v = is_lawful_data v ≡ true → is_written v (node_of v) ≡ true

all_written : (vs : List Val) → Each Written vs → list_all is_lawful_data vs ≡ true → all_are (map is_written vs) (map node_of vs) ≡ true
all_written [] h of_data = refl
all_written (v ∷ vs) h of_data =
    let both = and_parts _ _ of_data in
    and_from _ _ (h.0 both.0) (all_written vs h.1 both.1)

one_written : (v : Val) → Written v → list_all is_lawful_data (v ∷ []) ≡ true → all_are (is_written v ∷ []) (node_of v ∷ []) ≡ true
one_written v h of_data = all_written (v ∷ []) (h, tt) of_data

abbrev pub nodes_of : Val × Val → Node × Node
nodes_of e = (node_of e.0, node_of e.1)

abbrev pub pair_node : Node × Node → Node
pair_node e = applied (codes "Elt") (e.0 ∷ e.1 ∷ [])

entries_written : (es : List (Val × Val)) → Each Written (flat es) → list_all is_lawful_data (flat es) ≡ true →
    all_are (map is_entry (map tests_of es)) (map pair_node (map nodes_of es)) ≡ true
entries_written [] h of_data = refl
entries_written (e ∷ es) h of_data =
    let first = and_parts _ _ of_data in
    let second = and_parts _ _ first.1 in
    let both : all_are (is_written e.0 ∷ is_written e.1 ∷ []) (node_of e.0 ∷ node_of e.1 ∷ []) ≡ true = and_from _ _ (h.0 first.0) (and_from _ _ (h.1.0 second.0) refl) in
    and_from _ _ (applied_written (codes "Elt") (is_written e.0 ∷ is_written e.1 ∷ []) (node_of e.0 ∷ node_of e.1 ∷ []) both) (entries_written es h.1.1 second.1)

pair_written : (a b : Val) → is_written a (node_of a) ≡ true → is_written b (node_of b) ≡ true →
    is_comb (is_written a) (is_written b) (applied (codes "Pair") (node_of a ∷ node_of b ∷ [])) ≡ true
pair_written a b first second = ap (is_comb_body (is_written a) (is_written b)) (shows_prim (codes "Pair") [] (node_of a ∷ node_of b ∷ [])) ∙ and_from _ _ first second

level_written : (x : Layer Val) → is_lawful_data_level x ≡ true → Each Written (parts_of x) → list_all is_lawful_data (parts_of x) ≡ true →
    written_level (on_parts is_written x) (printed_level (on_parts node_of x)) ≡ true
level_written one.Unit level h of_data = applied_written (codes "Unit") [] [] refl
level_written (one.Bool b) level h of_data = applied_written (if b then codes "True" else codes "False") [] [] refl
level_written (one.Int z) level h of_data = number_written z
level_written (one.Nat z) level h of_data = number_written z
level_written (one.Mutez n) level h of_data = number_written _
level_written (one.Time z) level h of_data = number_written z
level_written (one.Text s) level h of_data = string_written s
level_written (one.Bytes b) level h of_data = bytes_written b
level_written (one.Addr address) level h of_data = and_from _ _ (and_parts _ _ level).0 (bytes_written address)
level_written one.Nothing level h of_data = applied_written (codes "None") [] [] refl
level_written (one.Some part) level h of_data = applied_written (codes "Some") (is_written part ∷ []) (node_of part ∷ []) (one_written part h.0 of_data)
level_written (one.Left part) level h of_data = applied_written (codes "Left") (is_written part ∷ []) (node_of part ∷ []) (one_written part h.0 of_data)
level_written (one.Right part) level h of_data = applied_written (codes "Right") (is_written part ∷ []) (node_of part ∷ []) (one_written part h.0 of_data)
level_written (one.Pair a b) level h of_data =
    let both = and_parts _ _ of_data in
    pair_written a b (h.0 both.0) (h.1.0 (and_parts _ _ both.1).0)
level_written (one.List items) level h of_data = sequence_written (map is_written items) (map node_of items) (all_written items h of_data)
level_written (one.Set items) level h of_data = sequence_written (map is_written items) (map node_of items) (all_written items h of_data)
level_written (one.Map entries) level h of_data =
    sequence_written (map is_entry (map tests_of entries)) (map pair_node (map nodes_of entries)) (entries_written entries h of_data)
level_written _ level h of_data = absurd cc

pub printed-is : (v : Val) → node_of v ≡ printed_level (on_parts node_of (out-Val v))
printed-is = by_level-is {A = Node} printed_level

lawful_data_is_written : (v : Val) → is_lawful_data v ≡ true → is_written v (node_of v) ≡ true
lawful_data_is_written = induction Written (λ v h of_data.
    let level = and_parts _ _ (sym (everywhere-is is_lawful_data_level v) ∙ of_data) in
    (λ i. written-is v i (printed-is v i)) ∙ level_written (out-Val v) level.0 h level.1)

-- the node that is printed for a lawful value of data is written for it
pub data_is_written : (v : Val) → is_data v ≡ true → is_lawful v ≡ true → is_written v (node_of v) ≡ true
data_is_written v of_data lawful =
    lawful_data_is_written v (everywhere-joins is_data_level is_lawful_level is_lawful_data_level (λ x p q. and_from _ _ p q) v of_data lawful)

-- so is each node that differs from it in places alone
pub same_is_written : (v : Val) (n : Node) → is_printed_whole v ≡ true → is_lawful v ≡ true → unplaced n ≡ unplaced (node_of v) → is_written v n ≡ true
same_is_written v n whole lawful same =
    same_answer (is_written v) (is_written-unplaced v) n (node_of v) same ∙ data_is_written v (printed_whole_is_data v whole) lawful
