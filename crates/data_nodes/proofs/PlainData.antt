-- What is read as data is plain.
use Rattle.std.proofs.Common.{◌≡◌, ◌≤◌, ℕ, Result, Ok, Err, true, List, [], ◌∷◌, map, refl, sym, ap, ◌∙◌}
use Rattle.std.specs.Prelude.{◌&&◌, IfOk, IsTrue, codes}
use Rattle.std.specs.List.{list_all}
use Rattle.std.proofs.lemmas.Bool.{and_from, and_parts}
use Rattle.value_core.specs.declared.val.Val.{Val}
use Rattle.value_core.specs.declared.val.Val.TheOpen as one
use Rattle.value_core.specs.declared.val.Val.TheViews.{out-Val}
use Rattle.value_core.specs.declared.ty.Ty.{Ty}
use Rattle.value_core.specs.Layer.{Layer, flat, on_parts, parts_of}
use Rattle.value_core.specs.Size.{size_of}
use Rattle.value_core.specs.Sound.{is_plain, is_settled_level, is_sound_level}
use Rattle.value_core.proofs.Levels.{Each, induction}
use Rattle.value_core.proofs.Everywhere.{everywhere-is}
use Rattle.value_core.proofs.PlainTyped.{everywhere-joins}
use Rattle.micheline_text.specs.declared.node.Node.{Node}
use Rattle.micheline_text.specs.declared.node.Body.{Body}
use Rattle.micheline_text.specs.declared.node.Body.TheOpen as body
use Rattle.micheline_text.specs.declared.node.Body.TheOpen.{Body-F}
use Rattle.micheline_text.specs.declared.node.Body.TheViews.{out-Body}
use Rattle.data_nodes.specs.Nodes.{Test, all_are, applied, are_items, is_applied, is_applied_body, is_sequence_body}
use Rattle.data_nodes.specs.Data.{IsData, is_comb_body, is_entry, is_written, written_level}
use Rattle.data_nodes.proofs.DataLevels.{is_data, is_data_level}
use Rattle.data_nodes.proofs.WrittenNodes.{tests_of, written-is}

-- ---- nodes that pass the tests of parts

-- some node passes the test
abbrev Passes : Test → Type 0
Passes test = (n : Node) × (test n ≡ true)

-- some nodes pass the tests, each its own
abbrev PassAll : List Test → Type 0
PassAll tests = (ns : List Node) × (all_are tests ns ≡ true)

args_pass : (word : List ℕ) (tests : List Test) (b : Body-F Body Node) → is_applied_body word tests b ≡ true → PassAll tests
args_pass word tests (body.Prim name notes args) h = (args, (and_parts _ _ h).1)
args_pass word tests _ h = absurd cc

nodes_pass : (tests : List Test) (b : Body-F Body Node) → is_sequence_body tests b ≡ true → PassAll tests
nodes_pass tests (body.Seq ns) h = (ns, h)
nodes_pass tests _ h = absurd cc

module _ (first rest : Test) where
  items_pass : (word : List ℕ) (ns : List Node) → are_items word first rest ns ≡ true → Passes first × Passes rest
  items_pass word [] h = absurd cc
  items_pass word (x ∷ []) h = absurd cc
  items_pass word (x ∷ y ∷ []) h = let both = and_parts _ _ h in ((x, both.0), (y, both.1))
  items_pass word (x ∷ y ∷ z ∷ more) h = let both = and_parts _ _ h in ((x, both.0), (applied word (y ∷ z ∷ more), both.1))

  sides_pass : (b : Body-F Body Node) → is_comb_body first rest b ≡ true → Passes first × Passes rest
  sides_pass (body.Prim name notes args) h = items_pass (codes "Pair") args (and_parts _ _ h).1
  sides_pass (body.Seq ns) h = items_pass (codes "Pair") ns h
  sides_pass _ h = absurd cc

-- ---- what is written is data at each level

abbrev IsDataIfWritten : Val → Type 0
IsDataIfWritten v = (n : Node) → is_written v n ≡ true → is_data v ≡ true

all_data : (vs : List Val) → Each IsDataIfWritten vs → (ns : List Node) → all_are (map is_written vs) ns ≡ true → list_all is_data vs ≡ true
all_data [] h ns written = refl
all_data (v ∷ vs) h [] written = absurd cc
all_data (v ∷ vs) h (n ∷ ns) written =
    let both = and_parts _ _ written in
    and_from _ _ (h.0 n both.0) (all_data vs h.1 ns both.1)

entry_data : (k v : Val) (more : List Val) → IsDataIfWritten k → IsDataIfWritten v → (n : Node) → is_entry (is_written k, is_written v) n ≡ true →
    list_all is_data more ≡ true → list_all is_data (k ∷ v ∷ more) ≡ true
entry_data k v more key value n written others =
    let args = args_pass (codes "Elt") (is_written k ∷ is_written v ∷ []) (out-Body n.body) written in
    let both = all_data (k ∷ v ∷ []) (key, (value, tt)) args.0 args.1 in
    and_from _ _ (and_parts _ _ both).0 (and_from _ _ (and_parts _ _ (and_parts _ _ both).1).0 others)

entries_data : (es : List (Val × Val)) → Each IsDataIfWritten (flat es) → (ns : List Node) →
    all_are (map is_entry (map tests_of es)) ns ≡ true → list_all is_data (flat es) ≡ true
entries_data [] h ns written = refl
entries_data (e ∷ es) h [] written = absurd cc
entries_data (e ∷ es) h (n ∷ ns) written =
    let both = and_parts _ _ written in
    entry_data e.0 e.1 (flat es) h.0 h.1.0 n both.0 (entries_data es h.1.1 ns both.1)

part_data : (v : Val) → IsDataIfWritten v → (word : List ℕ) (n : Node) → is_applied word (is_written v ∷ []) n ≡ true → list_all is_data (v ∷ []) ≡ true
part_data v h word n written =
    let args = args_pass word (is_written v ∷ []) (out-Body n.body) written in
    all_data (v ∷ []) (h, tt) args.0 args.1

level_data : (x : Layer Val) → Each IsDataIfWritten (parts_of x) → (n : Node) → written_level (on_parts is_written x) n ≡ true →
    (is_data_level x && list_all is_data (parts_of x)) ≡ true
level_data (one.Some part) h n written = part_data part h.0 (codes "Some") n written
level_data (one.Left part) h n written = part_data part h.0 (codes "Left") n written
level_data (one.Right part) h n written = part_data part h.0 (codes "Right") n written
level_data (one.Pair a b) h n written =
    let both = sides_pass (is_written a) (is_written b) (out-Body n.body) written in
    and_from _ _ (h.0 both.0.0 both.0.1) (and_from _ _ (h.1.0 both.1.0 both.1.1) refl)
level_data (one.List items) h n written =
    let nodes = nodes_pass (map is_written items) (out-Body n.body) written in all_data items h nodes.0 nodes.1
level_data (one.Set items) h n written =
    let nodes = nodes_pass (map is_written items) (out-Body n.body) written in all_data items h nodes.0 nodes.1
level_data (one.Map entries) h n written =
    let nodes = nodes_pass (map is_entry (map tests_of entries)) (out-Body n.body) written in entries_data entries h nodes.0 nodes.1
level_data (one.BigMap place version) h n written = written
level_data (one.Contract address entry) h n written = written
level_data (one.Operation emit) h n written = absurd cc
level_data _ h n written = refl

-- a written value has no contract, operation or big map at any level
pub written_is_data : (v : Val) (n : Node) → is_written v n ≡ true → is_data v ≡ true
written_is_data = induction IsDataIfWritten (λ v h n written.
    everywhere-is is_data_level v ∙ level_data (out-Val v) h n (sym (ap (λ (test : Test). test n) (written-is v)) ∙ written))

-- ---- data

plain_level : (x : Layer Val) → is_sound_level x ≡ true → is_data_level x ≡ true → (is_sound_level x && is_settled_level x) ≡ true
plain_level (one.BigMap place version) sound of_data = absurd cc
plain_level (one.Contract address entry) sound of_data = absurd cc
plain_level (one.Operation emit) sound of_data = absurd cc
plain_level _ sound of_data = and_from _ _ sound refl

pub plain-data : (t : Ty) (n : Node) (v : Val) → IsData t n v → IsTrue (is_plain v)
plain-data t n v data_of =
    everywhere-joins is_sound_level is_data_level (λ x. is_sound_level x && is_settled_level x) plain_level
    v (and_parts _ _ data_of.0).0 (written_is_data v n data_of.1)

-- so is an answer that is data, if it is a value
pub answer_plain : {E : Type 0} (t : Ty) (n : Node) (r : Result Val E) → IfOk r (λ v. IsData t n v × (size_of v ≤ 4096)) → IfOk r (λ v. IsTrue (is_plain v))
answer_plain t n (Ok v) found = plain-data t n v found.0
answer_plain t n (Err e) found = tt
