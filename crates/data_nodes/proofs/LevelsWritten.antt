-- What is said at one level is read.
use Rattle.std.proofs.Common.{◌≡◌, ℕ, ℤ, pos, ◌^◌, Bool, true, false, List, [], ◌∷◌, map, None, Ok, codes, refl, sym, ap, ◌∙◌, arith}
use Rattle.std.specs.Prelude.{◌&&◌, int_le, int_lt, nat_lt}
use Rattle.std.specs.List.{list_all}
use Rattle.std.specs.Str.{bytes_eq}
use Rattle.std.proofs.lemmas.Bool.{and_parts, false≢true}
use Rattle.std.proofs.lemmas.Bool.Decides.{Decides-int_eq}
use Rattle.std.proofs.lemmas.Slice.Eq.{bytes_eq-Decides}
use Rattle.std.proofs.lemmas.List.{length-map}
use Rattle.std.proofs.lemmas.Int.{ints}
use Rattle.value_core.specs.declared.ty.Ty.{Ty}
use Rattle.value_core.specs.declared.ty.Ty.TheOpen as ty
use Rattle.value_core.specs.declared.ty.Ty.TheOpen.{Ty-F}
use Rattle.value_core.specs.declared.ty.Ty.TheViews.{out-Ty}
use Rattle.value_core.specs.declared.val.Val.{Val}
use Rattle.value_core.specs.declared.val.Val.TheVariants as value
use Rattle.value_core.specs.declared.val.Val.TheOpen as one
use Rattle.value_core.specs.declared.val.Val.TheViews.{roll-Val}
use Rattle.value_core.specs.Layer.{Layer, flat, on_parts, parts_of}
use Rattle.value_core.specs.Leaves.{is_address}
use Rattle.value_core.specs.Sound.{ascends, is_countable, is_sound, is_sound_level}
use Rattle.value_core.specs.Typed.{fits, fits_level}
use Rattle.value_core.proofs.Levels.{Each}
use Rattle.micheline_text.specs.declared.node.Node.{Node}
use Rattle.micheline_text.specs.declared.node.Body.{Body}
use Rattle.micheline_text.specs.declared.node.Body.TheOpen as body
use Rattle.micheline_text.specs.declared.node.Body.TheOpen.{Body-F}
use Rattle.micheline_text.specs.declared.node.Body.TheViews.{out-Body}
use Rattle.data_nodes.specs.Nodes.{Test, all_are, is_applied_body, is_bytes_body, is_numeral_body, is_sequence_body, is_text_body}
use Rattle.data_nodes.specs.Data.{is_comb_body, is_entry, is_written, written_level}
use Rattle.data_nodes.specs.Readers.{Read, Reader, bytes, made, number, string}
use Rattle.data_nodes.specs.Faults.{alone, reader, sequence, value_at, with_one}
use Rattle.data_nodes.proofs.NodeLevels.{readers}
use Rattle.data_nodes.proofs.ItemLaws.{Agree, items_read, set_read}
use Rattle.data_nodes.proofs.EntryLaws.{entries_read, writing}
use Rattle.data_nodes.proofs.PairLaws.{pair_read}
use Rattle.data_nodes.proofs.TestCounts.{same_count}

pub same_bytes : (a b : List ℕ) → bytes_eq a b ≡ true → a ≡ b
same_bytes a b h = (bytes_eq-Decides a b).0 h

-- ---- what must stand at a node

module _ (at : ℕ) (t : Ty) where
  number_at : (z : ℤ) (b : Body-F Body Node) → is_numeral_body z b ≡ true → value_at at (readers b) t ≡ number at z (out-Ty t)
  number_at z (body.Int y) h = ap (λ (x : ℤ). number at x (out-Ty t)) ((Decides-int_eq y z).0 h)
  number_at z b h = absurd cc

  string_at : (s : List ℕ) (b : Body-F Body Node) → is_text_body s b ≡ true → value_at at (readers b) t ≡ string at s (out-Ty t)
  string_at s (body.Text r) h = ap (λ (x : List ℕ). string at x (out-Ty t)) (same_bytes r s h)
  string_at s b h = absurd cc

  bytes_at : (s : List ℕ) (b : Body-F Body Node) → is_bytes_body s b ≡ true → value_at at (readers b) t ≡ bytes at s (out-Ty t)
  bytes_at s (body.Bytes r) h = ap (λ (x : List ℕ). bytes at x (out-Ty t)) (same_bytes r s h)
  bytes_at s b h = absurd cc

  alone_at : (word : List ℕ) (b : Body-F Body Node) → is_applied_body word [] b ≡ true → value_at at (readers b) t ≡ alone at word (out-Ty t)
  alone_at word (body.Prim name notes []) h = ap (λ (x : List ℕ). alone at x (out-Ty t)) (same_bytes name word (and_parts (bytes_eq name word) _ h).0)
  alone_at word (body.Prim name notes (x ∷ args)) h = let none = (and_parts (bytes_eq name word) _ h).1 in absurd cc
  alone_at word b h = absurd cc

  record PartAt (word : List ℕ) (part : Test) (b : Body-F Body Node) : Type 0 where
    node : Node
    written : part node ≡ true
    reads : value_at at (readers b) t ≡ with_one at word (reader node) (out-Ty t)

  part_at : (word : List ℕ) (part : Test) (b : Body-F Body Node) → is_applied_body word (part ∷ []) b ≡ true → PartAt word part b
  part_at word part (body.Prim name notes []) h = let none = (and_parts (bytes_eq name word) _ h).1 in absurd cc
  part_at word part (body.Prim name notes (x ∷ [])) h = record {
    node = x;
    written = (and_parts (part x) _ (and_parts (bytes_eq name word) _ h).1).0;
    reads = ap (λ (w : List ℕ). with_one at w (reader x) (out-Ty t)) (same_bytes name word (and_parts (bytes_eq name word) _ h).0);
  }
  part_at word part (body.Prim name notes (x ∷ y ∷ args)) h =
      let none = (and_parts (part x) _ (and_parts (bytes_eq name word) _ h).1).1 in absurd cc
  part_at word part b h = absurd cc

  record NodesAt (tests : List Test) (b : Body-F Body Node) : Type 0 where
    nodes : List Node
    written : all_are tests nodes ≡ true
    reads : value_at at (readers b) t ≡ sequence at (map reader nodes) t (out-Ty t)

  nodes_at : (tests : List Test) (b : Body-F Body Node) → is_sequence_body tests b ≡ true → NodesAt tests b
  nodes_at tests (body.Seq nodes) h = record { nodes = nodes; written = h; reads = refl }
  nodes_at tests b h = absurd cc

  pair_at : (s u : Ty) (a c : Val) (b : Body-F Body Node) → out-Ty t ≡ ty.Pair s u → Agree a → Agree c → list_all is_sound (a ∷ c ∷ []) ≡ true → (fits a s && fits c u) ≡ true →
      is_comb_body (is_written a) (is_written c) b ≡ true → value_at at (readers b) t ≡ Ok (value.Pair a c)
  pair_at s u a c (body.Prim name notes []) e f g sound fit h = let none = (and_parts (bytes_eq name (codes "Pair")) _ h).1 in absurd cc
  pair_at s u a c (body.Prim name notes (x ∷ [])) e f g sound fit h = let none = (and_parts (bytes_eq name (codes "Pair")) _ h).1 in absurd cc
  pair_at s u a c (body.Prim name notes (x ∷ y ∷ more)) e f g sound fit h =
      rw (and_parts (bytes_eq name (codes "Pair")) _ h).0 (pair_read at t s u (x ∷ y ∷ more) a c e f g sound fit (and_parts (bytes_eq name (codes "Pair")) _ h).1)
  pair_at s u a c (body.Seq nodes) e f g sound fit h = ap (sequence at (map reader nodes) t) e ∙ pair_read at t s u nodes a c e f g sound fit h
  pair_at s u a c b e f g sound fit h = absurd cc

-- ---- numbers in their ranges

amount_fits : (n : ℕ) → nat_lt n (2 ^ 63) ≡ true → (int_le (pos 0) (pos n) && int_lt (pos n) (pos (2 ^ 63))) ≡ true
amount_fits n h = grind (arith, ints)

-- ---- each kind of value at its type

module _ (t : Ty) (n : Node) where
  abbrev here : Read Val
  here = value_at n.at (readers (out-Body n.body)) t

  leaf_is : (v : Val) (x : Layer Val) → roll-Val x ≡ v → here ≡ Ok v → here ≡ Ok (roll-Val x)
  leaf_is v x is h = h ∙ ap (λ (w : Val). Ok w) (sym is)

  -- a word with one part
  part_read : (word : List ℕ) (w : Val) (s : Ty) (f : Val → Val) (p : PartAt n.at t word (is_written w) (out-Body n.body)) →
      ((x : Reader) → with_one n.at word x (out-Ty t) ≡ made f (x.value s)) → Agree w → is_sound w ≡ true → fits w s ≡ true → here ≡ Ok (f w)
  part_read word w s f p is agree sound fit =
      p.reads ∙ is (reader p.node) ∙ ap (made f) ((agree s p.node).read (record { sound = sound; fit = fit; written = p.written }))

  counted : {A : Type 0} (f : A → Test) (xs : List A) (nodes : List Node) → all_are (map f xs) nodes ≡ true → is_countable xs ≡ true → is_countable (map reader nodes) ≡ true
  counted f xs nodes written few = same_count (map f xs) nodes written (rw (length-map xs f) few)

  list_read : (item : Ty) (vs : List Val) → out-Ty t ≡ ty.List item → Each Agree vs → is_countable vs ≡ true → list_all is_sound vs ≡ true → list_all (λ (f : Ty → Bool). f item) (map fits vs) ≡ true →
      is_sequence_body (map is_written vs) (out-Body n.body) ≡ true → here ≡ Ok (value.List vs)
  list_read item vs e h few sound fit w =
      let p = nodes_at n.at t (map is_written vs) (out-Body n.body) w in
      let all = items_read item vs p.nodes h (record { sound = sound; fit = fit; written = p.written }) in
      p.reads ∙ ap (sequence n.at (map reader p.nodes) t) e ∙ rw (counted is_written vs p.nodes p.written few) (ap (made value.List) all)

  set_of : (item : Ty) (vs : List Val) → out-Ty t ≡ ty.Set item → Each Agree vs → is_countable vs ≡ true → ascends vs ≡ true → list_all is_sound vs ≡ true → list_all (λ (f : Ty → Bool). f item) (map fits vs) ≡ true →
      is_sequence_body (map is_written vs) (out-Body n.body) ≡ true → here ≡ Ok (value.Set vs)
  set_of item vs e h few up sound fit w =
      let p = nodes_at n.at t (map is_written vs) (out-Body n.body) w in
      let all = set_read item vs p.nodes h (record { sound = sound; fit = fit; written = p.written }) up in
      p.reads ∙ ap (sequence n.at (map reader p.nodes) t) e ∙ rw (counted is_written vs p.nodes p.written few) (ap (made value.Set) all)

  map_read : (k v : Ty) (es : List (Val × Val)) → out-Ty t ≡ ty.Map k v → Each Agree (flat es) → is_countable es ≡ true → ascends (map (λ e. e.0) es) ≡ true → list_all is_sound (flat es) ≡ true →
      list_all (λ (e : (Ty → Bool) × (Ty → Bool)). e.0 k && e.1 v) (map (λ e. (fits e.0, fits e.1)) es) ≡ true →
      is_sequence_body (map is_entry (map (λ e. (is_written e.0, is_written e.1)) es)) (out-Body n.body) ≡ true → here ≡ Ok (value.Map es)
  map_read k v es e h few up sound fit w =
      let p = nodes_at n.at t (map is_entry (map (writing k v) es)) (out-Body n.body) w in
      let all = entries_read k v None es p.nodes h (record { sound = sound; fit = fit; written = p.written; up = up }) in
      let count : is_countable (map reader p.nodes) ≡ true = counted is_entry (map (writing k v) es) p.nodes p.written (rw (length-map es (writing k v)) few) in
      p.reads ∙ ap (sequence n.at (map reader p.nodes) t) e ∙ rw count (ap (made value.Map) all)

  -- what is said at one level is read
  pub read_level : (x : Layer Val) (τ : Ty-F Ty) → out-Ty t ≡ τ → Each Agree (parts_of x) → is_sound_level x ≡ true → list_all is_sound (parts_of x) ≡ true →
      fits_level (on_parts fits x) τ ≡ true → written_level (on_parts is_written x) n ≡ true → here ≡ Ok (roll-Val x)
  read_level one.Unit ty.Unit e h level sound fit w =
      leaf_is value.Unit one.Unit value.rolls-Unit (alone_at n.at t (codes "Unit") (out-Body n.body) w ∙ ap (alone n.at (codes "Unit")) e)
  read_level (one.Bool true) ty.Bool e h level sound fit w =
      leaf_is (value.Bool true) (one.Bool true) (value.rolls-Bool true) (alone_at n.at t (codes "True") (out-Body n.body) w ∙ ap (alone n.at (codes "True")) e)
  read_level (one.Bool false) ty.Bool e h level sound fit w =
      leaf_is (value.Bool false) (one.Bool false) (value.rolls-Bool false) (alone_at n.at t (codes "False") (out-Body n.body) w ∙ ap (alone n.at (codes "False")) e)
  read_level (one.Int z) ty.Int e h level sound fit w =
      leaf_is (value.Int z) (one.Int z) (value.rolls-Int z) (number_at n.at t z (out-Body n.body) w ∙ ap (number n.at z) e)
  read_level (one.Nat z) ty.Nat e h level sound fit w =
      leaf_is (value.Nat z) (one.Nat z) (value.rolls-Nat z) (number_at n.at t z (out-Body n.body) w ∙ ap (number n.at z) e ∙ rw level refl)
  read_level (one.Mutez m) ty.Mutez e h level sound fit w =
      leaf_is (value.Mutez m) (one.Mutez m) (value.rolls-Mutez m) (number_at n.at t (pos m) (out-Body n.body) w ∙ ap (number n.at (pos m)) e ∙ rw (amount_fits m level) refl)
  read_level (one.Time z) ty.Time e h level sound fit w =
      leaf_is (value.Time z) (one.Time z) (value.rolls-Time z) (number_at n.at t z (out-Body n.body) w ∙ ap (number n.at z) e)
  read_level (one.Text s) ty.Text e h level sound fit w =
      leaf_is (value.Text s) (one.Text s) (value.rolls-Text s) (string_at n.at t s (out-Body n.body) w ∙ ap (string n.at s) e)
  read_level (one.Bytes s) ty.Bytes e h level sound fit w =
      leaf_is (value.Bytes s) (one.Bytes s) (value.rolls-Bytes s) (bytes_at n.at t s (out-Body n.body) w ∙ ap (bytes n.at s) e)
  read_level (one.Addr s) ty.Addr e h level sound fit w =
      let both = and_parts (is_address s) _ w in
      leaf_is (value.Addr s) (one.Addr s) (value.rolls-Addr s) (bytes_at n.at t s (out-Body n.body) both.1 ∙ ap (bytes n.at s) e ∙ rw both.0 refl)
  read_level one.Nothing (ty.Option s) e h level sound fit w =
      leaf_is value.Nothing one.Nothing value.rolls-Nothing (alone_at n.at t (codes "None") (out-Body n.body) w ∙ ap (alone n.at (codes "None")) e)
  read_level (one.Some part) (ty.Option s) e h level sound fit w =
      leaf_is (value.Some part) (one.Some part) (value.rolls-Some part) (part_read (codes "Some") part s value.Some (part_at n.at t (codes "Some") (is_written part) (out-Body n.body) w)
      (λ x. ap (with_one n.at (codes "Some") x) e) h.0 (and_parts (is_sound part) _ sound).0 fit)
  read_level (one.Left part) (ty.Or s u) e h level sound fit w =
      leaf_is (value.Left part) (one.Left part) (value.rolls-Left part) (part_read (codes "Left") part s value.Left (part_at n.at t (codes "Left") (is_written part) (out-Body n.body) w)
      (λ x. ap (with_one n.at (codes "Left") x) e) h.0 (and_parts (is_sound part) _ sound).0 fit)
  read_level (one.Right part) (ty.Or s u) e h level sound fit w =
      leaf_is (value.Right part) (one.Right part) (value.rolls-Right part) (part_read (codes "Right") part u value.Right (part_at n.at t (codes "Right") (is_written part) (out-Body n.body) w)
      (λ x. ap (with_one n.at (codes "Right") x) e) h.0 (and_parts (is_sound part) _ sound).0 fit)
  read_level (one.Pair a b) (ty.Pair s u) e h level sound fit w =
      leaf_is (value.Pair a b) (one.Pair a b) (value.rolls-Pair a b) (pair_at n.at t s u a b (out-Body n.body) e h.0 h.1.0 sound fit w)
  read_level (one.List vs) (ty.List item) e h level sound fit w =
      leaf_is (value.List vs) (one.List vs) (value.rolls-List vs) (list_read item vs e h level sound fit w)
  read_level (one.Set vs) (ty.Set item) e h level sound fit w =
      let both = and_parts (is_countable vs) _ level in
      leaf_is (value.Set vs) (one.Set vs) (value.rolls-Set vs) (set_of item vs e h both.0 both.1 sound fit w)
  read_level (one.Map es) (ty.Map k v) e h level sound fit w =
      let both = and_parts (is_countable es) _ level in
      leaf_is (value.Map es) (one.Map es) (value.rolls-Map es) (map_read k v es e h both.0 both.1 sound fit w)
  read_level (one.BigMap place version) τ e h level sound fit w = absurd (false≢true w)
  read_level (one.Contract address entry) τ e h level sound fit w = absurd (false≢true w)
  read_level (one.Operation emit) τ e h level sound fit w = absurd (false≢true w)
  read_level x τ e h level sound fit w = absurd (false≢true fit)
