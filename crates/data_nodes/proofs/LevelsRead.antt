-- What is read at one level is said there.
use Rattle.std.proofs.Common.{◌≡◌, ℕ, ℤ, pos, ◌^◌, Bool, true, false, List, [], ◌∷◌, map, None, Ok, codes, refl, sym, ap, subst, ◌∙◌, arith}
use Rattle.std.specs.Prelude.{◌&&◌, if◌then◌else◌, int_le, int_lt, nat_abs, nat_lt}
use Rattle.std.specs.List.{list_all}
use Rattle.std.specs.Str.{bytes_eq}
use Rattle.std.specs.Ordering.{int_eq}
use Rattle.std.proofs.lemmas.Bool.{and_from}
use Rattle.std.proofs.lemmas.Bool.Decides.{Decides-int_eq}
use Rattle.std.proofs.lemmas.Slice.Eq.{bytes_eq-Decides}
use Rattle.std.proofs.lemmas.List.{length-map}
use Rattle.std.proofs.lemmas.Int.{ints}
use Rattle.value_core.specs.declared.ty.Ty.{Ty}
use Rattle.value_core.specs.declared.ty.Ty.TheOpen as ty
use Rattle.value_core.specs.declared.ty.Ty.TheOpen.{Ty-F}
use Rattle.value_core.specs.declared.ty.Ty.TheViews.{out-Ty}
use Rattle.value_core.specs.declared.val.Val.{Val}
use Rattle.value_core.specs.declared.val.Val.TheVariants as value
use Rattle.value_core.specs.declared.val.Val.TheOpen as one
use Rattle.value_core.specs.declared.val.Val.TheViews.{roll-Val}
use Rattle.value_core.specs.Layer.{Layer, on_parts, parts_of}
use Rattle.value_core.specs.Leaves.{is_address}
use Rattle.value_core.specs.Sound.{is_countable, is_sound, is_sound_level}
use Rattle.value_core.specs.Typed.{fits, fits_level}
use Rattle.value_core.proofs.Levels.{Each}
use Rattle.micheline_text.specs.declared.node.Node.{Node}
use Rattle.micheline_text.specs.declared.node.Body.{Body}
use Rattle.micheline_text.specs.declared.node.Body.TheOpen as body
use Rattle.micheline_text.specs.declared.node.Body.TheOpen.{Body-F}
use Rattle.micheline_text.specs.declared.node.Body.TheViews.{out-Body}
use Rattle.data_nodes.specs.declared.fault.DataKind.TheVariants.{Shape}
use Rattle.data_nodes.specs.Nodes.{Test, all_are, are_items, is_applied_body, is_bytes_body, is_numeral_body, is_sequence_body, is_text_body}
use Rattle.data_nodes.specs.Data.{is_comb_body, is_entry, is_written, written_level}
use Rattle.data_nodes.specs.Readers.{Read, ascending, bytes, entries, fault, items, made, number, pair, string}
use Rattle.data_nodes.specs.Faults.{alone, applied, reader, sequence, storage_read, value_at, with_one}
use Rattle.data_nodes.proofs.NodeLevels.{readers}
use Rattle.data_nodes.proofs.ItemLaws.{Agree, Said, if_ok, items_said, made_ok, set_said}
use Rattle.data_nodes.proofs.EntryLaws.{entries_said, writing}
use Rattle.data_nodes.proofs.PairLaws.{pair_said, pair_typed}
use Rattle.data_nodes.proofs.TestCounts.{lengths}

-- what is said at one level
pub record Row (n : Node) (τ : Ty-F Ty) (v : Val) : Type 0 where
  pub level : Layer Val
  pub is : roll-Val level ≡ v
  pub good : is_sound_level level ≡ true
  pub parts : list_all is_sound (parts_of level) ≡ true
  pub fit : fits_level (on_parts fits level) τ ≡ true
  pub written : written_level (on_parts is_written level) n ≡ true

same_number : (z : ℤ) → int_eq z z ≡ true
same_number z = (Decides-int_eq z z).1 refl

same_text : (s : List ℕ) → bytes_eq s s ≡ true
same_text s = (bytes_eq-Decides s s).1 refl

-- ---- amounts

amount_small : (z : ℤ) → (int_le (pos 0) z && int_lt z (pos (2 ^ 63))) ≡ true → nat_lt (nat_abs z) (2 ^ 63) ≡ true
amount_small z h = grind (arith, ints)

amount_is : (z : ℤ) → (int_le (pos 0) z && int_lt z (pos (2 ^ 63))) ≡ true → z ≡ pos (nat_abs z)
amount_is z h = grind (arith, ints)

module _ (n : Node) (v : Val) (parts : (x : Layer Val) → roll-Val x ≡ v → Each Agree (parts_of x)) where
  -- ---- literals

  number_row : (z : ℤ) (τ : Ty-F Ty) → out-Body n.body ≡ body.Int z → number n.at z τ ≡ Ok v → Row n τ v
  number_row z ty.Int b h = record { level = one.Int z; is = value.rolls-Int z ∙ cc; good = refl; parts = refl; fit = refl; written = ap (is_numeral_body z) b ∙ same_number z }
  number_row z ty.Time b h = record { level = one.Time z; is = value.rolls-Time z ∙ cc; good = refl; parts = refl; fit = refl; written = ap (is_numeral_body z) b ∙ same_number z }
  number_row z ty.Nat b h =
      let both = if_ok (int_le (pos 0) z) (Ok (value.Nat z)) _ v h in
      let made : value.Nat z ≡ v = cc in
      record { level = one.Nat z; is = value.rolls-Nat z ∙ made; good = both.0; parts = refl; fit = refl; written = ap (is_numeral_body z) b ∙ same_number z }
  number_row z ty.Mutez b h =
      let both = if_ok (int_le (pos 0) z && int_lt z (pos (2 ^ 63))) (Ok (value.Mutez (nat_abs z))) _ v h in
      let made : value.Mutez (nat_abs z) ≡ v = cc in
      record {
        level = one.Mutez (nat_abs z);
        is = value.rolls-Mutez (nat_abs z) ∙ made;
        good = amount_small z both.0;
        parts = refl;
        fit = refl;
        written = ap (is_numeral_body (pos (nat_abs z))) b ∙ ap (λ (y : ℤ). int_eq z y) (sym (amount_is z both.0)) ∙ same_number z;
      }
  number_row z τ b h = absurd cc

  string_row : (s : List ℕ) (τ : Ty-F Ty) → out-Body n.body ≡ body.Text s → string n.at s τ ≡ Ok v → Row n τ v
  string_row s ty.Text b h = record { level = one.Text s; is = value.rolls-Text s ∙ cc; good = refl; parts = refl; fit = refl; written = ap (is_text_body s) b ∙ same_text s }
  string_row s τ b h = absurd cc

  bytes_row : (s : List ℕ) (τ : Ty-F Ty) → out-Body n.body ≡ body.Bytes s → bytes n.at s τ ≡ Ok v → Row n τ v
  bytes_row s ty.Bytes b h = record { level = one.Bytes s; is = value.rolls-Bytes s ∙ cc; good = refl; parts = refl; fit = refl; written = ap (is_bytes_body s) b ∙ same_text s }
  bytes_row s ty.Addr b h =
      let both = if_ok (is_address s) (Ok (value.Addr s)) _ v h in
      let made : value.Addr s ≡ v = cc in
      record { level = one.Addr s; is = value.rolls-Addr s ∙ made; good = refl; parts = refl; fit = refl; written = and_from _ _ both.0 (ap (is_bytes_body s) b ∙ same_text s) }
  bytes_row s τ b h = absurd cc

  -- ---- words

  module _ (name : List ℕ) (notes : List (List ℕ)) where
    word_row : (word : List ℕ) → out-Body n.body ≡ body.Prim name notes [] → bytes_eq name word ≡ true → is_applied_body word [] (out-Body n.body) ≡ true
    word_row word b h = ap (is_applied_body word []) b ∙ and_from _ _ h refl

    bool_row : (is_true : Bool) → out-Body n.body ≡ body.Prim name notes [] → bytes_eq name (codes "True") ≡ is_true →
        (let r : Read Val = if is_true then Ok (value.Bool true) else if bytes_eq name (codes "False") then Ok (value.Bool false) else fault Shape n.at in r ≡ Ok v) → Row n ty.Bool v
    bool_row true b word h =
        let made : value.Bool true ≡ v = cc in
        record { level = one.Bool true; is = value.rolls-Bool true ∙ made; good = refl; parts = refl; fit = refl; written = word_row (codes "True") b word }
    bool_row false b word h =
        let both = if_ok (bytes_eq name (codes "False")) (Ok (value.Bool false)) _ v h in
        let made : value.Bool false ≡ v = cc in
        record { level = one.Bool false; is = value.rolls-Bool false ∙ made; good = refl; parts = refl; fit = refl; written = word_row (codes "False") b both.0 }

    alone_row : (τ : Ty-F Ty) → out-Body n.body ≡ body.Prim name notes [] → alone n.at name τ ≡ Ok v → Row n τ v
    alone_row ty.Unit b h =
        let both = if_ok (bytes_eq name (codes "Unit")) (Ok value.Unit) _ v h in
        let made : value.Unit ≡ v = cc in
        record { level = one.Unit; is = value.rolls-Unit ∙ made; good = refl; parts = refl; fit = refl; written = word_row (codes "Unit") b both.0 }
    alone_row ty.Bool b h = bool_row (bytes_eq name (codes "True")) b refl h
    alone_row (ty.Option t) b h =
        let both = if_ok (bytes_eq name (codes "None")) (Ok value.Nothing) _ v h in
        let made : value.Nothing ≡ v = cc in
        record { level = one.Nothing; is = value.rolls-Nothing ∙ made; good = refl; parts = refl; fit = refl; written = word_row (codes "None") b both.0 }
    alone_row τ b h = absurd cc

    -- a word with one part
    part_row : (x : Node) (word : List ℕ) (w : Val) (s : Ty) → out-Body n.body ≡ body.Prim name notes (x ∷ []) → bytes_eq name word ≡ true → Said s x w →
        is_applied_body word (is_written w ∷ []) (out-Body n.body) ≡ true
    part_row x word w s b h said = ap (is_applied_body word (is_written w ∷ [])) b ∙ and_from _ _ h (and_from _ _ said.written refl)

    some_row : (x : Node) (s : Ty) → out-Body n.body ≡ body.Prim name notes (x ∷ []) → bytes_eq name (codes "Some") ≡ true → made value.Some (storage_read s x) ≡ Ok v → Row n (ty.Option s) v
    some_row x s b word h =
        let m = made_ok value.Some (storage_read s x) v h in
        let is : roll-Val (one.Some m.0) ≡ v = value.rolls-Some m.0 ∙ m.2 in
        let said = ((parts (one.Some m.0) is).0 s x).said m.1 in
        record { level = one.Some m.0; is = is; good = refl; parts = and_from _ _ said.sound refl; fit = said.fit; written = part_row x (codes "Some") m.0 s b word said }

    left_row : (x : Node) (s u : Ty) → out-Body n.body ≡ body.Prim name notes (x ∷ []) → bytes_eq name (codes "Left") ≡ true → made value.Left (storage_read s x) ≡ Ok v → Row n (ty.Or s u) v
    left_row x s u b word h =
        let m = made_ok value.Left (storage_read s x) v h in
        let is : roll-Val (one.Left m.0) ≡ v = value.rolls-Left m.0 ∙ m.2 in
        let said = ((parts (one.Left m.0) is).0 s x).said m.1 in
        record { level = one.Left m.0; is = is; good = refl; parts = and_from _ _ said.sound refl; fit = said.fit; written = part_row x (codes "Left") m.0 s b word said }

    right_row : (x : Node) (s u : Ty) → out-Body n.body ≡ body.Prim name notes (x ∷ []) → bytes_eq name (codes "Right") ≡ true → made value.Right (storage_read u x) ≡ Ok v → Row n (ty.Or s u) v
    right_row x s u b word h =
        let m = made_ok value.Right (storage_read u x) v h in
        let is : roll-Val (one.Right m.0) ≡ v = value.rolls-Right m.0 ∙ m.2 in
        let said = ((parts (one.Right m.0) is).0 u x).said m.1 in
        record { level = one.Right m.0; is = is; good = refl; parts = and_from _ _ said.sound refl; fit = said.fit; written = part_row x (codes "Right") m.0 u b word said }

    or_row : (is_left : Bool) (x : Node) (s u : Ty) → out-Body n.body ≡ body.Prim name notes (x ∷ []) → bytes_eq name (codes "Left") ≡ is_left →
        (let r : Read Val = if is_left then made value.Left (storage_read s x) else if bytes_eq name (codes "Right") then made value.Right (storage_read u x) else fault Shape n.at in r ≡ Ok v) → Row n (ty.Or s u) v
    or_row true x s u b word h = left_row x s u b word h
    or_row false x s u b word h =
        let both = if_ok (bytes_eq name (codes "Right")) (made value.Right (storage_read u x)) _ v h in
        right_row x s u b both.0 both.1

    with_one_row : (x : Node) (τ : Ty-F Ty) → out-Body n.body ≡ body.Prim name notes (x ∷ []) → with_one n.at name (reader x) τ ≡ Ok v → Row n τ v
    with_one_row x (ty.Option s) b h = let both = if_ok (bytes_eq name (codes "Some")) (made value.Some (storage_read s x)) _ v h in some_row x s b both.0 both.1
    with_one_row x (ty.Or s u) b h = or_row (bytes_eq name (codes "Left")) x s u b refl h
    with_one_row x τ b h = absurd cc

  -- ---- pairs, lists, sets and maps

  pair_row : (t : Ty) (all : List Node) → pair n.at (map reader all) t ≡ Ok v → ((a b : Val) → are_items (codes "Pair") (is_written a) (is_written b) all ≡ true → is_comb_body (is_written a) (is_written b) (out-Body n.body) ≡ true) → Row n (out-Ty t) v
  pair_row t all h comb =
      let typed = pair_typed n.at t all v h in
      let said = pair_said n.at t typed.0 typed.1 all v typed.2 parts h in
      record {
        level = one.Pair said.first said.second;
        is = said.is;
        good = refl;
        parts = said.sound;
        fit = ap (fits_level (on_parts fits (one.Pair said.first said.second))) typed.2 ∙ said.fit;
        written = comb said.first said.second said.written;
      }

  applied_pair : (t : Ty) (name : List ℕ) (notes : List (List ℕ)) (x y : Node) (more : List Node) → out-Body n.body ≡ body.Prim name notes (x ∷ y ∷ more) →
      applied n.at name (map reader (x ∷ y ∷ more)) t ≡ Ok v → Row n (out-Ty t) v
  applied_pair t name notes x y more b h =
      let both = if_ok (bytes_eq name (codes "Pair")) (pair n.at (map reader (x ∷ y ∷ more)) t) _ v h in
      pair_row t (x ∷ y ∷ more) both.1 (λ a c w. ap (is_comb_body (is_written a) (is_written c)) b ∙ and_from _ _ both.0 w)

  fewer : {A : Type 0} (f : A → Test) (xs : List A) (nodes : List Node) → all_are (map f xs) nodes ≡ true → is_countable (map reader nodes) ≡ true → is_countable xs ≡ true
  fewer f xs nodes w few = rw (← length-map xs f, lengths (map f xs) nodes w, ← length-map nodes reader) few

  sequence_row : (t : Ty) (nodes : List Node) (τ : Ty-F Ty) → out-Ty t ≡ τ → out-Body n.body ≡ body.Seq nodes → sequence n.at (map reader nodes) t τ ≡ Ok v → Row n τ v
  sequence_row t nodes (ty.Pair s u) e b h =
      subst (λ (τ : Ty-F Ty). Row n τ v) e (pair_row t nodes h (λ a c w. ap (is_comb_body (is_written a) (is_written c)) b ∙ w))
  sequence_row t nodes (ty.List item) e b h =
      let both = if_ok (is_countable (map reader nodes)) (made value.List (items item (map reader nodes))) _ v h in
      let m = made_ok value.List (items item (map reader nodes)) v both.1 in
      let is : roll-Val (one.List m.0) ≡ v = value.rolls-List m.0 ∙ m.2 in
      let said = items_said item m.0 nodes (parts (one.List m.0) is) m.1 in
      record {
        level = one.List m.0;
        is = is;
        good = fewer is_written m.0 nodes said.written both.0;
        parts = said.sound;
        fit = said.fit;
        written = ap (is_sequence_body (map is_written m.0)) b ∙ said.written;
      }
  sequence_row t nodes (ty.Set item) e b h =
      let both = if_ok (is_countable (map reader nodes)) (made value.Set (ascending item None (map reader nodes))) _ v h in
      let m = made_ok value.Set (ascending item None (map reader nodes)) v both.1 in
      let is : roll-Val (one.Set m.0) ≡ v = value.rolls-Set m.0 ∙ m.2 in
      let all = set_said item m.0 nodes (parts (one.Set m.0) is) m.1 in
      let said = all.0 in
      record {
        level = one.Set m.0;
        is = is;
        good = and_from _ _ (fewer is_written m.0 nodes said.written both.0) all.1;
        parts = said.sound;
        fit = said.fit;
        written = ap (is_sequence_body (map is_written m.0)) b ∙ said.written;
      }
  sequence_row t nodes (ty.Map k w) e b h =
      let both = if_ok (is_countable (map reader nodes)) (made value.Map (entries k w None (map reader nodes))) _ v h in
      let m = made_ok value.Map (entries k w None (map reader nodes)) v both.1 in
      let is : roll-Val (one.Map m.0) ≡ v = value.rolls-Map m.0 ∙ m.2 in
      let said = entries_said k w None m.0 nodes (parts (one.Map m.0) is) m.1 in
      let few : is_countable (map (writing k w) m.0) ≡ true = fewer is_entry (map (writing k w) m.0) nodes said.written both.0 in
      record {
        level = one.Map m.0;
        is = is;
        good = and_from _ _ (rw (← length-map m.0 (writing k w)) few) said.up;
        parts = said.sound;
        fit = said.fit;
        written = ap (is_sequence_body (map is_entry (map (writing k w) m.0))) b ∙ said.written;
      }
  sequence_row t nodes τ e b h = absurd cc

  -- ---- each kind of node

  pub row : (t : Ty) (b : Body-F Body Node) → out-Body n.body ≡ b → value_at n.at (readers b) t ≡ Ok v → Row n (out-Ty t) v
  row t (body.Int z) b h = number_row z (out-Ty t) b h
  row t (body.Text s) b h = string_row s (out-Ty t) b h
  row t (body.Bytes s) b h = bytes_row s (out-Ty t) b h
  row t (body.Prim name notes []) b h = alone_row name notes (out-Ty t) b h
  row t (body.Prim name notes (x ∷ [])) b h = with_one_row name notes x (out-Ty t) b h
  row t (body.Prim name notes (x ∷ y ∷ more)) b h = applied_pair t name notes x y more b h
  row t (body.Seq nodes) b h = sequence_row t nodes (out-Ty t) refl b h
