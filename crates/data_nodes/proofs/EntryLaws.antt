-- The entries of maps: what is read of nodes is what they say.
use Rattle.std.proofs.Common.{◌≡◌, ℕ, Bool, true, false, List, [], ◌∷◌, map, Option, Some, None, Ok, Err, codes, refl, sym, ap, ◌∙◌}
use Rattle.std.specs.Prelude.{◌&&◌, if◌then◌else◌}
use Rattle.std.specs.List.{list_all}
use Rattle.std.specs.Str.{bytes_eq}
use Rattle.std.proofs.lemmas.Bool.{and_from, and_parts}
use Rattle.value_core.specs.declared.ty.Ty.{Ty}
use Rattle.value_core.specs.declared.val.Val.{Val}
use Rattle.value_core.specs.Layer.{flat}
use Rattle.value_core.specs.Sound.{ascends, is_sound}
use Rattle.value_core.specs.Typed.{fits}
use Rattle.value_core.proofs.Levels.{Each}
use Rattle.micheline_text.specs.declared.node.Node.{Node}
use Rattle.micheline_text.specs.declared.node.Body.{Body}
use Rattle.micheline_text.specs.declared.node.Body.TheOpen as body
use Rattle.micheline_text.specs.declared.node.Body.TheOpen.{Body-F}
use Rattle.micheline_text.specs.declared.node.Body.TheViews.{out-Body}
use Rattle.data_nodes.specs.Nodes.{Test, all_are, is_applied_body}
use Rattle.data_nodes.specs.Data.{is_entry, is_written}
use Rattle.value_core.specs.Lasts.{is_above}
use Rattle.data_nodes.specs.Readers.{Read, Reader, entries, then_read}
use Rattle.data_nodes.specs.Faults.{entry_at, key_and_value, reader, storage_read}
use Rattle.data_nodes.proofs.NodeLevels.{reader-level, readers}
use Rattle.data_nodes.proofs.ItemLaws.{Agree, if_ok, then_ok}

module _ (k v : Ty) where
  -- ---- one entry

  record EntrySaid (last : Option Val) (b : Body-F Body Node) (e : Val × Val) : Type 0 where
    key : is_sound e.0 ≡ true
    item : is_sound e.1 ≡ true
    fit : (fits e.0 k && fits e.1 v) ≡ true
    written : is_applied_body (codes "Elt") (is_written e.0 ∷ is_written e.1 ∷ []) b ≡ true
    up : is_above last e.0 ≡ true

  parts_said : (at : ℕ) (last : Option Val) (name : List ℕ) (notes : List (List ℕ)) (x y : Node) (e : Val × Val) → Agree e.0 → Agree e.1 →
      entry_at at (readers (body.Prim name notes (x ∷ y ∷ []))) last k v ≡ Ok e → EntrySaid last (body.Prim name notes (x ∷ y ∷ [])) e
  parts_said at last name notes x y e f g r =
      let word = if_ok (bytes_eq name (codes "Elt")) (key_and_value (reader x) (reader y) last k v) _ e r in
      let key = then_ok (storage_read k x) (λ key. if is_above last key then then_read (storage_read v y) (λ item. Ok (key, item)) else Err _) e word.1 in
      let up = if_ok (is_above last key.0) (then_read (storage_read v y) (λ item. Ok (key.0, item))) _ e key.2 in
      let item = then_ok (storage_read v y) (λ item. Ok (key.0, item)) e up.1 in
      let both : (key.0, item.0) ≡ e = cc in
      let first : key.0 ≡ e.0 = ap (λ (p : Val × Val). p.0) both in
      let second : item.0 ≡ e.1 = ap (λ (p : Val × Val). p.1) both in
      let one = (f k x).said (key.1 ∙ ap (λ (a : Val). Ok a) first) in
      let other = (g v y).said (item.1 ∙ ap (λ (a : Val). Ok a) second) in
      record {
        key = one.sound;
        item = other.sound;
        fit = and_from _ _ one.fit other.fit;
        written = and_from _ _ word.0 (and_from _ _ one.written (and_from _ _ other.written refl));
        up = ap (is_above last) (sym first) ∙ up.0;
      }

  entry_said : (at : ℕ) (last : Option Val) (b : Body-F Body Node) (e : Val × Val) → Agree e.0 → Agree e.1 → entry_at at (readers b) last k v ≡ Ok e → EntrySaid last b e
  entry_said at last (body.Prim name notes []) e f g r = absurd cc
  entry_said at last (body.Prim name notes (x ∷ [])) e f g r = absurd cc
  entry_said at last (body.Prim name notes (x ∷ y ∷ [])) e f g r = parts_said at last name notes x y e f g r
  entry_said at last (body.Prim name notes (x ∷ y ∷ z ∷ more)) e f g r = absurd cc
  entry_said at last b e f g r = absurd cc

  entry_read : (at : ℕ) (last : Option Val) (b : Body-F Body Node) (e : Val × Val) → Agree e.0 → Agree e.1 → EntrySaid last b e → entry_at at (readers b) last k v ≡ Ok e
  entry_read at last (body.Prim name notes []) e f g s = let none = (and_parts (bytes_eq name (codes "Elt")) _ s.written).1 in absurd cc
  entry_read at last (body.Prim name notes (x ∷ [])) e f g s =
      let parts = (and_parts (bytes_eq name (codes "Elt")) _ s.written).1 in
      let none = (and_parts (is_written e.0 x) _ parts).1 in absurd cc
  entry_read at last (body.Prim name notes (x ∷ y ∷ [])) e f g s =
      let word = (and_parts (bytes_eq name (codes "Elt")) _ s.written).0 in
      let parts = (and_parts (bytes_eq name (codes "Elt")) _ s.written).1 in
      let others = (and_parts (is_written e.0 x) _ parts).1 in
      let key : storage_read k x ≡ Ok e.0 = (f k x).read (record { sound = s.key; fit = (and_parts (fits e.0 k) _ s.fit).0; written = (and_parts (is_written e.0 x) _ parts).0 }) in
      let item : storage_read v y ≡ Ok e.1 = (g v y).read (record { sound = s.item; fit = (and_parts (fits e.0 k) _ s.fit).1; written = (and_parts (is_written e.1 y) _ others).0 }) in
      rw (word, key, s.up, item) refl
  entry_read at last (body.Prim name notes (x ∷ y ∷ z ∷ more)) e f g s =
      let parts = (and_parts (bytes_eq name (codes "Elt")) _ s.written).1 in
      let others = (and_parts (is_written e.0 x) _ parts).1 in
      let none = (and_parts (is_written e.1 y) _ others).1 in absurd cc
  entry_read at last b e f g s = let none : false ≡ true = s.written in absurd cc

  -- ---- all entries

  abbrev fitting : Val × Val → (Ty → Bool) × (Ty → Bool)
  fitting e = (fits e.0, fits e.1)

  abbrev pub writing : Val × Val → Test × Test
  writing e = (is_written e.0, is_written e.1)

  -- the keys ascend from the last one on
  abbrev pub keys_above : Option Val → List (Val × Val) → Bool
  keys_above None es = ascends (map (λ e. e.0) es)
  keys_above (Some last) es = ascends (last ∷ map (λ e. e.0) es)

  keys-none : (last : Option Val) → keys_above last [] ≡ true
  keys-none None = refl
  keys-none (Some last) = refl

  keys-cons : (last : Option Val) (e : Val × Val) (es : List (Val × Val)) → keys_above last (e ∷ es) ≡ (is_above last e.0 && keys_above (Some e.0) es)
  keys-cons None e es = refl
  keys-cons (Some last) e es = refl

  pub record AllSaid (last : Option Val) (es : List (Val × Val)) (nodes : List Node) : Type 0 where
    pub sound : list_all is_sound (flat es) ≡ true
    pub fit : list_all (λ (e : (Ty → Bool) × (Ty → Bool)). e.0 k && e.1 v) (map fitting es) ≡ true
    pub written : all_are (map is_entry (map writing es)) nodes ≡ true
    pub up : keys_above last es ≡ true

  pub entries_said : (last : Option Val) (es : List (Val × Val)) (nodes : List Node) → Each Agree (flat es) → entries k v last (map reader nodes) ≡ Ok es → AllSaid last es nodes
  entries_said last [] [] h r = record { sound = refl; fit = refl; written = refl; up = keys-none last }
  entries_said last [] (n ∷ nodes) h r =
      let one = then_ok ((reader n).entry last k v) (λ e. then_read (entries k v (Some e.0) (map reader nodes)) (λ es. Ok (e ∷ es))) [] r in
      let rest = then_ok (entries k v (Some one.0.0) (map reader nodes)) (λ es. Ok (one.0 ∷ es)) [] one.2 in
      absurd cc
  entries_said last (e ∷ es) [] h r = absurd cc
  entries_said last (e ∷ es) (n ∷ nodes) h r =
      let one = then_ok ((reader n).entry last k v) (λ d. then_read (entries k v (Some d.0) (map reader nodes)) (λ ds. Ok (d ∷ ds))) (e ∷ es) r in
      let rest = then_ok (entries k v (Some one.0.0) (map reader nodes)) (λ ds. Ok (one.0 ∷ ds)) (e ∷ es) one.2 in
      let head : one.0 ≡ e = cc in
      let tail : rest.0 ≡ es = cc in
      let first : EntrySaid last (out-Body n.body) e =
      entry_said n.at last (out-Body n.body) e h.0 h.1.0 (sym (ap (λ (r : Reader). r.entry last k v) (reader-level n)) ∙ one.1 ∙ ap (λ (d : Val × Val). Ok d) head) in
      let others = entries_said (Some e.0) es nodes h.1.1
      (ap (λ (d : Val × Val). entries k v (Some d.0) (map reader nodes)) (sym head) ∙ rest.1 ∙ ap (λ (ds : List (Val × Val)). Ok ds) tail) in
      record {
        sound = and_from _ _ first.key (and_from _ _ first.item others.sound);
        fit = and_from _ _ first.fit others.fit;
        written = and_from _ _ first.written others.written;
        up = keys-cons last e es ∙ and_from _ _ first.up others.up;
      }

  pub entries_read : (last : Option Val) (es : List (Val × Val)) (nodes : List Node) → Each Agree (flat es) → AllSaid last es nodes → entries k v last (map reader nodes) ≡ Ok es
  entries_read last [] [] h a = refl
  entries_read last [] (n ∷ nodes) h a = let none : false ≡ true = a.written in absurd cc
  entries_read last (e ∷ es) [] h a = let none : false ≡ true = a.written in absurd cc
  entries_read last (e ∷ es) (n ∷ nodes) h a =
      let items = (and_parts (is_sound e.0) _ a.sound).1 in
      let up = sym (keys-cons last e es) ∙ a.up in
      let first : (reader n).entry last k v ≡ Ok e = ap (λ (r : Reader). r.entry last k v) (reader-level n) ∙ entry_read n.at last (out-Body n.body) e h.0 h.1.0 (record {
        key = (and_parts (is_sound e.0) _ a.sound).0;
        item = (and_parts (is_sound e.1) _ items).0;
        fit = (and_parts (fits e.0 k && fits e.1 v) _ a.fit).0;
        written = (and_parts (is_entry (writing e) n) _ a.written).0;
        up = (and_parts (is_above last e.0) _ up).0;
      }) in
      let others : entries k v (Some e.0) (map reader nodes) ≡ Ok es = entries_read (Some e.0) es nodes h.1.1 (record {
        sound = (and_parts (is_sound e.1) _ items).1;
        fit = (and_parts (fits e.0 k && fits e.1 v) _ a.fit).1;
        written = (and_parts (is_entry (writing e) n) _ a.written).1;
        up = (and_parts (is_above last e.0) _ up).1;
      }) in
      ap (λ (r : Read (Val × Val)). then_read r (λ d. then_read (entries k v (Some d.0) (map reader nodes)) (λ ds. Ok (d ∷ ds)))) first
      ∙ ap (λ (r : Read (List (Val × Val))). then_read r (λ ds. Ok (e ∷ ds))) others
