-- What is read of a node as the parameter is the type and the names of entries that it is written for.
use Rattle.std.proofs.Common.{◌≡◌, ℕ, Bool, true, false, List, [], ◌∷◌, map, Option, None, Some, Ok, refl, ap, sym, subst, ◌∙◌}
use Rattle.std.specs.Prelude.{◌↔◌, codes, if◌then◌else◌}
use Rattle.std.specs.Option.{option_and_then, option_map_or}
use Rattle.std.specs.Str.{bytes_eq}
use Rattle.std.proofs.lemmas.Slice.Eq.{bytes_eq-Decides}
use Rattle.value_core.specs.declared.ty.Ty.{Ty}
use Rattle.value_core.specs.declared.ty.Ty.TheVariants as kind
use Rattle.micheline_text.specs.declared.node.Node.{Node}
use Rattle.micheline_text.specs.declared.node.Body.{Body}
use Rattle.micheline_text.specs.declared.node.Body.TheOpen as body
use Rattle.micheline_text.specs.declared.node.Body.TheOpen.{Body-F}
use Rattle.micheline_text.specs.declared.node.Body.TheViews.{out-Body}
use Rattle.michelson_code.specs.Entries.{NamedEntry}
use Rattle.michelson_reader.specs.Entries.{both, entries_below, entries_level, entries_of, entry_in, in_order, own}
use Rattle.michelson_reader.specs.Script.{IsParameter}
use Rattle.michelson_reader.specs.ScriptFaults.{Parameter, below, either, other, parameter_at, parameter_read}
use Rattle.michelson_reader.specs.TypeFaults.{Read, no_form, then_read, type_read}
use Rattle.michelson_reader.specs.Types.{is_type}
use Rattle.michelson_reader.proofs.NodeInduction.{Each, induction, parts_of}
use Rattle.michelson_reader.proofs.ParameterLevels.{entries-level, parameter-level, parts_entries, reader, readers}
use Rattle.michelson_reader.proofs.ReadLemmas.{no_form-fails, read_both, read_first, same_found, same_read}
use Rattle.michelson_reader.proofs.TypeLaws.{type-read}
use Rattle.michelson_reader.proofs.TypeNodes.{read_shown}

abbrev Law : Node → Type 0
Law n = (t : Ty) (names : List NamedEntry) → (parameter_read n ≡ Ok (t, names)) ↔ IsParameter t names n

-- what is read and the names that stand there agree
abbrev Agree : Node → Read Parameter → Option (List NamedEntry) → Type 0
Agree n r found = (t : Ty) (names : List NamedEntry) → (r ≡ Ok (t, names)) ↔ ((is_type t n ≡ true) × (found ≡ Some names))

-- ---- any type but an `or`

other_agrees : (n : Node) (name : Option (List ℕ)) → Agree n (other n name) (Some (own name))
other_agrees n name t names = (read, written)
  where
    read : other n name ≡ Ok (t, names) → (is_type t n ≡ true) × (Some (own name) ≡ Some names)
    read e =
        let first = read_first (λ t. Ok (t, own name)) (type_read n) (t, names) e in
        let same : (first.0, own name) ≡ (t, names) = same_read (first.0, own name) (t, names) (Ok (first.0, own name)) refl first.2 in
        (ap (λ (p : Parameter). is_type p.0 n) (sym same) ∙ (type-read n first.0).0 first.1, ap (λ (p : Parameter). Some p.1) same)

    written : (is_type t n ≡ true) × (Some (own name) ≡ Some names) → other n name ≡ Ok (t, names)
    written h =
        let same : own name ≡ names = same_found (own name) names (Some (own name)) refl h.1 in
        read_both (λ t. Ok (t, own name)) (type_read n) t (t, names) ((type-read n t).1 h.0) (ap (λ (l : List NamedEntry). Ok (t, l)) same)

-- ---- an `or`

both_found : (name : Option (List ℕ)) (left right : Option (List NamedEntry)) (names : List NamedEntry) → both name left right ≡ Some names →
    (ls : List NamedEntry) × (rs : List NamedEntry) × (left ≡ Some ls) × (right ≡ Some rs) × (in_order name ls rs ≡ names)
both_found name None right names e = absurd cc
both_found name (Some ls) None names e = absurd cc
both_found name (Some ls) (Some rs) names e = (ls, rs, refl, refl, same_found (in_order name ls rs) names (Some (in_order name ls rs)) refl e)

module _ (n x y : Node) (notes : List (List ℕ)) (shown : out-Body n.body ≡ body.Prim (codes "or") notes (x ∷ y ∷ [])) (name : Option (List ℕ)) where
  or_read : type_read n ≡ then_read (type_read x) (λ s. then_read (type_read y) (λ t. Ok (kind.Or s t)))
  or_read = read_shown n (codes "or") (x ∷ y ∷ []) (notes, shown)

  is_or : (s u : Ty) → is_type s x ≡ true → is_type u y ≡ true → is_type (kind.Or s u) n ≡ true
  is_or s u left right =
      (type-read n (kind.Or s u)).0
      (or_read ∙ read_both (λ s. then_read (type_read y) (λ t. Ok (kind.Or s t))) (type_read x) s (kind.Or s u) ((type-read x s).1 left)
      (read_both (λ t. Ok (kind.Or s t)) (type_read y) u (kind.Or s u) ((type-read y u).1 right) refl))

  or_parts : (t : Ty) → is_type t n ≡ true → (s : Ty) × (u : Ty) × (is_type s x ≡ true) × (is_type u y ≡ true) × (kind.Or s u ≡ t)
  or_parts t h =
      let left = read_first (λ s. then_read (type_read y) (λ t. Ok (kind.Or s t))) (type_read x) t (sym or_read ∙ (type-read n t).1 h) in
      let right = read_first (λ t. Ok (kind.Or left.0 t)) (type_read y) t left.2 in
      (left.0, right.0, (type-read x left.0).0 left.1, (type-read y right.0).0 right.1, same_read (kind.Or left.0 right.0) t (Ok (kind.Or left.0 right.0)) refl right.2)

  or_agrees : Law x → Law y → Agree n (either name (reader x) (reader y)) (both name (entries_of x) (entries_of y))
  or_agrees first second t names = (read, written)
    where
      joined : Parameter → Parameter → Parameter
      joined p q = (kind.Or p.0 q.0, in_order name p.1 q.1)

      read : either name (reader x) (reader y) ≡ Ok (t, names) → (is_type t n ≡ true) × (both name (entries_of x) (entries_of y) ≡ Some names)
      read e =
          let left = read_first (λ s. then_read (reader y).read (λ t. Ok (kind.Or s.0 t.0, in_order name s.1 t.1))) (reader x).read (t, names) e in
          let right = read_first (λ t. Ok (kind.Or left.0.0 t.0, in_order name left.0.1 t.1)) (reader y).read (t, names) left.2 in
          let p = left.0 in
          let q = right.0 in
          let same : (kind.Or p.0 q.0, in_order name p.1 q.1) ≡ (t, names) = same_read (kind.Or p.0 q.0, in_order name p.1 q.1) (t, names) (Ok (kind.Or p.0 q.0, in_order name p.1 q.1)) refl right.2 in
          let is_left = (first p.0 p.1).0 left.1 in
          let is_right = (second q.0 q.1).0 right.1 in
          let found : both name (entries_of x) (entries_of y) ≡ Some (in_order name p.1 q.1) = λ i. both name (is_left.1 i) (is_right.1 i) in
          (ap (λ (r : Parameter). is_type r.0 n) (sym same) ∙ is_or p.0 q.0 is_left.0 is_right.0, found ∙ ap (λ (r : Parameter). Some r.1) same)

      written : (is_type t n ≡ true) × (both name (entries_of x) (entries_of y) ≡ Some names) → either name (reader x) (reader y) ≡ Ok (t, names)
      written h =
          let parts = or_parts t h.0 in
          let found = both_found name (entries_of x) (entries_of y) names h.1 in
          let left = (first parts.0 found.0).1 (parts.2, found.2) in
          let right = (second parts.1 found.1).1 (parts.3, found.3) in
          read_both (λ s. then_read (reader y).read (λ t. Ok (kind.Or s.0 t.0, in_order name s.1 t.1))) (reader x).read (parts.0, found.0) (t, names) left
          (read_both (λ t. Ok (kind.Or parts.0 t.0, in_order name found.0 t.1)) (reader y).read (parts.1, found.1) (t, names) right
          (λ i. Ok (parts.4 i, found.4 i)))

-- ---- nodes

module _ (n : Node) (word : List ℕ) (notes : List (List ℕ)) where
  below_agrees : (args : List Node) → out-Body n.body ≡ body.Prim word notes args → Each Law args → (name : Option (List ℕ)) →
      Agree n (below n word (map reader args) name) (entries_below word (map entries_of args) name)
  below_agrees [] shown laws name = other_agrees n name
  below_agrees (x ∷ []) shown laws name = other_agrees n name
  below_agrees (x ∷ y ∷ []) shown laws name = by_test (bytes_eq word (codes "or")) refl
    where
      -- what is read and found by the test
      ByTest : Bool → Type 0
      ByTest b = Agree n (if b then either name (reader x) (reader y) else other n name) (if b then both name (entries_of x) (entries_of y) else Some (own name))

      by_test : (b : Bool) → bytes_eq word (codes "or") ≡ b → ByTest (bytes_eq word (codes "or"))
      by_test true h =
          let same : word ≡ codes "or" = (bytes_eq-Decides word (codes "or")).0 h in
          subst (λ (b : Bool). ByTest b) (sym h) (or_agrees n x y notes (shown ∙ ap (λ (w : List ℕ). body.Prim w notes (x ∷ y ∷ [])) same) name laws.0 laws.1.0)
      by_test false h = subst (λ (b : Bool). ByTest b) (sym h) (other_agrees n name)
  below_agrees (x ∷ y ∷ z ∷ more) shown laws name = other_agrees n name

  prim_agrees : (args : List Node) → out-Body n.body ≡ body.Prim word notes args → Each Law args → (found : Option (Option (List ℕ))) →
      Agree n (option_map_or (below n word (map reader args)) found (no_form n.at word)) (option_and_then (entries_below word (map entries_of args)) found)
  prim_agrees args shown laws None t names = (λ e. absurd (no_form-fails n.at word (t, names) e), λ h. absurd (let no = h.1 in cc))
  prim_agrees args shown laws (Some name) t names = below_agrees args shown laws name t names

level_agrees : (n : Node) (x : Body-F Body Node) → out-Body n.body ≡ x → Each Law (parts_of x) → Agree n (parameter_at n (readers x)) (entries_level (parts_entries x))
level_agrees n (body.Prim word notes args) shown laws = prim_agrees n word notes args shown laws (entry_in notes)
level_agrees n _ shown laws = other_agrees n None

law : (n : Node) → Law n
law = induction Law (λ n laws t names.
    let agree = level_agrees n (out-Body n.body) refl laws t names in (
      λ e. let both = agree.0 (sym (parameter-level n) ∙ e) in (both.0, entries-level n ∙ both.1),
      λ h. parameter-level n ∙ agree.1 (h.0, sym (entries-level n) ∙ h.1),
    ))

-- what is read of a node as the parameter is the type and the names of entries that it is written for
pub parameter-read : (n : Node) (t : Ty) (names : List NamedEntry) → (parameter_read n ≡ Ok (t, names)) ↔ IsParameter t names n
parameter-read n t names = law n t names
