-- What is read of an operand is what it is written as: numbers, names of entries, types, pushed data, and code.
use Rattle.std.proofs.Common.{◌≡◌, ℕ, ◌≤◌, ◌↔◌, ℤ, pos, negsuc, Bool, true, false, List, [], ◌∷◌, Option, None, Some, Result, Ok, Err, refl, ap, sym, ◌∙◌}
use Rattle.std.specs.Prelude.{IsTrue, ◌&&◌, nat_le, if◌then◌else◌}
use Rattle.std.specs.Cmp.Lexicographic.{pointwise}
use Rattle.std.specs.Option.{option_map_or}
use Rattle.std.specs.Ordering.{int_eq}
use Rattle.std.specs.Str.{bytes_eq}
use Rattle.std.proofs.lemmas.Bool.{and_from, and_parts, and_right, le-leb, leb-true, true≢false}
use Rattle.std.proofs.lemmas.Bool.Decides.{Decides-int_eq}
use Rattle.std.proofs.lemmas.Slice.Eq.{bytes_eq-Decides}
use Rattle.value_core.specs.declared.ty.Ty.{Ty}
use Rattle.value_core.specs.declared.val.Val.{Val}
use Rattle.value_core.specs.Leaves.{is_name}
use Rattle.value_core.specs.Size.{size_of}
use Rattle.micheline_text.specs.declared.node.Node.{Node}
use Rattle.micheline_text.specs.declared.node.Body.{Body}
use Rattle.micheline_text.specs.declared.node.Body.TheOpen as one
use Rattle.micheline_text.specs.declared.node.Body.TheOpen.{Body-F}
use Rattle.micheline_text.specs.declared.node.Body.TheViews.{out-Body}
use Rattle.data_nodes.specs.declared.fault.DataFault.{DataFault}
use Rattle.data_nodes.specs.Data.{IsData, is_written}
use Rattle.data_nodes.specs.Faults.{data_read}
use Rattle.data_nodes.specs.Nodes.{is_numeral, is_numeral_body}
use Rattle.michelson_reader.specs.declared.fault.ReadFault.TheVariants as fault
use Rattle.michelson_code.specs.Printable.{is_count, is_datum}
use Rattle.michelson_reader.specs.Code.{is_entry}
use Rattle.michelson_reader.specs.CodeFaults.{data_fault, entry, left_out_in, number, number_body, pushed, told}
use Rattle.michelson_reader.specs.Entries.{entry_in, names_in, only_name}
use Rattle.michelson_reader.proofs.ReadLemmas.{no_form-fails}

-- ---- numbers

in_range : (at least m k : ℕ) (within : Bool) → is_count least m ≡ within → (if within then Ok m else Err (fault.Arity at)) ≡ Ok k →
    (is_count least k && int_eq (pos m) (pos k)) ≡ true
in_range at least m k true is h =
    let same : m ≡ k = cc in
    and_from _ _ (ap (is_count least) (sym same) ∙ is) ((Decides-int_eq (pos m) (pos k)).1 (ap pos same))
in_range at least m k false is h = cc

is_of_number : (at least place k : ℕ) (b : Body-F Body Node) → number_body at least place b ≡ Ok k → (is_count least k && is_numeral_body (pos k) b) ≡ true
is_of_number at least place k (one.Int (pos m)) h = in_range at least m k (is_count least m) refl h
is_of_number at least place k (one.Int (negsuc m)) h = cc
is_of_number at least place k (one.Prim name notes args) h = absurd (no_form-fails place name k h)
is_of_number at least place k (one.Seq nodes) h = cc
is_of_number at least place k (one.Text s) h = cc
is_of_number at least place k (one.Bytes s) h = cc

of_number : (at least place k : ℕ) (b : Body-F Body Node) → is_count least k ≡ true → is_numeral_body (pos k) b ≡ true → number_body at least place b ≡ Ok k
of_number at least place k (one.Int z) count same =
    ap (λ (y : ℤ). number_body at least place (one.Int y)) ((Decides-int_eq z (pos k)).0 same)
    ∙ ap (λ (within : Bool). if within then Ok k else Err (fault.Arity at)) count
of_number at least place k (one.Prim name notes args) count same = cc
of_number at least place k (one.Seq nodes) count same = cc
of_number at least place k (one.Text s) count same = cc
of_number at least place k (one.Bytes s) count same = cc

pub number-read : (at least k : ℕ) (n : Node) → (number at least n ≡ Ok k) ↔ IsTrue (is_count least k && is_numeral (pos k) n)
number-read at least k n = (
  is_of_number at least n.at k (out-Body n.body),
  λ h. let parts = and_parts _ _ h in of_number at least n.at k (out-Body n.body) parts.0 parts.1,
)

-- ---- names of entries

abbrev is_of_names : Option (List ℕ) → List (List ℕ) → Bool
is_of_names None names = pointwise bytes_eq names []
is_of_names (Some name) names = pointwise bytes_eq names (name ∷ []) && is_name name

one_name : (m : List ℕ) (e : Option (List ℕ)) (fit : Bool) → is_name m ≡ fit → (if fit then Some (Some m) else None) ≡ Some e → is_of_names e (m ∷ []) ≡ true
one_name m None true is h = cc
one_name m (Some k) true is h =
    let same : m ≡ k = cc in
    and_from _ _ (and_from _ _ ((bytes_eq-Decides m k).1 same) refl) (ap is_name (sym same) ∙ is)
one_name m e false is h = cc

names_are : (names : List (List ℕ)) (e : Option (List ℕ)) → only_name names ≡ Some e → is_of_names e names ≡ true
names_are [] None h = refl
names_are [] (Some name) h = cc
names_are (m ∷ []) e h = one_name m e (is_name m) refl h
names_are (m ∷ k ∷ more) e h = cc

are_names : (names : List (List ℕ)) (e : Option (List ℕ)) → is_of_names e names ≡ true → only_name names ≡ Some e
are_names [] None h = refl
are_names [] (Some name) h = cc
are_names (m ∷ []) None h = cc
are_names (m ∷ []) (Some name) h =
    let parts = and_parts _ _ h in
    let same : m ≡ name = (bytes_eq-Decides m name).0 (and_parts _ _ parts.0).0 in
    ap (λ (fit : Bool). if fit then Some (Some m) else None) (ap is_name same ∙ parts.1) ∙ ap (λ (x : List ℕ). Some (Some x)) same
are_names (m ∷ k ∷ more) None h = cc
are_names (m ∷ k ∷ more) (Some name) h = absurd (true≢false (sym (and_parts _ _ h).0 ∙ and_right _ _ refl))

found_entry : (at : ℕ) (o : Option (Option (List ℕ))) (e : Option (List ℕ)) → option_map_or (λ x. Ok x) o (Err (fault.Arity at)) ≡ Ok e → o ≡ Some e
found_entry at (Some x) e h = cc
found_entry at None e h = cc

is_entry_is : (e : Option (List ℕ)) (notes : List (List ℕ)) → is_entry (Some e) notes ≡ is_of_names e (names_in notes)
is_entry_is None notes = refl
is_entry_is (Some name) notes = refl

pub entry-read : (at : ℕ) (e : Option (List ℕ)) (notes : List (List ℕ)) → (entry at notes ≡ Ok e) ↔ IsTrue (is_entry (Some e) notes)
entry-read at e notes = (
  λ h. is_entry_is e notes ∙ names_are (names_in notes) e (found_entry at (entry_in notes) e h),
  λ h. ap (λ (o : Option (Option (List ℕ))). option_map_or (λ x. Ok x) o (Err (fault.Arity at))) (are_names (names_in notes) e (sym (is_entry_is e notes) ∙ h)),
)

-- ---- pushed data

no_data : {A : Type 0} (f : DataFault) (found : Option (ℕ × List ℕ)) (v : A) → data_fault f found ≡ Ok v → ⊥
no_data f None v h = cc
no_data f (Some p) v h = at (nat_le p.0 f.at) h
  where
    at : (b : Bool) → (if b then Err (fault.LeftOut p.0 p.1) else Err (fault.Data f)) ≡ Ok v → ⊥
    at true h = cc
    at false h = cc

not_told : (n : Node) (r : Result Val DataFault) (v : Val) → told n r ≡ Ok v → r ≡ Ok v
not_told n (Ok x) v h = cc
not_told n (Err f) v h = absurd (no_data f (left_out_in n) v h)

module _ (data-read : (n : Node) (t : Ty) (v : Val) → (data_read t n ≡ Ok v) ↔ (IsData t n v × (size_of v ≤ 4096))) where
  pub pushed-read : (t : Ty) (v : Val) (n : Node) → (pushed t n ≡ Ok v) ↔ IsTrue (is_datum t v && is_written v n)
  pushed-read t v n = (
    λ h. let is = (data-read n t v).0 (not_told n (data_read t n) v h) in
        and_from _ _ (and_from _ _ is.0.0 (le-leb (size_of v) 4096 is.1)) is.0.1,
    λ h. let parts = and_parts _ _ h in
        let value = and_parts _ _ parts.0 in
        ap (told n) ((data-read n t v).1 ((value.0, parts.1), leb-true (size_of v) 4096 value.1)),
  )
