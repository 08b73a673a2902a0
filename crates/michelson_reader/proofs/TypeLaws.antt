-- What is read of a node as a type is the type that it is written for.
use Rattle.std.proofs.Common.{◌≡◌, ℕ, Bool, true, false, List, [], ◌∷◌, map, Some, Ok, refl, ap, sym, subst, ◌∙◌}
use Rattle.std.specs.Prelude.{◌↔◌, IsTrue, codes, if◌then◌else◌}
use Rattle.std.specs.List.{AllByRecursion}
use Rattle.std.specs.Str.{bytes_eq}
use Rattle.std.proofs.lemmas.Bool.{and_from, and_parts}
use Rattle.std.proofs.lemmas.Slice.Eq.{bytes_eq-Decides}
use Rattle.value_core.specs.declared.ty.Ty.{Ty}
use Rattle.value_core.specs.declared.ty.Ty.TheVariants as kind
use Rattle.value_core.specs.declared.ty.Ty.TheVariants.{rolls-Unit, rolls-Bool, rolls-Int, rolls-Nat, rolls-Mutez, rolls-Time, rolls-Text, rolls-Bytes, rolls-Addr, rolls-Option, rolls-Or, rolls-Pair, rolls-List, rolls-Set, rolls-Map, rolls-BigMap, rolls-Contract, rolls-Operation}
use Rattle.value_core.specs.declared.ty.Ty.TheOpen as ty
use Rattle.value_core.specs.declared.ty.Ty.TheOpen.{Ty-F}
use Rattle.value_core.specs.declared.ty.Ty.TheViews.{out-Ty, roll-Ty}
use Rattle.value_core.specs.declared.ty.Ty.TheFolds.{map-Ty}
use Rattle.micheline_text.specs.declared.node.Node.{Node}
use Rattle.micheline_text.specs.declared.node.Body.{Body}
use Rattle.micheline_text.specs.declared.node.Body.TheOpen as body
use Rattle.micheline_text.specs.declared.node.Body.TheOpen.{Body-F}
use Rattle.micheline_text.specs.declared.node.Body.TheViews.{out-Body}
use Rattle.data_nodes.specs.Nodes.{Test, applied as applied_node, are_items, is_applied}
use Rattle.michelson_reader.specs.Names.{named, plain_types, types_of_one, types_of_two}
use Rattle.michelson_reader.specs.TypeFaults.{applied, comb, no_form, then_read, type_at, type_read}
use Rattle.michelson_reader.specs.Types.{is_pair, is_type, type_level}
use Rattle.michelson_reader.proofs.ReadLemmas.{named-found, no_form-fails, read_both, read_by, read_first, same_read}
use Rattle.michelson_reader.proofs.TypeNodes.{Shows, applied_shown, comb_is, is_pair-more, is_pair-two, none_shown, one_shown, read_shown, shown_of_applied, two_shown}
use Rattle.michelson_reader.proofs.TypeLevels.{Each, induction, is_type-level, out-roll, parts_of, read_parts, roll-out, type_read-level}

abbrev Law : Ty → Type 0
Law t = (n : Node) → (type_read n ≡ Ok t) ↔ (is_type t n ≡ true)

-- ---- what is written is read

-- where a word is found in a table, the type that it makes is read
plain_read : (name : List ℕ) (t : Ty) → named name plain_types ≡ Some t → (n : Node) → is_applied name [] n ≡ true → type_read n ≡ Ok t
plain_read name t found n h =
    let shown = shown_of_applied n name [] h in
    let none = none_shown shown.0 shown.2 in
    read_shown n name shown.0 shown.1 ∙ ap (λ (args : List Node). applied n.at name (map type_read args)) none ∙ rw found refl

one_read : (name : List ℕ) (f : Ty → Ty) → named name types_of_one ≡ Some f → (s : Ty) → Law s → (n : Node) → is_applied name (is_type s ∷ []) n ≡ true → type_read n ≡ Ok (f s)
one_read name f found s law n h =
    let shown = shown_of_applied n name (is_type s ∷ []) h in
    let one = one_shown (is_type s) shown.0 shown.2 in
    let part = (law one.0).1 one.2 in
    read_shown n name shown.0 shown.1 ∙ ap (λ (args : List Node). applied n.at name (map type_read args)) one.1 ∙ rw (found, part) refl

two_read : (name : List ℕ) (f : Ty → Ty → Ty) → named name types_of_two ≡ Some f → (s t : Ty) → Law s → Law t → (n : Node) →
    is_applied name (is_type s ∷ is_type t ∷ []) n ≡ true → type_read n ≡ Ok (f s t)
two_read name f found s t first second n h =
    let shown = shown_of_applied n name (is_type s ∷ is_type t ∷ []) h in
    let two = two_shown (is_type s) (is_type t) shown.0 shown.2 in
    let left = (first two.0).1 two.3 in
    let right = (second two.1).1 two.4 in
    read_shown n name shown.0 shown.1 ∙ ap (λ (args : List Node). applied n.at name (map type_read args)) two.2 ∙ rw (found, left, right) refl

pair_read : (s t : Ty) → Law s → Law t → (n : Node) → is_pair (is_type s) (is_type t) n ≡ true → type_read n ≡ Ok (kind.Pair s t)
pair_read s t first second n h = by_level (out-Body n.body) refl
  where
    by_args : (notes : List (List ℕ)) (args : List Node) → out-Body n.body ≡ body.Prim (codes "pair") notes args →
        are_items (codes "pair") (is_type s) (is_type t) args ≡ true → type_read n ≡ Ok (kind.Pair s t)
    by_args notes [] is fit = absurd cc
    by_args notes (x ∷ []) is fit = absurd cc
    by_args notes (x ∷ y ∷ []) is fit =
        let both = and_parts _ _ fit in
        let left = (first x).1 both.0 in
        let right = (second y).1 both.1 in
        read_shown n (codes "pair") (x ∷ y ∷ []) (notes, is) ∙ rw (left, right) refl
    by_args notes (x ∷ y ∷ z ∷ more) is fit =
        let both = and_parts _ _ fit in
        let left = (first x).1 both.0 in
        let right = comb_is y z more ∙ (second (applied_node (codes "pair") (y ∷ z ∷ more))).1 both.1 in
        read_shown n (codes "pair") (x ∷ y ∷ z ∷ more) (notes, is)
        ∙ read_both (λ s. then_read (comb (type_read y) (map type_read (z ∷ more))) (λ t. Ok (kind.Pair s t))) (type_read x) s (kind.Pair s t) left
        (read_both (λ t. Ok (kind.Pair s t)) (comb (type_read y) (map type_read (z ∷ more))) t (kind.Pair s t) right refl)

    by_level : (b : Body-F Body Node) → out-Body n.body ≡ b → type_read n ≡ Ok (kind.Pair s t)
    by_level (body.Prim name notes args) is =
        let both = and_parts _ _ (rw is at h) in
        let same : name ≡ codes "pair" = (bytes_eq-Decides name (codes "pair")).0 both.0 in
        by_args notes args (is ∙ ap (λ (w : List ℕ). body.Prim w notes args) same) both.1
    by_level _ is = absurd (let no = rw is at h in cc)

level_read : (x : Ty-F Ty) → Each Law (parts_of x) → (n : Node) → type_level (map-Ty Ty Test is_type x) n ≡ true → type_read n ≡ Ok (roll-Ty x)
level_read ty.Unit laws n h = plain_read (codes "unit") _ refl n h ∙ ap (λ (t : Ty). Ok t) (sym rolls-Unit)
level_read ty.Bool laws n h = plain_read (codes "bool") _ refl n h ∙ ap (λ (t : Ty). Ok t) (sym rolls-Bool)
level_read ty.Int laws n h = plain_read (codes "int") _ refl n h ∙ ap (λ (t : Ty). Ok t) (sym rolls-Int)
level_read ty.Nat laws n h = plain_read (codes "nat") _ refl n h ∙ ap (λ (t : Ty). Ok t) (sym rolls-Nat)
level_read ty.Mutez laws n h = plain_read (codes "mutez") _ refl n h ∙ ap (λ (t : Ty). Ok t) (sym rolls-Mutez)
level_read ty.Time laws n h = plain_read (codes "timestamp") _ refl n h ∙ ap (λ (t : Ty). Ok t) (sym rolls-Time)
level_read ty.Text laws n h = plain_read (codes "string") _ refl n h ∙ ap (λ (t : Ty). Ok t) (sym rolls-Text)
level_read ty.Bytes laws n h = plain_read (codes "bytes") _ refl n h ∙ ap (λ (t : Ty). Ok t) (sym rolls-Bytes)
level_read ty.Addr laws n h = plain_read (codes "address") _ refl n h ∙ ap (λ (t : Ty). Ok t) (sym rolls-Addr)
level_read (ty.Option t) laws n h = one_read (codes "option") _ refl t laws.0 n h ∙ ap (λ (t : Ty). Ok t) (sym (rolls-Option t))
level_read (ty.Or s t) laws n h = two_read (codes "or") _ refl s t laws.0 laws.1.0 n h ∙ ap (λ (t : Ty). Ok t) (sym (rolls-Or s t))
level_read (ty.Pair s t) laws n h = pair_read s t laws.0 laws.1.0 n h ∙ ap (λ (t : Ty). Ok t) (sym (rolls-Pair s t))
level_read (ty.List t) laws n h = one_read (codes "list") _ refl t laws.0 n h ∙ ap (λ (t : Ty). Ok t) (sym (rolls-List t))
level_read (ty.Set t) laws n h = one_read (codes "set") _ refl t laws.0 n h ∙ ap (λ (t : Ty). Ok t) (sym (rolls-Set t))
level_read (ty.Map k v) laws n h = two_read (codes "map") _ refl k v laws.0 laws.1.0 n h ∙ ap (λ (t : Ty). Ok t) (sym (rolls-Map k v))
level_read (ty.BigMap k v) laws n h = two_read (codes "big_map") _ refl k v laws.0 laws.1.0 n h ∙ ap (λ (t : Ty). Ok t) (sym (rolls-BigMap k v))
level_read (ty.Contract t) laws n h = one_read (codes "contract") _ refl t laws.0 n h ∙ ap (λ (t : Ty). Ok t) (sym (rolls-Contract t))
level_read ty.Operation laws n h = plain_read (codes "operation") _ refl n h ∙ ap (λ (t : Ty). Ok t) (sym rolls-Operation)

written_is_read : (t : Ty) → Each Law (parts_of (out-Ty t)) → (n : Node) → is_type t n ≡ true → type_read n ≡ Ok t
written_is_read t laws n h = level_read (out-Ty t) laws n (sym (is_type-level t n) ∙ h) ∙ ap (λ (t : Ty). Ok t) (roll-out t)

-- ---- what is read is written

abbrev FitsPlain : List ℕ → Ty → Type 0
FitsPlain name t = (n : Node) → Shows n name [] → is_type t n ≡ true

record FitsOne (name : List ℕ) (f : Ty → Ty) : Type 0 where
  parts : (s : Ty) → parts_of (out-Ty (f s)) ≡ s ∷ []
  fits : (s : Ty) (n x : Node) → Shows n name (x ∷ []) → is_type s x ≡ true → is_type (f s) n ≡ true

record FitsTwo (name : List ℕ) (f : Ty → Ty → Ty) : Type 0 where
  parts : (s t : Ty) → parts_of (out-Ty (f s t)) ≡ s ∷ t ∷ []
  fits : (s t : Ty) (n x y : Node) → Shows n name (x ∷ y ∷ []) → is_type s x ≡ true → is_type t y ≡ true → is_type (f s t) n ≡ true

-- a type, one level of which is this
module _ (t : Ty) (x : Ty-F Ty) (rolls : roll-Ty x ≡ t) where
  shown_level : out-Ty t ≡ x
  shown_level = ap out-Ty (sym rolls) ∙ out-roll x

  fits_level : (n : Node) → type_level (map-Ty Ty Test is_type x) n ≡ true → is_type t n ≡ true
  fits_level n h = is_type-level t n ∙ ap (λ (y : Ty-F Ty). type_level (map-Ty Ty Test is_type y) n) shown_level ∙ h

plain_row : (name : List ℕ) (t : Ty) (x : Ty-F Ty) → roll-Ty x ≡ t → type_level (map-Ty Ty Test is_type x) ≡ is_applied name [] → FitsPlain name t
plain_row name t x rolls level n shown = fits_level t x rolls n (ap (λ (f : Test). f n) level ∙ applied_shown n name [] [] shown refl)

one_row : (name : List ℕ) (f : Ty → Ty) (g : Ty → Ty-F Ty) → ((s : Ty) → roll-Ty (g s) ≡ f s) → ((s : Ty) → parts_of (g s) ≡ s ∷ []) →
    ((s : Ty) → type_level (map-Ty Ty Test is_type (g s)) ≡ is_applied name (is_type s ∷ [])) → FitsOne name f
one_row name f g rolls parts level = record {
  parts = λ s. ap (λ (x : Ty-F Ty). parts_of x) (shown_level (f s) (g s) (rolls s)) ∙ parts s;
  fits = λ s n x shown fit. fits_level (f s) (g s) (rolls s) n
      (ap (λ (f : Test). f n) (level s) ∙ applied_shown n name (x ∷ []) (is_type s ∷ []) shown (and_from _ _ fit refl));
}

two_row : (name : List ℕ) (f : Ty → Ty → Ty) (g : Ty → Ty → Ty-F Ty) → ((s t : Ty) → roll-Ty (g s t) ≡ f s t) → ((s t : Ty) → parts_of (g s t) ≡ s ∷ t ∷ []) →
    ((s t : Ty) → type_level (map-Ty Ty Test is_type (g s t)) ≡ is_applied name (is_type s ∷ is_type t ∷ [])) → FitsTwo name f
two_row name f g rolls parts level = record {
  parts = λ s t. ap (λ (x : Ty-F Ty). parts_of x) (shown_level (f s t) (g s t) (rolls s t)) ∙ parts s t;
  fits = λ s t n x y shown left right. fits_level (f s t) (g s t) (rolls s t) n
      (ap (λ (f : Test). f n) (level s t) ∙ applied_shown n name (x ∷ y ∷ []) (is_type s ∷ is_type t ∷ []) shown (and_from _ _ left (and_from _ _ right refl)));
}

pair_row : FitsTwo (codes "pair") kind.Pair
pair_row = record {
  parts = λ s t. ap (λ (x : Ty-F Ty). parts_of x) (shown_level (kind.Pair s t) (ty.Pair s t) (rolls-Pair s t));
  fits = λ s t n x y shown left right. fits_level (kind.Pair s t) (ty.Pair s t) (rolls-Pair s t) n (is_pair-two (is_type s) (is_type t) n x y shown left right);
}

plain_rows : AllByRecursion (λ (w : List ℕ × Ty). FitsPlain w.0 w.1) plain_types
plain_rows = (
  plain_row _ _ ty.Unit rolls-Unit refl,
  (
    plain_row _ _ ty.Bool rolls-Bool refl,
    (
      plain_row _ _ ty.Int rolls-Int refl,
      (
        plain_row _ _ ty.Nat rolls-Nat refl,
        (
          plain_row _ _ ty.Mutez rolls-Mutez refl,
          (
            plain_row _ _ ty.Time rolls-Time refl,
            (
              plain_row _ _ ty.Text rolls-Text refl,
              (
                plain_row _ _ ty.Bytes rolls-Bytes refl,
                (plain_row _ _ ty.Addr rolls-Addr refl, (plain_row _ _ ty.Operation rolls-Operation refl, tt)),
              ),
            ),
          ),
        ),
      ),
    ),
  ),
)

rows_of_one : AllByRecursion (λ (w : List ℕ × (Ty → Ty)). FitsOne w.0 w.1) types_of_one
rows_of_one = (
  one_row _ _ (λ t. ty.Option t) rolls-Option (λ t. refl) (λ t. refl),
  (
    one_row _ _ (λ t. ty.List t) rolls-List (λ t. refl) (λ t. refl),
    (one_row _ _ (λ t. ty.Set t) rolls-Set (λ t. refl) (λ t. refl), (one_row _ _ (λ t. ty.Contract t) rolls-Contract (λ t. refl) (λ t. refl), tt)),
  ),
)

rows_of_two : AllByRecursion (λ (w : List ℕ × (Ty → Ty → Ty)). FitsTwo w.0 w.1) types_of_two
rows_of_two = (
  two_row _ _ (λ s t. ty.Or s t) rolls-Or (λ s t. refl) (λ s t. refl),
  (
    pair_row,
    (two_row _ _ (λ k v. ty.Map k v) rolls-Map (λ k v. refl) (λ k v. refl), (two_row _ _ (λ k v. ty.BigMap k v) rolls-BigMap (λ k v. refl) (λ k v. refl), tt)),
  ),
)

module _ (t : Ty) (laws : Each Law (parts_of (out-Ty t))) (n : Node) (name : List ℕ) where
  -- laws of the parts, where the type is this
  laws_of : (u : Ty) (parts : List Ty) → u ≡ t → parts_of (out-Ty u) ≡ parts → Each Law parts
  laws_of u parts same is = subst (λ (ts : List Ty). Each Law ts) (ap (λ (x : Ty). parts_of (out-Ty x)) (sym same) ∙ is) laws

  fits_same : (u : Ty) → u ≡ t → is_type u n ≡ true → is_type t n ≡ true
  fits_same u same fit = ap (λ (x : Ty). is_type x n) (sym same) ∙ fit

  plain_fits : Shows n name [] → applied n.at name [] ≡ Ok t → is_type t n ≡ true
  plain_fits shown e =
      let found = read_by (λ t. Ok t) n.at name (named name plain_types) t e in
      fits_same found.0 (same_read found.0 t (Ok found.0) refl found.2) (named-found FitsPlain name plain_types plain_rows found.0 found.1 n shown)

  one_fits : (x : Node) → Shows n name (x ∷ []) → applied n.at name (type_read x ∷ []) ≡ Ok t → is_type t n ≡ true
  one_fits x shown e =
      let found = read_by (λ f. then_read (type_read x) (λ t. Ok (f t))) n.at name (named name types_of_one) t e in
      let part = read_first (λ t. Ok (found.0 t)) (type_read x) t found.2 in
      let same = same_read (found.0 part.0) t (Ok (found.0 part.0)) refl part.2 in
      let row = named-found (λ w f. FitsOne w f) name types_of_one rows_of_one found.0 found.1 in
      let law = (laws_of (found.0 part.0) (part.0 ∷ []) same (row.parts part.0)).0 in
      fits_same (found.0 part.0) same (row.fits part.0 n x shown ((law x).0 part.1))

  two_fits : (x y : Node) → Shows n name (x ∷ y ∷ []) → applied n.at name (type_read x ∷ type_read y ∷ []) ≡ Ok t → is_type t n ≡ true
  two_fits x y shown e =
      let found = read_by (λ f. then_read (type_read x) (λ s. then_read (type_read y) (λ t. Ok (f s t)))) n.at name (named name types_of_two) t e in
      let left = read_first (λ s. then_read (type_read y) (λ t. Ok (found.0 s t))) (type_read x) t found.2 in
      let right = read_first (λ t. Ok (found.0 left.0 t)) (type_read y) t left.2 in
      let u = found.0 left.0 right.0 in
      let same = same_read u t (Ok u) refl right.2 in
      let row = named-found (λ w f. FitsTwo w f) name types_of_two rows_of_two found.0 found.1 in
      let both = laws_of u (left.0 ∷ right.0 ∷ []) same (row.parts left.0 right.0) in
      fits_same u same (row.fits left.0 right.0 n x y shown ((both.0 x).0 left.1) ((both.1.0 y).0 right.1))

  comb_fits : (x y z : Node) (more : List Node) → name ≡ codes "pair" → Shows n name (x ∷ y ∷ z ∷ more) →
      comb (type_read x) (map type_read (y ∷ z ∷ more)) ≡ Ok t → is_type t n ≡ true
  comb_fits x y z more is shown e =
      let rest = applied_node (codes "pair") (y ∷ z ∷ more) in
      let left = read_first (λ s. then_read (comb (type_read y) (map type_read (z ∷ more))) (λ t. Ok (kind.Pair s t))) (type_read x) t e in
      let right = read_first (λ t. Ok (kind.Pair left.0 t)) (comb (type_read y) (map type_read (z ∷ more))) t left.2 in
      let u = kind.Pair left.0 right.0 in
      let same = same_read u t (Ok u) refl right.2 in
      let both = laws_of u (left.0 ∷ right.0 ∷ []) same (pair_row.parts left.0 right.0) in
      let shown_pair = subst (λ (w : List ℕ). Shows n w (x ∷ y ∷ z ∷ more)) is shown in
      fits_same u same (fits_level u (ty.Pair left.0 right.0) (rolls-Pair left.0 right.0) n
      (is_pair-more (is_type left.0) (is_type right.0) n x y z more shown_pair ((both.0 x).0 left.1) ((both.1.0 rest).0 (sym (comb_is y z more) ∙ right.1))))

  shown_fits : (args : List Node) → Shows n name args → applied n.at name (map type_read args) ≡ Ok t → is_type t n ≡ true
  shown_fits [] shown e = plain_fits shown e
  shown_fits (x ∷ []) shown e = one_fits x shown e
  shown_fits (x ∷ y ∷ []) shown e = two_fits x y shown e
  shown_fits (x ∷ y ∷ z ∷ more) shown e = by_test (bytes_eq name (codes "pair")) refl
    where
      by_test : (b : Bool) → bytes_eq name (codes "pair") ≡ b → is_type t n ≡ true
      by_test true h = comb_fits x y z more ((bytes_eq-Decides name (codes "pair")).0 h) shown
          (sym (ap (λ (b : Bool). if b then comb (type_read x) (map type_read (y ∷ z ∷ more)) else no_form n.at name) h) ∙ e)
      by_test false h = absurd (no_form-fails n.at name t
          (sym (ap (λ (b : Bool). if b then comb (type_read x) (map type_read (y ∷ z ∷ more)) else no_form n.at name) h) ∙ e))

read_is_written : (t : Ty) → Each Law (parts_of (out-Ty t)) → (n : Node) → type_read n ≡ Ok t → is_type t n ≡ true
read_is_written t laws n e = by_level (out-Body n.body) refl
  where
    by_level : (b : Body-F Body Node) → out-Body n.body ≡ b → is_type t n ≡ true
    by_level (body.Prim name notes args) is = shown_fits t laws n name args (notes, is) (sym (read_shown n name args (notes, is)) ∙ e)
    by_level b is = absurd (let no = sym (type_read-level n ∙ ap (λ (b : Body-F Body Node). type_at (read_parts b) n.at) is) ∙ e in cc)

law : (t : Ty) → Law t
law = induction Law (λ t laws n. (read_is_written t laws n, written_is_read t laws n))

-- what is read of a node as a type is the type that it is written for
pub type-read : (n : Node) (t : Ty) → (type_read n ≡ Ok t) ↔ IsTrue (is_type t n)
type-read n t = law t n
