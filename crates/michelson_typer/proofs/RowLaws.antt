-- Rows: a row tells its type's level and extent; what is added keeps all that is asked of rows.
use Rattle.std.proofs.Common.{◌≡◌, ℕ, zero, suc, ◌+◌, ◌<◌, true, List, [], ◌∷◌, ◌++◌, length, get_or, map, slice_get, Some, refl, ap, sym, subst, ◌∙◌, arith, zero-add, length-append}
use Rattle.std.proofs.Math.Seq.{get_or-append_seam}
use Rattle.std.proofs.lemmas.List.{length-map, map-append}
use Rattle.std.proofs.lemmas.Option.{get_or_from_slice_get}
use Rattle.value_core.specs.declared.ty.Ty.{Ty}
use Rattle.value_core.specs.declared.ty.Ty.TheVariants as type
use Rattle.michelson_code.specs.declared.operands.Level.{Level}
use Rattle.michelson_code.specs.Typing.{level_type}
use Rattle.michelson_code.proofs.FaultOnce.{Order, is_above, is_below, is_same, order_of}
use Rattle.michelson_typer.specs.declared.extent.Extent.{Extent}
use Rattle.michelson_typer.specs.Extents.{extent_of}
use Rattle.michelson_typer.specs.Rows.{AreRows, levels_of, table_of}
use Rattle.michelson_typer.specs.Tables.{IsDistinct, are_below, are_in, have_parts, parts_in, type_at, types_from}
use Rattle.michelson_typer.proofs.LevelLaws.{level-once}
use Rattle.michelson_typer.proofs.TableLaws.{IsLevelOf, below_more, have_parts-append, length-types_from, level_made, type_at-behind, types_from-append}

abbrev pub Row : Type 0
Row = Level ℕ × Extent

pub length-table_of : (rows : List Row) → length (table_of rows) ≡ length rows
length-table_of rows =
    length-types_from [] (levels_of rows) ∙ (let none : length {A = Ty} [] ≡ 0 = refl in let long = length-map rows (λ (e : Row). e.0) in omega arith)

-- a function of an element of a list
get_or-map : {A B : Type 0} (f : A → B) (xs : List A) (k : ℕ) (a : A) (b : B) → k < length xs → get_or (map f xs) k b ≡ f (get_or xs k a)
get_or-map {A = A} f [] k a b within = absurd (let none : length {A = A} [] ≡ 0 = refl in omega arith)
get_or-map f (x ∷ xs) zero a b within = refl
get_or-map f (x ∷ xs) (suc k) a b within = get_or-map f xs k a b (let e : length (x ∷ xs) ≡ suc (length xs) = refl in omega arith)

module _ (rows : List Row) (are : AreRows rows) where
  level_at : (k : ℕ) (d : Level ℕ) → k < length (levels_of rows) → IsLevelOf k (table_of rows) (get_or (levels_of rows) k d)
  level_at k d within =
      let none : length {A = Ty} [] + k ≡ k = (let none : length {A = Ty} [] ≡ 0 = refl in omega arith) in
      subst (λ (n : ℕ). IsLevelOf n (table_of rows) (get_or (levels_of rows) k d)) none (level_made [] (levels_of rows) k d are.parts within)

  -- the level of a row is that of its type
  pub row_level : (k : ℕ) (e : Row) → k < length rows → get_or rows k e ≡ e → IsLevelOf k (table_of rows) e.0
  row_level k e within is =
      subst (IsLevelOf k (table_of rows)) (get_or-map (λ (r : Row). r.0) rows k e e.0 within ∙ ap (λ (r : Row). r.0) is)
      (level_at k e.0 (let long = length-map rows (λ (r : Row). r.0) in omega arith))

  -- the extent of a row is that of its type
  pub row_extent : (k : ℕ) (e : Row) → k < length rows → get_or rows k e ≡ e → e.1 ≡ extent_of (type_at (table_of rows) k)
  row_extent k e within is =
      sym (ap (λ (r : Row). r.1) is) ∙ sym (get_or-map (λ (r : Row). r.1) rows k e e.1 within)
      ∙ ap (λ (xs : List Extent). get_or xs k e.1) are.extents
      ∙ get_or-map extent_of (table_of rows) k type.Unit e.1 (let long = length-table_of rows in omega arith)

  -- a level whose type stands there is the level of its row
  pub same_level : (k : ℕ) (e : Row) (l : Level ℕ) → k < length rows → get_or rows k e ≡ e → are_in (table_of rows) (parts_in l) ≡ true →
      type_at (table_of rows) k ≡ level_type (type_at (table_of rows)) l → e.0 ≡ l
  same_level k e l within is parts same =
      let table = table_of rows in
      let here = row_level k e within is in
      let long = length-table_of rows in
      level-once (type_at table) (length table) are.distinct e.0 l (below_length (parts_in e.0) here.parts) parts (sym here.is ∙ same)
    where
      below_length : (ids : List ℕ) → are_below k ids ≡ true → are_in (table_of rows) ids ≡ true
      below_length ids below = below_more k (length (table_of rows)) ids (let long = length-table_of rows in omega arith) below

-- ---- one more row

module _ (rows : List Row) (are : AreRows rows) (l : Level ℕ) (e : Extent) where
  abbrev more : List Row
  more = rows ++ (l, e) ∷ []

  abbrev made : Ty
  made = level_type (type_at (table_of rows)) l

  levels-more : levels_of more ≡ levels_of rows ++ l ∷ []
  levels-more = map-append (λ (r : Row). r.0) rows ((l, e) ∷ [])

  -- its type stands behind those of before
  pub table_of-more : table_of more ≡ table_of rows ++ made ∷ []
  table_of-more = ap (types_from []) levels-more ∙ types_from-append [] (levels_of rows) l

  parts-more : are_in (table_of rows) (parts_in l) ≡ true → have_parts 0 (levels_of more) ≡ true
  parts-more below =
      subst (λ (ls : List (Level ℕ)). have_parts 0 ls ≡ true) (sym levels-more)
      (have_parts-append 0 (levels_of rows) l are.parts
      (subst (λ (n : ℕ). are_below n (parts_in l) ≡ true) (length-table_of rows ∙ sym (length-map rows (λ (r : Row). r.0)) ∙ sym (zero-add (length (levels_of rows)))) below))

  extents-more : e ≡ extent_of made → map (λ (r : Row). r.1) more ≡ map extent_of (table_of more)
  extents-more is =
      map-append (λ (r : Row). r.1) rows ((l, e) ∷ [])
      ∙ (λ i. are.extents i ++ is i ∷ [])
      ∙ sym (map-append extent_of (table_of rows) (made ∷ []))
      ∙ ap (map extent_of) (sym table_of-more)

  -- no type stands twice
  apart-more : ((k : ℕ) → k < length (table_of rows) → type_at (table_of rows) k ≡ made → ⊥) → IsDistinct (table_of rows ++ made ∷ [])
  apart-more absent i j first second same = go (order_of i (length (table_of rows))) (order_of j (length (table_of rows)))
    where
      long : length (table_of rows ++ made ∷ []) ≡ length (table_of rows) + 1
      long = let e = length-append (table_of rows) (made ∷ []) in let one : length (made ∷ []) ≡ suc (length {A = Ty} []) = refl in let none : length {A = Ty} [] ≡ 0 = refl in omega arith

      old : (k : ℕ) → k < length (table_of rows) → type_at (table_of rows ++ made ∷ []) k ≡ type_at (table_of rows) k
      old k within = type_at-behind (table_of rows) (made ∷ []) k within

      new : (k : ℕ) → k ≡ length (table_of rows) → type_at (table_of rows ++ made ∷ []) k ≡ made
      new k is = ap (type_at (table_of rows ++ made ∷ [])) is ∙ get_or-append_seam (table_of rows) made [] type.Unit

      go : Order i (length (table_of rows)) → Order j (length (table_of rows)) → i ≡ j
      go (is_below h) (is_below k) = are.distinct i j h k (sym (old i h) ∙ same ∙ old j k)
      go (is_below h) (is_same k) = absurd (absent i h (sym (old i h) ∙ same ∙ new j k))
      go (is_same h) (is_below k) = absurd (absent j k (sym (old j k) ∙ sym same ∙ new i h))
      go (is_same h) (is_same k) = h ∙ sym k
      go (is_above h) k = absurd (let e = long in omega arith)
      go h (is_above k) = absurd (let e = long in omega arith)

  -- rows stay rows with one of a type that isn't there yet
  pub rows-more : are_in (table_of rows) (parts_in l) ≡ true → e ≡ extent_of made →
      ((k : ℕ) → k < length (table_of rows) → type_at (table_of rows) k ≡ made → ⊥) → AreRows more
  rows-more below is absent = record {
    parts = parts-more below;
    extents = extents-more is;
    distinct = subst IsDistinct (sym table_of-more) (apart-more absent);
  }

-- no row at all
pub no_rows : (rows : List Row) → rows ≡ [] → AreRows rows
no_rows rows none = subst AreRows (sym none) (record {
  parts = refl;
  extents = refl;
  distinct = λ i j first second same. absurd (let none : length {A = Ty} [] ≡ 0 = refl in omega arith);
})

-- ---- what is read of a row

module _ (rows : List Row) (table : List Ty) (are : AreRows rows) (is : table_of rows ≡ table) (k : ℕ) (e : Row) where
  pub read_extent : k < length table → slice_get rows k ≡ Some e → e.1 ≡ extent_of (type_at table k)
  read_extent within read =
      row_extent rows are k e (let long = length-table_of rows in let same = ap length is in omega arith) (get_or_from_slice_get rows k e e read)
      ∙ ap (λ (ts : List Ty). extent_of (type_at ts k)) is

  read_row : k < length table → slice_get rows k ≡ Some e → IsLevelOf k (table_of rows) e.0
  read_row within read =
      row_level rows are k e (let long = length-table_of rows in let same = ap length is in omega arith) (get_or_from_slice_get rows k e e read)

  pub read_parts : k < length table → slice_get rows k ≡ Some e → are_in table (parts_in e.0) ≡ true
  read_parts within read = below_more k (length table) (parts_in e.0) (omega arith) (read_row within read).parts

  pub read_level : k < length table → slice_get rows k ≡ Some e → type_at table k ≡ level_type (type_at table) e.0
  read_level within read = subst (λ (ts : List Ty). type_at ts k ≡ level_type (type_at ts) e.0) is (read_row within read).is
