-- The row of a level, where its map finds one, and no row of it where the map finds none.
use Rattle.std.proofs.Common.{◌≡◌, ℕ, zero, suc, ◌+◌, ◌<◌, Bool, true, false, cond, List, [], ◌∷◌, ◌++◌, length, get_or, position, Option, None, Some, inl, inr, refl, ap, sym, subst, ◌∙◌, arith}
use Rattle.std.specs.Prelude.{◌⊎◌, if◌then◌else◌}
use Rattle.std.specs.Map.{keys_of}
use Rattle.indexmap.specs.IndexMap.{insert_entry}
use Rattle.std.proofs.lemmas.Iterator.Adapters.{position_from-zero}
use Rattle.std.specs.List.{position_from}
use Rattle.value_core.specs.declared.ty.Ty.{Ty}
use Rattle.michelson_code.specs.declared.operands.Level.{Level}
use Rattle.michelson_code.specs.Typing.{level_type}
use Rattle.michelson_typer.specs.declared.extent.Extent.{Extent}
use Rattle.michelson_typer.specs.Extents.{extent_of, level_extent}
use Rattle.michelson_typer.specs.Rows.{AreRows, table_of}
use Rattle.michelson_typer.specs.Tables.{IsRow, IsTypeOf, are_in, parts_in, type_at}
use Rattle.michelson_typer.proofs.ExtentLaws.{extent-level}
use Rattle.michelson_typer.proofs.RowLaws.{Row, length-table_of, row_level, rows-more, same_level, table_of-more}

pub bool_cases : (b : Bool) → (b ≡ true) ⊎ (b ≡ false)
bool_cases true = inl refl
bool_cases false = inr refl

module _ (t : Level ℕ → Bool) where
  -- the test fails at each row
  abbrev IsAbsent : List Row → Type 0
  IsAbsent [] = Unit {0}
  IsAbsent (e ∷ es) = (t e.0 ≡ false) × IsAbsent es

  -- the row of an index passes
  record PassesAt (es : List Row) (i : ℕ) : Type 0 where
    pub within : i < length es
    pub row : Row
    pub is : get_or es i row ≡ row
    pub passes : t row.0 ≡ true

  record PassesBehind (n : ℕ) (es : List Row) (i : ℕ) : Type 0 where
    pub place : ℕ
    pub sum : n + place ≡ i
    pub here : PassesAt es place

  further : (n : ℕ) (e : Row) (es : List Row) (i : ℕ) → PassesBehind (n + 1) es i → PassesBehind n (e ∷ es) i
  further n e es i p = let sum = p.sum in let within = p.here.within in record {
    place = suc p.place;
    sum = omega arith;
    here = record { within = (let one : length (e ∷ es) ≡ suc (length es) = refl in omega arith); row = p.here.row; is = p.here.is; passes = p.here.passes };
  }

  -- the first that passes, counted from a number
  from_some : (n : ℕ) (es : List Row) (i : ℕ) → position_from t n (keys_of es) ≡ Some i → PassesBehind n es i
  from_some n [] i found = cc
  from_some n (e ∷ es) i found = go (bool_cases (t e.0)) (from_some (n + 1) es i)
    where
      go : (t e.0 ≡ true) ⊎ (t e.0 ≡ false) → (position_from t (n + 1) (keys_of es) ≡ Some i → PassesBehind (n + 1) es i) → PassesBehind n (e ∷ es) i
      go (inl pass) more =
          let same : Some n ≡ Some i = sym (ap (λ (b : Bool). cond b (Some n) (position_from t (n + 1) (keys_of es))) pass) ∙ found in
          let at : n ≡ i = cc in
          record { place = 0; sum = omega arith; here = record { within = (let one : length (e ∷ es) ≡ suc (length es) = refl in omega arith); row = e; is = refl; passes = pass } }
      go (inr fail) more = further n e es i (more (sym (ap (λ (b : Bool). cond b (Some n) (position_from t (n + 1) (keys_of es))) fail) ∙ found))

  from_none : (n : ℕ) (es : List Row) → position_from t n (keys_of es) ≡ None → IsAbsent es
  from_none n [] found = tt
  from_none n (e ∷ es) found = go (bool_cases (t e.0)) (from_none (n + 1) es)
    where
      go : (t e.0 ≡ true) ⊎ (t e.0 ≡ false) → (position_from t (n + 1) (keys_of es) ≡ None → IsAbsent es) → IsAbsent (e ∷ es)
      go (inl pass) more = let same : Some n ≡ None = sym (ap (λ (b : Bool). cond b (Some n) (position_from t (n + 1) (keys_of es))) pass) ∙ found in cc
      go (inr fail) more = (fail, more (sym (ap (λ (b : Bool). cond b (Some n) (position_from t (n + 1) (keys_of es))) fail) ∙ found))

  passes_at : (es : List Row) (i : ℕ) → position t (keys_of es) ≡ Some i → PassesAt es i
  passes_at es i found =
      let p = from_some 0 es i (sym (position_from-zero t (keys_of es)) ∙ found) in
      let sum = p.sum in
      let at : p.place ≡ i = omega arith in subst (PassesAt es) at p.here

  absent_fails : (es : List Row) (i : ℕ) (d : Row) → IsAbsent es → i < length es → t (get_or es i d).0 ≡ false
  absent_fails [] i d absent within = absurd (let none : length {A = Row} [] ≡ 0 = refl in omega arith)
  absent_fails (e ∷ es) zero d absent within = absent.0
  absent_fails (e ∷ es) (suc i) d absent within = absent_fails es i d absent.1 (let one : length (e ∷ es) ≡ suc (length es) = refl in omega arith)

  fails_absent : (es : List Row) → ((i : ℕ) → PassesAt es i → ⊥) → IsAbsent es
  fails_absent [] never = tt
  fails_absent (e ∷ es) never = (
    fails (bool_cases (t e.0)),
    fails_absent es (λ i p. let within = p.within in
        never (suc i) (record { within = (let one : length (e ∷ es) ≡ suc (length es) = refl in omega arith); row = p.row; is = p.is; passes = p.passes })),
  )
    where
      fails : (t e.0 ≡ true) ⊎ (t e.0 ≡ false) → t e.0 ≡ false
      fails (inr fail) = fail
      fails (inl pass) = absurd (never 0 (record { within = (let one : length (e ∷ es) ≡ suc (length es) = refl in omega arith); row = e; is = refl; passes = pass }))

module _ (rows : List Row) (table : List Ty) (are : AreRows rows) (is : table_of rows ≡ table) (l : Level ℕ) (parts : are_in table (parts_in l) ≡ true)
    (eq : Level ℕ → Level ℕ → Bool) (equal : (a b : Level ℕ) → eq a b ≡ true → a ≡ b) (passes : (a : Level ℕ) → eq a a ≡ true) where
  parts_here : are_in (table_of rows) (parts_in l) ≡ true
  parts_here = subst (λ (ts : List Ty). are_in ts (parts_in l) ≡ true) (sym is) parts

  read : (i : ℕ) → i < length rows → (e : Row) × (get_or rows i e ≡ e)
  read i within = there rows i within
    where
      there : (es : List Row) (i : ℕ) → i < length es → (e : Row) × (get_or es i e ≡ e)
      there [] i within = absurd (let none : length {A = Row} [] ≡ 0 = refl in omega arith)
      there (e ∷ es) zero within = (e, refl)
      there (e ∷ es) (suc i) within = there es i (let one : length (e ∷ es) ≡ suc (length es) = refl in omega arith)

  -- the row that passes has the level's type
  of_row : (i : ℕ) → PassesAt (eq l) rows i → IsTypeOf table i (level_type (type_at table) l)
  of_row i at =
      let within : i < length rows = at.within in
      let here = row_level rows are i at.row within at.is in
      let same : l ≡ at.row.0 = equal l at.row.0 at.passes in
      record {
        within = (let long = length-table_of rows in let whole = ap length is in omega arith);
        is = subst (λ (ts : List Ty). type_at ts i ≡ level_type (type_at ts) l) is
            (here.is ∙ ap (level_type (type_at (table_of rows))) (sym same));
      }

  -- where no row passes no type is that of the level
  none_of : IsAbsent (eq l) rows → IsRow table l None
  none_of absent i within same =
      let near : i < length rows = (let long = length-table_of rows in let whole = ap length is in omega arith) in
      let at = read i near in
      let fails : eq l at.0.0 ≡ false = ap (λ (r : Row). eq l r.0) (sym at.1) ∙ absent_fails (eq l) rows i at.0 absent near in
      let found : at.0.0 ≡ l = same_level rows are i at.0 l near at.1 parts_here (subst (λ (ts : List Ty). type_at ts i ≡ level_type (type_at ts) l) (sym is) same) in
      let holds : eq l at.0.0 ≡ true = ap (eq l) found ∙ passes l in
      cc

  -- what the map finds
  pub row_found : (r : Option ℕ) → r ≡ position (eq l) (keys_of rows) → IsRow table l r
  row_found None at = none_of (from_none (eq l) 0 rows (sym (position_from-zero (eq l) (keys_of rows)) ∙ sym at))
  row_found (Some i) at = of_row i (passes_at (eq l) rows i (sym at))

  -- a level whose type isn't there goes behind
  pub row_added : (v : Extent) → IsRow table l None → insert_entry eq rows l v ≡ rows ++ (l, v) ∷ []
  row_added v absent = behind rows (fails_absent (eq l) rows (λ i at. let found = of_row i at in absent i found.within found.is))
    where
      behind : (es : List Row) → IsAbsent (eq l) es → insert_entry eq es l v ≡ es ++ (l, v) ∷ []
      behind [] none = refl
      behind (e ∷ es) none =
          ap (λ (b : Bool). if b then (e.0, v) ∷ es else e ∷ insert_entry eq es l v) none.0 ∙ ap (λ (xs : List Row). e ∷ xs) (behind es none.1)

  -- what is asked of rows, and their types, after that
  pub record Added (new : List Row) : Type 0 where
    pub are_rows : AreRows new
    pub types : table_of new ≡ table ++ level_type (type_at table) l ∷ []

  pub rows_added : (v : Extent) → IsRow table l None → v ≡ level_extent (λ id. extent_of (type_at table id)) l →
      (new : List Row) → new ≡ insert_entry eq rows l v → Added new
  rows_added v absent extent new made =
      let whole : new ≡ rows ++ (l, v) ∷ [] = made ∙ row_added v absent in
      let at_table : v ≡ extent_of (level_type (type_at table) l) = extent ∙ sym (extent-level (type_at table) l) in
      record {
        are_rows = subst AreRows (sym whole) (rows-more rows are l v parts_here
            (subst (λ (ts : List Ty). v ≡ extent_of (level_type (type_at ts) l)) (sym is) at_table)
            (subst (λ (ts : List Ty). IsRow ts l None) (sym is) absent));
        types = ap table_of whole ∙ table_of-more rows are l v ∙ ap (λ (ts : List Ty). ts ++ level_type (type_at ts) l ∷ []) is;
      }
