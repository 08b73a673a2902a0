-- Tables: what stands behind the types of before leaves them as they are, and each type is that of its level.
use Rattle.std.proofs.Common.{◌≡◌, ℕ, zero, suc, ◌+◌, ◌<◌, ◌≤◌, true, List, [], ◌∷◌, ◌++◌, length, get_or, refl, ap, sym, subst, ◌∙◌, arith, add-zero, append_assoc, length-append}
use Rattle.std.proofs.Math.ListN.{get_or-append}
use Rattle.std.proofs.Math.Seq.{get_or-append_seam}
use Rattle.std.proofs.lemmas.Bool.{and_from, and_parts, lt-ltb, ltb-true}
use Rattle.value_core.specs.declared.ty.Ty.{Ty}
use Rattle.value_core.specs.declared.ty.Ty.TheVariants as type
use Rattle.michelson_code.specs.declared.operands.Level.{Level}
use Rattle.michelson_code.specs.Typing.{level_type}
use Rattle.michelson_typer.specs.Tables.{are_below, are_in, have_parts, parts_in, type_at, types_at, types_from}
use Rattle.michelson_typer.proofs.LevelLaws.{agree_below, level_type-agree}

-- ---- types of before

pub type_at-behind : (table more : List Ty) (id : ℕ) → id < length table → type_at (table ++ more) id ≡ type_at table id
type_at-behind table more id within = get_or-append table more type.Unit id within

pub below_more : (m n : ℕ) (ids : List ℕ) → m ≤ n → are_below m ids ≡ true → are_below n ids ≡ true
below_more m n [] le below = refl
below_more m n (id ∷ ids) le below =
    let both = and_parts _ _ below in
    let lt : id < m = ltb-true id m both.0 in
    and_from _ _ (lt-ltb id n (omega arith)) (below_more m n ids le both.1)

pub types_at-behind : (table more : List Ty) (ids : List ℕ) → are_in table ids ≡ true → types_at (table ++ more) ids ≡ types_at table ids
types_at-behind table more [] within = refl
types_at-behind table more (id ∷ ids) within =
    let both = and_parts _ _ within in
    λ i. type_at-behind table more id (ltb-true id (length table) both.0) i ∷ types_at-behind table more ids both.1 i

pub level_type-behind : (table more : List Ty) (l : Level ℕ) → are_in table (parts_in l) ≡ true → level_type (type_at (table ++ more)) l ≡ level_type (type_at table) l
level_type-behind table more l within =
    level_type-agree (type_at (table ++ more)) (type_at table) l
    (agree_below (type_at (table ++ more)) (type_at table) (length table) (parts_in l) (type_at-behind table more) within)

-- ---- types that levels make

pub length-types_from : (made : List Ty) (ls : List (Level ℕ)) → length (types_from made ls) ≡ length made + length ls
length-types_from made [] = sym (add-zero (length made))
length-types_from made (l ∷ ls) =
    length-types_from (made ++ level_type (type_at made) l ∷ []) ls
    ∙ (let e = length-append made (level_type (type_at made) l ∷ []) in let none : length {A = Ty} [] ≡ 0 = refl in
    let one : length (level_type (type_at made) l ∷ []) ≡ suc (length {A = Ty} []) = refl in
    let more : length (l ∷ ls) ≡ suc (length ls) = refl in omega arith)

pub types_from-append : (made : List Ty) (ls : List (Level ℕ)) (l : Level ℕ) →
    types_from made (ls ++ l ∷ []) ≡ types_from made ls ++ level_type (type_at (types_from made ls)) l ∷ []
types_from-append made [] l = refl
types_from-append made (m ∷ ls) l = types_from-append (made ++ level_type (type_at made) m ∷ []) ls l

pub have_parts-append : (n : ℕ) (ls : List (Level ℕ)) (l : Level ℕ) → have_parts n ls ≡ true → are_below (n + length ls) (parts_in l) ≡ true → have_parts n (ls ++ l ∷ []) ≡ true
have_parts-append n [] l have below = and_from _ _ (subst (λ (k : ℕ). are_below k (parts_in l) ≡ true) (add-zero n) below) refl
have_parts-append n (m ∷ ls) l have below =
    let both = and_parts _ _ have in
    let is : n + length (m ∷ ls) ≡ n + 1 + length ls = (let e : length (m ∷ ls) ≡ suc (length ls) = refl in omega arith) in
    and_from _ _ both.0 (have_parts-append (n + 1) ls l both.1 (subst (λ (k : ℕ). are_below k (parts_in l) ≡ true) is below))

-- the types that were made stay in front
pub record Fronted (made whole : List Ty) : Type 0 where
  pub rest : List Ty
  pub is : whole ≡ made ++ rest

pub types_from-front : (made : List Ty) (ls : List (Level ℕ)) → Fronted made (types_from made ls)
types_from-front made [] = record { rest = []; is = sym (append-nil made) }
  where
    append-nil : (xs : List Ty) → xs ++ [] ≡ xs
    append-nil [] = refl
    append-nil (x ∷ xs) = ap (λ (ys : List Ty). x ∷ ys) (append-nil xs)
types_from-front made (l ∷ ls) =
    let t = level_type (type_at made) l in
    let more = types_from-front (made ++ t ∷ []) ls in
    record { rest = t ∷ more.rest; is = more.is ∙ append_assoc made (t ∷ []) more.rest }

-- ---- the level of a number

-- a number has this level
pub record IsLevelOf (n : ℕ) (table : List Ty) (l : Level ℕ) : Type 0 where
  pub parts : are_below n (parts_in l) ≡ true
  pub is : type_at table n ≡ level_type (type_at table) l

pub level_made : (made : List Ty) (ls : List (Level ℕ)) (k : ℕ) (d : Level ℕ) → have_parts (length made) ls ≡ true → k < length ls →
    IsLevelOf (length made + k) (types_from made ls) (get_or ls k d)
level_made made [] k d have within = absurd (let none : length {A = Level ℕ} [] ≡ 0 = refl in omega arith)
level_made made (l ∷ ls) zero d have within =
    let both = and_parts _ _ have in
    let t = level_type (type_at made) l in
    let front = types_from-front (made ++ t ∷ []) ls in
    let whole : types_from made (l ∷ ls) ≡ made ++ t ∷ front.rest = front.is ∙ append_assoc made (t ∷ []) front.rest in
    let here : type_at (made ++ t ∷ front.rest) (length made) ≡ t = get_or-append_seam made t front.rest type.Unit in
    let same : level_type (type_at (made ++ t ∷ front.rest)) l ≡ t = level_type-behind made (t ∷ front.rest) l both.0 in
    record {
      parts = subst (λ (n : ℕ). are_below n (parts_in l) ≡ true) (sym (add-zero (length made))) both.0;
      is = ap (type_at (types_from made (l ∷ ls))) (add-zero (length made)) ∙ ap (λ (table : List Ty). type_at table (length made)) whole ∙ here
          ∙ sym same ∙ ap (λ (table : List Ty). level_type (type_at table) l) (sym whole);
    }
level_made made (l ∷ ls) (suc k) d have within =
    let both = and_parts _ _ have in
    let t = level_type (type_at made) l in
    let long : length (made ++ t ∷ []) ≡ length made + 1 = (let e = length-append made (t ∷ []) in let one : length (t ∷ []) ≡ suc (length {A = Ty} []) = refl in let none : length {A = Ty} [] ≡ 0 = refl in omega arith) in
    let more = level_made (made ++ t ∷ []) ls k d
    (subst (λ (n : ℕ). have_parts n ls ≡ true) (sym long) both.1)
    (let e : length (l ∷ ls) ≡ suc (length ls) = refl in omega arith) in
    let place : length (made ++ t ∷ []) + k ≡ length made + suc k = omega arith in
    record {
      parts = subst (λ (n : ℕ). are_below n (parts_in (get_or ls k d)) ≡ true) place more.parts;
      is = subst (λ (n : ℕ). type_at (types_from made (l ∷ ls)) n ≡ level_type (type_at (types_from made (l ∷ ls))) (get_or ls k d)) place more.is;
    }
