-- Levels by their kinds and parts: types of equal levels are equal, and equal types have equal levels.
use Rattle.std.proofs.Common.{◌≡◌, ℕ, ◌<◌, true, List, [], ◌∷◌, map, get_or, refl, ap, sym, ◌∙◌}
use Rattle.std.proofs.lemmas.Bool.{and_parts, ltb-true}
use Rattle.value_core.specs.declared.ty.Ty.{Ty}
use Rattle.value_core.specs.declared.ty.Ty.TheVariants as type
use Rattle.value_core.specs.TypeLevels.{types_in}
use Rattle.michelson_code.specs.declared.operands.Level.{Level}
use Rattle.michelson_code.specs.declared.operands.Level.TheVariants as level
use Rattle.michelson_code.specs.Typing.{level_type}
use Rattle.michelson_code.proofs.Types.{level_kind, level_shown, one_kind, shown_alike}
use Rattle.michelson_typer.specs.Tables.{are_below, parts_in}

-- ---- the same parts, the same type

-- the functions agree on each
abbrev pub Agree : {P : Type 0} → (f g : P → Ty) → List P → Type 0
Agree f g [] = Unit {0}
Agree f g (p ∷ ps) = (f p ≡ g p) × Agree f g ps

pub level_type-agree : {P : Type 0} (f g : P → Ty) (l : Level P) → Agree f g (parts_in l) → level_type f l ≡ level_type g l
level_type-agree f g (level.Option p) all = ap type.Option all.0
level_type-agree f g (level.Or p q) all = λ i. type.Or (all.0 i) (all.1.0 i)
level_type-agree f g (level.Pair p q) all = λ i. type.Pair (all.0 i) (all.1.0 i)
level_type-agree f g (level.List p) all = ap type.List all.0
level_type-agree f g (level.Set p) all = ap type.Set all.0
level_type-agree f g (level.Map p q) all = λ i. type.Map (all.0 i) (all.1.0 i)
level_type-agree f g (level.BigMap p q) all = λ i. type.BigMap (all.0 i) (all.1.0 i)
level_type-agree f g (level.Contract p) all = ap type.Contract all.0
level_type-agree f g level.Unit all = refl
level_type-agree f g _ all = refl

-- what holds below a number holds of each part below it
pub agree_below : (f g : ℕ → Ty) (n : ℕ) (ids : List ℕ) → ((id : ℕ) → id < n → f id ≡ g id) → are_below n ids ≡ true → Agree f g ids
agree_below f g n [] same below = tt
agree_below f g n (id ∷ ids) same below =
    let both = and_parts _ _ below in (same id (ltb-true id n both.0), agree_below f g n ids same both.1)

-- ---- the same type, the same parts

-- each kind of level, with these parts
abbrev levels : {P : Type 0} → P → P → List (Level P)
levels p q =
    level.Unit ∷ level.Bool ∷ level.Int ∷ level.Nat ∷ level.Mutez ∷ level.Time ∷ level.Text ∷ level.Bytes ∷ level.Addr ∷
    (level.Option p) ∷ (level.Or p q) ∷ (level.Pair p q) ∷ (level.List p) ∷ (level.Set p) ∷ (level.Map p q) ∷ (level.BigMap p q) ∷
    (level.Contract p) ∷ level.Operation ∷ []

abbrev rebuilt : ℕ → List ℕ → Level ℕ
rebuilt kind ids = get_or (levels (get_or ids 0 0) (get_or ids 1 0)) kind level.Unit

rebuilt-is : (l : Level ℕ) → rebuilt (level_kind l) (parts_in l) ≡ l
rebuilt-is level.Unit = refl
rebuilt-is _ = refl

-- the types of the parts are those that the type shows
shown_parts : {P : Type 0} (f : P → Ty) (l : Level P) → types_in (level_shown f l) ≡ map f (parts_in l)
shown_parts f level.Unit = refl
shown_parts f _ = refl

-- numbers below another with one type are one
abbrev pub IsApartBelow : (ℕ → Ty) → ℕ → Type 0
IsApartBelow f n = (i j : ℕ) → i < n → j < n → f i ≡ f j → i ≡ j

same_ids : (f : ℕ → Ty) (n : ℕ) → IsApartBelow f n → (ids other : List ℕ) → are_below n ids ≡ true → are_below n other ≡ true →
    map f ids ≡ map f other → ids ≡ other
same_ids f n apart [] [] below below' same = refl
same_ids f n apart [] (j ∷ js) below below' same = cc
same_ids f n apart (i ∷ is) [] below below' same = cc
same_ids f n apart (i ∷ is) (j ∷ js) below below' same =
    let first = and_parts _ _ below in
    let second = and_parts _ _ below' in
    let top : f i ≡ f j = cc in
    let rest : map f is ≡ map f js = cc in
    let here = apart i j (ltb-true i n first.0) (ltb-true j n second.0) top in
    let more = same_ids f n apart is js first.1 second.1 rest in
    λ k. here k ∷ more k

-- two levels with one type are equal, where their parts are below such a number
pub level-once : (f : ℕ → Ty) (n : ℕ) → IsApartBelow f n → (l m : Level ℕ) → are_below n (parts_in l) ≡ true → are_below n (parts_in m) ≡ true →
    level_type f l ≡ level_type f m → l ≡ m
level-once f n apart l m below below' same =
    let kinds = one_kind f f l m same in
    let parts = sym (shown_parts f l) ∙ ap types_in (shown_alike f f l m same) ∙ shown_parts f m in
    let ids = same_ids f n apart (parts_in l) (parts_in m) below below' parts in
    sym (rebuilt-is l) ∙ (λ k. rebuilt (kinds k) (ids k)) ∙ rebuilt-is m
