-- Which types of each kind may be passed, and which may be compared.
use Rattle.std.proofs.Common.{◌≡◌, Bool, true, false, rules}
use Rattle.std.specs.Prelude.{◌&&◌}
use Rattle.value_core.specs.declared.ty.Ty.{Ty}
use Rattle.value_core.specs.declared.ty.Ty.TheVariants as kind
use Rattle.value_core.specs.declared.ty.Ty.TheOpen as ty
use Rattle.value_core.specs.declared.ty.Ty.TheOpen.{Ty-F}
use Rattle.value_core.specs.declared.ty.Ty.TheViews.{out-Ty, the_lemmas}
use Rattle.value_core.specs.declared.ty.Ty.TheFolds.{map-Ty}
use Rattle.value_core.specs.Kinds.{comparable_level, is_comparable, is_passable, passable_level}
use Rattle.value_core.specs.TypeLevels.{fold-at}

-- a type whose level is known
passable_at : (x : Ty-F Ty) (t : Ty) → out-Ty t ≡ x → is_passable t ≡ passable_level (map-Ty Ty Bool is_passable x)
passable_at x t shows = fold-at passable_level t x shows

pub passable-option : (t : Ty) → is_passable (kind.Option t) ≡ is_passable t
passable-option t = passable_at (ty.Option t) _ (search (rules, the_lemmas))

pub passable-or : (s t : Ty) → is_passable (kind.Or s t) ≡ (is_passable s && is_passable t)
passable-or s t = passable_at (ty.Or s t) _ (search (rules, the_lemmas))

pub passable-pair : (s t : Ty) → is_passable (kind.Pair s t) ≡ (is_passable s && is_passable t)
passable-pair s t = passable_at (ty.Pair s t) _ (search (rules, the_lemmas))

pub passable-list : (t : Ty) → is_passable (kind.List t) ≡ is_passable t
passable-list t = passable_at (ty.List t) _ (search (rules, the_lemmas))

pub passable-set : (t : Ty) → is_passable (kind.Set t) ≡ is_passable t
passable-set t = passable_at (ty.Set t) _ (search (rules, the_lemmas))

pub passable-map : (k w : Ty) → is_passable (kind.Map k w) ≡ (is_passable k && is_passable w)
passable-map k w = passable_at (ty.Map k w) _ (search (rules, the_lemmas))

pub passable-big_map : (k w : Ty) → is_passable (kind.BigMap k w) ≡ false
passable-big_map k w = passable_at (ty.BigMap k w) _ (search (rules, the_lemmas))

pub passable-contract : (t : Ty) → is_passable (kind.Contract t) ≡ false
passable-contract t = passable_at (ty.Contract t) _ (search (rules, the_lemmas))

pub passable-unit : is_passable kind.Unit ≡ true
passable-unit = passable_at ty.Unit _ (search (rules, the_lemmas))

pub passable-bool : is_passable kind.Bool ≡ true
passable-bool = passable_at ty.Bool _ (search (rules, the_lemmas))

pub passable-int : is_passable kind.Int ≡ true
passable-int = passable_at ty.Int _ (search (rules, the_lemmas))

pub passable-nat : is_passable kind.Nat ≡ true
passable-nat = passable_at ty.Nat _ (search (rules, the_lemmas))

pub passable-mutez : is_passable kind.Mutez ≡ true
passable-mutez = passable_at ty.Mutez _ (search (rules, the_lemmas))

pub passable-time : is_passable kind.Time ≡ true
passable-time = passable_at ty.Time _ (search (rules, the_lemmas))

pub passable-text : is_passable kind.Text ≡ true
passable-text = passable_at ty.Text _ (search (rules, the_lemmas))

pub passable-bytes : is_passable kind.Bytes ≡ true
passable-bytes = passable_at ty.Bytes _ (search (rules, the_lemmas))

pub passable-addr : is_passable kind.Addr ≡ true
passable-addr = passable_at ty.Addr _ (search (rules, the_lemmas))

pub passable-operation : is_passable kind.Operation ≡ false
passable-operation = passable_at ty.Operation _ (search (rules, the_lemmas))

-- a type whose level is known
comparable_at : (x : Ty-F Ty) (t : Ty) → out-Ty t ≡ x → is_comparable t ≡ comparable_level (map-Ty Ty Bool is_comparable x)
comparable_at x t shows = fold-at comparable_level t x shows

pub comparable-option : (t : Ty) → is_comparable (kind.Option t) ≡ is_comparable t
comparable-option t = comparable_at (ty.Option t) _ (search (rules, the_lemmas))

pub comparable-or : (s t : Ty) → is_comparable (kind.Or s t) ≡ (is_comparable s && is_comparable t)
comparable-or s t = comparable_at (ty.Or s t) _ (search (rules, the_lemmas))

pub comparable-pair : (s t : Ty) → is_comparable (kind.Pair s t) ≡ (is_comparable s && is_comparable t)
comparable-pair s t = comparable_at (ty.Pair s t) _ (search (rules, the_lemmas))

pub comparable-list : (t : Ty) → is_comparable (kind.List t) ≡ false
comparable-list t = comparable_at (ty.List t) _ (search (rules, the_lemmas))

pub comparable-set : (t : Ty) → is_comparable (kind.Set t) ≡ false
comparable-set t = comparable_at (ty.Set t) _ (search (rules, the_lemmas))

pub comparable-map : (k w : Ty) → is_comparable (kind.Map k w) ≡ false
comparable-map k w = comparable_at (ty.Map k w) _ (search (rules, the_lemmas))

pub comparable-big_map : (k w : Ty) → is_comparable (kind.BigMap k w) ≡ false
comparable-big_map k w = comparable_at (ty.BigMap k w) _ (search (rules, the_lemmas))

pub comparable-contract : (t : Ty) → is_comparable (kind.Contract t) ≡ false
comparable-contract t = comparable_at (ty.Contract t) _ (search (rules, the_lemmas))

pub comparable-unit : is_comparable kind.Unit ≡ true
comparable-unit = comparable_at ty.Unit _ (search (rules, the_lemmas))

pub comparable-bool : is_comparable kind.Bool ≡ true
comparable-bool = comparable_at ty.Bool _ (search (rules, the_lemmas))

pub comparable-int : is_comparable kind.Int ≡ true
comparable-int = comparable_at ty.Int _ (search (rules, the_lemmas))

pub comparable-nat : is_comparable kind.Nat ≡ true
comparable-nat = comparable_at ty.Nat _ (search (rules, the_lemmas))

pub comparable-mutez : is_comparable kind.Mutez ≡ true
comparable-mutez = comparable_at ty.Mutez _ (search (rules, the_lemmas))

pub comparable-time : is_comparable kind.Time ≡ true
comparable-time = comparable_at ty.Time _ (search (rules, the_lemmas))

pub comparable-text : is_comparable kind.Text ≡ true
comparable-text = comparable_at ty.Text _ (search (rules, the_lemmas))

pub comparable-bytes : is_comparable kind.Bytes ≡ true
comparable-bytes = comparable_at ty.Bytes _ (search (rules, the_lemmas))

pub comparable-addr : is_comparable kind.Addr ≡ true
comparable-addr = comparable_at ty.Addr _ (search (rules, the_lemmas))

pub comparable-operation : is_comparable kind.Operation ≡ false
comparable-operation = comparable_at ty.Operation _ (search (rules, the_lemmas))
