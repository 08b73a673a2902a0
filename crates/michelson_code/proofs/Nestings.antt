-- How values of each kind are nested in brackets.
use Rattle.std.proofs.Common.{◌≡◌, ℕ, ℤ, Bool, List, [], ◌∷◌, map, sym, ap, ◌∙◌}
use Rattle.value_core.specs.declared.val.Val.{Val}
use Rattle.value_core.specs.declared.val.Val.TheVariants as value
use Rattle.value_core.specs.declared.val.Val.TheViews.{roll-Val}
use Rattle.value_core.specs.declared.val.Val.TheOpen as one
use Rattle.value_core.specs.Layer.{Layer, on_parts}
use Rattle.value_core.proofs.Levels.{by_level-roll}
use Rattle.michelson_code.specs.Brackets.{applied, braced, entry_inside, inside, nesting_level, nesting_of, nestings_of, plain}

nesting-roll : (x : Layer Val) → nesting_of (roll-Val x) ≡ nesting_level (on_parts nesting_of x)
nesting-roll = by_level-roll nesting_level

pub nesting-unit : nesting_of value.Unit ≡ plain
nesting-unit = ap nesting_of (sym value.rolls-Unit) ∙ nesting-roll one.Unit

pub nesting-bool : (b : Bool) → nesting_of (value.Bool b) ≡ plain
nesting-bool b = ap nesting_of (sym (value.rolls-Bool b)) ∙ nesting-roll (one.Bool b)

pub nesting-int : (n : ℤ) → nesting_of (value.Int n) ≡ plain
nesting-int n = ap nesting_of (sym (value.rolls-Int n)) ∙ nesting-roll (one.Int n)

pub nesting-nat : (n : ℤ) → nesting_of (value.Nat n) ≡ plain
nesting-nat n = ap nesting_of (sym (value.rolls-Nat n)) ∙ nesting-roll (one.Nat n)

pub nesting-mutez : (n : ℕ) → nesting_of (value.Mutez n) ≡ plain
nesting-mutez n = ap nesting_of (sym (value.rolls-Mutez n)) ∙ nesting-roll (one.Mutez n)

pub nesting-time : (n : ℤ) → nesting_of (value.Time n) ≡ plain
nesting-time n = ap nesting_of (sym (value.rolls-Time n)) ∙ nesting-roll (one.Time n)

pub nesting-text : (s : List ℕ) → nesting_of (value.Text s) ≡ plain
nesting-text s = ap nesting_of (sym (value.rolls-Text s)) ∙ nesting-roll (one.Text s)

pub nesting-bytes : (s : List ℕ) → nesting_of (value.Bytes s) ≡ plain
nesting-bytes s = ap nesting_of (sym (value.rolls-Bytes s)) ∙ nesting-roll (one.Bytes s)

pub nesting-addr : (s : List ℕ) → nesting_of (value.Addr s) ≡ plain
nesting-addr s = ap nesting_of (sym (value.rolls-Addr s)) ∙ nesting-roll (one.Addr s)

pub nesting-nothing : nesting_of value.Nothing ≡ plain
nesting-nothing = ap nesting_of (sym value.rolls-Nothing) ∙ nesting-roll one.Nothing

pub nesting-some : (v : Val) → nesting_of (value.Some v) ≡ applied (nesting_of v ∷ [])
nesting-some v = ap nesting_of (sym (value.rolls-Some v)) ∙ nesting-roll (one.Some v)

pub nesting-left : (v : Val) → nesting_of (value.Left v) ≡ applied (nesting_of v ∷ [])
nesting-left v = ap nesting_of (sym (value.rolls-Left v)) ∙ nesting-roll (one.Left v)

pub nesting-right : (v : Val) → nesting_of (value.Right v) ≡ applied (nesting_of v ∷ [])
nesting-right v = ap nesting_of (sym (value.rolls-Right v)) ∙ nesting-roll (one.Right v)

pub nesting-pair : (v w : Val) → nesting_of (value.Pair v w) ≡ applied (nesting_of v ∷ nesting_of w ∷ [])
nesting-pair v w = ap nesting_of (sym (value.rolls-Pair v w)) ∙ nesting-roll (one.Pair v w)

pub nesting-list : (vs : List Val) → nesting_of (value.List vs) ≡ braced (map inside (map nesting_of vs))
nesting-list vs = ap nesting_of (sym (value.rolls-List vs)) ∙ nesting-roll (one.List vs)

pub nesting-set : (vs : List Val) → nesting_of (value.Set vs) ≡ braced (map inside (map nesting_of vs))
nesting-set vs = ap nesting_of (sym (value.rolls-Set vs)) ∙ nesting-roll (one.Set vs)

pub nesting-map : (es : List (Val × Val)) → nesting_of (value.Map es) ≡ braced (map entry_inside (map nestings_of es))
nesting-map es = ap nesting_of (sym (value.rolls-Map es)) ∙ nesting-roll (one.Map es)

pub ruleset nestings = (nesting-unit, nesting-bool, nesting-int, nesting-nat, nesting-mutez, nesting-time, nesting-text, nesting-bytes, nesting-addr, nesting-nothing, nesting-some, nesting-left, nesting-right, nesting-pair, nesting-list, nesting-set, nesting-map)
