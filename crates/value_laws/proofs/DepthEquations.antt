-- How deep values of each kind are.
use Rattle.std.proofs.Common.{◌≡◌, ℕ, ℤ, ◌+◌, max, Bool, List, map, ap, sym, ◌∙◌, arith}
use Rattle.value_core.specs.declared.val.Val.{Val}
use Rattle.value_core.specs.declared.val.Emit.{Emit}
use Rattle.value_core.specs.declared.val.Val.TheVariants as value
use Rattle.value_core.specs.declared.val.Val.TheOpen as one
use Rattle.value_core.specs.declared.val.Val.TheViews.{roll-Val}
use Rattle.value_core.specs.Layer.{Layer, parts_of}
use Rattle.value_core.specs.Depth.{depth_of, greatest}
use Rattle.value_core.proofs.Levels.{by_level-roll, parts_of-on_parts}

-- a value whose level is known
depth_at : (x : Layer Val) (v : Val) → roll-Val x ≡ v → depth_of v ≡ 1 + greatest (map depth_of (parts_of x))
depth_at x v rolls =
    ap depth_of (sym rolls)
    ∙ by_level-roll {A = ℕ} (λ x. 1 + greatest (parts_of x)) x
    ∙ ap (λ ns. 1 + greatest ns) (parts_of-on_parts depth_of x)

one_deeper : (n : ℕ) → 1 + max n 0 ≡ 1 + n
one_deeper n = omega arith

deeper_of_two : (m n : ℕ) → 1 + max m (max n 0) ≡ 1 + max m n
deeper_of_two m n = omega arith

pub depth-some : (v : Val) → depth_of (value.Some v) ≡ 1 + depth_of v
depth-some v = depth_at (one.Some v) _ (value.rolls-Some v) ∙ one_deeper (depth_of v)

pub depth-left : (v : Val) → depth_of (value.Left v) ≡ 1 + depth_of v
depth-left v = depth_at (one.Left v) _ (value.rolls-Left v) ∙ one_deeper (depth_of v)

pub depth-right : (v : Val) → depth_of (value.Right v) ≡ 1 + depth_of v
depth-right v = depth_at (one.Right v) _ (value.rolls-Right v) ∙ one_deeper (depth_of v)

pub depth-pair : (a b : Val) → depth_of (value.Pair a b) ≡ 1 + max (depth_of a) (depth_of b)
depth-pair a b = depth_at (one.Pair a b) _ (value.rolls-Pair a b) ∙ deeper_of_two (depth_of a) (depth_of b)

pub depth-operation : (emit : Emit) → depth_of (value.Operation emit) ≡ 1 + depth_of emit.param
depth-operation emit = depth_at (one.Operation emit) _ (value.rolls-Operation emit) ∙ one_deeper (depth_of emit.param)

-- ---- without parts

pub depth-unit : depth_of value.Unit ≡ 1
depth-unit = depth_at one.Unit _ value.rolls-Unit

pub depth-bool : (b : Bool) → depth_of (value.Bool b) ≡ 1
depth-bool b = depth_at (one.Bool b) _ (value.rolls-Bool b)

pub depth-int : (n : ℤ) → depth_of (value.Int n) ≡ 1
depth-int n = depth_at (one.Int n) _ (value.rolls-Int n)

pub depth-nat : (n : ℤ) → depth_of (value.Nat n) ≡ 1
depth-nat n = depth_at (one.Nat n) _ (value.rolls-Nat n)

pub depth-mutez : (n : ℕ) → depth_of (value.Mutez n) ≡ 1
depth-mutez n = depth_at (one.Mutez n) _ (value.rolls-Mutez n)

pub depth-time : (n : ℤ) → depth_of (value.Time n) ≡ 1
depth-time n = depth_at (one.Time n) _ (value.rolls-Time n)

pub depth-text : (text : List ℕ) → depth_of (value.Text text) ≡ 1
depth-text text = depth_at (one.Text text) _ (value.rolls-Text text)

pub depth-bytes : (bytes : List ℕ) → depth_of (value.Bytes bytes) ≡ 1
depth-bytes bytes = depth_at (one.Bytes bytes) _ (value.rolls-Bytes bytes)

pub depth-addr : (address : List ℕ) → depth_of (value.Addr address) ≡ 1
depth-addr address = depth_at (one.Addr address) _ (value.rolls-Addr address)

pub depth-nothing : depth_of value.Nothing ≡ 1
depth-nothing = depth_at one.Nothing _ value.rolls-Nothing

pub depth-big_map : (place version : ℕ) → depth_of (value.BigMap place version) ≡ 1
depth-big_map place version = depth_at (one.BigMap place version) _ (value.rolls-BigMap place version)

pub depth-contract : (address entry : List ℕ) → depth_of (value.Contract address entry) ≡ 1
depth-contract address entry = depth_at (one.Contract address entry) _ (value.rolls-Contract address entry)
