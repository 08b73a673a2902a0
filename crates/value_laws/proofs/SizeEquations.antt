-- How large values of each kind are.
use Rattle.std.proofs.Common.{◌≡◌, ℕ, ℤ, ◌+◌, ◌/◌, Bool, List, length, ap, sym, ◌∙◌}
use Rattle.value_core.specs.declared.val.Val.{Val}
use Rattle.value_core.specs.declared.val.Emit.{Emit}
use Rattle.value_core.specs.declared.val.Val.TheVariants as value
use Rattle.value_core.specs.declared.val.Val.TheOpen as one
use Rattle.value_core.specs.declared.val.Val.TheViews.{roll-Val}
use Rattle.value_core.specs.Layer.{Layer, on_parts}
use Rattle.value_core.specs.Size.{level_size, size_of}
use Rattle.value_core.proofs.Levels.{by_level-roll}

-- a value whose level is known
size_at : (x : Layer Val) (v : Val) → roll-Val x ≡ v → size_of v ≡ level_size (on_parts size_of x)
size_at x v rolls = ap size_of (sym rolls) ∙ by_level-roll level_size x

pub size-some : (v : Val) → size_of (value.Some v) ≡ 1 + size_of v
size-some v = size_at (one.Some v) _ (value.rolls-Some v)

pub size-left : (v : Val) → size_of (value.Left v) ≡ 1 + size_of v
size-left v = size_at (one.Left v) _ (value.rolls-Left v)

pub size-right : (v : Val) → size_of (value.Right v) ≡ 1 + size_of v
size-right v = size_at (one.Right v) _ (value.rolls-Right v)

pub size-operation : (emit : Emit) → size_of (value.Operation emit) ≡ 1 + size_of emit.param
size-operation emit = size_at (one.Operation emit) _ (value.rolls-Operation emit)

pub size-text : (text : List ℕ) → size_of (value.Text text) ≡ 1 + length text / 32
size-text text = size_at (one.Text text) _ (value.rolls-Text text)

pub size-bytes : (bytes : List ℕ) → size_of (value.Bytes bytes) ≡ 1 + length bytes / 32
size-bytes bytes = size_at (one.Bytes bytes) _ (value.rolls-Bytes bytes)

-- ---- of size 1

pub size-unit : size_of value.Unit ≡ 1
size-unit = size_at one.Unit _ value.rolls-Unit

pub size-bool : (b : Bool) → size_of (value.Bool b) ≡ 1
size-bool b = size_at (one.Bool b) _ (value.rolls-Bool b)

pub size-int : (n : ℤ) → size_of (value.Int n) ≡ 1
size-int n = size_at (one.Int n) _ (value.rolls-Int n)

pub size-nat : (n : ℤ) → size_of (value.Nat n) ≡ 1
size-nat n = size_at (one.Nat n) _ (value.rolls-Nat n)

pub size-mutez : (n : ℕ) → size_of (value.Mutez n) ≡ 1
size-mutez n = size_at (one.Mutez n) _ (value.rolls-Mutez n)

pub size-time : (n : ℤ) → size_of (value.Time n) ≡ 1
size-time n = size_at (one.Time n) _ (value.rolls-Time n)

pub size-addr : (address : List ℕ) → size_of (value.Addr address) ≡ 1
size-addr address = size_at (one.Addr address) _ (value.rolls-Addr address)

pub size-nothing : size_of value.Nothing ≡ 1
size-nothing = size_at one.Nothing _ value.rolls-Nothing

pub size-big_map : (place version : ℕ) → size_of (value.BigMap place version) ≡ 1
size-big_map place version = size_at (one.BigMap place version) _ (value.rolls-BigMap place version)

pub size-contract : (address entry : List ℕ) → size_of (value.Contract address entry) ≡ 1
size-contract address entry = size_at (one.Contract address entry) _ (value.rolls-Contract address entry)
