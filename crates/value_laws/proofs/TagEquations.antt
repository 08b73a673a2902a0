-- The tag of values of each kind.
use Rattle.std.proofs.Common.{◌≡◌, ℕ, ℤ, Bool, List, ap, sym, ◌∙◌}
use Rattle.std.specs.Prelude.{if◌then◌else◌}
use Rattle.value_core.specs.declared.val.Val.{Val}
use Rattle.value_core.specs.declared.val.Emit.{Emit}
use Rattle.value_core.specs.declared.val.Val.TheVariants as value
use Rattle.value_core.specs.declared.val.Val.TheOpen as one
use Rattle.value_core.specs.declared.val.Val.TheViews.{out-Val, roll-Val}
use Rattle.value_core.specs.Layer.{Layer, tag_of}
use Rattle.value_core.proofs.Levels.{out-roll}

-- a value whose level is known
tag_at : (x : Layer Val) (v : Val) → roll-Val x ≡ v → tag_of (out-Val v) ≡ tag_of x
tag_at x v rolls = ap (λ w. tag_of (out-Val w)) (sym rolls) ∙ ap tag_of (out-roll x)

pub tag-unit : tag_of (out-Val value.Unit) ≡ 0
tag-unit = tag_at one.Unit _ value.rolls-Unit

pub tag-bool : (b : Bool) → tag_of (out-Val (value.Bool b)) ≡ (if b then 2 else 1)
tag-bool b = tag_at (one.Bool b) _ (value.rolls-Bool b)

pub tag-int : (n : ℤ) → tag_of (out-Val (value.Int n)) ≡ 3
tag-int n = tag_at (one.Int n) _ (value.rolls-Int n)

pub tag-nat : (n : ℤ) → tag_of (out-Val (value.Nat n)) ≡ 4
tag-nat n = tag_at (one.Nat n) _ (value.rolls-Nat n)

pub tag-mutez : (n : ℕ) → tag_of (out-Val (value.Mutez n)) ≡ 5
tag-mutez n = tag_at (one.Mutez n) _ (value.rolls-Mutez n)

pub tag-time : (n : ℤ) → tag_of (out-Val (value.Time n)) ≡ 6
tag-time n = tag_at (one.Time n) _ (value.rolls-Time n)

pub tag-text : (text : List ℕ) → tag_of (out-Val (value.Text text)) ≡ 7
tag-text text = tag_at (one.Text text) _ (value.rolls-Text text)

pub tag-bytes : (bytes : List ℕ) → tag_of (out-Val (value.Bytes bytes)) ≡ 8
tag-bytes bytes = tag_at (one.Bytes bytes) _ (value.rolls-Bytes bytes)

pub tag-addr : (address : List ℕ) → tag_of (out-Val (value.Addr address)) ≡ 9
tag-addr address = tag_at (one.Addr address) _ (value.rolls-Addr address)

pub tag-nothing : tag_of (out-Val value.Nothing) ≡ 10
tag-nothing = tag_at one.Nothing _ value.rolls-Nothing

pub tag-some : (v : Val) → tag_of (out-Val (value.Some v)) ≡ 11
tag-some v = tag_at (one.Some v) _ (value.rolls-Some v)

pub tag-left : (v : Val) → tag_of (out-Val (value.Left v)) ≡ 12
tag-left v = tag_at (one.Left v) _ (value.rolls-Left v)

pub tag-right : (v : Val) → tag_of (out-Val (value.Right v)) ≡ 13
tag-right v = tag_at (one.Right v) _ (value.rolls-Right v)

pub tag-pair : (a b : Val) → tag_of (out-Val (value.Pair a b)) ≡ 14
tag-pair a b = tag_at (one.Pair a b) _ (value.rolls-Pair a b)

pub tag-list : (items : List Val) → tag_of (out-Val (value.List items)) ≡ 15
tag-list items = tag_at (one.List items) _ (value.rolls-List items)

pub tag-set : (items : List Val) → tag_of (out-Val (value.Set items)) ≡ 16
tag-set items = tag_at (one.Set items) _ (value.rolls-Set items)

pub tag-map : (entries : List (Val × Val)) → tag_of (out-Val (value.Map entries)) ≡ 17
tag-map entries = tag_at (one.Map entries) _ (value.rolls-Map entries)

pub tag-big_map : (place version : ℕ) → tag_of (out-Val (value.BigMap place version)) ≡ 18
tag-big_map place version = tag_at (one.BigMap place version) _ (value.rolls-BigMap place version)

pub tag-contract : (address entry : List ℕ) → tag_of (out-Val (value.Contract address entry)) ≡ 19
tag-contract address entry = tag_at (one.Contract address entry) _ (value.rolls-Contract address entry)

pub tag-operation : (emit : Emit) → tag_of (out-Val (value.Operation emit)) ≡ 20
tag-operation emit = tag_at (one.Operation emit) _ (value.rolls-Operation emit)
