-- Which values of each kind are sound.
use Rattle.std.proofs.Common.{◌≡◌, ℕ, ℤ, pos, ◌^◌, Bool, true, List, ap, sym, ◌∙◌}
use Rattle.std.specs.Prelude.{◌&&◌, int_le, nat_lt}
use Rattle.std.specs.List.{list_all}
use Rattle.value_core.specs.declared.val.Val.{Val}
use Rattle.value_core.specs.declared.val.Emit.{Emit}
use Rattle.value_core.specs.declared.val.Val.TheVariants as value
use Rattle.value_core.specs.declared.val.Val.TheOpen as one
use Rattle.value_core.specs.declared.val.Val.TheViews.{roll-Val}
use Rattle.value_core.specs.Layer.{Layer, parts_of}
use Rattle.value_core.specs.Sound.{is_sound, is_sound_level}
use Rattle.value_core.proofs.Bools.{and_true}
use Rattle.value_core.proofs.Everywhere.{everywhere-roll}

-- a value whose level is known
sound_at : (x : Layer Val) (v : Val) → roll-Val x ≡ v → is_sound v ≡ (is_sound_level x && list_all is_sound (parts_of x))
sound_at x v rolls = ap is_sound (sym rolls) ∙ everywhere-roll is_sound_level x

pub sound-nat : (n : ℤ) → is_sound (value.Nat n) ≡ int_le (pos 0) n
sound-nat n = sound_at (one.Nat n) _ (value.rolls-Nat n) ∙ and_true (int_le (pos 0) n)

pub sound-mutez : (n : ℕ) → is_sound (value.Mutez n) ≡ nat_lt n (2 ^ 63)
sound-mutez n = sound_at (one.Mutez n) _ (value.rolls-Mutez n) ∙ and_true (nat_lt n (2 ^ 63))

pub sound-big_map : (place version : ℕ) → is_sound (value.BigMap place version) ≡ nat_lt place 16
sound-big_map place version = sound_at (one.BigMap place version) _ (value.rolls-BigMap place version) ∙ and_true (nat_lt place 16)

pub sound-some : (v : Val) → is_sound (value.Some v) ≡ is_sound v
sound-some v = sound_at (one.Some v) _ (value.rolls-Some v) ∙ and_true (is_sound v)

pub sound-left : (v : Val) → is_sound (value.Left v) ≡ is_sound v
sound-left v = sound_at (one.Left v) _ (value.rolls-Left v) ∙ and_true (is_sound v)

pub sound-right : (v : Val) → is_sound (value.Right v) ≡ is_sound v
sound-right v = sound_at (one.Right v) _ (value.rolls-Right v) ∙ and_true (is_sound v)

pub sound-operation : (emit : Emit) → is_sound (value.Operation emit) ≡ (nat_lt emit.amount (2 ^ 63) && is_sound emit.param)
sound-operation emit =
    sound_at (one.Operation emit) _ (value.rolls-Operation emit) ∙ ap (λ b. nat_lt emit.amount (2 ^ 63) && b) (and_true (is_sound emit.param))

-- ---- sound, whatever they hold

pub sound-unit : is_sound value.Unit ≡ true
sound-unit = sound_at one.Unit _ value.rolls-Unit

pub sound-bool : (b : Bool) → is_sound (value.Bool b) ≡ true
sound-bool b = sound_at (one.Bool b) _ (value.rolls-Bool b)

pub sound-int : (n : ℤ) → is_sound (value.Int n) ≡ true
sound-int n = sound_at (one.Int n) _ (value.rolls-Int n)

pub sound-time : (n : ℤ) → is_sound (value.Time n) ≡ true
sound-time n = sound_at (one.Time n) _ (value.rolls-Time n)

pub sound-text : (text : List ℕ) → is_sound (value.Text text) ≡ true
sound-text text = sound_at (one.Text text) _ (value.rolls-Text text)

pub sound-bytes : (bytes : List ℕ) → is_sound (value.Bytes bytes) ≡ true
sound-bytes bytes = sound_at (one.Bytes bytes) _ (value.rolls-Bytes bytes)

pub sound-addr : (address : List ℕ) → is_sound (value.Addr address) ≡ true
sound-addr address = sound_at (one.Addr address) _ (value.rolls-Addr address)

pub sound-nothing : is_sound value.Nothing ≡ true
sound-nothing = sound_at one.Nothing _ value.rolls-Nothing

pub sound-contract : (address entry : List ℕ) → is_sound (value.Contract address entry) ≡ true
sound-contract address entry = sound_at (one.Contract address entry) _ (value.rolls-Contract address entry)
