-- Which values of each kind are plain.
use Rattle.std.proofs.Common.{◌≡◌, ℕ, ℤ, pos, ◌^◌, Bool, true, false, List, map, refl, ap, sym, ◌∙◌}
use Rattle.std.specs.Prelude.{◌&&◌, ◌==◌, int_le, nat_lt}
use Rattle.std.specs.List.{list_all}
use Rattle.value_core.specs.declared.val.Val.{Val}
use Rattle.value_core.specs.declared.val.Emit.{Emit}
use Rattle.value_core.specs.declared.val.Val.TheVariants as value
use Rattle.value_core.specs.declared.val.Val.TheOpen as one
use Rattle.value_core.specs.declared.val.Val.TheViews.{roll-Val}
use Rattle.value_core.specs.Layer.{Layer, flat, parts_of}
use Rattle.value_core.specs.Sound.{ascends, is_countable, is_plain, is_settled_level, is_sound_level}
use Rattle.value_core.proofs.Bools.{and_true}
use Rattle.value_core.proofs.Everywhere.{everywhere-roll}

abbrev is_plain_level : Layer Val → Bool
is_plain_level x = is_sound_level x && is_settled_level x

-- a value whose level is known
plain_at : (x : Layer Val) (v : Val) → roll-Val x ≡ v → is_plain v ≡ (is_plain_level x && list_all is_plain (parts_of x))
plain_at x v rolls = ap is_plain (sym rolls) ∙ everywhere-roll is_plain_level x

twice_true : (b : Bool) → ((b && true) && true) ≡ b
twice_true true = refl
twice_true false = refl

middle_true : (b c : Bool) → ((b && true) && c) ≡ (b && c)
middle_true true c = refl
middle_true false c = refl

middle_false : (b c : Bool) → ((b && false) && c) ≡ false
middle_false true c = refl
middle_false false c = refl

pub plain-nat : (n : ℤ) → is_plain (value.Nat n) ≡ int_le (pos 0) n
plain-nat n = plain_at (one.Nat n) _ (value.rolls-Nat n) ∙ twice_true (int_le (pos 0) n)

pub plain-mutez : (n : ℕ) → is_plain (value.Mutez n) ≡ nat_lt n (2 ^ 63)
plain-mutez n = plain_at (one.Mutez n) _ (value.rolls-Mutez n) ∙ twice_true (nat_lt n (2 ^ 63))

pub plain-big_map : (place version : ℕ) → is_plain (value.BigMap place version) ≡ (nat_lt place 16 && version == 0)
plain-big_map place version =
    plain_at (one.BigMap place version) _ (value.rolls-BigMap place version) ∙ and_true (nat_lt place 16 && version == 0)

-- ---- of parts

pub plain-some : (v : Val) → is_plain (value.Some v) ≡ is_plain v
plain-some v = plain_at (one.Some v) _ (value.rolls-Some v) ∙ and_true (is_plain v)

pub plain-left : (v : Val) → is_plain (value.Left v) ≡ is_plain v
plain-left v = plain_at (one.Left v) _ (value.rolls-Left v) ∙ and_true (is_plain v)

pub plain-right : (v : Val) → is_plain (value.Right v) ≡ is_plain v
plain-right v = plain_at (one.Right v) _ (value.rolls-Right v) ∙ and_true (is_plain v)

pub plain-pair : (a b : Val) → is_plain (value.Pair a b) ≡ (is_plain a && is_plain b)
plain-pair a b = plain_at (one.Pair a b) _ (value.rolls-Pair a b) ∙ ap (λ rest. is_plain a && rest) (and_true (is_plain b))

pub plain-list : (items : List Val) → is_plain (value.List items) ≡ (is_countable items && list_all is_plain items)
plain-list items = plain_at (one.List items) _ (value.rolls-List items) ∙ middle_true (is_countable items) (list_all is_plain items)

pub plain-set : (items : List Val) → is_plain (value.Set items) ≡ ((is_countable items && ascends items) && list_all is_plain items)
plain-set items = plain_at (one.Set items) _ (value.rolls-Set items) ∙ middle_true (is_countable items && ascends items) (list_all is_plain items)

pub plain-map : (entries : List (Val × Val)) →
    is_plain (value.Map entries) ≡ ((is_countable entries && ascends (map (λ e. e.0) entries)) && list_all is_plain (flat entries))
plain-map entries =
    plain_at (one.Map entries) _ (value.rolls-Map entries)
    ∙ middle_true (is_countable entries && ascends (map (λ e. e.0) entries)) (list_all is_plain (flat entries))

-- ---- never plain

pub plain-contract : (address entry : List ℕ) → is_plain (value.Contract address entry) ≡ false
plain-contract address entry = plain_at (one.Contract address entry) _ (value.rolls-Contract address entry)

pub plain-operation : (emit : Emit) → is_plain (value.Operation emit) ≡ false
plain-operation emit =
    plain_at (one.Operation emit) _ (value.rolls-Operation emit) ∙ middle_false (nat_lt emit.amount (2 ^ 63)) (list_all is_plain (parts_of (one.Operation emit)))

-- ---- plain, whatever they hold

pub plain-unit : is_plain value.Unit ≡ true
plain-unit = plain_at one.Unit _ value.rolls-Unit

pub plain-bool : (b : Bool) → is_plain (value.Bool b) ≡ true
plain-bool b = plain_at (one.Bool b) _ (value.rolls-Bool b)

pub plain-int : (n : ℤ) → is_plain (value.Int n) ≡ true
plain-int n = plain_at (one.Int n) _ (value.rolls-Int n)

pub plain-time : (n : ℤ) → is_plain (value.Time n) ≡ true
plain-time n = plain_at (one.Time n) _ (value.rolls-Time n)

pub plain-text : (text : List ℕ) → is_plain (value.Text text) ≡ true
plain-text text = plain_at (one.Text text) _ (value.rolls-Text text)

pub plain-bytes : (bytes : List ℕ) → is_plain (value.Bytes bytes) ≡ true
plain-bytes bytes = plain_at (one.Bytes bytes) _ (value.rolls-Bytes bytes)

pub plain-addr : (address : List ℕ) → is_plain (value.Addr address) ≡ true
plain-addr address = plain_at (one.Addr address) _ (value.rolls-Addr address)

pub plain-nothing : is_plain value.Nothing ≡ true
plain-nothing = plain_at one.Nothing _ value.rolls-Nothing
