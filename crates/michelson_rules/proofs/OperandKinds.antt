-- The kinds of operands, and which values have which type, for any typing that goes by levels.
use Rattle.std.proofs.Common.{ℕ, ℤ, pos, negsuc, ◌^◌, Bool, List, Option, Some, None, arith}
use Rattle.std.specs.Prelude.{IsTrue, nat_le, nat_lt}
use Rattle.std.proofs.lemmas.Bool.{le-leb}
use Rattle.value_core.specs.declared.val.Emit.{Emit}
use Rattle.value_core.specs.declared.val.Val.{Val}
use Rattle.value_core.specs.declared.val.Val.TheOpen as is
use Rattle.value_core.specs.declared.val.Val.TheVariants as value
use Rattle.value_core.specs.declared.ty.Ty.{Ty}
use Rattle.value_core.specs.declared.ty.Ty.TheOpen as ty
use Rattle.value_core.specs.declared.ty.Ty.TheOpen.{Ty-F}
use Rattle.value_core.specs.declared.ty.Ty.TheVariants as type
use Rattle.value_core.specs.Layer.{Layer}
use Rattle.value_core.specs.Sorted.{keys_of}
use Rattle.value_core.specs.Sound.{ascends, is_countable, is_sound}
use Rattle.michelson_rules.specs.TypedLevels.{AllHave, EntriesHave, Fits}
use Rattle.michelson_rules.proofs.TypedAnswers.{Typing, Kind, built, shown}

module _ (typing : Typing) where
  abbrev FitsHere : Layer Val → Ty-F Ty → Type 0
  FitsHere = Fits typing.Has typing.HasMap

  -- ---- what stands in a value of each type

  -- an amount in its range
  abbrev pub Amount : Type 0
  Amount = (n : ℕ) × IsTrue (nat_lt n (2 ^ 63))

  -- items of a list, of a set, and entries of a map
  abbrev pub ListOf : Ty → Type 0
  ListOf t = (items : List Val) × IsTrue (is_countable items) × AllHave typing.Has typing.HasMap t items

  abbrev pub SetOf : Ty → Type 0
  SetOf t = (items : List Val) × IsTrue (is_countable items) × IsTrue (ascends items) × AllHave typing.Has typing.HasMap t items

  abbrev pub MapOf : Ty → Ty → Type 0
  MapOf k w = (entries : List (Val × Val)) × IsTrue (is_countable entries) × IsTrue (ascends (keys_of entries)) × EntriesHave typing.Has typing.HasMap k w entries

  -- both parts of a pair
  abbrev pub PairOf : Ty → Ty → Type 0
  PairOf s t = (a b : Val) × typing.Has a s × typing.Has b t

  -- an address, and the name of an entry
  abbrev pub Called : Type 0
  Called = List ℕ × List ℕ

  pub at_bool : (P : Layer Val → Type 0) → ((b : Bool) → P (is.Bool b)) → (x : Layer Val) → FitsHere x ty.Bool → P x
  at_bool P h (is.Bool b) fits = h b
  at_bool P h x fits = absurd fits

  pub at_int : (P : Layer Val → Type 0) → ((z : ℤ) → P (is.Int z)) → (x : Layer Val) → FitsHere x ty.Int → P x
  at_int P h (is.Int z) fits = h z
  at_int P h x fits = absurd fits

  pub at_nat : (P : Layer Val → Type 0) → ((n : ℕ) → P (is.Nat (pos n))) → (x : Layer Val) → FitsHere x ty.Nat → P x
  at_nat P h (is.Nat (pos n)) fits = h n
  at_nat P h (is.Nat (negsuc n)) fits = absurd cc
  at_nat P h x fits = absurd fits

  pub at_time : (P : Layer Val → Type 0) → ((z : ℤ) → P (is.Time z)) → (x : Layer Val) → FitsHere x ty.Time → P x
  at_time P h (is.Time z) fits = h z
  at_time P h x fits = absurd fits

  pub at_mutez : (P : Layer Val → Type 0) → ((n : Amount) → P (is.Mutez n.0)) → (x : Layer Val) → FitsHere x ty.Mutez → P x
  at_mutez P h (is.Mutez n) fits = h (n, fits)
  at_mutez P h x fits = absurd fits

  pub at_text : (P : Layer Val → Type 0) → ((bytes : List ℕ) → P (is.Text bytes)) → (x : Layer Val) → FitsHere x ty.Text → P x
  at_text P h (is.Text bytes) fits = h bytes
  at_text P h x fits = absurd fits

  pub at_bytes : (P : Layer Val → Type 0) → ((bytes : List ℕ) → P (is.Bytes bytes)) → (x : Layer Val) → FitsHere x ty.Bytes → P x
  at_bytes P h (is.Bytes bytes) fits = h bytes
  at_bytes P h x fits = absurd fits

  pub at_pair : (s t : Ty) → (P : Layer Val → Type 0) → ((p : PairOf s t) → P (is.Pair p.0 p.1)) → (x : Layer Val) → FitsHere x (ty.Pair s t) → P x
  at_pair s t P h (is.Pair a b) fits = h (a, b, fits.0, fits.1)
  at_pair s t P h x fits = absurd fits

  pub at_list : (t : Ty) → (P : Layer Val → Type 0) → ((l : ListOf t) → P (is.List l.0)) → (x : Layer Val) → FitsHere x (ty.List t) → P x
  at_list t P h (is.List items) fits = h (items, fits.0, fits.1)
  at_list t P h x fits = absurd fits

  pub at_set : (t : Ty) → (P : Layer Val → Type 0) → ((l : SetOf t) → P (is.Set l.0)) → (x : Layer Val) → FitsHere x (ty.Set t) → P x
  at_set t P h (is.Set items) fits = h (items, fits.0, fits.1, fits.2)
  at_set t P h x fits = absurd fits

  pub at_map : (k w : Ty) → (P : Layer Val → Type 0) → ((l : MapOf k w) → P (is.Map l.0)) → (x : Layer Val) → FitsHere x (ty.Map k w) → P x
  at_map k w P h (is.Map entries) fits = h (entries, fits.0, fits.1, fits.2)
  at_map k w P h x fits = absurd fits

  pub at_contract : (t : Ty) → (P : Layer Val → Type 0) → ((c : Called) → P (is.Contract c.0 c.1)) → (x : Layer Val) → FitsHere x (ty.Contract t) → P x
  at_contract t P h (is.Contract address entry) fits = h (address, entry)
  at_contract t P h x fits = absurd fits

  pub at_option : (t : Ty) (P : Layer Val → Type 0) → P is.Nothing → ((v : Val) → typing.Has v t → P (is.Some v)) → (x : Layer Val) → FitsHere x (ty.Option t) → P x
  at_option t P nothing some is.Nothing fits = nothing
  at_option t P nothing some (is.Some v) fits = some v fits
  at_option t P nothing some x fits = absurd fits

  -- ---- the kinds

  abbrev pub a_bool : Kind typing
  a_bool = record { type = type.Bool; Data = Bool; layer = λ b. is.Bool b; known = λ v has P h. at_bool P h _ (shown typing v ty.Bool type.Bool type.outs-Bool has) }

  abbrev pub an_int : Kind typing
  an_int = record { type = type.Int; Data = ℤ; layer = λ z. is.Int z; known = λ v has P h. at_int P h _ (shown typing v ty.Int type.Int type.outs-Int has) }

  abbrev pub a_nat : Kind typing
  a_nat = record { type = type.Nat; Data = ℕ; layer = λ n. is.Nat (pos n); known = λ v has P h. at_nat P h _ (shown typing v ty.Nat type.Nat type.outs-Nat has) }

  abbrev pub a_time : Kind typing
  a_time = record { type = type.Time; Data = ℤ; layer = λ z. is.Time z; known = λ v has P h. at_time P h _ (shown typing v ty.Time type.Time type.outs-Time has) }

  abbrev pub a_mutez : Kind typing
  a_mutez = record { type = type.Mutez; Data = Amount; layer = λ n. is.Mutez n.0; known = λ v has P h. at_mutez P h _ (shown typing v ty.Mutez type.Mutez type.outs-Mutez has) }

  abbrev pub a_text : Kind typing
  a_text = record { type = type.Text; Data = List ℕ; layer = λ bytes. is.Text bytes; known = λ v has P h. at_text P h _ (shown typing v ty.Text type.Text type.outs-Text has) }

  abbrev pub a_bytes : Kind typing
  a_bytes = record { type = type.Bytes; Data = List ℕ; layer = λ bytes. is.Bytes bytes; known = λ v has P h. at_bytes P h _ (shown typing v ty.Bytes type.Bytes type.outs-Bytes has) }

  abbrev pub a_pair : (s t : Ty) → Kind typing
  a_pair s t = record { type = (type.Pair s t); Data = PairOf s t; layer = λ p. is.Pair p.0 p.1; known = λ v has P h. at_pair s t P h _ (shown typing v (ty.Pair s t) (type.Pair s t) (type.outs-Pair s t) has) }

  abbrev pub a_list : (t : Ty) → Kind typing
  a_list t = record { type = (type.List t); Data = ListOf t; layer = λ l. is.List l.0; known = λ v has P h. at_list t P h _ (shown typing v (ty.List t) (type.List t) (type.outs-List t) has) }

  abbrev pub a_set : (t : Ty) → Kind typing
  a_set t = record { type = (type.Set t); Data = SetOf t; layer = λ l. is.Set l.0; known = λ v has P h. at_set t P h _ (shown typing v (ty.Set t) (type.Set t) (type.outs-Set t) has) }

  abbrev pub a_map : (k w : Ty) → Kind typing
  a_map k w = record { type = (type.Map k w); Data = MapOf k w; layer = λ l. is.Map l.0; known = λ v has P h. at_map k w P h _ (shown typing v (ty.Map k w) (type.Map k w) (type.outs-Map k w) has) }

  abbrev pub a_contract : (t : Ty) → Kind typing
  a_contract t = record { type = (type.Contract t); Data = Called; layer = λ c. is.Contract c.0 c.1; known = λ v has P h. at_contract t P h _ (shown typing v (ty.Contract t) (type.Contract t) (type.outs-Contract t) has) }

  -- what may be there, or nothing
  abbrev pub MayBe : Ty → Type 0
  MayBe t = Option ((v : Val) × typing.Has v t)

  abbrev pub option_layer : (t : Ty) → MayBe t → Layer Val
  option_layer t None = is.Nothing
  option_layer t (Some e) = is.Some e.0

  abbrev pub an_option : Ty → Kind typing
  an_option t = record {
    type = type.Option t;
    Data = MayBe t;
    layer = option_layer t;
    known = λ v has P h. at_option t P (h None) (λ w part. h (Some (w, part))) _ (shown typing v (ty.Option t) (type.Option t) (type.outs-Option t) has);
  }

  -- ---- values of the types

  zero_least : (n : ℕ) → IsTrue (nat_le 0 n)
  zero_least n = le-leb 0 n (omega arith)

  pub has_unit : typing.Has value.Unit type.Unit
  has_unit = built typing is.Unit _ ty.Unit _ value.rolls-Unit type.outs-Unit tt

  pub has_bool : (b : Bool) → typing.Has (value.Bool b) type.Bool
  has_bool b = built typing (is.Bool b) _ ty.Bool _ (value.rolls-Bool b) type.outs-Bool tt

  pub has_int : (z : ℤ) → typing.Has (value.Int z) type.Int
  has_int z = built typing (is.Int z) _ ty.Int _ (value.rolls-Int z) type.outs-Int tt

  pub has_nat : (n : ℕ) → typing.Has (value.Nat (pos n)) type.Nat
  has_nat n = built typing (is.Nat (pos n)) _ ty.Nat _ (value.rolls-Nat (pos n)) type.outs-Nat (zero_least n)

  pub has_time : (z : ℤ) → typing.Has (value.Time z) type.Time
  has_time z = built typing (is.Time z) _ ty.Time _ (value.rolls-Time z) type.outs-Time tt

  pub has_mutez : (n : ℕ) → IsTrue (nat_lt n (2 ^ 63)) → typing.Has (value.Mutez n) type.Mutez
  has_mutez n within = built typing (is.Mutez n) _ ty.Mutez _ (value.rolls-Mutez n) type.outs-Mutez within

  pub has_text : (bytes : List ℕ) → typing.Has (value.Text bytes) type.Text
  has_text bytes = built typing (is.Text bytes) _ ty.Text _ (value.rolls-Text bytes) type.outs-Text tt

  pub has_bytes : (bytes : List ℕ) → typing.Has (value.Bytes bytes) type.Bytes
  has_bytes bytes = built typing (is.Bytes bytes) _ ty.Bytes _ (value.rolls-Bytes bytes) type.outs-Bytes tt

  pub has_addr : (address : List ℕ) → typing.Has (value.Addr address) type.Addr
  has_addr address = built typing (is.Addr address) _ ty.Addr _ (value.rolls-Addr address) type.outs-Addr tt

  pub has_nothing : (t : Ty) → typing.Has value.Nothing (type.Option t)
  has_nothing t = built typing is.Nothing _ (ty.Option t) _ value.rolls-Nothing (type.outs-Option t) tt

  pub has_some : (v : Val) (t : Ty) → typing.Has v t → typing.Has (value.Some v) (type.Option t)
  has_some v t within = built typing (is.Some v) _ (ty.Option t) _ (value.rolls-Some v) (type.outs-Option t) within

  pub has_left : (v : Val) (s t : Ty) → typing.Has v s → typing.Has (value.Left v) (type.Or s t)
  has_left v s t within = built typing (is.Left v) _ (ty.Or s t) _ (value.rolls-Left v) (type.outs-Or s t) within

  pub has_right : (v : Val) (s t : Ty) → typing.Has v t → typing.Has (value.Right v) (type.Or s t)
  has_right v s t within = built typing (is.Right v) _ (ty.Or s t) _ (value.rolls-Right v) (type.outs-Or s t) within

  pub has_pair : (a b : Val) (s t : Ty) → typing.Has a s × typing.Has b t → typing.Has (value.Pair a b) (type.Pair s t)
  has_pair a b s t within = built typing (is.Pair a b) _ (ty.Pair s t) _ (value.rolls-Pair a b) (type.outs-Pair s t) within

  pub has_list : (items : List Val) (t : Ty) → IsTrue (is_countable items) × AllHave typing.Has typing.HasMap t items → typing.Has (value.List items) (type.List t)
  has_list items t within = built typing (is.List items) _ (ty.List t) _ (value.rolls-List items) (type.outs-List t) within

  pub has_set : (items : List Val) (t : Ty) → IsTrue (is_countable items) × IsTrue (ascends items) × AllHave typing.Has typing.HasMap t items → typing.Has (value.Set items) (type.Set t)
  has_set items t within = built typing (is.Set items) _ (ty.Set t) _ (value.rolls-Set items) (type.outs-Set t) within

  pub has_map : (entries : List (Val × Val)) (k w : Ty) → IsTrue (is_countable entries) × IsTrue (ascends (keys_of entries)) × EntriesHave typing.Has typing.HasMap k w entries → typing.Has (value.Map entries) (type.Map k w)
  has_map entries k w within = built typing (is.Map entries) _ (ty.Map k w) _ (value.rolls-Map entries) (type.outs-Map k w) within

  pub has_contract : (address entry : List ℕ) (t : Ty) → typing.Has (value.Contract address entry) (type.Contract t)
  has_contract address entry t = built typing (is.Contract address entry) _ (ty.Contract t) _ (value.rolls-Contract address entry) (type.outs-Contract t) tt

  pub has_operation : (emit : Emit) → IsTrue (nat_lt emit.amount (2 ^ 63)) × IsTrue (is_sound emit.param) → typing.Has (value.Operation emit) type.Operation
  has_operation emit within = built typing (is.Operation emit) _ ty.Operation _ (value.rolls-Operation emit) type.outs-Operation within
