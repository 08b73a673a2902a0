-- The order of values of each kind, and of values of two tags.
use Rattle.std.proofs.Common.{◌≡◌, ◌≢◌, ℕ, ℤ, pos, Bool, true, false, List, refl, ap, sym, ◌∙◌, arith}
use Rattle.std.proofs.lemmas.Bool.Decides.{nat_tests}
use Rattle.std.specs.declared.cmp.Ordering.{Ordering}
use Rattle.std.specs.declared.cmp.Ordering.TheVariants.{Equal, Less, Greater}
use Rattle.std.specs.Ordering.{bool_cmp, int_cmp, nat_cmp, ordering_then}
use Rattle.std.specs.Cmp.Lexicographic.{slice_cmp}
use Rattle.std.specs.FinMap.{nat_cmp-IsAntisymmetric}
use Rattle.value_core.specs.declared.val.Val.{Val}
use Rattle.value_core.specs.declared.val.Val.TheVariants as value
use Rattle.value_core.specs.declared.val.Val.TheOpen as one
use Rattle.value_core.specs.declared.val.Val.TheViews.{out-Val, roll-Val}
use Rattle.value_core.specs.Layer.{Layer, tag_of}
use Rattle.value_core.specs.Order.{layer_cmp, order}
use Rattle.value_core.proofs.Levels.{out-roll}
use Rattle.value_core.proofs.OrderLemmas.{order-is, then_equal}

-- ---- two tags

-- what isn't a tie decides
decided : (o rest : Ordering) → o ≢ Equal → ordering_then o rest ≡ o
decided Less rest untied = refl
decided Equal rest untied = absurd (untied refl)
decided Greater rest untied = refl

pub order-tags : (v w : Val) → tag_of (out-Val v) ≢ tag_of (out-Val w) → order v w ≡ nat_cmp (tag_of (out-Val v)) (tag_of (out-Val w))
order-tags v w other = order-is v w ∙ decided (nat_cmp (tag_of (out-Val v)) (tag_of (out-Val w))) _ (λ tied. other (nat_cmp-IsAntisymmetric _ _ tied))

-- ---- one tag

shown : (x : Layer Val) (v : Val) → roll-Val x ≡ v → out-Val v ≡ x
shown x v rolls = ap out-Val (sym rolls) ∙ out-roll x

-- two values whose levels are known
order_at : (x y : Layer Val) (v w : Val) → roll-Val x ≡ v → roll-Val y ≡ w → order v w ≡ layer_cmp order x y
order_at x y v w p q = order-is v w ∙ (λ i. layer_cmp order (shown x v p i) (shown y w q i))

twice_equal : (o : Ordering) → ordering_then (ordering_then o Equal) Equal ≡ o
twice_equal Less = refl
twice_equal Equal = refl
twice_equal Greater = refl

of_positives : (m n : ℕ) → int_cmp (pos m) (pos n) ≡ nat_cmp m n
of_positives m n = grind (arith, nat_tests)

pub order-unit : order value.Unit value.Unit ≡ Equal
order-unit = order_at one.Unit one.Unit _ _ value.rolls-Unit value.rolls-Unit

bool_level : (a b : Bool) → layer_cmp order (one.Bool a) (one.Bool b) ≡ bool_cmp a b
bool_level true true = refl
bool_level true false = refl
bool_level false true = refl
bool_level false false = refl

pub order-bool : (a b : Bool) → order (value.Bool a) (value.Bool b) ≡ bool_cmp a b
order-bool a b = order_at (one.Bool a) (one.Bool b) _ _ (value.rolls-Bool a) (value.rolls-Bool b) ∙ bool_level a b

pub order-int : (m n : ℤ) → order (value.Int m) (value.Int n) ≡ int_cmp m n
order-int m n = order_at (one.Int m) (one.Int n) _ _ (value.rolls-Int m) (value.rolls-Int n) ∙ then_equal (int_cmp m n)

pub order-nat : (m n : ℤ) → order (value.Nat m) (value.Nat n) ≡ int_cmp m n
order-nat m n = order_at (one.Nat m) (one.Nat n) _ _ (value.rolls-Nat m) (value.rolls-Nat n) ∙ then_equal (int_cmp m n)

pub order-mutez : (m n : ℕ) → order (value.Mutez m) (value.Mutez n) ≡ nat_cmp m n
order-mutez m n = order_at (one.Mutez m) (one.Mutez n) _ _ (value.rolls-Mutez m) (value.rolls-Mutez n) ∙ then_equal (int_cmp (pos m) (pos n)) ∙ of_positives m n

pub order-time : (m n : ℤ) → order (value.Time m) (value.Time n) ≡ int_cmp m n
order-time m n = order_at (one.Time m) (one.Time n) _ _ (value.rolls-Time m) (value.rolls-Time n) ∙ then_equal (int_cmp m n)

pub order-text : (a b : List ℕ) → order (value.Text a) (value.Text b) ≡ slice_cmp nat_cmp a b
order-text a b = order_at (one.Text a) (one.Text b) _ _ (value.rolls-Text a) (value.rolls-Text b) ∙ twice_equal (slice_cmp nat_cmp a b)

pub order-bytes : (a b : List ℕ) → order (value.Bytes a) (value.Bytes b) ≡ slice_cmp nat_cmp a b
order-bytes a b = order_at (one.Bytes a) (one.Bytes b) _ _ (value.rolls-Bytes a) (value.rolls-Bytes b) ∙ twice_equal (slice_cmp nat_cmp a b)

pub order-addr : (a b : List ℕ) → order (value.Addr a) (value.Addr b) ≡ slice_cmp nat_cmp a b
order-addr a b = order_at (one.Addr a) (one.Addr b) _ _ (value.rolls-Addr a) (value.rolls-Addr b) ∙ twice_equal (slice_cmp nat_cmp a b)

pub order-nothing : order value.Nothing value.Nothing ≡ Equal
order-nothing = order_at one.Nothing one.Nothing _ _ value.rolls-Nothing value.rolls-Nothing

pub order-big_map : (p v q w : ℕ) → order (value.BigMap p v) (value.BigMap q w) ≡ ordering_then (nat_cmp p q) (nat_cmp v w)
order-big_map p v q w =
    order_at (one.BigMap p v) (one.BigMap q w) _ _ (value.rolls-BigMap p v) (value.rolls-BigMap q w)
    ∙ ap (λ o. ordering_then o (nat_cmp v w)) (of_positives p q)

pub order-contract : (a e b f : List ℕ) → order (value.Contract a e) (value.Contract b f) ≡ ordering_then (slice_cmp nat_cmp a b) (slice_cmp nat_cmp e f)
order-contract a e b f =
    order_at (one.Contract a e) (one.Contract b f) _ _ (value.rolls-Contract a e) (value.rolls-Contract b f)
    ∙ then_equal (ordering_then (slice_cmp nat_cmp a b) (ordering_then (slice_cmp nat_cmp e f) Equal))
    ∙ ap (ordering_then (slice_cmp nat_cmp a b)) (then_equal (slice_cmp nat_cmp e f))

-- ---- of parts

pub order-some : (v w : Val) → order (value.Some v) (value.Some w) ≡ order v w
order-some v w = order_at (one.Some v) (one.Some w) _ _ (value.rolls-Some v) (value.rolls-Some w) ∙ twice_equal (order v w)

pub order-left : (v w : Val) → order (value.Left v) (value.Left w) ≡ order v w
order-left v w = order_at (one.Left v) (one.Left w) _ _ (value.rolls-Left v) (value.rolls-Left w) ∙ twice_equal (order v w)

pub order-right : (v w : Val) → order (value.Right v) (value.Right w) ≡ order v w
order-right v w = order_at (one.Right v) (one.Right w) _ _ (value.rolls-Right v) (value.rolls-Right w) ∙ twice_equal (order v w)

pub order-pair : (a b c d : Val) → order (value.Pair a b) (value.Pair c d) ≡ ordering_then (order a c) (order b d)
order-pair a b c d =
    order_at (one.Pair a b) (one.Pair c d) _ _ (value.rolls-Pair a b) (value.rolls-Pair c d)
    ∙ then_equal (ordering_then (order a c) (ordering_then (order b d) Equal))
    ∙ ap (ordering_then (order a c)) (then_equal (order b d))
