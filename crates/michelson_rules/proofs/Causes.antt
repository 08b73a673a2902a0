-- Instructions without bodies fail by a value that is raised, a range, a shift or a size, and by nothing else.
use Rattle.std.proofs.Common.{ℕ, zero, suc, pos, ◌+◌, ◌*◌, ◌/◌, ◌^◌, ℤ, ◌+ℤ◌, ◌-ℤ◌, ◌*ℤ◌, neg_ℤ, nat_abs, Bool, true, false, cond, bit_and, bit_or, bit_xor, List, [], ◌∷◌, ◌++◌, length, take, drop, Option, Some, None}
use Rattle.std.specs.Prelude.{int_le, is_some, nat_le}
use Rattle.value_core.specs.declared.val.Val.{Val}
use Rattle.value_core.specs.declared.val.Val.TheOpen as is
use Rattle.value_core.specs.declared.val.Val.TheVariants as value
use Rattle.value_core.specs.declared.val.Val.TheViews.{out-Val}
use Rattle.value_core.specs.Layer.{Layer}
use Rattle.value_core.specs.Lawful.{is_number}
use Rattle.value_core.specs.Order.{order}
use Rattle.value_core.specs.Size.{size_of}
use Rattle.value_core.specs.Sorted.{find, has, keys_of, with_key, without_key}
use Rattle.value_core.specs.Sound.{ascends}
use Rattle.michelson_code.specs.declared.instr.Instr.TheOpen as one
use Rattle.michelson_code.specs.declared.instr.Instr.TheOpen.{Instr-F}
use Rattle.michelson_code.specs.declared.script.Script.{Script}
use Rattle.michelson_code.specs.declared.why.Why.TheVariants as why
use Rattle.michelson_rules.specs.declared.ask.Env.{Env}
use Rattle.michelson_rules.specs.Answers.{Answer, Answered, Gives, Ends, Misses, gives, in_range, on_any, on_both, on_entry, on_key, on_one, on_two, sized}
use Rattle.michelson_rules.specs.Numbers.{amount_left, as_int, as_nat, bits_of_both, both, compared, difference, either, int, mutez, nat, negated, one_alone, opposite, product, quotient, shifted, shifted_left, shifted_right, sum, tested, timestamp, without_sign}
use Rattle.michelson_rules.specs.Collections.{all_in_a_row, changed, chosen, count, found, hashed, in_a_row, in_front, member, of_map, of_set, option, row_of, strings, updated, updated_map, updated_with_old, with_old}
use Rattle.michelson_rules.specs.Plain.{address_of, brought, comb_of, combed, concatenated, copied, copied_from, data_at, dropped, dug_in, emitted, in_a_row_by, in_parts, paired, part_of, parts_of_comb, plain_at}
use Rattle.michelson_rules.specs.Causes.{IsCause}

-- an answer that is no failure but by these causes
abbrev Fails : Answer → Type 0
Fails (Gives vs) = Unit {0}
Fails (Ends y) = IsCause y
Fails Misses = Unit {0}

abbrev pub FailsWell : Answered → Type 0
FailsWell a = Fails a.0

-- ---- results

of_cond : (b : Bool) (x y : Answer) → Fails x → Fails y → Fails (cond b x y)
of_cond true x y p q = p
of_cond false x y p q = q

ranged : (b : Bool) (v : Val) → Fails (in_range b v)
ranged true v = tt
ranged false v = tt

int_fails : (z : ℤ) → Fails (int z)
int_fails z = ranged (is_number z) (value.Int z)

nat_fails : (z : ℤ) → Fails (nat z)
nat_fails z = ranged (is_number z) (value.Nat z)

time_fails : (z : ℤ) → Fails (timestamp z)
time_fails z = ranged (is_number z) (value.Time z)

mutez_fails : (n : ℕ) → Fails (mutez n)
mutez_fails n = ranged _ (value.Mutez n)

sized_by : (b : Bool) (v : Val) → Fails (cond b (gives v) (Ends why.TooLarge))
sized_by true v = tt
sized_by false v = tt

pub sized_fails : (v : Val) → Fails (sized v)
sized_fails v = sized_by (nat_le (size_of v) 4096) v

-- ---- numbers

sum_fails : (x y : Layer Val) → Fails (sum x y)
sum_fails (is.Nat x) (is.Nat y) = nat_fails (x +ℤ y)
sum_fails (is.Int x) (is.Int y) = int_fails (x +ℤ y)
sum_fails (is.Int x) (is.Nat y) = int_fails (x +ℤ y)
sum_fails (is.Nat x) (is.Int y) = int_fails (x +ℤ y)
sum_fails (is.Time x) (is.Int y) = time_fails (x +ℤ y)
sum_fails (is.Int x) (is.Time y) = time_fails (x +ℤ y)
sum_fails (is.Mutez x) (is.Mutez y) = mutez_fails (x + y)
sum_fails _ _ = tt

difference_fails : (x y : Layer Val) → Fails (difference x y)
difference_fails (is.Nat x) (is.Nat y) = int_fails (x -ℤ y)
difference_fails (is.Int x) (is.Int y) = int_fails (x -ℤ y)
difference_fails (is.Int x) (is.Nat y) = int_fails (x -ℤ y)
difference_fails (is.Nat x) (is.Int y) = int_fails (x -ℤ y)
difference_fails (is.Time x) (is.Int y) = time_fails (x -ℤ y)
difference_fails (is.Time x) (is.Time y) = int_fails (x -ℤ y)
difference_fails _ _ = tt

left_fails : (x y : Layer Val) → Fails (amount_left x y)
left_fails (is.Mutez x) (is.Mutez y) = tt
left_fails _ _ = tt

negated_fails : (x : Layer Val) → Fails (negated x)
negated_fails (is.Int x) = int_fails (neg_ℤ x)
negated_fails (is.Nat x) = int_fails (neg_ℤ x)
negated_fails _ = tt

without_sign_fails : (x : Layer Val) → Fails (without_sign x)
without_sign_fails (is.Int x) = nat_fails (pos (nat_abs x))
without_sign_fails _ = tt

as_nat_fails : (x : Layer Val) → Fails (as_nat x)
as_nat_fails (is.Int x) = tt
as_nat_fails _ = tt

as_int_fails : (x : Layer Val) → Fails (as_int x)
as_int_fails (is.Nat x) = int_fails x
as_int_fails _ = tt

product_fails : (x y : Layer Val) → Fails (product x y)
product_fails (is.Nat x) (is.Nat y) = nat_fails (x *ℤ y)
product_fails (is.Int x) (is.Int y) = int_fails (x *ℤ y)
product_fails (is.Int x) (is.Nat y) = int_fails (x *ℤ y)
product_fails (is.Nat x) (is.Int y) = int_fails (x *ℤ y)
product_fails (is.Mutez x) (is.Nat y) = mutez_fails (x * nat_abs y)
product_fails (is.Nat x) (is.Mutez y) = mutez_fails (nat_abs x * y)
product_fails _ _ = tt

quotient_fails : (x y : Layer Val) → Fails (quotient x y)
quotient_fails (is.Nat x) (is.Nat y) = tt
quotient_fails (is.Int x) (is.Int y) = tt
quotient_fails (is.Int x) (is.Nat y) = tt
quotient_fails (is.Nat x) (is.Int y) = tt
quotient_fails (is.Mutez x) (is.Nat y) = tt
quotient_fails (is.Mutez x) (is.Mutez y) = tt
quotient_fails _ _ = tt

-- ---- bits and bools

shift_by : (b : Bool) (a : Answer) → Fails a → Fails (cond b a (Ends why.Shift))
shift_by true a p = p
shift_by false a p = tt

shifted_fails : (by : ℤ) (a : Answer) → Fails a → Fails (shifted by a)
shifted_fails by a p = shift_by (int_le by (pos 256)) a p

shifted_left_fails : (x y : Layer Val) → Fails (shifted_left x y)
shifted_left_fails (is.Nat x) (is.Nat y) = shifted_fails y (nat (x *ℤ pos (2 ^ nat_abs y))) (nat_fails (x *ℤ pos (2 ^ nat_abs y)))
shifted_left_fails _ _ = tt

shifted_right_fails : (x y : Layer Val) → Fails (shifted_right x y)
shifted_right_fails (is.Nat x) (is.Nat y) = shifted_fails y (nat (pos (nat_abs x / 2 ^ nat_abs y))) (nat_fails (pos (nat_abs x / 2 ^ nat_abs y)))
shifted_right_fails _ _ = tt

both_fails : (x y : Layer Val) → Fails (both x y)
both_fails (is.Bool x) (is.Bool y) = tt
both_fails (is.Nat x) (is.Nat y) = nat_fails (pos (bit_and (nat_abs x) (nat_abs y)))
both_fails (is.Int x) (is.Nat y) = nat_fails (pos (bits_of_both x (nat_abs y)))
both_fails _ _ = tt

either_fails : (x y : Layer Val) → Fails (either x y)
either_fails (is.Bool x) (is.Bool y) = tt
either_fails (is.Nat x) (is.Nat y) = nat_fails (pos (bit_or (nat_abs x) (nat_abs y)))
either_fails _ _ = tt

one_alone_fails : (x y : Layer Val) → Fails (one_alone x y)
one_alone_fails (is.Bool x) (is.Bool y) = tt
one_alone_fails (is.Nat x) (is.Nat y) = nat_fails (pos (bit_xor (nat_abs x) (nat_abs y)))
one_alone_fails _ _ = tt

opposite_fails : (x : Layer Val) → Fails (opposite x)
opposite_fails (is.Bool x) = tt
opposite_fails (is.Int x) = int_fails (neg_ℤ x -ℤ pos 1)
opposite_fails (is.Nat x) = int_fails (neg_ℤ x -ℤ pos 1)
opposite_fails _ = tt

tested_fails : (test : ℤ → Bool) (x : Layer Val) → Fails (tested test x)
tested_fails test (is.Int x) = tt
tested_fails test _ = tt

-- ---- strings, lists, sets and maps

in_front_fails : (x : Val) (y : Layer Val) → Fails (in_front x y)
in_front_fails x (is.List items) = sized_fails (value.List (x ∷ items))
in_front_fails x _ = tt

row_of_fails : (o : Option (List ℕ)) → Fails (row_of o)
row_of_fails (Some bytes) = sized_fails (value.Text bytes)
row_of_fails None = tt

all_in_a_row_fails : (x : Layer Val) → Fails (all_in_a_row x)
all_in_a_row_fails (is.List items) = row_of_fails (strings items)
all_in_a_row_fails _ = tt

in_a_row_fails : (x y : Layer Val) → Fails (in_a_row x y)
in_a_row_fails (is.Text x) (is.Text y) = sized_fails (value.Text (x ++ y))
in_a_row_fails (is.Bytes x) (is.Bytes y) = sized_fails (value.Bytes (x ++ y))
in_a_row_fails _ _ = tt

count_fails : (x : Layer Val) → Fails (count x)
count_fails (is.Text bytes) = tt
count_fails (is.Bytes bytes) = tt
count_fails (is.List items) = tt
count_fails (is.Set items) = tt
count_fails (is.Map entries) = tt
count_fails _ = tt

hashed_fails : (x : Layer Val) → Fails (hashed x)
hashed_fails (is.Bytes bytes) = tt
hashed_fails _ = tt

set_fails : (items : List Val) (a : Answer) → Fails a → Fails (of_set items a)
set_fails items a p = of_cond (ascends items) a Misses p tt

map_fails : (entries : List (Val × Val)) (a : Answer) → Fails a → Fails (of_map entries a)
map_fails entries a p = of_cond (ascends (keys_of entries)) a Misses p tt

member_fails : (key : Val) (x : Layer Val) → Fails (member key x)
member_fails key (is.Set items) = set_fails items (gives (value.Bool (has order key items))) tt
member_fails key (is.Map entries) = map_fails entries (gives (value.Bool (is_some (find order key entries)))) tt
member_fails key _ = tt

found_fails : (key : Val) (x : Layer Val) → Fails (found key x)
found_fails key (is.Map entries) = map_fails entries (gives (option (find order key entries))) tt
found_fails key _ = tt

updated_map_fails : (key : Val) (choice : Option (Option Val)) (entries : List (Val × Val)) → Fails (updated_map key choice entries)
updated_map_fails key None entries = tt
updated_map_fails key (Some choice) entries = map_fails entries (sized (value.Map (changed key choice entries))) (sized_fails (value.Map (changed key choice entries)))

updated_fails : (key : Val) (choice x : Layer Val) → Fails (updated key choice x)
updated_fails key (is.Bool true) (is.Set items) = set_fails items (sized (value.Set (with_key order key items))) (sized_fails (value.Set (with_key order key items)))
updated_fails key (is.Bool false) (is.Set items) = set_fails items (sized (value.Set (without_key order key items))) (sized_fails (value.Set (without_key order key items)))
updated_fails key choice (is.Map entries) = updated_map_fails key (chosen choice) entries
updated_fails key _ _ = tt

with_old_fails : (old : Val) (a : Answer) → Fails a → Fails (with_old old a)
with_old_fails old (Gives vs) p = tt
with_old_fails old (Ends y) p = p
with_old_fails old Misses p = tt

with_old_map_fails : (key : Val) (choice x : Layer Val) → Fails (updated_with_old key choice x)
with_old_map_fails key choice (is.Map entries) =
    with_old_fails (option (find order key entries)) (updated_map key (chosen choice) entries) (updated_map_fails key (chosen choice) entries)
with_old_map_fails key choice _ = tt

-- ---- the stack, pairs and operations

answered_cond : (b : Bool) (x y : Answered) → FailsWell x → FailsWell y → FailsWell (cond b x y)
answered_cond true x y p q = p
answered_cond false x y p q = q

dropped_fails : (n : ℕ) (stack : List Val) → FailsWell (dropped n stack)
dropped_fails n stack = answered_cond (nat_le n (length stack)) (Gives [], drop n stack) (Misses, []) tt tt

brought_fails : (items stack : List Val) → FailsWell (brought items stack)
brought_fails items (x ∷ stack) = tt
brought_fails items [] = tt

dug_in_fails : (n : ℕ) (stack : List Val) → FailsWell (dug_in n stack)
dug_in_fails n (x ∷ stack) = answered_cond (nat_le n (length stack)) (Gives (take n stack ++ x ∷ []), drop n stack) (Misses, []) tt tt
dug_in_fails n [] = tt

copied_fails : (items stack : List Val) → FailsWell (copied items stack)
copied_fails (x ∷ items) stack = tt
copied_fails [] stack = tt

copied_from_fails : (n : ℕ) (stack : List Val) → FailsWell (copied_from n stack)
copied_from_fails zero stack = tt
copied_from_fails (suc n) stack = copied_fails (drop n stack) stack

combed_fails : (items : List Val) → Fails (combed items)
combed_fails [] = tt
combed_fails (x ∷ xs) = sized_fails (comb_of x xs)

paired_fails : (n : ℕ) (stack : List Val) → FailsWell (paired n stack)
paired_fails n stack = answered_cond (nat_le n (length stack)) (combed (take n stack), drop n stack) (Misses, []) (combed_fails (take n stack)) tt

in_parts_fails : (parts : Option (List Val)) → Fails (in_parts parts)
in_parts_fails (Some parts) = tt
in_parts_fails None = tt

part_fails : (choose : Val → Val → Val) (x : Layer Val) → Fails (part_of choose x)
part_fails choose (is.Pair x y) = tt
part_fails choose _ = tt

address_fails : (x : Layer Val) → Fails (address_of x)
address_fails (is.Contract address entry) = tt
address_fails _ = tt

emitted_fails : (param : Val) (x y : Layer Val) → Fails (emitted param x y)
emitted_fails param (is.Mutez amount) (is.Contract address entry) = sized_fails (value.Operation _)
emitted_fails param _ _ = tt

-- ---- operands

one_fails : (f : Layer Val → Answer) → ((x : Layer Val) → Fails (f x)) → (stack : List Val) → FailsWell (on_one f stack)
one_fails f h (x ∷ stack) = h (out-Val x)
one_fails f h [] = tt

two_fails : (f : Layer Val → Layer Val → Answer) → ((x y : Layer Val) → Fails (f x y)) → (stack : List Val) → FailsWell (on_two f stack)
two_fails f h (x ∷ y ∷ stack) = h (out-Val x) (out-Val y)
two_fails f h (x ∷ []) = tt
two_fails f h [] = tt

any_fails : (f : Val → Answer) → ((x : Val) → Fails (f x)) → (stack : List Val) → FailsWell (on_any f stack)
any_fails f h (x ∷ stack) = h x
any_fails f h [] = tt

pair_fails : (f : Val → Val → Answer) → ((x y : Val) → Fails (f x y)) → (stack : List Val) → FailsWell (on_both f stack)
pair_fails f h (x ∷ y ∷ stack) = h x y
pair_fails f h (x ∷ []) = tt
pair_fails f h [] = tt

key_fails : (f : Val → Layer Val → Answer) → ((x : Val) (y : Layer Val) → Fails (f x y)) → (stack : List Val) → FailsWell (on_key f stack)
key_fails f h (x ∷ y ∷ stack) = h x (out-Val y)
key_fails f h (x ∷ []) = tt
key_fails f h [] = tt

entry_fails : (f : Val → Layer Val → Layer Val → Answer) → ((x : Val) (y z : Layer Val) → Fails (f x y z)) → (stack : List Val) → FailsWell (on_entry f stack)
entry_fails f h (x ∷ y ∷ z ∷ stack) = h x (out-Val y) (out-Val z)
entry_fails f h (x ∷ y ∷ []) = tt
entry_fails f h (x ∷ []) = tt
entry_fails f h [] = tt

row_fails : (x : Layer Val) (stack : List Val) → FailsWell (in_a_row_by x stack)
row_fails (is.List items) stack = one_fails all_in_a_row all_in_a_row_fails stack
row_fails _ stack = two_fails in_a_row in_a_row_fails stack

concatenated_fails : (stack : List Val) → FailsWell (concatenated stack)
concatenated_fails [] = tt
concatenated_fails (x ∷ stack) = row_fails (out-Val x) (x ∷ stack)

-- ---- the table

data_fails : {A : Type 0} (i : Instr-F A) (stack : List Val) → FailsWell (data_at i stack)
data_fails one.Pair stack = paired_fails 2 stack
data_fails (one.PairN n) stack = paired_fails n stack
data_fails one.Unpair stack = any_fails _ (λ v. in_parts_fails (parts_of_comb 2 v)) stack
data_fails (one.UnpairN n) stack = any_fails _ (λ v. in_parts_fails (parts_of_comb n v)) stack
data_fails one.Cons stack = key_fails in_front in_front_fails stack
data_fails one.Add stack = two_fails sum sum_fails stack
data_fails one.Sub stack = two_fails difference difference_fails stack
data_fails one.SubMutez stack = two_fails amount_left left_fails stack
data_fails one.Neg stack = one_fails negated negated_fails stack
data_fails one.Abs stack = one_fails without_sign without_sign_fails stack
data_fails one.IsNat stack = one_fails as_nat as_nat_fails stack
data_fails one.Int stack = one_fails as_int as_int_fails stack
data_fails one.Lsl stack = two_fails shifted_left shifted_left_fails stack
data_fails one.Lsr stack = two_fails shifted_right shifted_right_fails stack
data_fails one.And stack = two_fails both both_fails stack
data_fails one.Or stack = two_fails either either_fails stack
data_fails one.Xor stack = two_fails one_alone one_alone_fails stack
data_fails one.Not stack = one_fails opposite opposite_fails stack
data_fails one.Eq stack = one_fails (tested _) (tested_fails _) stack
data_fails one.Neq stack = one_fails (tested _) (tested_fails _) stack
data_fails one.Lt stack = one_fails (tested _) (tested_fails _) stack
data_fails one.Gt stack = one_fails (tested _) (tested_fails _) stack
data_fails one.Le stack = one_fails (tested _) (tested_fails _) stack
data_fails one.Ge stack = one_fails (tested _) (tested_fails _) stack
data_fails one.Size stack = one_fails count count_fails stack
data_fails one.Compare stack = pair_fails compared (λ x y. tt) stack
data_fails one.Mul stack = two_fails product product_fails stack
data_fails one.Ediv stack = two_fails quotient quotient_fails stack
data_fails one.Concat stack = concatenated_fails stack
data_fails one.Mem stack = key_fails member member_fails stack
data_fails one.Get stack = key_fails found found_fails stack
data_fails one.Update stack = entry_fails updated updated_fails stack
data_fails one.GetAndUpdate stack = entry_fails updated_with_old with_old_map_fails stack
data_fails one.Sha256 stack = one_fails hashed hashed_fails stack
data_fails i stack = tt

pub plain_fails : {A : Type 0} (s : Script) (env : Env) (i : Instr-F A) (stack : List Val) → FailsWell (plain_at s env i stack)
plain_fails s env one.Drop stack = dropped_fails 1 stack
plain_fails s env (one.DropN n) stack = dropped_fails n stack
plain_fails s env one.Dup stack = copied_from_fails 1 stack
plain_fails s env (one.DupN n) stack = copied_from_fails n stack
plain_fails s env one.Swap stack = brought_fails (take 1 stack) (drop 1 stack)
plain_fails s env (one.Dig n) stack = brought_fails (take n stack) (drop n stack)
plain_fails s env (one.Dug n) stack = dug_in_fails n stack
plain_fails s env one.Unit stack = tt
plain_fails s env one.Car stack = one_fails (part_of (λ x y. x)) (part_fails (λ x y. x)) stack
plain_fails s env one.Cdr stack = one_fails (part_of (λ x y. y)) (part_fails (λ x y. y)) stack
plain_fails s env one.Some stack = any_fails _ (λ v. tt) stack
plain_fails s env (one.None t) stack = tt
plain_fails s env (one.Left t) stack = any_fails _ (λ v. tt) stack
plain_fails s env (one.Right t) stack = any_fails _ (λ v. tt) stack
plain_fails s env (one.Nil t) stack = tt
plain_fails s env (one.Cast t) stack = any_fails _ (λ v. tt) stack
plain_fails s env one.Rename stack = any_fails _ (λ v. tt) stack
plain_fails s env (one.Push t v) stack = tt
plain_fails s env (one.EmptySet t) stack = tt
plain_fails s env (one.EmptyMap k v) stack = tt
plain_fails s env one.Failwith stack = any_fails _ (λ v. tt) stack
plain_fails s env one.Amount stack = tt
plain_fails s env one.Sender stack = tt
plain_fails s env one.Source stack = tt
plain_fails s env one.SelfAddress stack = tt
plain_fails s env one.Now stack = tt
plain_fails s env one.Level stack = tt
plain_fails s env (one.SelfEntry e) stack = tt
plain_fails s env one.Address stack = one_fails address_of address_fails stack
plain_fails s env one.TransferTokens stack = entry_fails emitted emitted_fails stack
plain_fails s env i stack = data_fails i stack
