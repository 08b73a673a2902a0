-- Results that are tested for their size are small.
use Rattle.std.proofs.Common.{ℕ, Bool, true, false, List, [], ◌∷◌, length, take, drop, Option, Some, None, refl}
use Rattle.std.specs.Prelude.{IsTrue, nat_le, if◌then◌else◌}
use Rattle.std.proofs.lemmas.Bool.{leb-true}
use Rattle.value_core.specs.declared.val.Val.{Val}
use Rattle.value_core.specs.declared.val.Val.TheOpen as is
use Rattle.value_core.specs.declared.val.Val.TheViews.{out-Val}
use Rattle.value_core.specs.Layer.{Layer}
use Rattle.value_core.specs.Size.{size_of}
use Rattle.value_core.specs.Sorted.{keys_of}
use Rattle.value_core.specs.Sound.{ascends}
use Rattle.michelson_code.specs.declared.why.Why.TheVariants as why
use Rattle.michelson_code.specs.declared.instr.Instr.TheOpen as one
use Rattle.michelson_code.specs.declared.instr.Instr.TheOpen.{Instr-F}
use Rattle.michelson_code.specs.declared.script.Script.{Script}
use Rattle.michelson_rules.specs.declared.ask.Env.{Env}
use Rattle.michelson_rules.specs.Answers.{Answer, Answered, Gives, Ends, Misses, gives, missed, on_entry, on_key, on_one, on_two, sized}
use Rattle.michelson_rules.specs.Collections.{all_in_a_row, chosen, in_a_row, in_front, row_of, strings, updated, updated_map, updated_with_old, with_old}
use Rattle.michelson_rules.specs.TestedSizes.{GivesSmall, GivesSmallBelow, IsSmall, ReturnsSmall, tests_size}
use Rattle.michelson_rules.specs.Plain.{combed, comb_of, concatenated, emitted, in_a_row_by, paired, plain_at}
use Rattle.michelson_rules.specs.Rules.{answered, gathered}
use Rattle.michelson_rules.specs.Runs.{Beside}

small_within : (small : Bool) (v : Val) → (IsTrue small → IsSmall v) → GivesSmall (if small then gives v else Ends why.TooLarge)
small_within true v is = is refl
small_within false v is = tt

-- what is tested is small
sized_small : (v : Val) → GivesSmall (sized v)
sized_small v = small_within (nat_le (size_of v) 4096) v (leb-true (size_of v) 4096)

-- ---- by how many operands there are

abbrev Small : (List Val → Answered) → Type 0
Small f = (stack : List Val) → GivesSmall (f stack).0

one_small : (f : Layer Val → Answer) → ((x : Layer Val) → GivesSmall (f x)) → Small (on_one f)
one_small f is [] = tt
one_small f is (x ∷ below) = is (out-Val x)

two_small : (f : Layer Val → Layer Val → Answer) → ((x y : Layer Val) → GivesSmall (f x y)) → Small (on_two f)
two_small f is [] = tt
two_small f is (x ∷ []) = tt
two_small f is (x ∷ y ∷ below) = is (out-Val x) (out-Val y)

key_small : (f : Val → Layer Val → Answer) → ((v : Val) (x : Layer Val) → GivesSmall (f v x)) → Small (on_key f)
key_small f is [] = tt
key_small f is (x ∷ []) = tt
key_small f is (x ∷ y ∷ below) = is x (out-Val y)

entry_small : (f : Val → Layer Val → Layer Val → Answer) → ((v : Val) (x y : Layer Val) → GivesSmall (f v x y)) → Small (on_entry f)
entry_small f is [] = tt
entry_small f is (x ∷ []) = tt
entry_small f is (x ∷ y ∷ []) = tt
entry_small f is (x ∷ y ∷ z ∷ below) = is x (out-Val y) (out-Val z)

-- ---- by instruction

combed_small : (items : List Val) → GivesSmall (combed items)
combed_small [] = tt
combed_small (x ∷ xs) = sized_small (comb_of x xs)

enough_small : (enough : Bool) (a : Answer) (below : List Val) → GivesSmall a → GivesSmall (if enough then (a, below) else missed).0
enough_small true a below is = is
enough_small false a below is = tt

in_front_small : (v : Val) (x : Layer Val) → GivesSmall (in_front v x)
in_front_small v (is.List items) = sized_small _
in_front_small v x = tt

row_small : (o : Option (List ℕ)) → GivesSmall (row_of o)
row_small (Some bytes) = sized_small _
row_small None = tt

all_in_a_row_small : (x : Layer Val) → GivesSmall (all_in_a_row x)
all_in_a_row_small (is.List items) = row_small (strings items)
all_in_a_row_small x = tt

in_a_row_small : (x y : Layer Val) → GivesSmall (in_a_row x y)
in_a_row_small (is.Text a) (is.Text b) = sized_small _
in_a_row_small (is.Bytes a) (is.Bytes b) = sized_small _
in_a_row_small x y = tt

in_a_row_by_small : (x : Layer Val) → Small (in_a_row_by x)
in_a_row_by_small (is.List items) = one_small all_in_a_row all_in_a_row_small
in_a_row_by_small is.Unit = two_small in_a_row in_a_row_small
in_a_row_by_small x = two_small in_a_row in_a_row_small

concatenated_small : Small concatenated
concatenated_small [] = tt
concatenated_small (x ∷ below) = in_a_row_by_small (out-Val x) (x ∷ below)

if_up : (up : Bool) (a : Answer) → GivesSmall a → GivesSmall (if up then a else Misses)
if_up true a is = is
if_up false a is = tt

map_small : (v : Val) (choice : Option (Option Val)) (entries : List (Val × Val)) → GivesSmall (updated_map v choice entries)
map_small v None entries = tt
map_small v (Some choice) entries = if_up (ascends (keys_of entries)) _ (sized_small _)

updated_small : (v : Val) (x y : Layer Val) → GivesSmall (updated v x y)
updated_small v (is.Bool true) (is.Set items) = if_up (ascends items) _ (sized_small _)
updated_small v (is.Bool false) (is.Set items) = if_up (ascends items) _ (sized_small _)
updated_small v (is.Bool true) (is.Map entries) = tt
updated_small v (is.Bool false) (is.Map entries) = tt
updated_small v x (is.Map entries) = map_small v (chosen x) entries
updated_small v _ _ = tt

emitted_small : (v : Val) (x y : Layer Val) → GivesSmall (emitted v x y)
emitted_small v (is.Mutez amount) (is.Contract address entry) = sized_small _
emitted_small v x y = tt

pair_small : (n : ℕ) → Small (paired n)
pair_small n stack = enough_small (nat_le n (length stack)) (combed (take n stack)) (drop n stack) (combed_small (take n stack))

pub tested_are_small : {A : Type 0} (s : Script) (env : Env) (x : Instr-F A) (stack : List Val) → IsTrue (tests_size x) → GivesSmall (plain_at s env x stack).0
tested_are_small s env one.Pair stack tests = pair_small 2 stack
tested_are_small s env (one.PairN n) stack tests = pair_small n stack
tested_are_small s env one.Cons stack tests = key_small in_front in_front_small stack
tested_are_small s env one.Concat stack tests = concatenated_small stack
tested_are_small s env one.Update stack tests = entry_small updated updated_small stack
tested_are_small s env one.TransferTokens stack tests = entry_small emitted emitted_small stack
tested_are_small s env x stack tests = absurd cc

-- ---- the old value stands above the map

below_old : (old : Val) (a : Answer) → GivesSmall a → GivesSmallBelow (with_old old a)
below_old old (Gives (v ∷ [])) is = is
below_old old (Gives []) is = absurd is
below_old old (Gives (v ∷ w ∷ vs)) is = absurd is
below_old old (Ends y) is = tt
below_old old Misses is = tt

with_old_small : (v : Val) (x y : Layer Val) → GivesSmallBelow (updated_with_old v x y)
with_old_small v x (is.Map entries) = below_old _ _ (map_small v (chosen x) entries)
with_old_small v x y = tt

pub old_is_above : (stack : List Val) → GivesSmallBelow (on_entry updated_with_old stack).0
old_is_above [] = tt
old_is_above (x ∷ []) = tt
old_is_above (x ∷ y ∷ []) = tt
old_is_above (x ∷ y ∷ z ∷ below) = with_old_small x (out-Val y) (out-Val z)

-- ---- what `MAP` makes

within_returned : (small : Bool) (v : Val) (stack : List Val) (beside : Beside) → (IsTrue small → IsSmall v) →
    ReturnsSmall (answered (if small then gives v else Ends why.TooLarge, stack) beside).ending
within_returned true v stack beside is = is refl
within_returned false v stack beside is = tt

sized_returned : (v : Val) (stack : List Val) (beside : Beside) → ReturnsSmall (answered (sized v, stack) beside).ending
sized_returned v stack beside = within_returned (nat_le (size_of v) 4096) v stack beside (leb-true (size_of v) 4096)

pub gathered_is_small : (x : Layer Val) (results stack : List Val) (beside : Beside) → ReturnsSmall (gathered x (results, stack) beside).ending
gathered_is_small (is.List items) results stack beside = sized_returned _ stack beside
gathered_is_small (is.Map entries) results stack beside = sized_returned _ stack beside
gathered_is_small x results stack beside = tt
