-- Instructions on data don't look below their operands.
use Rattle.std.proofs.Common.{◌≡◌, ℕ, zero, suc, ◌≤◌, Bool, true, false, List, [], ◌∷◌, ◌++◌, length, take, drop, refl, sym, ap, subst, ◌∙◌, arith, length-append, not-suc-le-zero}
use Rattle.std.specs.Prelude.{IsTrue, int_le, int_lt, nat_le, not, pos, if◌then◌else◌}
use Rattle.std.proofs.lemmas.Bool.{le-leb, leb-true}
use Rattle.value_core.specs.declared.val.Val.{Val}
use Rattle.value_core.specs.declared.val.Val.TheOpen as is
use Rattle.value_core.specs.declared.val.Val.TheViews.{out-Val}
use Rattle.value_core.specs.declared.ty.Ty.{Ty}
use Rattle.value_core.specs.Layer.{Layer}
use Rattle.michelson_code.specs.declared.instr.Instr.TheOpen as one
use Rattle.michelson_code.specs.declared.instr.Instr.TheOpen.{Instr-F}
use Rattle.michelson_code.specs.declared.script.Script.{Script}
use Rattle.michelson_rules.specs.declared.ask.Env.{Env}
use Rattle.michelson_rules.specs.Answers.{Answer, Answered, Gives, Ends, Misses, missed, on_any, on_both, on_entry, on_key, on_one, on_two}
use Rattle.michelson_rules.specs.Numbers.{sum, difference, amount_left, negated, without_sign, as_nat, as_int, product, quotient, shifted_left, shifted_right, both, either, one_alone, opposite, compared, is_zero, tested}
use Rattle.michelson_rules.specs.Collections.{all_in_a_row, count, found, hashed, in_a_row, in_front, member, updated, updated_with_old}
use Rattle.michelson_rules.specs.DataOperands.{HasOperands, HasType, IsAnsweredAbove, is_data}
use Rattle.michelson_rules.specs.Plain.{combed, concatenated, data_at, in_a_row_by, in_parts, paired, parts_of_comb, plain_at}
use Rattle.michelson_rules.specs.TypedStacks.{IsAnswered, pushes_well}
use Rattle.michelson_rules.proofs.PlainAnswered.{plain_answered}
use Rattle.michelson_rules.proofs.TypedLevelLaws.{plain_typing}

-- more stands below
abbrev under : List Val → Answered → Answered
under below a = (a.0, a.1 ++ below)

-- no operand is missed
abbrev Finds : Answered → Type 0
Finds (Gives vs, rest) = Unit {0}
Finds (Ends y, rest) = Unit {0}
Finds (Misses, rest) = ⊥

-- what stands below the operands stays, whatever it is
abbrev Frames : (List Val → Answered) → Type 0
Frames f = (stack below : List Val) → Finds (f stack) → f (stack ++ below) ≡ under below (f stack)

one_frames : (f : Layer Val → Answer) → Frames (on_one f)
one_frames f [] below finds = absurd finds
one_frames f (x ∷ rest) below finds = refl

two_frames : (f : Layer Val → Layer Val → Answer) → Frames (on_two f)
two_frames f [] below finds = absurd finds
two_frames f (x ∷ []) below finds = absurd finds
two_frames f (x ∷ y ∷ rest) below finds = refl

any_frames : (f : Val → Answer) → Frames (on_any f)
any_frames f [] below finds = absurd finds
any_frames f (x ∷ rest) below finds = refl

both_frames : (f : Val → Val → Answer) → Frames (on_both f)
both_frames f [] below finds = absurd finds
both_frames f (x ∷ []) below finds = absurd finds
both_frames f (x ∷ y ∷ rest) below finds = refl

key_frames : (f : Val → Layer Val → Answer) → Frames (on_key f)
key_frames f [] below finds = absurd finds
key_frames f (x ∷ []) below finds = absurd finds
key_frames f (x ∷ y ∷ rest) below finds = refl

entry_frames : (f : Val → Layer Val → Layer Val → Answer) → Frames (on_entry f)
entry_frames f [] below finds = absurd finds
entry_frames f (x ∷ []) below finds = absurd finds
entry_frames f (x ∷ y ∷ []) below finds = absurd finds
entry_frames f (x ∷ y ∷ z ∷ rest) below finds = refl

in_a_row_frames : (x : Layer Val) → Frames (in_a_row_by x)
in_a_row_frames (is.List items) = one_frames all_in_a_row
in_a_row_frames x = two_frames in_a_row

concatenated_frames : Frames concatenated
concatenated_frames [] below finds = absurd finds
concatenated_frames (x ∷ rest) below finds = in_a_row_frames (out-Val x) (x ∷ rest) below finds

-- ---- as many as it says

taken_above : (n : ℕ) (stack below : List Val) → n ≤ length stack → take n (stack ++ below) ≡ take n stack
taken_above zero stack below enough = refl
taken_above (suc n) [] below enough = absurd (not-suc-le-zero enough)
taken_above (suc n) (x ∷ stack) below enough = ap (λ (vs : List Val). x ∷ vs) (taken_above n stack below (omega (arith, enough)))

left_above : (n : ℕ) (stack below : List Val) → n ≤ length stack → drop n (stack ++ below) ≡ drop n stack ++ below
left_above zero stack below enough = refl
left_above (suc n) [] below enough = absurd (not-suc-le-zero enough)
left_above (suc n) (x ∷ stack) below enough = left_above n stack below (omega (arith, enough))

longer : (stack below : List Val) → length stack ≤ length (stack ++ below)
longer stack below = omega (arith, length-append stack below)

pairs_frame_by : (enough : Bool) (n : ℕ) (stack below : List Val) → nat_le n (length stack) ≡ enough → Finds (if enough then (combed (take n stack), drop n stack) else missed) →
    paired n (stack ++ below) ≡ under below (if enough then (combed (take n stack), drop n stack) else missed)
pairs_frame_by false n stack below is finds = absurd finds
pairs_frame_by true n stack below is finds =
    let enough : n ≤ length stack = leb-true n (length stack) is in
    let more : nat_le n (length (stack ++ below)) ≡ true = le-leb n (length (stack ++ below)) (omega (arith, enough, longer stack below)) in
    ap (λ (b : Bool). if b then (combed (take n (stack ++ below)), drop n (stack ++ below)) else missed) more
    ∙ (λ i. (combed (taken_above n stack below enough i), left_above n stack below enough i))

pairs_frame : (n : ℕ) → Frames (paired n)
pairs_frame n stack below finds = pairs_frame_by (nat_le n (length stack)) n stack below refl finds

-- ---- the table

data_frames : {A : Type 0} (x : Instr-F A) → Frames (data_at x)
data_frames one.Pair = pairs_frame 2
data_frames (one.PairN n) = pairs_frame n
data_frames one.Unpair = any_frames (λ v. in_parts (parts_of_comb 2 v))
data_frames (one.UnpairN n) = any_frames (λ v. in_parts (parts_of_comb n v))
data_frames one.Cons = key_frames in_front
data_frames one.Add = two_frames sum
data_frames one.Sub = two_frames difference
data_frames one.SubMutez = two_frames amount_left
data_frames one.Neg = one_frames negated
data_frames one.Abs = one_frames without_sign
data_frames one.IsNat = one_frames as_nat
data_frames one.Int = one_frames as_int
data_frames one.Lsl = two_frames shifted_left
data_frames one.Lsr = two_frames shifted_right
data_frames one.And = two_frames both
data_frames one.Or = two_frames either
data_frames one.Xor = two_frames one_alone
data_frames one.Not = one_frames opposite
data_frames one.Eq = one_frames (tested is_zero)
data_frames one.Neq = one_frames (tested (λ x. not (is_zero x)))
data_frames one.Lt = one_frames (tested (λ x. int_lt x (pos 0)))
data_frames one.Gt = one_frames (tested (λ x. int_lt (pos 0) x))
data_frames one.Le = one_frames (tested (λ x. int_le x (pos 0)))
data_frames one.Ge = one_frames (tested (λ x. int_le (pos 0) x))
data_frames one.Size = one_frames count
data_frames one.Compare = both_frames compared
data_frames one.Mul = two_frames product
data_frames one.Ediv = two_frames quotient
data_frames one.Concat = concatenated_frames
data_frames one.Mem = key_frames member
data_frames one.Get = key_frames found
data_frames one.Update = entry_frames updated
data_frames one.GetAndUpdate = entry_frames updated_with_old
data_frames one.Sha256 = one_frames hashed
data_frames _ = λ stack below finds. absurd finds

-- ---- operands on top, whatever stands below

abbrev an_environment : Env
an_environment = record { amount = 0; sender = []; source = []; me = []; now = 0; level = 0 }

plain_is_data : {A : Type 0} (s : Script) (env : Env) (x : Instr-F A) → IsTrue (is_data x) → plain_at s env x ≡ data_at x
plain_is_data s env one.Drop is = absurd cc
plain_is_data s env x is = grind arith

data_pushes : {A : Type 0} (x : Instr-F A) → IsTrue (is_data x) → IsTrue (pushes_well x)
data_pushes (one.Push t v) is = absurd cc
data_pushes _ is = refl

answered_finds : (after : List Ty) (a : Answered) → IsAnswered HasType after a → Finds a
answered_finds after (Gives vs, rest) is = tt
answered_finds after (Ends y, rest) is = tt
answered_finds after (Misses, rest) is = absurd is

pub data_answered : {A : Type 0} (x : Instr-F A) (after : List Ty) (below stack : List Val) → IsTrue (is_data x) → HasOperands x after below stack → IsAnsweredAbove below after (data_at x stack)
data_answered x after below stack is has =
    let plain = plain_answered plain_typing has.script an_environment refl x has.before after has.applies has.alone (data_pushes x is) has.operands has.typed in
    let answer : IsAnswered HasType after (data_at x has.operands) = subst (λ f. IsAnswered HasType after (f has.operands)) (plain_is_data has.script an_environment x is) plain in
    let same : under below (data_at x has.operands) ≡ data_at x stack =
    sym (data_frames x has.operands below (answered_finds after _ answer)) ∙ ap (data_at x) (sym has.stands) in
    subst (IsAnsweredAbove below after) same ((data_at x has.operands).1, refl, answer)
