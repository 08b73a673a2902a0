-- The table by what instructions take from the stack.
use Rattle.std.proofs.Common.{◌≡◌, ℕ, List, [], ◌∷◌, refl, rules}
use Rattle.value_core.specs.declared.val.Val.{Val}
use Rattle.value_core.specs.declared.val.Val.TheViews.{out-Val}
use Rattle.value_core.specs.Layer.{Layer}
use Rattle.michelson_rules.specs.Answers.{Answer, on_any, on_both, on_entry, on_key, on_one, on_two}
use Rattle.michelson_rules.specs.Collections.{found, in_front, member, updated, updated_with_old}
use Rattle.michelson_rules.specs.Numbers.{sum, difference, amount_left, product, quotient, shifted_left, shifted_right, both, either, one_alone}
use Rattle.michelson_rules.specs.Plain.{concatenated, data_at, in_parts, paired, parts_of_comb}
use Rattle.michelson_data.specs.declared.op.DataOp.{DataOp}
use Rattle.michelson_data.specs.declared.op.DataOp.TheVariants as op
use Rattle.michelson_data.specs.declared.operands.Operands.TheVariants as takes
use Rattle.michelson_data.specs.Form.{form}
use Rattle.michelson_data.specs.Operands.{kind_of, of_one, of_two}

pub one_is : (A : Type 0) (o : DataOp) (s : List Val) → kind_of o ≡ takes.One → data_at {A = A} (form o) s ≡ on_one (of_one o) s
one_is A op.Neg s e = refl
one_is A op.Abs s e = refl
one_is A op.IsNat s e = refl
one_is A op.Int s e = refl
one_is A op.Not s e = refl
one_is A op.Eq s e = refl
one_is A op.Neq s e = refl
one_is A op.Lt s e = refl
one_is A op.Gt s e = refl
one_is A op.Le s e = refl
one_is A op.Ge s e = refl
one_is A op.Size s e = refl
one_is A op.Sha256 s e = refl
one_is A _ s e = absurd (search rules)

two_levels : (f : Layer Val → Layer Val → Answer) (s : List Val) → on_two f s ≡ on_both (λ x y. f (out-Val x) (out-Val y)) s
two_levels f [] = refl
two_levels f (x ∷ []) = refl
two_levels f (x ∷ y ∷ s) = refl

key_level : (f : Val → Layer Val → Answer) (s : List Val) → on_key f s ≡ on_both (λ x y. f x (out-Val y)) s
key_level f [] = refl
key_level f (x ∷ []) = refl
key_level f (x ∷ y ∷ s) = refl

pub two_is : (A : Type 0) (o : DataOp) (s : List Val) → kind_of o ≡ takes.Two → data_at {A = A} (form o) s ≡ on_both (of_two o) s
two_is A op.Add s e = two_levels sum s
two_is A op.Sub s e = two_levels difference s
two_is A op.SubMutez s e = two_levels amount_left s
two_is A op.Lsl s e = two_levels shifted_left s
two_is A op.Lsr s e = two_levels shifted_right s
two_is A op.And s e = two_levels both s
two_is A op.Or s e = two_levels either s
two_is A op.Xor s e = two_levels one_alone s
two_is A op.Compare s e = refl
two_is A op.Mul s e = two_levels product s
two_is A op.Ediv s e = two_levels quotient s
two_is A op.Mem s e = key_level member s
two_is A op.Get s e = key_level found s
two_is A _ s e = absurd (search rules)

pub together_is : (A : Type 0) (o : DataOp) (n : ℕ) (s : List Val) → kind_of o ≡ takes.Together n → data_at {A = A} (form o) s ≡ paired n s
together_is A op.Pair n s e = grind rules
together_is A (op.PairN m) n s e = grind rules
together_is A _ n s e = absurd (search rules)

pub apart_is : (A : Type 0) (o : DataOp) (n : ℕ) (s : List Val) → kind_of o ≡ takes.Apart n → data_at {A = A} (form o) s ≡ on_any (λ v. in_parts (parts_of_comb n v)) s
apart_is A op.Unpair n s e = grind rules
apart_is A (op.UnpairN m) n s e = grind rules
apart_is A _ n s e = absurd (search rules)

pub front_is : (A : Type 0) (o : DataOp) (s : List Val) → kind_of o ≡ takes.Front → data_at {A = A} (form o) s ≡ on_key in_front s
front_is A op.Cons s e = refl
front_is A _ s e = absurd (search rules)

pub row_is : (A : Type 0) (o : DataOp) (s : List Val) → kind_of o ≡ takes.Row → data_at {A = A} (form o) s ≡ concatenated s
row_is A op.Concat s e = refl
row_is A _ s e = absurd (search rules)

pub entry_is : (A : Type 0) (o : DataOp) (s : List Val) → kind_of o ≡ takes.Entry → data_at {A = A} (form o) s ≡ on_entry updated s
entry_is A op.Update s e = refl
entry_is A _ s e = absurd (search rules)

pub entry_with_old_is : (A : Type 0) (o : DataOp) (s : List Val) → kind_of o ≡ takes.EntryWithOld → data_at {A = A} (form o) s ≡ on_entry updated_with_old s
entry_with_old_is A op.GetAndUpdate s e = refl
entry_with_old_is A _ s e = absurd (search rules)
