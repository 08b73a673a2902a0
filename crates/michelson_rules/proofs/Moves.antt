-- Moves of as many items as an instruction says: on a stack of the types that it asks for no item is missed.
use Rattle.std.proofs.Common.{◌≡◌, suc, ◌≤◌, Bool, true, false, List, [], ◌∷◌, ◌++◌, length, take, drop, Option, Some, refl, sym, ap, subst, arith, append_assoc, length-append, option_map}
use Rattle.std.specs.Prelude.{nat_le, if◌then◌else◌}
use Rattle.std.proofs.lemmas.Bool.{le-leb}
use Rattle.value_core.specs.declared.val.Val.{Val}
use Rattle.value_core.specs.declared.val.Val.TheViews.{out-Val}
use Rattle.value_core.specs.declared.ty.Ty.{Ty}
use Rattle.value_core.specs.declared.ty.Ty.TheOpen as ty
use Rattle.value_core.specs.declared.ty.Ty.TheVariants as type
use Rattle.michelson_code.specs.Typing.{comb_type}
use Rattle.michelson_rules.specs.Answers.{Answered, missed, on_any}
use Rattle.michelson_rules.specs.Plain.{before_parts, brought, comb_of, combed, copied, copied_from, dropped, dug_in, dug_out, in_parts, paired, parts_of_comb}
use Rattle.michelson_rules.specs.TypedStacks.{IsAnswered, StackHas}
use Rattle.michelson_rules.proofs.TypedAnswers.{Typing, AnswerHas, in_place, shown, sized_result, stack_append, takes_any}
use Rattle.michelson_rules.proofs.OperandKinds.{at_pair, has_pair}

module _ (typing : Typing) where
  abbrev Have : List Val → List Ty → Type 0
  Have = StackHas typing.Has

  abbrev IsLeft : List Ty → Answered → Type 0
  IsLeft = IsAnswered typing.Has

  -- ---- as many items as there are types

  pub stack_taken : (items below : List Ty) (stack : List Val) → Have stack (items ++ below) → Have (take (length items) stack) items
  stack_taken [] below stack has = tt
  stack_taken (t ∷ items) below [] has = absurd has
  stack_taken (t ∷ items) below (v ∷ stack) has = (has.0, stack_taken items below stack has.1)

  pub stack_dropped : (items below : List Ty) (stack : List Val) → Have stack (items ++ below) → Have (drop (length items) stack) below
  stack_dropped [] below stack has = has
  stack_dropped (t ∷ items) below [] has = absurd has
  stack_dropped (t ∷ items) below (v ∷ stack) has = stack_dropped items below stack has.1

  stack_length : (items below : List Ty) (stack : List Val) → Have stack (items ++ below) → length items ≤ length stack
  stack_length [] below stack has = omega arith
  stack_length (t ∷ items) below [] has = absurd has
  stack_length (t ∷ items) below (v ∷ stack) has = omega (arith, stack_length items below stack has.1)

  -- so many items are there
  pub is_enough : (items below : List Ty) (stack : List Val) → Have stack (items ++ below) → nat_le (length items) (length stack) ≡ true
  is_enough items below stack has = le-leb (length items) (length stack) (stack_length items below stack has)

  if_enough : (enough : Bool) (after : List Ty) (a : Answered) → enough ≡ true → IsLeft after a → IsLeft after (if enough then a else missed)
  if_enough true after a h is = is
  if_enough false after a h is = absurd cc

  -- ---- the moves

  pub drops : (items below : List Ty) (stack : List Val) → Have stack (items ++ below) → IsLeft below (dropped (length items) stack)
  drops items below stack has = if_enough _ below _ (is_enough items below stack has) (stack_dropped items below stack has)

  copies : (found stack : List Val) (t : Ty) (below after : List Ty) → Have found (t ∷ below) → Have stack after → IsLeft (t ∷ after) (copied found stack)
  copies [] stack t below after has all = absurd has
  copies (x ∷ found) stack t below after has all = (has.0, all)

  pub copies_from : (items : List Ty) (t : Ty) (below : List Ty) (stack : List Val) → Have stack (items ++ t ∷ below) → IsLeft (t ∷ (items ++ t ∷ below)) (copied_from (suc (length items)) stack)
  copies_from items t below stack has = copies (drop (length items) stack) stack t below _ (stack_dropped items (t ∷ below) stack has) has

  brings : (above found : List Val) (items : List Ty) (t : Ty) (below : List Ty) → Have above items → Have found (t ∷ below) → IsLeft (t ∷ (items ++ below)) (brought above found)
  brings above [] items t below first has = absurd has
  brings above (x ∷ found) items t below first has = (has.0, stack_append typing above items found below first has.1)

  pub digs : (items : List Ty) (t : Ty) (below : List Ty) (stack : List Val) → Have stack (items ++ t ∷ below) → IsLeft (t ∷ (items ++ below)) (dug_out (length items) stack)
  digs items t below stack has =
      brings (take (length items) stack) (drop (length items) stack) items t below (stack_taken items (t ∷ below) stack has) (stack_dropped items (t ∷ below) stack has)

  pub digs_in : (items : List Ty) (t : Ty) (below : List Ty) (stack : List Val) → Have stack (t ∷ (items ++ below)) → IsLeft (items ++ t ∷ below) (dug_in (length items) stack)
  digs_in items t below [] has = absurd has
  digs_in items t below (x ∷ stack) has =
      let above = stack_append typing (take (length items) stack) items (x ∷ []) (t ∷ []) (stack_taken items below stack has.1) (has.0, tt) in
      let all = stack_append typing _ _ (drop (length items) stack) below above (stack_dropped items below stack has.1) in
      if_enough _ _ _ (is_enough items below stack has.1) (subst (λ ts. Have ((take (length items) stack ++ x ∷ []) ++ drop (length items) stack) ts) (append_assoc items (t ∷ []) below) all)

  -- ---- combs

  none_is_last : (items : List Ty) (last : Ty) → Have [] (items ++ last ∷ []) → ⊥
  none_is_last [] last has = has
  none_is_last (t ∷ items) last has = has

  comb_has : (items : List Ty) (last : Ty) (x : Val) (xs : List Val) → Have (x ∷ xs) (items ++ last ∷ []) → typing.Has (comb_of x xs) (comb_type items last)
  comb_has [] last x [] has = has.0
  comb_has [] last x (y ∷ ys) has = absurd has.1
  comb_has (t ∷ items) last x [] has = absurd (none_is_last items last has.1)
  comb_has (t ∷ items) last x (y ∷ ys) has = has_pair typing x (comb_of y ys) t (comb_type items last) (has.0, comb_has items last y ys has.1)

  combs : (items : List Ty) (last : Ty) (xs : List Val) → Have xs (items ++ last ∷ []) → AnswerHas typing (comb_type items last ∷ []) (combed xs)
  combs [] last [] has = absurd has
  combs (t ∷ items) last [] has = absurd has
  combs items last (x ∷ xs) has = sized_result typing _ _ (λ small. comb_has items last x xs has)

  pub pairs : (items : List Ty) (last : Ty) (below : List Ty) (stack : List Val) → Have stack (items ++ last ∷ below) → IsLeft (comb_type items last ∷ below) (paired (suc (length items)) stack)
  pairs items last below stack has =
      let ts : List Ty = items ++ last ∷ [] in
      let all : Have stack (ts ++ below) = subst (Have stack) (sym (append_assoc items (last ∷ []) below)) has in
      let answer = in_place typing (comb_type items last ∷ []) below (combed (take (length ts) stack)) (drop (length ts) stack) (combs items last _ (stack_taken ts below stack all)) (stack_dropped ts below stack all) in
      subst (λ n. IsLeft (comb_type items last ∷ below) (paired n stack)) (omega (arith, length-append items (last ∷ []))) (if_enough _ _ _ (is_enough ts below stack all) answer)

  -- so many parts of a comb are there
  abbrev HasParts : List Ty → Option (List Val) → Type 0
  HasParts ts o = (parts : List Val) × (o ≡ Some parts) × Have parts ts

  parts_have : (items : List Ty) (last : Ty) (v : Val) → typing.Has v (comb_type items last) → HasParts (items ++ last ∷ []) (parts_of_comb (suc (length items)) v)
  parts_have [] last v has = (v ∷ [], refl, (has, tt))
  parts_have (t ∷ items) last v has =
      at_pair typing t (comb_type items last) (λ x. HasParts (t ∷ (items ++ last ∷ [])) (before_parts (parts_of_comb (suc (length items))) x))
      (λ p. let rest = parts_have items last p.1 p.3 in (p.0 ∷ rest.0, ap (option_map (λ parts. p.0 ∷ parts)) rest.1, (p.2, rest.2)))
      (out-Val v) (shown typing v (ty.Pair t (comb_type items last)) (type.Pair t (comb_type items last)) (type.outs-Pair t (comb_type items last)) has)

  unpairs_any : (items : List Ty) (last : Ty) (v : Val) → typing.Has v (comb_type items last) → AnswerHas typing (items ++ last ∷ []) (in_parts (parts_of_comb (suc (length items)) v))
  unpairs_any items last v has = let parts = parts_have items last v has in subst (λ o. AnswerHas typing (items ++ last ∷ []) (in_parts o)) (sym parts.1) parts.2

  pub unpairs : (items : List Ty) (last : Ty) (below : List Ty) (stack : List Val) → Have stack (comb_type items last ∷ below) →
      IsLeft (items ++ last ∷ below) (on_any (λ v. in_parts (parts_of_comb (suc (length items)) v)) stack)
  unpairs items last below stack has =
      subst (λ ts. IsLeft ts (on_any (λ v. in_parts (parts_of_comb (suc (length items)) v)) stack)) (append_assoc items (last ∷ []) below)
      (takes_any typing _ _ _ (unpairs_any items last) stack below has)
