-- `ITER` and `MAP`: where the body goes from each item to its outcome, so does the instruction.
use Rattle.std.proofs.Common.{◌≡◌, suc, List, [], ◌∷◌, length, map, refl, ap, ◌∙◌, arith, rules}
use Rattle.std.specs.Prelude.{◌^◌, IsTrue, nat_lt}
use Rattle.std.proofs.lemmas.List.{length-map}
use Rattle.value_core.specs.declared.ty.Ty.{Ty}
use Rattle.value_core.specs.declared.ty.Ty.TheOpen as ty
use Rattle.value_core.specs.declared.ty.Ty.TheVariants as type
use Rattle.value_core.specs.declared.ty.Ty.TheViews.{the_lemmas}
use Rattle.value_core.specs.declared.val.Val.{Val}
use Rattle.value_core.specs.declared.val.Val.TheOpen as is
use Rattle.value_core.specs.declared.val.Val.TheVariants as value
use Rattle.value_core.specs.Layer.{Layer}
use Rattle.value_core.specs.Sorted.{keys_of}
use Rattle.value_core.specs.Sound.{ascends, is_countable}
use Rattle.michelson_code.specs.Typing.{To}
use Rattle.michelson_rules.specs.Answers.{sized}
use Rattle.michelson_rules.specs.Bodies.{Meaning, each, entry_pair, on_top, results, with_result, with_values}
use Rattle.michelson_rules.specs.Rules.{gathered, iterated, mapped}
use Rattle.michelson_rules.specs.Runs.{Beside, Changes, Return, Run, ends, then_do}
use Rattle.michelson_rules.specs.TypedRuns.{EndsSo, Follows, Goes, Leaves}
use Rattle.michelson_rules.specs.TypedValues.{AllBelong, Belongs}
use Rattle.michelson_rules.proofs.Belonging.{EntriesBelong, FitsHere, ItemsBelong, answered_ends, entries_later, items_later, of_level, typing}
use Rattle.michelson_rules.proofs.Following.{belongs_later, ends_in_a_turn, ends_on, ends_then, follows_itself, follows_on, follows_turn}
use Rattle.michelson_rules.proofs.TypedAnswers.{in_place, sized_result}
use Rattle.michelson_rules.proofs.TypedBodies.{on_top_goes}

-- as many as some that can be counted
as_countable : {A B : Type 0} (xs : List A) (ys : List B) → length xs ≡ length ys → IsTrue (is_countable ys) → IsTrue (is_countable xs)
as_countable xs ys same few = ap (λ n. nat_lt n (2 ^ 32)) same ∙ few

module _ (maps : List (Ty × Ty)) where
  -- ---- each item

  pub each_ends : (a : Ty) (s : List Ty) (body : Meaning) → Goes maps (a ∷ s) (To s) body → (items stack : List Val) (b : Beside) → ItemsBelong maps b.versions a items →
      AllBelong maps b.versions stack s → EndsSo (Leaves maps b (To s)) (each body items stack b).ending
  each_ends a s body goes [] stack b have has = (follows_itself b, has)
  each_ends a s body goes (x ∷ items) stack b have has = ends_in_a_turn (Leaves maps b (To s)) b (λ c. then_do (body (x ∷ stack) c) (each body items)) (λ t is.
      let c : Beside = record { turns = t; versions = b.versions } in
      ends_then (Leaves maps c (To s)) (Leaves maps b (To s)) (body (x ∷ stack) c).ending (each body items) (goes (x ∷ stack) c (have.0, has))
      (λ st d leaves. ends_on maps b d (To s) (each body items st d).ending (follows_turn b t d is leaves.0)
      (each_ends a s body goes items st d (items_later maps c d a items leaves.0 have.1) leaves.1)))

  pairs_belong : (versions : List Changes) (k t : Ty) (es : List (Val × Val)) → EntriesBelong maps versions k t es → ItemsBelong maps versions (type.Pair k t) (map entry_pair es)
  pairs_belong versions k t [] have = tt
  pairs_belong versions k t (e ∷ es) have = (
    of_level maps versions (is.Pair e.0 e.1) (value.Pair e.0 e.1) (ty.Pair k t) (type.Pair k t) (value.rolls-Pair e.0 e.1) (search (rules, the_lemmas)) have.0,
    pairs_belong versions k t es have.1,
  )

  list_iterated : (a : Ty) (s : List Ty) (body : Meaning) → Goes maps (a ∷ s) (To s) body → (x : Layer Val) (stack : List Val) (b : Beside) →
      FitsHere maps b.versions x (ty.List a) → AllBelong maps b.versions stack s → EndsSo (Leaves maps b (To s)) (iterated body x stack b).ending
  list_iterated a s body goes (is.List items) stack b fit has = each_ends a s body goes items stack b fit.1 has
  list_iterated a s body goes _ stack b fit has = absurd fit

  set_iterated : (a : Ty) (s : List Ty) (body : Meaning) → Goes maps (a ∷ s) (To s) body → (x : Layer Val) (stack : List Val) (b : Beside) →
      FitsHere maps b.versions x (ty.Set a) → AllBelong maps b.versions stack s → EndsSo (Leaves maps b (To s)) (iterated body x stack b).ending
  set_iterated a s body goes (is.Set items) stack b fit has = each_ends a s body goes items stack b fit.2 has
  set_iterated a s body goes _ stack b fit has = absurd fit

  map_iterated : (k t : Ty) (s : List Ty) (body : Meaning) → Goes maps (type.Pair k t ∷ s) (To s) body → (x : Layer Val) (stack : List Val) (b : Beside) →
      FitsHere maps b.versions x (ty.Map k t) → AllBelong maps b.versions stack s → EndsSo (Leaves maps b (To s)) (iterated body x stack b).ending
  map_iterated k t s body goes (is.Map entries) stack b fit has = each_ends (type.Pair k t) s body goes (map entry_pair entries) stack b (pairs_belong b.versions k t entries fit.2) has
  map_iterated k t s body goes _ stack b fit has = absurd fit

  pub iter_list_goes : (a : Ty) (s : List Ty) (body : Meaning) → Goes maps (a ∷ s) (To s) body → Goes maps (type.List a ∷ s) (To s) (on_top (iterated body))
  iter_list_goes a s body goes = on_top_goes maps (type.List a) (ty.List a) s (To s) (iterated body) (search (rules, the_lemmas)) (list_iterated a s body goes)

  pub iter_set_goes : (a : Ty) (s : List Ty) (body : Meaning) → Goes maps (a ∷ s) (To s) body → Goes maps (type.Set a ∷ s) (To s) (on_top (iterated body))
  iter_set_goes a s body goes = on_top_goes maps (type.Set a) (ty.Set a) s (To s) (iterated body) (search (rules, the_lemmas)) (set_iterated a s body goes)

  pub iter_map_goes : (k t : Ty) (s : List Ty) (body : Meaning) → Goes maps (type.Pair k t ∷ s) (To s) body → Goes maps (type.Map k t ∷ s) (To s) (on_top (iterated body))
  iter_map_goes k t s body goes = on_top_goes maps (type.Map k t) (ty.Map k t) s (To s) (iterated body) (search (rules, the_lemmas)) (map_iterated k t s body goes)

  -- ---- results

  -- a result for each item, and the stack below
  record Made (b : Beside) (t : Ty) (s : List Ty) (items : List Val) (r : List Val × List Val) (c : Beside) : Type 0 where
    follows : Follows b c
    results : ItemsBelong maps c.versions t r.0
    below : AllBelong maps c.versions r.1 s
    count : length r.0 ≡ length items

  with_result_ends : (b d : Beside) (t : Ty) (s : List Ty) (x : Val) (items : List Val) (next : List Val → Beside → Run (List Val × List Val)) → Follows b d →
      ((st : List Val) → AllBelong maps d.versions st s → EndsSo (Made d t s items) (next st d).ending) →
      (st : List Val) → AllBelong maps d.versions st (t ∷ s) → EndsSo (Made b t s (x ∷ items)) (with_result next st d).ending
  with_result_ends b d t s x items next follows goes [] has = absurd has
  with_result_ends b d t s x items next follows goes (y ∷ st) has =
      ends_then (Made d t s items) (Made b t s (x ∷ items)) (next st d).ending (λ r c. ends (Return (y ∷ r.0, r.1) c)) (goes st has.1) (λ r c made. record {
        follows = follows_on b d c follows made.follows;
        results = (belongs_later maps d c y t made.follows has.0, made.results);
        below = made.below;
        count = ap suc made.count;
      })

  results_end : (a t : Ty) (s : List Ty) (body : Meaning) → Goes maps (a ∷ s) (To (t ∷ s)) body → (items stack : List Val) (b : Beside) → ItemsBelong maps b.versions a items →
      AllBelong maps b.versions stack s → EndsSo (Made b t s items) (results body items stack b).ending
  results_end a t s body goes [] stack b have has = record { follows = follows_itself b; results = tt; below = has; count = refl }
  results_end a t s body goes (x ∷ items) stack b have has =
      ends_in_a_turn (Made b t s (x ∷ items)) b (λ c. then_do (body (x ∷ stack) c) (with_result (results body items))) (λ n is.
      let c : Beside = record { turns = n; versions = b.versions } in
      ends_then (Leaves maps c (To (t ∷ s))) (Made b t s (x ∷ items)) (body (x ∷ stack) c).ending (with_result (results body items)) (goes (x ∷ stack) c (have.0, has))
      (λ st d leaves. with_result_ends b d t s x items (results body items) (follows_turn b n d is leaves.0)
      (λ lower below. results_end a t s body goes items lower d (items_later maps c d a items leaves.0 have.1) below) st leaves.1))

  -- what is made of the results is tested for its size
  sized_ends : (b c : Beside) (t : Ty) (s : List Ty) (v : Val) (stack : List Val) → Follows b c → Belongs maps c.versions v t → AllBelong maps c.versions stack s →
      EndsSo (Leaves maps b (To (t ∷ s))) (Rattle.michelson_rules.specs.Rules.answered (sized v, stack) c).ending
  sized_ends b c t s v stack follows belongs below =
      answered_ends maps b c (t ∷ s) (sized v, stack) follows
      (in_place (typing maps c.versions) (t ∷ []) s (sized v) stack (sized_result (typing maps c.versions) v t (λ small. belongs)) below)

  list_mapped : (a t : Ty) (s : List Ty) (body : Meaning) → Goes maps (a ∷ s) (To (t ∷ s)) body → (x : Layer Val) (stack : List Val) (b : Beside) →
      FitsHere maps b.versions x (ty.List a) → AllBelong maps b.versions stack s → EndsSo (Leaves maps b (To (type.List t ∷ s))) (mapped body x stack b).ending
  list_mapped a t s body goes (is.List items) stack b fit has =
      ends_then (Made b t s items) (Leaves maps b (To (type.List t ∷ s))) (results body items stack b).ending (gathered (is.List items)) (results_end a t s body goes items stack b fit.1 has)
      (λ r c made. sized_ends b c (type.List t) s (value.List r.0) r.1 made.follows
      (of_level maps c.versions (is.List r.0) (value.List r.0) (ty.List t) (type.List t) (value.rolls-List r.0) (search (rules, the_lemmas))
      (as_countable r.0 items made.count fit.0, made.results)) made.below)
  list_mapped a t s body goes _ stack b fit has = absurd fit

  pub map_list_goes : (a t : Ty) (s : List Ty) (body : Meaning) → Goes maps (a ∷ s) (To (t ∷ s)) body → Goes maps (type.List a ∷ s) (To (type.List t ∷ s)) (on_top (mapped body))
  map_list_goes a t s body goes = on_top_goes maps (type.List a) (ty.List a) s (To (type.List t ∷ s)) (mapped body) (search (rules, the_lemmas)) (list_mapped a t s body goes)

  -- ---- maps with other values

  same_keys : (es : List (Val × Val)) (vs : List Val) → length vs ≡ length es → keys_of (with_values es vs) ≡ keys_of es
  same_keys [] vs count = refl
  same_keys (e ∷ es) [] count = absurd (omega (arith, count))
  same_keys (e ∷ es) (v ∷ vs) count = ap (λ (ks : List Val). e.0 ∷ ks) (same_keys es vs (omega (arith, count)))

  same_count : (es : List (Val × Val)) (vs : List Val) → length vs ≡ length es → length (with_values es vs) ≡ length es
  same_count [] vs count = refl
  same_count (e ∷ es) [] count = absurd (omega (arith, count))
  same_count (e ∷ es) (v ∷ vs) count = ap suc (same_count es vs (omega (arith, count)))

  values_belong : (versions : List Changes) (k u t : Ty) (es : List (Val × Val)) (vs : List Val) → length vs ≡ length es → EntriesBelong maps versions k u es → ItemsBelong maps versions t vs →
      EntriesBelong maps versions k t (with_values es vs)
  values_belong versions k u t [] vs count have results = tt
  values_belong versions k u t (e ∷ es) [] count have results = absurd (omega (arith, count))
  values_belong versions k u t (e ∷ es) (v ∷ vs) count have results =
      ((have.0.0, results.0), values_belong versions k u t es vs (omega (arith, count)) have.1 results.1)

  map_mapped : (k u t : Ty) (s : List Ty) (body : Meaning) → Goes maps (type.Pair k u ∷ s) (To (t ∷ s)) body → (x : Layer Val) (stack : List Val) (b : Beside) →
      FitsHere maps b.versions x (ty.Map k u) → AllBelong maps b.versions stack s → EndsSo (Leaves maps b (To (type.Map k t ∷ s))) (mapped body x stack b).ending
  map_mapped k u t s body goes (is.Map entries) stack b fit has =
      ends_then (Made b t s (map entry_pair entries)) (Leaves maps b (To (type.Map k t ∷ s))) (results body (map entry_pair entries) stack b).ending (gathered (is.Map entries))
      (results_end (type.Pair k u) t s body goes (map entry_pair entries) stack b (pairs_belong b.versions k u entries fit.2) has)
      (λ r c made.
      let count : length r.0 ≡ length entries = made.count ∙ length-map entries entry_pair in
      sized_ends b c (type.Map k t) s (value.Map (with_values entries r.0)) r.1 made.follows
      (of_level maps c.versions (is.Map (with_values entries r.0)) (value.Map (with_values entries r.0)) (ty.Map k t) (type.Map k t) (value.rolls-Map (with_values entries r.0)) (search (rules, the_lemmas)) (
        as_countable (with_values entries r.0) entries (same_count entries r.0 count) fit.0,
        ap ascends (same_keys entries r.0 count) ∙ fit.1,
        values_belong c.versions k u t entries r.0 count (entries_later maps b c k u entries made.follows fit.2) made.results,
      )) made.below)
  map_mapped k u t s body goes _ stack b fit has = absurd fit

  pub map_map_goes : (k u t : Ty) (s : List Ty) (body : Meaning) → Goes maps (type.Pair k u ∷ s) (To (t ∷ s)) body → Goes maps (type.Map k u ∷ s) (To (type.Map k t ∷ s)) (on_top (mapped body))
  map_map_goes k u t s body goes = on_top_goes maps (type.Map k u) (ty.Map k u) s (To (type.Map k t ∷ s)) (mapped body) (search (rules, the_lemmas)) (map_mapped k u t s body goes)
