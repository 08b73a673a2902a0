-- Whether a pair has so many parts, told from what is left of it.
use Rattle.std.proofs.Common.{◌≡◌, ℕ, suc, ◌+◌, ◌-◌, ◌<◌, ◌≤◌, List, [], ◌∷◌, ◌++◌, length, drop, take, Option, Some, None, refl, sym, ap, ◌∙◌, arith, rules, append_assoc}
use Rattle.std.specs.Prelude.{IsTrue, is_some}
use Rattle.std.specs.Option.{option_map}
use Rattle.std.proofs.lemmas.List.{drop-append-le, length-append, take-append-le}
use Rattle.value_core.specs.declared.val.Val.{Val}
use Rattle.value_core.specs.declared.val.Val.TheOpen as is
use Rattle.value_core.specs.declared.val.Val.TheVariants as value
use Rattle.value_core.specs.declared.val.Val.TheViews.{out-Val, roll-Val}
use Rattle.value_core.specs.Layer.{Layer}
use Rattle.value_core.proofs.Levels.{roll-out}
use Rattle.michelson_rules.specs.Plain.{before_parts, parts_of_comb}
use Rattle.michelson_data.proofs.PairLaws.{one_part}

some_mapped : (f : List Val → List Val) (o : Option (List Val)) → is_some (option_map f o) ≡ is_some o
some_mapped f (Some ps) = refl
some_mapped f None = refl

-- whether there are n parts is whether what is left has those that are left: at first, after a part, and at last
pub all_parts : (n : ℕ) (v : Val) → 1 ≤ n → is_some (parts_of_comb (suc (n - 1)) v) ≡ is_some (parts_of_comb n v)
all_parts n v some = let same : suc (n - 1) ≡ n = omega arith in ap (λ m. is_some (parts_of_comb m v)) same

pub fewer_parts : (n i : ℕ) (v rest a b : Val) → i < n → rest ≡ value.Pair a b →
    is_some (parts_of_comb (suc (n - i)) rest) ≡ is_some (parts_of_comb n v) → is_some (parts_of_comb (suc (n - (i + 1))) b) ≡ is_some (parts_of_comb n v)
fewer_parts n i v rest a b more kind so = let step : suc (suc (n - (i + 1))) ≡ suc (n - i) = omega arith in
    sym (ap is_some (one_part rest a b (n - (i + 1)) kind) ∙ some_mapped (λ parts. a ∷ parts) (parts_of_comb (suc (n - (i + 1))) b))
    ∙ ap (λ m. is_some (parts_of_comb m rest)) step ∙ so

pub last_part : (n i : ℕ) (v rest : Val) → n ≤ i → is_some (parts_of_comb (suc (n - i)) rest) ≡ is_some (parts_of_comb n v) → IsTrue (is_some (parts_of_comb n v))
last_part n i v rest end so = let one : 1 ≡ suc (n - i) = omega arith in sym so ∙ sym (ap (λ m. is_some (parts_of_comb m rest)) one)

-- ---- parts that are put on the stack one by one

kept_before : (a : Val) (below : ℕ) (old new : List Val) (o : Option (List Val)) → below ≤ length old → new ≡ old ++ a ∷ [] →
    option_map (λ more. drop below old ++ more) (option_map (λ parts. a ∷ parts) o) ≡ option_map (λ more. drop below new ++ more) o
kept_before a below old new None high put = refl
kept_before a below old new (Some parts) high put =
    let more : drop below new ≡ drop below old ++ a ∷ [] = ap (drop below) put ∙ drop-append-le below old (a ∷ []) high in
    ap Some (sym (append_assoc (drop below old) (a ∷ []) parts) ∙ ap (λ l. l ++ parts) (sym more))

-- one part more
pub part_put : (n i below : ℕ) (v rest a b : Val) (old new : List Val) → i < n → below ≤ length old → rest ≡ value.Pair a b → new ≡ old ++ a ∷ [] →
    parts_of_comb n v ≡ option_map (λ more. drop below old ++ more) (parts_of_comb (suc (n - i)) rest) →
    parts_of_comb n v ≡ option_map (λ more. drop below new ++ more) (parts_of_comb (suc (n - (i + 1))) b)
part_put n i below v rest a b old new more high kind put so = let step : suc (n - i) ≡ suc (suc (n - (i + 1))) = omega arith in
    so ∙ ap (λ m. option_map (λ more. drop below old ++ more) (parts_of_comb m rest)) step
    ∙ ap (option_map (λ more. drop below old ++ more)) (one_part rest a b (n - (i + 1)) kind)
    ∙ kept_before a below old new (parts_of_comb (suc (n - (i + 1))) b) high put

-- what stands below the parts
pub still_under : (below : ℕ) (a : Val) (old new : List Val) → below ≤ length old → new ≡ old ++ a ∷ [] → take below new ≡ take below old
still_under below a old new high put = ap (take below) put ∙ take-append-le below old (a ∷ []) high

pub still_high : (below : ℕ) (a : Val) (old new : List Val) → below ≤ length old → new ≡ old ++ a ∷ [] → below ≤ length new
still_high below a old new high put = let long = length-append old (a ∷ []) in let same = ap length put in omega arith

-- what is no pair has no two parts
no_two : (n : ℕ) (v : Val) → ((a b : Val) → v ≡ value.Pair a b → ⊥) → parts_of_comb (suc (suc n)) v ≡ None
no_two n v unpaired = by_layer (out-Val v) refl
  where
    by_layer : (x : Layer Val) → out-Val v ≡ x → before_parts (parts_of_comb (suc n)) (out-Val v) ≡ None
    by_layer (is.Pair a b) so = absurd (unpaired a b (sym (roll-out v) ∙ ap roll-Val so ∙ value.rolls-Pair a b))
    by_layer _ so = ap (before_parts (parts_of_comb (suc n))) so

pub no_part : (n i below : ℕ) (v rest : Val) (old parts : List Val) → i < n → ((a b : Val) → rest ≡ value.Pair a b → ⊥) →
    parts_of_comb n v ≡ option_map (λ more. drop below old ++ more) (parts_of_comb (suc (n - i)) rest) → parts_of_comb n v ≡ Some parts → ⊥
no_part n i below v rest old parts more unpaired so is = let step : suc (n - i) ≡ suc (suc (n - (i + 1))) = omega arith in
    let none : None ≡ Some parts = sym (so ∙ ap (λ m. option_map (λ more. drop below old ++ more) (parts_of_comb m rest)) step
    ∙ ap (option_map (λ more. drop below old ++ more)) (no_two (n - (i + 1)) rest unpaired)) ∙ is in search rules

-- the last part
pub parts_put : (n i below : ℕ) (v rest : Val) (old new parts : List Val) → n ≤ i → below ≤ length old → new ≡ old ++ rest ∷ [] →
    parts_of_comb n v ≡ option_map (λ more. drop below old ++ more) (parts_of_comb (suc (n - i)) rest) → parts_of_comb n v ≡ Some parts → drop below new ≡ parts
parts_put n i below v rest old new parts end high put so is = let one : suc (n - i) ≡ 1 = omega arith in
    let all : Some (drop below old ++ rest ∷ []) ≡ Some parts = sym (so ∙ ap (λ m. option_map (λ more. drop below old ++ more) (parts_of_comb m rest)) one) ∙ is in
    let same : drop below old ++ rest ∷ [] ≡ parts = search rules in
    ap (drop below) put ∙ drop-append-le below old (rest ∷ []) high ∙ same
