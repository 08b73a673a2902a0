-- One more time round a loop, and one more item of `MAP`.
use Rattle.std.proofs.Common.{◌≡◌, ℕ, zero, suc, ◌-◌, true, List, [], ◌∷◌, ◌++◌, Option, Some, None, refl, sym, ap, ◌∙◌, append_assoc, map, drop, slice_get, arith, rules as std_rules}
use Rattle.value_core.specs.declared.val.Val.{Val}
use Rattle.value_core.specs.declared.val.Val.TheVariants as value
use Rattle.value_core.specs.declared.val.Val.TheOpen as is
use Rattle.value_core.specs.declared.val.Val.TheViews.{out-Val, the_lemmas}
use Rattle.value_core.specs.Layer.{Layer}
use Rattle.value_core.specs.Sorted.{keys_of}
use Rattle.michelson_code.specs.declared.instr.Instr.{Instr}
use Rattle.michelson_rules.specs.Answers.{gives, sized}
use Rattle.michelson_rules.specs.Plain.{copied, copied_from}
use Rattle.michelson_rules.specs.Runs.{Beside, Changes, Run, Return, ends, then_do, with_turns}
use Rattle.michelson_rules.specs.Bodies.{Meaning, On, entry_pair, by_top, items_of, looped, once_more, results, with_result, with_values}
use Rattle.michelson_rules.specs.Rules.{answered, gathered, mapped}
use Rattle.michelson_rules.specs.EachRun.{LoopsOn}
use Rattle.michelson_machine.specs.declared.frame.While.{While}
use Rattle.michelson_machine.specs.declared.frame.While.TheVariants as while
use Rattle.michelson_machine.specs.Resume.{entries_of, finished, loops_on, mapping, with_top}
use Rattle.michelson_machine.specs.Steps.{keys_in, started}
use Rattle.michelson_rules.proofs.ThenDo.{then_alike, then_assoc}

-- a loop that goes on starts its body, and then goes on
pub loop_on : (kind : While) (run : List Instr → Meaning) → LoopsOn (loops_on kind) run →
    (body : List Instr) (stack more : List Val) (beside : Beside) → by_top (loops_on kind) stack ≡ On more →
    looped (loops_on kind) (run body) stack beside ≡ started (run body) (looped (loops_on kind) (run body)) more beside
loop_on kind run law body stack more beside e =
    law body stack beside ∙ ap (λ a. once_more (run body) (looped (loops_on kind) (run body)) a beside) e

-- with true on top
pub true_on : (stack below : List Val) (top : Val) → stack ≡ top ∷ below → top ≡ value.Bool true → by_top (loops_on while.True) stack ≡ On below
true_on stack below top e f =
    let shows : out-Val (value.Bool true) ≡ is.Bool true = search (std_rules, the_lemmas) in
    ap (by_top (loops_on while.True)) e ∙ ap (λ x. loops_on while.True x below) (ap out-Val f ∙ shows)

-- with the left of an `or` on top
pub left_on : (stack below : List Val) (top part : Val) → stack ≡ top ∷ below → top ≡ value.Left part → by_top (loops_on while.Left) stack ≡ On (part ∷ below)
left_on stack below top part e f =
    let shows : out-Val (value.Left part) ≡ is.Left part = search (std_rules, the_lemmas) in
    ap (by_top (loops_on while.Left)) e ∙ ap (λ x. loops_on while.Left x below) (ap out-Val f ∙ shows)

-- ---- items

turn_then : {A B : Type 0} (turns : ℕ) (versions : List Changes) (f : Beside → Run A) (k : A → Beside → Run B) →
    then_do (with_turns turns versions f) k ≡ with_turns turns versions (λ b. then_do (f b) k)
turn_then zero versions f k = refl
turn_then (suc turns) versions f k = refl

turns_alike : {A : Type 0} (turns : ℕ) (versions : List Changes) (f g : Beside → Run A) → ((b : Beside) → f b ≡ g b) → with_turns turns versions f ≡ with_turns turns versions g
turns_alike turns versions f g e = ap (with_turns turns versions) (λ i b. e b i)

-- what a result does to the results behind it
result_on : (body : Meaning) (keys : Option (List Val)) (done items s : List Val) (b : Beside) →
    then_do (with_result (results body items) s b) (λ r. finished keys (done ++ r.0) r.1) ≡ with_top (λ y. mapping body keys (done ++ y ∷ []) items) s b
result_on body keys done items [] b = refl
result_on body keys done items (y ∷ s) b =
    then_assoc (results body items s b) (λ r c. ends (Return (y ∷ r.0, r.1) c)) (λ r. finished keys (done ++ r.0) r.1)
    ∙ then_alike (results body items s b) (λ r. finished keys (done ++ (y ∷ r.0)) r.1) (λ r. finished keys ((done ++ y ∷ []) ++ r.0) r.1)
    (λ r c e. ap (λ vs. finished keys vs r.1 c) (sym (append_assoc done (y ∷ []) r.0)))

-- one more item of `MAP`
pub map_on : (body : Meaning) (keys : Option (List Val)) (done : List Val) (x : Val) (items stack : List Val) (beside : Beside) →
    mapping body keys done (x ∷ items) stack beside ≡ started body (with_top (λ y. mapping body keys (done ++ y ∷ []) items)) (x ∷ stack) beside
map_on body keys done x items stack beside =
    let next : (List Val × List Val) → Beside → Run (List Val) = λ r. finished keys (done ++ r.0) r.1 in
    turn_then beside.turns beside.versions (λ b. then_do (body (x ∷ stack) b) (with_result (results body items))) next
    ∙ turns_alike beside.turns beside.versions
    (λ b. then_do (then_do (body (x ∷ stack) b) (with_result (results body items))) next)
    (λ b. then_do (body (x ∷ stack) b) (with_top (λ y. mapping body keys (done ++ y ∷ []) items)))
    (λ b. then_assoc (body (x ∷ stack) b) (with_result (results body items)) next
    ∙ then_alike (body (x ∷ stack) b) (λ s c. then_do (with_result (results body items) s c) next) (with_top (λ y. mapping body keys (done ++ y ∷ []) items))
    (λ s c e. result_on body keys done items s c))

-- keys with values, taken from the entries
valued : (entries : List (Val × Val)) (vs : List Val) → with_values entries vs ≡ entries_of (keys_of entries) vs
valued [] vs = refl
valued (e ∷ es) [] = refl
valued (e ∷ es) (v ∷ vs) = ap (λ rest. (e.0, v) ∷ rest) (valued es vs)

-- of a list
list_done : (body : Meaning) (items stack : List Val) (beside : Beside) →
    then_do (results body items stack beside) (gathered (is.List items)) ≡ mapping body None [] items stack beside
list_done body items stack beside = refl

-- of a map
map_done : (body : Meaning) (entries : List (Val × Val)) (stack : List Val) (beside : Beside) →
    then_do (results body (map entry_pair entries) stack beside) (gathered (is.Map entries)) ≡ mapping body (Some (keys_of entries)) [] (map entry_pair entries) stack beside
map_done body entries stack beside =
    then_alike (results body (map entry_pair entries) stack beside) (gathered (is.Map entries)) (λ r. finished (Some (keys_of entries)) r.0 r.1)
    (λ r b e. ap (λ made. answered (sized (value.Map made), r.1) b) (valued entries r.0))

-- `MAP` from its beginning
pub mapped_is : (body : Meaning) (x : Layer Val) (keys : Option (List Val)) (items stack : List Val) (beside : Beside) →
    keys_in x ≡ Some keys → items_of x ≡ Some items → mapped body x stack beside ≡ mapping body keys [] items stack beside
mapped_is body (is.List xs) keys items stack beside p q =
    let none : None ≡ keys = cc in
    let all : xs ≡ items = cc in
    list_done body xs stack beside ∙ ap (λ k. mapping body k [] xs stack beside) none ∙ ap (λ i. mapping body keys [] i stack beside) all
mapped_is body (is.Map es) keys items stack beside p q =
    let those : Some (keys_of es) ≡ keys = cc in
    let all : map entry_pair es ≡ items = cc in
    map_done body es stack beside ∙ ap (λ k. mapping body k [] (map entry_pair es) stack beside) those ∙ ap (λ i. mapping body keys [] i stack beside) all
mapped_is body _ keys items stack beside p q = cc

-- ---- copies

-- the item of that number, counted from 0
at_number : (n : ℕ) (stack whole : List Val) (x : Val) → slice_get stack n ≡ Some x → copied (drop n stack) whole ≡ (gives x, whole)
at_number n [] whole x e = cc
at_number zero (y ∷ ys) whole x e = let f : y ≡ x = cc in ap (λ v. (gives v, whole)) f
at_number (suc n) (y ∷ ys) whole x e = at_number n ys whole x e

-- and counted from 1
pub copied_is : (n : ℕ) (stack : List Val) (x : Val) → (n ≡ 0 → ⊥) → slice_get stack (n - 1) ≡ Some x → copied_from n stack ≡ (gives x, stack)
copied_is zero stack x h e = absurd (h refl)
copied_is (suc n) stack x h e =
    let back : suc n - 1 ≡ n = omega arith in
    at_number n stack stack x (sym (ap (slice_get stack) back) ∙ e)
