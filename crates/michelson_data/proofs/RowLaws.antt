-- The strings of a list, one after another, as a loop gathers them.
use Rattle.std.proofs.Common.{◌≡◌, ℕ, List, ◌∷◌, ◌++◌, Option, Some, None, refl, sym, ap, ◌∙◌, append_assoc, rules}
use Rattle.std.specs.Option.{option_map}
use Rattle.value_core.specs.declared.val.Val.{Val}
use Rattle.value_core.specs.declared.val.Val.TheOpen as is
use Rattle.value_core.specs.declared.val.Val.TheVariants as value
use Rattle.value_core.specs.declared.val.Val.TheViews.{out-Val, the_lemmas}
use Rattle.michelson_rules.specs.Collections.{strings}

-- bytes before what is gathered of the rest
abbrev pub before : List ℕ → Option (List ℕ) → Option (List ℕ)
before row rest = option_map (λ more. row ++ more) rest

out-text : (bytes : List ℕ) → out-Val (value.Text bytes) ≡ is.Text bytes
out-text bytes = search (rules, the_lemmas)

-- a string in front of a list
first_string : (x : Val) (xs : List Val) (bytes : List ℕ) → x ≡ value.Text bytes → strings (x ∷ xs) ≡ before bytes (strings xs)
first_string x xs bytes kind = ap (λ y. strings (y ∷ xs)) kind ∙ (rw (out-text bytes) refl)

twice : (row bytes : List ℕ) (rest : Option (List ℕ)) → before row (before bytes rest) ≡ before (row ++ bytes) rest
twice row bytes None = refl
twice row bytes (Some more) = ap Some (sym (append_assoc row bytes more))

-- one string more
pub one_more : (items rest next : List Val) (x : Val) (row bytes : List ℕ) → rest ≡ x ∷ next → x ≡ value.Text bytes →
    strings items ≡ before row (strings rest) → strings items ≡ before (row ++ bytes) (strings next)
one_more items rest next x row bytes split kind all =
    all ∙ ap (λ l. before row (strings l)) split ∙ ap (before row) (first_string x next bytes kind) ∙ twice row bytes (strings next)
