-- The last of a list to which one more was added.
use Rattle.std.proofs.Common.{◌≡◌, ◌-◌, List, [], ◌∷◌, ◌++◌, length, Some, refl, ap, arith}
use Rattle.std.specs.Prelude.{slice_get}
use Rattle.std.specs.Option.{option_map}
use Rattle.std.proofs.lemmas.List.{length-append}
use Rattle.value_core.specs.declared.val.Val.{Val}
use Rattle.value_core.specs.Lasts.{last_item, last_key}

last_of_more : {A : Type 0} (front : List A) (a : A) → slice_get (front ++ a ∷ []) (length front) ≡ Some a
last_of_more [] a = refl
last_of_more (b ∷ front) a = last_of_more front a

pub last_item-more : (front : List Val) (v : Val) → last_item (front ++ v ∷ []) ≡ Some v
last_item-more front v =
    let before : length (front ++ v ∷ []) - 1 ≡ length front = omega (arith, length-append front (v ∷ [])) in
    rw before (last_of_more front v)

pub last_key-more : (front : List (Val × Val)) (e : Val × Val) → last_key (front ++ e ∷ []) ≡ Some e.0
last_key-more front e =
    let before : length (front ++ e ∷ []) - 1 ≡ length front = omega (arith, length-append front (e ∷ [])) in
    rw before (ap (option_map (λ z. z.0)) (last_of_more front e))
