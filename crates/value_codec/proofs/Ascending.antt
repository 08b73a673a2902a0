-- Items that were read one above another ascend, and the other way round.
use Rattle.std.proofs.Common.{◌≡◌, true, List, [], ◌∷◌, map, Option, Some, None, refl}
use Rattle.std.specs.Prelude.{IsTrue}
use Rattle.std.specs.List.{AllByRecursion}
use Rattle.std.specs.Ordering.{is_lt}
use Rattle.byte_fields.specs.Laws.{AllAlong}
use Rattle.value_core.specs.declared.val.Val.{Val}
use Rattle.value_core.specs.Order.{order}
use Rattle.value_core.specs.Sound.{ascends}
use Rattle.value_core.specs.Lasts.{is_above}
use Rattle.value_core.proofs.Bools.{both_true, first_true, second_true}

module _ {A : Type 0} (key : A → Val) (Good : A → Type 0) where
  -- good, with a key above the last one
  abbrev pub GoodNext : Option Val → A → Type 0
  GoodNext last a = Good a × IsTrue (is_above last (key a))

  abbrev pub next_key : Option Val → A → Option Val
  next_key last a = Some (key a)

  good_along : (last : Option Val) (all : List A) → AllAlong GoodNext next_key last all → AllByRecursion Good all
  good_along last [] h = tt
  good_along last (a ∷ all) h = (h.0.0, good_along (Some (key a)) all h.1)

  ascends_along : (last : Val) (all : List A) → AllAlong GoodNext next_key (Some last) all → ascends (last ∷ map key all) ≡ true
  ascends_along last [] h = refl
  ascends_along last (a ∷ all) h = both_true (is_lt (order last (key a))) _ h.0.1 (ascends_along (key a) all h.1)

  ascends_first : (all : List A) → AllAlong GoodNext next_key None all → ascends (map key all) ≡ true
  ascends_first [] h = refl
  ascends_first (a ∷ all) h = ascends_along (key a) all h.1

  pub from_along : (all : List A) → AllAlong GoodNext next_key None all → AllByRecursion Good all × (ascends (map key all) ≡ true)
  from_along all h = (good_along None all h, ascends_first all h)

  along_ascends : (last : Val) (all : List A) → AllByRecursion Good all → ascends (last ∷ map key all) ≡ true → AllAlong GoodNext next_key (Some last) all
  along_ascends last [] good up = tt
  along_ascends last (a ∷ all) good up =
      ((good.0, first_true (is_lt (order last (key a))) _ up), along_ascends (key a) all good.1 (second_true (is_lt (order last (key a))) _ up))

  pub to_along : (all : List A) → AllByRecursion Good all → ascends (map key all) ≡ true → AllAlong GoodNext next_key None all
  to_along [] good up = tt
  to_along (a ∷ all) good up = ((good.0, refl), along_ascends (key a) all good.1 up)
