-- Combs of one more first part.
use Rattle.std.proofs.Common.{◌≡◌, List, [], ◌∷◌, ◌++◌, refl, ap, sym, ◌∙◌}
use Rattle.value_core.specs.Combs.{comb}

module _ {A : Type 0} (pair : A → A → A) where
  -- it stands right before the last part
  pub one_more_part : (firsts : List A) (part last : A) → comb pair (firsts ++ part ∷ []) last ≡ comb pair firsts (pair part last)
  one_more_part [] part last = refl
  one_more_part (first ∷ firsts) part last = ap (λ behind. pair first behind) (one_more_part firsts part last)

  -- where the last part is a pair of two, and the first of the last two is told
  pub comb_step : (whole left right next behind : A) (firsts : List A) → right ≡ pair next behind →
      whole ≡ comb pair firsts (pair left right) → whole ≡ comb pair (firsts ++ left ∷ []) (pair next behind)
  comb_step whole left right next behind firsts is e =
      e ∙ ap (λ r. comb pair firsts (pair left r)) is ∙ sym (one_more_part firsts left (pair next behind))
