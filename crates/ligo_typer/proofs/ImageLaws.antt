-- The images of records and of variants, and combs that are joined from the end.
use Rattle.std.proofs.Common.{◌≡◌, ℕ, Option, Some, None, List, [], ◌∷◌, ◌++◌, map, refl, sym, ap, ◌∙◌}
use Rattle.value_core.specs.declared.ty.Ty.{Ty}
use Rattle.value_core.specs.declared.ty.Ty.TheVariants as image
use Rattle.value_core.specs.Combs.{comb}
use Rattle.ligo_typer.specs.declared.source_type.SrcTy.{SrcTy}
use Rattle.ligo_typer.specs.declared.source_type.SrcTy.TheVariants as variant
use Rattle.ligo_typer.specs.declared.source_type.SrcTy.TheOpen as one
use Rattle.ligo_typer.specs.declared.source_type.SrcTy.TheFolds.{fold-roll-SrcTy}
use Rattle.ligo_typer.specs.declared.source_type.SrcTy.TheShapes.{former-SrcTy-Variant-0-at-3}
use Rattle.ligo_typer.specs.Image.{case_image, comb_from, field_image, image_level, part_image, right_comb, ty_image}

each_of_all : {A B C : Type 0} (f : B → C) (g : A → B) (h : A → C) → ((a : A) → f (g a) ≡ h a) → (as' : List A) → map f (map g as') ≡ map h as'
each_of_all f g h same [] = refl
each_of_all f g h same (a ∷ as') = λ i. same a i ∷ each_of_all f g h same as' i

pub image_record : (fs : List (List ℕ × SrcTy)) → ty_image (variant.Record fs) ≡ right_comb image.Pair (map field_image fs)
image_record fs = ap ty_image (sym (variant.rolls-Record fs))
    ∙ (fold-roll-SrcTy Ty image_level (one.Record fs) ∙ ap (right_comb image.Pair) (each_of_all _ _ field_image (λ f. refl) fs))

case_same : (c : List ℕ × Option SrcTy) → part_image (former-SrcTy-Variant-0-at-3.map SrcTy Ty ty_image c).1 ≡ case_image c
case_same (word, None) = refl
case_same (word, Some t) = refl

pub image_variant : (cs : List (List ℕ × Option SrcTy)) → ty_image (variant.Variant cs) ≡ right_comb image.Or (map case_image cs)
image_variant cs = ap ty_image (sym (variant.rolls-Variant cs))
    ∙ (fold-roll-SrcTy Ty image_level (one.Variant cs) ∙ ap (right_comb image.Or) (each_of_all _ _ case_image case_same cs))

module _ (join : Ty → Ty → Ty) where
  from_end : (t : Ty) (ts : List Ty) (last : Ty) → comb_from join t (ts ++ last ∷ []) ≡ comb join (t ∷ ts) last
  from_end t [] last = refl
  from_end t (u ∷ us) last = ap (join t) (from_end u us last)

  -- the last stands for all that is joined behind the others
  pub right_comb-end : (ts : List Ty) (last : Ty) → right_comb join (ts ++ last ∷ []) ≡ comb join ts last
  right_comb-end [] last = refl
  right_comb-end (t ∷ ts) last = from_end t ts last

  pub comb-end : (ts : List Ty) (t last : Ty) → comb join (ts ++ t ∷ []) last ≡ comb join ts (join t last)
  comb-end [] t last = refl
  comb-end (u ∷ us) t last = ap (join u) (comb-end us t last)
