-- The first part that doesn't fit, part by part.
use Rattle.std.proofs.Common.{◌≡◌, ℕ, ◌+◌, ◌<◌, ◌≤◌, Some, None, List, [], ◌∷◌, ◌++◌, map, length, drop, get_or, refl, arith, add-one, drop-cons}
use Rattle.std.proofs.lemmas.List.{drop_all}
use Rattle.std.specs.Prelude.{slice_get}
use Rattle.ligo_syntax.specs.declared.pattern.Pattern.{Pattern}
use Rattle.ligo_typer.specs.declared.source_type.SrcTy.{SrcTy}
use Rattle.ligo_typer.specs.declared.fault.LigoFault.{LigoFault}
use Rattle.ligo_typer.specs.Faults.{Faults}
use Rattle.ligo_typer.specs.Patterns.{each_of, misfits}

pub found : {A : Type 0} (xs ys : List A) (a : A) → slice_get xs 0 ≡ Some a → slice_get (xs ++ ys) 0 ≡ Some a
found [] ys a e = absurd cc
found (x ∷ xs) ys a e = e

pub passed : {A : Type 0} (xs ys : List A) → slice_get xs 0 ≡ None → slice_get (xs ++ ys) 0 ≡ slice_get ys 0
passed [] ys e = refl
passed (x ∷ xs) ys e = absurd cc

-- what the parts from one on don't fit
abbrev pub misfits_from : ℕ → List Pattern → List SrcTy → Faults
misfits_from i ps ts = each_of (map misfits (drop i ps)) (drop i ts)

pub turn : (i : ℕ) (ps : List Pattern) (ts : List SrcTy) (p : Pattern) (t : SrcTy) → i < length ps → i < length ts →
    p ≡ get_or ps i p → t ≡ get_or ts i t → misfits_from i ps ts ≡ misfits p t ++ misfits_from (i + 1) ps ts
turn i ps ts p t within within' is is' = rw (drop-cons ps i p, drop-cons ts i t, ← is, ← is', add-one) refl

no_more : {A : Type 0} (fs : List (SrcTy → List A)) → each_of fs [] ≡ []
no_more [] = refl
no_more (f ∷ fs) = refl

-- nothing is left behind the last part, and behind the last type
pub no_part : (ps : List Pattern) (ts : List SrcTy) → slice_get (misfits_from (length ps) ps ts) 0 ≡ None
no_part ps ts = rw (drop_all (length ps) ps (omega arith)) refl

pub no_type : (i : ℕ) (ps : List Pattern) (ts : List SrcTy) → length ts ≤ i → slice_get (misfits_from i ps ts) 0 ≡ None
no_type i ps ts past = rw (drop_all i ts past, no_more {A = LigoFault} (map misfits (drop i ps))) refl
