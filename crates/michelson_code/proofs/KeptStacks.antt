-- Stacks that are kept: whether one is, whether each start of the bodies is, and that bodies which are typed begin on such.
use Rattle.std.proofs.Common.{◌≡◌, ℕ, ◌+◌, ◌<◌, ◌≤◌, Bool, true, false, List, [], ◌∷◌, length, inl, inr, refl, subst, arith}
use Rattle.std.specs.Prelude.{◌⊎◌}
use Rattle.std.specs.List.{list_all}
use Rattle.std.proofs.lemmas.Bool.{cases_lt}
use Rattle.value_core.specs.declared.ty.Ty.{Ty}
use Rattle.michelson_code.specs.declared.instr.Instr.{Instr}
use Rattle.michelson_code.specs.declared.script.Script.{Script}
use Rattle.michelson_code.specs.FirstFault.{HasTooLarge, IsStart, IsTooTall, StartsKept}
use Rattle.michelson_code.specs.Typing.{BodiesTyped, IsKept, Outcome, Start, no_body, one_body}
use Rattle.michelson_code.specs.WrittenTypes.{is_within_limits}
use Rattle.michelson_code.proofs.AppendLaws.{start_kept}
use Rattle.michelson_code.proofs.DecidedCounts.{both_decided, less_decided}
use Rattle.michelson_code.proofs.Deciding.{Decided}

-- ---- tests

pub is_false : (b : Bool) → Decided (b ≡ false)
is_false true = inr (λ e. cc)
is_false false = inl refl

pub not_false : (b : Bool) → (b ≡ false → ⊥) → b ≡ true
not_false true never = refl
not_false false never = absurd (never refl)

pub not_more : (m n : ℕ) → (n < m → ⊥) → m ≤ n
not_more m n never = elim (cases_lt n m) [ inl more ↦ absurd (never more) | inr most ↦ most ]

-- ---- stacks that are kept

pub tall_decided : (n : ℕ) (u : List Ty) → Decided (IsTooTall n u)
tall_decided n u = less_decided 128 (n + length u)

pub large_decided : (n : ℕ) (u : List Ty) → Decided (HasTooLarge n u)
large_decided n u = is_false (list_all is_within_limits u)

pub kept_by : (n : ℕ) (u : List Ty) → (IsTooTall n u → ⊥) → (HasTooLarge n u → ⊥) → IsKept n u
kept_by n u low small = record { height = not_more (n + length u) 128 low; types = not_false (list_all is_within_limits u) small }

kept_decided : (n : ℕ) (u : List Ty) → Decided (IsKept n u)
kept_decided n u = go (tall_decided n u) (large_decided n u)
  where
    go : Decided (IsTooTall n u) → Decided (HasTooLarge n u) → Decided (IsKept n u)
    go (inl tall) large = inr (λ kept. let height = kept.height in omega arith)
    go (inr low) (inl large) = inr (λ kept. let types : list_all is_within_limits u ≡ true = kept.types in cc)
    go (inr low) (inr small) = inl (kept_by n u low small)

pub starts_decided : (n : ℕ) (st : List Start) → Decided (StartsKept n st)
starts_decided n [] = inl tt
starts_decided n (y ∷ ys) = both_decided (kept_decided (n + y.0) y.1) (starts_decided n ys)

pub starts_kept_by : (n : ℕ) (st : List Start) → ((y : Start) → IsStart y st → IsKept (n + y.0) y.1) → StartsKept n st
starts_kept_by n [] each = tt
starts_kept_by n (y ∷ ys) each = (each y (inl refl), starts_kept_by n ys (λ z is. each z (inr is)))

pub bodies_kept : (s : Script) (n : ℕ) (cs : List (List Instr)) (st : List Start) (es : List Outcome) → BodiesTyped s n cs st es → StartsKept n st
bodies_kept s n cs st es (no_body n') = tt
bodies_kept s n cs st es (one_body n' c more start starts e ends typed rest) =
    (start_kept s (n + start.0) c start.1 e typed, bodies_kept s n more starts ends rest)

-- none of the starts is so, or some is
pub some_start : (F : Start → Type 0) → ((y : Start) → Decided (F y)) → (st : List Start) → ((y : Start) → IsStart y st → F y → ⊥) ⊎ ((y : Start) × (IsStart y st × F y))
some_start F test [] = inl (λ y is. absurd is)
some_start F test (y ∷ ys) = go (test y) (some_start F test ys)
  where
    none_of : (F y → ⊥) → ((z : Start) → IsStart z ys → F z → ⊥) → (z : Start) → IsStart z (y ∷ ys) → F z → ⊥
    none_of not none z (inl same) f = not (subst F same f)
    none_of not none z (inr is) f = none z is f

    go : Decided (F y) → ((z : Start) → IsStart z ys → F z → ⊥) ⊎ ((z : Start) × (IsStart z ys × F z)) →
        ((z : Start) → IsStart z (y ∷ ys) → F z → ⊥) ⊎ ((z : Start) × (IsStart z (y ∷ ys) × F z))
    go (inl f) rest = inr (y, (inl refl, f))
    go (inr not) (inr more) = inr (more.0, (inr more.1.0, more.1.1))
    go (inr not) (inl none) = inl (none_of not none)
