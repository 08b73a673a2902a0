-- What is told of a place, and of one that it stands in; and the first kind, step by step.
use Rattle.std.proofs.Common.{◌≡◌, ℕ, Bool, true, false, suc, ◌<◌, List, [], ◌∷◌, Option, None, Some, refl, sym, subst, ◌∙◌, arith}
use Rattle.michelson_code.specs.declared.type_fault.TypeKind.{TypeKind}
use Rattle.michelson_code.specs.FirstFault.{kind_number}
use Rattle.michelson_code.proofs.FaultOnce.{Order, is_above, is_below, is_same, order_of, same_number}
use Rattle.michelson_typer.specs.declared.fault.TypeRefusal.{TypeRefusal}
use Rattle.michelson_typer.specs.declared.fault.TypeRefusal.TheVariants.{Fault, NoMemory}
use Rattle.michelson_typer.specs.FirstKinds.{RulesOut}
use Rattle.michelson_typer.specs.Told.{IsBehind, IsTold, told}

pub clash : (b : Bool) → b ≡ true → b ≡ false → ⊥
clash b one_way other = cc

-- ---- tests

pub ruled_in : (Holds : Type 0) (b : Bool) → b ≡ false → RulesOut b Holds → Holds
ruled_in Holds true is out = absurd (clash true refl is)
ruled_in Holds false is out = out

pub ruled_out : (Holds : Type 0) (b : Bool) → b ≡ true → RulesOut b Holds → Holds → ⊥
ruled_out Holds true is out = out
ruled_out Holds false is out = absurd (clash false is refl)

-- ---- what is told

-- what is told holds, by its place and kind
abbrev HoldsAt : (List ℕ → TypeKind → Type 0) → Option (List ℕ × TypeKind) → Type 0
HoldsAt Holds None = Unit {0}
HoldsAt Holds (Some f) = Holds f.0 f.1

at_told : (Holds : List ℕ → TypeKind → Type 0) (r : TypeRefusal) → IsTold Holds r → HoldsAt Holds (told r)
at_told Holds (Fault f) h = h
at_told Holds NoMemory h = tt

pub here_told : (Holds : List ℕ → TypeKind → Type 0) (r : TypeRefusal) (k : TypeKind) → told r ≡ Some ([], k) → Holds [] k → IsTold Holds r
here_told Holds (Fault f) k is holds = subst (HoldsAt Holds) (sym is) holds
here_told Holds NoMemory k is holds = tt

pub inside_told : (Holds Further : List ℕ → TypeKind → Type 0) (number : ℕ) (refusal r : TypeRefusal) → IsTold Holds refusal →
    ((path : List ℕ) (k : TypeKind) → Holds path k → Further (number ∷ path) k) →
    IsTold (IsBehind number (λ rest k. told refusal ≡ Some (rest, k))) r → IsTold Further r
inside_told Holds Further number refusal (Fault f) held further h =
    subst (λ (path : List ℕ). Further path f.kind) (sym h.place) (further h.rest f.kind (subst (HoldsAt Holds) h.holds (at_told Holds refusal held)))
inside_told Holds Further number refusal NoMemory held further h = tt

pub told_weaker : (Holds Further : List ℕ → TypeKind → Type 0) (r : TypeRefusal) → ((path : List ℕ) (k : TypeKind) → Holds path k → Further path k) → IsTold Holds r → IsTold Further r
told_weaker Holds Further (Fault f) weaker h = weaker f.path.items f.kind h
told_weaker Holds Further NoMemory weaker h = tt

-- want of memory is told freely
pub told_none : (Holds : List ℕ → TypeKind → Type 0) (r : TypeRefusal) → r ≡ NoMemory → IsTold Holds r
told_none Holds r is = subst (IsTold Holds) (sym is) tt

-- ---- the first kind

module _ (Holds : TypeKind → Type 0) where
  -- no kind before a number holds
  abbrev pub NoneUpTo : ℕ → Type 0
  NoneUpTo m = (j : TypeKind) → kind_number j < m → Holds j → ⊥

  pub none_yet : NoneUpTo 0
  none_yet j less holds = absurd (omega arith)

  pub one_more : (m : ℕ) (k : TypeKind) → NoneUpTo m → kind_number k ≡ m → (Holds k → ⊥) → NoneUpTo (suc m)
  one_more m k none is never j less = go (order_of (kind_number j) m)
    where
      go : Order (kind_number j) m → Holds j → ⊥
      go (is_below low) holds = none j low holds
      go (is_above high) holds = absurd (omega arith)
      go (is_same same) holds = never (subst Holds (same_number j k (same ∙ sym is)) holds)
