-- What is read part by part is told by the first fault in the parts.
use Rattle.std.proofs.Common.{◌≡◌, ℕ, zero, suc, ◌⊎◌, inl, inr, Bool, true, false, List, [], ◌∷◌, Option, None, Some, Ok, Err, refl, sym, ap, arith}
use Rattle.std.specs.Prelude.{◌&&◌, ◌||◌, IsSomeAnd, if◌then◌else◌, slice_get}
use Rattle.micheline_text.specs.declared.node.Node.{Node}
use Rattle.data_nodes.specs.declared.fault.DataFault.{DataFault}
use Rattle.data_nodes.specs.declared.fault.DataKind.{DataKind}
use Rattle.data_nodes.specs.Readers.{Read, fault, then_read}
use Rattle.data_nodes.specs.FirstFault.{IsBefore, IsFaulty, IsFirstOf, Part, Place, Role, IsFaultAt, parts_of, unless}

-- no fault stands anywhere where a value is read, and the first one is told elsewhere
abbrev pub Told : {A : Type 0} → (Place → DataFault → Type 0) → Read A → Type 0
Told Stands (Ok a) = (p : Place) (f : DataFault) → Stands p f → ⊥
Told Stands (Err f) = IsFirstOf Stands f

-- the fault stands in one of the parts
abbrev pub InParts : List Part → Place → DataFault → Type 0
InParts ps [] f = ⊥
InParts ps (i ∷ p) f = IsSomeAnd (slice_get ps i) (λ x. IsFaultAt p x.0 x.1 f)

pub no_part : (p : Place) (f : DataFault) → InParts [] p f → ⊥
no_part [] f h = h
no_part (i ∷ p) f h = h

-- ---- one part, and then the others

abbrev further : Place → Place
further [] = []
further (i ∷ p) = suc i ∷ p

module _ (x : Part) (ps : List Part) where
  abbrev Here : Place → DataFault → Type 0
  Here p f = IsFaultAt p x.0 x.1 f

  none_in : ((p : Place) (f : DataFault) → Here p f → ⊥) → ((p : Place) (f : DataFault) → InParts ps p f → ⊥) → (p : Place) (f : DataFault) → InParts (x ∷ ps) p f → ⊥
  none_in here others [] f s = s
  none_in here others (zero ∷ p) f s = here p f s
  none_in here others (suc i ∷ p) f s = others (i ∷ p) f s

  behind_first : (f : DataFault) (h : IsFirstOf Here f) (q : Place) (g : DataFault) → InParts (x ∷ ps) q g → ((zero ∷ h.0 ≡ q) × (f ≡ g)) ⊎ IsBefore (zero ∷ h.0) q
  behind_first f h [] g s = absurd s
  behind_first f h (zero ∷ q) g s = elim (h.2 q g s) [
    | inl same ↦ inl (ap (λ (p : Place). zero ∷ p) same.0, same.1)
    | inr before ↦ inr (inr (refl, before))
  ]
  behind_first f h (suc j ∷ q) g s = inr (inl (omega arith))

  first_in : (f : DataFault) → IsFirstOf Here f → IsFirstOf (InParts (x ∷ ps)) f
  first_in f h = (zero ∷ h.0, h.1, λ q g s. behind_first f h q g s)

  abbrev IsBehindAll : Place → DataFault → Type 0
  IsBehindAll p f = (q : Place) (g : DataFault) → InParts ps q g → ((p ≡ q) × (f ≡ g)) ⊎ IsBefore p q

  behind_rest : (i : ℕ) (p : Place) (f : DataFault) → IsBehindAll (i ∷ p) f → ((q : Place) (g : DataFault) → Here q g → ⊥) → (q : Place) (g : DataFault) → InParts (x ∷ ps) q g →
      ((suc i ∷ p ≡ q) × (f ≡ g)) ⊎ IsBefore (suc i ∷ p) q
  behind_rest i p f later none [] g s = absurd s
  behind_rest i p f later none (zero ∷ q) g s = absurd (none q g s)
  behind_rest i p f later none (suc j ∷ q) g s = elim (later (j ∷ q) g s) [
    | inl same ↦ inl (ap further same.0, same.1)
    | inr before ↦ elim before [ inl lt ↦ inr (inl (omega (arith, lt))) | inr same ↦ inr (inr (ap suc same.0, same.1)) ]
  ]

  rest_in : (p : Place) (f : DataFault) → InParts ps p f → IsBehindAll p f → ((q : Place) (g : DataFault) → Here q g → ⊥) → IsFirstOf (InParts (x ∷ ps)) f
  rest_in [] f s later none = absurd s
  rest_in (i ∷ p) f s later none = (suc i ∷ p, s, behind_rest i p f later none)

  behind_told : {B : Type 0} (r : Read B) → ((p : Place) (f : DataFault) → Here p f → ⊥) → Told (InParts ps) r → Told (InParts (x ∷ ps)) r
  behind_told (Ok b) none told = none_in none told
  behind_told (Err f) none told = rest_in told.0 f told.1 told.2 none

  pub then_told : {A B : Type 0} (r : Read A) (rest : A → Read B) → Told Here r → ((a : A) → r ≡ Ok a → Told (InParts ps) (rest a)) → Told (InParts (x ∷ ps)) (then_read r rest)
  then_told (Ok a) rest told more = behind_told (rest a) told (more a refl)
  then_told (Err f) rest told more = first_in f told

pub single_told : {A : Type 0} (x : Part) (r : Read A) → Told (λ p f. IsFaultAt p x.0 x.1 f) r → Told (InParts (x ∷ [])) r
single_told x (Ok a) told = none_in x [] told no_part
single_told x (Err f) told = first_in x [] f told

pub mapped_told : {A B : Type 0} (Stands : Place → DataFault → Type 0) (r : Read A) (f : A → B) → Told Stands r → Told Stands (then_read r (λ a. Ok (f a)))
mapped_told Stands (Ok a) f told = told
mapped_told Stands (Err e) f told = told

-- ---- a node by itself, and then its parts

module _ (role : Role) (n : Node) (own : Option DataKind) (makes : (kind : DataKind) → own ≡ Some kind → IsFaulty role n kind) (comes : (kind : DataKind) → IsFaulty role n kind → own ≡ Some kind) where
  abbrev Stands : Place → DataFault → Type 0
  Stands p f = IsFaultAt p role n f

  only_own : (kind : DataKind) → own ≡ Some kind → (q : Place) (g : DataFault) → Stands q g → (([] ≡ q) × (record { at = n.at; kind = kind } ≡ g)) ⊎ IsBefore [] q
  only_own kind e [] g s =
      let other = comes g.kind s.0 in
      let same : kind ≡ g.kind = cc in
      inl (refl, λ i. record { at = sym s.1 i; kind = same i })
  only_own kind e (j ∷ q) g s = inr tt

  -- a node that is faulty by itself is told first
  pub faulty_told : (kind : DataKind) → own ≡ Some kind → IsFirstOf Stands (record { at = n.at; kind = kind })
  faulty_told kind e = ([], (makes kind e, refl), λ q g s. only_own kind e q g s)

  lifted : (p : Place) (f : DataFault) → InParts (parts_of role n) p f → Stands p f
  lifted [] f s = absurd s
  lifted (i ∷ p) f s = s

  lowered : own ≡ None → (p : Place) (f : DataFault) → Stands p f → InParts (parts_of role n) p f
  lowered e [] f s = let other = comes f.kind s.0 in absurd cc
  lowered e (i ∷ p) f s = s

  -- in a node that isn't, its parts tell
  pub sound_told : {A : Type 0} (r : Read A) → own ≡ None → Told (InParts (parts_of role n)) r → Told Stands r
  sound_told (Ok a) e told = λ p f s. told p f (lowered e p f s)
  sound_told (Err f) e told = (told.0, lifted told.0 f told.1, λ q g s. told.2 q g (lowered e q g s))

  pub guarded_told : {A : Type 0} (good : Bool) (kind : DataKind) (r : Read A) → own ≡ unless good kind → (good ≡ true → Told (InParts (parts_of role n)) r) →
      Told Stands (if good then r else fault kind n.at)
  guarded_told true kind r e told = sound_told r e (told refl)
  guarded_told false kind r e told = faulty_told kind e

  pub both_told : {A : Type 0} (a b : Bool) (kind : DataKind) (r : Read A) → own ≡ unless (a && b) kind → (a ≡ true → b ≡ true → Told (InParts (parts_of role n)) r) →
      Told Stands (if a then if b then r else fault kind n.at else fault kind n.at)
  both_told true true kind r e told = sound_told r e (told refl refl)
  both_told true false kind r e told = faulty_told kind e
  both_told false b kind r e told = faulty_told kind e

  pub either_told : {A : Type 0} (a b : Bool) (kind : DataKind) (x y : Read A) → own ≡ unless (a || b) kind →
      (a ≡ true → Told (InParts (parts_of role n)) x) → (a ≡ false → b ≡ true → Told (InParts (parts_of role n)) y) →
      Told Stands (if a then x else if b then y else fault kind n.at)
  either_told true b kind x y e first second = sound_told x e (first refl)
  either_told false true kind x y e first second = sound_told y e (second refl refl)
  either_told false false kind x y e first second = faulty_told kind e
