-- Of faults in parts that stand one after another, the first one in the parts is the first of all.
use Rattle.std.proofs.Common.{◌≡◌, ℕ, zero, suc, ◌⊎◌, inl, inr, List, [], ◌∷◌, Option, None, Some, refl, sym, ap, arith}
use Rattle.std.specs.Prelude.{IsSomeAnd, slice_get}
use Rattle.data_nodes.specs.FirstFault.{IsBefore, IsFirstOf, Place}
use Rattle.michelson_reader.specs.CodeFaults.{first_found}

-- where none is told no fault stands, and the one that is told is the first
abbrev pub Tells : {F : Type 0} → (Place → F → Type 0) → Option F → Type 0
Tells {F} Stands None = (p : Place) (f : F) → Stands p f → ⊥
Tells Stands (Some f) = IsFirstOf Stands f

-- it is the same, or stands before
abbrev IsFirstBeside : {F : Type 0} → Place → F → Place → F → Type 0
IsFirstBeside p f q g = ((p ≡ q) × (f ≡ g)) ⊎ IsBefore p q

abbrev further : Place → Place
further [] = []
further (i ∷ p) = suc i ∷ p

-- faults here at the first part, and later at the others
module _ {F : Type 0} (Here Later Both : Place → F → Type 0)
    (root : (f : F) → Both [] f → ⊥)
    (here : (p : Place) (f : F) → Both (zero ∷ p) f → Here p f)
    (later : (i : ℕ) (p : Place) (f : F) → Both (suc i ∷ p) f → Later (i ∷ p) f)
  where
    none_in_both : ((p : Place) (f : F) → Here p f → ⊥) → ((p : Place) (f : F) → Later p f → ⊥) → (p : Place) (f : F) → Both p f → ⊥
    none_in_both none others [] f s = root f s
    none_in_both none others (zero ∷ p) f s = none p f (here p f s)
    none_in_both none others (suc i ∷ p) f s = others (i ∷ p) f (later i p f s)

    behind_first : (f : F) (h : IsFirstOf Here f) (q : Place) (g : F) → Both q g → IsFirstBeside (zero ∷ h.0) f q g
    behind_first f h [] g s = absurd (root g s)
    behind_first f h (zero ∷ q) g s = elim (h.2 q g (here q g s)) [
      | inl same ↦ inl (ap (λ (p : Place). zero ∷ p) same.0, same.1)
      | inr before ↦ inr (inr (refl, before))
    ]
    behind_first f h (suc j ∷ q) g s = inr (inl (omega arith))

    behind_later : (i : ℕ) (p : Place) (f : F) → ((q : Place) (g : F) → Later q g → IsFirstBeside (i ∷ p) f q g) → ((q : Place) (g : F) → Here q g → ⊥) →
        (q : Place) (g : F) → Both q g → IsFirstBeside (suc i ∷ p) f q g
    behind_later i p f first none [] g s = absurd (root g s)
    behind_later i p f first none (zero ∷ q) g s = absurd (none q g (here q g s))
    behind_later i p f first none (suc j ∷ q) g s = elim (first (j ∷ q) g (later j q g s)) [
      | inl same ↦ inl (ap further same.0, same.1)
      | inr before ↦ elim before [ inl lt ↦ inr (inl (omega (arith, lt))) | inr same ↦ inr (inr (ap suc same.0, same.1)) ]
    ]

    module _ (raised : (p : Place) (f : F) → Here p f → Both (zero ∷ p) f) (pushed : (i : ℕ) (p : Place) (f : F) → Later (i ∷ p) f → Both (suc i ∷ p) f) (rootless : (f : F) → Later [] f → ⊥) where
      -- the first one here is the first of both
      pub first_here : (f : F) → IsFirstOf Here f → IsFirstOf Both f
      first_here f h = (zero ∷ h.0, raised h.0 f h.1, λ q g s. behind_first f h q g s)

      first_later : (p : Place) (f : F) → Later p f → ((q : Place) (g : F) → Later q g → IsFirstBeside p f q g) → ((q : Place) (g : F) → Here q g → ⊥) → IsFirstOf Both f
      first_later [] f s first none = absurd (rootless f s)
      first_later (i ∷ p) f s first none = (suc i ∷ p, pushed i p f s, behind_later i p f first none)

      -- where none stands here, the first one later is
      pub told_later : (o : Option F) → ((p : Place) (f : F) → Here p f → ⊥) → Tells Later o → Tells Both o
      told_later None none told = none_in_both none told
      told_later (Some f) none told = first_later told.0 f told.1 told.2 none

      pub told_in_turn : (o : Option F) (os : List (Option F)) → Tells Here o → (o ≡ None → Tells Later (first_found os)) → Tells Both (first_found (o ∷ os))
      told_in_turn None os told rest = told_later (first_found os) told (rest refl)
      told_in_turn (Some f) os told rest = first_here f told

-- ---- parts in a list

module _ {F X : Type 0} (Stands : X → Place → F → Type 0) where
  -- the fault stands in one of the parts
  abbrev pub InParts : List X → Place → F → Type 0
  InParts xs [] f = ⊥
  InParts xs (i ∷ p) f = IsSomeAnd (slice_get xs i) (λ x. Stands x p f)

  pub no_part : (p : Place) (f : F) → InParts [] p f → ⊥
  no_part [] f h = h
  no_part (i ∷ p) f h = h

  pub first_part_told : (x : X) (xs : List X) (o : Option F) (os : List (Option F)) → Tells (Stands x) o → (o ≡ None → Tells (InParts xs) (first_found os)) →
      Tells (InParts (x ∷ xs)) (first_found (o ∷ os))
  first_part_told x xs o os told rest =
      told_in_turn (Stands x) (InParts xs) (InParts (x ∷ xs)) (λ f s. s) (λ p f s. s) (λ i p f s. s) (λ p f s. s) (λ i p f s. s) (λ f s. s) o os told rest

-- ---- a node by itself, and then its parts

module _ {F : Type 0} (Stands : Place → F → Type 0) where
  only_root : (f : F) → ((g : F) → Stands [] g → f ≡ g) → (q : Place) (g : F) → Stands q g → IsFirstBeside [] f q g
  only_root f only [] g s = inl (refl, only g s)
  only_root f only (j ∷ q) g s = inr tt

  -- a fault of the node itself is told first
  pub told_itself : (f : F) → Stands [] f → ((g : F) → Stands [] g → f ≡ g) → Tells Stands (Some f)
  told_itself f s only = ([], s, λ q g t. only_root f only q g t)

  module _ (Inside : Place → F → Type 0) (none : (f : F) → Stands [] f → ⊥) (rootless : (f : F) → Inside [] f → ⊥)
      (raised : (i : ℕ) (p : Place) (f : F) → Inside (i ∷ p) f → Stands (i ∷ p) f) (lowered : (i : ℕ) (p : Place) (f : F) → Stands (i ∷ p) f → Inside (i ∷ p) f)
    where
      inside_of : (p : Place) (f : F) → Stands p f → Inside p f
      inside_of [] f s = absurd (none f s)
      inside_of (i ∷ p) f s = lowered i p f s

      outside_of : (p : Place) (f : F) → Inside p f → Stands p f
      outside_of [] f s = absurd (rootless f s)
      outside_of (i ∷ p) f s = raised i p f s

      -- in a node that isn't faulty itself its parts tell
      pub told_inside : (o : Option F) → Tells Inside o → Tells Stands o
      told_inside None told = λ p f s. told p f (inside_of p f s)
      told_inside (Some f) told = (told.0, outside_of told.0 f told.1, λ q g s. told.2 q g (inside_of q g s))

-- ---- one first fault

not_both : (p q : Place) → IsBefore p q → IsBefore q p → ⊥
not_both [] [] h k = h
not_both [] (j ∷ q) h k = k
not_both (i ∷ p) [] h k = h
not_both (i ∷ p) (j ∷ q) h k = elim h [
  | inl lt ↦ elim k [ inl gt ↦ omega (arith, lt, gt) | inr same ↦ omega (arith, lt, same.0) ]
  | inr same ↦ elim k [ inl gt ↦ omega (arith, gt, same.0) | inr other ↦ not_both p q same.1 other.1 ]
]

module _ {F : Type 0} (Stands : Place → F → Type 0) where
  pub one_first : (f g : F) → IsFirstOf Stands f → IsFirstOf Stands g → f ≡ g
  one_first f g h k = elim (h.2 k.0 g k.1) [
    | inl same ↦ same.1
    | inr before ↦ elim (k.2 h.0 f h.1) [ inl same ↦ sym same.1 | inr other ↦ absurd (not_both h.0 k.0 before other) ]
  ]

  -- the first fault is the one that is told
  pub told_first : (o : Option F) (f : F) → Tells Stands o → IsFirstOf Stands f → o ≡ Some f
  told_first None f told h = absurd (told h.0 f h.1)
  told_first (Some g) f told h = ap (λ (x : F). Some x) (one_first g f told h)
