-- A node in a role is told by its own fault, or else by the first fault in its parts.
use Rattle.std.proofs.Common.{◌≡◌, ℕ, List, [], ◌∷◌, map, Option, None, Some, Bool, true, false, Ok, Err, refl, sym, ap, subst, ◌∙◌}
use Rattle.std.specs.Prelude.{if◌then◌else◌}
use Rattle.micheline_text.specs.declared.node.Node.{Node}
use Rattle.micheline_text.specs.declared.node.Body.TheViews.{out-Body}
use Rattle.data_nodes.specs.FirstFault.{Place}
use Rattle.michelson_reader.specs.declared.fault.ReadFault.{ReadFault}
use Rattle.michelson_reader.specs.declared.fault.ReadFault.TheVariants as fault
use Rattle.michelson_reader.specs.CodeFaults.{first_found}
use Rattle.michelson_reader.specs.FaultyNodes.{Level, level_fault, word_fault}
use Rattle.michelson_reader.specs.FirstFault.{ArePartsOf, Part, StandsAt, parts_as}
use Rattle.michelson_reader.specs.Roles.{IsFaulty, Role}
use Rattle.michelson_reader.specs.Names.{is_known, is_left_out}
use Rattle.michelson_reader.specs.TypeFaults.{Read, no_form, then_read}
use Rattle.michelson_reader.proofs.FirstAtFault.{fault_in}
use Rattle.michelson_reader.proofs.FirstParts.{InParts, Tells, first_part_told, no_part, told_inside, told_itself}
use Rattle.michelson_reader.proofs.NodeInduction.{Each}

-- the faults of a part
abbrev pub InPart : Part → Place → ReadFault → Type 0
InPart x p f = StandsAt p x.0 x.1 f

-- it is told by what is read of the node
abbrev pub IsToldBy : Role → Node → Option ReadFault → Type 0
IsToldBy role n o = Tells (InPart (role, n)) o

-- ---- nodes one after another

pub each_told : (role : Role) (told : Node → Option ReadFault) (ns : List Node) → Each (λ n. IsToldBy role n (told n)) ns →
    Tells (InParts InPart (parts_as role ns)) (first_found (map told ns))
each_told role told [] h = no_part InPart
each_told role told (n ∷ ns) h = first_part_told InPart (role, n) (parts_as role ns) (told n) (map told ns) h.0 (λ none. each_told role told ns h.1)

-- ---- a node in a role

module _ (role : Role) (n : Node) where
  pub itself_told : (f : ReadFault) → IsFaulty role n f → ((g : ReadFault) → IsFaulty role n g → f ≡ g) → IsToldBy role n (Some f)
  itself_told f s only = told_itself (InPart (role, n)) f s only

  module _ (ps : List Part) (are : ArePartsOf role n ps) (only : (qs : List Part) → ArePartsOf role n qs → qs ≡ ps) where
    lowered : (i : ℕ) (p : Place) (f : ReadFault) → StandsAt (i ∷ p) role n f → InParts InPart ps (i ∷ p) f
    lowered i p f s = subst (λ (qs : List Part). InParts InPart qs (i ∷ p) f) (only s.0 s.1) s.2

    pub parts_told : ((f : ReadFault) → IsFaulty role n f → ⊥) → (o : Option ReadFault) → Tells (InParts InPart ps) o → IsToldBy role n o
    parts_told none o told = told_inside (InPart (role, n)) (InParts InPart ps) none (λ f s. s) (λ i p f s. (ps, are, s)) lowered o told

  -- in a role that is told by the node's word
  module _ (IsOut : Level → Type 0) (makes : (f : ReadFault) → IsOut (out-Body n.body) × (f ≡ level_fault n.at (out-Body n.body)) → IsFaulty role n f)
      (comes : (f : ReadFault) → IsFaulty role n f → IsOut (out-Body n.body) × (f ≡ level_fault n.at (out-Body n.body))) (b : Level) (is : out-Body n.body ≡ b)
    where
      pub level_told : IsOut b → IsToldBy role n (Some (level_fault n.at b))
      level_told out =
          let same : level_fault n.at b ≡ level_fault n.at (out-Body n.body) = sym (ap (level_fault n.at) is) in
          itself_told (level_fault n.at b) (makes (level_fault n.at b) (subst IsOut (sym is) out, same)) (λ g s. same ∙ sym (comes g s).1)

      pub level_sound : (IsOut b → ⊥) → (f : ReadFault) → IsFaulty role n f → ⊥
      level_sound fit f s = fit (subst IsOut is (comes f s).0)

-- ---- words

one_of_three : (A : Type 0) (at : ℕ) (name : List ℕ) (known left : Bool) →
    fault_in {A = A} (if known then Err (fault.Arity at) else if left then Err (fault.LeftOut at name) else Err (fault.UnknownPrim at))
    ≡ Some (if known then fault.Arity at else if left then fault.LeftOut at name else fault.UnknownPrim at)
one_of_three A at name true left = refl
one_of_three A at name false true = refl
one_of_three A at name false false = refl

pub word_told : {A : Type 0} (at : ℕ) (name : List ℕ) (r : Read A) → r ≡ no_form at name → fault_in r ≡ Some (word_fault at name)
word_told {A} at name r is = ap fault_in is ∙ one_of_three A at name (is_known name) (is_left_out name)

-- a word that is known is told as such
pub known_fault : (at : ℕ) (name : List ℕ) → is_known name ≡ true → word_fault at name ≡ fault.Arity at
known_fault at name known = ap (λ (b : Bool). if b then fault.Arity at else if is_left_out name then fault.LeftOut at name else fault.UnknownPrim at) known

-- ---- what was read where nothing is told

pub read_of_none : {A : Type 0} (r : Read A) → fault_in r ≡ None → (a : A) × (r ≡ Ok a)
read_of_none (Ok a) none = (a, refl)
read_of_none (Err f) none = absurd cc

pub one_fault : {A B : Type 0} (r : Read A) (f : A → B) → fault_in (then_read r (λ x. Ok (f x))) ≡ fault_in r
one_fault (Ok x) f = refl
one_fault (Err e) f = refl

pub only_one : {F : Type 0} (o : Option F) → first_found (o ∷ []) ≡ o
only_one None = refl
only_one (Some f) = refl
