-- What is read of nodes as a script is told by its first fault.
use Rattle.std.proofs.Common.{◌≡◌, ◌⊎◌, inl, inr, ℕ, zero, suc, Bool, true, false, List, [], ◌∷◌, length, Option, None, Some, Ok, Err, refl, ap, sym, subst, ◌∙◌, arith}
use Rattle.std.specs.Prelude.{◌&&◌, ◌||◌, not, IsSomeAnd, IsTrue, codes, if◌then◌else◌, is_some, slice_get}
use Rattle.std.specs.Str.{bytes_eq}
use Rattle.std.proofs.lemmas.Slice.Eq.{bytes_eq-Decides}
use Rattle.value_core.specs.declared.ty.Ty.{Ty}
use Rattle.micheline_text.specs.declared.node.Node.{Node}
use Rattle.micheline_text.specs.declared.node.Body.TheOpen as body
use Rattle.micheline_text.specs.declared.node.Body.TheViews.{out-Body}
use Rattle.michelson_code.specs.declared.instr.Instr.{Instr}
use Rattle.michelson_code.specs.declared.script.Script.{Script}
use Rattle.data_nodes.specs.FirstFault.{Place}
use Rattle.michelson_reader.specs.declared.fault.ReadFault.{ReadFault}
use Rattle.michelson_reader.specs.declared.fault.ReadFault.TheVariants as fault
use Rattle.michelson_reader.specs.CodeFaults.{code_read}
use Rattle.michelson_reader.specs.FaultyNodes.{Level}
use Rattle.michelson_reader.specs.FaultySections.{is_at, is_new, is_section_missing, section_fault, stands_in}
use Rattle.michelson_reader.specs.FirstFault.{StandsInScript, parts_as, section_parts, section_role}
use Rattle.michelson_reader.specs.Roles.{AsCode, AsParameter, AsSection, AsType, IsFaulty, Role}
use Rattle.michelson_reader.specs.PushedFault.{nodes_in}
use Rattle.michelson_reader.specs.Script.{unbraced}
use Rattle.michelson_reader.specs.ScriptFaults.{Parameter, Sections, all_three, once, parameter_read, script_read, section_body, sections}
use Rattle.michelson_reader.specs.TypeFaults.{Read, then_read, type_read}
use Rattle.michelson_reader.proofs.FirstAtFault.{fault_in}
use Rattle.michelson_reader.proofs.CodeTold.{code_told}
use Rattle.michelson_reader.proofs.FirstParts.{InParts, Tells, first_here, told_later}
use Rattle.michelson_reader.proofs.ParameterTold.{parameter_told}
use Rattle.michelson_reader.proofs.ReadLemmas.{read_first}
use Rattle.michelson_reader.proofs.RolesTold.{InPart, IsToldBy, each_told, itself_told, one_fault, only_one, parts_told}
use Rattle.michelson_reader.proofs.TypesTold.{type_told}

-- ---- a section by itself

module _ (n : Node) (before : List Node) (b : Level) (is : out-Body n.body ≡ b) where
  own_is : (f : ReadFault) → section_fault n.at before b ≡ Some f → IsFaulty (AsSection before) n f
  own_is f own = ap (section_fault n.at before) is ∙ own

  own_of : (f : ReadFault) → IsFaulty (AsSection before) n f → section_fault n.at before b ≡ Some f
  own_of f s = sym (ap (section_fault n.at before) is) ∙ s

  section_itself : (f : ReadFault) → section_fault n.at before b ≡ Some f → IsToldBy (AsSection before) n (Some f)
  section_itself f own = itself_told (AsSection before) n f (own_is f own) (λ g s. same f g own (own_of g s))
    where
      same : (f g : ReadFault) → section_fault n.at before b ≡ Some f → section_fault n.at before b ≡ Some g → f ≡ g
      same f g first second = cc

  section_inside : section_fault n.at before b ≡ None → (o : Option ReadFault) → Tells (InParts InPart (parts_as (section_role b) (nodes_in b))) o → IsToldBy (AsSection before) n o
  section_inside sound o told =
      let parts : parts_as (section_role (out-Body n.body)) (nodes_in (out-Body n.body)) ≡ parts_as (section_role b) (nodes_in b) =
      ap (λ (c : Level). parts_as (section_role c) (nodes_in c)) is in
      parts_told (AsSection before) n (parts_as (section_role b) (nodes_in b)) (sym parts) (λ qs are. are ∙ parts)
      (λ f s. none f (own_of f s)) o told
    where
      none : (f : ReadFault) → section_fault n.at before b ≡ Some f → ⊥
      none f own = cc

-- another word, or one that stood before
repeated : (at : ℕ) (before : List Node) (name : List ℕ) (notes : List (List ℕ)) (args : List Node) → is_new name before ≡ false →
    section_fault at before (body.Prim name notes args) ≡ Some (fault.Sections at)
repeated at before name notes [] old = ap (λ (b : Bool). if b then Some (fault.Arity at) else Some (fault.Sections at)) old
repeated at before name notes (x ∷ []) old = ap (λ (b : Bool). if b then None else Some (fault.Sections at)) old
repeated at before name notes (x ∷ y ∷ more) old = ap (λ (b : Bool). if b then Some (fault.Arity at) else Some (fault.Sections at)) old

-- ---- a section of each word

module _ {A : Type 0} (n : Node) (before : List Node) (name : List ℕ) (notes : List (List ℕ)) (role : Role) (read : Node → Read A) (k : A → Sections)
    (told : (x : Node) → IsToldBy role x (fault_in (read x))) (role_is : section_role (body.Prim name notes []) ≡ role)
  where
    abbrev ReadOnce : Option A → List Node → Read Sections
    ReadOnce held args = then_read (once n.at held args read) (λ a. Ok (k a))

    one_argument : (x : Node) → out-Body n.body ≡ body.Prim name notes (x ∷ []) → is_new name before ≡ true → IsToldBy (AsSection before) n (fault_in (then_read (read x) (λ a. Ok (k a))))
    one_argument x is new =
        let part : Tells (InParts InPart (parts_as role (x ∷ []))) (fault_in (read x)) =
        subst (Tells (InParts InPart (parts_as role (x ∷ [])))) (only_one (fault_in (read x))) (each_told role (λ m. fault_in (read m)) (x ∷ []) (told x, tt)) in
        subst (IsToldBy (AsSection before) n) (sym (one_fault (read x) k))
        (section_inside n before (body.Prim name notes (x ∷ [])) is (ap (λ (b : Bool). if b then None else Some (fault.Sections n.at)) new) (fault_in (read x))
        (subst (λ (r : Role). Tells (InParts InPart (parts_as r (x ∷ []))) (fault_in (read x))) (sym role_is) part))

    by_arguments : (args : List Node) → out-Body n.body ≡ body.Prim name notes args → is_new name before ≡ true → IsToldBy (AsSection before) n (fault_in (ReadOnce None args))
    by_arguments [] is new =
        section_itself n before (body.Prim name notes []) is (fault.Arity n.at) (ap (λ (b : Bool). if b then Some (fault.Arity n.at) else Some (fault.Sections n.at)) new)
    by_arguments (x ∷ []) is new = one_argument x is new
    by_arguments (x ∷ y ∷ more) is new =
        section_itself n before (body.Prim name notes (x ∷ y ∷ more)) is (fault.Arity n.at) (ap (λ (b : Bool). if b then Some (fault.Arity n.at) else Some (fault.Sections n.at)) new)

    by_held : (args : List Node) → out-Body n.body ≡ body.Prim name notes args → (held : Option A) → is_new name before ≡ not (is_some held) → IsToldBy (AsSection before) n (fault_in (ReadOnce held args))
    by_held args is (Some a) old = section_itself n before (body.Prim name notes args) is (fault.Sections n.at) (repeated n.at before name notes args old)
    by_held args is None new = by_arguments args is new

-- ---- the sections that stood before

record Held (s : Sections) (before : List Node) : Type 0 where
  parameter : is_some s.parameter ≡ stands_in (codes "parameter") before
  storage : is_some s.storage ≡ stands_in (codes "storage") before
  code : is_some s.code ≡ stands_in (codes "code") before

is_word : (name word : List ℕ) → bytes_eq name word ≡ true → word ≡ name
is_word name word same = sym ((bytes_eq-Decides name word).0 same)

abbrev step : ℕ → Level → Sections → Read Sections
step at b s = section_body at b s

module _ (n : Node) (before : List Node) (s : Sections) (held : Held s before) where
  new_parameter : is_new (codes "parameter") before ≡ not (is_some s.parameter)
  new_parameter = ap not (sym held.parameter)

  new_storage : is_new (codes "storage") before ≡ not (is_some s.storage)
  new_storage = ap not (sym held.storage)

  new_code : is_new (codes "code") before ≡ not (is_some s.code)
  new_code = ap not (sym held.code)

  abbrev is_section : Bool → Bool → Bool → Bool
  is_section p q r = p || (q || (r || false))

  -- each word in turn
  by_word : (name : List ℕ) (notes : List (List ℕ)) (args : List Node) → out-Body n.body ≡ body.Prim name notes args →
      (p q r : Bool) → bytes_eq name (codes "parameter") ≡ p → bytes_eq name (codes "storage") ≡ q → bytes_eq name (codes "code") ≡ r →
      IsToldBy (AsSection before) n (fault_in (
      if p then then_read (once n.at s.parameter args parameter_read) (λ a. Ok (record s { parameter = Some a }))
      else if q then then_read (once n.at s.storage args type_read) (λ t. Ok (record s { storage = Some t }))
      else if r then then_read (once n.at s.code args code_read) (λ c. Ok (record s { code = Some c }))
      else Err (fault.Sections n.at)))
  by_word name notes args is true q r a b c =
      let word = is_word name (codes "parameter") a in
      by_held n before name notes AsParameter parameter_read (λ a. record s { parameter = Some a }) parameter_told
      (ap (λ (w : List ℕ). section_role (body.Prim w notes [])) (sym word)) args is s.parameter (ap (λ (w : List ℕ). is_new w before) (sym word) ∙ new_parameter)
  by_word name notes args is false true r a b c =
      let word = is_word name (codes "storage") b in
      by_held n before name notes AsType type_read (λ t. record s { storage = Some t }) type_told
      (ap (λ (w : List ℕ). section_role (body.Prim w notes [])) (sym word)) args is s.storage (ap (λ (w : List ℕ). is_new w before) (sym word) ∙ new_storage)
  by_word name notes args is false false true a b c =
      let word = is_word name (codes "code") c in
      by_held n before name notes AsCode code_read (λ c. record s { code = Some c }) code_told
      (ap (λ (w : List ℕ). section_role (body.Prim w notes [])) (sym word)) args is s.code (ap (λ (w : List ℕ). is_new w before) (sym word) ∙ new_code)
  by_word name notes args is false false false a b c =
      let old : is_new name before ≡ false = λ i. is_section (a i) (b i) (c i) && not (stands_in name before) in
      section_itself n before (body.Prim name notes args) is (fault.Sections n.at) (repeated n.at before name notes args old)

  section_told : (b : Level) → out-Body n.body ≡ b → IsToldBy (AsSection before) n (fault_in (step n.at b s))
  section_told (body.Prim name notes args) is = by_word name notes args is _ _ _ refl refl refl
  section_told (body.Int z) is = section_itself n before (body.Int z) is (fault.Sections n.at) refl
  section_told (body.Text t) is = section_itself n before (body.Text t) is (fault.Sections n.at) refl
  section_told (body.Bytes t) is = section_itself n before (body.Bytes t) is (fault.Sections n.at) refl
  section_told (body.Seq ns) is = section_itself n before (body.Seq ns) is (fault.Sections n.at) refl

  -- ---- what is held behind a section

  abbrev IsWordOf : Level → List ℕ → Bool → Type 0
  IsWordOf b word found = is_at word b ≡ found

  abbrev HeldBehind : Level → Sections → Type 0
  HeldBehind b more =
      (is_some more.parameter ≡ (is_at (codes "parameter") b || stands_in (codes "parameter") before))
      × (is_some more.storage ≡ (is_at (codes "storage") b || stands_in (codes "storage") before))
      × (is_some more.code ≡ (is_at (codes "code") b || stands_in (codes "code") before))

  behind_word : (name : List ℕ) (notes : List (List ℕ)) (args : List Node) (more : Sections) (p q r : Bool) →
      bytes_eq name (codes "parameter") ≡ p → bytes_eq name (codes "storage") ≡ q → bytes_eq name (codes "code") ≡ r →
      (if p then then_read (once n.at s.parameter args parameter_read) (λ a. Ok (record s { parameter = Some a }))
      else if q then then_read (once n.at s.storage args type_read) (λ t. Ok (record s { storage = Some t }))
      else if r then then_read (once n.at s.code args code_read) (λ c. Ok (record s { code = Some c }))
      else Err (fault.Sections n.at)) ≡ Ok more → HeldBehind (body.Prim name notes args) more
  behind_word name notes args more true q r a b c e =
      let read = read_first (λ a. Ok (record s { parameter = Some a })) (once n.at s.parameter args parameter_read) more e in
      let word = is_word name (codes "parameter") a in
      let same : record s { parameter = Some read.0 } ≡ more = cc in
      subst (λ (w : List ℕ). HeldBehind (body.Prim w notes args) more) word
      (subst (HeldBehind (body.Prim (codes "parameter") notes args)) same (refl, held.storage, held.code))
  behind_word name notes args more false true r a b c e =
      let read = read_first (λ t. Ok (record s { storage = Some t })) (once n.at s.storage args type_read) more e in
      let word = is_word name (codes "storage") b in
      let same : record s { storage = Some read.0 } ≡ more = cc in
      subst (λ (w : List ℕ). HeldBehind (body.Prim w notes args) more) word
      (subst (HeldBehind (body.Prim (codes "storage") notes args)) same (held.parameter, refl, held.code))
  behind_word name notes args more false false true a b c e =
      let read = read_first (λ c. Ok (record s { code = Some c })) (once n.at s.code args code_read) more e in
      let word = is_word name (codes "code") c in
      let same : record s { code = Some read.0 } ≡ more = cc in
      subst (λ (w : List ℕ). HeldBehind (body.Prim w notes args) more) word
      (subst (HeldBehind (body.Prim (codes "code") notes args)) same (held.parameter, held.storage, refl))
  behind_word name notes args more false false false a b c e = absurd cc

  behind_level : (b : Level) (more : Sections) → step n.at b s ≡ Ok more → HeldBehind b more
  behind_level (body.Prim name notes args) more e = behind_word name notes args more _ _ _ refl refl refl e
  behind_level (body.Int z) more e = absurd cc
  behind_level (body.Text t) more e = absurd cc
  behind_level (body.Bytes t) more e = absurd cc
  behind_level (body.Seq ns) more e = absurd cc

  held_behind : (more : Sections) → step n.at (out-Body n.body) s ≡ Ok more → Held more (n ∷ before)
  held_behind more e = let are = behind_level (out-Body n.body) more e in record { parameter = are.0; storage = are.1; code = are.2 }

-- ---- all sections

-- the words of all nodes are those of the nodes that are left, and of those before
abbrev AreLeft : List Node → List Node → List Node → Type 0
AreLeft all before ns = (word : List ℕ) → stands_in word all ≡ (stands_in word ns || stands_in word before)

moved : (p q r : Bool) → ((p || q) || r) ≡ (q || (p || r))
moved true true r = refl
moved true false r = refl
moved false q r = refl

module _ (end : ℕ) (all : List Node) where
  -- a fault of the nodes that are left, or a section that is missing
  abbrev IsLeft : List Node → List Node → Place → ReadFault → Type 0
  IsLeft before ns [] f = ⊥
  IsLeft before ns (i ∷ p) f =
      IsSomeAnd (slice_get (section_parts before ns) i) (λ x. InPart x p f)
      ⊎ ((i ≡ length ns) × (p ≡ []) × IsTrue (is_section_missing all) × (f ≡ fault.Sections end))

  next_are_left : (before : List Node) (n : Node) (ns : List Node) → AreLeft all before (n ∷ ns) → AreLeft all (n ∷ before) ns
  next_are_left before n ns left word = left word ∙ moved (is_at word (out-Body n.body)) (stands_in word ns) (stands_in word before)

  module _ (before : List Node) (n : Node) (ns : List Node) where
    at_first : (p : Place) (f : ReadFault) → IsLeft before (n ∷ ns) (zero ∷ p) f → InPart (AsSection before, n) p f
    at_first p f (inl s) = s
    at_first p f (inr missing) = absurd (let none = missing.0 in omega (arith, none))

    at_others : (i : ℕ) (p : Place) (f : ReadFault) → IsLeft before (n ∷ ns) (suc i ∷ p) f → IsLeft (n ∷ before) ns (i ∷ p) f
    at_others i p f (inl s) = inl s
    at_others i p f (inr missing) = inr (let last = missing.0 in omega (arith, last), missing.1, missing.2, missing.3)

    from_others : (i : ℕ) (p : Place) (f : ReadFault) → IsLeft (n ∷ before) ns (i ∷ p) f → IsLeft before (n ∷ ns) (suc i ∷ p) f
    from_others i p f (inl s) = inl s
    from_others i p f (inr missing) = inr (let last = missing.0 in omega (arith, last), missing.1, missing.2, missing.3)

    by_section : (r : Read Sections) (rest : Sections → Read Script) → IsToldBy (AsSection before) n (fault_in r) →
        ((more : Sections) → r ≡ Ok more → Tells (IsLeft (n ∷ before) ns) (fault_in (rest more))) → Tells (IsLeft before (n ∷ ns)) (fault_in (then_read r rest))
    by_section (Ok more) rest told next =
        told_later (InPart (AsSection before, n)) (IsLeft (n ∷ before) ns) (IsLeft before (n ∷ ns)) (λ f s. s) at_first at_others
        (λ p f s. inl s) from_others (λ f s. s) (fault_in (rest more)) told (next more refl)
    by_section (Err f) rest told next =
        first_here (InPart (AsSection before, n)) (IsLeft (n ∷ before) ns) (IsLeft before (n ∷ ns)) (λ f s. s) at_first at_others
        (λ p f s. inl s) from_others (λ f s. s) f told

  -- ---- where no node is left

  module _ (before : List Node) (left : AreLeft all before []) where
    only_missing : (q : Place) (g : ReadFault) → IsLeft before [] q g → (0 ∷ [] ≡ q) × (IsTrue (is_section_missing all) × (g ≡ fault.Sections end))
    only_missing [] g s = absurd s
    only_missing (j ∷ q) g (inl s) = absurd s
    only_missing (j ∷ q) g (inr missing) = ((λ i. sym missing.0 i ∷ sym missing.1 i), (missing.2, missing.3))

    missing_first : IsTrue (is_section_missing all) → Tells (IsLeft before []) (Some (fault.Sections end))
    missing_first missing = (0 ∷ [], inr (refl, refl, missing, refl), λ q g s. let only = only_missing q g s in inl (only.0, sym only.1.1))

    missing_is : (p q r : Bool) → p ≡ stands_in (codes "parameter") before → q ≡ stands_in (codes "storage") before → r ≡ stands_in (codes "code") before →
        is_section_missing all ≡ (not p || (not q || (not r || false)))
    missing_is p q r a b c =
        λ i. not ((left (codes "parameter") ∙ sym a) i) || (not ((left (codes "storage") ∙ sym b) i) || (not ((left (codes "code") ∙ sym c) i) || false))

    end_told : (p : Option Parameter) (t : Option Ty) (c : Option (List Instr)) →
        is_some p ≡ stands_in (codes "parameter") before → is_some t ≡ stands_in (codes "storage") before → is_some c ≡ stands_in (codes "code") before →
        Tells (IsLeft before []) (fault_in (all_three end p t c))
    end_told (Some p) (Some t) (Some c) a b d = λ q g s.
        let missing = (only_missing q g s).1.0 in
        let none = missing_is true true true a b d in
        absurd cc
    end_told None t c a b d = missing_first (missing_is false (is_some t) (is_some c) a b d)
    end_told (Some p) None c a b d = missing_first (missing_is true false (is_some c) a b d)
    end_told (Some p) (Some t) None a b d = missing_first (missing_is true true false a b d)

  left_told : (s : Sections) (before ns : List Node) → Held s before → AreLeft all before ns → Tells (IsLeft before ns) (fault_in (sections end s ns))
  left_told s before [] held left = end_told before left s.parameter s.storage s.code held.parameter held.storage held.code
  left_told s before (n ∷ ns) held left =
      by_section before n ns (section_body n.at (out-Body n.body) s) (λ more. sections end more ns) (section_told n before s held (out-Body n.body) refl)
      (λ more read. left_told more (n ∷ before) ns (held_behind n before s held more read) (next_are_left before n ns left))

or_none : (b : Bool) → b ≡ (b || false)
or_none true = refl
or_none false = refl

-- the fault that is told of nodes as a script is its first one
pub script_told : (end : ℕ) (ns : List Node) → Tells (StandsInScript end (unbraced ns)) (fault_in (script_read end ns))
script_told end ns =
    left_told end (unbraced ns) (record { parameter = None; storage = None; code = None }) [] (unbraced ns) (record { parameter = refl; storage = refl; code = refl })
    (λ word. or_none (stands_in word (unbraced ns)))
