-- What is read of nodes as a script is the script that they are written for.
use Rattle.std.proofs.Common.{◌≡◌, ◌⊎◌, inl, inr, ℕ, Bool, true, false, List, [], ◌∷◌, Option, None, Some, Ok, refl, ap, sym, subst, ◌∙◌}
use Rattle.std.specs.Prelude.{◌↔◌, IsTrue, codes}
use Rattle.std.specs.Str.{bytes_eq}
use Rattle.std.proofs.lemmas.Slice.Eq.{bytes_eq-Decides}
use Rattle.value_core.specs.declared.ty.Ty.{Ty}
use Rattle.micheline_text.specs.declared.node.Node.{Node}
use Rattle.micheline_text.specs.declared.node.Body.{Body}
use Rattle.micheline_text.specs.declared.node.Body.TheVariants as variant
use Rattle.micheline_text.specs.declared.node.Body.TheVariants.{rolls-Prim}
use Rattle.micheline_text.specs.declared.node.Body.TheOpen as body
use Rattle.micheline_text.specs.declared.node.Body.TheOpen.{Body-F}
use Rattle.micheline_text.specs.declared.node.Body.TheViews.{out-Body, roll-Body}
use Rattle.michelson_code.specs.declared.instr.Instr.{Instr}
use Rattle.michelson_code.specs.declared.script.Script.{Script}
use Rattle.data_nodes.proofs.NodeLevels.{shows_prim}
use Rattle.michelson_reader.specs.Code.{is_code}
use Rattle.michelson_reader.specs.CodeFaults.{code_read}
use Rattle.michelson_reader.specs.Script.{AreInAnyOrder, AreSections, IsParameter, IsSection, unbraced}
use Rattle.michelson_reader.specs.ScriptFaults.{Parameter, Sections, all_three, once, parameter_read, script_read, section, section_body, sections}
use Rattle.michelson_reader.specs.TypeFaults.{Read, then_read, type_read}
use Rattle.michelson_reader.specs.Types.{is_type}
use Rattle.michelson_reader.proofs.NodeInduction.{roll-out}
use Rattle.michelson_reader.proofs.ParameterLaws.{parameter-read}
use Rattle.michelson_reader.proofs.ReadLemmas.{read_first, same_read}
use Rattle.michelson_reader.proofs.TypeLaws.{type-read}

abbrev ParameterSection : Parameter → Node → Type 0
ParameterSection p = IsSection (codes "parameter") (IsParameter p.0 p.1)

abbrev StorageSection : Ty → Node → Type 0
StorageSection t = IsSection (codes "storage") (λ x. IsTrue (is_type t x))

abbrev CodeSection : List Instr → Node → Type 0
CodeSection c = IsSection (codes "code") (λ x. IsTrue (is_code c x))

abbrev filled : Option Parameter → Option Ty → Option (List Instr) → Sections
filled p t c = record { parameter = p; storage = t; code = c }

abbrev script : Parameter → Ty → List Instr → Script
script p t c = record { param = p.0; names = p.1; storage = t; code = c }

-- what stands behind a node
abbrev step : Node → Sections → Read Sections
step n s = section_body n.at (out-Body n.body) s

-- ---- one section

is_prim : (n : Node) (name : List ℕ) (notes : List (List ℕ)) (args : List Node) → out-Body n.body ≡ body.Prim name notes args → n.body ≡ variant.Prim name notes args
is_prim n name notes args shown = sym (roll-out n.body) ∙ ap roll-Body shown ∙ rolls-Prim name notes args

step_shown : (n : Node) (name : List ℕ) (Holds : Node → Type 0) (s : Sections) (is : IsSection name Holds n) → step n s ≡ section n.at name (is.1 ∷ []) s
step_shown n name Holds s is = ap (λ (b : Body-F Body Node). section_body n.at b s) (ap out-Body is.2 ∙ shows_prim name is.0 (is.1 ∷ []))

-- one argument that was read once
once_read : {A : Type 0} (at : ℕ) (before : Option A) (args : List Node) (read : Node → Read A) (a : A) → once at before args read ≡ Ok a →
    (before ≡ None) × ((x : Node) × (args ≡ x ∷ []) × (read x ≡ Ok a))
once_read at None [] read a e = absurd cc
once_read at None (x ∷ []) read a e = (refl, (x, refl, e))
once_read at None (x ∷ y ∷ more) read a e = absurd cc
once_read at (Some b) args read a e = absurd cc

module _ (code-read : (n : Node) (c : List Instr) → (code_read n ≡ Ok c) ↔ IsTrue (is_code c n)) where
  -- ---- what a section adds

  parameter_step : (n : Node) (p : Parameter) (t : Option Ty) (c : Option (List Instr)) → ParameterSection p n → step n (filled None t c) ≡ Ok (filled (Some p) t c)
  parameter_step n p t c is =
      let read = (parameter-read is.1 p.0 p.1).1 is.3 in
      step_shown n (codes "parameter") (IsParameter p.0 p.1) (filled None t c) is ∙ ap (λ (r : Read Parameter). then_read r (λ p. Ok (filled (Some p) t c))) read

  storage_step : (n : Node) (p : Option Parameter) (t : Ty) (c : Option (List Instr)) → StorageSection t n → step n (filled p None c) ≡ Ok (filled p (Some t) c)
  storage_step n p t c is =
      let read = (type-read is.1 t).1 is.3 in
      step_shown n (codes "storage") (λ x. IsTrue (is_type t x)) (filled p None c) is ∙ ap (λ (r : Read Ty). then_read r (λ t. Ok (filled p (Some t) c))) read

  code_step : (n : Node) (p : Option Parameter) (t : Option Ty) (c : List Instr) → CodeSection c n → step n (filled p t None) ≡ Ok (filled p t (Some c))
  code_step n p t c is =
      let read = (code-read is.1 c).1 is.3 in
      step_shown n (codes "code") (λ x. IsTrue (is_code c x)) (filled p t None) is ∙ ap (λ (r : Read (List Instr)). then_read r (λ c. Ok (filled p t (Some c)))) read

  -- one of the three, which wasn't there before
  abbrev Adds : Node → Option Parameter → Option Ty → Option (List Instr) → Sections → Type 0
  Adds n p t c s =
      ((p ≡ None) × ((v : Parameter) × ParameterSection v n × (filled (Some v) t c ≡ s)))
      ⊎ (((t ≡ None) × ((v : Ty) × StorageSection v n × (filled p (Some v) c ≡ s)))
      ⊎ ((c ≡ None) × ((v : List Instr) × CodeSection v n × (filled p t (Some v) ≡ s))))

  module _ (n : Node) (p : Option Parameter) (t : Option Ty) (c : Option (List Instr)) (s : Sections) where
    by_parameter : (notes : List (List ℕ)) (args : List Node) → out-Body n.body ≡ body.Prim (codes "parameter") notes args →
        then_read (once n.at p args parameter_read) (λ v. Ok (filled (Some v) t c)) ≡ Ok s → Adds n p t c s
    by_parameter notes args shown e =
        let read = read_first (λ v. Ok (filled (Some v) t c)) (once n.at p args parameter_read) s e in
        let one = once_read n.at p args parameter_read read.0 read.1 in
        let is = is_prim n (codes "parameter") notes args shown ∙ ap (λ (l : List Node). variant.Prim (codes "parameter") notes l) one.1.1 in
        inl (
          one.0,
          (
            read.0,
            (notes, one.1.0, is, (parameter-read one.1.0 read.0.0 read.0.1).0 one.1.2),
            same_read (filled (Some read.0) t c) s (Ok (filled (Some read.0) t c)) refl read.2,
          ),
        )

    by_storage : (notes : List (List ℕ)) (args : List Node) → out-Body n.body ≡ body.Prim (codes "storage") notes args →
        then_read (once n.at t args type_read) (λ v. Ok (filled p (Some v) c)) ≡ Ok s → Adds n p t c s
    by_storage notes args shown e =
        let read = read_first (λ v. Ok (filled p (Some v) c)) (once n.at t args type_read) s e in
        let one = once_read n.at t args type_read read.0 read.1 in
        let is = is_prim n (codes "storage") notes args shown ∙ ap (λ (l : List Node). variant.Prim (codes "storage") notes l) one.1.1 in
        inr (inl (
          one.0,
          (
            read.0,
            (notes, one.1.0, is, (type-read one.1.0 read.0).0 one.1.2),
            same_read (filled p (Some read.0) c) s (Ok (filled p (Some read.0) c)) refl read.2,
          ),
        ))

    by_code : (notes : List (List ℕ)) (args : List Node) → out-Body n.body ≡ body.Prim (codes "code") notes args →
        then_read (once n.at c args code_read) (λ v. Ok (filled p t (Some v))) ≡ Ok s → Adds n p t c s
    by_code notes args shown e =
        let read = read_first (λ v. Ok (filled p t (Some v))) (once n.at c args code_read) s e in
        let one = once_read n.at c args code_read read.0 read.1 in
        let is = is_prim n (codes "code") notes args shown ∙ ap (λ (l : List Node). variant.Prim (codes "code") notes l) one.1.1 in
        inr (inr (
          one.0,
          (
            read.0,
            (notes, one.1.0, is, (code-read one.1.0 read.0).0 one.1.2),
            same_read (filled p t (Some read.0)) s (Ok (filled p t (Some read.0))) refl read.2,
          ),
        ))

    by_name : (name : List ℕ) (notes : List (List ℕ)) (args : List Node) → out-Body n.body ≡ body.Prim name notes args → section n.at name args (filled p t c) ≡ Ok s → Adds n p t c s
    by_name name notes args shown = by_tests (bytes_eq name (codes "parameter")) refl (bytes_eq name (codes "storage")) refl (bytes_eq name (codes "code")) refl
      where
        named_so : (word : List ℕ) → bytes_eq name word ≡ true → out-Body n.body ≡ body.Prim word notes args
        named_so word h = shown ∙ ap (λ (w : List ℕ). body.Prim w notes args) ((bytes_eq-Decides name word).0 h)

        by_tests : (a : Bool) → bytes_eq name (codes "parameter") ≡ a → (b : Bool) → bytes_eq name (codes "storage") ≡ b → (d : Bool) → bytes_eq name (codes "code") ≡ d →
            section n.at name args (filled p t c) ≡ Ok s → Adds n p t c s
        by_tests true h b i d j e = by_parameter notes args (named_so (codes "parameter") h) (rw h at e)
        by_tests false h true i d j e = by_storage notes args (named_so (codes "storage") i) (rw (h, i) at e)
        by_tests false h false i true j e = by_code notes args (named_so (codes "code") j) (rw (h, i, j) at e)
        by_tests false h false i false j e = absurd (let no = rw (h, i, j) at e in cc)

    step_adds : step n (filled p t c) ≡ Ok s → Adds n p t c s
    step_adds = by_level (out-Body n.body) refl
      where
        by_level : (b : Body-F Body Node) → out-Body n.body ≡ b → section_body n.at b (filled p t c) ≡ Ok s → Adds n p t c s
        by_level (body.Prim name notes args) shown e = by_name name notes args shown e
        by_level _ shown e = absurd cc

  -- ---- the sections that are left

  module _ (end : ℕ) (r : Script) where
    abbrev Reads : Option Parameter → Option Ty → Option (List Instr) → List Node → Type 0
    Reads p t c ns = sections end (filled p t c) ns ≡ Ok r

    -- which section the first of the nodes is, and the others behind it
    by_section : (P : Type 0) (p : Option Parameter) (t : Option Ty) (c : Option (List Instr)) (n : Node) (ns : List Node) → Reads p t c (n ∷ ns) →
        (p ≡ None → (v : Parameter) → ParameterSection v n → Reads (Some v) t c ns → P) →
        (t ≡ None → (v : Ty) → StorageSection v n → Reads p (Some v) c ns → P) →
        (c ≡ None → (v : List Instr) → CodeSection v n → Reads p t (Some v) ns → P) → P
    by_section P p t c n ns e as_parameter as_storage as_code = by_kind (step_adds n p t c first.0 first.1)
      where
        first : (s : Sections) × (step n (filled p t c) ≡ Ok s) × (sections end s ns ≡ Ok r)
        first = read_first (λ s. sections end s ns) (step n (filled p t c)) r e

        then_reads : (s : Sections) → s ≡ first.0 → sections end s ns ≡ Ok r
        then_reads s same = ap (λ (x : Sections). sections end x ns) same ∙ first.2

        by_kind : Adds n p t c first.0 → P
        by_kind (inl a) = as_parameter a.0 a.1.0 a.1.1 (then_reads (filled (Some a.1.0) t c) a.1.2)
        by_kind (inr (inl a)) = as_storage a.0 a.1.0 a.1.1 (then_reads (filled p (Some a.1.0) c) a.1.2)
        by_kind (inr (inr a)) = as_code a.0 a.1.0 a.1.1 (then_reads (filled p t (Some a.1.0)) a.1.2)

    none_left : (p : Parameter) (t : Ty) (c : List Instr) (ns : List Node) → Reads (Some p) (Some t) (Some c) ns → (ns ≡ []) × (script p t c ≡ r)
    none_left p t c [] e = (refl, same_read (script p t c) r (Ok (script p t c)) refl e)
    none_left p t c (n ∷ ns) e = by_section ((n ∷ ns ≡ []) × (script p t c ≡ r)) (Some p) (Some t) (Some c) n ns e
        (λ no v is rest. absurd cc) (λ no v is rest. absurd cc) (λ no v is rest. absurd cc)

    abbrev CodeLeft : Parameter → Ty → List Node → Type 0
    CodeLeft p t ns = (n : Node) × (c : List Instr) × (ns ≡ n ∷ []) × CodeSection c n × (script p t c ≡ r)

    code_left : (p : Parameter) (t : Ty) (ns : List Node) → Reads (Some p) (Some t) None ns → CodeLeft p t ns
    code_left p t [] e = absurd cc
    code_left p t (n ∷ ns) e = by_section (CodeLeft p t (n ∷ ns)) (Some p) (Some t) None n ns e
        (λ no v is rest. absurd cc) (λ no v is rest. absurd cc)
        (λ free c is rest. let none = none_left p t c ns rest in (n, c, ap (λ (l : List Node). n ∷ l) none.0, is, none.1))

    abbrev StorageLeft : Parameter → List Instr → List Node → Type 0
    StorageLeft p c ns = (n : Node) × (t : Ty) × (ns ≡ n ∷ []) × StorageSection t n × (script p t c ≡ r)

    storage_left : (p : Parameter) (c : List Instr) (ns : List Node) → Reads (Some p) None (Some c) ns → StorageLeft p c ns
    storage_left p c [] e = absurd cc
    storage_left p c (n ∷ ns) e = by_section (StorageLeft p c (n ∷ ns)) (Some p) None (Some c) n ns e
        (λ no v is rest. absurd cc)
        (λ free t is rest. let none = none_left p t c ns rest in (n, t, ap (λ (l : List Node). n ∷ l) none.0, is, none.1))
        (λ no v is rest. absurd cc)

    abbrev ParameterLeft : Ty → List Instr → List Node → Type 0
    ParameterLeft t c ns = (n : Node) × (p : Parameter) × (ns ≡ n ∷ []) × ParameterSection p n × (script p t c ≡ r)

    parameter_left : (t : Ty) (c : List Instr) (ns : List Node) → Reads None (Some t) (Some c) ns → ParameterLeft t c ns
    parameter_left t c [] e = absurd cc
    parameter_left t c (n ∷ ns) e = by_section (ParameterLeft t c (n ∷ ns)) None (Some t) (Some c) n ns e
        (λ free p is rest. let none = none_left p t c ns rest in (n, p, ap (λ (l : List Node). n ∷ l) none.0, is, none.1))
        (λ no v is rest. absurd cc) (λ no v is rest. absurd cc)

    -- ---- three sections

    -- nodes for the three sections, in the order of this relation
    sections_are : (p : Parameter) (t : Ty) (c : List Instr) (first second third : Node) (ns : List Node) → AreInAnyOrder first second third ns →
        ParameterSection p first → StorageSection t second → CodeSection c third → script p t c ≡ r → AreSections ns r
    sections_are p t c first second third ns order is_parameter is_storage has_code same = subst (λ (s : Script). AreSections ns s) same (record {
      parameter = first;
      storage = second;
      code = third;
      order = order;
      is_parameter = is_parameter;
      is_storage = is_storage;
      has_code = has_code;
    })

    behind : (n : Node) (ns others : List Node) → ns ≡ others → n ∷ ns ≡ n ∷ others
    behind n ns others e = ap (λ (l : List Node). n ∷ l) e

    -- behind the parameter
    after_parameter : (n : Node) (p : Parameter) (ns : List Node) → ParameterSection p n → Reads (Some p) None None ns → AreSections (n ∷ ns) r
    after_parameter n p [] is e = absurd cc
    after_parameter n p (m ∷ ns) is e = by_section (AreSections (n ∷ m ∷ ns) r) (Some p) None None m ns e
        (λ no v is rest. absurd cc)
        (λ free t is_storage rest. let last = code_left p t ns rest in
        sections_are p t last.1 n m last.0 (n ∷ m ∷ ns) (inl (ap (λ (l : List Node). n ∷ m ∷ l) last.2)) is is_storage last.3 last.4)
        (λ free c has_code rest. let last = storage_left p c ns rest in
        sections_are p last.1 c n last.0 m (n ∷ m ∷ ns) (inr (inl (ap (λ (l : List Node). n ∷ m ∷ l) last.2))) is last.3 has_code last.4)

    after_storage : (n : Node) (t : Ty) (ns : List Node) → StorageSection t n → Reads None (Some t) None ns → AreSections (n ∷ ns) r
    after_storage n t [] is e = absurd cc
    after_storage n t (m ∷ ns) is e = by_section (AreSections (n ∷ m ∷ ns) r) None (Some t) None m ns e
        (λ free p is_parameter rest. let last = code_left p t ns rest in
        sections_are p t last.1 m n last.0 (n ∷ m ∷ ns) (inr (inr (inl (ap (λ (l : List Node). n ∷ m ∷ l) last.2)))) is_parameter is last.3 last.4)
        (λ no v is rest. absurd cc)
        (λ free c has_code rest. let last = parameter_left t c ns rest in
        sections_are last.1 t c last.0 n m (n ∷ m ∷ ns) (inr (inr (inr (inl (ap (λ (l : List Node). n ∷ m ∷ l) last.2))))) last.3 is has_code last.4)

    after_code : (n : Node) (c : List Instr) (ns : List Node) → CodeSection c n → Reads None None (Some c) ns → AreSections (n ∷ ns) r
    after_code n c [] is e = absurd cc
    after_code n c (m ∷ ns) is e = by_section (AreSections (n ∷ m ∷ ns) r) None None (Some c) m ns e
        (λ free p is_parameter rest. let last = storage_left p c ns rest in
        sections_are p last.1 c m last.0 n (n ∷ m ∷ ns) (inr (inr (inr (inr (inl (ap (λ (l : List Node). n ∷ m ∷ l) last.2)))))) is_parameter last.3 is last.4)
        (λ free t is_storage rest. let last = parameter_left t c ns rest in
        sections_are last.1 t c last.0 m n (n ∷ m ∷ ns) (inr (inr (inr (inr (inr (ap (λ (l : List Node). n ∷ m ∷ l) last.2)))))) last.3 is_storage is last.4)
        (λ no v is rest. absurd cc)

    read_are_sections : (ns : List Node) → Reads None None None ns → AreSections ns r
    read_are_sections [] e = absurd cc
    read_are_sections (n ∷ ns) e = by_section (AreSections (n ∷ ns) r) None None None n ns e
        (λ free p is rest. after_parameter n p ns is rest)
        (λ free t is rest. after_storage n t ns is rest)
        (λ free c is rest. after_code n c ns is rest)

  -- three steps, and then the script
  three_steps : (end : ℕ) (s : Sections) (x y z : Node) (first second third : Sections) → step x s ≡ Ok first → step y first ≡ Ok second → step z second ≡ Ok third →
      sections end s (x ∷ y ∷ z ∷ []) ≡ all_three end third.parameter third.storage third.code
  three_steps end s x y z first second third a b c =
      ap (λ (r : Read Sections). then_read r (λ more. sections end more (y ∷ z ∷ []))) a
      ∙ ap (λ (r : Read Sections). then_read r (λ more. sections end more (z ∷ []))) b
      ∙ ap (λ (r : Read Sections). then_read r (λ more. sections end more [])) c

  module _ (end : ℕ) (p : Parameter) (t : Ty) (c : List Instr) (x y z : Node) (is_parameter : ParameterSection p x) (is_storage : StorageSection t y) (has_code : CodeSection c z) where
    in_order : (ns : List Node) → AreInAnyOrder x y z ns → sections end (filled None None None) ns ≡ Ok (script p t c)
    in_order ns (inl e) = ap (sections end (filled None None None)) e ∙ three_steps end _ x y z _ _ _
        (parameter_step x p None None is_parameter) (storage_step y (Some p) t None is_storage) (code_step z (Some p) (Some t) c has_code)
    in_order ns (inr (inl e)) = ap (sections end (filled None None None)) e ∙ three_steps end _ x z y _ _ _
        (parameter_step x p None None is_parameter) (code_step z (Some p) None c has_code) (storage_step y (Some p) t (Some c) is_storage)
    in_order ns (inr (inr (inl e))) = ap (sections end (filled None None None)) e ∙ three_steps end _ y x z _ _ _
        (storage_step y None t None is_storage) (parameter_step x p (Some t) None is_parameter) (code_step z (Some p) (Some t) c has_code)
    in_order ns (inr (inr (inr (inl e)))) = ap (sections end (filled None None None)) e ∙ three_steps end _ y z x _ _ _
        (storage_step y None t None is_storage) (code_step z None (Some t) c has_code) (parameter_step x p (Some t) (Some c) is_parameter)
    in_order ns (inr (inr (inr (inr (inl e))))) = ap (sections end (filled None None None)) e ∙ three_steps end _ z x y _ _ _
        (code_step z None None c has_code) (parameter_step x p None (Some c) is_parameter) (storage_step y (Some p) t (Some c) is_storage)
    in_order ns (inr (inr (inr (inr (inr e))))) = ap (sections end (filled None None None)) e ∙ three_steps end _ z y x _ _ _
        (code_step z None None c has_code) (storage_step y None t (Some c) is_storage) (parameter_step x p (Some t) (Some c) is_parameter)

  -- what is read of nodes as a script is the script that they are written for
  pub script-read : (end : ℕ) (ns : List Node) (s : Script) → (script_read end ns ≡ Ok s) ↔ AreSections (unbraced ns) s
  script-read end ns s = (
    read_are_sections end s (unbraced ns),
    λ are. in_order end (s.param, s.names) s.storage s.code are.parameter are.storage are.code are.is_parameter are.is_storage are.has_code (unbraced ns) are.order,
  )
