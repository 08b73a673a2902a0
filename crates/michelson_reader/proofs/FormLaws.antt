-- The law of a word with its annotations and arguments: an instruction is read of them exactly where they are written for it.
use Rattle.std.proofs.Common.{◌≡◌, ℕ, ◌≤◌, ◌↔◌, Bool, true, false, List, [], ◌∷◌, map, nat_eq, Option, None, Some, Ok, refl, ap, sym, subst, ◌∙◌}
use Rattle.std.specs.Prelude.{IsTrue, codes, if◌then◌else◌}
use Rattle.std.proofs.lemmas.Bool.{and_from, and_parts, eqb-true, false≢true}
use Rattle.std.proofs.lemmas.Slice.Eq.{bytes_eq-Decides}
use Rattle.value_core.specs.declared.ty.Ty.{Ty}
use Rattle.value_core.specs.declared.val.Val.{Val}
use Rattle.value_core.specs.Size.{size_of}
use Rattle.micheline_text.specs.declared.node.Node.{Node}
use Rattle.micheline_text.specs.declared.node.Body.TheOpen as one
use Rattle.micheline_text.specs.declared.node.Body.TheOpen.{Body-F}
use Rattle.michelson_code.specs.declared.instr.Instr.{Instr}
use Rattle.michelson_code.specs.declared.instr.Instr.TheVariants as instr
use Rattle.michelson_code.specs.declared.instr.Instr.TheVariants.{rolls-Push}
use Rattle.michelson_code.specs.declared.instr.Instr.TheOpen as of
use Rattle.michelson_code.specs.declared.instr.Instr.TheOpen.{Instr-F}
use Rattle.michelson_code.specs.declared.instr.Instr.TheViews.{out-Instr, roll-Instr, roll-out-Instr}
use Rattle.data_nodes.specs.Data.{IsData}
use Rattle.data_nodes.specs.Faults.{data_read}
use Rattle.data_nodes.specs.Nodes.{all_are}
use Rattle.michelson_reader.specs.Code.{is_code, is_entry, is_form_body, is_instruction, is_operand}
use Rattle.michelson_reader.specs.CodeFaults.{applied, code_read, entry, instruction_read, number, pushed, reader}
use Rattle.michelson_code.specs.Forms.{Form, Operand, ANumber, AType, SomeData, ACode, form_at, form_of}
use Rattle.michelson_code.specs.Levels.{form_map, operand_map}
use Rattle.michelson_reader.specs.TypeFaults.{then_read, type_read}
use Rattle.michelson_reader.specs.Types.{is_type}
use Rattle.michelson_reader.proofs.CodeLevels.{same_node, test_of}
use Rattle.michelson_reader.proofs.NodeInduction.{Each}
use Rattle.michelson_reader.proofs.OperandLaws.{entry-read, number-read, pushed-read}
use Rattle.michelson_reader.proofs.ReadLemmas.{no_form-fails, read_both, read_first}
use Rattle.michelson_reader.proofs.WordLaws.{alone_of, one_of, two_of, Alone, Plain, AnEntry, NotAlone, AloneForms, One, WithNumber, WithType, WithBody, WithEntry, NotWithOne, OneForms, Two, WithData, WithTypes, WithNumberAndBody, WithBodies, NotWithTwo, TwoForms, entering, formed, alone_forms, one_forms, two_forms, made_alone, made_of_one, made_of_two, made_of, IsMadeOrPushed, each_is_made}
use Rattle.michelson_reader.proofs.WordReads.{read_alone, read_one, read_two, alone-is, one-is, two-is}

-- ---- what is written for an instruction

-- the operands are written in the nodes
abbrev IsBehind : List (Operand Instr) → List Node → Type 0
IsBehind operands nodes = all_are (map is_operand (map (operand_map is_instruction) operands)) nodes ≡ true

abbrev Is : Operand Instr → Node → Type 0
Is o n = is_operand (operand_map is_instruction o) n ≡ true

-- a word with its annotations and arguments is written for the instruction
abbrev pub IsWritten : List ℕ → List (List ℕ) → List Node → Instr → Type 0
IsWritten name notes args i = is_form_body (test_of i) (one.Prim name notes args) ≡ true

written : (name : List ℕ) (notes : List (List ℕ)) (args : List Node) (i : Instr) (f : Form Instr) →
    form_of i ≡ f → name ≡ f.word → is_entry f.entry notes ≡ true → IsBehind f.operands args → IsWritten name notes args i
written name notes args i f is same fit behind =
    ap (λ (g : Form Instr). is_form_body (form_map is_instruction g) (one.Prim name notes args)) is
    ∙ and_from _ _ (and_from _ _ ((bytes_eq-Decides name f.word).1 same) fit) behind

behind_one : (o : Operand Instr) (x : Node) → Is o x → IsBehind (o ∷ []) (x ∷ [])
behind_one o x is = and_from _ _ is refl

behind_two : (o p : Operand Instr) (x y : Node) → Is o x → Is p y → IsBehind (o ∷ p ∷ []) (x ∷ y ∷ [])
behind_two o p x y first second = and_from _ _ first (and_from _ _ second refl)

-- ---- a node, by the laws of types and of data

-- what is read of a node is what it is written for
pub record CodeLaw (n : Node) : Type 0 where
  pub instruction : (i : Instr) → (instruction_read n ≡ Ok i) ↔ IsTrue (is_instruction i n)
  pub code : (c : List Instr) → (code_read n ≡ Ok c) ↔ IsTrue (is_code c n)

module _
    (type-read : (n : Node) (t : Ty) → (type_read n ≡ Ok t) ↔ IsTrue (is_type t n))
    (data-read : (n : Node) (t : Ty) (v : Val) → (data_read t n ≡ Ok v) ↔ (IsData t n v × (size_of v ≤ 4096)))
  where
    -- ---- an operand

    number_law : (at least k : ℕ) (x : Node) → (number at least (reader x).node ≡ Ok k) ↔ Is (ANumber least k) x
    number_law at least k x = subst (λ (n : Node). (number at least n ≡ Ok k) ↔ Is (ANumber least k) x) (sym (same_node x)) (number-read at least k x)

    type_law : (t : Ty) (x : Node) → (type_read (reader x).node ≡ Ok t) ↔ Is (AType t) x
    type_law t x = subst (λ (n : Node). (type_read n ≡ Ok t) ↔ Is (AType t) x) (sym (same_node x)) (type-read x t)

    data_law : (t : Ty) (v : Val) (x : Node) → (pushed t (reader x).node ≡ Ok v) ↔ Is (SomeData t v) x
    data_law t v x = subst (λ (n : Node). (pushed t n ≡ Ok v) ↔ Is (SomeData t v) x) (sym (same_node x)) (pushed-read data-read t v x)

    code_law : (c : List Instr) (x : Node) → CodeLaw x → ((reader x).code ≡ Ok c) ↔ Is (ACode c) x
    code_law c x law = law.code c

    -- ---- what is read is written

    alone_written : (at : ℕ) (name : List ℕ) (notes : List (List ℕ)) (i : Instr) (k : Alone) → AloneForms name k →
        read_alone at name notes k ≡ Ok i → IsWritten name notes [] i
    alone_written at name notes i (Plain j) forms h =
        let same : j ≡ i = cc in
        written name notes [] i (formed j name []) (ap form_of (sym same) ∙ forms) refl refl refl
    alone_written at name notes i AnEntry forms h =
        let e = read_first (λ e. Ok (instr.SelfEntry e)) (entry at notes) i h in
        let same : instr.SelfEntry e.0 ≡ i = cc in
        written name notes [] i (entering (instr.SelfEntry e.0) name e.0 []) (ap form_of (sym same) ∙ forms e.0) refl ((entry-read at e.0 notes).0 e.1) refl
    alone_written at name notes i NotAlone forms h = absurd (no_form-fails at name i h)

    one_written : (at : ℕ) (name : List ℕ) (notes : List (List ℕ)) (x : Node) (i : Instr) (k : One) → CodeLaw x → OneForms name k →
        read_one at name notes (reader x) k ≡ Ok i → IsWritten name notes (x ∷ []) i
    one_written at name notes x i (WithNumber least make) law forms h =
        let n = read_first (λ n. Ok (make n)) (number at least (reader x).node) i h in
        let same : make n.0 ≡ i = cc in
        written name notes (x ∷ []) i (formed (make n.0) name (ANumber least n.0 ∷ [])) (ap form_of (sym same) ∙ forms n.0) refl refl
        (behind_one (ANumber least n.0) x ((number_law at least n.0 x).0 n.1))
    one_written at name notes x i (WithType make) law forms h =
        let t = read_first (λ t. Ok (make t)) (type_read (reader x).node) i h in
        let same : make t.0 ≡ i = cc in
        written name notes (x ∷ []) i (formed (make t.0) name (AType t.0 ∷ [])) (ap form_of (sym same) ∙ forms t.0) refl refl
        (behind_one (AType t.0) x ((type_law t.0 x).0 t.1))
    one_written at name notes x i (WithBody make) law forms h =
        let c = read_first (λ c. Ok (make c)) (reader x).code i h in
        let same : make c.0 ≡ i = cc in
        written name notes (x ∷ []) i (formed (make c.0) name (ACode c.0 ∷ [])) (ap form_of (sym same) ∙ forms c.0) refl refl
        (behind_one (ACode c.0) x ((code_law c.0 x law).0 c.1))
    one_written at name notes x i WithEntry law forms h =
        let e = read_first (λ e. then_read (type_read (reader x).node) (λ t. Ok (instr.Contract e t))) (entry at notes) i h in
        let t = read_first (λ t. Ok (instr.Contract e.0 t)) (type_read (reader x).node) i e.2 in
        let same : instr.Contract e.0 t.0 ≡ i = cc in
        written name notes (x ∷ []) i (entering (instr.Contract e.0 t.0) name e.0 (AType t.0 ∷ [])) (ap form_of (sym same) ∙ forms e.0 t.0) refl
        ((entry-read at e.0 notes).0 e.1) (behind_one (AType t.0) x ((type_law t.0 x).0 t.1))
    one_written at name notes x i NotWithOne law forms h = absurd (no_form-fails at name i h)

    two_written : (at : ℕ) (name : List ℕ) (notes : List (List ℕ)) (x y : Node) (i : Instr) (k : Two) → CodeLaw x → CodeLaw y → TwoForms name k →
        read_two at name (reader x) (reader y) k ≡ Ok i → IsWritten name notes (x ∷ y ∷ []) i
    two_written at name notes x y i WithData law next forms h =
        let t = read_first (λ t. then_read (pushed t (reader y).node) (λ v. Ok (instr.Push t v))) (type_read (reader x).node) i h in
        let v = read_first (λ v. Ok (instr.Push t.0 v)) (pushed t.0 (reader y).node) i t.2 in
        let same : instr.Push t.0 v.0 ≡ i = cc in
        written name notes (x ∷ y ∷ []) i (formed (instr.Push t.0 v.0) name (AType t.0 ∷ SomeData t.0 v.0 ∷ [])) (ap form_of (sym same) ∙ forms t.0 v.0) refl refl
        (behind_two (AType t.0) (SomeData t.0 v.0) x y ((type_law t.0 x).0 t.1) ((data_law t.0 v.0 y).0 v.1))
    two_written at name notes x y i WithTypes law next forms h =
        let k = read_first (λ k. then_read (type_read (reader y).node) (λ v. Ok (instr.EmptyMap k v))) (type_read (reader x).node) i h in
        let v = read_first (λ v. Ok (instr.EmptyMap k.0 v)) (type_read (reader y).node) i k.2 in
        let same : instr.EmptyMap k.0 v.0 ≡ i = cc in
        written name notes (x ∷ y ∷ []) i (formed (instr.EmptyMap k.0 v.0) name (AType k.0 ∷ AType v.0 ∷ [])) (ap form_of (sym same) ∙ forms k.0 v.0) refl refl
        (behind_two (AType k.0) (AType v.0) x y ((type_law k.0 x).0 k.1) ((type_law v.0 y).0 v.1))
    two_written at name notes x y i WithNumberAndBody law next forms h =
        let n = read_first (λ n. then_read (reader y).code (λ c. Ok (instr.DipN n c))) (number at 0 (reader x).node) i h in
        let c = read_first (λ c. Ok (instr.DipN n.0 c)) (reader y).code i n.2 in
        let same : instr.DipN n.0 c.0 ≡ i = cc in
        written name notes (x ∷ y ∷ []) i (formed (instr.DipN n.0 c.0) name (ANumber 0 n.0 ∷ ACode c.0 ∷ [])) (ap form_of (sym same) ∙ forms n.0 c.0) refl refl
        (behind_two (ANumber 0 n.0) (ACode c.0) x y ((number_law at 0 n.0 x).0 n.1) ((code_law c.0 y next).0 c.1))
    two_written at name notes x y i (WithBodies make) law next forms h =
        let c = read_first (λ c. then_read (reader y).code (λ d. Ok (make c d))) (reader x).code i h in
        let d = read_first (λ d. Ok (make c.0 d)) (reader y).code i c.2 in
        let same : make c.0 d.0 ≡ i = cc in
        written name notes (x ∷ y ∷ []) i (formed (make c.0 d.0) name (ACode c.0 ∷ ACode d.0 ∷ [])) (ap form_of (sym same) ∙ forms c.0 d.0) refl refl
        (behind_two (ACode c.0) (ACode d.0) x y ((code_law c.0 x law).0 c.1) ((code_law d.0 y next).0 d.1))
    two_written at name notes x y i NotWithTwo law next forms h = absurd (no_form-fails at name i h)

    pub applied_written : (at : ℕ) (name : List ℕ) (notes : List (List ℕ)) (args : List Node) (i : Instr) → Each CodeLaw args →
        applied at name notes (map reader args) ≡ Ok i → IsWritten name notes args i
    applied_written at name notes [] i laws h = alone_written at name notes i (alone_of name) (alone_forms name) (sym (alone-is at name notes) ∙ h)
    applied_written at name notes (x ∷ []) i laws h = one_written at name notes x i (one_of name) laws.0 (one_forms name) (sym (one-is at name notes (reader x)) ∙ h)
    applied_written at name notes (x ∷ y ∷ []) i laws h =
        two_written at name notes x y i (two_of name) laws.0 laws.1.0 (two_forms name) (sym (two-is at name (reader x) (reader y)) ∙ h)
    applied_written at name notes (x ∷ y ∷ z ∷ more) i laws h = absurd (no_form-fails at name i h)

    -- ---- what is written is read

    alone_read : (at : ℕ) (name : List ℕ) (notes : List (List ℕ)) (i : Instr) (k : Alone) (e : Option (Option (List ℕ))) →
        made_alone k e ≡ Some i → is_entry e notes ≡ true → read_alone at name notes k ≡ Ok i
    alone_read at name notes i (Plain j) None made fit = cc
    alone_read at name notes i AnEntry (Some e) made fit = read_both (λ e. Ok (instr.SelfEntry e)) (entry at notes) e i ((entry-read at e notes).1 fit) (cc)
    alone_read at name notes i k e made fit = cc

    number_made : (from least : ℕ) (j i : Instr) → (if nat_eq from least then Some j else None) ≡ Some i → (from ≡ least) × (j ≡ i)
    number_made from least j i made = by (nat_eq from least) refl made
      where
        by : (b : Bool) → nat_eq from least ≡ b → (if b then Some j else None) ≡ Some i → (from ≡ least) × (j ≡ i)
        by true e made = (eqb-true from least e, cc)
        by false e made = cc

    one_read : (at : ℕ) (name : List ℕ) (notes : List (List ℕ)) (x : Node) (i : Instr) (k : One) (e : Option (Option (List ℕ))) (o : Operand Instr) → CodeLaw x →
        made_of_one k e o ≡ Some i → is_entry e notes ≡ true → Is o x → read_one at name notes (reader x) k ≡ Ok i
    one_read at name notes x i (WithNumber from make) None (ANumber least n) law made fit is =
        let same = number_made from least (make n) i made in
        read_both (λ n. Ok (make n)) (number at from (reader x).node) n i ((number_law at from n x).1 (ap (λ l. is_operand (ANumber l n) x) same.0 ∙ is)) (ap (λ j. Ok j) same.1)
    one_read at name notes x i (WithType make) None (AType t) law made fit is =
        read_both (λ t. Ok (make t)) (type_read (reader x).node) t i ((type_law t x).1 is) (cc)
    one_read at name notes x i (WithBody make) None (ACode c) law made fit is =
        read_both (λ c. Ok (make c)) (reader x).code c i ((code_law c x law).1 is) (cc)
    one_read at name notes x i WithEntry (Some e) (AType t) law made fit is =
        read_both (λ e. then_read (type_read (reader x).node) (λ t. Ok (instr.Contract e t))) (entry at notes) e i ((entry-read at e notes).1 fit)
        (read_both (λ t. Ok (instr.Contract e t)) (type_read (reader x).node) t i ((type_law t x).1 is) (cc))
    one_read at name notes x i k e o law made fit is = cc

    two_read : (at : ℕ) (name : List ℕ) (notes : List (List ℕ)) (x y : Node) (i : Instr) (k : Two) (e : Option (Option (List ℕ))) (o p : Operand Instr) → CodeLaw x → CodeLaw y →
        made_of_two k e o p ≡ Some i → Is o x → Is p y → read_two at name (reader x) (reader y) k ≡ Ok i
    two_read at name notes x y i WithTypes None (AType k) (AType v) law next made first second =
        read_both (λ k. then_read (type_read (reader y).node) (λ v. Ok (instr.EmptyMap k v))) (type_read (reader x).node) k i ((type_law k x).1 first)
        (read_both (λ v. Ok (instr.EmptyMap k v)) (type_read (reader y).node) v i ((type_law v y).1 second) (cc))
    two_read at name notes x y i WithNumberAndBody None (ANumber least n) (ACode c) law next made first second =
        let same = number_made 0 least (instr.DipN n c) i made in
        read_both (λ n. then_read (reader y).code (λ c. Ok (instr.DipN n c))) (number at 0 (reader x).node) n i ((number_law at 0 n x).1 (ap (λ l. is_operand (ANumber l n) x) same.0 ∙ first))
        (read_both (λ c. Ok (instr.DipN n c)) (reader y).code c i ((code_law c y next).1 second) (ap (λ j. Ok j) same.1))
    two_read at name notes x y i (WithBodies make) None (ACode c) (ACode d) law next made first second =
        read_both (λ c. then_read (reader y).code (λ d. Ok (make c d))) (reader x).code c i ((code_law c x law).1 first)
        (read_both (λ d. Ok (make c d)) (reader y).code d i ((code_law d y next).1 second) (cc))
    two_read at name notes x y i k e o p law next made first second = cc

    operands_read : (at : ℕ) (name : List ℕ) (notes : List (List ℕ)) (i : Instr) (e : Option (Option (List ℕ))) (operands : List (Operand Instr)) (args : List Node) → Each CodeLaw args →
        made_of name e operands ≡ Some i → is_entry e notes ≡ true → IsBehind operands args → applied at name notes (map reader args) ≡ Ok i
    operands_read at name notes i e [] [] laws made fit behind = alone-is at name notes ∙ alone_read at name notes i (alone_of name) e made fit
    operands_read at name notes i e [] (x ∷ args) laws made fit behind = cc
    operands_read at name notes i e (o ∷ []) [] laws made fit behind = cc
    operands_read at name notes i e (o ∷ []) (x ∷ []) laws made fit behind =
        one-is at name notes (reader x) ∙ one_read at name notes x i (one_of name) e o laws.0 made fit (and_parts _ _ behind).0
    operands_read at name notes i e (o ∷ []) (x ∷ y ∷ more) laws made fit behind = absurd (false≢true (and_parts _ false behind).1)
    operands_read at name notes i e (o ∷ p ∷ []) [] laws made fit behind = cc
    operands_read at name notes i e (o ∷ p ∷ []) (x ∷ []) laws made fit behind = absurd (false≢true (and_parts _ false behind).1)
    operands_read at name notes i e (o ∷ p ∷ []) (x ∷ y ∷ []) laws made fit behind =
        let parts = and_parts _ _ behind in
        two-is at name (reader x) (reader y) ∙ two_read at name notes x y i (two_of name) e o p laws.0 laws.1.0 made parts.0 (and_parts _ _ parts.1).0
    operands_read at name notes i e (o ∷ p ∷ []) (x ∷ y ∷ z ∷ more) laws made fit behind = absurd (false≢true (and_parts _ false (and_parts _ _ behind).1).1)
    operands_read at name notes i e (o ∷ p ∷ q ∷ others) args laws made fit behind = cc

    pushed_read : (at : ℕ) (notes : List (List ℕ)) (t : Ty) (v : Val) (args : List Node) → Each CodeLaw args →
        IsBehind (AType t ∷ SomeData t v ∷ []) args → applied at (codes "PUSH") notes (map reader args) ≡ Ok (instr.Push t v)
    pushed_read at notes t v [] laws behind = cc
    pushed_read at notes t v (x ∷ []) laws behind = absurd (false≢true (and_parts _ false behind).1)
    pushed_read at notes t v (x ∷ y ∷ []) laws behind =
        let parts = and_parts _ _ behind in
        read_both (λ t. then_read (pushed t (reader y).node) (λ v. Ok (instr.Push t v))) (type_read (reader x).node) t (instr.Push t v) ((type_law t x).1 parts.0)
        (read_both (λ v. Ok (instr.Push t v)) (pushed t (reader y).node) v (instr.Push t v) ((data_law t v y).1 (and_parts _ _ parts.1).0) refl)
    pushed_read at notes t v (x ∷ y ∷ z ∷ more) laws behind = absurd (false≢true (and_parts _ false (and_parts _ _ behind).1).1)

    form_read : (at : ℕ) (notes : List (List ℕ)) (args : List Node) (x : Instr-F Instr) → Each CodeLaw args → IsMadeOrPushed x →
        is_entry (form_at x).entry notes ≡ true → IsBehind (form_at x).operands args → applied at (form_at x).word notes (map reader args) ≡ Ok (roll-Instr x)
    form_read at notes args (of.Push t v) laws made fit behind = pushed_read at notes t v args laws behind ∙ ap (λ i. Ok i) (sym (rolls-Push t v))
    form_read at notes args x laws made fit behind = operands_read at (form_at x).word notes (roll-Instr x) (form_at x).entry (form_at x).operands args laws made fit behind

    pub applied_read : (at : ℕ) (name : List ℕ) (notes : List (List ℕ)) (args : List Node) (i : Instr) → Each CodeLaw args →
        IsWritten name notes args i → applied at name notes (map reader args) ≡ Ok i
    applied_read at name notes args i laws h =
        let parts = and_parts _ _ h in
        let word = and_parts _ _ parts.0 in
        ap (λ (w : List ℕ). applied at w notes (map reader args)) ((bytes_eq-Decides name (form_of i).word).0 word.0)
        ∙ form_read at notes args (out-Instr i) laws (each_is_made (out-Instr i)) word.1 parts.1
        ∙ ap (λ j. Ok j) (roll-out-Instr i)
