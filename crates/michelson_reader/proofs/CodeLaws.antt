-- The law of code: an instruction is read of a node exactly where the node is written for it, and so is code in braces.
use Rattle.std.proofs.Common.{◌≡◌, ℕ, ◌≤◌, ◌↔◌, true, List, [], ◌∷◌, map, Ok, refl, ap, sym, ◌∙◌}
use Rattle.std.specs.Prelude.{IsTrue}
use Rattle.std.proofs.lemmas.Bool.{and_from, and_parts}
use Rattle.value_core.specs.declared.ty.Ty.{Ty}
use Rattle.value_core.specs.declared.val.Val.{Val}
use Rattle.value_core.specs.Size.{size_of}
use Rattle.micheline_text.specs.declared.node.Node.{Node}
use Rattle.micheline_text.specs.declared.node.Body.{Body}
use Rattle.micheline_text.specs.declared.node.Body.TheOpen as one
use Rattle.micheline_text.specs.declared.node.Body.TheOpen.{Body-F}
use Rattle.micheline_text.specs.declared.node.Body.TheViews.{out-Body}
use Rattle.michelson_code.specs.declared.instr.Instr.{Instr}
use Rattle.data_nodes.specs.Data.{IsData}
use Rattle.data_nodes.specs.Faults.{data_read}
use Rattle.data_nodes.specs.Nodes.{all_are, is_sequence_body}
use Rattle.michelson_reader.specs.Code.{is_code, is_form_body, is_instruction}
use Rattle.michelson_reader.specs.CodeFaults.{code_at, code_read, in_order, instruction_at, instruction_read, reader}
use Rattle.michelson_reader.specs.TypeFaults.{then_read, type_read}
use Rattle.michelson_reader.specs.Types.{is_type}
use Rattle.michelson_reader.proofs.CodeLevels.{code_read-level, instruction_read-level, readers, test_of}
use Rattle.michelson_reader.proofs.FormLevels.{is_instruction-level}
use Rattle.michelson_reader.proofs.NodeInduction.{Each, induction, parts_of}
use Rattle.michelson_reader.proofs.ReadLemmas.{no_form-fails, read_both, read_first}
use Rattle.michelson_reader.proofs.FormLaws.{CodeLaw, applied_read, applied_written}

module _
    (type-read : (n : Node) (t : Ty) → (type_read n ≡ Ok t) ↔ IsTrue (is_type t n))
    (data-read : (n : Node) (t : Ty) (v : Val) → (data_read t n ≡ Ok v) ↔ (IsData t n v × (size_of v ≤ 4096)))
  where
    -- ---- each node

    instruction_at_law : (at : ℕ) (b : Body-F Body Node) (i : Instr) → Each CodeLaw (parts_of b) → (instruction_at at (readers b) ≡ Ok i) ↔ (is_form_body (test_of i) b ≡ true)
    instruction_at_law at (one.Prim name notes args) i laws = (applied_written type-read data-read at name notes args i laws, applied_read type-read data-read at name notes args i laws)
    instruction_at_law at (one.Seq nodes) i laws = (λ h. cc, λ h. cc)
    instruction_at_law at (one.Int z) i laws = (λ h. cc, λ h. cc)
    instruction_at_law at (one.Text s) i laws = (λ h. cc, λ h. cc)
    instruction_at_law at (one.Bytes s) i laws = (λ h. cc, λ h. cc)

    read_in_order : (nodes : List Node) (c : List Instr) → Each CodeLaw nodes → in_order (map reader nodes) ≡ Ok c → all_are (map is_instruction c) nodes ≡ true
    read_in_order [] [] laws h = refl
    read_in_order [] (i ∷ c) laws h = cc
    read_in_order (n ∷ nodes) c laws h =
        let first = read_first (λ i. then_read (in_order (map reader nodes)) (λ is. Ok (i ∷ is))) (reader n).instruction c h in
        let more = read_first (λ is. Ok (first.0 ∷ is)) (in_order (map reader nodes)) c first.2 in
        let same : first.0 ∷ more.0 ≡ c = cc in
        ap (λ (l : List Instr). all_are (map is_instruction l) (n ∷ nodes)) (sym same)
        ∙ and_from _ _ ((laws.0.instruction first.0).0 first.1) (read_in_order nodes more.0 laws.1 more.1)

    in_order_read : (nodes : List Node) (c : List Instr) → Each CodeLaw nodes → all_are (map is_instruction c) nodes ≡ true → in_order (map reader nodes) ≡ Ok c
    in_order_read [] [] laws h = refl
    in_order_read [] (i ∷ c) laws h = cc
    in_order_read (n ∷ nodes) [] laws h = cc
    in_order_read (n ∷ nodes) (i ∷ c) laws h =
        let parts = and_parts _ _ h in
        read_both (λ i. then_read (in_order (map reader nodes)) (λ is. Ok (i ∷ is))) (reader n).instruction i (i ∷ c) ((laws.0.instruction i).1 parts.0)
        (read_both (λ is. Ok (i ∷ is)) (in_order (map reader nodes)) c (i ∷ c) (in_order_read nodes c laws.1 parts.1) refl)

    code_at_law : (at : ℕ) (b : Body-F Body Node) (c : List Instr) → Each CodeLaw (parts_of b) → (code_at at (readers b) ≡ Ok c) ↔ (is_sequence_body (map is_instruction c) b ≡ true)
    code_at_law at (one.Seq nodes) c laws = (read_in_order nodes c laws, in_order_read nodes c laws)
    code_at_law at (one.Prim name notes args) c laws = (λ h. absurd (no_form-fails at name c h), λ h. cc)
    code_at_law at (one.Int z) c laws = (λ h. cc, λ h. cc)
    code_at_law at (one.Text s) c laws = (λ h. cc, λ h. cc)
    code_at_law at (one.Bytes s) c laws = (λ h. cc, λ h. cc)

    each_law : (n : Node) → CodeLaw n
    each_law = induction CodeLaw (λ n laws. record {
      instruction = λ i. let at = instruction_at_law n.at (out-Body n.body) i laws in (
        λ h. is_instruction-level i n ∙ at.0 (sym (instruction_read-level n) ∙ h),
        λ h. instruction_read-level n ∙ at.1 (sym (is_instruction-level i n) ∙ h),
      );
      code = λ c. let at = code_at_law n.at (out-Body n.body) c laws in (
        λ h. at.0 (sym (code_read-level n) ∙ h),
        λ h. code_read-level n ∙ at.1 h,
      );
    })

    -- an instruction is read of a node exactly where the node is written for it
    pub instruction-read : (n : Node) (i : Instr) → (instruction_read n ≡ Ok i) ↔ IsTrue (is_instruction i n)
    instruction-read n = (each_law n).instruction

    -- code is read of a node exactly where the node is written for it
    pub code-read : (n : Node) (c : List Instr) → (code_read n ≡ Ok c) ↔ IsTrue (is_code c n)
    code-read n = (each_law n).code
