-- The text that is printed for a script is a text of it.
use Rattle.std.proofs.Common.{◌≡◌, ℕ, true, inl, List, [], ◌∷◌, map, Result, Ok, Err, refl, ap, sym, subst, ◌∙◌}
use Rattle.std.specs.Prelude.{codes, IfOk, IsTrue}
use Rattle.std.proofs.lemmas.Bool.{and_parts}
use Rattle.micheline_text.specs.declared.node.Node.{Node}
use Rattle.micheline_text.specs.Again.{unplaced}
use Rattle.michelson_code.specs.declared.script.Script.{Script}
use Rattle.data_nodes.specs.Nodes.{applied}
use Rattle.data_nodes.proofs.Unplaced.{same_answer}
use Rattle.michelson_reader.specs.Code.{is_code}
use Rattle.michelson_reader.specs.Entries.{entries_of}
use Rattle.michelson_reader.specs.Lines.{AreThreeLines}
use Rattle.michelson_reader.specs.Types.{is_type}
use Rattle.michelson_reader.specs.Script.{AreSections, IsParameter, IsScriptOf, IsSection, unbraced}
use Rattle.michelson_reader.specs.Printed.{code_node, code_section, parameter_node, parameter_section, script_text, storage_section, type_node}
use Rattle.michelson_code.specs.Lawful.{is_lawful_script}
use Rattle.michelson_code.specs.Printable.{IsPrintableScript}
use Rattle.michelson_reader.proofs.JoinedTexts.{lines_again}
use Rattle.michelson_reader.proofs.PrintedCode.{code_is_written}
use Rattle.michelson_reader.proofs.PrintedNames.{names_are_found}
use Rattle.michelson_reader.proofs.PrintedTypes.{parameter_is_written, type_is_written}
use Rattle.michelson_reader.proofs.UnplacedCode.{is_code-unplaced}
use Rattle.michelson_reader.proofs.SoundScript.{code_whole, parameter_whole, storage_whole, three_lines}
use Rattle.michelson_reader.proofs.UnplacedTypes.{entries_of-unplaced, is_type-unplaced, section_alike}

-- a node that differs from a printed section in its places alone
section_read : (name : List ℕ) (Holds : Node → Type 0) (x m : Node) → unplaced m ≡ unplaced (applied name (x ∷ [])) → ((y : Node) → unplaced y ≡ unplaced x → Holds y) → IsSection name Holds m
section_read name Holds x m same holds = let s = section_alike name x m same in (s.0, s.1, s.2, holds s.1 s.3)

parameter_read_again : (s : Script) → is_lawful_script s ≡ true → IsPrintableScript s → (y : Node) → unplaced y ≡ unplaced (parameter_node s.param s.names) → IsParameter s.param s.names y
parameter_read_again s lawful p y same = (
  same_answer (is_type s.param) (is_type-unplaced s.param) y (parameter_node s.param s.names) same ∙ parameter_is_written s.param s.names,
  sym (entries_of-unplaced y) ∙ ap entries_of same ∙ entries_of-unplaced (parameter_node s.param s.names) ∙ names_are_found s.param s.names (and_parts _ _ lawful).0 p.names,
)

storage_read_again : (s : Script) (y : Node) → unplaced y ≡ unplaced (type_node s.storage) → IsTrue (is_type s.storage y)
storage_read_again s y same = same_answer (is_type s.storage) (is_type-unplaced s.storage) y (type_node s.storage) same ∙ type_is_written s.storage

code_read_again : (s : Script) → is_lawful_script s ≡ true → IsPrintableScript s → (y : Node) → unplaced y ≡ unplaced (code_node s.code) → IsTrue (is_code s.code y)
code_read_again s lawful p y same = same_answer (is_code s.code) (is_code-unplaced s.code) y (code_node s.code) same ∙ code_is_written s.code (and_parts _ _ lawful).1 p.instructions

sections_again : (s : Script) → is_lawful_script s ≡ true → IsPrintableScript s → (ns : List Node) → map unplaced ns ≡ map unplaced (parameter_section s ∷ storage_section s ∷ code_section s ∷ []) → AreSections (unbraced ns) s
sections_again s lawful p [] same = absurd cc
sections_again s lawful p (a ∷ []) same = absurd cc
sections_again s lawful p (a ∷ b ∷ []) same = absurd cc
sections_again s lawful p (a ∷ b ∷ c ∷ []) same =
    let first : unplaced a ≡ unplaced (parameter_section s) = cc in
    let second : unplaced b ≡ unplaced (storage_section s) = cc in
    let third : unplaced c ≡ unplaced (code_section s) = cc in
    record {
      parameter = a;
      storage = b;
      code = c;
      order = inl refl;
      is_parameter = section_read (codes "parameter") (IsParameter s.param s.names) (parameter_node s.param s.names) a first (parameter_read_again s lawful p);
      is_storage = section_read (codes "storage") (λ x. IsTrue (is_type s.storage x)) (type_node s.storage) b second (storage_read_again s);
      has_code = section_read (codes "code") (λ x. IsTrue (is_code s.code x)) (code_node s.code) c third (code_read_again s lawful p);
    }
sections_again s lawful p (a ∷ b ∷ c ∷ d ∷ more) same = absurd cc

-- a lawful script that is printable is printed as a text of it
pub script-again : (s : Script) → is_lawful_script s ≡ true → IsPrintableScript s → IsScriptOf (script_text s) s
script-again s lawful p =
    let read = lines_again (parameter_section s) (storage_section s ∷ code_section s ∷ [])
    (parameter_whole s lawful p).printable ((storage_whole s lawful p).printable, ((code_whole s lawful p).printable, tt)) in
    (read.0, read.1, sections_again s lawful p read.0 read.2)

-- so is an answer with such bytes, if it is one
pub answer_read_again : {A E : Type 0} (items : A → List ℕ) (r : Result A E) (s : Script) → is_lawful_script s ≡ true → IfOk r (λ a. items a ≡ script_text s) →
    IfOk r (λ a. IsPrintableScript s → IsScriptOf (items a) s)
answer_read_again items (Ok a) s lawful is = λ p. subst (λ (x : List ℕ). IsScriptOf x s) (sym is) (script-again s lawful p)
answer_read_again items (Err e) s lawful is = tt

-- and it is three lines
pub answer_in_lines : {A E : Type 0} (items : A → List ℕ) (r : Result A E) (s : Script) → is_lawful_script s ≡ true → IfOk r (λ a. items a ≡ script_text s) →
    IfOk r (λ a. IsPrintableScript s → AreThreeLines (items a))
answer_in_lines items (Ok a) s lawful is = λ p. subst AreThreeLines (sym is) (three_lines s lawful p)
answer_in_lines items (Err e) s lawful is = tt
