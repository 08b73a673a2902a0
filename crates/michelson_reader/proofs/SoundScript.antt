-- The sections of a printed script: printable nodes, in three lines of which none is `end`.
use Rattle.std.proofs.Common.{◌≡◌, ◌≢◌, ◌≤◌, ℕ, Bool, true, List, [], ◌∷◌, ◌++◌, map, max, refl, sym, ap, ◌∙◌, arith, append_assoc}
use Rattle.std.specs.Prelude.{codes}
use Rattle.std.specs.List.{flat_map, list_all}
use Rattle.std.proofs.lemmas.Bool.{and_from, and_parts}
use Rattle.std.proofs.lemmas.List.Folds.{list_all-append}
use Rattle.value_core.specs.Depth.{greatest}
use Rattle.micheline_text.specs.declared.node.Node.{Node}
use Rattle.micheline_text.specs.Again.{argument_depth, brackets, is_word}
use Rattle.micheline_text.specs.Fits.{IsPrintable}
use Rattle.micheline_text.specs.Kinds.{is_plain}
use Rattle.micheline_text.specs.Printed.{Print, annotation, argument, print, printed}
use Rattle.micheline_text.proofs.FitDepths.{sound_is_printable}
use Rattle.micheline_text.proofs.PlainTexts.{printed_is_plain}
use Rattle.micheline_text.proofs.PrintLemmas.{print_is, print_prim}
use Rattle.michelson_code.specs.declared.script.Script.{Script}
use Rattle.michelson_code.specs.Brackets.{code_brackets, name_brackets, type_brackets}
use Rattle.michelson_code.specs.Lawful.{is_lawful_script}
use Rattle.michelson_code.specs.Printable.{IsPrintableScript}
use Rattle.data_nodes.specs.Nodes.{applied}
use Rattle.michelson_reader.specs.Lines.{AreThreeLines}
use Rattle.michelson_reader.specs.Printed.{code_node, code_section, parameter_node, parameter_section, script_text, storage_section, type_node}
use Rattle.michelson_reader.proofs.SoundCode.{code_fits}
use Rattle.michelson_reader.proofs.SoundNodes.{Fit, prim_sound}
use Rattle.michelson_reader.proofs.SoundParameter.{parameter_fits}
use Rattle.michelson_reader.proofs.SoundTypes.{type_fits}

-- ---- one section

-- a printable node with a plain text
pub record IsWhole (n : Node) : Type 0 where
  pub printable : IsPrintable n
  pub plain : list_all is_plain (printed n) ≡ true

section_whole : (name : List ℕ) (x : Node) (k : ℕ) → is_word name ≡ true → Fit argument_depth x k → k ≤ 256 → IsWhole (applied name (x ∷ []))
section_whole name x k word fit small =
    let s = prim_sound name [] (x ∷ []) (k ∷ []) word refl (fit, tt) in
    let deep : brackets (applied name (x ∷ [])) ≡ max k 0 = ap (λ (d : ℕ × Bool). d.0) s.nested in
    record {
      printable = sound_is_printable (applied name (x ∷ [])) s.lawful s.named (omega (arith, deep));
      plain = printed_is_plain (applied name (x ∷ [])) s.lawful s.named;
    }

-- ---- the three of a script

module _ (s : Script) (lawful : is_lawful_script s ≡ true) (p : IsPrintableScript s) where
  pub parameter_whole : IsWhole (parameter_section s)
  parameter_whole =
      section_whole (codes "parameter") (parameter_node s.param s.names) (max (type_brackets s.param) (greatest (map name_brackets s.names))) refl
      (parameter_fits s.param s.names (and_parts _ _ lawful).0 (and_parts _ _ p.names).0) (omega (arith, p.depth))

  pub storage_whole : IsWhole (storage_section s)
  storage_whole = section_whole (codes "storage") (type_node s.storage) (type_brackets s.storage) refl (type_fits s.storage) (omega (arith, p.depth))

  pub code_whole : IsWhole (code_section s)
  code_whole = section_whole (codes "code") (code_node s.code) (code_brackets s.code) refl (code_fits s.code (and_parts _ _ lawful).1) (omega (arith, p.depth))

-- ---- lines

-- what stands behind the word of a section
abbrev behind : Node → List ℕ
behind x = flat_map annotation [] ++ flat_map argument (map print (x ∷ []))

begins : (name : List ℕ) (x : Node) → printed (applied name (x ∷ [])) ≡ name ++ behind x
begins name x = ap (λ (y : Print). y.0) (print_is (applied name (x ∷ [])) ∙ print_prim name [] (x ∷ []))

abbrev first_byte : List ℕ → ℕ
first_byte [] = 0
first_byte (b ∷ bytes) = b

-- it begins with another byte than `end`
no_end : (text : List ℕ) → (first_byte text ≡ 101 → ⊥) → text ≢ codes "end"
no_end text other same = other (ap first_byte same)

parameter_begins : (x : Node) (more : List ℕ) → first_byte (printed (applied (codes "parameter") (x ∷ [])) ++ more) ≡ 112
parameter_begins x more = ap (λ (y : List ℕ). first_byte (y ++ more)) (begins (codes "parameter") x)

storage_begins : (x : Node) (more : List ℕ) → first_byte (printed (applied (codes "storage") (x ∷ [])) ++ more) ≡ 115
storage_begins x more = ap (λ (y : List ℕ). first_byte (y ++ more)) (begins (codes "storage") x)

code_begins : (x : Node) → first_byte (printed (applied (codes "code") (x ∷ []))) ≡ 99
code_begins x = ap first_byte (begins (codes "code") x)

plain_then : (text more : List ℕ) → list_all is_plain text ≡ true → list_all is_plain more ≡ true → list_all is_plain (text ++ more) ≡ true
plain_then text more h g = list_all-append is_plain text more ∙ and_from _ _ h g

-- the text that is printed for a printable script
pub three_lines : (s : Script) → is_lawful_script s ≡ true → IsPrintableScript s → AreThreeLines (script_text s)
three_lines s lawful p =
    let parameter = printed (parameter_section s) in
    let storage = printed (storage_section s) in
    let code = printed (code_section s) in
    record {
      parameter = parameter ++ 32 ∷ 59 ∷ [];
      storage = storage ++ 32 ∷ 59 ∷ [];
      code = code;
      parted =
          (λ i. parameter ++ 32 ∷ 59 ∷ 10 ∷ sym (append_assoc storage (32 ∷ 59 ∷ []) (10 ∷ (code ++ 10 ∷ []))) i)
          ∙ sym (append_assoc parameter (32 ∷ 59 ∷ []) (10 ∷ ((storage ++ 32 ∷ 59 ∷ []) ++ 10 ∷ (code ++ 10 ∷ []))));
      parameter_line = (
        plain_then parameter (32 ∷ 59 ∷ []) (parameter_whole s lawful p).plain refl,
        no_end (parameter ++ 32 ∷ 59 ∷ []) (λ same. absurd (omega (arith, parameter_begins (parameter_node s.param s.names) (32 ∷ 59 ∷ []), same))),
      );
      storage_line = (
        plain_then storage (32 ∷ 59 ∷ []) (storage_whole s lawful p).plain refl,
        no_end (storage ++ 32 ∷ 59 ∷ []) (λ same. absurd (omega (arith, storage_begins (type_node s.storage) (32 ∷ 59 ∷ []), same))),
      );
      code_line = ((code_whole s lawful p).plain, no_end code (λ same. absurd (omega (arith, code_begins (code_node s.code), same))));
    }
