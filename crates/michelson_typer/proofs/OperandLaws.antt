-- Operands: bodies ask for nothing, the types among them, and stacks that are too short.
use Rattle.std.proofs.Common.{◌≡◌, ℕ, ◌<◌, Bool, true, false, List, [], ◌∷◌, length, map, inl, refl, ap, sym, subst, ◌∙◌}
use Rattle.std.specs.Prelude.{◌&&◌, ◌↔◌, ◌==◌, IsTrue}
use Rattle.std.specs.List.{AllByRecursion, list_all}
use Rattle.value_core.specs.declared.ty.Ty.{Ty}
use Rattle.value_core.proofs.Bools.{and_true}
use Rattle.michelson_code.specs.declared.instr.Instr.{Instr}
use Rattle.michelson_code.specs.declared.instr.Instr.TheOpen as one
use Rattle.michelson_code.specs.declared.instr.Instr.TheVariants as instr
use Rattle.michelson_code.specs.declared.instr.Instr.TheOpen.{Instr-F}
use Rattle.michelson_code.specs.declared.instr.Instr.TheViews.{out-Instr, roll-Instr, roll-out-Instr}
use Rattle.michelson_code.specs.declared.operands.Line.{Line}
use Rattle.michelson_code.specs.FirstFault.{IsLone, IsShort, for_each_line, items_taken, lone, types_of, without_line}
use Rattle.michelson_code.specs.Forms.{ACode, ANumber, AType, Form, Operand, SomeData, form_at, form_of}
use Rattle.michelson_code.specs.Levels.{form_at-map, operand_map}
use Rattle.michelson_code.specs.Operands.{lines}
use Rattle.michelson_code.specs.Printable.{is_fit_operand}
use Rattle.michelson_code.specs.Typing.{IsOneOf, is_fit_alone, slot_list, types_written, whole_types}

-- ---- what stands behind a word

abbrev pub by_itself : Instr → Bool
by_itself i = true

-- nothing is asked of a body
pub any_body_fits : (c : List Instr) → list_all (λ fit. fit) (map by_itself c) ≡ true
any_body_fits [] = refl
any_body_fits (i ∷ c) = any_body_fits c

-- an instruction is fit alone where its operands are
pub fit_by_form : (i : Instr) (f : Form Instr) → f ≡ form_of i → is_fit_alone i ≡ list_all is_fit_operand (map (operand_map by_itself) f.operands)
fit_by_form i f is =
    ap (λ (g : Form Bool). list_all is_fit_operand g.operands) (form_at-map by_itself (out-Instr i))
    ∙ ap (λ (g : Form Instr). list_all is_fit_operand (map (operand_map by_itself) g.operands)) (sym is)

-- ---- stacks that are too short

abbrev pub AreLonger : ℕ → List Line → Type 0
AreLonger n = AllByRecursion (λ l. n < length (slot_list l.0))

lone_has_lines : {A : Type 0} (x : Instr-F A) (before : List Ty) → lines x ≡ [] → IsLone x before → ⊥
lone_has_lines one.Concat before none is = cc
lone_has_lines one.Drop before none is = is
lone_has_lines _ before none is = is

module _ {A : Type 0} (x : Instr-F A) (before : List Ty) where
  -- without a line the items decide
  pub short_without : lines x ≡ [] → IsShort x before → length before < items_taken x
  short_without none (for_each_line l is all) = absurd (subst (IsOneOf l) none is)
  short_without none (lone is) = absurd (lone_has_lines x before none is)
  short_without none (without_line same below) = below

  longer_line : (lines x ≡ [] → ⊥) → (IsLone x before → ⊥) → IsShort x before → AreLonger (length before) (lines x)
  longer_line some alone (for_each_line l is all) = all
  longer_line some alone (lone is) = absurd (alone is)
  longer_line some alone (without_line none below) = absurd (some none)

  -- with lines each is longer, where no item stands alone for two
  pub short_by_lines : (ls : List Line) (n : ℕ) (longer : Bool) → ls ≡ lines x → n ≡ length before → false ≡ (length ls == 0) →
      (IsLone x before → ⊥) → (IsTrue longer ↔ AreLonger n ls) → IsTrue longer ↔ IsShort x before
  short_by_lines [] n longer is height some alone each = cc
  short_by_lines (l ∷ ls) n longer is height some alone each = (
    λ h. for_each_line l (subst (IsOneOf l) is (inl refl)) (subst (AreLonger (length before)) is (subst (λ m. AreLonger m (l ∷ ls)) height (each.0 h))),
    λ short. each.1
        (subst (λ m. AreLonger m (l ∷ ls)) (sym height)
        (subst (AreLonger (length before)) (sym is)
        (longer_line (λ none. let empty : (l ∷ ls) ≡ [] = is ∙ none in cc) alone short))),
  )

-- ---- the types that an instruction asks for

whole-other : {A : Type 0} (x : Instr-F A) → ((k : Ty) → x ≡ one.EmptySet k → ⊥) → ((k v : Ty) → x ≡ one.EmptyMap k v → ⊥) →
    whole_types x ≡ types_written (form_at x).operands
whole-other (one.EmptySet k) set map = absurd (set k refl)
whole-other (one.EmptyMap k v) set map = absurd (map k v refl)
whole-other one.Drop set map = refl
whole-other _ set map = refl

-- of an instruction that makes no set and no map, those that it writes
pub types_of-other : (i : Instr) → ((k : Ty) → i ≡ instr.EmptySet k → ⊥) → ((k v : Ty) → i ≡ instr.EmptyMap k v → ⊥) →
    types_of i ≡ types_written (form_of i).operands
types_of-other i set map =
    whole-other (out-Instr i)
    (λ k is. set k (sym (roll-out-Instr i) ∙ ap roll-Instr is ∙ instr.rolls-EmptySet k))
    (λ k v is. map k v (sym (roll-out-Instr i) ∙ ap roll-Instr is ∙ instr.rolls-EmptyMap k v))

-- the types of two operands are those of each
pub written-both : (p : Ty → Bool) (x y : Operand Instr) →
    list_all p (types_written (x ∷ y ∷ [])) ≡ (list_all p (types_written (x ∷ [])) && list_all p (types_written (y ∷ [])))
written-both p (ANumber least n) y = refl
written-both p (AType t) y = ap (λ b. b && list_all p (types_written (y ∷ []))) (sym (and_true (p t)))
written-both p (SomeData t v) y = refl
written-both p (ACode c) y = refl

module _ (p : Ty → Bool) (x y : Operand Instr) (operands : List (Operand Instr)) (two : operands ≡ x ∷ y ∷ []) (first : Bool)
    (asked : first ≡ list_all p (types_written (x ∷ []))) where
  abbrev of_second : Bool
  of_second = list_all p (types_written (y ∷ []))

  joined : (first && of_second) ≡ list_all p (types_written operands)
  joined = ap (λ b. b && of_second) asked ∙ sym (written-both p x y) ∙ ap (λ os. list_all p (types_written os)) (sym two)

  -- where the first passes the second decides
  pub second_decides : (second : Bool) → second ≡ of_second → first ≡ true → second ≡ list_all p (types_written operands)
  second_decides second is passes = is ∙ ap (λ b. b && of_second) (sym passes) ∙ joined

  -- where the first fails both do
  pub first_decides : first ≡ false → first ≡ list_all p (types_written operands)
  first_decides fails = fails ∙ ap (λ b. b && of_second) (sym fails) ∙ joined
