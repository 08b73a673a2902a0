-- A typed script meets the condition of its printer: each number and each pushed value in it is one that is read again.
use Rattle.std.proofs.Common.{◌≡◌, ℕ, ◌+◌, Bool, true, List, [], ◌∷◌, map, refl, ap, sym, subst, ◌∙◌}
use Rattle.std.specs.Prelude.{◌&&◌}
use Rattle.std.specs.List.{list_all, AllByRecursion}
use Rattle.std.proofs.lemmas.Bool.{and_from, and_parts}
use Rattle.value_core.specs.declared.ty.Ty.{Ty}
use Rattle.michelson_code.specs.declared.instr.Instr.{Instr}
use Rattle.michelson_code.specs.declared.instr.Instr.TheOpen as one
use Rattle.michelson_code.specs.declared.instr.Instr.TheOpen.{Instr-F}
use Rattle.michelson_code.specs.declared.instr.Instr.TheViews.{out-Instr}
use Rattle.michelson_code.specs.declared.instr.Instr.TheFolds.{fold_out-Instr}
use Rattle.michelson_code.specs.declared.operands.Line.{Line}
use Rattle.michelson_code.specs.declared.script.Script.{Script}
use Rattle.michelson_code.specs.Forms.{Form, Operand, ANumber, AType, SomeData, ACode, bodies, bodies_of, form_at, form_of}
use Rattle.michelson_code.specs.Levels.{fold_form, form_at-map, operand_map}
use Rattle.michelson_code.specs.Operands.{lines}
use Rattle.michelson_code.specs.Printable.{IsPrintableScript, fit_at, is_fit, is_fit_operand}
use Rattle.michelson_code.specs.TypedScript.{IsTypedScript}
use Rattle.michelson_code.specs.Typing.{Applies, BodiesTyped, CodeTyped, InstrTyped, IsOneOf, Outcome, Start, is_fit_alone, by_line, drop_n, dup_n, dig, dug, pair_n, unpair_n, applies, runs, no_body, one_body, done, goes_on, fails}

-- ---- one level

abbrev by_itself : Instr → Bool
by_itself j = true

all_mapped : (c : List Instr) → list_all (λ (fit : Bool). fit) (map is_fit c) ≡ list_all is_fit c
all_mapped [] = refl
all_mapped (i ∷ c) = ap (λ b. is_fit i && b) (all_mapped c)

-- operands are fit where they are so by themselves and their bodies are
fit_operands : (os : List (Operand Instr)) → list_all is_fit_operand (map (operand_map by_itself) os) ≡ true →
    AllByRecursion (λ c. list_all is_fit c ≡ true) (bodies os) → list_all is_fit_operand (map (operand_map is_fit) os) ≡ true
fit_operands [] alone below = refl
fit_operands (ANumber least n ∷ os) alone below =
    let both = and_parts _ _ alone in and_from _ _ both.0 (fit_operands os both.1 below)
fit_operands (AType t ∷ os) alone below = fit_operands os alone below
fit_operands (SomeData t v ∷ os) alone below =
    let both = and_parts _ _ alone in and_from _ _ both.0 (fit_operands os both.1 below)
fit_operands (ACode c ∷ os) alone below =
    let both = and_parts _ _ alone in and_from _ _ (all_mapped c ∙ below.0) (fit_operands os both.1 below.1)

fit-level : (i : Instr) → is_fit i ≡ list_all is_fit_operand (map (operand_map is_fit) (form_of i).operands)
fit-level i = fold_form fit_at (λ (f : Form Bool). list_all is_fit_operand f.operands) is_fit (fold_out-Instr Bool fit_at) (λ x. refl) i

fit_instr : (i : Instr) → is_fit_alone i ≡ true → AllByRecursion (λ c. list_all is_fit c ≡ true) (bodies_of i) → is_fit i ≡ true
fit_instr i alone below =
    fit-level i
    ∙ fit_operands (form_of i).operands (ap (λ (f : Form Bool). list_all is_fit_operand f.operands) (sym (form_at-map by_itself (out-Instr i))) ∙ alone) below

-- ---- instructions with lines of operands have no bodies

line_no_body : {A : Type 0} (x : Instr-F A) (l : Line) → IsOneOf l (lines x) → bodies (form_at x).operands ≡ []
line_no_body (one.Dip c) l is = absurd is
line_no_body (one.DipN n c) l is = absurd is
line_no_body (one.If c d) l is = absurd is
line_no_body (one.IfNone c d) l is = absurd is
line_no_body (one.IfLeft c d) l is = absurd is
line_no_body (one.IfCons c d) l is = absurd is
line_no_body (one.Loop c) l is = absurd is
line_no_body (one.LoopLeft c) l is = absurd is
line_no_body (one.Iter c) l is = absurd is
line_no_body (one.Map c) l is = absurd is
line_no_body one.Drop l is = refl
line_no_body _ l is = refl

pub no_bodies : (s : Script) {A : Type 0} (x : Instr-F A) (b t : List Ty) → Applies s x b t → bodies (form_at x).operands ≡ []
no_bodies s x b t (by_line y l c below is given k) = line_no_body x l is
no_bodies s x b t (drop_n n items below long) = refl
no_bodies s x b t (dup_n n items a below long) = refl
no_bodies s x b t (dig n items a below long) = refl
no_bodies s x b t (dug n items a below long) = refl
no_bodies s x b t (pair_n n items a below long) = refl
no_bodies s x b t (unpair_n n items a below long) = refl

-- ---- code

mutual
  instr_fit : (s : Script) (n : ℕ) (i : Instr) (b : List Ty) (o : Outcome) → InstrTyped s n i b o → is_fit i ≡ true
  instr_fit s n i b o (applies n' i' b' t fit well x) =
      fit_instr i fit (subst (AllByRecursion (λ c. list_all is_fit c ≡ true)) (sym (no_bodies s (out-Instr i) b t x)) tt)
  instr_fit s n i b o (runs n' i' b' st es q fit x typed) = fit_instr i fit (bodies_fit s n (bodies_of i) st es typed)

  bodies_fit : (s : Script) (n : ℕ) (cs : List (List Instr)) (st : List Start) (es : List Outcome) → BodiesTyped s n cs st es →
      AllByRecursion (λ c. list_all is_fit c ≡ true) cs
  bodies_fit s n cs st es (no_body n') = tt
  bodies_fit s n cs st es (one_body n' c more start starts e ends typed rest) =
      (code_fit s (n + start.0) c start.1 e typed, bodies_fit s n more starts ends rest)

  code_fit : (s : Script) (n : ℕ) (c : List Instr) (b : List Ty) (o : Outcome) → CodeTyped s n c b o → list_all is_fit c ≡ true
  code_fit s n c b o (done n' b' kept) = refl
  code_fit s n c b o (goes_on n' i more b' t o' kept typed rest) = and_from _ _ (instr_fit s n i b _ typed) (code_fit s n more t o rest)
  code_fit s n c b o (fails n' i b' kept typed) = and_from _ _ (instr_fit s n i b _ typed) refl

pub typed_prints : (s : Script) → IsTypedScript s → IsPrintableScript s
typed_prints s typed = record {
  names = typed.entries;
  instructions = code_fit s 0 s.code _ _ typed.ends.1.0;
  depth = typed.brackets;
}
