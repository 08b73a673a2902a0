-- The table of forms, one level at a time: forms whose instructions change, and induction on the instructions of bodies.
use Rattle.std.specs.Prelude.{◌≡◌, List, [], ◌∷◌, map, refl}
use Rattle.std.specs.List.{AllByRecursion}
use Rattle.std.proofs.Common.{ap, sym, subst, ◌∙◌}
use Rattle.michelson_code.specs.declared.instr.Instr.{Instr}
use Rattle.michelson_code.specs.declared.instr.Instr.TheOpen as one
use Rattle.michelson_code.specs.declared.instr.Instr.TheOpen.{Instr-F}
use Rattle.michelson_code.specs.declared.instr.Instr.TheViews.{out-Instr, out-roll-Instr, roll-Instr}
use Rattle.michelson_code.specs.declared.instr.Instr.TheFolds.{ind-Instr, map-Instr}
use Rattle.michelson_code.specs.Forms.{Form, Operand, ANumber, AType, SomeData, ACode, bodies, bodies_of, form_at, form_of}

-- ---- forms whose instructions change

module _ {A B : Type 0} (f : A → B) where
  -- an operand with another thing in the place of each instruction
  abbrev pub operand_map : Operand A → Operand B
  operand_map (ANumber least n) = ANumber least n
  operand_map (AType t) = AType t
  operand_map (SomeData t v) = SomeData t v
  operand_map (ACode c) = ACode (map f c)

  -- a form with another thing there
  abbrev pub form_map : Form A → Form B
  form_map x = record { word = x.word; cost = x.cost; entry = x.entry; operands = map operand_map x.operands }

  pub form_at-map : (x : Instr-F A) → form_at (map-Instr A B f x) ≡ form_map (form_at x)
  form_at-map one.Drop = refl
  form_at-map _ = refl

  pub bodies-map : (operands : List (Operand A)) → bodies (map operand_map operands) ≡ map (map f) (bodies operands)
  bodies-map [] = refl
  bodies-map (ANumber least n ∷ operands) = bodies-map operands
  bodies-map (AType t ∷ operands) = bodies-map operands
  bodies-map (SomeData t v ∷ operands) = bodies-map operands
  bodies-map (ACode c ∷ operands) = ap (λ (cs : List (List B)). map f c ∷ cs) (bodies-map operands)

-- a fold over instructions that looks at their forms alone
pub fold_form : {A : Type 0} (f : Instr-F A → A) (g : Form A → A) (fold : Instr → A) → ((i : Instr) → fold i ≡ f (map-Instr Instr A fold (out-Instr i))) → ((x : Instr-F A) → f x ≡ g (form_at x)) →
    (i : Instr) → fold i ≡ g (form_map fold (form_of i))
fold_form {A} f g fold at_level by_form i = at_level i ∙ by_form (map-Instr Instr A fold (out-Instr i)) ∙ ap g (form_at-map fold (out-Instr i))

-- ---- induction

-- a claim of each instruction right in bodies
abbrev pub EachIn : (Instr → Type 0) → List (List Instr) → Type 0
EachIn P = AllByRecursion (AllByRecursion P)

module _ (P : Instr → Type 0) where
  abbrev Proved : Type 0
  Proved = (i : Instr) × P i

  abbrev bare_of : Proved → Instr
  bare_of e = e.0

  each : (c : List Proved) → AllByRecursion P (map bare_of c)
  each [] = tt
  each (i ∷ c) = (i.1, each c)

  each_in : (cs : List (List Proved)) → EachIn P (map (map bare_of) cs)
  each_in [] = tt
  each_in (c ∷ cs) = (each c, each_in cs)

  abbrev InLevel : Instr-F Instr → Type 0
  InLevel x = EachIn P (bodies (form_at x).operands)

  in_level : (y : Instr-F Proved) → InLevel (map-Instr Proved Instr bare_of y)
  in_level y =
      subst (λ (f : Form Instr). EachIn P (bodies f.operands)) (sym (form_at-map bare_of y))
      (subst (EachIn P) (sym (bodies-map bare_of (form_at y).operands)) (each_in (bodies (form_at y).operands)))

  -- what holds of an instruction where it holds of those of its bodies holds of each instruction
  pub induction : ((i : Instr) → EachIn P (bodies_of i) → P i) → (i : Instr) → P i
  induction step = ind-Instr P (λ x y is. step (roll-Instr x) (subst InLevel (is ∙ sym (out-roll-Instr x)) (in_level y)))
