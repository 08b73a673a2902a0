-- Plain instructions on a stack of the types that they ask for: no operand is missed, and the stack has the types that they leave.
use Rattle.std.proofs.Common.{◌≡◌, ◌^◌, Bool, true, false, not, List, [], ◌∷◌, ◌++◌, get_or, Some, inl, inr, refl, sym, ap, subst, ◌∙◌}
use Rattle.std.specs.Prelude.{IsTrue, nat_lt}
use Rattle.std.specs.List.{AllByRecursion, list_all}
use Rattle.std.proofs.lemmas.Bool.{not-true}
use Rattle.value_core.specs.declared.val.Val.{Val}
use Rattle.value_core.specs.declared.ty.Ty.{Ty}
use Rattle.value_core.specs.declared.ty.Ty.TheVariants as type
use Rattle.value_core.specs.declared.ty.Ty.TheViews.{out-Ty}
use Rattle.value_core.specs.Kinds.{is_passable}
use Rattle.value_core.specs.Typed.{has_type}
use Rattle.value_core.proofs.Bools.{first_true, second_true}
use Rattle.michelson_code.specs.declared.instr.Instr.TheOpen as one
use Rattle.michelson_code.specs.declared.instr.Instr.TheOpen.{Instr-F}
use Rattle.michelson_code.specs.declared.instr.Instr.TheFolds.{map-Instr}
use Rattle.michelson_code.specs.declared.operands.Line.{Line}
use Rattle.michelson_code.specs.declared.operands.Part.TheVariants as part
use Rattle.michelson_code.specs.declared.script.Script.{Script}
use Rattle.michelson_code.specs.Operands.{lines}
use Rattle.michelson_code.specs.Printable.{fit_at, is_pushed}
use Rattle.michelson_code.specs.Typing.{Applies, Choice, IsOneOf, by_line, comb_type, dig, drop_n, dug, dup_n, given_types, pair_n, part_type, slot_types, unpair_n}
use Rattle.michelson_rules.specs.declared.ask.Env.{Env}
use Rattle.michelson_rules.specs.Plain.{plain_at}
use Rattle.michelson_rules.specs.TypedStacks.{IsAnswered, StackHas, asks, asks_on, is_big_map_type, pushes_well}
use Rattle.michelson_rules.proofs.TypedAnswers.{Typing, Takes, takes_none}
use Rattle.michelson_rules.proofs.Moves.{copies_from, digs, digs_in, drops, pairs, unpairs}
use Rattle.michelson_rules.proofs.PlainLines.{Answers, Unless, is_push, lines_answered}
use Rattle.michelson_rules.proofs.TypedLevelLaws.{passes_over}

-- what is owed of each line is owed of one of them
at_line : (P : Line → Type 0) (ls : List Line) → AllByRecursion P ls → (l : Line) → IsOneOf l ls → P l
at_line P [] all l is = absurd is
at_line P (m ∷ ls) all l (inl same) = subst P (sym same) all.0
at_line P (m ∷ ls) all l (inr later) = at_line P ls all.1 l later

owed : {P : Type 0} (b : Bool) → b ≡ false → Unless b P → P
owed true fails all = absurd cc
owed false fails all = all

-- a pushed value has its type, which is passable
pub pushes_well-of : {A : Type 0} (x : Instr-F A) → IsTrue (fit_at (map-Instr A Bool (λ j. true) x)) → IsTrue (pushes_well x)
pushes_well-of (one.Push t v) fit = first_true (is_pushed t v) true fit
pushes_well-of _ fit = refl

-- what stands in bodies doesn't matter
pub plain_at-map : {A B : Type 0} (s : Script) (env : Env) (f : A → B) (x : Instr-F A) → plain_at s env (map-Instr A B f x) ≡ plain_at s env x
plain_at-map s env f one.Drop = refl
plain_at-map s env f _ = refl

-- the type that is written is the type of the value
pushed_has : (typing : Typing) (t : Ty) (v : Val) (c : Choice) → Some (t ∷ []) ≡ Some c.written → IsTrue (is_pushed t v) → typing.Has v (part_type c part.T)
pushed_has typing t v c given well =
    let written : t ∷ [] ≡ c.written = cc in
    subst (λ ts. typing.Has v (get_or ts 0 type.Unit)) written
    (passes_over typing t (first_true (is_passable t) _ well) v (first_true (has_type v t) _ (second_true (is_passable t) _ well)))

-- ---- where the ledger is asked

a_map_is_asked : {A : Type 0} (k w : Ty) → is_big_map_type (out-Ty (type.BigMap k w)) ≡ false → A
a_map_is_asked k w alone = let asked : is_big_map_type (out-Ty (type.BigMap k w)) ≡ true = ap is_big_map_type (type.outs-BigMap k w) in absurd cc

-- a test that each line passes is passed by one of them
one_passes : (test : Line → Bool) (ls : List Line) → list_all test ls ≡ true → (l : Line) → IsOneOf l ls → test l ≡ true
one_passes test [] all l is = absurd is
one_passes test (m ∷ ls) all l (inl same) = ap test same ∙ first_true (test m) _ all
one_passes test (m ∷ ls) all l (inr later) = one_passes test ls (second_true (test m) _ all) l later

abbrev IsAlone : {A : Type 0} → Instr-F A → Line → Type 0
IsAlone x l = (c : Choice) (us : List Ty) → asks_on x (slot_types c l.0 ++ us) ≡ false → asks x l ≡ false

module _ {A : Type 0} where
  -- where no big map stands the line has none
  is_alone : (x : Instr-F A) (l : Line) → IsOneOf l (lines x) → IsAlone x l
  is_alone one.Balance l is = λ c us alone. absurd cc
  is_alone (one.Contract e t) l is = λ c us alone. absurd cc
  is_alone one.Mem l is =
      at_line (IsAlone {A = A} one.Mem) (lines {A = A} one.Mem) (λ c us alone. refl, (λ c us alone. refl, (λ c us alone. a_map_is_asked c.a c.b alone, tt))) l is
  is_alone one.Get l is =
      at_line (IsAlone {A = A} one.Get) (lines {A = A} one.Get) (λ c us alone. refl, (λ c us alone. a_map_is_asked c.a c.b alone, tt)) l is
  is_alone one.Update l is =
      at_line (IsAlone {A = A} one.Update) (lines {A = A} one.Update) (λ c us alone. refl, (λ c us alone. refl, (λ c us alone. a_map_is_asked c.a c.b alone, tt))) l is
  is_alone one.GetAndUpdate l is =
      at_line (IsAlone {A = A} one.GetAndUpdate) (lines {A = A} one.GetAndUpdate) (λ c us alone. refl, (λ c us alone. a_map_is_asked c.a c.b alone, tt)) l is
  is_alone x l is = λ c us alone. not-true (asks x l) (one_passes (λ m. not (asks x m)) (lines x) refl l is)

module _ (typing : Typing) (s : Script) (env : Env) (within : IsTrue (nat_lt env.amount (2 ^ 63))) {A : Type 0} where
  abbrev OnLine : Instr-F A → Line → Type 0
  OnLine x l = (c : Choice) → Takes typing (slot_types c l.0) (slot_types c l.1) (plain_at s env x)

  -- by a line of the table
  pub line_answered : (x : Instr-F A) (l : Line) (c : Choice) → IsOneOf l (lines x) → asks x l ≡ false → given_types s x ≡ Some c.written → IsTrue (pushes_well x) →
      Takes typing (slot_types c l.0) (slot_types c l.1) (plain_at s env x)
  line_answered (one.Push t v) l c (inl same) alone given well =
      subst (λ m. Takes typing (slot_types c m.0) (slot_types c m.1) (plain_at s env {A = A} (one.Push t v))) (sym same) (takes_none typing v _ (pushed_has typing t v c given well))
  line_answered (one.Push t v) l c (inr none) alone given well = absurd none
  line_answered one.Drop l c is alone given well =
      owed {P = OnLine one.Drop l} (asks {A = A} one.Drop l) alone (at_line (Answers typing s env within {A = A} one.Drop) (lines {A = A} one.Drop) (lines_answered typing s env within {A = A} one.Drop) l is) c
  line_answered x l c is alone given well =
      owed {P = OnLine x l} (asks x l) alone (at_line (Answers typing s env within x) (lines x) (owed {P = AllByRecursion (Answers typing s env within x) (lines x)} (is_push x) refl (lines_answered typing s env within x)) l is) c

  -- ---- by what the instruction asks for

  abbrev Answered : Instr-F A → List Ty → List Ty → Type 0
  Answered x before after = (stack : List Val) → StackHas typing.Has stack before → IsAnswered typing.Has after (plain_at s env x stack)

  pub plain_answered : (x : Instr-F A) (before after : List Ty) → Applies s x before after → asks_on x before ≡ false → IsTrue (pushes_well x) → Answered x before after
  plain_answered x before after (by_line y l c us is given k) alone well = λ stack. line_answered x l c is (is_alone x l is c us alone) given well stack us
  plain_answered x before after (drop_n n items below long) alone well =
      subst (λ m. Answered (one.DropN m) (items ++ below) below) long (drops typing items below)
  plain_answered x before after (dup_n n items t below long) alone well =
      subst (λ m. Answered (one.DupN m) (items ++ t ∷ below) (t ∷ (items ++ t ∷ below))) long (copies_from typing items t below)
  plain_answered x before after (dig n items t below long) alone well =
      subst (λ m. Answered (one.Dig m) (items ++ t ∷ below) (t ∷ (items ++ below))) long (digs typing items t below)
  plain_answered x before after (dug n items t below long) alone well =
      subst (λ m. Answered (one.Dug m) (t ∷ (items ++ below)) (items ++ t ∷ below)) long (digs_in typing items t below)
  plain_answered x before after (pair_n n items last below long) alone well =
      subst (λ m. Answered (one.PairN m) (items ++ last ∷ below) (comb_type items last ∷ below)) long (pairs typing items last below)
  plain_answered x before after (unpair_n n items last below long) alone well =
      subst (λ m. Answered (one.UnpairN m) (comb_type items last ∷ below) (items ++ last ∷ below)) long (unpairs typing items last below)
