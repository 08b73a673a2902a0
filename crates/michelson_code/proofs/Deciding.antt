-- Whether two types are equal, and whether a stack begins with the operands of a line, is decided.
use Rattle.std.proofs.Common.{◌≡◌, ℕ, Bool, true, false, List, [], ◌∷◌, get_or, Option, None, Some, unwrap_or, inl, inr, refl, ap, sym, subst, ◌∙◌}
use Rattle.std.specs.Prelude.{◌==◌, ◌⊎◌, IsTrue}
use Rattle.std.proofs.lemmas.Bool.{eq-eqb}
use Rattle.value_core.specs.declared.ty.Ty.{Ty}
use Rattle.value_core.specs.declared.ty.Ty.TheVariants as type
use Rattle.value_core.specs.declared.ty.Ty.TheOpen as ty
use Rattle.value_core.specs.declared.ty.Ty.TheOpen.{Ty-F}
use Rattle.value_core.specs.declared.ty.Ty.TheViews.{out-Ty, roll-Ty}
use Rattle.value_core.specs.Kinds.{comparable_level, is_comparable}
use Rattle.value_core.specs.TypeLevels.{Each, fold-at, induction, roll-out, types_in}
use Rattle.michelson_code.specs.declared.operands.Level.{Level}
use Rattle.michelson_code.specs.declared.operands.Level.TheVariants as level
use Rattle.michelson_code.specs.declared.operands.Part.{Part}
use Rattle.michelson_code.specs.declared.operands.Part.TheVariants as part
use Rattle.michelson_code.specs.declared.operands.Slot.{Slot}
use Rattle.michelson_code.specs.declared.operands.Slot.TheVariants as slot
use Rattle.michelson_code.specs.Typing.{Choice, level_type, part_type, slot_type}
use Rattle.michelson_code.proofs.Types.{kind_shown, level_shown, shows}

-- it holds, or it doesn't
abbrev pub Decided : Type 0 → Type 0
Decided P = P ⊎ (P → ⊥)

-- ---- equal types

kinds_part : (m n : ℕ) → (m == n) ≡ false → m ≡ n → ⊥
kinds_part m n other same = let e : (m == n) ≡ true = eq-eqb m n same in cc

apart : (x y : Ty-F Ty) → (kind_shown x == kind_shown y) ≡ false → x ≡ y → ⊥
apart x y other same = kinds_part (kind_shown x) (kind_shown y) other (ap kind_shown same)

abbrev SameOrNot : Ty → Type 0
SameOrNot t = (u : Ty) → Decided (t ≡ u)

-- one part, and two
by_one : {A : Type 0} (f : Ty → A) (s t : Ty) → (f s ≡ f t → s ≡ t) → Decided (s ≡ t) → Decided (f s ≡ f t)
by_one f s t back (inl same) = inl (ap f same)
by_one f s t back (inr other) = inr (λ e. other (back e))

by_two : {A : Type 0} (f : Ty → Ty → A) (s t u v : Ty) → (f s t ≡ f u v → (s ≡ u) × (t ≡ v)) → Decided (s ≡ u) → Decided (t ≡ v) → Decided (f s t ≡ f u v)
by_two f s t u v back (inl first) (inl second) = inl (λ i. f (first i) (second i))
by_two f s t u v back (inl first) (inr other) = inr (λ e. other (back e).1)
by_two f s t u v back (inr other) second = inr (λ e. other (back e).0)

same_level : (x : Ty-F Ty) → Each SameOrNot (types_in x) → (y : Ty-F Ty) → Decided (x ≡ y)
same_level (ty.Option s) each (ty.Option t) = by_one ty.Option s t (λ e. cc) (each.0 t)
same_level (ty.Or s t) each (ty.Or u v) = by_two ty.Or s t u v (λ e. (cc, cc)) (each.0 u) (each.1.0 v)
same_level (ty.Pair s t) each (ty.Pair u v) = by_two ty.Pair s t u v (λ e. (cc, cc)) (each.0 u) (each.1.0 v)
same_level (ty.List s) each (ty.List t) = by_one ty.List s t (λ e. cc) (each.0 t)
same_level (ty.Set s) each (ty.Set t) = by_one ty.Set s t (λ e. cc) (each.0 t)
same_level (ty.Map s t) each (ty.Map u v) = by_two ty.Map s t u v (λ e. (cc, cc)) (each.0 u) (each.1.0 v)
same_level (ty.BigMap s t) each (ty.BigMap u v) = by_two ty.BigMap s t u v (λ e. (cc, cc)) (each.0 u) (each.1.0 v)
same_level (ty.Contract s) each (ty.Contract t) = by_one ty.Contract s t (λ e. cc) (each.0 t)
same_level ty.Unit each ty.Unit = inl refl
same_level ty.Bool each ty.Bool = inl refl
same_level ty.Int each ty.Int = inl refl
same_level ty.Nat each ty.Nat = inl refl
same_level ty.Mutez each ty.Mutez = inl refl
same_level ty.Time each ty.Time = inl refl
same_level ty.Text each ty.Text = inl refl
same_level ty.Bytes each ty.Bytes = inl refl
same_level ty.Addr each ty.Addr = inl refl
same_level ty.Operation each ty.Operation = inl refl
same_level x each y = inr (apart x y refl)

by_out : (t u : Ty) → Decided (out-Ty t ≡ out-Ty u) → Decided (t ≡ u)
by_out t u (inl same) = inl (sym (roll-out t) ∙ ap roll-Ty same ∙ roll-out u)
by_out t u (inr other) = inr (λ e. other (ap out-Ty e))

-- two types are equal or not
pub same_type : (t u : Ty) → Decided (t ≡ u)
same_type = induction SameOrNot (λ t each u. by_out t u (same_level (out-Ty t) each (out-Ty u)))

-- two stacks are equal or not
pub same_stack : (s t : List Ty) → Decided (s ≡ t)
same_stack [] [] = inl refl
same_stack [] (t ∷ ts) = inr (λ e. cc)
same_stack (s ∷ ss) [] = inr (λ e. cc)
same_stack (s ∷ ss) (t ∷ ts) = both (same_type s t) (same_stack ss ts)
  where
    both : Decided (s ≡ t) → Decided (ss ≡ ts) → Decided (s ∷ ss ≡ t ∷ ts)
    both (inl top) (inl rest) = inl (λ i. top i ∷ rest i)
    both (inr other) rest = inr (λ e. other (let top : s ≡ t = cc in top))
    both (inl top) (inr other) = inr (λ e. other (let rest : ss ≡ ts = cc in rest))

-- a type without parts is comparable
unit_comparable : is_comparable type.Unit ≡ true
unit_comparable = fold-at comparable_level type.Unit ty.Unit (shows (λ (t : Ty). t) level.Unit)

-- ---- what letters stand for so far

pub record Letters : Type 0 where
  pub a : Option Ty
  pub b : Option Ty
  pub k : Option Ty
  pub sound : IsTrue (is_comparable (unwrap_or k type.Unit))

abbrev Meets : Option Ty → Ty → Type 0
Meets None t = Unit {0}
Meets (Some u) t = u ≡ t

module _ (written : List Ty) where
  -- the choice is one that the letters allow
  pub record Suits (l : Letters) (c : Choice) : Type 0 where
    pub a : Meets l.a c.a
    pub b : Meets l.b c.b
    pub k : Meets l.k c.k
    pub comparable : IsTrue (is_comparable c.k)
    pub is_written : c.written ≡ written

  -- further letters, with which exactly the choices are left of which it holds
  pub record Narrows (l : Letters) (Q : Choice → Type 0) : Type 0 where
    pub letters : Letters
    pub holds : (c : Choice) → Suits letters c → Suits l c × Q c
    pub all : (c : Choice) → Suits l c → Q c → Suits letters c

  abbrev pub Answer : Letters → (Choice → Type 0) → Type 0
  Answer l Q = Narrows l Q ⊎ ((c : Choice) → Suits l c → Q c → ⊥)

  abbrev always : (l : Letters) (Q : Choice → Type 0) → ((c : Choice) → Suits l c → Q c) → Answer l Q
  always l Q holds = inl (record { letters = l; holds = λ c suits. (suits, holds c suits); all = λ c suits q. suits })

  -- the same question in other words
  reword : (l : Letters) (Q R : Choice → Type 0) → ((c : Choice) → Q c → R c) → ((c : Choice) → R c → Q c) → Answer l Q → Answer l R
  reword l Q R there back (inl n) =
      inl (record {
        letters = n.letters;
        holds = λ c suits. ((n.holds c suits).0, there c (n.holds c suits).1);
        all = λ c suits r. n.all c suits (back c r);
      })
  reword l Q R there back (inr never) = inr (λ c suits r. never c suits (back c r))

  -- two questions, one after another
  then_ask : (l : Letters) (Q R : Choice → Type 0) → Answer l Q → ((m : Letters) → Answer m R) → Answer l (λ c. Q c × R c)
  then_ask l Q R (inr never) next = inr (λ c suits both. never c suits both.0)
  then_ask l Q R (inl n) next = go (next n.letters)
    where
      go : Answer n.letters R → Answer l (λ c. Q c × R c)
      go (inl m) = inl (record {
        letters = m.letters;
        holds = λ c suits. let up = m.holds c suits in ((n.holds c up.0).0, ((n.holds c up.0).1, up.1));
        all = λ c suits both. m.all c (n.all c suits both.0) both.1;
      })
      go (inr never) = inr (λ c suits both. never c (n.all c suits both.0) both.1)

  -- a letter that is free, or bound
  ask_a : (l : Letters) (t : Ty) → Answer l (λ c. c.a ≡ t)
  ask_a l t = go l.a refl
    where
      go : (o : Option Ty) → l.a ≡ o → Answer l (λ c. c.a ≡ t)
      go None free = inl (record {
        letters = record l { a = Some t };
        holds = λ c suits. (record { a = subst (λ (o : Option Ty). Meets o c.a) (sym free) tt; b = suits.b; k = suits.k; comparable = suits.comparable; is_written = suits.is_written }, sym suits.a);
        all = λ c suits is. record { a = sym is; b = suits.b; k = suits.k; comparable = suits.comparable; is_written = suits.is_written };
      })
      go (Some u) bound = elim (same_type u t) [
        | inl same ↦ always l (λ c. c.a ≡ t) (λ c suits. sym (subst (λ (o : Option Ty). Meets o c.a) bound suits.a) ∙ same)
        | inr other ↦ inr (λ c suits is. other (subst (λ (o : Option Ty). Meets o c.a) bound suits.a ∙ is))
      ]

  ask_b : (l : Letters) (t : Ty) → Answer l (λ c. c.b ≡ t)
  ask_b l t = go l.b refl
    where
      go : (o : Option Ty) → l.b ≡ o → Answer l (λ c. c.b ≡ t)
      go None free = inl (record {
        letters = record l { b = Some t };
        holds = λ c suits. (record { a = suits.a; b = subst (λ (o : Option Ty). Meets o c.b) (sym free) tt; k = suits.k; comparable = suits.comparable; is_written = suits.is_written }, sym suits.b);
        all = λ c suits is. record { a = suits.a; b = sym is; k = suits.k; comparable = suits.comparable; is_written = suits.is_written };
      })
      go (Some u) bound = elim (same_type u t) [
        | inl same ↦ always l (λ c. c.b ≡ t) (λ c suits. sym (subst (λ (o : Option Ty). Meets o c.b) bound suits.b) ∙ same)
        | inr other ↦ inr (λ c suits is. other (subst (λ (o : Option Ty). Meets o c.b) bound suits.b ∙ is))
      ]

  bool_cases : (b : Bool) → (b ≡ true) ⊎ (b ≡ false)
  bool_cases true = inl refl
  bool_cases false = inr refl

  ask_k : (l : Letters) (t : Ty) → Answer l (λ c. c.k ≡ t)
  ask_k l t = go l.k refl
    where
      bind : l.k ≡ None → (is_comparable t ≡ true) ⊎ (is_comparable t ≡ false) → Answer l (λ c. c.k ≡ t)
      bind free (inl may) = inl (record {
        letters = record { a = l.a; b = l.b; k = Some t; sound = may };
        holds = λ c suits. (record { a = suits.a; b = suits.b; k = subst (λ (o : Option Ty). Meets o c.k) (sym free) tt; comparable = suits.comparable; is_written = suits.is_written }, sym suits.k);
        all = λ c suits is. record { a = suits.a; b = suits.b; k = sym is; comparable = suits.comparable; is_written = suits.is_written };
      })
      bind free (inr not) = inr (λ c suits is. let may : is_comparable c.k ≡ true = suits.comparable in cc)

      go : (o : Option Ty) → l.k ≡ o → Answer l (λ c. c.k ≡ t)
      go None free = bind free (bool_cases (is_comparable t))
      go (Some u) bound = elim (same_type u t) [
        | inl same ↦ always l (λ c. c.k ≡ t) (λ c suits. sym (subst (λ (o : Option Ty). Meets o c.k) bound suits.k) ∙ same)
        | inr other ↦ inr (λ c suits is. other (subst (λ (o : Option Ty). Meets o c.k) bound suits.k ∙ is))
      ]

  -- a part that is no letter
  ask_fixed : (l : Letters) (p : Part) (u t : Ty) → ((c : Choice) → Suits l c → part_type c p ≡ u) → Answer l (λ c. part_type c p ≡ t)
  ask_fixed l p u t is = elim (same_type u t) [
    | inl same ↦ always l (λ c. part_type c p ≡ t) (λ c suits. is c suits ∙ same)
    | inr other ↦ inr (λ c suits h. other (sym (is c suits) ∙ h))
  ]

  ask_part : (p : Part) (l : Letters) (t : Ty) → Answer l (λ c. part_type c p ≡ t)
  ask_part part.A l t = ask_a l t
  ask_part part.B l t = ask_b l t
  ask_part part.K l t = ask_k l t
  ask_part part.T l t = ask_fixed l part.T (get_or written 0 type.Unit) t (λ c suits. ap (λ (ts : List Ty). get_or ts 0 type.Unit) suits.is_written)
  ask_part part.U l t = ask_fixed l part.U (get_or written 1 type.Unit) t (λ c suits. ap (λ (ts : List Ty). get_or ts 1 type.Unit) suits.is_written)
  ask_part part.Int l t = ask_fixed l part.Int type.Int t (λ c suits. refl)
  ask_part part.Nat l t = ask_fixed l part.Nat type.Nat t (λ c suits. refl)
  ask_part part.Mutez l t = ask_fixed l part.Mutez type.Mutez t (λ c suits. refl)
  ask_part part.Text l t = ask_fixed l part.Text type.Text t (λ c suits. refl)
  ask_part part.Bytes l t = ask_fixed l part.Bytes type.Bytes t (λ c suits. refl)

  -- ---- one level

  ask_one : (l : Letters) (f : Ty → Ty-F Ty) (p : Part) (s : Ty) → ((u v : Ty) → f u ≡ f v → u ≡ v) → Answer l (λ c. f (part_type c p) ≡ f s)
  ask_one l f p s back = reword l (λ c. part_type c p ≡ s) (λ c. f (part_type c p) ≡ f s) (λ c. ap f) (λ c. back (part_type c p) s) (ask_part p l s)

  ask_two : (l : Letters) (f : Ty → Ty → Ty-F Ty) (p q : Part) (s t : Ty) → ((u v w x : Ty) → f u v ≡ f w x → (u ≡ w) × (v ≡ x)) →
      Answer l (λ c. f (part_type c p) (part_type c q) ≡ f s t)
  ask_two l f p q s t back =
      reword l (λ c. (part_type c p ≡ s) × (part_type c q ≡ t)) (λ c. f (part_type c p) (part_type c q) ≡ f s t)
      (λ c both i. f (both.0 i) (both.1 i)) (λ c. back (part_type c p) (part_type c q) s t)
      (then_ask l (λ c. part_type c p ≡ s) (λ c. part_type c q ≡ t) (ask_part p l s) (λ m. ask_part q m t))

  -- whether the level is this one
  ask_shown : (l : Letters) (x : Level Part) (y : Ty-F Ty) → Answer l (λ c. level_shown (part_type c) x ≡ y)
  ask_shown l (level.Option p) (ty.Option s) = ask_one l ty.Option p s (λ u v e. cc)
  ask_shown l (level.Or p q) (ty.Or s t) = ask_two l ty.Or p q s t (λ u v w x e. (cc, cc))
  ask_shown l (level.Pair p q) (ty.Pair s t) = ask_two l ty.Pair p q s t (λ u v w x e. (cc, cc))
  ask_shown l (level.List p) (ty.List s) = ask_one l ty.List p s (λ u v e. cc)
  ask_shown l (level.Set p) (ty.Set s) = ask_one l ty.Set p s (λ u v e. cc)
  ask_shown l (level.Map p q) (ty.Map s t) = ask_two l ty.Map p q s t (λ u v w x e. (cc, cc))
  ask_shown l (level.BigMap p q) (ty.BigMap s t) = ask_two l ty.BigMap p q s t (λ u v w x e. (cc, cc))
  ask_shown l (level.Contract p) (ty.Contract s) = ask_one l ty.Contract p s (λ u v e. cc)
  ask_shown l level.Unit ty.Unit = always l _ (λ c suits. refl)
  ask_shown l level.Bool ty.Bool = always l _ (λ c suits. refl)
  ask_shown l level.Int ty.Int = always l _ (λ c suits. refl)
  ask_shown l level.Nat ty.Nat = always l _ (λ c suits. refl)
  ask_shown l level.Mutez ty.Mutez = always l _ (λ c suits. refl)
  ask_shown l level.Time ty.Time = always l _ (λ c suits. refl)
  ask_shown l level.Text ty.Text = always l _ (λ c suits. refl)
  ask_shown l level.Bytes ty.Bytes = always l _ (λ c suits. refl)
  ask_shown l level.Addr ty.Addr = always l _ (λ c suits. refl)
  ask_shown l level.Operation ty.Operation = always l _ (λ c suits. refl)
  ask_shown l x y = inr (λ c suits e. apart (level_shown (part_type c) x) y refl e)

  shown_there : {P : Type 0} (f : P → Ty) (x : Level P) (t : Ty) → level_shown f x ≡ out-Ty t → level_type f x ≡ t
  shown_there f x t same = sym (roll-out (level_type f x)) ∙ ap roll-Ty (shows f x ∙ same) ∙ roll-out t

  shown_back : {P : Type 0} (f : P → Ty) (x : Level P) (t : Ty) → level_type f x ≡ t → level_shown f x ≡ out-Ty t
  shown_back f x t same = sym (shows f x) ∙ ap out-Ty same

  ask_level : (l : Letters) (x : Level Part) (t : Ty) → Answer l (λ c. level_type (part_type c) x ≡ t)
  ask_level l x t =
      reword l (λ c. level_shown (part_type c) x ≡ out-Ty t) (λ c. level_type (part_type c) x ≡ t)
      (λ c. shown_there (part_type c) x t) (λ c. shown_back (part_type c) x t) (ask_shown l x (out-Ty t))

  ask_option : (l : Letters) (x : Level Part) (t : Ty) (y : Ty-F Ty) → out-Ty t ≡ y → Answer l (λ c. type.Option (level_type (part_type c) x) ≡ t)
  ask_option l x t (ty.Option u) is =
      reword l (λ c. level_type (part_type c) x ≡ u) (λ c. type.Option (level_type (part_type c) x) ≡ t)
      (λ c e. shown_there (λ (s : Ty). s) (level.Option (level_type (part_type c) x)) t (ap ty.Option e ∙ sym is))
      (λ c e. let shown : ty.Option (level_type (part_type c) x) ≡ ty.Option u = shown_back (λ (s : Ty). s) (level.Option (level_type (part_type c) x)) t e ∙ is in cc)
      (ask_level l x u)
  ask_option l x t y is = inr (λ c suits e.
      apart (ty.Option (level_type (part_type c) x)) y refl (shown_back (λ (s : Ty). s) (level.Option (level_type (part_type c) x)) t e ∙ is))

  ask_slot : (x : Slot) (l : Letters) (t : Ty) → Answer l (λ c. slot_type c x ≡ t)
  ask_slot (slot.Whole p) l t = ask_part p l t
  ask_slot (slot.Of x) l t = ask_level l x t
  ask_slot (slot.OptionOf x) l t = ask_option l x t (out-Ty t) refl

  -- ---- operands

  -- operands stand on top of the stack
  abbrev pub Front : Choice → List Slot → List Ty → Type 0
  Front c [] b = Unit {0}
  Front c (x ∷ xs) [] = ⊥
  Front c (x ∷ xs) (t ∷ b) = (slot_type c x ≡ t) × Front c xs b

  ask_front : (xs : List Slot) (l : Letters) (b : List Ty) → Answer l (λ c. Front c xs b)
  ask_front [] l b = always l _ (λ c suits. tt)
  ask_front (x ∷ xs) l [] = inr (λ c suits never. never)
  ask_front (x ∷ xs) l (t ∷ b) = then_ask l (λ c. slot_type c x ≡ t) (λ c. Front c xs b) (ask_slot x l t) (λ m. ask_front xs m b)

  abbrev free : Letters
  free = record { a = None; b = None; k = None; sound = unit_comparable }

  abbrev filled : Letters → Choice
  filled l = record { a = unwrap_or l.a type.Unit; b = unwrap_or l.b type.Unit; k = unwrap_or l.k type.Unit; written = written }

  meets_filled : (o : Option Ty) → Meets o (unwrap_or o type.Unit)
  meets_filled None = tt
  meets_filled (Some u) = refl

  filled_suits : (l : Letters) → Suits l (filled l)
  filled_suits l = record { a = meets_filled l.a; b = meets_filled l.b; k = meets_filled l.k; comparable = l.sound; is_written = refl }

  free_suits : (c : Choice) → IsTrue (is_comparable c.k) → c.written ≡ written → Suits free c
  free_suits c may is = record { a = tt; b = tt; k = tt; comparable = may; is_written = is }

  -- some choice of which it holds
  pub record Chosen (Q : Choice → Type 0) : Type 0 where
    pub choice : Choice
    pub comparable : IsTrue (is_comparable choice.k)
    pub is_written : choice.written ≡ written
    pub holds : Q choice

  -- none
  abbrev pub NoneChosen : (Choice → Type 0) → Type 0
  NoneChosen Q = (c : Choice) → IsTrue (is_comparable c.k) → c.written ≡ written → Q c → ⊥

  chosen : (Q : Choice → Type 0) → Answer free Q → Chosen Q ⊎ NoneChosen Q
  chosen Q (inl n) =
      let up = n.holds (filled n.letters) (filled_suits n.letters) in
      inl (record { choice = filled n.letters; comparable = n.letters.sound; is_written = refl; holds = up.1 })
  chosen Q (inr never) = inr (λ c may is q. never c (free_suits c may is) q)

  -- whether operands stand on the stack
  pub front_decided : (xs : List Slot) (b : List Ty) → Chosen (λ c. Front c xs b) ⊎ NoneChosen (λ c. Front c xs b)
  front_decided xs b = chosen (λ c. Front c xs b) (ask_front xs free b)
