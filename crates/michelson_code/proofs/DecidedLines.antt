-- Whether an instruction without bodies finds its operands is decided.
use Rattle.std.proofs.Common.{◌≡◌, ℕ, zero, suc, ◌<◌, Bool, true, false, List, [], ◌∷◌, ◌++◌, length, map, Option, None, Some, inl, inr, refl, ap, sym, subst, ◌∙◌, arith}
use Rattle.std.specs.Prelude.{◌⊎◌, IsTrue}
use Rattle.value_core.specs.declared.ty.Ty.{Ty}
use Rattle.value_core.specs.declared.ty.Ty.TheVariants as type
use Rattle.value_core.specs.declared.ty.Ty.TheOpen as ty
use Rattle.value_core.specs.declared.ty.Ty.TheOpen.{Ty-F}
use Rattle.value_core.specs.declared.ty.Ty.TheViews.{out-Ty, roll-Ty}
use Rattle.value_core.specs.TypeLevels.{roll-out}
use Rattle.value_core.specs.Kinds.{is_comparable}
use Rattle.michelson_code.specs.declared.instr.Instr.TheOpen as one
use Rattle.michelson_code.specs.declared.instr.Instr.TheOpen.{Instr-F}
use Rattle.michelson_code.specs.declared.operands.Level.TheVariants as level
use Rattle.michelson_code.specs.declared.operands.Line.{Line}
use Rattle.michelson_code.specs.declared.operands.Slot.{Slot}
use Rattle.michelson_code.specs.declared.script.Script.{Script}
use Rattle.michelson_code.specs.FirstFault.{IsShort, without_line}
use Rattle.michelson_code.specs.Operands.{lines}
use Rattle.michelson_code.specs.Typing.{Applies, Choice, IsOneOf, comb_type, given_types, slot_list, slot_type, slot_types, by_line, drop_n, dup_n, dig, dug, pair_n, unpair_n}
use Rattle.michelson_code.proofs.Deciding.{Chosen, Decided, Front, NoneChosen, front_decided}
use Rattle.michelson_code.proofs.OperandCounts.{enough_applies}
use Rattle.michelson_code.proofs.Types.{pair_parts, shows}

-- ---- operands on a stack

module _ (w : List Ty) (c : Choice) where
  front_stack : (xs : List Slot) (b : List Ty) → Front w c xs b → (below : List Ty) × (b ≡ map (slot_type c) xs ++ below)
  front_stack [] b front = (b, refl)
  front_stack (x ∷ xs) [] front = absurd front
  front_stack (x ∷ xs) (t ∷ b) front =
      let rest = front_stack xs b front.1 in (rest.0, λ i. sym front.0 i ∷ rest.1 i)

  stack_front : (xs : List Slot) (below b : List Ty) → b ≡ map (slot_type c) xs ++ below → Front w c xs b
  stack_front [] below b same = tt
  stack_front (x ∷ xs) below [] same = cc
  stack_front (x ∷ xs) below (t ∷ b) same =
      let top : slot_type c x ≡ t = cc in
      let rest : b ≡ map (slot_type c) xs ++ below = cc in
      (top, stack_front xs below b rest)

-- ---- some line, or none

module _ (Q : Line → Choice → Type 0) (w : List Ty) (each : (l : Line) → Chosen w (Q l) ⊎ NoneChosen w (Q l)) where
  record OfLine (ls : List Line) : Type 0 where
    pub line : Line
    pub is_line : IsOneOf line ls
    pub chosen : Chosen w (Q line)

  some_line : (ls : List Line) → OfLine ls ⊎ ((l : Line) → IsOneOf l ls → NoneChosen w (Q l))
  some_line [] = inr (λ l is. absurd is)
  some_line (l ∷ ls) = go (each l) (some_line ls)
    where
      go : Chosen w (Q l) ⊎ NoneChosen w (Q l) → OfLine ls ⊎ ((m : Line) → IsOneOf m ls → NoneChosen w (Q m)) →
          OfLine (l ∷ ls) ⊎ ((m : Line) → IsOneOf m (l ∷ ls) → NoneChosen w (Q m))
      go (inl found) rest = inl (record { line = l; is_line = inl refl; chosen = found })
      go (inr none) (inl more) = inl (record { line = more.line; is_line = inr more.is_line; chosen = more.chosen })
      go (inr none) (inr never) = inr none_of
        where
          none_of : (m : Line) → IsOneOf m (l ∷ ls) → NoneChosen w (Q m)
          none_of m (inl same) = subst (λ (k : Line). NoneChosen w (Q k)) (sym same) none
          none_of m (inr is) = never m is

-- ---- so many items

pub record Cut (n : ℕ) (b : List Ty) : Type 0 where
  pub items : List Ty
  pub below : List Ty
  pub long : length items ≡ n
  pub is : b ≡ items ++ below

cut_more : (n : ℕ) (t : Ty) (b : List Ty) → Cut n b ⊎ (length b < n) → Cut (suc n) (t ∷ b) ⊎ (length (t ∷ b) < suc n)
cut_more n t b (inl c) = inl (record { items = t ∷ c.items; below = c.below; long = ap suc c.long; is = λ i. t ∷ c.is i })
cut_more n t b (inr less) = inr (let cons : length (t ∷ b) ≡ suc (length b) = refl in omega arith)

pub cut : (n : ℕ) (b : List Ty) → Cut n b ⊎ (length b < n)
cut zero b = inl (record { items = []; below = b; long = refl; is = refl })
cut (suc n) [] = inr (let none : length {A = Ty} [] ≡ 0 = refl in omega arith)
cut (suc n) (t ∷ b) = cut_more n t b (cut n b)

record CutAt (n : ℕ) (b : List Ty) : Type 0 where
  pub items : List Ty
  pub item : Ty
  pub below : List Ty
  pub long : length items ≡ n
  pub is : b ≡ items ++ item ∷ below

cut_at_more : (n : ℕ) (t : Ty) (b : List Ty) → CutAt n b ⊎ (length b < suc n) → CutAt (suc n) (t ∷ b) ⊎ (length (t ∷ b) < suc (suc n))
cut_at_more n t b (inl c) = inl (record { items = t ∷ c.items; item = c.item; below = c.below; long = ap suc c.long; is = λ i. t ∷ c.is i })
cut_at_more n t b (inr less) = inr (let cons : length (t ∷ b) ≡ suc (length b) = refl in omega arith)

cut_at : (n : ℕ) (b : List Ty) → CutAt n b ⊎ (length b < suc n)
cut_at zero [] = inr (let none : length {A = Ty} [] ≡ 0 = refl in omega arith)
cut_at zero (t ∷ b) = inl (record { items = []; item = t; below = b; long = refl; is = refl })
cut_at (suc n) [] = inr (let none : length {A = Ty} [] ≡ 0 = refl in omega arith)
cut_at (suc n) (t ∷ b) = cut_at_more n t b (cut_at n b)

-- a type is pairs to the right of so many, or it isn't
record Uncombed (n : ℕ) (t : Ty) : Type 0 where
  pub items : List Ty
  pub last : Ty
  pub long : length items ≡ n
  pub is : comb_type items last ≡ t

-- types of some kinds, or of others
as_pair : (t : Ty) → ((a : Ty) × ((b : Ty) × (type.Pair a b ≡ t))) ⊎ ((a b : Ty) → type.Pair a b ≡ t → ⊥)
as_pair t = go (out-Ty t) refl
  where
    shown : (a b : Ty) → out-Ty (type.Pair a b) ≡ ty.Pair a b
    shown a b = shows (λ (s : Ty). s) (level.Pair a b)

    go : (x : Ty-F Ty) → out-Ty t ≡ x → ((a : Ty) × ((b : Ty) × (type.Pair a b ≡ t))) ⊎ ((a b : Ty) → type.Pair a b ≡ t → ⊥)
    go (ty.Pair a b) is = inl (a, (b, sym (roll-out (type.Pair a b)) ∙ ap roll-Ty (shown a b ∙ sym is) ∙ roll-out t))
    go x is = inr (λ a b e. let clash : ty.Pair a b ≡ x = sym (shown a b) ∙ ap out-Ty e ∙ is in cc)

uncomb : (n : ℕ) (t : Ty) → Uncombed n t ⊎ (Uncombed n t → ⊥)
uncomb zero t = inl (record { items = []; last = t; long = refl; is = refl })
uncomb (suc n) t = go (as_pair t) (λ b. uncomb n b)
  where
    longer : (a b : Ty) → type.Pair a b ≡ t → Uncombed (suc n) t → Uncombed n b
    longer a b is u = split u.items u.long u.is
      where
        split : (items : List Ty) → length items ≡ suc n → comb_type items u.last ≡ t → Uncombed n b
        split [] long same = cc
        split (i ∷ items) long same =
            let short : length items ≡ n = cc in
            record { items = items; last = u.last; long = short; is = (pair_parts i (comb_type items u.last) a b (same ∙ sym is)).1 }

    further : (a b : Ty) → type.Pair a b ≡ t → Uncombed n b ⊎ (Uncombed n b → ⊥) → Uncombed (suc n) t ⊎ (Uncombed (suc n) t → ⊥)
    further a b is (inl u) = inl (record { items = a ∷ u.items; last = u.last; long = ap suc u.long; is = ap (type.Pair a) u.is ∙ is })
    further a b is (inr none) = inr (λ u. none (longer a b is u))

    is_pair : Uncombed (suc n) t → (a : Ty) × ((b : Ty) × (type.Pair a b ≡ t))
    is_pair u = split u.items u.long u.is
      where
        split : (items : List Ty) → length items ≡ suc n → comb_type items u.last ≡ t → (a : Ty) × ((b : Ty) × (type.Pair a b ≡ t))
        split [] long same = cc
        split (i ∷ items) long same = (i, (comb_type items u.last, same))

    go : ((a : Ty) × ((b : Ty) × (type.Pair a b ≡ t))) ⊎ ((a b : Ty) → type.Pair a b ≡ t → ⊥) →
        ((b : Ty) → Uncombed n b ⊎ (Uncombed n b → ⊥)) → Uncombed (suc n) t ⊎ (Uncombed (suc n) t → ⊥)
    go (inl p) below = further p.0 p.1.0 p.1.1 (below p.1.0)
    go (inr none) below = inr (λ u. let p = is_pair u in none p.0 p.1.0 p.1.1)

-- ---- instructions without bodies

abbrev pub is_counted : {A : Type 0} → Instr-F A → Bool
is_counted (one.DropN n) = true
is_counted (one.DupN n) = true
is_counted (one.Dig n) = true
is_counted (one.Dug n) = true
is_counted (one.PairN n) = true
is_counted (one.UnpairN n) = true
is_counted _ = false

none_some : (w : List Ty) (o : Option (List Ty)) → o ≡ None → o ≡ Some w → ⊥
none_some w o none some = cc

module _ (s : Script) {A : Type 0} where
  -- something that the instruction leaves
  abbrev pub Left : Instr-F A → List Ty → Type 0
  Left x b = (t : List Ty) × Applies s x b t

  left_of : (x : Instr-F A) (b e t : List Ty) → e ≡ b → Applies s x e t → Decided (Left x b)
  left_of x b e t is applies = inl (t, subst (λ (z : List Ty). Applies s x z t) is applies)

  left_short : (x : Instr-F A) (b : List Ty) → IsShort x b → Decided (Left x b)
  left_short x b short = inr (λ l. enough_applies s x b l.0 short l.1)

  record ByLine (x : Instr-F A) (b : List Ty) : Type 0 where
    pub line : Line
    pub choice : Choice
    pub below : List Ty
    pub is_line : IsOneOf line (lines x)
    pub given : given_types s x ≡ Some choice.written
    pub comparable : IsTrue (is_comparable choice.k)
    pub same : b ≡ slot_types choice line.0 ++ below

  by_its_line : (x : Instr-F A) (b t : List Ty) → is_counted x ≡ false → Applies s x b t → ByLine x b
  by_its_line x b t plain (by_line y l c below is given k) =
      record { line = l; choice = c; below = below; is_line = is; given = given; comparable = k; same = refl }
  by_its_line x b t plain (drop_n n items below long) = cc
  by_its_line x b t plain (dup_n n items a below long) = cc
  by_its_line x b t plain (dig n items a below long) = cc
  by_its_line x b t plain (dug n items a below long) = cc
  by_its_line x b t plain (pair_n n items a below long) = cc
  by_its_line x b t plain (unpair_n n items a below long) = cc

  by_lines : (x : Instr-F A) (b : List Ty) → is_counted x ≡ false → Decided (Left x b)
  by_lines x b plain = go (given_types s x) refl
    where
      taken : (w : List Ty) → given_types s x ≡ Some w → OfLine (λ l c. Front w c (slot_list l.0) b) w (λ l. front_decided w (slot_list l.0) b) (lines x) → Decided (Left x b)
      taken w given f =
          let c = f.chosen.choice in
          let front = front_stack w c (slot_list f.line.0) b f.chosen.holds in
          left_of x b (slot_types c f.line.0 ++ front.0) (slot_types c f.line.1 ++ front.0) (sym front.1)
          (by_line x f.line c front.0 f.is_line (given ∙ ap Some (sym f.chosen.is_written)) f.chosen.comparable)

      missed : (w : List Ty) → given_types s x ≡ Some w → ((l : Line) → IsOneOf l (lines x) → NoneChosen w (λ c. Front w c (slot_list l.0) b)) → Decided (Left x b)
      missed w given never = inr (λ l.
          let found = by_its_line x b l.0 plain l.1 in
          let written : found.choice.written ≡ w = same_some (sym found.given ∙ given) in
          never found.line found.is_line found.choice found.comparable written (stack_front w found.choice (slot_list found.line.0) found.below b found.same))
        where
          same_some : {x y : List Ty} → Some x ≡ Some y → x ≡ y
          same_some e = cc

      go : (o : Option (List Ty)) → given_types s x ≡ o → Decided (Left x b)
      go None given = inr (λ l. let found = by_its_line x b l.0 plain l.1 in none_some found.choice.written (given_types s x) given found.given)
      go (Some w) given = elim (some_line (λ l c. Front w c (slot_list l.0) b) w (λ l. front_decided w (slot_list l.0) b) (lines x)) [
        | inl f ↦ taken w given f
        | inr never ↦ missed w given never
      ]

  no_dup_0 : (b t : List Ty) → Applies s {A = A} (one.DupN zero) b t → ⊥
  no_dup_0 b t (by_line y l c below is given k) = is
  no_dup_0 b t (dup_n n items a below long) = cc

  no_pair_0 : (b t : List Ty) → Applies s {A = A} (one.PairN zero) b t → ⊥
  no_pair_0 b t (by_line y l c below is given k) = is
  no_pair_0 b t (pair_n n items a below long) = cc

  no_unpair_0 : (b t : List Ty) → Applies s {A = A} (one.UnpairN zero) b t → ⊥
  no_unpair_0 b t (by_line y l c below is given k) = is
  no_unpair_0 b t (unpair_n n items a below long) = cc

  combed_top : (m : ℕ) (b t : List Ty) → Applies s {A = A} (one.UnpairN (suc m)) b t → (c : Ty) (r : List Ty) → b ≡ c ∷ r → Uncombed m c
  combed_top m b t (by_line y l ch below is given k) c r same = absurd is
  combed_top m b t (unpair_n n items a below long) c r same =
      let top : comb_type items a ≡ c = cc in
      let count : length items ≡ m = cc in
      record { items = items; last = a; long = count; is = top }

  -- whether the instruction finds its operands
  pub applies_decided : (x : Instr-F A) (b : List Ty) → Decided (Left x b)
  applies_decided (one.DropN n) b = elim (cut n b) [
    | inl c ↦ left_of (one.DropN n) b (c.items ++ c.below) c.below (sym c.is) (drop_n n c.items c.below c.long)
    | inr less ↦ left_short (one.DropN n) b (without_line refl less)
  ]
  applies_decided (one.DupN zero) b = inr (λ l. no_dup_0 b l.0 l.1)
  applies_decided (one.DupN (suc n)) b = elim (cut_at n b) [
    | inl c ↦ left_of (one.DupN (suc n)) b (c.items ++ c.item ∷ c.below) (c.item ∷ (c.items ++ c.item ∷ c.below)) (sym c.is) (dup_n (suc n) c.items c.item c.below (ap suc c.long))
    | inr less ↦ left_short (one.DupN (suc n)) b (without_line refl less)
  ]
  applies_decided (one.Dig n) b = elim (cut_at n b) [
    | inl c ↦ left_of (one.Dig n) b (c.items ++ c.item ∷ c.below) (c.item ∷ (c.items ++ c.below)) (sym c.is) (dig n c.items c.item c.below c.long)
    | inr less ↦ left_short (one.Dig n) b (without_line refl less)
  ]
  applies_decided (one.Dug n) [] = left_short (one.Dug n) [] (without_line refl (let none : length {A = Ty} [] ≡ 0 = refl in omega arith))
  applies_decided (one.Dug n) (t ∷ b) = elim (cut n b) [
    | inl c ↦ left_of (one.Dug n) (t ∷ b) (t ∷ (c.items ++ c.below)) (c.items ++ t ∷ c.below) (λ i. t ∷ sym c.is i) (dug n c.items t c.below c.long)
    | inr less ↦ left_short (one.Dug n) (t ∷ b) (without_line refl (let cons : length (t ∷ b) ≡ suc (length b) = refl in omega arith))
  ]
  applies_decided (one.PairN zero) b = inr (λ l. no_pair_0 b l.0 l.1)
  applies_decided (one.PairN (suc n)) b = elim (cut_at n b) [
    | inl c ↦ left_of (one.PairN (suc n)) b (c.items ++ c.item ∷ c.below) (comb_type c.items c.item ∷ c.below) (sym c.is) (pair_n (suc n) c.items c.item c.below (ap suc c.long))
    | inr less ↦ left_short (one.PairN (suc n)) b (without_line refl less)
  ]
  applies_decided (one.UnpairN zero) b = inr (λ l. no_unpair_0 b l.0 l.1)
  applies_decided (one.UnpairN (suc n)) [] = left_short (one.UnpairN (suc n)) [] (without_line refl (let none : length {A = Ty} [] ≡ 0 = refl in omega arith))
  applies_decided (one.UnpairN (suc n)) (t ∷ b) = elim (uncomb n t) [
    | inl u ↦ left_of (one.UnpairN (suc n)) (t ∷ b) (comb_type u.items u.last ∷ b) (u.items ++ u.last ∷ b) (λ i. u.is i ∷ b) (unpair_n (suc n) u.items u.last b (ap suc u.long))
    | inr none ↦ inr (λ l. none (combed_top n (t ∷ b) l.0 l.1 t b refl))
  ]
  applies_decided one.Drop b = by_lines one.Drop b refl
  applies_decided x b = by_lines x b refl
