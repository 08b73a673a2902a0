-- How an instruction ends that may begin.
use Rattle.std.proofs.Common.{◌≡◌, ℕ, suc, ◌-◌, ◌<◌, ◌≤◌, true, false, List, [], ◌∷◌, length, take, drop, get_or, Option, None, Some, refl, ap, sym, subst, ◌∙◌, arith, length-append}
use Rattle.std.specs.Prelude.{◌&&◌, Result, Ok}
use Rattle.std.proofs.lemmas.Bool.{and_parts}
use Rattle.std.proofs.lemmas.List.{length-map}
use Rattle.std.proofs.Math.Seq.{take-length}
use Rattle.value_core.specs.declared.ty.Ty.{Ty}
use Rattle.value_core.specs.declared.ty.Ty.TheVariants as type
use Rattle.michelson_code.specs.declared.instr.Instr.{Instr}
use Rattle.michelson_code.specs.declared.instr.Instr.TheOpen as one
use Rattle.michelson_code.specs.declared.instr.Instr.TheOpen.{Instr-F}
use Rattle.michelson_code.specs.declared.instr.Instr.TheViews.{out-Instr}
use Rattle.michelson_code.specs.declared.operands.Level.{Level}
use Rattle.michelson_code.specs.declared.operands.Level.TheVariants as level
use Rattle.michelson_code.specs.declared.type_fault.TypeKind.{TypeKind}
use Rattle.michelson_code.specs.Forms.{bodies_of}
use Rattle.michelson_code.specs.Typing.{MayBegin, Outcome, Runs, Start, level_type, dip, dip_n, map_list, map_map}
use Rattle.michelson_typer.specs.Closed.{Closes, IsDipped, IsJoined, IsMapped, IsRound, LeavesOne, RemakesLevel, are_ends_in, is_end_in}
use Rattle.michelson_typer.specs.Opened.{BeginsOn, dips}
use Rattle.michelson_typer.specs.Tables.{Grows, IsDistinct, IsTypeOf, are_in, type_at, types_at}
use Rattle.michelson_typer.proofs.ClosingLaws.{closes_dip, closes_dip_n, closes_iter, closes_loop, closes_loop_left, closes_none, closes_two}
use Rattle.michelson_typer.proofs.MappingLaws.{closes_map, remade_whole}
use Rattle.michelson_typer.proofs.OpeningLaws.{nothing_begins, shut_loop_left}

-- ---- the top and the rest

headed : (stack : List ℕ) → 1 ≤ length stack → stack ≡ get_or stack 0 0 ∷ drop 1 stack
headed [] some = absurd (let none : length {A = ℕ} [] ≡ 0 = refl in omega arith)
headed (top ∷ rest) some = refl

front : (stack : List ℕ) → 1 ≤ length stack → take 1 stack ≡ get_or stack 0 0 ∷ []
front [] some = absurd (let none : length {A = ℕ} [] ≡ 0 = refl in omega arith)
front (top ∷ rest) some = refl

-- the rest as it is read
pub rest_is : (stack : List ℕ) → take (length stack - 1) (drop 1 stack) ≡ drop 1 stack
rest_is [] = refl
rest_is (top ∷ rest) =
    let long : length (top ∷ rest) ≡ suc (length rest) = refl in
    let less : length (top ∷ rest) - 1 ≡ length rest = omega arith in
    ap (λ (n : ℕ). take n rest) less ∙ take-length rest

at_least : (t : Ty) (u : List Ty) (stack : List ℕ) (T : List Ty) → t ∷ u ≡ types_at T stack → 1 ≤ length stack
at_least t u [] T same = cc
at_least t u (top ∷ rest) T same = let long : length (top ∷ rest) ≡ suc (length rest) = refl in omega arith

dip_top : {A : Type 0} (c : List A) (b : List Ty) (st : List Start) (es : List Outcome) (o : Outcome) → Runs (one.Dip c) b st es o → (stack : List ℕ) (T : List Ty) → b ≡ types_at T stack → 1 ≤ length stack
dip_top c b st es o (dip c' a u v) stack T same = at_least a u stack T same

map_top : {A : Type 0} (c : List A) (b : List Ty) (st : List Start) (es : List Outcome) (o : Outcome) → Runs (one.Map c) b st es o → (stack : List ℕ) (T : List Ty) → b ≡ types_at T stack → 1 ≤ length stack
map_top c b st es o (map_list c' a m u) stack T same = at_least (type.List a) u stack T same
map_top c b st es o (map_map c' k v m u) stack T same = at_least (type.Map k v) u stack T same

dip_n_long : {A : Type 0} (n : ℕ) (c : List A) (b : List Ty) (st : List Start) (es : List Outcome) (o : Outcome) → Runs (one.DipN n c) b st es o → n ≤ length b
dip_n_long n c b st es o (dip_n n' c' items u v long) = let sum = length-append items u in omega arith

-- ---- an instruction that may begin

module _ (T : List Ty) (i : Instr) (stack : List ℕ) (begun : MayBegin i (types_at T stack)) (stands : are_in T stack ≡ true) where
  line_of : (x : Instr-F Instr) → out-Instr i ≡ x → Runs x (types_at T stack) begun.0 begun.1.0 begun.1.1.0
  line_of x is = subst (λ (y : Instr-F Instr). Runs y (types_at T stack) begun.0 begun.1.0 begun.1.1.0) is begun.1.1.1

  begins : BeginsOn i (types_at T stack) begun.0
  begins = record { ends = begun.1.0; outcome = begun.1.1.0; line = begun.1.1.1 }

  -- it finds a stack
  pub finds_top : length stack < 1 → dips (out-Instr i) ≡ false → ⊥
  finds_top less not_so = nothing_begins T i stack less not_so begun.0 begins

  pub finds_or : (c : List Instr) (l : Level ℕ) → out-Instr i ≡ one.LoopLeft c → 1 ≤ length stack → type_at T (get_or stack 0 0) ≡ level_type (type_at T) l → ((a b : ℕ) → l ≡ level.Or a b → ⊥) → ⊥
  finds_or c l is some at other =
      let split = headed stack some in
      shut_loop_left T i (get_or stack 0 0) (drop 1 stack) (ap (are_in T) (sym split) ∙ stands) c l is at other begun.0
      (subst (λ (z : List ℕ). BeginsOn i (types_at T z) begun.0) split begins)

  pub finds_n : (n : ℕ) (c : List Instr) → out-Instr i ≡ one.DipN n c → n ≤ length stack
  finds_n n c is = let long = dip_n_long n c (types_at T stack) begun.0 begun.1.0 begun.1.1.0 (line_of (one.DipN n c) is) in let same = length-map stack (type_at T) in omega arith

  module _ (apart : IsDistinct T) where
    pub ending_none : (left : List (Option (List ℕ))) → left ≡ [] → length left ≡ length (bodies_of i) → Closes T T i stack left (Ok None)
    ending_none left none many =
        subst (λ (z : List (Option (List ℕ))). Closes T T i stack z (Ok None)) (sym none)
        (closes_none T apart i stack (out-Instr i) (types_at T stack) begun.0 begun.1.0 begun.1.1.0 begun.1.1.1 refl refl (ap length (sym none) ∙ many))

    pub ending_two : (left : List (Option (List ℕ))) (e f : Option (List ℕ)) (r : Result (Option (List ℕ)) TypeKind) → left ≡ e ∷ f ∷ [] → length left ≡ length (bodies_of i) → are_ends_in T left ≡ true →
        IsJoined e f r → Closes T T i stack left r
    ending_two left e f r is many within joined =
        let both : (is_end_in T e && (is_end_in T f && true)) ≡ true = ap (are_ends_in T) (sym is) ∙ within in
        let parts = and_parts (is_end_in T e) (is_end_in T f && true) both in
        subst (λ (z : List (Option (List ℕ))). Closes T T i stack z r) (sym is)
        (closes_two T apart i stack (out-Instr i) (types_at T stack) begun.0 begun.1.0 begun.1.1.0 begun.1.1.1 refl refl (ap length (sym is) ∙ many) e f r joined parts.0 (and_parts (is_end_in T f) true parts.1).0)

    module _ (e : Option (List ℕ)) (within : is_end_in T e ≡ true) (r : Result (Option (List ℕ)) TypeKind) where
      pub ending_dip : (c : List Instr) → out-Instr i ≡ one.Dip c → IsDipped (take 1 stack) e r → Closes T T i stack (e ∷ []) r
      ending_dip c is dipped =
          let some = dip_top c (types_at T stack) begun.0 begun.1.0 begun.1.1.0 (line_of (one.Dip c) is) stack T refl in
          closes_dip T apart i stack c is (get_or stack 0 0) (drop 1 stack) (headed stack some) stands e within r (subst (λ (z : List ℕ). IsDipped z e r) (front stack some) dipped)

      pub ending_dip_n : (n : ℕ) (c : List Instr) → out-Instr i ≡ one.DipN n c → IsDipped (take n stack) e r → Closes T T i stack (e ∷ []) r
      ending_dip_n n c is dipped = closes_dip_n T apart i stack n c is (finds_n n c is) stands e within r dipped

      pub ending_loop : (c : List Instr) → out-Instr i ≡ one.Loop c → 1 ≤ length stack → IsRound stack (drop 1 stack) e r → Closes T T i stack (e ∷ []) r
      ending_loop c is some round =
          closes_loop T apart i stack c (types_at T stack) begun.0 begun.1.0 begun.1.1.0 (line_of (one.Loop c) is) refl is (get_or stack 0 0) (drop 1 stack) (headed stack some) stands e within r round

      pub ending_loop_left : (c : List Instr) (a b : ℕ) → out-Instr i ≡ one.LoopLeft c → 1 ≤ length stack → type_at T (get_or stack 0 0) ≡ type.Or (type_at T a) (type_at T b) → are_in T (a ∷ b ∷ []) ≡ true →
          IsRound stack (b ∷ drop 1 stack) e r → Closes T T i stack (e ∷ []) r
      ending_loop_left c a b is some at parts round =
          closes_loop_left T apart i stack c (types_at T stack) begun.0 begun.1.0 begun.1.1.0 (line_of (one.LoopLeft c) is) refl is (get_or stack 0 0) a b (drop 1 stack) (headed stack some) at stands parts e within r round

      pub ending_iter : (c : List Instr) → out-Instr i ≡ one.Iter c → 1 ≤ length stack → IsRound (drop 1 stack) (drop 1 stack) e r → Closes T T i stack (e ∷ []) r
      ending_iter c is some round =
          closes_iter T apart i stack c (types_at T stack) begun.0 begun.1.0 begun.1.1.0 (line_of (one.Iter c) is) refl is (get_or stack 0 0) (drop 1 stack) (headed stack some) stands e within r round

      pub ending_map : (new : List Ty) → Grows T new → (c : List Instr) → out-Instr i ≡ one.Map c → IsMapped T new stack e r → Closes T new i stack (e ∷ []) r
      ending_map new grown c is mapped =
          let line = line_of (one.Map c) is in
          let some = map_top c (types_at T stack) begun.0 begun.1.0 begun.1.1.0 line stack T refl in
          closes_map T apart i stack stands new grown c is (types_at T stack) begun.0 begun.1.0 begun.1.1.0 line refl (get_or stack 0 0) (drop 1 stack) (headed stack some) e within r mapped

-- ---- the whole of what a body made

pub one_left : (T new : List Ty) (stack left read ids : List ℕ) (whole : ℕ) (l : Level ℕ) → read ≡ left → 1 ≤ length read → 1 ≤ length stack →
    take (length read - 1) (drop 1 read) ≡ take (length stack - 1) (drop 1 stack) →
    RemakesLevel T (get_or stack 0 0) (get_or read 0 0) l → IsTypeOf new whole (level_type (type_at T) l) → ids ≡ whole ∷ take (length stack - 1) (drop 1 stack) →
    LeavesOne T new stack left (Some ids)
one_left T new stack left read ids whole l read_is some_left some same remakes number is = record {
  top = get_or stack 0 0;
  made = get_or read 0 0;
  whole = whole;
  rest = drop 1 stack;
  stack_is = headed stack some;
  left_is = sym read_is ∙ headed read some_left ∙ (λ j. get_or read 0 0 ∷ (sym (rest_is read) ∙ same ∙ rest_is stack) j);
  is = ap Some (is ∙ (λ j. whole ∷ rest_is stack j));
  remade = remade_whole T new (get_or stack 0 0) (get_or read 0 0) whole l remakes number;
}
