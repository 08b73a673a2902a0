-- What the body of `MAP` leaves.
use Rattle.std.proofs.Common.{◌≡◌, ℕ, ◌<◌, Bool, true, false, List, [], ◌∷◌, length, Option, None, Some, refl, ap, sym, subst, ◌∙◌, arith, length-append}
use Rattle.std.specs.Prelude.{◌==◌, Result, Ok, Err}
use Rattle.std.proofs.lemmas.Bool.{and_from, and_parts, lt-ltb}
use Rattle.value_core.specs.declared.ty.Ty.{Ty}
use Rattle.value_core.specs.declared.ty.Ty.TheVariants as type
use Rattle.michelson_code.specs.declared.instr.Instr.{Instr}
use Rattle.michelson_code.specs.declared.instr.Instr.TheOpen as one
use Rattle.michelson_code.specs.declared.instr.Instr.TheOpen.{Instr-F}
use Rattle.michelson_code.specs.declared.instr.Instr.TheViews.{out-Instr}
use Rattle.michelson_code.specs.declared.operands.Level.{Level}
use Rattle.michelson_code.specs.declared.operands.Level.TheVariants as level
use Rattle.michelson_code.specs.declared.type_fault.TypeKind.{TypeKind}
use Rattle.michelson_code.specs.FirstFault.{FailsInside, in_map}
use Rattle.michelson_code.specs.Typing.{Outcome, To, Fails, Runs, Start, level_type, map_list, map_map}
use Rattle.michelson_code.proofs.DecidedBodies.{itself}
use Rattle.michelson_code.proofs.DecidedEnds.{goes_in, map_ends}
use Rattle.michelson_code.proofs.Types.{level_kind, list_is_no_map, map_parts, one_kind}
use Rattle.michelson_typer.specs.Closed.{Closes, IsMapped, LeavesOne, Remakes, RemakesLevel, end_at, is_end_in}
use Rattle.michelson_typer.specs.Tables.{Grows, IsDistinct, IsTypeOf, are_in, type_at, types_at}
use Rattle.michelson_typer.proofs.ClosingLaws.{same_ids}
use Rattle.michelson_typer.proofs.OpeningLaws.{unlike_map}
use Rattle.michelson_typer.proofs.TableLaws.{below_more, types_at-behind}

clash : (b : Bool) → b ≡ true → b ≡ false → ⊥
clash b one_way other = cc

-- ---- the level of the whole

one_in : (T : List Ty) (id : ℕ) → id < length T → are_in T (id ∷ []) ≡ true
one_in T id within = and_from _ _ (lt-ltb id (length T) within) refl

pub remakes_map : (T : List Ty) (top made k v : ℕ) → made < length T → type_at T top ≡ type.Map (type_at T k) (type_at T v) → are_in T (k ∷ v ∷ []) ≡ true →
    RemakesLevel T top made (level.Map k made)
remakes_map T top made k v within at parts = record {
  parts = and_from _ _ (and_parts _ _ parts).0 (one_in T made within);
  of_list = λ a is. absurd (list_is_no_map a (type_at T k) (type_at T v) (sym is ∙ at));
  of_map = λ l w is. let both = map_parts (type_at T k) (type_at T v) l w (sym at ∙ is) in λ j. type.Map (both.0 j) (type_at T made);
}

pub remakes_list : (T : List Ty) (top made : ℕ) (l : Level ℕ) → made < length T → type_at T top ≡ level_type (type_at T) l → ((k v : ℕ) → l ≡ level.Map k v → ⊥) →
    RemakesLevel T top made (level.List made)
remakes_list T top made l within at other = record {
  parts = one_in T made within;
  of_list = λ a is. refl;
  of_map = λ k v is. absurd (clash (level_kind l == 14) (ap (λ (n : ℕ). n == 14) (one_kind (type_at T) itself l (level.Map k v) (sym at ∙ is))) (unlike_map l other));
}

-- by a table that grew
pub remade_whole : (old new : List Ty) (top made whole : ℕ) (l : Level ℕ) → RemakesLevel old top made l → IsTypeOf new whole (level_type (type_at old) l) → Remakes old new top made whole
remade_whole old new top made whole l remakes number = record {
  within = number.within;
  of_list = λ a is. number.is ∙ remakes.of_list a is;
  of_map = λ k v is. number.is ∙ remakes.of_map k v is;
}

-- ---- the line

module _ (T : List Ty) (apart : IsDistinct T) (i : Instr) (stack : List ℕ) (stands : are_in T stack ≡ true) where
  behind : (new : List Ty) → Grows T new → (ids : List ℕ) → are_in T ids ≡ true → types_at new ids ≡ types_at T ids
  behind new grown ids within = ap (λ (table : List Ty). types_at table ids) grown.is ∙ types_at-behind T grown.more ids within

  longer : (new : List Ty) → Grows T new → (ids : List ℕ) → are_in T ids ≡ true → are_in new ids ≡ true
  longer new grown ids within = below_more (length T) (length new) ids (let is = ap length grown.is in let sum = length-append T grown.more in omega arith) within

  -- the whole stands on what stood below
  mapped_line : (new : List Ty) → Grows T new → (c : List Instr) (b : List Ty) (st : List Start) (es : List Outcome) (p : Outcome) → Runs (one.Map c) b st es p → b ≡ types_at T stack →
      (left : List ℕ) (o : Option (List ℕ)) → (m : LeavesOne T new stack left o) → (st' : List Start) × Runs (one.Map c) (types_at T stack) st' (To (types_at T left) ∷ []) (end_at new o)
  mapped_line new grown c b st es p (map_list c' a made u) same left o m =
      let all : type.List a ∷ u ≡ type_at T m.top ∷ types_at T m.rest = same ∙ ap (types_at T) m.stack_is in
      let down : u ≡ types_at T m.rest = cc in
      let tops : type.List a ≡ type_at T m.top = cc in
      let below : types_at new m.rest ≡ u = behind new grown m.rest (and_parts _ _ (ap (are_in T) (sym m.stack_is) ∙ stands)).1 ∙ sym down in
      let whole = m.remade.of_list a (sym tops) in (
        (0, a ∷ u) ∷ [],
        subst (λ (z : Outcome). Runs (one.Map c) (types_at T stack) ((0, a ∷ u) ∷ []) (To (types_at T left) ∷ []) z)
            ((λ j. To (sym whole j ∷ sym below j)) ∙ ap (end_at new) (sym m.is))
            (subst (λ (z : List Ty). Runs (one.Map c) (types_at T stack) ((0, a ∷ u) ∷ []) (To z ∷ []) (To (type.List (type_at T m.made) ∷ u)))
            ((λ j. type_at T m.made ∷ down j) ∙ ap (types_at T) (sym m.left_is))
            (subst (λ (z : List Ty). Runs (one.Map c) z ((0, a ∷ u) ∷ []) (To (type_at T m.made ∷ u) ∷ []) (To (type.List (type_at T m.made) ∷ u))) same
            (map_list c a (type_at T m.made) u))),
      )
  mapped_line new grown c b st es p (map_map c' k v made u) same left o m =
      let all : type.Map k v ∷ u ≡ type_at T m.top ∷ types_at T m.rest = same ∙ ap (types_at T) m.stack_is in
      let down : u ≡ types_at T m.rest = cc in
      let tops : type.Map k v ≡ type_at T m.top = cc in
      let below : types_at new m.rest ≡ u = behind new grown m.rest (and_parts _ _ (ap (are_in T) (sym m.stack_is) ∙ stands)).1 ∙ sym down in
      let whole = m.remade.of_map k v (sym tops) in (
        (0, type.Pair k v ∷ u) ∷ [],
        subst (λ (z : Outcome). Runs (one.Map c) (types_at T stack) ((0, type.Pair k v ∷ u) ∷ []) (To (types_at T left) ∷ []) z)
            ((λ j. To (sym whole j ∷ sym below j)) ∙ ap (end_at new) (sym m.is))
            (subst (λ (z : List Ty). Runs (one.Map c) (types_at T stack) ((0, type.Pair k v ∷ u) ∷ []) (To z ∷ []) (To (type.Map k (type_at T m.made) ∷ u)))
            ((λ j. type_at T m.made ∷ down j) ∙ ap (types_at T) (sym m.left_is))
            (subst (λ (z : List Ty). Runs (one.Map c) z ((0, type.Pair k v ∷ u) ∷ []) (To (type_at T m.made ∷ u) ∷ []) (To (type.Map k (type_at T m.made) ∷ u))) same
            (map_map c k v (type_at T m.made) u))),
      )

  -- a stack of one item on what stood below has such numbers
  one_on : (top : ℕ) (rest left : List ℕ) → stack ≡ top ∷ rest → are_in T left ≡ true → (v : Ty) → types_at T left ≡ v ∷ types_at T rest → (made : ℕ) × (left ≡ made ∷ rest)
  one_on top rest [] split within v same = cc
  one_on top rest (made ∷ under) split within v same =
      let down : types_at T under ≡ types_at T rest = cc in
      (made, (λ j. made ∷ same_ids T apart under rest (and_parts _ _ within).1 (and_parts _ _ (ap (are_in T) (sym split) ∙ stands)).1 down j))

  pub closes_map : (new : List Ty) → Grows T new → (c : List Instr) → out-Instr i ≡ one.Map c → (b : List Ty) (st : List Start) (es : List Outcome) (p : Outcome) → Runs (one.Map c) b st es p → b ≡ types_at T stack →
      (top : ℕ) (rest : List ℕ) → stack ≡ top ∷ rest → (e : Option (List ℕ)) → is_end_in T e ≡ true → (r : Result (Option (List ℕ)) TypeKind) → IsMapped T new stack e r → Closes T new i stack (e ∷ []) r
  closes_map new grown c is b st es p line same top rest split None within (Ok o) mapped = absurd mapped
  closes_map new grown c is b st es p line same top rest split None within (Err k) mapped =
      subst (λ (z : TypeKind). Closes T new i stack (None ∷ []) (Err z)) (sym mapped) (subst (λ (y : Instr-F Instr). FailsInside y (Fails ∷ [])) (sym is) (in_map c))
  closes_map new grown c is b st es p line same top rest split (Some left) within (Ok o) m =
      let l = mapped_line new grown c b st es p line same left o m in (
        record { starts = l.0; line = subst (λ (y : Instr-F Instr). Runs y (types_at T stack) l.0 (To (types_at T left) ∷ []) (end_at new o)) (sym is) l.1 },
        ap (is_end_in new) m.is ∙ and_from _ _ (lt-ltb m.whole (length new) m.remade.within) (longer new grown m.rest (and_parts _ _ (ap (are_in T) (sym m.stack_is) ∙ stands)).1),
      )
  closes_map new grown c is b st es p line same top rest split (Some left) within (Err k) mapped =
      subst (λ (z : TypeKind). Closes T new i stack (Some left ∷ []) (Err z)) (sym mapped.0) (record {
        may = λ inside. goes_in (one.Map c) (types_at T left) (subst (λ (y : Instr-F Instr). FailsInside y (To (types_at T left) ∷ [])) is inside);
        no_line = λ o l.
            let m = map_ends c (types_at T stack) l.starts (To (types_at T left) ∷ []) o (subst (λ (y : Instr-F Instr). Runs y (types_at T stack) l.starts (To (types_at T left) ∷ []) o) is l.line)
            (type_at T top) (types_at T rest) (ap (types_at T) split) (types_at T left) refl in
            let on = one_on top rest left split within m.0 m.1 in
            mapped.1 on.0 top rest on.1 split;
      })
