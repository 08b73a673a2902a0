-- What an instruction makes of how its bodies end.
use Rattle.std.proofs.Common.{◌≡◌, ℕ, suc, ◌≤◌, true, List, [], ◌∷◌, ◌++◌, length, take, drop, Option, None, Some, refl, ap, sym, subst, ◌∙◌, arith}
use Rattle.std.specs.Prelude.{Result, Ok, Err, nat_lt}
use Rattle.std.specs.List.{list_all}
use Rattle.std.proofs.lemmas.Bool.{and_from, and_parts, ltb-true}
use Rattle.std.proofs.lemmas.List.{length-map, length-take-le, map-append, take-append-drop}
use Rattle.std.proofs.lemmas.List.Folds.{list_all-append}
use Rattle.michelson_code.proofs.Types.{or_parts}
use Rattle.value_core.specs.declared.ty.Ty.{Ty}
use Rattle.value_core.specs.declared.ty.Ty.TheVariants as type
use Rattle.michelson_code.specs.declared.instr.Instr.{Instr}
use Rattle.michelson_code.specs.declared.instr.Instr.TheOpen as one
use Rattle.michelson_code.specs.declared.instr.Instr.TheOpen.{Instr-F}
use Rattle.michelson_code.specs.declared.instr.Instr.TheViews.{out-Instr}
use Rattle.michelson_code.specs.declared.type_fault.TypeKind.{TypeKind}
use Rattle.michelson_code.specs.declared.type_fault.TypeKind.TheVariants as kind
use Rattle.michelson_code.specs.FirstFault.{FailsInside, in_dip, in_dip_n}
use Rattle.michelson_code.specs.Forms.{bodies, form_at}
use Rattle.michelson_code.specs.Typing.{EndsWith, Joined, Outcome, To, Fails, Runs, Start, alike, first_fails, second_fails, with_it, failing, dip, dip_n, if_true, if_none, if_left, if_cons, loop, loop_left, iter_list, iter_set, iter_map, map_list, map_map, failwith}
use Rattle.michelson_code.proofs.DecidedEnds.{iter_ends, lenient, loop_ends, loop_left_ends, may_fail, two_joined}
use Rattle.michelson_typer.specs.Closed.{Closes, EndsAs, IsDipped, IsJoined, IsRound, end_at, ends_at, is_end_in}
use Rattle.michelson_typer.specs.Tables.{IsDistinct, are_in, type_at, types_at}
use Rattle.michelson_typer.proofs.OpeningLaws.{cut_types}

-- ---- equal numbers

-- stacks of equal types have equal numbers
pub same_ids : (T : List Ty) → IsDistinct T → (a b : List ℕ) → are_in T a ≡ true → are_in T b ≡ true → types_at T a ≡ types_at T b → a ≡ b
same_ids T apart [] [] first second same = refl
same_ids T apart [] (y ∷ ys) first second same = cc
same_ids T apart (x ∷ xs) [] first second same = cc
same_ids T apart (x ∷ xs) (y ∷ ys) first second same =
    let one = and_parts _ _ first in
    let other = and_parts _ _ second in
    let top : type_at T x ≡ type_at T y = cc in
    let rest : types_at T xs ≡ types_at T ys = cc in
    let heads = apart x y (ltb-true x (length T) one.0) (ltb-true y (length T) other.0) top in
    let tails = same_ids T apart xs ys one.1 other.1 rest in
    λ j. heads j ∷ tails j

to_parts : (s t : List Ty) → To s ≡ To t → s ≡ t
to_parts s t same = cc

ended_with : (s : List Ty) (o : Outcome) → EndsWith s o → (t : List Ty) → o ≡ To t → t ≡ s
ended_with s o (with_it u) t is = sym (to_parts u t is)
ended_with s o (failing u) t is = cc

pub ends_with : (T : List Ty) (wanted : List ℕ) (e : Option (List ℕ)) → EndsAs wanted e → EndsWith (types_at T wanted) (end_at T e)
ends_with T wanted None so = failing (types_at T wanted)
ends_with T wanted (Some ids) so = subst (λ (z : List ℕ). EndsWith (types_at T wanted) (To (types_at T z))) (sym so) (with_it (types_at T wanted))

pub ends_so : (T : List Ty) → IsDistinct T → (wanted : List ℕ) (e : Option (List ℕ)) → are_in T wanted ≡ true → is_end_in T e ≡ true →
    EndsWith (types_at T wanted) (end_at T e) → EndsAs wanted e
ends_so T apart wanted None stands within ended = tt
ends_so T apart wanted (Some ids) stands within ended =
    same_ids T apart ids wanted within stands (ended_with (types_at T wanted) (To (types_at T ids)) ended (types_at T ids) refl)

-- ---- branches

joined_both : (e f o : Outcome) → Joined e f o → (s t : List Ty) → e ≡ To s → f ≡ To t → s ≡ t
joined_both e f o (alike p) s t first second = to_parts s t (sym first ∙ second)
joined_both e f o (first_fails p) s t first second = cc
joined_both e f o (second_fails p) s t first second = cc

-- the answer, by a table
pub joined_at : (T : List Ty) (e f o : Option (List ℕ)) → IsJoined e f (Ok o) → Joined (end_at T e) (end_at T f) (end_at T o)
joined_at T None f o is = subst (λ (z : Option (List ℕ)). Joined Fails (end_at T f) (end_at T z)) (sym is) (first_fails (end_at T f))
joined_at T (Some a) None o is = subst (λ (z : Option (List ℕ)). Joined (To (types_at T a)) Fails (end_at T z)) (sym is) (second_fails (To (types_at T a)))
joined_at T (Some a) (Some b) o is =
    subst (λ (z : Option (List ℕ)). Joined (To (types_at T a)) (To (types_at T b)) (end_at T z)) (sym is.1)
    (subst (λ (z : List ℕ). Joined (To (types_at T a)) (To (types_at T z)) (To (types_at T a))) is.0 (alike (To (types_at T a))))

joined_in : (T : List Ty) (e f o : Option (List ℕ)) → IsJoined e f (Ok o) → is_end_in T e ≡ true → is_end_in T f ≡ true → is_end_in T o ≡ true
joined_in T None f o is first second = ap (is_end_in T) is ∙ second
joined_in T (Some a) None o is first second = ap (is_end_in T) is ∙ first
joined_in T (Some a) (Some b) o is first second = ap (is_end_in T) is.1 ∙ first

-- branches that don't join
not_joined : (T : List Ty) → IsDistinct T → (e f : Option (List ℕ)) (k : TypeKind) → IsJoined e f (Err k) → is_end_in T e ≡ true → is_end_in T f ≡ true →
    (k ≡ kind.BranchesDiffer) × ((o : Outcome) → Joined (end_at T e) (end_at T f) o → ⊥)
not_joined T apart None None k is first second = absurd is
not_joined T apart None (Some b) k is first second = absurd is
not_joined T apart (Some a) None k is first second = absurd is
not_joined T apart (Some a) (Some b) k is first second =
    (is.0, λ o j. is.1 (same_ids T apart a b first second (joined_both _ _ o j (types_at T a) (types_at T b) refl refl)))

-- ---- parts of a stack

put_in : (T : List Ty) (a b : List ℕ) → are_in T a ≡ true → are_in T b ≡ true → are_in T (a ++ b) ≡ true
put_in T a b first second = list_all-append (λ id. nat_lt id (length T)) a b ∙ and_from _ _ first second

above_in : (T : List Ty) (n : ℕ) (stack : List ℕ) → are_in T stack ≡ true → are_in T (take n stack) ≡ true
above_in T n stack within =
    let whole = ap (list_all (λ id. nat_lt id (length T))) (take-append-drop n stack) ∙ within in
    (and_parts _ _ (sym (list_all-append (λ id. nat_lt id (length T)) (take n stack) (drop n stack)) ∙ whole)).0

-- ---- how many bodies

has_one : (c : List Instr) → 0 ≡ length (c ∷ []) → ⊥
has_one c none = let long : length (c ∷ []) ≡ suc (length {A = List Instr} []) = refl in omega arith

has_two : (c d : List Instr) → 0 ≡ length (c ∷ d ∷ []) → ⊥
has_two c d none = let long : length (c ∷ d ∷ []) ≡ suc (length (d ∷ [])) = refl in omega arith

has_none : 2 ≡ length {A = List Instr} [] → ⊥
has_none two = let none : length {A = List Instr} [] ≡ 0 = refl in omega arith

one_only : (c : List Instr) → 2 ≡ length (c ∷ []) → ⊥
one_only c two = let long : length (c ∷ []) ≡ suc (length {A = List Instr} []) = refl in let none : length {A = List Instr} [] ≡ 0 = refl in omega arith

tail_in : (T : List Ty) (top : ℕ) (rest : List ℕ) → are_in T (top ∷ rest) ≡ true → are_in T rest ≡ true
tail_in T top rest within = (and_parts _ _ within).1

-- ---- lines

module _ (T : List Ty) (apart : IsDistinct T) (i : Instr) (stack : List ℕ) where
  closes_joined : (x : Instr-F Instr) (e f : Option (List ℕ)) (r : Result (Option (List ℕ)) TypeKind) → out-Instr i ≡ x → may_fail x ≡ true → IsJoined e f r →
      is_end_in T e ≡ true → is_end_in T f ≡ true →
      (st : List Start) → ((g h p : Outcome) → Joined g h p → Runs x (types_at T stack) st (g ∷ h ∷ []) p) → Closes T T i stack (e ∷ f ∷ []) r
  closes_joined x e f (Ok o) is may joined first second st make = (
    record { starts = st; line = subst (λ (y : Instr-F Instr). Runs y (types_at T stack) st (end_at T e ∷ end_at T f ∷ []) (end_at T o)) (sym is) (make _ _ _ (joined_at T e f o joined)) },
    joined_in T e f o joined first second,
  )
  closes_joined x e f (Err k) is may joined first second st make =
      let no = not_joined T apart e f k joined first second in
      subst (λ (z : TypeKind). Closes T T i stack (e ∷ f ∷ []) (Err z)) (sym no.0)
      (record {
        may = λ inside. lenient x (ends_at T (e ∷ f ∷ [])) may (subst (λ (y : Instr-F Instr). FailsInside y (ends_at T (e ∷ f ∷ []))) is inside);
        no_line = λ o line. no.1 o (two_joined x (types_at T stack) line.starts (end_at T e ∷ end_at T f ∷ []) o
            (subst (λ (y : Instr-F Instr). Runs y (types_at T stack) line.starts (end_at T e ∷ end_at T f ∷ []) o) is line.line) (end_at T e) (end_at T f) refl);
      })

  -- a line that ends so
  goes : (x : Instr-F Instr) (st : List Start) (es : List (Option (List ℕ))) (o : Option (List ℕ)) (q : Outcome) → out-Instr i ≡ x → Runs x (types_at T stack) st (ends_at T es) q →
      q ≡ end_at T o → is_end_in T o ≡ true → Closes T T i stack es (Ok o)
  goes x st es o q is line left within = (
    record {
      starts = st;
      line =
          subst (λ (y : Instr-F Instr). Runs y (types_at T stack) st (ends_at T es) (end_at T o)) (sym is)
          (subst (λ (z : Outcome). Runs x (types_at T stack) st (ends_at T es) z) left line);
    },
    within,
  )

  -- a body that fails too early
  early : (x : Instr-F Instr) (es : List (Option (List ℕ))) (k : TypeKind) → out-Instr i ≡ x → k ≡ kind.FailNotLast → FailsInside x (ends_at T es) → Closes T T i stack es (Err k)
  early x es k is late inside =
      subst (λ (z : TypeKind). Closes T T i stack es (Err z)) (sym late) (subst (λ (y : Instr-F Instr). FailsInside y (ends_at T es)) (sym is) inside)

  -- a body that ends otherwise
  otherwise : (x : Instr-F Instr) (es : List (Option (List ℕ))) (k : TypeKind) → out-Instr i ≡ x → k ≡ kind.BranchesDiffer → (FailsInside x (ends_at T es) → ⊥) →
      ((st : List Start) (o : Outcome) → Runs x (types_at T stack) st (ends_at T es) o → ⊥) → Closes T T i stack es (Err k)
  otherwise x es k is differ may none =
      subst (λ (z : TypeKind). Closes T T i stack es (Err z)) (sym differ) (record {
        may = λ inside. may (subst (λ (y : Instr-F Instr). FailsInside y (ends_at T es)) is inside);
        no_line = λ o line. none line.starts o (subst (λ (y : Instr-F Instr). Runs y (types_at T stack) line.starts (ends_at T es) o) is line.line);
      })

  -- ---- no body

  pub closes_none : (x : Instr-F Instr) (b : List Ty) (st : List Start) (es : List Outcome) (p : Outcome) → Runs x b st es p → b ≡ types_at T stack → out-Instr i ≡ x →
      0 ≡ length (bodies (form_at x).operands) → Closes T T i stack [] (Ok None)
  closes_none x b st es p (failwith a u may) same is none =
      goes one.Failwith [] [] None Fails is (subst (λ (z : List Ty). Runs {A = Instr} one.Failwith z [] [] Fails) same (failwith a u may)) refl refl
  closes_none x b st es p (dip c a u v) same is none = absurd (has_one c none)
  closes_none x b st es p (dip_n n c items u v long) same is none = absurd (has_one c none)
  closes_none x b st es p (if_true c d u e f p' j) same is none = absurd (has_two c d none)
  closes_none x b st es p (if_none c d a u e f p' j) same is none = absurd (has_two c d none)
  closes_none x b st es p (if_left c d l r u e f p' j) same is none = absurd (has_two c d none)
  closes_none x b st es p (if_cons c d a u e f p' j) same is none = absurd (has_two c d none)
  closes_none x b st es p (loop c u e q) same is none = absurd (has_one c none)
  closes_none x b st es p (loop_left c l r u e q) same is none = absurd (has_one c none)
  closes_none x b st es p (iter_list c a u e q) same is none = absurd (has_one c none)
  closes_none x b st es p (iter_set c a u e q) same is none = absurd (has_one c none)
  closes_none x b st es p (iter_map c k v u e q) same is none = absurd (has_one c none)
  closes_none x b st es p (map_list c a r u) same is none = absurd (has_one c none)
  closes_none x b st es p (map_map c k v r u) same is none = absurd (has_one c none)

  -- ---- two bodies

  pub closes_two : (x : Instr-F Instr) (b : List Ty) (st : List Start) (es : List Outcome) (p : Outcome) → Runs x b st es p → b ≡ types_at T stack → out-Instr i ≡ x → 2 ≡ length (bodies (form_at x).operands) →
      (e f : Option (List ℕ)) (r : Result (Option (List ℕ)) TypeKind) → IsJoined e f r → is_end_in T e ≡ true → is_end_in T f ≡ true → Closes T T i stack (e ∷ f ∷ []) r
  closes_two x b st es p (if_true c d u e' f' p' j) same is two e f r joined first second =
      closes_joined (one.If c d) e f r is refl joined first second _ (λ g h q k. subst (λ (z : List Ty). Runs (one.If c d) z ((0, u) ∷ (0, u) ∷ []) (g ∷ h ∷ []) q) same (if_true c d u g h q k))
  closes_two x b st es p (if_none c d a u e' f' p' j) same is two e f r joined first second =
      closes_joined (one.IfNone c d) e f r is refl joined first second _ (λ g h q k. subst (λ (z : List Ty). Runs (one.IfNone c d) z ((0, u) ∷ (0, a ∷ u) ∷ []) (g ∷ h ∷ []) q) same (if_none c d a u g h q k))
  closes_two x b st es p (if_left c d l m u e' f' p' j) same is two e f r joined first second =
      closes_joined (one.IfLeft c d) e f r is refl joined first second _ (λ g h q k. subst (λ (z : List Ty). Runs (one.IfLeft c d) z ((0, l ∷ u) ∷ (0, m ∷ u) ∷ []) (g ∷ h ∷ []) q) same (if_left c d l m u g h q k))
  closes_two x b st es p (if_cons c d a u e' f' p' j) same is two e f r joined first second =
      closes_joined (one.IfCons c d) e f r is refl joined first second _ (λ g h q k. subst (λ (z : List Ty). Runs (one.IfCons c d) z ((0, a ∷ type.List a ∷ u) ∷ (0, u) ∷ []) (g ∷ h ∷ []) q) same (if_cons c d a u g h q k))
  closes_two x b st es p (failwith a u may) same is two e f r joined first second = absurd (has_none two)
  closes_two x b st es p (dip c a u v) same is two e f r joined first second = absurd (one_only c two)
  closes_two x b st es p (dip_n n c items u v long) same is two e f r joined first second = absurd (one_only c two)
  closes_two x b st es p (loop c u e' q) same is two e f r joined first second = absurd (one_only c two)
  closes_two x b st es p (loop_left c l m u e' q) same is two e f r joined first second = absurd (one_only c two)
  closes_two x b st es p (iter_list c a u e' q) same is two e f r joined first second = absurd (one_only c two)
  closes_two x b st es p (iter_set c a u e' q) same is two e f r joined first second = absurd (one_only c two)
  closes_two x b st es p (iter_map c k v u e' q) same is two e f r joined first second = absurd (one_only c two)
  closes_two x b st es p (map_list c a m u) same is two e f r joined first second = absurd (one_only c two)
  closes_two x b st es p (map_map c k v m u) same is two e f r joined first second = absurd (one_only c two)

  -- ---- a body that runs again

  pub closes_loop : (c : List Instr) (b : List Ty) (st : List Start) (es : List Outcome) (p : Outcome) → Runs (one.Loop c) b st es p → b ≡ types_at T stack → out-Instr i ≡ one.Loop c →
      (top : ℕ) (rest : List ℕ) → stack ≡ top ∷ rest → are_in T stack ≡ true → (e : Option (List ℕ)) → is_end_in T e ≡ true → (r : Result (Option (List ℕ)) TypeKind) → IsRound stack rest e r → Closes T T i stack (e ∷ []) r
  closes_loop c b st es p (loop c' u e' q) same is top rest split stands e within (Ok o) round =
      let down : u ≡ types_at T rest = (let all : type.Bool ∷ u ≡ type_at T top ∷ types_at T rest = same ∙ ap (types_at T) split in cc) in
      goes (one.Loop c) ((0, u) ∷ []) (e ∷ []) o (To u) is
      (subst (λ (z : List Ty). Runs (one.Loop c) z ((0, u) ∷ []) (end_at T e ∷ []) (To u)) same
      (loop c u (end_at T e) (subst (λ (z : List Ty). EndsWith z (end_at T e)) (sym same) (ends_with T stack e round.0))))
      (ap To down ∙ ap (end_at T) (sym round.1)) (ap (is_end_in T) round.1 ∙ tail_in T top rest (ap (are_in T) (sym split) ∙ stands))
  closes_loop c b st es p (loop c' u e' q) same is top rest split stands e within (Err k) round =
      otherwise (one.Loop c) (e ∷ []) k is round.0 (lenient (one.Loop c) (end_at T e ∷ []) refl)
      (λ st' o line. round.1 (ends_so T apart stack e stands within (loop_ends c (types_at T stack) st' (end_at T e ∷ []) o line (end_at T e) refl)))

  pub closes_loop_left : (c : List Instr) (b : List Ty) (st : List Start) (es : List Outcome) (p : Outcome) → Runs (one.LoopLeft c) b st es p → b ≡ types_at T stack → out-Instr i ≡ one.LoopLeft c →
      (top one_side other : ℕ) (rest : List ℕ) → stack ≡ top ∷ rest → type_at T top ≡ type.Or (type_at T one_side) (type_at T other) → are_in T stack ≡ true → are_in T (one_side ∷ other ∷ []) ≡ true →
      (e : Option (List ℕ)) → is_end_in T e ≡ true → (r : Result (Option (List ℕ)) TypeKind) → IsRound stack (other ∷ rest) e r → Closes T T i stack (e ∷ []) r
  closes_loop_left c b st es p (loop_left c' l m u e' q) same is top one_side other rest split at stands parts e within (Ok o) round =
      let all : type.Or l m ∷ u ≡ type_at T top ∷ types_at T rest = same ∙ ap (types_at T) split in
      let down : u ≡ types_at T rest = cc in
      let tops : type.Or l m ≡ type_at T top = cc in
      let side : m ≡ type_at T other = (or_parts l m (type_at T one_side) (type_at T other) (tops ∙ at)).1 in
      goes (one.LoopLeft c) ((0, l ∷ u) ∷ []) (e ∷ []) o (To (m ∷ u)) is
      (subst (λ (z : List Ty). Runs (one.LoopLeft c) z ((0, l ∷ u) ∷ []) (end_at T e ∷ []) (To (m ∷ u))) same
      (loop_left c l m u (end_at T e) (subst (λ (z : List Ty). EndsWith z (end_at T e)) (sym same) (ends_with T stack e round.0))))
      ((λ j. To (side j ∷ down j)) ∙ ap (end_at T) (sym round.1))
      (ap (is_end_in T) round.1 ∙ and_from _ _ (and_parts _ _ (tail_in T one_side (other ∷ []) parts)).0 (tail_in T top rest (ap (are_in T) (sym split) ∙ stands)))
  closes_loop_left c b st es p (loop_left c' l m u e' q) same is top one_side other rest split at stands parts e within (Err k) round =
      otherwise (one.LoopLeft c) (e ∷ []) k is round.0 (lenient (one.LoopLeft c) (end_at T e ∷ []) refl)
      (λ st' o line. round.1 (ends_so T apart stack e stands within (loop_left_ends c (types_at T stack) st' (end_at T e ∷ []) o line (end_at T e) refl)))

  rounded : (c : List Instr) (st : List Start) (rest : List ℕ) → (top : ℕ) → stack ≡ top ∷ rest → are_in T stack ≡ true → out-Instr i ≡ one.Iter c →
      (e : Option (List ℕ)) → is_end_in T e ≡ true → (r : Result (Option (List ℕ)) TypeKind) → IsRound rest rest e r →
      (u : List Ty) → u ≡ types_at T rest → ((g : Outcome) → EndsWith u g → Runs (one.Iter c) (types_at T stack) st (g ∷ []) (To u)) → Closes T T i stack (e ∷ []) r
  rounded c st rest top split stands is e within (Ok o) round u down make =
      goes (one.Iter c) st (e ∷ []) o (To u) is
      (make (end_at T e) (subst (λ (z : List Ty). EndsWith z (end_at T e)) (sym down) (ends_with T rest e round.0)))
      (ap To down ∙ ap (end_at T) (sym round.1)) (ap (is_end_in T) round.1 ∙ tail_in T top rest (ap (are_in T) (sym split) ∙ stands))
  rounded c st rest top split stands is e within (Err k) round u down make =
      otherwise (one.Iter c) (e ∷ []) k is round.0 (lenient (one.Iter c) (end_at T e ∷ []) refl)
      (λ st' o line. round.1 (ends_so T apart rest e (tail_in T top rest (ap (are_in T) (sym split) ∙ stands)) within
      (iter_ends c (types_at T stack) st' (end_at T e ∷ []) o line (type_at T top) (types_at T rest) (ap (types_at T) split) (end_at T e) refl)))

  under : (t : Ty) (u : List Ty) (top : ℕ) (rest : List ℕ) → t ∷ u ≡ types_at T stack → stack ≡ top ∷ rest → u ≡ types_at T rest
  under t u top rest same split = let all : t ∷ u ≡ type_at T top ∷ types_at T rest = same ∙ ap (types_at T) split in cc

  pub closes_iter : (c : List Instr) (b : List Ty) (st : List Start) (es : List Outcome) (p : Outcome) → Runs (one.Iter c) b st es p → b ≡ types_at T stack → out-Instr i ≡ one.Iter c →
      (top : ℕ) (rest : List ℕ) → stack ≡ top ∷ rest → are_in T stack ≡ true → (e : Option (List ℕ)) → is_end_in T e ≡ true → (r : Result (Option (List ℕ)) TypeKind) → IsRound rest rest e r → Closes T T i stack (e ∷ []) r
  closes_iter c b st es p (iter_list c' a u e' q) same is top rest split stands e within r round =
      rounded c _ rest top split stands is e within r round u (under (type.List a) u top rest same split)
      (λ g w. subst (λ (z : List Ty). Runs (one.Iter c) z ((0, a ∷ u) ∷ []) (g ∷ []) (To u)) same (iter_list c a u g w))
  closes_iter c b st es p (iter_set c' a u e' q) same is top rest split stands e within r round =
      rounded c _ rest top split stands is e within r round u (under (type.Set a) u top rest same split)
      (λ g w. subst (λ (z : List Ty). Runs (one.Iter c) z ((0, a ∷ u) ∷ []) (g ∷ []) (To u)) same (iter_set c a u g w))
  closes_iter c b st es p (iter_map c' k v u e' q) same is top rest split stands e within r round =
      rounded c _ rest top split stands is e within r round u (under (type.Map k v) u top rest same split)
      (λ g w. subst (λ (z : List Ty). Runs (one.Iter c) z ((0, type.Pair k v ∷ u) ∷ []) (g ∷ []) (To u)) same (iter_map c k v u g w))

  -- ---- items that were set aside

  pub closes_dip_n : (n : ℕ) (c : List Instr) → out-Instr i ≡ one.DipN n c → n ≤ length stack → are_in T stack ≡ true → (e : Option (List ℕ)) → is_end_in T e ≡ true →
      (r : Result (Option (List ℕ)) TypeKind) → IsDipped (take n stack) e r → Closes T T i stack (e ∷ []) r
  closes_dip_n n c is long stands None within (Ok o) dipped = absurd dipped
  closes_dip_n n c is long stands None within (Err k) dipped = early (one.DipN n c) (None ∷ []) k is dipped (in_dip_n n c)
  closes_dip_n n c is long stands (Some ids) within (Err k) dipped = absurd dipped
  closes_dip_n n c is long stands (Some ids) within (Ok o) dipped =
      let up = types_at T (take n stack) in
      let down = types_at T (drop n stack) in
      goes (one.DipN n c) ((n, down) ∷ []) (Some ids ∷ []) o (To (up ++ types_at T ids)) is
      (subst (λ (z : List Ty). Runs (one.DipN n c) z ((n, down) ∷ []) (To (types_at T ids) ∷ []) (To (up ++ types_at T ids))) (sym (cut_types T n stack))
      (dip_n n c up down (types_at T ids) (length-map (take n stack) (type_at T) ∙ length-take-le n stack long)))
      (ap To (sym (map-append (type_at T) (take n stack) ids)) ∙ ap (end_at T) (sym dipped))
      (ap (is_end_in T) dipped ∙ put_in T (take n stack) ids (above_in T n stack stands) within)

  pub closes_dip : (c : List Instr) → out-Instr i ≡ one.Dip c → (top : ℕ) (rest : List ℕ) → stack ≡ top ∷ rest → are_in T stack ≡ true → (e : Option (List ℕ)) → is_end_in T e ≡ true →
      (r : Result (Option (List ℕ)) TypeKind) → IsDipped (top ∷ []) e r → Closes T T i stack (e ∷ []) r
  closes_dip c is top rest split stands None within (Ok o) dipped = absurd dipped
  closes_dip c is top rest split stands None within (Err k) dipped = early (one.Dip c) (None ∷ []) k is dipped (in_dip c)
  closes_dip c is top rest split stands (Some ids) within (Err k) dipped = absurd dipped
  closes_dip c is top rest split stands (Some ids) within (Ok o) dipped =
      goes (one.Dip c) ((1, types_at T rest) ∷ []) (Some ids ∷ []) o (To (type_at T top ∷ types_at T ids)) is
      (subst (λ (z : List Ty). Runs (one.Dip c) z ((1, types_at T rest) ∷ []) (To (types_at T ids) ∷ []) (To (type_at T top ∷ types_at T ids))) (sym (ap (types_at T) split))
      (dip c (type_at T top) (types_at T rest) (types_at T ids)))
      (ap (end_at T) (sym dipped))
      (ap (is_end_in T) dipped ∙ and_from _ _ (and_parts _ _ (ap (are_in T) (sym split) ∙ stands)).0 within)
