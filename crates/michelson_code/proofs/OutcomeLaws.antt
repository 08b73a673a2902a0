-- A code has at most one outcome on a stack.
use Rattle.std.proofs.Common.{◌≡◌, ℕ, ◌+◌, List, [], ◌∷◌, ◌++◌, length, refl, ap, sym, subst, ◌∙◌}
use Rattle.value_core.specs.declared.ty.Ty.{Ty}
use Rattle.value_core.specs.declared.ty.Ty.TheVariants as type
use Rattle.michelson_code.specs.declared.instr.Instr.{Instr}
use Rattle.michelson_code.specs.declared.instr.Instr.TheOpen.{Instr-F}
use Rattle.michelson_code.specs.declared.instr.Instr.TheViews.{out-Instr}
use Rattle.michelson_code.specs.declared.script.Script.{Script}
use Rattle.michelson_code.specs.Forms.{bodies_of}
use Rattle.michelson_code.specs.Typing.{Applies, BodiesTyped, CodeTyped, InstrTyped, Joined, Outcome, Runs, Start, To, Fails, comb_type, by_line, drop_n, dup_n, dig, dug, pair_n, unpair_n, alike, first_fails, second_fails, dip, dip_n, if_true, if_none, if_left, if_cons, loop, loop_left, iter_list, iter_set, iter_map, map_list, map_map, failwith, applies, runs, no_body, one_body, done, goes_on, fails}
use Rattle.michelson_code.proofs.LineLaws.{one_result}
use Rattle.michelson_code.proofs.Types.{list_is_no_map, list_is_no_set, list_part, map_parts, option_part, or_parts, pair_parts, set_is_no_map, set_part}

-- ---- lists of one length

fronts : {A : Type 0} (xs ys : List A) (a b : List A) → length xs ≡ length ys → xs ++ a ≡ ys ++ b → (xs ≡ ys) × (a ≡ b)
fronts [] [] a b long same = (refl, same)
fronts [] (y ∷ ys) a b long same = cc
fronts (x ∷ xs) [] a b long same = cc
fronts (x ∷ xs) (y ∷ ys) a b long same =
    let short : length xs ≡ length ys = cc in
    let behind : xs ++ a ≡ ys ++ b = cc in
    let more = fronts xs ys a b short behind in
    (λ i. (let e : x ≡ y = cc in e) i ∷ more.0 i, more.1)

combs : (xs ys : List Ty) (a b : Ty) → length xs ≡ length ys → comb_type xs a ≡ comb_type ys b → (xs ≡ ys) × (a ≡ b)
combs [] [] a b long same = (refl, same)
combs [] (y ∷ ys) a b long same = cc
combs (x ∷ xs) [] a b long same = cc
combs (x ∷ xs) (y ∷ ys) a b long same =
    let short : length xs ≡ length ys = cc in
    let parts = pair_parts _ _ _ _ same in
    let more = combs xs ys a b short parts.1 in
    (λ i. parts.0 i ∷ more.0 i, more.1)

-- ---- instructions without bodies

module _ (s : Script) {A : Type 0} where
  pub one_after : (x : Instr-F A) (b e t u : List Ty) → Applies s x b t → Applies s x e u → b ≡ e → t ≡ u
  one_after x b e t u (by_line y l c below is given k) (by_line z m d other is' given' k') same =
      one_result s x c d below other l m is is' given given' same
  one_after x b e t u (by_line y l c below is given k) (drop_n n items other long) same = absurd is
  one_after x b e t u (by_line y l c below is given k) (dup_n n items a other long) same = absurd is
  one_after x b e t u (by_line y l c below is given k) (dig n items a other long) same = absurd is
  one_after x b e t u (by_line y l c below is given k) (dug n items a other long) same = absurd is
  one_after x b e t u (by_line y l c below is given k) (pair_n n items a other long) same = absurd is
  one_after x b e t u (by_line y l c below is given k) (unpair_n n items a other long) same = absurd is
  one_after x b e t u (drop_n n items below long) (by_line z m d other is' given' k') same = absurd is'
  one_after x b e t u (dup_n n items a below long) (by_line z m d other is' given' k') same = absurd is'
  one_after x b e t u (dig n items a below long) (by_line z m d other is' given' k') same = absurd is'
  one_after x b e t u (dug n items a below long) (by_line z m d other is' given' k') same = absurd is'
  one_after x b e t u (pair_n n items a below long) (by_line z m d other is' given' k') same = absurd is'
  one_after x b e t u (unpair_n n items a below long) (by_line z m d other is' given' k') same = absurd is'
  one_after x b e t u (drop_n n items below long) (drop_n m items' other long') same = (fronts items items' below other (long ∙ sym long') same).1
  one_after x b e t u (dup_n n items a below long) (dup_n m items' a' other long') same =
      let even : length items ≡ length items' = cc in
      let parts = fronts items items' (a ∷ below) (a' ∷ other) even same in
      let rest : a ∷ below ≡ a' ∷ other = parts.1 in
      let top : a ≡ a' = cc in
      λ i. top i ∷ same i
  one_after x b e t u (dig n items a below long) (dig m items' a' other long') same =
      let parts = fronts items items' (a ∷ below) (a' ∷ other) (long ∙ sym long') same in
      let rest : a ∷ below ≡ a' ∷ other = parts.1 in
      let top : a ≡ a' = cc in
      let under : below ≡ other = cc in
      λ i. top i ∷ (parts.0 i ++ under i)
  one_after x b e t u (dug n items a below long) (dug m items' a' other long') same =
      let top : a ≡ a' = cc in
      let behind : items ++ below ≡ items' ++ other = cc in
      let parts = fronts items items' below other (long ∙ sym long') behind in
      λ i. parts.0 i ++ top i ∷ parts.1 i
  one_after x b e t u (pair_n n items a below long) (pair_n m items' a' other long') same =
      let even : length items ≡ length items' = cc in
      let parts = fronts items items' (a ∷ below) (a' ∷ other) even same in
      let rest : a ∷ below ≡ a' ∷ other = parts.1 in
      let top : a ≡ a' = cc in
      let under : below ≡ other = cc in
      λ i. comb_type (parts.0 i) (top i) ∷ under i
  one_after x b e t u (unpair_n n items a below long) (unpair_n m items' a' other long') same =
      let even : length items ≡ length items' = cc in
      let top : comb_type items a ≡ comb_type items' a' = cc in
      let under : below ≡ other = cc in
      let parts = combs items items' a a' even top in
      λ i. parts.0 i ++ parts.1 i ∷ under i

-- ---- instructions with bodies

joined_once : (e f o g h p : Outcome) → Joined e f o → Joined g h p → e ≡ g → f ≡ h → o ≡ p
joined_once e f o g h p (alike o') (alike p') first second = first
joined_once e f o g h p (alike o') (first_fails p') first second = second
joined_once e f o g h p (alike o') (second_fails p') first second = first
joined_once e f o g h p (first_fails o') (alike p') first second = second
joined_once e f o g h p (first_fails o') (first_fails p') first second = second
joined_once e f o g h p (first_fails o') (second_fails p') first second = cc
joined_once e f o g h p (second_fails o') (alike p') first second = first
joined_once e f o g h p (second_fails o') (first_fails p') first second = cc
joined_once e f o g h p (second_fails o') (second_fails p') first second = first

-- the top of two equal stacks, and what stands below it
top_of : (a b : Ty) (s t : List Ty) → a ∷ s ≡ b ∷ t → a ≡ b
top_of a b s t same = cc

under : (a b : Ty) (s t : List Ty) → a ∷ s ≡ b ∷ t → s ≡ t
under a b s t same = cc

abbrev single : ℕ → List Ty → List Start
single n s = (n, s) ∷ []

abbrev double : List Ty → List Ty → List Start
double s u = (0, s) ∷ (0, u) ∷ []

one_start : (n : ℕ) (s t : List Ty) → s ≡ t → single n s ≡ single n t
one_start n s t same = ap (single n) same

two_starts : (s t u v : List Ty) → s ≡ t → u ≡ v → double s u ≡ double t v
two_starts s t u v first second = λ i. double (first i) (second i)

only_end : (e f : Outcome) → e ∷ [] ≡ f ∷ [] → e ≡ f
only_end e f same = cc

pub left_by : (s t : List Ty) → To s ≡ To t → s ≡ t
left_by s t same = cc

module _ {A : Type 0} where
  -- the stack tells how bodies begin
  pub same_starts : (x : Instr-F A) (b b' : List Ty) (st st' : List Start) (es es' : List Outcome) (o o' : Outcome) →
      Runs x b st es o → Runs x b' st' es' o' → b ≡ b' → st ≡ st'
  same_starts x b b' st st' es es' o o' (dip c a s t) (dip c' a' s' t') same = one_start 1 s s' (under a a' s s' same)
  same_starts x b b' st st' es es' o o' (dip_n n c items s t long) (dip_n n' c' items' s' t' long') same =
      one_start n s s' (fronts items items' s s' (long ∙ sym long') same).1
  same_starts x b b' st st' es es' o o' (if_true c d s e f p j) (if_true c' d' s' e' f' p' j') same =
      let down : s ≡ s' = under _ _ s s' same in two_starts s s' s s' down down
  same_starts x b b' st st' es es' o o' (if_none c d a s e f p j) (if_none c' d' a' s' e' f' p' j') same =
      let down : s ≡ s' = under _ _ s s' same in
      let part : a ≡ a' = option_part a a' (top_of _ _ s s' same) in
      two_starts s s' (a ∷ s) (a' ∷ s') down (λ i. part i ∷ down i)
  same_starts x b b' st st' es es' o o' (if_left c d l r s e f p j) (if_left c' d' l' r' s' e' f' p' j') same =
      let down : s ≡ s' = under _ _ s s' same in
      let parts = or_parts l r l' r' (top_of _ _ s s' same) in
      two_starts (l ∷ s) (l' ∷ s') (r ∷ s) (r' ∷ s') (λ i. parts.0 i ∷ down i) (λ i. parts.1 i ∷ down i)
  same_starts x b b' st st' es es' o o' (if_cons c d a s e f p j) (if_cons c' d' a' s' e' f' p' j') same =
      let down : s ≡ s' = under _ _ s s' same in
      let part : a ≡ a' = list_part a a' (top_of _ _ s s' same) in
      two_starts (a ∷ type.List a ∷ s) (a' ∷ type.List a' ∷ s') s s' (λ i. part i ∷ same i) down
  same_starts x b b' st st' es es' o o' (loop c s e ends) (loop c' s' e' ends') same = one_start 0 s s' (under _ _ s s' same)
  same_starts x b b' st st' es es' o o' (loop_left c l r s e ends) (loop_left c' l' r' s' e' ends') same =
      let down : s ≡ s' = under _ _ s s' same in
      let parts = or_parts l r l' r' (top_of _ _ s s' same) in
      one_start 0 (l ∷ s) (l' ∷ s') (λ i. parts.0 i ∷ down i)
  same_starts x b b' st st' es es' o o' (iter_list c a s e ends) (iter_list c' a' s' e' ends') same =
      let down : s ≡ s' = under _ _ s s' same in
      let part : a ≡ a' = list_part a a' (top_of _ _ s s' same) in
      one_start 0 (a ∷ s) (a' ∷ s') (λ i. part i ∷ down i)
  same_starts x b b' st st' es es' o o' (iter_set c a s e ends) (iter_set c' a' s' e' ends') same =
      let down : s ≡ s' = under _ _ s s' same in
      let part : a ≡ a' = set_part a a' (top_of _ _ s s' same) in
      one_start 0 (a ∷ s) (a' ∷ s') (λ i. part i ∷ down i)
  same_starts x b b' st st' es es' o o' (iter_map c k v s e ends) (iter_map c' k' v' s' e' ends') same =
      let down : s ≡ s' = under _ _ s s' same in
      let parts = map_parts k v k' v' (top_of _ _ s s' same) in
      one_start 0 (type.Pair k v ∷ s) (type.Pair k' v' ∷ s') (λ i. type.Pair (parts.0 i) (parts.1 i) ∷ down i)
  same_starts x b b' st st' es es' o o' (iter_list c a s e ends) (iter_set c' a' s' e' ends') same =
      absurd (list_is_no_set a a' (top_of _ _ s s' same))
  same_starts x b b' st st' es es' o o' (iter_list c a s e ends) (iter_map c' k' v' s' e' ends') same =
      absurd (list_is_no_map a k' v' (top_of _ _ s s' same))
  same_starts x b b' st st' es es' o o' (iter_set c a s e ends) (iter_list c' a' s' e' ends') same =
      absurd (list_is_no_set a' a (sym (top_of _ _ s s' same)))
  same_starts x b b' st st' es es' o o' (iter_set c a s e ends) (iter_map c' k' v' s' e' ends') same =
      absurd (set_is_no_map a k' v' (top_of _ _ s s' same))
  same_starts x b b' st st' es es' o o' (iter_map c k v s e ends) (iter_list c' a' s' e' ends') same =
      absurd (list_is_no_map a' k v (sym (top_of _ _ s s' same)))
  same_starts x b b' st st' es es' o o' (iter_map c k v s e ends) (iter_set c' a' s' e' ends') same =
      absurd (set_is_no_map a' k v (sym (top_of _ _ s s' same)))
  same_starts x b b' st st' es es' o o' (map_list c a r s) (map_list c' a' r' s') same =
      let down : s ≡ s' = under _ _ s s' same in
      let part : a ≡ a' = list_part a a' (top_of _ _ s s' same) in
      one_start 0 (a ∷ s) (a' ∷ s') (λ i. part i ∷ down i)
  same_starts x b b' st st' es es' o o' (map_map c k v r s) (map_map c' k' v' r' s') same =
      let down : s ≡ s' = under _ _ s s' same in
      let parts = map_parts k v k' v' (top_of _ _ s s' same) in
      one_start 0 (type.Pair k v ∷ s) (type.Pair k' v' ∷ s') (λ i. type.Pair (parts.0 i) (parts.1 i) ∷ down i)
  same_starts x b b' st st' es es' o o' (map_list c a r s) (map_map c' k' v' r' s') same =
      absurd (list_is_no_map a k' v' (top_of _ _ s s' same))
  same_starts x b b' st st' es es' o o' (map_map c k v r s) (map_list c' a' r' s') same =
      absurd (list_is_no_map a' k v (sym (top_of _ _ s s' same)))
  same_starts x b b' st st' es es' o o' (failwith a s may) (failwith a' s' may') same = refl

  -- the stack and the ends of the bodies tell what is made of the stack
  pub same_end : (x : Instr-F A) (b b' : List Ty) (st st' : List Start) (es es' : List Outcome) (o o' : Outcome) →
      Runs x b st es o → Runs x b' st' es' o' → b ≡ b' → es ≡ es' → o ≡ o'
  same_end x b b' st st' es es' o o' (dip c a s t) (dip c' a' s' t') same ends =
      let top : a ≡ a' = top_of a a' s s' same in
      let left : t ≡ t' = left_by t t' (only_end _ _ ends) in
      λ i. To (top i ∷ left i)
  same_end x b b' st st' es es' o o' (dip_n n c items s t long) (dip_n n' c' items' s' t' long') same ends =
      let front = fronts items items' s s' (long ∙ sym long') same in
      let left : t ≡ t' = left_by t t' (only_end _ _ ends) in
      λ i. To (front.0 i ++ left i)
  same_end x b b' st st' es es' o o' (if_true c d s e f p j) (if_true c' d' s' e' f' p' j') same ends =
      let first : e ≡ e' = cc in let second : f ≡ f' = cc in joined_once e f p e' f' p' j j' first second
  same_end x b b' st st' es es' o o' (if_none c d a s e f p j) (if_none c' d' a' s' e' f' p' j') same ends =
      let first : e ≡ e' = cc in let second : f ≡ f' = cc in joined_once e f p e' f' p' j j' first second
  same_end x b b' st st' es es' o o' (if_left c d l r s e f p j) (if_left c' d' l' r' s' e' f' p' j') same ends =
      let first : e ≡ e' = cc in let second : f ≡ f' = cc in joined_once e f p e' f' p' j j' first second
  same_end x b b' st st' es es' o o' (if_cons c d a s e f p j) (if_cons c' d' a' s' e' f' p' j') same ends =
      let first : e ≡ e' = cc in let second : f ≡ f' = cc in joined_once e f p e' f' p' j j' first second
  same_end x b b' st st' es es' o o' (loop c s e q) (loop c' s' e' q') same ends = ap To (under _ _ s s' same)
  same_end x b b' st st' es es' o o' (loop_left c l r s e q) (loop_left c' l' r' s' e' q') same ends =
      let down : s ≡ s' = under _ _ s s' same in
      let parts = or_parts l r l' r' (top_of _ _ s s' same) in
      λ i. To (parts.1 i ∷ down i)
  same_end x b b' st st' es es' o o' (iter_list c a s e q) (iter_list c' a' s' e' q') same ends = ap To (under _ _ s s' same)
  same_end x b b' st st' es es' o o' (iter_set c a s e q) (iter_set c' a' s' e' q') same ends = ap To (under _ _ s s' same)
  same_end x b b' st st' es es' o o' (iter_map c k v s e q) (iter_map c' k' v' s' e' q') same ends = ap To (under _ _ s s' same)
  same_end x b b' st st' es es' o o' (iter_list c a s e q) (iter_set c' a' s' e' q') same ends = ap To (under _ _ s s' same)
  same_end x b b' st st' es es' o o' (iter_list c a s e q) (iter_map c' k' v' s' e' q') same ends = ap To (under _ _ s s' same)
  same_end x b b' st st' es es' o o' (iter_set c a s e q) (iter_list c' a' s' e' q') same ends = ap To (under _ _ s s' same)
  same_end x b b' st st' es es' o o' (iter_set c a s e q) (iter_map c' k' v' s' e' q') same ends = ap To (under _ _ s s' same)
  same_end x b b' st st' es es' o o' (iter_map c k v s e q) (iter_list c' a' s' e' q') same ends = ap To (under _ _ s s' same)
  same_end x b b' st st' es es' o o' (iter_map c k v s e q) (iter_set c' a' s' e' q') same ends = ap To (under _ _ s s' same)
  same_end x b b' st st' es es' o o' (map_list c a r s) (map_list c' a' r' s') same ends =
      let down : s ≡ s' = under _ _ s s' same in
      let left : r ∷ s ≡ r' ∷ s' = left_by _ _ (only_end _ _ ends) in
      let made : r ≡ r' = top_of r r' s s' left in
      λ i. To (type.List (made i) ∷ down i)
  same_end x b b' st st' es es' o o' (map_map c k v r s) (map_map c' k' v' r' s') same ends =
      let down : s ≡ s' = under _ _ s s' same in
      let parts = map_parts k v k' v' (top_of _ _ s s' same) in
      let left : r ∷ s ≡ r' ∷ s' = left_by _ _ (only_end _ _ ends) in
      let made : r ≡ r' = top_of r r' s s' left in
      λ i. To (type.Map (parts.0 i) (made i) ∷ down i)
  same_end x b b' st st' es es' o o' (map_list c a r s) (map_map c' k' v' r' s') same ends =
      absurd (list_is_no_map a k' v' (top_of _ _ s s' same))
  same_end x b b' st st' es es' o o' (map_map c k v r s) (map_list c' a' r' s') same ends =
      absurd (list_is_no_map a' k v (sym (top_of _ _ s s' same)))
  same_end x b b' st st' es es' o o' (failwith a s may) (failwith a' s' may') same ends = refl

  -- no line is of an instruction with bodies
  pub lines_or_bodies : (s : Script) (x : Instr-F A) (b b' t : List Ty) (st : List Start) (es : List Outcome) (o : Outcome) →
      Runs x b' st es o → Applies s x b t → ⊥
  lines_or_bodies s x b b' t st es o (dip c a u v) (by_line y l ch below is given k) = is
  lines_or_bodies s x b b' t st es o (dip_n n c items u v long) (by_line y l ch below is given k) = is
  lines_or_bodies s x b b' t st es o (if_true c d u e f p j) (by_line y l ch below is given k) = is
  lines_or_bodies s x b b' t st es o (if_none c d a u e f p j) (by_line y l ch below is given k) = is
  lines_or_bodies s x b b' t st es o (if_left c d q r u e f p j) (by_line y l ch below is given k) = is
  lines_or_bodies s x b b' t st es o (if_cons c d a u e f p j) (by_line y l ch below is given k) = is
  lines_or_bodies s x b b' t st es o (loop c u e q) (by_line y l ch below is given k) = is
  lines_or_bodies s x b b' t st es o (loop_left c q r u e z) (by_line y l ch below is given k) = is
  lines_or_bodies s x b b' t st es o (iter_list c a u e q) (by_line y l ch below is given k) = is
  lines_or_bodies s x b b' t st es o (iter_set c a u e q) (by_line y l ch below is given k) = is
  lines_or_bodies s x b b' t st es o (iter_map c k' v u e q) (by_line y l ch below is given k) = is
  lines_or_bodies s x b b' t st es o (map_list c a r u) (by_line y l ch below is given k) = is
  lines_or_bodies s x b b' t st es o (map_map c k' v r u) (by_line y l ch below is given k) = is
  lines_or_bodies s x b b' t st es o (failwith a u may) (by_line y l ch below is given k) = is

-- ---- code

mutual
  pub instr_once : (s : Script) (n : ℕ) (i : Instr) (b : List Ty) (o p : Outcome) → InstrTyped s n i b o → InstrTyped s n i b p → o ≡ p
  instr_once s n i b o p (applies n' i' b' t fit well x) (applies n'' i'' b'' u fit' well' y) =
      ap To (one_after s (out-Instr i) b b t u x y refl)
  instr_once s n i b o p (applies n' i' b' t fit well x) (runs n'' i'' b'' st es q fit' y bodies) =
      absurd (lines_or_bodies s (out-Instr i) b b t st es q y x)
  instr_once s n i b o p (runs n' i' b' st es q fit x bodies) (applies n'' i'' b'' u fit' well' y) =
      absurd (lines_or_bodies s (out-Instr i) b b u st es q x y)
  instr_once s n i b o p (runs n' i' b' st es q fit x bodies) (runs n'' i'' b'' st' es' q' fit' y bodies') =
      let starts : st ≡ st' = same_starts (out-Instr i) b b st st' es es' q q' x y refl in
      let ends : es ≡ es' = bodies_once s n (bodies_of i) st es es' bodies (subst (λ (z : List Start). BodiesTyped s n (bodies_of i) z es') (sym starts) bodies') in
      same_end (out-Instr i) b b st st' es es' q q' x y refl ends

  pub bodies_once : (s : Script) (n : ℕ) (cs : List (List Instr)) (st : List Start) (es fs : List Outcome) →
      BodiesTyped s n cs st es → BodiesTyped s n cs st fs → es ≡ fs
  bodies_once s n cs st es fs (no_body n') (no_body n'') = refl
  bodies_once s n cs st es fs (one_body n' c more start starts e es' typed bodies) (one_body n'' c' more' start' starts' f fs' typed' bodies') =
      λ i. code_once s (n + start.0) c start.1 e f typed typed' i ∷ bodies_once s n more starts es' fs' bodies bodies' i

  pub code_once : (s : Script) (n : ℕ) (c : List Instr) (b : List Ty) (o p : Outcome) → CodeTyped s n c b o → CodeTyped s n c b p → o ≡ p
  code_once s n c b o p (done n' b' kept) (done n'' b'' kept') = refl
  code_once s n c b o p (goes_on n' i more b' t o' kept typed rest) (goes_on n'' i' more' b'' u p' kept' typed' rest') =
      let between : t ≡ u = left_by t u (instr_once s n i b (To t) (To u) typed typed') in
      code_once s n more t o p rest (subst (λ (z : List Ty). CodeTyped s n more z p) (sym between) rest')
  code_once s n c b o p (goes_on n' i more b' t o' kept typed rest) (fails n'' i' b'' kept' typed') =
      let e : To t ≡ Fails = instr_once s n i b (To t) Fails typed typed' in cc
  code_once s n c b o p (fails n' i b' kept typed) (goes_on n'' i' more b'' t p' kept' typed' rest) =
      let e : Fails ≡ To t = instr_once s n i b Fails (To t) typed typed' in cc
  code_once s n c b o p (fails n' i b' kept typed) (fails n'' i' b'' kept' typed') = refl
