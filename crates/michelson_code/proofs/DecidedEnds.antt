-- How an instruction ends where its bodies are typed: as its line says, with a body that fails too early, or otherwise.
use Rattle.std.proofs.Common.{◌≡◌, ℕ, Bool, true, false, List, [], ◌∷◌, inl, inr, refl, sym, subst, ◌∙◌}
use Rattle.std.specs.Prelude.{◌⊎◌}
use Rattle.value_core.specs.declared.ty.Ty.{Ty}
use Rattle.value_core.specs.declared.ty.Ty.TheVariants as type
use Rattle.michelson_code.specs.declared.instr.Instr.{Instr}
use Rattle.michelson_code.specs.declared.instr.Instr.TheOpen as one
use Rattle.michelson_code.specs.declared.instr.Instr.TheOpen.{Instr-F}
use Rattle.michelson_code.specs.declared.script.Script.{Script}
use Rattle.michelson_code.specs.FirstFault.{FailsInside, in_dip, in_dip_n, in_map}
use Rattle.michelson_code.specs.Forms.{bodies, form_at}
use Rattle.michelson_code.specs.Typing.{BodiesTyped, EndsWith, Joined, Outcome, To, Fails, Runs, Start, alike, first_fails, second_fails, with_it, failing, dip, dip_n, if_true, if_none, if_left, if_cons, loop, loop_left, iter_list, iter_set, iter_map, map_list, map_map, failwith, no_body, one_body}
use Rattle.michelson_code.proofs.Deciding.{Decided, same_stack}

-- two branches join, or they don't
joined_decided : (e f : Outcome) → ((o : Outcome) × Joined e f o) ⊎ ((o : Outcome) → Joined e f o → ⊥)
joined_decided Fails f = inl (f, first_fails f)
joined_decided (To s) Fails = inl (To s, second_fails (To s))
joined_decided (To s) (To t) = go (same_stack s t)
  where
    both : (e f o : Outcome) → Joined e f o → e ≡ To s → f ≡ To t → s ≡ t
    both e f o (alike p) first second = let same : To s ≡ To t = sym first ∙ second in cc
    both e f o (first_fails p) first second = cc
    both e f o (second_fails p) first second = cc

    go : Decided (s ≡ t) → ((o : Outcome) × Joined (To s) (To t) o) ⊎ ((o : Outcome) → Joined (To s) (To t) o → ⊥)
    go (inl same) = inl (To t, subst (λ (z : List Ty). Joined (To z) (To t) (To t)) (sym same) (alike (To t)))
    go (inr other) = inr (λ o j. other (both (To s) (To t) o j refl refl))

pub ends_decided : (s : List Ty) (e : Outcome) → Decided (EndsWith s e)
ends_decided s Fails = inl (failing s)
ends_decided s (To t) = go (same_stack s t)
  where
    left : (u : List Ty) (e : Outcome) → EndsWith u e → e ≡ To t → u ≡ t
    left u e (with_it v) same = cc
    left u e (failing v) same = cc

    go : Decided (s ≡ t) → Decided (EndsWith s (To t))
    go (inl same) = inl (subst (λ (z : List Ty). EndsWith s (To z)) same (with_it s))
    go (inr other) = inr (λ q. other (left s (To t) q refl))

module _ {A : Type 0} where
  -- how the instruction ends
  pub data Ended (x : Instr-F A) (b : List Ty) (fs : List Outcome) : Type 0 where
    goes : (st : List Start) (o : Outcome) → Runs x b st fs o → Ended x b fs
    too_early : FailsInside x fs → Ended x b fs
    otherwise : (FailsInside x fs → ⊥) → ((st : List Start) (o : Outcome) → Runs x b st fs o → ⊥) → Ended x b fs

  abbrev pub may_fail : Instr-F A → Bool
  may_fail (one.Dip c) = false
  may_fail (one.DipN n c) = false
  may_fail (one.Map c) = false
  may_fail _ = true

  strict : (x : Instr-F A) (fs : List Outcome) → FailsInside x fs → may_fail x ≡ false
  strict x fs (in_dip c) = refl
  strict x fs (in_dip_n n c) = refl
  strict x fs (in_map c) = refl

  pub lenient : (x : Instr-F A) (fs : List Outcome) → may_fail x ≡ true → FailsInside x fs → ⊥
  lenient x fs may inside = let never : may_fail x ≡ false = strict x fs inside in cc

  -- ---- what the ends of bodies say of the line

  pub two_joined : (x : Instr-F A) (b : List Ty) (st : List Start) (es : List Outcome) (o : Outcome) → Runs x b st es o → (e f : Outcome) → es ≡ e ∷ f ∷ [] → Joined e f o
  two_joined x b st es o (dip c a u v) e f same = cc
  two_joined x b st es o (dip_n n c items u v long) e f same = cc
  two_joined x b st es o (if_true c d u e' f' p j) e f same = let first : e' ≡ e = cc in let second : f' ≡ f = cc in subst (λ z. Joined z f o) first (subst (λ z. Joined e' z o) second j)
  two_joined x b st es o (if_none c d a u e' f' p j) e f same = let first : e' ≡ e = cc in let second : f' ≡ f = cc in subst (λ z. Joined z f o) first (subst (λ z. Joined e' z o) second j)
  two_joined x b st es o (if_left c d l r u e' f' p j) e f same = let first : e' ≡ e = cc in let second : f' ≡ f = cc in subst (λ z. Joined z f o) first (subst (λ z. Joined e' z o) second j)
  two_joined x b st es o (if_cons c d a u e' f' p j) e f same = let first : e' ≡ e = cc in let second : f' ≡ f = cc in subst (λ z. Joined z f o) first (subst (λ z. Joined e' z o) second j)
  two_joined x b st es o (loop c u e' q) e f same = cc
  two_joined x b st es o (loop_left c l r u e' q) e f same = cc
  two_joined x b st es o (iter_list c a u e' q) e f same = cc
  two_joined x b st es o (iter_set c a u e' q) e f same = cc
  two_joined x b st es o (iter_map c k v u e' q) e f same = cc
  two_joined x b st es o (map_list c a r u) e f same = cc
  two_joined x b st es o (map_map c k v r u) e f same = cc
  two_joined x b st es o (failwith a u may) e f same = cc

  pub loop_ends : (c : List A) (b : List Ty) (st : List Start) (es : List Outcome) (o : Outcome) → Runs (one.Loop c) b st es o → (e : Outcome) → es ≡ e ∷ [] → EndsWith b e
  loop_ends c b st es o (loop c' u e' q) e same = let only : e' ≡ e = cc in subst (EndsWith b) only q

  pub loop_left_ends : (c : List A) (b : List Ty) (st : List Start) (es : List Outcome) (o : Outcome) → Runs (one.LoopLeft c) b st es o → (e : Outcome) → es ≡ e ∷ [] → EndsWith b e
  loop_left_ends c b st es o (loop_left c' l r u e' q) e same = let only : e' ≡ e = cc in subst (EndsWith b) only q

  pub iter_ends : (c : List A) (b : List Ty) (st : List Start) (es : List Outcome) (o : Outcome) → Runs (one.Iter c) b st es o → (t : Ty) (r : List Ty) → b ≡ t ∷ r → (e : Outcome) → es ≡ e ∷ [] → EndsWith r e
  iter_ends c b st es o (iter_list c' a u e' q) t r stack e same = let only : e' ≡ e = cc in let below : u ≡ r = cc in subst (λ z. EndsWith z e) below (subst (EndsWith u) only q)
  iter_ends c b st es o (iter_set c' a u e' q) t r stack e same = let only : e' ≡ e = cc in let below : u ≡ r = cc in subst (λ z. EndsWith z e) below (subst (EndsWith u) only q)
  iter_ends c b st es o (iter_map c' k v u e' q) t r stack e same = let only : e' ≡ e = cc in let below : u ≡ r = cc in subst (λ z. EndsWith z e) below (subst (EndsWith u) only q)

  pub map_ends : (c : List A) (b : List Ty) (st : List Start) (es : List Outcome) (o : Outcome) → Runs (one.Map c) b st es o → (t : Ty) (r : List Ty) → b ≡ t ∷ r → (w : List Ty) → es ≡ To w ∷ [] → (v : Ty) × (w ≡ v ∷ r)
  map_ends c b st es o (map_list c' a m u) t r stack w same = let left : To (m ∷ u) ≡ To w = cc in let all : m ∷ u ≡ w = cc in let below : u ≡ r = cc in (m, sym all ∙ (λ i. m ∷ below i))
  map_ends c b st es o (map_map c' k v m u) t r stack w same = let left : To (m ∷ u) ≡ To w = cc in let all : m ∷ u ≡ w = cc in let below : u ≡ r = cc in (m, sym all ∙ (λ i. m ∷ below i))

  -- ---- each form

  branches : (x : Instr-F A) (b : List Ty) (st : List Start) (e f : Outcome) → may_fail x ≡ true → ((o : Outcome) → Joined e f o → Runs x b st (e ∷ f ∷ []) o) → Ended x b (e ∷ f ∷ [])
  branches x b st e f may make = go (joined_decided e f)
    where
      go : ((o : Outcome) × Joined e f o) ⊎ ((o : Outcome) → Joined e f o → ⊥) → Ended x b (e ∷ f ∷ [])
      go (inl j) = goes st j.0 (make j.0 j.1)
      go (inr none) = otherwise (lenient x (e ∷ f ∷ []) may) (λ st' o line. none o (two_joined x b st' (e ∷ f ∷ []) o line e f refl))

  rounds : (x : Instr-F A) (b : List Ty) (st : List Start) (s : List Ty) (e o : Outcome) → may_fail x ≡ true → (EndsWith s e → Runs x b st (e ∷ []) o) →
      ((st' : List Start) (p : Outcome) → Runs x b st' (e ∷ []) p → EndsWith s e) → Ended x b (e ∷ [])
  rounds x b st s e o may make back = go (ends_decided s e)
    where
      go : Decided (EndsWith s e) → Ended x b (e ∷ [])
      go (inl q) = goes st o (make q)
      go (inr none) = otherwise (lenient x (e ∷ []) may) (λ st' p line. none (back st' p line))

  inside_only : (x : Instr-F A) (fs : List Outcome) → FailsInside x fs → fs ≡ Fails ∷ []
  inside_only x fs (in_dip c) = refl
  inside_only x fs (in_dip_n n c) = refl
  inside_only x fs (in_map c) = refl

  pub goes_in : (x : Instr-F A) (w : List Ty) → FailsInside x (To w ∷ []) → ⊥
  goes_in x w inside = let same : To w ∷ [] ≡ Fails ∷ [] = inside_only x (To w ∷ []) inside in cc

  maps : (c : List A) (t : Ty) (r : List Ty) (st : List Start) (e : Outcome) → ((v : Ty) → (o : Outcome) × Runs (one.Map c) (t ∷ r) st (To (v ∷ r) ∷ []) o) → Ended (one.Map c) (t ∷ r) (e ∷ [])
  maps c t r st Fails make = too_early (in_map c)
  maps c t r st (To []) make =
      otherwise (goes_in (one.Map c) []) (λ st' o line. let m = map_ends c (t ∷ r) st' (To [] ∷ []) o line t r refl [] refl in nothing m.0 m.1)
    where
      nothing : (v : Ty) → [] ≡ v ∷ r → ⊥
      nothing v e = cc
  maps c t r st (To (v ∷ w)) make = go (same_stack w r)
    where
      rest : (u : Ty) → v ∷ w ≡ u ∷ r → w ≡ r
      rest u e = cc

      go : Decided (w ≡ r) → Ended (one.Map c) (t ∷ r) (To (v ∷ w) ∷ [])
      go (inl same) = let m = make v in goes st m.0 (subst (λ (z : List Ty). Runs (one.Map c) (t ∷ r) st (To (v ∷ z) ∷ []) m.0) (sym same) m.1)
      go (inr other) = otherwise (goes_in (one.Map c) (v ∷ w)) (λ st' o line.
          let m = map_ends c (t ∷ r) st' (To (v ∷ w) ∷ []) o line t r refl (v ∷ w) refl in other (rest m.0 m.1))

  dipped : (c : List A) (a : Ty) (u : List Ty) (e : Outcome) → Ended (one.Dip c) (a ∷ u) (e ∷ [])
  dipped c a u (To w) = goes ((1, u) ∷ []) (To (a ∷ w)) (dip c a u w)
  dipped c a u Fails = too_early (in_dip c)

-- how an instruction ends whose bodies are typed
pub ended : (s : Script) (n : ℕ) (x : Instr-F Instr) (b : List Ty) (st : List Start) (es : List Outcome) (o : Outcome) → Runs x b st es o → (fs : List Outcome) →
    BodiesTyped s n (bodies (form_at x).operands) st fs → Ended x b fs
ended s n x b st es o (dip c a u v) fs (one_body n' c' cs start sts e ends typed (no_body n'')) = dipped c a u e
ended s n x b st es o (dip_n k c items u v long) fs (one_body n' c' cs start sts (To w) ends typed (no_body n'')) = goes _ _ (dip_n k c items u w long)
ended s n x b st es o (dip_n k c items u v long) fs (one_body n' c' cs start sts Fails ends typed (no_body n'')) = too_early (in_dip_n k c)
ended s n x b st es o (if_true c d u e f p j) fs (one_body n' c' cs start sts g ends typed (one_body m c'' cs' start' sts' h ends' typed' (no_body n''))) =
    branches (one.If c d) (type.Bool ∷ u) _ g h refl (λ q i. if_true c d u g h q i)
ended s n x b st es o (if_none c d a u e f p j) fs (one_body n' c' cs start sts g ends typed (one_body m c'' cs' start' sts' h ends' typed' (no_body n''))) =
    branches (one.IfNone c d) (type.Option a ∷ u) _ g h refl (λ q i. if_none c d a u g h q i)
ended s n x b st es o (if_left c d l r u e f p j) fs (one_body n' c' cs start sts g ends typed (one_body m c'' cs' start' sts' h ends' typed' (no_body n''))) =
    branches (one.IfLeft c d) (type.Or l r ∷ u) _ g h refl (λ q i. if_left c d l r u g h q i)
ended s n x b st es o (if_cons c d a u e f p j) fs (one_body n' c' cs start sts g ends typed (one_body m c'' cs' start' sts' h ends' typed' (no_body n''))) =
    branches (one.IfCons c d) (type.List a ∷ u) _ g h refl (λ q i. if_cons c d a u g h q i)
ended s n x b st es o (loop c u e q) fs (one_body n' c' cs start sts g ends typed (no_body n'')) =
    rounds (one.Loop c) (type.Bool ∷ u) _ (type.Bool ∷ u) g _ refl (λ i. loop c u g i) (λ st' p line. loop_ends c (type.Bool ∷ u) st' (g ∷ []) p line g refl)
ended s n x b st es o (loop_left c l r u e q) fs (one_body n' c' cs start sts g ends typed (no_body n'')) =
    rounds (one.LoopLeft c) (type.Or l r ∷ u) _ (type.Or l r ∷ u) g _ refl (λ i. loop_left c l r u g i) (λ st' p line. loop_left_ends c (type.Or l r ∷ u) st' (g ∷ []) p line g refl)
ended s n x b st es o (iter_list c a u e q) fs (one_body n' c' cs start sts g ends typed (no_body n'')) =
    rounds (one.Iter c) (type.List a ∷ u) _ u g _ refl (λ i. iter_list c a u g i) (λ st' p line. iter_ends c (type.List a ∷ u) st' (g ∷ []) p line (type.List a) u refl g refl)
ended s n x b st es o (iter_set c a u e q) fs (one_body n' c' cs start sts g ends typed (no_body n'')) =
    rounds (one.Iter c) (type.Set a ∷ u) _ u g _ refl (λ i. iter_set c a u g i) (λ st' p line. iter_ends c (type.Set a ∷ u) st' (g ∷ []) p line (type.Set a) u refl g refl)
ended s n x b st es o (iter_map c k v u e q) fs (one_body n' c' cs start sts g ends typed (no_body n'')) =
    rounds (one.Iter c) (type.Map k v ∷ u) _ u g _ refl (λ i. iter_map c k v u g i) (λ st' p line. iter_ends c (type.Map k v ∷ u) st' (g ∷ []) p line (type.Map k v) u refl g refl)
ended s n x b st es o (map_list c a r u) fs (one_body n' c' cs start sts g ends typed (no_body n'')) =
    maps c (type.List a) u _ g (λ v. (To (type.List v ∷ u), map_list c a v u))
ended s n x b st es o (map_map c k v r u) fs (one_body n' c' cs start sts g ends typed (no_body n'')) =
    maps c (type.Map k v) u _ g (λ w. (To (type.Map k w ∷ u), map_map c k v w u))
ended s n x b st es o (failwith a u may) fs (no_body n') = goes [] Fails (failwith a u may)
