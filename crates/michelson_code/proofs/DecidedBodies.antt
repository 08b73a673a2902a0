-- Whether an instruction with bodies may begin is decided.
use Rattle.std.proofs.Common.{◌≡◌, ℕ, ◌<◌, Bool, true, false, List, [], ◌∷◌, ◌++◌, length, inl, inr, refl, ap, sym, subst, ◌∙◌, arith}
use Rattle.std.specs.Prelude.{◌⊎◌, ◌==◌, ◌||◌}
use Rattle.value_core.specs.declared.ty.Ty.{Ty}
use Rattle.value_core.specs.declared.ty.Ty.TheVariants as type
use Rattle.value_core.specs.declared.ty.Ty.TheOpen as ty
use Rattle.value_core.specs.declared.ty.Ty.TheOpen.{Ty-F}
use Rattle.value_core.specs.declared.ty.Ty.TheViews.{out-Ty, roll-Ty}
use Rattle.value_core.specs.TypeLevels.{roll-out}
use Rattle.value_core.specs.Kinds.{is_passable}
use Rattle.michelson_code.specs.declared.instr.Instr.TheOpen as one
use Rattle.michelson_code.specs.declared.instr.Instr.TheOpen.{Instr-F}
use Rattle.michelson_code.specs.declared.operands.Level.{Level}
use Rattle.michelson_code.specs.declared.operands.Level.TheVariants as level
use Rattle.michelson_code.specs.FirstFault.{IsShort, items_taken, without_line}
use Rattle.michelson_code.specs.Operands.{lines}
use Rattle.michelson_code.specs.Typing.{Outcome, To, Fails, Runs, Start, level_type, alike, with_it, dip, dip_n, if_true, if_none, if_left, if_cons, loop, loop_left, iter_list, iter_set, iter_map, map_list, map_map, failwith}
use Rattle.michelson_code.proofs.DecidedLines.{Cut, cut}
use Rattle.michelson_code.proofs.Deciding.{Decided}
use Rattle.michelson_code.proofs.OperandCounts.{enough_runs}
use Rattle.michelson_code.proofs.Types.{kind-shown, kind_shown, level_kind, level_shown, shows}

-- ---- the top of the stack

abbrev pub itself : Ty → Ty
itself t = t

abbrev pub kind_of : Ty → ℕ
kind_of t = kind_shown (out-Ty t)

pub kind_is : (x : Level Ty) → kind_of (level_type itself x) ≡ level_kind x
kind_is x = ap kind_shown (shows itself x) ∙ kind-shown itself x

built : (x : Level Ty) (t : Ty) → out-Ty t ≡ level_shown itself x → level_type itself x ≡ t
built x t is = sym (roll-out (level_type itself x)) ∙ ap roll-Ty (shows itself x ∙ sym is) ∙ roll-out t

at_kind : (f : ℕ → Bool) (s t : Ty) (u r : List Ty) (n : ℕ) → s ∷ u ≡ t ∷ r → kind_of s ≡ n → f n ≡ true → f (kind_of t) ≡ true
at_kind f s t u r n stack kind fits = let top : s ≡ t = cc in ap (λ (z : Ty). f (kind_of z)) (sym top) ∙ ap f kind ∙ fits

bool_clash : (b : Bool) → b ≡ true → b ≡ false → ⊥
bool_clash b one_way other = cc

bool_cases : (b : Bool) → (b ≡ true) ⊎ (b ≡ false)
bool_cases true = inl refl
bool_cases false = inr refl

module _ {A : Type 0} where
  -- the kinds of types that stand on top where the instruction may begin
  abbrev pub top_fits : Instr-F A → ℕ → Bool
  top_fits (one.If c d) k = k == 1
  top_fits (one.IfNone c d) k = k == 9
  top_fits (one.IfLeft c d) k = k == 10
  top_fits (one.IfCons c d) k = k == 12
  top_fits (one.Loop c) k = k == 1
  top_fits (one.LoopLeft c) k = k == 10
  top_fits (one.Iter c) k = (k == 12) || ((k == 13) || (k == 14))
  top_fits (one.Map c) k = (k == 12) || (k == 14)
  top_fits _ k = true

  pub top_of_runs : (x : Instr-F A) (b : List Ty) (st : List Start) (es : List Outcome) (o : Outcome) → Runs x b st es o → (t : Ty) (r : List Ty) → b ≡ t ∷ r → top_fits x (kind_of t) ≡ true
  top_of_runs x b st es o (dip c a u v) t r same = refl
  top_of_runs x b st es o (dip_n n c items u v long) t r same = refl
  top_of_runs x b st es o (if_true c d u e f p j) t r same = at_kind (top_fits (one.If c d)) type.Bool t u r 1 same (kind_is level.Bool) refl
  top_of_runs x b st es o (if_none c d a u e f p j) t r same = at_kind (top_fits (one.IfNone c d)) (type.Option a) t u r 9 same (kind_is (level.Option a)) refl
  top_of_runs x b st es o (if_left c d p q u e f o' j) t r same = at_kind (top_fits (one.IfLeft c d)) (type.Or p q) t u r 10 same (kind_is (level.Or p q)) refl
  top_of_runs x b st es o (if_cons c d a u e f p j) t r same = at_kind (top_fits (one.IfCons c d)) (type.List a) t u r 12 same (kind_is (level.List a)) refl
  top_of_runs x b st es o (loop c u e q) t r same = at_kind (top_fits (one.Loop c)) type.Bool t u r 1 same (kind_is level.Bool) refl
  top_of_runs x b st es o (loop_left c p q u e z) t r same = at_kind (top_fits (one.LoopLeft c)) (type.Or p q) t u r 10 same (kind_is (level.Or p q)) refl
  top_of_runs x b st es o (iter_list c a u e q) t r same = at_kind (top_fits (one.Iter c)) (type.List a) t u r 12 same (kind_is (level.List a)) refl
  top_of_runs x b st es o (iter_set c a u e q) t r same = at_kind (top_fits (one.Iter c)) (type.Set a) t u r 13 same (kind_is (level.Set a)) refl
  top_of_runs x b st es o (iter_map c k v u e q) t r same = at_kind (top_fits (one.Iter c)) (type.Map k v) t u r 14 same (kind_is (level.Map k v)) refl
  top_of_runs x b st es o (map_list c a v u) t r same = at_kind (top_fits (one.Map c)) (type.List a) t u r 12 same (kind_is (level.List a)) refl
  top_of_runs x b st es o (map_map c k v w u) t r same = at_kind (top_fits (one.Map c)) (type.Map k v) t u r 14 same (kind_is (level.Map k v)) refl
  top_of_runs x b st es o (failwith a u may) t r same = refl

  -- ---- whether it may begin

  pub record Opened (x : Instr-F A) (b : List Ty) : Type 0 where
    pub starts : List Start
    pub ends : List Outcome
    pub outcome : Outcome
    pub line : Runs x b starts ends outcome

  open_with : (x : Instr-F A) (s t : Ty) (r : List Ty) (st : List Start) (es : List Outcome) (o : Outcome) → s ≡ t → Runs x (s ∷ r) st es o → Decided (Opened x (t ∷ r))
  open_with x s t r st es o same line =
      inl (record { starts = st; ends = es; outcome = o; line = subst (λ (z : Ty). Runs x (z ∷ r) st es o) same line })

  shut : (x : Instr-F A) (t : Ty) (r : List Ty) (y : Ty-F Ty) → out-Ty t ≡ y → top_fits x (kind_shown y) ≡ false → Decided (Opened x (t ∷ r))
  shut x t r y is unfit = inr (λ o.
      bool_clash (top_fits x (kind_shown y)) (ap (λ (z : Ty-F Ty). top_fits x (kind_shown z)) (sym is) ∙ top_of_runs x (t ∷ r) o.starts o.ends o.outcome o.line t r refl) unfit)

  -- an instruction that takes its top apart
  abbrev HasTop : Instr-F A → Type 0
  HasTop (one.If c d) = Unit {0}
  HasTop (one.IfNone c d) = Unit {0}
  HasTop (one.IfLeft c d) = Unit {0}
  HasTop (one.IfCons c d) = Unit {0}
  HasTop (one.Loop c) = Unit {0}
  HasTop (one.LoopLeft c) = Unit {0}
  HasTop (one.Iter c) = Unit {0}
  HasTop (one.Map c) = Unit {0}
  HasTop _ = ⊥

  open_top : (x : Instr-F A) (t : Ty) (r : List Ty) (y : Ty-F Ty) → out-Ty t ≡ y → HasTop x → Decided (Opened x (t ∷ r))
  open_top (one.If c d) t r ty.Bool is topped =
      open_with (one.If c d) type.Bool t r _ _ _ (built level.Bool t is) (if_true c d r (To r) (To r) (To r) (alike (To r)))
  open_top (one.If c d) t r y is topped = shut (one.If c d) t r y is refl
  open_top (one.IfNone c d) t r (ty.Option a) is topped =
      open_with (one.IfNone c d) (type.Option a) t r _ _ _ (built (level.Option a) t is) (if_none c d a r (To r) (To r) (To r) (alike (To r)))
  open_top (one.IfNone c d) t r y is topped = shut (one.IfNone c d) t r y is refl
  open_top (one.IfLeft c d) t r (ty.Or p q) is topped =
      open_with (one.IfLeft c d) (type.Or p q) t r _ _ _ (built (level.Or p q) t is) (if_left c d p q r (To r) (To r) (To r) (alike (To r)))
  open_top (one.IfLeft c d) t r y is topped = shut (one.IfLeft c d) t r y is refl
  open_top (one.IfCons c d) t r (ty.List a) is topped =
      open_with (one.IfCons c d) (type.List a) t r _ _ _ (built (level.List a) t is) (if_cons c d a r (To r) (To r) (To r) (alike (To r)))
  open_top (one.IfCons c d) t r y is topped = shut (one.IfCons c d) t r y is refl
  open_top (one.Loop c) t r ty.Bool is topped =
      open_with (one.Loop c) type.Bool t r _ _ _ (built level.Bool t is) (loop c r (To (type.Bool ∷ r)) (with_it (type.Bool ∷ r)))
  open_top (one.Loop c) t r y is topped = shut (one.Loop c) t r y is refl
  open_top (one.LoopLeft c) t r (ty.Or p q) is topped =
      open_with (one.LoopLeft c) (type.Or p q) t r _ _ _ (built (level.Or p q) t is) (loop_left c p q r (To (type.Or p q ∷ r)) (with_it (type.Or p q ∷ r)))
  open_top (one.LoopLeft c) t r y is topped = shut (one.LoopLeft c) t r y is refl
  open_top (one.Iter c) t r (ty.List a) is topped =
      open_with (one.Iter c) (type.List a) t r _ _ _ (built (level.List a) t is) (iter_list c a r (To r) (with_it r))
  open_top (one.Iter c) t r (ty.Set a) is topped =
      open_with (one.Iter c) (type.Set a) t r _ _ _ (built (level.Set a) t is) (iter_set c a r (To r) (with_it r))
  open_top (one.Iter c) t r (ty.Map k v) is topped =
      open_with (one.Iter c) (type.Map k v) t r _ _ _ (built (level.Map k v) t is) (iter_map c k v r (To r) (with_it r))
  open_top (one.Iter c) t r y is topped = shut (one.Iter c) t r y is refl
  open_top (one.Map c) t r (ty.List a) is topped =
      open_with (one.Map c) (type.List a) t r _ _ _ (built (level.List a) t is) (map_list c a a r)
  open_top (one.Map c) t r (ty.Map k v) is topped =
      open_with (one.Map c) (type.Map k v) t r _ _ _ (built (level.Map k v) t is) (map_map c k v v r)
  open_top (one.Map c) t r y is topped = shut (one.Map c) t r y is refl
  open_top one.Drop t r y is topped = absurd topped
  open_top x t r y is topped = absurd topped

  abbrev pub is_running : Instr-F A → Bool
  is_running (one.Dip c) = true
  is_running (one.DipN n c) = true
  is_running (one.If c d) = true
  is_running (one.IfNone c d) = true
  is_running (one.IfLeft c d) = true
  is_running (one.IfCons c d) = true
  is_running (one.Loop c) = true
  is_running (one.LoopLeft c) = true
  is_running (one.Iter c) = true
  is_running (one.Map c) = true
  is_running one.Failwith = true
  is_running _ = false

  pub running : (x : Instr-F A) (b : List Ty) (st : List Start) (es : List Outcome) (o : Outcome) → Runs x b st es o → is_running x ≡ true
  running x b st es o (dip c a u v) = refl
  running x b st es o (dip_n n c items u v long) = refl
  running x b st es o (if_true c d u e f p j) = refl
  running x b st es o (if_none c d a u e f p j) = refl
  running x b st es o (if_left c d l r u e f p j) = refl
  running x b st es o (if_cons c d a u e f p j) = refl
  running x b st es o (loop c u e q) = refl
  running x b st es o (loop_left c l r u e q) = refl
  running x b st es o (iter_list c a u e q) = refl
  running x b st es o (iter_set c a u e q) = refl
  running x b st es o (iter_map c k v u e q) = refl
  running x b st es o (map_list c a r u) = refl
  running x b st es o (map_map c k v r u) = refl
  running x b st es o (failwith a u may) = refl

  still : (x : Instr-F A) (b : List Ty) → is_running x ≡ false → Decided (Opened x b)
  still x b none = inr (λ o. bool_clash (is_running x) (running x b o.starts o.ends o.outcome o.line) none)

  too_short : (x : Instr-F A) (b : List Ty) → IsShort x b → Decided (Opened x b)
  too_short x b short = inr (λ o. enough_runs x b o.starts o.ends o.outcome short o.line)

  empty : (x : Instr-F A) → lines x ≡ [] → items_taken x ≡ 1 → Decided (Opened x [])
  empty x none takes = too_short x [] (without_line none (let nothing : length {A = Ty} [] ≡ 0 = refl in omega arith))

  pub raised_top : (b : List Ty) (st : List Start) (es : List Outcome) (o : Outcome) → Runs {A = A} one.Failwith b st es o → (t : Ty) (r : List Ty) → b ≡ t ∷ r → is_passable t ≡ true
  raised_top b st es o (failwith a u may) t r same = let top : a ≡ t = cc in ap is_passable (sym top) ∙ may

  raises : (t : Ty) (r : List Ty) → (is_passable t ≡ true) ⊎ (is_passable t ≡ false) → Decided (Opened one.Failwith (t ∷ r))
  raises t r (inl may) = inl (record { starts = []; ends = []; outcome = Fails; line = failwith t r may })
  raises t r (inr not_so) = inr (λ o. bool_clash (is_passable t) (raised_top (t ∷ r) o.starts o.ends o.outcome o.line t r refl) not_so)

  dips : (n : ℕ) (c : List A) (b : List Ty) → Cut n b ⊎ (length b < n) → Decided (Opened (one.DipN n c) b)
  dips n c b (inl k) = inl (record {
    starts = (n, k.below) ∷ [];
    ends = To k.below ∷ [];
    outcome = To (k.items ++ k.below);
    line = subst (λ (z : List Ty). Runs (one.DipN n c) z ((n, k.below) ∷ []) (To k.below ∷ []) (To (k.items ++ k.below))) (sym k.is) (dip_n n c k.items k.below k.below k.long);
  })
  dips n c b (inr less) = too_short (one.DipN n c) b (without_line refl less)

  -- whether the instruction may begin
  pub opened_decided : (x : Instr-F A) (b : List Ty) → Decided (Opened x b)
  opened_decided (one.Dip c) [] = empty (one.Dip c) refl refl
  opened_decided (one.Dip c) (t ∷ r) = inl (record { starts = (1, r) ∷ []; ends = To r ∷ []; outcome = To (t ∷ r); line = dip c t r r })
  opened_decided (one.DipN n c) b = dips n c b (cut n b)
  opened_decided (one.If c d) [] = empty (one.If c d) refl refl
  opened_decided (one.If c d) (t ∷ r) = open_top (one.If c d) t r (out-Ty t) refl tt
  opened_decided (one.IfNone c d) [] = empty (one.IfNone c d) refl refl
  opened_decided (one.IfNone c d) (t ∷ r) = open_top (one.IfNone c d) t r (out-Ty t) refl tt
  opened_decided (one.IfLeft c d) [] = empty (one.IfLeft c d) refl refl
  opened_decided (one.IfLeft c d) (t ∷ r) = open_top (one.IfLeft c d) t r (out-Ty t) refl tt
  opened_decided (one.IfCons c d) [] = empty (one.IfCons c d) refl refl
  opened_decided (one.IfCons c d) (t ∷ r) = open_top (one.IfCons c d) t r (out-Ty t) refl tt
  opened_decided (one.Loop c) [] = empty (one.Loop c) refl refl
  opened_decided (one.Loop c) (t ∷ r) = open_top (one.Loop c) t r (out-Ty t) refl tt
  opened_decided (one.LoopLeft c) [] = empty (one.LoopLeft c) refl refl
  opened_decided (one.LoopLeft c) (t ∷ r) = open_top (one.LoopLeft c) t r (out-Ty t) refl tt
  opened_decided (one.Iter c) [] = empty (one.Iter c) refl refl
  opened_decided (one.Iter c) (t ∷ r) = open_top (one.Iter c) t r (out-Ty t) refl tt
  opened_decided (one.Map c) [] = empty (one.Map c) refl refl
  opened_decided (one.Map c) (t ∷ r) = open_top (one.Map c) t r (out-Ty t) refl tt
  opened_decided one.Failwith [] = empty one.Failwith refl refl
  opened_decided one.Failwith (t ∷ r) = raises t r (bool_cases (is_passable t))
  opened_decided one.Drop b = still one.Drop b refl
  opened_decided x b = still x b refl
