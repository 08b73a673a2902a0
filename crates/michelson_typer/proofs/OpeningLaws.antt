-- What the bodies of an instruction begin on.
use Rattle.std.proofs.Common.{◌≡◌, ℕ, suc, ◌<◌, ◌≤◌, Bool, true, false, List, [], ◌∷◌, ◌++◌, length, take, drop, Option, None, Some, refl, ap, sym, subst, ◌∙◌, arith, length-append}
use Rattle.std.specs.Prelude.{◌==◌, ◌||◌, IfOk, Result, if◌then◌else◌, nat_le, nat_lt}
use Rattle.std.specs.Option.{option_map}
use Rattle.std.proofs.lemmas.Result.{IfOk-weaker}
use Rattle.michelson_typer.specs.declared.opening.Starts.{Starts}
use Rattle.std.specs.List.{list_all}
use Rattle.std.proofs.lemmas.Bool.{and_from, and_parts, leb-false, leb-true, lt-ltb}
use Rattle.std.proofs.lemmas.List.{append-nil, length-map, length-take-le, map-append, take-append-drop}
use Rattle.std.proofs.lemmas.List.Folds.{list_all-append}
use Rattle.value_core.specs.declared.ty.Ty.{Ty}
use Rattle.value_core.specs.declared.ty.Ty.TheVariants as type
use Rattle.value_core.specs.Kinds.{is_passable}
use Rattle.michelson_code.specs.declared.instr.Instr.{Instr}
use Rattle.michelson_code.specs.declared.instr.Instr.TheOpen as one
use Rattle.michelson_code.specs.declared.instr.Instr.TheOpen.{Instr-F}
use Rattle.michelson_code.specs.declared.instr.Instr.TheViews.{out-Instr}
use Rattle.michelson_code.specs.declared.operands.Level.{Level}
use Rattle.michelson_code.specs.declared.operands.Level.TheVariants as level
use Rattle.michelson_code.specs.FirstFault.{items_taken, without_line}
use Rattle.michelson_code.specs.Operands.{lines}
use Rattle.michelson_code.specs.Typing.{Outcome, To, Runs, Start, level_type, alike, with_it, dip, dip_n, if_true, if_none, if_left, if_cons, loop, loop_left, iter_list, iter_set, iter_map, map_list, map_map, failwith}
use Rattle.michelson_code.proofs.DecidedBodies.{is_running, kind_of, raised_top, running, top_fits, top_of_runs}
use Rattle.michelson_code.proofs.OperandCounts.{enough_runs}
use Rattle.michelson_code.proofs.Types.{kind-shown, kind_shown, level_kind, shows}
use Rattle.michelson_typer.specs.Opened.{Opens, are_starts_in, dips, goes_over, has_bodies, starts_at, starts_of}
use Rattle.michelson_typer.specs.Tables.{Grows, IsTypeOf, are_in, type_at, types_at}
use Rattle.michelson_typer.proofs.TableLaws.{below_more, types_at-behind}

clash : (b : Bool) → b ≡ true → b ≡ false → ⊥
clash b one_way other = cc

-- a table that stays
pub stays : (T : List Ty) → Grows T T
stays T = record { more = []; is = sym (append-nil T) }

-- ---- levels of another kind

unlike_bool : (l : Level ℕ) → (l ≡ level.Bool → ⊥) → (level_kind l == 1) ≡ false
unlike_bool level.Bool other = absurd (other refl)
unlike_bool level.Unit other = refl
unlike_bool _ other = refl

unlike_option : (l : Level ℕ) → ((a : ℕ) → l ≡ level.Option a → ⊥) → (level_kind l == 9) ≡ false
unlike_option (level.Option a) other = absurd (other a refl)
unlike_option level.Unit other = refl
unlike_option _ other = refl

unlike_or : (l : Level ℕ) → ((a b : ℕ) → l ≡ level.Or a b → ⊥) → (level_kind l == 10) ≡ false
unlike_or (level.Or a b) other = absurd (other a b refl)
unlike_or level.Unit other = refl
unlike_or _ other = refl

unlike_list : (l : Level ℕ) → ((a : ℕ) → l ≡ level.List a → ⊥) → (level_kind l == 12) ≡ false
unlike_list (level.List a) other = absurd (other a refl)
unlike_list level.Unit other = refl
unlike_list _ other = refl

pub unlike_map : (l : Level ℕ) → ((k v : ℕ) → l ≡ level.Map k v → ⊥) → (level_kind l == 14) ≡ false
unlike_map (level.Map k v) other = absurd (other k v refl)
unlike_map level.Unit other = refl
unlike_map _ other = refl

unlike_pairs : (l : Level ℕ) → ((a : ℕ) → l ≡ level.List a → ⊥) → ((k v : ℕ) → l ≡ level.Map k v → ⊥) → ((level_kind l == 12) || (level_kind l == 14)) ≡ false
unlike_pairs (level.List a) no_list no_map = absurd (no_list a refl)
unlike_pairs (level.Map k v) no_list no_map = absurd (no_map k v refl)
unlike_pairs level.Unit no_list no_map = refl
unlike_pairs _ no_list no_map = refl

unlike_items : (l : Level ℕ) → ((a : ℕ) → l ≡ level.List a → ⊥) → ((a : ℕ) → l ≡ level.Set a → ⊥) → ((k v : ℕ) → l ≡ level.Map k v → ⊥) →
    ((level_kind l == 12) || ((level_kind l == 13) || (level_kind l == 14))) ≡ false
unlike_items (level.List a) no_list no_set no_map = absurd (no_list a refl)
unlike_items (level.Set a) no_list no_set no_map = absurd (no_set a refl)
unlike_items (level.Map k v) no_list no_set no_map = absurd (no_map k v refl)
unlike_items level.Unit no_list no_set no_map = refl
unlike_items _ no_list no_set no_map = refl

-- an instruction that goes over sets
abbrev pub is_iter : {A : Type 0} → Instr-F A → Bool
is_iter (one.Iter c) = true
is_iter _ = false

pub no_set : {A : Type 0} (x : Instr-F A) → goes_over x ≡ true → is_iter x ≡ false → top_fits x 13 ≡ false
no_set (one.Iter c) over other = absurd (clash true refl other)
no_set (one.Map c) over other = refl
no_set one.Drop over other = absurd (clash true refl (sym over))
no_set _ over other = absurd (clash true refl (sym over))

-- ---- an answer that is handed on

pub handed : {E : Type 0} (old new : List Ty) (i : Instr) (ids : List ℕ) (r : Result (Option Starts) E) (m : Option (List (ℕ × List ℕ))) →
    IfOk r (λ o. option_map starts_of o ≡ m) → Opens old new i ids m → IfOk r (λ o. Opens old new i ids (option_map starts_of o))
handed old new i ids r m is opened =
    IfOk-weaker r (λ o. option_map starts_of o ≡ m) (λ o. Opens old new i ids (option_map starts_of o)) (λ o e. subst (Opens old new i ids) (sym e) opened) is

-- ---- an instruction without bodies

running-bodies : {A : Type 0} (x : Instr-F A) → is_running x ≡ has_bodies x
running-bodies one.Drop = refl
running-bodies _ = refl

-- it begins none
pub none_begin : (T : List Ty) (i : Instr) (stack : List ℕ) → has_bodies (out-Instr i) ≡ false → Opens T T i stack None
none_begin T i stack none begun b =
    clash (has_bodies (out-Instr i)) (sym (running-bodies (out-Instr i)) ∙ running (out-Instr i) (types_at T stack) begun b.ends b.outcome b.line) none

-- ---- an empty stack

no_top : {A : Type 0} (x : Instr-F A) (b : List Ty) (st : List Start) (es : List Outcome) (o : Outcome) → Runs x b st es o → b ≡ [] → dips x ≡ false → ⊥
no_top x b st es o (dip c a u v) none not_so = cc
no_top x b st es o (dip_n n c items u v long) none not_so = cc
no_top x b st es o (if_true c d u e f p j) none not_so = cc
no_top x b st es o (if_none c d a u e f p j) none not_so = cc
no_top x b st es o (if_left c d l r u e f p j) none not_so = cc
no_top x b st es o (if_cons c d a u e f p j) none not_so = cc
no_top x b st es o (loop c u e q) none not_so = cc
no_top x b st es o (loop_left c l r u e q) none not_so = cc
no_top x b st es o (iter_list c a u e q) none not_so = cc
no_top x b st es o (iter_set c a u e q) none not_so = cc
no_top x b st es o (iter_map c k v u e q) none not_so = cc
no_top x b st es o (map_list c a r u) none not_so = cc
no_top x b st es o (map_map c k v r u) none not_so = cc
no_top x b st es o (failwith a u may) none not_so = cc

pub nothing_begins : (T : List Ty) (i : Instr) (stack : List ℕ) → length stack < 1 → dips (out-Instr i) ≡ false → Opens T T i stack None
nothing_begins T i [] none not_so begun b = no_top (out-Instr i) [] begun b.ends b.outcome b.line refl not_so
nothing_begins T i (top ∷ rest) some not_so begun b = absurd (let long : length (top ∷ rest) ≡ suc (length rest) = refl in omega arith)

-- ---- items that are set aside

too_short : (T : List Ty) (i : Instr) (x : Instr-F Instr) (stack : List ℕ) → out-Instr i ≡ x → lines x ≡ [] → length stack < items_taken x → Opens T T i stack None
too_short T i x stack is none short begun b =
    enough_runs x (types_at T stack) begun b.ends b.outcome (without_line none (let long = length-map stack (type_at T) in omega arith))
    (subst (λ (y : Instr-F Instr). Runs y (types_at T stack) begun b.ends b.outcome) is b.line)

-- the items above, and those below
pub cut_types : (T : List Ty) (n : ℕ) (stack : List ℕ) → types_at T stack ≡ types_at T (take n stack) ++ types_at T (drop n stack)
cut_types T n stack = ap (types_at T) (sym (take-append-drop n stack)) ∙ map-append (type_at T) (take n stack) (drop n stack)

below_in : (T : List Ty) (n : ℕ) (stack : List ℕ) → are_in T stack ≡ true → are_in T (drop n stack) ≡ true
below_in T n stack within =
    let whole = ap (list_all (λ id. nat_lt id (length T))) (take-append-drop n stack) ∙ within in
    (and_parts _ _ (sym (list_all-append (λ id. nat_lt id (length T)) (take n stack) (drop n stack)) ∙ whole)).1

pub dips_n : (T : List Ty) (i : Instr) (n : ℕ) (c : List Instr) (stack : List ℕ) → are_in T stack ≡ true → out-Instr i ≡ one.DipN n c →
    (b : Bool) → nat_le n (length stack) ≡ b → Opens T T i stack (if b then Some ((n, drop n stack) ∷ []) else None)
dips_n T i n c stack within is true enough =
    let down = types_at T (drop n stack) in (
      record {
        ends = To down ∷ [];
        outcome = To (types_at T (take n stack) ++ down);
        line =
            subst (λ (y : Instr-F Instr). Runs y (types_at T stack) ((n, down) ∷ []) (To down ∷ []) (To (types_at T (take n stack) ++ down))) (sym is)
            (subst (λ (z : List Ty). Runs (one.DipN n c) z ((n, down) ∷ []) (To down ∷ []) (To (types_at T (take n stack) ++ down))) (sym (cut_types T n stack))
            (dip_n n c (types_at T (take n stack)) down down (length-map (take n stack) (type_at T) ∙ length-take-le n stack (leb-true n (length stack) enough))));
      },
      and_from _ _ (below_in T n stack within) refl,
    )
dips_n T i n c stack within is false short = too_short T i (one.DipN n c) stack is refl (leb-false n (length stack) short)

pub dips_one : (T : List Ty) (i : Instr) (c : List Instr) (stack : List ℕ) → are_in T stack ≡ true → out-Instr i ≡ one.Dip c →
    (b : Bool) → nat_le 1 (length stack) ≡ b → Opens T T i stack (if b then Some ((1, drop 1 stack) ∷ []) else None)
dips_one T i c [] within is true enough = absurd (let le : 1 ≤ length {A = ℕ} [] = leb-true 1 (length {A = ℕ} []) enough in let none : length {A = ℕ} [] ≡ 0 = refl in omega arith)
dips_one T i c [] within is false short = too_short T i (one.Dip c) [] is refl (leb-false 1 (length {A = ℕ} []) short)
dips_one T i c (top ∷ rest) within is true enough = (
  record {
    ends = To (types_at T rest) ∷ [];
    outcome = To (type_at T top ∷ types_at T rest);
    line = subst (λ (y : Instr-F Instr). Runs y (types_at T (top ∷ rest)) ((1, types_at T rest) ∷ []) (To (types_at T rest) ∷ []) (To (type_at T top ∷ types_at T rest))) (sym is)
        (dip c (type_at T top) (types_at T rest) (types_at T rest));
  },
  and_from _ _ (and_parts _ _ within).1 refl,
)
dips_one T i c (top ∷ rest) within is false short =
    absurd (let less = leb-false 1 (length (top ∷ rest)) short in let long : length (top ∷ rest) ≡ suc (length rest) = refl in omega arith)

-- ---- the top is taken apart

module _ (T : List Ty) (i : Instr) (top : ℕ) (rest : List ℕ) (stands : are_in T (top ∷ rest) ≡ true) where
  abbrev below : List Ty
  below = types_at T rest

  rest_in : are_in T rest ≡ true
  rest_in = (and_parts _ _ stands).1

  opens : (new : List Ty) (x : Instr-F Instr) (t : Ty) (st : List Start) (begun : List (ℕ × List ℕ)) (es : List Outcome) (o : Outcome) →
      out-Instr i ≡ x → type_at T top ≡ t → starts_at new begun ≡ st → Runs x (t ∷ below) st es o → are_starts_in new begun ≡ true →
      Opens T new i (top ∷ rest) (Some begun)
  opens new x t st begun es o is at seen line within = (
    record {
      ends = es;
      outcome = o;
      line =
          subst (λ (y : Instr-F Instr). Runs y (type_at T top ∷ below) (starts_at new begun) es o) (sym is)
          (subst (λ (z : Ty). Runs x (z ∷ below) (starts_at new begun) es o) (sym at)
          (subst (λ (z : List Start). Runs x (t ∷ below) z es o) (sym seen) line));
    },
    within,
  )

  -- one type on top, or none

  at_rest : are_starts_in T ((0, rest) ∷ []) ≡ true
  at_rest = and_from _ _ rest_in refl

  upon : (a : ℕ) → are_in T (a ∷ []) ≡ true → are_in T (a ∷ rest) ≡ true
  upon a part = and_from _ _ (and_parts _ _ part).0 rest_in

  at_upon : (a : ℕ) → are_in T (a ∷ []) ≡ true → are_starts_in T ((0, a ∷ rest) ∷ []) ≡ true
  at_upon a part = and_from _ _ (upon a part) refl

  pub opens_if : (c d : List Instr) → out-Instr i ≡ one.If c d → type_at T top ≡ type.Bool → Opens T T i (top ∷ rest) (Some ((0, rest) ∷ (0, rest) ∷ []))
  opens_if c d is at =
      opens T (one.If c d) type.Bool _ ((0, rest) ∷ (0, rest) ∷ []) _ _ is at refl (if_true c d below (To below) (To below) (To below) (alike (To below))) (and_from _ _ rest_in at_rest)

  pub opens_if_none : (c d : List Instr) (a : ℕ) → out-Instr i ≡ one.IfNone c d → type_at T top ≡ type.Option (type_at T a) → are_in T (a ∷ []) ≡ true →
      Opens T T i (top ∷ rest) (Some ((0, rest) ∷ (0, a ∷ rest) ∷ []))
  opens_if_none c d a is at part =
      opens T (one.IfNone c d) (type.Option (type_at T a)) _ ((0, rest) ∷ (0, a ∷ rest) ∷ []) _ _ is at refl
      (if_none c d (type_at T a) below (To below) (To below) (To below) (alike (To below))) (and_from _ _ rest_in (at_upon a part))

  pub opens_if_left : (c d : List Instr) (a b : ℕ) → out-Instr i ≡ one.IfLeft c d → type_at T top ≡ type.Or (type_at T a) (type_at T b) → are_in T (a ∷ b ∷ []) ≡ true →
      Opens T T i (top ∷ rest) (Some ((0, a ∷ rest) ∷ (0, b ∷ rest) ∷ []))
  opens_if_left c d a b is at parts =
      let both = and_parts _ _ parts in
      opens T (one.IfLeft c d) (type.Or (type_at T a) (type_at T b)) _ ((0, a ∷ rest) ∷ (0, b ∷ rest) ∷ []) _ _ is at refl
      (if_left c d (type_at T a) (type_at T b) below (To below) (To below) (To below) (alike (To below)))
      (and_from _ _ (and_from _ _ both.0 rest_in) (at_upon b both.1))

  pub opens_if_cons : (c d : List Instr) (a : ℕ) → out-Instr i ≡ one.IfCons c d → type_at T top ≡ type.List (type_at T a) → are_in T (a ∷ []) ≡ true →
      Opens T T i (top ∷ rest) (Some ((0, a ∷ top ∷ rest) ∷ (0, rest) ∷ []))
  opens_if_cons c d a is at part =
      opens T (one.IfCons c d) (type.List (type_at T a)) _ ((0, a ∷ top ∷ rest) ∷ (0, rest) ∷ []) _ _ is at
      (λ j. (0, type_at T a ∷ at j ∷ below) ∷ (0, below) ∷ [])
      (if_cons c d (type_at T a) below (To below) (To below) (To below) (alike (To below)))
      (and_from _ _ (and_from _ _ (and_parts _ _ part).0 stands) at_rest)

  pub opens_loop : (c : List Instr) → out-Instr i ≡ one.Loop c → type_at T top ≡ type.Bool → Opens T T i (top ∷ rest) (Some ((0, rest) ∷ []))
  opens_loop c is at = opens T (one.Loop c) type.Bool _ ((0, rest) ∷ []) _ _ is at refl (loop c below (To (type.Bool ∷ below)) (with_it (type.Bool ∷ below))) at_rest

  pub opens_loop_left : (c : List Instr) (a b : ℕ) → out-Instr i ≡ one.LoopLeft c → type_at T top ≡ type.Or (type_at T a) (type_at T b) → are_in T (a ∷ b ∷ []) ≡ true →
      Opens T T i (top ∷ rest) (Some ((0, a ∷ rest) ∷ []))
  opens_loop_left c a b is at parts =
      opens T (one.LoopLeft c) (type.Or (type_at T a) (type_at T b)) _ ((0, a ∷ rest) ∷ []) _ _ is at refl
      (loop_left c (type_at T a) (type_at T b) below (To (type.Or (type_at T a) (type_at T b) ∷ below)) (with_it (type.Or (type_at T a) (type_at T b) ∷ below)))
      (let both = and_parts _ _ parts in and_from _ _ (and_from _ _ both.0 rest_in) refl)

  pub opens_iter_list : (c : List Instr) (a : ℕ) → out-Instr i ≡ one.Iter c → type_at T top ≡ type.List (type_at T a) → are_in T (a ∷ []) ≡ true →
      Opens T T i (top ∷ rest) (Some ((0, a ∷ rest) ∷ []))
  opens_iter_list c a is at part =
      opens T (one.Iter c) (type.List (type_at T a)) _ ((0, a ∷ rest) ∷ []) _ _ is at refl (iter_list c (type_at T a) below (To below) (with_it below)) (at_upon a part)

  pub opens_iter_set : (c : List Instr) (a : ℕ) → out-Instr i ≡ one.Iter c → type_at T top ≡ type.Set (type_at T a) → are_in T (a ∷ []) ≡ true →
      Opens T T i (top ∷ rest) (Some ((0, a ∷ rest) ∷ []))
  opens_iter_set c a is at part =
      opens T (one.Iter c) (type.Set (type_at T a)) _ ((0, a ∷ rest) ∷ []) _ _ is at refl (iter_set c (type_at T a) below (To below) (with_it below)) (at_upon a part)

  pub opens_map_list : (c : List Instr) (a : ℕ) → out-Instr i ≡ one.Map c → type_at T top ≡ type.List (type_at T a) → are_in T (a ∷ []) ≡ true →
      Opens T T i (top ∷ rest) (Some ((0, a ∷ rest) ∷ []))
  opens_map_list c a is at part =
      opens T (one.Map c) (type.List (type_at T a)) _ ((0, a ∷ rest) ∷ []) _ _ is at refl (map_list c (type_at T a) (type_at T a) below) (at_upon a part)

  pub opens_failwith : out-Instr i ≡ one.Failwith → is_passable (type_at T top) ≡ true → Opens T T i (top ∷ rest) (Some [])
  opens_failwith is may = opens T one.Failwith (type_at T top) _ [] _ _ is refl refl (failwith (type_at T top) below may) refl

  pub shut_failwith : out-Instr i ≡ one.Failwith → is_passable (type_at T top) ≡ false → Opens T T i (top ∷ rest) None
  shut_failwith is may_not begun b =
      clash (is_passable (type_at T top))
      (raised_top (type_at T top ∷ below) begun b.ends b.outcome
      (subst (λ (y : Instr-F Instr). Runs y (type_at T top ∷ below) begun b.ends b.outcome) is b.line) (type_at T top) below refl) may_not

  -- ---- the entries of a map

  -- the table grew by the pair's type
  behind : (new : List Ty) → Grows T new → types_at new rest ≡ below
  behind new grown = ap (λ (table : List Ty). types_at table rest) grown.is ∙ types_at-behind T grown.more rest rest_in

  longer : (new : List Ty) → Grows T new → are_in new rest ≡ true
  longer new grown = below_more (length T) (length new) rest (let is = ap length grown.is in let sum = length-append T grown.more in omega arith) rest_in

  entries_in : (new : List Ty) (pair : ℕ) → Grows T new → pair < length new → are_starts_in new ((0, pair ∷ rest) ∷ []) ≡ true
  entries_in new pair grown within = and_from _ _ (and_from _ _ (lt-ltb pair (length new) within) (longer new grown)) refl

  entries_at : (new : List Ty) (pair k v : ℕ) → Grows T new → IsTypeOf new pair (type.Pair (type_at T k) (type_at T v)) →
      starts_at new ((0, pair ∷ rest) ∷ []) ≡ (0, type.Pair (type_at T k) (type_at T v) ∷ below) ∷ []
  entries_at new pair k v grown number = λ j. (0, number.is j ∷ behind new grown j) ∷ []

  pub opens_iter_map : (new : List Ty) (c : List Instr) (k v pair : ℕ) → out-Instr i ≡ one.Iter c → type_at T top ≡ type.Map (type_at T k) (type_at T v) →
      Grows T new → IsTypeOf new pair (type.Pair (type_at T k) (type_at T v)) → Opens T new i (top ∷ rest) (Some ((0, pair ∷ rest) ∷ []))
  opens_iter_map new c k v pair is at grown number =
      opens new (one.Iter c) (type.Map (type_at T k) (type_at T v)) _ ((0, pair ∷ rest) ∷ []) _ _ is at (entries_at new pair k v grown number)
      (iter_map c (type_at T k) (type_at T v) below (To below) (with_it below)) (entries_in new pair grown number.within)

  pub opens_map_map : (new : List Ty) (c : List Instr) (k v pair : ℕ) → out-Instr i ≡ one.Map c → type_at T top ≡ type.Map (type_at T k) (type_at T v) →
      Grows T new → IsTypeOf new pair (type.Pair (type_at T k) (type_at T v)) → Opens T new i (top ∷ rest) (Some ((0, pair ∷ rest) ∷ []))
  opens_map_map new c k v pair is at grown number =
      opens new (one.Map c) (type.Map (type_at T k) (type_at T v)) _ ((0, pair ∷ rest) ∷ []) _ _ is at (entries_at new pair k v grown number)
      (map_map c (type_at T k) (type_at T v) (type_at T v) below) (entries_in new pair grown number.within)

  -- ---- another top

  pub shut : (x : Instr-F Instr) (l : Level ℕ) → out-Instr i ≡ x → type_at T top ≡ level_type (type_at T) l → top_fits x (level_kind l) ≡ false → Opens T T i (top ∷ rest) None
  shut x l is at unfit begun b =
      clash (top_fits x (level_kind l))
      (ap (top_fits x) (sym (ap kind_of at ∙ ap kind_shown (shows (type_at T) l) ∙ kind-shown (type_at T) l))
      ∙ top_of_runs x (type_at T top ∷ below) begun b.ends b.outcome
      (subst (λ (y : Instr-F Instr). Runs y (type_at T top ∷ below) begun b.ends b.outcome) is b.line) (type_at T top) below refl)
      unfit

  pub shut_if : (c d : List Instr) (l : Level ℕ) → out-Instr i ≡ one.If c d → type_at T top ≡ level_type (type_at T) l → (l ≡ level.Bool → ⊥) → Opens T T i (top ∷ rest) None
  shut_if c d l is at other = shut (one.If c d) l is at (unlike_bool l other)

  pub shut_if_none : (c d : List Instr) (l : Level ℕ) → out-Instr i ≡ one.IfNone c d → type_at T top ≡ level_type (type_at T) l → ((a : ℕ) → l ≡ level.Option a → ⊥) → Opens T T i (top ∷ rest) None
  shut_if_none c d l is at other = shut (one.IfNone c d) l is at (unlike_option l other)

  pub shut_if_left : (c d : List Instr) (l : Level ℕ) → out-Instr i ≡ one.IfLeft c d → type_at T top ≡ level_type (type_at T) l → ((a b : ℕ) → l ≡ level.Or a b → ⊥) → Opens T T i (top ∷ rest) None
  shut_if_left c d l is at other = shut (one.IfLeft c d) l is at (unlike_or l other)

  pub shut_if_cons : (c d : List Instr) (l : Level ℕ) → out-Instr i ≡ one.IfCons c d → type_at T top ≡ level_type (type_at T) l → ((a : ℕ) → l ≡ level.List a → ⊥) → Opens T T i (top ∷ rest) None
  shut_if_cons c d l is at other = shut (one.IfCons c d) l is at (unlike_list l other)

  pub shut_loop : (c : List Instr) (l : Level ℕ) → out-Instr i ≡ one.Loop c → type_at T top ≡ level_type (type_at T) l → (l ≡ level.Bool → ⊥) → Opens T T i (top ∷ rest) None
  shut_loop c l is at other = shut (one.Loop c) l is at (unlike_bool l other)

  pub shut_loop_left : (c : List Instr) (l : Level ℕ) → out-Instr i ≡ one.LoopLeft c → type_at T top ≡ level_type (type_at T) l → ((a b : ℕ) → l ≡ level.Or a b → ⊥) → Opens T T i (top ∷ rest) None
  shut_loop_left c l is at other = shut (one.LoopLeft c) l is at (unlike_or l other)

  -- ---- an instruction that goes over items

  pub over_list : (x : Instr-F Instr) (a : ℕ) → out-Instr i ≡ x → goes_over x ≡ true → type_at T top ≡ type.List (type_at T a) → are_in T (a ∷ []) ≡ true →
      Opens T T i (top ∷ rest) (Some ((0, a ∷ rest) ∷ []))
  over_list (one.Iter c) a is over at part = opens_iter_list c a is at part
  over_list (one.Map c) a is over at part = opens_map_list c a is at part
  over_list one.Drop a is over at part = absurd (clash true refl (sym over))
  over_list _ a is over at part = absurd (clash true refl (sym over))

  pub over_map : (new : List Ty) (x : Instr-F Instr) (k v pair : ℕ) → out-Instr i ≡ x → goes_over x ≡ true → type_at T top ≡ type.Map (type_at T k) (type_at T v) →
      Grows T new → IsTypeOf new pair (type.Pair (type_at T k) (type_at T v)) → Opens T new i (top ∷ rest) (Some ((0, pair ∷ rest) ∷ []))
  over_map new (one.Iter c) k v pair is over at grown number = opens_iter_map new c k v pair is at grown number
  over_map new (one.Map c) k v pair is over at grown number = opens_map_map new c k v pair is at grown number
  over_map new one.Drop k v pair is over at grown number = absurd (clash true refl (sym over))
  over_map new _ k v pair is over at grown number = absurd (clash true refl (sym over))

  pub shut_over : (x : Instr-F Instr) (l : Level ℕ) → out-Instr i ≡ x → goes_over x ≡ true → type_at T top ≡ level_type (type_at T) l →
      ((a : ℕ) → l ≡ level.List a → ⊥) → ((a : ℕ) → l ≡ level.Set a → ⊥) → ((k v : ℕ) → l ≡ level.Map k v → ⊥) → Opens T T i (top ∷ rest) None
  shut_over (one.Iter c) l is over at no_list no_set no_map = shut (one.Iter c) l is at (unlike_items l no_list no_set no_map)
  shut_over (one.Map c) l is over at no_list no_set no_map = shut (one.Map c) l is at (unlike_pairs l no_list no_map)
  shut_over one.Drop l is over at no_list no_set no_map = absurd (clash true refl (sym over))
  shut_over _ l is over at no_list no_set no_map = absurd (clash true refl (sym over))

  pub shut_set : (a : ℕ) → type_at T top ≡ type.Set (type_at T a) → top_fits (out-Instr i) 13 ≡ false → Opens T T i (top ∷ rest) None
  shut_set a at unfit = shut (out-Instr i) (level.Set a) refl at unfit
