-- An instruction on a stack, where its bodies are decided: it is typed and leaves a kept stack, or it has a first fault.
use Rattle.std.proofs.Common.{◌≡◌, ℕ, ◌+◌, true, List, [], ◌∷◌, inl, inr, refl, subst}
use Rattle.std.specs.Prelude.{◌⊎◌}
use Rattle.std.specs.List.{list_all}
use Rattle.std.proofs.lemmas.Bool.{and_from, and_parts}
use Rattle.value_core.specs.declared.ty.Ty.{Ty}
use Rattle.michelson_code.specs.declared.instr.Instr.{Instr}
use Rattle.michelson_code.specs.declared.instr.Instr.TheViews.{out-Instr}
use Rattle.michelson_code.specs.declared.script.Script.{Script}
use Rattle.michelson_code.specs.declared.type_fault.TypeKind.{TypeKind}
use Rattle.michelson_code.specs.declared.type_fault.TypeKind.TheVariants as kind
use Rattle.michelson_code.specs.FirstFault.{BodiesEnd, BodiesFault, Breaks, Differ, FailsEarly, FailsInside, FitsNoLine, HasTooLarge, InstrFault, IsStart, IsTooTall, Makes, MakesOne, StartsKept, leaves, begins, ends_on, its_own, inside, types_of}
use Rattle.michelson_code.specs.Forms.{bodies_of}
use Rattle.michelson_code.specs.Typing.{Applies, BodiesTyped, InstrTyped, IsKept, Outcome, To, Fails, Runs, Start, is_fit_alone, applies, runs}
use Rattle.michelson_code.specs.WrittenTypes.{has_comparable_keys, has_passable_values, is_well_made}
use Rattle.michelson_code.proofs.DecidedBodies.{Opened, opened_decided}
use Rattle.michelson_code.proofs.DecidedCounts.{either_decided, short_decided}
use Rattle.michelson_code.proofs.DecidedEnds.{Ended, ended, goes, too_early, otherwise}
use Rattle.michelson_code.proofs.DecidedLines.{Left, applies_decided}
use Rattle.michelson_code.proofs.Deciding.{Decided}
use Rattle.michelson_code.proofs.FaultLaws.{EndKept, bodies_none, no_failing}
use Rattle.michelson_code.proofs.FirstKind.{First, first_or_none}
use Rattle.michelson_code.proofs.KeptStacks.{bodies_kept, is_false, kept_by, large_decided, not_false, some_start, starts_decided, starts_kept_by, tall_decided}
use Rattle.michelson_code.proofs.OutcomeLaws.{bodies_once, left_by, lines_or_bodies, one_after, same_end, same_starts}

-- what passes both tests is well made
well_made : (ts : List Ty) → list_all has_comparable_keys ts ≡ true → list_all has_passable_values ts ≡ true → list_all is_well_made ts ≡ true
well_made [] keys values = refl
well_made (t ∷ ts) keys values =
    let k = and_parts _ _ keys in let v = and_parts _ _ values in and_from _ _ (and_from _ _ k.0 v.0) (well_made ts k.1 v.1)

-- bodies are typed, or have a first fault
abbrev pub BodiesAnswer : Script → ℕ → List (List Instr) → List Start → Type 0
BodiesAnswer s n cs st =
    ((es : List Outcome) × BodiesTyped s n cs st es) ⊎ ((path : List ℕ) × ((k : TypeKind) × BodiesFault s n cs st path k))

module _ (s : Script) (n : ℕ) (i : Instr) (b : List Ty) where
  -- the instruction is typed, and what it leaves is kept
  pub record Typeable : Type 0 where
    pub outcome : Outcome
    pub typed : InstrTyped s n i b outcome
    pub kept : EndKept n outcome

  -- it has a first fault
  pub record Faulty : Type 0 where
    pub path : List ℕ
    pub told : TypeKind
    pub fault : InstrFault s n i b path told

  -- what is asked of its lines, its bodies and the stacks that it makes is decided
  record Asked : Type 0 where
    pub fits : Decided (FitsNoLine s i b)
    pub differ : Decided (Differ s n i b)
    pub early : Decided (FailsEarly s n i b)
    pub tall : Decided (MakesOne s n i b IsTooTall)
    pub large : Decided (MakesOne s n i b HasTooLarge)

  abbrev Sound : Type 0
  Sound = (k : TypeKind) → Breaks s n i b k → ⊥

  breaks_decided : Asked → (k : TypeKind) → Decided (Breaks s n i b k)
  breaks_decided a kind.StackTooShort = short_decided (out-Instr i) b
  breaks_decided a kind.WrongType = either_decided (is_false (is_fit_alone i)) a.fits
  breaks_decided a kind.BranchesDiffer = a.differ
  breaks_decided a kind.NotComparable = is_false (list_all has_comparable_keys (types_of i))
  breaks_decided a kind.BigMapPlace = is_false (list_all has_passable_values (types_of i))
  breaks_decided a kind.FailNotLast = a.early
  breaks_decided a kind.StackTooTall = a.tall
  breaks_decided a kind.TypeTooLarge = a.large
  breaks_decided a kind.EntryTwice = inr (λ never. never)
  breaks_decided a kind.CodeTooLarge = inr (λ never. never)
  breaks_decided a kind.LastStack = inr (λ never. never)

  -- the first kind is told, and where none holds what follows from that
  by_first : Asked → (Sound → Typeable ⊎ Faulty) → Typeable ⊎ Faulty
  by_first a further = go (first_or_none (Breaks s n i b) (breaks_decided a))
    where
      go : First (Breaks s n i b) ⊎ Sound → Typeable ⊎ Faulty
      go (inl f) = inr (record { path = []; told = f.kind; fault = its_own n i b f.kind f.first })
      go (inr sound) = further sound

  fit_by : Sound → is_fit_alone i ≡ true
  fit_by sound = not_false (is_fit_alone i) (λ unfit. sound kind.WrongType (inl unfit))

  -- a stack that is made is kept where nothing is broken
  made_kept : Sound → (m : ℕ) (u : List Ty) → Makes s n i b m u → IsKept m u
  made_kept sound m u made =
      kept_by m u
      (λ tall. sound kind.StackTooTall (record { set_aside = m; stack = u; made = made; faulty = tall }))
      (λ large. sound kind.TypeTooLarge (record { set_aside = m; stack = u; made = made; faulty = large }))

  -- ---- its operands fit no line
  module _ (none : FitsNoLine s i b) where
    makes_nothing : (m : ℕ) (u : List Ty) → Makes s n i b m u → ⊥
    makes_nothing m u (leaves v y) = none.applies v y
    makes_nothing m u (begins st es o start y is) = none.runs st es o y
    makes_nothing m u (ends_on st es v y bodies) = none.runs st es (To v) y

    unfit_asked : Asked
    unfit_asked = record {
      fits = inl none;
      differ = inr (λ d. none.runs d.bodies.starts d.bodies.line_ends d.bodies.outcome d.bodies.line);
      early = inr (λ f. none.runs f.bodies.starts f.bodies.line_ends f.bodies.outcome f.bodies.line);
      tall = inr (λ m. makes_nothing m.set_aside m.stack m.made);
      large = inr (λ m. makes_nothing m.set_aside m.stack m.made);
    }

    unfit : Typeable ⊎ Faulty
    unfit = by_first unfit_asked (λ sound. absurd (sound kind.WrongType (inr none)))

  -- ---- it has no bodies, and finds its operands
  module _ (t : List Ty) (x : Applies s (out-Instr i) b t) where
    no_line : (st : List Start) (es : List Outcome) (o : Outcome) → Runs (out-Instr i) b st es o → ⊥
    no_line st es o y = lines_or_bodies s (out-Instr i) b b t st es o y x

    made_is : (F : ℕ → List Ty → Type 0) (m : ℕ) (u : List Ty) → Makes s n i b m u → F m u → F n t
    made_is F m u (leaves v y) faulty = subst (F n) (one_after s (out-Instr i) b b v t y x refl) faulty
    made_is F m u (begins st es o start y is) faulty = absurd (no_line st es o y)
    made_is F m u (ends_on st es v y bodies) faulty = absurd (no_line st es (To v) y)

    leaves_decided : (F : ℕ → List Ty → Type 0) → Decided (F n t) → Decided (MakesOne s n i b F)
    leaves_decided F (inl f) = inl (record { set_aside = n; stack = t; made = leaves t x; faulty = f })
    leaves_decided F (inr none) = inr (λ m. none (made_is F m.set_aside m.stack m.made m.faulty))

    line_asked : Asked
    line_asked = record {
      fits = inr (λ none. none.applies t x);
      differ = inr (λ d. no_line d.bodies.starts d.bodies.line_ends d.bodies.outcome d.bodies.line);
      early = inr (λ f. no_line f.bodies.starts f.bodies.line_ends f.bodies.outcome f.bodies.line);
      tall = leaves_decided IsTooTall (tall_decided n t);
      large = leaves_decided HasTooLarge (large_decided n t);
    }

    line_typed : Sound → Typeable
    line_typed sound =
        let keys = not_false (list_all has_comparable_keys (types_of i)) (sound kind.NotComparable) in
        let values = not_false (list_all has_passable_values (types_of i)) (sound kind.BigMapPlace) in
        record { outcome = To t; typed = applies n i b t (fit_by sound) (well_made (types_of i) keys values) x; kept = made_kept sound n t (leaves t x) }

    of_line : Typeable ⊎ Faulty
    of_line = by_first line_asked (λ sound. inl (line_typed sound))

  -- ---- it has bodies, which begin on these stacks
  module _ (st : List Start) (es : List Outcome) (o : Outcome) (x : Runs (out-Instr i) b st es o) where
    abbrev End : List Outcome → Type 0
    End fs = BodiesTyped s n (bodies_of i) st fs

    -- how the bodies end, or where they don't
    data Course : Type 0 where
      ends_so : (fs : List Outcome) (p : Outcome) → End fs → Runs (out-Instr i) b st fs p → Course
      ends_early : (fs : List Outcome) → End fs → FailsInside (out-Instr i) fs → Course
      ends_apart : (fs : List Outcome) → End fs → (FailsInside (out-Instr i) fs → ⊥) →
          ((st' : List Start) (p : Outcome) → Runs (out-Instr i) b st' fs p → ⊥) → Course
      faulty_inside : (path : List ℕ) (k : TypeKind) → StartsKept n st → BodiesFault s n (bodies_of i) st path k → Course
      unkept : (StartsKept n st → ⊥) → Course

    these : (st' : List Start) (es' : List Outcome) (p : Outcome) → Runs (out-Instr i) b st' es' p → st' ≡ st
    these st' es' p y = same_starts (out-Instr i) b b st' st es' es p o y x refl

    end_of : (gs : List Outcome) → BodiesEnd s n i b gs → End gs
    end_of gs e = subst (λ (z : List Start). BodiesTyped s n (bodies_of i) z gs) (these e.starts e.line_ends e.outcome e.line) e.bodies

    bodies_end : (fs : List Outcome) → End fs → BodiesEnd s n i b fs
    bodies_end fs typed = record { starts = st; line_ends = es; outcome = o; line = x; bodies = typed }

    one_end : (fs gs : List Outcome) → End fs → End gs → fs ≡ gs
    one_end fs gs = bodies_once s n (bodies_of i) st fs gs

    differ_decided : Course → Decided (Differ s n i b)
    differ_decided (ends_so fs p typed y) = inr (λ d.
        d.no_line st p (subst (λ (z : List Outcome). Runs (out-Instr i) b st z p) (one_end fs d.ends typed (end_of d.ends d.bodies)) y))
    differ_decided (ends_early fs typed early) = inr (λ d.
        d.may (subst (FailsInside (out-Instr i)) (one_end fs d.ends typed (end_of d.ends d.bodies)) early))
    differ_decided (ends_apart fs typed may none) = inl (record { ends = fs; bodies = bodies_end fs typed; may = may; no_line = none })
    differ_decided (faulty_inside path k kept fault) = inr (λ d. bodies_none s n (bodies_of i) st path k d.ends fault (end_of d.ends d.bodies))
    differ_decided (unkept never) = inr (λ d. never (bodies_kept s n (bodies_of i) st d.ends (end_of d.ends d.bodies)))

    early_decided : Course → Decided (FailsEarly s n i b)
    early_decided (ends_so fs p typed y) = inr (λ f.
        no_failing (out-Instr i) b st fs f.ends p y f.inside (one_end fs f.ends typed (end_of f.ends f.bodies)))
    early_decided (ends_early fs typed early) = inl (record { ends = fs; bodies = bodies_end fs typed; inside = early })
    early_decided (ends_apart fs typed may none) = inr (λ f.
        may (subst (FailsInside (out-Instr i)) (one_end f.ends fs (end_of f.ends f.bodies) typed) f.inside))
    early_decided (faulty_inside path k kept fault) = inr (λ f. bodies_none s n (bodies_of i) st path k f.ends fault (end_of f.ends f.bodies))
    early_decided (unkept never) = inr (λ f. never (bodies_kept s n (bodies_of i) st f.ends (end_of f.ends f.bodies)))

    -- the stack that is left where the bodies end
    record EndsOn (t : List Ty) : Type 0 where
      pub ends : List Outcome
      pub bodies : End ends
      pub line : Runs (out-Instr i) b st ends (To t)

    no_stack : (t : List Ty) → Fails ≡ To t → ⊥
    no_stack t same = cc

    end_decided : Course → ((t : List Ty) × EndsOn t) ⊎ ((t : List Ty) → EndsOn t → ⊥)
    end_decided (ends_so fs (To t) typed y) = inl (t, record { ends = fs; bodies = typed; line = y })
    end_decided (ends_so fs Fails typed y) = inr (λ t e.
        no_stack t (same_end (out-Instr i) b b st st fs e.ends Fails (To t) y e.line refl (one_end fs e.ends typed e.bodies)))
    end_decided (ends_early fs typed early) = inr (λ t e. no_failing (out-Instr i) b st e.ends fs (To t) e.line early (one_end e.ends fs e.bodies typed))
    end_decided (ends_apart fs typed may none) = inr (λ t e.
        none st (To t) (subst (λ (z : List Outcome). Runs (out-Instr i) b st z (To t)) (one_end e.ends fs e.bodies typed) e.line))
    end_decided (faulty_inside path k kept fault) = inr (λ t e. bodies_none s n (bodies_of i) st path k e.ends fault e.bodies)
    end_decided (unkept never) = inr (λ t e. never (bodies_kept s n (bodies_of i) st e.ends e.bodies))

    ends_once : (t u : List Ty) → EndsOn t → EndsOn u → t ≡ u
    ends_once t u e f =
        left_by t u (same_end (out-Instr i) b b st st e.ends f.ends (To t) (To u) e.line f.line refl (one_end e.ends f.ends e.bodies f.bodies))

    module _ (F : ℕ → List Ty → Type 0) (no_start : (y : Start) → IsStart y st → F (n + y.0) y.1 → ⊥) where
      makes_none : ((t : List Ty) → EndsOn t → F n t → ⊥) → (m : ℕ) (u : List Ty) → Makes s n i b m u → F m u → ⊥
      makes_none no_end m u (leaves v y) f = lines_or_bodies s (out-Instr i) b b v st es o x y
      makes_none no_end m u (begins st' es' p start y is) f = no_start start (subst (IsStart start) (these st' es' p y) is) f
      makes_none no_end m u (ends_on st' es' v y bodies) f =
          let same = these st' es' (To v) y in
          no_end v (record {
            ends = es';
            bodies = subst (λ (z : List Start). BodiesTyped s n (bodies_of i) z es') same bodies;
            line = subst (λ (z : List Start). Runs (out-Instr i) b z es' (To v)) same y;
          }) f

      makes_last : ((t : List Ty) × EndsOn t) ⊎ ((t : List Ty) → EndsOn t → ⊥) → ((t : List Ty) → Decided (F n t)) → Decided (MakesOne s n i b F)
      makes_last (inr nothing) test = inr (λ m. makes_none (λ t e f. nothing t e) m.set_aside m.stack m.made m.faulty)
      makes_last (inl e) test = go (test e.0)
        where
          go : Decided (F n e.0) → Decided (MakesOne s n i b F)
          go (inl f) = inl (record { set_aside = n; stack = e.0; made = ends_on st e.1.ends e.0 e.1.line e.1.bodies; faulty = f })
          go (inr not) = inr (λ m. makes_none (λ t g f. not (subst (F n) (ends_once t e.0 g e.1) f)) m.set_aside m.stack m.made m.faulty)

    makes_decided : (F : ℕ → List Ty → Type 0) → ((m : ℕ) (u : List Ty) → Decided (F m u)) → Course → Decided (MakesOne s n i b F)
    makes_decided F test course = go (some_start (λ y. F (n + y.0) y.1) (λ y. test (n + y.0) y.1) st)
      where
        go : ((y : Start) → IsStart y st → F (n + y.0) y.1 → ⊥) ⊎ ((y : Start) × (IsStart y st × F (n + y.0) y.1)) → Decided (MakesOne s n i b F)
        go (inl none) = makes_last F none (end_decided course) (test n)
        go (inr some) = inl (record { set_aside = n + some.0.0; stack = some.0.1; made = begins st es o some.0 x some.1.0; faulty = some.1.1 })

    body_asked : Course → Asked
    body_asked course = record {
      fits = inr (λ none. none.runs st es o x);
      differ = differ_decided course;
      early = early_decided course;
      tall = makes_decided IsTooTall tall_decided course;
      large = makes_decided HasTooLarge large_decided course;
    }

    end_kept : Sound → (fs : List Outcome) (p : Outcome) → End fs → Runs (out-Instr i) b st fs p → EndKept n p
    end_kept sound fs (To t) typed y = made_kept sound n t (ends_on st fs t y typed)
    end_kept sound fs Fails typed y = tt

    when_sound : Course → Sound → Typeable ⊎ Faulty
    when_sound (ends_so fs p typed y) sound =
        inl (record { outcome = p; typed = runs n i b st fs p (fit_by sound) y typed; kept = end_kept sound fs p typed y })
    when_sound (ends_early fs typed early) sound =
        absurd (sound kind.FailNotLast (record { ends = fs; bodies = bodies_end fs typed; inside = early }))
    when_sound (ends_apart fs typed may none) sound =
        absurd (sound kind.BranchesDiffer (record { ends = fs; bodies = bodies_end fs typed; may = may; no_line = none }))
    when_sound (faulty_inside path k kept fault) sound =
        inr (record { path = path; told = k; fault = inside n i b st es o path k (fit_by sound) x kept fault })
    when_sound (unkept never) sound =
        absurd (never (starts_kept_by n st (λ y is. made_kept sound (n + y.0) y.1 (begins st es o y x is))))

    course_by : (fs : List Outcome) → End fs → Ended (out-Instr i) b fs → Course
    course_by fs typed (goes st' p y) = ends_so fs p typed (subst (λ (z : List Start). Runs (out-Instr i) b z fs p) (these st' fs p y) y)
    course_by fs typed (too_early early) = ends_early fs typed early
    course_by fs typed (otherwise may none) = ends_apart fs typed may none

    course_of : (StartsKept n st → BodiesAnswer s n (bodies_of i) st) → Course
    course_of answer = go (starts_decided n st)
      where
        answered : StartsKept n st → BodiesAnswer s n (bodies_of i) st → Course
        answered kept (inl typed) = course_by typed.0 typed.1 (ended s n (out-Instr i) b st es o x typed.0 typed.1)
        answered kept (inr fault) = faulty_inside fault.0 fault.1.0 kept fault.1.1

        go : Decided (StartsKept n st) → Course
        go (inl kept) = answered kept (answer kept)
        go (inr never) = unkept never

    of_bodies : (StartsKept n st → BodiesAnswer s n (bodies_of i) st) → Typeable ⊎ Faulty
    of_bodies answer = let course = course_of answer in by_first (body_asked course) (when_sound course)

  -- the instruction is typed, or has a first fault
  pub instr_decided : ((st : List Start) (es : List Outcome) (o : Outcome) → Runs (out-Instr i) b st es o → StartsKept n st → BodiesAnswer s n (bodies_of i) st) → Typeable ⊎ Faulty
  instr_decided answer = go (applies_decided s (out-Instr i) b) (opened_decided (out-Instr i) b)
    where
      go : Decided (Left s (out-Instr i) b) → Decided (Opened (out-Instr i) b) → Typeable ⊎ Faulty
      go (inl l) opened = of_line l.0 l.1
      go (inr never) (inl p) = of_bodies p.starts p.ends p.outcome p.line (answer p.starts p.ends p.outcome p.line)
      go (inr never) (inr shut) = unfit (record {
        applies = λ t x. never (t, x);
        runs = λ st es o y. shut (record { starts = st; ends = es; outcome = o; line = y });
      })
