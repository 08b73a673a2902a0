-- The first fault of an instruction, by what the walk found out about it in the order of the kinds.
use Rattle.std.proofs.Common.{◌≡◌, ℕ, ◌+◌, true, false, List, [], inl, inr, refl, sym, subst}
use Rattle.std.specs.List.{list_all}
use Rattle.value_core.specs.declared.ty.Ty.{Ty}
use Rattle.michelson_code.specs.declared.instr.Instr.{Instr}
use Rattle.michelson_code.specs.declared.instr.Instr.TheOpen.{Instr-F}
use Rattle.michelson_code.specs.declared.instr.Instr.TheViews.{out-Instr}
use Rattle.michelson_code.specs.declared.script.Script.{Script}
use Rattle.michelson_code.specs.declared.type_fault.TypeKind.{TypeKind}
use Rattle.michelson_code.specs.declared.type_fault.TypeKind.TheVariants as kind
use Rattle.michelson_code.specs.FirstFault.{BodiesEnd, BodiesFault, Breaks, FailsInside, HasTooLarge, InstrFault, IsFirst, IsShort, IsStart, IsTooTall, Makes, MakesOne, StartsKept, begins, ends_on, inside, its_own, leaves, types_of}
use Rattle.michelson_code.specs.Forms.{bodies_of}
use Rattle.michelson_code.specs.Typing.{Applies, BodiesTyped, InstrTyped, Outcome, To, Fails, Runs, Start, applies, runs, is_fit_alone, dip, dip_n, if_true, if_none, if_left, if_cons, loop, loop_left, iter_list, iter_set, iter_map, map_list, map_map, failwith}
use Rattle.michelson_code.specs.WrittenTypes.{has_comparable_keys, has_passable_values}
use Rattle.michelson_code.proofs.FaultLaws.{kept_is_not_large, kept_is_not_tall, no_failing, none_written, one_of_kept, writes_none}
use Rattle.michelson_code.proofs.KeptStacks.{bodies_kept, kept_by, starts_kept_by}
use Rattle.michelson_code.proofs.OutcomeLaws.{bodies_once, left_by, lines_or_bodies, one_after, same_end, same_starts}
use Rattle.michelson_typer.specs.Closed.{HasNoLine}
use Rattle.michelson_typer.specs.Opened.{has_bodies}
use Rattle.michelson_typer.specs.Told.{EndBreaks, SomeStart}
use Rattle.michelson_typer.proofs.ToldLaws.{NoneUpTo, clash, none_yet, one_more}
use Rattle.michelson_typer.proofs.WholeLaws.{well_made}

runs_bodied : {A : Type 0} (x : Instr-F A) (b : List Ty) (st : List Start) (es : List Outcome) (o : Outcome) → Runs x b st es o → has_bodies x ≡ true
runs_bodied x b st es o (dip c a u v) = refl
runs_bodied x b st es o (dip_n n c items u v long) = refl
runs_bodied x b st es o (if_true c d u e f p j) = refl
runs_bodied x b st es o (if_none c d a u e f p j) = refl
runs_bodied x b st es o (if_left c d l r u e f p j) = refl
runs_bodied x b st es o (if_cons c d a u e f p j) = refl
runs_bodied x b st es o (loop c u e q) = refl
runs_bodied x b st es o (loop_left c l r u e q) = refl
runs_bodied x b st es o (iter_list c a u e q) = refl
runs_bodied x b st es o (iter_set c a u e q) = refl
runs_bodied x b st es o (iter_map c k v u e q) = refl
runs_bodied x b st es o (map_list c a r u) = refl
runs_bodied x b st es o (map_map c k v r u) = refl
runs_bodied x b st es o (failwith a u may) = refl

module _ (s : Script) (n : ℕ) (i : Instr) (b : List Ty) where
  -- no kind before the number holds of the instruction
  abbrev NoneTo : ℕ → Type 0
  NoneTo m = NoneUpTo (Breaks s n i b) m

  own : (k : TypeKind) → IsFirst (Breaks s n i b) k → InstrFault s n i b [] k
  own k first = its_own n i b k first

  pub short_first : IsShort (out-Instr i) b → InstrFault s n i b [] kind.StackTooShort
  short_first short = own kind.StackTooShort (record { holds = short; none_before = none_yet (Breaks s n i b) })

  module _ (long : IsShort (out-Instr i) b → ⊥) where
    to_one : NoneTo 1
    to_one = one_more (Breaks s n i b) 0 kind.StackTooShort (none_yet (Breaks s n i b)) refl long

    pub wrong_first : Breaks s n i b kind.WrongType → InstrFault s n i b [] kind.WrongType
    wrong_first wrong = own kind.WrongType (record { holds = wrong; none_before = to_one })

    module _ (fits : Breaks s n i b kind.WrongType → ⊥) where
      to_two : NoneTo 2
      to_two = one_more (Breaks s n i b) 1 kind.WrongType to_one refl fits

      differ_first : Breaks s n i b kind.BranchesDiffer → InstrFault s n i b [] kind.BranchesDiffer
      differ_first differ = own kind.BranchesDiffer (record { holds = differ; none_before = to_two })

      module _ (alike : Breaks s n i b kind.BranchesDiffer → ⊥) where
        to_three : NoneTo 3
        to_three = one_more (Breaks s n i b) 2 kind.BranchesDiffer to_two refl alike

        keys_first : Breaks s n i b kind.NotComparable → InstrFault s n i b [] kind.NotComparable
        keys_first keys = own kind.NotComparable (record { holds = keys; none_before = to_three })

        module _ (keys : Breaks s n i b kind.NotComparable → ⊥) where
          to_four : NoneTo 4
          to_four = one_more (Breaks s n i b) 3 kind.NotComparable to_three refl keys

          values_first : Breaks s n i b kind.BigMapPlace → InstrFault s n i b [] kind.BigMapPlace
          values_first values = own kind.BigMapPlace (record { holds = values; none_before = to_four })

          module _ (values : Breaks s n i b kind.BigMapPlace → ⊥) where
            to_six : NoneTo 6
            to_six = one_more (Breaks s n i b) 5 kind.EntryTwice (one_more (Breaks s n i b) 4 kind.BigMapPlace to_four refl values) refl (λ never. never)

            early_first : Breaks s n i b kind.FailNotLast → InstrFault s n i b [] kind.FailNotLast
            early_first early = own kind.FailNotLast (record { holds = early; none_before = to_six })

            module _ (late : Breaks s n i b kind.FailNotLast → ⊥) where
              to_seven : NoneTo 7
              to_seven = one_more (Breaks s n i b) 6 kind.FailNotLast to_six refl late

              tall_first : Breaks s n i b kind.StackTooTall → InstrFault s n i b [] kind.StackTooTall
              tall_first tall = own kind.StackTooTall (record { holds = tall; none_before = to_seven })

              large_first : (Breaks s n i b kind.StackTooTall → ⊥) → Breaks s n i b kind.TypeTooLarge → InstrFault s n i b [] kind.TypeTooLarge
              large_first low large =
                  own kind.TypeTooLarge (record { holds = large; none_before = one_more (Breaks s n i b) 7 kind.StackTooTall to_seven refl low })

  -- ---- without bodies

  module _ (long : IsShort (out-Instr i) b → ⊥) (fit : is_fit_alone i ≡ true) (lone : has_bodies (out-Instr i) ≡ false) where
    no_runs : (st : List Start) (es : List Outcome) (o : Outcome) → Runs (out-Instr i) b st es o → ⊥
    no_runs st es o y = clash (has_bodies (out-Instr i)) (runs_bodied (out-Instr i) b st es o y) lone

    pub never_applies : ((after : List Ty) → Applies s (out-Instr i) b after → ⊥) → InstrFault s n i b [] kind.WrongType
    never_applies never = wrong_first long (inr (record { applies = never; runs = no_runs }))

    module _ (t : List Ty) (x : Applies s (out-Instr i) b t) where
      line_fits : Breaks s n i b kind.WrongType → ⊥
      line_fits (inl unfit) = clash (is_fit_alone i) fit unfit
      line_fits (inr none) = none.applies t x

      line_alike : Breaks s n i b kind.BranchesDiffer → ⊥
      line_alike d = no_runs d.bodies.starts d.bodies.line_ends d.bodies.outcome d.bodies.line

      line_late : Breaks s n i b kind.FailNotLast → ⊥
      line_late f = no_runs f.bodies.starts f.bodies.line_ends f.bodies.outcome f.bodies.line

      pub line_keys : list_all has_comparable_keys (types_of i) ≡ false → InstrFault s n i b [] kind.NotComparable
      line_keys keys = keys_first long line_fits line_alike keys

      made_is : (F : ℕ → List Ty → Type 0) (m : ℕ) (u : List Ty) → Makes s n i b m u → F m u → F n t
      made_is F m u (leaves v y) faulty = subst (F n) (one_after s (out-Instr i) b b v t y x refl) faulty
      made_is F m u (begins st es o start y is) faulty = absurd (no_runs st es o y)
      made_is F m u (ends_on st es v y bodies) faulty = absurd (no_runs st es (To v) y)

      module _ (keys : list_all has_comparable_keys (types_of i) ≡ true) where
        no_keys : Breaks s n i b kind.NotComparable → ⊥
        no_keys broken = clash (list_all has_comparable_keys (types_of i)) keys broken

        pub line_values : list_all has_passable_values (types_of i) ≡ false → InstrFault s n i b [] kind.BigMapPlace
        line_values values = values_first long line_fits line_alike no_keys values

        module _ (values : list_all has_passable_values (types_of i) ≡ true) where
          no_values : Breaks s n i b kind.BigMapPlace → ⊥
          no_values broken = clash (list_all has_passable_values (types_of i)) values broken

          pub line_typed : InstrTyped s n i b (To t)
          line_typed = applies n i b t fit (well_made (types_of i) keys values) x

          made_one : (F : ℕ → List Ty → Type 0) → F n t → MakesOne s n i b F
          made_one F faulty = record { set_aside = n; stack = t; made = leaves t x; faulty = faulty }

          pub line_limits : (k : TypeKind) → EndBreaks n (To t) k → InstrFault s n i b [] k
          line_limits kind.StackTooTall tall = tall_first long line_fits line_alike no_keys no_values line_late (made_one IsTooTall tall)
          line_limits kind.TypeTooLarge large =
              large_first long line_fits line_alike no_keys no_values line_late (λ m. large.0 (made_is IsTooTall m.set_aside m.stack m.made m.faulty)) (made_one HasTooLarge large.1)
          line_limits kind.StackTooShort never = absurd never
          line_limits _ never = absurd never

  -- ---- with bodies

  module _ (long : IsShort (out-Instr i) b → ⊥) (fit : is_fit_alone i ≡ true)
      (st : List Start) (es : List Outcome) (o : Outcome) (x : Runs (out-Instr i) b st es o) where
    body_fits : Breaks s n i b kind.WrongType → ⊥
    body_fits (inl unfit) = clash (is_fit_alone i) fit unfit
    body_fits (inr none) = none.runs st es o x

    body_keys : Breaks s n i b kind.NotComparable → ⊥
    body_keys some = none_written has_comparable_keys (types_of i) (writes_none (out-Instr i) b st es o x) some

    body_values : Breaks s n i b kind.BigMapPlace → ⊥
    body_values some = none_written has_passable_values (types_of i) (writes_none (out-Instr i) b st es o x) some

    these : (st' : List Start) (es' : List Outcome) (p : Outcome) → Runs (out-Instr i) b st' es' p → st' ≡ st
    these st' es' p y = same_starts (out-Instr i) b b st' st es' es p o y x refl

    typed_here : (gs : List Outcome) → BodiesEnd s n i b gs → BodiesTyped s n (bodies_of i) st gs
    typed_here gs e = subst (λ (z : List Start). BodiesTyped s n (bodies_of i) z gs) (these e.starts e.line_ends e.outcome e.line) e.bodies

    bodies_end : (fs : List Outcome) → BodiesTyped s n (bodies_of i) st fs → BodiesEnd s n i b fs
    bodies_end fs typed = record { starts = st; line_ends = es; outcome = o; line = x; bodies = typed }

    begun_one : (F : ℕ → List Ty → Type 0) → SomeStart F n st → MakesOne s n i b F
    begun_one F some = record { set_aside = n + some.0.0; stack = some.0.1; made = begins st es o some.0 x some.1.0; faulty = some.1.1 }

    -- a start that isn't kept
    module _ (never : (gs : List Outcome) → BodiesTyped s n (bodies_of i) st gs → ⊥) where
      unkept_alike : Breaks s n i b kind.BranchesDiffer → ⊥
      unkept_alike d = never d.ends (typed_here d.ends d.bodies)

      unkept_late : Breaks s n i b kind.FailNotLast → ⊥
      unkept_late f = never f.ends (typed_here f.ends f.bodies)

      unkept_low : (SomeStart IsTooTall n st → ⊥) → (m : ℕ) (u : List Ty) → Makes s n i b m u → IsTooTall m u → ⊥
      unkept_low low m u (leaves v y) tall = lines_or_bodies s (out-Instr i) b b v st es o x y
      unkept_low low m u (begins st' es' p start y is) tall = low (start, (subst (IsStart start) (these st' es' p y) is, tall))
      unkept_low low m u (ends_on st' es' v y bodies) tall =
          never es' (subst (λ (z : List Start). BodiesTyped s n (bodies_of i) z es') (these st' es' (To v) y) bodies)

    pub starts_tall : SomeStart IsTooTall n st → InstrFault s n i b [] kind.StackTooTall
    starts_tall some =
        let never : (gs : List Outcome) → BodiesTyped s n (bodies_of i) st gs → ⊥ =
        λ gs typed. kept_is_not_tall (n + some.0.0) some.0.1 (one_of_kept n st (bodies_kept s n (bodies_of i) st gs typed) some.0 some.1.0) some.1.1 in
        tall_first long body_fits (unkept_alike never) body_keys body_values (unkept_late never) (begun_one IsTooTall some)

    module _ (low : SomeStart IsTooTall n st → ⊥) where
      pub starts_large : SomeStart HasTooLarge n st → InstrFault s n i b [] kind.TypeTooLarge
      starts_large some =
          let never : (gs : List Outcome) → BodiesTyped s n (bodies_of i) st gs → ⊥ =
          λ gs typed. kept_is_not_large (n + some.0.0) some.0.1 (one_of_kept n st (bodies_kept s n (bodies_of i) st gs typed) some.0 some.1.0) some.1.1 in
          large_first long body_fits (unkept_alike never) body_keys body_values (unkept_late never)
          (λ m. unkept_low never low m.set_aside m.stack m.made m.faulty) (begun_one HasTooLarge some)

      pub starts_are_kept : (SomeStart HasTooLarge n st → ⊥) → StartsKept n st
      starts_are_kept small = starts_kept_by n st (λ y is. kept_by (n + y.0) y.1 (λ tall. low (y, (is, tall))) (λ large. small (y, (is, large))))

    pub body_fault : (path : List ℕ) (k : TypeKind) → StartsKept n st → BodiesFault s n (bodies_of i) st path k → InstrFault s n i b path k
    body_fault path k kept fault = inside n i b st es o path k fit x kept fault

    -- the bodies are typed
    module _ (fs : List Outcome) (typed : BodiesTyped s n (bodies_of i) st fs) where
      end_is : (gs : List Outcome) → BodiesEnd s n i b gs → gs ≡ fs
      end_is gs e = bodies_once s n (bodies_of i) st gs fs (typed_here gs e) typed

      pub ends_early : FailsInside (out-Instr i) fs → InstrFault s n i b [] kind.FailNotLast
      ends_early early =
          early_first long body_fits (λ d. d.may (subst (FailsInside (out-Instr i)) (sym (end_is d.ends d.bodies)) early)) body_keys body_values
          (record { ends = fs; bodies = bodies_end fs typed; inside = early })

      pub ends_differ : HasNoLine i b fs → InstrFault s n i b [] kind.BranchesDiffer
      ends_differ none =
          differ_first long body_fits
          (record { ends = fs; bodies = bodies_end fs typed; may = none.may; no_line = λ st' p y. none.no_line p (record { starts = st'; line = y }) })

      module _ (p : Outcome) (y : Runs (out-Instr i) b st fs p) where
        run_alike : Breaks s n i b kind.BranchesDiffer → ⊥
        run_alike d = d.no_line st p (subst (λ (z : List Outcome). Runs (out-Instr i) b st z p) (sym (end_is d.ends d.bodies)) y)

        run_late : Breaks s n i b kind.FailNotLast → ⊥
        run_late f = no_failing (out-Instr i) b st fs f.ends p y f.inside (sym (end_is f.ends f.bodies))

        pub run_typed : InstrTyped s n i b p
        run_typed = runs n i b st fs p fit y typed

      module _ (t : List Ty) (y : Runs (out-Instr i) b st fs (To t)) where
        run_low : (IsTooTall n t → ⊥) → (m : ℕ) (u : List Ty) → Makes s n i b m u → IsTooTall m u → ⊥
        run_low low m u (leaves v z) tall = lines_or_bodies s (out-Instr i) b b v st es o x z
        run_low low m u (begins st' es' q start z is) tall =
            kept_is_not_tall (n + start.0) start.1 (one_of_kept n st (bodies_kept s n (bodies_of i) st fs typed) start (subst (IsStart start) (these st' es' q z) is)) tall
        run_low low m u (ends_on st' es' v z bodies) tall =
            let same = these st' es' (To v) z in
            let here = subst (λ (w : List Start). BodiesTyped s n (bodies_of i) w es') same bodies in
            let ends = bodies_once s n (bodies_of i) st es' fs here typed in
            low (subst (IsTooTall n) (left_by v t (same_end (out-Instr i) b b st' st es' fs (To v) (To t) z y refl ends)) tall)

        left_one : (F : ℕ → List Ty → Type 0) → F n t → MakesOne s n i b F
        left_one F faulty = record { set_aside = n; stack = t; made = ends_on st fs t y typed; faulty = faulty }

        run_limits_to : (k : TypeKind) → EndBreaks n (To t) k → InstrFault s n i b [] k
        run_limits_to kind.StackTooTall tall =
            tall_first long body_fits (run_alike (To t) y) body_keys body_values (run_late (To t) y) (left_one IsTooTall tall)
        run_limits_to kind.TypeTooLarge large =
            large_first long body_fits (run_alike (To t) y) body_keys body_values (run_late (To t) y)
            (λ m. run_low large.0 m.set_aside m.stack m.made m.faulty) (left_one HasTooLarge large.1)
        run_limits_to kind.StackTooShort never = absurd never
        run_limits_to _ never = absurd never

      pub run_limits : (p : Outcome) → Runs (out-Instr i) b st fs p → (k : TypeKind) → EndBreaks n p k → InstrFault s n i b [] k
      run_limits (To t) y k broken = run_limits_to t y k broken
      run_limits Fails y k broken = absurd broken
