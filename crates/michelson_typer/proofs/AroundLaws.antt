-- What the walk says of an instruction with bodies: it is typed, or this is what is wrong with it.
use Rattle.std.proofs.Common.{◌≡◌, ℕ, ◌+◌, Bool, true, false, List, [], None, refl, sym, subst, inr}
use Rattle.value_core.specs.declared.ty.Ty.{Ty}
use Rattle.michelson_code.specs.declared.instr.Instr.{Instr}
use Rattle.michelson_code.specs.declared.instr.Instr.TheOpen as one
use Rattle.michelson_code.specs.declared.instr.Instr.TheOpen.{Instr-F}
use Rattle.michelson_code.specs.declared.instr.Instr.TheViews.{out-Instr}
use Rattle.michelson_code.specs.declared.operands.Line.{Line}
use Rattle.michelson_code.specs.declared.script.Script.{Script}
use Rattle.michelson_code.specs.declared.type_fault.TypeKind.TheVariants as kind
use Rattle.michelson_code.specs.FirstFault.{BodiesEnd, Breaks, FailsInside, IsStart, MakesOne, begins}
use Rattle.michelson_code.specs.Forms.{bodies_of}
use Rattle.michelson_code.specs.Operands.{lines}
use Rattle.michelson_code.specs.Typing.{Applies, BodiesTyped, InstrTyped, IsOneOf, MayBegin, Outcome, Runs, Start, by_line, drop_n, dup_n, dig, dug, pair_n, unpair_n, is_fit_alone, runs}
use Rattle.michelson_code.proofs.OutcomeLaws.{same_starts}
use Rattle.michelson_typer.specs.Closed.{HasNoLine, RunsTo}
use Rattle.michelson_typer.specs.Opened.{BeginsOn, Opens, has_bodies}
use Rattle.michelson_typer.specs.Tables.{types_at}

clash : (b : Bool) → b ≡ true → b ≡ false → ⊥
clash b one_way other = cc

no_lines : {A : Type 0} (x : Instr-F A) → has_bodies x ≡ true → lines x ≡ []
no_lines (one.Dip c) so = refl
no_lines (one.DipN n c) so = refl
no_lines (one.If c d) so = refl
no_lines (one.IfNone c d) so = refl
no_lines (one.IfLeft c d) so = refl
no_lines (one.IfCons c d) so = refl
no_lines (one.Loop c) so = refl
no_lines (one.LoopLeft c) so = refl
no_lines (one.Iter c) so = refl
no_lines (one.Map c) so = refl
no_lines one.Failwith so = refl
no_lines one.Drop so = absurd (clash true refl (sym so))
no_lines _ so = absurd (clash true refl (sym so))

none_of : (l : Line) (ls : List Line) → ls ≡ [] → IsOneOf l ls → ⊥
none_of l ls none one_of = subst (IsOneOf l) none one_of

-- an instruction with bodies has no line of operands
pub bodies_apply_not : (s : Script) {A : Type 0} (x : Instr-F A) (b t : List Ty) → Applies s x b t → has_bodies x ≡ true → ⊥
bodies_apply_not s x b t (by_line y l c below one_of given sound) so = none_of l (lines y) (no_lines y so) one_of
bodies_apply_not s x b t (drop_n n items below long) so = clash true refl (sym so)
bodies_apply_not s x b t (dup_n n items u below long) so = clash true refl (sym so)
bodies_apply_not s x b t (dig n items u below long) so = clash true refl (sym so)
bodies_apply_not s x b t (dug n items u below long) so = clash true refl (sym so)
bodies_apply_not s x b t (pair_n n items last below long) so = clash true refl (sym so)
bodies_apply_not s x b t (unpair_n n items last below long) so = clash true refl (sym so)

module _ (s : Script) (n : ℕ) (i : Instr) (T : List Ty) (stack : List ℕ) where
  -- no starts: the operands fit no line
  pub wrong_type : has_bodies (out-Instr i) ≡ true → (new : List Ty) → Opens T new i stack None → Breaks s n i (types_at T stack) kind.WrongType
  wrong_type so new shut = inr (record {
    applies = λ after line. bodies_apply_not s (out-Instr i) (types_at T stack) after line so;
    runs = λ starts ends o line. shut starts (record { ends = ends; outcome = o; line = line });
  })

  -- the starts are those of each line
  pub same_begun : (begun st : List Start) (es : List Outcome) (o : Outcome) → BeginsOn i (types_at T stack) begun → Runs (out-Instr i) (types_at T stack) st es o → st ≡ begun
  same_begun begun st es o b line = same_starts (out-Instr i) (types_at T stack) (types_at T stack) st begun es b.ends o b.outcome line b.line refl

  pub may_begin : (begun : List Start) → BeginsOn i (types_at T stack) begun → MayBegin i (types_at T stack)
  may_begin begun b = (begun, (b.ends, (b.outcome, b.line)))

  -- a start that isn't kept
  pub makes_one : (Faulty : ℕ → List Ty → Type 0) (begun : List Start) (start : Start) → BeginsOn i (types_at T stack) begun → IsStart start begun → Faulty (n + start.0) start.1 →
      MakesOne s n i (types_at T stack) Faulty
  makes_one Faulty begun start b stands faulty = record {
    set_aside = n + start.0;
    stack = start.1;
    made = begins begun b.ends b.outcome start b.line stands;
    faulty = faulty;
  }

  module _ (begun : List Start) (b : BeginsOn i (types_at T stack) begun) (left : List Outcome) (typed : BodiesTyped s n (bodies_of i) begun left) where
    bodies_end : BodiesEnd s n i (types_at T stack) left
    bodies_end = record { starts = begun; line_ends = b.ends; outcome = b.outcome; line = b.line; bodies = typed }

    -- the bodies end as the line asks: the instruction is typed
    pub around_typed : (o : Outcome) → is_fit_alone i ≡ true → RunsTo i (types_at T stack) left o → InstrTyped s n i (types_at T stack) o
    around_typed o fit to =
        runs n i (types_at T stack) begun left o fit
        (subst (λ (z : List Start). Runs (out-Instr i) (types_at T stack) z left o) (same_begun begun to.starts left o b to.line) to.line) typed

    -- a body fails too early
    pub fails_early : FailsInside (out-Instr i) left → Breaks s n i (types_at T stack) kind.FailNotLast
    fails_early inside = record { ends = left; bodies = bodies_end; inside = inside }

    -- the bodies end otherwise
    pub branches_differ : HasNoLine i (types_at T stack) left → Breaks s n i (types_at T stack) kind.BranchesDiffer
    branches_differ none = record {
      ends = left;
      bodies = bodies_end;
      may = none.may;
      no_line = λ starts o line. none.no_line o (record { starts = starts; line = line });
    }
