-- An instruction with bodies, by what the calls of the walk answer: it is typed, or this is told of it.
use Rattle.std.proofs.Common.{◌≡◌, ℕ, suc, true, List, [], Option, None, Some, length, refl, ap, sym, subst, ◌∙◌}
use Rattle.std.specs.Prelude.{Err, IsTrue}
use Rattle.std.specs.Option.{option_map}
use Rattle.std.proofs.lemmas.List.{length-map}
use Rattle.value_core.specs.declared.ty.Ty.{Ty}
use Rattle.michelson_code.specs.declared.instr.Instr.{Instr}
use Rattle.michelson_code.specs.declared.instr.Instr.TheViews.{out-Instr}
use Rattle.michelson_code.specs.declared.script.Script.{Script}
use Rattle.michelson_code.specs.declared.type_fault.TypeKind.{TypeKind}
use Rattle.michelson_code.specs.declared.type_fault.TypeKind.TheVariants as kind
use Rattle.michelson_code.specs.FirstFault.{BodiesFault, FailsInside, HasTooLarge, InstrFault, IsShort, IsTooTall, StartsKept}
use Rattle.michelson_code.specs.Forms.{bodies_of}
use Rattle.michelson_code.specs.Typing.{BodiesTyped, InstrTyped, MayBegin, Outcome, Runs, Start, is_fit_alone, no_body, one_body}
use Rattle.michelson_code.proofs.DecidedCounts.{as_many}
use Rattle.michelson_code.proofs.OutcomeLaws.{same_starts}
use Rattle.michelson_typer.specs.Closed.{Closes, HasNoLine, RunsTo, ends_at}
use Rattle.michelson_typer.specs.Opened.{BeginsOn, Opens, are_starts_in, starts_at}
use Rattle.michelson_typer.specs.Tables.{types_at}
use Rattle.michelson_typer.specs.Told.{EndBreaks, SomeStart}
use Rattle.michelson_typer.proofs.WalkLaws.{body_fault, ends_differ, ends_early, run_limits, run_typed, starts_are_kept, starts_large, starts_tall}

-- as many bodies end as there are
as_many_end : (s : Script) (n : ℕ) (cs : List (List Instr)) (st : List Start) (es : List Outcome) → BodiesTyped s n cs st es → length es ≡ length cs
as_many_end s n cs st es (no_body n') = refl
as_many_end s n cs st es (one_body n' c more start starts e ends typed rest) = ap suc (as_many_end s n more starts ends rest)

-- the starts, by a table that grew
pub opened_some : (old new : List Ty) (i : Instr) (stack : List ℕ) {V : Type 0} (starts : V → List (ℕ × List ℕ)) (r : Option V) (v : V) → r ≡ Some v →
    Opens old new i stack (option_map starts r) → BeginsOn i (types_at old stack) (starts_at new (starts v)) × IsTrue (are_starts_in new (starts v))
opened_some old new i stack starts r v is opens = subst (λ z. Opens old new i stack (option_map starts z)) is opens

pub opened_none : (old new : List Ty) (i : Instr) (stack : List ℕ) {V : Type 0} (starts : V → List (ℕ × List ℕ)) (r : Option V) → ((v : V) → r ≡ Some v → ⊥) →
    Opens old new i stack (option_map starts r) → (begun : List Start) → BeginsOn i (types_at old stack) begun → ⊥
opened_none old new i stack starts None other opens = opens
opened_none old new i stack starts (Some v) other opens = absurd (other v refl)

module _ (s : Script) (n : ℕ) (i : Instr) (b : List Ty) (long : IsShort (out-Instr i) b → ⊥) (fit : is_fit_alone i ≡ true)
    (begun : List Start) (on : BeginsOn i b begun) where
  pub many_begin : (starts : List (ℕ × List ℕ)) (table : List Ty) → begun ≡ starts_at table starts → length (bodies_of i) ≡ length starts
  many_begin starts table is = as_many (out-Instr i) b begun on.ends on.outcome on.line ∙ ap length is ∙ length-map starts _

  pub around_tall : SomeStart IsTooTall n begun → InstrFault s n i b [] kind.StackTooTall
  around_tall = starts_tall s n i b long fit begun on.ends on.outcome on.line

  pub around_large : (SomeStart IsTooTall n begun → ⊥) → SomeStart HasTooLarge n begun → InstrFault s n i b [] kind.TypeTooLarge
  around_large = starts_large s n i b long fit begun on.ends on.outcome on.line

  pub around_kept : (SomeStart IsTooTall n begun → ⊥) → (SomeStart HasTooLarge n begun → ⊥) → StartsKept n begun
  around_kept = starts_are_kept s n i b long fit begun on.ends on.outcome on.line

  pub around_inside : (path : List ℕ) (k : TypeKind) → StartsKept n begun → BodiesFault s n (bodies_of i) begun path k → InstrFault s n i b path k
  around_inside = body_fault s n i b long fit begun on.ends on.outcome on.line

  pub around_begins : (c : List Ty) → c ≡ b → MayBegin i c
  around_begins c is = subst (MayBegin i) (sym is) (begun, (on.ends, (on.outcome, on.line)))

  module _ (left : List Outcome) (typed : BodiesTyped s n (bodies_of i) begun left) where
    pub many_end : length left ≡ length (bodies_of i)
    many_end = as_many_end s n (bodies_of i) begun left typed

    run_of : (o : Outcome) → RunsTo i b left o → Runs (out-Instr i) b begun left o
    run_of o to =
        subst (λ (z : List Start). Runs (out-Instr i) b z left o) (same_starts (out-Instr i) b b to.starts begun left on.ends o on.outcome to.line on.line refl) to.line

    pub closed_typed : (c : List Ty) (o : Outcome) → c ≡ b → RunsTo i c left o → InstrTyped s n i b o
    closed_typed c o is to =
        run_typed s n i b long fit begun on.ends on.outcome on.line left typed o (run_of o (subst (λ (z : List Ty). RunsTo i z left o) is to))

    pub closed_limits : (c : List Ty) (o : Outcome) → c ≡ b → RunsTo i c left o → (k : TypeKind) → EndBreaks n o k → InstrFault s n i b [] k
    closed_limits c o is to =
        run_limits s n i b long fit begun on.ends on.outcome on.line left typed o (run_of o (subst (λ (z : List Ty). RunsTo i z left o) is to))

    pub closed_fault : (old new : List Ty) (stack : List ℕ) (ends : List (Option (List ℕ))) (k : TypeKind) → types_at old stack ≡ b → ends_at old ends ≡ left →
        Closes old new i stack ends (Err k) → InstrFault s n i b [] k
    closed_fault old new stack ends kind.FailNotLast is same early =
        ends_early s n i b long fit begun on.ends on.outcome on.line left typed (subst (FailsInside (out-Instr i)) same early)
    closed_fault old new stack ends kind.BranchesDiffer is same none =
        ends_differ s n i b long fit begun on.ends on.outcome on.line left typed
        (subst (λ (z : List Ty). HasNoLine i z left) is (subst (HasNoLine i (types_at old stack)) same none))
    closed_fault old new stack ends kind.StackTooShort is same never = absurd never
    closed_fault old new stack ends _ is same never = absurd never
