-- The walk over code and bodies.
use Rattle.std.proofs.Common.{◌≡◌, ℕ, ◌&&◌, ◌+◌, ◌∷◌, [], List, true, inl, length, take, sum_by, ap, sym, subst, refl, ◌∙◌, arith}
use Rattle.std.proofs.lemmas.Bool.{and_parts}
use Rattle.std.proofs.lemmas.List.{length-map}
use Rattle.std.proofs.lemmas.List.Sums.{sum_by-cons}
use Rattle.value_core.specs.declared.ty.Ty.{Ty}
use Rattle.michelson_code.specs.declared.instr.Instr.{Instr}
use Rattle.michelson_code.specs.declared.type_fault.TypeKind.{TypeKind}
use Rattle.michelson_code.specs.declared.type_fault.TypeKind.TheVariants as kind
use Rattle.michelson_code.specs.FirstFault.{BodiesFault, CodeFault, HasTooLarge, InstrFault, IsTooTall, StartsKept}
use Rattle.michelson_code.specs.Inside.{count_of-is}
use Rattle.michelson_code.specs.Typing.{BodiesTyped, CodeTyped, InstrTyped, IsKept, Outcome, To, done}
use Rattle.michelson_code.specs.Weight.{code_count}
use Rattle.michelson_typer.specs.declared.stack.Ends.{Ends}
use Rattle.michelson_typer.specs.Closed.{Closes, closed, end_at, end_of, ends_at, ends_of, is_end_in}
use Rattle.michelson_typer.specs.Opened.{are_starts_in, body_list, starts_at, starts_of}
use Rattle.michelson_typer.specs.Tables.{are_in, types_at}
use Rattle.michelson_typer.specs.Told.{IsEndKept, SomeStart}
use Rattle.michelson_typer.proofs.AroundEnds.{around_begins, around_inside, around_kept, around_large, around_tall, closed_fault, closed_limits, closed_typed, many_begin, many_end, opened_none, opened_some}
use Rattle.michelson_typer.proofs.AroundLaws.{wrong_type}
use Rattle.michelson_typer.proofs.BeginLaws.{none_left, not_one, not_two}
use Rattle.michelson_typer.proofs.BodyLaws.{err_ends, first_answer, one_answer, second_answer, two_answer}
use Rattle.michelson_typer.proofs.CodeLaws.{at_least_length, ends_fail, code_failing, code_fault, code_further, count_within}
use Rattle.michelson_typer.proofs.EndLaws.{kept_or_told}
use Rattle.michelson_typer.proofs.GrowLaws.{grows_more, grows_same, in_later, types_later}
use Rattle.michelson_typer.proofs.ToldLaws.{clash, here_told, inside_told, ruled_in, ruled_out, told_weaker}
use Rattle.michelson_typer.proofs.WalkLaws.{short_first, wrong_first}
use Rattle.michelson_typer.proofs.walk.+walking.Goals as goal
use Rattle.michelson_typer.proofs.walk.+walking.Goals.{body_ends-in_default-via-in-One+in_default, body_ends-in_default-via-in-Two+in_default, body_ends-in_default-via-in_default}

-- ---- around

pub around-returns-in_default-clause-ends : goal.around-returns-in_default-clause-ends
around-returns-in_default-clause-ends t c =
    let s = c.args.script.now in
    let n = c.args.aside in
    let i = c.args.instr.now in
    let T = c.args.types.now in
    let stack = c.args.stack.now in
    let b = types_at T stack in
    let shut = opened_none T c.opened.new.types i stack starts_of c.in_ok-starts.field-0 c.in_default.not-Some c.in_ok-starts.ensures.starts in
    here_told (InstrFault s n i b) c.here.result kind.WrongType c.here.ensures
    (wrong_first s n i b c.requires.long (wrong_type s n i T stack c.requires.bodied c.opened.new.types shut))

pub around-returns-then-not-are_low-clause-ends : goal.around-returns-then-not-are_low-clause-ends
around-returns-then-not-are_low-clause-ends t c =
    let s = c.args.script.now in
    let n = c.args.aside in
    let i = c.args.instr.now in
    let T = c.args.types.now in
    let stack = c.args.stack.now in
    let b = types_at T stack in
    let new = c.opened.new.types in
    let starts = starts_of c.in-Some.starts in
    let begun = starts_at new starts in
    let on = opened_some T new i stack starts_of c.in_ok-starts.field-0 c.in-Some.starts c.in-Some.is c.in_ok-starts.ensures.starts in
    here_told (InstrFault s n i b) c.here-then-not-are_low.result kind.StackTooTall c.here-then-not-are_low.ensures
    (around_tall s n i b c.requires.long c.requires.fit begun on.0 (ruled_in (SomeStart IsTooTall n begun) c.are_low.result c.if-not-are_low.true (c.are_low.ensures new)))

pub around-returns-then-not-are_light-clause-ends : goal.around-returns-then-not-are_light-clause-ends
around-returns-then-not-are_light-clause-ends t c =
    let s = c.args.script.now in
    let n = c.args.aside in
    let i = c.args.instr.now in
    let T = c.args.types.now in
    let stack = c.args.stack.now in
    let b = types_at T stack in
    let new = c.opened.new.types in
    let starts = starts_of c.in-Some.starts in
    let begun = starts_at new starts in
    let on = opened_some T new i stack starts_of c.in_ok-starts.field-0 c.in-Some.starts c.in-Some.is c.in_ok-starts.ensures.starts in
    let low = ruled_out (SomeStart IsTooTall n begun) c.are_low.result c.if-not-are_low.false (c.are_low.ensures new) in
    here_told (InstrFault s n i b) c.here-then-not-are_light.result kind.TypeTooLarge c.here-then-not-are_light.ensures
    (around_large s n i b c.requires.long c.requires.fit begun on.0 low (ruled_in (SomeStart HasTooLarge n begun) c.are_light.result c.if-not-are_light.true (c.are_light.ensures n)))

pub around-body_ends-requires : goal.around-body_ends-requires
around-body_ends-requires t c =
    let s = c.args.script.now in
    let n = c.args.aside in
    let i = c.args.instr.now in
    let T = c.args.types.now in
    let stack = c.args.stack.now in
    let b = types_at T stack in
    let new = c.opened.new.types in
    let starts = starts_of c.in-Some.starts in
    let begun = starts_at new starts in
    let on = opened_some T new i stack starts_of c.in_ok-starts.field-0 c.in-Some.starts c.in-Some.is c.in_ok-starts.ensures.starts in
    let low = ruled_out (SomeStart IsTooTall n begun) c.are_low.result c.if-not-are_low.false (c.are_low.ensures new) in
    let light = ruled_out (SomeStart HasTooLarge n begun) c.are_light.result c.if-not-are_light.false (c.are_light.ensures n) in
    let kept = around_kept s n i b c.requires.long c.requires.fit begun on.0 low light in
    let inside = ap (sum_by code_count) c.bodies_of.ensures in (
      omega (arith, c.decreases, count_of-is i, inside),
      (
        ap length c.bodies_of.ensures ∙ many_begin s n i b c.requires.long c.requires.fit begun on.0 starts new refl,
        (on.1, (kept, omega (arith, c.requires.small, count_of-is i, inside))),
      ),
    )

pub around-returns-in_err-ends-clause-ends : goal.around-returns-in_err-ends-clause-ends
around-returns-in_err-ends-clause-ends t c =
    let s = c.args.script.now in
    let n = c.args.aside in
    let i = c.args.instr.now in
    let T = c.args.types.now in
    let stack = c.args.stack.now in
    let b = types_at T stack in
    let new = c.opened.new.types in
    let starts = starts_of c.in-Some.starts in
    let begun = starts_at new starts in
    let on = opened_some T new i stack starts_of c.in_ok-starts.field-0 c.in-Some.starts c.in-Some.is c.in_ok-starts.ensures.starts in
    let low = ruled_out (SomeStart IsTooTall n begun) c.are_low.result c.if-not-are_low.false (c.are_low.ensures new) in
    let light = ruled_out (SomeStart HasTooLarge n begun) c.are_light.result c.if-not-are_light.false (c.are_light.ensures n) in
    let kept = around_kept s n i b c.requires.long c.requires.fit begun on.0 low light in
    let f = c.in_err-ends.field-0.0 in
    err_ends c.body_ends.new.types (λ o. InstrTyped s n i b o × IsEndKept n o) (InstrFault s n i b) f c.from_residual-in_err-ends.result c.from_residual-in_err-ends.ensures.1
    (told_weaker (BodiesFault s n (body_list c.bodies_of.result) begun) (InstrFault s n i b) f
    (λ path k fault. around_inside s n i b c.requires.long c.requires.fit begun on.0 path k kept (subst (λ (cs : List (List Instr)). BodiesFault s n cs begun path k) c.bodies_of.ensures fault))
    c.in_err-ends.ensures.ends)

pub around-outcome-requires-clause-begun : goal.around-outcome-requires-clause-begun
around-outcome-requires-clause-begun t c =
    let s = c.args.script.now in
    let n = c.args.aside in
    let i = c.args.instr.now in
    let T = c.args.types.now in
    let stack = c.args.stack.now in
    let b = types_at T stack in
    let new = c.opened.new.types in
    let starts = starts_of c.in-Some.starts in
    let begun = starts_at new starts in
    let on = opened_some T new i stack starts_of c.in_ok-starts.field-0 c.in-Some.starts c.in-Some.is c.in_ok-starts.ensures.starts in
    let later = c.body_ends.new.types in
    let grows = grows_more T new later c.opened.ensures.grows c.body_ends.ensures.grows in
    let ends = ends_of c.in_ok-ends.ends in
    let left = ends_at later ends in
    let typed = subst (λ (cs : List (List Instr)). BodiesTyped s n cs begun left) c.bodies_of.ensures c.in_ok-ends.ensures.ends.0 in
    around_begins s n i b c.requires.long c.requires.fit begun on.0 (types_at later stack) (types_later T later grows stack c.requires.stack)

pub around-outcome-requires-clause-many : goal.around-outcome-requires-clause-many
around-outcome-requires-clause-many t c =
    let s = c.args.script.now in
    let n = c.args.aside in
    let i = c.args.instr.now in
    let T = c.args.types.now in
    let stack = c.args.stack.now in
    let b = types_at T stack in
    let new = c.opened.new.types in
    let starts = starts_of c.in-Some.starts in
    let begun = starts_at new starts in
    let on = opened_some T new i stack starts_of c.in_ok-starts.field-0 c.in-Some.starts c.in-Some.is c.in_ok-starts.ensures.starts in
    let later = c.body_ends.new.types in
    let grows = grows_more T new later c.opened.ensures.grows c.body_ends.ensures.grows in
    let ends = ends_of c.in_ok-ends.ends in
    let left = ends_at later ends in
    let typed = subst (λ (cs : List (List Instr)). BodiesTyped s n cs begun left) c.bodies_of.ensures c.in_ok-ends.ensures.ends.0 in
    sym (length-map ends (end_at later)) ∙ many_end s n i b c.requires.long c.requires.fit begun on.0 left typed

pub around-outcome-requires-clause-stack : goal.around-outcome-requires-clause-stack
around-outcome-requires-clause-stack t c =
    let s = c.args.script.now in
    let n = c.args.aside in
    let i = c.args.instr.now in
    let T = c.args.types.now in
    let stack = c.args.stack.now in
    let b = types_at T stack in
    let new = c.opened.new.types in
    let starts = starts_of c.in-Some.starts in
    let begun = starts_at new starts in
    let on = opened_some T new i stack starts_of c.in_ok-starts.field-0 c.in-Some.starts c.in-Some.is c.in_ok-starts.ensures.starts in
    let later = c.body_ends.new.types in
    let grows = grows_more T new later c.opened.ensures.grows c.body_ends.ensures.grows in
    let ends = ends_of c.in_ok-ends.ends in
    let left = ends_at later ends in
    let typed = subst (λ (cs : List (List Instr)). BodiesTyped s n cs begun left) c.bodies_of.ensures c.in_ok-ends.ensures.ends.0 in
    in_later T later grows stack c.requires.stack

pub around-returns-in-Ok-clause-ends : goal.around-returns-in-Ok-clause-ends
around-returns-in-Ok-clause-ends t c =
    let s = c.args.script.now in
    let n = c.args.aside in
    let i = c.args.instr.now in
    let T = c.args.types.now in
    let stack = c.args.stack.now in
    let b = types_at T stack in
    let new = c.opened.new.types in
    let starts = starts_of c.in-Some.starts in
    let begun = starts_at new starts in
    let on = opened_some T new i stack starts_of c.in_ok-starts.field-0 c.in-Some.starts c.in-Some.is c.in_ok-starts.ensures.starts in
    let later = c.body_ends.new.types in
    let grows = grows_more T new later c.opened.ensures.grows c.body_ends.ensures.grows in
    let ends = ends_of c.in_ok-ends.ends in
    let left = ends_at later ends in
    let typed = subst (λ (cs : List (List Instr)). BodiesTyped s n cs begun left) c.bodies_of.ensures c.in_ok-ends.ensures.ends.0 in
    let last = c.outcome.new.types in
    let same = types_later T later grows stack c.requires.stack in
    let o = end_at last (end_of c.in-Ok.ends) in
    let to = subst (λ z. Closes later last i stack ends (closed z)) c.in-Ok.is c.in_ok-ends-2.ensures.closes in
    kept_or_told s n i b last o (closed_typed s n i b c.requires.long c.requires.fit begun on.0 left typed (types_at later stack) o same to.0)
    (closed_limits s n i b c.requires.long c.requires.fit begun on.0 left typed (types_at later stack) o same to.0) c.kept.result c.kept.ensures

pub around-returns-in-Err-clause-ends : goal.around-returns-in-Err-clause-ends
around-returns-in-Err-clause-ends t c =
    let s = c.args.script.now in
    let n = c.args.aside in
    let i = c.args.instr.now in
    let T = c.args.types.now in
    let stack = c.args.stack.now in
    let b = types_at T stack in
    let new = c.opened.new.types in
    let starts = starts_of c.in-Some.starts in
    let begun = starts_at new starts in
    let on = opened_some T new i stack starts_of c.in_ok-starts.field-0 c.in-Some.starts c.in-Some.is c.in_ok-starts.ensures.starts in
    let later = c.body_ends.new.types in
    let grows = grows_more T new later c.opened.ensures.grows c.body_ends.ensures.grows in
    let ends = ends_of c.in_ok-ends.ends in
    let left = ends_at later ends in
    let typed = subst (λ (cs : List (List Instr)). BodiesTyped s n cs begun left) c.bodies_of.ensures c.in_ok-ends.ensures.ends.0 in
    let last = c.outcome.new.types in
    let same = types_later T later grows stack c.requires.stack in
    let closes = subst (λ z. Closes later last i stack ends (closed z)) c.in-Err.is c.in_ok-ends-2.ensures.closes in
    here_told (InstrFault s n i b) c.here-in-Err.result c.in-Err.kind c.here-in-Err.ensures
    (closed_fault s n i b c.requires.long c.requires.fit begun on.0 left typed later last stack ends c.in-Err.kind same refl closes)

-- ---- bodies

pub body_ends-returns-in_err-end-in-One-One-clause-ends : goal.body_ends-returns-in_err-end-in-One-One-clause-ends
body_ends-returns-in_err-end-in-One-One-clause-ends t c =
    let T = c.args.types.now in
    let x = c.in-One-One.start in
    first_answer c.args.script.now c.args.aside c.body_end.new.types (body_list c.args.bodies) (starts_at T (starts_of c.args.starts))
    c.in-One-One.code.now (x.aside, types_at T x.stack.items) [] [] (ap body_list c.in-One-One.is-0) (ap (λ z. starts_at T (starts_of z)) c.in-One-One.is-1)
    c.in_err-end-in-One-One.field-0.0 c.from_residual.result c.from_residual.ensures.1 c.in_err-end-in-One-One.ensures.ends

pub body_ends-returns-in_ok-end-in-One-One-clause-ends : goal.body_ends-returns-in_ok-end-in-One-One-clause-ends
body_ends-returns-in_ok-end-in-One-One-clause-ends t c =
    let T = c.args.types.now in
    let x = c.in-One-One.start in
    one_answer c.args.script.now c.args.aside c.body_end.new.types (body_list c.args.bodies) (starts_at T (starts_of c.args.starts))
    c.in-One-One.code.now (x.aside, types_at T x.stack.items) (ap body_list c.in-One-One.is-0) (ap (λ z. starts_at T (starts_of z)) c.in-One-One.is-1)
    c.in_ok-end-in-One-One.end c.in_ok-end-in-One-One.ensures.ends

pub body_ends-returns-in_err-first-in-Two-Two-clause-ends : goal.body_ends-returns-in_err-first-in-Two-Two-clause-ends
body_ends-returns-in_err-first-in-Two-Two-clause-ends t c =
    let T = c.args.types.now in
    let x = c.in-Two-Two.start in
    let y = c.in-Two-Two.other_start in
    first_answer c.args.script.now c.args.aside c.body_end-in-Two-Two.new.types (body_list c.args.bodies) (starts_at T (starts_of c.args.starts))
    c.in-Two-Two.code.now (x.aside, types_at T x.stack.items) (c.in-Two-Two.other.now ∷ []) ((y.aside, types_at T y.stack.items) ∷ [])
    (ap body_list c.in-Two-Two.is-0) (ap (λ z. starts_at T (starts_of z)) c.in-Two-Two.is-1)
    c.in_err-first-in-Two-Two.field-0.0 c.from_residual-in_err-first-in-Two-Two.result c.from_residual-in_err-first-in-Two-Two.ensures.1 c.in_err-first-in-Two-Two.ensures.ends

pub body_ends-body_end-requires-in-Two-Two-2 : goal.body_ends-body_end-requires-in-Two-Two-2
body_ends-body_end-requires-in-Two-Two-2 t c =
    let s = c.args.script.now in
    let n = c.args.aside in
    let T = c.args.types.now in
    let mid = c.body_end-in-Two-Two.new.types in
    let x = c.in-Two-Two.start in
    let y = c.in-Two-Two.other_start in
    let stacks = subst (λ z. are_starts_in T (starts_of z) ≡ true) c.in-Two-Two.is-1 c.requires.stacks in
    let within = (and_parts (are_in T y.stack.items) true (and_parts (are_in T x.stack.items) (are_in T y.stack.items && true) stacks).1).0 in
    let same = types_later T mid c.body_end-in-Two-Two.ensures.grows y.stack.items within in
    let kept = subst (λ z. StartsKept n (starts_at T (starts_of z))) c.in-Two-Two.is-1 c.requires.kept in
    let first = c.in-Two-Two.code.now in
    let second = c.in-Two-Two.other.now in
    let sum = ap (λ z. sum_by code_count (body_list z)) c.in-Two-Two.is-0 in
    let more = sum_by-cons code_count first (second ∷ []) in
    let last = sum_by-cons code_count second [] in (
      omega (arith, c.decreases, sum, more, last),
      (
        in_later T mid c.body_end-in-Two-Two.ensures.grows y.stack.items within,
        (subst (λ (z : List Ty). IsKept (n + y.aside) z) (sym same) kept.1.0, omega (arith, c.requires.small, sum, more, last)),
      ),
    )

pub body_ends-returns-in_err-second-in-Two-Two-clause-ends : goal.body_ends-returns-in_err-second-in-Two-Two-clause-ends
body_ends-returns-in_err-second-in-Two-Two-clause-ends t c =
    let s = c.args.script.now in
    let n = c.args.aside in
    let T = c.args.types.now in
    let mid = c.body_end-in-Two-Two.new.types in
    let x = c.in-Two-Two.start in
    let y = c.in-Two-Two.other_start in
    let stacks = subst (λ z. are_starts_in T (starts_of z) ≡ true) c.in-Two-Two.is-1 c.requires.stacks in
    let within = (and_parts (are_in T y.stack.items) true (and_parts (are_in T x.stack.items) (are_in T y.stack.items && true) stacks).1).0 in
    let same = types_later T mid c.body_end-in-Two-Two.ensures.grows y.stack.items within in
    second_answer s n c.body_end-in-Two-Two-2.new.types (body_list c.args.bodies) (starts_at T (starts_of c.args.starts))
    c.in-Two-Two.code.now c.in-Two-Two.other.now (x.aside, types_at T x.stack.items) (y.aside, types_at T y.stack.items)
    (ap body_list c.in-Two-Two.is-0) (ap (λ z. starts_at T (starts_of z)) c.in-Two-Two.is-1) mid c.body_end-in-Two-Two-2.ensures.grows
    c.in_ok-first-in-Two-Two.first c.in_ok-first-in-Two-Two.ensures.ends (y.aside, types_at mid y.stack.items) (λ j. (y.aside, same j))
    c.in_err-second-in-Two-Two.field-0.0 c.from_residual-in_err-second-in-Two-Two.result c.from_residual-in_err-second-in-Two-Two.ensures.1 c.in_err-second-in-Two-Two.ensures.ends

pub body_ends-returns-in_ok-second-in-Two-Two-clause-ends : goal.body_ends-returns-in_ok-second-in-Two-Two-clause-ends
body_ends-returns-in_ok-second-in-Two-Two-clause-ends t c =
    let s = c.args.script.now in
    let n = c.args.aside in
    let T = c.args.types.now in
    let mid = c.body_end-in-Two-Two.new.types in
    let x = c.in-Two-Two.start in
    let y = c.in-Two-Two.other_start in
    let stacks = subst (λ z. are_starts_in T (starts_of z) ≡ true) c.in-Two-Two.is-1 c.requires.stacks in
    let within = (and_parts (are_in T y.stack.items) true (and_parts (are_in T x.stack.items) (are_in T y.stack.items && true) stacks).1).0 in
    let same = types_later T mid c.body_end-in-Two-Two.ensures.grows y.stack.items within in
    two_answer s n c.body_end-in-Two-Two-2.new.types (body_list c.args.bodies) (starts_at T (starts_of c.args.starts))
    c.in-Two-Two.code.now c.in-Two-Two.other.now (x.aside, types_at T x.stack.items) (y.aside, types_at T y.stack.items)
    (ap body_list c.in-Two-Two.is-0) (ap (λ z. starts_at T (starts_of z)) c.in-Two-Two.is-1) mid c.body_end-in-Two-Two-2.ensures.grows
    c.in_ok-first-in-Two-Two.first c.in_ok-first-in-Two-Two.ensures.ends (y.aside, types_at mid y.stack.items) (λ j. (y.aside, same j))
    c.in_ok-second-in-Two-Two.second c.in_ok-second-in-Two-Two.ensures.ends

pub body_ends-returns-in_default-clause-ends : goal.body_ends-returns-in_default-clause-ends
body_ends-returns-in_default-clause-ends t c =
    elim c.in_default.branch [
      | body_ends-in_default-via-in-One+in_default w ↦
          absurd (not_one c.args.starts w.in_default.not-One-1 (sym (ap (λ z. length (body_list z)) w.in_default.is-0) ∙ c.requires.many))
      | body_ends-in_default-via-in-Two+in_default w ↦
          absurd (not_two c.args.starts w.in_default.not-Two-1 (sym (ap (λ z. length (body_list z)) w.in_default.is-0) ∙ c.requires.many))
      | body_ends-in_default-via-in_default w ↦
          (none_left c.args.script.now c.args.aside c.args.types.now c.args.bodies c.args.starts w.in_default.is-0 c.requires.many, refl)
    ]

-- ---- an instruction

pub instr_ends-returns-then-is_short-clause-ends : goal.instr_ends-returns-then-is_short-clause-ends
instr_ends-returns-then-is_short-clause-ends t c =
    let s = c.args.script.now in
    let n = c.args.aside in
    let i = c.args.instr.now in
    let T = c.args.types.now in
    let stack = c.args.stack.now in
    let b = types_at T stack in
    here_told (InstrFault s n i b) c.here.result kind.StackTooShort c.here.ensures (short_first s n i b (c.is_short.ensures.0 c.if-is_short.true))

pub instr_ends-returns-then-not-is_fit_alone-clause-ends : goal.instr_ends-returns-then-not-is_fit_alone-clause-ends
instr_ends-returns-then-not-is_fit_alone-clause-ends t c =
    let s = c.args.script.now in
    let n = c.args.aside in
    let i = c.args.instr.now in
    let T = c.args.types.now in
    let stack = c.args.stack.now in
    let b = types_at T stack in
    here_told (InstrFault s n i b) c.here-then-not-is_fit_alone.result kind.WrongType c.here-then-not-is_fit_alone.ensures
    (wrong_first s n i b (λ short. clash c.is_short.result (c.is_short.ensures.1 short) c.if-is_short.false) (inl (sym c.is_fit_alone.ensures ∙ c.if-not-is_fit_alone.true)))

-- ---- code

pub code_ends-loop-number-init : goal.code_ends-loop-number-init
code_ends-loop-number-init t c =
    let n = c.args.aside in
    let T = c.args.types.now in
    let b = types_at T c.args.stack.now in
    let items = sym c.in_ok-from_slice.ensures.items in (
      grows_same T T refl,
      (
        subst (λ (ids : List ℕ). CodeTyped c.args.script.now n [] b (To (types_at T ids))) items (done n b c.requires.kept),
        subst (λ (ids : List ℕ). are_in T ids ≡ true) items c.requires.stack,
      ),
    )

pub code_ends-overflow_cast-number : goal.code_ends-overflow_cast-number
code_ends-overflow_cast-number t c =
    omega (arith, c.loop-number-test.true, at_least_length c.args.code.now, c.requires.small)

pub code_ends-returns-in_default-clause-ends : goal.code_ends-returns-in_default-clause-ends
code_ends-returns-in_default-clause-ends t c =
    let s = c.args.script.now in
    let n = c.args.aside in
    let T = c.args.types.now in
    let b = types_at T c.args.stack.now in
    let code = c.args.code.now in
    let k = c.loop-number.number in
    let i = c.index-code-number.result in
    let lt = c.loop-number-test.true in
    let is = sym c.index-code-number.is in
    let so_far = c.loop-number.types in
    let typed = subst (λ (o : Outcome). CodeTyped s n (take k code) b o) (ends_fail so_far c.loop-number.ends c.in_default.not-To) c.loop-number.invariant.1.0 in
    let Holds : List ℕ → TypeKind → Type 0 = λ path told. CodeFault s n code b (k ∷ path) told in
    inside_told Holds (CodeFault s n code b) k c.here.result c.inside.result
    (here_told Holds c.here.result kind.FailNotLast c.here.ensures (code_failing s n code b k i lt is typed)) (λ path told fault. fault) c.inside.ensures

pub code_ends-instr_ends-requires : goal.code_ends-instr_ends-requires
code_ends-instr_ends-requires t c =
    let s = c.args.script.now in
    let n = c.args.aside in
    let T = c.args.types.now in
    let b = types_at T c.args.stack.now in
    let code = c.args.code.now in
    let k = c.loop-number.number in
    let i = c.index-code-number.result in
    let lt = c.loop-number-test.true in
    let is = sym c.index-code-number.is in
    let so_far = c.loop-number.types in
    let slice = c.as_slice.result.now in
    let before = types_at so_far slice in
    let typed = subst (λ (ids : List ℕ). CodeTyped s n (take k code) b (To (types_at so_far ids))) (sym c.as_slice.ensures.value)
    (subst (λ (e : Ends). CodeTyped s n (take k code) b (end_at so_far (end_of e))) c.in-To.is c.loop-number.invariant.1.0) in
    let within = subst (λ (ids : List ℕ). are_in so_far ids ≡ true) (sym c.as_slice.ensures.value)
    (subst (λ (e : Ends). is_end_in so_far (end_of e) ≡ true) c.in-To.is c.loop-number.invariant.1.1) in
    let less = count_within code k i lt is in (
      omega (arith, c.decreases, less),
      (within, omega (arith, c.requires.small, less)),
    )

pub code_ends-returns-in-Err-clause-ends : goal.code_ends-returns-in-Err-clause-ends
code_ends-returns-in-Err-clause-ends t c =
    let s = c.args.script.now in
    let n = c.args.aside in
    let T = c.args.types.now in
    let b = types_at T c.args.stack.now in
    let code = c.args.code.now in
    let k = c.loop-number.number in
    let i = c.index-code-number.result in
    let lt = c.loop-number-test.true in
    let is = sym c.index-code-number.is in
    let so_far = c.loop-number.types in
    let slice = c.as_slice.result.now in
    let before = types_at so_far slice in
    let typed = subst (λ (ids : List ℕ). CodeTyped s n (take k code) b (To (types_at so_far ids))) (sym c.as_slice.ensures.value)
    (subst (λ (e : Ends). CodeTyped s n (take k code) b (end_at so_far (end_of e))) c.in-To.is c.loop-number.invariant.1.0) in
    inside_told (InstrFault s n i before) (CodeFault s n code b) k c.in-Err.refusal c.inside-in-Err.result c.in-Err.ensures.ends
    (λ path told fault. code_fault s n code b k i lt is before path told typed fault) c.inside-in-Err.ensures

pub code_ends-loop-number-preserved : goal.code_ends-loop-number-preserved
code_ends-loop-number-preserved t c =
    let s = c.args.script.now in
    let n = c.args.aside in
    let T = c.args.types.now in
    let b = types_at T c.args.stack.now in
    let code = c.args.code.now in
    let k = c.loop-number.number in
    let i = c.index-code-number.result in
    let lt = c.loop-number-test.true in
    let is = sym c.index-code-number.is in
    let so_far = c.loop-number.types in
    let slice = c.as_slice.result.now in
    let before = types_at so_far slice in
    let typed = subst (λ (ids : List ℕ). CodeTyped s n (take k code) b (To (types_at so_far ids))) (sym c.as_slice.ensures.value)
    (subst (λ (e : Ends). CodeTyped s n (take k code) b (end_at so_far (end_of e))) c.in-To.is c.loop-number.invariant.1.0) in
    let later = c.instr_ends.new.types in (
      grows_more T so_far later c.loop-number.invariant.0 c.instr_ends.ensures.grows,
      (code_further s n code b k i lt is before (end_at later (end_of c.in-Ok.after)) typed c.in-Ok.ensures.ends.0, c.in-Ok.ensures.ends.1),
    )
