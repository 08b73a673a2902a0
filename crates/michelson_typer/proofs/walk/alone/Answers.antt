use Rattle.std.proofs.Common.{sym, ◌∙◌}
use Rattle.michelson_code.specs.declared.type_fault.TypeKind.TheVariants as kind
use Rattle.michelson_code.specs.FirstFault.{InstrFault}
use Rattle.michelson_code.specs.Typing.{To}
use Rattle.michelson_typer.specs.Tables.{types_at}
use Rattle.michelson_typer.proofs.EndLaws.{kept_or_told, none_made, some_made}
use Rattle.michelson_typer.proofs.ToldLaws.{here_told}
use Rattle.michelson_typer.proofs.WalkLaws.{line_keys, line_limits, line_typed, line_values, never_applies}
use Rattle.michelson_typer.proofs.walk.alone.Goals as goal

pub returns-in_default-clause-ends : goal.returns-in_default-clause-ends
returns-in_default-clause-ends c =
    let s = c.args.script.now in
    let n = c.args.aside in
    let i = c.args.instr.now in
    let b = types_at c.args.types.now c.args.stack.now in
    here_told (InstrFault s n i b) c.here.result kind.WrongType c.here.ensures (never_applies s n i b c.requires.long c.requires.fit c.requires.lone
    (none_made _ _ c.in_ok-after.field-0 c.in_default.not-Some c.in_ok-after.ensures.made))

pub returns-then-not-writes_comparable_keys-clause-ends : goal.returns-then-not-writes_comparable_keys-clause-ends
returns-then-not-writes_comparable_keys-clause-ends c =
    let s = c.args.script.now in
    let n = c.args.aside in
    let i = c.args.instr.now in
    let b = types_at c.args.types.now c.args.stack.now in
    let new = c.applied.new.types in
    let ids = c.in-Some.after.items in
    let made = some_made s i b new (λ v. v.items) c.in_ok-after.field-0 c.in-Some.after c.in-Some.is c.in_ok-after.ensures.made in
    here_told (InstrFault s n i b) c.here-then-not-writes_comparable_keys.result kind.NotComparable c.here-then-not-writes_comparable_keys.ensures
    (line_keys s n i b c.requires.long c.requires.fit c.requires.lone (types_at new ids) made.1 (sym c.writes_comparable_keys.ensures ∙ c.if-not-writes_comparable_keys.true))

pub returns-then-not-writes_passable_values-clause-ends : goal.returns-then-not-writes_passable_values-clause-ends
returns-then-not-writes_passable_values-clause-ends c =
    let s = c.args.script.now in
    let n = c.args.aside in
    let i = c.args.instr.now in
    let b = types_at c.args.types.now c.args.stack.now in
    let new = c.applied.new.types in
    let ids = c.in-Some.after.items in
    let made = some_made s i b new (λ v. v.items) c.in_ok-after.field-0 c.in-Some.after c.in-Some.is c.in_ok-after.ensures.made in
    here_told (InstrFault s n i b) c.here-then-not-writes_passable_values.result kind.BigMapPlace c.here-then-not-writes_passable_values.ensures
    (line_values s n i b c.requires.long c.requires.fit c.requires.lone (types_at new ids) made.1
    (sym c.writes_comparable_keys.ensures ∙ c.if-not-writes_comparable_keys.false) (sym c.writes_passable_values.ensures ∙ c.if-not-writes_passable_values.true))

pub returns-clause-ends : goal.returns-clause-ends
returns-clause-ends c =
    let s = c.args.script.now in
    let n = c.args.aside in
    let i = c.args.instr.now in
    let b = types_at c.args.types.now c.args.stack.now in
    let new = c.applied.new.types in
    let ids = c.in-Some.after.items in
    let made = some_made s i b new (λ v. v.items) c.in_ok-after.field-0 c.in-Some.after c.in-Some.is c.in_ok-after.ensures.made in
    let keys = sym c.writes_comparable_keys.ensures ∙ c.if-not-writes_comparable_keys.false in
    let values = sym c.writes_passable_values.ensures ∙ c.if-not-writes_passable_values.false in
    kept_or_told s n i b new (To (types_at new ids))
    (line_typed s n i b c.requires.long c.requires.fit c.requires.lone (types_at new ids) made.1 keys values)
    (line_limits s n i b c.requires.long c.requires.fit c.requires.lone (types_at new ids) made.1 keys values)
    c.kept.result c.kept.ensures
