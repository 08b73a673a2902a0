-- The line that stands is found, and its results take the place of its operands; where none stands none is found.
use Rattle.std.proofs.Common.{◌≡◌, ◌-◌, ◌++◌, ℕ, List, None, drop, take, length, ap, subst, ◌∙◌}
use Rattle.michelson_code.specs.declared.operands.Line.{Line}
use Rattle.michelson_code.specs.Typing.{slot_list, slot_types}
use Rattle.michelson_typer.specs.Lines.{NoneStands, Stands}
use Rattle.michelson_typer.specs.Stacks.{choice_of}
use Rattle.michelson_typer.specs.Tables.{types_at}
use Rattle.michelson_typer.specs.declared.lines.Letters.{Letters}
use Rattle.michelson_typer.proofs.LineApplies.{none_finds, stands_finds, take_rest}
use Rattle.michelson_typer.proofs.standing.by_line.Goals as goal

-- no letter stands for a type yet
abbrev free : Letters
free = record { a = None; b = None; k = None }

pub returns-in-None-clause-made : goal.returns-in-None-clause-made
returns-in-None-clause-made c =
    let w = c.requires.written in
    none_finds c.args.types.now c.args.written c.args.unit c.requires.unit c.args.script.now _ free c.args.stack.now w.types w.given w.t.is w.u.is
    (subst (λ (ls : List Line). NoneStands c.args.types.now c.args.written free ls c.args.stack.now) c.lines_of.ensures c.in-None.ensures.stands)

pub returns-in_ok-results-in-Some-clause-made : goal.returns-in_ok-results-in-Some-clause-made
returns-in_ok-results-in-Some-clause-made c =
    let w = c.requires.written in
    let made = c.in_ok-results-in-Some.ensures.made in
    let table = c.args.types.now in
    let stack = c.args.stack.now in
    let below : take (length stack - c.slot_count.result) (drop c.slot_count.result stack) ≡ drop (length (slot_list c.in-Some.line.0)) stack =
    take_rest c.slot_count.result stack ∙ ap (λ (n : ℕ). drop n stack) c.slot_count.ensures in
    record {
      within = made.within;
      finds = stands_finds table c.args.written c.args.unit c.requires.unit c.args.script.now _ free c.args.stack.now w.types w.given w.t.is w.u.is
          c.in-Some.letters c.in-Some.line
          (subst (λ (ls : List Line). Stands table c.args.written free ls c.args.stack.now (c.in-Some.letters, c.in-Some.line)) c.lines_of.ensures c.in-Some.ensures.stands)
          _ (made.is ∙ (λ i. slot_types (choice_of table (c.all_chosen-chosen.ensures i)) c.in-Some.line.1 ++ types_at table (below i)));
    }
