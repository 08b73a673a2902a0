-- Of `SELF` the type of the entry is written, of any other instruction those among its operands.
use Rattle.std.proofs.Common.{List, ap, subst, sym, ◌∙◌}
use Rattle.std.specs.Option.{option_copied}
use Rattle.value_core.specs.declared.ty.Ty.{Ty}
use Rattle.michelson_code.specs.declared.instr.Instr.TheViews.{out-Instr}
use Rattle.michelson_code.specs.declared.instr.Instr.TheVariants as instr
use Rattle.michelson_code.specs.Typing.{types_written}
use Rattle.michelson_typer.specs.Lines.{AreWritten}
use Rattle.michelson_typer.proofs.AppliedLaws.{entry_written, operands_written, rolled}
use Rattle.michelson_typer.proofs.GrowLaws.{typed_later}
use Rattle.michelson_typer.proofs.operands.written_by.Goals as goal

pub returns-in_ok-t-in-Some-clause-written : goal.returns-in_ok-t-in-Some-clause-written
unfolding out-Instr denote.Hole.Carrier.out
returns-in_ok-t-in-Some-clause-written c =
    entry_written c.args.script.now c.intern_type.new.types (out-Instr c.args.instr.now) _ (ap out-Instr c.in-SelfEntry.is) c.in-Some.t.now
    (sym c.called_entry.ensures ∙ ap option_copied c.in-Some.is) _ c.in_ok-t-in-Some.ensures.number
    (typed_later _ _ c.intern_type.ensures.grows c.args.unit _ c.requires)

pub returns-in_ok-written-in_default : goal.returns-in_ok-written-in_default
returns-in_ok-written-in_default c = record {
  grows = c.all_written.ensures.grows;
  written = operands_written c.args.script.now c.all_written.new.types (out-Instr c.args.instr.now) (λ e is. c.in_default.not-SelfEntry e (rolled c.args.instr.now _ _ (instr.rolls-SelfEntry e) is)) c.in_ok-written-in_default.written
      (subst (λ (ts : List Ty). AreWritten c.all_written.new.types ts c.in_ok-written-in_default.written)
      (ap (λ f. types_written f.operands) c.form_of.ensures) c.in_ok-written-in_default.ensures.written);
}
