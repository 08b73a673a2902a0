-- The entry that was found has the type that was asked for, or another one.
use Rattle.std.proofs.Common.{sym, ◌∙◌}
use Rattle.std.proofs.lemmas.Bool.{false≢true}
use Rattle.value_core.specs.declared.val.Val.TheVariants as value
use Rattle.code_book.specs.Entries.{entry_of}
use Rattle.op_run.proofs.Standing.{stands_other, stands_same}
use Rattle.op_run.proofs.looks.standing.Goals as goal

pub returns-then-same : goal.returns-then-same
returns-then-same c =
    stands_same c.args.ty.now c.in-Ok.found.now (entry_of c.args.book.now c.args.address c.args.entry) c.in-Ok.ensures.takes
    (value.Contract c.args.address c.args.entry) (c.same.ensures.0 c.if-same.true)

pub returns-else-same : goal.returns-else-same
returns-else-same c =
    stands_other c.args.ty.now c.in-Ok.found.now (entry_of c.args.book.now c.args.address c.args.entry) c.in-Ok.ensures.takes
    (value.Contract c.args.address c.args.entry) (λ same. false≢true (sym c.if-same.false ∙ c.same.ensures.1 same))
