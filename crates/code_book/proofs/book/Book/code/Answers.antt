-- The script at the place of the address, or none in its gap.
use Rattle.std.proofs.Common.{sym, ap, ◌∙◌}
use Rattle.std.specs.FinMap.{get}
use Rattle.code_book.specs.Books.{Contracts}
use Rattle.code_book.proofs.Rows.{code_at, code_none}
use Rattle.code_book.proofs.book.Book.code.Goals as goal

pub returns-in-Ok-clause-script : goal.returns-in-Ok-clause-script
returns-in-Ok-clause-script c =
    code_at c.as_slice.result.now c.self.inside.contracts.items c.args.a.now c.in-Ok.i c.index.result.now c.as_slice.ensures.value c.self.invariant.ascend c.in-Ok.ensures c.index.ensures
    ∙ ap (λ (b : Contracts). get b c.args.a.now) c.self.view_is

pub returns-in-Ok-clause-listed : goal.returns-in-Ok-clause-listed
returns-in-Ok-clause-listed c =
    c.self.invariant.book.listed c.args.a.now c.index.result.now.1.script
    (sym (code_at c.as_slice.result.now c.self.inside.contracts.items c.args.a.now c.in-Ok.i c.index.result.now c.as_slice.ensures.value c.self.invariant.ascend c.in-Ok.ensures c.index.ensures))

pub returns-in-Err-clause-script : goal.returns-in-Err-clause-script
returns-in-Err-clause-script c =
    code_none c.as_slice.result.now c.self.inside.contracts.items c.args.a.now c.in-Err.field-0 c.as_slice.ensures.value c.self.invariant.ascend c.in-Err.ensures
    ∙ ap (λ (b : Contracts). get b c.args.a.now) c.self.view_is
