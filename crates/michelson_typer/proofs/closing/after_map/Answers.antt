use Rattle.std.proofs.Common.{ℕ, List, Option, Some, Ok, refl, ap, sym, subst}
use Rattle.michelson_typer.specs.Closed.{IsMapped, end_of}
use Rattle.michelson_typer.proofs.EndingLaws.{one_left}
use Rattle.michelson_typer.proofs.closing.after_map.Goals as goal

pub returns-in-len1-up-stack-clause-mapped : goal.returns-in-len1-up-stack-clause-mapped
returns-in-len1-up-stack-clause-mapped c =
    let ids = c.in_ok-joined-in-len1-up-stack.field-0.items in
    subst (λ (z : Option (List ℕ)). IsMapped c.args.types.now c.intern.new.self c.args.stack.now z (Ok (Some ids))) (sym (ap end_of c.in-To.is))
    (one_left c.args.types.now c.intern.new.self c.args.stack.now c.in-To.left.items c.as_slice.result.now ids c.in_ok-whole-in-len1-up-stack.whole c.remade-level.result c.as_slice.ensures.value c.in-len1-up.len_at_least c.in-len1-up-stack.len_at_least
    (c.if-not-same_stack.ensures.0 refl) c.remade-level.ensures c.in_ok-whole-in-len1-up-stack.ensures.number c.in_ok-joined-in-len1-up-stack.ensures)
