-- The items stand on top of what was below.
use Rattle.std.proofs.Common.{◌-◌, ◌++◌, ℕ, List, drop, length, take, ap, ◌∙◌}
use Rattle.michelson_typer.proofs.CombLaws.{some_case, top_unpaired}
use Rattle.michelson_typer.proofs.numbered.unpair_n.Goals as goal

pub returns-in_ok-joined-in-Some : goal.returns-in_ok-joined-in-Some
returns-in_ok-joined-in-Some c =
    let stack = c.args.stack.now in
    top_unpaired c.args.types.now stack c.args.n c.in-len1-up.len_at_least c.requires c.in-Some.items.items
    (some_case _ _ c.in_ok-items-in-len1-up.field-0 c.in-Some.items c.in-Some.is c.in_ok-items-in-len1-up.ensures)
    c.in_ok-joined-in-Some.field-0.items
    (c.in_ok-joined-in-Some.ensures ∙ ap (λ (ids : List ℕ). ids ++ take (length stack - 1) (drop 1 stack)) c.as_slice.ensures.value)
