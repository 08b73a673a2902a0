-- A name that the set has stands twice; any other is one more.
use Rattle.std.proofs.Common.{◌≡◌, length, refl, sym, subst, arith}
use Rattle.michelson_typer.proofs.NameLaws.{AreSeen, all_apart, name-read, none_seen, one_more, seen_twice, was_new, was_there}
use Rattle.michelson_typer.proofs.whole.are_named_apart.Goals as goal

pub loop-entry-init : goal.loop-entry-init
loop-entry-init c = subst (AreSeen c.args.names.now 0) (sym c.new-seen.ensures.empty) (none_seen c.args.names.now)

pub returns-then-not-branch : goal.returns-then-not-branch
returns-then-not-branch c =
    let here = name-read c.args.names.now c.loop-entry.entry-index c.entry-item.result c.loop-entry-test.true c.entry-item.is in (
      λ none. cc,
      λ apart. absurd
          (seen_twice c.args.names.now c.loop-entry.entry-index c.loop-entry.seen.keys c.entry-item.result.1 c.loop-entry-test.true here
          (was_there _ _ c.in_ok-insert.ensures.added c.if-not-branch.true) c.loop-entry.invariant apart),
    )

pub loop-entry-preserved : goal.loop-entry-preserved
loop-entry-preserved c =
    let here = name-read c.args.names.now c.loop-entry.entry-index c.entry-item.result c.loop-entry-test.true c.entry-item.is in
    one_more c.args.names.now c.loop-entry.entry-index c.loop-entry.seen.keys c.insert.new.self.keys c.entry-item.result.1
    here (was_new _ _ c.in_ok-insert.ensures.added c.if-not-branch.false) c.in_ok-insert.ensures.updates.0 c.loop-entry.invariant

pub returns : goal.returns
returns c =
    let at_end : c.loop-entry.entry-index ≡ length c.args.names.now = omega arith in (
      λ _. all_apart c.args.names.now c.loop-entry.seen.keys
          (subst (λ n. AreSeen c.args.names.now n c.loop-entry.seen.keys) at_end c.loop-entry.invariant),
      λ _. refl,
    )
