-- The roots of before stay roots of the same versions, and the new one is that of the changed tree.
use Rattle.std.proofs.Common.{ap, ◌∙◌, refl}
use Rattle.std.specs.FinMap.{is_sorted}
use Rattle.value_core.specs.Order.{order}
use Rattle.michelson_rules.specs.Runs.{changes_of}
use Rattle.map_versions.proofs.RootLaws.{last_change, on_err, root_sorted, roots_kept, roots_more, versions_kept, versions_more}
use Rattle.map_versions.proofs.versions.Versions.put.Goals as goal

pub put-requires-clause-sorted : goal.put-requires-clause-sorted
put-requires-clause-sorted c =
    ap (λ trees. is_sorted order (changes_of c.root-old.result trees)) c.note.ensures.trees
    ∙ ap (λ root. is_sorted order (changes_of root c.self.inside.trees.trees)) c.root-old.ensures
    ∙ root_sorted c.args.version c.self.inside.trees.trees c.self.inside.roots c.self.invariant

pub invariant_of-self-in_err-new : goal.invariant_of-self-in_err-new
invariant_of-self-in_err-new c =
    roots_kept c.self.inside.trees.trees c.self.inside.roots c.self.invariant c.args.self.now c.self.view_is c.note.new.self c.put.new.self c.note.ensures.trees c.put.ensures.grows
    c.self.inside.roots refl

pub returns-in_err-new-clause-unchanged : goal.returns-in_err-new-clause-unchanged
returns-in_err-new-clause-unchanged c =
    on_err c.from_residual-in_err-new.result
    (versions_kept c.self.inside.trees.trees c.self.inside.roots c.self.invariant c.args.self.now c.self.view_is c.note.new.self c.put.new.self c.note.ensures.trees c.put.ensures.grows
    c.self.inside.roots refl)

pub invariant_of-self-in_err-push : goal.invariant_of-self-in_err-push
invariant_of-self-in_err-push c =
    roots_kept c.self.inside.trees.trees c.self.inside.roots c.self.invariant c.args.self.now c.self.view_is c.note.new.self c.put.new.self c.note.ensures.trees c.put.ensures.grows
    c.push.new.self c.in_err-push.ensures.err

pub returns-in_err-push-clause-unchanged : goal.returns-in_err-push-clause-unchanged
returns-in_err-push-clause-unchanged c =
    on_err c.from_residual-in_err-push.result
    (versions_kept c.self.inside.trees.trees c.self.inside.roots c.self.invariant c.args.self.now c.self.view_is c.note.new.self c.put.new.self c.note.ensures.trees c.put.ensures.grows
    c.push.new.self c.in_err-push.ensures.err)

pub invariant_of-self-2 : goal.invariant_of-self-2
invariant_of-self-2 c =
    roots_more c.self.inside.trees.trees c.self.inside.roots c.self.invariant c.args.self.now c.self.view_is c.note.new.self c.put.new.self c.note.ensures.trees c.put.ensures.grows
    c.args.version c.root-old.result c.in_ok-change.change c.in_ok-new.new c.args.key c.args.choice c.push.new.self c.root-old.ensures
    (last_change c.self.inside.trees.made c.note.new.self.made c.args.key c.args.choice c.in_ok-change.change c.in_ok-change.ensures.made c.in_ok-change.ensures.number)
    c.in_ok-new.ensures.tree c.in_ok-push.ensures.ok

pub returns-clause-made : goal.returns-clause-made
returns-clause-made c =
    versions_more c.self.inside.trees.trees c.self.inside.roots c.self.invariant c.args.self.now c.self.view_is c.note.new.self c.put.new.self c.note.ensures.trees c.put.ensures.grows
    c.args.version c.root-old.result c.in_ok-change.change c.in_ok-new.new c.args.key c.args.choice c.push.new.self c.root-old.ensures
    (last_change c.self.inside.trees.made c.note.new.self.made c.args.key c.args.choice c.in_ok-change.change c.in_ok-change.ensures.made c.in_ok-change.ensures.number)
    c.in_ok-new.ensures.tree c.in_ok-push.ensures.ok
