-- The footprint of the accesses with one more is the footprint so far with one more touch.
use Rattle.std.proofs.Common.{◌≡◌, ◌++◌, ◌∷◌, [], ap, sym, ◌∙◌, rules}
use Rattle.cell_names.specs.Effects.{cell_of, mode_needed}
use Rattle.cell_names.specs.Footprints.{touched}
use Rattle.op_rules.specs.Course.{footprint_of}
use Rattle.op_rules.proofs.Changing.{footprint_of-push}
use Rattle.op_run.proofs.log.Log.note.Goals as goal

pub invariant_of-self-2 : goal.invariant_of-self-2
invariant_of-self-2 c =
    let before = c.self.inside.entries.items in
    let now : c.push.new.self.items ≡ before ++ (c.args.access, c.args.reply) ∷ [] = search rules in
    c.in_ok-touch.ensures.touched
    ∙ ap (λ f. touched f (cell_of c.args.access) (mode_needed c.args.access)) c.self.invariant
    ∙ sym (footprint_of-push before c.args.access c.args.reply)
    ∙ ap footprint_of (sym now)
