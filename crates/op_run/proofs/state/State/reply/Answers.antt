-- The access is noted with its reply, and the run goes on as it was told.
use Rattle.std.proofs.Common.{[], ◌∷◌, ◌++◌, ap, sym, ◌∙◌}
use Rattle.op_rules.specs.Course.{Past}
use Rattle.op_run.proofs.Replying.{replied, replied_any}
use Rattle.op_run.proofs.state.State.reply.Goals as goal

pub returns-in-Ok-clause-replied : goal.returns-in-Ok-clause-replied
returns-in-Ok-clause-replied c =
    let s = c.args.self.now in
    let mid = c.resume.new.self in
    let a = c.in-Waiting.access in
    let next = c.in-Waiting.then in
    let h = c.in_ok-resume-in-Waiting.ensures in
    let waits = sym c.in-Waiting.ensures.value in
    let noted = c.in-Ok.ensures ∙ ap (λ (past : Past). past ++ (a, c.args.r) ∷ []) h.stays.log in
    replied_any s mid a next c.args.r c.note.new.self waits h.stays noted
    (replied s mid a next c.args.r c.note.new.self waits h.stays noted h.free h.sound h.same h.safe)
