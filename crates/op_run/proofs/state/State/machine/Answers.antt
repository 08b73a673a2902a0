-- The script is typed, and so is what it runs on.
use Rattle.std.proofs.Common.{◌≡◌, ◌<◌, ◌^◌, true, [], sym, ap, subst, ◌∙◌, arith}
use Rattle.std.specs.Prelude.{IsTrue, unwrap_or}
use Rattle.value_core.specs.Typed.{has_type}
use Rattle.michelson_code.specs.declared.script.Script.{Script}
use Rattle.michelson_code.specs.Entries.{path_of, wrapped}
use Rattle.michelson_code.specs.TypedScript.{IsTypedScript}
use Rattle.michelson_rules.specs.declared.ask.Env.{Env}
use Rattle.code_book.specs.Fits.{is_kept_as}
use Rattle.op_rules.specs.CodeRule.{param_of}
use Rattle.op_run.proofs.Starting.{begins_safe}
use Rattle.op_run.proofs.state.State.machine.Goals as goal

pub returns-clause-behaves : goal.returns-clause-behaves
returns-clause-behaves c =
    let script = c.args.code.now.script in
    let is_param : c.in_ok-param.param ≡ param_of script c.args.t =
    c.in_ok-param.ensures
    ∙ ap (λ path. wrapped path c.args.t.param) c.path_of.ensures
    ∙ ap (λ (x : Script). wrapped (unwrap_or (path_of c.args.t.entry x.names) []) c.args.t.param) c.script.ensures.script in
    let same_amount : c.env-env.result.amount ≡ c.args.t.amount = ap (λ (e : Env). e.amount) c.env-env.ensures in
    let money : c.env-env.result.amount < 2 ^ 63 = omega (arith, c.requires.amount) in
    begins_safe c.args.self.now.book.now c.args.t.dest script c.env-env.result c.args.self.now.left c.in_ok-param.param c.in_ok-storage.storage
    (subst (λ v. IsTrue (has_type v script.param)) (sym is_param) c.requires.typed)
    (subst (λ v. is_kept_as script.storage v ≡ true) (sym c.in_ok-storage.ensures) c.requires.kept)
    money (subst (λ x. ∥ IsTypedScript x ∥₁) c.script.ensures.script c.script.ensures.typed)
    c.start.result c.start.ensures.same
