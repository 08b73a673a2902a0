-- A text spells one script, and two lawful scripts that are printable never share a text.
use Rattle.std.proofs.Common.{◌≡◌, ℕ, List, subst}
use Rattle.micheline_text.proofs.Answered.{one_text}
use Rattle.michelson_code.specs.declared.script.Script.{Script}
use Rattle.std.specs.Prelude.{IsTrue}
use Rattle.michelson_code.specs.Lawful.{is_lawful_script}
use Rattle.michelson_code.specs.Printable.{IsPrintableScript}
use Rattle.michelson_reader.specs.Printed.{script_text}
use Rattle.michelson_reader.specs.Script.{IsScriptOf}
use Rattle.michelson_reader.proofs.ReadLaws.{script-read}
use Rattle.michelson_reader.proofs.ScriptAgain.{script-again}

pub one_script : (bytes : List ℕ) (s t : Script) → IsScriptOf bytes s → IsScriptOf bytes t → s ≡ t
one_script bytes s t x y =
    let nodes : x.0 ≡ y.0 = one_text bytes x.0 y.0 x.1 y.1 in
    cc ((script-read 0 x.0 s).1 x.2, (script-read 0 y.0 t).1 y.2)

pub own_text : (s t : Script) → IsTrue (is_lawful_script s) → IsTrue (is_lawful_script t) → IsPrintableScript s → IsPrintableScript t → script_text s ≡ script_text t → s ≡ t
own_text s t s_lawful t_lawful s_printable t_printable same =
    one_script (script_text t) s t (subst (λ (bytes : List ℕ). IsScriptOf bytes s) same (script-again s s_lawful s_printable)) (script-again t t_lawful t_printable)
