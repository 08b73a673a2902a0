-- What is read of nodes is what they are written for: types, the parameter, code and scripts.
use Rattle.std.proofs.Common.{◌≡◌, ℕ, ◌↔◌, List, Ok}
use Rattle.std.specs.Prelude.{IsTrue}
use Rattle.micheline_text.specs.declared.node.Node.{Node}
use Rattle.michelson_code.specs.declared.instr.Instr.{Instr}
use Rattle.michelson_code.specs.declared.script.Script.{Script}
use Rattle.data_nodes.proofs.DataLaws.{data-read}
use Rattle.michelson_reader.specs.Code.{is_code}
use Rattle.michelson_reader.specs.CodeFaults.{code_read}
use Rattle.michelson_reader.specs.Script.{AreSections, unbraced}
use Rattle.michelson_reader.specs.ScriptFaults.{script_read}
use Rattle.michelson_reader.proofs.CodeLaws as code_laws
use Rattle.michelson_reader.proofs.SectionLaws as section_laws
pub use Rattle.michelson_reader.proofs.TypeLaws.{type-read}
pub use Rattle.michelson_reader.proofs.ParameterLaws.{parameter-read}

pub code-read : (n : Node) (c : List Instr) → (code_read n ≡ Ok c) ↔ IsTrue (is_code c n)
code-read = code_laws.code-read type-read data-read

pub script-read : (end : ℕ) (ns : List Node) (s : Script) → (script_read end ns ≡ Ok s) ↔ AreSections (unbraced ns) s
script-read = section_laws.script-read code-read
