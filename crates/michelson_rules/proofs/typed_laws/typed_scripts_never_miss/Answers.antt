-- By the law of codes, on the pair of parameter and storage.
use Rattle.michelson_rules.proofs.ScriptRuns.{failed_typed, never_misses, returned_typed}
use Rattle.michelson_rules.proofs.typed_laws.typed_scripts_never_miss.Goals as goal

pub returns-clause-never : goal.returns-clause-never
returns-clause-never c = never_misses

pub returns-clause-returned : goal.returns-clause-returned
returns-clause-returned c = returned_typed

pub returns-clause-failed : goal.returns-clause-failed
returns-clause-failed c = failed_typed
