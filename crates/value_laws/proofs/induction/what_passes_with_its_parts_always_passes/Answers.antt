-- By induction on the parts.
use Rattle.value_laws.proofs.Passing.{every_type_passes, every_value_passes}
use Rattle.value_laws.proofs.induction.what_passes_with_its_parts_always_passes.Goals as goal

pub returns : goal.returns
returns c = record { values = every_value_passes; types = every_type_passes }
