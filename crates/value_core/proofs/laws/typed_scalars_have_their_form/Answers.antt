-- By what stands at one level.
use Rattle.value_core.proofs.CanonicalScalars.{of_addr, of_bool, of_bytes, of_int, of_mutez, of_nat, of_text, of_time, of_unit}
use Rattle.value_core.proofs.laws.typed_scalars_have_their_form.Goals as goal

pub returns : goal.returns
returns c = record { unit = of_unit; bool = of_bool; int = of_int; nat = of_nat; mutez = of_mutez; time = of_time; text = of_text; bytes = of_bytes; addr = of_addr }
