-- By what stands at one level.
use Rattle.value_core.proofs.Canonical.{of_big_map, of_list, of_map, of_option, of_or, of_pair, of_set}
use Rattle.value_core.proofs.laws.typed_values_have_their_form.Goals as goal

pub returns : goal.returns
returns c = record { option = of_option; or = of_or; pair = of_pair; list = of_list; set = of_set; map = of_map; big_map = of_big_map }
