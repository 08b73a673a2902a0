-- A stop of what takes no memory, as one of what does.
use Rattle.std.proofs.Common.{◌≡◌, Result, Err, sym, subst}
use Rattle.byte_fields.specs.Stops.{Stop}
use Rattle.byte_fields.specs.Told.{IsStop}
use Rattle.cell_names.specs.declared.fault.FieldStop.{FieldStop}
use Rattle.cell_names.specs.declared.fault.FieldStop.TheVariants as fields
use Rattle.cell_names.specs.declared.fault.FormatStop.{FormatStop}
use Rattle.cell_names.specs.Stops.{field_stop, format_stop, of_field}

same_stop : {Y : Type 0} (stop : FieldStop) (wanted : Result Y Stop) → wanted ≡ Err (field_stop stop) → IsStop (format_stop (of_field stop)) wanted
same_stop (fields.Left n) wanted is = is
same_stop (fields.NotYet n) wanted is = is

pub stop_of_field : {Y : Type 0} (stop : FieldStop) (e : FormatStop) (wanted : Result Y Stop) → e ≡ of_field stop → wanted ≡ Err (field_stop stop) → IsStop (format_stop e) wanted
stop_of_field stop e wanted from is = subst (λ (e : FormatStop). IsStop (format_stop e) wanted) (sym from) (same_stop stop wanted is)
