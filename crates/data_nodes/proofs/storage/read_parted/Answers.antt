-- The value that was read has the type with maps.
use Rattle.std.proofs.Common.{◌∙◌, ap, sym}
use Rattle.value_core.specs.declared.ty.Ty.{Ty}
use Rattle.data_nodes.specs.Faults.{storage_read}
use Rattle.data_nodes.specs.Storage.{with_maps}
use Rattle.data_nodes.proofs.DataLaws.{read_is_data}
use Rattle.data_nodes.proofs.storage.read_parted.Goals as goal

pub part-requires-clause-typed : goal.part-requires-clause-typed
part-requires-clause-typed c =
    (read_is_data (with_maps c.args.t.now) c.args.n.now c.in_ok-v.v (ap (λ (u : Ty). storage_read u c.args.n.now) (sym c.in_ok-written.ensures) ∙ c.in_ok-v.ensures)).0
