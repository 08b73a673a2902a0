-- It has its type.
use Rattle.data_nodes.proofs.StorageData.{answer_typed}
use Rattle.data_nodes.proofs.joining.storage_data.Goals as goal

pub returns-clause-typed : goal.returns-clause-typed
returns-clause-typed c = answer_typed (c.args.storage.now, c.args.entries.now) c.joined.result c.joined.ensures
