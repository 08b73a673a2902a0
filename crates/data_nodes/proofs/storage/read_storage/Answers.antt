-- The laws of storages.
use Rattle.data_nodes.proofs.StorageLaws.{entries_plain, storage_fault, storage_found, storage_only, storage_plain}
use Rattle.data_nodes.proofs.storage.read_storage.Goals as goal

pub returns-clause-found : goal.returns-clause-found
returns-clause-found c = storage_found (λ r. (r.0, r.1.items)) c.args.t.now c.args.n.now c.read_parted.result c.requires.few c.read_parted.ensures

pub returns-clause-only : goal.returns-clause-only
returns-clause-only c = storage_only (λ r. (r.0, r.1.items)) c.args.t.now c.args.n.now c.read_parted.result c.read_parted.ensures

pub returns-clause-plain : goal.returns-clause-plain
returns-clause-plain c = storage_plain (λ r. (r.0, r.1.items)) c.args.t.now c.args.n.now c.read_parted.result c.requires.few c.read_parted.ensures

pub returns-clause-entries : goal.returns-clause-entries
returns-clause-entries c = entries_plain (λ r. (r.0, r.1.items)) c.args.t.now c.args.n.now c.read_parted.result c.requires.few c.read_parted.ensures

pub returns-clause-first : goal.returns-clause-first
returns-clause-first c = storage_fault (λ r. (r.0, r.1.items)) c.args.t.now c.args.n.now c.read_parted.result c.read_parted.ensures
