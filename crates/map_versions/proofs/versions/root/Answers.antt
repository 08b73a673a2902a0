-- Where there is no version, the root is the empty tree.
use Rattle.std.proofs.Common.{◌-◌, sym, arith}
use Rattle.map_versions.proofs.RootLaws.{root_none}
use Rattle.map_versions.proofs.versions.root.Goals as goal

pub returns-in-None : goal.returns-in-None
returns-in-None c = root_none c.args.version (c.args.version - 1) c.args.roots.now (omega arith) (sym c.in-None.ensures.value)
