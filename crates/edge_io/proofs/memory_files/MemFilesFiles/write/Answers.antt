use Rattle.edge_io.proofs.ShelfLaws.{write_writes, write_others}
use Rattle.edge_io.proofs.memory_files.MemFilesFiles.write.Goals as goal

pub returns-clause-writes : goal.returns-clause-writes
returns-clause-writes c = rw (c.write.ensures.held, c.write.ensures.marked, ← c.self.view_is) (write_writes _ _ _ _ c.write.result)

pub returns-clause-others : goal.returns-clause-others
returns-clause-others c = rw (c.write.ensures.marked, ← c.self.view_is) (write_others c.args.self.now.held _ _ c.args.bytes.now c.write.result)
