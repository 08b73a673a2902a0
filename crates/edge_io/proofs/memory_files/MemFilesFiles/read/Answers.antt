use Rattle.edge_io.proofs.ShelfLaws.{read_reads, read_others}
use Rattle.edge_io.proofs.memory_files.MemFilesFiles.read.Goals as goal

pub returns-clause-reads : goal.returns-clause-reads
returns-clause-reads c = rw (c.read-ended.ensures.held, c.read-ended.ensures.marked, ← c.self.view_is) (read_reads _ _ _ c.read-ended.result c.read-ended.ensures.short c.read-ended.ensures.bytes c.read-ended.ensures.long)

pub returns-clause-others : goal.returns-clause-others
returns-clause-others c = rw (c.read-ended.ensures.marked, ← c.self.view_is) (read_others c.args.self.now.held _ _ c.read-ended.result)
