use Rattle.edge_io.proofs.ShelfLaws.{makes_room}
use Rattle.edge_io.proofs.memory_files.MemFilesFiles.ready.Goals as goal

pub returns-clause-makes : goal.returns-clause-makes
returns-clause-makes c = rw (← c.self.view_is) (makes_room _ _ _ _ _ _ c.ready.result c.ready.ensures.held c.ready.ensures.made c.ready.ensures.unchanged)
