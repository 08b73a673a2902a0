use Rattle.std.proofs.lemmas.Result.{on_ok_weaker}
use Rattle.edge_io.proofs.ShelfLaws.{room_made, put_others}
use Rattle.edge_io.proofs.memory_files.MemFiles.put.Goals as goal

pub returns-clause-room : goal.returns-clause-room
returns-clause-room c = on_ok_weaker c.put.result (λ e. rw e (room_made c.args.self.now.held _ _ _)) c.put.ensures.marked

pub returns-clause-others : goal.returns-clause-others
returns-clause-others c = rw (← c.self.view_is) (put_others c.args.self.now.held c.args.self.now.held _ _ _ _ c.put.result c.put.ensures.marked c.put.ensures.same_marked)
