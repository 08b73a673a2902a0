use Rattle.std.proofs.Common.{Some, map, sym}
use Rattle.std.specs.Prelude.{string_bytes}
use Rattle.block_cli.specs.Seen.{seen_of}
use Rattle.block_cli.specs.Inside.{command_in}
use Rattle.block_cli.proofs.Completing.{runs_complete}
use Rattle.block_cli.proofs.run.run_still.Goals as goal

pub returns-in-Some-clause-complete : goal.returns-in-Some-clause-complete
returns-in-Some-clause-complete g c =
    let old = seen_of (g.F.Files.seen c.args.files.now) (g.K.Sink.seen c.args.out.now) in
    let new = seen_of (g.F.Files.seen c.perform.new.files) (g.K.Sink.seen c.perform.new.out) in
    runs_complete (Some (command_in c.in-Some.command)) (map string_bytes c.args.words.now) old new c.perform.result (sym c.in-Some.ensures) c.perform.ensures
