-- The file that is too long is told.
use Rattle.std.proofs.Common.{Err, subst}
use Rattle.block_cli.specs.declared.input.Unread.{Unread}
use Rattle.block_cli.specs.Commands.{reads}
use Rattle.block_cli.specs.Seen.{seen_of}
use Rattle.block_cli.specs.Inside.{command_in, ReadsAll}
use Rattle.block_cli.proofs.Ending.{long_told}
use Rattle.block_cli.proofs.run.perform.Goals as goal

pub returns-in-Err-TooLong : goal.returns-in-Err-TooLong
returns-in-Err-TooLong g c =
    let long = c.in-Err-TooLong in
    let command = command_in c.args.command.now in
    let old = seen_of (g.F.Files.seen c.args.files.now) (g.K.Sink.seen c.args.out.now) in
    let new = seen_of (g.F.Files.seen c.contents_for.new.files) (g.K.Sink.seen c.too_long.new.out) in
    let stops = subst (λ (e : Unread). ReadsAll (reads command) old.files (Err e) new.files) long.field-0-is long.ensures.read in
    long_told command long.name.now old new stops long.ensures.same (rw (← long.name-is) c.too_long.ensures)
