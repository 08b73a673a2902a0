use Rattle.block_cli.proofs.report.cannot_read.Goals as goal

pub returns : goal.returns
returns g c = rw (← c.as_bytes.ensures.value) c.tell.ensures
