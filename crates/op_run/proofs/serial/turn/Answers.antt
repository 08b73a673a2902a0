-- A run's next access may be made; then it goes on, or all may be undone.
use Rattle.std.proofs.Common.{◌≡◌, Err, ap}
use Rattle.cell_names.specs.declared.store.StoreEnd.TheVariants.{Outside}
use Rattle.op_run.proofs.SerialRuns.{asks_access, back_from, goes_on, unlent_for, waits_for}
use Rattle.op_run.proofs.serial.turn.Goals as goal

pub returns-in-Err-make-clause-outside : goal.returns-in-Err-make-clause-outside
returns-in-Err-make-clause-outside g c = λ cell is.
    let h = c.in-Ok-Ask.ensures in
    let run = c.advance.new.self in
    let same : c.in-Err-make.end ≡ Outside cell = cc in
    unlent_for c.args.run.now run c.args.log.now.entries (g.S.Store.seen c.args.store.now) c.in-Ok-Ask.access h.stays h.past
    (asks_access run c.in-Ok-Ask.field-0 c.in-Ok-Ask.access c.in-Ok-Ask.field-0-is h.promise) cell (c.in-Err-make.ensures.outside cell (ap Err same))

pub returns-in-Err-reply-clause-back : goal.returns-in-Err-reply-clause-back
returns-in-Err-reply-clause-back g c =
    let h = c.in-Ok-Ask.ensures in
    let run = c.advance.new.self in
    back_from c.args.run.now run c.args.log.now.entries (g.S.Store.seen c.args.store.now) c.in-Ok-Ask.access h.stays h.past
    (asks_access run c.in-Ok-Ask.field-0 c.in-Ok-Ask.access c.in-Ok-Ask.field-0-is h.promise) c.in-Ok.reply c.make.new.log.entries (g.S.Store.seen c.make.new.store) c.in-Ok.ensures.made c.make.ensures.stays

pub returns-clause-goes : goal.returns-clause-goes
returns-clause-goes g c =
    let h = c.in-Ok-Ask.ensures in
    let run = c.advance.new.self in
    goes_on c.args.run.now run c.args.log.now.entries (g.S.Store.seen c.args.store.now) c.in-Ok-Ask.access h.stays h.past
    (asks_access run c.in-Ok-Ask.field-0 c.in-Ok-Ask.access c.in-Ok-Ask.field-0-is h.promise) c.in-Ok.reply c.make.new.log.entries (g.S.Store.seen c.make.new.store) c.in-Ok.ensures.made c.make.ensures.stays
    c.reply.new.self c.in-Ok-reply.ensures.stays
    (c.in-Ok-reply.ensures.past c.in-Ok-Ask.access (waits_for run c.in-Ok-Ask.field-0 c.in-Ok-Ask.access c.in-Ok-Ask.field-0-is h.asks))
