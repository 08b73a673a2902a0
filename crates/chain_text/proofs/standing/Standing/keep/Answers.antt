-- The storage first, and then the entries.
use Rattle.chain_text.proofs.KeptEntries.{entries_free, stored_now, stored_still}
use Rattle.chain_text.proofs.standing.Standing.keep.Goals as goal

pub put-requires-clause-seen : goal.put-requires-clause-seen
put-requires-clause-seen c = stored_now c.args.self.now c.mark_stored.new.self c.args.address c.in_ok-mark_stored.ensures

pub keep_entries-requires-clause-stored : goal.keep_entries-requires-clause-stored
keep_entries-requires-clause-stored c = stored_still c.args.self.now c.mark_stored.new.self c.put.new.self c.args.address c.args.kept.0 c.in_ok-mark_stored.ensures c.in_ok-put.ensures

pub keep_entries-requires-clause-free : goal.keep_entries-requires-clause-free
keep_entries-requires-clause-free c =
    entries_free c.args.self.now c.mark_stored.new.self c.put.new.self c.args.address c.args.kept.0 c.args.kept.1.items c.in_ok-mark_stored.ensures c.in_ok-put.ensures c.requires.entries
