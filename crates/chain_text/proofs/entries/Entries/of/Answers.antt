-- By the contract of the first that is left.
use Rattle.std.proofs.Common.{drop, sym, ap, ◌∙◌}
use Rattle.chain_text.proofs.EntriesLeft.{cell_first, earlier_passed, entry_first, entry_found, found_all, other_passed, own_taken, then_passed}
use Rattle.chain_text.proofs.entries.Entries.of.Goals as goal
use Rattle.chain_text.proofs.entries.Entries.of.Goals.{in-Entry+in-Equal+in_ok-copy-in-Equal+in_ok-copy-in-Equal-2+in_ok-push-in-Equal, in-Entry+in-Less, in_default-cell}

pub returns-in-Greater-clause-found : goal.returns-in-Greater-clause-found
returns-in-Greater-clause-found c =
    let left = c.loop-row.self in
    let row = c.in-Some.row.now in
    found_all c.args.address.now c.args.self.now left (drop 1 left) c.in-Entry.contract c.in-Entry.place c.in-Entry.key row.1 c.loop-row.found.items
    (entry_first left (drop 1 left) row c.cell.result.now c.in-Entry.contract c.in-Entry.place c.in-Entry.key c.in-Some.ensures c.cell.ensures c.in-Entry.is) (sym c.cmp.ensures ∙ c.in-Greater.is) c.loop-row.invariant

pub loop-row-preserved : goal.loop-row-preserved
loop-row-preserved c =
    let a = c.args.address.now in
    let all = c.args.self.now in
    let left = c.loop-row.self in
    let rest = drop 1 c.loop-row.self in
    let row = c.in-Some.row.now in
    let found = c.loop-row.found.items in
    elim c.match-cell.branch [
      | in-Entry+in-Equal+in_ok-copy-in-Equal+in_ok-copy-in-Equal-2+in_ok-push-in-Equal w ↦
          let first = entry_first left rest row c.cell.result.now w.in-Entry.contract w.in-Entry.place w.in-Entry.key c.in-Some.ensures c.cell.ensures w.in-Entry.is in
          let more = entry_found found w.push.new.self.items w.in-Entry.place w.in-Entry.key w.in_ok-copy-in-Equal.field-0 row.1 w.in_ok-copy-in-Equal-2.field-0
          w.in_ok-push-in-Equal.ensures.items w.in_ok-copy-in-Equal.ensures (w.in_ok-copy-in-Equal-2.ensures ∙ w.value.ensures) in
          then_passed a all rest c.pass.new.self w.push.new.self.items c.match-cell.found.items c.pass.ensures (ap (λ v. v.items) w.found-is)
          (own_taken a all left rest w.in-Entry.contract w.in-Entry.place w.in-Entry.key row.1 found w.push.new.self.items first (sym w.cmp.ensures ∙ w.in-Equal.is) more c.loop-row.invariant)
      | in-Entry+in-Less w ↦
          let first = entry_first left rest row c.cell.result.now w.in-Entry.contract w.in-Entry.place w.in-Entry.key c.in-Some.ensures c.cell.ensures w.in-Entry.is in
          then_passed a all rest c.pass.new.self found c.match-cell.found.items c.pass.ensures (ap (λ v. v.items) w.found-is)
          (earlier_passed a all left rest w.in-Entry.contract w.in-Entry.place w.in-Entry.key row.1 found first (sym w.cmp.ensures ∙ w.in-Less.is) c.loop-row.invariant)
      | in_default-cell w ↦
          then_passed a all rest c.pass.new.self found c.match-cell.found.items c.pass.ensures (ap (λ v. v.items) w.found-is)
          (other_passed a all left rest c.cell.result.now row.1 found (cell_first left rest row c.cell.result.now c.in-Some.ensures c.cell.ensures) w.in_default-cell.not-Entry c.loop-row.invariant)
    ]
