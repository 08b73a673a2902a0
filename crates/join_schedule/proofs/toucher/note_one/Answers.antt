-- The touch stands behind those of its cell, and no other cell changes.
use Rattle.std.proofs.Common.{◌≡◌, ℕ, List, ◌++◌, ◌∷◌, [], Option, Some, cond, ap, subst, ◌∙◌}
use Rattle.std.specs.Prelude.{unwrap_or}
use Rattle.std.specs.Global.{Vec}
use Rattle.std.specs.BTreeMap.{get}
use Rattle.std.specs.Ordering.{eq_by_cmp}
use Rattle.cell_names.specs.declared.cell.Cell.{Cell}
use Rattle.cell_names.specs.declared.mode.Mode.{Mode}
use Rattle.cell_names.specs.Cells.{cell_cmp}
use Rattle.join_schedule.proofs.Noted.{noted, none_items}
use Rattle.join_schedule.proofs.toucher.note_one.Goals as goal

pub returns : goal.returns
returns c =
    noted (get cell_cmp c.args.touchers.now) (get cell_cmp c.remove.new.self) (get cell_cmp c.insert.new.self) c.args.cell.now c.args.touch c.push.new.self
    (λ q. c.remove.ensures.updates.0 q)
    (subst (λ (k : Cell). (q : Cell) → get cell_cmp c.insert.new.self q ≡ cond (eq_by_cmp cell_cmp k q) (Some c.push.new.self) (get cell_cmp c.remove.new.self q)) c.in_ok-copy.ensures (λ q. c.in_ok-insert.ensures.updates.0 q))
    (c.in_ok-push.ensures.items ∙ ap (λ (l : List (ℕ × Mode)). l ++ c.args.touch ∷ [])
    (none_items (get cell_cmp c.args.touchers.now c.args.cell.now) c.new.result c.unwrap_or-touches.result c.new.ensures.items (c.unwrap_or-touches.ensures ∙ ap (λ (o : Option (Vec (ℕ × Mode))). unwrap_or o c.new.result) c.remove.ensures.value)))
