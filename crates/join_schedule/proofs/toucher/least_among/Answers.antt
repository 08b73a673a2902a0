-- One touch more may be by a lesser operation.
use Rattle.std.proofs.Common.{◌≡◌, ℕ, List, length, get_or, take, ◌+◌, ◌<◌, true, false, Bool, sym, ◌∙◌, Option, Some}
use Rattle.std.proofs.lemmas.List.{get_or_default}
use Rattle.cell_names.specs.declared.mode.Mode.{Mode}
use Rattle.join_schedule.specs.Touchers.{least_apart, least_with, is_apart}
use Rattle.join_schedule.proofs.Least.{least_apart-apart, least_apart-other}
use Rattle.join_schedule.proofs.toucher.least_among.Goals as goal
use Rattle.join_schedule.proofs.toucher.least_among.Goals.{then-apart, else-apart}

more : (row : List Bool) (m : Mode) (ts : List (ℕ × Mode)) (k : ℕ) (d : ℕ × Mode) (known : Option ℕ) (least : ℕ) → k < length ts → known ≡ least_apart row m (take k ts) → true ≡ is_apart row m (get_or ts k d) → Some least ≡ least_with (get_or ts k d).0 known →
    Some least ≡ least_apart row m (take (k + 1) ts)
more row m ts k d known least lt so_far on new = least_apart-apart row m ts k lt (get_or ts k d) (get_or_default ts k d (get_or ts k d) lt) known least so_far (sym on) new

same : (row : List Bool) (m : Mode) (ts : List (ℕ × Mode)) (k : ℕ) (d : ℕ × Mode) (known : Option ℕ) → k < length ts → known ≡ least_apart row m (take k ts) → false ≡ is_apart row m (get_or ts k d) → known ≡ least_apart row m (take (k + 1) ts)
same row m ts k d known lt so_far off = least_apart-other row m ts k lt (get_or ts k d) (get_or_default ts k d (get_or ts k d) lt) known so_far (sym off)

pub loop-touch-preserved : goal.loop-touch-preserved
loop-touch-preserved c =
    elim c.if-apart.branch [
      | then-apart w ↦ w.least-is ∙ more c.args.row.now c.args.mode c.args.touches.now c.loop-touch.touch-index _ c.loop-touch.least w.lesser.result c.loop-touch-test.true c.loop-touch.invariant w.if-apart.ensures w.lesser.ensures
      | else-apart w ↦ w.least-is ∙ same c.args.row.now c.args.mode c.args.touches.now c.loop-touch.touch-index _ c.loop-touch.least c.loop-touch-test.true c.loop-touch.invariant w.if-apart.ensures
    ]
