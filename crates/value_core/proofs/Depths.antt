-- The depths of lists, sets and maps, by what they hold.
use Rattle.std.proofs.Common.{◌≡◌, ℕ, ◌+◌, List, map, sym, ap, ◌∙◌}
use Rattle.value_core.specs.declared.val.Val.{Val}
use Rattle.value_core.specs.declared.val.Val.TheVariants as variant
use Rattle.value_core.specs.declared.val.Val.TheVariants.{rolls-List, rolls-Set, rolls-Map}
use Rattle.value_core.specs.declared.val.Val.TheViews.{roll-Val}
use Rattle.value_core.specs.declared.val.Val.TheOpen as one
use Rattle.value_core.specs.Layer.{Layer, flat, parts_of}
use Rattle.value_core.specs.Depth.{depth_of, greatest}
use Rattle.value_core.proofs.Levels.{by_level-roll, parts_of-on_parts}

depth_roll : (x : Layer Val) → depth_of (roll-Val x) ≡ 1 + greatest (map depth_of (parts_of x))
depth_roll x = by_level-roll {A = ℕ} (λ x. 1 + greatest (parts_of x)) x ∙ ap (λ ns. 1 + greatest ns) (parts_of-on_parts depth_of x)

pub depth_list : (vs : List Val) → depth_of (variant.List vs) ≡ 1 + greatest (map depth_of vs)
depth_list vs = ap depth_of (sym (rolls-List vs)) ∙ depth_roll (one.List vs)

pub depth_set : (vs : List Val) → depth_of (variant.Set vs) ≡ 1 + greatest (map depth_of vs)
depth_set vs = ap depth_of (sym (rolls-Set vs)) ∙ depth_roll (one.Set vs)

pub depth_map : (es : List (Val × Val)) → depth_of (variant.Map es) ≡ 1 + greatest (map depth_of (flat es))
depth_map es = ap depth_of (sym (rolls-Map es)) ∙ depth_roll (one.Map es)

pub ruleset depths = (depth_list, depth_set, depth_map)
