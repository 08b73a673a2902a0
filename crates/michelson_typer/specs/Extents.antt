-- What typing asks of a type as a whole: its size, up to one beyond the limits, and its kind.
use Rattle.std.specs.Prelude.{◌+◌, Bool, true, false, ◌&&◌, max, min, nat_le}
use Rattle.value_core.specs.declared.ty.Ty.{Ty}
use Rattle.value_core.specs.Depth.{depth_of_type}
use Rattle.value_core.specs.Kinds.{is_comparable, is_passable}
use Rattle.value_core.specs.Nodes.{nodes_of}
use Rattle.michelson_code.specs.declared.operands.Level.{Level}
use Rattle.michelson_code.specs.declared.operands.Level.TheVariants as level
use Rattle.michelson_typer.specs.declared.extent.Extent.{Extent}

-- the extent of a type
abbrev pub extent_of : Ty → Extent
extent_of t = record {
  nodes = min (nodes_of t) 16385;
  depth = min (depth_of_type t) 129;
  comparable = is_comparable t;
  passable = is_passable t;
}

-- at most 16,384 nodes, and at most 128 deep
abbrev pub is_light : Extent → Bool
is_light e = nat_le e.nodes 16384 && nat_le e.depth 128

-- a type without parts
abbrev pub scalar : Bool → Extent
scalar plain = record { nodes = 1; depth = 1; comparable = plain; passable = plain }

-- a type over one part
abbrev pub over : Extent → Bool → Bool → Extent
over part comparable passable = record {
  nodes = min (part.nodes + 1) 16385;
  depth = min (part.depth + 1) 129;
  comparable = comparable && part.comparable;
  passable = passable && part.passable;
}

-- a type over two parts
abbrev pub over_two : Extent → Extent → Bool → Bool → Extent
over_two first last comparable passable = record {
  nodes = min (first.nodes + last.nodes + 1) 16385;
  depth = min (max first.depth last.depth + 1) 129;
  comparable = comparable && (first.comparable && last.comparable);
  passable = passable && (first.passable && last.passable);
}

-- a type with such a level, by the extents of its parts
abbrev pub level_extent : {P : Type 0} → (P → Extent) → Level P → Extent
level_extent e (level.Option p) = over (e p) true true
level_extent e (level.Or p q) = over_two (e p) (e q) true true
level_extent e (level.Pair p q) = over_two (e p) (e q) true true
level_extent e (level.List p) = over (e p) false true
level_extent e (level.Set p) = over (e p) false true
level_extent e (level.Map p q) = over_two (e p) (e q) false true
level_extent e (level.BigMap p q) = over_two (e p) (e q) false false
level_extent e (level.Contract p) = over (e p) false false
level_extent e level.Operation = scalar false
level_extent e _ = scalar true
