-- What is asked of the type of every expression and pattern, by the rules of Michelson on its image.
use Rattle.std.specs.Prelude.{Bool, List, [], false, nat_le, true, ◌&&◌, ◌++◌, ◌∷◌}
use Rattle.value_core.specs.Depth.{depth_of_type}
use Rattle.value_core.specs.Nodes.{nodes_of}
use Rattle.value_core.specs.declared.ty.Ty.{Ty}
use Rattle.michelson_code.specs.WrittenTypes.{has_comparable_keys, has_passable_values}
use Rattle.ligo_typer.specs.declared.fault.LigoKind.{LigoKind}
use Rattle.ligo_typer.specs.declared.fault.LigoKind.TheVariants as kind
use Rattle.ligo_typer.specs.declared.source_type.SrcTy.{SrcTy}
use Rattle.ligo_typer.specs.Image.{ty_image}

-- at most 1,024 nodes, and at most 64 deep
abbrev pub is_narrow : Ty → Bool
is_narrow t = nat_le (nodes_of t) 1024 && nat_le (depth_of_type t) 64

-- the kind of the rule, where it is broken
abbrev pub unless : Bool → LigoKind → List LigoKind
unless true k = []
unless false k = k ∷ []

-- the rules that an image breaks
abbrev pub image_breaches : Ty → List LigoKind
image_breaches t = unless (is_narrow t) kind.TooWide
    ++ (unless (has_comparable_keys t) kind.NotComparable ++ unless (has_passable_values t) kind.BigMapPlace)

-- the rules that a type breaks
abbrev pub type_breaches : SrcTy → List LigoKind
type_breaches t = image_breaches (ty_image t)
