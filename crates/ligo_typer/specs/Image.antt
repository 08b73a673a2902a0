-- The image of a source type: the type of Michelson that stands for it.
use Rattle.std.specs.Option.{option_map}
use Rattle.std.specs.Prelude.{List, None, Option, Some, [], map, ℕ, ◌∷◌}
use Rattle.value_core.specs.declared.ty.Ty.{Ty}
use Rattle.value_core.specs.declared.ty.Ty.TheVariants as type
use Rattle.ligo_typer.specs.declared.source_type.SrcTy.{SrcTy}
use Rattle.ligo_typer.specs.declared.source_type.SrcTy.TheFolds.{fold-SrcTy}
use Rattle.ligo_typer.specs.declared.source_type.SrcTy.TheOpen as ty
use Rattle.ligo_typer.specs.declared.source_type.SrcTy.TheOpen.{SrcTy-F}

-- one is itself, more are joined from the right
abbrev pub comb_from : (Ty → Ty → Ty) → Ty → List Ty → Ty
comb_from join t [] = t
comb_from join t (u ∷ us) = join t (comb_from join u us)

-- the same of a list, which isn't empty
abbrev pub right_comb : (Ty → Ty → Ty) → List Ty → Ty
right_comb join [] = type.Unit
right_comb join (t ∷ ts) = comb_from join t ts

-- a case without a part has unit
abbrev pub part_image : Option Ty → Ty
part_image None = type.Unit
part_image (Some t) = t

-- one level of a source type, by the images of its parts
abbrev pub image_level : SrcTy-F Ty → Ty
image_level ty.Int = type.Int
image_level ty.Nat = type.Nat
image_level ty.Tez = type.Mutez
image_level ty.Text = type.Text
image_level ty.Bytes = type.Bytes
image_level ty.Bool = type.Bool
image_level ty.Unit = type.Unit
image_level ty.Addr = type.Addr
image_level ty.Time = type.Time
image_level ty.Operation = type.Operation
image_level (ty.Option t) = type.Option t
image_level (ty.List t) = type.List t
image_level (ty.Contract t) = type.Contract t
image_level (ty.Map k v) = type.Map k v
image_level (ty.BigMap k v) = type.BigMap k v
image_level (ty.Tuple ts) = right_comb type.Pair ts
image_level (ty.Record fields) = right_comb type.Pair (map (λ f. f.1) fields)
image_level (ty.Variant cases) = right_comb type.Or (map (λ c. part_image c.1) cases)

abbrev pub ty_image : SrcTy → Ty
ty_image = fold-SrcTy Ty image_level

-- the image of a field's type
abbrev pub field_image : List ℕ × SrcTy → Ty
field_image f = ty_image f.1

-- the image of a case's part
abbrev pub case_image : List ℕ × Option SrcTy → Ty
case_image c = part_image (option_map ty_image c.1)
