-- The images so far are those of the front of the list.
use Rattle.std.proofs.Common.{◌≡◌, take}
use Rattle.std.specs.Prelude.{map}
use Rattle.ligo_typer.specs.Image.{case_image, field_image, ty_image}
use Rattle.ligo_typer.proofs.image.+imaging.Given as goal

abbrev pub invariant-part_images-loop-part : goal.invariant-part_images-loop-part
invariant-part_images-loop-part l = l.made ≡ map ty_image (take l.part-index l.parts)

abbrev pub invariant-field_images-loop-field : goal.invariant-field_images-loop-field
invariant-field_images-loop-field l = l.made ≡ map field_image (take l.field-index l.fields)

abbrev pub invariant-case_images-loop-case : goal.invariant-case_images-loop-case
invariant-case_images-loop-case l = l.made ≡ map case_image (take l.case-index l.cases)
