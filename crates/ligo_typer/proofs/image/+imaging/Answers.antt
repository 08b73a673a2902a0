-- Records and variants, level by level.
use Rattle.std.proofs.Common.{rules}
use Rattle.ligo_typer.proofs.ImageLaws.{image_record, image_variant}
use Rattle.ligo_typer.proofs.image.+imaging.Goals as goal

pub ty_image-returns-in_ok-field_images-in-Record : goal.ty_image-returns-in_ok-field_images-in-Record
ty_image-returns-in_ok-field_images-in-Record t c = search (rules, image_record)

pub ty_image-returns-in_ok-case_images-in-Variant : goal.ty_image-returns-in_ok-case_images-in-Variant
ty_image-returns-in_ok-case_images-in-Variant t c = search (rules, image_variant)
