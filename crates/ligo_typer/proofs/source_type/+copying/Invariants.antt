-- What has been copied so far is the front of the list.
use Rattle.std.proofs.Common.{◌≡◌, take}
use Rattle.ligo_typer.proofs.source_type.+copying.Given as goal

abbrev pub invariant-copy_all-loop-part : goal.invariant-copy_all-loop-part
invariant-copy_all-loop-part l = l.made ≡ take l.part-index l.parts

abbrev pub invariant-copy_fields-loop-field : goal.invariant-copy_fields-loop-field
invariant-copy_fields-loop-field l = l.made ≡ take l.field-index l.fields

abbrev pub invariant-copy_cases-loop-case : goal.invariant-copy_cases-loop-case
invariant-copy_cases-loop-case l = l.made ≡ take l.case-index l.cases
