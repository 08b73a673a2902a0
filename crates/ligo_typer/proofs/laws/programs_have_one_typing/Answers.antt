use Rattle.ligo_typer.proofs.ProgramLaws.{typed_once, typed_unbroken}
use Rattle.ligo_typer.proofs.laws.programs_have_one_typing.Goals as goal

pub returns-clause-one : goal.returns-clause-one
returns-clause-one c = typed_once

pub returns-clause-either : goal.returns-clause-either
returns-clause-either c = typed_unbroken
