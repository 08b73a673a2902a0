use Rattle.ligo_typer.proofs.ProgramLaws.{one_place}
use Rattle.ligo_typer.proofs.laws.faults_have_one_declaration.Goals as goal

pub returns : goal.returns
returns c = one_place
