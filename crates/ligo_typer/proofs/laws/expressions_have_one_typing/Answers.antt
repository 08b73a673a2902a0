use Rattle.ligo_typer.proofs.Unique.{unbroken, unique}
use Rattle.ligo_typer.proofs.laws.expressions_have_one_typing.Goals as goal

pub returns-clause-one : goal.returns-clause-one
returns-clause-one c = λ known p x y typed typed'. unique known typed typed'

pub returns-clause-either : goal.returns-clause-either
returns-clause-either c = λ known p x f typed broken. unbroken known typed broken
