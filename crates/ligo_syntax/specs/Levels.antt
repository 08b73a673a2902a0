-- The levels of expressions as the code names them.
use Rattle.ligo_syntax.specs.declared.level.Level.{Level}
use Rattle.ligo_syntax.specs.declared.level.Level.TheVariants as level
use Rattle.ligo_syntax.specs.AtomGrammar.{Form, Whole, Part, Condition, Disjunction, Conjunction, Comparison, Joined, Consed, Sum, Product, Unary, Application, Atom}

-- the form of a level
abbrev pub form_of : Level → Form
form_of level.Whole = Whole
form_of level.Part = Part
form_of level.Condition = Condition
form_of level.Disjunction = Disjunction
form_of level.Conjunction = Conjunction
form_of level.Comparison = Comparison
form_of level.Joined = Joined
form_of level.Consed = Consed
form_of level.Sum = Sum
form_of level.Product = Product
form_of level.Unary = Unary
form_of level.Application = Application
form_of level.Atom = Atom
