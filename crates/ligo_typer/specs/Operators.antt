-- Operators: how they are typed.
use Rattle.std.specs.Prelude.{if◌then◌else◌}
use Rattle.value_core.specs.Kinds.{is_comparable}
use Rattle.ligo_syntax.specs.declared.expr.Expr.{Expr}
use Rattle.ligo_syntax.specs.declared.expr.Operator.{Operator}
use Rattle.ligo_syntax.specs.declared.expr.Operator.TheVariants as operator
use Rattle.ligo_typer.specs.declared.fault.LigoKind.TheVariants as kind
use Rattle.ligo_typer.specs.declared.source_type.SrcTy.{SrcTy}
use Rattle.ligo_typer.specs.declared.source_type.SrcTy.TheVariants as type
use Rattle.ligo_typer.specs.declared.typed_expr.TypedForm.TheVariants as form
use Rattle.ligo_typer.specs.Image.{ty_image}
use Rattle.ligo_typer.specs.Plans.{Gives, Part, Plan, against, alone, ask, ask_two, by_found, wrong}
use Rattle.ligo_typer.specs.Sorts.{arithmetic_type, negated_type, sort_of}
use Rattle.ligo_typer.specs.Tuples.{cons_plan}

module _ (p : Part) where
  abbrev pub both_plan : SrcTy → Operator → Expr → Expr → Plan
  both_plan t o a b = ask_two (against p t a) (against p t b) (λ x y. Gives t (form.Binary o x y))

  -- the right against the left, which is comparable
  abbrev pub comparison_plan : Operator → Expr → Expr → Plan
  comparison_plan o a b = ask (alone p a) (λ x. if is_comparable (ty_image x.of)
      then ask (against p x.of b) (λ y. Gives type.Bool (form.Binary o x y)) else wrong p kind.Mismatch)

  abbrev pub arithmetic_plan : Operator → Expr → Expr → Plan
  arithmetic_plan o a b = ask_two (alone p a) (alone p b) (λ x y.
      by_found p (λ t. Gives t (form.Binary o x y)) (arithmetic_type o (sort_of x.of) (sort_of y.of)))

  abbrev pub binary_plan : Operator → Expr → Expr → Plan
  binary_plan operator.Or = both_plan type.Bool operator.Or
  binary_plan operator.And = both_plan type.Bool operator.And
  binary_plan operator.Equal = comparison_plan operator.Equal
  binary_plan operator.Unequal = comparison_plan operator.Unequal
  binary_plan operator.Less = comparison_plan operator.Less
  binary_plan operator.Greater = comparison_plan operator.Greater
  binary_plan operator.AtMost = comparison_plan operator.AtMost
  binary_plan operator.AtLeast = comparison_plan operator.AtLeast
  binary_plan operator.Join = both_plan type.Text operator.Join
  binary_plan operator.Cons = cons_plan p
  binary_plan o = arithmetic_plan o

  abbrev pub negate_plan : Expr → Plan
  negate_plan e = ask (alone p e) (λ x. by_found p (λ t. Gives t (form.Negate x)) (negated_type (sort_of x.of)))
