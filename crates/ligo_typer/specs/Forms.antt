-- How each form of an expression is typed: one line a form.
use Rattle.std.specs.Prelude.{List, []}
use Rattle.ligo_syntax.specs.declared.expr.Arm.{Arm}
use Rattle.ligo_syntax.specs.declared.expr.Expr.{Expr}
use Rattle.ligo_syntax.specs.declared.expr.ExprForm.{ExprForm}
use Rattle.ligo_syntax.specs.declared.expr.ExprForm.TheOpen as expr
use Rattle.ligo_syntax.specs.declared.expr.ExprForm.TheOpen.{ExprForm-F}
use Rattle.ligo_syntax.specs.declared.expr.ExprForm.TheViews.{out-ExprForm}
use Rattle.ligo_syntax.specs.declared.expr.ValueField.{ValueField}
use Rattle.ligo_typer.specs.declared.fault.LigoKind.TheVariants as kind
use Rattle.ligo_typer.specs.declared.source_type.SrcTy.TheVariants as type
use Rattle.ligo_typer.specs.declared.typed_expr.TypedForm.TheVariants as form
use Rattle.ligo_typer.specs.Branches.{if_plan, let_plan, match_plan, told}
use Rattle.ligo_typer.specs.Calls.{call_plan, constructor_plan, library_call}
use Rattle.ligo_typer.specs.Leaves.{library_plan, literal_plan, name_plan}
use Rattle.ligo_typer.specs.Libraries.{library_of}
use Rattle.ligo_typer.specs.Operators.{binary_plan, negate_plan}
use Rattle.ligo_typer.specs.Plans.{Gives, Part, Plan, alone, ask, expecting, instead, wrong}
use Rattle.ligo_typer.specs.Records.{field_plan, record_plan, with_plan}
use Rattle.ligo_typer.specs.Scopes.{Known, meaning_of}
use Rattle.ligo_typer.specs.Shapes.{case_of}
use Rattle.ligo_typer.specs.Tuples.{list_plan, part_plan, tuple_plan}

module _ (known : Known) (p : Part) where
  -- by what stands before the arguments
  abbrev pub apply_plan : Expr → List Expr → ExprForm-F ExprForm Arm Expr ValueField → Plan
  apply_plan f es (expr.Name word) = call_plan p f.at es (meaning_of p.scope word)
  apply_plan f es (expr.Library upper lower) = library_call p f.at es (library_of upper lower)
  apply_plan f es (expr.Constructor word) = constructor_plan p f.at es (case_of known p.expected word)
  apply_plan f es _ = ask (alone p f) (λ x. wrong p kind.Mismatch)

  abbrev pub same_plan : Part → Plan
  same_plan q = ask q (λ x. Gives x.of x.form)

  abbrev pub form_plan : ExprForm-F ExprForm Arm Expr ValueField → Plan
  form_plan (expr.Let q t e f) = let_plan known p q t e f
  form_plan (expr.Match e arms) = match_plan known p e arms
  form_plan (expr.If c a b) = if_plan known p c a b
  form_plan (expr.Tuple es) = tuple_plan p es
  form_plan (expr.Binary o a b) = binary_plan p o a b
  form_plan (expr.Negate e) = negate_plan p e
  form_plan (expr.Apply f es) = apply_plan f es (out-ExprForm f.form)
  form_plan (expr.Field e name) = field_plan known p e name
  form_plan (expr.Part e n) = part_plan p e n
  form_plan (expr.Name word) = name_plan p word (meaning_of p.scope word)
  form_plan (expr.Library upper lower) = library_plan p (library_of upper lower)
  form_plan (expr.Constructor word) = constructor_plan p p.expr.at [] (case_of known p.expected word)
  form_plan (expr.Literal l) = literal_plan p l
  form_plan expr.Unit = Gives type.Unit form.Unit
  form_plan (expr.Brackets e) = same_plan (instead p [] e)
  form_plan (expr.Annotated e t) = told known t (λ u. same_plan (expecting u (instead p [] e)))
  form_plan (expr.List es) = list_plan p es
  form_plan (expr.Record fields) = record_plan known p fields
  form_plan (expr.With e fields) = with_plan known p e fields

-- what is typed first of a part
abbrev pub plan_of : Known → Part → Plan
plan_of known p = form_plan known p (out-ExprForm p.expr.form)
