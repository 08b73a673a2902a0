-- How deep trees are: a node is one deeper than its deepest part, and 1 deep without parts. Types,
-- patterns and expressions keep their depth; Trees says it where each is made.
use Rattle.std.specs.Prelude.{ℕ, ◌+◌, max, List, map, Option, Some, None}
use Rattle.value_core.specs.Depth.{greatest}
use Rattle.ligo_syntax.specs.declared.type_expr.TypeExpr.{TypeExpr}
use Rattle.ligo_syntax.specs.declared.pattern.Pattern.{Pattern}
use Rattle.ligo_syntax.specs.declared.expr.ArmForm.{ArmForm}
use Rattle.ligo_syntax.specs.declared.expr.ArmForm.TheVariants as arm
use Rattle.ligo_syntax.specs.declared.expr.ArmPattern.{ArmPattern}
use Rattle.ligo_syntax.specs.declared.expr.Arm.{Arm}
use Rattle.ligo_syntax.specs.declared.expr.Expr.{Expr}
use Rattle.ligo_syntax.specs.declared.expr.ValueField.{ValueField}
use Rattle.ligo_syntax.specs.declared.program.Definition.{Definition}
use Rattle.ligo_syntax.specs.declared.program.Definition.TheVariants as definition
use Rattle.ligo_syntax.specs.declared.program.ParamForm.{ParamForm}
use Rattle.ligo_syntax.specs.declared.program.ParamForm.TheVariants as param
use Rattle.ligo_syntax.specs.declared.program.Param.{Param}
use Rattle.ligo_syntax.specs.declared.program.Decl.{Decl}
use Rattle.ligo_syntax.specs.declared.program.Decl.TheVariants as decl

-- of what may be left out
abbrev pub if_there : {A : Type 0} → (A → ℕ) → Option A → ℕ
if_there depth None = 0
if_there depth (Some a) = depth a

-- of the deepest of several
abbrev pub deepest : {A : Type 0} → (A → ℕ) → List A → ℕ
deepest depth all = greatest (map depth all)

-- a type, a pattern and an expression keep their depth
abbrev pub type_depth : TypeExpr → ℕ
type_depth t = t.depth

-- a pattern
abbrev pub pattern_depth : Pattern → ℕ
pattern_depth p = p.depth

-- an expression
abbrev pub expr_depth : Expr → ℕ
expr_depth e = e.depth

-- the pattern of an arm
abbrev pub arm_form_depth : ArmForm → ℕ
arm_form_depth (arm.Constructor word part) = 1 + if_there pattern_depth part
arm_form_depth form = 1

-- the pattern of an arm
abbrev pub arm_pattern_depth : ArmPattern → ℕ
arm_pattern_depth p = arm_form_depth p.form

-- an arm
abbrev pub arm_depth : Arm → ℕ
arm_depth a = 1 + max (arm_pattern_depth a.pattern) a.body.depth

-- a field: it is no node
abbrev pub field_depth : ValueField → ℕ
field_depth f = f.value.depth

-- what a type is declared as: what writes out fields or cases is a node
abbrev pub definition_depth : Definition → ℕ
definition_depth (definition.Type t) = type_depth t
definition_depth (definition.Record at fields) = 1 + deepest (λ f. type_depth f.of) fields
definition_depth (definition.Variant at cases) = 1 + deepest (λ c. if_there type_depth c.part) cases

-- what a parameter is
abbrev pub param_form_depth : ParamForm → ℕ
param_form_depth param.Unit = 1
param_form_depth (param.Typed p t) = 1 + max (pattern_depth p) (type_depth t)

-- a parameter
abbrev pub param_depth : Param → ℕ
param_depth p = param_form_depth p.form

-- a declaration
abbrev pub decl_depth : Decl → ℕ
decl_depth (decl.Type d) = 1 + definition_depth d.definition
decl_depth (decl.Value d) =
    1 + max (deepest param_depth d.params) (max (if_there type_depth d.result) (expr_depth d.body))

-- a program, of its declarations
abbrev pub program_depth : List Decl → ℕ
program_depth decls = 1 + deepest decl_depth decls
