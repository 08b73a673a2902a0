-- Trees of declarations, made of what the rules give.
use Rattle.std.specs.Prelude.{ℕ, Bool, true, false, List, [], ◌∷◌, map, Option, Some, None}
use Rattle.ligo_tokens.specs.declared.token.Token.{Token}
use Rattle.ligo_tokens.specs.declared.token.Kind.{Kind}
use Rattle.ligo_tokens.specs.declared.token.Kind.TheVariants as kind
use Rattle.ligo_syntax.specs.declared.type_expr.TypeExpr.{TypeExpr}
use Rattle.ligo_syntax.specs.declared.pattern.Pattern.{Pattern}
use Rattle.ligo_syntax.specs.declared.expr.Expr.{Expr}
use Rattle.ligo_syntax.specs.declared.program.TypeField.{TypeField}
use Rattle.ligo_syntax.specs.declared.program.TypeCase.{TypeCase}
use Rattle.ligo_syntax.specs.declared.program.Definition.{Definition}
use Rattle.ligo_syntax.specs.declared.program.Definition.TheVariants as definition
use Rattle.ligo_syntax.specs.declared.program.Param.{Param}
use Rattle.ligo_syntax.specs.declared.program.ParamForm.{ParamForm}
use Rattle.ligo_syntax.specs.declared.program.ParamForm.TheVariants as param
use Rattle.ligo_syntax.specs.declared.program.Attribute.{Attribute}
use Rattle.ligo_syntax.specs.declared.program.Attribute.TheVariants as attribute
use Rattle.ligo_syntax.specs.declared.program.Decl.{Decl}
use Rattle.ligo_syntax.specs.declared.program.Decl.TheVariants as decl
use Rattle.ligo_syntax.specs.declared.program.Program.{Program}
use Rattle.ligo_syntax.specs.Said.{name_of}

-- a field of a record type
abbrev pub type_field : Token × TypeExpr → TypeField
type_field (t, of) = record { name = name_of t; of = of }

-- a case of a variant type
abbrev pub type_case : Token × Option TypeExpr → TypeCase
type_case (t, part) = record { name = name_of t; part = part }

-- fields in braces
abbrev pub record_type : ℕ × List TypeField → Definition
record_type (at, fields) = definition.Record at fields

-- a variant begins at its bar, or else at its first constructor
abbrev pub first_place : Option Token → TypeCase → ℕ
first_place None c = c.name.at
first_place (Some bar) c = bar.at

-- cases behind bars
abbrev pub variant_type : Option Token × (TypeCase × List TypeCase) → Definition
variant_type (bar, (c, more)) = definition.Variant (first_place bar c) (c ∷ more)

-- `()`, or a pattern and its type
abbrev pub param_form : Option (Pattern × TypeExpr) → ParamForm
param_form None = param.Unit
param_form (Some (p, t)) = param.Typed p t

-- a parameter
abbrev pub param_of : ℕ × Option (Pattern × TypeExpr) → Param
param_of (at, inner) = record { at = at; form = param_form inner }

-- the attribute that a token writes
abbrev pub attribute_of : Kind → Attribute
attribute_of kind.Entry = attribute.Entry
attribute_of k = attribute.Inline

-- whether something is there
abbrev pub is_there : {A : Type 0} → Option A → Bool
is_there None = false
is_there (Some a) = true

-- a declaration begins at its first mark, or else at its word
abbrev pub first_of : List Token → Token → ℕ
first_of [] word = word.at
first_of (mark ∷ marks) word = mark.at

-- a name and what it is declared as
abbrev pub type_decl : ℕ × (Token × Definition) → Decl
type_decl (at, (t, d)) = decl.Type (record { at = at; name = name_of t; definition = d })

-- attributes, name, parameters, type and body
abbrev pub value_decl : List Token × (Token × (Option Token × (Token × (List Param × (Option TypeExpr × Expr))))) → Decl
value_decl (marks, (word, (again, (t, (params, (result, body)))))) = decl.Value (record {
  at = first_of marks word;
  attributes = map (λ (m : Token). attribute_of m.kind) marks;
  recursive = is_there again;
  name = name_of t;
  params = params;
  result = result;
  body = body;
})

-- a program of its declarations, in a text so long
abbrev pub program_of : ℕ → List Decl → Program
program_of end decls = record { decls = decls; end = end }
