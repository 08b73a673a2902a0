-- The grammar: which tokens make up a program, and which tree it has. One definition a production of
-- docs/LANGUAGE.md, in its order from the inside out: TypeGrammar, AtomGrammar, OperatorGrammar,
-- ExprGrammar, and here declarations.
--
-- An arm or a `let` takes as much as it can, an `else` belongs to the nearest `if` that can have it,
-- and an upper name with a dot behind it is none alone: AsMany and IfItCan.
use Rattle.std.specs.Prelude.{ℕ, ◌≤◌, List, [], ◌∷◌, Some, None}
use Rattle.ligo_tokens.specs.declared.token.Kind.TheVariants as kind
use Rattle.ligo_syntax.specs.declared.type_expr.TypeExpr.{TypeExpr}
use Rattle.ligo_syntax.specs.declared.pattern.Pattern.{Pattern}
use Rattle.ligo_syntax.specs.declared.expr.Expr.{Expr}
use Rattle.ligo_syntax.specs.declared.program.TypeField.{TypeField}
use Rattle.ligo_syntax.specs.declared.program.TypeCase.{TypeCase}
use Rattle.ligo_syntax.specs.declared.program.Definition.{Definition}
use Rattle.ligo_syntax.specs.declared.program.Definition.TheVariants as definition
use Rattle.ligo_syntax.specs.declared.program.Param.{Param}
use Rattle.ligo_syntax.specs.declared.program.Decl.{Decl}
use Rattle.ligo_syntax.specs.Kinds.{Tokens}
use Rattle.ligo_syntax.specs.Classes.{name_kinds, attribute_kinds}
use Rattle.ligo_syntax.specs.Rules.{Rule, OneOf, Both, Made, Either, Repeated, Key, From, Closed, Optional, Parted, Listed}
use Rattle.ligo_syntax.specs.ProgramTrees.{type_field, type_case, record_type, variant_type, param_of, type_decl, value_decl}
use Rattle.ligo_syntax.specs.Depth.{program_depth}
use Rattle.ligo_syntax.specs.TypeGrammar.{IsType, IsPattern}
use Rattle.ligo_syntax.specs.AtomGrammar.{Whole}
use Rattle.ligo_syntax.specs.ExprGrammar.{IsExpr}

-- name ":" type
abbrev pub TypeFieldRule : Rule TypeExpr → Rule TypeField
TypeFieldRule T = Made type_field (Both (OneOf name_kinds) (Key kind.Colon T))

-- Ctor ["of" type]
abbrev pub TypeCaseRule : Rule TypeExpr → Rule TypeCase
TypeCaseRule T = Made type_case (Both (OneOf (kind.Upper ∷ [])) (Optional (Key kind.Of T)))

-- tydef = "{" field { ";" field } [";"] "}" | ["|"] case { "|" case } | type
abbrev pub DefinitionRule : Rule TypeExpr → Rule Definition
DefinitionRule T =
    Either (Made record_type (From kind.OpenBrace (Closed (Listed (TypeFieldRule T)) kind.CloseBrace)))
    (Either (Made variant_type (Both (Optional (OneOf (kind.Bar ∷ []))) (Parted kind.Bar (TypeCaseRule T))))
    (Made definition.Type T))

-- param = "()" | "(" pats ":" type ")"
abbrev pub ParamRule : Rule TypeExpr → Rule Pattern → Rule Param
ParamRule T P = Made param_of (From kind.OpenParen (Either
    (Made (λ t. None) (OneOf (kind.CloseParen ∷ [])))
    (Made Some (Closed (Both P (Key kind.Colon T)) kind.CloseParen))))

-- "type" name "=" tydef
abbrev pub TypeDeclRule : Rule TypeExpr → Rule Decl
TypeDeclRule T = Made type_decl (From kind.Type (Both (OneOf name_kinds) (Key kind.Equals (DefinitionRule T))))

-- { "[@entry]" | "[@inline]" } "let" ["rec"] name { param } [":" type] "=" expr
abbrev pub ValueDeclRule : Rule TypeExpr → Rule Pattern → Rule Expr → Rule Decl
ValueDeclRule T P E = Made value_decl (Both (Repeated (OneOf attribute_kinds)) (Both (OneOf (kind.Let ∷ []))
    (Both (Optional (OneOf (kind.Rec ∷ []))) (Both (OneOf name_kinds) (Both (Repeated (ParamRule T P))
    (Both (Optional (Key kind.Colon T)) (Key kind.Equals E)))))))

-- decl
abbrev pub DeclRule : Rule TypeExpr → Rule Pattern → Rule Expr → Rule Decl
DeclRule T P E = Either (TypeDeclRule T) (ValueDeclRule T P E)

-- program = { decl }
abbrev pub IsProgram : ℕ → Rule (List Decl)
IsProgram n = Repeated (DeclRule (IsType n) (IsPattern n) (IsExpr n Whole))

-- a text of the loose grammar, in which a tree may be of any depth
abbrev pub IsLooseText : Tokens → List Decl → Type 0
IsLooseText ts ds = (n : ℕ) × IsProgram n ts ds []

-- a text of the grammar
abbrev pub IsText : Tokens → List Decl → Type 0
IsText ts ds = IsLooseText ts ds × (program_depth ds ≤ 512)
