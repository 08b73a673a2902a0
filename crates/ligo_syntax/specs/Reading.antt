-- Reading declarations.
use Rattle.std.specs.Prelude.{ℕ, zero, suc, List, [], ◌∷◌, Some, None}
use Rattle.ligo_tokens.specs.declared.token.Kind.TheVariants as kind
use Rattle.ligo_syntax.specs.declared.fault.Expected.TheVariants as expected
use Rattle.ligo_syntax.specs.declared.program.TypeField.{TypeField}
use Rattle.ligo_syntax.specs.declared.program.TypeCase.{TypeCase}
use Rattle.ligo_syntax.specs.declared.program.Definition.{Definition}
use Rattle.ligo_syntax.specs.declared.program.Definition.TheVariants as definition
use Rattle.ligo_syntax.specs.declared.program.Param.{Param}
use Rattle.ligo_syntax.specs.declared.program.Decl.{Decl}
use Rattle.ligo_syntax.specs.Classes.{name_kinds, attribute_kinds, variant_firsts, definition_firsts, decl_firsts}
use Rattle.ligo_syntax.specs.Readers.{Reader, both, made, either, repeated, too_deep}
use Rattle.ligo_syntax.specs.Phrases.{key, from, closed, optional, parted, listed}
use Rattle.ligo_syntax.specs.ProgramTrees.{type_field, type_case, record_type, variant_type, param_of, type_decl, value_decl}
use Rattle.ligo_syntax.specs.AtomGrammar.{Whole}
use Rattle.ligo_syntax.specs.TypeReading.{token, read_type, read_pattern}
use Rattle.ligo_syntax.specs.ExprReading.{form_at}

-- a field of a record type
abbrev pub type_field_rule : ℕ → Reader TypeField
type_field_rule d = made type_field (both (token name_kinds) (key kind.Colon (read_type d)))

-- a case of a variant type
abbrev pub type_case_rule : ℕ → Reader TypeCase
type_case_rule d = made type_case (both (token (kind.Upper ∷ [])) (optional (kind.Of ∷ []) (key kind.Of (read_type d))))

-- fields in braces
abbrev pub record_type_rule : ℕ → Reader Definition
record_type_rule d = made record_type (from kind.OpenBrace (closed (listed name_kinds (type_field_rule d)) kind.CloseBrace))

-- cases behind bars
abbrev pub variant_type_rule : ℕ → Reader Definition
variant_type_rule d = made variant_type (both (optional (kind.Bar ∷ []) (token (kind.Bar ∷ []))) (parted (type_case_rule d) kind.Bar (type_case_rule d)))

-- what a type is declared as, at most so deep
abbrev pub definition_at : ℕ → Reader Definition
definition_at zero = too_deep expected.TypeExpr definition_firsts
definition_at (suc d) = either (kind.OpenBrace ∷ []) (record_type_rule d)
    (either variant_firsts (variant_type_rule d) (made definition.Type (read_type (suc d))))

-- a parameter, at most so deep
abbrev pub param_at : ℕ → Reader Param
param_at zero = too_deep expected.Token (kind.OpenParen ∷ [])
param_at (suc d) = made param_of (from kind.OpenParen (either (kind.CloseParen ∷ [])
    (made (λ t. None) (token (kind.CloseParen ∷ [])))
    (made Some (closed (both (read_pattern d) (key kind.Colon (read_type d))) kind.CloseParen))))

-- a declaration of a type
abbrev pub type_decl_rule : ℕ → Reader Decl
type_decl_rule d = made type_decl (from kind.Type (both (token name_kinds) (key kind.Equals (definition_at d))))

-- a declaration of a value
abbrev pub value_decl_rule : ℕ → Reader Decl
value_decl_rule d = made value_decl (both (repeated attribute_kinds (token attribute_kinds)) (both (token (kind.Let ∷ []))
    (both (optional (kind.Rec ∷ []) (token (kind.Rec ∷ []))) (both (token name_kinds) (both (repeated (kind.OpenParen ∷ []) (param_at d))
    (both (optional (kind.Colon ∷ []) (key kind.Colon (read_type d))) (key kind.Equals (form_at d Whole))))))))

-- a declaration, at most so deep
abbrev pub decl_at : ℕ → Reader Decl
decl_at zero = too_deep expected.Declaration decl_firsts
decl_at (suc d) = either (kind.Type ∷ []) (type_decl_rule d) (value_decl_rule d)

-- declarations at most so deep, one after another
abbrev pub decls_at : ℕ → Reader (List Decl)
decls_at d = repeated decl_firsts (decl_at d)
