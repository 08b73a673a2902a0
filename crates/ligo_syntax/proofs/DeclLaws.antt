-- The laws of declarations, and of a whole text of them.
use Rattle.std.proofs.Common.{◌≡◌, ℕ, suc, max, true, false, List, [], ◌∷◌, ◌++◌, refl, arith, Option, Some, None}
use Rattle.ligo_tokens.specs.declared.token.Token.{Token}
use Rattle.ligo_tokens.specs.declared.token.Kind.TheVariants as kind
use Rattle.ligo_syntax.specs.declared.fault.Expected.TheVariants as expected
use Rattle.ligo_syntax.specs.declared.type_expr.TypeExpr.{TypeExpr}
use Rattle.ligo_syntax.specs.declared.pattern.Pattern.{Pattern}
use Rattle.ligo_syntax.specs.declared.expr.Expr.{Expr}
use Rattle.ligo_syntax.specs.declared.program.TypeField.{TypeField}
use Rattle.ligo_syntax.specs.declared.program.TypeCase.{TypeCase}
use Rattle.ligo_syntax.specs.declared.program.Definition.{Definition}
use Rattle.ligo_syntax.specs.declared.program.Definition.TheVariants as definition
use Rattle.ligo_syntax.specs.declared.program.Param.{Param}
use Rattle.ligo_syntax.specs.declared.program.Decl.{Decl}
use Rattle.ligo_syntax.specs.Kinds.{Tokens, Kinds}
use Rattle.ligo_syntax.specs.Classes.{name_kinds, attribute_kinds, type_firsts, pattern_firsts, expr_firsts, variant_firsts, definition_firsts, decl_firsts}
use Rattle.ligo_syntax.specs.Rules.{Repeated}
use Rattle.ligo_syntax.specs.Readers.{both, made}
use Rattle.ligo_syntax.specs.Phrases.{key, closed}
use Rattle.ligo_syntax.specs.Depth.{type_depth, pattern_depth, expr_depth, definition_depth, param_depth, decl_depth, if_there, deepest}
use Rattle.ligo_syntax.specs.ProgramTrees.{type_field, type_case, record_type, variant_type, param_of, type_decl, value_decl}
use Rattle.ligo_syntax.specs.TypeGrammar.{IsType, IsPattern}
use Rattle.ligo_syntax.specs.AtomGrammar.{Whole}
use Rattle.ligo_syntax.specs.ExprGrammar.{IsExpr}
use Rattle.ligo_syntax.specs.Grammar.{TypeFieldRule, TypeCaseRule, DefinitionRule, ParamRule, TypeDeclRule, ValueDeclRule, DeclRule}
use Rattle.ligo_syntax.specs.TypeReading.{token, Several, Tuple, read_type, read_pattern}
use Rattle.ligo_syntax.specs.Reading.{type_field_rule, type_case_rule, record_type_rule, variant_type_rule, definition_at, param_at, type_decl_rule, value_decl_rule, decl_at, decls_at}
use Rattle.ligo_syntax.proofs.RuleLaws.{Standing, Pair, Law, Least, flat, token_law, token_least, made_least}
use Rattle.ligo_syntax.proofs.Sequences.{deeper, both_law, both_least}
use Rattle.ligo_syntax.proofs.Choices.{either_law, either_least, either_first}
use Rattle.ligo_syntax.proofs.Loops.{repeated_law, repeated_least}
use Rattle.ligo_syntax.proofs.Deep.{widened, least_widened}
use Rattle.ligo_syntax.proofs.Words.{of_kind, word_law, key_law, from_law, closed_law, optional_law, key_least, closed_least, optional_least}
use Rattle.ligo_syntax.proofs.Moves.{inner_law, top_law}
use Rattle.ligo_syntax.proofs.Links.{limits}
use Rattle.ligo_syntax.proofs.Semicolons.{listed_law, listed_least}
use Rattle.ligo_syntax.proofs.Nodes.{beyond, so_deep, deepest_inside, node_law, exact_law, some_law, none_law, read_alike}
use Rattle.ligo_syntax.proofs.TypeLaws.{a_name, type_ext, type_least, type_law, type_pair, no_type}
use Rattle.ligo_syntax.proofs.PatternLaws.{pattern_ext, pattern_law, pattern_pair, no_pattern}
use Rattle.ligo_syntax.proofs.ExprDepths.{inner, no_expr}
use Rattle.ligo_syntax.proofs.ExprLeasts.{a_number, op_ext, all_ext, expr_least}
use Rattle.ligo_syntax.proofs.BraceLaws.{expr_pair}
use Rattle.ligo_syntax.proofs.ExprLaws.{ring_law}

-- what may extend definitions and declarations
abbrev pub definition_ext : Kinds
definition_ext = kind.Bar ∷ kind.Of ∷ type_ext Tuple

abbrev pub decl_ext : Kinds
decl_ext = definition_ext ++ op_ext

abbrev pub decl_all : Kinds
decl_all = definition_ext ++ all_ext

-- ---- depth

abbrev field_measure : TypeField → ℕ
field_measure f = type_depth f.of

abbrev case_measure : TypeCase → ℕ
case_measure c = if_there type_depth c.part

abbrev case_deep : TypeCase → ℕ
case_deep c = if_there (so_deep type_depth) c.part

field_exact : (p : Token × TypeExpr) → so_deep field_measure (type_field p) ≡ deeper flat (so_deep type_depth) p
field_exact (t, of) = omega arith

record_depth : (p : ℕ × List TypeField) → definition_depth (record_type p) ≡ max 1 (deepest (so_deep field_measure) p.1)
record_depth (at, []) = omega arith
record_depth (at, f ∷ more) = let i = deepest_inside field_measure f more in omega (arith, i)

case_exact : (p : Token × Option TypeExpr) → case_deep (type_case p) ≡ deeper flat (if_there (so_deep type_depth)) p
case_exact (t, None) = omega arith
case_exact (t, Some of) = omega arith

part_counts : (part : Option TypeExpr) → max 1 (if_there (so_deep type_depth) part) ≡ suc (if_there type_depth part)
part_counts None = omega arith
part_counts (Some of) = omega arith

cases_count : (all : List TypeCase) → max 1 (deepest case_deep all) ≡ suc (deepest case_measure all)
cases_count [] = omega arith
cases_count (c ∷ more) = let i = part_counts c.part in let j = cases_count more in omega (arith, i, j)

variant_depth : (p : Option Token × (TypeCase × List TypeCase)) → definition_depth (variant_type p) ≡ max 1 (deeper (if_there flat) (deeper case_deep (deepest case_deep)) p)
variant_depth (None, (c, more)) = let i = cases_count (c ∷ more) in omega (arith, i)
variant_depth (Some bar, (c, more)) = let i = cases_count (c ∷ more) in omega (arith, i)

param_deep : (p : ℕ × Option (Pattern × TypeExpr)) → param_depth (param_of p) ≡ max 1 (if_there (deeper (so_deep pattern_depth) (so_deep type_depth)) p.1)
param_deep (at, None) = omega arith
param_deep (at, Some (p, t)) = omega arith

type_decl_deep : (p : ℕ × (Token × Definition)) → decl_depth (type_decl p) ≡ max 1 (deeper flat (so_deep definition_depth) p.1)
type_decl_deep (at, (t, d)) = omega arith

flat_count : (all : List Token) → deepest flat all ≡ 0
flat_count [] = refl
flat_count (t ∷ more) = let i = flat_count more in omega (arith, i)

flat_there : (o : Option Token) → if_there flat o ≡ 0
flat_there None = refl
flat_there (Some t) = refl

params_count : (all : List Param) → max 1 (deepest (so_deep param_depth) all) ≡ suc (deepest param_depth all)
params_count [] = omega arith
params_count (p ∷ more) = let i = deepest_inside param_depth p more in omega (arith, i)

-- how deep is what a value is declared by
abbrev value_measure : List Token × (Token × (Option Token × (Token × (List Param × (Option TypeExpr × Expr))))) → ℕ
value_measure = deeper (deepest flat) (deeper flat (deeper (if_there flat) (deeper flat (deeper (deepest (so_deep param_depth)) (deeper (if_there (so_deep type_depth)) inner)))))

value_decl_deep : (p : List Token × (Token × (Option Token × (Token × (List Param × (Option TypeExpr × Expr)))))) → decl_depth (value_decl p) ≡ max 1 (value_measure p)
value_decl_deep (marks, (word, (again, (t, (params, (result, body)))))) =
    let i = flat_count marks in
    let j = flat_there again in
    let k = params_count params in
    let l = part_counts result in
    omega (arith, i, j, k, l)

-- ---- the least

abbrev field_least : (d : ℕ) → Least (type_field_rule (suc d)) name_kinds false (type_ext Tuple)
field_least d = made_least type_field (both_least (token_least expected.Token name_kinds a_name refl) (key_least kind.Colon (type_least d Tuple)) refl)

abbrev pub definition_least : (d : ℕ) → Least (definition_at (suc d)) definition_firsts false definition_ext
definition_least d = least_widened definition_firsts definition_ext (either_least (record_type_rule d) (kind.OpenBrace ∷ []) [] (either_least (variant_type_rule d) variant_firsts [] (made_least definition.Type (type_least d Tuple)) refl) refl) refl refl

abbrev case_least : (d : ℕ) → Least (type_case_rule d) (kind.Upper ∷ []) false (kind.Of ∷ type_ext Tuple)
case_least d = least_widened (kind.Upper ∷ []) (kind.Of ∷ type_ext Tuple) (made_least type_case (both_least (token_least expected.Token (kind.Upper ∷ []) (of_kind kind.Upper) refl) (optional_least (key kind.Of (read_type d)) (kind.Of ∷ []) [] refl) refl)) refl refl

-- ---- the laws

abbrev pub definition_pair : ℕ → Pair Definition
definition_pair d i = definition_at (limits d (beyond d) i)

abbrev pub param_pair : ℕ → Pair Param
param_pair d i = param_at (limits d (beyond d) i)

abbrev pub decl_pair : ℕ → Pair Decl
decl_pair d i = decl_at (limits d (beyond d) i)

abbrev pub decls_pair : ℕ → Pair (List Decl)
decls_pair d i = decls_at (limits d (beyond d) i)

module _ (S : Standing) (any : (t : Token) (r : Tokens) → S expected.Token (t ∷ r)) (a_type : (r : Tokens) → S expected.TypeExpr (a_name ∷ r)) (a_pattern : (r : Tokens) → S expected.Pattern (a_name ∷ r))
    (an_arm : (r : Tokens) → S expected.Pattern (a_name ∷ of_kind kind.Cons ∷ a_name ∷ r)) (an_expr : (r : Tokens) → S expected.Expression (a_number ∷ r)) where
  pub top_type : (d : ℕ) → Law S IsType type_depth d (type_pair d Tuple) type_firsts false (type_ext Tuple) (type_ext Tuple)
  top_type d = top_law IsType (λ ts a rest r. r) (λ n ts a rest r. r) (λ n ts a rest r. r) (no_type Tuple) (type_law S any a_type d Tuple)

  pub top_pattern : (d : ℕ) → Law S IsPattern pattern_depth d (pattern_pair d Several) pattern_firsts false (pattern_ext Several) (pattern_ext Several)
  top_pattern d = top_law IsPattern (λ ts a rest r. r) (λ n ts a rest r. r) (λ n ts a rest r. r) (no_pattern Several) (pattern_law S any a_pattern d Several)

  pub top_expr : (d : ℕ) → Law S (λ n. IsExpr n Whole) expr_depth d (expr_pair d Whole) expr_firsts false op_ext all_ext
  top_expr d = top_law (λ n. IsExpr n Whole) (λ ts a rest r. r) (λ n ts a rest r. r) (λ n ts a rest r. r) (no_expr Whole) ((ring_law S any a_type a_pattern an_arm an_expr d).forms Whole)

  module _ (d : ℕ) where
    types : Law S IsType (so_deep type_depth) (suc d) (type_pair d Tuple) type_firsts false (type_ext Tuple) (type_ext Tuple)
    types = inner_law (top_type d)

    abbrev a_least_type : Least (read_type (beyond d)) type_firsts false (type_ext Tuple)
    a_least_type = type_least (suc (suc (suc d))) Tuple

    field_law : Law S (λ n. TypeFieldRule (IsType n)) (so_deep field_measure) (suc d) (λ i. type_field_rule (limits d (beyond d) i)) name_kinds false (type_ext Tuple) (type_ext Tuple)
    field_law = widened name_kinds (type_ext Tuple) (type_ext Tuple) (exact_law type_field (so_deep field_measure) field_exact (both_law (token_law S (suc d) expected.Token name_kinds a_name refl refl (any a_name))
        (key_law S any (suc d) kind.Colon types a_least_type) (key_least kind.Colon a_least_type) refl refl)) refl refl refl refl

    case_law : Law S (λ n. TypeCaseRule (IsType n)) case_deep (suc d) (λ i. type_case_rule (limits d (beyond d) i)) (kind.Upper ∷ []) false (kind.Of ∷ type_ext Tuple) (kind.Of ∷ type_ext Tuple)
    case_law = widened (kind.Upper ∷ []) (kind.Of ∷ type_ext Tuple) (kind.Of ∷ type_ext Tuple) (exact_law type_case case_deep case_exact (both_law (word_law S any (suc d) kind.Upper)
        (optional_law (key_law S any (suc d) kind.Of types a_least_type) refl) (optional_least (key kind.Of (read_type (beyond d))) (kind.Of ∷ []) (type_ext Tuple) refl) refl refl)) refl refl refl refl

    pub definition_law : Law S (λ n. DefinitionRule (IsType n)) definition_depth (suc d) (definition_pair (suc d)) definition_firsts false definition_ext definition_ext
    definition_law =
        let fields = node_law record_type definition_depth record_depth (from_law S any (suc d) kind.OpenBrace (closed_law S any (suc d) kind.CloseBrace (listed_law field_law refl refl) refl refl)
        (closed_least kind.CloseBrace (listed_least (field_least (suc (suc (suc d))))) refl)) in
        let further = repeated_least (key kind.Bar (type_case_rule (beyond d))) (kind.Bar ∷ []) (kind.Of ∷ type_ext Tuple) in
        let cases = both_law case_law (repeated_law (key_law S any (suc d) kind.Bar case_law (case_least (beyond d))) refl refl) further refl refl in
        let variant = node_law variant_type definition_depth variant_depth (both_law (optional_law (word_law S any (suc d) kind.Bar) refl) cases (both_least (case_least (beyond d)) further refl) refl refl) in
        read_alike (definition_pair (suc d)) (λ ts. refl) (λ ts. refl) (widened definition_firsts definition_ext definition_ext
        (either_law fields (either_law variant (exact_law definition.Type definition_depth (λ t. refl) (top_type (suc d))) refl) refl) refl refl refl refl)

    pub param_law : Law S (λ n. ParamRule (IsType n) (IsPattern n)) param_depth (suc d) (param_pair (suc d)) (kind.OpenParen ∷ []) false [] []
    param_law = read_alike (param_pair (suc d)) (λ ts. refl) (λ ts. refl) (widened (kind.OpenParen ∷ []) [] [] (node_law param_of param_depth param_deep (from_law S any (suc d) kind.OpenParen
        (either_law (none_law (deeper (so_deep pattern_depth) (so_deep type_depth)) (word_law S any (suc d) kind.CloseParen))
        (some_law (closed_law S any (suc d) kind.CloseParen (both_law (inner_law (top_pattern d)) (key_law S any (suc d) kind.Colon types a_least_type) (key_least kind.Colon a_least_type) refl refl) refl refl)) refl)
        (either_first (made Some (closed (both (read_pattern (beyond d)) (key kind.Colon (read_type (beyond d)))) kind.CloseParen)) pattern_firsts false []
        (made_least (λ t. None) (token_least expected.Token (kind.CloseParen ∷ []) (of_kind kind.CloseParen) refl))))) refl refl refl refl)

  module _ (d : ℕ) where
    type_decl_law : Law S (λ n. TypeDeclRule (IsType n)) decl_depth (suc (suc d)) (λ i. type_decl_rule (limits (suc d) (beyond (suc d)) i)) (kind.Type ∷ []) false definition_ext definition_ext
    type_decl_law =
        let behind = key_law S any (suc (suc d)) kind.Equals (inner_law (definition_law d)) (definition_least (beyond d)) in
        widened (kind.Type ∷ []) definition_ext definition_ext (node_law type_decl decl_depth type_decl_deep (from_law S any (suc (suc d)) kind.Type
        (both_law (token_law S (suc (suc d)) expected.Token name_kinds a_name refl refl (any a_name)) behind (key_least kind.Equals (definition_least (beyond d))) refl refl)
        (both_least (token_least expected.Token name_kinds a_name refl) (key_least kind.Equals (definition_least (beyond d))) refl))) refl refl refl refl

    value_decl_law : Law S (λ n. ValueDeclRule (IsType n) (IsPattern n) (IsExpr n Whole)) decl_depth (suc (suc d)) (λ i. value_decl_rule (limits (suc d) (beyond (suc d)) i)) (kind.Entry ∷ kind.Inline ∷ kind.Let ∷ []) false op_ext all_ext
    value_decl_law =
        let body = key_law S any (suc (suc d)) kind.Equals (inner_law (top_expr (suc d))) (expr_least (beyond d) Whole) in
        let body_least = key_least kind.Equals (expr_least (beyond d) Whole) in
        let result = both_law (optional_law (key_law S any (suc (suc d)) kind.Colon (types (suc d)) (type_least (beyond d) Tuple)) refl) body body_least refl refl in
        let result_least = both_least (optional_least (key kind.Colon (read_type (beyond (suc d)))) (kind.Colon ∷ []) (type_ext Tuple) refl) body_least refl in
        let params = both_law (repeated_law (inner_law (param_law d)) refl refl) result result_least refl refl in
        let params_least = both_least (repeated_least (param_at (beyond (suc d))) (kind.OpenParen ∷ []) []) result_least refl in
        let named = both_law (token_law S (suc (suc d)) expected.Token name_kinds a_name refl refl (any a_name)) params params_least refl refl in
        let named_least = both_least (token_least expected.Token name_kinds a_name refl) params_least refl in
        let again = both_law (optional_law (word_law S any (suc (suc d)) kind.Rec) refl) named named_least refl refl in
        let again_least = both_least (optional_least (token (kind.Rec ∷ [])) (kind.Rec ∷ []) [] refl) named_least refl in
        let bound = both_law (word_law S any (suc (suc d)) kind.Let) again again_least refl refl in
        let bound_least = both_least (token_least expected.Token (kind.Let ∷ []) (of_kind kind.Let) refl) again_least refl in
        let marks = token_law S (suc (suc d)) expected.Token attribute_kinds (of_kind kind.Entry) refl refl (any (of_kind kind.Entry)) in
        widened (kind.Entry ∷ kind.Inline ∷ kind.Let ∷ []) op_ext all_ext (node_law value_decl decl_depth value_decl_deep (both_law (repeated_law marks refl refl) bound bound_least refl refl)) refl refl refl refl

    pub decl_law : Law S (λ n. DeclRule (IsType n) (IsPattern n) (IsExpr n Whole)) decl_depth (suc (suc d)) (decl_pair (suc (suc d))) decl_firsts false decl_ext decl_all
    decl_law = read_alike (decl_pair (suc (suc d))) (λ ts. refl) (λ ts. refl) (widened decl_firsts decl_ext decl_all (either_law type_decl_law value_decl_law refl) refl refl refl refl)

    pub decls_law : Law S (λ n. Repeated (DeclRule (IsType n) (IsPattern n) (IsExpr n Whole))) (deepest decl_depth) (suc (suc d)) (decls_pair (suc (suc d))) decl_firsts true (decl_firsts ++ decl_ext) (decl_firsts ++ decl_all)
    decls_law = read_alike (decls_pair (suc (suc d))) (λ ts. refl) (λ ts. refl) (repeated_law decl_law refl refl)
