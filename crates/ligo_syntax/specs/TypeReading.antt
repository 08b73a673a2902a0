-- Reading types and patterns: each rule by the next token, at most so deep. The code does this, function
-- by function; a definition of these files stands beside one of the grammar.
use Rattle.std.specs.Prelude.{ℕ, zero, suc, [], ◌∷◌, Some, None}
use Rattle.ligo_tokens.specs.declared.token.Token.{Token}
use Rattle.ligo_tokens.specs.declared.token.Kind.TheVariants as kind
use Rattle.ligo_syntax.specs.declared.fault.Expected.TheVariants as expected
use Rattle.ligo_syntax.specs.declared.type_expr.TypeExpr.{TypeExpr}
use Rattle.ligo_syntax.specs.declared.pattern.Pattern.{Pattern}
use Rattle.ligo_syntax.specs.declared.expr.ArmPattern.{ArmPattern}
use Rattle.ligo_syntax.specs.Kinds.{Kinds}
use Rattle.ligo_syntax.specs.Classes.{name_kinds, postfix_kinds, map_kinds, type_firsts, pattern_firsts, arm_firsts}
use Rattle.ligo_syntax.specs.Readers.{Reader, one_of, both, made, either, too_deep, before, chain}
use Rattle.ligo_syntax.specs.Phrases.{key, from, closed, optional, parted}
use Rattle.ligo_syntax.specs.TypeTrees.{type_name, bracket_type, postfixed, tuple_type, bracket_pattern, leaf_pattern, tuple_pattern}
use Rattle.ligo_syntax.specs.ExprTrees.{any_arm, nil_arm, cons_arm, constructor_arm}
use Rattle.ligo_syntax.specs.Depth.{type_depth, pattern_depth}

-- a token, where nothing else is wanted
abbrev pub token : Kinds → Reader Token
token = one_of expected.Token

-- ---- types

-- a type in brackets, or the two of a map
abbrev pub bracket_type_rule : Reader TypeExpr → Reader TypeExpr
bracket_type_rule t = made bracket_type (from kind.OpenParen (both t (either (kind.Comma ∷ [])
    (made Some (key kind.Comma (both t (key kind.CloseParen (token map_kinds)))))
    (made (λ t. None) (token (kind.CloseParen ∷ []))))))

-- brackets, or a name
abbrev pub base_type_rule : Reader TypeExpr → Reader TypeExpr
base_type_rule t =
    either (kind.OpenParen ∷ []) (bracket_type_rule t) (made type_name (one_of expected.TypeExpr name_kinds))

-- at depth d + 1, where what stands in brackets is read at depth d
abbrev pub post_type_rule : ℕ → Reader TypeExpr → Reader TypeExpr
post_type_rule d t = chain type_depth (suc d) postfixed (base_type_rule t) postfix_kinds (token postfix_kinds)

-- whole types, and the parts of a tuple
pub data TypeLevel : Type 0 where
  Tuple : TypeLevel
  Post : TypeLevel

-- a type, at most so deep
abbrev pub type_at : ℕ → TypeLevel → Reader TypeExpr
type_at zero level = too_deep expected.TypeExpr type_firsts
type_at (suc d) Post = post_type_rule d (type_at d Tuple)
type_at (suc d) Tuple = made tuple_type
    (parted (before type_depth (suc d) (kind.Star ∷ []) (post_type_rule d (type_at d Tuple))) kind.Star (type_at d Post))

-- a whole type
abbrev pub read_type : ℕ → Reader TypeExpr
read_type d = type_at d Tuple

-- ---- patterns

-- brackets, a name or `_`
abbrev pub pattern_rule : Reader Pattern → Reader Pattern
pattern_rule p = either (kind.OpenParen ∷ [])
    (made bracket_pattern (from kind.OpenParen (closed p kind.CloseParen)))
    (made leaf_pattern (one_of expected.Pattern (kind.Underscore ∷ name_kinds)))

-- whole patterns, and the parts of a tuple
pub data PatternLevel : Type 0 where
  Several : PatternLevel
  Single : PatternLevel

-- a pattern, at most so deep
abbrev pub pattern_at : ℕ → PatternLevel → Reader Pattern
pattern_at zero level = too_deep expected.Pattern pattern_firsts
pattern_at (suc d) Single = pattern_rule (pattern_at d Several)
pattern_at (suc d) Several = made tuple_pattern
    (parted (before pattern_depth (suc d) (kind.Comma ∷ []) (pattern_rule (pattern_at d Several))) kind.Comma (pattern_at d Single))

-- a whole pattern
abbrev pub read_pattern : ℕ → Reader Pattern
read_pattern d = pattern_at d Several

-- the pattern of an arm
abbrev pub arm_pattern_rule : Reader Pattern → Reader ArmPattern
arm_pattern_rule p = either (kind.Underscore ∷ []) (made any_arm (token (kind.Underscore ∷ [])))
    (either (kind.OpenSquare ∷ []) (made nil_arm (from kind.OpenSquare (token (kind.CloseSquare ∷ []))))
    (either (kind.Upper ∷ []) (made constructor_arm (both (token (kind.Upper ∷ [])) (optional pattern_firsts p)))
    (made cons_arm (both (one_of expected.Pattern name_kinds) (key kind.Cons (token name_kinds))))))

-- the same, at most so deep
abbrev pub arm_pattern_at : ℕ → Reader ArmPattern
arm_pattern_at zero = too_deep expected.Pattern arm_firsts
arm_pattern_at (suc d) = arm_pattern_rule (pattern_at d Single)
