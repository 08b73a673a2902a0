-- The laws of patterns, and of the patterns of arms.
use Rattle.std.proofs.Common.{◌≡◌, ℕ, zero, suc, max, ◌≤◌, false, List, [], ◌∷◌, ◌++◌, refl, arith, Option, Some, None}
use Rattle.ligo_tokens.specs.declared.token.Token.{Token}
use Rattle.ligo_tokens.specs.declared.token.Kind.TheVariants as kind
use Rattle.ligo_syntax.specs.declared.fault.Expected.TheVariants as expected
use Rattle.ligo_syntax.specs.declared.pattern.Pattern.{Pattern}
use Rattle.ligo_syntax.specs.declared.expr.ArmPattern.{ArmPattern}
use Rattle.ligo_syntax.specs.Kinds.{Tokens, Kinds}
use Rattle.ligo_syntax.specs.Classes.{name_kinds, pattern_firsts, arm_firsts}
use Rattle.ligo_syntax.specs.Readers.{Reader, one_of, both, made, repeated}
use Rattle.ligo_syntax.specs.Phrases.{optional, key, from, closed}
use Rattle.ligo_syntax.specs.Depth.{pattern_depth, arm_pattern_depth, if_there, deepest}
use Rattle.ligo_syntax.specs.TypeTrees.{bracket_pattern, leaf_pattern, tuple_pattern}
use Rattle.ligo_syntax.specs.ExprTrees.{any_arm, nil_arm, constructor_arm, cons_arm}
use Rattle.ligo_syntax.specs.TypeGrammar.{PatternRule, PatternsRule, ArmPatternRule, IsPattern}
use Rattle.ligo_syntax.specs.TypeReading.{token, pattern_rule, PatternLevel, Several, Single, pattern_at, arm_pattern_at}
use Rattle.ligo_syntax.proofs.RuleLaws.{Standing, Rules, Pair, Law, Least, flat, token_law, token_least, made_law, made_least}
use Rattle.ligo_syntax.proofs.Sequences.{deeper, both_law, both_least}
use Rattle.ligo_syntax.proofs.Choices.{either_law, either_least}
use Rattle.ligo_syntax.proofs.Loops.{repeated_law, repeated_least}
use Rattle.ligo_syntax.proofs.Deep.{widened, least_widened, Refuses, Completes, deep_law, token_refuses, made_refuses, both_refuses, either_refuses}
use Rattle.ligo_syntax.proofs.Words.{of_kind, word_law, key_law, from_law, closed_law, optional_law, key_least, closed_least, optional_least, key_pair}
use Rattle.ligo_syntax.proofs.Moves.{inner_law, under, under_law}
use Rattle.ligo_syntax.proofs.Links.{limits}
use Rattle.ligo_syntax.proofs.Tailed.{tailed, tailed_law, are_many, repeated_tail}
use Rattle.ligo_syntax.proofs.Completions.{Positive, made_positive, either_positive, both_positive, token_completes, made_completes, both_completes, either_completes, before_completes, completes_widened, repeated_completes, key_completes, from_completes, before_refuses, before_least}
use Rattle.ligo_syntax.proofs.Nodes.{beyond, so_deep, deepest_inside, node_law, exact_law, read_alike}
use Rattle.ligo_syntax.proofs.TypeLaws.{a_name}

-- what may extend patterns, and parts of tuples
abbrev pub pattern_ext : PatternLevel → Kinds
pattern_ext Single = []
pattern_ext Several = kind.Comma ∷ []

abbrev pub Patterns : PatternLevel → Rules Pattern
Patterns Single n = PatternRule (under IsPattern n)
Patterns Several n = PatternsRule (under IsPattern n)

abbrev pub pattern_pair : ℕ → PatternLevel → Pair Pattern
pattern_pair d level i = pattern_at (limits d (beyond d) i) level

-- ---- depth

bracket_depth : (p : ℕ × Pattern) → pattern_depth (bracket_pattern p) ≡ max 1 (so_deep pattern_depth p.1)
bracket_depth (at, p) = omega arith

tuple_depth : (p : Pattern × List Pattern) → pattern_depth (tuple_pattern p) ≡ tailed pattern_depth (deepest (so_deep pattern_depth)) are_many p
tuple_depth (p, []) = omega arith
tuple_depth (p, q ∷ more) = let i = deepest_inside pattern_depth q more in omega (arith, i)

tuples_count : (p : Pattern × List Pattern) → 1 ≤ pattern_depth p.0 → 1 ≤ pattern_depth (tuple_pattern p)
tuples_count (p, []) le = le
tuples_count (p, q ∷ more) le = omega arith

singles_count : (n : ℕ) → Positive pattern_depth (Patterns Single n)
singles_count n = either_positive (made_positive pattern_depth bracket_pattern _ (λ p. let i = bracket_depth p in omega (arith, i))) (made_positive pattern_depth leaf_pattern _ (λ t. omega arith))

patterns_count : (level : PatternLevel) (n : ℕ) → Positive pattern_depth (Patterns level n)
patterns_count Single n = singles_count n
patterns_count Several n = both_positive pattern_depth tuple_pattern _ tuples_count (singles_count n)

pub no_pattern : (level : PatternLevel) (n : ℕ) (ts : Tokens) (a : Pattern) (rest : Tokens) → Patterns level n ts a rest → pattern_depth a ≤ 0 → ⊥
no_pattern level n ts a rest r le = let i = patterns_count level n ts a rest r in absurd (omega (arith, i, le))

-- ---- the least pattern, and what it begins with

abbrev pub single_least : (p : Reader Pattern) → Least (pattern_rule p) pattern_firsts false []
single_least p = least_widened pattern_firsts [] (either_least (made bracket_pattern (from kind.OpenParen (closed p kind.CloseParen))) (kind.OpenParen ∷ []) []
    (made_least leaf_pattern (token_least expected.Pattern (kind.Underscore ∷ name_kinds) a_name refl)) refl) refl refl

abbrev pub pattern_least : (d : ℕ) (level : PatternLevel) → Least (pattern_at (suc d) level) pattern_firsts false (pattern_ext level)
pattern_least d Single = single_least (pattern_at d Several)
pattern_least d Several = least_widened pattern_firsts (kind.Comma ∷ []) (made_least tuple_pattern (both_least (before_least pattern_depth (suc d) (kind.Comma ∷ []) (single_least (pattern_at d Several)))
    (repeated_least (key kind.Comma (pattern_at d Single)) (kind.Comma ∷ []) []) refl)) refl refl

single_refuses : (p : Reader Pattern) → Refuses (pattern_rule p) expected.Pattern pattern_firsts
single_refuses p = either_refuses (made bracket_pattern (from kind.OpenParen (closed p kind.CloseParen))) (kind.OpenParen ∷ []) (made_refuses leaf_pattern (token_refuses expected.Pattern (kind.Underscore ∷ name_kinds)))

pattern_refuses : (d : ℕ) (level : PatternLevel) → Refuses (pattern_at (suc d) level) expected.Pattern pattern_firsts
pattern_refuses d Single = single_refuses (pattern_at d Several)
pattern_refuses d Several = made_refuses tuple_pattern (both_refuses (repeated (kind.Comma ∷ []) (key kind.Comma (pattern_at d Single))) (before_refuses pattern_depth (suc d) (kind.Comma ∷ []) (single_refuses (pattern_at d Several))))

single_completes : (d : ℕ) → Completes (pattern_rule (pattern_at (suc d) Several)) pattern_firsts []
single_completes d = completes_widened pattern_firsts [] (either_completes (made_completes bracket_pattern (from_completes kind.OpenParen (closed_least kind.CloseParen (pattern_least d Several) refl)))
    (made_completes leaf_pattern (token_completes expected.Pattern (kind.Underscore ∷ name_kinds)))) refl refl

pub pattern_completes : (d : ℕ) (level : PatternLevel) → Completes (pattern_at (suc (suc d)) level) pattern_firsts (pattern_ext level)
pattern_completes d Single = single_completes d
pattern_completes d Several = completes_widened pattern_firsts (kind.Comma ∷ []) (made_completes tuple_pattern (both_completes (before_completes pattern_depth (suc (suc d)) (kind.Comma ∷ []) (single_completes d))
    (repeated_least (key kind.Comma (pattern_at (suc d) Single)) (kind.Comma ∷ []) []) refl)) refl refl

-- ---- patterns of arms

abbrev pub arm_pattern_ext : Kinds
arm_pattern_ext = pattern_firsts

abbrev pub ArmPatterns : Rules ArmPattern
ArmPatterns n = ArmPatternRule (PatternRule (under IsPattern n))

abbrev pub arm_pattern_pair : ℕ → Pair ArmPattern
arm_pattern_pair d i = arm_pattern_at (limits d (beyond d) i)

constructor_depth : (p : Token × Option Pattern) → arm_pattern_depth (constructor_arm p) ≡ max 1 (deeper flat (if_there (so_deep pattern_depth)) p)
constructor_depth (u, None) = omega arith
constructor_depth (u, Some p) = omega arith

arms_count : (n : ℕ) → Positive arm_pattern_depth (ArmPatterns n)
arms_count n = either_positive (made_positive arm_pattern_depth any_arm _ (λ t. omega arith)) (either_positive (made_positive arm_pattern_depth nil_arm _ (λ (p : ℕ × Token). omega arith))
    (either_positive (made_positive arm_pattern_depth constructor_arm _ (λ p. let i = constructor_depth p in omega (arith, i))) (made_positive arm_pattern_depth cons_arm _ (λ (p : Token × Token). omega arith))))

pub no_arm_pattern : (n : ℕ) (ts : Tokens) (a : ArmPattern) (rest : Tokens) → ArmPatterns n ts a rest → arm_pattern_depth a ≤ 0 → ⊥
no_arm_pattern n ts a rest r le = let i = arms_count n ts a rest r in absurd (omega (arith, i, le))

abbrev pub cons_least : Least (both (one_of expected.Pattern name_kinds) (key kind.Cons (token name_kinds))) name_kinds false []
cons_least = least_widened name_kinds [] (both_least (token_least expected.Pattern name_kinds a_name refl) (key_least kind.Cons (token_least expected.Token name_kinds a_name refl)) refl) refl refl

abbrev pub arm_pattern_least : (d : ℕ) → Least (arm_pattern_at (suc d)) arm_firsts false arm_pattern_ext
arm_pattern_least d = least_widened arm_firsts arm_pattern_ext (either_least (made any_arm (token (kind.Underscore ∷ []))) (kind.Underscore ∷ []) []
    (either_least (made nil_arm (from kind.OpenSquare (token (kind.CloseSquare ∷ [])))) (kind.OpenSquare ∷ []) []
    (either_least (made constructor_arm (both (token (kind.Upper ∷ [])) (optional pattern_firsts (pattern_at d Single)))) (kind.Upper ∷ []) [] (made_least cons_arm cons_least) refl) refl) refl) refl refl

pub arm_pattern_refuses : (d : ℕ) → Refuses (arm_pattern_at (suc d)) expected.Pattern arm_firsts
arm_pattern_refuses d = either_refuses (made any_arm (token (kind.Underscore ∷ []))) (kind.Underscore ∷ []) (either_refuses (made nil_arm (from kind.OpenSquare (token (kind.CloseSquare ∷ [])))) (kind.OpenSquare ∷ [])
    (either_refuses (made constructor_arm (both (token (kind.Upper ∷ [])) (optional pattern_firsts (pattern_at d Single)))) (kind.Upper ∷ [])
    (made_refuses cons_arm (both_refuses (key kind.Cons (token name_kinds)) (token_refuses expected.Pattern name_kinds)))))

pub arm_pattern_completes : (d : ℕ) → Completes (arm_pattern_at (suc d)) arm_firsts arm_pattern_ext
arm_pattern_completes d = completes_widened arm_firsts arm_pattern_ext (either_completes (made_completes any_arm (token_completes expected.Token (kind.Underscore ∷ [])))
    (either_completes (made_completes nil_arm (from_completes kind.OpenSquare (token_least expected.Token (kind.CloseSquare ∷ []) (of_kind kind.CloseSquare) refl)))
    (either_completes (made_completes constructor_arm (both_completes (token_completes expected.Token (kind.Upper ∷ [])) (optional_least (pattern_at d Single) pattern_firsts [] refl) refl))
    (made_completes cons_arm (both_completes (token_completes expected.Pattern name_kinds) (key_least kind.Cons (token_least expected.Token name_kinds a_name refl)) refl))))) refl refl

-- ---- the laws

module _ (S : Standing) (any : (t : Token) (r : Tokens) → S expected.Token (t ∷ r)) (a_pattern : (r : Tokens) → S expected.Pattern (a_name ∷ r)) where
  module _ (d : ℕ) (inner : (level : PatternLevel) → Law S (Patterns level) pattern_depth d (pattern_pair d level) pattern_firsts false (pattern_ext level) (pattern_ext level)) where
    -- a pattern further inside
    pub pattern_inside : Law S (under IsPattern) (so_deep pattern_depth) (suc d) (pattern_pair d Several) pattern_firsts false (kind.Comma ∷ []) (kind.Comma ∷ [])
    pattern_inside = under_law IsPattern (λ ts a rest r. r) (λ n ts a rest r. r) (λ n ts a rest r. r) (no_pattern Several) (inner Several)

    single_law : Law S (Patterns Single) pattern_depth (suc d) (pattern_pair (suc d) Single) pattern_firsts false [] []
    single_law = read_alike (pattern_pair (suc d) Single) (λ ts. refl) (λ ts. refl) (widened pattern_firsts [] [] (either_law
        (node_law bracket_pattern pattern_depth bracket_depth (from_law S any (suc d) kind.OpenParen (closed_law S any (suc d) kind.CloseParen pattern_inside refl refl) (closed_least kind.CloseParen (pattern_least (suc (suc (suc d))) Several) refl)))
        (made_law leaf_pattern pattern_depth (suc d) (omega arith) (λ a le. omega arith) (λ a le. omega arith) (token_law S (suc d) expected.Pattern (kind.Underscore ∷ name_kinds) a_name refl refl a_pattern)) refl) refl refl refl refl)

    several_law : Law S (Patterns Several) pattern_depth (suc d) (pattern_pair (suc d) Several) pattern_firsts false (kind.Comma ∷ []) (kind.Comma ∷ [])
    several_law = read_alike (pattern_pair (suc d) Several) (λ ts. refl) (λ ts. refl) (widened pattern_firsts (kind.Comma ∷ []) (kind.Comma ∷ []) (exact_law tuple_pattern pattern_depth tuple_depth
        (tailed_law (beyond (suc d)) are_many (omega arith) single_law (repeated_law (key_law S any (suc d) kind.Comma (inner_law (inner Single)) (pattern_least (suc (suc (suc d))) Single)) refl refl)
        (repeated_tail _ (key_pair kind.Comma (pattern_pair d Single)) (kind.Comma ∷ []) _ _ refl refl) (repeated_completes (key_completes kind.Comma (pattern_least (suc (suc (suc d))) Single))) refl)) refl refl refl refl)

    step : (level : PatternLevel) → Law S (Patterns level) pattern_depth (suc d) (pattern_pair (suc d) level) pattern_firsts false (pattern_ext level) (pattern_ext level)
    step Single = single_law
    step Several = several_law

    arm_step : Law S ArmPatterns arm_pattern_depth (suc d) (arm_pattern_pair (suc d)) arm_firsts false arm_pattern_ext arm_pattern_ext
    arm_step = read_alike (arm_pattern_pair (suc d)) (λ ts. refl) (λ ts. refl) (widened arm_firsts arm_pattern_ext arm_pattern_ext (either_law
        (made_law any_arm arm_pattern_depth (suc d) (omega arith) (λ a le. omega arith) (λ a le. omega arith) (word_law S any (suc d) kind.Underscore))
        (either_law (made_law nil_arm arm_pattern_depth (suc d) (omega arith) (λ a le. omega arith) (λ a le. omega arith) (from_law S any (suc d) kind.OpenSquare (word_law S any (suc d) kind.CloseSquare) (token_least expected.Token (kind.CloseSquare ∷ []) (of_kind kind.CloseSquare) refl)))
        (either_law (node_law constructor_arm arm_pattern_depth constructor_depth (both_law (word_law S any (suc d) kind.Upper) (optional_law (inner_law (inner Single)) refl) (optional_least (pattern_at (beyond d) Single) pattern_firsts [] refl) refl refl))
        (made_law cons_arm arm_pattern_depth (suc d) (omega arith) (λ a le. omega arith) (λ a le. omega arith) (both_law (token_law S (suc d) expected.Pattern name_kinds a_name refl refl a_pattern)
        (key_law S any (suc d) kind.Cons (token_law S (suc d) expected.Token name_kinds a_name refl refl (any a_name)) (token_least expected.Token name_kinds a_name refl)) (key_least kind.Cons (token_least expected.Token name_kinds a_name refl)) refl refl))
        refl) refl) refl) refl refl refl refl)

  pub pattern_law : (d : ℕ) (level : PatternLevel) → Law S (Patterns level) pattern_depth d (pattern_pair d level) pattern_firsts false (pattern_ext level) (pattern_ext level)
  pattern_law zero level = read_alike (pattern_pair 0 level) (λ ts. refl) (λ ts. refl) (deep_law S (Patterns level) pattern_depth (pattern_at 4 level) expected.Pattern pattern_firsts (pattern_ext level) (pattern_ext level)
      (no_pattern level) refl (pattern_least 3 level) (pattern_refuses 3 level) (pattern_completes 2 level) (stands level)) where
        stands : (level : PatternLevel) (r : Tokens) → S expected.Pattern ((pattern_least 3 level).word ++ r)
        stands Single r = a_pattern r
        stands Several r = a_pattern r
  pattern_law (suc d) level = step d (pattern_law d) level

  module _ (an_arm : (r : Tokens) → S expected.Pattern (a_name ∷ of_kind kind.Cons ∷ a_name ∷ r)) where
    pub arm_pattern_law : (d : ℕ) → Law S ArmPatterns arm_pattern_depth d (arm_pattern_pair d) arm_firsts false arm_pattern_ext arm_pattern_ext
    arm_pattern_law zero = read_alike (arm_pattern_pair 0) (λ ts. refl) (λ ts. refl) (deep_law S ArmPatterns arm_pattern_depth (arm_pattern_at 4) expected.Pattern arm_firsts arm_pattern_ext arm_pattern_ext
        no_arm_pattern refl (arm_pattern_least 3) (arm_pattern_refuses 3) (arm_pattern_completes 3) an_arm)
    arm_pattern_law (suc d) = arm_step d (pattern_law d)
