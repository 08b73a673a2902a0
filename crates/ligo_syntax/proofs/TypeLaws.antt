-- The laws of types.
use Rattle.std.proofs.Common.{◌≡◌, ℕ, zero, suc, max, ◌≤◌, false, List, [], ◌∷◌, ◌++◌, refl, arith, Option, Some, None}
use Rattle.ligo_tokens.specs.declared.token.Token.{Token}
use Rattle.ligo_tokens.specs.declared.token.Kind.TheVariants as kind
use Rattle.ligo_syntax.specs.declared.fault.Expected.TheVariants as expected
use Rattle.ligo_syntax.specs.declared.type_expr.TypeExpr.{TypeExpr}
use Rattle.ligo_syntax.specs.Kinds.{Tokens, Kinds}
use Rattle.ligo_syntax.specs.Classes.{name_kinds, map_kinds, postfix_kinds, type_firsts}
use Rattle.ligo_syntax.specs.Readers.{both, made, either, repeated}
use Rattle.ligo_syntax.specs.Phrases.{key}
use Rattle.ligo_syntax.specs.Depth.{type_depth, if_there, deepest}
use Rattle.ligo_syntax.specs.TypeTrees.{type_name, bracket_type, postfixed, tuple_type}
use Rattle.ligo_syntax.specs.TypeGrammar.{BracketType, PostType, TypeRule, IsType}
use Rattle.ligo_syntax.specs.TypeReading.{token, bracket_type_rule, post_type_rule, TypeLevel, Tuple, Post, type_at}
use Rattle.ligo_syntax.proofs.RuleLaws.{Standing, Rules, Pair, Law, Least, flat, token_law, token_least, made_law, made_least}
use Rattle.ligo_syntax.proofs.Sequences.{deeper, both_law, both_least}
use Rattle.ligo_syntax.proofs.Choices.{either_law, either_least}
use Rattle.ligo_syntax.proofs.Loops.{repeated_law, repeated_least}
use Rattle.ligo_syntax.proofs.Deep.{widened, least_widened, Refuses, Completes, deep_law, token_refuses, made_refuses, both_refuses, either_refuses}
use Rattle.ligo_syntax.proofs.Words.{of_kind, word_law, key_law, from_law, key_least, key_pair}
use Rattle.ligo_syntax.proofs.Moves.{inner_law, under, under_law}
use Rattle.ligo_syntax.proofs.Links.{limits, chain_law, chain_least}
use Rattle.ligo_syntax.proofs.Tailed.{tailed, tailed_law, are_many, repeated_tail}
use Rattle.ligo_syntax.proofs.Completions.{Positive, made_positive, either_positive, chain_positive, both_positive, token_completes, made_completes, both_completes, either_completes, chain_completes, before_completes, completes_widened, repeated_completes, key_completes, from_completes, chain_refuses, before_refuses, before_least}
use Rattle.ligo_syntax.proofs.Nodes.{beyond, so_deep, deepest_inside, node_law, exact_law, some_law, none_law, read_alike}

-- what may extend types, and parts of tuples
abbrev pub type_ext : TypeLevel → Kinds
type_ext Post = postfix_kinds
type_ext Tuple = kind.Star ∷ postfix_kinds

abbrev pub Types : TypeLevel → Rules TypeExpr
Types Post n = PostType (under IsType n)
Types Tuple n = TypeRule (under IsType n)

abbrev pub type_pair : ℕ → TypeLevel → Pair TypeExpr
type_pair d level i = type_at (limits d (beyond d) i) level

abbrev pub a_name : Token
a_name = of_kind kind.Name

-- ---- depth

bracket_depth : (p : ℕ × (TypeExpr × Option (TypeExpr × Token))) → type_depth (bracket_type p) ≡ max 1 (deeper (so_deep type_depth) (if_there (deeper (so_deep type_depth) flat)) p.1)
bracket_depth (at, (t, None)) = omega arith
bracket_depth (at, (k, Some (v, word))) = omega arith

tuple_depth : (p : TypeExpr × List TypeExpr) → type_depth (tuple_type p) ≡ tailed type_depth (deepest (so_deep type_depth)) are_many p
tuple_depth (t, []) = omega arith
tuple_depth (t, u ∷ more) = let i = deepest_inside type_depth u more in omega (arith, i)

brackets_count : (p : ℕ × (TypeExpr × Option (TypeExpr × Token))) → 1 ≤ type_depth (bracket_type p)
brackets_count p = let i = bracket_depth p in omega (arith, i)

tuples_count : (p : TypeExpr × List TypeExpr) → 1 ≤ type_depth p.0 → 1 ≤ type_depth (tuple_type p)
tuples_count p le = let i = tuple_depth p in let j = tailed_first p in omega (arith, i, j, le) where
  tailed_first : (p : TypeExpr × List TypeExpr) → type_depth p.0 ≤ tailed type_depth (deepest (so_deep type_depth)) are_many p
  tailed_first (t, []) = omega arith
  tailed_first (t, u ∷ more) = omega arith

posts_count : (n : ℕ) → Positive type_depth (Types Post n)
posts_count n = chain_positive postfixed _ (λ b a. omega arith) (either_positive (made_positive type_depth bracket_type _ brackets_count) (made_positive type_depth type_name _ (λ t. omega arith)))

types_count : (level : TypeLevel) (n : ℕ) → Positive type_depth (Types level n)
types_count Post n = posts_count n
types_count Tuple n = both_positive type_depth tuple_type _ tuples_count (posts_count n)

pub no_type : (level : TypeLevel) (n : ℕ) (ts : Tokens) (a : TypeExpr) (rest : Tokens) → Types level n ts a rest → type_depth a ≤ 0 → ⊥
no_type level n ts a rest r le = let i = types_count level n ts a rest r in absurd (omega (arith, i, le))

-- ---- the least type, and what it begins with

abbrev pub type_least : (d : ℕ) (level : TypeLevel) → Least (type_at (suc d) level) type_firsts false (type_ext level)
type_least d Post = least_widened type_firsts postfix_kinds (chain_least type_depth (suc d) postfixed postfix_kinds (token postfix_kinds) []
    (either_least (bracket_type_rule (type_at d Tuple)) (kind.OpenParen ∷ []) [] (made_least type_name (token_least expected.TypeExpr name_kinds a_name refl)) refl) refl) refl refl
type_least d Tuple = least_widened type_firsts (kind.Star ∷ postfix_kinds) (made_least tuple_type (both_least (before_least type_depth (suc d) (kind.Star ∷ []) (chain_least type_depth (suc d) postfixed postfix_kinds (token postfix_kinds) []
    (either_least (bracket_type_rule (type_at d Tuple)) (kind.OpenParen ∷ []) [] (made_least type_name (token_least expected.TypeExpr name_kinds a_name refl)) refl) refl))
    (repeated_least (key kind.Star (type_at d Post)) (kind.Star ∷ []) []) refl)) refl refl

post_refuses : (d : ℕ) → Refuses (post_type_rule d (type_at d Tuple)) expected.TypeExpr type_firsts
post_refuses d = chain_refuses type_depth (suc d) postfixed postfix_kinds (token postfix_kinds) (either_refuses (bracket_type_rule (type_at d Tuple)) (kind.OpenParen ∷ []) (made_refuses type_name (token_refuses expected.TypeExpr name_kinds)))

type_refuses : (d : ℕ) (level : TypeLevel) → Refuses (type_at (suc d) level) expected.TypeExpr type_firsts
type_refuses d Post = post_refuses d
type_refuses d Tuple = made_refuses tuple_type (both_refuses (repeated (kind.Star ∷ []) (key kind.Star (type_at d Post))) (before_refuses type_depth (suc d) (kind.Star ∷ []) (post_refuses d)))

-- what ends brackets with one type
abbrev bracket_end : (d : ℕ) → Least (either (kind.Comma ∷ []) (made Some (key kind.Comma (both (type_at (beyond d) Tuple) (key kind.CloseParen (token map_kinds))))) (made (λ t. None) (token (kind.CloseParen ∷ []))))
    (kind.Comma ∷ kind.CloseParen ∷ []) false []
bracket_end d = either_least (made Some (key kind.Comma (both (type_at (beyond d) Tuple) (key kind.CloseParen (token map_kinds))))) (kind.Comma ∷ []) []
    (made_least (λ t. None) (token_least expected.Token (kind.CloseParen ∷ []) (of_kind kind.CloseParen) refl)) refl

bracket_completes : (d : ℕ) → Completes (bracket_type_rule (type_at (suc d) Tuple)) (kind.OpenParen ∷ []) []
bracket_completes d = made_completes bracket_type (from_completes kind.OpenParen (both_least (type_least d Tuple)
    (either_least (made Some (key kind.Comma (both (type_at (suc d) Tuple) (key kind.CloseParen (token map_kinds))))) (kind.Comma ∷ []) []
    (made_least (λ t. None) (token_least expected.Token (kind.CloseParen ∷ []) (of_kind kind.CloseParen) refl)) refl) refl))

post_completes : (d : ℕ) → Completes (post_type_rule (suc d) (type_at (suc d) Tuple)) type_firsts postfix_kinds
post_completes d = completes_widened type_firsts postfix_kinds (chain_completes type_depth (suc (suc d)) postfixed postfix_kinds (token postfix_kinds) []
    (either_completes (bracket_completes d) (made_completes type_name (token_completes expected.TypeExpr name_kinds)))) refl refl

type_completes : (d : ℕ) (level : TypeLevel) → Completes (type_at (suc (suc d)) level) type_firsts (type_ext level)
type_completes d Post = post_completes d
type_completes d Tuple = completes_widened type_firsts (kind.Star ∷ postfix_kinds) (made_completes tuple_type (both_completes (before_completes type_depth (suc (suc d)) (kind.Star ∷ []) (post_completes d))
    (repeated_least (key kind.Star (type_at (suc d) Post)) (kind.Star ∷ []) []) refl)) refl refl

-- ---- the laws

module _ (S : Standing) (any : (t : Token) (r : Tokens) → S expected.Token (t ∷ r)) (a_type : (r : Tokens) → S expected.TypeExpr (a_name ∷ r)) where
  module _ (d : ℕ) (inner : (level : TypeLevel) → Law S (Types level) type_depth d (type_pair d level) type_firsts false (type_ext level) (type_ext level)) where
    -- a type further inside
    pub type_inside : Law S (under IsType) (so_deep type_depth) (suc d) (type_pair d Tuple) type_firsts false (type_ext Tuple) (type_ext Tuple)
    type_inside = under_law IsType (λ ts a rest r. r) (λ n ts a rest r. r) (λ n ts a rest r. r) (no_type Tuple) (inner Tuple)

    bracket_law : Law S (λ n. BracketType (under IsType n)) type_depth (suc d) (λ i. bracket_type_rule (type_pair d Tuple i)) (kind.OpenParen ∷ []) false [] []
    bracket_law =
        let kinds = token_law S (suc d) expected.Token map_kinds (of_kind kind.Map) refl refl (any (of_kind kind.Map)) in
        let kinds_least = key_least kind.CloseParen (token_least expected.Token map_kinds (of_kind kind.Map) refl) in
        let value = both_law type_inside (key_law S any (suc d) kind.CloseParen kinds (token_least expected.Token map_kinds (of_kind kind.Map) refl)) kinds_least refl refl in
        let behind = either_law (some_law (key_law S any (suc d) kind.Comma value (both_least (type_least (suc (suc (suc d))) Tuple) kinds_least refl)))
        (none_law (deeper (so_deep type_depth) flat) (word_law S any (suc d) kind.CloseParen)) refl in
        widened (kind.OpenParen ∷ []) [] [] (node_law bracket_type type_depth bracket_depth (from_law S any (suc d) kind.OpenParen (both_law type_inside behind (bracket_end d) refl refl) (both_least (type_least (suc (suc (suc d))) Tuple) (bracket_end d) refl))) refl refl refl refl

    post_law : Law S (Types Post) type_depth (suc d) (type_pair (suc d) Post) type_firsts false postfix_kinds postfix_kinds
    post_law = read_alike (type_pair (suc d) Post) (λ ts. refl) (λ ts. refl) (widened type_firsts postfix_kinds postfix_kinds (chain_law (beyond (suc d)) postfixed (omega arith) (λ b a. omega arith)
        (either_law bracket_law (made_law type_name type_depth (suc d) (omega arith) (λ a le. omega arith) (λ a le. omega arith) (token_law S (suc d) expected.TypeExpr name_kinds a_name refl refl a_type)) refl)
        (token_law S (suc d) expected.Token postfix_kinds (of_kind kind.List) refl refl (any (of_kind kind.List))) refl refl refl (token_completes expected.Token postfix_kinds)) refl refl refl refl)

    tuple_law : Law S (Types Tuple) type_depth (suc d) (type_pair (suc d) Tuple) type_firsts false (kind.Star ∷ postfix_kinds) (kind.Star ∷ postfix_kinds)
    tuple_law = read_alike (type_pair (suc d) Tuple) (λ ts. refl) (λ ts. refl) (widened type_firsts (kind.Star ∷ postfix_kinds) (kind.Star ∷ postfix_kinds) (exact_law tuple_type type_depth tuple_depth
        (tailed_law (beyond (suc d)) are_many (omega arith) post_law (repeated_law (key_law S any (suc d) kind.Star (inner_law (inner Post)) (type_least (suc (suc (suc d))) Post)) refl refl)
        (repeated_tail _ (key_pair kind.Star (type_pair d Post)) (kind.Star ∷ []) _ _ refl refl) (repeated_completes (key_completes kind.Star (type_least (suc (suc (suc d))) Post))) refl)) refl refl refl refl)

    step : (level : TypeLevel) → Law S (Types level) type_depth (suc d) (type_pair (suc d) level) type_firsts false (type_ext level) (type_ext level)
    step Post = post_law
    step Tuple = tuple_law

  pub type_law : (d : ℕ) (level : TypeLevel) → Law S (Types level) type_depth d (type_pair d level) type_firsts false (type_ext level) (type_ext level)
  type_law zero level = read_alike (type_pair 0 level) (λ ts. refl) (λ ts. refl) (deep_law S (Types level) type_depth (type_at 4 level) expected.TypeExpr type_firsts (type_ext level) (type_ext level)
      (no_type level) refl (type_least 3 level) (type_refuses 3 level) (type_completes 2 level) (stands level)) where
        stands : (level : TypeLevel) (r : Tokens) → S expected.TypeExpr ((type_least 3 level).word ++ r)
        stands Post r = a_type r
        stands Tuple r = a_type r
  type_law (suc d) level = step d (type_law d) level
