-- The laws of expressions and arms.
use Rattle.std.proofs.Common.{◌≡◌, ℕ, zero, suc, false, [], ◌∷◌, ◌++◌, refl, arith, Some, None}
use Rattle.ligo_tokens.specs.declared.token.Token.{Token}
use Rattle.ligo_tokens.specs.declared.token.Kind.TheVariants as kind
use Rattle.ligo_syntax.specs.declared.fault.Expected.TheVariants as expected
use Rattle.ligo_syntax.specs.declared.type_expr.TypeExpr.{TypeExpr}
use Rattle.ligo_syntax.specs.declared.pattern.Pattern.{Pattern}
use Rattle.ligo_syntax.specs.declared.expr.Expr.{Expr}
use Rattle.ligo_syntax.specs.declared.expr.Operator.TheVariants as operator
use Rattle.ligo_syntax.specs.declared.expr.Arm.{Arm}
use Rattle.ligo_syntax.specs.Kinds.{Tokens, has}
use Rattle.ligo_syntax.specs.Classes.{leaf_kinds, link_kinds, product_kinds, sum_kinds, comparison_kinds, atom_firsts, op_firsts, condition_firsts, expr_firsts, arm_firsts, type_firsts}
use Rattle.ligo_syntax.specs.Rules.{Rule, Greed, greedy}
use Rattle.ligo_syntax.specs.Readers.{Reader, both, made}
use Rattle.ligo_syntax.specs.Phrases.{optional, key, closed, listed}
use Rattle.ligo_syntax.specs.Depth.{type_depth, expr_depth, arm_depth, if_there}
use Rattle.ligo_syntax.specs.AtomTrees.{leaf_expr, dotted, paren_expr, list_expr, brace_expr, upper_expr}
use Rattle.ligo_syntax.specs.ExprTrees.{applied, negated, binary, maybe_binary, tuple_expr, if_expr, match_expr, let_expr, arm_of}
use Rattle.ligo_syntax.specs.TypeGrammar.{PatternRule, IsType, IsPattern}
use Rattle.ligo_syntax.specs.AtomGrammar.{Form, Whole, Part, Condition, Disjunction, Conjunction, Comparison, Joined, Consed, Sum, Product, Unary, Application, Atom, ParenRule, SquareRule, BraceRule, UpperRule}
use Rattle.ligo_syntax.specs.ExprGrammar.{IfRule, TupleRule, MatchRule, LetRule}
use Rattle.ligo_syntax.specs.TypeReading.{token, Several, Tuple, read_type}
use Rattle.ligo_syntax.specs.AtomReading.{paren_rule, square_rule, brace_rule, upper_rule}
use Rattle.ligo_syntax.specs.ExprReading.{if_rule, tuple_rule, match_rule, let_rule, firsts_of, form_at, arm_at}
use Rattle.ligo_syntax.proofs.RuleLaws.{Standing, Rules, Pair, Law, Least, token_law, token_least, made_law, made_least}
use Rattle.ligo_syntax.proofs.Sequences.{deeper, both_law, both_least}
use Rattle.ligo_syntax.proofs.Choices.{either_law, either_first}
use Rattle.ligo_syntax.proofs.Loops.{repeated_law, as_many_law, repeated_least}
use Rattle.ligo_syntax.proofs.Deep.{widened, deep_law, Refuses, made_refuses, both_refuses}
use Rattle.ligo_syntax.proofs.Words.{of_kind, word_law, key_law, from_law, closed_law, optional_law, if_it_can_law, key_least, closed_least, optional_least, key_pair}
use Rattle.ligo_syntax.proofs.Moves.{inner_law, under}
use Rattle.ligo_syntax.proofs.Links.{limits, chain_law}
use Rattle.ligo_syntax.proofs.Tailed.{tailed_law, are_many, is_some, repeated_tail, as_many_tail, optional_tail}
use Rattle.ligo_syntax.proofs.Semicolons.{with_marks, listed_law}
use Rattle.ligo_syntax.proofs.Completions.{token_completes, both_completes, completes_widened, repeated_completes, optional_completes, key_completes}
use Rattle.ligo_syntax.proofs.Nodes.{beyond, so_deep, node_law, exact_law, some_law, none_law, read_alike}
use Rattle.ligo_syntax.proofs.TypeLaws.{a_name, type_ext, type_least, type_law, type_inside, type_pair}
use Rattle.ligo_syntax.proofs.PatternLaws.{pattern_least, pattern_law, pattern_inside, arm_pattern_law, arm_pattern_refuses}
use Rattle.ligo_syntax.proofs.UpperLaws.{upper_link_law}
use Rattle.ligo_syntax.proofs.ExprDepths.{Exprs, Arms, inner, upper_depth, paren_deep, list_depth, brace_depth, applied_depth, negated_depth, binary_grows, dotted_grows, maybe_depth, tuple_depth, if_depth, arm_deep, match_depth, let_depth, no_expr, no_arm}
use Rattle.ligo_syntax.proofs.ExprLeasts.{a_number, atom_ext, application_ext, product_ext, sum_ext, consed_ext, joined_ext, comparison_ext, conjunction_ext, op_ext, all_ext, expr_ext, expr_all, expr_least, arm_least, form_refuses}
use Rattle.ligo_syntax.proofs.ExprCompletes.{brace_least, expr_completes, arm_completes}
use Rattle.ligo_syntax.proofs.BraceLaws.{expr_pair, expr_inside, inside_law}
use Rattle.ligo_syntax.proofs.Names.{Inside}

abbrev pub arm_pair : ℕ → Pair Arm
arm_pair d i = arm_at (limits d (beyond d) i)

-- a rule of expressions, with what stands in it further inside
abbrev Of : (Greed → Rule TypeExpr → Rule Pattern → Rule Pattern → (Form → Rule Expr) → Rule Expr) → Rules Expr
Of R n = R greedy (under IsType n) (under IsPattern n) (PatternRule (under IsPattern n)) (λ g. Inside g n)

abbrev pair : (ℕ → (Form → Reader Expr) → Reader Arm → Reader Expr) → ℕ → Pair Expr
pair p d i = p (limits d (beyond d) i) (form_at (limits d (beyond d) i)) (arm_at (limits d (beyond d) i))

module _ (S : Standing) (any : (t : Token) (r : Tokens) → S expected.Token (t ∷ r)) (a_type : (r : Tokens) → S expected.TypeExpr (a_name ∷ r)) (a_pattern : (r : Tokens) → S expected.Pattern (a_name ∷ r))
    (an_arm : (r : Tokens) → S expected.Pattern (a_name ∷ of_kind kind.Cons ∷ a_name ∷ r)) (an_expr : (r : Tokens) → S expected.Expression (a_number ∷ r)) where
  module _ (d : ℕ) (forms : (f : Form) → Law S (Exprs f) expr_depth d (expr_pair d f) (firsts_of f) false (expr_ext f) (expr_all f)) (arms : Law S Arms arm_depth d (arm_pair d) arm_firsts false op_ext all_ext) where
    inside : (f : Form) → Law S (Inside f) inner (suc d) (expr_pair d f) (firsts_of f) false (expr_ext f) (expr_all f)
    inside = expr_inside S any d forms

    beside : (f : Form) → Law S (Exprs f) inner (suc d) (expr_pair d f) (firsts_of f) false (expr_ext f) (expr_all f)
    beside f = inner_law (forms f)

    abbrev least : (f : Form) → Least (form_at (beyond d) f) (firsts_of f) false (expr_all f)
    least f = expr_least (suc (suc (suc d))) f

    abbrev a_least_type : Least (read_type (beyond d)) type_firsts false (type_ext Tuple)
    a_least_type = type_least (suc (suc (suc d))) Tuple

    types : Law S (under IsType) (so_deep type_depth) (suc d) (type_pair d Tuple) type_firsts false (type_ext Tuple) (type_ext Tuple)
    types = type_inside S any a_type d (type_law S any a_type d)

    paren_law : Law S (Of ParenRule) expr_depth (suc d) (pair paren_rule d) (kind.OpenParen ∷ []) false [] []
    paren_law =
        let annotated = both_law (inside Whole) (optional_law (key_law S any (suc d) kind.Colon types a_least_type) refl) (optional_least (key kind.Colon (read_type (beyond d))) (kind.Colon ∷ []) (type_ext Tuple) refl) refl refl in
        widened (kind.OpenParen ∷ []) [] [] (node_law paren_expr expr_depth paren_deep (from_law S any (suc d) kind.OpenParen
        (either_law (none_law (deeper inner (if_there (so_deep type_depth))) (word_law S any (suc d) kind.CloseParen)) (some_law (closed_law S any (suc d) kind.CloseParen annotated refl refl)) refl)
        (either_first (made Some (closed (both (form_at (beyond d) Whole) (optional (kind.Colon ∷ []) (key kind.Colon (read_type (beyond d))))) kind.CloseParen)) expr_firsts false []
        (made_least (λ t. None) (token_least expected.Token (kind.CloseParen ∷ []) (of_kind kind.CloseParen) refl))))) refl refl refl refl

    square_law : Law S (Of SquareRule) expr_depth (suc d) (pair square_rule d) (kind.OpenSquare ∷ []) false [] []
    square_law = widened (kind.OpenSquare ∷ []) [] [] (node_law list_expr expr_depth list_depth (from_law S any (suc d) kind.OpenSquare
        (closed_law S any (suc d) kind.CloseSquare (optional_law (listed_law (inside Whole) refl refl) refl) refl refl)
        (closed_least kind.CloseSquare (optional_least (listed expr_firsts (form_at (beyond d) Whole)) expr_firsts (with_marks expr_firsts all_ext ++ all_ext) refl) refl))) refl refl refl refl

    brace_law : Law S (Of BraceRule) expr_depth (suc d) (pair brace_rule d) (kind.OpenBrace ∷ []) false [] []
    brace_law = widened (kind.OpenBrace ∷ []) [] [] (node_law brace_expr expr_depth brace_depth (from_law S any (suc d) kind.OpenBrace
        (closed_law S any (suc d) kind.CloseBrace (inside_law S any d forms) refl refl) (closed_least kind.CloseBrace (brace_least (suc (suc d))) refl))) refl refl refl refl

    upper_law : Law S (Of UpperRule) expr_depth (suc d) (pair upper_rule d) (kind.Upper ∷ []) false [] (kind.Dot ∷ [])
    upper_law = widened (kind.Upper ∷ []) [] (kind.Dot ∷ []) (node_law upper_expr expr_depth upper_depth (both_law (word_law S any (suc d) kind.Upper)
        (if_it_can_law (key_law S any (suc d) kind.Dot (inner_law (upper_link_law S any d)) (token_least expected.Token link_kinds a_name refl)) refl)
        (optional_least (key kind.Dot (token link_kinds)) (kind.Dot ∷ []) [] refl) refl refl)) refl refl refl refl

    atom_law : Law S (Exprs Atom) expr_depth (suc d) (expr_pair (suc d) Atom) atom_firsts false atom_ext atom_ext
    atom_law = read_alike (expr_pair (suc d) Atom) (λ ts. refl) (λ ts. refl) (widened atom_firsts atom_ext atom_ext (chain_law (beyond (suc d)) dotted (omega arith) dotted_grows
        (either_law paren_law (either_law square_law (either_law brace_law (either_law upper_law
        (made_law leaf_expr expr_depth (suc d) (omega arith) (λ a le. omega arith) (λ a le. omega arith) (token_law S (suc d) expected.Expression leaf_kinds a_number refl refl an_expr)) refl) refl) refl) refl)
        (key_law S any (suc d) kind.Dot (token_law S (suc d) expected.Token link_kinds a_name refl refl (any a_name)) (token_least expected.Token link_kinds a_name refl)) refl refl refl
        (key_completes kind.Dot (token_least expected.Token link_kinds a_name refl))) refl refl refl refl)

    application_law : Law S (Exprs Application) expr_depth (suc d) (expr_pair (suc d) Application) atom_firsts false application_ext application_ext
    application_law = read_alike (expr_pair (suc d) Application) (λ ts. refl) (λ ts. refl) (widened atom_firsts application_ext application_ext (exact_law applied expr_depth applied_depth
        (tailed_law (beyond (suc d)) are_many (omega arith) atom_law (repeated_law (beside Atom) refl refl) (repeated_tail _ (expr_pair d Atom) atom_firsts _ _ refl refl) (repeated_completes (expr_completes (suc d) Atom)) refl)) refl refl refl refl)

    unary_law : Law S (Exprs Unary) expr_depth (suc d) (expr_pair (suc d) Unary) op_firsts false application_ext application_ext
    unary_law = read_alike (expr_pair (suc d) Unary) (λ ts. refl) (λ ts. refl) (widened op_firsts application_ext application_ext (either_law
        (node_law negated expr_depth negated_depth (from_law S any (suc d) kind.Minus (inside Unary) (least Unary))) application_law refl) refl refl refl refl)

    product_law : Law S (Exprs Product) expr_depth (suc d) (expr_pair (suc d) Product) op_firsts false product_ext product_ext
    product_law = read_alike (expr_pair (suc d) Product) (λ ts. refl) (λ ts. refl) (widened op_firsts product_ext product_ext (chain_law (beyond (suc d)) binary (omega arith) binary_grows unary_law
        (both_law (token_law S (suc d) expected.Token product_kinds (of_kind kind.Star) refl refl (any (of_kind kind.Star))) (beside Unary) (least Unary) refl refl) refl refl refl
        (both_completes (token_completes expected.Token product_kinds) (least Unary) refl)) refl refl refl refl)

    sum_law : Law S (Exprs Sum) expr_depth (suc d) (expr_pair (suc d) Sum) op_firsts false sum_ext sum_ext
    sum_law = read_alike (expr_pair (suc d) Sum) (λ ts. refl) (λ ts. refl) (widened op_firsts sum_ext sum_ext (chain_law (beyond (suc d)) binary (omega arith) binary_grows product_law
        (both_law (token_law S (suc d) expected.Token sum_kinds (of_kind kind.Plus) refl refl (any (of_kind kind.Plus))) (beside Product) (least Product) refl refl) refl refl refl
        (both_completes (token_completes expected.Token sum_kinds) (least Product) refl)) refl refl refl refl)

    consed_law : Law S (Exprs Consed) expr_depth (suc d) (expr_pair (suc d) Consed) op_firsts false consed_ext consed_ext
    consed_law = read_alike (expr_pair (suc d) Consed) (λ ts. refl) (λ ts. refl) (widened op_firsts consed_ext consed_ext (exact_law (maybe_binary operator.Cons) expr_depth (maybe_depth operator.Cons)
        (tailed_law (beyond (suc d)) is_some (omega arith) sum_law (optional_law (key_law S any (suc d) kind.Cons (inside Consed) (least Consed)) refl) (optional_tail _ (key_pair kind.Cons (expr_pair d Consed)) (kind.Cons ∷ []) consed_ext consed_ext refl refl)
        (completes_widened (kind.Cons ∷ []) _ (optional_completes (key_completes kind.Cons (least Consed))) refl refl) refl)) refl refl refl refl)

    joined_law : Law S (Exprs Joined) expr_depth (suc d) (expr_pair (suc d) Joined) op_firsts false joined_ext joined_ext
    joined_law = read_alike (expr_pair (suc d) Joined) (λ ts. refl) (λ ts. refl) (widened op_firsts joined_ext joined_ext (exact_law (maybe_binary operator.Join) expr_depth (maybe_depth operator.Join)
        (tailed_law (beyond (suc d)) is_some (omega arith) consed_law (optional_law (key_law S any (suc d) kind.Caret (inside Joined) (least Joined)) refl) (optional_tail _ (key_pair kind.Caret (expr_pair d Joined)) (kind.Caret ∷ []) joined_ext joined_ext refl refl)
        (completes_widened (kind.Caret ∷ []) _ (optional_completes (key_completes kind.Caret (least Joined))) refl refl) refl)) refl refl refl refl)

    comparison_law : Law S (Exprs Comparison) expr_depth (suc d) (expr_pair (suc d) Comparison) op_firsts false comparison_ext comparison_ext
    comparison_law = read_alike (expr_pair (suc d) Comparison) (λ ts. refl) (λ ts. refl) (widened op_firsts comparison_ext comparison_ext (chain_law (beyond (suc d)) binary (omega arith) binary_grows joined_law
        (both_law (token_law S (suc d) expected.Token comparison_kinds (of_kind kind.Equals) refl refl (any (of_kind kind.Equals))) (beside Joined) (least Joined) refl refl) refl refl refl
        (both_completes (token_completes expected.Token comparison_kinds) (least Joined) refl)) refl refl refl refl)

    conjunction_law : Law S (Exprs Conjunction) expr_depth (suc d) (expr_pair (suc d) Conjunction) op_firsts false conjunction_ext conjunction_ext
    conjunction_law = read_alike (expr_pair (suc d) Conjunction) (λ ts. refl) (λ ts. refl) (widened op_firsts conjunction_ext conjunction_ext (chain_law (beyond (suc d)) binary (omega arith) binary_grows comparison_law
        (both_law (word_law S any (suc d) kind.And) (beside Comparison) (least Comparison) refl refl) refl refl refl
        (both_completes (token_completes expected.Token (kind.And ∷ [])) (least Comparison) refl)) refl refl refl refl)

    disjunction_law : Law S (Exprs Disjunction) expr_depth (suc d) (expr_pair (suc d) Disjunction) op_firsts false op_ext op_ext
    disjunction_law = read_alike (expr_pair (suc d) Disjunction) (λ ts. refl) (λ ts. refl) (widened op_firsts op_ext op_ext (chain_law (beyond (suc d)) binary (omega arith) binary_grows conjunction_law
        (both_law (word_law S any (suc d) kind.Or) (beside Conjunction) (least Conjunction) refl refl) refl refl refl
        (both_completes (token_completes expected.Token (kind.Or ∷ [])) (least Conjunction) refl)) refl refl refl refl)

    if_law : Law S (Of IfRule) expr_depth (suc d) (pair if_rule d) (kind.If ∷ []) false op_ext all_ext
    if_law =
        let ending = optional_least (key kind.Else (form_at (beyond d) Part)) (kind.Else ∷ []) all_ext refl in
        let parts = both_law (key_law S any (suc d) kind.Then (inside Part) (least Part)) (if_it_can_law (key_law S any (suc d) kind.Else (inside Part) (least Part)) refl) ending refl refl in
        let parts_least = both_least (key_least kind.Then (least Part)) ending refl in
        widened (kind.If ∷ []) op_ext all_ext (node_law if_expr expr_depth if_depth (from_law S any (suc d) kind.If (both_law (inside Whole) parts parts_least refl refl) (both_least (least Whole) parts_least refl))) refl refl refl refl

    condition_law : Law S (Exprs Condition) expr_depth (suc d) (expr_pair (suc d) Condition) condition_firsts false op_ext all_ext
    condition_law = read_alike (expr_pair (suc d) Condition) (λ ts. refl) (λ ts. refl) (widened condition_firsts op_ext all_ext (either_law if_law disjunction_law refl) refl refl refl refl)

    tuple_law : Law S (Of TupleRule) expr_depth (suc d) (λ i. tuple_rule (limits d (beyond d) i) (form_at (limits d (beyond d) i)) (arm_at (limits d (beyond d) i))) condition_firsts false op_ext all_ext
    tuple_law = read_alike (pair tuple_rule d) (λ ts. refl) (λ ts. refl) (widened condition_firsts op_ext all_ext (exact_law tuple_expr expr_depth tuple_depth
        (tailed_law (beyond (suc d)) are_many (omega arith) condition_law (as_many_law (key_law S any (suc d) kind.Comma (beside Condition) (least Condition)) refl refl) (as_many_tail _ (key_pair kind.Comma (expr_pair d Condition)) (kind.Comma ∷ []) _ _ refl refl)
        (repeated_completes (key_completes kind.Comma (least Condition))) refl)) refl refl refl refl)

    match_law : Law S (Of MatchRule) expr_depth (suc d) (pair match_rule d) (kind.Match ∷ []) false op_ext all_ext
    match_law =
        let one = inner_law arms in
        let one_least = arm_least (suc (suc d)) in
        let further = repeated_least (key kind.Bar (arm_at (beyond d))) (kind.Bar ∷ []) all_ext in
        let all = both_law one (as_many_law (key_law S any (suc d) kind.Bar one one_least) refl refl) further refl refl in
        let all_least = both_least one_least further refl in
        let behind = both_law (optional_law (word_law S any (suc d) kind.Bar) refl) all all_least refl refl in
        let behind_least = both_least (optional_least (token (kind.Bar ∷ [])) (kind.Bar ∷ []) [] refl) all_least refl in
        widened (kind.Match ∷ []) op_ext all_ext (node_law match_expr expr_depth match_depth (from_law S any (suc d) kind.Match (both_law (inside Whole) (key_law S any (suc d) kind.With behind behind_least) (key_least kind.With behind_least) refl refl)
        (both_least (least Whole) (key_least kind.With behind_least) refl))) refl refl refl refl

    let_law : Law S (Of LetRule) expr_depth (suc d) (pair let_rule d) (kind.Let ∷ []) false op_ext all_ext
    let_law =
        let bound = both_law (key_law S any (suc d) kind.Equals (inside Whole) (least Whole)) (key_law S any (suc d) kind.In (inside Whole) (least Whole)) (key_least kind.In (least Whole)) refl refl in
        let bound_least = both_least (key_least kind.Equals (least Whole)) (key_least kind.In (least Whole)) refl in
        let typed = both_law (optional_law (key_law S any (suc d) kind.Colon types a_least_type) refl) bound bound_least refl refl in
        let typed_least = both_least (optional_least (key kind.Colon (read_type (beyond d))) (kind.Colon ∷ []) (type_ext Tuple) refl) bound_least refl in
        widened (kind.Let ∷ []) op_ext all_ext (node_law let_expr expr_depth let_depth (from_law S any (suc d) kind.Let
        (both_law (pattern_inside S any a_pattern d (pattern_law S any a_pattern d)) typed typed_least refl refl) (both_least (pattern_least (suc (suc (suc d))) Several) typed_least refl))) refl refl refl refl

    step : (f : Form) → Law S (Exprs f) expr_depth (suc d) (expr_pair (suc d) f) (firsts_of f) false (expr_ext f) (expr_all f)
    step Whole = read_alike (expr_pair (suc d) Whole) (λ ts. refl) (λ ts. refl) (widened expr_firsts op_ext all_ext (either_law let_law (either_law match_law tuple_law refl) refl) refl refl refl refl)
    step Part = read_alike (expr_pair (suc d) Part) (λ ts. refl) (λ ts. refl) (widened expr_firsts op_ext all_ext (either_law let_law (either_law match_law condition_law refl) refl) refl refl refl refl)
    step Condition = condition_law
    step Disjunction = disjunction_law
    step Conjunction = conjunction_law
    step Comparison = comparison_law
    step Joined = joined_law
    step Consed = consed_law
    step Sum = sum_law
    step Product = product_law
    step Unary = unary_law
    step Application = application_law
    step Atom = atom_law

    arm_step : Law S Arms arm_depth (suc d) (arm_pair (suc d)) arm_firsts false op_ext all_ext
    arm_step = read_alike (arm_pair (suc d)) (λ ts. refl) (λ ts. refl) (widened arm_firsts op_ext all_ext (node_law arm_of arm_depth arm_deep (both_law (inner_law (arm_pattern_law S any a_pattern an_arm d))
        (key_law S any (suc d) kind.Arrow (inside Whole) (least Whole)) (key_least kind.Arrow (least Whole)) refl refl)) refl refl refl refl)

  -- all laws at one depth
  pub record RingLaw (d : ℕ) : Type 0 where
    pub forms : (f : Form) → Law S (Exprs f) expr_depth d (expr_pair d f) (firsts_of f) false (expr_ext f) (expr_all f)
    pub arms : Law S Arms arm_depth d (arm_pair d) arm_firsts false op_ext all_ext

  -- where no depth is left
  no_form : (f : Form) → Law S (Exprs f) expr_depth 0 (expr_pair 0 f) (firsts_of f) false (expr_ext f) (expr_all f)
  no_form f = read_alike (expr_pair 0 f) (λ ts. refl) (λ ts. refl) (deep_law S (Exprs f) expr_depth (form_at 4 f) expected.Expression (firsts_of f) (expr_ext f) (expr_all f)
      (no_expr f) (not_end f) (expr_least 3 f) (form_refuses 3 (form_at 3) (arm_at 3) f) (expr_completes 1 f) (stands f)) where
        not_end : (f : Form) → has (firsts_of f) 0 ≡ false
        not_end Whole = refl
        not_end Part = refl
        not_end Condition = refl
        not_end Application = refl
        not_end Atom = refl
        not_end f = refl

        stands : (f : Form) (r : Tokens) → S expected.Expression ((expr_least 3 f).word ++ r)
        stands Whole r = an_expr r
        stands f r = an_expr r

  no_arm_law : Law S Arms arm_depth 0 (arm_pair 0) arm_firsts false op_ext all_ext
  no_arm_law = read_alike (arm_pair 0) (λ ts. refl) (λ ts. refl) (deep_law S Arms arm_depth (arm_at 4) expected.Pattern arm_firsts op_ext all_ext no_arm refl (arm_least 2) arm_refuses (arm_completes 2)
      (λ r. an_arm (of_kind kind.Arrow ∷ a_number ∷ r))) where
        arm_refuses : Refuses (arm_at 4) expected.Pattern arm_firsts
        arm_refuses = made_refuses arm_of (both_refuses (key kind.Arrow (form_at 3 Whole)) (arm_pattern_refuses 2))

  pub ring_law : (d : ℕ) → RingLaw d
  ring_law zero = record { forms = no_form; arms = no_arm_law }
  ring_law (suc d) = record { forms = step d (ring_law d).forms (ring_law d).arms; arms = arm_step d (ring_law d).forms (ring_law d).arms }
