-- The gap and the token in front are the first of the tokens that are left.
use Rattle.std.proofs.Common.{◌≡◌, ℕ, ◌∷◌, length, drop, ◌+◌, ◌-◌, ap, sym, ◌∙◌}
use Rattle.micheline_text.specs.Gaps.{gap_from}
use Rattle.micheline_text.specs.Grammar.{Tokens}
use Rattle.micheline_text.specs.Lexing.{token_at, tokens_of}
use Rattle.micheline_text.specs.declared.token.Token.{Token}
use Rattle.micheline_text.specs.declared.gap.Gap.TheVariants as gap
use Rattle.micheline_text.specs.declared.gap.Mode.TheVariants as mode
use Rattle.micheline_text.proofs.TokensLemmas.{no_token, comment_step, token_step}
use Rattle.micheline_text.proofs.reader.next.Goals as goal

pub returns-in-End-clause-token : goal.returns-in-End-clause-token
returns-in-End-clause-token c =
    let ended : gap_from mode.Between (drop c.args.at c.args.b.now) ≡ gap.End = cc in
    no_token c.args.at (drop c.args.at c.args.b.now) ended

pub returns-in-Comment-clause-token : goal.returns-in-Comment-clause-token
returns-in-Comment-clause-token c =
    let open_there : gap_from mode.Between (drop c.args.at c.args.b.now) ≡ gap.Comment c.in-Comment.left = cc in
    comment_step c.args.b.now c.args.at c.in-Comment.left c.requires open_there

pub returns-in_ok-token-in-Token-clause-token : goal.returns-in_ok-token-in-Token-clause-token
returns-in_ok-token-in-Token-clause-token c =
    let there : gap_from mode.Between (drop c.args.at c.args.b.now) ≡ gap.Token c.in-Token.left = cc in
    let found : (c.in_ok-token-in-Token.token, c.in_ok-token-in-Token.taken) ≡ token_at (drop (length c.args.b.now - c.in-Token.left) c.args.b.now) = c.in_ok-token-in-Token.ensures.token ∙ ap token_at c.rest_from.ensures in
    let step = token_step c.args.b.now c.args.at c.in-Token.left c.requires there in
    let from = length c.args.b.now - c.in-Token.left in
    let behind : Token × ℕ → Tokens = λ x. (from, x.0) ∷ tokens_of (from + x.1) (drop (from + x.1) c.args.b.now) in
    step ∙ ap behind (sym found)
