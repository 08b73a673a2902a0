-- The gap and the token in front are the first of the tokens that are left.
use Rattle.std.proofs.Common.{◌≡◌, List, ◌∷◌, length, drop, ◌+◌, ◌-◌, ap, sym, ◌∙◌}
use Rattle.ligo_tokens.specs.Gaps.{gap_from}
use Rattle.ligo_tokens.specs.Lexing.{front, placed, tokens_of}
use Rattle.ligo_tokens.specs.declared.token.Token.{Token}
use Rattle.ligo_tokens.specs.declared.lexer.Front.{Front}
use Rattle.micheline_text.specs.declared.gap.Gap.TheVariants as gap
use Rattle.ligo_tokens.specs.declared.gap.Mode.TheVariants as mode
use Rattle.ligo_tokens.proofs.TokensLemmas.{no_token, comment_step, token_step}
use Rattle.ligo_tokens.proofs.lexer.next.Goals as goal

pub returns-in-End-clause-token : goal.returns-in-End-clause-token
returns-in-End-clause-token c =
    let ended : gap_from mode.Between (drop c.args.at c.args.b.now) ≡ gap.End = cc in
    no_token c.args.at (drop c.args.at c.args.b.now) ended

pub returns-in-Comment-clause-token : goal.returns-in-Comment-clause-token
returns-in-Comment-clause-token c =
    let open_there : gap_from mode.Between (drop c.args.at c.args.b.now) ≡ gap.Comment c.in-Comment.left = cc in
    comment_step c.args.b.now c.args.at c.in-Comment.left c.requires.inside open_there

pub returns-clause-token : goal.returns-clause-token
returns-clause-token c =
    let there : gap_from mode.Between (drop c.args.at c.args.b.now) ≡ gap.Token c.in-Token.left = cc in
    let found : c.in_ok-kind.field-0 ≡ front (drop (length c.args.b.now - c.in-Token.left) c.args.b.now) = c.in_ok-kind.ensures.front ∙ ap front c.split_at-2.ensures.back in
    let step = token_step c.args.b.now c.args.at c.in-Token.left c.requires.inside there in
    let from = length c.args.b.now - c.in-Token.left in
    let behind : Front → List Token = λ x. placed from x ∷ tokens_of (from + x.taken) (drop (from + x.taken) c.args.b.now) in
    step ∙ ap behind (sym found)
