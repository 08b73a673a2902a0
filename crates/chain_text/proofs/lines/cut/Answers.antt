use Rattle.std.proofs.Common.{◌≡◌, ◌∷◌, take, drop, sym, ap, subst, ◌∙◌}
use Rattle.std.specs.List.{prefix_len}
use Rattle.chain_text.specs.Inside.{IsParted}
use Rattle.chain_text.specs.Lines.{is_inside, lines_of}
use Rattle.chain_text.proofs.LineLemmas.{lines, parted}
use Rattle.chain_text.proofs.lines.cut.Goals as goal

pub returns-clause-lines : goal.returns-clause-lines
returns-clause-lines c =
    let text = c.args.text.now in
    let n = c.length_of_first.ensures.count in
    let front : c.split_at.result.0.now ≡ take (prefix_len is_inside text) text = c.split_at.ensures.front ∙ ap (λ k. take k text) n in
    let back : c.split_at.result.1.now ≡ drop (prefix_len is_inside text) text = c.split_at.ensures.back ∙ ap (λ k. drop k text) n in
    let behind : c.behind_newline.result.now ≡ drop 1 (drop (prefix_len is_inside text) text) = c.behind_newline.ensures ∙ ap (drop 1) back in
    lines text c.requires ∙ (λ i. sym front i ∷ lines_of (sym behind i))

pub returns-clause-parted : goal.returns-clause-parted
returns-clause-parted c =
    let text = c.args.text.now in
    let n = c.length_of_first.ensures.count in
    let front : c.split_at.result.0.now ≡ take (prefix_len is_inside text) text = c.split_at.ensures.front ∙ ap (λ k. take k text) n in
    let back : c.split_at.result.1.now ≡ drop (prefix_len is_inside text) text = c.split_at.ensures.back ∙ ap (λ k. drop k text) n in
    let behind : c.behind_newline.result.now ≡ drop 1 (drop (prefix_len is_inside text) text) = c.behind_newline.ensures ∙ ap (drop 1) back in
    subst (λ line. IsParted text line c.behind_newline.result.now) (sym front)
    (subst (λ rest. IsParted text (take (prefix_len is_inside text) text) rest) (sym behind) (parted text))
