use Rattle.std.proofs.Common.{◌≡◌, ◌+◌, take, get_or, cond, ap, sym, subst, ◌∙◌, Bool}
use Rattle.ligo_syntax.specs.declared.fault.Expected.TheVariants as expected
use Rattle.ligo_syntax.specs.Kinds.{Tokens}
use Rattle.ligo_syntax.specs.Verdict.{decls_of, goes_past}
use Rattle.ligo_syntax.proofs.Numerals.{numeral_there}
use Rattle.ligo_syntax.proofs.program_reader.kind_of_numeral.Goals as goal

pub returns-then-branch : goal.returns-then-branch
returns-then-branch c =
    let r = c.index-as_slice-front.result in
    let item : r ≡ get_or c.args.tokens c.args.front r = subst (λ (l : Tokens). r ≡ get_or l c.args.front r) c.as_slice.ensures c.index-as_slice-front.is in
    let read = c.in_ok-goes_past.ensures ∙ ap (λ (l : Tokens). goes_past (decls_of (take (c.args.front + 1) l))) (c.as_slice-2.ensures ∙ c.set.ensures) in
    let told = numeral_there c.args.expected c.args.tokens c.args.front r c.in_ok-smaller.smaller c.in_ok-goes_past.field-0 c.requires.wide item (c.in_ok-smaller.ensures) read in
    sym (told ∙ ap (λ (past : Bool). cond past expected.NumberInRange c.args.expected) c.if-branch.true)

pub returns : goal.returns
returns c =
    let r = c.index-as_slice-front.result in
    let item : r ≡ get_or c.args.tokens c.args.front r = subst (λ (l : Tokens). r ≡ get_or l c.args.front r) c.as_slice.ensures c.index-as_slice-front.is in
    let read = c.in_ok-goes_past.ensures ∙ ap (λ (l : Tokens). goes_past (decls_of (take (c.args.front + 1) l))) (c.as_slice-2.ensures ∙ c.set.ensures) in
    let told = numeral_there c.args.expected c.args.tokens c.args.front r c.in_ok-smaller.smaller c.in_ok-goes_past.field-0 c.requires.wide item (c.in_ok-smaller.ensures) read in
    sym (told ∙ ap (λ (past : Bool). cond past expected.NumberInRange c.args.expected) c.if-branch.false)
