use Rattle.std.proofs.Common.{◌≡◌, Some, None, refl, sym, ◌∙◌, arith}
use Rattle.chain_text.specs.Numbers.{most_number, number_of}
use Rattle.chain_text.proofs.NumberLemmas.{bounded, none_is_none}
use Rattle.chain_text.proofs.numbers.number_of.Goals as goal

pub returns-in-Some-clause-number : goal.returns-in-Some-clause-number
returns-in-Some-clause-number c =
    let fits = c.ranges.most.fits in
    let some : number_of 0 most_number c.args.word.now ≡ Some c.in-Some.number = sym c.decimal_of.ensures ∙ c.in-Some.is in
    let within = c.if-number-most.true in
    bounded 0 c.args.most c.in-Some.number c.args.word.now (Some c.in-Some.number) (omega arith) some ((omega arith, omega arith), refl)

pub returns-in_default-clause-number : goal.returns-in_default-clause-number
returns-in_default-clause-number c =
    let fits = c.ranges.most.fits in
    let some : number_of 0 most_number c.args.word.now ≡ Some c.in-Some.number = sym c.decimal_of.ensures ∙ c.in-Some.is in
    let above = c.if-number-most.false in
    bounded 0 c.args.most c.in-Some.number c.args.word.now None (omega arith) some (λ within. let most = within.1 in omega arith)

pub returns-in_default-2-clause-number : goal.returns-in_default-2-clause-number
returns-in_default-2-clause-number c =
    let fits = c.ranges.most.fits in
    sym (none_is_none 0 c.args.most c.args.word.now (omega arith) (sym c.decimal_of.ensures ∙ c.in_default.is))
