use Rattle.std.proofs.Common.{◌≡◌, Some, None, lit≤, sym, ◌∙◌}
use Rattle.block_cli.specs.Numbers.{number_of, most_number}
use Rattle.block_cli.proofs.NumberLemmas.{bounded, none_is_none}
use Rattle.block_cli.proofs.words.workers_of.Goals as goal

pub returns-in_err-number_of : goal.returns-in_err-number_of
returns-in_err-number_of c = let none : number_of 0 most_number c.args.word.now ≡ None = cc (c.in_err-number_of.was) in let gone : c.from_residual.result ≡ None = cc in gone ∙ sym (none_is_none 1 64 c.args.word.now (lit≤ tt) none)

pub returns : goal.returns
returns c = let some : number_of 0 most_number c.args.word.now ≡ Some c.in_ok-number_of.field-0 = cc (c.in_ok-number_of.was) in bounded 1 64 c.in_ok-number_of.field-0 c.args.word.now c.new.result (lit≤ tt) some c.new.ensures
