-- Words with nothing found for them, pairs, and each type in its turn.
use Rattle.std.proofs.Common.{Ok, ap, sym, arith, rules}
use Rattle.value_core.specs.declared.ty.Ty.{Ty}
use Rattle.michelson_reader.proofs.WordFaults.{a_pair, none_alone, none_of_one, none_of_two, not_a_pair}
use Rattle.michelson_reader.proofs.types.+reading_types.Goals as goal

pub applied-returns-in-None : goal.applied-returns-in-None
applied-returns-in-None t c =
    none_alone c.args.at c.args.name.now c.no_form.result c.args.args.now (omega arith) (sym c.in-None.ensures) c.no_form.ensures

pub applied-returns-in-None-named : goal.applied-returns-in-None-named
applied-returns-in-None-named t c =
    none_of_one c.args.at c.args.name.now c.no_form-in-None-named.result c.args.args.now (omega arith) (sym c.in-None-named.ensures) c.no_form-in-None-named.ensures

pub applied-returns-in-None-named-2 : goal.applied-returns-in-None-named-2
applied-returns-in-None-named-2 t c =
    none_of_two c.args.at c.args.name.now c.no_form-in-None-named-2.result c.args.args.now (omega arith) (sym c.in-None-named-2.ensures) c.no_form-in-None-named-2.ensures

pub applied-returns-in_default : goal.applied-returns-in_default
applied-returns-in_default t c =
    not_a_pair c.args.at c.args.name.now c.no_form-in_default.result c.args.args.now (omega arith) (sym c.if-is_word.ensures) c.no_form-in_default.ensures

pub applied-returns-in_err-first-in-len1-up : goal.applied-returns-in_err-first-in-len1-up
applied-returns-in_err-first-in-len1-up t c = rw (a_pair c.args.at c.args.name.now c.args.args.now c.first-item-2.result (omega arith) (sym c.first-item-2.is) (sym c.if-is_word.ensures)) (search rules)

pub applied-returns-in_err-rest-in-len1-up : goal.applied-returns-in_err-rest-in-len1-up
applied-returns-in_err-rest-in-len1-up t c = rw (a_pair c.args.at c.args.name.now c.args.args.now c.first-item-2.result (omega arith) (sym c.first-item-2.is) (sym c.if-is_word.ensures)) (search rules)

pub applied-returns-in_ok-comb-in-len1-up : goal.applied-returns-in_ok-comb-in-len1-up
applied-returns-in_ok-comb-in-len1-up t c =
    rw (a_pair c.args.at c.args.name.now c.args.args.now c.first-item-2.result (omega arith) (sym c.first-item-2.is) (sym c.if-is_word.ensures))
    (rw (c.in_ok-first-in-len1-up.ensures, c.in_ok-rest-in-len1-up.ensures) (ap (λ (t : Ty). Ok t) (sym c.in_ok-comb-in-len1-up.ensures)))
