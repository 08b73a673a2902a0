-- Each kind of operands by its line of the table.
use Rattle.std.proofs.Common.{sym, subst, ◌∙◌, reverse}
use Rattle.michelson_rules.specs.Bodies.{Meaning}
use Rattle.michelson_data.specs.Replaces.{Replaces}
use Rattle.michelson_data.proofs.TableLaws.{one_is, two_is, together_is, apart_is, front_is, row_is, entry_is, entry_with_old_is}
use Rattle.michelson_data.proofs.dispatch.apply.Goals as goal

pub returns-in-One-clause-applies : goal.returns-in-One-clause-applies
returns-in-One-clause-applies c = subst (λ a. Replaces a c.on_one.result (reverse c.on_one.new.stack.items)) (sym (one_is Meaning c.args.op (reverse c.args.stack.now.items) (sym c.operands_of.ensures ∙ c.in-One.is))) c.on_one.ensures.applies

pub returns-in-Two-clause-applies : goal.returns-in-Two-clause-applies
returns-in-Two-clause-applies c = subst (λ a. Replaces a c.on_two.result (reverse c.on_two.new.stack.items)) (sym (two_is Meaning c.args.op (reverse c.args.stack.now.items) (sym c.operands_of.ensures ∙ c.in-Two.is))) c.on_two.ensures.applies

pub returns-in-Together-clause-applies : goal.returns-in-Together-clause-applies
returns-in-Together-clause-applies c = subst (λ a. Replaces a c.together.result (reverse c.together.new.stack.items)) (sym (together_is Meaning c.args.op c.in-Together.n (reverse c.args.stack.now.items) (sym c.operands_of.ensures ∙ c.in-Together.is))) c.together.ensures.applies

pub returns-in-Apart-clause-applies : goal.returns-in-Apart-clause-applies
returns-in-Apart-clause-applies c = subst (λ a. Replaces a c.apart.result (reverse c.apart.new.stack.items)) (sym (apart_is Meaning c.args.op c.in-Apart.n (reverse c.args.stack.now.items) (sym c.operands_of.ensures ∙ c.in-Apart.is))) c.apart.ensures.applies

pub returns-in-Front-clause-applies : goal.returns-in-Front-clause-applies
returns-in-Front-clause-applies c = subst (λ a. Replaces a c.in_front.result (reverse c.in_front.new.stack.items)) (sym (front_is Meaning c.args.op (reverse c.args.stack.now.items) (sym c.operands_of.ensures ∙ c.in-Front.is))) c.in_front.ensures.applies

pub returns-in-Row-clause-applies : goal.returns-in-Row-clause-applies
returns-in-Row-clause-applies c = subst (λ a. Replaces a c.concatenated.result (reverse c.concatenated.new.stack.items)) (sym (row_is Meaning c.args.op (reverse c.args.stack.now.items) (sym c.operands_of.ensures ∙ c.in-Row.is))) c.concatenated.ensures.applies

pub returns-in-Entry-clause-applies : goal.returns-in-Entry-clause-applies
returns-in-Entry-clause-applies c = subst (λ a. Replaces a c.updated.result (reverse c.updated.new.stack.items)) (sym (entry_is Meaning c.args.op (reverse c.args.stack.now.items) (sym c.operands_of.ensures ∙ c.in-Entry.is))) c.updated.ensures.applies

pub returns-in-EntryWithOld-clause-applies : goal.returns-in-EntryWithOld-clause-applies
returns-in-EntryWithOld-clause-applies c = subst (λ a. Replaces a c.updated_with_old.result (reverse c.updated_with_old.new.stack.items)) (sym (entry_with_old_is Meaning c.args.op (reverse c.args.stack.now.items) (sym c.operands_of.ensures ∙ c.in-EntryWithOld.is))) c.updated_with_old.ensures.applies
