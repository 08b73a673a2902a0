use Rattle.std.proofs.Common.{rules, ◌≡◌, ◌∷◌, [], ◌-◌, suc, length, sym, ◌∙◌, arith}
use Rattle.ligo_tokens.specs.declared.token.Kind.TheVariants as kind
use Rattle.ligo_syntax.specs.Classes.{atom_firsts, expr_firsts, name_kinds}
use Rattle.ligo_syntax.specs.Depth.{expr_depth, field_depth, arm_depth}
use Rattle.ligo_syntax.specs.AtomGrammar.{Atom, Condition, Whole}
use Rattle.ligo_syntax.specs.Levels.{form_of}
use Rattle.ligo_syntax.specs.Readers.{both, links, repeated}
use Rattle.ligo_syntax.specs.Phrases.{key, more_of}
use Rattle.ligo_syntax.specs.TypeReading.{token}
use Rattle.ligo_syntax.specs.AtomReading.{field_rule}
use Rattle.ligo_syntax.specs.ExprReading.{form_at, arm_at}
use Rattle.ligo_syntax.specs.ExprTrees.{binary}
use Rattle.ligo_syntax.proofs.Turns.{both_is, fails_at, fails_key, goes_on, goes_on_key, head_fails, is_below, is_full, link_on, links_fail, links_full, links_stop, list_ends, list_fails, list_on, list_stops, second_fails, stops_at, within_push}
use Rattle.ligo_syntax.proofs.LevelTurns.{arm_is}
use Rattle.ligo_syntax.proofs.+reading_exprs.Goals as goal

pub brace_reader::other_fields-loop-preserved : goal.brace_reader::other_fields-loop-preserved
brace_reader::other_fields-loop-preserved t c =
    let next = goes_on_key (field_rule c.args.depth (form_at c.args.depth) (arm_at c.args.depth)) kind.Semicolon c.loop.items (length c.args.tokens.now) c.loop.counter c.loop.rest.now c.in_ok-after.field-0-0.now c.in_ok-after.after.now c.in_ok-item.item c.in_ok-item.after.now (repeated (kind.Semicolon ∷ []) (key kind.Semicolon (field_rule c.args.depth (form_at c.args.depth) (arm_at c.args.depth))) c.args.tokens.now) c.loop-test.true (sym c.at.ensures ∙ c.if-not-at.false) c.in_ok-after.ensures c.in_ok-item.ensures.read c.loop.invariant.0 in
    rw (c.in_ok-push.ensures.ok) (next, within_push field_depth c.loop.items c.in_ok-item.item c.args.depth c.loop.invariant.1 c.in_ok-item.ensures.within)

pub brace_reader::other_fields-returns-in_err-item-clause-read : goal.brace_reader::other_fields-returns-in_err-item-clause-read
brace_reader::other_fields-returns-in_err-item-clause-read t c =
    let failed = fails_key c.in_err-item.field-0.0 (field_rule c.args.depth (form_at c.args.depth) (arm_at c.args.depth)) kind.Semicolon c.loop.items (length c.args.tokens.now) c.loop.counter c.loop.rest.now c.in_ok-after.field-0-0.now c.in_ok-after.after.now (repeated (kind.Semicolon ∷ []) (key kind.Semicolon (field_rule c.args.depth (form_at c.args.depth) (arm_at c.args.depth))) c.args.tokens.now) c.loop-test.true (sym c.at.ensures ∙ c.if-not-at.false) c.in_ok-after.ensures c.in_err-item.ensures.read c.loop.invariant.0 in
    search rules

pub brace_reader::other_fields-returns-then-not-at-clause-read : goal.brace_reader::other_fields-returns-then-not-at-clause-read
brace_reader::other_fields-returns-then-not-at-clause-read t c = stops_at (key kind.Semicolon (field_rule c.args.depth (form_at c.args.depth) (arm_at c.args.depth))) (kind.Semicolon ∷ []) c.loop.items (length c.args.tokens.now - c.loop.counter) c.loop.rest.now (repeated (kind.Semicolon ∷ []) (key kind.Semicolon (field_rule c.args.depth (form_at c.args.depth) (arm_at c.args.depth))) c.args.tokens.now) (sym c.at.ensures ∙ c.if-not-at.true) c.loop.invariant.0

pub condition_reader::more_conditions-loop-preserved : goal.condition_reader::more_conditions-loop-preserved
condition_reader::more_conditions-loop-preserved t c =
    let next = goes_on_key (form_at c.args.depth Condition) kind.Comma c.loop.items (length c.args.tokens.now) c.loop.counter c.loop.rest.now c.in_ok-after.field-0-0.now c.in_ok-after.after.now c.in_ok-item.item c.in_ok-item.after.now (repeated (kind.Comma ∷ []) (key kind.Comma (form_at c.args.depth Condition)) c.args.tokens.now) c.loop-test.true (sym c.at.ensures ∙ c.if-not-at.false) c.in_ok-after.ensures c.in_ok-item.ensures.read c.loop.invariant.0 in
    rw (c.in_ok-push.ensures.ok) (next, within_push expr_depth c.loop.items c.in_ok-item.item c.args.depth c.loop.invariant.1 c.in_ok-item.ensures.within)

pub condition_reader::more_conditions-returns-in_err-item-clause-read : goal.condition_reader::more_conditions-returns-in_err-item-clause-read
condition_reader::more_conditions-returns-in_err-item-clause-read t c =
    let failed = fails_key c.in_err-item.field-0.0 (form_at c.args.depth Condition) kind.Comma c.loop.items (length c.args.tokens.now) c.loop.counter c.loop.rest.now c.in_ok-after.field-0-0.now c.in_ok-after.after.now (repeated (kind.Comma ∷ []) (key kind.Comma (form_at c.args.depth Condition)) c.args.tokens.now) c.loop-test.true (sym c.at.ensures ∙ c.if-not-at.false) c.in_ok-after.ensures c.in_err-item.ensures.read c.loop.invariant.0 in
    search rules

pub condition_reader::more_conditions-returns-then-not-at-clause-read : goal.condition_reader::more_conditions-returns-then-not-at-clause-read
condition_reader::more_conditions-returns-then-not-at-clause-read t c = stops_at (key kind.Comma (form_at c.args.depth Condition)) (kind.Comma ∷ []) c.loop.items (length c.args.tokens.now - c.loop.counter) c.loop.rest.now (repeated (kind.Comma ∷ []) (key kind.Comma (form_at c.args.depth Condition)) c.args.tokens.now) (sym c.at.ensures ∙ c.if-not-at.true) c.loop.invariant.0

pub whole_reader::more_arms-loop-preserved : goal.whole_reader::more_arms-loop-preserved
whole_reader::more_arms-loop-preserved t c =
    let next = goes_on_key (arm_at c.args.depth) kind.Bar c.loop.items (length c.args.tokens.now) c.loop.counter c.loop.rest.now c.in_ok-after.field-0-0.now c.in_ok-after.after.now c.in_ok-item.item c.in_ok-item.after.now (repeated (kind.Bar ∷ []) (key kind.Bar (arm_at c.args.depth)) c.args.tokens.now) c.loop-test.true (sym c.at.ensures ∙ c.if-not-at.false) c.in_ok-after.ensures c.in_ok-item.ensures.read c.loop.invariant.0 in
    rw (c.in_ok-push.ensures.ok) (next, within_push arm_depth c.loop.items c.in_ok-item.item c.args.depth c.loop.invariant.1 c.in_ok-item.ensures.within)

pub whole_reader::more_arms-returns-in_err-item-clause-read : goal.whole_reader::more_arms-returns-in_err-item-clause-read
whole_reader::more_arms-returns-in_err-item-clause-read t c =
    let failed = fails_key c.in_err-item.field-0.0 (arm_at c.args.depth) kind.Bar c.loop.items (length c.args.tokens.now) c.loop.counter c.loop.rest.now c.in_ok-after.field-0-0.now c.in_ok-after.after.now (repeated (kind.Bar ∷ []) (key kind.Bar (arm_at c.args.depth)) c.args.tokens.now) c.loop-test.true (sym c.at.ensures ∙ c.if-not-at.false) c.in_ok-after.ensures c.in_err-item.ensures.read c.loop.invariant.0 in
    search rules

pub whole_reader::more_arms-returns-then-not-at-clause-read : goal.whole_reader::more_arms-returns-then-not-at-clause-read
whole_reader::more_arms-returns-then-not-at-clause-read t c = stops_at (key kind.Bar (arm_at c.args.depth)) (kind.Bar ∷ []) c.loop.items (length c.args.tokens.now - c.loop.counter) c.loop.rest.now (repeated (kind.Bar ∷ []) (key kind.Bar (arm_at c.args.depth)) c.args.tokens.now) (sym c.at.ensures ∙ c.if-not-at.true) c.loop.invariant.0

pub atom_reader::more_atoms-loop-preserved : goal.atom_reader::more_atoms-loop-preserved
atom_reader::more_atoms-loop-preserved t c =
    let next = goes_on (form_at c.args.depth Atom) atom_firsts c.loop.items (length c.args.tokens.now) c.loop.counter c.loop.rest.now c.in_ok-item.item c.in_ok-item.after.now (repeated atom_firsts (form_at c.args.depth Atom) c.args.tokens.now) c.loop-test.true (sym c.at_atom.ensures ∙ c.if-not-at_atom.false) c.in_ok-item.ensures.read c.loop.invariant.0 in
    rw (c.in_ok-push.ensures.ok) (next, within_push expr_depth c.loop.items c.in_ok-item.item c.args.depth c.loop.invariant.1 c.in_ok-item.ensures.within)

pub atom_reader::more_atoms-returns-in_err-item-clause-read : goal.atom_reader::more_atoms-returns-in_err-item-clause-read
atom_reader::more_atoms-returns-in_err-item-clause-read t c =
    let failed = fails_at c.in_err-item.field-0.0 (form_at c.args.depth Atom) atom_firsts c.loop.items (length c.args.tokens.now) c.loop.counter c.loop.rest.now (repeated atom_firsts (form_at c.args.depth Atom) c.args.tokens.now) c.loop-test.true (sym c.at_atom.ensures ∙ c.if-not-at_atom.false) c.in_err-item.ensures.read c.loop.invariant.0 in
    search rules

pub atom_reader::more_atoms-returns-then-not-at_atom-clause-read : goal.atom_reader::more_atoms-returns-then-not-at_atom-clause-read
atom_reader::more_atoms-returns-then-not-at_atom-clause-read t c = stops_at (form_at c.args.depth Atom) atom_firsts c.loop.items (length c.args.tokens.now - c.loop.counter) c.loop.rest.now (repeated atom_firsts (form_at c.args.depth Atom) c.args.tokens.now) (sym c.at_atom.ensures ∙ c.if-not-at_atom.true) c.loop.invariant.0

pub atom_reader::more_items-loop-preserved : goal.atom_reader::more_items-loop-preserved
atom_reader::more_items-loop-preserved t c =
    let next = list_on (form_at c.args.depth Whole) expr_firsts c.loop.items (length c.args.tokens.now) c.loop.counter c.loop.rest.now c.in_ok-after.field-0-0.now c.in_ok-after.after.now c.in_ok-item.item c.in_ok-item.after.now (more_of expr_firsts (form_at c.args.depth Whole) c.args.tokens.now) c.loop-test.true (sym c.at.ensures ∙ c.if-not-at.false) c.in_ok-after.ensures (sym c.at_expr.ensures ∙ c.if-not-at_expr.false) c.in_ok-item.ensures.read c.loop.invariant.0 in
    rw (c.in_ok-push.ensures.ok) (next, within_push expr_depth c.loop.items c.in_ok-item.item c.args.depth c.loop.invariant.1 c.in_ok-item.ensures.within)

pub atom_reader::more_items-returns-in_err-item-clause-read : goal.atom_reader::more_items-returns-in_err-item-clause-read
atom_reader::more_items-returns-in_err-item-clause-read t c =
    let failed = list_fails c.in_err-item.field-0.0 (form_at c.args.depth Whole) expr_firsts c.loop.items (length c.args.tokens.now) c.loop.counter c.loop.rest.now c.in_ok-after.field-0-0.now c.in_ok-after.after.now (more_of expr_firsts (form_at c.args.depth Whole) c.args.tokens.now) c.loop-test.true (sym c.at.ensures ∙ c.if-not-at.false) c.in_ok-after.ensures (sym c.at_expr.ensures ∙ c.if-not-at_expr.false) c.in_err-item.ensures.read c.loop.invariant.0 in
    search rules

pub atom_reader::more_items-returns-then-not-at-clause-read : goal.atom_reader::more_items-returns-then-not-at-clause-read
atom_reader::more_items-returns-then-not-at-clause-read t c = list_stops (form_at c.args.depth Whole) expr_firsts c.loop.items (length c.args.tokens.now - c.loop.counter) c.loop.rest.now (more_of expr_firsts (form_at c.args.depth Whole) c.args.tokens.now) (sym c.at.ensures ∙ c.if-not-at.true) c.loop.invariant.0

pub atom_reader::more_items-returns-then-not-at_expr-clause-read : goal.atom_reader::more_items-returns-then-not-at_expr-clause-read
atom_reader::more_items-returns-then-not-at_expr-clause-read t c = list_ends (form_at c.args.depth Whole) expr_firsts c.loop.items (length c.args.tokens.now) c.loop.counter c.loop.rest.now c.in_ok-after.field-0-0.now c.in_ok-after.after.now (more_of expr_firsts (form_at c.args.depth Whole) c.args.tokens.now) c.loop-test.true (sym c.at.ensures ∙ c.if-not-at.false) c.in_ok-after.ensures (sym c.at_expr.ensures ∙ c.if-not-at_expr.true) c.loop.invariant.0

pub brace_reader::more_fields-loop-preserved : goal.brace_reader::more_fields-loop-preserved
brace_reader::more_fields-loop-preserved t c =
    let next = list_on (field_rule c.args.depth (form_at c.args.depth) (arm_at c.args.depth)) name_kinds c.loop.items (length c.args.tokens.now) c.loop.counter c.loop.rest.now c.in_ok-after.field-0-0.now c.in_ok-after.after.now c.in_ok-item.item c.in_ok-item.after.now (more_of name_kinds (field_rule c.args.depth (form_at c.args.depth) (arm_at c.args.depth)) c.args.tokens.now) c.loop-test.true (sym c.at.ensures ∙ c.if-not-at.false) c.in_ok-after.ensures (sym c.at_name.ensures ∙ c.if-not-at_name.false) c.in_ok-item.ensures.read c.loop.invariant.0 in
    rw (c.in_ok-push.ensures.ok) (next, within_push field_depth c.loop.items c.in_ok-item.item c.args.depth c.loop.invariant.1 c.in_ok-item.ensures.within)

pub brace_reader::more_fields-returns-in_err-item-clause-read : goal.brace_reader::more_fields-returns-in_err-item-clause-read
brace_reader::more_fields-returns-in_err-item-clause-read t c =
    let failed = list_fails c.in_err-item.field-0.0 (field_rule c.args.depth (form_at c.args.depth) (arm_at c.args.depth)) name_kinds c.loop.items (length c.args.tokens.now) c.loop.counter c.loop.rest.now c.in_ok-after.field-0-0.now c.in_ok-after.after.now (more_of name_kinds (field_rule c.args.depth (form_at c.args.depth) (arm_at c.args.depth)) c.args.tokens.now) c.loop-test.true (sym c.at.ensures ∙ c.if-not-at.false) c.in_ok-after.ensures (sym c.at_name.ensures ∙ c.if-not-at_name.false) c.in_err-item.ensures.read c.loop.invariant.0 in
    search rules

pub brace_reader::more_fields-returns-then-not-at-clause-read : goal.brace_reader::more_fields-returns-then-not-at-clause-read
brace_reader::more_fields-returns-then-not-at-clause-read t c = list_stops (field_rule c.args.depth (form_at c.args.depth) (arm_at c.args.depth)) name_kinds c.loop.items (length c.args.tokens.now - c.loop.counter) c.loop.rest.now (more_of name_kinds (field_rule c.args.depth (form_at c.args.depth) (arm_at c.args.depth)) c.args.tokens.now) (sym c.at.ensures ∙ c.if-not-at.true) c.loop.invariant.0

pub brace_reader::more_fields-returns-then-not-at_name-clause-read : goal.brace_reader::more_fields-returns-then-not-at_name-clause-read
brace_reader::more_fields-returns-then-not-at_name-clause-read t c = list_ends (field_rule c.args.depth (form_at c.args.depth) (arm_at c.args.depth)) name_kinds c.loop.items (length c.args.tokens.now) c.loop.counter c.loop.rest.now c.in_ok-after.field-0-0.now c.in_ok-after.after.now (more_of name_kinds (field_rule c.args.depth (form_at c.args.depth) (arm_at c.args.depth)) c.args.tokens.now) c.loop-test.true (sym c.at.ensures ∙ c.if-not-at.false) c.in_ok-after.ensures (sym c.at_name.ensures ∙ c.if-not-at_name.true) c.loop.invariant.0

pub level_reader::read_operators-loop-preserved : goal.level_reader::read_operators-loop-preserved
level_reader::read_operators-loop-preserved t c =
    let one = both_is (token c.args.signs.now) (form_at c.args.depth (form_of c.args.operand)) c.loop.rest.now c.in_ok-sign.sign.now c.in_ok-sign.after.now c.in_ok-item.item c.in_ok-item.after.now c.in_ok-sign.ensures c.in_ok-item.ensures.read in
    let next = link_on expr_depth (suc c.args.depth) binary c.args.signs.now (both (token c.args.signs.now) (form_at c.args.depth (form_of c.args.operand))) (length c.args.tokens.now) c.loop.counter c.loop.made c.loop.rest.now
    (c.in_ok-sign.sign.now, c.in_ok-item.item) c.in_ok-item.after.now (links expr_depth (suc c.args.depth) binary c.args.signs.now (both (token c.args.signs.now) (form_at c.args.depth (form_of c.args.operand))) (length c.args.tokens.now) c.args.first c.args.tokens.now) c.loop-test.true (sym c.at.ensures ∙ c.if-not-at.false) (is_below c.loop.made.depth (suc c.args.depth) (omega (arith, c.if-made-depth.false))) one c.loop.invariant.0 in
    rw (c.in_ok-made.ensures, c.operator_of.ensures) (next, grind (arith, c.if-made-depth.false, c.in_ok-item.ensures.within))

pub level_reader::read_operators-returns-in_err-item-clause-read : goal.level_reader::read_operators-returns-in_err-item-clause-read
level_reader::read_operators-returns-in_err-item-clause-read t c =
    let one = second_fails c.in_err-item.field-0.0 (token c.args.signs.now) (form_at c.args.depth (form_of c.args.operand)) c.loop.rest.now c.in_ok-sign.sign.now c.in_ok-sign.after.now c.in_ok-sign.ensures c.in_err-item.ensures.read in
    let failed = links_fail c.in_err-item.field-0.0 expr_depth (suc c.args.depth) binary c.args.signs.now (both (token c.args.signs.now) (form_at c.args.depth (form_of c.args.operand))) (length c.args.tokens.now) c.loop.counter c.loop.made c.loop.rest.now (links expr_depth (suc c.args.depth) binary c.args.signs.now (both (token c.args.signs.now) (form_at c.args.depth (form_of c.args.operand))) (length c.args.tokens.now) c.args.first c.args.tokens.now)
    c.loop-test.true (sym c.at.ensures ∙ c.if-not-at.false) (is_below c.loop.made.depth (suc c.args.depth) (omega (arith, c.if-made-depth.false))) one c.loop.invariant.0 in
    search rules

pub level_reader::read_operators-returns-then-not-at-clause-read : goal.level_reader::read_operators-returns-then-not-at-clause-read
level_reader::read_operators-returns-then-not-at-clause-read t c = links_stop expr_depth (suc c.args.depth) binary c.args.signs.now (both (token c.args.signs.now) (form_at c.args.depth (form_of c.args.operand))) (length c.args.tokens.now - c.loop.counter) c.loop.made c.loop.rest.now
    (links expr_depth (suc c.args.depth) binary c.args.signs.now (both (token c.args.signs.now) (form_at c.args.depth (form_of c.args.operand))) (length c.args.tokens.now) c.args.first c.args.tokens.now) (sym c.at.ensures ∙ c.if-not-at.true) c.loop.invariant.0

pub level_reader::read_operators-returns-then-made-depth-clause-read : goal.level_reader::read_operators-returns-then-made-depth-clause-read
level_reader::read_operators-returns-then-made-depth-clause-read t c = links_full expr_depth (suc c.args.depth) binary c.args.signs.now (both (token c.args.signs.now) (form_at c.args.depth (form_of c.args.operand))) (length c.args.tokens.now) c.loop.counter c.loop.made c.loop.rest.now
    (links expr_depth (suc c.args.depth) binary c.args.signs.now (both (token c.args.signs.now) (form_at c.args.depth (form_of c.args.operand))) (length c.args.tokens.now) c.args.first c.args.tokens.now) c.loop-test.true (sym c.at.ensures ∙ c.if-not-at.false) (is_full c.loop.made.depth (suc c.args.depth) (omega (arith, c.if-made-depth.true))) c.loop.invariant.0

pub level_reader::read_operators-returns-in_err-sign-clause-read : goal.level_reader::read_operators-returns-in_err-sign-clause-read
level_reader::read_operators-returns-in_err-sign-clause-read t c =
    let one = head_fails c.in_err-sign.field-0.0 (token c.args.signs.now) (form_at c.args.depth (form_of c.args.operand)) c.loop.rest.now c.in_err-sign.ensures in
    let failed = links_fail c.in_err-sign.field-0.0 expr_depth (suc c.args.depth) binary c.args.signs.now (both (token c.args.signs.now) (form_at c.args.depth (form_of c.args.operand))) (length c.args.tokens.now) c.loop.counter c.loop.made c.loop.rest.now (links expr_depth (suc c.args.depth) binary c.args.signs.now (both (token c.args.signs.now) (form_at c.args.depth (form_of c.args.operand))) (length c.args.tokens.now) c.args.first c.args.tokens.now)
    c.loop-test.true (sym c.at.ensures ∙ c.if-not-at.false) (is_below c.loop.made.depth (suc c.args.depth) (omega (arith, c.if-made-depth.false))) one c.loop.invariant.0 in
    search rules

pub whole_reader::read_arm-returns-clause-read : goal.whole_reader::read_arm-returns-clause-read
whole_reader::read_arm-returns-clause-read t c =
    let left : c.args.depth ≡ suc (c.args.depth - 1) = omega (arith, c.if-depth-eq0.false) in
    rw (arm_is c.args.depth (c.args.depth - 1) c.args.tokens.now left) c.arm_above.ensures.read
