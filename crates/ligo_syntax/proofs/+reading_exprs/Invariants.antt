use Rattle.std.proofs.Common.{◌≡◌, ◌∷◌, [], ◌+◌, ◌-◌, ◌*◌, ◌≤◌, suc, length}
use Rattle.ligo_tokens.specs.declared.token.Kind.TheVariants as kind
use Rattle.ligo_syntax.specs.Classes.{atom_firsts, expr_firsts, name_kinds}
use Rattle.ligo_syntax.specs.Depth.{deepest, expr_depth, field_depth, arm_depth}
use Rattle.ligo_syntax.specs.AtomGrammar.{Atom, Condition, Whole}
use Rattle.ligo_syntax.specs.Levels.{form_of}
use Rattle.ligo_syntax.specs.Readers.{loop, both, links}
use Rattle.ligo_syntax.specs.Phrases.{key, semicolons}
use Rattle.ligo_syntax.specs.TypeReading.{token}
use Rattle.ligo_syntax.specs.AtomReading.{field_rule}
use Rattle.ligo_syntax.specs.ExprReading.{form_at, arm_at}
use Rattle.ligo_syntax.specs.ExprTrees.{binary}
use Rattle.ligo_syntax.proofs.Turns.{with_front}
use Rattle.ligo_syntax.proofs.+reading_exprs.Given as goal

abbrev pub decreases-level_reader::read_level : goal.decreases-level_reader::read_level
decreases-level_reader::read_level l = 32 * l.depth

abbrev pub decreases-whole_reader::read_arm : goal.decreases-whole_reader::read_arm
decreases-whole_reader::read_arm l = 32 * l.depth

abbrev pub decreases-whole_reader::arm_above : goal.decreases-whole_reader::arm_above
decreases-whole_reader::arm_above l = 32 * l.depth + 1

abbrev pub decreases-brace_reader::read_field : goal.decreases-brace_reader::read_field
decreases-brace_reader::read_field l = 32 * l.depth + 1

abbrev pub decreases-brace_reader::more_fields : goal.decreases-brace_reader::more_fields
decreases-brace_reader::more_fields l = 32 * l.depth + 2

abbrev pub decreases-brace_reader::other_fields : goal.decreases-brace_reader::other_fields
decreases-brace_reader::other_fields l = 32 * l.depth + 2

abbrev pub decreases-brace_reader::read_record : goal.decreases-brace_reader::read_record
decreases-brace_reader::read_record l = 32 * l.depth + 3

abbrev pub decreases-brace_reader::read_with : goal.decreases-brace_reader::read_with
decreases-brace_reader::read_with l = 32 * l.depth + 3

abbrev pub decreases-brace_reader::read_inside : goal.decreases-brace_reader::read_inside
decreases-brace_reader::read_inside l = 32 * l.depth + 4

abbrev pub decreases-brace_reader::read_brace : goal.decreases-brace_reader::read_brace
decreases-brace_reader::read_brace l = 32 * l.depth + 5

abbrev pub decreases-atom_reader::read_items : goal.decreases-atom_reader::read_items
decreases-atom_reader::read_items l = 32 * l.depth + 2

abbrev pub decreases-atom_reader::more_items : goal.decreases-atom_reader::more_items
decreases-atom_reader::more_items l = 32 * l.depth + 1

abbrev pub decreases-atom_reader::read_square : goal.decreases-atom_reader::read_square
decreases-atom_reader::read_square l = 32 * l.depth + 3

abbrev pub decreases-atom_reader::read_paren : goal.decreases-atom_reader::read_paren
decreases-atom_reader::read_paren l = 32 * l.depth + 1

abbrev pub decreases-atom_reader::read_base : goal.decreases-atom_reader::read_base
decreases-atom_reader::read_base l = 32 * l.depth + 6

abbrev pub decreases-atom_reader::read_atom : goal.decreases-atom_reader::read_atom
decreases-atom_reader::read_atom l = 32 * l.depth + 7

abbrev pub decreases-atom_reader::more_atoms : goal.decreases-atom_reader::more_atoms
decreases-atom_reader::more_atoms l = 32 * l.depth + 1

abbrev pub decreases-atom_reader::read_application : goal.decreases-atom_reader::read_application
decreases-atom_reader::read_application l = 32 * l.depth + 8

abbrev pub decreases-level_reader::read_unary : goal.decreases-level_reader::read_unary
decreases-level_reader::read_unary l = 32 * l.depth + 9

abbrev pub decreases-level_reader::level_above : goal.decreases-level_reader::level_above
decreases-level_reader::level_above l = 32 * l.depth + 16

abbrev pub decreases-level_reader::read_product : goal.decreases-level_reader::read_product
decreases-level_reader::read_product l = 32 * l.depth + 10

abbrev pub decreases-level_reader::read_sum : goal.decreases-level_reader::read_sum
decreases-level_reader::read_sum l = 32 * l.depth + 10

abbrev pub decreases-level_reader::read_consed : goal.decreases-level_reader::read_consed
decreases-level_reader::read_consed l = 32 * l.depth + 11

abbrev pub decreases-level_reader::read_joined : goal.decreases-level_reader::read_joined
decreases-level_reader::read_joined l = 32 * l.depth + 11

abbrev pub decreases-level_reader::read_compared : goal.decreases-level_reader::read_compared
decreases-level_reader::read_compared l = 32 * l.depth + 2

abbrev pub decreases-level_reader::read_comparison : goal.decreases-level_reader::read_comparison
decreases-level_reader::read_comparison l = 32 * l.depth + 12

abbrev pub decreases-level_reader::read_conjunction : goal.decreases-level_reader::read_conjunction
decreases-level_reader::read_conjunction l = 32 * l.depth + 12

abbrev pub decreases-level_reader::read_disjunction : goal.decreases-level_reader::read_disjunction
decreases-level_reader::read_disjunction l = 32 * l.depth + 12

abbrev pub decreases-level_reader::read_right : goal.decreases-level_reader::read_right
decreases-level_reader::read_right l = 32 * l.depth + 1

abbrev pub decreases-level_reader::read_operators : goal.decreases-level_reader::read_operators
decreases-level_reader::read_operators l = 32 * l.depth + 1

abbrev pub decreases-condition_reader::read_condition : goal.decreases-condition_reader::read_condition
decreases-condition_reader::read_condition l = 32 * l.depth + 13

abbrev pub decreases-condition_reader::read_tuple : goal.decreases-condition_reader::read_tuple
decreases-condition_reader::read_tuple l = 32 * l.depth + 14

abbrev pub decreases-whole_reader::read_whole : goal.decreases-whole_reader::read_whole
decreases-whole_reader::read_whole l = 32 * l.depth + 15

abbrev pub decreases-whole_reader::read_part : goal.decreases-whole_reader::read_part
decreases-whole_reader::read_part l = 32 * l.depth + 15

abbrev pub decreases-condition_reader::read_if : goal.decreases-condition_reader::read_if
decreases-condition_reader::read_if l = 32 * l.depth + 2

abbrev pub decreases-condition_reader::read_else : goal.decreases-condition_reader::read_else
decreases-condition_reader::read_else l = 32 * l.depth + 1

abbrev pub decreases-condition_reader::more_conditions : goal.decreases-condition_reader::more_conditions
decreases-condition_reader::more_conditions l = 32 * l.depth + 1

abbrev pub decreases-whole_reader::read_let : goal.decreases-whole_reader::read_let
decreases-whole_reader::read_let l = 32 * l.depth + 1

abbrev pub decreases-whole_reader::read_match : goal.decreases-whole_reader::read_match
decreases-whole_reader::read_match l = 32 * l.depth + 2

abbrev pub decreases-whole_reader::more_arms : goal.decreases-whole_reader::more_arms
decreases-whole_reader::more_arms l = 32 * l.depth + 1

abbrev pub invariant-brace_reader::other_fields-loop : goal.invariant-brace_reader::other_fields-loop
invariant-brace_reader::other_fields-loop l =
    (with_front l.items (loop (kind.Semicolon ∷ []) (key kind.Semicolon (field_rule l.depth (form_at l.depth) (arm_at l.depth))) (length l.tokens - l.counter) l.rest)
    ≡ loop (kind.Semicolon ∷ []) (key kind.Semicolon (field_rule l.depth (form_at l.depth) (arm_at l.depth))) (length l.tokens) l.tokens)
    × (deepest field_depth l.items ≤ l.depth)

abbrev pub invariant-condition_reader::more_conditions-loop : goal.invariant-condition_reader::more_conditions-loop
invariant-condition_reader::more_conditions-loop l =
    (with_front l.items (loop (kind.Comma ∷ []) (key kind.Comma (form_at l.depth Condition)) (length l.tokens - l.counter) l.rest)
    ≡ loop (kind.Comma ∷ []) (key kind.Comma (form_at l.depth Condition)) (length l.tokens) l.tokens)
    × (deepest expr_depth l.items ≤ l.depth)

abbrev pub invariant-whole_reader::more_arms-loop : goal.invariant-whole_reader::more_arms-loop
invariant-whole_reader::more_arms-loop l =
    (with_front l.items (loop (kind.Bar ∷ []) (key kind.Bar (arm_at l.depth)) (length l.tokens - l.counter) l.rest)
    ≡ loop (kind.Bar ∷ []) (key kind.Bar (arm_at l.depth)) (length l.tokens) l.tokens)
    × (deepest arm_depth l.items ≤ l.depth)

abbrev pub invariant-atom_reader::more_atoms-loop : goal.invariant-atom_reader::more_atoms-loop
invariant-atom_reader::more_atoms-loop l =
    (with_front l.items (loop atom_firsts (form_at l.depth Atom) (length l.tokens - l.counter) l.rest)
    ≡ loop atom_firsts (form_at l.depth Atom) (length l.tokens) l.tokens)
    × (deepest expr_depth l.items ≤ l.depth)

abbrev pub invariant-atom_reader::more_items-loop : goal.invariant-atom_reader::more_items-loop
invariant-atom_reader::more_items-loop l =
    (with_front l.items (semicolons expr_firsts (form_at l.depth Whole) (length l.tokens - l.counter) l.rest)
    ≡ semicolons expr_firsts (form_at l.depth Whole) (length l.tokens) l.tokens)
    × (deepest expr_depth l.items ≤ l.depth)

abbrev pub invariant-brace_reader::more_fields-loop : goal.invariant-brace_reader::more_fields-loop
invariant-brace_reader::more_fields-loop l =
    (with_front l.items (semicolons name_kinds (field_rule l.depth (form_at l.depth) (arm_at l.depth)) (length l.tokens - l.counter) l.rest)
    ≡ semicolons name_kinds (field_rule l.depth (form_at l.depth) (arm_at l.depth)) (length l.tokens) l.tokens)
    × (deepest field_depth l.items ≤ l.depth)

abbrev pub invariant-level_reader::read_operators-loop : goal.invariant-level_reader::read_operators-loop
invariant-level_reader::read_operators-loop l =
    (links expr_depth (suc l.depth) binary l.signs (both (token l.signs) (form_at l.depth (form_of l.operand))) (length l.tokens - l.counter) l.made l.rest
    ≡ links expr_depth (suc l.depth) binary l.signs (both (token l.signs) (form_at l.depth (form_of l.operand))) (length l.tokens) l.fn.first l.tokens)
    × (l.made.depth ≤ l.depth + 1)
