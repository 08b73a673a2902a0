use Rattle.std.proofs.Common.{◌≡◌, ◌-◌, ◌≤◌, true, false, length, None, sym, ap, subst, ◌∙◌, arith}
use Rattle.chain_text.specs.Groups.{is_end}
use Rattle.chain_text.specs.Inside.{Closes}
use Rattle.chain_text.proofs.Scripts.{IsInside, begun, closes, more, no_longer, open_at_end}
use Rattle.chain_text.proofs.groups.script_in.Goals as goal

pub loop-line-init : goal.loop-line-init
loop-line-init c = begun c.args.lines.now c.rest-text.result.now c.rest-text.ensures.rest

pub split_at-requires : goal.split_at-requires
split_at-requires c = c.loop-line.invariant.taken.within

pub returns-then-is_end-clause-closes : goal.returns-then-is_end-clause-closes
returns-then-is_end-clause-closes c =
    let end : is_end c.in-Some.line.bytes.now ≡ true = cc in
    closes c.args.lines.now c.loop-line.lines c.next.new.self c.rest-text.result.now c.in-Some.line.bytes.now c.split_at.result.0.now c.loop-line.length
    c.loop-line.invariant c.in-Some.ensures.next c.next.ensures.behind end c.split_at.ensures.front

pub returns-then-is_end-clause-behind : goal.returns-then-is_end-clause-behind
returns-then-is_end-clause-behind c = c.next.ensures.behind ∙ c.loop-line.invariant.behind

pub loop-line-smaller : goal.loop-line-smaller
loop-line-smaller c = c.in-Some.ensures.shorter

pub loop-line-preserved : goal.loop-line-preserved
loop-line-preserved c =
    let going : is_end c.in-Some.line.bytes.now ≡ false = cc in
    let next = more c.args.lines.now c.loop-line.lines c.next.new.self c.rest-text.result.now c.in-Some.line.bytes.now c.loop-line.length c.loop-line.invariant c.in-Some.ensures.next c.next.ensures.behind c.in-Some.ensures.parted going in
    subst (λ rest. IsInside c.args.lines.now c.rest-text.result.now (length c.rest-text.result.now - length rest) c.next.new.self) (sym c.rest.ensures.rest) next

pub overflow_sub-length : goal.overflow_sub-length
overflow_sub-length c =
    let whole : length c.loop-line.lines.rest ≤ length c.rest-text.result.now = no_longer c.rest-text.result.now c.loop-line.lines.rest c.loop-line.length c.loop-line.invariant.taken in
    let shorter = c.in-Some.ensures.shorter in
    let same : length c.rest.result.now ≡ length c.next.new.self.rest = ap length c.rest.ensures.rest in
    omega arith

pub returns-clause-closes : goal.returns-clause-closes
returns-clause-closes c =
    let at_end = open_at_end c.args.lines.now c.loop-line.lines c.rest-text.result.now c.loop-line.length c.loop-line.invariant c.in_default.ensures.next in
    subst (λ new. Closes c.args.lines.now None new) (sym c.in_default.ensures.last) at_end

pub returns-clause-behind : goal.returns-clause-behind
returns-clause-behind c = c.next.ensures.behind ∙ c.loop-line.invariant.behind

pub returns-clause-shorter : goal.returns-clause-shorter
returns-clause-shorter c =
    let whole = no_longer c.rest-text.result.now c.loop-line.lines.rest c.loop-line.length c.loop-line.invariant.taken in
    let same : length c.next.new.self.rest ≡ length c.loop-line.lines.rest = ap (λ left. length left.rest) c.in_default.ensures.last in
    let text : length c.rest-text.result.now ≡ length c.args.lines.now.rest = ap length c.rest-text.ensures.rest in
    omega arith

pub returns-then-is_end-clause-shorter : goal.returns-then-is_end-clause-shorter
returns-then-is_end-clause-shorter c =
    let whole = no_longer c.rest-text.result.now c.loop-line.lines.rest c.loop-line.length c.loop-line.invariant.taken in
    let shorter = c.in-Some.ensures.shorter in
    let text : length c.rest-text.result.now ≡ length c.args.lines.now.rest = ap length c.rest-text.ensures.rest in
    omega arith
