-- What each instruction moves stands on the stack, or too few items do.
use Rattle.std.proofs.Common.{ap}
use Rattle.michelson_code.specs.declared.instr.Instr.TheVariants as instr
use Rattle.michelson_code.specs.declared.instr.Instr.TheViews.{out-Instr}
use Rattle.michelson_typer.proofs.AppliedLaws.{by_table, dropped, dug_in, dug_out, duplicated, further, paired, rolled, uncounted, unpaired}
use Rattle.michelson_typer.proofs.ResultLaws.{with_ok}
use Rattle.michelson_typer.proofs.operands.applied.Goals as goal

pub returns-in-DropN-clause-made : goal.returns-in-DropN-clause-made
unfolding out-Instr denote.Hole.Carrier.out
returns-in-DropN-clause-made c =
    let cases = dropped c.args.script.now (out-Instr c.args.instr.now) c.args.types.now c.args.stack.now c.requires c.in-DropN.n (ap out-Instr c.in-DropN.is) in
    with_ok _ _ (λ o h. further _ _ _ _ cases.0 (λ made q. cases.1 made.items q) o h) c.drop_n.result c.drop_n.ensures

pub returns-in-DupN-clause-made : goal.returns-in-DupN-clause-made
unfolding out-Instr denote.Hole.Carrier.out
returns-in-DupN-clause-made c =
    let cases = duplicated c.args.script.now (out-Instr c.args.instr.now) c.args.types.now c.args.stack.now c.requires c.in-DupN.n (ap out-Instr c.in-DupN.is) in
    with_ok _ _ (λ o h. further _ _ _ _ cases.0 (λ made q. cases.1 made.items q) o h) c.dup_n.result c.dup_n.ensures

pub returns-in-Dig-clause-made : goal.returns-in-Dig-clause-made
unfolding out-Instr denote.Hole.Carrier.out
returns-in-Dig-clause-made c =
    let cases = dug_out c.args.script.now (out-Instr c.args.instr.now) c.args.types.now c.args.stack.now c.requires c.in-Dig.n (ap out-Instr c.in-Dig.is) in
    with_ok _ _ (λ o h. further _ _ _ _ cases.0 (λ made q. cases.1 made.items q) o h) c.dig.result c.dig.ensures

pub returns-in-Dug-clause-made : goal.returns-in-Dug-clause-made
unfolding out-Instr denote.Hole.Carrier.out
returns-in-Dug-clause-made c =
    let cases = dug_in c.args.script.now (out-Instr c.args.instr.now) c.args.types.now c.args.stack.now c.requires c.in-Dug.n (ap out-Instr c.in-Dug.is) in
    with_ok _ _ (λ o h. further _ _ _ _ cases.0 (λ made q. cases.1 made.items q) o h) c.dug.result c.dug.ensures

pub returns-in-PairN-clause-made : goal.returns-in-PairN-clause-made
unfolding out-Instr denote.Hole.Carrier.out
returns-in-PairN-clause-made c =
    let cases = paired c.args.script.now (out-Instr c.args.instr.now) c.args.types.now c.args.stack.now c.requires c.in-PairN.n (ap out-Instr c.in-PairN.is) c.pair_n.new.types in
    with_ok _ _ (λ o h. further _ _ _ _ cases.0 (λ made q. cases.1 made.items q) o h) c.pair_n.result c.pair_n.ensures.made

pub returns-in-UnpairN-clause-made : goal.returns-in-UnpairN-clause-made
unfolding out-Instr denote.Hole.Carrier.out
returns-in-UnpairN-clause-made c =
    let cases = unpaired c.args.script.now (out-Instr c.args.instr.now) c.args.types.now c.args.stack.now c.requires c.in-UnpairN.n (ap out-Instr c.in-UnpairN.is) in
    with_ok _ _ (λ o h. further _ _ _ _ cases.0 (λ made q. cases.1 made.items q) o h) c.unpair_n.result c.unpair_n.ensures

pub returns-in_default : goal.returns-in_default
returns-in_default c =
    let i = c.args.instr.now in
    let other = c.in_default in
    let plain = uncounted (out-Instr i)
    (λ n is. other.not-DropN n (rolled i _ _ (instr.rolls-DropN n) is)) (λ n is. other.not-DupN n (rolled i _ _ (instr.rolls-DupN n) is))
    (λ n is. other.not-Dig n (rolled i _ _ (instr.rolls-Dig n) is)) (λ n is. other.not-Dug n (rolled i _ _ (instr.rolls-Dug n) is))
    (λ n is. other.not-PairN n (rolled i _ _ (instr.rolls-PairN n) is)) (λ n is. other.not-UnpairN n (rolled i _ _ (instr.rolls-UnpairN n) is)) in
    let cases = by_table c.args.script.now (out-Instr i) c.args.types.now c.args.stack.now c.requires plain c.by_its_line.new.types in
    record {
      grows = c.by_its_line.ensures.grows;
      made = with_ok _ _ (λ o h. further _ _ _ _ cases.0 (λ made q. cases.1 made.items q) o h) c.by_its_line.result c.by_its_line.ensures.made;
    }
