-- One item, and two or more.
use Rattle.std.proofs.Common.{◌∙◌, ap, arith, map}
use Rattle.value_core.specs.declared.ty.Ty.{Ty}
use Rattle.data_nodes.specs.Readers.{is_comb_of}
use Rattle.data_nodes.specs.Faults.{reader}
use Rattle.data_nodes.proofs.Combs.{is_comb_of-more, is_comb_of-one, others}
use Rattle.data_nodes.proofs.reader.is_comb_of.Goals as goal

pub returns-in-len1 : goal.returns-in-len1
returns-in-len1 c = is_comb_of-one c.loop-left.left.now c.loop-left.behind.now (omega arith) ∙ c.loop-left.invariant

pub loop-left-preserved : goal.loop-left-preserved
loop-left-preserved c =
    let left = c.loop-left.left.now in
    ap (λ (t : Ty). is_comb_of (map reader (others left)) t) c.get-behind.ensures
    ∙ is_comb_of-more left c.loop-left.behind.now c.in-Pair.field-0 c.in-Pair.t (omega arith) c.in-Pair.is ∙ c.loop-left.invariant
