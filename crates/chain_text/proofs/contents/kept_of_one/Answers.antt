-- By the one node.
use Rattle.std.proofs.Common.{◌≡◌, [], ◌∷◌, ap, sym, ◌∙◌}
use Rattle.chain_text.specs.Scripts.{kept_of_one}
use Rattle.chain_text.proofs.ContentLemmas.{kept_is, kept_is_none, only_one}
use Rattle.chain_text.proofs.contents.kept_of_one.Goals as goal

pub returns-in-Ok : goal.returns-in-Ok
returns-in-Ok c =
    let one : c.args.nodes.now ≡ c.node-item.result ∷ [] = only_one c.args.nodes.now c.node-item.result c.in-len1.len_at_least c.in-len1.len_below (sym c.node-item.is) in
    kept_is c.args.t.now c.node-item.result (c.in-Ok.kept.0, c.in-Ok.kept.1.items) c.in-Ok.ensures.found ∙ ap (kept_of_one c.args.t.now) (sym one)

pub returns-in-Err-Fault : goal.returns-in-Err-Fault
returns-in-Err-Fault c =
    let one : c.args.nodes.now ≡ c.node-item.result ∷ [] = only_one c.args.nodes.now c.node-item.result c.in-len1.len_at_least c.in-len1.len_below (sym c.node-item.is) in
    let told = rw c.in-Err-Fault.field-0-is at c.in-Err-Fault.ensures.first in
    kept_is_none c.args.t.now c.node-item.result c.in-Err-Fault.field-0-0 ((c.the_first_fault_is_told.ensures.told _ c.node-item.result c.in-Err-Fault.field-0-0).1 told) ∙ ap (kept_of_one c.args.t.now) (sym one)
