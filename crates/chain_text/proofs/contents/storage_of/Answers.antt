-- By the nodes of the text, or by its fault.
use Rattle.std.specs.Option.{option_map}
use Rattle.chain_text.proofs.ContentLemmas.{faulty_storage, told_of_nodes}
use Rattle.chain_text.proofs.contents.storage_of.Goals as goal

pub returns-in-Ok : goal.returns-in-Ok
returns-in-Ok c =
    told_of_nodes (option_map (λ kept. (kept.0, kept.1.items))) c.kept_of_one.result c.args.t.now c.args.text.now c.in-Ok.nodes c.as_slice.result.now c.in-Ok.ensures.found c.as_slice.ensures c.kept_of_one.ensures

pub returns-else-is_lack_of_memory : goal.returns-else-is_lack_of_memory
returns-else-is_lack_of_memory c =
    faulty_storage c.args.t.now c.args.text.now c.in-Err.fault c.is_lack_of_memory.result c.in-Err.ensures.fault c.is_lack_of_memory.ensures c.if-is_lack_of_memory.false
