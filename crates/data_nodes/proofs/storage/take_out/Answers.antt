-- In the end all entries are taken.
use Rattle.std.proofs.Common.{◌≡◌, ◌∙◌, ◌++◌, List, map, subst}
use Rattle.std.specs.Prelude.{OnOk}
use Rattle.value_core.specs.declared.val.Val.{Val}
use Rattle.data_nodes.specs.Storage.{Entry}
use Rattle.data_nodes.proofs.TakenEntries.{appended, taken_all}
use Rattle.data_nodes.proofs.storage.take_out.Goals as goal

pub returns : goal.returns
returns c =
    let all = taken_all (λ e. (c.args.place, e.0, e.1)) c.loop-k.left c.args.pairs c.loop-k.taken.items c.in_default.ensures.0 c.loop-k.invariant in
    let turned : c.reverse.new.self.items ≡ map {A = Val × Val} (λ e. (c.args.place, e.0, e.1)) c.args.pairs = c.reverse.ensures.items ∙ all in
    subst (λ (l : List Entry). OnOk c.append.result (c.append.new.self.items ≡ c.args.entries.now.items ++ l)) turned
    (appended c.append.result _ _ c.args.entries.now.items c.append.ensures.items)
