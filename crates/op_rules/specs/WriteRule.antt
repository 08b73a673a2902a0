-- What a contract returns: its storage and its changes are written, and what it emits runs.
use Rattle.std.specs.Prelude.{ℕ, ◌+◌, List, [], ◌∷◌, map, Some, if◌then◌else◌}
use Rattle.std.specs.Ordering.{eq_by_cmp}
use Rattle.value_core.specs.declared.val.Val.{Val}
use Rattle.value_core.specs.BigMaps.{is_placed}
use Rattle.value_core.specs.Order.{order}
use Rattle.value_core.specs.Size.{size_of}
use Rattle.michelson_code.specs.declared.script.Script.{Script}
use Rattle.michelson_code.specs.declared.why.Why.TheVariants as why
use Rattle.michelson_rules.specs.BigMaps.{room_of}
use Rattle.michelson_rules.specs.Returned.{Change, Returned}
use Rattle.cell_names.specs.declared.access.Access.TheVariants as access
use Rattle.cell_names.specs.declared.cell.Cell.TheVariants as cell
use Rattle.op_rules.specs.declared.transfer.Transfer.{Transfer}
use Rattle.op_rules.specs.Course.{Doing, accessing, failed, taking}
use Rattle.op_rules.specs.Operations.{sent_by}

-- entries change, one after another
abbrev pub changing : List ℕ → List Change → Doing → Doing
changing self [] next = next
changing self ((place, key, choice) ∷ more) next =
    taking (room_of key choice) (accessing (access.Write (cell.Entry self place key) choice) (λ r. changing self more next))

-- a storage is written
abbrev pub written : List ℕ → Val → Doing → Doing
written self v next = taking (1 + size_of v) (accessing (access.Write (cell.Storage self) (Some v)) (λ r. next))

-- where it differs from the one that was read
abbrev pub storing : List ℕ → Val → Val → Doing → Doing
storing self old new next = if eq_by_cmp order old new then next else written self new next

-- a storage comes back with each big map at its own place, or not at all
abbrev pub returning : List ℕ → Script → Val → (List Transfer → Doing) → Returned → Doing
returning self s old next r =
    if is_placed r.storage s.storage then storing self old r.storage (changing self r.changes (next (map (sent_by self) r.ops)))
    else failed why.BigMapMoved
