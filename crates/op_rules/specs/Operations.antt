-- Operations: which are lawful, and the transfers that they are made of.
use Rattle.std.specs.Prelude.{◌≡◌, ℕ, ◌<◌, ◌≤◌, ◌^◌, true, List, IsTrue}
use Rattle.value_core.specs.declared.val.Emit.{Emit}
use Rattle.value_core.specs.BigMaps.{has_no_big_map}
use Rattle.value_core.specs.Depth.{depth_of}
use Rattle.value_core.specs.Size.{size_of}
use Rattle.value_core.specs.Sound.{is_plain}
use Rattle.cell_names.specs.Accounts.{is_implicit}
use Rattle.op_rules.specs.declared.limits.TheConstants.{MOST_DEPTH, MOST_GAS, MOST_SIZE, MOST_TURNS}
use Rattle.op_rules.specs.declared.op.Op.{Op}
use Rattle.op_rules.specs.declared.transfer.Transfer.{Transfer}

-- an operation that a block may hold
pub record IsLawful (op : Op) : Type 0 where
  pub source : is_implicit op.source ≡ true
  pub plain : IsTrue (is_plain op.param)
  pub mapless : IsTrue (has_no_big_map op.param)
  pub deep : depth_of op.param ≤ MOST_DEPTH
  pub small : size_of op.param ≤ MOST_SIZE
  pub amount : op.amount < 2 ^ 63
  pub gas : op.gas ≤ MOST_GAS
  pub turns : op.turns ≤ MOST_TURNS

-- the transfer that an operation begins with
abbrev pub first_of : Op → Transfer
first_of op = record { sender = op.source; dest = op.dest; entry = op.entry; param = op.param; amount = op.amount }

-- a transfer that a contract emits
abbrev pub sent_by : List ℕ → Emit → Transfer
sent_by contract e = record { sender = contract; dest = e.dest; entry = e.entry; param = e.param; amount = e.amount }
