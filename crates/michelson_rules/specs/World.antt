-- What a run may ask of the ledger, and what the ledger is while a code runs.
use Rattle.std.specs.Prelude.{ℕ, List, Bool, Option, Some, None, if◌then◌else◌}
use Rattle.std.specs.FinMap.{FinMap, get}
use Rattle.value_core.specs.declared.ty.Ty.{Ty}
use Rattle.value_core.specs.declared.val.Val.{Val}
use Rattle.value_core.specs.declared.val.Val.TheVariants as value
use Rattle.value_core.specs.Order.{order}
use Rattle.michelson_rules.specs.declared.ask.Ask.{Ask}
use Rattle.michelson_rules.specs.declared.ask.Ask.TheVariants as ask

-- the whole big map at each place, the balance of the contract that runs, and which entry stands where with which type
pub record World : Type 0 where
  pub map_at : ℕ → FinMap order Val
  pub balance : ℕ
  pub stands : List ℕ → List ℕ → Ty → Bool

-- what the world answers
abbrev pub reply_of : World → Ask → Option Val
reply_of w (ask.Entry place key) = get (w.map_at place) key
reply_of w ask.Balance = Some (value.Mutez w.balance)
reply_of w (ask.Contract address entry ty) = if w.stands address entry ty then Some (value.Contract address entry) else None
