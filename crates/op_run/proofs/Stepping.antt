-- What each step of a run comes to, by what it finds.
use Rattle.std.proofs.Common.{◌≡◌, ℕ, Bool, true, false, Option, Some, None, List, [], refl, sym, ap, ◌∙◌}
use Rattle.std.specs.Prelude.{unwrap_or, Result, Ok, if◌then◌else◌}
use Rattle.std.specs.Option.{option_and_then}
use Rattle.std.specs.FinMap.{get}
use Rattle.value_core.specs.declared.ty.Ty.{Ty}
use Rattle.value_core.specs.declared.val.Val.{Val}
use Rattle.value_core.specs.Typed.{has_type}
use Rattle.michelson_code.specs.declared.script.Script.{Script}
use Rattle.michelson_code.specs.declared.why.Why.TheVariants as why
use Rattle.michelson_code.specs.Entries.{Path, entry_type, path_of, type_at, wrapped}
use Rattle.michelson_code.proofs.Wrapping.{wrapped_has_type}
use Rattle.cell_names.specs.declared.access.Access.{Access}
use Rattle.cell_names.specs.declared.access.Access.TheVariants as access
use Rattle.cell_names.specs.declared.cell.Cell.TheVariants as cell
use Rattle.cell_names.specs.declared.head.Head.{Head}
use Rattle.cell_names.specs.Accounts.{is_implicit}
use Rattle.cell_names.specs.Contents.{Contents}
use Rattle.code_book.specs.declared.fault.NoEntry.{NoEntry}
use Rattle.code_book.specs.Books.{Contracts}
use Rattle.code_book.specs.Entries.{contract_entry, entry_of, found, implicit_entry}
use Rattle.op_rules.specs.declared.transfer.Transfer.{Transfer}
use Rattle.op_rules.specs.Course.{Course, Doing, accessing, failed, is_one_too_many}
use Rattle.op_rules.specs.SerialRule.{called, calling, entering, loaded, paying, transfer}
use Rattle.op_run.specs.declared.phase.Phase.TheVariants as phase
use Rattle.op_run.specs.declared.phase.Then.{Then}
use Rattle.op_run.specs.declared.state.State.{State}
use Rattle.op_run.specs.Sound.{Calls, Enters}
use Rattle.op_run.specs.States.{asking, failing, outcome_at}

-- ---- accesses

pub asks_full : (s : State) (a : Access) (next : Then) (m : Contents) → is_one_too_many a s.log ≡ true → asking s a next m ≡ failing s why.TooManyCells m
asks_full s a next m full = ap (λ b. if b then failing s why.TooManyCells m else outcome_at s (phase.Waiting a next) m) full

pub asks_waits : (s : State) (a : Access) (next : Then) (m : Contents) → is_one_too_many a s.log ≡ false → asking s a next m ≡ outcome_at s (phase.Waiting a next) m
asks_waits s a next m room = ap (λ b. if b then failing s why.TooManyCells m else outcome_at s (phase.Waiting a next) m) room

-- ---- entries

module _ (book : Contracts) (head : Head) (source : List ℕ) (t : Transfer) (next : List Transfer → Doing) (m : Contents) (c : Course) where
  pub enters_by : (r : Result Ty NoEntry) → entry_of book t.dest t.entry ≡ r → transfer book head source t next m c ≡ entering book head source t r next m c
  enters_by r is = ap (λ x. entering book head source t x next m c) is

  either : (b : Bool) (p : Doing) → (if b then p else failed why.WrongParameter) m c ≡ (if b then p m c else failed why.WrongParameter m c)
  either true p = refl
  either false p = refl

  pub enters_typed : (takes : Ty) → entry_of book t.dest t.entry ≡ Ok takes → has_type t.param takes ≡ true → transfer book head source t next m c ≡ paying book head source t next m c
  enters_typed takes is typed =
      enters_by (Ok takes) is ∙ either (has_type t.param takes) (paying book head source t next)
      ∙ ap (λ b. if b then paying book head source t next m c else failed why.WrongParameter m c) typed

  pub enters_wrong : (takes : Ty) → entry_of book t.dest t.entry ≡ Ok takes → has_type t.param takes ≡ false → transfer book head source t next m c ≡ failed why.WrongParameter m c
  enters_wrong takes is typed =
      enters_by (Ok takes) is ∙ either (has_type t.param takes) (paying book head source t next)
      ∙ ap (λ b. if b then paying book head source t next m c else failed why.WrongParameter m c) typed

  -- ---- calls

  none_called : (b : Bool) (o : Option Script) → o ≡ None → calling book head source t (if b then None else o) next m c ≡ next [] m c
  none_called true o e = refl
  none_called false o e = ap (λ x. calling book head source t x next m c) e

  pub calls_none : get book t.dest ≡ None → called book head source t next m c ≡ next [] m c
  calls_none e = none_called (is_implicit t.dest) (get book t.dest) e

  pub calls_some : (s : Script) → get book t.dest ≡ Some s → is_implicit t.dest ≡ false →
      called book head source t next m c ≡ accessing (access.Read (cell.Storage t.dest)) (loaded book head source t s next) m c
  calls_some s e contract =
      ap (λ b. calling book head source t (if b then None else get book t.dest) next m c) contract
      ∙ ap (λ o. calling book head source t o next m c) e

-- the script at an address, of a contract that was found
pub code_some : (o : Option Script) (s : Script) → Some s ≡ o → o ≡ Some s
code_some o s e = sym e

found_ok : (o : Option Ty) (takes : Ty) → found o ≡ Ok takes → o ≡ Some takes
found_ok None takes e = absurd cc
found_ok (Some t) takes e = let is : t ≡ takes = cc in ap (λ x. Some x) is

path_ok : (o : Option Path) (t takes : Ty) (v : Val) → option_and_then (λ path. type_at path t) o ≡ Some takes → has_type v takes ≡ true → has_type (wrapped (unwrap_or o []) v) t ≡ true
path_ok None t takes v e typed = absurd cc
path_ok (Some path) t takes v e typed = wrapped_has_type path t takes v e typed

entry_ok : (b : Bool) (i : Result Ty NoEntry) (o : Option Script) (s : Script) (name : List ℕ) (takes : Ty) → b ≡ false → o ≡ Some s → (if b then i else contract_entry o name) ≡ Ok takes → entry_type s name ≡ Some takes
entry_ok b i o s name takes contract there e =
    found_ok (entry_type s name) takes
    (sym (ap (λ x. contract_entry x name) there) ∙ sym (ap (λ x. if x then i else contract_entry o name) contract) ∙ e)

-- a contract that is called takes the param as it is wrapped
pub calls_typed : (book : Contracts) (t : Transfer) (s : Script) → Enters book t → get book t.dest ≡ Some s → is_implicit t.dest ≡ false → Calls book t s
calls_typed book t s enters there contract = record {
  contract = there;
  typed = path_ok (path_of t.entry s.names) s.param enters.takes t.param
      (entry_ok (is_implicit t.dest) (found (implicit_entry t.entry)) (get book t.dest) s t.entry enters.takes contract there enters.entry) enters.typed;
}
