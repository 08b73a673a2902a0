-- An entry that is there is of an account that may have money; a contract takes the param of its entry as it is wrapped.
use Rattle.std.proofs.Common.{◌≡◌, Bool, true, false, List, [], Option, Some, None, refl, sym, ap, ◌∙◌}
use Rattle.std.specs.Prelude.{ℕ, is_some, unwrap_or, ◌||◌, if◌then◌else◌, Result, Ok}
use Rattle.std.specs.Option.{option_and_then}
use Rattle.std.specs.FinMap.{get}
use Rattle.value_core.specs.declared.ty.Ty.{Ty}
use Rattle.value_core.specs.declared.val.Val.{Val}
use Rattle.value_core.specs.Typed.{has_type}
use Rattle.michelson_code.specs.declared.script.Script.{Script}
use Rattle.michelson_code.specs.Entries.{Path, entry_type, path_of, type_at, wrapped}
use Rattle.michelson_code.proofs.Wrapping.{wrapped_has_type}
use Rattle.cell_names.specs.Accounts.{is_implicit}
use Rattle.code_book.specs.declared.fault.NoEntry.{NoEntry}
use Rattle.code_book.specs.Books.{Contracts, has_account}
use Rattle.code_book.specs.Entries.{contract_entry, entry_of, found, implicit_entry}
use Rattle.op_rules.specs.declared.transfer.Transfer.{Transfer}
use Rattle.op_rules.specs.CodeRule.{param_of}

-- ---- accounts

stands : (s : Option Script) (name : List ℕ) (takes : Ty) → contract_entry s name ≡ Ok takes → is_some s ≡ true
stands None name takes e = absurd cc
stands (Some s) name takes e = refl

account_if : (b : Bool) (o : Option Script) (i : Result Ty NoEntry) (name : List ℕ) (takes : Ty) → (if b then i else contract_entry o name) ≡ Ok takes → (b || is_some o) ≡ true
account_if true o i name takes e = refl
account_if false o i name takes e = stands o name takes e

-- an entry that is there is an account's that may have money
pub account_of : (book : Contracts) (t : Transfer) (takes : Ty) → entry_of book t.dest t.entry ≡ Ok takes → has_account book t.dest ≡ true
account_of book t takes e = account_if (is_implicit t.dest) (get book t.dest) (found (implicit_entry t.entry)) t.entry takes e

-- ---- params

found_ok : (o : Option Ty) (takes : Ty) → found o ≡ Ok takes → o ≡ Some takes
found_ok None takes e = absurd cc
found_ok (Some t) takes e = let is : t ≡ takes = cc in ap (λ x. Some x) is

path_ok : (o : Option Path) (t takes : Ty) (v : Val) → option_and_then (λ path. type_at path t) o ≡ Some takes → has_type v takes ≡ true → has_type (wrapped (unwrap_or o []) v) t ≡ true
path_ok None t takes v e typed = absurd cc
path_ok (Some path) t takes v e typed = wrapped_has_type path t takes v e typed

entry_ok : (b : Bool) (i : Result Ty NoEntry) (o : Option Script) (s : Script) (name : List ℕ) (takes : Ty) → b ≡ false → o ≡ Some s → (if b then i else contract_entry o name) ≡ Ok takes → entry_type s name ≡ Some takes
entry_ok b i o s name takes contract there e =
    found_ok (entry_type s name) takes
    (sym (ap (λ x. contract_entry x name) there) ∙ sym (ap (λ x. if x then i else contract_entry o name) contract) ∙ e)

-- a contract that is called takes the param as it is wrapped
pub param_typed : (book : Contracts) (t : Transfer) (s : Script) (takes : Ty) → entry_of book t.dest t.entry ≡ Ok takes → has_type t.param takes ≡ true →
    get book t.dest ≡ Some s → is_implicit t.dest ≡ false → has_type (param_of s t) s.param ≡ true
param_typed book t s takes e typed there contract =
    path_ok (path_of t.entry s.names) s.param takes t.param
    (entry_ok (is_implicit t.dest) (found (implicit_entry t.entry)) (get book t.dest) s t.entry takes contract there e) typed
