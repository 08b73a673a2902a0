-- The access that is waited for is the operation's next one, and fit; a credit of it is covered.
use Rattle.std.proofs.Common.{◌≡◌, ◌≢◌, ℕ, ◌≤◌, Bool, true, false, List, [], ◌∷◌, ◌++◌, Option, Some, None, refl, sym, ap, subst, ◌∙◌, arith}
use Rattle.std.specs.Prelude.{Result, Ok, is_some, ◌||◌, if◌then◌else◌}
use Rattle.std.specs.FinMap.{contains_key, get}
use Rattle.value_core.specs.declared.ty.Ty.{Ty}
use Rattle.michelson_code.specs.declared.script.Script.{Script}
use Rattle.michelson_rules.specs.declared.ask.Ask.{Ask}
use Rattle.michelson_rules.specs.declared.ask.Ask.TheVariants as ask
use Rattle.michelson_machine.specs.Outcomes.{answered_by}
use Rattle.cell_names.specs.declared.access.Access.{Access}
use Rattle.cell_names.specs.declared.access.Access.TheVariants as access
use Rattle.cell_names.specs.declared.cell.Cell.{Cell}
use Rattle.cell_names.specs.declared.cell.Cell.TheVariants as cell
use Rattle.cell_names.specs.declared.head.Head.{Head}
use Rattle.cell_names.specs.Accounts.{is_implicit}
use Rattle.cell_names.specs.Conditions.{IsCovered}
use Rattle.cell_names.specs.Contents.{Contents}
use Rattle.cell_names.specs.Effects.{reply_to}
use Rattle.code_book.specs.declared.fault.NoEntry.{NoEntry}
use Rattle.code_book.specs.Books.{Contracts, has_account}
use Rattle.code_book.specs.Entries.{contract_entry, found, implicit_entry}
use Rattle.code_book.specs.Fits.{fits_access}
use Rattle.op_rules.specs.declared.transfer.Transfer.{Transfer}
use Rattle.op_rules.specs.Course.{Course}
use Rattle.op_rules.specs.CodeRule.{access_for}
use Rattle.op_rules.specs.Worlds.{world_of}
use Rattle.op_rules.specs.WriteRule.{returning}
use Rattle.op_rules.proofs.Growing.{Extends, GrowsAll, begins_answered, grows_called, grows_changing, grows_code, grows_debited, grows_loaded, grows_returning, grows_transfers}
use Rattle.op_run.specs.declared.phase.Phase.TheVariants as phase
use Rattle.op_run.specs.declared.phase.Then.{Then}
use Rattle.op_run.specs.declared.phase.Then.TheVariants as then
use Rattle.op_run.specs.Phases.{answer_in, goes, onward, others, then_goes}
use Rattle.op_run.specs.Safe.{SafeThen}
use Rattle.op_run.specs.Sound.{Enters, SoundThen}

-- ---- next

module _ (book : Contracts) (head : Head) (source : List ℕ) (calls : ℕ) (pending : List Transfer) where
  onward_grows : GrowsAll (onward book head source calls pending)
  onward_grows emitted = grows_transfers book head source calls (emitted ++ pending)

  then_grows : (a : Access) (next : Then) → GrowsAll (then_goes book head source calls pending a next)
  then_grows a (then.Debited t) r = grows_debited book head source t (onward book head source calls pending) onward_grows r
  then_grows a (then.Credited t) r = grows_called book head source t (onward book head source calls pending) onward_grows
  then_grows a (then.Stored t code) r = grows_loaded book head source t code.now.script (onward book head source calls pending) onward_grows r
  then_grows a (then.Looked c) r = λ m course.
      grows_code c.dest (answered_by (world_of book m c.dest) c.machine (answer_in a r)) (returning c.dest c.code.now.script c.stored (onward book head source calls pending))
      (grows_returning c.dest c.code.now.script c.stored (onward book head source calls pending) onward_grows) m course.past
  then_grows a (then.Written dest changes) r = grows_changing dest changes (others book head source calls pending) (grows_transfers book head source calls pending)

  pub asks_next : (a : Access) (next : Then) (m : Contents) (course : Course) →
      Extends (course.past ++ (a, reply_to a m) ∷ []) (goes book head source calls pending (phase.Waiting a next) m course).course.past
  asks_next a next m course = begins_answered a (then_goes book head source calls pending a next) (then_grows a next) m course

-- ---- fit

stands : (s : Option Script) (name : List ℕ) (takes : Ty) → contract_entry s name ≡ Ok takes → is_some s ≡ true
stands None name takes e = absurd cc
stands (Some s) name takes e = refl

account_if : (b : Bool) (o : Option Script) (i : Result Ty NoEntry) (name : List ℕ) (takes : Ty) → (if b then i else contract_entry o name) ≡ Ok takes → (b || is_some o) ≡ true
account_if true o i name takes e = refl
account_if false o i name takes e = stands o name takes e

-- an entry that is there is an account's that may have money
pub account_of : (book : Contracts) (t : Transfer) → Enters book t → has_account book t.dest ≡ true
account_of book t enters = account_if (is_implicit t.dest) (get book t.dest) (found (implicit_entry t.entry)) t.entry enters.takes enters.entry

-- what a code looks at is read
pub look_reads : (self : List ℕ) (q : Ask) (a : Access) → access_for self q ≡ Some a → (c : Cell) × (a ≡ access.Read c)
look_reads self (ask.Entry place key) a e = (cell.Entry self place key, cc)
look_reads self ask.Balance a e = (cell.Balance self, cc)
look_reads self (ask.Contract address entry ty) a e = absurd cc

-- no storage
looks_beside : (self : List ℕ) (q : Ask) (contract : List ℕ) → access_for self q ≢ Some (access.Read (cell.Storage contract))
looks_beside self (ask.Entry place key) contract e = cc
looks_beside self ask.Balance contract e = cc
looks_beside self (ask.Contract address entry ty) contract e = cc

module _ (book : Contracts) (f : ℕ) where
  -- a storage that is read is a contract's
  pub asks_stored : (a : Access) (next : Then) → SoundThen book f a next → (contract : List ℕ) → a ≡ access.Read (cell.Storage contract) → contains_key book contract ≡ true
  asks_stored a (then.Debited t) sound contract reads = let is : access.Debit t.sender t.amount ≡ access.Read (cell.Storage contract) = sym sound.1 ∙ reads in absurd cc
  asks_stored a (then.Credited t) sound contract reads = let is : access.Credit t.dest t.amount ≡ access.Read (cell.Storage contract) = sym sound.1 ∙ reads in absurd cc
  asks_stored a (then.Stored t code) sound contract reads =
      let is : access.Read (cell.Storage t.dest) ≡ access.Read (cell.Storage contract) = sym sound.1 ∙ reads in
      let same : t.dest ≡ contract = cc in
      subst (λ (x : List ℕ). contains_key book x ≡ true) same (ap (λ (s : Option Script). is_some s) sound.0.contract)
  asks_stored a (then.Looked c) sound contract reads = absurd (looks_beside c.dest sound.0.ask contract (sound.0.reads ∙ ap (λ (x : Access). Some x) reads))
  asks_stored a (then.Written dest changes) sound contract reads = let is : access.Write sound.0.place sound.0.held ≡ access.Read (cell.Storage contract) = sym sound.0.writes ∙ reads in absurd cc

  pub asks_fit : (a : Access) (next : Then) (m : Contents) → SoundThen book f a next → SafeThen book m a next → fits_access book a ≡ true
  asks_fit a (then.Debited t) m sound safe = ap (fits_access book) sound.1
  asks_fit a (then.Credited t) m sound safe = ap (fits_access book) sound.1 ∙ account_of book t sound.0
  asks_fit a (then.Stored t code) m sound safe = ap (fits_access book) sound.1
  asks_fit a (then.Looked c) m sound safe = ap (fits_access book) (look_reads c.dest sound.0.ask a sound.0.reads).1
  asks_fit a (then.Written dest changes) m sound safe = safe.0

  pub asks_covered : (a : Access) (next : Then) → SoundThen book f a next → IsCovered f a
  asks_covered a (then.Debited t) sound = subst (λ (x : Access). IsCovered f x) (sym sound.1) tt
  asks_covered a (then.Credited t) sound = subst (λ (x : Access). IsCovered f x) (sym sound.1) (let is : f ≡ t.amount = sound.2 in let most : t.amount ≤ f = omega (arith, is) in most)
  asks_covered a (then.Stored t code) sound = subst (λ (x : Access). IsCovered f x) (sym sound.1) tt
  asks_covered a (then.Looked c) sound = subst (λ (x : Access). IsCovered f x) (sym (look_reads c.dest sound.0.ask a sound.0.reads).1) tt
  asks_covered a (then.Written dest changes) sound = subst (λ (x : Access). IsCovered f x) (sym sound.0.writes) tt
