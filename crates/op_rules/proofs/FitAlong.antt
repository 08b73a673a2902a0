-- What each access that fits a book keeps holds at the end of an operation, which makes no other accesses.
use Rattle.std.proofs.Common.{◌≡◌, ℕ, zero, suc, ◌+◌, ◌-◌, Bool, true, false, Option, Some, None, List, [], ◌∷◌, ◌++◌, refl, sym, subst, ◌∙◌}
use Rattle.std.specs.Prelude.{nat_lt, ◌==◌, map, Result, Ok, Err, if◌then◌else◌}
use Rattle.std.specs.List.{AllByRecursion, AllByRecursion-prop}
use Rattle.std.specs.FinMap.{get}
use Rattle.std.specs.Ordering.{eq_by_cmp}
use Rattle.std.proofs.Math.Bool.{Bool-set}
use Rattle.std.proofs.Math.Bridge.{le_prop}
use Rattle.std.proofs.Math.Logic.{∥∥₁_elim, ∥∥₁_map}
use Rattle.std.proofs.lemmas.Option.{same_Some}
use Rattle.value_core.specs.declared.ty.Ty.{Ty}
use Rattle.value_core.specs.declared.val.Val.{Val}
use Rattle.value_core.specs.BigMaps.{is_placed}
use Rattle.value_core.specs.Order.{order}
use Rattle.value_core.specs.Size.{size_of}
use Rattle.value_core.specs.Typed.{has_type}
use Rattle.michelson_code.specs.declared.script.Script.{Script}
use Rattle.michelson_code.specs.declared.why.Why.{Why}
use Rattle.michelson_code.specs.declared.why.Why.TheVariants as why
use Rattle.michelson_rules.specs.declared.ask.Ask.{Ask}
use Rattle.michelson_rules.specs.declared.ask.Ask.TheVariants as ask
use Rattle.michelson_rules.specs.BigMaps.{room_of}
use Rattle.michelson_rules.specs.Metered.{Asked, Ended, Outcome, less_room, script_outcome}
use Rattle.michelson_rules.specs.Returned.{Change, Returned, returned}
use Rattle.michelson_rules.specs.Runs.{Beside, Failed as Fails, Missed, Return}
use Rattle.michelson_rules.specs.TypedScripts.{IsTypedReturn, ReturnsTyped, WhereReturned}
use Rattle.cell_names.specs.declared.access.Access.{Access}
use Rattle.cell_names.specs.declared.access.Access.TheVariants as access
use Rattle.cell_names.specs.declared.access.Reply.{Reply}
use Rattle.cell_names.specs.declared.access.Reply.TheVariants as reply
use Rattle.cell_names.specs.declared.cell.Cell.{Cell}
use Rattle.cell_names.specs.declared.cell.Cell.TheVariants as cell
use Rattle.cell_names.specs.declared.head.Head.{Head}
use Rattle.cell_names.specs.Accounts.{is_implicit}
use Rattle.cell_names.specs.Contents.{Contents, balance, put, with_balance}
use Rattle.code_book.specs.declared.fault.NoEntry.{NoEntry}
use Rattle.code_book.specs.declared.fault.NoEntry.TheVariants as missing
use Rattle.code_book.specs.Books.{Contracts, IsBook, has_account}
use Rattle.code_book.specs.Entries.{entry_of}
use Rattle.code_book.specs.Fits.{fits_storage, fits_write, is_kept_as}
use Rattle.code_book.proofs.Owning.{AllFit}
use Rattle.op_rules.specs.declared.transfer.Transfer.{Transfer}
use Rattle.op_rules.specs.Operations.{sent_by}
use Rattle.op_rules.specs.Course.{Course, Doing, Past, Serial, accessing, answered, done, failed, is_one_too_many, taking}
use Rattle.op_rules.specs.CodeRule.{access_for, after_code, looking, param_of, with_returned}
use Rattle.op_rules.specs.WriteRule.{changing, returning, storing, written}
use Rattle.op_rules.specs.SerialRule.{called, calling, crediting, debited, entering, env_of, loaded, paying, running, transfers}
use Rattle.op_rules.specs.Worlds.{world_of}
use Rattle.op_rules.proofs.Along.{noted}
use Rattle.op_rules.proofs.CalledCodes.{ChangesFit, IsMoney, changes_fit, code_returns_typed, emits_money, storage_fits}
use Rattle.op_rules.proofs.EnteredCalls.{account_of, param_typed}

-- what is true of cells and accesses, also while an amount is in flight, and what it is true of at the end
pub record IsKeptFit (book : Contracts) (P : Contents → Past → Type 0) (F : ℕ → Contents → Past → Type 0) (Q : Serial → Type 0) : Type 0 where
  pub values : (m : Contents) (past : Past) → P m past → AllFit book m
  pub fails : (y : Why) (m : Contents) (c : Course) → P m c.past → Q (failed y m c)
  pub owes : (y : Why) (n : ℕ) (m : Contents) (c : Course) → F n m c.past → Q (failed y m c)
  pub applied : (m : Contents) (c : Course) → P m c.past → Q (done m c)
  pub reads : (c : Cell) (m : Contents) (past : Past) → P m past → P m (noted past (access.Read c) (reply.Value (get m c)))
  pub writes : (c : Cell) (v : Option Val) (m : Contents) (past : Past) → fits_write book c v ≡ true → P m past → P (put m c v) (noted past (access.Write c v) reply.Done)
  pub low : (a : List ℕ) (n : ℕ) (m : Contents) (past : Past) → nat_lt (balance m a) n ≡ true → P m past → P m (noted past (access.Debit a n) reply.Low)
  pub debits : (a : List ℕ) (n : ℕ) (m : Contents) (past : Past) → nat_lt (balance m a) n ≡ false → P m past →
      F n (with_balance m a (balance m a - n)) (noted past (access.Debit a n) reply.Done)
  pub credits : (a : List ℕ) (n : ℕ) (m : Contents) (past : Past) → has_account book a ≡ true → F n m past →
      P (with_balance m a (balance m a + n)) (noted past (access.Credit a n) reply.Done)

-- ---- amounts of money

money_prop : (ts : List Transfer) → IsProp (AllByRecursion IsMoney ts)
money_prop ts = AllByRecursion-prop IsMoney (λ t. le_prop) ts

money_append : (ts us : List Transfer) → AllByRecursion IsMoney ts → AllByRecursion IsMoney us → AllByRecursion IsMoney (ts ++ us)
money_append [] us p q = q
money_append (t ∷ ts) us p q = (p.0, money_append ts us p.1 q)

-- what a contract emits are transfers of amounts of money
emitted_are_money : (self : List ℕ) (s : Script) (r : Returned) → ∥ IsTypedReturn s r ∥₁ → AllByRecursion IsMoney (map (sent_by self) r.ops)
emitted_are_money self s r typed =
    ∥∥₁_elim typed (money_prop (map (sent_by self) r.ops)) (λ t. emits_money self r.ops t.ops)

-- what the run of a code returned
typed_return : (s : Script) (stack : List Val) (beside : Beside) (r : Returned) → returned beside.versions stack ≡ Some r → ReturnsTyped s stack beside → IsTypedReturn s r
typed_return s stack beside r e typed = subst (IsTypedReturn s) (same_Some typed.0 r (sym typed.1 ∙ e)) typed.2

-- a value that fits a storage of a contract is kept as one
kept_as : (o : Option Script) (s : Script) (v : Val) → o ≡ Some s → fits_storage o v ≡ true → is_kept_as s.storage v ≡ true
kept_as o s v is fit = subst (λ (x : Option Script). fits_storage x v ≡ true) is fit

-- a contract that is called is no implicit account
is_contract : (b : Bool) (o : Option Script) (s : Script) → (if b then None else o) ≡ Some s → (b ≡ false) × (o ≡ Some s)
is_contract true o s e = absurd cc
is_contract false o s e = (refl, e)

module _ (book : Contracts) (P : Contents → Past → Type 0) (F : ℕ → Contents → Past → Type 0) (Q : Serial → Type 0) (k : IsKeptFit book P F Q) where
  -- what keeps it
  abbrev Keeps : Doing → Type 0
  Keeps d = (m : Contents) (c : Course) → P m c.past → Q (d m c)

  abbrev KeepsAll : {A : Type 0} → (A → Doing) → Type 0
  KeepsAll {A} next = (x : A) → Keeps (next x)

  -- what follows transfers of amounts of money
  abbrev KeepsOn : (List Transfer → Doing) → Type 0
  KeepsOn next = (ts : List Transfer) → AllByRecursion IsMoney ts → Keeps (next ts)

  keeps_if : (b : Bool) (d e : Doing) → (b ≡ true → Keeps d) → Keeps e → Keeps (if b then d else e)
  keeps_if true d e p q = p refl
  keeps_if false d e p q = q

  pick : (b : Bool) (x y : Serial) → Q x → Q y → Q (if b then x else y)
  pick true x y p q = p
  pick false x y p q = q

  keeps_failed : (y : Why) → Keeps (failed y)
  keeps_failed y m c p = k.fails y m c p

  keeps_taking : (n : ℕ) (d : Doing) → Keeps d → Keeps (taking n d)
  keeps_taking n d h m c p =
      pick (nat_lt c.left.room n) (failed why.TooMuchData m c) (d m (record { left = less_room c.left n; past = c.past }))
      (k.fails why.TooMuchData m c p) (h m (record { left = less_room c.left n; past = c.past }) p)

  -- an access whose answer keeps it
  keeps_accessing : (a : Access) (next : Reply → Doing) → Keeps (answered a next) → Keeps (accessing a next)
  keeps_accessing a next h m c p = pick (is_one_too_many a c.past) (failed why.TooManyCells m c) (answered a next m c) (k.fails why.TooManyCells m c p) (h m c p)

  -- a read, told of what it finds
  keeps_read : (c : Cell) (next : Reply → Doing) → ((m : Contents) (course : Course) → P m course.past → Q (next (reply.Value (get m c)) m course)) → Keeps (accessing (access.Read c) next)
  keeps_read c next h = keeps_accessing (access.Read c) next (λ m course p. h m (record { left = course.left; past = noted course.past (access.Read c) (reply.Value (get m c)) }) (k.reads c m course.past p))

  keeps_write : (c : Cell) (v : Option Val) (next : Reply → Doing) → fits_write book c v ≡ true → KeepsAll next → Keeps (accessing (access.Write c v) next)
  keeps_write c v next fit h = keeps_accessing (access.Write c v) next (λ m course p. h reply.Done (put m c v) (record { left = course.left; past = noted course.past (access.Write c v) reply.Done }) (k.writes c v m course.past fit p))

  -- ---- writes

  keeps_changing : (self : List ℕ) (cs : List Change) (next : Doing) → ChangesFit book self cs → Keeps next → Keeps (changing self cs next)
  keeps_changing self [] next fit h = h
  keeps_changing self ((place, key, choice) ∷ more) next fit h =
      let rest : Reply → Doing = λ r. changing self more next in
      keeps_taking (room_of key choice) (accessing (access.Write (cell.Entry self place key) choice) rest)
      (keeps_write (cell.Entry self place key) choice rest fit.0 (λ r. keeps_changing self more next fit.1 h))

  keeps_written : (self : List ℕ) (v : Val) (next : Doing) → fits_write book (cell.Storage self) (Some v) ≡ true → Keeps next → Keeps (written self v next)
  keeps_written self v next fit h =
      keeps_taking (1 + size_of v) (accessing (access.Write (cell.Storage self) (Some v)) (λ r. next))
      (keeps_write (cell.Storage self) (Some v) (λ r. next) fit (λ r. h))

  -- ---- codes of a contract

  module _ (self : List ℕ) (s : Script) (contract : get book self ≡ Some s) where
    all_changes_fit : (r : Returned) → ∥ IsTypedReturn s r ∥₁ → ChangesFit book self r.changes
    all_changes_fit r typed =
        ∥∥₁_elim typed (AllByRecursion-prop (λ c. fits_write book (cell.Entry self c.0 c.1) c.2 ≡ true) (λ c. Bool-set (fits_write book (cell.Entry self c.0 c.1) c.2) true) r.changes)
        (λ t. changes_fit book self s contract r.changes t.changes)

    new_storage_fits : (r : Returned) → ∥ IsTypedReturn s r ∥₁ → is_placed r.storage s.storage ≡ true → fits_write book (cell.Storage self) (Some r.storage) ≡ true
    new_storage_fits r typed placed = ∥∥₁_elim typed (Bool-set (fits_write book (cell.Storage self) (Some r.storage)) true) (λ t. storage_fits book self s contract r t placed)

    keeps_returning : (old : Val) (next : List Transfer → Doing) → KeepsOn next → (r : Returned) → ∥ IsTypedReturn s r ∥₁ → Keeps (returning self s old next r)
    keeps_returning old next h r typed =
        let then_next = next (map (sent_by self) r.ops) in
        let rest = changing self r.changes then_next in
        let keeps : Keeps rest = keeps_changing self r.changes then_next (all_changes_fit r typed) (h (map (sent_by self) r.ops) (emitted_are_money self s r typed)) in
        keeps_if (is_placed r.storage s.storage) (storing self old r.storage rest) (failed why.BigMapMoved)
        (λ placed.
        keeps_if (eq_by_cmp order old r.storage) rest (written self r.storage rest) (λ same. keeps) (keeps_written self r.storage rest (new_storage_fits r typed placed) keeps))
        (keeps_failed why.BigMapMoved)

    -- what follows, where the code returned
    module _ (next : Returned → Doing) (h : (r : Returned) → ∥ IsTypedReturn s r ∥₁ → Keeps (next r)) where
      keeps_returned : (stack : List Val) (beside : Beside) (o : Option Returned) → returned beside.versions stack ≡ o → ∥ ReturnsTyped s stack beside ∥₁ → Keeps (with_returned o next)
      keeps_returned stack beside None e typed = keeps_failed why.NoSuchContract
      keeps_returned stack beside (Some r) e typed = h r (∥∥₁_map typed (typed_return s stack beside r e))

      keeps_looking : (a : Ask) (d : Doing) → Keeps d → Keeps (looking (access_for self a) d)
      keeps_looking (ask.Entry place key) d g = keeps_read (cell.Entry self place key) (λ r. d) g
      keeps_looking ask.Balance d g = keeps_read (cell.Balance self) (λ r. d) g
      keeps_looking (ask.Contract address entry ty) d g = g

      keeps_code : (o : Outcome (List Val)) → ∥ WhereReturned (ReturnsTyped s) o ∥₁ → (m : Contents) (past : Past) → P m past → Q (after_code self o next m past)
      keeps_code (Ended (Return stack beside) left) typed m past p =
          keeps_returned stack beside (returned beside.versions stack) refl typed m (record { left = left; past = past }) p
      keeps_code (Ended (Fails y) left) typed m past p = k.fails y m (record { left = left; past = past }) p
      keeps_code (Ended Missed left) typed m past p = k.fails why.NoSuchContract m (record { left = left; past = past }) p
      keeps_code (Asked a left more) typed m past p =
          keeps_looking a (λ m' course. after_code self more next m' course.past) (λ m' course p'. keeps_code more typed m' course.past p')
          m (record { left = left; past = past }) p

  -- ---- transfers

  module _ (all : IsBook book) (head : Head) (source : List ℕ) where
    -- the code of a contract runs on its storage
    keeps_running : (t : Transfer) (s : Script) (stored : Val) (next : List Transfer → Doing) → IsMoney t → has_type (param_of s t) s.param ≡ true → get book t.dest ≡ Some s →
        is_kept_as s.storage stored ≡ true → KeepsOn next → Keeps (running book head source t s stored next)
    keeps_running t s stored next money param contract kept h m c p =
        keeps_code t.dest s contract (returning t.dest s stored next) (keeps_returning t.dest s contract stored next h)
        (script_outcome s (env_of head source t) (world_of book m t.dest) c.left (param_of s t) stored)
        (code_returns_typed book m (k.values m c.past p) t.dest s contract (env_of head source t) (param_of s t) stored param kept money (all.listed t.dest s contract).typed c.left)
        m c.past p

    keeps_found : (t : Transfer) (s : Script) (next : List Transfer → Doing) → IsMoney t → has_type (param_of s t) s.param ≡ true → get book t.dest ≡ Some s → KeepsOn next →
        (o : Option Val) → ((v : Val) → o ≡ Some v → fits_storage (get book t.dest) v ≡ true) → Keeps (loaded book head source t s next (reply.Value o))
    keeps_found t s next money param contract h None fit = keeps_failed why.NoSuchContract
    keeps_found t s next money param contract h (Some stored) fit =
        keeps_taking (1 + size_of stored) (running book head source t s stored next)
        (keeps_running t s stored next money param contract (kept_as (get book t.dest) s stored contract (fit stored refl)) h)

    keeps_calling : (t : Transfer) (ty : Ty) (o : Option Script) (next : List Transfer → Doing) → IsMoney t → entry_of book t.dest t.entry ≡ Ok ty → has_type t.param ty ≡ true →
        (if is_implicit t.dest then None else get book t.dest) ≡ o → KeepsOn next → Keeps (calling book head source t o next)
    keeps_calling t ty None next money entry typed is h = h [] tt
    keeps_calling t ty (Some s) next money entry typed is h =
        let contract = is_contract (is_implicit t.dest) (get book t.dest) s is in
        keeps_read (cell.Storage t.dest) (loaded book head source t s next)
        (λ m c p.
        keeps_found t s next money (param_typed book t s ty entry typed contract.1 contract.0) contract.1 h
        (get m (cell.Storage t.dest)) (k.values m c.past p (cell.Storage t.dest)) m c p)

    module _ (t : Transfer) (ty : Ty) (money : IsMoney t) (entry : entry_of book t.dest t.entry ≡ Ok ty) (typed : has_type t.param ty ≡ true) (next : List Transfer → Doing) (h : KeepsOn next) where
      keeps_called : Keeps (called book head source t next)
      keeps_called = keeps_calling t ty (if is_implicit t.dest then None else get book t.dest) next money entry typed refl h

      -- with the amount in flight
      keeps_crediting : (m : Contents) (c : Course) → F t.amount m c.past → Q (crediting book head source t next m c)
      keeps_crediting m c f =
          let a = access.Credit t.dest t.amount in
          let left : Course = record { left = less_room c.left 1; past = c.past } in
          let call : Reply → Doing = λ r. called book head source t next in
          pick (nat_lt c.left.room 1) (failed why.TooMuchData m c) (accessing a call m left) (k.owes why.TooMuchData t.amount m c f)
          (pick (is_one_too_many a c.past) (failed why.TooManyCells m left) (answered a call m left) (k.owes why.TooManyCells t.amount m left f)
          (keeps_called (with_balance m t.dest (balance m t.dest + t.amount)) (record { left = less_room c.left 1; past = noted c.past a reply.Done })
          (k.credits t.dest t.amount m c.past (account_of book t ty entry) f)))

      debited_either : (m : Contents) (c : Course) → P m c.past → (low : Bool) → nat_lt (balance m t.sender) t.amount ≡ low →
          Q (debited book head source t next (if low then reply.Low else reply.Done) (if low then m else with_balance m t.sender (balance m t.sender - t.amount))
          (record { left = c.left; past = noted c.past (access.Debit t.sender t.amount) (if low then reply.Low else reply.Done) }))
      debited_either m c p true e =
          k.fails why.BalanceTooLow m (record { left = c.left; past = noted c.past (access.Debit t.sender t.amount) reply.Low }) (k.low t.sender t.amount m c.past e p)
      debited_either m c p false e =
          keeps_crediting (with_balance m t.sender (balance m t.sender - t.amount)) (record { left = c.left; past = noted c.past (access.Debit t.sender t.amount) reply.Done })
          (k.debits t.sender t.amount m c.past e p)

      keeps_paying : Keeps (paying book head source t next)
      keeps_paying =
          let debit = accessing (access.Debit t.sender t.amount) (debited book head source t next) in
          keeps_if (t.amount == 0) (called book head source t next) (taking 1 debit) (λ none. keeps_called)
          (keeps_taking 1 debit
          (keeps_accessing (access.Debit t.sender t.amount) (debited book head source t next)
          (λ m c p. debited_either m c p (nat_lt (balance m t.sender) t.amount) refl)))

    keeps_entering : (t : Transfer) (r : Result Ty NoEntry) (next : List Transfer → Doing) → IsMoney t → entry_of book t.dest t.entry ≡ r → KeepsOn next → Keeps (entering book head source t r next)
    keeps_entering t (Err missing.NoSuchContract) next money is h = keeps_failed why.NoSuchContract
    keeps_entering t (Err missing.NoSuchEntry) next money is h = keeps_failed why.NoSuchEntry
    keeps_entering t (Ok ty) next money is h =
        keeps_if (has_type t.param ty) (paying book head source t next) (failed why.WrongParameter) (λ typed. keeps_paying t ty money is typed next h) (keeps_failed why.WrongParameter)

    pub keeps_transfers : (n : ℕ) (ts : List Transfer) → AllByRecursion IsMoney ts → Keeps (transfers book head source n ts)
    keeps_transfers n [] money = λ m c p. k.applied m c p
    keeps_transfers zero (t ∷ ts) money = keeps_failed why.TooManyCalls
    keeps_transfers (suc n) (t ∷ ts) money =
        keeps_entering t (entry_of book t.dest t.entry) (λ emitted. transfers book head source n (emitted ++ ts)) money.0 refl
        (λ emitted more. keeps_transfers n (emitted ++ ts) (money_append emitted ts more money.1))
