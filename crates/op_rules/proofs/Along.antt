-- What each access keeps holds at the end of an operation.
use Rattle.std.proofs.Common.{◌≡◌, ℕ, zero, suc, ◌+◌, ◌-◌, Bool, true, false, Option, Some, None, List, [], ◌∷◌, ◌++◌, refl}
use Rattle.std.specs.Prelude.{nat_lt, ◌==◌, map, Result, Ok, Err, if◌then◌else◌}
use Rattle.std.specs.FinMap.{get}
use Rattle.std.specs.Ordering.{eq_by_cmp}
use Rattle.value_core.specs.declared.ty.Ty.{Ty}
use Rattle.value_core.specs.declared.val.Val.{Val}
use Rattle.value_core.specs.BigMaps.{is_placed}
use Rattle.value_core.specs.Order.{order}
use Rattle.value_core.specs.Size.{size_of}
use Rattle.value_core.specs.Typed.{has_type}
use Rattle.michelson_code.specs.declared.script.Script.{Script}
use Rattle.michelson_code.specs.declared.why.Why.{Why}
use Rattle.michelson_code.specs.declared.why.Why.TheVariants as why
use Rattle.michelson_rules.specs.declared.ask.Ask.{Ask}
use Rattle.michelson_rules.specs.declared.ask.Ask.TheVariants as ask
use Rattle.michelson_rules.specs.BigMaps.{room_of}
use Rattle.michelson_rules.specs.Metered.{Asked, Ended, Outcome, less_room, script_outcome}
use Rattle.michelson_rules.specs.Returned.{Change, Returned, returned}
use Rattle.michelson_rules.specs.Runs.{Failed as Fails, Missed, Return}
use Rattle.cell_names.specs.declared.access.Access.{Access}
use Rattle.cell_names.specs.declared.access.Access.TheVariants as access
use Rattle.cell_names.specs.declared.access.Reply.{Reply}
use Rattle.cell_names.specs.declared.access.Reply.TheVariants as reply
use Rattle.cell_names.specs.declared.cell.Cell.{Cell}
use Rattle.cell_names.specs.declared.cell.Cell.TheVariants as cell
use Rattle.cell_names.specs.declared.head.Head.{Head}
use Rattle.cell_names.specs.Accounts.{is_implicit}
use Rattle.cell_names.specs.Conditions.{IsWritable}
use Rattle.cell_names.specs.Contents.{Contents, balance, put, with_balance}
use Rattle.code_book.specs.declared.fault.NoEntry.{NoEntry}
use Rattle.code_book.specs.declared.fault.NoEntry.TheVariants as missing
use Rattle.code_book.specs.Books.{Contracts}
use Rattle.code_book.specs.Entries.{entry_of}
use Rattle.op_rules.specs.declared.transfer.Transfer.{Transfer}
use Rattle.op_rules.specs.Operations.{sent_by}
use Rattle.op_rules.specs.Course.{Course, Doing, Past, Serial, accessing, answered, done, failed, is_one_too_many, taking}
use Rattle.op_rules.specs.CodeRule.{access_for, after_code, looking, param_of, with_returned}
use Rattle.op_rules.specs.WriteRule.{changing, returning, storing, written}
use Rattle.op_rules.specs.SerialRule.{called, calling, crediting, debited, entering, env_of, loaded, paying, running, transfers}
use Rattle.op_rules.specs.Worlds.{world_of}

-- one access more
abbrev pub noted : Past → Access → Reply → Past
noted past a r = past ++ (a, r) ∷ []

-- what is true of cells and accesses, also while an amount is in flight, and what it is true of at the end
pub record IsKept (P : Contents → Past → Type 0) (F : ℕ → Contents → Past → Type 0) (Q : Serial → Type 0) : Type 0 where
  pub fails : (y : Why) (m : Contents) (c : Course) → P m c.past → Q (failed y m c)
  pub owes : (y : Why) (n : ℕ) (m : Contents) (c : Course) → F n m c.past → Q (failed y m c)
  pub applied : (m : Contents) (c : Course) → P m c.past → Q (done m c)
  pub reads : (c : Cell) (m : Contents) (past : Past) → P m past → P m (noted past (access.Read c) (reply.Value (get m c)))
  pub writes : (c : Cell) (v : Option Val) (m : Contents) (past : Past) → IsWritable c → P m past → P (put m c v) (noted past (access.Write c v) reply.Done)
  pub low : (a : List ℕ) (n : ℕ) (m : Contents) (past : Past) → nat_lt (balance m a) n ≡ true → P m past → P m (noted past (access.Debit a n) reply.Low)
  pub debits : (a : List ℕ) (n : ℕ) (m : Contents) (past : Past) → nat_lt (balance m a) n ≡ false → P m past →
      F n (with_balance m a (balance m a - n)) (noted past (access.Debit a n) reply.Done)
  pub credits : (a : List ℕ) (n : ℕ) (m : Contents) (past : Past) → F n m past → P (with_balance m a (balance m a + n)) (noted past (access.Credit a n) reply.Done)

module _ (P : Contents → Past → Type 0) (F : ℕ → Contents → Past → Type 0) (Q : Serial → Type 0) (k : IsKept P F Q) where
  -- what keeps it
  abbrev pub Keeps : Doing → Type 0
  Keeps d = (m : Contents) (c : Course) → P m c.past → Q (d m c)

  abbrev pub KeepsAll : {A : Type 0} → (A → Doing) → Type 0
  KeepsAll {A} next = (x : A) → Keeps (next x)

  keeps_if : (b : Bool) (d e : Doing) → Keeps d → Keeps e → Keeps (if b then d else e)
  keeps_if true d e p q = p
  keeps_if false d e p q = q

  pick : (b : Bool) (x y : Serial) → Q x → Q y → Q (if b then x else y)
  pick true x y p q = p
  pick false x y p q = q

  keeps_failed : (y : Why) → Keeps (failed y)
  keeps_failed y m c p = k.fails y m c p

  keeps_taking : (n : ℕ) (d : Doing) → Keeps d → Keeps (taking n d)
  keeps_taking n d h m c p =
      pick (nat_lt c.left.room n) (failed why.TooMuchData m c) (d m (record { left = less_room c.left n; past = c.past }))
      (k.fails why.TooMuchData m c p) (h m (record { left = less_room c.left n; past = c.past }) p)

  -- an access whose answer keeps it
  keeps_accessing : (a : Access) (next : Reply → Doing) → Keeps (answered a next) → Keeps (accessing a next)
  keeps_accessing a next h m c p = pick (is_one_too_many a c.past) (failed why.TooManyCells m c) (answered a next m c) (k.fails why.TooManyCells m c p) (h m c p)

  keeps_read : (c : Cell) (next : Reply → Doing) → KeepsAll next → Keeps (accessing (access.Read c) next)
  keeps_read c next h = keeps_accessing (access.Read c) next (λ m course p. h (reply.Value (get m c)) m (record { left = course.left; past = noted course.past (access.Read c) (reply.Value (get m c)) }) (k.reads c m course.past p))

  keeps_write : (c : Cell) (v : Option Val) (next : Reply → Doing) → IsWritable c → KeepsAll next → Keeps (accessing (access.Write c v) next)
  keeps_write c v next w h = keeps_accessing (access.Write c v) next (λ m course p. h reply.Done (put m c v) (record { left = course.left; past = noted course.past (access.Write c v) reply.Done }) (k.writes c v m course.past w p))

  -- ---- codes

  keeps_looking : (self : List ℕ) (a : Ask) (d : Doing) → Keeps d → Keeps (looking (access_for self a) d)
  keeps_looking self (ask.Entry place key) d h = keeps_read (cell.Entry self place key) (λ r. d) (λ r. h)
  keeps_looking self ask.Balance d h = keeps_read (cell.Balance self) (λ r. d) (λ r. h)
  keeps_looking self (ask.Contract address entry ty) d h = h

  keeps_returned : (o : Option Returned) (next : Returned → Doing) → KeepsAll next → Keeps (with_returned o next)
  keeps_returned None next h = keeps_failed why.NoSuchContract
  keeps_returned (Some r) next h = h r

  keeps_code : (self : List ℕ) (o : Outcome (List Val)) (next : Returned → Doing) → KeepsAll next → (m : Contents) (past : Past) → P m past → Q (after_code self o next m past)
  keeps_code self (Ended (Return stack beside) left) next h m past p = keeps_returned (returned beside.versions stack) next h m (record { left = left; past = past }) p
  keeps_code self (Ended (Fails y) left) next h m past p = k.fails y m (record { left = left; past = past }) p
  keeps_code self (Ended Missed left) next h m past p = k.fails why.NoSuchContract m (record { left = left; past = past }) p
  keeps_code self (Asked a left more) next h m past p =
      keeps_looking self a (λ m' course. after_code self more next m' course.past) (λ m' course p'. keeps_code self more next h m' course.past p')
      m (record { left = left; past = past }) p

  -- ---- writes

  keeps_changing : (self : List ℕ) (cs : List Change) (next : Doing) → Keeps next → Keeps (changing self cs next)
  keeps_changing self [] next h = h
  keeps_changing self ((place, key, choice) ∷ more) next h =
      let rest : Reply → Doing = λ r. changing self more next in
      keeps_taking (room_of key choice) (accessing (access.Write (cell.Entry self place key) choice) rest)
      (keeps_write (cell.Entry self place key) choice rest tt (λ r. keeps_changing self more next h))

  keeps_written : (self : List ℕ) (v : Val) (next : Doing) → Keeps next → Keeps (written self v next)
  keeps_written self v next h =
      keeps_taking (1 + size_of v) (accessing (access.Write (cell.Storage self) (Some v)) (λ r. next))
      (keeps_write (cell.Storage self) (Some v) (λ r. next) tt (λ r. h))

  keeps_returning : (self : List ℕ) (s : Script) (old : Val) (next : List Transfer → Doing) → KeepsAll next → KeepsAll (returning self s old next)
  keeps_returning self s old next h r =
      let rest = changing self r.changes (next (map (sent_by self) r.ops)) in
      let keeps : Keeps rest = keeps_changing self r.changes (next (map (sent_by self) r.ops)) (h (map (sent_by self) r.ops)) in
      keeps_if (is_placed r.storage s.storage) (storing self old r.storage rest) (failed why.BigMapMoved)
      (keeps_if (eq_by_cmp order old r.storage) rest (written self r.storage rest) keeps (keeps_written self r.storage rest keeps))
      (keeps_failed why.BigMapMoved)

  -- ---- transfers

  module _ (book : Contracts) (head : Head) (source : List ℕ) where
    keeps_loaded : (t : Transfer) (s : Script) (next : List Transfer → Doing) → KeepsAll next → KeepsAll (loaded book head source t s next)
    keeps_loaded t s next h (reply.Value (Some stored)) = keeps_taking (1 + size_of stored) (running book head source t s stored next) (λ m c p.
        keeps_code t.dest (script_outcome s (env_of head source t) (world_of book m t.dest) c.left (param_of s t) stored)
        (returning t.dest s stored next) (keeps_returning t.dest s stored next h) m c.past p)
    keeps_loaded t s next h (reply.Value None) = keeps_failed why.NoSuchContract
    keeps_loaded t s next h reply.Done = keeps_failed why.NoSuchContract
    keeps_loaded t s next h reply.Low = keeps_failed why.NoSuchContract

    keeps_calling : (t : Transfer) (o : Option Script) (next : List Transfer → Doing) → KeepsAll next → Keeps (calling book head source t o next)
    keeps_calling t None next h = h []
    keeps_calling t (Some s) next h = keeps_read (cell.Storage t.dest) (loaded book head source t s next) (keeps_loaded t s next h)

    keeps_called : (t : Transfer) (next : List Transfer → Doing) → KeepsAll next → Keeps (called book head source t next)
    keeps_called t next h = keeps_calling t (if is_implicit t.dest then None else get book t.dest) next h

    -- with the amount in flight
    keeps_crediting : (t : Transfer) (next : List Transfer → Doing) → KeepsAll next → (m : Contents) (c : Course) → F t.amount m c.past → Q (crediting book head source t next m c)
    keeps_crediting t next h m c f =
        let a = access.Credit t.dest t.amount in
        let left : Course = record { left = less_room c.left 1; past = c.past } in
        let call : Reply → Doing = λ r. called book head source t next in
        pick (nat_lt c.left.room 1) (failed why.TooMuchData m c) (accessing a call m left) (k.owes why.TooMuchData t.amount m c f)
        (pick (is_one_too_many a c.past) (failed why.TooManyCells m left) (answered a call m left) (k.owes why.TooManyCells t.amount m left f)
        (keeps_called t next h (with_balance m t.dest (balance m t.dest + t.amount)) (record { left = less_room c.left 1; past = noted c.past a reply.Done })
        (k.credits t.dest t.amount m c.past f)))

    debited_either : (t : Transfer) (next : List Transfer → Doing) → KeepsAll next → (m : Contents) (c : Course) → P m c.past → (low : Bool) → nat_lt (balance m t.sender) t.amount ≡ low →
        Q (debited book head source t next (if low then reply.Low else reply.Done) (if low then m else with_balance m t.sender (balance m t.sender - t.amount))
        (record { left = c.left; past = noted c.past (access.Debit t.sender t.amount) (if low then reply.Low else reply.Done) }))
    debited_either t next h m c p true e =
        k.fails why.BalanceTooLow m (record { left = c.left; past = noted c.past (access.Debit t.sender t.amount) reply.Low }) (k.low t.sender t.amount m c.past e p)
    debited_either t next h m c p false e =
        keeps_crediting t next h (with_balance m t.sender (balance m t.sender - t.amount)) (record { left = c.left; past = noted c.past (access.Debit t.sender t.amount) reply.Done })
        (k.debits t.sender t.amount m c.past e p)

    keeps_paying : (t : Transfer) (next : List Transfer → Doing) → KeepsAll next → Keeps (paying book head source t next)
    keeps_paying t next h =
        let debit = accessing (access.Debit t.sender t.amount) (debited book head source t next) in
        keeps_if (t.amount == 0) (called book head source t next) (taking 1 debit) (keeps_called t next h)
        (keeps_taking 1 debit
        (keeps_accessing (access.Debit t.sender t.amount) (debited book head source t next)
        (λ m c p. debited_either t next h m c p (nat_lt (balance m t.sender) t.amount) refl)))

    keeps_entering : (t : Transfer) (r : Result Ty NoEntry) (next : List Transfer → Doing) → KeepsAll next → Keeps (entering book head source t r next)
    keeps_entering t (Err missing.NoSuchContract) next h = keeps_failed why.NoSuchContract
    keeps_entering t (Err missing.NoSuchEntry) next h = keeps_failed why.NoSuchEntry
    keeps_entering t (Ok ty) next h =
        keeps_if (has_type t.param ty) (paying book head source t next) (failed why.WrongParameter) (keeps_paying t next h) (keeps_failed why.WrongParameter)

    pub keeps_transfers : (n : ℕ) (ts : List Transfer) → Keeps (transfers book head source n ts)
    keeps_transfers n [] = λ m c p. k.applied m c p
    keeps_transfers zero (t ∷ ts) = keeps_failed why.TooManyCalls
    keeps_transfers (suc n) (t ∷ ts) =
        keeps_entering t (entry_of book t.dest t.entry) (λ emitted. transfers book head source n (emitted ++ ts)) (λ emitted. keeps_transfers n (emitted ++ ts))
