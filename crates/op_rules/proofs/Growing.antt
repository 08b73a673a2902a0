-- What follows only adds accesses to those so far.
use Rattle.std.proofs.Common.{◌≡◌, ℕ, zero, suc, ◌+◌, Bool, true, false, Option, Some, None, List, [], ◌∷◌, ◌++◌, length, take, refl, sym, ap, ◌∙◌, append_assoc}
use Rattle.std.proofs.lemmas.List.{append-nil}
use Rattle.std.specs.Prelude.{nat_lt, ◌==◌, map, Result, Ok, Err, if◌then◌else◌}
use Rattle.std.specs.FinMap.{get}
use Rattle.std.specs.Ordering.{eq_by_cmp}
use Rattle.value_core.specs.declared.ty.Ty.{Ty}
use Rattle.value_core.specs.declared.val.Val.{Val}
use Rattle.value_core.specs.BigMaps.{is_placed}
use Rattle.value_core.specs.Order.{order}
use Rattle.value_core.specs.Size.{size_of}
use Rattle.value_core.specs.Typed.{has_type}
use Rattle.michelson_code.specs.declared.script.Script.{Script}
use Rattle.michelson_code.specs.declared.why.Why.{Why}
use Rattle.michelson_code.specs.declared.why.Why.TheVariants as why
use Rattle.michelson_rules.specs.BigMaps.{room_of}
use Rattle.michelson_rules.specs.Metered.{Asked, Ended, Outcome, less_room, script_outcome}
use Rattle.michelson_rules.specs.Returned.{Change, Returned, returned}
use Rattle.michelson_rules.specs.Runs.{Failed as Fails, Missed, Return}
use Rattle.cell_names.specs.declared.access.Access.{Access}
use Rattle.cell_names.specs.declared.access.Access.TheVariants as access
use Rattle.cell_names.specs.declared.access.Reply.{Reply}
use Rattle.cell_names.specs.declared.access.Reply.TheVariants as reply
use Rattle.cell_names.specs.declared.cell.Cell.TheVariants as cell
use Rattle.cell_names.specs.declared.head.Head.{Head}
use Rattle.cell_names.specs.Accounts.{is_implicit}
use Rattle.cell_names.specs.Contents.{Contents}
use Rattle.cell_names.specs.Effects.{after, reply_to}
use Rattle.code_book.specs.declared.fault.NoEntry.{NoEntry}
use Rattle.code_book.specs.declared.fault.NoEntry.TheVariants as missing
use Rattle.code_book.specs.Books.{Contracts}
use Rattle.code_book.specs.Entries.{entry_of}
use Rattle.op_rules.specs.declared.transfer.Transfer.{Transfer}
use Rattle.op_rules.specs.Operations.{sent_by}
use Rattle.op_rules.specs.Course.{Course, Doing, Past, Serial, accessing, answered, done, failed, is_one_too_many, taking}
use Rattle.op_rules.specs.CodeRule.{access_for, after_code, looking, param_of, with_returned}
use Rattle.op_rules.specs.WriteRule.{changing, returning, storing, written}
use Rattle.op_rules.specs.SerialRule.{called, calling, crediting, debited, entering, env_of, loaded, paying, running, transfer, transfers}
use Rattle.op_rules.specs.Replies.{BeginWith}
use Rattle.op_rules.specs.Worlds.{world_of}

-- ---- accesses behind others

-- the accesses are those of the first, and more
abbrev pub Extends : Past → Past → Type 0
Extends first past = (more : Past) × (past ≡ first ++ more)

pub extends_self : (xs : Past) → Extends xs xs
extends_self xs = ([], sym (append-nil xs))

pub extends_then : (xs ys zs : Past) → Extends xs ys → Extends ys zs → Extends xs zs
extends_then xs ys zs h k = (h.0 ++ k.0, k.1 ∙ ap (λ l. l ++ k.0) h.1 ∙ append_assoc xs h.0 k.0)

take-front : (xs more : Past) → take (length xs) (xs ++ more) ≡ xs
take-front [] more = refl
take-front (x ∷ xs) more = ap (λ l. x ∷ l) (take-front xs more)

pub begins_with : (xs ys : Past) → Extends xs ys → BeginWith xs ys
begins_with xs ys h = ap (take (length xs)) h.1 ∙ take-front xs h.0

-- ---- what only adds accesses

abbrev pub Grows : Doing → Type 0
Grows d = (m : Contents) (c : Course) → Extends c.past (d m c).course.past

abbrev pub GrowsAll : {A : Type 0} → (A → Doing) → Type 0
GrowsAll {A} next = (x : A) → Grows (next x)

grows_if : (b : Bool) (d e : Doing) → Grows d → Grows e → Grows (if b then d else e)
grows_if true d e p q = p
grows_if false d e p q = q

pub grows_failed : (y : Why) → Grows (failed y)
grows_failed y m c = extends_self c.past

pub grows_done : Grows done
grows_done m c = extends_self c.past

pick : (b : Bool) (past : Past) (x y : Serial) → Extends past x.course.past → Extends past y.course.past → Extends past (if b then x else y).course.past
pick true past x y p q = p
pick false past x y p q = q

pub grows_taking : (n : ℕ) (d : Doing) → Grows d → Grows (taking n d)
grows_taking n d p m c =
    pick (nat_lt c.left.room n) c.past (failed why.TooMuchData m c) (d m (record { left = less_room c.left n; past = c.past })) (extends_self c.past)
    (p m (record { left = less_room c.left n; past = c.past }))

pub grows_answered : (a : Access) (next : Reply → Doing) → GrowsAll next → Grows (answered a next)
grows_answered a next p m c =
    extends_then c.past (c.past ++ (a, reply_to a m) ∷ []) (answered a next m c).course.past ((a, reply_to a m) ∷ [], refl)
    (p (reply_to a m) (after a m) (record { left = c.left; past = c.past ++ (a, reply_to a m) ∷ [] }))

-- the access comes first
pub begins_answered : (a : Access) (next : Reply → Doing) → GrowsAll next → (m : Contents) (c : Course) →
    Extends (c.past ++ (a, reply_to a m) ∷ []) (answered a next m c).course.past
begins_answered a next p m c = p (reply_to a m) (after a m) (record { left = c.left; past = c.past ++ (a, reply_to a m) ∷ [] })

pub grows_accessing : (a : Access) (next : Reply → Doing) → GrowsAll next → Grows (accessing a next)
grows_accessing a next p m c =
    pick (is_one_too_many a c.past) c.past (failed why.TooManyCells m c) (answered a next m c) (extends_self c.past) (grows_answered a next p m c)

-- ---- codes

grows_looking : (o : Option Access) (d : Doing) → Grows d → Grows (looking o d)
grows_looking None d p = p
grows_looking (Some a) d p = grows_accessing a (λ r. d) (λ r. p)

grows_returned : (o : Option Returned) (next : Returned → Doing) → GrowsAll next → Grows (with_returned o next)
grows_returned None next p = grows_failed why.NoSuchContract
grows_returned (Some r) next p = p r

pub grows_code : (self : List ℕ) (o : Outcome (List Val)) (next : Returned → Doing) → GrowsAll next → (m : Contents) (past : Past) →
    Extends past (after_code self o next m past).course.past
grows_code self (Ended (Return stack beside) left) next p m past = grows_returned (returned beside.versions stack) next p m (record { left = left; past = past })
grows_code self (Ended (Fails y) left) next p m past = extends_self past
grows_code self (Ended Missed left) next p m past = extends_self past
grows_code self (Asked a left more) next p m past =
    grows_looking (access_for self a) (λ m' course. after_code self more next m' course.past) (λ m' course. grows_code self more next p m' course.past)
    m (record { left = left; past = past })

-- ---- writes

pub grows_changing : (self : List ℕ) (cs : List Change) (next : Doing) → Grows next → Grows (changing self cs next)
grows_changing self [] next p = p
grows_changing self ((place, key, choice) ∷ more) next p =
    let write : Reply → Doing = λ r. changing self more next in
    grows_taking (room_of key choice) (accessing (access.Write (cell.Entry self place key) choice) write)
    (grows_accessing (access.Write (cell.Entry self place key) choice) write (λ r. grows_changing self more next p))

pub grows_written : (self : List ℕ) (v : Val) (next : Doing) → Grows next → Grows (written self v next)
grows_written self v next p =
    grows_taking (1 + size_of v) (accessing (access.Write (cell.Storage self) (Some v)) (λ r. next))
    (grows_accessing (access.Write (cell.Storage self) (Some v)) (λ r. next) (λ r. p))

pub grows_returning : (self : List ℕ) (s : Script) (old : Val) (next : List Transfer → Doing) → GrowsAll next → GrowsAll (returning self s old next)
grows_returning self s old next p r =
    let rest = changing self r.changes (next (map (sent_by self) r.ops)) in
    let grows : Grows rest = grows_changing self r.changes (next (map (sent_by self) r.ops)) (p (map (sent_by self) r.ops)) in
    grows_if (is_placed r.storage s.storage) (storing self old r.storage rest) (failed why.BigMapMoved)
    (grows_if (eq_by_cmp order old r.storage) rest (written self r.storage rest) grows (grows_written self r.storage rest grows))
    (grows_failed why.BigMapMoved)

-- ---- transfers

module _ (book : Contracts) (head : Head) (source : List ℕ) where
  pub grows_running : (t : Transfer) (s : Script) (stored : Val) (next : List Transfer → Doing) → GrowsAll next → Grows (running book head source t s stored next)
  grows_running t s stored next p m c =
      grows_code t.dest (script_outcome s (env_of head source t) (world_of book m t.dest) c.left (param_of s t) stored)
      (returning t.dest s stored next) (grows_returning t.dest s stored next p) m c.past

  pub grows_loaded : (t : Transfer) (s : Script) (next : List Transfer → Doing) → GrowsAll next → GrowsAll (loaded book head source t s next)
  grows_loaded t s next p (reply.Value (Some stored)) = grows_taking (1 + size_of stored) (running book head source t s stored next) (grows_running t s stored next p)
  grows_loaded t s next p (reply.Value None) = grows_failed why.NoSuchContract
  grows_loaded t s next p reply.Done = grows_failed why.NoSuchContract
  grows_loaded t s next p reply.Low = grows_failed why.NoSuchContract

  grows_calling : (t : Transfer) (o : Option Script) (next : List Transfer → Doing) → GrowsAll next → Grows (calling book head source t o next)
  grows_calling t None next p = p []
  grows_calling t (Some s) next p = grows_accessing (access.Read (cell.Storage t.dest)) (loaded book head source t s next) (grows_loaded t s next p)

  pub grows_called : (t : Transfer) (next : List Transfer → Doing) → GrowsAll next → Grows (called book head source t next)
  grows_called t next p = grows_calling t (if is_implicit t.dest then None else get book t.dest) next p

  pub grows_crediting : (t : Transfer) (next : List Transfer → Doing) → GrowsAll next → Grows (crediting book head source t next)
  grows_crediting t next p =
      let call : Reply → Doing = λ r. called book head source t next in
      grows_taking 1 (accessing (access.Credit t.dest t.amount) call) (grows_accessing (access.Credit t.dest t.amount) call (λ r. grows_called t next p))

  pub grows_debited : (t : Transfer) (next : List Transfer → Doing) → GrowsAll next → GrowsAll (debited book head source t next)
  grows_debited t next p reply.Low = grows_failed why.BalanceTooLow
  grows_debited t next p reply.Done = grows_crediting t next p
  grows_debited t next p (reply.Value v) = grows_failed why.NoSuchContract

  pub grows_paying : (t : Transfer) (next : List Transfer → Doing) → GrowsAll next → Grows (paying book head source t next)
  grows_paying t next p =
      let debit = accessing (access.Debit t.sender t.amount) (debited book head source t next) in
      grows_if (t.amount == 0) (called book head source t next) (taking 1 debit) (grows_called t next p)
      (grows_taking 1 debit (grows_accessing (access.Debit t.sender t.amount) (debited book head source t next) (grows_debited t next p)))

  grows_entering : (t : Transfer) (r : Result Ty NoEntry) (next : List Transfer → Doing) → GrowsAll next → Grows (entering book head source t r next)
  grows_entering t (Err missing.NoSuchContract) next p = grows_failed why.NoSuchContract
  grows_entering t (Err missing.NoSuchEntry) next p = grows_failed why.NoSuchEntry
  grows_entering t (Ok ty) next p =
      grows_if (has_type t.param ty) (paying book head source t next) (failed why.WrongParameter) (grows_paying t next p) (grows_failed why.WrongParameter)

  pub grows_transfer : (t : Transfer) (next : List Transfer → Doing) → GrowsAll next → Grows (transfer book head source t next)
  grows_transfer t next p = grows_entering t (entry_of book t.dest t.entry) next p

  pub grows_transfers : (n : ℕ) (ts : List Transfer) → Grows (transfers book head source n ts)
  grows_transfers n [] = grows_done
  grows_transfers zero (t ∷ ts) = grows_failed why.TooManyCalls
  grows_transfers (suc n) (t ∷ ts) = grows_transfer t (λ emitted. transfers book head source n (emitted ++ ts)) (λ emitted. grows_transfers n (emitted ++ ts))
