-- What follows does the same on two ledgers, as long as the accesses get the same replies.
use Rattle.std.proofs.Common.{◌≡◌, ℕ, zero, suc, ◌+◌, Bool, true, false, Option, Some, None, List, [], ◌∷◌, ◌++◌, refl, sym, ap, subst, ◌∙◌, append_assoc}
use Rattle.std.proofs.lemmas.List.{append_cancel_left}
use Rattle.std.specs.Prelude.{nat_lt, ◌==◌, map, Result, Ok, Err, if◌then◌else◌}
use Rattle.std.specs.FinMap.{get}
use Rattle.std.specs.Ordering.{eq_by_cmp}
use Rattle.value_core.specs.declared.ty.Ty.{Ty}
use Rattle.value_core.specs.declared.val.Val.{Val}
use Rattle.value_core.specs.declared.val.Val.TheVariants as value
use Rattle.value_core.specs.BigMaps.{is_placed}
use Rattle.value_core.specs.Order.{order}
use Rattle.value_core.specs.Size.{size_of}
use Rattle.value_core.specs.Typed.{has_type}
use Rattle.michelson_code.specs.declared.script.Script.{Script}
use Rattle.michelson_code.specs.declared.why.Why.{Why}
use Rattle.michelson_code.specs.declared.why.Why.TheVariants as why
use Rattle.michelson_rules.specs.declared.ask.Ask.{Ask}
use Rattle.michelson_rules.specs.declared.ask.Ask.TheVariants as ask
use Rattle.michelson_rules.specs.declared.ask.Budget.{Budget}
use Rattle.michelson_rules.specs.BigMaps.{room_of}
use Rattle.michelson_rules.specs.Metered.{Asked, Ended, Outcome, less_room, script_outcome}
use Rattle.michelson_rules.specs.Returned.{Change, Returned, returned}
use Rattle.michelson_rules.specs.Runs.{Ending, Failed as Fails, Missed, Return}
use Rattle.michelson_rules.specs.World.{World, reply_of}
use Rattle.cell_names.specs.declared.access.Access.{Access}
use Rattle.cell_names.specs.declared.access.Access.TheVariants as access
use Rattle.cell_names.specs.declared.access.Reply.{Reply}
use Rattle.cell_names.specs.declared.access.Reply.TheVariants as reply
use Rattle.cell_names.specs.declared.cell.Cell.{Cell}
use Rattle.cell_names.specs.declared.cell.Cell.TheVariants as cell
use Rattle.cell_names.specs.declared.head.Head.{Head}
use Rattle.cell_names.specs.Accounts.{is_implicit}
use Rattle.cell_names.specs.Contents.{Contents, amount_in}
use Rattle.cell_names.specs.Effects.{after, reply_to}
use Rattle.code_book.specs.declared.fault.NoEntry.{NoEntry}
use Rattle.code_book.specs.declared.fault.NoEntry.TheVariants as missing
use Rattle.code_book.specs.Books.{Contracts}
use Rattle.code_book.specs.Entries.{entry_of}
use Rattle.op_rules.specs.declared.transfer.Transfer.{Transfer}
use Rattle.op_rules.specs.Alike.{IsSame}
use Rattle.op_rules.specs.declared.limits.TheConstants.{MOST_CALLS, MOST_ROOM}
use Rattle.op_rules.specs.declared.op.Op.{Op}
use Rattle.op_rules.specs.Operations.{first_of, sent_by}
use Rattle.op_rules.specs.Serial.{begins_with, serial, serial_within}
use Rattle.op_rules.specs.Course.{Course, Doing, Past, Serial, accessing, answered, done, failed, is_one_too_many, taking}
use Rattle.op_rules.specs.CodeRule.{after_code, param_of, with_returned}
use Rattle.op_rules.specs.WriteRule.{changing, returning, storing, written}
use Rattle.op_rules.specs.SerialRule.{called, calling, crediting, debited, entering, env_of, loaded, paying, running, transfers}
use Rattle.op_rules.specs.Replies.{Gives}
use Rattle.op_rules.specs.Worlds.{world_of}
use Rattle.op_rules.proofs.AlikeRules.{OutcomesAlike, outcomes_alike}
use Rattle.op_rules.proofs.Growing.{Grows, GrowsAll, begins_answered, grows_called, grows_changing, grows_code, grows_debited, grows_loaded, grows_returning, grows_transfers}
use Rattle.op_rules.proofs.MapCells.{get-map_at}

-- ---- on two ledgers

-- on another ledger that gives the same replies it does the same
abbrev pub Agrees : Doing → Type 0
Agrees d = (m n : Contents) (c : Course) (more : Past) → (d m c).course.past ≡ c.past ++ more → Gives more n → IsSame (d m c) (d n c)

abbrev pub AgreesAll : {A : Type 0} → (A → Doing) → Type 0
AgreesAll {A} next = (x : A) → Agrees (next x)

same_end : (s : Serial) → IsSame s s
same_end s = record { course = refl; failure = refl }

agrees_if : (b : Bool) (d e : Doing) → Agrees d → Agrees e → Agrees (if b then d else e)
agrees_if true d e p q = p
agrees_if false d e p q = q

agrees_failed : (y : Why) → Agrees (failed y)
agrees_failed y m n c more e g = record { course = refl; failure = refl }

agrees_done : Agrees done
agrees_done m n c more e g = record { course = refl; failure = refl }

either : (b : Bool) (past : Past) (x y x' y' : Serial) → (if b then x else y).course.past ≡ past → IsSame x x' → (y.course.past ≡ past → IsSame y y') → IsSame (if b then x else y) (if b then x' else y')
either true past x y x' y' e p q = p
either false past x y x' y' e p q = q e

agrees_taking : (k : ℕ) (d : Doing) → Agrees d → Agrees (taking k d)
agrees_taking k d p m n c more e g =
    let paid : Course = record { left = less_room c.left k; past = c.past } in
    either (nat_lt c.left.room k) (c.past ++ more) (failed why.TooMuchData m c) (d m paid) (failed why.TooMuchData n c) (d n paid) e
    (record { course = refl; failure = refl }) (λ f. p m n paid more f g)

-- the first of the accesses that follow, and the rest
module _ (a : Access) (next : Reply → Doing) (grows : GrowsAll next) (m n : Contents) (c : Course) (more : Past) (e : (answered a next m c).course.past ≡ c.past ++ more) where
  abbrev later : Past
  later = (begins_answered a next grows m c).0

  more_is : more ≡ (a, reply_to a m) ∷ later
  more_is =
      append_cancel_left c.past more ((a, reply_to a m) ∷ later)
      (sym e ∙ (begins_answered a next grows m c).1 ∙ append_assoc c.past ((a, reply_to a m) ∷ []) later)

  given : Gives more n → Gives ((a, reply_to a m) ∷ later) n
  given g = subst (λ past. Gives past n) more_is g

-- where the reply is the same, what follows is told the same
agrees_answered : (a : Access) (next : Reply → Doing) → GrowsAll next → AgreesAll next → Agrees (answered a next)
agrees_answered a next grows p m n c more e g =
    let told = given a next grows m n c more e g in
    let course : Reply → Course = λ r. record { left = c.left; past = c.past ++ (a, r) ∷ [] } in
    subst (λ r. IsSame (next (reply_to a m) (after a m) (course (reply_to a m))) (next r (after a n) (course r))) (sym told.0)
    (p (reply_to a m) (after a m) (after a n) (course (reply_to a m)) (later a next grows m n c more e) (begins_answered a next grows m c).1 told.1)

agrees_accessing : (a : Access) (next : Reply → Doing) → GrowsAll next → AgreesAll next → Agrees (accessing a next)
agrees_accessing a next grows p m n c more e g =
    either (is_one_too_many a c.past) (c.past ++ more) (failed why.TooManyCells m c) (answered a next m c) (failed why.TooManyCells n c) (answered a next n c) e
    (record { course = refl; failure = refl }) (λ f. agrees_answered a next grows p m n c more f g)

-- ---- codes

agrees_returned : (o : Option Returned) (next : Returned → Doing) → AgreesAll next → Agrees (with_returned o next)
agrees_returned None next p = agrees_failed why.NoSuchContract
agrees_returned (Some r) next p = p r

abbrev value_in : Reply → Option Val
value_in (reply.Value v) = v
value_in reply.Done = None
value_in reply.Low = None

module _ (book : Contracts) (self : List ℕ) (next : Returned → Doing) (grows : GrowsAll next) (p : AgreesAll next) where
  ended : (e : Ending (List Val)) (left : Budget) → (m n : Contents) (past more : Past) → (after_code self (Ended e left) next m past).course.past ≡ past ++ more → Gives more n →
      IsSame (after_code self (Ended e left) next m past) (after_code self (Ended e left) next n past)
  ended (Return stack beside) left m n past more e g = agrees_returned (returned beside.versions stack) next p m n (record { left = left; past = past }) more e g
  ended (Fails y) left m n past more e g = record { course = refl; failure = refl }
  ended Missed left m n past more e g = record { course = refl; failure = refl }

  -- the worlds of two ledgers; nothing changes while a code runs
  module _ (m n : Contents) where
    abbrev here : World
    here = world_of book m self

    abbrev there : World
    there = world_of book n self

    abbrev Goes : Outcome (List Val) → Outcome (List Val) → Type 0
    Goes o q = (past more : Past) → (after_code self o next m past).course.past ≡ past ++ more → Gives more n → IsSame (after_code self o next m past) (after_code self q next n past)

    -- what follows a question, once it is answered
    abbrev then_on : Outcome (List Val) → Reply → Doing
    then_on o r m' course = after_code self o next m' course.past

    -- a cell is read, and where both ledgers have the same there it goes on alike
    read : (c : Cell) (left : Budget) (o q : Outcome (List Val)) → (reply_to (access.Read c) n ≡ reply_to (access.Read c) m → Goes o q) → (past more : Past) →
        (accessing (access.Read c) (then_on o) m (record { left = left; past = past })).course.past ≡ past ++ more → Gives more n →
        IsSame (accessing (access.Read c) (then_on o) m (record { left = left; past = past })) (accessing (access.Read c) (then_on q) n (record { left = left; past = past }))
    read c left o q h past more e g =
        let a = access.Read c in
        let course : Course = record { left = left; past = past } in
        let all : GrowsAll (then_on o) = λ r m' c'. grows_code self o next grows m' c'.past in
        either (is_one_too_many a past) (past ++ more) (failed why.TooManyCells m course) (answered a (then_on o) m course) (failed why.TooManyCells n course) (answered a (then_on q) n course) e
        (record { course = refl; failure = refl })
        (λ f.
        let told = given a (then_on o) all m n course more f g in
        subst (λ r. IsSame (after_code self o next m (past ++ (a, reply_to a m) ∷ [])) (after_code self q next n (past ++ (a, r) ∷ []))) (sym told.0)
        (h told.0 (past ++ (a, reply_to a m) ∷ []) (later a (then_on o) all m n course more f) (begins_answered a (then_on o) all m course).1 told.1))

    looked : (a : Ask) (left : Budget) (o q : Outcome (List Val)) → (reply_of here a ≡ reply_of there a → Goes o q) → Goes (Asked a left o) (Asked a left q)
    looked (ask.Entry place key) left o q h =
        read (cell.Entry self place key) left o q (λ r. h (get-map_at m self place key ∙ ap value_in (sym r) ∙ sym (get-map_at n self place key)))
    looked ask.Balance left o q h = read (cell.Balance self) left o q (λ r. h (ap (λ x. Some (value.Mutez (amount_in (value_in x)))) (sym r)))
    looked (ask.Contract address entry ty) left o q h = h refl

    agrees_code : (o q : Outcome (List Val)) → OutcomesAlike here there o q → Goes o q
    agrees_code (Ended e left) (Ended d other) h past more f g =
        subst (λ (x : Outcome (List Val)). IsSame (after_code self (Ended e left) next m past) (after_code self x next n past)) (let a = h.0 in let b = h.1 in λ i. Ended (a i) (b i))
        (ended e left m n past more f g)
    agrees_code (Ended e left) (Asked b other q) h past more f g = absurd h
    agrees_code (Asked a left o) (Ended d other) h past more f g = absurd h
    agrees_code (Asked a left o) (Asked b other q) h past more f g =
        subst (λ (x : Outcome (List Val)). IsSame (after_code self (Asked a left o) next m past) (after_code self x next n past)) (let s = h.0 in let t = h.1 in λ i. Asked (s i) (t i) q)
        (looked a left o q (λ t. agrees_code o q (h.2 t)) past more f g)

-- ---- writes

agrees_changing : (self : List ℕ) (cs : List Change) (next : Doing) → Grows next → Agrees next → Agrees (changing self cs next)
agrees_changing self [] next grows p = p
agrees_changing self ((place, key, choice) ∷ more) next grows p =
    let write : Reply → Doing = λ r. changing self more next in
    agrees_taking (room_of key choice) (accessing (access.Write (cell.Entry self place key) choice) write)
    (agrees_accessing (access.Write (cell.Entry self place key) choice) write (λ r. grows_changing self more next grows) (λ r. agrees_changing self more next grows p))

agrees_written : (self : List ℕ) (v : Val) (next : Doing) → Grows next → Agrees next → Agrees (written self v next)
agrees_written self v next grows p =
    agrees_taking (1 + size_of v) (accessing (access.Write (cell.Storage self) (Some v)) (λ r. next))
    (agrees_accessing (access.Write (cell.Storage self) (Some v)) (λ r. next) (λ r. grows) (λ r. p))

agrees_returning : (self : List ℕ) (s : Script) (old : Val) (next : List Transfer → Doing) → GrowsAll next → AgreesAll next → AgreesAll (returning self s old next)
agrees_returning self s old next grows p r =
    let rest = changing self r.changes (next (map (sent_by self) r.ops)) in
    let more : Grows rest = grows_changing self r.changes (next (map (sent_by self) r.ops)) (grows (map (sent_by self) r.ops)) in
    let agrees : Agrees rest = agrees_changing self r.changes (next (map (sent_by self) r.ops)) (grows (map (sent_by self) r.ops)) (p (map (sent_by self) r.ops)) in
    agrees_if (is_placed r.storage s.storage) (storing self old r.storage rest) (failed why.BigMapMoved)
    (agrees_if (eq_by_cmp order old r.storage) rest (written self r.storage rest) agrees (agrees_written self r.storage rest more agrees))
    (agrees_failed why.BigMapMoved)

-- ---- transfers

module _ (book : Contracts) (head : Head) (source : List ℕ) where
  agrees_running : (t : Transfer) (s : Script) (stored : Val) (next : List Transfer → Doing) → GrowsAll next → AgreesAll next → Agrees (running book head source t s stored next)
  agrees_running t s stored next grows p m n c more e g =
      agrees_code book t.dest (returning t.dest s stored next) (grows_returning t.dest s stored next grows) (agrees_returning t.dest s stored next grows p) m n
      (script_outcome s (env_of head source t) (world_of book m t.dest) c.left (param_of s t) stored)
      (script_outcome s (env_of head source t) (world_of book n t.dest) c.left (param_of s t) stored)
      (outcomes_alike (world_of book m t.dest) (world_of book n t.dest) s (env_of head source t) c.left (param_of s t) stored) c.past more e g

  agrees_loaded : (t : Transfer) (s : Script) (next : List Transfer → Doing) → GrowsAll next → AgreesAll next → AgreesAll (loaded book head source t s next)
  agrees_loaded t s next grows p (reply.Value (Some stored)) = agrees_taking (1 + size_of stored) (running book head source t s stored next) (agrees_running t s stored next grows p)
  agrees_loaded t s next grows p (reply.Value None) = agrees_failed why.NoSuchContract
  agrees_loaded t s next grows p reply.Done = agrees_failed why.NoSuchContract
  agrees_loaded t s next grows p reply.Low = agrees_failed why.NoSuchContract

  agrees_calling : (t : Transfer) (o : Option Script) (next : List Transfer → Doing) → GrowsAll next → AgreesAll next → Agrees (calling book head source t o next)
  agrees_calling t None next grows p = p []
  agrees_calling t (Some s) next grows p =
      agrees_accessing (access.Read (cell.Storage t.dest)) (loaded book head source t s next) (grows_loaded book head source t s next grows) (agrees_loaded t s next grows p)

  agrees_called : (t : Transfer) (next : List Transfer → Doing) → GrowsAll next → AgreesAll next → Agrees (called book head source t next)
  agrees_called t next grows p = agrees_calling t (if is_implicit t.dest then None else get book t.dest) next grows p

  agrees_crediting : (t : Transfer) (next : List Transfer → Doing) → GrowsAll next → AgreesAll next → Agrees (crediting book head source t next)
  agrees_crediting t next grows p =
      let call : Reply → Doing = λ r. called book head source t next in
      agrees_taking 1 (accessing (access.Credit t.dest t.amount) call)
      (agrees_accessing (access.Credit t.dest t.amount) call (λ r. grows_called book head source t next grows) (λ r. agrees_called t next grows p))

  agrees_debited : (t : Transfer) (next : List Transfer → Doing) → GrowsAll next → AgreesAll next → AgreesAll (debited book head source t next)
  agrees_debited t next grows p reply.Low = agrees_failed why.BalanceTooLow
  agrees_debited t next grows p reply.Done = agrees_crediting t next grows p
  agrees_debited t next grows p (reply.Value v) = agrees_failed why.NoSuchContract

  agrees_paying : (t : Transfer) (next : List Transfer → Doing) → GrowsAll next → AgreesAll next → Agrees (paying book head source t next)
  agrees_paying t next grows p =
      let debit = accessing (access.Debit t.sender t.amount) (debited book head source t next) in
      agrees_if (t.amount == 0) (called book head source t next) (taking 1 debit) (agrees_called t next grows p)
      (agrees_taking 1 debit
      (agrees_accessing (access.Debit t.sender t.amount) (debited book head source t next) (grows_debited book head source t next grows) (agrees_debited t next grows p)))

  agrees_entering : (t : Transfer) (r : Result Ty NoEntry) (next : List Transfer → Doing) → GrowsAll next → AgreesAll next → Agrees (entering book head source t r next)
  agrees_entering t (Err missing.NoSuchContract) next grows p = agrees_failed why.NoSuchContract
  agrees_entering t (Err missing.NoSuchEntry) next grows p = agrees_failed why.NoSuchEntry
  agrees_entering t (Ok ty) next grows p =
      agrees_if (has_type t.param ty) (paying book head source t next) (failed why.WrongParameter) (agrees_paying t next grows p) (agrees_failed why.WrongParameter)

  pub agrees_transfers : (k : ℕ) (ts : List Transfer) → Agrees (transfers book head source k ts)
  agrees_transfers k [] = agrees_done
  agrees_transfers zero (t ∷ ts) = agrees_failed why.TooManyCalls
  agrees_transfers (suc k) (t ∷ ts) =
      agrees_entering t (entry_of book t.dest t.entry) (λ emitted. transfers book head source k (emitted ++ ts)) (λ emitted. grows_transfers book head source k (emitted ++ ts))
      (λ emitted. agrees_transfers k (emitted ++ ts))

pub turns_on_replies : (book : Contracts) (head : Head) (op : Op) (m n : Contents) → Gives (serial book head op m).course.past n → IsSame (serial book head op m) (serial book head op n)
unfolding serial serial_within
turns_on_replies book head op m n g =
    agrees_transfers book head op.source MOST_CALLS (first_of op ∷ []) m n (begins_with op MOST_ROOM) (serial book head op m).course.past refl g
