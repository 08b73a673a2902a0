-- An operation on a store, access by access: each may be made, keeps that all may be undone, and the first that isn't lent is told.
use Rattle.std.proofs.Common.{◌≡◌, ℕ, ◌+◌, ◌<◌, ◌^◌, Bool, true, false, List, [], ◌∷◌, ◌++◌, length, drop, Option, Some, None, Ok, refl, sym, ap, subst, ◌∙◌, arith, append_assoc}
use Rattle.std.specs.Prelude.{IsSome, nat_lt, reverse, if◌then◌else◌}
use Rattle.std.specs.FinMap.{contains_key, get}
use Rattle.std.proofs.lemmas.List.{take-append-drop}
use Rattle.std.proofs.lemmas.List.Elements.{All-nil, All-push}
use Rattle.value_core.specs.declared.val.Val.{Val}
use Rattle.cell_names.specs.declared.access.Access.{Access}
use Rattle.cell_names.specs.declared.access.Access.TheVariants as access
use Rattle.cell_names.specs.declared.access.Reply.{Reply}
use Rattle.cell_names.specs.declared.access.Reply.TheVariants as reply
use Rattle.cell_names.specs.declared.access.Undo.{Undo}
use Rattle.cell_names.specs.declared.cell.Cell.{Cell}
use Rattle.cell_names.specs.declared.cell.Cell.TheVariants as cell
use Rattle.cell_names.specs.declared.head.Head.{Head}
use Rattle.cell_names.specs.declared.mode.Mode.{Mode}
use Rattle.cell_names.specs.declared.mode.Mode.TheVariants as mode
use Rattle.cell_names.specs.Conditions.{CanAccess, IsCovered, IsLentIn, Lends, MayChange, NamesWritable, Seen}
use Rattle.cell_names.specs.Contents.{Contents, balance}
use Rattle.cell_names.specs.Effects.{after, cell_of, mode_needed, reply_to}
use Rattle.cell_names.specs.Stores.{Accesses, Did, HasSlot, IsAsBefore, Stays}
use Rattle.cell_names.specs.Supply.{supply}
use Rattle.code_book.specs.Books.{Contracts}
use Rattle.code_book.specs.Fits.{fits, fits_access}
use Rattle.code_book.specs.Ownership.{IsBookOf}
use Rattle.code_book.proofs.Owning.{may_be_taken, owned_after, writable}
use Rattle.inverse_log.specs.Ends.{LeadsTo, Reaches}
use Rattle.inverse_log.proofs.EndLaws.{all_still, leads_back}
use Rattle.op_rules.specs.declared.op.Op.{Op}
use Rattle.op_rules.specs.Course.{Past}
use Rattle.op_rules.specs.Replies.{AreLawful, BeginWith, after_all, can_get, flight_by, flight_of, may_hold}
use Rattle.op_rules.specs.Serial.{serial}
use Rattle.op_rules.proofs.Landing.{after_all-push, gives-push}
use Rattle.op_run.specs.Follows.{IsNext, OnCells}
use Rattle.op_run.specs.OnStores.{IsFirstUnlent, serial_on}
use Rattle.op_run.specs.SerialTurns.{IsAlong, LeadsBack, Makes}
use Rattle.op_run.proofs.Following.{flight_after-is, flight_of-push}

-- ---- stores that stay

pub stays_self : (s : Seen) → Stays s s
stays_self s = record { lent = λ c. refl; fits = λ a. refl; slots = λ c is. is }

pub stays_then : (s t u : Seen) → Stays s t → Stays t u → Stays s u
stays_then s t u p q = record {
  lent = λ c. q.lent c ∙ p.lent c;
  fits = λ a. q.fits a ∙ p.fits a;
  slots = λ c is. q.slots c (p.slots c is);
}

-- what is lent now was lent before
pub lent_before : (old new : Seen) → Stays old new → (a : Access) → Lends new a → Lends old a
lent_before old new stays a lent = subst (λ (l : Option Mode). IsLentIn l (mode_needed a)) (stays.lent (cell_of a)) lent

pub lent_after : (old new : Seen) → Stays old new → (a : Access) → Lends old a → Lends new a
lent_after old new stays a lent = subst (λ (l : Option Mode). IsLentIn l (mode_needed a)) (sym (stays.lent (cell_of a))) lent

-- ---- the beginning

pub along_begun : (book : Contracts) (first : Seen) → IsBookOf book first → IsAlong book [] [] first first
along_begun book first owned = record {
  opening = owned;
  gives = tt;
  cells = refl;
  flight = omega arith;
  lent = All-nil (λ (e : Access × Reply). Lends first e.0);
  leads = record { back = record { ends = (refl, refl); changes = All-nil (λ (u : Undo). MayChange first u) }; stays = stays_self first };
  book = owned;
}

-- a store whose book it is has cells that an operation may begin with
pub lawful : (book : Contracts) (first : Seen) → IsBookOf book first → AreLawful book first.cells 0
lawful book first owned =
    let money : supply first.cells + first.flight < 2 ^ 63 = owned.money in
    record { values = owned.values; tidy = owned.tidy; money = omega arith }

-- ---- an access

names_writable : (book : Contracts) (a : Access) → fits_access book a ≡ true → NamesWritable a
names_writable book (access.Read c) fit = tt
names_writable book (access.Write c v) fit = writable book c v fit
names_writable book (access.Credit a n) fit = tt
names_writable book (access.Debit a n) fit = tt

covered_more : (f g : ℕ) (a : Access) → IsCovered g a → IsCovered (f + g) a
covered_more f g (access.Read c) covered = tt
covered_more f g (access.Write c v) covered = tt
covered_more f g (access.Credit a n) covered = omega (arith, covered)
covered_more f g (access.Debit a n) covered = tt

-- a fit access with what it debited in flight may be made
pub can_make : (book : Contracts) (past : Past) (log : List Undo) (first now : Seen) (a : Access) → IsAlong book past log first now → fits_access book a ≡ true → IsCovered (flight_of past) a → CanAccess now a
can_make book past log first now a is fit covered = record {
  names = names_writable book a fit;
  fits = is.book.fit a fit;
  covered = subst (λ (f : ℕ). IsCovered f a) (sym is.flight) (covered_more first.flight (flight_of past) a covered);
}

-- what is in flight beside
flight_beside : (a : Access) (r : Reply) (f g : ℕ) → IsCovered g a → flight_by a r (f + g) ≡ f + flight_by a r g
flight_beside (access.Read c) r f g covered = refl
flight_beside (access.Write c v) r f g covered = refl
flight_beside (access.Credit a n) r f g covered = omega (arith, covered)
flight_beside (access.Debit a n) reply.Done f g covered = omega arith
flight_beside (access.Debit a n) reply.Low f g covered = refl
flight_beside (access.Debit a n) (reply.Value v) f g covered = refl

-- an access that is done isn't outside
accesses_done : (old : Seen) (a : Access) (r : Reply) (u : Undo) (new : Seen) → Did old a r u new → Stays old new → Accesses old a (Ok (r, u)) new
accesses_done old a r u new did stays = record { stays = stays; did = did; failed = tt; outside = λ c is. absurd cc }

module _ (book : Contracts) (past : Past) (log later : List Undo) (first now new : Seen) (a : Access) (r : Reply) (is : IsAlong book past log first now) (fit : fits_access book a ≡ true)
    (covered : IsCovered (flight_of past) a) (makes : Makes now a r log later new) (stays : Stays now new) where
  abbrev did : Did now a r makes.undo new
  did = makes.did

  still_owned : IsBookOf book new
  still_owned = owned_after book now new a (Ok (r, makes.undo)) is.book fit (can_make book past log first now a is fit covered) (accesses_done now a r makes.undo new did stays)

  may_undo : MayChange new makes.undo
  may_undo =
      subst (λ (u : Undo). MayChange new u) (sym did.undo)
      (may_be_taken book now new a is.book still_owned fit (can_make book past log first now a is fit covered) did.lent did.cells did.flight
      (subst (λ (u : Undo). HasSlot new.slots u) did.undo did.slot)).change

  replied : reply_to a (after_all past first.cells) ≡ r
  replied = ap (reply_to a) (sym is.cells) ∙ sym did.reply

  goes_back : LeadsTo later new first.cells first.flight
  goes_back =
      subst (λ (l : List Undo). LeadsTo l new first.cells first.flight) (sym makes.noted)
      (leads_back log now new a r makes.undo first.cells first.flight is.book.tidy (can_make book past log first now a is fit covered).covered did stays may_undo is.leads.back)

  -- after an access with its reply the operation is along
  pub along_more : IsAlong book (past ++ (a, r) ∷ []) later first new
  along_more = record {
    opening = is.opening;
    gives = gives-push past a r first.cells is.gives replied;
    cells = did.cells ∙ ap (after a) is.cells ∙ sym (after_all-push past a r first.cells);
    flight =
        did.flight ∙ flight_after-is a now.cells now.flight ∙ (λ i. flight_by a (sym did.reply i) (is.flight i))
        ∙ flight_beside a r first.flight (flight_of past) covered ∙ ap (λ (f : ℕ). first.flight + f) (sym (flight_of-push past a r));
    lent = All-push (λ (e : Access × Reply). Lends first e.0) past (a, r) is.lent (lent_before first now is.leads.stays a did.lent);
    leads = record { back = goes_back; stays = stays_then first now new is.leads.stays stays };
    book = still_owned;
  }

-- ---- the reply

if_low : (b : Bool) (book : Contracts) (address : List ℕ) (n : ℕ) → can_get book (access.Debit address n) (if b then reply.Low else reply.Done) ≡ true
if_low true book address n = refl
if_low false book address n = refl

held_may : (book : Contracts) (c : Cell) (o : Option Val) → ((v : Val) → o ≡ Some v → fits book c v ≡ true) → ((contract : List ℕ) → c ≡ cell.Storage contract → IsSome o) → may_hold book c o ≡ true
held_may book c (Some v) values there = values v refl
held_may book (cell.Balance address) None values there = refl
held_may book (cell.Storage address) None values there = let is : IsSome {T = Val} None = there address refl in absurd cc
held_may book (cell.Entry address place key) None values there = refl

-- a store that lends the cell answers what an access can get
pub gets : (book : Contracts) (now : Seen) (a : Access) → IsBookOf book now → Lends now a → ((contract : List ℕ) → a ≡ access.Read (cell.Storage contract) → contains_key book contract ≡ true) →
    can_get book a (reply_to a now.cells) ≡ true
gets book now (access.Read c) owned lent stored =
    held_may book c (get now.cells c) (owned.values c)
    (λ contract is.
    subst (λ (x : Cell). IsSome (get now.cells x)) (sym is)
    (owned.storages contract (stored contract (ap (λ (x : Cell). access.Read x) is)) (subst (λ (x : Cell). IsLentIn (now.lent x) mode.Read) is lent)))
gets book now (access.Write c v) owned lent stored = refl
gets book now (access.Credit address n) owned lent stored = refl
gets book now (access.Debit address n) owned lent stored = if_low (nat_lt (balance now.cells address) n) book address n

-- ---- the first that isn't lent

-- accesses that begin with these go on with others
goes_on : (past whole : Past) (a : Access) (r : Reply) → BeginWith (past ++ (a, r) ∷ []) whole → (later : Past) × (whole ≡ past ++ (a, r) ∷ later)
goes_on past whole a r begins =
    let n = length (past ++ (a, r) ∷ []) in
    (drop n whole, sym (take-append-drop n whole) ∙ ap (λ (x : Past). x ++ drop n whole) begins ∙ append_assoc past ((a, r) ∷ []) (drop n whole))

pub first_unlent : (book : Contracts) (head : Head) (op : Op) (past : Past) (log : List Undo) (first now : Seen) (a : Access) (c : Cell) → IsAlong book past log first now →
    OnCells book past (IsNext book head op past a) → (c ≡ cell_of a) × (¬ Lends now a) → IsFirstUnlent first (serial_on book head op first).course.past c
first_unlent book head op past log first now a c is next unlent =
    let r = reply_to a (after_all past first.cells) in
    let on = goes_on past (serial book head op first.cells).course.past a r (next first.cells (lawful book first is.opening) is.gives).begins in
    record {
      before = past;
      access = a;
      reply = r;
      later = on.0;
      order = on.1;
      lent = is.lent;
      unlent = λ lent. unlent.1 (lent_after first now is.leads.stays a lent);
      cell = unlent.0;
    }

-- the access that is next is fit
pub next_fits : (book : Contracts) (head : Head) (op : Op) (past : Past) (log : List Undo) (first now : Seen) (a : Access) → IsAlong book past log first now → OnCells book past (IsNext book head op past a) →
    fits_access book a ≡ true
next_fits book head op past log first now a is next = (next first.cells (lawful book first is.opening) is.gives).fits

-- ---- going back

-- where cells and flight are as before, the log leads back
pub back_still : (log later : List Undo) (first now new : Seen) → later ≡ log → Stays now new → IsAsBefore now new → LeadsBack log first now → LeadsBack later first new
back_still log later first now new same stays before leads = record {
  back = subst (λ (l : List Undo). LeadsTo l new first.cells first.flight) (sym same) (record {
    ends =
        subst (λ (x : Contents × ℕ). Reaches (reverse log) x.0 x.1 first.cells first.flight) (λ i. (sym before.cells i, sym before.flight i)) leads.back.ends;
    changes = all_still now new stays log leads.back.changes;
  });
  stays = stays_then first now new leads.stays stays;
}
