-- What is in flight after accesses, and that a fit access leaves lawful cells.
use Rattle.std.proofs.Common.{◌≡◌, ℕ, ◌+◌, ◌<◌, ◌^◌, Bool, true, false, List, [], ◌∷◌, ◌++◌, refl, arith}
use Rattle.std.specs.Prelude.{nat_lt, if◌then◌else◌}
use Rattle.cell_names.specs.declared.access.Access.{Access}
use Rattle.cell_names.specs.declared.access.Access.TheVariants as access
use Rattle.cell_names.specs.declared.access.Reply.{Reply}
use Rattle.cell_names.specs.declared.access.Reply.TheVariants as reply
use Rattle.cell_names.specs.Conditions.{IsCovered, NamesWritable}
use Rattle.cell_names.specs.Contents.{Contents, balance}
use Rattle.cell_names.specs.Supply.{supply}
use Rattle.cell_names.specs.Effects.{after, flight_after, reply_to}
use Rattle.cell_names.proofs.Money.{kept_after}
use Rattle.cell_names.proofs.Undoing.{tidy_after}
use Rattle.code_book.specs.Books.{Contracts}
use Rattle.code_book.specs.Fits.{fits_access}
use Rattle.code_book.proofs.Owning.{after_fits, writable}
use Rattle.op_rules.specs.Course.{Past}
use Rattle.op_rules.specs.Ledgers.{AreFitFrom, IsFit}
use Rattle.op_rules.specs.Replies.{AreLawful, flight_by, flight_from, flight_of}

-- ---- one access more

flight_from-push : (f : ℕ) (es : Past) (a : Access) (r : Reply) → flight_from f (es ++ (a, r) ∷ []) ≡ flight_by a r (flight_from f es)
flight_from-push f [] a r = refl
flight_from-push f (e ∷ es) a r = flight_from-push (flight_by e.0 e.1 f) es a r

pub flight_of-push : (es : Past) (a : Access) (r : Reply) → flight_of (es ++ (a, r) ∷ []) ≡ flight_by a r (flight_of es)
flight_of-push = flight_from-push 0

-- one fit access more
pub fit_push : (book : Contracts) (f : ℕ) (past : Past) (a : Access) (r : Reply) → AreFitFrom book f past → IsFit book (flight_from f past) a → AreFitFrom book f (past ++ (a, r) ∷ [])
fit_push book f [] a r h fit = (fit, tt)
fit_push book f (e ∷ past) a r h fit = (h.0, fit_push book (flight_by e.0 e.1 f) past a r h.1 fit)

-- what is in flight goes by the reply
debit_flight : (a : List ℕ) (n : ℕ) (f : ℕ) (low : Bool) → (if low then f else f + n) ≡ flight_by (access.Debit a n) (if low then reply.Low else reply.Done) f
debit_flight a n f true = refl
debit_flight a n f false = refl

pub flight_after-is : (a : Access) (m : Contents) (f : ℕ) → flight_after a m f ≡ flight_by a (reply_to a m) f
flight_after-is (access.Read c) m f = refl
flight_after-is (access.Write c v) m f = refl
flight_after-is (access.Credit a n) m f = refl
flight_after-is (access.Debit a n) m f = debit_flight a n f (nat_lt (balance m a) n)

-- ---- cells stay lawful

pub names_writable : (book : Contracts) (a : Access) → fits_access book a ≡ true → NamesWritable a
names_writable book (access.Read c) fit = tt
names_writable book (access.Write c v) fit = writable book c v fit
names_writable book (access.Credit a n) fit = tt
names_writable book (access.Debit a n) fit = tt

pub lawful_after : (book : Contracts) (m : Contents) (f : ℕ) (a : Access) → AreLawful book m f → fits_access book a ≡ true → IsCovered f a → AreLawful book (after a m) (flight_after a m f)
lawful_after book m f a lawful fit covered =
    let names = names_writable book a fit in
    record {
      values = after_fits book m f lawful.values lawful.money a fit covered;
      tidy = tidy_after a m names lawful.tidy;
      money = let kept = kept_after a m f names covered in let money : supply m + f < 2 ^ 63 = lawful.money in omega (arith, kept, money);
    }
