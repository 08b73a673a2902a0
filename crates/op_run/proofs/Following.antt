-- A step and a reply keep that a run follows the operation; and what it follows is promised.
use Rattle.std.proofs.Common.{◌≡◌, ℕ, ◌+◌, ◌<◌, ◌^◌, Bool, true, false, List, [], ◌∷◌, ◌++◌, refl, sym, ap, subst, ◌∙◌, arith}
use Rattle.std.specs.Prelude.{nat_lt, if◌then◌else◌}
use Rattle.cell_names.specs.declared.access.Access.{Access}
use Rattle.cell_names.specs.declared.access.Access.TheVariants as access
use Rattle.cell_names.specs.declared.access.Reply.{Reply}
use Rattle.cell_names.specs.declared.access.Reply.TheVariants as reply
use Rattle.cell_names.specs.Conditions.{IsCovered, NamesWritable}
use Rattle.cell_names.specs.Contents.{Contents, balance}
use Rattle.cell_names.specs.Supply.{supply}
use Rattle.cell_names.specs.Effects.{after, flight_after, reply_to}
use Rattle.cell_names.proofs.Money.{kept_after}
use Rattle.cell_names.proofs.Undoing.{tidy_after}
use Rattle.code_book.specs.Books.{Contracts}
use Rattle.code_book.specs.Fits.{fits_access}
use Rattle.code_book.proofs.Owning.{after_fits, writable}
use Rattle.op_rules.specs.Course.{Past}
use Rattle.op_rules.specs.Replies.{AreLawful, Gives, after_all, flight_by, flight_from, flight_of}

-- ---- one access more

pub gives-push : (es : Past) (a : Access) (r : Reply) (m : Contents) → Gives (es ++ (a, r) ∷ []) m → Gives es m × (reply_to a (after_all es m) ≡ r)
gives-push [] a r m h = (tt, h.0)
gives-push (e ∷ es) a r m h = let k = gives-push es a r (after e.0 m) h.1 in ((h.0, k.0), k.1)

pub after_all-push : (es : Past) (a : Access) (r : Reply) (m : Contents) → after_all (es ++ (a, r) ∷ []) m ≡ after a (after_all es m)
after_all-push [] a r m = refl
after_all-push (e ∷ es) a r m = after_all-push es a r (after e.0 m)

flight_from-push : (f : ℕ) (es : Past) (a : Access) (r : Reply) → flight_from f (es ++ (a, r) ∷ []) ≡ flight_by a r (flight_from f es)
flight_from-push f [] a r = refl
flight_from-push f (e ∷ es) a r = flight_from-push (flight_by e.0 e.1 f) es a r

pub flight_of-push : (es : Past) (a : Access) (r : Reply) → flight_of (es ++ (a, r) ∷ []) ≡ flight_by a r (flight_of es)
flight_of-push = flight_from-push 0

-- what is in flight goes by the reply
debit_flight : (a : List ℕ) (n : ℕ) (f : ℕ) (low : Bool) → (if low then f else f + n) ≡ flight_by (access.Debit a n) (if low then reply.Low else reply.Done) f
debit_flight a n f true = refl
debit_flight a n f false = refl

pub flight_after-is : (a : Access) (m : Contents) (f : ℕ) → flight_after a m f ≡ flight_by a (reply_to a m) f
flight_after-is (access.Read c) m f = refl
flight_after-is (access.Write c v) m f = refl
flight_after-is (access.Credit a n) m f = refl
flight_after-is (access.Debit a n) m f = debit_flight a n f (nat_lt (balance m a) n)

-- ---- cells stay lawful

names_writable : (book : Contracts) (a : Access) → fits_access book a ≡ true → NamesWritable a
names_writable book (access.Read c) fit = tt
names_writable book (access.Write c v) fit = writable book c v fit
names_writable book (access.Credit a n) fit = tt
names_writable book (access.Debit a n) fit = tt

lawful_after : (book : Contracts) (m : Contents) (f : ℕ) (a : Access) → AreLawful book m f → fits_access book a ≡ true → IsCovered f a → AreLawful book (after a m) (flight_after a m f)
lawful_after book m f a lawful fit covered =
    let names = names_writable book a fit in
    record {
      values = after_fits book m f lawful.values lawful.money a fit covered;
      tidy = tidy_after a m names lawful.tidy;
      money = let kept = kept_after a m f names covered in let money : supply m + f < 2 ^ 63 = lawful.money in omega (arith, kept, money);
    }

-- after an access with its reply
pub lawful_push : (book : Contracts) (es : Past) (a : Access) (r : Reply) (m : Contents) → AreLawful book (after_all es m) (flight_of es) → reply_to a (after_all es m) ≡ r →
    fits_access book a ≡ true → IsCovered (flight_of es) a → AreLawful book (after_all (es ++ (a, r) ∷ []) m) (flight_of (es ++ (a, r) ∷ []))
lawful_push book es a r m lawful gives fit covered =
    let now = after_all es m in
    let next : AreLawful book (after a now) (flight_after a now (flight_of es)) = lawful_after book now (flight_of es) a lawful fit covered in
    let flight : flight_after a now (flight_of es) ≡ flight_of (es ++ (a, r) ∷ []) =
    flight_after-is a now (flight_of es) ∙ ap (λ (x : Reply). flight_by a x (flight_of es)) gives ∙ sym (flight_of-push es a r) in
    subst (λ (x : Contents × ℕ). AreLawful book x.0 x.1) (λ i. (sym (after_all-push es a r m) i, flight i)) next
