-- An operation turns on the cells that it sees, so neighbours that never conflict may be swapped.
use Rattle.std.proofs.Common.{◌≡◌, Bool, true, false, cond, Option, Some, None, List, [], ◌∷◌, refl, sym, ap, subst, ◌∙◌}
use Rattle.std.specs.Prelude.{IsTrue}
use Rattle.std.specs.List.{AllByRecursion}
use Rattle.std.specs.FinMap.{get}
use Rattle.michelson_code.specs.declared.why.Why.{Why}
use Rattle.cell_names.specs.declared.access.Access.{Access}
use Rattle.cell_names.specs.declared.access.Access.TheVariants as access
use Rattle.cell_names.specs.declared.access.Reply.{Reply}
use Rattle.cell_names.specs.declared.access.Reply.TheVariants as reply
use Rattle.cell_names.specs.declared.cell.Cell.{Cell}
use Rattle.cell_names.specs.declared.head.Head.{Head}
use Rattle.cell_names.specs.declared.mode.Mode.{Mode}
use Rattle.cell_names.specs.declared.mode.Mode.TheVariants.{Read, Credit, Own}
use Rattle.cell_names.specs.Contents.{Contents}
use Rattle.cell_names.specs.Effects.{after, cell_of, mode_needed, reply_to}
use Rattle.cell_names.specs.Footprints.{mode_of, modes_conflict}
use Rattle.cell_names.specs.Laws.{AreApart}
use Rattle.cell_names.proofs.Exchanging.{exchanged, gives_same}
use Rattle.cell_names.proofs.Puts.{get-after, is_one, left_in, one_from}
use Rattle.code_book.specs.Books.{Contracts}
use Rattle.op_rules.specs.declared.op.Op.{Op}
use Rattle.op_rules.specs.Alike.{AgreeWhereSeen, IsSame, MayBeSwapped, NeverConflict, is_seen, left_by}
use Rattle.op_rules.specs.Course.{Applied, End, Failed, Past, Serial, footprint_of}
use Rattle.op_rules.specs.Laws.{Lands, may_change}
use Rattle.op_rules.specs.Replies.{Gives, after_all}
use Rattle.op_rules.specs.Serial.{cells_left, failure_of, serial}
use Rattle.op_rules.proofs.Covering.{StandsIn, all_stand, apart_below, covers, own_is_seen, read_is_seen}
use Rattle.op_rules.proofs.Landing.{gets_replies}
use Rattle.op_rules.proofs.Steady.{turns_on_replies}

-- ---- what an operation sees

module _ (f : List (Cell × Mode)) where
  reply_on : (e : Access × Reply) → StandsIn f e → (m n : Contents) → reply_to e.0 m ≡ e.1 → AgreeWhereSeen f m n → reply_to e.0 n ≡ e.1
  reply_on (access.Read c, r) stands m n g h = ap reply.Value (sym (h c (read_is_seen (mode_of f c) stands))) ∙ g
  reply_on (access.Write c v, r) stands m n g h = g
  reply_on (access.Credit a k, r) stands m n g h = g
  reply_on (access.Debit a k, r) stands m n g h =
      sym (gives_same (access.Debit a k) m n (h (cell_of (access.Debit a k)) (own_is_seen (mode_of f (cell_of (access.Debit a k))) stands))).reply ∙ g

  elsewhere : (a : Access) (m : Contents) (q : Cell) → is_one q (cell_of a) ≡ false → get (after a m) q ≡ get m q
  elsewhere a m q apart = get-after a m q ∙ ap (λ (b : Bool). cond b (left_in a (get m (cell_of a))) (get m q)) apart

  agree_at : (a : Access) (m n : Contents) (q : Cell) (b : Bool) → is_one q (cell_of a) ≡ b → get m q ≡ get n q → get (after a m) q ≡ get (after a n) q
  agree_at a m n q true one e =
      let is : q ≡ cell_of a = one_from q (cell_of a) one in
      subst (λ x. get (after a m) x ≡ get (after a n) x) (sym is) (gives_same a m n (subst (λ x. get m x ≡ get n x) is e)).left
  agree_at a m n q false one e = elsewhere a m q one ∙ e ∙ sym (elsewhere a n q one)

  agree_after : (a : Access) (m n : Contents) → AgreeWhereSeen f m n → AgreeWhereSeen f (after a m) (after a n)
  agree_after a m n h q seen = agree_at a m n q (is_one q (cell_of a)) refl (h q seen)

  gives_on : (past : Past) → AllByRecursion (StandsIn f) past → (m n : Contents) → Gives past m → AgreeWhereSeen f m n → Gives past n
  gives_on [] all m n g h = tt
  gives_on (e ∷ past) all m n g h =
      (reply_on e all.0 m n g.0 h, gives_on past all.1 (after e.0 m) (after e.0 n) g.1 (agree_after e.0 m n h))

pub turns_on_what_is_seen : (book : Contracts) (head : Head) (op : Op) (m n : Contents) → AgreeWhereSeen (footprint_of (serial book head op m).course.past) m n →
    IsSame (serial book head op m) (serial book head op n)
turns_on_what_is_seen book head op m n h =
    let past = (serial book head op m).course.past in
    turns_on_replies book head op m n (gives_on (footprint_of past) past (all_stand past) m n (gets_replies m book head op).replies h)

-- ---- what an operation leaves alone

own_changes : (o : Option Mode) → covers o Own ≡ true → may_change o ≡ true
own_changes None e = absurd cc
own_changes (Some Read) e = absurd cc
own_changes (Some Credit) e = absurd cc
own_changes (Some Own) e = refl

credit_changes : (o : Option Mode) → covers o Credit ≡ true → may_change o ≡ true
credit_changes None e = absurd cc
credit_changes (Some Read) e = absurd cc
credit_changes (Some Credit) e = refl
credit_changes (Some Own) e = refl

module _ (f : List (Cell × Mode)) (q : Cell) (still : may_change (mode_of f q) ≡ false) where
  never : {A : Type 0} (c : Cell) → q ≡ c → may_change (mode_of f c) ≡ true → A
  never c is e = let changes : may_change (mode_of f q) ≡ true = ap (λ (x : Cell). may_change (mode_of f x)) is ∙ e in absurd cc

  kept_here : (e : Access × Reply) → StandsIn f e → (m : Contents) → q ≡ cell_of e.0 → get (after e.0 m) q ≡ get m q
  kept_here (access.Read c, r) stands m is = refl
  kept_here (access.Write c v, r) stands m is = never c is (own_changes (mode_of f c) stands)
  kept_here (access.Credit a k, r) stands m is = never (cell_of (access.Credit a k)) is (credit_changes (mode_of f (cell_of (access.Credit a k))) stands)
  kept_here (access.Debit a k, r) stands m is = never (cell_of (access.Debit a k)) is (own_changes (mode_of f (cell_of (access.Debit a k))) stands)

  kept_by : (e : Access × Reply) → StandsIn f e → (m : Contents) (b : Bool) → is_one q (cell_of e.0) ≡ b → get (after e.0 m) q ≡ get m q
  kept_by e stands m true one = kept_here e stands m (one_from q (cell_of e.0) one)
  kept_by e stands m false one = elsewhere f e.0 m q one

  kept : (past : Past) → AllByRecursion (StandsIn f) past → (m : Contents) → get (after_all past m) q ≡ get m q
  kept [] all m = refl
  kept (e ∷ past) all m = kept past all.1 (after e.0 m) ∙ kept_by e all.0 m (is_one q (cell_of e.0)) refl

-- ---- what an operation leaves

-- what is left where it ended so
abbrev left : Option Why → Past → Contents → Contents
left None past m = after_all past m
left (Some y) past m = m

left_at : (opening : Contents) (past : Past) (end : End) → Lands opening past end → cells_left opening 0 past end ≡ left (failure_of end) past opening
left_at opening past (Applied m) lands = lands
left_at opening past (Failed y) lands = refl

left_is : (book : Contracts) (head : Head) (op : Op) (m : Contents) → left_by book head op m ≡ left (failure_of (serial book head op m).end) (serial book head op m).course.past m
left_is book head op m =
    let s = serial book head op m in left_at m s.course.past s.end (gets_replies m book head op).lands

-- the same, as another run of it ended
left_as : (book : Contracts) (head : Head) (op : Op) (m n : Contents) → IsSame (serial book head op m) (serial book head op n) →
    left_by book head op n ≡ left (failure_of (serial book head op m).end) (serial book head op m).course.past n
left_as book head op m n same = left_is book head op n ∙ (let y = same.failure in let c = same.course in λ i. left (y i) (c i).past n)

kept_left : (y : Option Why) (past : Past) (q : Cell) (m : Contents) → may_change (mode_of (footprint_of past) q) ≡ false → get (left y past m) q ≡ get m q
kept_left None past q m still = kept (footprint_of past) q still past (all_stand past) m
kept_left (Some y) past q m still = refl

-- ---- footprints that never conflict

seen_conflicts : (o p : Option Mode) → may_change o ≡ true → is_seen p ≡ true → IsTrue (modes_conflict o p)
seen_conflicts None p e f = absurd cc
seen_conflicts (Some Read) p e f = absurd cc
seen_conflicts (Some Credit) None e f = absurd cc
seen_conflicts (Some Credit) (Some Read) e f = refl
seen_conflicts (Some Credit) (Some Credit) e f = absurd cc
seen_conflicts (Some Credit) (Some Own) e f = refl
seen_conflicts (Some Own) None e f = absurd cc
seen_conflicts (Some Own) (Some Read) e f = refl
seen_conflicts (Some Own) (Some Credit) e f = absurd cc
seen_conflicts (Some Own) (Some Own) e f = refl

turned : (o p : Option Mode) → IsTrue (modes_conflict o p) → IsTrue (modes_conflict p o)
turned None p e = absurd cc
turned (Some m) None e = absurd cc
turned (Some Read) (Some Read) e = absurd cc
turned (Some Read) (Some Credit) e = refl
turned (Some Read) (Some Own) e = refl
turned (Some Credit) (Some Read) e = refl
turned (Some Credit) (Some Credit) e = absurd cc
turned (Some Credit) (Some Own) e = refl
turned (Some Own) (Some Read) e = refl
turned (Some Own) (Some Credit) e = refl
turned (Some Own) (Some Own) e = refl

turned_apart : (f g : List (Cell × Mode)) → NeverConflict f g → NeverConflict g f
turned_apart f g apart c both = apart c (turned (mode_of g c) (mode_of f c) both)

-- what the one sees the other leaves as it was
agree_left : (y : Option Why) (past : Past) (g : List (Cell × Mode)) → NeverConflict (footprint_of past) g → (m : Contents) → AgreeWhereSeen g (left y past m) m
agree_left y past g apart m q seen = by_change (may_change (mode_of (footprint_of past) q)) refl
  where
    by_change : (b : Bool) → may_change (mode_of (footprint_of past) q) ≡ b → get (left y past m) q ≡ get m q
    by_change true e = absurd (apart q (seen_conflicts (mode_of (footprint_of past) q) (mode_of g q) e seen))
    by_change false e = kept_left y past q m e

turned_agree : (f : List (Cell × Mode)) (m n : Contents) → AgreeWhereSeen f m n → AgreeWhereSeen f n m
turned_agree f m n h c seen = sym (h c seen)

-- ---- accesses that never conflict

module _ (f g : List (Cell × Mode)) (apart : NeverConflict f g) where
  apart_accesses : (d e : Access × Reply) → StandsIn f d → StandsIn g e → AreApart d.0 e.0
  apart_accesses d e p q is =
      apart_below (mode_of f (cell_of d.0)) (mode_of g (cell_of d.0)) (mode_needed d.0) (mode_needed e.0) p
      (ap (λ (x : Cell). covers (mode_of g x) (mode_needed e.0)) is ∙ q) (apart (cell_of d.0))

  one_past : (d : Access × Reply) → StandsIn f d → (past : Past) → AllByRecursion (StandsIn g) past → (m : Contents) → after_all past (after d.0 m) ≡ after d.0 (after_all past m)
  one_past d p [] all m = refl
  one_past d p (e ∷ past) all m =
      ap (after_all past) (exchanged d.0 e.0 m (apart_accesses d e p all.0)).cells ∙ one_past d p past all.1 (after e.0 m)

  pasts : (p q : Past) → AllByRecursion (StandsIn f) p → AllByRecursion (StandsIn g) q → (m : Contents) → after_all q (after_all p m) ≡ after_all p (after_all q m)
  pasts [] q all others m = refl
  pasts (d ∷ p) q all others m = pasts p q all.1 others (after d.0 m) ∙ ap (after_all p) (one_past d all.0 q others m)

both_left : (x y : Option Why) (p q : Past) → NeverConflict (footprint_of p) (footprint_of q) → (m : Contents) → left y q (left x p m) ≡ left x p (left y q m)
both_left None None p q apart m = pasts (footprint_of p) (footprint_of q) apart p q (all_stand p) (all_stand q) m
both_left None (Some y) p q apart m = refl
both_left (Some x) y p q apart m = refl

-- ---- neighbours

module _ (book : Contracts) (head : Head) (a b : Op) (m : Contents) where
  abbrev first : Serial
  first = serial book head a m

  abbrev between : Contents
  between = left_by book head a m

  abbrev second : Serial
  second = serial book head b between

  module _ (apart : NeverConflict (footprint_of first.course.past) (footprint_of second.course.past)) where
    -- the second on the opening cells
    second_same : IsSame second (serial book head b m)
    second_same =
        turns_on_what_is_seen book head b between m
        (subst (λ n. AgreeWhereSeen (footprint_of second.course.past) n m) (sym (left_is book head a m))
        (agree_left (failure_of first.end) first.course.past (footprint_of second.course.past) apart m))

    after_second : left_by book head b m ≡ left (failure_of second.end) second.course.past m
    after_second = left_as book head b between m second_same

    first_same : IsSame first (serial book head a (left_by book head b m))
    first_same =
        turns_on_what_is_seen book head a m (left_by book head b m)
        (subst (λ n. AgreeWhereSeen (footprint_of first.course.past) m n) (sym after_second)
        (turned_agree (footprint_of first.course.past) (left (failure_of second.end) second.course.past m) m
        (agree_left (failure_of second.end) second.course.past (footprint_of first.course.past)
        (turned_apart (footprint_of first.course.past) (footprint_of second.course.past) apart) m)))

    pub swapped : MayBeSwapped book head a b m
    swapped = record {
      first = first_same;
      second = second_same;
      cells =
          left_is book head b between
          ∙ ap (left (failure_of second.end) second.course.past) (left_is book head a m)
          ∙ both_left (failure_of first.end) (failure_of second.end) first.course.past second.course.past apart m
          ∙ ap (left (failure_of first.end) first.course.past) (sym after_second)
          ∙ sym (left_as book head a m (left_by book head b m) first_same);
    }
