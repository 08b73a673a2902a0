-- Each access of an operation stands in its footprint, in a mode that covers the one that it needs.
use Rattle.std.proofs.Common.{◌≡◌, Bool, true, false, cond, Option, Some, None, List, [], ◌∷◌, refl, sym, ap, ◌∙◌}
use Rattle.std.specs.Prelude.{IsTrue}
use Rattle.std.specs.List.{AllByRecursion}
use Rattle.std.specs.FinMap.Entries.{find-put}
use Rattle.cell_names.specs.declared.access.Access.{Access}
use Rattle.cell_names.specs.declared.access.Reply.{Reply}
use Rattle.cell_names.specs.declared.cell.Cell.{Cell}
use Rattle.cell_names.specs.declared.mode.Mode.{Mode}
use Rattle.cell_names.specs.declared.mode.Mode.TheVariants.{Read, Credit, Own}
use Rattle.cell_names.specs.Cells.{cell_cmp}
use Rattle.cell_names.specs.CellOrder.{cell_cmp-total}
use Rattle.cell_names.specs.Effects.{cell_of, mode_needed}
use Rattle.cell_names.specs.Footprints.{further, mode_of, modes_conflict, touched}
use Rattle.cell_names.specs.Modes.{conflicts}
use Rattle.cell_names.proofs.Puts.{is_one, is_one-self, one_from}
use Rattle.op_rules.specs.Alike.{is_seen}
use Rattle.op_rules.specs.Course.{Past, footprint_from, footprint_of}

-- a mode that was joined from others and this one
abbrev pub covers : Option Mode → Mode → Bool
covers None m = false
covers (Some Read) Read = true
covers (Some Read) Credit = false
covers (Some Read) Own = false
covers (Some Credit) Read = false
covers (Some Credit) Credit = true
covers (Some Credit) Own = false
covers (Some Own) m = true

still_covers : (o : Option Mode) (m n : Mode) → covers o n ≡ true → covers (Some (further o m)) n ≡ true
still_covers None m n e = absurd cc
still_covers (Some Read) Read n e = e
still_covers (Some Read) Credit n e = refl
still_covers (Some Read) Own n e = refl
still_covers (Some Credit) Read n e = refl
still_covers (Some Credit) Credit n e = e
still_covers (Some Credit) Own n e = refl
still_covers (Some Own) Read n e = refl
still_covers (Some Own) Credit n e = refl
still_covers (Some Own) Own n e = refl

covers_further : (o : Option Mode) (n : Mode) → covers (Some (further o n)) n ≡ true
covers_further None Read = refl
covers_further None Credit = refl
covers_further None Own = refl
covers_further (Some Read) Read = refl
covers_further (Some Read) Credit = refl
covers_further (Some Read) Own = refl
covers_further (Some Credit) Read = refl
covers_further (Some Credit) Credit = refl
covers_further (Some Credit) Own = refl
covers_further (Some Own) Read = refl
covers_further (Some Own) Credit = refl
covers_further (Some Own) Own = refl

mode_of-touched : (f : List (Cell × Mode)) (c q : Cell) (m : Mode) → mode_of (touched f c m) q ≡ cond (is_one q c) (Some (further (mode_of f c) m)) (mode_of f q)
mode_of-touched f c q m = find-put cell_cmp cell_cmp-total q c (further (mode_of f c) m) f

still_by : (f : List (Cell × Mode)) (c q : Cell) (m n : Mode) (b : Bool) → is_one q c ≡ b → covers (mode_of f q) n ≡ true → covers (cond b (Some (further (mode_of f c) m)) (mode_of f q)) n ≡ true
still_by f c q m n true one e = still_covers (mode_of f c) m n (ap (λ (x : Cell). covers (mode_of f x) n) (sym (one_from q c one)) ∙ e)
still_by f c q m n false one e = e

still_touched : (f : List (Cell × Mode)) (c q : Cell) (m n : Mode) → covers (mode_of f q) n ≡ true → covers (mode_of (touched f c m) q) n ≡ true
still_touched f c q m n e = ap (λ o. covers o n) (mode_of-touched f c q m) ∙ still_by f c q m n (is_one q c) refl e

covers_touched : (f : List (Cell × Mode)) (c : Cell) (m : Mode) → covers (mode_of (touched f c m) c) m ≡ true
covers_touched f c m =
    ap (λ o. covers o m) (mode_of-touched f c c m) ∙ ap (λ (b : Bool). covers (cond b (Some (further (mode_of f c) m)) (mode_of f c)) m) (is_one-self c) ∙ covers_further (mode_of f c) m

still_from : (f : List (Cell × Mode)) (past : Past) (q : Cell) (n : Mode) → covers (mode_of f q) n ≡ true → covers (mode_of (footprint_from f past) q) n ≡ true
still_from f [] q n e = e
still_from f (a ∷ past) q n e = still_from (touched f (cell_of a.0) (mode_needed a.0)) past q n (still_touched f (cell_of a.0) q (mode_needed a.0) n e)

-- the access stands in the footprint
abbrev pub StandsIn : List (Cell × Mode) → Access × Reply → Type 0
StandsIn f e = covers (mode_of f (cell_of e.0)) (mode_needed e.0) ≡ true

all_from : (f : List (Cell × Mode)) (past : Past) → AllByRecursion (StandsIn (footprint_from f past)) past
all_from f [] = tt
all_from f (a ∷ past) =
    let g = touched f (cell_of a.0) (mode_needed a.0) in
    (still_from g past (cell_of a.0) (mode_needed a.0) (covers_touched f (cell_of a.0) (mode_needed a.0)), all_from g past)

pub all_stand : (past : Past) → AllByRecursion (StandsIn (footprint_of past)) past
all_stand = all_from []

-- ---- modes that cover

pub read_is_seen : (o : Option Mode) → covers o Read ≡ true → is_seen o ≡ true
read_is_seen None e = absurd cc
read_is_seen (Some Read) e = refl
read_is_seen (Some Credit) e = absurd cc
read_is_seen (Some Own) e = refl

pub own_is_seen : (o : Option Mode) → covers o Own ≡ true → is_seen o ≡ true
own_is_seen None e = absurd cc
own_is_seen (Some Read) e = absurd cc
own_is_seen (Some Credit) e = absurd cc
own_is_seen (Some Own) e = refl

-- where covering modes don't conflict, neither do those that they cover
pub apart_below : (o p : Option Mode) (m n : Mode) → covers o m ≡ true → covers p n ≡ true → ¬ IsTrue (modes_conflict o p) → conflicts m n ≡ false
apart_below None p m n e f h = absurd cc
apart_below (Some Read) None m n e f h = absurd cc
apart_below (Some Read) (Some Read) Read Read e f h = refl
apart_below (Some Read) (Some Read) Read Credit e f h = absurd cc
apart_below (Some Read) (Some Read) Read Own e f h = absurd cc
apart_below (Some Read) (Some Read) Credit n e f h = absurd cc
apart_below (Some Read) (Some Read) Own n e f h = absurd cc
apart_below (Some Read) (Some Credit) m n e f h = absurd (h refl)
apart_below (Some Read) (Some Own) m n e f h = absurd (h refl)
apart_below (Some Credit) None m n e f h = absurd cc
apart_below (Some Credit) (Some Read) m n e f h = absurd (h refl)
apart_below (Some Credit) (Some Credit) Credit Credit e f h = refl
apart_below (Some Credit) (Some Credit) Credit Read e f h = absurd cc
apart_below (Some Credit) (Some Credit) Credit Own e f h = absurd cc
apart_below (Some Credit) (Some Credit) Read n e f h = absurd cc
apart_below (Some Credit) (Some Credit) Own n e f h = absurd cc
apart_below (Some Credit) (Some Own) m n e f h = absurd (h refl)
apart_below (Some Own) None m n e f h = absurd cc
apart_below (Some Own) (Some Read) m n e f h = absurd (h refl)
apart_below (Some Own) (Some Credit) m n e f h = absurd (h refl)
apart_below (Some Own) (Some Own) m n e f h = absurd (h refl)
