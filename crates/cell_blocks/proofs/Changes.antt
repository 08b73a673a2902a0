-- What both blocks are as contents, and what they are after one more cell, another amount, or a balance less.
use Rattle.std.proofs.Common.{◌≡◌, ℕ, zero, suc, ◌+◌, ◌-◌, ◌<◌, Bool, true, false, List, [], ◌∷◌, ◌++◌, map, take, drop, length, get_or, set, Option, Some, None, Ordering, refl, sym, ap, subst, ◌∙◌, arith, eqb, eq-eqb, Err}
use Rattle.std.specs.Prelude.{◌↔◌, IsTrue, All, MatchOption, is_some, remove, slice_get}
use Rattle.std.specs.declared.cmp.Ordering.TheVariants.{Less, Greater}
use Rattle.std.specs.Option.{option_map}
use Rattle.std.specs.Ordering.{is_lt}
use Rattle.std.specs.FinMap.{is_sorted, get, contains_key, empty, entries, insert, len, from_sorted, entries-from_sorted, len-entries, len-empty, empty_of_len}
use Rattle.std.specs.FinMap as finmap
use Rattle.std.proofs.Math.Seq.{get_or-append_seam}
use Rattle.std.proofs.lemmas.Bool.{eqb-true}
use Rattle.std.proofs.lemmas.Option.{same_Some}
use Rattle.std.proofs.lemmas.List.{append_assoc, append-nil, map-append, map-set, take-map, drop-map, length-map, set-append_left}
use Rattle.std.proofs.lemmas.List.Edits.{remove-append_left}
use Rattle.std.proofs.lemmas.List.Elements.{All-append}
use Rattle.value_core.specs.declared.val.Val.{Val}
use Rattle.value_core.specs.declared.val.Val.TheVariants.{Mutez}
use Rattle.value_core.specs.Places.{IsGap, IsPlace}
use Rattle.value_core.proofs.Bools.{T_of}
use Rattle.value_core.proofs.PlaceLemmas.{is_Less}
use Rattle.cell_names.specs.declared.cell.Cell.{Cell}
use Rattle.cell_names.specs.declared.cell.Cell.TheVariants.{Balance}
use Rattle.cell_names.specs.Cells.{address_of, kind_of, cell_cmp}
use Rattle.cell_names.specs.CellOrder.{cell_cmp-total, cell_cmp-ties}
use Rattle.cell_names.specs.Contents.{Contents, amount_of, with_balance}
use Rattle.cell_names.proofs.Undoing.{amount_of-Mutez}
use Rattle.cell_blocks.specs.declared.holding.Holding.{Holding}
use Rattle.cell_blocks.specs.Blocks.{Held, held_by, all_of, contents_of, AllBelow, AreBlocks, IsHoldable}
use Rattle.cell_blocks.specs.Successors.{IsNext, NoneAbove}
use Rattle.cell_blocks.specs.Placing.{IsCut}
use Rattle.cell_blocks.proofs.CellOrders.{other_above}
use Rattle.cell_blocks.proofs.Ascending.{gap_end, pushed, pushed_ascends, replaced, replaced_ascends, removed, removed_ascends, get_place, get_gap}
use Rattle.cell_blocks.proofs.Cuts.{next_of, last_tells}
use Rattle.cell_blocks.proofs.Both.{cell_of, balance_of, length_all, place_of_balance, balance_stands, balances_ascend}

-- ---- the same blocks under other names

pub blocks_are : (s bs : List Holding) (t os : List Held) → s ≡ bs → t ≡ os → AreBlocks bs os → AreBlocks s t
blocks_are s bs t os e f are = subst (λ (x : List Holding). AreBlocks x t) (sym e) (subst (λ (y : List Held). AreBlocks bs y) (sym f) are)

pub contents_are : (s bs : List Holding) (t os : List Held) (m : Contents) → s ≡ bs → t ≡ os → contents_of bs os ≡ m → contents_of s t ≡ m
contents_are s bs t os m e f is = (λ i. contents_of (e i) (f i)) ∙ is

pub balances_up : (s bs : List Holding) (os : List Held) → s ≡ bs → AreBlocks bs os → IsTrue (is_sorted cell_cmp (map held_by s))
balances_up s bs os e are = balances_ascend s os (blocks_are s bs os os e refl are)

-- ---- as contents

pub entries_all : (bs : List Holding) (os : List Held) → AreBlocks bs os → entries (contents_of bs os) ≡ all_of bs os
entries_all bs os are = entries-from_sorted cell_cmp (all_of bs os) (T_of _ are.ascend)

pub len_all : (bs : List Holding) (os : List Held) (m n : ℕ) (now : Contents) → m ≡ length bs → n ≡ length os → AreBlocks bs os → contents_of bs os ≡ now → m + n ≡ len now
len_all bs os m n now e f are is =
    (λ i. e i + f i) ∙ sym (length_all bs os) ∙ ap length (sym (entries_all bs os are)) ∙ sym (len-entries (contents_of bs os)) ∙ ap len is

pub nothing_is : (bs : List Holding) (os : List Held) → bs ≡ [] → os ≡ [] → contents_of bs os ≡ empty
nothing_is bs os e f =
    let none : len (contents_of [] []) ≡ 0 = len-entries (contents_of [] []) ∙ ap length (entries-from_sorted cell_cmp [] tt) in
    (λ i. contents_of (e i) (f i)) ∙ empty_of_len (contents_of [] []) none

pub empty_tells : (n : ℕ) (m : Contents) → n ≡ len m → IsTrue (eqb n 0) ↔ (m ≡ empty)
empty_tells n m is = (
  λ none. empty_of_len m (sym is ∙ eqb-true n 0 none),
  λ none. eq-eqb n 0 (is ∙ ap len none ∙ len-empty cell_cmp Val),
)

-- ---- what is found, and what comes next

pub found_at : (bs : List Holding) (os : List Held) (q : Cell) (i : ℕ) (r : Option Val) (m : Contents) → r ≡ option_map (λ (e : Held). e.1) (slice_get (all_of bs os) i) → AreBlocks bs os → contents_of bs os ≡ m → IsPlace cell_of (all_of bs os) q i → r ≡ get m q
found_at bs os q i r m read are is p = read ∙ get_place cell_cmp-total (all_of bs os) q i are.ascend p ∙ ap (λ (n : Contents). get n q) is

pub found_none : (bs : List Holding) (os : List Held) (q : Cell) (i : ℕ) (m : Contents) → AreBlocks bs os → contents_of bs os ≡ m → IsGap cell_of cell_cmp (all_of bs os) q i → None ≡ get m q
found_none bs os q i m are is g = sym (get_gap cell_cmp-total (all_of bs os) q i are.ascend g) ∙ ap (λ (n : Contents). get n q) is

pub next_is : (bs : List Holding) (os : List Held) (given : Option Cell) (i : ℕ) (r : Option Held) (m : Contents) → r ≡ slice_get (all_of bs os) i → AreBlocks bs os → contents_of bs os ≡ m → IsCut cell_cmp (all_of bs os) given i →
    MatchOption r (NoneAbove cell_cmp m given) (λ row. IsNext cell_cmp m given row.0 row.1)
next_is bs os given i r m read are is cut =
    subst (λ (n : Contents). MatchOption r (NoneAbove cell_cmp n given) (λ row. IsNext cell_cmp n given row.0 row.1)) is
    (subst (λ (o : Option Held). MatchOption o (NoneAbove cell_cmp (contents_of bs os) given) (λ row. IsNext cell_cmp (contents_of bs os) given row.0 row.1)) (sym read)
    (next_of cell_cmp-total cell_cmp-ties (all_of bs os) given i are.ascend cut))

pub last_is : (bs : List Holding) (os : List Held) (q : Cell) (r : Option Held) (m : Contents) → r ≡ slice_get (all_of bs os) (length (all_of bs os) - 1) → AreBlocks bs os → contents_of bs os ≡ m →
    MatchOption r (AllBelow m q) (λ row. (cell_cmp row.0 q ≡ Less) ↔ AllBelow m q)
last_is bs os q r m read are is =
    subst (λ (n : Contents). MatchOption r (AllBelow n q) (λ row. (cell_cmp row.0 q ≡ Less) ↔ AllBelow n q)) is
    (subst (λ (o : Option Held). MatchOption o (AllBelow (contents_of bs os) q) (λ row. (cell_cmp row.0 q ≡ Less) ↔ AllBelow (contents_of bs os) q)) (sym read)
    (last_tells cell_cmp-total cell_cmp-ties (all_of bs os) q are.ascend))

pub above_answer : (bs : List Holding) (os : List Held) (q : Cell) (row : Held) (m : Contents) (k : Cell) (r : Ordering) (b : Bool) → Some row ≡ slice_get (all_of bs os) (length (all_of bs os) - 1) → AreBlocks bs os → contents_of bs os ≡ m →
    k ≡ row.0 → r ≡ cell_cmp k q → b ≡ is_lt r → IsTrue b ↔ AllBelow m q
above_answer bs os q row m k r b read are is cell order test =
    let tells = last_is bs os q (Some row) m read are is in
    let compared : r ≡ cell_cmp row.0 q = order ∙ ap (λ (c : Cell). cell_cmp c q) cell in (
      λ h. tells.0 (sym compared ∙ is_Less r (sym test ∙ h)),
      λ below. test ∙ ap is_lt (compared ∙ tells.1 below),
    )

-- ---- one more cell

-- what may stand in a balance is its amount
pub held_amount : (c : Cell) (v : Val) (a : List ℕ) (n : ℕ) → c ≡ Balance a → IsHoldable c v → n ≡ amount_of v → v ≡ Mutez n
held_amount c v a n cell holdable amount = subst (λ (k : Cell). IsHoldable k v) cell holdable ∙ ap (λ k. Mutez k) (sym amount)

end_gap : (bs : List Holding) (os : List Held) (q : Cell) (m : Contents) → AreBlocks bs os → contents_of bs os ≡ m → AllBelow m q → IsGap cell_of cell_cmp (all_of bs os) q (length (all_of bs os))
end_gap bs os q m are is below = gap_end cell_cmp-total (all_of bs os) q are.ascend (subst (λ (n : Contents). AllBelow n q) (sym is) below)

-- where a balance comes behind all cells, there are balances alone
no_others : (bs : List Holding) (os : List Held) (a : List ℕ) → AreBlocks bs os → IsGap cell_of cell_cmp (all_of bs os) (Balance a) (length (all_of bs os)) → os ≡ []
no_others bs [] a are g = refl
no_others bs (e ∷ os) a are g =
    let n = length (map held_by bs) in
    let lt : n < length (all_of bs (e ∷ os)) = omega (arith, length_all bs (e ∷ os), length-map bs held_by) in
    let less : cell_cmp e.0 (Balance a) ≡ Less = ap (λ (x : Held). cell_cmp x.0 (Balance a)) (sym (get_or-append_seam (map held_by bs) e os e)) ∙ g.below n e lt in
    let greater : cell_cmp e.0 (Balance a) ≡ Greater = other_above a e.0 (are.behind 0 e (omega arith)) in
    let both : Greater ≡ Less = sym greater ∙ less in
    absurd cc

-- blocks, and what they are
pub record Become (bs : List Holding) (os : List Held) (m : Contents) : Type 0 where
  pub are : AreBlocks bs os
  pub is : contents_of bs os ≡ m

become : (bs : List Holding) (os all : List Held) (m : Contents) → all_of bs os ≡ all → All (λ (e : Held). 0 < kind_of e.0) os → IsTrue (is_sorted cell_cmp all) → from_sorted all ≡ m → Become bs os m
become bs os all m same behind up is = record {
  are = record { ascend = subst (λ (l : List Held). IsTrue (is_sorted cell_cmp l)) (sym same) up; behind = behind };
  is = ap from_sorted same ∙ is;
}

all_pushed : (bs : List Holding) (os : List Held) (h : Holding) → os ≡ [] → all_of (bs ++ h ∷ []) os ≡ all_of bs os ++ held_by h ∷ []
all_pushed bs os h none =
    ap (all_of (bs ++ h ∷ [])) none
    ∙ append-nil (map held_by (bs ++ h ∷ []))
    ∙ map-append held_by bs (h ∷ [])
    ∙ ap (λ (l : List Held). l ++ held_by h ∷ []) (sym (append-nil (map held_by bs)) ∙ ap (all_of bs) (sym none))

pub push_balance : (bs new : List Holding) (os : List Held) (h : Holding) (c : Cell) (v : Val) (m : Contents) → AreBlocks bs os → contents_of bs os ≡ m → AllBelow m c → c ≡ Balance h.address → v ≡ Mutez h.amount → new ≡ bs ++ h ∷ [] →
    Become new os (insert m c v)
push_balance bs new os h c v m are is below cell value grown =
    let q = Balance h.address in
    let g = end_gap bs os q m are is (subst (AllBelow m) cell below) in
    let none = no_others bs os h.address are g in
    subst (λ (n : Contents). Become new os n) (λ i. insert (is i) (sym cell i) (sym value i))
    (subst (λ (l : List Holding). Become l os (insert (contents_of bs os) q (Mutez h.amount))) (sym grown)
    (become (bs ++ h ∷ []) os (all_of bs os ++ held_by h ∷ []) _ (all_pushed bs os h none) are.behind
    (pushed_ascends cell_cmp-total (all_of bs os) q (Mutez h.amount) are.ascend g)
    (pushed cell_cmp-total (all_of bs os) q (Mutez h.amount) are.ascend g)))

one_behind : (c : Cell) (v : Val) → 0 < kind_of c → All (λ (e : Held). 0 < kind_of e.0) ((c, v) ∷ [])
one_behind c v other zero d lt = other
one_behind c v other (suc k) d lt = absurd (omega arith)

pub push_other : (bs : List Holding) (os new : List Held) (c : Cell) (v : Val) (m : Contents) → AreBlocks bs os → contents_of bs os ≡ m → AllBelow m c → 0 < kind_of c → new ≡ os ++ (c, v) ∷ [] → Become bs new (insert m c v)
push_other bs os new c v m are is below other grown =
    let g = end_gap bs os c m are is below in
    subst (λ (n : Contents). Become bs new (insert n c v)) is
    (subst (λ (l : List Held). Become bs l (insert (contents_of bs os) c v)) (sym grown)
    (become bs (os ++ (c, v) ∷ []) (all_of bs os ++ (c, v) ∷ []) _ (sym (append_assoc (map held_by bs) os ((c, v) ∷ []))) (All-append (λ (e : Held). 0 < kind_of e.0) os ((c, v) ∷ []) are.behind (one_behind c v other))
    (pushed_ascends cell_cmp-total (all_of bs os) c v are.ascend g)
    (pushed cell_cmp-total (all_of bs os) c v are.ascend g)))

-- ---- another amount

with_none : (m : Contents) (a : List ℕ) → with_balance m a 0 ≡ finmap.remove m (Balance a)
unfolding with_balance
with_none m a = refl

with_some : (m : Contents) (a : List ℕ) (n : ℕ) → (n ≡ 0 → ⊥) → with_balance m a n ≡ insert m (Balance a) (Mutez n)
unfolding with_balance
with_some m a zero some = absurd (some refl)
with_some m a (suc n) some = refl

pub set_amount : (bs new : List Holding) (os : List Held) (a : List ℕ) (i n : ℕ) (d : Holding) (m : Contents) → AreBlocks bs os → contents_of bs os ≡ m → IsPlace balance_of bs (Balance a) i → (n ≡ 0 → ⊥) → d ≡ get_or bs i d →
    new ≡ set bs i (record { address = d.address; amount = n }) → Become new os (with_balance m a n)
set_amount bs new os a i n d m are is p some read changed =
    let here : d.address ≡ a = ap (λ (h : Holding). h.address) read ∙ ap address_of (p.here d) in
    let x : Holding = record { address = a; amount = n } in
    let same : new ≡ set bs i x = changed ∙ ap (λ (b : List ℕ). set bs i (record { address = b; amount = n })) here in
    let lt : i < length (map held_by bs) = omega (arith, p.within, length-map bs held_by) in
    let at = place_of_balance bs os a i p in
    subst (λ (c : Contents). Become new os c) (ap (λ (c : Contents). insert c (Balance a) (Mutez n)) is ∙ sym (with_some m a n some))
    (subst (λ (l : List Holding). Become l os (insert (contents_of bs os) (Balance a) (Mutez n))) (sym same)
    (become (set bs i x) os (set (all_of bs os) i (held_by x)) _ (ap (λ (l : List Held). l ++ os) (map-set held_by bs i x) ∙ sym (set-append_left (map held_by bs) os i (held_by x) lt)) are.behind
    (replaced_ascends cell_cmp-total (all_of bs os) (Balance a) i (Mutez n) are.ascend at)
    (replaced cell_cmp-total (all_of bs os) (Balance a) i (Mutez n) are.ascend at)))

map-remove : (bs : List Holding) (i : ℕ) → map held_by (remove bs i) ≡ remove (map held_by bs) i
map-remove bs i = map-append held_by (take i bs) (drop (suc i) bs) ∙ (λ j. sym (take-map held_by i bs) j ++ sym (drop-map held_by (suc i) bs) j)

pub take_away : (bs new : List Holding) (os : List Held) (a : List ℕ) (i : ℕ) (m : Contents) → AreBlocks bs os → contents_of bs os ≡ m → IsPlace balance_of bs (Balance a) i → new ≡ remove bs i → Become new os (with_balance m a 0)
take_away bs new os a i m are is p gone =
    let lt : i < length (map held_by bs) = omega (arith, p.within, length-map bs held_by) in
    let at = place_of_balance bs os a i p in
    subst (λ (c : Contents). Become new os c) (ap (λ (c : Contents). finmap.remove c (Balance a)) is ∙ sym (with_none m a))
    (subst (λ (l : List Holding). Become l os (finmap.remove (contents_of bs os) (Balance a))) (sym gone)
    (become (remove bs i) os (remove (all_of bs os) i) _ (ap (λ (l : List Held). l ++ os) (map-remove bs i) ∙ sym (remove-append_left (map held_by bs) os i lt)) are.behind
    (removed_ascends cell_cmp-total (all_of bs os) (Balance a) i are.ascend at)
    (removed cell_cmp-total cell_cmp-ties (all_of bs os) (Balance a) i are.ascend at)))

-- a balance that is there has a place
pub not_missing : (bs : List Holding) (os : List Held) (a : List ℕ) (i : ℕ) (m : Contents) → AreBlocks bs os → contents_of bs os ≡ m → IsGap balance_of cell_cmp bs (Balance a) i → contains_key m (Balance a) ≡ true → ⊥
not_missing bs os a i m are is g known =
    let none : None ≡ get m (Balance a) = found_none bs os (Balance a) i m are is (balance_stands bs os a (Err i) are g) in
    let both : false ≡ true = ap is_some none ∙ known in
    cc

-- ---- the same contents

abbrev tail_of : List Held → List Held
tail_of [] = []
tail_of (e ∷ es) = es

-- the holding that a balance is
abbrev holding_of : Held → Holding
holding_of e = record { address = address_of e.0; amount = amount_of e.1 }

holding_back : (h : Holding) → holding_of (held_by h) ≡ h
holding_back h = λ i. record { address = h.address; amount = amount_of-Mutez h.amount i }

record AreSame (bs cs : List Holding) (os ps : List Held) : Type 0 where
  balances : bs ≡ cs
  others : os ≡ ps

no_balance : (h : Holding) (es os : List Held) → All (λ (e : Held). 0 < kind_of e.0) os → os ≡ held_by h ∷ es → ⊥
no_balance h es os behind is =
    let first : 0 < 0 = (subst (λ (l : List Held). All (λ (e : Held). 0 < kind_of e.0) l) is behind) 0 (held_by h) (omega arith) in
    omega arith

parted : (bs cs : List Holding) (os ps : List Held) → All (λ (e : Held). 0 < kind_of e.0) os → All (λ (e : Held). 0 < kind_of e.0) ps → all_of bs os ≡ all_of cs ps → AreSame bs cs os ps
parted [] [] os ps f g e = record { balances = refl; others = e }
parted [] (h ∷ cs) os ps f g e = absurd (no_balance h (all_of cs ps) os f e)
parted (h ∷ bs) [] os ps f g e = absurd (no_balance h (all_of bs os) ps g (sym e))
parted (h ∷ bs) (k ∷ cs) os ps f g e =
    let rest = parted bs cs os ps f g (ap tail_of e) in
    let firsts : held_by h ≡ held_by k = same_Some _ _ (ap (λ (l : List Held). slice_get l 0) e) in
    let same : h ≡ k = sym (holding_back h) ∙ ap holding_of firsts ∙ holding_back k in
    record { balances = λ i. same i ∷ rest.balances i; others = rest.others }

parts_same : (bs cs : List Holding) (os ps : List Held) (m n : Contents) → AreBlocks bs os → AreBlocks cs ps → contents_of bs os ≡ m → contents_of cs ps ≡ n → m ≡ n → AreSame bs cs os ps
parts_same bs cs os ps m n are are' is is' e =
    parted bs cs os ps are.behind are'.behind (sym (entries_all bs os are) ∙ ap entries (is ∙ e ∙ sym is') ∙ entries_all cs ps are')

pub same_blocks : (bs cs : List Holding) (os ps : List Held) (m n : Contents) (b : Bool) → AreBlocks bs os → AreBlocks cs ps → contents_of bs os ≡ m → contents_of cs ps ≡ n → bs ≡ cs → IsTrue b ↔ (os ≡ ps) → IsTrue b ↔ (m ≡ n)
same_blocks bs cs os ps m n b are are' is is' balances tells = (
  λ h. sym is ∙ (λ i. contents_of (balances i) (tells.0 h i)) ∙ is',
  λ e. tells.1 (parts_same bs cs os ps m n are are' is is' e).others,
)

pub other_balances : (bs cs : List Holding) (os ps : List Held) (m n : Contents) → AreBlocks bs os → AreBlocks cs ps → contents_of bs os ≡ m → contents_of cs ps ≡ n → m ≡ n → bs ≡ cs
other_balances bs cs os ps m n are are' is is' e = (parts_same bs cs os ps m n are are' is is' e).balances
