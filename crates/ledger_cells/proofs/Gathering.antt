-- Cells that are gathered into blocks: what may stand there, and what each one more leaves.
use Rattle.std.proofs.Common.{◌≡◌, ℕ, zero, suc, Bool, true, false, cond, T, List, [], ◌∷◌, Option, Some, None, refl, sym, ap, subst, ◌∙◌}
use Rattle.std.specs.Prelude.{is_some, IsTrue, All, ◌&&◌}
use Rattle.std.specs.List.{AllByRecursion}
use Rattle.std.proofs.lemmas.List.Elements.{All-from_recursion, recursion_from_All}
use Rattle.std.specs.declared.cmp.Ordering.TheVariants.{Less}
use Rattle.std.specs.Ordering.{is_lt}
use Rattle.std.specs.FinMap.{get, insert, empty, entries, entries_sorted, get-entries, get-empty, get-insert, get-from_sorted, contains_key, find, from_sorted, is_sorted}
use Rattle.std.specs.FinMap.Entries.{below_all}
use Rattle.value_core.specs.declared.val.Val.{Val}
use Rattle.value_core.specs.declared.val.Val.TheVariants.{Mutez}
use Rattle.value_core.proofs.Bools.{left, right, T_of, true_of}
use Rattle.cell_names.specs.declared.cell.Cell.{Cell}
use Rattle.cell_names.specs.declared.cell.Cell.TheVariants.{Balance, Storage, Entry}
use Rattle.cell_names.specs.Cells.{cell_cmp}
use Rattle.cell_names.specs.CellOrder.{cell_cmp-total}
use Rattle.cell_names.specs.Contents.{Contents, amount_of, amount_in, amount_kept, IsTidy}
use Rattle.cell_names.proofs.Puts.{is_one, one_from, is_one-self, same_contents}
use Rattle.cell_blocks.specs.Blocks.{Held, IsHoldable}
use Rattle.ledger_cells.specs.Gathering.{first_of, IsGathered}
use Rattle.ledger_cells.proofs.Walking.{is_less, below_none, head_below, tail_sorted}

-- ---- what may stand in blocks

pub kept_is : (n : ℕ) (v : Val) → Some v ≡ amount_kept n → v ≡ Mutez n
kept_is zero v e = absurd cc
kept_is (suc n) v e = cc

pub tidy_is_holdable : (m : Contents) (c : Cell) (v : Val) → IsTidy m → get m c ≡ Some v → IsHoldable c v
tidy_is_holdable m (Balance a) v tidy e = kept_is (amount_of v) v (sym e ∙ tidy a ∙ ap (λ (o : Option Val). amount_kept (amount_in o)) e)
tidy_is_holdable m (Storage a) v tidy e = tt
tidy_is_holdable m (Entry a p k) v tidy e = tt

apart_from_head : (e f : Held) (es : List Held) → T (below_all cell_cmp e.0 es) → find cell_cmp f.0 es ≡ Some f.1 → is_one f.0 e.0 ≡ false
apart_from_head e f es below found =
    elim (is_one f.0 e.0) as (λ b. is_one f.0 e.0 ≡ b → b ≡ false) [
      | true ↦ λ one. absurd (let none : find cell_cmp f.0 es ≡ None = ap (λ (c : Cell). find cell_cmp c es) (one_from f.0 e.0 one) ∙ below_none e.0 es below in cc)
      | false ↦ λ _. refl
    ] refl

-- what holds of each entry that is found holds of all
all_found : (P : Held → Type 0) (es : List Held) → IsTrue (is_sorted cell_cmp es) → ((e : Held) → find cell_cmp e.0 es ≡ Some e.1 → P e) → AllByRecursion P es
all_found P [] sorted each = tt
all_found P (e ∷ es) sorted each = (
  each e (ap (λ b. cond b (Some e.1) (find cell_cmp e.0 es)) (is_one-self e.0)),
  all_found P es (tail_sorted e es sorted) (λ f found. each f (ap (λ b. cond b (Some e.1) (find cell_cmp f.0 es)) (apart_from_head e f es (head_below e es sorted) found) ∙ found)),
)

pub entries_are_holdable : (m : Contents) → IsTidy m → All (λ e. IsHoldable e.0 e.1) (entries m)
entries_are_holdable m tidy =
    let P : Held → Type 0 = λ e. IsHoldable e.0 e.1 in
    All-from_recursion _ _ (all_found P (entries m) (true_of _ (entries_sorted m)) (λ e found. tidy_is_holdable m e.0 e.1 tidy (get-entries m e.0 ∙ found)))

-- ---- one cell after another

first_of-none : (o : Option Val) → o ≡ first_of o None
first_of-none None = refl
first_of-none (Some v) = refl

pub gathered_none : (all : List Held) → IsTrue (is_sorted cell_cmp all) → All (λ e. IsHoldable e.0 e.1) all → IsGathered all empty all
gathered_none all sorted holdable = record {
  together = λ q. first_of-none (find cell_cmp q all) ∙ ap (first_of (find cell_cmp q all)) (sym (get-empty cell_cmp q));
  above = λ q there. absurd (let none : is_some (get (empty {X = Val} {R = cell_cmp}) q) ≡ false = ap is_some (get-empty cell_cmp q) in let is : true ≡ false = sym there ∙ none in cc);
  sorted = sorted;
  holdable = holdable;
}

pub gathered_above : (all : List Held) (held : Contents) (e : Held) (rest : List Held) → IsGathered all held (e ∷ rest) → (q : Cell) → contains_key held q ≡ true → cell_cmp q e.0 ≡ Less
gathered_above all held e rest gathered q there = is_less (cell_cmp q e.0) (left _ _ (T_of (is_lt (cell_cmp q e.0) && below_all cell_cmp q rest) (gathered.above q there)))

pub gathered_holdable : (all : List Held) (held : Contents) (e : Held) (rest : List Held) → IsGathered all held (e ∷ rest) → IsHoldable e.0 e.1
gathered_holdable all held e rest gathered =
    let P : Held → Type 0 = λ f. IsHoldable f.0 f.1 in
    (recursion_from_All P (e ∷ rest) gathered.holdable).0

exchanged : (b : Bool) (v : Val) (f o : Option Val) → (b ≡ true → f ≡ None) → first_of (cond b (Some v) f) o ≡ first_of f (cond b (Some v) o)
exchanged true v f o none = ap (λ (g : Option Val). first_of g (Some v)) (sym (none refl))
exchanged false v f o none = refl

there_or_one : (b : Bool) (v : Val) (o : Option Val) → is_some (cond b (Some v) o) ≡ true → (b ≡ false → is_some o ≡ true)
there_or_one true v o e f = absurd cc
there_or_one false v o e f = e

pub gathered_one : (all : List Held) (held : Contents) (e : Held) (rest : List Held) → IsGathered all held (e ∷ rest) → IsGathered all (insert held e.0 e.1) rest
gathered_one all held e rest gathered =
    let P : Held → Type 0 = λ f. IsHoldable f.0 f.1 in
    record {
      together = λ q.
          gathered.together q
          ∙ exchanged (is_one q e.0) e.1 (find cell_cmp q rest) (get held q) (λ one. ap (λ (c : Cell). find cell_cmp c rest) (one_from q e.0 one) ∙ below_none e.0 rest (head_below e rest gathered.sorted))
          ∙ ap (first_of (find cell_cmp q rest)) (sym (get-insert cell_cmp-total held e.0 e.1 q));
      above = λ q there.
          elim (is_one q e.0) as (λ b. is_one q e.0 ≡ b → IsTrue (below_all cell_cmp q rest)) [
            | true ↦ λ one. subst (λ (c : Cell). IsTrue (below_all cell_cmp c rest)) (sym (one_from q e.0 one)) (true_of _ (head_below e rest gathered.sorted))
            | false ↦ λ apart.
                let in_held = there_or_one (is_one q e.0) e.1 (get held q) (ap is_some (sym (get-insert cell_cmp-total held e.0 e.1 q)) ∙ there) apart in
                true_of _ (right (is_lt (cell_cmp q e.0)) (below_all cell_cmp q rest) (T_of _ (gathered.above q in_held)))
          ] refl;
      sorted = tail_sorted e rest gathered.sorted;
      holdable = All-from_recursion _ _ (recursion_from_All P (e ∷ rest) gathered.holdable).1;
    }

pub gathered_all : (all : List Held) (held : Contents) → IsTrue (is_sorted cell_cmp all) → IsGathered all held [] → held ≡ from_sorted all
gathered_all all held sorted gathered = same_contents _ _ (λ q. sym (gathered.together q) ∙ sym (get-from_sorted cell_cmp all q (T_of _ sorted)))
