-- A store that has nothing, as the tests use it: what an undo leaves of it, and where a log of one entry leads.
use Rattle.std.proofs.Common.{◌≡◌, ℕ, ◌+◌, ◌-◌, ◌≤◌, Bool, true, false, cond, List, [], ◌∷◌, ◌++◌, Option, None, refl, sym, ap, subst, ◌∙◌, arith}
use Rattle.std.specs.FinMap.{empty, get-empty}
use Rattle.std.proofs.lemmas.List.Elements.{All-nil, All-cons}
use Rattle.value_core.specs.declared.val.Val.{Val}
use Rattle.cell_names.specs.declared.cell.Cell.TheVariants.{Balance}
use Rattle.cell_names.specs.declared.access.Undo.{Undo}
use Rattle.cell_names.specs.declared.access.Undo.TheVariants as undo
use Rattle.cell_names.specs.Cells.{cell_cmp}
use Rattle.cell_names.specs.Contents.{amount_in, amount_kept, balance, with_balance}
use Rattle.cell_names.specs.Effects.{undone, flight_undone}
use Rattle.cell_names.specs.Conditions.{Seen, MayChange, CanUndo}
use Rattle.cell_names.specs.Stores.{Stays, Undoes}
use Rattle.cell_names.proofs.Puts.{is_one, same_contents, get-with_balance}
use Rattle.inverse_log.specs.Ends.{LeadsTo, LeadsSomewhere}

abbrev pub nothing : Seen
nothing = record { cells = empty; flight = 0; lent = λ _. None; fits = λ _. true; slots = λ _. false }

no_money : (a : List ℕ) → balance nothing.cells a ≡ 0
no_money a = ap amount_in (get-empty cell_cmp (Balance a))

none_both : (b : Bool) → cond {A = Option Val} b None None ≡ None
none_both true = refl
none_both false = refl

still_empty : (a : List ℕ) (k : ℕ) → k ≡ 0 → nothing.cells ≡ with_balance nothing.cells a k
still_empty a k is = sym (same_contents (with_balance nothing.cells a k) nothing.cells (λ q.
    get-with_balance nothing.cells a k q
    ∙ (λ i. cond (is_one q (Balance a)) (amount_kept (is i)) (get-empty cell_cmp q i))
    ∙ none_both (is_one q (Balance a)) ∙ sym (get-empty cell_cmp q)))

stays : Stays nothing nothing
stays = record { lent = λ c. refl; fits = λ a. refl; slots = λ c s. s }

pub undone_of_nothing : (u : Undo) → CanUndo nothing u → Undoes nothing u nothing
undone_of_nothing undo.Nothing may = record { stays = stays; cells = refl; flight = refl }
undone_of_nothing (undo.Put c v) may = absurd (let never : false ≡ true = may.change.slot in cc)
undone_of_nothing (undo.Uncredit a n) may =
    let none = no_money a in
    let few : n ≤ balance nothing.cells a = may.amount in
    record { stays = stays; cells = still_empty a (balance nothing.cells a - n) (omega arith); flight = omega arith }
undone_of_nothing (undo.Undebit a n) may =
    let none = no_money a in
    let few : n ≤ 0 = may.amount in
    record { stays = stays; cells = still_empty a (balance nothing.cells a + n) (omega arith); flight = omega arith }

one_leads : (a : List ℕ) → LeadsTo (undo.Uncredit a 0 ∷ []) nothing (undone (undo.Uncredit a 0) nothing.cells) (flight_undone (undo.Uncredit a 0) 0)
one_leads a = record { ends = (omega arith, (refl, refl)); changes = All-cons (MayChange nothing) (undo.Uncredit a 0) [] tt (All-nil (MayChange nothing)) }

pub one_entry : (log before : List Undo) (u : Undo) (a : List ℕ) → log ≡ before ++ u ∷ [] → before ≡ [] → u ≡ undo.Uncredit a 0 → LeadsSomewhere log nothing
one_entry log before u a noted none is =
    subst (λ (l : List Undo). LeadsSomewhere l nothing) (sym (noted ∙ (λ i. none i ++ is i ∷ []))) (_, _, one_leads a)
