-- The next contract, asked for above one that is lent: whether its storage is there.
use Rattle.std.proofs.Common.{◌≡◌, ℕ, ◌+◌, ◌≤◌, true, false, Bool, List, length, Option, Some, None, sym, subst, ◌∙◌}
use Rattle.std.specs.FinMap.{contains_key}
use Rattle.michelson_code.specs.declared.script.Script.{Script}
use Rattle.cell_names.specs.declared.cell.Cell.TheVariants.{Storage}
use Rattle.cell_names.specs.Contents.{Contents}
use Rattle.code_book.specs.Books.{Contracts}
use Rattle.code_book.specs.Successors.{IsNext, NoneAbove}
use Rattle.ledger_state.specs.Storages.{first_bare, least_bare}
use Rattle.ledger_state.proofs.Turns.{bare_here, bare_later, fewer_left, none_bare, nothing_left, rest_of}

module _ (book : Contracts) (cells : Contents) (given last : Option (List ℕ)) (same : given ≡ last) (so_far : first_bare cells (rest_of book last) ≡ least_bare book cells) where
  pub first_is : (a : List ℕ) (s : Script) (there : Bool) → IsNext book given a s → there ≡ contains_key cells (Storage a) → there ≡ false → Some a ≡ least_bare book cells
  first_is a s there next is none = bare_here book cells last a s (subst (λ (o : Option (List ℕ)). IsNext book o a s) same next) (sym is ∙ none) so_far

  pub first_is_later : (a : List ℕ) (s : Script) (there : Bool) → IsNext book given a s → there ≡ contains_key cells (Storage a) → there ≡ true → first_bare cells (rest_of book (Some a)) ≡ least_bare book cells
  first_is_later a s there next is held = bare_later book cells last a s (subst (λ (o : Option (List ℕ)). IsNext book o a s) same next) (sym is ∙ held) so_far

  pub none_is_first : NoneAbove book given → None ≡ least_bare book cells
  none_is_first none = none_bare book cells (rest_of book last) (nothing_left book last (subst (λ (o : Option (List ℕ)). NoneAbove book o) same none)) so_far

pub one_fewer : (book : Contracts) (given last : Option (List ℕ)) (a : List ℕ) (s : Script) (n i : ℕ) → given ≡ last → IsNext book given a s → length (rest_of book last) + i ≤ n → length (rest_of book (Some a)) + (i + 1) ≤ n
one_fewer book given last a s n i same next le = fewer_left book last a s n i (subst (λ (o : Option (List ℕ)). IsNext book o a s) same next) le
