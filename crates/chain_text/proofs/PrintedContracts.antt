-- Contracts that are printed one after another, each with the entries of its big maps.
use Rattle.std.proofs.Common.{◌≡◌, ℕ, ◌+◌, ◌≤◌, true, List, ◌++◌, length, Option, Some, None, ap, ◌∙◌, append_assoc}
use Rattle.std.specs.declared.cmp.Ordering.TheVariants.{Less}
use Rattle.std.specs.Cmp.Lexicographic.{nat_list_cmp_total}
use Rattle.std.specs.FinMap.{entries, get, is_sorted}
use Rattle.std.specs.List.{flat_map}
use Rattle.michelson_code.specs.declared.script.Script.{Script}
use Rattle.data_nodes.specs.Storage.{Entry as MapEntry}
use Rattle.cell_names.specs.declared.cell.Cell.TheVariants.{Storage}
use Rattle.cell_names.specs.CellOrder.{cell_cmp-total}
use Rattle.cell_names.specs.Cells.{cell_cmp}
use Rattle.cell_names.specs.Contents.{Contents}
use Rattle.code_book.specs.Books.{Contracts}
use Rattle.code_book.specs.Successors.{IsAbove, IsNext}
use Rattle.ledger_state.proofs.Entries.{sorted}
use Rattle.ledger_state.proofs.Turns.{all_left, fewer_left, next_left, one_written, rest_of}
use Rattle.chain_text.specs.Printed.{contract_text, entries_of, head_text, storage_text}
use Rattle.chain_text.specs.Rows.{Row}
use Rattle.chain_text.proofs.EntriesLeft.{among}
use Rattle.chain_text.proofs.RowLemmas.{by_bytes}

-- what is printed, how much is left, and the entries of the contracts that are left
pub record ArePrinted (cells : Contents) (book : Contracts) (last : Option (List ℕ)) (left : List Row) (count at : ℕ) (out whole : List ℕ) : Type 0 where
  pub few : length (rest_of book last) + at ≤ count
  pub written : out ++ flat_map (contract_text cells) (rest_of book last) ≡ whole
  pub sorted : is_sorted cell_cmp left ≡ true
  pub entries : (a : List ℕ) → IsAbove last a → among a left ≡ entries_of cells a

pub none_printed : (cells : Contents) (book : Contracts) (left : List Row) (count : ℕ) (out : List ℕ) → left ≡ entries cells → length (rest_of book None) + 0 ≤ count →
    ArePrinted cells book None left count 0 out (out ++ flat_map (contract_text cells) (entries book))
none_printed cells book left count out is few = record {
  few = few;
  written = ap (λ (es : List (List ℕ × Script)). out ++ flat_map (contract_text cells) es) (all_left book);
  sorted = ap (is_sorted cell_cmp) is ∙ sorted cell_cmp-total cells;
  entries = λ a above. ap (among a) is;
}

above_both : (last : Option (List ℕ)) (a b : List ℕ) → IsAbove last a → by_bytes a b ≡ Less → IsAbove last b
above_both None a b above less = tt
above_both (Some l) a b above less = nat_list_cmp_total.trans l a b above less

contract_printed : (out o1 o2 head storage : List ℕ) → o1 ≡ out ++ head → o2 ≡ o1 ++ storage → o2 ≡ out ++ (head ++ storage)
contract_printed out o1 o2 head storage first then = then ∙ ap (λ (l : List ℕ). l ++ storage) first ∙ append_assoc out head storage

pub one_printed : (cells : Contents) (book : Contracts) (last : Option (List ℕ)) (left left' : List Row) (count at : ℕ) (out o1 o2 whole : List ℕ) (a : List ℕ) (s : Script) (es : List MapEntry) →
    ArePrinted cells book last left count at out whole → IsNext book last a s → o1 ≡ out ++ head_text cells (a, s) → es ≡ among a left → o2 ≡ o1 ++ storage_text a es (get cells (Storage a)) →
    is_sorted cell_cmp left' ≡ true → ((b : List ℕ) → by_bytes a b ≡ Less → among b left' ≡ among b left) → ArePrinted cells book (Some a) left' count (at + 1) o2 whole
one_printed cells book last left left' count at out o1 o2 whole a s es are next head found storage up others =
    let own : es ≡ entries_of cells a = found ∙ are.entries a next.above in
    let text : o2 ≡ out ++ contract_text cells (a, s) =
    contract_printed out o1 o2 (head_text cells (a, s)) (storage_text a (entries_of cells a) (get cells (Storage a))) head
    (storage ∙ ap (λ (x : List MapEntry). o1 ++ storage_text a x (get cells (Storage a))) own) in
    record {
      few = fewer_left book last a s count at next are.few;
      written = one_written (contract_text cells) out o2 whole (a, s) (rest_of book last) (rest_of book (Some a)) (next_left book last a s next) text are.written;
      sorted = up;
      entries = λ b less. others b less ∙ are.entries b (above_both last a b next.above less);
    }
