-- What stands, as it is seen: when a row, a contract or an address is put beside the others.
use Rattle.std.proofs.Common.{◌≡◌, ℕ, ◌+◌, ◌<◌, ◌^◌, true, false, List, [], ◌∷◌, ◌++◌, None, sym, ap, subst, ◌∙◌}
use Rattle.std.specs.FinMap.{contains_key, empty, get, insert}
use Rattle.std.specs.FinSet as set
use Rattle.value_core.specs.declared.val.Val.{Val}
use Rattle.michelson_code.specs.declared.script.Script.{Script}
use Rattle.cell_names.specs.declared.cell.Cell.{Cell}
use Rattle.cell_names.specs.declared.cell.Cell.TheVariants.{Balance, Storage, Entry}
use Rattle.cell_names.specs.Contents.{Contents}
use Rattle.cell_names.specs.Supply.{money_of, supply}
use Rattle.code_book.specs.Books.{Contracts}
use Rattle.code_book.specs.Fits.{fits}
use Rattle.chain_text.specs.Standing.{Addresses, Standing}
use Rattle.chain_text.specs.Rows.{AreRows, IsSeen, Row, gathered}
use Rattle.chain_text.proofs.EntryLemmas.{not_there}
use Rattle.chain_text.proofs.RowLemmas.{balance_seen, contract_more, gathered_then, row_more, storage_seen}

module _ (book : Contracts) (lines : List (List ℕ × ℕ)) (balanced stored : Addresses) (rows : List Row) where
  -- what stands, by what is kept of it
  abbrev pub view_of : Standing
  view_of = record { book = book; lines = lines; balanced = balanced; stored = stored; cells = gathered empty rows }

module _ (s : Standing) (book : Contracts) (lines : List (List ℕ × ℕ)) (balanced stored : Addresses) (rows : List Row) (amount : ℕ) (is : view_of book lines balanced stored rows ≡ s) (are : AreRows book rows (gathered empty rows) balanced stored amount) where
  pub row_kept : (c : Cell) (v : Val) (n more : ℕ) (rows' : List Row) → rows' ≡ rows ++ (c, v) ∷ [] → more ≡ amount + n → fits s.book c v ≡ true → get s.cells c ≡ None → IsSeen s.balanced s.stored c → n ≡ money_of (c, v) → (0 < n → supply s.cells + n < 2 ^ 63) →
      AreRows book rows' (gathered empty rows') balanced stored more
  row_kept c v n more rows' grown total fit none seen money few =
      let kept : AreRows book (rows ++ (c, v) ∷ []) (gathered empty (rows ++ (c, v) ∷ [])) balanced stored more =
      subst (λ (t : Standing). fits t.book c v ≡ true → get t.cells c ≡ None → IsSeen t.balanced t.stored c → n ≡ money_of (c, v) → (0 < n → supply t.cells + n < 2 ^ 63) →
      AreRows book (rows ++ (c, v) ∷ []) (gathered empty (rows ++ (c, v) ∷ [])) balanced stored more) is
      (λ f g h m l. row_more book rows balanced stored amount c v n more are f g h m l total) fit none seen money few in
      subst (λ (x : List Row). AreRows book x (gathered empty x) balanced stored more) (sym grown) kept

  pub row_seen : (c : Cell) (v : Val) (rows' : List Row) → rows' ≡ rows ++ (c, v) ∷ [] → view_of book lines balanced stored rows' ≡ record s { cells = insert s.cells c v }
  row_seen c v rows' grown =
      let cells : gathered empty rows' ≡ insert (gathered empty rows) c v = ap (gathered empty) grown ∙ gathered_then empty rows ((c, v) ∷ []) in
      ap (λ (m : Contents). record (view_of book lines balanced stored rows) { cells = m }) cells ∙ ap (λ (t : Standing). record t { cells = insert t.cells c v }) is

  pub contract_kept : (a : List ℕ) (script : Script) (book' : Contracts) → book' ≡ insert book a script → get s.book a ≡ None → AreRows book' rows (gathered empty rows) balanced stored amount
  contract_kept a script book' grown none =
      subst (λ (b : Contracts). AreRows b rows (gathered empty rows) balanced stored amount) (sym grown)
      (contract_more book a script (ap (λ (t : Standing). get t.book a) is ∙ none) rows (gathered empty rows) balanced stored amount are)

  pub contract_seen : (a : List ℕ) (at : ℕ) (script : Script) (book' : Contracts) (lines' : List (List ℕ × ℕ)) → book' ≡ insert book a script → lines' ≡ lines ++ (a, at) ∷ [] →
      view_of book' lines' balanced stored rows ≡ record s { book = insert s.book a script; lines = s.lines ++ (a, at) ∷ [] }
  contract_seen a at script book' lines' grown longer =
      (λ i. view_of (grown i) (longer i) balanced stored rows) ∙ ap (λ (t : Standing). record t { book = insert t.book a script; lines = t.lines ++ (a, at) ∷ [] }) is

  pub balance_kept : (a : List ℕ) (balanced' : Addresses) → balanced' ≡ set.insert balanced a → AreRows book rows (gathered empty rows) balanced' stored amount
  balance_kept a balanced' more =
      subst (λ (b : Addresses). AreRows book rows (gathered empty rows) b stored amount) (sym more) (balance_seen book rows (gathered empty rows) balanced stored amount a are)

  pub balance_marked : (a : List ℕ) (balanced' : Addresses) → balanced' ≡ set.insert balanced a → view_of book lines balanced' stored rows ≡ record s { balanced = set.insert s.balanced a }
  balance_marked a balanced' more = ap (λ (b : Addresses). view_of book lines b stored rows) more ∙ ap (λ (t : Standing). record t { balanced = set.insert t.balanced a }) is

  pub storage_kept : (a : List ℕ) (stored' : Addresses) → stored' ≡ set.insert stored a → AreRows book rows (gathered empty rows) balanced stored' amount
  storage_kept a stored' more =
      subst (λ (b : Addresses). AreRows book rows (gathered empty rows) balanced b amount) (sym more) (storage_seen book rows (gathered empty rows) balanced stored amount a are)

  pub storage_marked : (a : List ℕ) (stored' : Addresses) → stored' ≡ set.insert stored a → view_of book lines balanced stored' rows ≡ record s { stored = set.insert s.stored a }
  storage_marked a stored' more = ap (λ (b : Addresses). view_of book lines balanced b rows) more ∙ ap (λ (t : Standing). record t { stored = set.insert t.stored a }) is

  -- ---- what is counted and seen beside the rows

  pub supply_is : supply s.cells ≡ amount
  supply_is = ap (λ (t : Standing). supply t.cells) (sym is) ∙ are.money

  pub no_balance : (a : List ℕ) → set.contains s.balanced a ≡ false → get s.cells (Balance a) ≡ None
  no_balance a unseen = not_there s.cells (Balance a) (subst (λ (t : Standing). set.contains t.balanced a ≡ false → contains_key t.cells (Balance a) ≡ false) is (are.balances a) unseen)

  pub no_storage : (a : List ℕ) → set.contains s.stored a ≡ false → get s.cells (Storage a) ≡ None
  no_storage a unseen = not_there s.cells (Storage a) (subst (λ (t : Standing). set.contains t.stored a ≡ false → contains_key t.cells (Storage a) ≡ false) is (are.storages a) unseen)

  pub no_entry : (a : List ℕ) → set.contains s.stored a ≡ false → (place : ℕ) (key : Val) → contains_key s.cells (Entry a place key) ≡ false
  no_entry a unseen place key = subst (λ (t : Standing). set.contains t.stored a ≡ false → contains_key t.cells (Entry a place key) ≡ false) is (are.entries a place key) unseen
