-- What a line of a balance or of a storage says, by its words from the left.
use Rattle.std.proofs.Common.{◌≡◌, ℕ, zero, suc, ◌+◌, ◌-◌, ◌<◌, ◌≤◌, ◌^◌, Bool, true, false, cond, List, length, Some, None, Ok, refl, sym, ap, subst, ◌∙◌, arith}
use Rattle.std.specs.Prelude.{◌&&◌, nat_lt}
use Rattle.std.specs.FinMap.{get, insert, remove}
use Rattle.std.specs.FinSet as set
use Rattle.std.proofs.Math.Bridge.{le_prop}
use Rattle.std.proofs.Math.Logic.{∥∥₁_elim}
use Rattle.std.proofs.lemmas.Bool.{leb-true, lt-ltb}
use Rattle.value_core.specs.declared.val.Val.TheVariants.{Mutez}
use Rattle.value_core.specs.BigMaps.{big_maps_of}
use Rattle.value_core.proofs.Bools.{second_true}
use Rattle.data_nodes.specs.Storage.{IsKept, Kept}
use Rattle.michelson_code.specs.declared.script.Script.{Script}
use Rattle.michelson_code.specs.TypedScript.{IsTypedScript}
use Rattle.michelson_code.specs.WrittenTypes.{has_passable_values, has_placed_big_maps}
use Rattle.cell_names.specs.declared.cell.Cell.{Cell}
use Rattle.cell_names.specs.declared.cell.Cell.TheVariants.{Balance}
use Rattle.cell_names.specs.Contents.{Contents, with_balance}
use Rattle.cell_names.specs.Supply.{supply}
use Rattle.cell_names.proofs.Puts.{get-put, is_one, one_from, same_contents}
use Rattle.code_book.specs.Books.{has_account}
use Rattle.chain_text.specs.Fields.{address, end, number}
use Rattle.chain_text.specs.Genesis.{balance_line}
use Rattle.chain_text.specs.Standing.{Standing, with_amount}
use Rattle.chain_text.specs.Scripts.{storage_of}
use Rattle.chain_text.proofs.ContentLemmas.{storages_are_said}

-- ---- a balance

pub balance_said : (s : Standing) (words behind last a : List ℕ) (n : ℕ) → address words ≡ Ok (a, behind) → set.contains s.balanced a ≡ false → has_account s.book a ≡ true → number (2 ^ 63 - 1) behind ≡ Ok (n, last) →
    supply s.cells + n < 2 ^ 63 → end last ≡ Ok tt → balance_line s words ≡ Ok (with_amount s a n)
balance_said s words behind last a n first new known amount few over =
    let within : nat_lt (supply s.cells + n) (2 ^ 63) ≡ true = lt-ltb (supply s.cells + n) (2 ^ 63) few in
    rw (first, new, known, amount, within, over) refl

pub amount_put : (s marked next : Standing) (a : List ℕ) (n : ℕ) → 0 < n → marked ≡ record s { balanced = set.insert s.balanced a } → next ≡ record marked { cells = insert marked.cells (Balance a) (Mutez n) } → with_amount s a n ≡ next
unfolding with_balance
amount_put s marked next a zero some is put = absurd (omega arith)
amount_put s marked next a (suc n) some is put = sym (put ∙ ap (λ (t : Standing). record t { cells = insert t.cells (Balance a) (Mutez (suc n)) }) is)

gone_already : (m : Contents) (c : Cell) → get m c ≡ None → remove m c ≡ m
gone_already m c none = same_contents (remove m c) m (λ q. get-put m c None q ∙ at q (is_one q c) refl)
  where
    at : (q : Cell) (b : Bool) → is_one q c ≡ b → cond b None (get m q) ≡ get m q
    at q true same = sym (ap (get m) (one_from q c same) ∙ none)
    at q false other = refl

pub amount_none : (s marked : Standing) (a : List ℕ) (n : ℕ) → n ≡ 0 → get s.cells (Balance a) ≡ None → marked ≡ record s { balanced = set.insert s.balanced a } → with_amount s a n ≡ marked
unfolding with_balance
amount_none s marked a n nothing none is =
    ap (with_amount s a) nothing ∙ ap (λ (m : Contents). record s { balanced = set.insert s.balanced a; cells = m }) (gone_already s.cells (Balance a) none) ∙ sym is

-- ---- a storage

pub few_maps : (s : Script) → ∥ IsTypedScript s ∥₁ → length (big_maps_of s.storage) ≤ 16
few_maps s typed = ∥∥₁_elim typed le_prop (λ t. leb-true (length (big_maps_of s.storage)) 16 (second_true (has_placed_big_maps s.storage && has_passable_values s.storage) _ t.big_maps))

pub kept_of_line : (s t : Script) (text : List ℕ) (kept : Kept) → t ≡ s → ∥ IsTypedScript t ∥₁ → Some kept ≡ storage_of t.storage text → IsKept s.storage kept
kept_of_line s t text kept same typed e =
    subst (λ (x : Script). IsKept x.storage kept) same ((storages_are_said t.storage text kept (few_maps t typed)).0 (sym e)).storage.is
