-- One turn of each loop over nodes.
use Rattle.std.proofs.Common.{◌≡◌, ℕ, ◌+◌, ◌<◌, true, List, [], ◌∷◌, ◌++◌, length, map, drop, get_or, Option, Some, Ok, Err, refl, sym, ap, ◌∙◌, append_assoc}
use Rattle.std.proofs.lemmas.List.{drop_more}
use Rattle.value_core.specs.declared.ty.Ty.{Ty}
use Rattle.value_core.specs.declared.val.Val.{Val}
use Rattle.micheline_text.specs.declared.node.Node.{Node}
use Rattle.value_core.specs.Lasts.{is_above, last_item, last_key}
use Rattle.value_core.proofs.LastLemmas.{last_item-more, last_key-more}
use Rattle.data_nodes.specs.Readers.{Read, Reader, ascending, entries, then_read}
use Rattle.data_nodes.specs.Faults.{reader, storage_read}

-- ---- what was read before what is read

abbrev pub behind : {A : Type 0} → List A → Read (List A) → Read (List A)
behind front r = then_read r (λ xs. Ok (front ++ xs))

behind-more : {A : Type 0} (front : List A) (x : A) (r : Read (List A)) → behind front (then_read r (λ xs. Ok (x ∷ xs))) ≡ behind (front ++ x ∷ []) r
behind-more front x (Ok xs) = ap (λ (l : List _). Ok l) (sym (append_assoc front (x ∷ []) xs))
behind-more front x (Err e) = refl

-- the readers that are left at a node
next : (nodes : List Node) (i : ℕ) (n : Node) → i < length nodes → get_or nodes i n ≡ n → map reader (drop i nodes) ≡ reader n ∷ map reader (drop (i + 1) nodes)
next nodes i n lt is = ap (map reader) (drop_more nodes i n lt) ∙ ap (λ (m : Node). reader m ∷ map reader (drop (i + 1) nodes)) is

-- ---- sets

above_next : (t : Ty) (front : List Val) (nodes : List Node) (i : ℕ) (n : Node) (total : Read (List Val)) → i < length nodes → get_or nodes i n ≡ n →
    behind front (ascending t (last_item front) (map reader (drop i nodes))) ≡ total →
    behind front (ascending t (last_item front) (reader n ∷ map reader (drop (i + 1) nodes))) ≡ total
above_next t front nodes i n total lt is so_far = sym (ap (λ (l : List Reader). behind front (ascending t (last_item front) l)) (next nodes i n lt is)) ∙ so_far

pub one_above : (t : Ty) (front : List Val) (nodes : List Node) (i : ℕ) (n : Node) (v : Val) (total : Read (List Val)) → i < length nodes → get_or nodes i n ≡ n → storage_read t n ≡ Ok v →
    is_above (last_item front) v ≡ true → behind front (ascending t (last_item front) (map reader (drop i nodes))) ≡ total →
    behind (front ++ v ∷ []) (ascending t (last_item (front ++ v ∷ [])) (map reader (drop (i + 1) nodes))) ≡ total
one_above t front nodes i n v total lt is read above so_far =
    let rest = ascending t (Some v) (map reader (drop (i + 1) nodes)) in
    let now : behind front (ascending t (last_item front) (reader n ∷ map reader (drop (i + 1) nodes))) ≡ behind front (then_read rest (λ vs. Ok (v ∷ vs))) = rw (read, above) refl in
    ap (λ (last : Option Val). behind (front ++ v ∷ []) (ascending t last (map reader (drop (i + 1) nodes)))) (last_item-more front v)
    ∙ sym (behind-more front v rest) ∙ sym now ∙ above_next t front nodes i n total lt is so_far

-- ---- maps

entry_next : (k v : Ty) (front : List (Val × Val)) (nodes : List Node) (i : ℕ) (n : Node) (total : Read (List (Val × Val))) → i < length nodes → get_or nodes i n ≡ n →
    behind front (entries k v (last_key front) (map reader (drop i nodes))) ≡ total →
    behind front (entries k v (last_key front) (reader n ∷ map reader (drop (i + 1) nodes))) ≡ total
entry_next k v front nodes i n total lt is so_far = sym (ap (λ (l : List Reader). behind front (entries k v (last_key front) l)) (next nodes i n lt is)) ∙ so_far

pub one_entry : (k v : Ty) (front : List (Val × Val)) (nodes : List Node) (i : ℕ) (n : Node) (e : Val × Val) (total : Read (List (Val × Val))) → i < length nodes → get_or nodes i n ≡ n →
    (reader n).entry (last_key front) k v ≡ Ok e → behind front (entries k v (last_key front) (map reader (drop i nodes))) ≡ total →
    behind (front ++ e ∷ []) (entries k v (last_key (front ++ e ∷ [])) (map reader (drop (i + 1) nodes))) ≡ total
one_entry k v front nodes i n e total lt is read so_far =
    let rest = entries k v (Some e.0) (map reader (drop (i + 1) nodes)) in
    let now : behind front (entries k v (last_key front) (reader n ∷ map reader (drop (i + 1) nodes))) ≡ behind front (then_read rest (λ es. Ok (e ∷ es))) = rw read refl in
    ap (λ (last : Option Val). behind (front ++ e ∷ []) (entries k v last (map reader (drop (i + 1) nodes)))) (last_key-more front e)
    ∙ sym (behind-more front e rest) ∙ sym now ∙ entry_next k v front nodes i n total lt is so_far
