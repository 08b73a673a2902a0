-- A storage is read exactly where a node is one.
use Rattle.std.proofs.Common.{◌≡◌, ◌≤◌, Ok, Err, Result, length, ap, sym, subst, ◌∙◌}
use Rattle.std.specs.Prelude.{IfOk, IfErr, IsTrue}
use Rattle.std.specs.List.{AllByRecursion}
use Rattle.value_core.specs.declared.ty.Ty.{Ty}
use Rattle.value_core.specs.declared.val.Val.{Val}
use Rattle.value_core.specs.BigMaps.{big_maps_of}
use Rattle.value_core.specs.Sound.{is_plain}
use Rattle.micheline_text.specs.declared.node.Node.{Node}
use Rattle.data_nodes.specs.declared.fault.DataRefusal.{DataRefusal}
use Rattle.data_nodes.specs.declared.fault.DataRefusal.TheVariants.{Fault, NoMemory}
use Rattle.micheline_text.specs.Told.{AnswersUnlessFull, IsTold}
use Rattle.data_nodes.specs.Told.{Tells, node_fault}
use Rattle.data_nodes.specs.Data.{IsData}
use Rattle.data_nodes.specs.Faults.{storage_read}
use Rattle.data_nodes.specs.FirstFault.{IsFirstFault}
use Rattle.data_nodes.specs.Parts.{parted}
use Rattle.data_nodes.specs.Readers.{Read, then_read}
use Rattle.data_nodes.specs.Storage.{IsStorage, Kept, with_entries, with_maps}
use Rattle.data_nodes.proofs.DataLaws.{data_is_read, read_is_data}
use Rattle.data_nodes.proofs.FirstFaults.{first_is_told}
use Rattle.data_nodes.proofs.ItemLaws.{then_ok}
use Rattle.data_nodes.proofs.KeptStorages.{parted_well}
use Rattle.data_nodes.proofs.PlainData.{plain-data}
use Rattle.data_nodes.proofs.StorageBack.{parted_again}

-- what is read of a storage's node
abbrev pub storage_parted : Ty → Node → Read Kept
storage_parted t n = then_read (storage_read (with_maps t) n) (λ v. Ok (parted t v))

fault_of : (t : Ty) (r : Read Val) (e : DataRefusal) → IsTold (node_fault e) (then_read r (λ v. Ok (parted t v))) → IsTold (node_fault e) r
fault_of t r NoMemory h = tt
fault_of t (Ok v) (Fault f) h = absurd cc
fault_of t (Err g) (Fault f) h = cc

abbrev ArePlain : Kept → Type 0
ArePlain kept = AllByRecursion (λ e. IsTrue (is_plain e.1) × IsTrue (is_plain e.2)) kept.1

module _ (t : Ty) (n : Node) (few : length (big_maps_of t) ≤ 16) where
  parted_is_storage : (v : Val) → IsData (with_maps t) n v → IsStorage t n (parted t v) × ArePlain (parted t v)
  parted_is_storage v data_of =
      let well = parted_well t v few data_of.0 (plain-data (with_maps t) n v data_of) in
      (record { is = well.kept; said = subst (IsData (with_maps t) n) (sym well.back) data_of }, well.plain)

  found : (kept : Kept) → storage_parted t n ≡ Ok kept → IsStorage t n kept × ArePlain kept
  found kept a =
      let one = then_ok (storage_read (with_maps t) n) (λ v. Ok (parted t v)) kept a in
      let is : parted t one.0 ≡ kept = cc in
      subst (λ (k : Kept). IsStorage t n k × ArePlain k) is (parted_is_storage one.0 (read_is_data (with_maps t) n one.0 one.1))

pub storage_is_read : (t : Ty) (n : Node) (kept : Kept) → IsStorage t n kept → storage_parted t n ≡ Ok kept
storage_is_read t n kept s =
    ap (λ (r : Read Val). then_read r (λ v. Ok (parted t v))) (data_is_read (with_maps t) n (with_entries kept.1 kept.0) s.said)
    ∙ ap (λ (k : Kept). Ok k) (parted_again t kept s.is)

module _ {A : Type 0} (view : A → Kept) (t : Ty) (n : Node) where
  pub storage_found : (r : Result A DataRefusal) → length (big_maps_of t) ≤ 16 → AnswersUnlessFull node_fault view r (storage_parted t n) → IfOk r (λ x. IsStorage t n (view x))
  storage_found (Ok x) few a = (found t n few (view x) a).0
  storage_found (Err e) few a = tt

  pub storage_plain : (r : Result A DataRefusal) → length (big_maps_of t) ≤ 16 → AnswersUnlessFull node_fault view r (storage_parted t n) → IfOk r (λ x. IsTrue (is_plain (view x).0))
  storage_plain (Ok x) few a = (found t n few (view x) a).0.is.plain
  storage_plain (Err e) few a = tt

  pub entries_plain : (r : Result A DataRefusal) → length (big_maps_of t) ≤ 16 → AnswersUnlessFull node_fault view r (storage_parted t n) → IfOk r (λ x. ArePlain (view x))
  entries_plain (Ok x) few a = (found t n few (view x) a).1
  entries_plain (Err e) few a = tt

  pub storage_only : (r : Result A DataRefusal) → AnswersUnlessFull node_fault view r (storage_parted t n) → (kept : Kept) → IsStorage t n kept → AnswersUnlessFull node_fault view r (Ok kept)
  storage_only r a kept s = subst (AnswersUnlessFull node_fault view r) (storage_is_read t n kept s) a

  pub storage_fault : (r : Result A DataRefusal) → AnswersUnlessFull node_fault view r (storage_parted t n) → IfErr r (Tells (IsFirstFault (with_maps t) n))
  storage_fault (Ok x) a = tt
  storage_fault (Err NoMemory) a = tt
  storage_fault (Err (Fault f)) a = first_is_told (with_maps t) n f (fault_of t (storage_read (with_maps t) n) (Fault f) a)
