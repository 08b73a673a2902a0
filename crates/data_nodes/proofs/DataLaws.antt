-- A value is read exactly where a node is data: the value is the one that is said.
use Rattle.std.proofs.Common.{◌≡◌, ◌≤◌, Bool, Ok, Err, Result, refl, sym, ap, subst, ◌∙◌}
use Rattle.std.specs.Prelude.{IfOk, IfErr, ◌↔◌, if◌then◌else◌, nat_le}
use Rattle.std.proofs.lemmas.Bool.{and_from, and_parts, le-leb, leb-true}
use Rattle.value_core.specs.declared.ty.Ty.{Ty}
use Rattle.value_core.specs.declared.ty.Ty.TheViews.{out-Ty}
use Rattle.value_core.specs.declared.val.Val.{Val}
use Rattle.value_core.specs.declared.val.Val.TheViews.{out-Val, roll-Val}
use Rattle.value_core.specs.Layer.{Layer, on_parts, parts_of}
use Rattle.value_core.specs.Size.{size_of}
use Rattle.value_core.specs.Sound.{is_sound, is_sound_level}
use Rattle.value_core.specs.Typed.{fits, fits_level}
use Rattle.value_core.proofs.Levels.{Each, by_level-roll, induction, out-roll, roll-out}
use Rattle.value_core.proofs.Everywhere.{everywhere-is, everywhere-roll}
pub use Rattle.value_core.proofs.TypeEquations.{fits-is}
use Rattle.micheline_text.specs.declared.node.Node.{Node}
use Rattle.micheline_text.specs.declared.node.Body.TheViews.{out-Body}
use Rattle.data_nodes.specs.declared.fault.DataRefusal.{DataRefusal}
use Rattle.data_nodes.specs.Nodes.{Test}
use Rattle.data_nodes.specs.Data.{IsData, is_written, written_level}
use Rattle.data_nodes.specs.Readers.{Reader}
use Rattle.data_nodes.specs.Faults.{data_read, storage_read, value_at}
use Rattle.micheline_text.specs.Told.{AnswersUnlessFull, IsTold}
use Rattle.data_nodes.specs.Told.{node_fault}
use Rattle.data_nodes.proofs.NodeLevels.{reader-level, readers}
use Rattle.data_nodes.proofs.ItemLaws.{Agree, Said, if_ok, then_ok}
use Rattle.data_nodes.proofs.LevelsWritten.{read_level}
use Rattle.data_nodes.proofs.LevelsRead.{Row, row}
use Rattle.data_nodes.proofs.WrittenNodes.{written-is}

-- ---- a level and its value

pub fits-roll : (x : Layer Val) (t : Ty) → fits (roll-Val x) t ≡ fits_level (on_parts fits x) (out-Ty t)
fits-roll x t = ap (λ (f : Ty → Bool). f t) (by_level-roll {A = Ty → Bool} (λ x t. fits_level x (out-Ty t)) x)

written-roll : (x : Layer Val) (n : Node) → is_written (roll-Val x) n ≡ written_level (on_parts is_written x) n
written-roll x n = ap (λ (f : Test). f n) (by_level-roll {A = Test} written_level x)

said_of_row : (t : Ty) (n : Node) (v : Val) → Row n (out-Ty t) v → Said t n v
said_of_row t n v r = record {
  sound = ap is_sound (sym r.is) ∙ everywhere-roll is_sound_level r.level ∙ and_from _ _ r.good r.parts;
  fit = ap (λ (w : Val). fits w t) (sym r.is) ∙ fits-roll r.level t ∙ r.fit;
  written = ap (λ (w : Val). is_written w n) (sym r.is) ∙ written-roll r.level n ∙ r.written;
}

parts_at : (v : Val) (x : Layer Val) → Each Agree (parts_of (out-Val v)) → roll-Val x ≡ v → Each Agree (parts_of x)
parts_at v x h is = subst (λ (l : Layer Val). Each Agree (parts_of l)) (ap out-Val (sym is) ∙ out-roll x) h

here : (t : Ty) (n : Node) → storage_read t n ≡ value_at n.at (readers (out-Body n.body)) t
here t n = ap (λ (r : Reader). r.value t) (reader-level n)

said_read : (t : Ty) (n : Node) (v : Val) → Each Agree (parts_of (out-Val v)) → Said t n v → storage_read t n ≡ Ok v
said_read t n v h s =
    let good = sym (everywhere-is is_sound_level v) ∙ s.sound in
    here t n ∙ read_level t n (out-Val v) (out-Ty t) refl h (and_parts (is_sound_level (out-Val v)) _ good).0 (and_parts (is_sound_level (out-Val v)) _ good).1
    (sym (fits-is v t) ∙ s.fit) (sym (ap (λ (f : Test). f n) (written-is v)) ∙ s.written) ∙ ap (λ (w : Val). Ok w) (roll-out v)

agree : (v : Val) → Agree v
agree = induction Agree (λ v h t n. record {
  said = λ r. said_of_row t n v (row n v (λ x is. parts_at v x h is) t (out-Body n.body) refl (sym (here t n) ∙ r));
  read = λ s. said_read t n v h s;
})

-- ---- the two laws

-- what is read is data of the type
pub read_is_data : (t : Ty) (n : Node) (v : Val) → storage_read t n ≡ Ok v → IsData t n v
read_is_data t n v r =
    let s = (agree v t n).said r in
    (and_from (is_sound v) _ s.sound s.fit, s.written)

-- data of the type is read
pub data_is_read : (t : Ty) (n : Node) (v : Val) → IsData t n v → storage_read t n ≡ Ok v
data_is_read t n v d =
    let value = and_parts (is_sound v) _ d.0 in
    (agree v t n).read (record { sound = value.0; fit = value.1; written = d.1 })

-- ---- data that isn't too large

read_small : (t : Ty) (n : Node) (v : Val) → data_read t n ≡ Ok v → (storage_read t n ≡ Ok v) × (size_of v ≤ 4096)
read_small t n v r =
    let one = then_ok (storage_read t n) (λ w. if nat_le (size_of w) 4096 then Ok w else Err _) v r in
    let both = if_ok (nat_le (size_of one.0) 4096) (Ok one.0) _ v one.2 in
    let same : one.0 ≡ v = cc in
    let small : size_of one.0 ≤ 4096 = leb-true (size_of one.0) 4096 both.0 in
    (one.1 ∙ ap (λ (w : Val). Ok w) same, subst (λ (w : Val). size_of w ≤ 4096) same small)

small_read : (t : Ty) (n : Node) (v : Val) → IsData t n v → size_of v ≤ 4096 → data_read t n ≡ Ok v
small_read t n v d small = rw (data_is_read t n v d, le-leb (size_of v) 4096 small) refl

-- data is what is read, up to 4,096 leaves
pub data-read : (n : Node) (t : Ty) (v : Val) → (data_read t n ≡ Ok v) ↔ (IsData t n v × (size_of v ≤ 4096))
data-read n t v = (
  λ r. let small = read_small t n v r in (read_is_data t n v small.0, small.1),
  λ d. small_read t n v d.0 d.1,
)

-- ---- what a call answered

pub data_found : (t : Ty) (n : Node) (r : Result Val DataRefusal) → AnswersUnlessFull node_fault (λ v. v) r (data_read t n) → IfOk r (λ v. IsData t n v × (size_of v ≤ 4096))
data_found t n (Ok v) a = (data-read n t v).0 a
data_found t n (Err e) a = tt

pub data_only : (t : Ty) (n : Node) (r : Result Val DataRefusal) → AnswersUnlessFull node_fault (λ v. v) r (data_read t n) → (v : Val) → IsData t n v → size_of v ≤ 4096 → AnswersUnlessFull node_fault (λ v. v) r (Ok v)
data_only t n r a v d small = subst (AnswersUnlessFull node_fault (λ v. v) r) (small_read t n v d small) a

pub data_fault : (t : Ty) (n : Node) (r : Result Val DataRefusal) → AnswersUnlessFull node_fault (λ v. v) r (data_read t n) → IfErr r (λ e. IsTold (node_fault e) (data_read t n))
data_fault t n (Ok v) a = tt
data_fault t n (Err e) a = a
