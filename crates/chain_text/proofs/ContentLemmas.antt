-- The script that a text spells, and the storage that it says: by what it is a text of.
use Rattle.std.proofs.Common.{◌≡◌, ◌≢◌, ℕ, ◌<◌, ◌≤◌, Bool, true, false, List, [], ◌∷◌, length, get_or, Option, Some, None, Result, Ok, Err, ◌⊎◌, inl, inr, refl, sym, ap, subst, ◌∙◌, arith}
use Rattle.std.specs.Prelude.{◌↔◌, IfOk, if◌then◌else◌}
use Rattle.value_core.specs.declared.ty.Ty.{Ty}
use Rattle.value_core.specs.declared.val.Val.{Val}
use Rattle.value_core.specs.BigMaps.{big_maps_of}
use Rattle.micheline_text.specs.declared.fault.TextFault.{TextFault}
use Rattle.micheline_text.specs.declared.fault.TextFault.TheVariants.{NoMemory as no_text_memory}
use Rattle.micheline_text.specs.declared.node.Node.{Node}
use Rattle.micheline_text.specs.Faults.{IsFaultOf}
use Rattle.micheline_text.specs.Text.{IsTextOf}
use Rattle.micheline_text.proofs.Answered as texts
use Rattle.michelson_code.specs.declared.script.Script.{Script}
use Rattle.michelson_reader.specs.declared.fault.ReadFault.{ReadFault}
use Rattle.michelson_reader.specs.declared.fault.ReadFault.TheVariants.{NoMemory as no_read_memory}
use Rattle.michelson_reader.specs.Answers.{IsReadFault}
use Rattle.michelson_reader.specs.Script.{IsScriptOf}
use Rattle.data_nodes.specs.declared.fault.DataFault.{DataFault}
use Rattle.data_nodes.specs.declared.fault.DataRefusal.{DataRefusal}
use Rattle.data_nodes.specs.Faults.{storage_read}
use Rattle.data_nodes.specs.Parts.{parted}
use Rattle.data_nodes.specs.Readers.{Read, then_read}
use Rattle.data_nodes.specs.Storage.{IsStorage, Kept, with_maps}
use Rattle.data_nodes.proofs.StorageLaws.{storage_found, storage_is_read}
use Rattle.ledger_state.specs.Scripts.{may_run, read_script_of}
use Rattle.ledger_state.proofs.ScriptTexts.{read_is_script, run_is_typed, script_is_read, typed_again}
use Rattle.chain_text.specs.Scripts.{IsSaid, IsSpelt, ScriptsAreSpelt, StoragesAreSaid, if_it_may_run, kept_of_one, kept_of_text, kept_or_none, script_of, storage_of}

-- ---- scripts

-- what is told of the script that a text is read as is told of the text
pub told_of_script : {X E : Type 0} (view : X → Option Script) (r : Result X E) (text : List ℕ) (s : Script) → IsScriptOf text s → IfOk r (λ x. view x ≡ if_it_may_run (Some s)) → IfOk r (λ x. view x ≡ script_of text)
told_of_script view (Ok x) text s is e = e ∙ sym (ap if_it_may_run (script_is_read text s is))
told_of_script view (Err f) text s is e = tt

-- what is no script is none that may run
no_script : (text : List ℕ) → ((s : Script) → IsScriptOf text s → ⊥) → script_of text ≡ None
no_script text none = ap if_it_may_run (unread (read_script_of text) refl)
  where
    unread : (read : Option Script) → read_script_of text ≡ read → read_script_of text ≡ None
    unread None is = is
    unread (Some s) is = absurd (none s (read_is_script text s is))

-- a text with a fault is no script
pub faulty_script : (text : List ℕ) (f : ReadFault) (full : Bool) → ((s : Script) (g : ReadFault) → IsScriptOf text s → IsReadFault text g → g ≢ no_read_memory → ⊥) →
    IsReadFault text f → ((full ≡ true) ↔ (f ≡ no_read_memory)) → full ≡ false → None ≡ script_of text
faulty_script text f full never_both fault tells other =
    sym (no_script text (λ s is. never_both s f is fault (λ memory. let no : true ≡ false = sym (tells.1 memory) ∙ other in cc)))

runs : (s t : Script) (b : Bool) → may_run s ≡ b → (if b then Some s else None) ≡ Some t → (may_run s ≡ true) × (s ≡ t)
runs s t true is e = (is, cc)
runs s t false is e = absurd cc

spelt_by : (text : List ℕ) (read : Option Script) (t : Script) → read_script_of text ≡ read → if_it_may_run read ≡ Some t → IsSpelt text t
spelt_by text None t is e = absurd cc
spelt_by text (Some s) t is e =
    let r = runs s t (may_run s) refl e in
    let own : IsSpelt text s = record { read = read_is_script text s is; typed = ∣ run_is_typed s r.0 ∣₁ } in
    subst (IsSpelt text) r.1 own

pub spelt_is_read : (text : List ℕ) (s : Script) → IsSpelt text s → script_of text ≡ Some s
spelt_is_read text s is =
    ap if_it_may_run (script_is_read text s is.read) ∙ ap (λ (b : Bool). if b then Some s else None) (typed_again s is.typed)

pub scripts_are_spelt : ScriptsAreSpelt
scripts_are_spelt text s = (spelt_by text (read_script_of text) s refl, spelt_is_read text s)

-- ---- storages

of_nodes : (t : Ty) (text : List ℕ) (ns : List Node) (answer : ((ms : List Node) × IsTextOf text ms) ⊎ ((f : TextFault) × IsFaultOf text f)) → IsTextOf text ns → kept_of_text t answer ≡ kept_of_one t ns
of_nodes t text ns (inl (ms, is)) spelt = ap (kept_of_one t) (texts.one_text text ms ns is spelt)
of_nodes t text ns (inr (f, fault)) spelt = absurd (texts.never_both text ns f spelt fault)

-- the storage of a text is that of its one node
pub nodes_said : (t : Ty) (text : List ℕ) (ns : List Node) → IsTextOf text ns → storage_of t text ≡ kept_of_one t ns
unfolding storage_of
nodes_said t text ns spelt = of_nodes t text ns (texts.either text) spelt

of_fault : (t : Ty) (text : List ℕ) (f : TextFault) (answer : ((ms : List Node) × IsTextOf text ms) ⊎ ((g : TextFault) × IsFaultOf text g)) → IsFaultOf text f → kept_of_text t answer ≡ None
of_fault t text f (inl (ms, is)) fault = absurd (texts.never_both text ms f is fault)
of_fault t text f (inr g) fault = refl

no_storage : (t : Ty) (text : List ℕ) (f : TextFault) → IsFaultOf text f → storage_of t text ≡ None
unfolding storage_of
no_storage t text f fault = of_fault t text f (texts.either text) fault

-- what is told of the nodes of a text is told of the text
pub told_of_nodes : {X E : Type 0} (view : X → Option Kept) (r : Result X E) (t : Ty) (text : List ℕ) (ns ms : List Node) → IsTextOf text ns → ms ≡ ns → IfOk r (λ x. view x ≡ kept_of_one t ms) → IfOk r (λ x. view x ≡ storage_of t text)
told_of_nodes view (Ok x) t text ns ms spelt same e = e ∙ ap (kept_of_one t) same ∙ sym (nodes_said t text ns spelt)
told_of_nodes view (Err f) t text ns ms spelt same e = tt

-- a text with a fault says no storage
pub faulty_storage : (t : Ty) (text : List ℕ) (f : TextFault) (full : Bool) → (f ≡ no_text_memory) ⊎ IsFaultOf text f → ((full ≡ true) ↔ (f ≡ no_text_memory)) → full ≡ false → None ≡ storage_of t text
faulty_storage t text f full (inl memory) tells other = absurd (let no : true ≡ false = sym (tells.1 memory) ∙ other in cc)
faulty_storage t text f full (inr fault) tells other = sym (no_storage t text f fault)

-- ---- the storage that a node is

pub kept_is : (t : Ty) (n : Node) (kept : Kept) → IsStorage t n kept → Some kept ≡ kept_of_one t (n ∷ [])
kept_is t n kept is = sym (of_read (storage_read (with_maps t) n) (storage_is_read t n kept is))
  where
    of_read : (r : Read Val) → then_read r (λ v. Ok (parted t v)) ≡ Ok kept → kept_or_none t r ≡ Some kept
    of_read (Ok v) e = let same : parted t v ≡ kept = cc in ap (λ (k : Kept). Some k) same
    of_read (Err f) e = absurd cc

pub kept_is_none : (t : Ty) (n : Node) (f : DataFault) → storage_read (with_maps t) n ≡ Err f → None ≡ kept_of_one t (n ∷ [])
kept_is_none t n f e = sym (ap (kept_or_none t) e)

-- a list of fewer than two that begins with the node
pub only_one : (ns : List Node) (n : Node) → 1 ≤ length ns → length ns < 2 → get_or ns 0 n ≡ n → ns ≡ n ∷ []
only_one [] n some few is = absurd (omega arith)
only_one (m ∷ []) n some few is = ap (λ (k : Node). k ∷ []) is
only_one (m ∷ k ∷ ns) n some few is = absurd (omega arith)

-- ---- the law

kept_from : (t : Ty) (r : Read Val) (kept : Kept) → kept_or_none t r ≡ Some kept → then_read r (λ v. Ok (parted t v)) ≡ Ok kept
kept_from t (Ok v) kept e = let same : parted t v ≡ kept = cc in ap (λ (k : Kept). Ok k) same
kept_from t (Err f) kept e = absurd cc

storage_from : (t : Ty) (n : Node) (kept : Kept) → length (big_maps_of t) ≤ 16 → kept_or_none t (storage_read (with_maps t) n) ≡ Some kept → IsStorage t n kept
storage_from t n kept few e =
    let answer : Result Kept DataRefusal = Ok kept in
    storage_found (λ k. k) t n answer few (kept_from t (storage_read (with_maps t) n) kept e)

one_said : (t : Ty) (text : List ℕ) (ns : List Node) (kept : Kept) → length (big_maps_of t) ≤ 16 → IsTextOf text ns → kept_of_one t ns ≡ Some kept → IsSaid t text kept
one_said t text [] kept few spelt e = absurd cc
one_said t text (n ∷ []) kept few spelt e = record { node = n; spelt = spelt; storage = storage_from t n kept few e }
one_said t text (n ∷ m ∷ ns) kept few spelt e = absurd cc

said_by : (t : Ty) (text : List ℕ) (kept : Kept) (answer : ((ms : List Node) × IsTextOf text ms) ⊎ ((f : TextFault) × IsFaultOf text f)) → length (big_maps_of t) ≤ 16 → kept_of_text t answer ≡ Some kept → IsSaid t text kept
said_by t text kept (inl (ns, is)) few e = one_said t text ns kept few is e
said_by t text kept (inr fault) few e = absurd cc

storage_said : (t : Ty) (text : List ℕ) (kept : Kept) → length (big_maps_of t) ≤ 16 → storage_of t text ≡ Some kept → IsSaid t text kept
unfolding storage_of
storage_said t text kept few e = said_by t text kept (texts.either text) few e

pub said_is_read : (t : Ty) (text : List ℕ) (kept : Kept) → IsSaid t text kept → storage_of t text ≡ Some kept
said_is_read t text kept is = nodes_said t text (is.node ∷ []) is.spelt ∙ sym (kept_is t is.node kept is.storage)

pub storages_are_said : StoragesAreSaid
storages_are_said t text kept few = (storage_said t text kept few, said_is_read t text kept)
