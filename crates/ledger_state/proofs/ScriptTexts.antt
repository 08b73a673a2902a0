-- The script that a text is: it may run, and the text is its printed one.
use Rattle.std.proofs.Common.{◌≡◌, ◌≢◌, ℕ, ◌<◌, ◌^◌, Bool, true, false, List, length, Option, Some, None, Result, Ok, Err, ◌⊎◌, inl, inr, refl, sym, ap, subst, ◌∙◌}
use Rattle.std.specs.Prelude.{◌&&◌, ◌↔◌, bytes_eq, if◌then◌else◌, IfOk, OnOk}
use Rattle.std.specs.List.{list_all}
use Rattle.std.proofs.Math.Bool.{Bool-set}
use Rattle.std.proofs.Math.Bridge.{le_prop}
use Rattle.std.proofs.Math.Logic.{∥∥₁_elim}
use Rattle.std.proofs.lemmas.Slice.Eq.{bytes_eq-Decides}
use Rattle.value_core.proofs.Bools.{both_true, first_true, second_true}
use Rattle.micheline_text.specs.declared.fault.TextFault.{TextFault}
use Rattle.micheline_text.specs.declared.node.Node.{Node}
use Rattle.micheline_text.specs.Faults.{IsFaultOf}
use Rattle.micheline_text.specs.Text.{IsTextOf}
use Rattle.micheline_text.proofs.Answered as texts
use Rattle.michelson_code.specs.declared.script.Script.{Script}
use Rattle.michelson_code.specs.declared.type_fault.TypeKind.{TypeKind}
use Rattle.michelson_code.specs.FirstFault.{ScriptFault}
use Rattle.michelson_code.specs.TypedScript.{IsTypedScript}
use Rattle.michelson_code.specs.Printable.{IsPrintableScript, are_entries_of, is_fit}
use Rattle.michelson_code.specs.declared.typed.Typed.{Typed}
use Rattle.michelson_code.proofs.DecidedScript.{script_answer}
use Rattle.michelson_code.proofs.PrintLaws.{typed_prints}
use Rattle.michelson_code.proofs.ScriptLaws.{script_none}
use Rattle.michelson_reader.specs.declared.fault.ReadFault.{ReadFault}
use Rattle.michelson_reader.specs.declared.fault.ReadFault.TheVariants.{NoMemory as no_memory}
use Rattle.michelson_reader.specs.Answers.{IsReadFault}
use Rattle.michelson_reader.specs.Printed.{script_text}
use Rattle.michelson_reader.specs.Script.{AreSections, IsScriptOf, unbraced}
use Rattle.michelson_reader.specs.ScriptFaults.{script_read}
use Rattle.michelson_reader.specs.TypeFaults.{Read}
use Rattle.michelson_reader.proofs.ReadLaws.{script-read}
use Rattle.code_book.specs.Books.{text_length}
use Rattle.ledger_state.specs.Scripts.{IsPrinted, is_first, may_run, script_or_none, script_in, read_script_of, printed_as, script_of}

-- ---- whether a script may run

from_first : {A B : Type 0} (answer : A ⊎ B) → is_first answer ≡ true → A
from_first (inl a) is = a
from_first (inr b) is = absurd cc

never_second : {A B : Type 0} (answer : A ⊎ B) → (B → ⊥) → is_first answer ≡ true
never_second (inl a) none = refl
never_second (inr b) none = absurd (none b)

never_first : {A B : Type 0} (answer : A ⊎ B) → (A → ⊥) → is_first answer ≡ false
never_first (inl a) none = absurd (none a)
never_first (inr b) none = refl

pub run_is_typed : (s : Script) → may_run s ≡ true → IsTypedScript s
unfolding may_run
run_is_typed s is = from_first (script_answer s) is

pub typed_runs : (s : Script) → IsTypedScript s → may_run s ≡ true
unfolding may_run
typed_runs s typed = never_second (script_answer s) (λ (path, (k, fault)). script_none s path k typed fault)

pub faulty_never_runs : (s : Script) (path : List ℕ) (k : TypeKind) → ScriptFault s path k → may_run s ≡ false
unfolding may_run
faulty_never_runs s path k fault = never_first (script_answer s) (λ typed. script_none s path k typed fault)

-- ---- the script that is read

read_ok : (r : Read Script) (s : Script) → script_or_none r ≡ Some s → r ≡ Ok s
read_ok (Ok t) s e = let same : t ≡ s = cc in ap (λ (x : Script). let r : Read Script = Ok x in r) same
read_ok (Err fault) s e = absurd cc

in_text : (text : List ℕ) (s : Script) (answer : ((ns : List Node) × IsTextOf text ns) ⊎ ((f : TextFault) × IsFaultOf text f)) → script_in (length text) answer ≡ Some s → IsScriptOf text s
in_text text s (inl (ns, is)) e = (ns, is, (script-read (length text) ns s).0 (read_ok (script_read (length text) ns) s e))
in_text text s (inr fault) e = absurd cc

text_in : (text : List ℕ) (s : Script) (answer : ((ns : List Node) × IsTextOf text ns) ⊎ ((f : TextFault) × IsFaultOf text f)) → IsScriptOf text s → script_in (length text) answer ≡ Some s
text_in text s (inl (ns, is)) (ms, spelt, are) =
    let same : ms ≡ ns = texts.one_text text ms ns spelt is in
    ap script_or_none ((script-read (length text) ns s).1 (subst (λ (ks : List Node). AreSections (unbraced ks) s) same are))
text_in text s (inr (f, fault)) (ms, spelt, are) = absurd (texts.never_both text ms f spelt fault)

pub read_is_script : (text : List ℕ) (s : Script) → read_script_of text ≡ Some s → IsScriptOf text s
unfolding read_script_of
read_is_script text s e = in_text text s (texts.either text) e

pub script_is_read : (text : List ℕ) (s : Script) → IsScriptOf text s → read_script_of text ≡ Some s
unfolding read_script_of
script_is_read text s is = text_in text s (texts.either text) is

-- ---- the script that a text is

-- the script may run, the text is its printed one, and is a text of it
pub record IsWrittenAs (text : List ℕ) (s : Script) : Type 0 where
  pub runs : may_run s ≡ true
  pub printed : script_text s ≡ text
  pub read : IsScriptOf text s

passed : (b : Bool) (t s : Script) → (if b then Some t else None) ≡ Some s → (b ≡ true) × (t ≡ s)
passed true t s e = (refl, cc)
passed false t s e = absurd cc

of_read : (text : List ℕ) (read : Option Script) (s : Script) → read_script_of text ≡ read → printed_as text read ≡ Some s → IsWrittenAs text s
of_read text None s is e = absurd cc
of_read text (Some t) s is e =
    let p = passed (bytes_eq (script_text t) text && may_run t) t s e in
    let same : IsWrittenAs text t = record {
      runs = second_true (bytes_eq (script_text t) text) _ p.0;
      printed = (bytes_eq-Decides (script_text t) text).0 (first_true (bytes_eq (script_text t) text) (may_run t) p.0);
      read = read_is_script text t is;
    } in
    subst (IsWrittenAs text) p.1 same

pub script_is_written : (text : List ℕ) (s : Script) → script_of text ≡ Some s → IsWrittenAs text s
unfolding script_of
script_is_written text s e = of_read text (read_script_of text) s refl e

pub written_is_script : (text : List ℕ) (s : Script) → IsWrittenAs text s → script_of text ≡ Some s
unfolding script_of
written_is_script text s w =
    let passes : (bytes_eq (script_text s) text && may_run s) ≡ true = both_true (bytes_eq (script_text s) text) _ ((bytes_eq-Decides (script_text s) text).1 w.printed) w.runs in
    ap (printed_as text) (script_is_read text s w.read) ∙ ap (λ b. if b then Some s else None) passes

-- what is no script is none that may run
pub no_script : (text : List ℕ) → ((s : Script) → IsScriptOf text s → ⊥) → script_of text ≡ None
unfolding script_of
no_script text none = ap (printed_as text) (unread (read_script_of text) refl)
  where
    unread : (read : Option Script) → read_script_of text ≡ read → read_script_of text ≡ None
    unread None is = is
    unread (Some s) is = absurd (none s (read_is_script text s is))

-- what is told of the script that was read is told of the text
pub of_script : (text : List ℕ) (s : Script) (answer : Option Script) → IsScriptOf text s → answer ≡ printed_as text (Some s) → answer ≡ script_of text
unfolding script_of
of_script text s answer is e = e ∙ sym (ap (printed_as text) (script_is_read text s is))

-- ---- as a fact of the text

pub typed_again : (s : Script) → ∥ IsTypedScript s ∥₁ → may_run s ≡ true
typed_again s typed = ∥∥₁_elim typed (Bool-set (may_run s) true) (typed_runs s)

pub script_is_printed : (text : List ℕ) (s : Script) → script_of text ≡ Some s → IsPrinted text s
script_is_printed text s e = let w = script_is_written text s e in record { typed = ∣ run_is_typed s w.runs ∣₁; printed = w.printed; read = w.read }

pub printed_is_script : (text : List ℕ) (s : Script) → IsPrinted text s → script_of text ≡ Some s
printed_is_script text s p = written_is_script text s (record { runs = typed_again s p.typed; printed = p.printed; read = p.read })

-- ---- what a call tells

-- what is told of the script that a text is read as is told of the text
pub told_of_script : {X E : Type 0} (view : X → Option Script) (r : Result X E) (text : List ℕ) (s : Script) → IsScriptOf text s → IfOk r (λ x. view x ≡ printed_as text (Some s)) → IfOk r (λ x. view x ≡ script_of text)
told_of_script view (Ok x) text s is e = of_script text s (view x) is e
told_of_script view (Err f) text s is e = tt

-- a text with a fault is no script
pub faulty_text : (text : List ℕ) (f : ReadFault) (full : Bool) → ((s : Script) (g : ReadFault) → IsScriptOf text s → IsReadFault text g → g ≢ no_memory → ⊥) →
    IsReadFault text f → ((full ≡ true) ↔ (f ≡ no_memory)) → full ≡ false → None ≡ script_of text
faulty_text text f full never_both fault tells other =
    sym (no_script text (λ s is. never_both s f is fault (λ memory. let no : true ≡ false = sym (tells.1 memory) ∙ other in cc)))

-- the answer of a check
pub run_told : (t : Typed) (s : Script) → t.script ≡ s → Some t.script ≡ (if may_run s then Some s else None)
run_told t s is =
    let runs : may_run s ≡ true = ap may_run (sym is) ∙ typed_again t.script t.typed in
    ap (λ (x : Script). Some x) is ∙ sym (ap (λ b. if b then Some s else None) runs)

pub fault_told : (s : Script) (path : List ℕ) (k : TypeKind) → ScriptFault s path k → None ≡ (if may_run s then Some s else None)
fault_told s path k fault = sym (ap (λ b. if b then Some s else None) (faulty_never_runs s path k fault))

-- ---- a typed script that is printed

pub printable : (s : Script) → ∥ IsTypedScript s ∥₁ → IsPrintableScript s
printable s typed = record {
  names = ∥∥₁_elim typed (Bool-set (are_entries_of s.param s.names) true) (λ t. (typed_prints s t).names);
  instructions = ∥∥₁_elim typed (Bool-set (list_all is_fit s.code) true) (λ t. (typed_prints s t).instructions);
  depth = ∥∥₁_elim typed le_prop (λ t. (typed_prints s t).depth);
}

-- its printed text is a text of it
pub printed_again : (s t : Script) (text : List ℕ) → t ≡ s → text ≡ script_text t → ∥ IsTypedScript t ∥₁ → (IsPrintableScript t → IsScriptOf text t) → IsScriptOf (script_text s) s
printed_again s t text is printed typed again =
    subst (λ (x : Script). IsScriptOf (script_text x) x) is (subst (λ (b : List ℕ). IsScriptOf b t) printed (again (printable t typed)))

pub short_text : (s t : Script) (text : List ℕ) → text_length s < 2 ^ 32 → t ≡ s → text ≡ script_text t → length text < 2 ^ 32
unfolding text_length
short_text s t text short is printed = subst (λ n. n < 2 ^ 32) (sym (ap length printed ∙ ap (λ (x : Script). length (script_text x)) is)) short

-- what holds holds where a call succeeds
pub on_ok : {A E : Type 0} (P : Type 0) (r : Result A E) → P → OnOk r P
on_ok P (Ok a) p = p
on_ok P (Err e) p = tt
