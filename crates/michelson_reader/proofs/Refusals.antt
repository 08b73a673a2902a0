-- What is told of words, whatever should have been read.
use Rattle.std.proofs.Common.{◌≡◌, ℕ, Bool, true, false, List, [], ◌∷◌, ◌++◌, Option, None, Some, Ok, Err, refl, ap, ◌∙◌}
use Rattle.std.specs.Prelude.{◌||◌, if◌then◌else◌, is_some, nat_le}
use Rattle.std.specs.Str.{bytes_eq}
use Rattle.michelson_reader.specs.declared.fault.ReadFault.{ReadFault}
use Rattle.michelson_reader.specs.declared.fault.ReadFault.TheVariants as fault
use Rattle.data_nodes.specs.declared.fault.DataFault.{DataFault}
use Rattle.data_nodes.specs.Faults.{data_read}
use Rattle.value_core.specs.declared.ty.Ty.{Ty}
use Rattle.value_core.specs.declared.val.Val.{Val}
use Rattle.micheline_text.specs.declared.node.Node.{Node}
use Rattle.michelson_reader.specs.CodeFaults.{data_fault, left_out_in, pushed, told}
use Rattle.michelson_reader.specs.Names.{Words, is_in, is_known, is_left_out, named}
use Rattle.micheline_text.specs.Told.{IsTold}
use Rattle.michelson_reader.specs.Answers.{read_fault}
use Rattle.michelson_reader.specs.TypeFaults.{Read, no_form}
use Rattle.michelson_reader.proofs.ReadTurns.{refused_as}

-- the fault of what was refused
abbrev refusal : Read (Unit {0}) → ReadFault
refusal (Ok x) = fault.NoMemory
refusal (Err e) = e

module _ (A : Type 0) where
  at_word : (known out : Bool) (x y z e : ReadFault) → IsTold {Y = Unit {0}} (read_fault e) (if known then Err x else if out then Err y else Err z) →
      IsTold {Y = A} (read_fault e) (if known then Err x else if out then Err y else Err z)
  at_word known out x y z fault.NoMemory is = tt
  at_word true out x y z e is = ap (λ (r : Read (Unit {0})). Err (refusal r)) is
  at_word false true x y z e is = ap (λ (r : Read (Unit {0})). Err (refusal r)) is
  at_word false false x y z e is = ap (λ (r : Read (Unit {0})). Err (refusal r)) is

  pub no_form-refuses : (at : ℕ) (name : List ℕ) (e : ReadFault) → IsTold {Y = Unit {0}} (read_fault e) (no_form at name) → IsTold {Y = A} (read_fault e) (no_form at name)
  no_form-refuses at name e h = at_word (is_known name) (is_left_out name) (fault.Arity at) (fault.LeftOut at name) (fault.UnknownPrim at) e h

  in_data : (first : Bool) (x y e : ReadFault) → IsTold {Y = Unit {0}} (read_fault e) (if first then Err x else Err y) → IsTold {Y = A} (read_fault e) (if first then Err x else Err y)
  in_data first x y fault.NoMemory is = tt
  in_data true x y e is = ap (λ (r : Read (Unit {0})). Err (refusal r)) is
  in_data false x y e is = ap (λ (r : Read (Unit {0})). Err (refusal r)) is

  pub data_fault-refuses : (f : DataFault) (found : Option (ℕ × List ℕ)) (e : ReadFault) → IsTold {Y = Unit {0}} (read_fault e) (data_fault f found) → IsTold {Y = A} (read_fault e) (data_fault f found)
  data_fault-refuses f None fault.NoMemory is = tt
  data_fault-refuses f None e is = ap (λ (r : Read (Unit {0})). Err (refusal r)) is
  data_fault-refuses f (Some found) e h = in_data (nat_le found.0 f.at) (fault.LeftOut found.0 found.1) (fault.Data f) e h

-- what is told of data is told where it is pushed
pub data_refused : (t : Ty) (n : Node) (f : DataFault) (e : ReadFault) → data_read t n ≡ Err f → IsTold {Y = Unit {0}} (read_fault e) (data_fault f (left_out_in n)) → IsTold (read_fault e) (pushed t n)
data_refused t n f e is h = refused_as (pushed t n) (data_fault f (left_out_in n)) e (ap (told n) is) (data_fault-refuses Val f (left_out_in n) e h)

pub data_pushed : (t : Ty) (n : Node) (v : Val) → data_read t n ≡ Ok v → pushed t n ≡ Ok v
data_pushed t n v is = ap (told n) is

-- ---- words that are found

module _ {A : Type 0} where
  one_row : (b : Bool) (x : A) (o : Option A) → is_some (if b then Some x else o) ≡ (b || is_some o)
  one_row true x o = refl
  one_row false x o = refl

  -- a word is in a table where the table has something for it
  pub is_in-named : (name : List ℕ) (words : Words A) → is_some (named name words) ≡ is_in name words
  is_in-named name [] = refl
  is_in-named name (w ∷ words) = one_row (bytes_eq name w.0) w.1 (named name words) ∙ ap (λ (b : Bool). bytes_eq name w.0 || b) (is_in-named name words)

  abbrev or_next : Option A → Option A → Option A
  or_next None other = other
  or_next (Some x) other = Some x

  next_row : (b : Bool) (x : A) (o other : Option A) → (if b then Some x else or_next o other) ≡ or_next (if b then Some x else o) other
  next_row true x o other = refl
  next_row false x o other = refl

  -- in the first table, or else in the second
  pub named-append : (name : List ℕ) (words more : Words A) → named name (words ++ more) ≡ or_next (named name words) (named name more)
  named-append name [] more = refl
  named-append name (w ∷ words) more =
      ap (λ (o : Option A). if bytes_eq name w.0 then Some w.1 else o) (named-append name words more) ∙ next_row (bytes_eq name w.0) w.1 (named name words) (named name more)
