-- From what the calls of the walk answer to what an instruction makes, or what is told of it.
use Rattle.std.proofs.Common.{◌≡◌, ℕ, List, [], Option, None, Some, refl, sym, subst}
use Rattle.std.specs.Prelude.{Result, Ok, Err, IsTrue, MatchOption}
use Rattle.value_core.specs.declared.ty.Ty.{Ty}
use Rattle.michelson_code.specs.declared.instr.Instr.{Instr}
use Rattle.michelson_code.specs.declared.instr.Instr.TheViews.{out-Instr}
use Rattle.michelson_code.specs.declared.script.Script.{Script}
use Rattle.michelson_code.specs.declared.type_fault.TypeKind.{TypeKind}
use Rattle.michelson_code.specs.FirstFault.{InstrFault}
use Rattle.michelson_code.specs.Typing.{Applies, InstrTyped, Outcome}
use Rattle.michelson_typer.specs.declared.fault.TypeRefusal.{TypeRefusal}
use Rattle.michelson_typer.specs.declared.fault.TypeRefusal.TheVariants.{Fault, NoMemory}
use Rattle.michelson_typer.specs.declared.stack.Ends.{Ends}
use Rattle.michelson_typer.specs.Tables.{are_in, types_at}
use Rattle.michelson_typer.specs.Told.{EndBreaks, EndsOrTold, IsEndKept, IsHere, KeptAs}

-- ---- without bodies

pub some_made : (s : Script) (i : Instr) (b new : List Ty) {V : Type 0} (items : V → List ℕ) (r : Option V) (v : V) → r ≡ Some v →
    MatchOption r ((after : List Ty) → Applies s (out-Instr i) b after → ⊥) (λ ids. IsTrue (are_in new (items ids)) × Applies s (out-Instr i) b (types_at new (items ids))) →
    IsTrue (are_in new (items v)) × Applies s (out-Instr i) b (types_at new (items v))
some_made s i b new items r v is made =
    subst (λ z. MatchOption z ((after : List Ty) → Applies s (out-Instr i) b after → ⊥) (λ ids. IsTrue (are_in new (items ids)) × Applies s (out-Instr i) b (types_at new (items ids)))) is made

pub none_made : {V : Type 0} (P : Type 0) (Q : V → Type 0) (r : Option V) → ((v : V) → r ≡ Some v → ⊥) → MatchOption r P Q → P
none_made P Q None other made = made
none_made P Q (Some v) other made = absurd (other v refl)

-- ---- limits

module _ (s : Script) (n : ℕ) (i : Instr) (b : List Ty) (table : List Ty) (o : Outcome) (typed : InstrTyped s n i b o)
    (limits : (k : TypeKind) → EndBreaks n o k → InstrFault s n i b [] k) where
  pub kept_or_told : (r : Result Ends TypeRefusal) → EndsOrTold table (KeptAs n o) (IsHere (EndBreaks n o)) r →
      EndsOrTold table (λ p. InstrTyped s n i b p × IsEndKept n p) (InstrFault s n i b) r
  kept_or_told (Ok e) h = (subst (λ (p : Outcome). InstrTyped s n i b p × IsEndKept n p) (sym h.0.0) (typed, h.0.1), h.1)
  kept_or_told (Err (Fault f)) h = subst (λ (path : List ℕ). InstrFault s n i b path f.kind) (sym h.0) (limits f.kind h.1)
  kept_or_told (Err NoMemory) h = tt
