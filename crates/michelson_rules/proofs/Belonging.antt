-- Values that belong to types, as one typing that goes by levels.
use Rattle.std.proofs.Common.{◌≡◌, List}
use Rattle.value_core.specs.declared.ty.Ty.{Ty}
use Rattle.value_core.specs.declared.ty.Ty.TheOpen.{Ty-F}
use Rattle.value_core.specs.declared.ty.Ty.TheViews.{out-Ty}
use Rattle.value_core.specs.declared.val.Val.{Val}
use Rattle.value_core.specs.declared.val.Val.TheViews.{out-Val, roll-Val}
use Rattle.value_core.specs.Layer.{Layer}
use Rattle.michelson_code.specs.declared.why.Why.{Why}
use Rattle.michelson_code.specs.declared.why.Why.TheVariants as why
use Rattle.michelson_code.specs.Typing.{To}
use Rattle.michelson_rules.specs.Answers.{Answered, Gives, Ends, Misses}
use Rattle.michelson_rules.specs.Rules.{answered}
use Rattle.michelson_rules.specs.Runs.{Beside, Changes}
use Rattle.michelson_rules.specs.TypedLevels.{AllHave, EntriesHave, Fits}
use Rattle.michelson_rules.specs.TypedRuns.{EndsSo, Follows, IsCodeCause, Leaves}
use Rattle.michelson_rules.specs.TypedStacks.{IsAnswered, IsDataCause}
use Rattle.michelson_rules.specs.TypedValues.{Belongs}
use Rattle.michelson_rules.proofs.Alls.{all_weaker}
use Rattle.michelson_rules.proofs.BelongByLevels.{BigMapBelongs, belongs_by_levels}
use Rattle.michelson_rules.proofs.Following.{belongs_later}
use Rattle.michelson_rules.proofs.TypedAnswers.{Typing, built, shown}

module _ (maps : List (Ty × Ty)) (versions : List Changes) where
  abbrev pub typing : Typing
  typing = record { Has = Belongs maps versions; HasMap = BigMapBelongs maps versions; levels = belongs_by_levels maps versions; typed = λ v t has. has.typed }

  -- a level of a value and of a type
  abbrev pub FitsHere : Layer Val → Ty-F Ty → Type 0
  FitsHere = Fits (Belongs maps versions) (BigMapBelongs maps versions)

  -- each item belongs to the type
  abbrev pub ItemsBelong : Ty → List Val → Type 0
  ItemsBelong = AllHave (Belongs maps versions) (BigMapBelongs maps versions)

  -- the keys and the items belong to their types
  abbrev pub EntriesBelong : Ty → Ty → List (Val × Val) → Type 0
  EntriesBelong = EntriesHave (Belongs maps versions) (BigMapBelongs maps versions)

  pub level_of : (v : Val) (y : Ty-F Ty) (t : Ty) → out-Ty t ≡ y → Belongs maps versions v t → FitsHere (out-Val v) y
  level_of v y t shows has = shown typing v y t shows has

  pub of_level : (x : Layer Val) (v : Val) (y : Ty-F Ty) (t : Ty) → roll-Val x ≡ v → out-Ty t ≡ y → FitsHere x y → Belongs maps versions v t
  of_level x v y t rolls shows fit = built typing x v y t rolls shows fit

-- such a cause is one of a code
of_data : (y : Why) → IsDataCause y → IsCodeCause y
of_data why.Overflow is = tt
of_data why.Shift is = tt
of_data why.TooLarge is = tt
of_data y is = absurd is

module _ (maps : List (Ty × Ty)) where
  pub items_later : (a b : Beside) (t : Ty) (vs : List Val) → Follows a b → ItemsBelong maps a.versions t vs → ItemsBelong maps b.versions t vs
  items_later a b t vs next have = all_weaker (λ v. Belongs maps a.versions v t) (λ v. Belongs maps b.versions v t) (λ v has. belongs_later maps a b v t next has) vs have

  pub entries_later : (a b : Beside) (k t : Ty) (es : List (Val × Val)) → Follows a b → EntriesBelong maps a.versions k t es → EntriesBelong maps b.versions k t es
  entries_later a b k t es next have =
      all_weaker (λ e. Belongs maps a.versions e.0 k × Belongs maps a.versions e.1 t) (λ e. Belongs maps b.versions e.0 k × Belongs maps b.versions e.1 t)
      (λ e has. (belongs_later maps a b e.0 k next has.0, belongs_later maps a b e.1 t next has.1)) es have

  -- what instructions without bodies make of a stack
  pub answered_ends : (a b : Beside) (ts : List Ty) (made : Answered) → Follows a b → IsAnswered (Belongs maps b.versions) ts made → EndsSo (Leaves maps a (To ts)) (answered made b).ending
  answered_ends a b ts (Gives vs, below) next all = (next, all)
  answered_ends a b ts (Ends y, below) next all = of_data y all
  answered_ends a b ts (Misses, below) next all = absurd all
