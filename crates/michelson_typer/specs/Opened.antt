-- What the bodies of an instruction begin on, by a table of types.
use Rattle.std.specs.Prelude.{ℕ, Bool, true, false, IsTrue, List, [], ◌∷◌, map, Option, None, Some}
use Rattle.std.specs.List.{list_all}
use Rattle.value_core.specs.declared.ty.Ty.{Ty}
use Rattle.michelson_code.specs.declared.instr.Instr.{Instr}
use Rattle.michelson_code.specs.declared.instr.Instr.TheOpen as one
use Rattle.michelson_code.specs.declared.instr.Instr.TheOpen.{Instr-F}
use Rattle.michelson_code.specs.declared.instr.Instr.TheViews.{out-Instr}
use Rattle.michelson_code.specs.Typing.{Outcome, Runs, Start}
use Rattle.michelson_typer.specs.declared.opening.Bodies.{Bodies}
use Rattle.michelson_typer.specs.declared.opening.Bodies.TheVariants as bodies
use Rattle.michelson_typer.specs.declared.opening.Starts.{Starts}
use Rattle.michelson_typer.specs.declared.opening.Starts.TheVariants as starts
use Rattle.michelson_typer.specs.Tables.{are_in, types_at}

-- the bodies, from the left
abbrev pub body_list : Bodies → List (List Instr)
body_list bodies.None = []
body_list (bodies.One c) = c.now ∷ []
body_list (bodies.Two c d) = c.now ∷ d.now ∷ []

-- how many items are set aside, and the numbers of the stack's types, for each body from the left
abbrev pub starts_of : Starts → List (ℕ × List ℕ)
starts_of starts.None = []
starts_of (starts.One s) = (s.aside, s.stack.items) ∷ []
starts_of (starts.Two s t) = (s.aside, s.stack.items) ∷ (t.aside, t.stack.items) ∷ []

-- starts, by the types of their numbers
abbrev pub starts_at : List Ty → List (ℕ × List ℕ) → List Start
starts_at table begun = map (λ s. (s.0, types_at table s.1)) begun

-- each number has a type
abbrev pub are_starts_in : List Ty → List (ℕ × List ℕ) → Bool
are_starts_in table begun = list_all (λ s. are_in table s.1) begun

-- an instruction that has bodies, or fails
abbrev pub has_bodies : {A : Type 0} → Instr-F A → Bool
has_bodies (one.Dip c) = true
has_bodies (one.DipN n c) = true
has_bodies (one.If c d) = true
has_bodies (one.IfNone c d) = true
has_bodies (one.IfLeft c d) = true
has_bodies (one.IfCons c d) = true
has_bodies (one.Loop c) = true
has_bodies (one.LoopLeft c) = true
has_bodies (one.Iter c) = true
has_bodies (one.Map c) = true
has_bodies one.Failwith = true
has_bodies _ = false

-- an instruction that sets items aside
abbrev pub dips : {A : Type 0} → Instr-F A → Bool
dips (one.Dip c) = true
dips (one.DipN n c) = true
dips _ = false

-- an instruction that goes over the items of its top
abbrev pub goes_over : {A : Type 0} → Instr-F A → Bool
goes_over (one.Iter c) = true
goes_over (one.Map c) = true
goes_over _ = false

-- an instruction begins its bodies so
pub record BeginsOn (i : Instr) (before : List Ty) (begun : List Start) : Type 0 where
  pub ends : List Outcome
  pub outcome : Outcome
  pub line : Runs (out-Instr i) before begun ends outcome

-- the starts, by a table that grew, are those of the instruction; or it doesn't begin
abbrev pub Opens : List Ty → List Ty → Instr → List ℕ → Option (List (ℕ × List ℕ)) → Type 0
Opens old new i stack None = (begun : List Start) → BeginsOn i (types_at old stack) begun → ⊥
Opens old new i stack (Some begun) = BeginsOn i (types_at old stack) (starts_at new begun) × IsTrue (are_starts_in new begun)
