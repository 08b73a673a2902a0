-- What an instruction makes of how its bodies end, by a table of types.
use Rattle.std.specs.Prelude.{◌≡◌, ℕ, ◌<◌, Bool, true, IsTrue, List, [], ◌∷◌, ◌++◌, length, map, Option, None, Some, Result, Ok, Err}
use Rattle.std.specs.List.{list_all}
use Rattle.value_core.specs.declared.ty.Ty.{Ty}
use Rattle.value_core.specs.declared.ty.Ty.TheVariants as type
use Rattle.michelson_code.specs.declared.instr.Instr.{Instr}
use Rattle.michelson_code.specs.declared.instr.Instr.TheViews.{out-Instr}
use Rattle.michelson_code.specs.declared.type_fault.TypeKind.{TypeKind}
use Rattle.michelson_code.specs.declared.type_fault.TypeKind.TheVariants as kind
use Rattle.michelson_code.specs.FirstFault.{FailsInside}
use Rattle.michelson_code.specs.declared.operands.Level.{Level}
use Rattle.michelson_code.specs.Typing.{Outcome, To, Fails, Runs, Start, level_type}
use Rattle.michelson_typer.specs.declared.closing.BodyEnds.{BodyEnds}
use Rattle.michelson_typer.specs.declared.closing.BodyEnds.TheVariants as ends
use Rattle.michelson_typer.specs.declared.stack.Ends.{Ends}
use Rattle.michelson_typer.specs.declared.stack.Ends.TheVariants as end
use Rattle.michelson_typer.specs.Tables.{are_in, parts_in, type_at, types_at}

-- the numbers of the types that code ends with, or none where it fails
abbrev pub end_of : Ends → Option (List ℕ)
end_of (end.To stack) = Some stack.items
end_of end.Fails = None

-- how each body ends, from the left
abbrev pub ends_of : BodyEnds → List (Option (List ℕ))
ends_of ends.None = []
ends_of (ends.One e) = end_of e ∷ []
ends_of (ends.Two e f) = end_of e ∷ end_of f ∷ []

-- an end, by the types of its numbers
abbrev pub end_at : List Ty → Option (List ℕ) → Outcome
end_at table None = Fails
end_at table (Some ids) = To (types_at table ids)

abbrev pub ends_at : List Ty → List (Option (List ℕ)) → List Outcome
ends_at table left = map (end_at table) left

-- each number has a type
abbrev pub is_end_in : List Ty → Option (List ℕ) → Bool
is_end_in table None = true
is_end_in table (Some ids) = are_in table ids

abbrev pub are_ends_in : List Ty → List (Option (List ℕ)) → Bool
are_ends_in table left = list_all (is_end_in table) left

-- an instruction makes this of a stack, where its bodies end so
pub record RunsTo (i : Instr) (before : List Ty) (left : List Outcome) (o : Outcome) : Type 0 where
  pub starts : List Start
  pub line : Runs (out-Instr i) before starts left o

-- the bodies may end so, but not as a line asks
pub record HasNoLine (i : Instr) (before : List Ty) (left : List Outcome) : Type 0 where
  pub may : FailsInside (out-Instr i) left → ⊥
  pub no_line : (o : Outcome) → RunsTo i before left o → ⊥

-- what the instruction makes of the stack, by a table that grew; or why its bodies may not end so
abbrev pub Closes : List Ty → List Ty → Instr → List ℕ → List (Option (List ℕ)) → Result (Option (List ℕ)) TypeKind → Type 0
Closes old new i stack left (Ok o) = RunsTo i (types_at old stack) (ends_at old left) (end_at new o) × IsTrue (is_end_in new o)
Closes old new i stack left (Err kind.FailNotLast) = FailsInside (out-Instr i) (ends_at old left)
Closes old new i stack left (Err kind.BranchesDiffer) = HasNoLine i (types_at old stack) (ends_at old left)
Closes old new i stack left (Err _) = ⊥

-- ---- each way in which bodies end

-- an answer, by the numbers of its types
abbrev pub closed : Result Ends TypeKind → Result (Option (List ℕ)) TypeKind
closed (Ok e) = Ok (end_of e)
closed (Err k) = Err k

-- two branches end alike, unless one fails
abbrev pub IsJoined : Option (List ℕ) → Option (List ℕ) → Result (Option (List ℕ)) TypeKind → Type 0
IsJoined None f (Ok o) = o ≡ f
IsJoined (Some a) None (Ok o) = o ≡ Some a
IsJoined (Some a) (Some b) (Ok o) = (a ≡ b) × (o ≡ Some a)
IsJoined (Some a) (Some b) (Err k) = (k ≡ kind.BranchesDiffer) × (a ≡ b → ⊥)
IsJoined _ _ (Err k) = ⊥

-- a body ends with these, unless it fails
abbrev pub EndsAs : List ℕ → Option (List ℕ) → Type 0
EndsAs wanted None = Unit {0}
EndsAs wanted (Some ids) = ids ≡ wanted

-- where it ends so, these are left
abbrev pub IsRound : List ℕ → List ℕ → Option (List ℕ) → Result (Option (List ℕ)) TypeKind → Type 0
IsRound wanted left e (Ok o) = EndsAs wanted e × (o ≡ Some left)
IsRound wanted left e (Err k) = (k ≡ kind.BranchesDiffer) × (EndsAs wanted e → ⊥)

-- the items that were set aside stand on top again
abbrev pub IsDipped : List ℕ → Option (List ℕ) → Result (Option (List ℕ)) TypeKind → Type 0
IsDipped items (Some ids) (Ok o) = o ≡ Some (items ++ ids)
IsDipped items None (Err k) = k ≡ kind.FailNotLast
IsDipped _ _ _ = ⊥

-- of each item of the top, a body makes one of this type
pub record Remakes (old new : List Ty) (top made whole : ℕ) : Type 0 where
  pub within : whole < length new
  pub of_list : (a : Ty) → type_at old top ≡ type.List a → type_at new whole ≡ type.List (type_at old made)
  pub of_map : (k v : Ty) → type_at old top ≡ type.Map k v → type_at new whole ≡ type.Map k (type_at old made)

-- the level of such a type
pub record RemakesLevel (table : List Ty) (top made : ℕ) (l : Level ℕ) : Type 0 where
  pub parts : IsTrue (are_in table (parts_in l))
  pub of_list : (a : Ty) → type_at table top ≡ type.List a → level_type (type_at table) l ≡ type.List (type_at table made)
  pub of_map : (k v : Ty) → type_at table top ≡ type.Map k v → level_type (type_at table) l ≡ type.Map k (type_at table made)

-- a body that leaves one item on what stands below
pub record LeavesOne (old new : List Ty) (stack left : List ℕ) (o : Option (List ℕ)) : Type 0 where
  pub top : ℕ
  pub made : ℕ
  pub whole : ℕ
  pub rest : List ℕ
  pub stack_is : stack ≡ top ∷ rest
  pub left_is : left ≡ made ∷ rest
  pub is : o ≡ Some (whole ∷ rest)
  pub remade : Remakes old new top made whole

-- the body of `MAP` leaves one item, by a table that grew
abbrev pub IsMapped : List Ty → List Ty → List ℕ → Option (List ℕ) → Result (Option (List ℕ)) TypeKind → Type 0
IsMapped old new stack (Some left) (Ok o) = LeavesOne old new stack left o
IsMapped old new stack (Some left) (Err k) =
    (k ≡ kind.BranchesDiffer) × ((made top : ℕ) (rest : List ℕ) → left ≡ made ∷ rest → stack ≡ top ∷ rest → ⊥)
IsMapped old new stack None (Err k) = k ≡ kind.FailNotLast
IsMapped old new stack None (Ok o) = ⊥
