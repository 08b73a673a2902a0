-- The first fault of a script that isn't typed, by typing alone: the place before which all is typed, and the first kind that holds there.
use Rattle.std.specs.Prelude.{◌≡◌, ℕ, ◌+◌, ◌<◌, suc, true, false, ◌&&◌, List, [], ◌∷◌, ◌++◌, length, ◌⊎◌, AllPairs}
use Rattle.std.specs.List.{list_all, AllByRecursion}
use Rattle.value_core.specs.declared.ty.Ty.{Ty}
use Rattle.value_core.specs.declared.ty.Ty.TheVariants as type
use Rattle.michelson_code.specs.declared.instr.Instr.{Instr}
use Rattle.michelson_code.specs.declared.instr.Instr.TheOpen as one
use Rattle.michelson_code.specs.declared.instr.Instr.TheOpen.{Instr-F}
use Rattle.michelson_code.specs.declared.instr.Instr.TheViews.{out-Instr}
use Rattle.michelson_code.specs.declared.operands.Line.{Line}
use Rattle.michelson_code.specs.declared.script.Script.{Script}
use Rattle.michelson_code.specs.declared.type_fault.TypeKind.{TypeKind}
use Rattle.michelson_code.specs.declared.type_fault.TypeKind.TheVariants as kind
use Rattle.michelson_code.specs.Brackets.{script_brackets}
use Rattle.michelson_code.specs.Forms.{bodies_of}
use Rattle.michelson_code.specs.Operands.{lines}
use Rattle.michelson_code.specs.Printable.{are_entries_of}
use Rattle.michelson_code.specs.TypedScript.{AreNamedApart, first_stack, last_stack}
use Rattle.michelson_code.specs.Typing.{Applies, BodiesTyped, CodeTyped, EndsWith, IsKept, IsOneOf, Outcome, To, Fails, Runs, Start, is_fit_alone, slot_list, whole_types}
use Rattle.michelson_code.specs.Weight.{code_count}
use Rattle.michelson_code.specs.WrittenTypes.{has_comparable_keys, has_passable_values, has_storage_big_maps, is_free_of_big_maps, is_kept, is_within_limits}

-- ---- what is wrong with one instruction

-- how many items an instruction takes that has no line of operands
abbrev pub items_taken : {A : Type 0} → Instr-F A → ℕ
items_taken (one.DropN n) = n
items_taken (one.DupN n) = n
items_taken (one.Dig n) = suc n
items_taken (one.Dug n) = suc n
items_taken (one.PairN n) = n
items_taken (one.DipN n c) = n
items_taken _ = 1

-- one string or bytes alone, where two may stand
abbrev pub IsLone : {A : Type 0} → Instr-F A → List Ty → Type 0
IsLone one.Concat before = (before ≡ type.Text ∷ []) ⊎ (before ≡ type.Bytes ∷ [])
IsLone x before = ⊥

-- the stack has fewer items than the instruction takes, whatever their types
pub data IsShort {A : Type 0} (x : Instr-F A) (before : List Ty) : Type 0 where
  -- each line has more operands
  for_each_line : (l : Line) → IsOneOf l (lines x) →
      AllByRecursion (λ m. length before < length (slot_list m.0)) (lines x) → IsShort x before
  -- one string or bytes is the beginning of a line
  lone : IsLone x before → IsShort x before
  -- the instruction has no line
  without_line : lines x ≡ [] → length before < items_taken x → IsShort x before

-- the operands fit no line
pub record FitsNoLine (s : Script) (i : Instr) (before : List Ty) : Type 0 where
  pub applies : (after : List Ty) → Applies s (out-Instr i) before after → ⊥
  pub runs : (starts : List Start) (ends : List Outcome) (o : Outcome) → Runs (out-Instr i) before starts ends o → ⊥

-- the bodies of an instruction are typed, and end so
pub record BodiesEnd (s : Script) (aside : ℕ) (i : Instr) (before : List Ty) (ends : List Outcome) : Type 0 where
  pub starts : List Start
  pub line_ends : List Outcome
  pub outcome : Outcome
  pub line : Runs (out-Instr i) before starts line_ends outcome
  pub bodies : BodiesTyped s aside (bodies_of i) starts ends

-- a body fails that may not
pub data FailsInside {A : Type 0} : Instr-F A → List Outcome → Type 0 where
  in_dip : (c : List A) → FailsInside (one.Dip c) (Fails ∷ [])
  in_dip_n : (n : ℕ) (c : List A) → FailsInside (one.DipN n c) (Fails ∷ [])
  in_map : (c : List A) → FailsInside (one.Map c) (Fails ∷ [])

-- the bodies end, each in a way that it may, but not as the line asks
pub record Differ (s : Script) (aside : ℕ) (i : Instr) (before : List Ty) : Type 0 where
  pub ends : List Outcome
  pub bodies : BodiesEnd s aside i before ends
  pub may : FailsInside (out-Instr i) ends → ⊥
  pub no_line : (starts : List Start) (o : Outcome) → Runs (out-Instr i) before starts ends o → ⊥

-- a body of `DIP` or `MAP` fails
pub record FailsEarly (s : Script) (aside : ℕ) (i : Instr) (before : List Ty) : Type 0 where
  pub ends : List Outcome
  pub bodies : BodiesEnd s aside i before ends
  pub inside : FailsInside (out-Instr i) ends

-- one of the starts
abbrev pub IsStart : Start → List Start → Type 0
IsStart x [] = ⊥
IsStart x (y ∷ ys) = (x ≡ y) ⊎ IsStart x ys

-- the stacks that an instruction makes, each with how many items are set aside: what it leaves, and what its bodies begin on
pub data Makes (s : Script) (aside : ℕ) (i : Instr) (before : List Ty) : ℕ → List Ty → Type 0 where
  leaves : (after : List Ty) → Applies s (out-Instr i) before after → Makes s aside i before aside after
  begins : (starts : List Start) (ends : List Outcome) (o : Outcome) (start : Start) →
      Runs (out-Instr i) before starts ends o → IsStart start starts → Makes s aside i before (aside + start.0) start.1
  ends_on : (starts : List Start) (ends : List Outcome) (after : List Ty) →
      Runs (out-Instr i) before starts ends (To after) → BodiesTyped s aside (bodies_of i) starts ends →
      Makes s aside i before aside after

-- a stack that is made has this fault
pub record MakesOne (s : Script) (aside : ℕ) (i : Instr) (before : List Ty) (Faulty : ℕ → List Ty → Type 0) : Type 0 where
  pub set_aside : ℕ
  pub stack : List Ty
  pub made : Makes s aside i before set_aside stack
  pub faulty : Faulty set_aside stack

-- the types that an instruction asks for as a whole
abbrev pub types_of : Instr → List Ty
types_of i = whole_types (out-Instr i)

-- it has more than 128 items, with so many set aside
abbrev pub IsTooTall : ℕ → List Ty → Type 0
IsTooTall n stack = 128 < n + length stack

-- a type in it is too large or too deep
abbrev pub HasTooLarge : ℕ → List Ty → Type 0
HasTooLarge n stack = list_all is_within_limits stack ≡ false

-- the kind holds of the instruction on the stack, with so many items set aside
abbrev pub Breaks : Script → ℕ → Instr → List Ty → TypeKind → Type 0
Breaks s n i before kind.StackTooShort = IsShort (out-Instr i) before
Breaks s n i before kind.WrongType = (is_fit_alone i ≡ false) ⊎ FitsNoLine s i before
Breaks s n i before kind.BranchesDiffer = Differ s n i before
Breaks s n i before kind.NotComparable = list_all has_comparable_keys (types_of i) ≡ false
Breaks s n i before kind.BigMapPlace = list_all has_passable_values (types_of i) ≡ false
Breaks s n i before kind.FailNotLast = FailsEarly s n i before
Breaks s n i before kind.StackTooTall = MakesOne s n i before IsTooTall
Breaks s n i before kind.TypeTooLarge = MakesOne s n i before HasTooLarge
Breaks s n i before _ = ⊥

-- ---- what is wrong with the script as a whole

-- the kind holds of the script, whatever its instructions are
abbrev pub WholeBreaks : Script → TypeKind → Type 0
WholeBreaks s kind.WrongType = (is_kept s.param && (is_kept s.storage && are_entries_of s.param s.names)) ≡ false
WholeBreaks s kind.NotComparable = (has_comparable_keys s.param && has_comparable_keys s.storage) ≡ false
WholeBreaks s kind.BigMapPlace = (is_free_of_big_maps s.param && has_storage_big_maps s.storage) ≡ false
WholeBreaks s kind.EntryTwice = AllPairs AreNamedApart s.names → ⊥
WholeBreaks s kind.TypeTooLarge = (is_within_limits s.param && (is_within_limits s.storage && list_all is_within_limits (first_stack s))) ≡ false
WholeBreaks s kind.CodeTooLarge = (65536 < code_count s.code) ⊎ (256 < script_brackets s)
WholeBreaks s _ = ⊥

-- ---- the first kind, the first place

-- the order in which kinds are told
abbrev pub kind_number : TypeKind → ℕ
kind_number kind.StackTooShort = 0
kind_number kind.WrongType = 1
kind_number kind.BranchesDiffer = 2
kind_number kind.NotComparable = 3
kind_number kind.BigMapPlace = 4
kind_number kind.EntryTwice = 5
kind_number kind.FailNotLast = 6
kind_number kind.StackTooTall = 7
kind_number kind.TypeTooLarge = 8
kind_number kind.CodeTooLarge = 9
kind_number kind.LastStack = 10

-- the first kind that holds
pub record IsFirst (Holds : TypeKind → Type 0) (k : TypeKind) : Type 0 where
  pub holds : Holds k
  pub none_before : (j : TypeKind) → kind_number j < kind_number k → Holds j → ⊥

-- a stack on which each body begins is kept
abbrev pub StartsKept : ℕ → List Start → Type 0
StartsKept n [] = Unit {0}
StartsKept n (x ∷ xs) = IsKept (n + x.0) x.1 × StartsKept n xs

mutual
  -- the first fault of an instruction is its own, or one inside a body
  pub data InstrFault (s : Script) : ℕ → Instr → List Ty → List ℕ → TypeKind → Type 0 where
    its_own : (n : ℕ) (i : Instr) (before : List Ty) (k : TypeKind) → IsFirst (Breaks s n i before) k → InstrFault s n i before [] k
    inside : (n : ℕ) (i : Instr) (before : List Ty) (starts : List Start) (ends : List Outcome) (o : Outcome) (path : List ℕ) (k : TypeKind) →
        is_fit_alone i ≡ true → Runs (out-Instr i) before starts ends o → StartsKept n starts →
        BodiesFault s n (bodies_of i) starts path k → InstrFault s n i before path k

  -- the first body that isn't typed, with its number
  pub data BodiesFault (s : Script) : ℕ → List (List Instr) → List Start → List ℕ → TypeKind → Type 0 where
    this_body : (n : ℕ) (c : List Instr) (cs : List (List Instr)) (start : Start) (starts : List Start) (path : List ℕ) (k : TypeKind) →
        CodeFault s (n + start.0) c start.1 path k → BodiesFault s n (c ∷ cs) (start ∷ starts) (0 ∷ path) k
    later_body : (n : ℕ) (c : List Instr) (cs : List (List Instr)) (start : Start) (starts : List Start) (o : Outcome) (j : ℕ) (path : List ℕ) (k : TypeKind) →
        CodeTyped s (n + start.0) c start.1 o → BodiesFault s n cs starts (j ∷ path) k → BodiesFault s n (c ∷ cs) (start ∷ starts) (suc j ∷ path) k

  -- the first instruction that isn't typed, with its number; nothing follows one that fails
  pub data CodeFault (s : Script) : ℕ → List Instr → List Ty → List ℕ → TypeKind → Type 0 where
    at_instr : (n : ℕ) (c : List Instr) (i : Instr) (d : List Instr) (before between : List Ty) (path : List ℕ) (k : TypeKind) →
        CodeTyped s n c before (To between) → InstrFault s n i between path k → CodeFault s n (c ++ i ∷ d) before (length c ∷ path) k
    behind_failing : (n : ℕ) (c : List Instr) (i : Instr) (d : List Instr) (before : List Ty) →
        CodeTyped s n c before Fails → CodeFault s n (c ++ i ∷ d) before (length c ∷ []) kind.FailNotLast

-- the first fault of a script: of the whole, of an instruction, or of the last stack
pub data ScriptFault (s : Script) : List ℕ → TypeKind → Type 0 where
  of_the_whole : (k : TypeKind) → IsFirst (WholeBreaks s) k → ScriptFault s [] k
  of_the_code : (path : List ℕ) (k : TypeKind) → ((j : TypeKind) → WholeBreaks s j → ⊥) → CodeFault s 0 s.code (first_stack s) path k → ScriptFault s path k
  of_the_end : (o : Outcome) → ((j : TypeKind) → WholeBreaks s j → ⊥) → CodeTyped s 0 s.code (first_stack s) o → (EndsWith (last_stack s) o → ⊥) → ScriptFault s [] kind.LastStack
