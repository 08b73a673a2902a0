-- Typing: which code goes from which stack to which, and which fails on each way. No line knows an order of checking.
use Rattle.std.specs.Prelude.{◌≡◌, ℕ, ◌+◌, ◌≤◌, Bool, true, IsTrue, List, [], ◌∷◌, ◌++◌, length, get_or, codes, suc, map, Option, None, Some, ◌⊎◌}
use Rattle.std.specs.List.{list_all}
use Rattle.std.specs.Option.{option_map}
use Rattle.value_core.specs.declared.ty.Ty.{Ty}
use Rattle.value_core.specs.declared.ty.Ty.TheVariants as type
use Rattle.value_core.specs.Kinds.{is_comparable, is_passable}
use Rattle.michelson_code.specs.declared.instr.Instr.{Instr}
use Rattle.michelson_code.specs.declared.instr.Instr.TheOpen as one
use Rattle.michelson_code.specs.declared.instr.Instr.TheOpen.{Instr-F}
use Rattle.michelson_code.specs.declared.instr.Instr.TheViews.{out-Instr}
use Rattle.michelson_code.specs.declared.instr.Instr.TheFolds.{map-Instr}
use Rattle.michelson_code.specs.declared.operands.Level.{Level}
use Rattle.michelson_code.specs.declared.operands.Level.TheVariants as level
use Rattle.michelson_code.specs.declared.operands.Line.{Line}
use Rattle.michelson_code.specs.declared.operands.Part.{Part}
use Rattle.michelson_code.specs.declared.operands.Part.TheVariants as part
use Rattle.michelson_code.specs.declared.operands.Slot.{Slot}
use Rattle.michelson_code.specs.declared.operands.Slot.TheVariants as slot
use Rattle.michelson_code.specs.declared.operands.Slots.{Slots}
use Rattle.michelson_code.specs.declared.operands.Slots.TheVariants as slots
use Rattle.michelson_code.specs.declared.script.Script.{Script}
use Rattle.michelson_code.specs.Entries.{entry_type}
use Rattle.michelson_code.specs.Forms.{Operand, AType, bodies_of, form_at}
use Rattle.michelson_code.specs.Operands.{lines}
use Rattle.michelson_code.specs.Printable.{fit_at}
use Rattle.michelson_code.specs.WrittenTypes.{is_well_made, is_within_limits}

-- what a code does to a stack of types, whose top stands first: it leaves another, or fails on each way
pub data Outcome : Type 0 where
  To : List Ty → Outcome
  Fails : Outcome

-- ---- the lines of the table of operands

-- what the letters of a line stand for
pub record Choice : Type 0 where
  pub a : Ty
  pub b : Ty
  pub k : Ty
  pub written : List Ty

-- the type that a part stands for
abbrev pub part_type : Choice → Part → Ty
part_type c part.A = c.a
part_type c part.B = c.b
part_type c part.K = c.k
part_type c part.T = get_or c.written 0 type.Unit
part_type c part.U = get_or c.written 1 type.Unit
part_type c part.Int = type.Int
part_type c part.Nat = type.Nat
part_type c part.Mutez = type.Mutez
part_type c part.Text = type.Text
part_type c part.Bytes = type.Bytes

-- the type with such a level, by the types of its parts
abbrev pub level_type : {P : Type 0} → (P → Ty) → Level P → Ty
level_type f level.Unit = type.Unit
level_type f level.Bool = type.Bool
level_type f level.Int = type.Int
level_type f level.Nat = type.Nat
level_type f level.Mutez = type.Mutez
level_type f level.Time = type.Time
level_type f level.Text = type.Text
level_type f level.Bytes = type.Bytes
level_type f level.Addr = type.Addr
level_type f (level.Option p) = type.Option (f p)
level_type f (level.Or p q) = type.Or (f p) (f q)
level_type f (level.Pair p q) = type.Pair (f p) (f q)
level_type f (level.List p) = type.List (f p)
level_type f (level.Set p) = type.Set (f p)
level_type f (level.Map p q) = type.Map (f p) (f q)
level_type f (level.BigMap p q) = type.BigMap (f p) (f q)
level_type f (level.Contract p) = type.Contract (f p)
level_type f level.Operation = type.Operation

-- the type of a slot
abbrev pub slot_type : Choice → Slot → Ty
slot_type c (slot.Whole p) = part_type c p
slot_type c (slot.Of x) = level_type (part_type c) x
slot_type c (slot.OptionOf x) = type.Option (level_type (part_type c) x)

-- the slots, from the top
abbrev pub slot_list : Slots → List Slot
slot_list slots.None = []
slot_list (slots.One x) = x ∷ []
slot_list (slots.Two x y) = x ∷ y ∷ []
slot_list (slots.Three x y z) = x ∷ y ∷ z ∷ []

-- the types of the slots, from the top
abbrev pub slot_types : Choice → Slots → List Ty
slot_types c xs = map (slot_type c) (slot_list xs)

-- one of the lines
abbrev pub IsOneOf : Line → List Line → Type 0
IsOneOf l [] = ⊥
IsOneOf l (m ∷ ms) = (l ≡ m) ⊎ IsOneOf l ms

-- the types among operands, from the left
abbrev pub types_written : {A : Type 0} → List (Operand A) → List Ty
types_written [] = []
types_written (AType t ∷ operands) = t ∷ types_written operands
types_written (operand ∷ operands) = types_written operands

-- the name that an instruction gives, or `default`
abbrev pub called : Option (List ℕ) → List ℕ
called None = codes "default"
called (Some name) = name

-- the types that an instruction writes; of `SELF` the type of the entry, where there is one
abbrev pub given_types : {A : Type 0} → Script → Instr-F A → Option (List Ty)
given_types s (one.SelfEntry e) = option_map (λ t. t ∷ []) (entry_type s (called e))
given_types s x = Some (types_written (form_at x).operands)

-- pairs to the right
abbrev pub comb_type : List Ty → Ty → Ty
comb_type [] last = last
comb_type (t ∷ ts) last = type.Pair t (comb_type ts last)

-- ---- instructions without bodies

-- what an instruction without bodies, on its script, makes of a stack
pub data Applies (s : Script) {A : Type 0} : Instr-F A → List Ty → List Ty → Type 0 where
  by_line : (x : Instr-F A) (l : Line) (c : Choice) (below : List Ty) →
      IsOneOf l (lines x) → given_types s x ≡ Some c.written → IsTrue (is_comparable c.k) →
      Applies s x (slot_types c l.0 ++ below) (slot_types c l.1 ++ below)
  drop_n : (n : ℕ) (items below : List Ty) → length items ≡ n →
      Applies s (one.DropN n) (items ++ below) below
  dup_n : (n : ℕ) (items : List Ty) (t : Ty) (below : List Ty) → suc (length items) ≡ n →
      Applies s (one.DupN n) (items ++ t ∷ below) (t ∷ (items ++ t ∷ below))
  dig : (n : ℕ) (items : List Ty) (t : Ty) (below : List Ty) → length items ≡ n →
      Applies s (one.Dig n) (items ++ t ∷ below) (t ∷ (items ++ below))
  dug : (n : ℕ) (items : List Ty) (t : Ty) (below : List Ty) → length items ≡ n →
      Applies s (one.Dug n) (t ∷ (items ++ below)) (items ++ t ∷ below)
  pair_n : (n : ℕ) (items : List Ty) (last : Ty) (below : List Ty) → suc (length items) ≡ n →
      Applies s (one.PairN n) (items ++ last ∷ below) (comb_type items last ∷ below)
  unpair_n : (n : ℕ) (items : List Ty) (last : Ty) (below : List Ty) → suc (length items) ≡ n →
      Applies s (one.UnpairN n) (comb_type items last ∷ below) (items ++ last ∷ below)

-- ---- instructions with bodies, and `FAILWITH`

-- how many items are set aside while a body runs, and the stack that it begins on
abbrev pub Start : Type 0
Start = ℕ × List Ty

-- two branches end alike, unless one fails
pub data Joined : Outcome → Outcome → Outcome → Type 0 where
  alike : (o : Outcome) → Joined o o o
  first_fails : (o : Outcome) → Joined Fails o o
  second_fails : (o : Outcome) → Joined o Fails o

-- a body ends with the stack, unless it fails
pub data EndsWith : List Ty → Outcome → Type 0 where
  with_it : (s : List Ty) → EndsWith s (To s)
  failing : (s : List Ty) → EndsWith s Fails

-- the stack before, how each body begins and how it ends, and what the instruction makes of the stack
pub data Runs {A : Type 0} : Instr-F A → List Ty → List Start → List Outcome → Outcome → Type 0 where
  dip : (c : List A) (a : Ty) (s t : List Ty) → Runs (one.Dip c) (a ∷ s) ((1, s) ∷ []) (To t ∷ []) (To (a ∷ t))
  dip_n : (n : ℕ) (c : List A) (items s t : List Ty) → length items ≡ n →
      Runs (one.DipN n c) (items ++ s) ((n, s) ∷ []) (To t ∷ []) (To (items ++ t))
  if_true : (c d : List A) (s : List Ty) (e f o : Outcome) → Joined e f o →
      Runs (one.If c d) (type.Bool ∷ s) ((0, s) ∷ (0, s) ∷ []) (e ∷ f ∷ []) o
  if_none : (c d : List A) (a : Ty) (s : List Ty) (e f o : Outcome) → Joined e f o →
      Runs (one.IfNone c d) (type.Option a ∷ s) ((0, s) ∷ (0, a ∷ s) ∷ []) (e ∷ f ∷ []) o
  if_left : (c d : List A) (a b : Ty) (s : List Ty) (e f o : Outcome) → Joined e f o →
      Runs (one.IfLeft c d) (type.Or a b ∷ s) ((0, a ∷ s) ∷ (0, b ∷ s) ∷ []) (e ∷ f ∷ []) o
  if_cons : (c d : List A) (a : Ty) (s : List Ty) (e f o : Outcome) → Joined e f o →
      Runs (one.IfCons c d) (type.List a ∷ s) ((0, a ∷ type.List a ∷ s) ∷ (0, s) ∷ []) (e ∷ f ∷ []) o
  loop : (c : List A) (s : List Ty) (e : Outcome) → EndsWith (type.Bool ∷ s) e →
      Runs (one.Loop c) (type.Bool ∷ s) ((0, s) ∷ []) (e ∷ []) (To s)
  loop_left : (c : List A) (a b : Ty) (s : List Ty) (e : Outcome) → EndsWith (type.Or a b ∷ s) e →
      Runs (one.LoopLeft c) (type.Or a b ∷ s) ((0, a ∷ s) ∷ []) (e ∷ []) (To (b ∷ s))
  iter_list : (c : List A) (a : Ty) (s : List Ty) (e : Outcome) → EndsWith s e →
      Runs (one.Iter c) (type.List a ∷ s) ((0, a ∷ s) ∷ []) (e ∷ []) (To s)
  iter_set : (c : List A) (a : Ty) (s : List Ty) (e : Outcome) → EndsWith s e →
      Runs (one.Iter c) (type.Set a ∷ s) ((0, a ∷ s) ∷ []) (e ∷ []) (To s)
  iter_map : (c : List A) (k v : Ty) (s : List Ty) (e : Outcome) → EndsWith s e →
      Runs (one.Iter c) (type.Map k v ∷ s) ((0, type.Pair k v ∷ s) ∷ []) (e ∷ []) (To s)
  map_list : (c : List A) (a b : Ty) (s : List Ty) →
      Runs (one.Map c) (type.List a ∷ s) ((0, a ∷ s) ∷ []) (To (b ∷ s) ∷ []) (To (type.List b ∷ s))
  map_map : (c : List A) (k v b : Ty) (s : List Ty) →
      Runs (one.Map c) (type.Map k v ∷ s) ((0, type.Pair k v ∷ s) ∷ []) (To (b ∷ s) ∷ []) (To (type.Map k b ∷ s))
  failwith : (a : Ty) (s : List Ty) → IsTrue (is_passable a) → Runs one.Failwith (a ∷ s) [] [] Fails

-- an instruction with bodies finds its operands, however its bodies end
abbrev pub MayBegin : Instr → List Ty → Type 0
MayBegin i before =
    (starts : List Start) × ((ends : List Outcome) × ((o : Outcome) × Runs (out-Instr i) before starts ends o))

-- ---- code

-- each number of the instruction may be read, and each value may be pushed; nothing is asked of its bodies
abbrev pub is_fit_alone : Instr → Bool
is_fit_alone i = fit_at (map-Instr Instr Bool (λ j. true) (out-Instr i))

-- the types that an instruction asks for as a whole: those that it writes, and of `EMPTY_SET` and `EMPTY_MAP` what they make of these
abbrev pub whole_types : {A : Type 0} → Instr-F A → List Ty
whole_types (one.EmptySet k) = type.Set k ∷ []
whole_types (one.EmptyMap k v) = type.Map k v ∷ []
whole_types x = types_written (form_at x).operands

-- keys and elements of these types are comparable, and values of big maps passable
abbrev pub writes_well : Instr → Bool
writes_well i = list_all is_well_made (whole_types (out-Instr i))

-- a stack on which code is typed: at most 128 items with those set aside, and no type beyond the limits
pub record IsKept (aside : ℕ) (s : List Ty) : Type 0 where
  pub height : aside + length s ≤ 128
  pub types : IsTrue (list_all is_within_limits s)

-- `code : stack to stack`, or `code : stack fails`, while so many items are set aside
mutual
  -- an instruction
  pub data InstrTyped (s : Script) : ℕ → Instr → List Ty → Outcome → Type 0 where
    applies : (aside : ℕ) (i : Instr) (before after : List Ty) →
        IsTrue (is_fit_alone i) → IsTrue (writes_well i) →
        Applies s (out-Instr i) before after → InstrTyped s aside i before (To after)
    runs : (aside : ℕ) (i : Instr) (before : List Ty) (starts : List Start) (ends : List Outcome) (o : Outcome) →
        IsTrue (is_fit_alone i) →
        Runs (out-Instr i) before starts ends o → BodiesTyped s aside (bodies_of i) starts ends → InstrTyped s aside i before o

  -- the bodies of an instruction, each from its start to its end
  pub data BodiesTyped (s : Script) : ℕ → List (List Instr) → List Start → List Outcome → Type 0 where
    no_body : (aside : ℕ) → BodiesTyped s aside [] [] []
    one_body : (aside : ℕ) (c : List Instr) (cs : List (List Instr)) (start : Start) (starts : List Start) (end : Outcome) (ends : List Outcome) →
        CodeTyped s (aside + start.0) c start.1 end → BodiesTyped s aside cs starts ends →
        BodiesTyped s aside (c ∷ cs) (start ∷ starts) (end ∷ ends)

  -- a code: each instruction begins where the one before left off, and nothing follows one that fails
  pub data CodeTyped (s : Script) : ℕ → List Instr → List Ty → Outcome → Type 0 where
    done : (aside : ℕ) (before : List Ty) → IsKept aside before → CodeTyped s aside [] before (To before)
    goes_on : (aside : ℕ) (i : Instr) (c : List Instr) (before between : List Ty) (o : Outcome) → IsKept aside before →
        InstrTyped s aside i before (To between) → CodeTyped s aside c between o → CodeTyped s aside (i ∷ c) before o
    fails : (aside : ℕ) (i : Instr) (before : List Ty) → IsKept aside before →
        InstrTyped s aside i before Fails → CodeTyped s aside (i ∷ []) before Fails
