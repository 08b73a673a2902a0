-- The table of operands: what an instruction without bodies takes from the top of the stack and what it
-- leaves there, one line for each kind of operands.
use Rattle.std.specs.Prelude.{List, [], ◌∷◌}
use Rattle.michelson_code.specs.declared.instr.Instr.TheOpen as one
use Rattle.michelson_code.specs.declared.instr.Instr.TheOpen.{Instr-F}
use Rattle.michelson_code.specs.declared.operands.Level.TheVariants as level
use Rattle.michelson_code.specs.declared.operands.Line.{Line}
use Rattle.michelson_code.specs.declared.operands.Part.{Part}
use Rattle.michelson_code.specs.declared.operands.Part.TheVariants as part
use Rattle.michelson_code.specs.declared.operands.Slot.{Slot}
use Rattle.michelson_code.specs.declared.operands.Slot.TheVariants as slot
use Rattle.michelson_code.specs.declared.operands.Slots.{Slots}
use Rattle.michelson_code.specs.declared.operands.Slots.TheVariants as slots

infix 4 ◌⇒◌
-- the operands, and the results that stand in their place
abbrev pub ◌⇒◌ : Slots → Slots → Line
takes ⇒ gives = record { 0 = takes; 1 = gives }

-- any type
abbrev pub a : Slot
a = slot.Whole part.A

-- any type, the same or another
abbrev pub b : Slot
b = slot.Whole part.B

-- a comparable type
abbrev pub k : Slot
k = slot.Whole part.K

-- the first type that the instruction writes; of `SELF` the type of the entry
abbrev pub t : Slot
t = slot.Whole part.T

-- the second type that it writes
abbrev pub u : Slot
u = slot.Whole part.U

-- ---- types without parts

-- `unit`
abbrev pub unit : Slot
unit = slot.Of level.Unit

-- `bool`
abbrev pub bool : Slot
bool = slot.Of level.Bool

-- `int`
abbrev pub int : Slot
int = slot.Of level.Int

-- `nat`
abbrev pub nat : Slot
nat = slot.Of level.Nat

-- `mutez`
abbrev pub mutez : Slot
mutez = slot.Of level.Mutez

-- `timestamp`
abbrev pub timestamp : Slot
timestamp = slot.Of level.Time

-- `string`
abbrev pub string : Slot
string = slot.Of level.Text

-- `bytes`
abbrev pub bytes : Slot
bytes = slot.Of level.Bytes

-- `address`
abbrev pub address : Slot
address = slot.Of level.Addr

-- `operation`
abbrev pub operation : Slot
operation = slot.Of level.Operation

-- ---- types made of parts

-- `option p`
abbrev pub option : Part → Slot
option p = slot.Of (level.Option p)

-- `or p q`
abbrev pub or : Part → Part → Slot
or p q = slot.Of (level.Or p q)

-- `pair p q`
abbrev pub pair : Part → Part → Slot
pair p q = slot.Of (level.Pair p q)

-- `list p`
abbrev pub list : Part → Slot
list p = slot.Of (level.List p)

-- `set p`
abbrev pub set : Part → Slot
set p = slot.Of (level.Set p)

-- `map p q`
abbrev pub map : Part → Part → Slot
map p q = slot.Of (level.Map p q)

-- `big_map p q`
abbrev pub big_map : Part → Part → Slot
big_map p q = slot.Of (level.BigMap p q)

-- `contract p`
abbrev pub contract : Part → Slot
contract p = slot.Of (level.Contract p)

-- `option (pair p q)`
abbrev pub option_pair : Part → Part → Slot
option_pair p q = slot.OptionOf (level.Pair p q)

-- `option (contract p)`
abbrev pub option_contract : Part → Slot
option_contract p = slot.OptionOf (level.Contract p)

-- ---- operands and results

-- the lines of one level of an instruction; none where it has bodies, fails, or moves as many items as it
-- says
abbrev pub lines : {A : Type 0} → Instr-F A → List Line
lines one.Drop = (slots.One a ⇒ slots.None) ∷ []
lines one.Dup = (slots.One a ⇒ slots.Two a a) ∷ []
lines one.Swap = (slots.Two a b ⇒ slots.Two b a) ∷ []
lines one.Unit = (slots.None ⇒ slots.One unit) ∷ []
lines one.Pair = (slots.Two a b ⇒ slots.One (pair part.A part.B)) ∷ []
lines one.Unpair = (slots.One (pair part.A part.B) ⇒ slots.Two a b) ∷ []
lines one.Car = (slots.One (pair part.A part.B) ⇒ slots.One a) ∷ []
lines one.Cdr = (slots.One (pair part.A part.B) ⇒ slots.One b) ∷ []
lines one.Some = (slots.One a ⇒ slots.One (option part.A)) ∷ []
lines (one.None _) = (slots.None ⇒ slots.One (option part.T)) ∷ []
lines (one.Left _) = (slots.One a ⇒ slots.One (or part.A part.T)) ∷ []
lines (one.Right _) = (slots.One a ⇒ slots.One (or part.T part.A)) ∷ []
lines (one.Nil _) = (slots.None ⇒ slots.One (list part.T)) ∷ []
lines one.Cons = (slots.Two a (list part.A) ⇒ slots.One (list part.A)) ∷ []
lines (one.Cast _) = (slots.One t ⇒ slots.One t) ∷ []
lines one.Rename = (slots.One a ⇒ slots.One a) ∷ []
lines (one.Push _ _) = (slots.None ⇒ slots.One t) ∷ []
lines (one.EmptySet _) = (slots.None ⇒ slots.One (set part.T)) ∷ []
lines (one.EmptyMap _ _) = (slots.None ⇒ slots.One (map part.T part.U)) ∷ []
lines one.Add =
    (slots.Two nat nat ⇒ slots.One nat) ∷
    (slots.Two int int ⇒ slots.One int) ∷
    (slots.Two int nat ⇒ slots.One int) ∷
    (slots.Two nat int ⇒ slots.One int) ∷
    (slots.Two timestamp int ⇒ slots.One timestamp) ∷
    (slots.Two int timestamp ⇒ slots.One timestamp) ∷
    (slots.Two mutez mutez ⇒ slots.One mutez) ∷ []
lines one.Sub =
    (slots.Two nat nat ⇒ slots.One int) ∷
    (slots.Two int int ⇒ slots.One int) ∷
    (slots.Two int nat ⇒ slots.One int) ∷
    (slots.Two nat int ⇒ slots.One int) ∷
    (slots.Two timestamp int ⇒ slots.One timestamp) ∷
    (slots.Two timestamp timestamp ⇒ slots.One int) ∷ []
lines one.SubMutez = (slots.Two mutez mutez ⇒ slots.One (option part.Mutez)) ∷ []
lines one.Neg = (slots.One int ⇒ slots.One int) ∷ (slots.One nat ⇒ slots.One int) ∷ []
lines one.Abs = (slots.One int ⇒ slots.One nat) ∷ []
lines one.IsNat = (slots.One int ⇒ slots.One (option part.Nat)) ∷ []
lines one.Int = (slots.One nat ⇒ slots.One int) ∷ []
lines one.Lsl = (slots.Two nat nat ⇒ slots.One nat) ∷ []
lines one.Lsr = (slots.Two nat nat ⇒ slots.One nat) ∷ []
lines one.And =
    (slots.Two bool bool ⇒ slots.One bool) ∷
    (slots.Two nat nat ⇒ slots.One nat) ∷
    (slots.Two int nat ⇒ slots.One nat) ∷ []
lines one.Or = (slots.Two bool bool ⇒ slots.One bool) ∷ (slots.Two nat nat ⇒ slots.One nat) ∷ []
lines one.Xor = (slots.Two bool bool ⇒ slots.One bool) ∷ (slots.Two nat nat ⇒ slots.One nat) ∷ []
lines one.Not =
    (slots.One bool ⇒ slots.One bool) ∷
    (slots.One int ⇒ slots.One int) ∷
    (slots.One nat ⇒ slots.One int) ∷ []
lines one.Eq = (slots.One int ⇒ slots.One bool) ∷ []
lines one.Neq = (slots.One int ⇒ slots.One bool) ∷ []
lines one.Lt = (slots.One int ⇒ slots.One bool) ∷ []
lines one.Gt = (slots.One int ⇒ slots.One bool) ∷ []
lines one.Le = (slots.One int ⇒ slots.One bool) ∷ []
lines one.Ge = (slots.One int ⇒ slots.One bool) ∷ []
lines one.Size =
    (slots.One string ⇒ slots.One nat) ∷
    (slots.One bytes ⇒ slots.One nat) ∷
    (slots.One (list part.A) ⇒ slots.One nat) ∷
    (slots.One (set part.A) ⇒ slots.One nat) ∷
    (slots.One (map part.A part.B) ⇒ slots.One nat) ∷ []
lines one.Amount = (slots.None ⇒ slots.One mutez) ∷ []
lines one.Sender = (slots.None ⇒ slots.One address) ∷ []
lines one.Source = (slots.None ⇒ slots.One address) ∷ []
lines one.SelfAddress = (slots.None ⇒ slots.One address) ∷ []
lines one.Now = (slots.None ⇒ slots.One timestamp) ∷ []
lines one.Level = (slots.None ⇒ slots.One nat) ∷ []
lines (one.SelfEntry _) = (slots.None ⇒ slots.One (contract part.T)) ∷ []
lines one.Address = (slots.One (contract part.A) ⇒ slots.One address) ∷ []
lines one.Compare = (slots.Two k k ⇒ slots.One int) ∷ []
lines one.Mul =
    (slots.Two nat nat ⇒ slots.One nat) ∷
    (slots.Two int int ⇒ slots.One int) ∷
    (slots.Two int nat ⇒ slots.One int) ∷
    (slots.Two nat int ⇒ slots.One int) ∷
    (slots.Two mutez nat ⇒ slots.One mutez) ∷
    (slots.Two nat mutez ⇒ slots.One mutez) ∷ []
lines one.Ediv =
    (slots.Two nat nat ⇒ slots.One (option_pair part.Nat part.Nat)) ∷
    (slots.Two int int ⇒ slots.One (option_pair part.Int part.Nat)) ∷
    (slots.Two int nat ⇒ slots.One (option_pair part.Int part.Nat)) ∷
    (slots.Two nat int ⇒ slots.One (option_pair part.Int part.Nat)) ∷
    (slots.Two mutez nat ⇒ slots.One (option_pair part.Mutez part.Mutez)) ∷
    (slots.Two mutez mutez ⇒ slots.One (option_pair part.Nat part.Mutez)) ∷ []
lines one.Concat =
    (slots.Two string string ⇒ slots.One string) ∷
    (slots.Two bytes bytes ⇒ slots.One bytes) ∷
    (slots.One (list part.Text) ⇒ slots.One string) ∷ []
lines one.Mem =
    (slots.Two a (set part.A) ⇒ slots.One bool) ∷
    (slots.Two a (map part.A part.B) ⇒ slots.One bool) ∷
    (slots.Two a (big_map part.A part.B) ⇒ slots.One bool) ∷ []
lines one.Get =
    (slots.Two a (map part.A part.B) ⇒ slots.One (option part.B)) ∷
    (slots.Two a (big_map part.A part.B) ⇒ slots.One (option part.B)) ∷ []
lines one.Update =
    (slots.Three a bool (set part.A) ⇒ slots.One (set part.A)) ∷
    (slots.Three a (option part.B) (map part.A part.B) ⇒ slots.One (map part.A part.B)) ∷
    (slots.Three a (option part.B) (big_map part.A part.B) ⇒ slots.One (big_map part.A part.B)) ∷ []
lines one.GetAndUpdate =
    (slots.Three a (option part.B) (map part.A part.B) ⇒
    slots.Two (option part.B) (map part.A part.B)) ∷
    (slots.Three a (option part.B) (big_map part.A part.B) ⇒
    slots.Two (option part.B) (big_map part.A part.B)) ∷ []
lines one.Sha256 = (slots.One bytes ⇒ slots.One bytes) ∷ []
lines one.Balance = (slots.None ⇒ slots.One mutez) ∷ []
lines (one.Contract _ _) = (slots.One address ⇒ slots.One (option_contract part.T)) ∷ []
lines one.TransferTokens = (slots.Three a mutez (contract part.A) ⇒ slots.One operation) ∷ []
lines _ = []
