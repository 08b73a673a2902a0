-- A line that stands on a stack applies there, and where none stands none applies.
use Rattle.std.proofs.Common.{◌≡◌, ℕ, ◌-◌, true, List, [], ◌∷◌, ◌++◌, length, length-drop, drop, take, map, get_or, Option, None, Some, unwrap_or, refl, ap, sym, ◌∙◌}
use Rattle.value_core.specs.declared.ty.Ty.{Ty}
use Rattle.value_core.specs.declared.ty.Ty.TheVariants as type
use Rattle.value_core.specs.declared.ty.Ty.TheOpen as ty
use Rattle.value_core.specs.Kinds.{comparable_level, is_comparable}
use Rattle.value_core.specs.TypeLevels.{fold-at}
use Rattle.michelson_code.specs.declared.instr.Instr.{Instr}
use Rattle.michelson_code.specs.declared.instr.Instr.TheOpen.{Instr-F}
use Rattle.michelson_code.specs.declared.operands.Level.TheVariants as level
use Rattle.michelson_code.specs.declared.operands.Line.{Line}
use Rattle.michelson_code.specs.declared.operands.Part.{Part}
use Rattle.michelson_code.specs.declared.operands.Part.TheVariants as part
use Rattle.michelson_code.specs.declared.operands.Slot.{Slot}
use Rattle.michelson_code.specs.declared.operands.Slot.TheVariants as slot
use Rattle.michelson_code.specs.declared.script.Script.{Script}
use Rattle.michelson_code.specs.Inversion.{FindsLine}
use Rattle.michelson_code.specs.Operands.{lines}
use Rattle.michelson_code.specs.Typing.{Choice, Outcome, To, given_types, part_type, slot_list, slot_type, slot_types}
use Rattle.michelson_code.proofs.Types.{shows}
use Rattle.michelson_typer.specs.declared.lines.Letters.{Letters}
use Rattle.michelson_typer.specs.declared.lines.Written.{Written}
use Rattle.michelson_typer.specs.Lines.{NoneStands, Stands}
use Rattle.michelson_typer.specs.Matching.{AreKnown, Front, IsKnown, IsOrdered, Meets, Suits, written_types}
use Rattle.michelson_typer.specs.Tables.{IsTypeOf, parts_in, type_at, types_at}
use Rattle.michelson_typer.proofs.LevelLaws.{Agree, level_type-agree}

-- ---- the types written may be told by numbers

module _ (c d : Choice) (a : c.a ≡ d.a) (b : c.b ≡ d.b) (k : c.k ≡ d.k) (t : get_or c.written 0 type.Unit ≡ get_or d.written 0 type.Unit) (u : get_or c.written 1 type.Unit ≡ get_or d.written 1 type.Unit) where
  same_part : (p : Part) → part_type c p ≡ part_type d p
  same_part part.A = a
  same_part part.B = b
  same_part part.K = k
  same_part part.T = t
  same_part part.U = u
  same_part part.Int = refl
  same_part part.Nat = refl
  same_part part.Mutez = refl
  same_part part.Text = refl
  same_part part.Bytes = refl

  same_parts : (ps : List Part) → Agree (part_type c) (part_type d) ps
  same_parts [] = tt
  same_parts (p ∷ ps) = (same_part p, same_parts ps)

  same_slot : (x : Slot) → slot_type c x ≡ slot_type d x
  same_slot (slot.Whole p) = same_part p
  same_slot (slot.Of x) = level_type-agree (part_type c) (part_type d) x (same_parts (parts_in x))
  same_slot (slot.OptionOf x) = ap type.Option (level_type-agree (part_type c) (part_type d) x (same_parts (parts_in x)))

  pub same_slots : (xs : List Slot) → map (slot_type c) xs ≡ map (slot_type d) xs
  same_slots [] = refl
  same_slots (x ∷ xs) = λ i. same_slot x i ∷ same_slots xs i

-- ---- operands on a stack

module _ (table : List Ty) (c : Choice) where
  pub front_below : (xs : List Slot) (stack : List ℕ) → Front table xs stack c → types_at table stack ≡ map (slot_type c) xs ++ types_at table (drop (length xs) stack)
  front_below [] stack front = refl
  front_below (x ∷ xs) [] front = absurd front
  front_below (x ∷ xs) (id ∷ stack) front = λ i. sym front.0 i ∷ front_below xs stack front.1 i

  pub below_front : (xs : List Slot) (stack : List ℕ) (below : List Ty) → types_at table stack ≡ map (slot_type c) xs ++ below → Front table xs stack c
  below_front [] stack below same = tt
  below_front (x ∷ xs) [] below same = cc
  below_front (x ∷ xs) (id ∷ stack) below same =
      let top : slot_type c x ≡ type_at table id = cc in
      let rest : types_at table stack ≡ map (slot_type c) xs ++ below = cc in
      (top, below_front xs stack below rest)

-- ---- letters that stand for types

unit_comparable : is_comparable type.Unit ≡ true
unit_comparable = fold-at comparable_level type.Unit ty.Unit (shows (λ (t : Ty). t) level.Unit)

module _ (table : List Ty) (w : Written) (unit : ℕ) (is_unit : IsTypeOf table unit type.Unit) where
  -- the choice in which letters stand for their types, and the others for unit
  abbrev pub filled : Letters → Choice
  filled l = record {
    a = type_at table (unwrap_or l.a unit);
    b = type_at table (unwrap_or l.b unit);
    k = type_at table (unwrap_or l.k unit);
    written = written_types table w;
  }

  meets : (o : Option ℕ) → IsKnown table o → Meets table o (type_at table (unwrap_or o unit))
  meets None known = tt
  meets (Some id) known = record { within = known; is = refl }

  ordered : (o : Option ℕ) → IsOrdered table o → is_comparable (type_at table (unwrap_or o unit)) ≡ true
  ordered None known = ap is_comparable is_unit.is ∙ unit_comparable
  ordered (Some id) known = known

  pub filled_suits : (l : Letters) → AreKnown table l → Suits table w l (filled l)
  filled_suits l known = record {
    a = meets l.a known.a;
    b = meets l.b known.b;
    k = meets l.k known.k;
    comparable = ordered l.k known.ordered;
    is_written = refl;
  }

  -- ---- the line of an instruction

  module _ (s : Script) (x : Instr-F Instr) (free : Letters) (stack : List ℕ) (ts : List Ty) (given : given_types s x ≡ Some ts)
      (t : type_at table w.t ≡ get_or ts 0 type.Unit) (u : type_at table w.u ≡ get_or ts 1 type.Unit) where
    -- the same choice with the types as they are written
    abbrev as_written : Choice → Choice
    as_written c = record { a = c.a; b = c.b; k = c.k; written = ts }

    -- the results of the line that stands take the place of its operands
    pub stands_finds : (found : Letters) (l : Line) → Stands table w free (lines x) stack (found, l) → (after : List Ty) →
        after ≡ slot_types (filled found) l.1 ++ types_at table (drop (length (slot_list l.0)) stack) → FindsLine s x (types_at table stack) (To after)
    stands_finds found l stands after made =
        let c = filled found in
        let up = stands.narrows.holds c (filled_suits found stands.known) in
        record {
          line = l;
          choice = as_written c;
          below = types_at table (drop (length (slot_list l.0)) stack);
          is_line = stands.is_line;
          written = given;
          comparable = ordered found.k stands.known.ordered;
          operands = front_below table c (slot_list l.0) stack up.1
              ∙ ap (λ (ops : List Ty). ops ++ types_at table (drop (length (slot_list l.0)) stack)) (same_slots c (as_written c) refl refl refl t u (slot_list l.0));
          results = ap To (made ∙ ap (λ (ops : List Ty). ops ++ types_at table (drop (length (slot_list l.0)) stack)) (same_slots c (as_written c) refl refl refl t u (slot_list l.1)));
        }

    -- where no line stands none is found
    pub none_finds : NoneStands table w (record { a = None; b = None; k = None }) (lines x) stack → (o : Outcome) → FindsLine s x (types_at table stack) o → ⊥
    none_finds none o found =
        let c = found.choice in
        let d : Choice = record { a = c.a; b = c.b; k = c.k; written = written_types table w } in
        let written : ts ≡ c.written = cc in
        let same = same_slots c d refl refl refl (ap (λ (us : List Ty). get_or us 0 type.Unit) (sym written) ∙ sym t) (ap (λ (us : List Ty). get_or us 1 type.Unit) (sym written) ∙ sym u) (slot_list found.line.0) in
        none found.line found.is_line d (record { a = tt; b = tt; k = tt; comparable = found.comparable; is_written = refl })
        (below_front table d (slot_list found.line.0) stack found.below (found.operands ∙ ap (λ (ops : List Ty). ops ++ found.below) same))

-- what is left of a stack, to its end
pub take_rest : (n : ℕ) (xs : List ℕ) → take (length xs - n) (drop n xs) ≡ drop n xs
take_rest n xs = ap (λ (k : ℕ). take k (drop n xs)) (sym (length-drop n xs)) ∙ take_whole (drop n xs)
  where
    take_whole : (ys : List ℕ) → take (length ys) ys ≡ ys
    take_whole [] = refl
    take_whole (y ∷ ys) = ap (λ (zs : List ℕ). y ∷ zs) (take_whole ys)
