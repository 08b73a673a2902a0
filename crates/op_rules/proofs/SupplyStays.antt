-- An operation makes no money and loses none; one that fails leaves the cells.
use Rattle.std.proofs.Common.{◌≡◌, ℕ, ◌+◌, ◌-◌, ◌≤◌, false, Option, List, [], ◌∷◌, refl, ap, arith}
use Rattle.std.specs.Prelude.{nat_lt}
use Rattle.michelson_code.specs.declared.why.Why.{Why}
use Rattle.value_core.specs.declared.val.Val.{Val}
use Rattle.cell_names.specs.declared.access.Access.TheVariants as access
use Rattle.cell_names.specs.declared.cell.Cell.{Cell}
use Rattle.cell_names.specs.declared.head.Head.{Head}
use Rattle.cell_names.specs.Conditions.{IsWritable}
use Rattle.cell_names.specs.Contents.{Contents, balance, put, with_balance}
use Rattle.cell_names.specs.Supply.{supply}
use Rattle.cell_names.proofs.Money.{kept_after, supply-with_balance}
use Rattle.cell_names.proofs.Undoing.{not_less}
use Rattle.code_book.specs.Books.{Contracts}
use Rattle.op_rules.specs.declared.limits.TheConstants.{MOST_CALLS, MOST_ROOM}
use Rattle.op_rules.specs.declared.op.Op.{Op}
use Rattle.op_rules.specs.Course.{Failed, Past, Serial}
use Rattle.op_rules.specs.Operations.{first_of}
use Rattle.op_rules.specs.Serial.{begins_with, cells_after, cells_left, serial, serial_within}
use Rattle.op_rules.proofs.Along.{IsKept, keeps_transfers}

-- a failed operation leaves the cells as they were
pub left_if_failed : (opening : Contents) (s : Serial) (y : Why) → s.end ≡ Failed y → cells_after opening s ≡ opening
left_if_failed opening s y failed = ap (cells_left opening 0 s.course.past) failed

module _ (opening : Contents) where
  abbrev HasAll : Contents → Past → Type 0
  HasAll m past = supply m ≡ supply opening

  abbrev Owes : ℕ → Contents → Past → Type 0
  Owes n m past = supply m + n ≡ supply opening

  -- what is left has as much
  abbrev Stays : Serial → Type 0
  Stays s = supply (cells_after opening s) ≡ supply opening

  written : (c : Cell) (v : Option Val) (m : Contents) (past : Past) → IsWritable c → HasAll m past → supply (put m c v) ≡ supply opening
  written c v m past w h = let kept = kept_after (access.Write c v) m 0 w tt in omega (arith, kept, h)

  debited : (a : List ℕ) (n : ℕ) (m : Contents) (past : Past) → nat_lt (balance m a) n ≡ false → HasAll m past → Owes n (with_balance m a (balance m a - n)) past
  debited a n m past e h =
      let enough : n ≤ balance m a = not_less (balance m a) n e in
      let kept = supply-with_balance m a (balance m a - n) in
      omega (arith, enough, kept, h)

  credited : (a : List ℕ) (n : ℕ) (m : Contents) (past : Past) → Owes n m past → HasAll (with_balance m a (balance m a + n)) past
  credited a n m past h = let kept = supply-with_balance m a (balance m a + n) in omega (arith, kept, h)

  kept : IsKept HasAll Owes Stays
  kept = record {
    fails = λ y m c h. refl;
    owes = λ y n m c h. refl;
    applied = λ m c h. h;
    reads = λ c m past h. h;
    writes = written;
    low = λ a n m past e h. h;
    debits = debited;
    credits = credited;
  }

  pub supply_stays : (book : Contracts) (head : Head) (op : Op) → supply (cells_after opening (serial book head op opening)) ≡ supply opening
  unfolding serial serial_within
  supply_stays book head op =
      keeps_transfers HasAll Owes Stays kept book head op.source MOST_CALLS (first_of op ∷ []) opening (begins_with op MOST_ROOM) refl
