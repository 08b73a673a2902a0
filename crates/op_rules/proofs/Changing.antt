-- A cell that an operation changed stands in its footprint as credited or owned.
use Rattle.std.proofs.Common.{◌≡◌, ◌≢◌, ℕ, ◌+◌, ◌-◌, Bool, true, false, cond, Option, Some, None, List, [], ◌∷◌, ◌++◌, refl, sym, ap, subst, ◌∙◌}
use Rattle.std.specs.Prelude.{IsTrue}
use Rattle.std.specs.FinMap.{get}
use Rattle.std.specs.FinMap.Entries.{find-put}
use Rattle.value_core.specs.declared.val.Val.{Val}
use Rattle.cell_names.specs.declared.access.Access.{Access}
use Rattle.cell_names.specs.declared.access.Access.TheVariants as access
use Rattle.cell_names.specs.declared.access.Reply.{Reply}
use Rattle.cell_names.specs.declared.access.Reply.TheVariants as reply
use Rattle.cell_names.specs.declared.cell.Cell.{Cell}
use Rattle.cell_names.specs.declared.cell.Cell.TheVariants as cell
use Rattle.cell_names.specs.declared.head.Head.{Head}
use Rattle.cell_names.specs.declared.mode.Mode.{Mode}
use Rattle.cell_names.specs.declared.mode.Mode.TheVariants.{Read, Credit, Own}
use Rattle.cell_names.specs.Cells.{cell_cmp}
use Rattle.cell_names.specs.CellOrder.{cell_cmp-total}
use Rattle.cell_names.specs.Conditions.{IsWritable}
use Rattle.cell_names.specs.Contents.{Contents, amount_kept, balance, put, with_balance}
use Rattle.cell_names.specs.Effects.{cell_of, mode_needed}
use Rattle.cell_names.specs.Footprints.{further, mode_of, touched}
use Rattle.cell_names.proofs.Puts.{get-put, get-with_balance, is_one, one_from}
use Rattle.code_book.specs.Books.{Contracts}
use Rattle.op_rules.specs.declared.limits.TheConstants.{MOST_CALLS, MOST_ROOM}
use Rattle.op_rules.specs.declared.op.Op.{Op}
use Rattle.op_rules.specs.Course.{Past, footprint_from, footprint_of}
use Rattle.op_rules.specs.Laws.{ChangesAreTouched, may_change}
use Rattle.op_rules.specs.Operations.{first_of}
use Rattle.op_rules.specs.Serial.{begins_with, serial, serial_within}
use Rattle.op_rules.proofs.Along.{IsKept, keeps_transfers, noted}

-- ---- one touch more

footprint_from-push : (f : List (Cell × Mode)) (past : Past) (a : Access) (r : Reply) → footprint_from f (past ++ (a, r) ∷ []) ≡ touched (footprint_from f past) (cell_of a) (mode_needed a)
footprint_from-push f [] a r = refl
footprint_from-push f (e ∷ past) a r = footprint_from-push (touched f (cell_of e.0) (mode_needed e.0)) past a r

pub footprint_of-push : (past : Past) (a : Access) (r : Reply) → footprint_of (past ++ (a, r) ∷ []) ≡ touched (footprint_of past) (cell_of a) (mode_needed a)
footprint_of-push = footprint_from-push []

mode_of-touched : (f : List (Cell × Mode)) (c q : Cell) (m : Mode) → mode_of (touched f c m) q ≡ cond (is_one q c) (Some (further (mode_of f c) m)) (mode_of f q)
mode_of-touched f c q m = find-put cell_cmp cell_cmp-total q c (further (mode_of f c) m) f

further_changes : (o : Option Mode) (m : Mode) → may_change (Some m) ≡ true → may_change (Some (further o m)) ≡ true
further_changes None m e = e
further_changes (Some Read) Read e = e
further_changes (Some Read) Credit e = refl
further_changes (Some Read) Own e = refl
further_changes (Some Credit) Read e = refl
further_changes (Some Credit) Credit e = refl
further_changes (Some Credit) Own e = refl
further_changes (Some Own) Read e = refl
further_changes (Some Own) Credit e = refl
further_changes (Some Own) Own e = refl

changed_further : (o : Option Mode) (m : Mode) → may_change o ≡ true → may_change (Some (further o m)) ≡ true
changed_further None m e = absurd cc
changed_further (Some Read) m e = absurd cc
changed_further (Some Credit) Read e = refl
changed_further (Some Credit) Credit e = refl
changed_further (Some Credit) Own e = refl
changed_further (Some Own) Read e = refl
changed_further (Some Own) Credit e = refl
changed_further (Some Own) Own e = refl

-- what may have changed still may
still : (f : List (Cell × Mode)) (c q : Cell) (m : Mode) (b : Bool) → is_one q c ≡ b → may_change (mode_of f q) ≡ true → may_change (cond b (Some (further (mode_of f c) m)) (mode_of f q)) ≡ true
still f c q m true one e = changed_further (mode_of f c) m (ap (λ (x : Cell). may_change (mode_of f x)) (sym (one_from q c one)) ∙ e)
still f c q m false one e = e

module _ (opening : Contents) where
  abbrev pub Told : Contents → Past → Type 0
  Told m past = (c : Cell) → get m c ≢ get opening c → IsTrue (may_change (mode_of (footprint_of past) c))

  abbrev ToldAt : Past → Cell → Option Val → Type 0
  ToldAt past q o = o ≢ get opening q → IsTrue (may_change (mode_of (footprint_of past) q))

  told_same : (a : Access) (r : Reply) (past : Past) (q : Cell) → IsTrue (may_change (mode_of (footprint_of past) q)) → IsTrue (may_change (mode_of (footprint_of (noted past a r)) q))
  told_same a r past q h =
      ap (λ (f : List (Cell × Mode)). may_change (mode_of f q)) (footprint_of-push past a r)
      ∙ ap may_change (mode_of-touched (footprint_of past) (cell_of a) q (mode_needed a))
      ∙ still (footprint_of past) (cell_of a) q (mode_needed a) (is_one q (cell_of a)) refl h

  -- a cell that is put is told, and others were
  told_put : (a : Access) (r : Reply) (past : Past) (m : Contents) (q : Cell) (o : Option Val) → may_change (Some (mode_needed a)) ≡ true → Told m past → (b : Bool) → is_one q (cell_of a) ≡ b →
      ToldAt (noted past a r) q (cond b o (get m q))
  told_put a r past m q o changes h true one differs =
      ap (λ (f : List (Cell × Mode)). may_change (mode_of f q)) (footprint_of-push past a r)
      ∙ ap may_change (mode_of-touched (footprint_of past) (cell_of a) q (mode_needed a))
      ∙ ap (λ (b : Bool). may_change (cond b (Some (further (mode_of (footprint_of past) (cell_of a)) (mode_needed a))) (mode_of (footprint_of past) q))) one
      ∙ further_changes (mode_of (footprint_of past) (cell_of a)) (mode_needed a) changes
  told_put a r past m q o changes h false one differs = told_same a r past q (h q differs)

  written : (c : Cell) (v : Option Val) (m : Contents) (past : Past) → IsWritable c → Told m past → Told (put m c v) (noted past (access.Write c v) reply.Done)
  written c v m past w h q =
      subst (ToldAt (noted past (access.Write c v) reply.Done) q) (sym (get-put m c v q)) (told_put (access.Write c v) reply.Done past m q v refl h (is_one q c) refl)

  balanced : (a : Access) (r : Reply) (address : List ℕ) (n : ℕ) (m : Contents) (past : Past) → cell_of a ≡ cell.Balance address → may_change (Some (mode_needed a)) ≡ true → Told m past →
      Told (with_balance m address n) (noted past a r)
  balanced a r address n m past here changes h q =
      subst (ToldAt (noted past a r) q) (sym (get-with_balance m address n q ∙ ap (λ (x : Cell). cond (is_one q x) (amount_kept n) (get m q)) (sym here)))
      (told_put a r past m q (amount_kept n) changes h (is_one q (cell_of a)) refl)

  kept : IsKept Told (λ n. Told) (ChangesAreTouched opening)
  kept = record {
    fails = λ y m c h q differs. absurd (differs refl);
    owes = λ y n m c h q differs. absurd (differs refl);
    applied = λ m c h. h;
    reads = λ c m past h q differs. told_same (access.Read c) _ past q (h q differs);
    writes = written;
    low = λ a n m past e h q differs. told_same (access.Debit a n) reply.Low past q (h q differs);
    debits = λ a n m past e h. balanced (access.Debit a n) reply.Done a (balance m a - n) m past refl refl h;
    credits = λ a n m past h. balanced (access.Credit a n) reply.Done a (balance m a + n) m past refl refl h;
  }

  pub changes_are_touched : (book : Contracts) (head : Head) (op : Op) → ChangesAreTouched opening (serial book head op opening)
  unfolding serial serial_within
  changes_are_touched book head op =
      keeps_transfers Told (λ n. Told) (ChangesAreTouched opening) kept book head op.source MOST_CALLS (first_of op ∷ []) opening (begins_with op MOST_ROOM)
      (λ q differs. absurd (differs refl))
