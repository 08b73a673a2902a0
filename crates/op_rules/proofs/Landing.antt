-- The accesses of an operation get their replies on the opening cells, and what is applied is what they leave.
use Rattle.std.proofs.Common.{◌≡◌, ◌-◌, Bool, [], ◌∷◌, ◌++◌, refl, sym, ap, ◌∙◌}
use Rattle.std.specs.Prelude.{if◌then◌else◌}
use Rattle.cell_names.specs.declared.access.Access.{Access}
use Rattle.cell_names.specs.declared.access.Access.TheVariants as access
use Rattle.cell_names.specs.declared.access.Reply.{Reply}
use Rattle.cell_names.specs.declared.access.Reply.TheVariants as reply
use Rattle.cell_names.specs.declared.head.Head.{Head}
use Rattle.cell_names.specs.Contents.{Contents, balance, with_balance}
use Rattle.cell_names.specs.Effects.{after, reply_to}
use Rattle.code_book.specs.Books.{Contracts}
use Rattle.op_rules.specs.declared.op.Op.{Op}
use Rattle.op_rules.specs.Course.{Past}
use Rattle.op_rules.specs.Laws.{GetsReplies}
use Rattle.op_rules.specs.Operations.{first_of}
use Rattle.op_rules.specs.Replies.{Gives, after_all}
use Rattle.op_rules.specs.Serial.{begins_with, serial, serial_within}
use Rattle.op_rules.specs.declared.limits.TheConstants.{MOST_CALLS, MOST_ROOM}
use Rattle.op_rules.proofs.Along.{IsKept, keeps_transfers, noted}

pub after_all-push : (past : Past) (a : Access) (r : Reply) (m : Contents) → after_all (past ++ (a, r) ∷ []) m ≡ after a (after_all past m)
after_all-push [] a r m = refl
after_all-push (e ∷ past) a r m = after_all-push past a r (after e.0 m)

pub gives-push : (past : Past) (a : Access) (r : Reply) (m : Contents) → Gives past m → reply_to a (after_all past m) ≡ r → Gives (past ++ (a, r) ∷ []) m
gives-push [] a r m h e = (e, tt)
gives-push (x ∷ past) a r m h e = (h.0, gives-push past a r (after x.0 m) h.1 e)

module _ (opening : Contents) where
  -- the cells are those that the accesses leave, with these replies
  record IsLeft (m : Contents) (past : Past) : Type 0 where
    replies : Gives past opening
    cells : m ≡ after_all past opening

  left_more : (a : Access) (r : Reply) (m n : Contents) (past : Past) → IsLeft m past → reply_to a m ≡ r → after a m ≡ n → IsLeft n (noted past a r)
  left_more a r m n past h e f = record {
    replies = gives-push past a r opening h.replies (ap (reply_to a) (sym h.cells) ∙ e);
    cells = sym (after_all-push past a r opening ∙ ap (after a) (sym h.cells) ∙ f);
  }

  kept : IsKept IsLeft (λ n. IsLeft) (GetsReplies opening)
  kept = record {
    fails = λ y m c h. record { replies = h.replies; lands = tt };
    owes = λ y n m c h. record { replies = h.replies; lands = tt };
    applied = λ m c h. record { replies = h.replies; lands = h.cells };
    reads = λ c m past h. left_more (access.Read c) _ m m past h refl refl;
    writes = λ c v m past w h. left_more (access.Write c v) reply.Done m _ past h refl refl;
    low = λ a n m past e h.
        left_more (access.Debit a n) reply.Low m m past h (ap (λ (b : Bool). if b then reply.Low else reply.Done) e)
        (ap (λ (b : Bool). if b then m else with_balance m a (balance m a - n)) e);
    debits = λ a n m past e h.
        left_more (access.Debit a n) reply.Done m (with_balance m a (balance m a - n)) past h (ap (λ (b : Bool). if b then reply.Low else reply.Done) e)
        (ap (λ (b : Bool). if b then m else with_balance m a (balance m a - n)) e);
    credits = λ a n m past h. left_more (access.Credit a n) reply.Done m _ past h refl refl;
  }

  pub gets_replies : (book : Contracts) (head : Head) (op : Op) → GetsReplies opening (serial book head op opening)
  unfolding serial serial_within
  gets_replies book head op =
      keeps_transfers IsLeft (λ n. IsLeft) (GetsReplies opening) kept book head op.source MOST_CALLS (first_of op ∷ []) opening (begins_with op MOST_ROOM)
      (record { replies = tt; cells = refl })
