-- The pieces so far are the front of the whole; more rounds than bytes, and there was an error.
use Rattle.std.proofs.Common.{◌≡◌, ℕ, ◌+◌, ◌-◌, ◌^◌, ◌<◌, ◌≤◌, length, ap, sym, ◌∙◌, Bool, Result, Ok, Err, arith, inl, inr, ◌⊎◌}
use Rattle.std.specs.Global.{Vec}
use Rattle.std.specs.Result.{IsErrAnd, IsErrOf}
use Rattle.edge_io.specs.declared.files.ReadEnd.{ReadEnd}
use Rattle.edge_io.specs.declared.files.ReadEnd.TheVariants.{Failed}
use Rattle.edge_io.specs.Outside.{Rose, most_bytes}
use Rattle.edge_io.proofs.Reading.{nothing_read, whole_read, longer_read}
use Rattle.edge_io.proofs.disk.read_all.Goals as goal

-- what rose stays risen
still_risen : (before now later : ℕ) → Rose before now → now ≤ later → Rose before later
still_risen before now later rose le = omega arith

-- what rose had been no more before
risen_before : (first before now : ℕ) → first ≤ before → Rose before now → Rose first now
risen_before first before now le rose = omega arith

-- an end that is handed on
handed_on : (result : Result (Vec ℕ) ReadEnd) (end : ReadEnd) → IsErrAnd result (λ e. e ≡ end) → IsErrOf result Failed → IsErrOf {T = Bool} (Err end) Failed
handed_on (Ok v) end same told = absurd same
handed_on (Err e) end same told = let failed : e ≡ Failed = cc in ap (λ (x : ReadEnd). Err x) (sym same ∙ failed)

-- one round more gave a byte, or it ended in an error
round_more : (rounds length' more first before after : ℕ) → first ≤ before → (rounds ≤ length') ⊎ Rose first before → (length' < more) ⊎ Rose before after → before ≤ after → (rounds + 1 ≤ more) ⊎ Rose first after
round_more rounds length' more first before after low (inr rose) now le = inr (still_risen first before after rose le)
round_more rounds length' more first before after low (inl few) (inl longer) le = inl (omega arith)
round_more rounds length' more first before after low (inl few) (inr rose) le = inr (omega arith)

-- after so many rounds there are too many bytes
too_many : (rounds length' first now : ℕ) → 2 ^ 64 - 1 ≤ rounds → length' ≤ most_bytes → (rounds ≤ length') ⊎ Rose first now → Rose first now
too_many rounds length' first now all short (inl few) = omega arith
too_many rounds length' first now all short (inr rose) = rose

pub loop-init : goal.loop-init
loop-init g c =
    let none : length c.new-bytes.result.items ≡ 0 = ap length c.new-bytes.ensures.items in
    record {
      parts = rw c.new-bytes.ensures.items (nothing_read (g.P.Pieces.left c.args.pieces.now));
      short = omega arith;
      later = omega arith;
      rounds = inl (omega arith);
    }

pub loop-preserved : goal.loop-preserved
loop-preserved g c = record {
  parts = c.in_ok-more.ensures.read (g.P.Pieces.left c.args.pieces.now) c.loop.invariant.parts;
  short = omega arith;
  later = let so_far = c.loop.invariant.later in let now = c.in_ok-more.ensures.later in omega arith;
  rounds = round_more c.loop.counter _ _ _ _ _ c.loop.invariant.later c.loop.invariant.rounds (c.in_ok-more.ensures.more (cc)) c.in_ok-more.ensures.later;
}

pub returns-in_err-more-clause-failed : goal.returns-in_err-more-clause-failed
returns-in_err-more-clause-failed g c = λ told.
    risen_before _ _ _ c.loop.invariant.later
    (c.in_err-more.ensures.failed (handed_on c.from_residual-in_err-more.result c.in_err-more.field-0.0 c.from_residual-in_err-more.ensures.1 told))

pub returns-then-len-gt-MOST_BYTES-clause-long : goal.returns-then-len-gt-MOST_BYTES-clause-long
returns-then-len-gt-MOST_BYTES-clause-long g c = λ _. longer_read (g.P.Pieces.left c.args.pieces.now) (g.P.Pieces.left c.add_piece.new.self) c.add_piece.new.bytes.items most_bytes (c.in_ok-more.ensures.read (g.P.Pieces.left c.args.pieces.now) c.loop.invariant.parts) (omega arith)

pub returns-then-not-more-clause-whole : goal.returns-then-not-more-clause-whole
returns-then-not-more-clause-whole g c = whole_read (g.P.Pieces.left c.args.pieces.now) (g.P.Pieces.left c.add_piece.new.self) c.add_piece.new.bytes.items (c.in_ok-more.ensures.read (g.P.Pieces.left c.args.pieces.now) c.loop.invariant.parts) (c.in_ok-more.ensures.end (cc))
