-- One more bucket is hashed, where it is marked.
use Rattle.std.proofs.Common.{◌≡◌, ◌+◌, ◌≤◌, arith, subst, sym}
use Rattle.state_digest.specs.Digest.{text_of}
use Rattle.state_digest.specs.Digests.{how_many}
use Rattle.state_digest.specs.Texts.{HoldsText}
use Rattle.state_digest.proofs.Gathering.{none_counted, none_hashed, one_counted, one_hashed}
use Rattle.state_digest.proofs.buckets.hash_marked.Goals as goal

pub loop-k-init : goal.loop-k-init
loop-k-init g c = record {
  hashed = λ marks cells hold. none_hashed marks cells c.args.digests.now;
  steps = λ marks cells hold. none_counted marks c.args.steps.now;
}

pub loop-k-preserved : goal.loop-k-preserved
loop-k-preserved g c =
    let k = c.loop-k.k in
    let b = c.index-buckets-k.result in
    record {
      hashed = λ marks cells hold.
          one_hashed marks cells k c.args.digests.now c.loop-k.digests b c.hash.new.digest _ (c.loop-k.invariant.hashed marks cells hold)
          (subst (HoldsText (marks k) (text_of k cells)) (sym c.index-buckets-k.is) (hold.each k b c.loop-k-test.true)) (omega arith) c.hash.ensures.digest;
      steps = λ marks cells hold.
          one_counted marks k c.hash.new.steps c.loop-k.steps c.args.steps.now (text_of k cells) b
          (subst (HoldsText (marks k) (text_of k cells)) (sym c.index-buckets-k.is) (hold.each k b c.loop-k-test.true))
          (c.loop-k.invariant.steps marks cells hold) c.hash.ensures.steps;
    }

pub returns-clause-digests : goal.returns-clause-digests
returns-clause-digests g c = λ marks cells hold k d lt.
    let past : 256 ≤ c.loop-k.k = c.loop-k-test.false in
    (c.loop-k.invariant.hashed marks cells hold).done k d (omega arith)

pub returns-clause-steps : goal.returns-clause-steps
returns-clause-steps g c = λ marks cells hold.
    let past : c.loop-k.k ≡ 256 = omega arith in
    subst (λ n. c.loop-k.steps ≡ c.args.steps.now + how_many marks n) past (c.loop-k.invariant.steps marks cells hold)
