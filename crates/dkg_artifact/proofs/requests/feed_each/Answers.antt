use Rattle.std.proofs.Common.{◌∙◌, ℕ, Option, ap, refl, sym}
use Rattle.dkg_artifact.specs.Requested.{fed_for}
use Rattle.dkg_artifact.proofs.Waiting.{all_known, begun, changed_from, fed_alone, goes_on, known_kept, stepped}
use Rattle.dkg_artifact.proofs.requests.feed_each.Goals as goal

pub loop-next-init : goal.loop-next-init
loop-next-init g c = record {
  left = begun c.args.numbers.now c.args.number (fed_for c.args.number c.args.block.now) (fed_alone c.args.number c.args.block.now) c.args.waiting.now.entries c.first_of-next.result (all_known c.args.numbers.now c.args.waiting.now c.requires.known) c.first_of-next.ensures;
  known = c.requires.known;
  same = refl;
}

pub loop-next-preserved : goal.loop-next-preserved
loop-next-preserved g c = record {
  left = ap (changed_from c.next_of-next.result (fed_for c.args.number c.args.block.now)) c.in_ok-feed_at.ensures.entries
      ∙ stepped c.args.numbers.now c.args.number (fed_for c.args.number c.args.block.now) (fed_alone c.args.number c.args.block.now) c.loop-next.waiting.entries c.in-Some.rank c.next_of-next.result
      (all_known c.args.numbers.now c.loop-next.waiting c.loop-next.invariant.known) c.next_of-next.ensures.next
      ∙ ap (λ (o : Option ℕ). changed_from o (fed_for c.args.number c.args.block.now) c.loop-next.waiting.entries) (sym c.in-Some.is)
      ∙ c.loop-next.invariant.left;
  known = known_kept c.args.numbers.now c.loop-next.waiting c.loop-next.invariant.known c.feed_at.new.waiting c.feed_at.ensures.ordered c.feed_at.ensures.numbers;
  same = c.feed_at.ensures.same ∙ c.loop-next.invariant.same;
}

pub loop-next-smaller : goal.loop-next-smaller
loop-next-smaller g c = goes_on c.args.numbers.now c.args.number c.in-Some.rank c.next_of-next.result c.loop-next.next c.next_of-next.ensures.fits c.next_of-next.ensures.next c.in-Some.is

pub returns-clause-values : goal.returns-clause-values
returns-clause-values g c = ap (λ (o : Option ℕ). changed_from o (fed_for c.args.number c.args.block.now) c.loop-next.waiting.entries) (sym c.in_default.is) ∙ c.loop-next.invariant.left

pub returns-in_err-feed_at-clause-known : goal.returns-in_err-feed_at-clause-known
returns-in_err-feed_at-clause-known g c = known_kept c.args.numbers.now c.loop-next.waiting c.loop-next.invariant.known c.feed_at.new.waiting c.feed_at.ensures.ordered c.feed_at.ensures.numbers

pub returns-clause-same : goal.returns-clause-same
returns-clause-same g c = c.loop-next.invariant.same

pub returns-in_err-feed_at-clause-same : goal.returns-in_err-feed_at-clause-same
returns-in_err-feed_at-clause-same g c = c.feed_at.ensures.same ∙ c.loop-next.invariant.same
