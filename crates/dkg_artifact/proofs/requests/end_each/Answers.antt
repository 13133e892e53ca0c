use Rattle.std.proofs.Common.{◌∙◌, ℕ, Option, ap, sym}
use Rattle.dkg_artifact.specs.Requested.{ended_for}
use Rattle.dkg_artifact.proofs.Waiting.{all_known, begun, changed_from, ended_alone, goes_on, known_kept, stepped}
use Rattle.dkg_artifact.proofs.requests.end_each.Goals as goal

pub loop-next-init : goal.loop-next-init
loop-next-init g c = record {
  left = begun c.args.numbers.now c.args.number (ended_for c.args.number) (ended_alone c.args.number) c.args.waiting.now.entries c.first_of-next.result (all_known c.args.numbers.now c.args.waiting.now c.requires.known) c.first_of-next.ensures;
  known = c.requires.known;
}

pub loop-next-preserved : goal.loop-next-preserved
loop-next-preserved g c = record {
  left = ap (changed_from c.next_of-next.result (ended_for c.args.number)) c.end_at.ensures.entries
      ∙ stepped c.args.numbers.now c.args.number (ended_for c.args.number) (ended_alone c.args.number) c.loop-next.waiting.entries c.in-Some.rank c.next_of-next.result
      (all_known c.args.numbers.now c.loop-next.waiting c.loop-next.invariant.known) c.next_of-next.ensures.next
      ∙ ap (λ (o : Option ℕ). changed_from o (ended_for c.args.number) c.loop-next.waiting.entries) (sym c.in-Some.is)
      ∙ c.loop-next.invariant.left;
  known = known_kept c.args.numbers.now c.loop-next.waiting c.loop-next.invariant.known c.end_at.new.waiting c.end_at.ensures.ordered c.end_at.ensures.numbers;
}

pub loop-next-smaller : goal.loop-next-smaller
loop-next-smaller g c = goes_on c.args.numbers.now c.args.number c.in-Some.rank c.next_of-next.result c.loop-next.next c.next_of-next.ensures.fits c.next_of-next.ensures.next c.in-Some.is

pub returns-clause-values : goal.returns-clause-values
returns-clause-values g c = ap (λ (o : Option ℕ). changed_from o (ended_for c.args.number) c.loop-next.waiting.entries) (sym c.in_default.is) ∙ c.loop-next.invariant.left
