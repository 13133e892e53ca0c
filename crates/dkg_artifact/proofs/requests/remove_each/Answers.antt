use Rattle.std.proofs.Common.{◌≡◌, ◌∙◌, ℕ, List, ap, filter, sym, true}
use Rattle.std.specs.BTreeMap.{get, is_at}
use Rattle.std.specs.Map.{values_of}
use Rattle.std.specs.Ordering.{nat_cmp}
use Rattle.dkg_artifact.specs.Requested.{WaitingRequest, is_other}
use Rattle.dkg_artifact.specs.Ranks.{is_of}
use Rattle.dkg_artifact.proofs.Waiting.{all_known, fewer, known_taken, none_left}
use Rattle.dkg_artifact.proofs.requests.remove_each.Goals as goal

pub loop-rank-preserved : goal.loop-rank-preserved
loop-rank-preserved g c =
    let of_number : is_of c.args.number (get nat_cmp c.loop-rank.waiting c.in-Some.rank) ≡ true = sym (c.loop-rank.invariant.known.1 c.args.number c.in-Some.rank) ∙ c.in-Some.ensures.1 in
    record {
      left = ap (λ (es : List (ℕ × WaitingRequest g.row.Dir.Denot)). filter (is_other c.args.number) (values_of es)) c.remove.ensures.entries
          ∙ fewer (is_at (nat_cmp c.in-Some.rank)) c.args.number c.loop-rank.waiting.entries of_number
          ∙ c.loop-rank.invariant.left;
      known = known_taken c.loop-rank.numbers c.loop-rank.waiting c.loop-rank.invariant.known c.remove-in-Some.new.self c.remove.new.self c.args.number c.in-Some.rank of_number c.remove-in-Some.ensures.updates.0 c.remove.ensures.updates.0 c.remove.ensures.ordered;
    }

pub returns-clause-values : goal.returns-clause-values
returns-clause-values g c =
    sym (none_left c.loop-rank.numbers c.args.number c.loop-rank.waiting.entries (all_known c.loop-rank.numbers c.loop-rank.waiting c.loop-rank.invariant.known) c.in_default.ensures)
    ∙ c.loop-rank.invariant.left
