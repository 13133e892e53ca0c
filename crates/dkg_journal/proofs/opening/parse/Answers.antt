use Rattle.std.proofs.Common.{inr, refl, ◌∙◌}
use Rattle.dkg_journal.proofs.Reading.{gated_none, gated_more, broken_length}
use Rattle.dkg_journal.proofs.opening.parse.Goals as goal

pub loop-after-init : goal.loop-after-init
loop-after-init c = gated_none _ _ _ _ refl

pub loop-after-preserved : goal.loop-after-preserved
loop-after-preserved c =
    let split = c.in-Some-split_record.ensures.found in
    gated_more _ _ _ _ _ _ _ _ _ _ _ c.loop-after.invariant c.in-Some.ensures.open split.0 split.1 refl refl (c.new.ensures ∙ c.in_ok-from_slice.ensures.items) c.in_ok-push.ensures.items

pub returns-in_default-split_record-clause-broken : goal.returns-in_default-split_record-clause-broken
returns-in_default-split_record-clause-broken c =
    inr (_, c.corrupt.ensures, broken_length 0 _ _ _ _ _ c.loop-after.invariant.front c.in-Some.ensures.open c.in_default-split_record.ensures.none)

pub returns-clause-whole : goal.returns-clause-whole
returns-clause-whole c = (c.loop-after.invariant.bs, record { rest = _; front = c.loop-after.invariant.front; ends = c.in_default.ensures.shut }, c.loop-after.invariant.gates)
