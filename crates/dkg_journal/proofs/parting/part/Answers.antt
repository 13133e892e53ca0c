use Rattle.std.proofs.Common.{[], inr}
use Rattle.dkg_journal.proofs.Reading.{front_none, front_more, broken_length, broken_body}
use Rattle.dkg_journal.proofs.Parted.{part_more}
use Rattle.dkg_journal.proofs.parting.part.Goals as goal

pub loop-after-init : goal.loop-after-init
loop-after-init c = ([], front_none 8 _, c.new-segments.ensures)

pub loop-after-preserved : goal.loop-after-preserved
loop-after-preserved c =
    let split = c.in-Some-split_record.ensures.found in
    let found = c.in-Some-u64_at.ensures.found in
    let at = c.loop-after.invariant in
    (_, front_more 8 at.0 _ _ _ _ c.in-Some-split_record.body.now _ at.1 c.in-Some.ensures.open split.0 (found.0, split.1), part_more at.0 _ _ c.in-Some-split_record.body.now _ _ at.2 found.1 found.2 c.in_ok-add_record.ensures)

pub returns-in_default-split_record-clause-broken : goal.returns-in_default-split_record-clause-broken
returns-in_default-split_record-clause-broken c =
    inr (_, c.corrupt.ensures, broken_length 8 _ _ _ _ _ c.loop-after.invariant.1 c.in-Some.ensures.open c.in_default-split_record.ensures.none)

pub returns-in_default-u64_at-clause-broken : goal.returns-in_default-u64_at-clause-broken
returns-in_default-u64_at-clause-broken c =
    let split = c.in-Some-split_record.ensures.found in
    inr (_, c.corrupt-in_default-u64_at.ensures, broken_body 8 _ _ _ _ _ _ _ c.loop-after.invariant.1 c.in-Some.ensures.open split.0 split.1 c.in_default-u64_at.ensures.none)

pub returns-clause-parted : goal.returns-clause-parted
returns-clause-parted c = (c.loop-after.invariant.0, _, record { rest = _; front = c.loop-after.invariant.1; ends = c.in_default.ensures.shut }, c.loop-after.invariant.2)
