use Rattle.std.proofs.Common.{◌∙◌, ap, sym}
use Rattle.std.specs.BTreeMap.{is_at}
use Rattle.std.specs.Map.{set_value}
use Rattle.std.specs.Option.{option_copied_mut}
use Rattle.std.specs.Ordering.{nat_cmp}
use Rattle.dkg_artifact.specs.Requested.{WaitingRequest, ended_for}
use Rattle.dkg_artifact.proofs.Waiting.{changed_none, changed_written}
use Rattle.dkg_artifact.proofs.requests.end_at.Goals as goal

pub returns-in-Some-clause-entries : goal.returns-in-Some-clause-entries
returns-in-Some-clause-entries g c =
    (c.get_mut.follows.holds c.end.new.self).0
    ∙ ap (λ (r : WaitingRequest g.row.Dir.Denot). set_value (is_at (nat_cmp c.args.rank)) c.args.waiting.now.entries r) c.end.ensures
    ∙ changed_written c.args.rank (ended_for c.args.number) c.args.waiting.now.entries c.in-Some.request.now c.get_mut.ensures.ordered (ap option_copied_mut (sym c.in-Some.is) ∙ c.get_mut.ensures.value)

pub returns-in_default-clause-entries : goal.returns-in_default-clause-entries
returns-in_default-clause-entries g c =
    ap (λ m. m.entries) c.get_mut.follows.holds-at-none
    ∙ changed_none c.args.rank (ended_for c.args.number) c.args.waiting.now.entries (ap option_copied_mut (sym c.in_default.is) ∙ c.get_mut.ensures.value)
