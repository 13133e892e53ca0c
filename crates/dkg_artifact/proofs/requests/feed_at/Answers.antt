use Rattle.std.proofs.Common.{◌∙◌, ℕ, List, ap, map, sym}
use Rattle.std.specs.BTreeMap.{is_at}
use Rattle.std.specs.Map.{set_value, values_of}
use Rattle.std.specs.Option.{option_copied_mut}
use Rattle.std.specs.Ordering.{nat_cmp}
use Rattle.dkg_artifact.specs.Requested.{WaitingRequest, fed_for}
use Rattle.dkg_artifact.proofs.Waiting.{changed_none, changed_written, on_ok_as, same_number}
use Rattle.dkg_artifact.proofs.requests.feed_at.Goals as goal

pub returns-in-Some-clause-entries : goal.returns-in-Some-clause-entries
returns-in-Some-clause-entries g c = on_ok_as c.feed.result (λ fed.
    (c.get_mut.follows.holds c.feed.new.self).0
    ∙ ap (λ (r : WaitingRequest g.row.Dir.Denot). set_value (is_at (nat_cmp c.args.rank)) c.args.waiting.now.entries r) fed
    ∙ changed_written c.args.rank (fed_for c.args.number c.args.block.now) c.args.waiting.now.entries c.in-Some.request.now c.get_mut.ensures.ordered (ap option_copied_mut (sym c.in-Some.is) ∙ c.get_mut.ensures.value)) c.feed.ensures.ok

pub returns-in-None-clause-entries : goal.returns-in-None-clause-entries
returns-in-None-clause-entries g c =
    ap (λ m. m.entries) c.get_mut.follows.holds-at-none
    ∙ changed_none c.args.rank (fed_for c.args.number c.args.block.now) c.args.waiting.now.entries (ap option_copied_mut (sym c.in-None.is) ∙ c.get_mut.ensures.value)

pub returns-in-Some-clause-same : goal.returns-in-Some-clause-same
returns-in-Some-clause-same g c =
    ap (λ (es : List (ℕ × WaitingRequest g.row.Dir.Denot)). map (λ (r : WaitingRequest g.row.Dir.Denot). r.number) (values_of es)) (c.get_mut.follows.holds c.feed.new.self).0
    ∙ same_number (is_at (nat_cmp c.args.rank)) c.args.waiting.now.entries c.in-Some.request.now c.feed.new.self (ap option_copied_mut (sym c.in-Some.is) ∙ c.get_mut.ensures.value) c.feed.ensures.number

pub returns-in-None-clause-same : goal.returns-in-None-clause-same
returns-in-None-clause-same g c = ap (λ (es : List (ℕ × WaitingRequest g.row.Dir.Denot)). map (λ (r : WaitingRequest g.row.Dir.Denot). r.number) (values_of es)) (ap (λ m. m.entries) c.get_mut.follows.holds-at-none)
