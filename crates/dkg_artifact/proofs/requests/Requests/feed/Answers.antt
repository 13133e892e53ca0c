use Rattle.std.proofs.Common.{◌∙◌, List, ap, map, reverse, sym}
use Rattle.std.specs.BTreeMap.{values}
use Rattle.dkg_artifact.specs.Requested.{WaitingRequest, fed_for}
use Rattle.dkg_artifact.proofs.Waiting.{on_ok_as, reverse_map}
use Rattle.dkg_artifact.proofs.requests.Requests.feed.Goals as goal

pub returns : goal.returns
returns g c = record {
  ok = on_ok_as c.feed_each.result (λ is.
      ap reverse is
      ∙ reverse_map (fed_for c.args.number c.args.block.now) (values c.self.inside.waiting)
      ∙ ap (λ (l : List (WaitingRequest g.row.Dir.Denot)). map (fed_for c.args.number c.args.block.now) l) c.self.view_is) c.feed_each.ensures.values;
  same =
      sym (reverse_map (λ (r : WaitingRequest g.row.Dir.Denot). r.number) (values c.feed_each.new.waiting))
      ∙ ap reverse c.feed_each.ensures.same
      ∙ reverse_map (λ (r : WaitingRequest g.row.Dir.Denot). r.number) (values c.self.inside.waiting)
      ∙ ap (λ (l : List (WaitingRequest g.row.Dir.Denot)). map (λ (r : WaitingRequest g.row.Dir.Denot). r.number) l) c.self.view_is;
}
