use Rattle.std.proofs.Common.{◌≡◌, drop}
use Rattle.std.specs.List.{list_any}
use Rattle.dkg_ceremony.specs.Outcomes.{reveals_at}
use Rattle.dkg_ceremony.proofs.combine.is_revealed.Given as goal

abbrev pub invariant-loop-dealer : goal.invariant-loop-dealer
invariant-loop-dealer l = list_any (reveals_at l.logs l.index) (drop l.dealer-index l.selected) ≡ list_any (reveals_at l.logs l.index) l.selected
