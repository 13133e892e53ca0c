use Rattle.std.proofs.Common.{◌≡◌, take, drop}
use Rattle.dkg_ceremony.specs.Finishes.{first_missing, known_privates, private_in}
use Rattle.dkg_ceremony.proofs.finish.privates_of.Given as goal

abbrev pub invariant-loop-dealer : goal.invariant-loop-dealer
invariant-loop-dealer l = record {
  known : first_missing (private_in l.players l.me l.dealings l.logs) (drop l.dealer-index l.selected) ≡ first_missing (private_in l.players l.me l.dealings l.logs) l.selected;
  is : l.privates.items ≡ known_privates (private_in l.players l.me l.dealings l.logs) (take l.dealer-index l.selected);
}
