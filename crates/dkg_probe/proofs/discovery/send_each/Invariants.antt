use Rattle.std.proofs.Common.{◌≡◌, ◌++◌, map, take}
use Rattle.dkg_probe.specs.Probing.{latest_request}
use Rattle.dkg_probe.proofs.discovery.send_each.Given as goal

abbrev pub invariant-loop-dealer : goal.invariant-loop-dealer
invariant-loop-dealer g l = l.out.entries ≡ l.initial.out.entries ++ map latest_request (take l.dealer-index l.dealers)
