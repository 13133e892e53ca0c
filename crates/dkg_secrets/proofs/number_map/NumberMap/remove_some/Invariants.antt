use Rattle.std.proofs.Common.{◌≡◌, ◌<◌, ◌+◌, ◌%◌, drop}
use Rattle.dkg_secrets.specs.Cuts.{cleared}
use Rattle.dkg_secrets.proofs.number_map.NumberMap.remove_some.Given as goal

abbrev pub invariant-loop-key : goal.invariant-loop-key
invariant-loop-key g l = record {
  rest : cleared l.pick l.index (drop l.key-index l.keys) l.self ≡ cleared l.pick l.first l.keys l.initial.self;
  below : l.index < 64;
  turned : l.index ≡ (l.first + l.key-index) % 64;
}
