-- After each event the node is ready for the next over the same devices, and to take the rest from here is to take all events.
use Rattle.std.proofs.Common.{◌≡◌, [], ℕ, List}
use Rattle.std.specs.Prelude.{IsTrue}
use Rattle.std.specs.Int.NonZero.{non_zero_u32_get}
use Rattle.dkg_infos.specs.declared.directory.Unit as directory
use Rattle.dkg_store.specs.Corrupt.{AreFit}
use Rattle.dkg_core.specs.Live.{Live}
use Rattle.dkg_lives.specs.Epochs.{IsAtEvent, IsLifeInForm}
use Rattle.dkg_lives.specs.Given.{Lived}
use Rattle.dkg_lives.specs.Moving.{Went, world_of}
use Rattle.dkg_node.specs.Nodes.{IsOfLife, IsReadyNode, IsStepHere, IsView}
use Rattle.dkg_lives.specs.Ways.{by_entries, by_worlds, trace}
use Rattle.dkg_around.proofs.Stepping.{TakenOn}
use Rattle.dkg_run.proofs.StepsOn.{IsHere}
use Rattle.dkg_run.proofs.lives.take_steps.Given as goal

abbrev pub invariant-loop-i : goal.invariant-loop-i
invariant-loop-i g l = record {
  ready : IsReadyNode g.D.Disk.tells g.D.Disk.files g.D.Disk.image l.node l.devices;
  terms : l.node.actor.terms ≡ l.initial.node.actor.terms;
  of : (lived : Lived) → IsOfLife lived l.initial.node → IsOfLife lived l.node;
  blocks : l.source.blocks ≡ l.initial.source.blocks;
  went : Went g.D.Disk.tells g.D.Disk.made g.X.SecretStore.made g.D.Disk.faults g.X.SecretStore.faults l.initial.devices l.devices [];
  fit : IsTrue g.D.Disk.tells → AreFit (non_zero_u32_get l.initial.node.actor.terms.limit) (g.D.Disk.image l.initial.devices.disk.now)
      → AreFit (non_zero_u32_get l.initial.node.actor.terms.limit) (g.D.Disk.image l.devices.disk.now);
  lines : (lived : Lived) (st : Live directory.Unit) (picks : List ℕ) → IsLifeInForm lived → IsStepHere lived l.initial.node l.initial.source.blocks.now l.life → IsView l.initial.node st → IsAtEvent lived 0 st
      → TakenOn by_entries lived l.life.events st (trace l.initial.out.entries picks) l.i (IsHere lived l.node l.i) (trace l.out.entries picks);
  run : IsTrue g.D.Disk.tells → IsTrue g.X.SecretStore.tells → (lived : Lived) (st : Live directory.Unit) → IsLifeInForm lived → IsStepHere lived l.initial.node l.initial.source.blocks.now l.life
      → IsView l.initial.node st → IsAtEvent lived 0 st → TakenOn by_worlds lived l.life.events st
      (world_of g.X.SecretStore.held l.initial.devices l.initial.out.entries (g.D.Disk.files l.initial.devices.disk.now)) l.i (IsHere lived l.node l.i)
      (world_of g.X.SecretStore.held l.devices l.out.entries (g.D.Disk.files l.devices.disk.now));
}
