-- Between two lives: to live the rest from here is to live all, over the lines and over both devices, and nothing of the disk is loose.
use Rattle.std.proofs.Common.{◌≡◌, [], ℕ, List}
use Rattle.std.specs.Prelude.{IsTrue}
use Rattle.dkg_store.specs.Acts.{Stands}
use Rattle.dkg_store.specs.Corrupt.{AreFit}
use Rattle.dkg_lives.specs.Given.{limits_of}
use Rattle.dkg_lives.specs.Lives.{AnyFiles}
use Rattle.dkg_lives.specs.Moving.{Went, world_of}
use Rattle.dkg_lives.specs.Ways.{by_entries, by_worlds, trace}
use Rattle.dkg_run.proofs.Running.{LivesOn}
use Rattle.dkg_run.proofs.lives.run_all.Given as goal

abbrev pub invariant-loop-i : goal.invariant-loop-i
invariant-loop-i g l = record {
  lines : (picks : List ℕ) × Went g.D.Disk.tells g.D.Disk.made g.X.SecretStore.made g.D.Disk.faults g.X.SecretStore.faults l.initial.devices l.devices picks
      × LivesOn by_entries l.script AnyFiles l.script.lives (trace l.initial.out.entries []) l.i AnyFiles (trace l.out.entries picks);
  run : IsTrue g.D.Disk.tells → IsTrue g.X.SecretStore.tells → Stands (g.D.Disk.files l.initial.devices.disk.now) (g.D.Disk.image l.initial.devices.disk.now)
      → LivesOn by_worlds l.script (λ files. files ≡ g.D.Disk.files l.initial.devices.disk.now) l.script.lives
      (world_of g.X.SecretStore.held l.initial.devices l.initial.out.entries (g.D.Disk.files l.initial.devices.disk.now)) l.i (λ files. files ≡ g.D.Disk.files l.devices.disk.now)
      (world_of g.X.SecretStore.held l.devices l.out.entries (g.D.Disk.files l.devices.disk.now));
  stands : IsTrue g.D.Disk.tells → Stands (g.D.Disk.files l.initial.devices.disk.now) (g.D.Disk.image l.initial.devices.disk.now)
      → Stands (g.D.Disk.files l.devices.disk.now) (g.D.Disk.image l.devices.disk.now);
  fit : IsTrue g.D.Disk.tells → AreFit (limits_of l.script).limit (g.D.Disk.image l.initial.devices.disk.now) → AreFit (limits_of l.script).limit (g.D.Disk.image l.devices.disk.now);
}
