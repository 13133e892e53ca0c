-- How a fuse goes on from call to call, whatever the devices tell.
use Rattle.std.specs.Prelude.{◌≡◌, ◌≤◌}
use Rattle.dkg_journal.specs.Burn.{Burn}

-- It is the same fuse, and it has counted no less.
pub record CountsOn (before now : Burn) : Type 0 where
  pub call : now.call ≡ before.call
  pub pick : now.pick ≡ before.pick
  pub later : before.spent ≤ now.spent
