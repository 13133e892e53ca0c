-- What holds of a life and its devices between two calls, and what an error blames.
use Rattle.std.specs.Prelude.{Bool, ℕ, ◌≡◌, IsSome, IsTrue}
use Rattle.std.specs.Int.NonZero.{non_zero_u32_get, non_zero_u64_get}
use Rattle.dkg_ceremony.specs.declared.phase.Phase.{Phase}
use Rattle.dkg_journal.specs.Names.{Files}
use Rattle.dkg_journal.specs.Records.{entries}
use Rattle.dkg_secrets.specs.Secrets.{Secrets}
use Rattle.dkg_store.specs.Acts.{Stands}
use Rattle.dkg_store.specs.Corrupt.{IsCorruptAt}
use Rattle.dkg_store.specs.Pairs.{IsWhole}
use Rattle.dkg_store.specs.declared.devices.Devices.{Devices}
use Rattle.dkg_infos.specs.declared.fault.Fault.TheVariants.{Corrupt}
use Rattle.dkg_life.specs.declared.config.Terms.{Terms}
use Rattle.dkg_life.specs.declared.life.Life.{Life}
use Rattle.dkg_life.specs.declared.stop.Stop.{Stop}
use Rattle.dkg_life.specs.declared.stop.Stop.TheVariants.{Fault as Faulted}
use Rattle.dkg_life.specs.Ends.{IsCaused}
use Rattle.dkg_life.specs.LiveOf.{IsDealing, IsPlaced, PlayerSits, IsRoundWithin}
use Rattle.dkg_life.specs.Moved.{IsFirm}
use Rattle.dkg_life.specs.Rules.{AckOf, CheckAckOf, DealOf}
use Rattle.dkg_life.specs.Steps.{stage_begun_in}

-- a life on these devices, as the call before left them
pub record IsReadyLife {Dir D X : Type 0} (tells : Bool) (files : D → Files) (image : D → Files → Type 0) (ack_of : AckOf) (deal_of : DealOf) (check_ack_of : CheckAckOf)
    (terms : Terms) (life : Life Dir) (devices : Devices D X) : Type 0 where
  pub seated : PlayerSits ack_of terms.me life
  pub dealing : IsDealing deal_of check_ack_of terms.me life
  pub placed : IsPlaced (non_zero_u64_get terms.blocks_per_epoch) life
  pub within : IsRoundWithin (non_zero_u32_get terms.limit) life.round
  pub firm : IsTrue tells → IsFirm life.store.journal (files devices.disk.now) (image devices.disk.now)

-- .. of which this phase's setup is done
pub record IsSetUp {Dir D X : Type 0} (tells : Bool) (files : D → Files) (image : D → Files → Type 0) (ack_of : AckOf) (deal_of : DealOf) (check_ack_of : CheckAckOf)
    (me limit : ℕ) (phase : Phase) (life : Life Dir) (devices : Devices D X) : Type 0 where
  pub seated : PlayerSits ack_of me life
  pub dealing : IsDealing deal_of check_ack_of me life
  pub within : IsRoundWithin limit life.round
  pub joins : IsSome life.round
  pub stage : life.stage ≡ stage_begun_in phase
  pub firm : IsTrue tells → IsFirm life.store.journal (files devices.disk.now) (image devices.disk.now)

-- The devices are whole, and nothing of the disk is loose.
pub record IsSoundAt {D X : Type 0} (files : D → Files) (image : D → Files → Type 0) (held : X → Secrets) (devices : Devices D X) : Type 0 where
  pub stands : Stands (files devices.disk.now) (image devices.disk.now)
  pub whole : IsWhole (entries (files devices.disk.now)) (held devices.secrets.now)

-- A device is blamed where its count rose, a record where it is the first one out of its grammar, and a cut is the fuse's. What else is blamed, the course
-- says.
abbrev pub IsFoundAt : (limit : ℕ) (tells : Bool) → Files → Stop → (disk_rose secrets_rose reached : Type 0) → Type 0
IsFoundAt limit tells files (Faulted (Corrupt name place)) disk_rose secrets_rose reached = IsTrue tells → IsCorruptAt limit files name place
IsFoundAt limit tells files stop disk_rose secrets_rose reached = IsCaused stop disk_rose secrets_rose reached
