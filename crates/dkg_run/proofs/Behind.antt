-- A run as its caller sees it, behind the loan of its devices.
use Rattle.std.proofs.Common.{◌≡◌, ℕ, Bool, List, Result, subst}
use Rattle.dkg_journal.specs.Burn.{Burn}
use Rattle.dkg_journal.specs.DeviceCall.{DeviceCall}
use Rattle.dkg_journal.specs.Names.{Files}
use Rattle.dkg_journal.specs.declared.disk.Op.{Op}
use Rattle.dkg_infos.specs.declared.entry.Entry.{Entry}
use Rattle.dkg_infos.specs.declared.fault.Fault.{Fault}
use Rattle.dkg_text.specs.declared.script.Script.{Script}
use Rattle.dkg_store.specs.Acts.{at, moment}
use Rattle.dkg_secrets.specs.Secrets.{Secrets}
use Rattle.dkg_secrets.specs.declared.secrets.SecretOp.{SecretOp}
use Rattle.dkg_lives.specs.Lives.{RunsOver, RunsSo, never}
use Rattle.dkg_promises.specs.Over.{DevicesAround, over}
use Rattle.dkg_lives.specs.Ways.{by_worlds}

-- what is over devices is over those that are the same
pub over_as : {D X : Type 0} (disk_tells : Bool) (files : D → Files) (image : D → Files → Type 0) (disk_faults : D → ℕ) (disk_made : D → D → List (DeviceCall Op) → Type 0) (secrets_tell : Bool) (held : X → Secrets) (secret_faults : X → ℕ)
    (secrets_made : X → X → List (DeviceCall SecretOp) → Type 0) (P : DevicesAround → Type 0) (old : D × X) (d now : D) (s then_s : X) → d ≡ now → s ≡ then_s
    → P (over disk_tells files image disk_faults disk_made secrets_tell held secret_faults secrets_made old (d, s))
    → P (over disk_tells files image disk_faults disk_made secrets_tell held secret_faults secrets_made old (now, then_s))
over_as {D} {X} disk_tells files image disk_faults disk_made secrets_tell held secret_faults secrets_made P old d now s then_s same_disk same_secrets is =
    subst (λ (x : X). P (over disk_tells files image disk_faults disk_made secrets_tell held secret_faults secrets_made old (now, x))) same_secrets
    (subst (λ (x : D). P (over disk_tells files image disk_faults disk_made secrets_tell held secret_faults secrets_made old (x, s))) same_disk is)

-- a run whose fuse was not lit
pub runs_over : (script : Script) (answered : Result (Unit {0}) Fault) (files c : Files) (out now : List Entry) (held held_now : Secrets) (fuse fuse_now : Burn) → fuse ≡ never
    → RunsSo by_worlds script (λ its. its ≡ files) (at (moment out held fuse) files) answered (at (moment now held_now fuse_now) c)
    → RunsOver script answered files (at (moment out held never) files) (λ f. at (moment now held_now f) c)
runs_over script answered files c out now held held_now fuse fuse_now unlit so = record {
  fuse = fuse_now;
  so = subst (λ (f : Burn). RunsSo by_worlds script (λ its. its ≡ files) (at (moment out held f) files) answered (at (moment now held_now fuse_now) c)) unlit so;
}
