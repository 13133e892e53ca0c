-- What the devices hold stays valid over a run of many epochs.
use Rattle.std.proofs.Common.{◌≡◌, ℕ, List, Option, Some, Result}
use Rattle.std.specs.Prelude.{◌<◌, ◌^◌, slice_get}
use Rattle.std.specs.List.{AllByRecursion}
use Rattle.dkg_journal.specs.Names.{Files}
use Rattle.dkg_infos.specs.declared.entry.Entry.{Entry}
use Rattle.dkg_infos.specs.declared.fault.Fault.{Fault}
use Rattle.dkg_text.specs.declared.script.Life.{Life}
use Rattle.dkg_script.specs.Consistent.{IsConsistentScript}
use Rattle.dkg_script.specs.Inclusion.{IsFormOfInclusion}
use Rattle.dkg_script.specs.Setting.{Setting, CutAt, life_at}
use Rattle.dkg_store.specs.Acts.{Held, Stands, at, moment}
use Rattle.dkg_core.specs.Meant.{ReadsRecords}
use Rattle.dkg_core.specs.Seen.{Seen}
use Rattle.dkg_core.specs.Storing.{ReadsSecrets}
use Rattle.dkg_lives.specs.Epochs.{IsLifeInForm}
use Rattle.dkg_lives.specs.Given.{AreBytes, lived}
use Rattle.dkg_promises.specs.GivesBack.{StaysValid}
use Rattle.dkg_lives.specs.Lives.{RunsOver, never}
use Rattle.dkg_promises.specs.Over.{DevicesStanding}
use Rattle.dkg_lives.specs.Ways.{by_worlds}
use Rattle.dkg_along.proofs.FitsBrought.{acks_fit, brings_fit}
use Rattle.dkg_promises.proofs.GivingDealings.{FitsRecords}
use Rattle.dkg_promises.proofs.OwnRuns.{run_valid}
use Rattle.dkg_promises.proofs.SharesStay.{run_shares}

-- WHAT THE DEVICES HOLD stays valid, where both devices tell and what a read gives is one of what a crash may leave: of a script whose lives are of the form, whose blocks are bytes at
-- heights of 64 bits, and which has one info for each epoch
pub stays_valid : (s : Setting) (cuts : List (Option CutAt)) (form : IsFormOfInclusion s.script) (consistent : IsConsistentScript s cuts)
    → (over : (l : ℕ) (life : Life) (seen : Held → Seen) (files : Files) → slice_get s.script.lives l ≡ Some life → by_worlds.reads seen → IsLifeInForm (lived s.script l life seen files))
    → (reads : (seen : Held → Seen) → by_worlds.reads seen → ReadsRecords seen) (secrets : (seen : Held → Seen) → by_worlds.reads seen → ReadsSecrets seen)
    → (bytes : AreBytes s.script.blocks) (heights : AllByRecursion (λ line. line.height < 2 ^ 64) s.script.blocks)
    → (answered : Result (Unit {0}) Fault) (before now : DevicesStanding) (out out_now : List Entry) → before.image before.files
    → (Stands before.files before.image → (c : Files) → now.image c → RunsOver s.script answered before.files (at (moment out before.held never) before.files) (λ f. at (moment out_now now.held f) c))
    → StaysValid s before now
stays_valid s cuts form consistent over reads secrets bytes heights answered before now out out_now here run lands valid c left =
    let its = run (record { lands = lands; itself = here }) c left in
    let held = run_valid s cuts form consistent over reads secrets fits (λ files. files ≡ before.files) _ _ answered (valid.passing, valid.own) its.so in
    let shares = run_shares s cuts form consistent over reads secrets fits (λ files. files ≡ before.files) _ _ answered (valid.passing, λ epoch share got info known. valid.shares epoch share info got known) its.so in
    record { passing = held.0; own = held.1; shares = λ epoch share info got known. shares.1 epoch share got info known }
  where
    fits : (l : ℕ) (life : Life) (seen : Held → Seen) (files : Files) (life_is : life_at s l ≡ Some life) (here : IsLifeInForm (lived s.script l life seen files)) (read : ReadsRecords seen) → FitsRecords s cuts form consistent l life seen files life_is here read
    fits l life seen files life_is here read = record { acks = acks_fit (lived s.script l life seen files) here; brings = brings_fit (lived s.script l life seen files) here bytes heights }
