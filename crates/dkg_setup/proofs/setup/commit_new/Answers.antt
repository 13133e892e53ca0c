use Rattle.dkg_infos.specs.declared.info.EpochInfo.{EpochInfo}
use Rattle.std.specs.Prelude.{IsSome}
use Rattle.std.proofs.Common.{refl, Option, subst, sym}
use Rattle.dkg_life.specs.LiveOf.{live_of}
use Rattle.dkg_life.proofs.Beside.{none_beside, one_beside, took_none, then_well}
use Rattle.dkg_life.proofs.Burning.{makes_nothing}
use Rattle.dkg_setup.proofs.Standings.{committed_by, kept_by}
use Rattle.dkg_life.proofs.Committing.{goes_told, same_made, same_told}
use Rattle.dkg_life.proofs.Kept.{moved_none}
use Rattle.dkg_setup.proofs.setup.commit_new.Goals as goal

pub returns-in-WasCommitted-clause-acts : goal.returns-in-WasCommitted-clause-acts
returns-in-WasCommitted-clause-acts g c = λ disk secrets fixed beside mine.
    none_beside beside _ _ (took_none g.R.Registrar.tells _)
    (same_made (kept_by fixed c.args.info.now c.args.secrets.now.seed c.args.secrets.now.share (live_of beside c.args.fence.now c.args.life.now) c.args.standing c.in-WasCommitted.is) (makes_nothing _ _ _ refl))

pub returns-in-WasCommitted-clause-tells : goal.returns-in-WasCommitted-clause-tells
returns-in-WasCommitted-clause-tells g c = λ any fixed beside mine.
    none_beside beside _ _ (took_none g.R.Registrar.tells _)
    (same_told (kept_by fixed c.args.info.now any c.args.secrets.now.share (live_of beside c.args.fence.now c.args.life.now) c.args.standing c.in-WasCommitted.is) (goes_told g.row.Dir.Denot _ _))

pub returns-in-WasCommitted-clause-moved : goal.returns-in-WasCommitted-clause-moved
returns-in-WasCommitted-clause-moved g c = moved_none g.D.Disk.tells g.D.Disk.made g.X.SecretStore.made g.D.Disk.faults g.X.SecretStore.faults g.met.D.Disk.made_none g.met.X.SecretStore.made_none c.args.devices.now

pub returns-in-Uncommitted-clause-acts : goal.returns-in-Uncommitted-clause-acts
returns-in-Uncommitted-clause-acts g c = λ disk secrets fixed beside mine.
    one_beside beside _ _ c.args.me c.args.info.now c.args.secrets.now.share c.commit_and_register.ensures.taken
    (same_made (committed_by fixed c.args.info.now c.args.secrets.now.seed c.args.secrets.now.share (live_of beside c.args.fence.now c.args.life.now) c.args.standing c.in-Uncommitted.is)
    (c.commit_and_register.ensures.acts disk secrets fixed beside mine))

pub returns-in-Uncommitted-clause-tells : goal.returns-in-Uncommitted-clause-tells
returns-in-Uncommitted-clause-tells g c = λ any fixed beside mine.
    one_beside beside _ _ c.args.me c.args.info.now c.args.secrets.now.share c.commit_and_register.ensures.taken
    (same_told (committed_by fixed c.args.info.now any c.args.secrets.now.share (live_of beside c.args.fence.now c.args.life.now) c.args.standing c.in-Uncommitted.is)
    (c.commit_and_register.ensures.tells any fixed beside mine))

pub returns-in-WasCommitted-clause-current : goal.returns-in-WasCommitted-clause-current
returns-in-WasCommitted-clause-current g c = λ known. known c.in-WasCommitted.is

pub returns-in-Uncommitted-clause-current : goal.returns-in-Uncommitted-clause-current
returns-in-Uncommitted-clause-current g c = then_well c.commit_and_register.result (λ is known. subst (λ (o : Option (EpochInfo g.row.Dir.Denot)). IsSome o) (sym is) refl) c.commit_and_register.ensures.current
