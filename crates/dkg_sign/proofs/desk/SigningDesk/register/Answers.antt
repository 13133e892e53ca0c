use Rattle.std.proofs.Common.{ℕ, List, [], ◌∷◌, Some, refl, sym, ◌∙◌, ap, subst}
use Rattle.std.proofs.lemmas.Result.{err_from_is_err_and}
use Rattle.dkg_sign.specs.Lives.{DeskDeed, KeepsPromise, Covers}
use Rattle.dkg_journal.specs.Fuse.{Ran, RanAll}
use Rattle.dkg_sign.specs.Registers.{put_call}
use Rattle.dkg_sign.specs.Desks.{Desk}
use Rattle.dkg_sign.specs.Materials.{is_own}
use Rattle.dkg_sign.proofs.Fuses.{moved, moved_all, unmoved}
use Rattle.dkg_sign.proofs.Deeds.{RegisteredIn, refusal_fused, again_lives, failed_lives, judged_own, put_lives, taken_current, taken_lives, unregistered}
use Rattle.dkg_sign.proofs.desk.SigningDesk.register.Goals as goal
use Rattle.dkg_sign.proofs.desk.SigningDesk.register.Goals.{then-is_below+in_ok-put_epoch, else-is_below}

pub returns-in_err-judge-clause-fused : goal.returns-in_err-judge-clause-fused
returns-in_err-judge-clause-fused g c = refusal_fused c.args.self.now c.args.epoch c.args.info _ c.from_residual.result c.args.fuse.now c.in_err-judge.ensures c.from_residual.ensures.1

pub returns-then-not-branch-clause-lives : goal.returns-then-not-branch-clause-lives
returns-then-not-branch-clause-lives g c = λ tells stands deeds keeps.
    again_lives c.args.self.now c.args.epoch c.args.info (g.D.Disk.files c.args.disk.now) (g.D.Disk.image c.args.disk.now) deeds _ c.in_ok-judge.ensures c.if-not-branch.true (g.met.D.Disk.reads c.args.disk.now tells) stands keeps

pub returns-in_err-put_epoch-clause-lives : goal.returns-in_err-put_epoch-clause-lives
returns-in_err-put_epoch-clause-lives g c = λ tells stands deeds keeps.
    let p = err_from_is_err_and c.from_residual-in_err-put_epoch.result c.from_residual-in_err-put_epoch.ensures.1 in
    unregistered c.from_residual-in_err-put_epoch.result p.0 (λ (ds : List DeskDeed). KeepsPromise ds (g.D.Disk.image c.put_epoch.new.disk) × Covers c.args.self.now.current ds) c.args.epoch deeds p.1
    (failed_lives c.args.self.now c.args.epoch (g.D.Disk.files c.args.disk.now) (g.D.Disk.image c.args.disk.now) (g.D.Disk.image c.put_epoch.new.disk) deeds (sym c.is_below.ensures ∙ c.if-is_below.true) (g.met.D.Disk.reads c.args.disk.now tells) stands keeps _ c.epoch.view_is (c.put_epoch.ensures.tried stands.settled))

pub invariant_of-self : goal.invariant_of-self
invariant_of-self g c = ap (λ (d : Desk). is_own d.me c.args.info) c.self.view_is ∙ judged_own c.args.self.now c.args.epoch c.args.info _ c.in_ok-judge.ensures

pub returns-clause-lives : goal.returns-clause-lives
returns-clause-lives g c = λ tells stands deeds keeps.
    elim c.if-is_below.branch [
      | then-is_below+in_ok-put_epoch w ↦
          subst (λ (d : g.row.D.Denot). RegisteredIn (Some c.args.epoch) c.args.epoch deeds (g.D.Disk.image d)) (sym w.disk-is)
          (put_lives c.args.self.now c.args.epoch (g.D.Disk.files c.args.disk.now) (g.D.Disk.files w.put_epoch.new.disk) (g.D.Disk.image c.args.disk.now) (g.D.Disk.image w.put_epoch.new.disk) deeds (sym c.is_below.ensures ∙ w.if-is_below.true) (g.met.D.Disk.reads c.args.disk.now tells) stands keeps _ c.epoch.view_is (w.in_ok-put_epoch.ensures.done tells stands.settled))
      | else-is_below w ↦
          subst (λ (d : g.row.D.Denot). RegisteredIn (Some c.args.epoch) c.args.epoch deeds (g.D.Disk.image d)) (sym w.disk-is)
          (taken_lives c.args.self.now c.args.epoch c.args.info (g.D.Disk.files c.args.disk.now) (g.D.Disk.image c.args.disk.now) deeds _ c.in_ok-judge.ensures c.if-not-branch.false (sym c.is_below.ensures ∙ w.if-is_below.false) (g.met.D.Disk.reads c.args.disk.now tells) stands keeps)
    ]

pub returns-clause-calls : goal.returns-clause-calls
returns-clause-calls g c =
    elim c.if-is_below.branch [
      | then-is_below+in_ok-put_epoch w ↦
          moved g.D.Disk.made _ _ _ _ _ _ _ w.disk-is w.fuse-is (subst (λ (n : ℕ). Ran g.D.Disk.made c.args.disk.now w.put_epoch.new.disk c.args.fuse.now w.put_epoch.new.fuse (put_call n ∷ [])) c.epoch.view_is w.in_ok-put_epoch.ensures.calls)
      | else-is_below w ↦
          moved g.D.Disk.made _ _ _ _ _ _ _ w.disk-is w.fuse-is (unmoved g.D.Disk.made c.args.disk.now c.args.fuse.now _ (g.met.D.Disk.made_none c.args.disk.now))
    ]

pub returns-then-not-branch-clause-put : goal.returns-then-not-branch-clause-put
returns-then-not-branch-clause-put g c = λ other. absurd (other refl)

pub returns-clause-put : goal.returns-clause-put
returns-clause-put g c = λ other.
    elim c.if-is_below.branch [
      | then-is_below+in_ok-put_epoch w ↦
          moved_all g.D.Disk.made _ _ _ _ _ _ _ w.disk-is w.fuse-is (subst (λ (n : ℕ). RanAll g.D.Disk.made c.args.disk.now w.put_epoch.new.disk c.args.fuse.now w.put_epoch.new.fuse (put_call n ∷ [])) c.epoch.view_is w.in_ok-put_epoch.ensures.all)
      | else-is_below w ↦
          absurd (other (sym (taken_current c.args.self.now c.args.epoch c.args.info _ c.in_ok-judge.ensures c.if-not-branch.false (sym c.is_below.ensures ∙ w.if-is_below.false))))
    ]
