use Rattle.std.proofs.Common.{◌≡◌, ⊎_elim, inl, inr, Bool, true, false, Option, Some, None, is_some, Bor, refl, sym, ap, subst, ◌∙◌}
use Rattle.std.specs.Prelude.{⊤}
use Rattle.std.specs.Option.{option_copied}
use Rattle.std.specs.FinMap as map
use Rattle.std.proofs.lemmas.Result.{err_from_is_err_and}
use Rattle.dkg_store.specs.Acts.{MadeAt, Goes, broken, went, moment}
use Rattle.dkg_store.specs.Calls.{cause_of, recording, ended}
use Rattle.dkg_store.specs.declared.call.StoreError.{StoreError}
use Rattle.dkg_store.specs.Errors.{IsOfDevices}
use Rattle.dkg_store.proofs.Acts.{made_next, made_nothing}
use Rattle.dkg_store.proofs.Acting.{then_broken, ended_broken}
use Rattle.dkg_store.proofs.Left.{called_unmade, due_around, due_of_devices, due_want, extends_unmade, gives_unmade}
use Rattle.dkg_store.proofs.store.Store.append_dealing.Goals as goal

not_copied : {X : Type 0} (o : Option (Bor X)) → is_some o ≡ false → is_some (option_copied o) ≡ false
not_copied None e = refl
not_copied (Some x) e = e

pub returns-in_err-record_dealing-clause-acts : goal.returns-in_err-record_dealing-clause-acts
returns-in_err-record_dealing-clause-acts g c = λ told_disk told_secrets out.
    let unknown : map.contains_key c.args.self.now.dealings (c.args.epoch, c.args.dealer) ≡ false = ap is_some (sym c.get.ensures) ∙ not_copied c.get.result (sym c.is_some.ensures ∙ c.if-is_some.false) in
    let p = err_from_is_err_and c.from_residual-in_err-record_dealing.result c.from_residual-in_err-record_dealing.ensures.1 in
    subst (λ (known : Bool). MadeAt (recording known c.args.epoch c.args.dealer c.args.public c.args.private) (ended c.from_residual-in_err-record_dealing.result) (g.D.Disk.files c.args.devices.now.disk.now) (g.D.Disk.image c.args.devices.now.disk.now) (g.D.Disk.files c.record_dealing.new.devices.disk.now) (g.D.Disk.image c.record_dealing.new.devices.disk.now) (moment out (g.X.SecretStore.held c.args.devices.now.secrets.now) c.args.devices.now.fuse) (moment out (g.X.SecretStore.held c.record_dealing.new.devices.secrets.now) c.record_dealing.new.devices.fuse)) (sym unknown)
    (then_broken (λ u. Goes true) c.in_err-record_dealing.field-0.0 (due_of_devices c.in_err-record_dealing.field-0.0 _ _ _ _ c.in_err-record_dealing.ensures.due)
    (ended_broken (λ (b : Bool). b) c.from_residual-in_err-record_dealing.result p.0 p.1 (subst IsOfDevices (sym p.2) (due_of_devices c.in_err-record_dealing.field-0.0 _ _ _ _ c.in_err-record_dealing.ensures.due)) ∙ ap (λ (e : StoreError). broken (cause_of e)) p.2)
    (c.in_err-record_dealing.ensures.acts told_disk told_secrets out))

pub returns-clause-acts : goal.returns-clause-acts
returns-clause-acts g c = λ told_disk told_secrets out.
    let unknown : map.contains_key c.args.self.now.dealings (c.args.epoch, c.args.dealer) ≡ false = ap is_some (sym c.get.ensures) ∙ not_copied c.get.result (sym c.is_some.ensures ∙ c.if-is_some.false) in
    subst (λ (known : Bool). MadeAt (recording known c.args.epoch c.args.dealer c.args.public c.args.private) (went true) (g.D.Disk.files c.args.devices.now.disk.now) (g.D.Disk.image c.args.devices.now.disk.now) (g.D.Disk.files c.record_dealing.new.devices.disk.now) (g.D.Disk.image c.record_dealing.new.devices.disk.now) (moment out (g.X.SecretStore.held c.args.devices.now.secrets.now) c.args.devices.now.fuse) (moment out (g.X.SecretStore.held c.record_dealing.new.devices.secrets.now) c.record_dealing.new.devices.fuse)) (sym unknown)
    (made_next (λ u. Goes true) (c.in_ok-record_dealing.ensures.acts told_disk told_secrets out) (made_nothing _ _ _ refl))

pub returns-then-is_some-clause-kept : goal.returns-then-is_some-clause-kept
returns-then-is_some-clause-kept g c = record { pairs = refl; rest = record { acks = refl; logs = refl; restored = refl; current = refl } }

pub returns-then-is_some-clause-gives : goal.returns-then-is_some-clause-gives
returns-then-is_some-clause-gives g c told = gives_unmade _ (Some false) tt _ _ _ _

pub returns-then-is_some-clause-extends : goal.returns-then-is_some-clause-extends
returns-then-is_some-clause-extends g c told = extends_unmade (Some false) tt _ _ _ _

pub returns-then-is_some-clause-called : goal.returns-then-is_some-clause-called
returns-then-is_some-clause-called g c = called_unmade ⊤ g.D.Disk.made g.X.SecretStore.made g.D.Disk.faults g.X.SecretStore.faults g.met.D.Disk.made_none g.met.X.SecretStore.made_none (Some false) tt _ c.args.devices.now

pub returns-in_err-ready-clause-kept : goal.returns-in_err-ready-clause-kept
returns-in_err-ready-clause-kept g c =
    let p = err_from_is_err_and c.from_residual.result c.from_residual.ensures.1 in
    rw p.1 (record { pairs = refl; rest = record { acks = refl; logs = refl; restored = refl; current = refl } })

pub returns-in_err-ready-clause-gives : goal.returns-in_err-ready-clause-gives
returns-in_err-ready-clause-gives g c told =
    let p = err_from_is_err_and c.from_residual.result c.from_residual.ensures.1 in
    rw p.1 (gives_unmade _ None tt _ _ _ _)

pub returns-in_err-ready-clause-extends : goal.returns-in_err-ready-clause-extends
returns-in_err-ready-clause-extends g c told =
    let p = err_from_is_err_and c.from_residual.result c.from_residual.ensures.1 in
    rw p.1 (extends_unmade None tt _ _ _ _)

pub returns-in_err-ready-clause-called : goal.returns-in_err-ready-clause-called
returns-in_err-ready-clause-called g c =
    let p = err_from_is_err_and c.from_residual.result c.from_residual.ensures.1 in
    rw p.1 (called_unmade ⊤ g.D.Disk.made g.X.SecretStore.made g.D.Disk.faults g.X.SecretStore.faults g.met.D.Disk.made_none g.met.X.SecretStore.made_none None tt _ c.args.devices.now)

pub returns-in_err-ready-clause-due : goal.returns-in_err-ready-clause-due
returns-in_err-ready-clause-due g c =
    let p = err_from_is_err_and c.from_residual.result c.from_residual.ensures.1 in
    rw (p.1, p.2) (due_want c.in_err-ready.field-0.0 _ _ _ _ _ c.in_err-ready.ensures.memory (record { so = inl (refl, refl) }))

pub returns-in_err-record_dealing-clause-kept : goal.returns-in_err-record_dealing-clause-kept
returns-in_err-record_dealing-clause-kept g c =
    let p = err_from_is_err_and c.from_residual-in_err-record_dealing.result c.from_residual-in_err-record_dealing.ensures.1 in
    rw p.1 (record { pairs = c.in_err-record_dealing.ensures.kept; rest = record { acks = refl; logs = refl; restored = refl; current = refl } })

pub returns-in_err-record_dealing-clause-gives : goal.returns-in_err-record_dealing-clause-gives
returns-in_err-record_dealing-clause-gives g c told =
    let p = err_from_is_err_and c.from_residual-in_err-record_dealing.result c.from_residual-in_err-record_dealing.ensures.1 in
    rw p.1 (c.in_err-record_dealing.ensures.gives told)

pub returns-in_err-record_dealing-clause-extends : goal.returns-in_err-record_dealing-clause-extends
returns-in_err-record_dealing-clause-extends g c told =
    let p = err_from_is_err_and c.from_residual-in_err-record_dealing.result c.from_residual-in_err-record_dealing.ensures.1 in
    rw p.1 (c.in_err-record_dealing.ensures.extends told)

pub returns-in_err-record_dealing-clause-called : goal.returns-in_err-record_dealing-clause-called
returns-in_err-record_dealing-clause-called g c =
    let p = err_from_is_err_and c.from_residual-in_err-record_dealing.result c.from_residual-in_err-record_dealing.ensures.1 in
    rw p.1 c.in_err-record_dealing.ensures.called

pub returns-in_err-record_dealing-clause-due : goal.returns-in_err-record_dealing-clause-due
returns-in_err-record_dealing-clause-due g c =
    let p = err_from_is_err_and c.from_residual-in_err-record_dealing.result c.from_residual-in_err-record_dealing.ensures.1 in
    rw (p.1, p.2) (due_around c.in_err-record_dealing.field-0.0 c.in_err-record_dealing.ensures.due (λ name place none. none) (λ rose. rose) (λ rose. rose) (λ cut. cut)
    (λ want. record { so = ⊎_elim (λ same. inl ((λ i. record c.args.self.now { journal = same.1 i; dealings = same.0 i }), same.2)) (λ wanted. inr wanted) want.so }))

pub returns-clause-kept : goal.returns-clause-kept
returns-clause-kept g c = record { pairs = c.in_ok-record_dealing.ensures.kept; rest = record { acks = refl; logs = refl; restored = refl; current = refl } }
