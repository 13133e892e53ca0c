use Rattle.std.proofs.Common.{◌-◌, ℕ, true, false, ap, ◌∙◌}
use Rattle.std.specs.Prelude.{IsTrue}
use Rattle.std.proofs.lemmas.Result.{err_from_is_err_and}
use Rattle.dkg_journal.specs.Records.{entries}
use Rattle.dkg_example.proofs.Opening.{due_playing, kept_since, none_lost}
use Rattle.dkg_example.proofs.Recording.{fresh_player}
use Rattle.dkg_example.proofs.Node.open.Goals as goal

pub returns-in_err-player-clause-due : goal.returns-in_err-player-clause-due
returns-in_err-player-clause-due g c =
    let p = err_from_is_err_and c.from_residual-in_err-player.result c.from_residual-in_err-player.ensures.1 in
    rw (p.1, p.2) (due_playing _ _ (IsTrue g.D.Disk.tells) (IsTrue g.X.SecretStore.tells) (g.C.Ceremony.dealing_of c.args.round.now c.args.me) c.args.epoch
    (entries (g.D.Disk.files c.args.devices.now.disk.now)) (g.X.SecretStore.held c.args.devices.now.secrets.now) c.prune.new.self.dealings c.in_err-player.field-0.0 _ _ _
    (λ told too. kept_since c.args.epoch c.saturating_sub.result _ _ _ c.in_ok-prune.ensures.kept.dealings (c.saturating_sub.ensures ∙ ap (λ (n : ℕ). n - 1) c.epoch.view_is) (c.in_ok-store.ensures.restores.dealings told too))
    c.in_err-player.ensures.stored)

pub returns-in_default-clause-none : goal.returns-in_default-clause-none
returns-in_default-clause-none g c =
    none_lost (IsTrue g.D.Disk.tells) (IsTrue g.X.SecretStore.tells) (λ dealer log. g.C.Ceremony.bears_ack_of c.args.round.now dealer log c.args.me) c.args.epoch
    (entries (g.D.Disk.files c.args.devices.now.disk.now)) (g.X.SecretStore.held c.args.devices.now.secrets.now) c.prune.new.self.dealings c.prune.new.self.logs false
    (λ told too. kept_since c.args.epoch c.saturating_sub.result _ _ _ c.in_ok-prune.ensures.kept.dealings (c.saturating_sub.ensures ∙ ap (λ (n : ℕ). n - 1) c.epoch.view_is) (c.in_ok-store.ensures.restores.dealings told too))
    (λ told too. kept_since c.args.epoch c.saturating_sub.result _ _ _ c.in_ok-prune.ensures.kept.logs (c.saturating_sub.ensures ∙ ap (λ (n : ℕ). n - 1) c.epoch.view_is) (c.in_ok-store.ensures.restores.logs told))
    (rw c.in_default.is at c.in_ok-player.ensures.some)

pub returns-clause-none : goal.returns-clause-none
returns-clause-none g c =
    none_lost (IsTrue g.D.Disk.tells) (IsTrue g.X.SecretStore.tells) (λ dealer log. g.C.Ceremony.bears_ack_of c.args.round.now dealer log c.args.me) c.args.epoch
    (entries (g.D.Disk.files c.args.devices.now.disk.now)) (g.X.SecretStore.held c.args.devices.now.secrets.now) c.prune.new.self.dealings c.prune.new.self.logs true
    (λ told too. kept_since c.args.epoch c.saturating_sub.result _ _ _ c.in_ok-prune.ensures.kept.dealings (c.saturating_sub.ensures ∙ ap (λ (n : ℕ). n - 1) c.epoch.view_is) (c.in_ok-store.ensures.restores.dealings told too))
    (λ told too. kept_since c.args.epoch c.saturating_sub.result _ _ _ c.in_ok-prune.ensures.kept.logs (c.saturating_sub.ensures ∙ ap (λ (n : ℕ). n - 1) c.epoch.view_is) (c.in_ok-store.ensures.restores.logs told))
    (rw c.in-Some.is at c.in_ok-player.ensures.some)

pub returns-clause-playing : goal.returns-clause-playing
returns-clause-playing g c = fresh_player g.C.Ceremony.ack_of c.args.me c.args.round.now c.in_ok-player.field-0 _
    c.in-Some.is c.in_ok-player.ensures.me c.in_ok-player.ensures.round c.in_ok-player.ensures.acks c.requires.playing
