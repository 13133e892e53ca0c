use Rattle.std.proofs.Common.{◌≡◌, ℕ, inl, None, refl, ap, sym, ◌∙◌}
use Rattle.std.specs.Prelude.{⊤}
use Rattle.std.specs.FinMap as map
use Rattle.std.proofs.lemmas.Result.{err_from_is_err_and}
use Rattle.dkg_store.proofs.Answering.{answered_known}
use Rattle.dkg_store.proofs.Handling.{first_answer, kept_answer, kept_here, made_old, of_store_alone, recorded_answer, recorded_here, same_answer, unfit, went_alone}
use Rattle.dkg_store.proofs.Left.{called_unmade, due_want, extends_unmade, gives_unmade, unmade_as}
use Rattle.dkg_store.proofs.Playing.{not_none}
use Rattle.dkg_store.proofs.player.Player.handle.Goals as goal

pub returns-in-Some-clause-acts : goal.returns-in-Some-clause-acts
returns-in-Some-clause-acts g c = λ told_disk told_secrets is.
    let was = is.kept c.args.dealer c.in-Some.ack (sym c.in-Some.ensures) in
    answered_known (g.C.Ceremony.ack_of c.args.self.now.me c.args.self.now.round c.args.dealer) (map.get c.args.store.now.dealings (c.args.epoch, c.args.dealer)) was.pair (g.C.Ceremony.dealing_of c.args.self.now.round c.args.self.now.me c.args.dealer c.args.public c.args.private) c.args.epoch c.args.dealer c.args.public c.args.private c.in-Some.ack was.recorded was.is

pub returns-in-Some-clause-handled : goal.returns-in-Some-clause-handled
returns-in-Some-clause-handled g c =
    let known = kept_here (map.get c.args.self.now.acks c.args.dealer) (map.get c.args.store.now.dealings (c.args.epoch, c.args.dealer)) c.in-Some.ack (sym c.in-Some.ensures) in
    record {
      answers = kept_answer (g.C.Ceremony.ack_of c.args.self.now.me c.args.self.now.round c.args.dealer) (g.C.Ceremony.dealing_of c.args.self.now.round c.args.self.now.me c.args.dealer c.args.public c.args.private) c.args.public (map.get c.args.self.now.acks c.args.dealer) (map.get c.args.store.now.dealings (c.args.epoch, c.args.dealer)) c.in-Some.ack (sym c.in-Some.ensures);
      me = refl;
      round = refl;
      acks = same_answer c.args.self.now.acks c.args.dealer c.in-Some.ack (sym c.in-Some.ensures);
      dealings = made_old _ _ _ known;
      pairs = made_old _ _ _ known;
      rest = record { acks = refl; logs = refl; restored = refl; current = refl };
      says = made_old _ _ _ known;
      fits = unfit _ _ known;
    }

pub returns-in-Some-clause-untouched : goal.returns-in-Some-clause-untouched
returns-in-Some-clause-untouched g c = record { refused = λ e is. absurd (went_alone c.in-Some.ack e is); unchecked = λ e is. (refl, refl, refl); known = λ some. (refl, refl, refl); answered = λ some. (refl, (refl, refl, refl), refl) }

pub returns-in-Some-clause-gives : goal.returns-in-Some-clause-gives
returns-in-Some-clause-gives g c told = gives_unmade _ _ (unmade_as _ (kept_here (map.get c.args.self.now.acks c.args.dealer) (map.get c.args.store.now.dealings (c.args.epoch, c.args.dealer)) c.in-Some.ack (sym c.in-Some.ensures))) _ _ _ _

pub returns-in-Some-clause-extends : goal.returns-in-Some-clause-extends
returns-in-Some-clause-extends g c told = extends_unmade _ (unmade_as _ (kept_here (map.get c.args.self.now.acks c.args.dealer) (map.get c.args.store.now.dealings (c.args.epoch, c.args.dealer)) c.in-Some.ack (sym c.in-Some.ensures))) _ _ _ _

pub returns-in-Some-clause-called : goal.returns-in-Some-clause-called
returns-in-Some-clause-called g c = called_unmade ⊤ g.D.Disk.made g.X.SecretStore.made g.D.Disk.faults g.X.SecretStore.faults g.met.D.Disk.made_none g.met.X.SecretStore.made_none _ (unmade_as _ (kept_here (map.get c.args.self.now.acks c.args.dealer) (map.get c.args.store.now.dealings (c.args.epoch, c.args.dealer)) c.in-Some.ack (sym c.in-Some.ensures))) _ c.args.devices.now

pub returns-in_err-acknowledge-clause-handled : goal.returns-in_err-acknowledge-clause-handled
returns-in_err-acknowledge-clause-handled g c =
    let p = err_from_is_err_and c.from_residual.result c.from_residual.ensures.1 in
    rw (p.1, p.2) (record { answers = tt; me = refl; round = c.acknowledge.ensures.round; acks = c.in_err-acknowledge.ensures.same; dealings = refl; pairs = refl; rest = record { acks = refl; logs = refl; restored = refl; current = refl }; says = refl; fits = tt })

pub returns-in_err-acknowledge-clause-untouched : goal.returns-in_err-acknowledge-clause-untouched
returns-in_err-acknowledge-clause-untouched g c =
    let p = err_from_is_err_and c.from_residual.result c.from_residual.ensures.1 in
    rw (p.1, p.2) (record { refused = λ e is. absurd (of_store_alone c.in_err-acknowledge.field-0.0 e is); unchecked = λ e is. (refl, refl, refl); known = λ some. (refl, refl, refl); answered = λ some. absurd (not_none (map.get c.args.self.now.acks c.args.dealer) some (sym c.in_default.ensures)) })

pub returns-in_err-acknowledge-clause-gives : goal.returns-in_err-acknowledge-clause-gives
returns-in_err-acknowledge-clause-gives g c told =
    let p = err_from_is_err_and c.from_residual.result c.from_residual.ensures.1 in
    rw p.1 (gives_unmade _ None tt _ _ _ _)

pub returns-in_err-acknowledge-clause-extends : goal.returns-in_err-acknowledge-clause-extends
returns-in_err-acknowledge-clause-extends g c told =
    let p = err_from_is_err_and c.from_residual.result c.from_residual.ensures.1 in
    rw p.1 (extends_unmade None tt _ _ _ _)

pub returns-in_err-acknowledge-clause-called : goal.returns-in_err-acknowledge-clause-called
returns-in_err-acknowledge-clause-called g c =
    let p = err_from_is_err_and c.from_residual.result c.from_residual.ensures.1 in
    rw p.1 (called_unmade ⊤ g.D.Disk.made g.X.SecretStore.made g.D.Disk.faults g.X.SecretStore.faults g.met.D.Disk.made_none g.met.X.SecretStore.made_none None tt _ c.args.devices.now)

pub returns-in_err-acknowledge-clause-due : goal.returns-in_err-acknowledge-clause-due
returns-in_err-acknowledge-clause-due g c =
    let p = err_from_is_err_and c.from_residual.result c.from_residual.ensures.1 in
    rw (p.1, p.2) (due_want c.in_err-acknowledge.field-0.0 _ _ _ _ _ c.in_err-acknowledge.ensures.memory
    (record { so = inl ((λ i. record c.args.self.now { round = c.acknowledge.ensures.round i; acks = c.in_err-acknowledge.ensures.same i }), refl, refl) }))

pub returns-in-Some-dealing-clause-handled : goal.returns-in-Some-dealing-clause-handled
returns-in-Some-dealing-clause-handled g c =
    let known = recorded_here (map.get c.args.self.now.acks c.args.dealer) (map.get c.args.store.now.dealings (c.args.epoch, c.args.dealer)) c.in-Some-dealing.field-0.now (sym c.in-Some-dealing.ensures) in
    let none : map.get c.args.self.now.acks c.args.dealer ≡ None = sym c.in_default.ensures in
    record {
      answers = recorded_answer (g.C.Ceremony.ack_of c.args.self.now.me c.args.self.now.round c.args.dealer) (g.C.Ceremony.dealing_of c.args.self.now.round c.args.self.now.me c.args.dealer c.args.public c.args.private) c.args.public (map.get c.args.self.now.acks c.args.dealer) (map.get c.args.store.now.dealings (c.args.epoch, c.args.dealer)) c.in-Some-dealing.field-0.now c.in_ok-acknowledge.field-0 none (sym c.in-Some-dealing.ensures)
          (c.in_ok-acknowledge.ensures.ack ∙ ap (λ (k : ℕ). g.C.Ceremony.ack_of k c.args.self.now.round c.args.dealer c.in-Some-dealing.field-0.now.0) c.requires.seat.0);
      me = refl;
      round = c.acknowledge.ensures.round;
      acks = c.in_ok-acknowledge.ensures.kept ∙ first_answer c.args.self.now.acks c.args.dealer c.in_ok-acknowledge.field-0 none;
      dealings = made_old _ _ _ known;
      pairs = made_old _ _ _ known;
      rest = record { acks = refl; logs = refl; restored = refl; current = refl };
      says = made_old _ _ _ known;
      fits = unfit _ _ known;
    }

pub returns-in-Some-dealing-clause-untouched : goal.returns-in-Some-dealing-clause-untouched
returns-in-Some-dealing-clause-untouched g c = record { refused = λ e is. absurd (went_alone c.in_ok-acknowledge.field-0 e is); unchecked = λ e is. (refl, refl, refl); known = λ some. (refl, refl, refl); answered = λ some. absurd (not_none (map.get c.args.self.now.acks c.args.dealer) some (sym c.in_default.ensures)) }

pub returns-in-Some-dealing-clause-gives : goal.returns-in-Some-dealing-clause-gives
returns-in-Some-dealing-clause-gives g c told = gives_unmade _ _ (unmade_as _ (recorded_here (map.get c.args.self.now.acks c.args.dealer) (map.get c.args.store.now.dealings (c.args.epoch, c.args.dealer)) c.in-Some-dealing.field-0.now (sym c.in-Some-dealing.ensures))) _ _ _ _

pub returns-in-Some-dealing-clause-extends : goal.returns-in-Some-dealing-clause-extends
returns-in-Some-dealing-clause-extends g c told = extends_unmade _ (unmade_as _ (recorded_here (map.get c.args.self.now.acks c.args.dealer) (map.get c.args.store.now.dealings (c.args.epoch, c.args.dealer)) c.in-Some-dealing.field-0.now (sym c.in-Some-dealing.ensures))) _ _ _ _

pub returns-in-Some-dealing-clause-called : goal.returns-in-Some-dealing-clause-called
returns-in-Some-dealing-clause-called g c = called_unmade ⊤ g.D.Disk.made g.X.SecretStore.made g.D.Disk.faults g.X.SecretStore.faults g.met.D.Disk.made_none g.met.X.SecretStore.made_none _ (unmade_as _ (recorded_here (map.get c.args.self.now.acks c.args.dealer) (map.get c.args.store.now.dealings (c.args.epoch, c.args.dealer)) c.in-Some-dealing.field-0.now (sym c.in-Some-dealing.ensures))) _ c.args.devices.now
