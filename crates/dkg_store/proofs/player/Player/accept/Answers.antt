use Rattle.std.proofs.Common.{◌≡◌, ℕ, List, inl, inr, ⊎_elim, Bool, Some, None, ap, refl, sym, subst, ◌∙◌}
use Rattle.std.specs.Prelude.{⊤}
use Rattle.std.specs.FinMap as map
use Rattle.std.proofs.lemmas.Result.{err_from_is_err_and}
use Rattle.dkg_infos.specs.declared.entry.Entry.{Entry}
use Rattle.dkg_store.specs.Acts.{MadeAt, broken, by_want, moment}
use Rattle.dkg_store.specs.Calls.{accepting, answered, cause_of}
use Rattle.dkg_store.specs.Errors.{IsOfDevices}
use Rattle.dkg_store.specs.declared.call.StoreError.{StoreError}
use Rattle.dkg_store.proofs.Acts.{made_none_said}
use Rattle.dkg_store.proofs.Answering.{accepting_broken, answered_broken}
use Rattle.dkg_store.proofs.Handling.{accepted_answer, first_answer, made_new, new_here, of_store_alone, passed_not_refused, refused_answer, told_so, went_alone}
use Rattle.dkg_store.proofs.Left.{called_as, called_unmade, due_around, due_of_devices, due_want, extends_as, extends_unmade, gives_as, gives_unmade}
use Rattle.dkg_store.proofs.Playing.{not_none}
use Rattle.dkg_store.proofs.player.Player.accept.Goals as goal

pub returns-in_err-ack-clause-acts : goal.returns-in_err-ack-clause-acts
returns-in_err-ack-clause-acts g c = λ told_disk told_secrets.
    let p = err_from_is_err_and c.from_residual.result c.from_residual.ensures.1 in
    made_none_said _ _ _ by_want tt c.ready_answer.ensures.same (answered_broken c.from_residual.result p.0 c.in_err-ack.field-0.0 p.1 p.2 (subst IsOfDevices (sym c.in_err-ack.ensures.memory) tt) ∙ ap (λ (e : StoreError). broken (cause_of e)) c.in_err-ack.ensures.memory)

pub returns-in_err-keep_dealing-clause-acts : goal.returns-in_err-keep_dealing-clause-acts
returns-in_err-keep_dealing-clause-acts g c = λ told_disk told_secrets.
    let p = err_from_is_err_and c.from_residual-in_err-keep_dealing.result c.from_residual-in_err-keep_dealing.ensures.1 in
    subst (λ (l : List Entry). MadeAt (accepting (g.C.Ceremony.dealing_of c.args.self.now.round c.args.self.now.me c.args.dealer c.args.public c.args.private) c.args.epoch c.args.dealer c.args.public c.args.private (g.C.Ceremony.ack_of c.args.self.now.me c.args.self.now.round c.args.dealer c.args.public)) (answered c.from_residual-in_err-keep_dealing.result) (g.D.Disk.files c.args.devices.now.disk.now) (g.D.Disk.image c.args.devices.now.disk.now) (g.D.Disk.files c.keep_dealing.new.devices.disk.now) (g.D.Disk.image c.keep_dealing.new.devices.disk.now) (moment l (g.X.SecretStore.held c.args.devices.now.secrets.now) c.args.devices.now.fuse) (moment c.keep_dealing.new.out.entries (g.X.SecretStore.held c.keep_dealing.new.devices.secrets.now) c.keep_dealing.new.devices.fuse)) c.ready_answer.ensures.same
    (accepting_broken _ c.args.epoch c.args.dealer c.args.public _ c.args.private _ c.in_err-keep_dealing.field-0.0 (due_of_devices c.in_err-keep_dealing.field-0.0 _ _ _ _ c.in_err-keep_dealing.ensures.due) (sym c.in_default.ensures) c.in_ok-ack.ensures.told
    (answered_broken c.from_residual-in_err-keep_dealing.result p.0 c.in_err-keep_dealing.field-0.0 p.1 p.2 (due_of_devices c.in_err-keep_dealing.field-0.0 _ _ _ _ c.in_err-keep_dealing.ensures.due))
    (c.in_err-keep_dealing.ensures.acts told_disk told_secrets))

pub returns-in-Err-clause-handled : goal.returns-in-Err-clause-handled
returns-in-Err-clause-handled g c = record {
  answers = refused_answer (g.C.Ceremony.ack_of c.args.self.now.me c.args.self.now.round c.args.dealer) (g.C.Ceremony.dealing_of c.args.self.now.round c.args.self.now.me c.args.dealer c.args.public c.args.private) c.args.public (map.get c.args.self.now.acks c.args.dealer) (map.get c.args.store.now.dealings (c.args.epoch, c.args.dealer)) c.in-Err.error c.requires.new.0 c.requires.new.1 (sym c.in-Err.ensures);
  me = refl;
  round = refl;
  acks = refl;
  dealings = refl;
  pairs = refl;
  rest = record { acks = refl; logs = refl; restored = refl; current = refl };
  says = refl;
  fits = tt;
}

pub returns-in-Err-clause-untouched : goal.returns-in-Err-clause-untouched
returns-in-Err-clause-untouched g c = record { refused = λ e is. (refl, (refl, refl, refl)); unchecked = λ e is. (refl, refl, refl); known = λ some. absurd (not_none (map.get c.args.store.now.dealings (c.args.epoch, c.args.dealer)) some c.requires.new.1); answered = λ some. absurd (not_none (map.get c.args.self.now.acks c.args.dealer) some c.requires.new.0) }

pub returns-in-Err-clause-gives : goal.returns-in-Err-clause-gives
returns-in-Err-clause-gives g c told =
    (gives_unmade _ None tt _ _ _ _)

pub returns-in-Err-clause-extends : goal.returns-in-Err-clause-extends
returns-in-Err-clause-extends g c told =
    (extends_unmade None tt _ _ _ _)

pub returns-in-Err-clause-called : goal.returns-in-Err-clause-called
returns-in-Err-clause-called g c =
    (called_unmade ⊤ g.D.Disk.made g.X.SecretStore.made g.D.Disk.faults g.X.SecretStore.faults g.met.D.Disk.made_none g.met.X.SecretStore.made_none None tt _ c.args.devices.now)

pub returns-in_err-ack-clause-handled : goal.returns-in_err-ack-clause-handled
returns-in_err-ack-clause-handled g c =
    let p = err_from_is_err_and c.from_residual.result c.from_residual.ensures.1 in
    rw (p.1, p.2) (record { answers = tt; me = refl; round = c.ready_answer.ensures.round; acks = refl; dealings = refl; pairs = refl; rest = record { acks = refl; logs = refl; restored = refl; current = refl }; says = c.ready_answer.ensures.same; fits = tt })

pub returns-in_err-ack-clause-untouched : goal.returns-in_err-ack-clause-untouched
returns-in_err-ack-clause-untouched g c =
    let p = err_from_is_err_and c.from_residual.result c.from_residual.ensures.1 in
    rw (p.1, p.2) (record { refused = λ e is. absurd (of_store_alone c.in_err-ack.field-0.0 e is); unchecked = λ e is. absurd (passed_not_refused _ e (sym c.in_default.ensures) is); known = λ some. absurd (not_none (map.get c.args.store.now.dealings (c.args.epoch, c.args.dealer)) some c.requires.new.1); answered = λ some. absurd (not_none (map.get c.args.self.now.acks c.args.dealer) some c.requires.new.0) })

pub returns-in_err-ack-clause-gives : goal.returns-in_err-ack-clause-gives
returns-in_err-ack-clause-gives g c told =
    let p = err_from_is_err_and c.from_residual.result c.from_residual.ensures.1 in
    rw p.1 (gives_unmade _ None tt _ _ _ _)

pub returns-in_err-ack-clause-extends : goal.returns-in_err-ack-clause-extends
returns-in_err-ack-clause-extends g c told =
    let p = err_from_is_err_and c.from_residual.result c.from_residual.ensures.1 in
    rw p.1 (extends_unmade None tt _ _ _ _)

pub returns-in_err-ack-clause-called : goal.returns-in_err-ack-clause-called
returns-in_err-ack-clause-called g c =
    let p = err_from_is_err_and c.from_residual.result c.from_residual.ensures.1 in
    rw p.1 (called_unmade ⊤ g.D.Disk.made g.X.SecretStore.made g.D.Disk.faults g.X.SecretStore.faults g.met.D.Disk.made_none g.met.X.SecretStore.made_none None tt _ c.args.devices.now)

pub returns-in_err-ack-clause-due : goal.returns-in_err-ack-clause-due
returns-in_err-ack-clause-due g c =
    let p = err_from_is_err_and c.from_residual.result c.from_residual.ensures.1 in
    rw (p.1, p.2) (due_want c.in_err-ack.field-0.0 _ _ _ _ _ c.in_err-ack.ensures.memory (record { so = inl ((λ i. record c.args.self.now { round = c.ready_answer.ensures.round i }), refl, refl) }))

pub returns-in_err-keep_dealing-clause-handled : goal.returns-in_err-keep_dealing-clause-handled
returns-in_err-keep_dealing-clause-handled g c =
    let p = err_from_is_err_and c.from_residual-in_err-keep_dealing.result c.from_residual-in_err-keep_dealing.ensures.1 in
    rw (p.1, p.2) (record {
      answers = tt;
      me = refl;
      round = c.ready_answer.ensures.round;
      acks = c.in_err-keep_dealing.ensures.keeps.acks;
      dealings = c.in_err-keep_dealing.ensures.keeps.dealings;
      pairs = c.in_err-keep_dealing.ensures.keeps.pairs;
      rest = c.in_err-keep_dealing.ensures.keeps.rest;
      says = c.in_err-keep_dealing.ensures.keeps.says ∙ c.ready_answer.ensures.same;
      fits = tt;
    })

pub returns-in_err-keep_dealing-clause-untouched : goal.returns-in_err-keep_dealing-clause-untouched
returns-in_err-keep_dealing-clause-untouched g c =
    let p = err_from_is_err_and c.from_residual-in_err-keep_dealing.result c.from_residual-in_err-keep_dealing.ensures.1 in
    rw (p.1, p.2) (record { refused = λ e is. absurd (of_store_alone c.in_err-keep_dealing.field-0.0 e is); unchecked = λ e is. absurd (passed_not_refused _ e (sym c.in_default.ensures) is); known = λ some. absurd (not_none (map.get c.args.store.now.dealings (c.args.epoch, c.args.dealer)) some c.requires.new.1); answered = λ some. absurd (not_none (map.get c.args.self.now.acks c.args.dealer) some c.requires.new.0) })

pub returns-in_err-keep_dealing-clause-gives : goal.returns-in_err-keep_dealing-clause-gives
returns-in_err-keep_dealing-clause-gives g c told =
    let p = err_from_is_err_and c.from_residual-in_err-keep_dealing.result c.from_residual-in_err-keep_dealing.ensures.1 in
    rw p.1 (c.in_err-keep_dealing.ensures.gives told)

pub returns-in_err-keep_dealing-clause-extends : goal.returns-in_err-keep_dealing-clause-extends
returns-in_err-keep_dealing-clause-extends g c told =
    let p = err_from_is_err_and c.from_residual-in_err-keep_dealing.result c.from_residual-in_err-keep_dealing.ensures.1 in
    rw p.1 (c.in_err-keep_dealing.ensures.extends told)

pub returns-in_err-keep_dealing-clause-called : goal.returns-in_err-keep_dealing-clause-called
returns-in_err-keep_dealing-clause-called g c =
    let p = err_from_is_err_and c.from_residual-in_err-keep_dealing.result c.from_residual-in_err-keep_dealing.ensures.1 in
    rw p.1 c.in_err-keep_dealing.ensures.called

pub returns-in_err-keep_dealing-clause-due : goal.returns-in_err-keep_dealing-clause-due
returns-in_err-keep_dealing-clause-due g c =
    let p = err_from_is_err_and c.from_residual-in_err-keep_dealing.result c.from_residual-in_err-keep_dealing.ensures.1 in
    rw (p.1, p.2) (due_around c.in_err-keep_dealing.field-0.0 c.in_err-keep_dealing.ensures.due (λ name place none. none) (λ rose. rose) (λ rose. rose) (λ cut. cut)
    (λ want. record { so = ⊎_elim (λ same. inl ((λ i. record c.args.self.now { round = c.ready_answer.ensures.round i; acks = same.0 i; dealings = same.1 i }), same.2, same.3)) (λ wanted. inr wanted) want.so }))

pub returns-clause-handled : goal.returns-clause-handled
returns-clause-handled g c =
    let answer : c.in_ok-ack.ack ≡ g.C.Ceremony.ack_of c.args.self.now.me c.args.self.now.round c.args.dealer c.args.public =
    c.in_ok-ack.ensures.ack ∙ ap (λ (k : ℕ). g.C.Ceremony.ack_of k c.args.self.now.round c.args.dealer c.args.public) c.requires.seat.0 in
    let fresh = new_here (map.get c.args.self.now.acks c.args.dealer) (map.get c.args.store.now.dealings (c.args.epoch, c.args.dealer)) c.requires.new.0 c.requires.new.1 in
    record {
      answers = accepted_answer (g.C.Ceremony.ack_of c.args.self.now.me c.args.self.now.round c.args.dealer) (g.C.Ceremony.dealing_of c.args.self.now.round c.args.self.now.me c.args.dealer c.args.public c.args.private) c.args.public (map.get c.args.self.now.acks c.args.dealer) (map.get c.args.store.now.dealings (c.args.epoch, c.args.dealer)) c.in_ok-ack.ack c.requires.new.0 c.requires.new.1 (sym c.in_default.ensures) answer;
      me = refl;
      round = c.ready_answer.ensures.round;
      acks = c.in_ok-keep_dealing.ensures.keeps.acks ∙ first_answer c.args.self.now.acks c.args.dealer c.in_ok-ack.ack c.requires.new.0;
      dealings = c.in_ok-keep_dealing.ensures.keeps.dealings ∙ made_new _ _ _ fresh;
      pairs = c.in_ok-keep_dealing.ensures.keeps.pairs ∙ made_new _ _ _ fresh;
      rest = c.in_ok-keep_dealing.ensures.keeps.rest;
      says = c.in_ok-keep_dealing.ensures.keeps.says ∙ told_so c.args.epoch c.args.dealer c.args.private c.ready_answer.ensures.same c.in_ok-ack.ensures.told ∙ made_new _ _ _ fresh;
      fits = λ true_is. c.in_ok-keep_dealing.ensures.keeps.fits;
    }

pub returns-clause-untouched : goal.returns-clause-untouched
returns-clause-untouched g c = record { refused = λ e is. absurd (went_alone c.in_ok-ack.ack e is); unchecked = λ e is. absurd (passed_not_refused _ e (sym c.in_default.ensures) is); known = λ some. absurd (not_none (map.get c.args.store.now.dealings (c.args.epoch, c.args.dealer)) some c.requires.new.1); answered = λ some. absurd (not_none (map.get c.args.self.now.acks c.args.dealer) some c.requires.new.0) }

pub returns-clause-gives : goal.returns-clause-gives
returns-clause-gives g c told = gives_as (ap (λ (b : Bool). Some b) (sym (new_here (map.get c.args.self.now.acks c.args.dealer) (map.get c.args.store.now.dealings (c.args.epoch, c.args.dealer)) c.requires.new.0 c.requires.new.1))) (c.in_ok-keep_dealing.ensures.gives told)

pub returns-clause-extends : goal.returns-clause-extends
returns-clause-extends g c told = extends_as (ap (λ (b : Bool). Some b) (sym (new_here (map.get c.args.self.now.acks c.args.dealer) (map.get c.args.store.now.dealings (c.args.epoch, c.args.dealer)) c.requires.new.0 c.requires.new.1))) (c.in_ok-keep_dealing.ensures.extends told)

pub returns-clause-called : goal.returns-clause-called
returns-clause-called g c = called_as (ap (λ (b : Bool). Some b) (sym (new_here (map.get c.args.self.now.acks c.args.dealer) (map.get c.args.store.now.dealings (c.args.epoch, c.args.dealer)) c.requires.new.0 c.requires.new.1))) c.in_ok-keep_dealing.ensures.called
