use Rattle.std.proofs.Common.{sym, ap, subst, ◌∙◌}
use Rattle.std.specs.Prelude.{Contains}
use Rattle.dkg_ceremony.specs.declared.round.RoundParts.{RoundParts as Round}
use Rattle.dkg_core.specs.Fixed.{has}
use Rattle.std.proofs.lemmas.Result.{err_from_is_err_and}
use Rattle.dkg_life.proofs.Caused.{of_playing}
use Rattle.dkg_setup.proofs.Making.{makes_seat_at, makes_stop_at, no_player, sits_new}
use Rattle.dkg_setup.proofs.setup.player_of.Goals as goal

pub returns-then-not-has-clause-made : goal.returns-then-not-has-clause-made
returns-then-not-has-clause-made g c = λ fixed phase dealer st mine seats records.
    no_player fixed c.args.round.now phase dealer st c.args.store.now c.args.me g.C.Ceremony.bears_ack_of g.C.Ceremony.dealing_of records mine seats.bears seats.dealing
    (ap (λ (r : Round). has r.players c.args.me) (sym c.parts.ensures) ∙ sym c.has.ensures.index ∙ c.if-not-has.true)

pub returns-in_err-create_player-clause-made : goal.returns-in_err-create_player-clause-made
returns-in_err-create_player-clause-made g c = λ fixed phase dealer st mine seats records.
    let p = err_from_is_err_and c.from_residual.result c.from_residual.ensures.1 in
    rw (p.1, p.2) (makes_stop_at fixed c.args.round.now phase dealer st c.args.store.now c.args.me g.C.Ceremony.bears_ack_of g.C.Ceremony.dealing_of records mine seats.bears seats.dealing
    c.parts-2.result.now.number (ap (λ (r : Round). r.number) c.parts-2.ensures) c.in_err-create_player.field-0.0 (ap (λ (r : Round). has r.players c.args.me) (sym c.parts.ensures) ∙ sym c.has.ensures.index ∙ c.if-not-has.false) c.in_err-create_player.ensures.stored)

pub returns-clause-sits : goal.returns-clause-sits
returns-clause-sits g c = sits_new g.C.Ceremony.ack_of c.args.me c.args.store.now c.args.round.now (subst (λ (r : Round). Contains r.players c.args.me) c.parts.ensures (c.has.ensures.member.0 c.if-not-has.false)) c.in_ok-create_player.field-0
    c.in_ok-create_player.ensures.me c.in_ok-create_player.ensures.round c.in_ok-create_player.ensures.acks

pub returns-clause-made : goal.returns-clause-made
returns-clause-made g c = λ fixed phase dealer st mine seats records.
    makes_seat_at fixed c.args.round.now phase dealer st c.args.store.now c.args.me g.C.Ceremony.bears_ack_of g.C.Ceremony.dealing_of records mine seats.bears seats.dealing
    c.parts-2.result.now.number (ap (λ (r : Round). r.number) c.parts-2.ensures) c.in_ok-create_player.field-0 (ap (λ (r : Round). has r.players c.args.me) (sym c.parts.ensures) ∙ sym c.has.ensures.index ∙ c.if-not-has.false) c.in_ok-create_player.ensures.some c.in_ok-create_player.ensures.passes

pub returns-in_err-create_player-clause-causes : goal.returns-in_err-create_player-clause-causes
returns-in_err-create_player-clause-causes g c =
    let p = err_from_is_err_and c.from_residual.result c.from_residual.ensures.1 in
    rw (p.1, p.2) (of_playing c.in_err-create_player.field-0.0 c.in_err-create_player.ensures.error_kinds)
