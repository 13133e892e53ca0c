use Rattle.std.proofs.Common.{Some, [], ◌∷◌, ◌++◌, ◌∙◌, ap, refl, subst, sym}
use Rattle.std.specs.Prelude.{IsSome, option_map}
use Rattle.std.specs.Int.NonZero.{non_zero_u32_get}
use Rattle.std.proofs.lemmas.Result.{err_from_is_err_and}
use Rattle.dkg_infos.specs.declared.entry.Entry.TheVariants.{Setup}
use Rattle.dkg_infos.specs.declared.fault.Fault.TheVariants.{NoMemory}
use Rattle.dkg_infos.specs.declared.entry.Part.{Part}
use Rattle.dkg_core.specs.Setup as setup
use Rattle.dkg_life.specs.declared.life.Life.{Life}
use Rattle.dkg_life.specs.declared.stop.Stop.TheVariants.{Fault as Faulted}
use Rattle.dkg_life.specs.LiveOf.{PlayerSits, IsRoundWithin, dealer_of, live_of}
use Rattle.dkg_life.proofs.Speaking.{wants_speaks}
use Rattle.dkg_life.proofs.Caused.{of_round}
use Rattle.dkg_life.proofs.Dealers.{not_signed, to_sign}
use Rattle.dkg_setup.proofs.Drawing.{begun_here, causes_none, dealer_failed, few_players, player_failed, players_of, round_failed, sits_drawn, stage_ended}
use Rattle.dkg_life.proofs.Seated.{seated_in}
use Rattle.dkg_setup.proofs.setup.draw_up.Goals as goal

pub begin_stage-requires-clause-signs : goal.begin_stage-requires-clause-signs
begin_stage-requires-clause-signs g c =
    to_sign g.C.Ceremony.deal_of g.C.Ceremony.check_ack_of c.args.terms.now.me (g.C.Signer.Signer.key_of c.args.signer.now) c.requires.me c.in_ok-round.round (Some c.in_ok-round.round) refl c.in_ok-dealer.dealer c.in_ok-dealer.ensures.deals

pub begin_stage-requires-clause-unsigned : goal.begin_stage-requires-clause-unsigned
begin_stage-requires-clause-unsigned g c =
    not_signed g.C.Ceremony.deal_of g.C.Ceremony.check_ack_of c.args.terms.now.me (g.C.Signer.Signer.key_of c.args.signer.now) c.requires.me c.in_ok-round.round c.in_ok-dealer.dealer c.in_ok-dealer.ensures.deals

pub returns-in_err-round-clause-speaks : goal.returns-in_err-round-clause-speaks
returns-in_err-round-clause-speaks g c = λ fixed beside fence fresh of ruled stands.
    let p = err_from_is_err_and c.from_residual.result c.from_residual.ensures.1 in
    rw (p.1, p.2) (round_failed fixed c.args.terms.now of g.C.Ceremony.round_of ruled.seats.round c.args.info.now c.args.secrets.now.share c.args.secrets.now.seed
    (live_of beside fence c.args.life.now) c.args.out.now.entries c.in_err-round.field-0.0 c.in_err-round.ensures.err)

pub returns-in_err-dealer-clause-speaks : goal.returns-in_err-dealer-clause-speaks
returns-in_err-dealer-clause-speaks g c = λ fixed beside fence fresh of ruled stands.
    let p = err_from_is_err_and c.from_residual-in_err-dealer.result c.from_residual-in_err-dealer.ensures.1 in
    let st = live_of beside fence c.args.life.now in
    rw (p.1, p.2) (dealer_failed fixed c.args.terms.now of g.C.Ceremony.round_of ruled.seats.round c.args.info.now c.args.secrets.now.share c.args.secrets.now.seed
    st c.args.out.now.entries c.in_ok-round.round c.in_ok-round.ensures.ok c.args.phase stands c.in_err-dealer.field-0.0 (c.in_err-dealer.ensures.made fixed st of.me ruled.deals refl))

pub returns-in_err-player-clause-speaks : goal.returns-in_err-player-clause-speaks
returns-in_err-player-clause-speaks g c = λ fixed beside fence fresh of ruled stands.
    let p = err_from_is_err_and c.from_residual-in_err-player.result c.from_residual-in_err-player.ensures.1 in
    let st = live_of beside fence c.args.life.now in
    rw (p.1, p.2) (player_failed fixed c.args.terms.now of g.C.Ceremony.round_of ruled.seats.round c.args.info.now c.args.secrets.now.share c.args.secrets.now.seed
    st c.args.out.now.entries c.in_ok-round.round c.in_ok-round.ensures.ok c.args.phase stands c.in_ok-dealer.dealer (c.in_ok-dealer.ensures.made fixed st of.me ruled.deals refl)
    c.in_err-player.field-0.0 (c.in_err-player.ensures.made fixed c.args.phase (option_map dealer_of c.in_ok-dealer.dealer) st of.me ruled.seats refl))

pub returns-in_err-push-clause-speaks : goal.returns-in_err-push-clause-speaks
returns-in_err-push-clause-speaks g c = λ fixed beside fence fresh of ruled stands.
    let p = err_from_is_err_and c.from_residual-in_err-push.result c.from_residual-in_err-push.ensures.1 in
    rw (p.1, p.2) (wants_speaks (setup.draws_up fixed (setup.participants_of c.args.info.now) (Some c.args.info.now.output) c.args.secrets.now.share c.args.secrets.now.seed (live_of beside fence c.args.life.now)) (Faulted NoMemory) refl
    c.args.out.now.entries _ c.in_err-push.ensures.err)

pub returns-clause-speaks : goal.returns-clause-speaks
returns-clause-speaks g c = λ fixed beside fence fresh of ruled stands.
    let st = live_of beside fence c.args.life.now in
    stage_ended fixed c.args.terms.now of g.C.Ceremony.round_of ruled.seats.round c.args.info.now c.args.secrets.now.share c.args.secrets.now.seed
    st c.args.out.now.entries c.in_ok-round.round c.in_ok-round.ensures.ok c.args.phase stands c.in_ok-dealer.dealer (c.in_ok-dealer.ensures.made fixed st of.me ruled.deals refl)
    c.in_ok-player.player (c.in_ok-player.ensures.made fixed c.args.phase (option_map dealer_of c.in_ok-dealer.dealer) st of.me ruled.seats refl) _
    (c.in_ok-push.ensures.ok ∙ ap (λ (part : Part). c.args.out.now.entries ++ Setup c.args.life.now.epoch c.args.phase part ∷ []) c.part_of.ensures)
    (live_of beside fence c.begin_stage.new.life) c.begin_stage.result
    (begun_here fixed beside fence c.args.phase (record c.args.life.now { round = Some c.in_ok-round.round; dealer = c.in_ok-dealer.dealer; player = c.in_ok-player.player }) c.begin_stage.new.life (g.C.Signer.Signer.key_of c.args.signer.now)
    g.C.Ceremony.deal_of g.C.Ceremony.check_ack_of g.C.Ceremony.sign_log_of c.begin_stage.result c.begin_stage.ensures.begun fresh (of.me ∙ c.requires.me) ruled.deals) c.begin_stage.ensures.memory

pub returns-clause-sits : goal.returns-clause-sits
returns-clause-sits g c =
    let round = c.in_ok-round.round in
    sits_drawn g.C.Ceremony.ack_of g.C.Ceremony.deal_of g.C.Ceremony.check_ack_of c.args.terms.now.me (g.C.Signer.Signer.key_of c.args.signer.now) c.requires.me (non_zero_u32_get c.args.terms.now.limit) c.args.phase c.begin_stage.new.life c.begin_stage.result
    (subst (λ (l : Life g.row.Dir.Denot). PlayerSits g.C.Ceremony.ack_of c.args.terms.now.me l) (sym c.begin_stage.ensures.rest)
    (seated_in g.C.Ceremony.ack_of c.args.terms.now.me (record c.args.life.now { stage = c.begin_stage.new.life.stage; round = Some round; dealer = c.begin_stage.new.life.dealer; player = c.in_ok-player.player }) round refl
    c.in_ok-player.player c.in_ok-player.ensures.sits))
    c.begin_stage.ensures.dealing
    (subst (λ (l : Life g.row.Dir.Denot). IsRoundWithin (non_zero_u32_get c.args.terms.now.limit) l.round) (sym c.begin_stage.ensures.rest)
    (few_players c.args.life.now.epoch (non_zero_u32_get c.args.terms.now.limit) c.args.info.now c.requires.valid round.players
    (players_of _ _ (g.met.C.Ceremony.round_has c.args.terms.now.namespace c.args.life.now.epoch (Some c.args.info.now.output) c.args.terms.now.mode c.args.terms.now.reveal c.args.info.now.output.players c.args.info.now.players) round c.in_ok-round.ensures.ok)))
    (subst (λ (l : Life g.row.Dir.Denot). IsSome l.round) (sym c.begin_stage.ensures.rest) refl)
    c.begin_stage.ensures.stage

pub returns-in_err-round-clause-causes : goal.returns-in_err-round-clause-causes
returns-in_err-round-clause-causes g c =
    let p = err_from_is_err_and c.from_residual.result c.from_residual.ensures.1 in
    rw (p.1, p.2) (of_round _ c.in_err-round.field-0.0 c.in_err-round.ensures.err)

pub returns-in_err-dealer-clause-causes : goal.returns-in_err-dealer-clause-causes
returns-in_err-dealer-clause-causes g c =
    let p = err_from_is_err_and c.from_residual-in_err-dealer.result c.from_residual-in_err-dealer.ensures.1 in
    rw (p.1, p.2) c.in_err-dealer.ensures.causes

pub returns-in_err-player-clause-causes : goal.returns-in_err-player-clause-causes
returns-in_err-player-clause-causes g c =
    let p = err_from_is_err_and c.from_residual-in_err-player.result c.from_residual-in_err-player.ensures.1 in
    rw (p.1, p.2) c.in_err-player.ensures.causes

pub returns-clause-causes : goal.returns-clause-causes
returns-clause-causes g c = causes_none c.begin_stage.result c.begin_stage.ensures.memory
