use Rattle.std.proofs.Common.{ℕ, arith, rules, length, sym, ap, subst, ◌∙◌}
use Rattle.dkg_ceremony.specs.declared.round.RoundParts.{RoundParts as Round}
use Rattle.std.specs.Prelude.{Contains}
use Rattle.std.proofs.lemmas.Result.{err_from_is_err_and}
use Rattle.dkg_life.proofs.Dealers.{MadeFor, deals_for, deals_stop_at, kept_all, makes_dealer_at, no_dealer, of_dealing}
use Rattle.dkg_setup.proofs.setup.dealer_of.Goals as goal

pub create_dealer-requires : goal.create_dealer-requires
create_dealer-requires g c = subst (λ (k : ℕ). Contains c.args.round.now.dealers k) c.requires.me (c.is_dealer.ensures.among c.if-not-is_dealer.false)

pub returns-then-not-is_dealer-clause-made : goal.returns-then-not-is_dealer-clause-made
returns-then-not-is_dealer-clause-made g c = λ fixed st mine deals records.
    no_dealer fixed c.args.round.now c.args.phase c.args.secrets.now.share c.args.secrets.now.seed st c.args.store.now c.args.me g.C.Ceremony.deal_of g.C.Ceremony.check_ack_of g.C.Ceremony.sign_log_of
    (omega arith) records mine deals (sym c.is_dealer.ensures.may ∙ c.if-not-is_dealer.true)

pub returns-in_err-dealer-clause-made : goal.returns-in_err-dealer-clause-made
returns-in_err-dealer-clause-made g c = λ fixed st mine deals records.
    let p = err_from_is_err_and c.from_residual.result c.from_residual.ensures.1 in
    rw (p.1, p.2) (deals_stop_at fixed c.args.round.now c.args.phase c.args.secrets.now.share c.args.secrets.now.seed st c.args.store.now c.args.me g.C.Ceremony.deal_of g.C.Ceremony.check_ack_of g.C.Ceremony.sign_log_of
    (search rules) records mine deals c.parts.result.now.number (ap (λ (r : Round). r.number) c.parts.ensures) c.in_err-dealer.field-0.0 (sym c.is_dealer.ensures.may ∙ c.if-not-is_dealer.false) (rw (c.requires.me, sym c.as_ref.ensures.value) c.in_err-dealer.ensures.refused))

pub returns-in_err-dealer-clause-causes : goal.returns-in_err-dealer-clause-causes
returns-in_err-dealer-clause-causes g c =
    let p = err_from_is_err_and c.from_residual.result c.from_residual.ensures.1 in
    rw (p.1, p.2) (of_dealing c.in_err-dealer.field-0.0 c.in_err-dealer.ensures.error_kinds)

pub returns-clause-made : goal.returns-clause-made
returns-clause-made g c = λ fixed st mine deals records.
    rw c.dealer_for_phase.ensures (makes_dealer_at fixed c.args.round.now c.args.phase c.args.secrets.now.share c.args.secrets.now.seed st c.args.store.now c.args.me g.C.Ceremony.deal_of g.C.Ceremony.check_ack_of g.C.Ceremony.sign_log_of
    (grind arith) records mine deals c.parts.result.now.number (ap (λ (r : Round). r.number) c.parts.ensures) c.len.result c.in_ok-dealer.dealer (sym c.is_dealer.ensures.may ∙ c.if-not-is_dealer.false) (c.len.ensures ∙ ap (λ (r : Round). length r.players) c.parts-2.ensures)
    (rw c.requires.me c.in_ok-dealer.ensures.some) c.in_ok-dealer.ensures.round (rw (c.requires.me, sym c.as_ref.ensures.value) c.in_ok-dealer.ensures.dealt) (rw c.requires.me c.in_ok-dealer.ensures.acks) c.in_ok-dealer.ensures.finalized)

pub returns-clause-deals : goal.returns-clause-deals
returns-clause-deals g c =
    rw c.dealer_for_phase.ensures (kept_all (MadeFor g.C.Ceremony.deal_of g.C.Ceremony.check_ack_of c.args.me c.args.round.now) c.args.phase c.len.result c.in_ok-dealer.dealer
    (deals_for g.C.Ceremony.deal_of g.C.Ceremony.check_ack_of c.args.me c.args.round.now c.in_ok-dealer.dealer (rw c.requires.me c.in_ok-dealer.ensures.me) c.in_ok-dealer.ensures.round c.in_ok-dealer.ensures.dealer c.in_ok-dealer.ensures.open c.in_ok-dealer.ensures.finalized))
