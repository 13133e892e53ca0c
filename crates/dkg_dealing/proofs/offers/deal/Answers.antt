use Rattle.std.proofs.Common.{Some, refl, sym, ap, ◌∙◌}
use Rattle.dkg_ceremony.specs.declared.round.RoundParts.{RoundParts as Round}
use Rattle.std.proofs.lemmas.Result.{err_from_is_err_and}
use Rattle.dkg_store.specs.Acts.{by_want}
use Rattle.dkg_store.specs.declared.call.StoreError.TheVariants.{NoMemory as Wanting}
use Rattle.dkg_life.specs.LiveOf.{DealsIn, live_of}
use Rattle.dkg_life.proofs.Burning.{makes_none}
use Rattle.dkg_life.proofs.Dealt.{deals_round, is_dealt}
use Rattle.dkg_life.proofs.Kept.{moved_none}
use Rattle.dkg_life.proofs.Offered.{deals_made, deals_told, deals_unknown, deals_without, passes_made, passes_told, sent_halves}
use Rattle.dkg_life.proofs.Said.{said_none}
use Rattle.dkg_life.proofs.Seated.{at_some}
use Rattle.dkg_dealing.proofs.offers.deal.Goals as goal

-- WITHOUT A ROUND, OR A DEALER

pub returns-in_default-clause-acts : goal.returns-in_default-clause-acts
returns-in_default-clause-acts g c = λ disk secrets fixed beside fence of by. passes_made _ (live_of beside fence c.args.life.now) (deals_unknown fixed beside fence c.args.life.now c.in_default.is) _ _ _

pub returns-in_default-clause-tells : goal.returns-in_default-clause-tells
returns-in_default-clause-tells g c = λ fixed beside fence of by. passes_told _ (live_of beside fence c.args.life.now) (deals_unknown fixed beside fence c.args.life.now c.in_default.is) c.args.out.now.entries

pub returns-in_default-clause-moved : goal.returns-in_default-clause-moved
returns-in_default-clause-moved g c = moved_none g.D.Disk.tells g.D.Disk.made g.X.SecretStore.made g.D.Disk.faults g.X.SecretStore.faults g.met.D.Disk.made_none g.met.X.SecretStore.made_none c.args.devices.now

pub returns-in_default-dealer-clause-acts : goal.returns-in_default-dealer-clause-acts
returns-in_default-dealer-clause-acts g c = λ disk secrets fixed beside fence of by. passes_made _ (live_of beside fence c.args.life.now) (deals_without fixed beside fence c.args.life.now c.in_default-dealer.is) _ _ _

pub returns-in_default-dealer-clause-tells : goal.returns-in_default-dealer-clause-tells
returns-in_default-dealer-clause-tells g c = λ fixed beside fence of by. passes_told _ (live_of beside fence c.args.life.now) (deals_without fixed beside fence c.args.life.now c.in_default-dealer.is) c.args.out.now.entries

pub returns-in_default-dealer-clause-moved : goal.returns-in_default-dealer-clause-moved
returns-in_default-dealer-clause-moved g c = moved_none g.D.Disk.tells g.D.Disk.made g.X.SecretStore.made g.D.Disk.faults g.X.SecretStore.faults g.met.D.Disk.made_none g.met.X.SecretStore.made_none c.args.devices.now

-- NO MEMORY

pub returns-in_err-unsent-clause-acts : goal.returns-in_err-unsent-clause-acts
returns-in_err-unsent-clause-acts g c = λ disk secrets fixed beside fence of by.
    let p = err_from_is_err_and c.from_residual.result c.from_residual.ensures.1 in
    rw (p.1, p.2) (makes_none _ _ _ _ by_want tt refl)

pub returns-in_err-unsent-clause-tells : goal.returns-in_err-unsent-clause-tells
returns-in_err-unsent-clause-tells g c = λ fixed beside fence of by.
    let p = err_from_is_err_and c.from_residual.result c.from_residual.ensures.1 in
    rw (p.1, p.2) (said_none _ Wanting tt refl)

pub returns-in_err-unsent-clause-moved : goal.returns-in_err-unsent-clause-moved
returns-in_err-unsent-clause-moved g c = moved_none g.D.Disk.tells g.D.Disk.made g.X.SecretStore.made g.D.Disk.faults g.X.SecretStore.faults g.met.D.Disk.made_none g.met.X.SecretStore.made_none c.args.devices.now

-- OFFERS

pub offer_all-requires-clause-dealt : goal.offer_all-requires-clause-dealt
offer_all-requires-clause-dealt g c = is_dealt c.args.life.now c.in-Some.round c.requires.dealing c.in-Some.is ∙ ap (λ (r : Round). Some r.number) (sym c.parts.ensures)

pub offer_all-requires-clause-halves : goal.offer_all-requires-clause-halves
offer_all-requires-clause-halves g c =
    sent_halves c.args.life.now c.in-Some-dealer.dealer c.in-Some-dealer.is c.in_ok-unsent.unsent.items c.in_ok-unsent.ensures

pub returns-clause-acts : goal.returns-clause-acts
returns-clause-acts g c = λ disk secrets fixed beside fence of by.
    let deals = at_some (DealsIn g.C.Ceremony.deal_of g.C.Ceremony.check_ack_of c.args.terms.now.me c.args.life.now) c.args.life.now.dealer c.in-Some-dealer.dealer c.in-Some-dealer.is c.requires.ready.dealing in
    let round = c.in-Some.round in
    let has = c.in-Some.is in
    deals_made fixed beside fence c.args.life.now round c.in-Some-dealer.dealer has c.in-Some-dealer.is (deals_round g.C.Ceremony.deal_of g.C.Ceremony.check_ack_of c.args.terms.now.me c.args.life.now c.in-Some-dealer.dealer deals round has) c.in_ok-unsent.unsent.items c.in_ok-unsent.ensures _
    (c.offer_all.ensures.acts disk secrets fixed round c.in-Some-dealer.dealer beside fence of by has c.in-Some-dealer.is)

pub returns-clause-tells : goal.returns-clause-tells
returns-clause-tells g c = λ fixed beside fence of by.
    let deals = at_some (DealsIn g.C.Ceremony.deal_of g.C.Ceremony.check_ack_of c.args.terms.now.me c.args.life.now) c.args.life.now.dealer c.in-Some-dealer.dealer c.in-Some-dealer.is c.requires.ready.dealing in
    let round = c.in-Some.round in
    let has = c.in-Some.is in
    deals_told fixed beside fence c.args.life.now round c.in-Some-dealer.dealer has c.in-Some-dealer.is (deals_round g.C.Ceremony.deal_of g.C.Ceremony.check_ack_of c.args.terms.now.me c.args.life.now c.in-Some-dealer.dealer deals round has) c.in_ok-unsent.unsent.items c.in_ok-unsent.ensures _
    (c.offer_all.ensures.tells fixed round c.in-Some-dealer.dealer beside fence of by has c.in-Some-dealer.is)

pub returns-in_default-clause-current : goal.returns-in_default-clause-current
returns-in_default-clause-current g c = refl

pub returns-in_default-dealer-clause-current : goal.returns-in_default-dealer-clause-current
returns-in_default-dealer-clause-current g c = refl

pub returns-in_err-unsent-clause-current : goal.returns-in_err-unsent-clause-current
returns-in_err-unsent-clause-current g c = refl

pub returns-clause-current : goal.returns-clause-current
returns-clause-current g c = c.offer_all.ensures.current
