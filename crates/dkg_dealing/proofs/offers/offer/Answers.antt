use Rattle.std.proofs.Common.{◌≡◌, refl, sym, ◌∙◌, rules}
use Rattle.std.proofs.lemmas.Result.{err_from_is_err_and}
use Rattle.dkg_store.specs.declared.call.StoreError.TheVariants.{NoMemory as Wanting}
use Rattle.dkg_life.specs.LiveOf.{live_of}
use Rattle.dkg_life.proofs.Kept.{moved_none}
use Rattle.dkg_life.proofs.Offered.{own_made, own_told}
use Rattle.dkg_life.proofs.Said.{said_none}
use Rattle.dkg_dealing.proofs.offers.offer.Goals as goal

pub returns-then-eq-clause-acts : goal.returns-then-eq-clause-acts
returns-then-eq-clause-acts g c = λ disk secrets fixed round beside fence of by has.
    let same : c.args.player ≡ c.args.terms.now.me = search rules in
    own_made fixed round c.args.public c.args.player c.args.private (same ∙ sym of.me) (live_of beside fence c.args.life.now) _ (c.offer_to_itself.ensures.acts disk secrets fixed round beside fence of by has)

pub returns-then-eq-clause-tells : goal.returns-then-eq-clause-tells
returns-then-eq-clause-tells g c = λ fixed round beside fence of by has.
    let same : c.args.player ≡ c.args.terms.now.me = search rules in
    own_told fixed round c.args.public c.args.player c.args.private (same ∙ sym of.me) (live_of beside fence c.args.life.now) _ (c.offer_to_itself.ensures.tells fixed round beside fence of by has)

pub returns-in_err-push-clause-tells : goal.returns-in_err-push-clause-tells
returns-in_err-push-clause-tells g c = λ fixed round beside fence of by has.
    let p = err_from_is_err_and c.from_residual.result c.from_residual.ensures.1 in
    rw (p.1, p.2) (said_none _ Wanting tt c.in_err-push.ensures.err)

pub returns-in_err-push-clause-moved : goal.returns-in_err-push-clause-moved
returns-in_err-push-clause-moved g c = moved_none g.D.Disk.tells g.D.Disk.made g.X.SecretStore.made g.D.Disk.faults g.X.SecretStore.faults g.met.D.Disk.made_none g.met.X.SecretStore.made_none c.args.devices.now

pub returns-then-eq-clause-current : goal.returns-then-eq-clause-current
returns-then-eq-clause-current g c = c.offer_to_itself.ensures.current

pub returns-in_err-push-clause-current : goal.returns-in_err-push-clause-current
returns-in_err-push-clause-current g c = refl
