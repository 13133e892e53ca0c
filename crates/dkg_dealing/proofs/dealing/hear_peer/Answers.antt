use Rattle.std.proofs.Common.{Some, refl, sym, ap, ◌∙◌}
use Rattle.dkg_types.specs.declared.message.Message.{Message as Channel}
use Rattle.dkg_types.specs.declared.message.Message.TheVariants.{Dealer as ADealing, Ack as AnAck}
use Rattle.std.proofs.lemmas.Result.{err_from_is_err_and}
use Rattle.dkg_store.specs.Acts.{by_want}
use Rattle.dkg_life.specs.declared.life.Life.{Life}
use Rattle.dkg_store.specs.declared.call.StoreError.TheVariants.{NoMemory as Wanting}
use Rattle.dkg_life.proofs.Burning.{makes_none}
use Rattle.dkg_life.proofs.Kept.{moved_none}
use Rattle.dkg_dealing.proofs.Read.{message_heard, message_told}
use Rattle.dkg_life.proofs.Said.{said_none}
use Rattle.dkg_dealing.proofs.dealing.hear_peer.Goals as goal

pub returns-in_err-message-clause-acts : goal.returns-in_err-message-clause-acts
returns-in_err-message-clause-acts g c = λ disk secrets fixed beside fence of by.
    let p = err_from_is_err_and c.from_residual.result c.from_residual.ensures.1 in
    rw (p.1, p.2) (makes_none _ _ _ _ by_want tt refl)

pub returns-in_err-message-clause-tells : goal.returns-in_err-message-clause-tells
returns-in_err-message-clause-tells g c = λ fixed beside fence of by.
    let p = err_from_is_err_and c.from_residual.result c.from_residual.ensures.1 in
    rw (p.1, p.2) (said_none _ Wanting tt refl)

pub returns-in-Dealer-clause-acts : goal.returns-in-Dealer-clause-acts
returns-in-Dealer-clause-acts g c = λ disk secrets fixed beside fence of by.
    message_heard fixed c.args.from c.args.bytes.now beside fence c.args.life.now c.in-Some.epoch (sym c.in-Some.ensures) (ADealing c.in-Dealer.public c.in-Dealer.private) c.get.result
    (of.limit ∙ sym c.get.ensures.value) (sym c.in_ok-message.ensures.read ∙ c.in-Some-2.is ∙ ap (λ (m : Channel). Some m) c.in-Dealer.is)
    (λ round has. c.hear_dealing.ensures.acts disk secrets fixed round beside fence of by has)

pub returns-in-Dealer-clause-tells : goal.returns-in-Dealer-clause-tells
returns-in-Dealer-clause-tells g c = λ fixed beside fence of by.
    message_told fixed c.args.from c.args.bytes.now beside fence c.args.life.now c.in-Some.epoch (sym c.in-Some.ensures) (ADealing c.in-Dealer.public c.in-Dealer.private) c.get.result
    (of.limit ∙ sym c.get.ensures.value) (sym c.in_ok-message.ensures.read ∙ c.in-Some-2.is ∙ ap (λ (m : Channel). Some m) c.in-Dealer.is)
    (λ round has. c.hear_dealing.ensures.tells fixed round beside fence of by has)

pub returns-in-Ack-clause-acts : goal.returns-in-Ack-clause-acts
returns-in-Ack-clause-acts g c = λ disk secrets fixed beside fence of by.
    message_heard fixed c.args.from c.args.bytes.now beside fence c.args.life.now c.in-Some.epoch (sym c.in-Some.ensures) (AnAck c.in-Ack.ack) c.get.result
    (of.limit ∙ sym c.get.ensures.value) (sym c.in_ok-message.ensures.read ∙ c.in-Some-2.is ∙ ap (λ (m : Channel). Some m) c.in-Ack.is)
    (λ round has. c.hear_ack.ensures.acts disk secrets fixed round beside fence of by has)

pub returns-in-Ack-clause-tells : goal.returns-in-Ack-clause-tells
returns-in-Ack-clause-tells g c = λ fixed beside fence of by.
    message_told fixed c.args.from c.args.bytes.now beside fence c.args.life.now c.in-Some.epoch (sym c.in-Some.ensures) (AnAck c.in-Ack.ack) c.get.result
    (of.limit ∙ sym c.get.ensures.value) (sym c.in_ok-message.ensures.read ∙ c.in-Some-2.is ∙ ap (λ (m : Channel). Some m) c.in-Ack.is)
    (λ round has. c.hear_ack.ensures.tells fixed round beside fence of by has)

pub returns-in_default-clause-moved : goal.returns-in_default-clause-moved
returns-in_default-clause-moved g c = moved_none g.D.Disk.tells g.D.Disk.made g.X.SecretStore.made g.D.Disk.faults g.X.SecretStore.faults g.met.D.Disk.made_none g.met.X.SecretStore.made_none c.args.devices.now

pub returns-in_err-message-clause-moved : goal.returns-in_err-message-clause-moved
returns-in_err-message-clause-moved g c = moved_none g.D.Disk.tells g.D.Disk.made g.X.SecretStore.made g.D.Disk.faults g.X.SecretStore.faults g.met.D.Disk.made_none g.met.X.SecretStore.made_none c.args.devices.now

pub returns-in_default-2-clause-moved : goal.returns-in_default-2-clause-moved
returns-in_default-2-clause-moved g c = moved_none g.D.Disk.tells g.D.Disk.made g.X.SecretStore.made g.D.Disk.faults g.X.SecretStore.faults g.met.D.Disk.made_none g.met.X.SecretStore.made_none c.args.devices.now

pub returns-in_default-clause-current : goal.returns-in_default-clause-current
returns-in_default-clause-current g c = refl

pub returns-in_err-message-clause-current : goal.returns-in_err-message-clause-current
returns-in_err-message-clause-current g c = refl

pub returns-in_default-2-clause-current : goal.returns-in_default-2-clause-current
returns-in_default-2-clause-current g c = refl

pub returns-in-Dealer-clause-current : goal.returns-in-Dealer-clause-current
returns-in-Dealer-clause-current g c = c.hear_dealing.ensures.current

pub returns-in-Ack-clause-current : goal.returns-in-Ack-clause-current
returns-in-Ack-clause-current g c = c.hear_ack.ensures.current

pub returns-in_default-clause-rest : goal.returns-in_default-clause-rest
returns-in_default-clause-rest g c = refl

pub returns-in_err-message-clause-rest : goal.returns-in_err-message-clause-rest
returns-in_err-message-clause-rest g c = refl

pub returns-in_default-2-clause-rest : goal.returns-in_default-2-clause-rest
returns-in_default-2-clause-rest g c = refl

pub returns-in-Dealer-clause-rest : goal.returns-in-Dealer-clause-rest
returns-in-Dealer-clause-rest g c = c.hear_dealing.ensures.rest

pub returns-in-Ack-clause-rest : goal.returns-in-Ack-clause-rest
returns-in-Ack-clause-rest g c = c.hear_ack.ensures.rest ∙ (λ i. record c.args.life.now { store = c.hear_ack.new.life.store; dealer = c.hear_ack.new.life.dealer; player = sym (ap (λ (l : Life g.row.Dir.Denot). l.player) c.hear_ack.ensures.rest) i })
