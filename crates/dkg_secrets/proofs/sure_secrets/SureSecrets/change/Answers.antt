use Rattle.dkg_journal.specs.DeviceCall.{CallMade}
use Rattle.dkg_secrets.specs.Made.{secrets_made_one}
use Rattle.dkg_secrets.proofs.Tried.{nothing_done, all_done}
use Rattle.dkg_secrets.proofs.sure_secrets.SureSecrets.change.Goals as goal

pub returns-in-Ok-clause-tried : goal.returns-in-Ok-clause-tried
returns-in-Ok-clause-tried c = all_done c.args.op.now c.args.self.now.held _ (c.in-Ok.ensures.done)

pub returns-in-Ok-clause-calls : goal.returns-in-Ok-clause-calls
returns-in-Ok-clause-calls c = secrets_made_one (CallMade c.args.op.now) _ _ (returns-in-Ok-clause-tried c)

pub returns-in-Err-clause-tried : goal.returns-in-Err-clause-tried
returns-in-Err-clause-tried c = nothing_done c.args.op.now c.args.self.now.held _ (c.in-Err.ensures.kept)

pub returns-in-Err-clause-calls : goal.returns-in-Err-clause-calls
returns-in-Err-clause-calls c = secrets_made_one (CallMade c.args.op.now) _ _ (returns-in-Err-clause-tried c)
