use Rattle.std.proofs.Common.{inl, inr, rules}
use Rattle.dkg_journal.specs.DeviceCall.{CutIn}
use Rattle.dkg_secrets.specs.Made.{secrets_made_one}
use Rattle.dkg_secrets.proofs.sure_secrets.SureSecretsSecretStore.cut.Goals as goal

pub returns-then-is_err-clause-calls : goal.returns-then-is_err-clause-calls
returns-then-is_err-clause-calls c = secrets_made_one (CutIn c.args.op.now c.args.pick) _ _ (c.cut.ensures.tried, inr (search rules))

pub returns-clause-calls : goal.returns-clause-calls
returns-clause-calls c = secrets_made_one (CutIn c.args.op.now c.args.pick) _ _ (c.cut.ensures.tried, inl (search rules))
