use Rattle.std.proofs.Common.{refl}
use Rattle.dkg_journal.specs.DeviceCall.{Crashes}
use Rattle.dkg_secrets.specs.Made.{secrets_made_one}
use Rattle.dkg_secrets.proofs.memory_secrets.MemorySecretsSecretStore.crash.Goals as goal

pub returns-clause-calls : goal.returns-clause-calls
returns-clause-calls c = secrets_made_one (Crashes c.args.pick) _ _ refl
