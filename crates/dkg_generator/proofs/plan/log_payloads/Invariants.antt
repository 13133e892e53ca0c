use Rattle.std.proofs.Common.{◌≡◌, map, take}
use Rattle.dkg_generator.specs.Made.{log_bytes}
use Rattle.dkg_generator.proofs.plan.log_payloads.Given as goal

abbrev pub invariant-loop-signed : goal.invariant-loop-signed
invariant-loop-signed l = l.payloads.items ≡ map log_bytes (take l.signed-index l.logs)
