use Rattle.std.proofs.Common.{◌≡◌, is_some, true, false, arith}
use Rattle.std.specs.Prelude.{option_map}
use Rattle.std.specs.Option.{option_copied}
use Rattle.std.proofs.lemmas.Grind.{common_steps}
use Rattle.dkg_types.specs.PayloadCodes.{log_payload}
use Rattle.dkg_verifying.specs.InclusionOf.{IsSeen}
use Rattle.dkg_verifying.proofs.Telling.{copied_offers, own_offers, served_offers}
use Rattle.dkg_blocks.proofs.logs.offered.Goals as goal

pub returns-then-is_some-clause-made : goal.returns-then-is_some-clause-made
returns-then-is_some-clause-made g c = λ beside fence seen.
    let some : is_some c.args.inclusion.now.served ≡ true = grind (arith, common_steps) in
    served_offers beside fence c.args.life.now c.args.inclusion.now.served seen.served some

pub returns-in-Including-clause-made : goal.returns-in-Including-clause-made
returns-in-Including-clause-made g c =
    let none : is_some c.args.inclusion.now.served ≡ false = grind (arith, common_steps) in
    copied_offers c.args.life.now (λ beside. IsSeen c.args.inclusion.now beside.inclusion) c.log_of.result (option_map log_payload (option_copied c.own_log.result))
    (λ beside fence seen. own_offers beside fence c.args.life.now c.in-Including.is c.args.inclusion.now.served seen.served none (option_copied c.own_log.result) (c.own_log.ensures beside fence)) c.log_of.ensures
