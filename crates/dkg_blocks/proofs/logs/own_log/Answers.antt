use Rattle.std.proofs.Common.{Option, ap, sym, ◌∙◌}
use Rattle.std.specs.Prelude.{option_and_then, option_map}
use Rattle.dkg_store.specs.declared.dealer.Dealer.{Dealer}
use Rattle.dkg_life.specs.LiveOf.{dealer_of}
use Rattle.dkg_blocks.proofs.logs.own_log.Goals as goal

pub returns-in-Some : goal.returns-in-Some
returns-in-Some g c = λ beside fence. c.finalized.ensures ∙ sym (ap (λ (o : Option Dealer). option_and_then (λ d. d.log) (option_map dealer_of o)) c.in-Some.is)
