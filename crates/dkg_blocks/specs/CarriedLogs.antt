-- What a block brings, and what a dealer has once blocks carry its log.
use Rattle.std.specs.Prelude.{ℕ, ◌==◌, Option, None, IfSome, if◌then◌else◌, option_and_then, option_map}
use Rattle.dkg_ceremony.specs.Logs.{LogFits}
use Rattle.dkg_store.specs.declared.dealer.Dealer.{Dealer}
use Rattle.dkg_types.specs.Blocks.{Block}
use Rattle.dkg_types.specs.PayloadCodes.{its_log}

-- The log that a block carries, if it carries one, is within this limit, as it is where the block's payload was read under it.
abbrev pub CarriesWithin : {Dir : Type 0} → (limit : ℕ) → Block Dir → Type 0
CarriesWithin limit b = IfSome (option_and_then its_log b.payload) (λ s. LogFits limit s.log)

-- its log is offered no more
abbrev pub forgotten : Dealer → Dealer
forgotten d = record d { finalized = None }

-- .. where that was this node's
abbrev pub cleared_of : (me dealer : ℕ) → Option Dealer → Option Dealer
cleared_of me dealer its = if dealer == me then option_map forgotten its else its
