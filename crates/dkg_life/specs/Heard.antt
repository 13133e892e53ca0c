-- A dealing that is heard.
use Rattle.std.specs.Prelude.{◌≡◌, ℕ, List, Option, Some, None, option_map, OnOk, Result, Ok, Err, if◌then◌else◌}
use Rattle.std.specs.FinMap.{get, insert}
use Rattle.dkg_ceremony.specs.declared.ceremony.DealingError.{DealingError}
use Rattle.dkg_ceremony.specs.declared.round.RoundParts.{RoundParts as Round}
use Rattle.dkg_infos.specs.declared.fault.Fault.{Fault}
use Rattle.dkg_store.specs.Acts.{Acts, under}
use Rattle.dkg_store.specs.Calls.{answering}
use Rattle.dkg_store.specs.Pairs.{Pairs}
use Rattle.dkg_store.specs.Rest.{SameRest}
use Rattle.dkg_store.specs.declared.player.Player.{Player}
use Rattle.dkg_store.specs.declared.store.Store.{Store}
use Rattle.dkg_life.specs.declared.life.Life.{Life}
use Rattle.dkg_life.specs.declared.stop.Stop.{Stop}
use Rattle.dkg_life.specs.Ends.{fault_of_store}
use Rattle.dkg_life.specs.LiveOf.{SitsIn}
use Rattle.dkg_life.specs.Rules.{AckOf, DealingOf}
use Rattle.dkg_life.specs.Steps.{is_dealing}

-- the number of the round that is dealt, while it is
abbrev pub round_dealt : {Dir : Type 0} → Life Dir → Option ℕ
round_dealt life = if is_dealing life.stage then option_map (λ round. round.number) life.round else None

-- a player's acts, under the step's names
abbrev pub player_answers : DealingOf → AckOf → (me : ℕ) → Round → (known : Option (List ℕ × ℕ)) → (epoch dealer : ℕ) → List ℕ → ℕ → Acts Fault (Result (List ℕ) DealingError)
player_answers dealing_of ack_of me round known epoch dealer public private =
    under fault_of_store (answering (ack_of me round dealer) known (dealing_of round me dealer public private) epoch dealer public private)

-- A dealing is recorded where its dealer's is not, and where it passed the check.
abbrev pub pairs_after : (known : Option (List ℕ × ℕ)) → (check : Result (Unit {0}) DealingError) → (key : ℕ × ℕ) → List ℕ × ℕ → Pairs → Pairs
pairs_after (Some kept) check key pair pairs = pairs
pairs_after None (Err refused) key pair pairs = pairs
pairs_after None (Ok passed) key pair pairs = insert pairs key pair

-- What a player that was handed a dealing leaves in memory: nothing but that, and the player keeps its seat.
pub record KeepsSeat {Dir : Type 0} (result : Result (Result (List ℕ) DealingError) Stop) (dealing_of : DealingOf) (ack_of : AckOf) (me epoch dealer : ℕ) (public : List ℕ) (private : ℕ) (old new : Store Dir) (player now : Player) : Type 0 where
  pub round : now.round ≡ player.round
  pub sits : SitsIn ack_of me new player.round now
  pub rest : SameRest old new
  pub pairs : OnOk result (new.dealings ≡ pairs_after (get old.dealings (epoch, dealer)) (dealing_of player.round player.me dealer public private) (epoch, dealer) (public, private) old.dealings)
