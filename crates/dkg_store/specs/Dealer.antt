-- What a dealer keeps of its dealing, whom it still waits for, and what it answers.
use Rattle.std.specs.Prelude.{◌≡◌, ◌≢◌, ◌||◌, ℕ, Bool, not, List, [], ◌∷◌, map, filter, fold, Option, Some, None, is_some, Result, Ok, Err, IsErrOf, is_ok, Contains, if◌then◌else◌}
use Rattle.std.specs.Ordering.{nat_cmp}
use Rattle.std.specs.FinMap.{FinMap, contains_key, get, insert, empty}
use Rattle.dkg_values.specs.Rising.{lookup}
use Rattle.dkg_ceremony.specs.declared.ceremony.AckError.{AckError}
use Rattle.dkg_ceremony.specs.declared.deal.DealError.{DealError}
use Rattle.dkg_ceremony.specs.declared.round.RoundParts.{RoundParts as Round}
use Rattle.dkg_ceremony.specs.declared.ceremony.AckError.TheVariants.{NoMemory}
use Rattle.dkg_store.specs.Called.{ErrorIsDue, if_made, made_in}
use Rattle.dkg_store.specs.Noted.{Notes}
use Rattle.dkg_store.specs.Rest.{KeepsAck}
use Rattle.dkg_store.specs.declared.dealer.AckHandleError.{AckHandleError}
use Rattle.dkg_store.specs.declared.dealer.AckHandleError.TheVariants.{Refused, Store as OfStore}
use Rattle.dkg_store.specs.declared.store.Store.{Store}
use Rattle.dkg_store.specs.declared.dealer.AckOutcome.{AckOutcome}
use Rattle.dkg_store.specs.declared.dealer.AckOutcome.TheVariants.{Recorded, Duplicate}
use Rattle.dkg_store.specs.declared.dealer.Dealer.{Dealer}

-- acknowledgements by player
abbrev pub AckMap : Type 0
AckMap = FinMap nat_cmp (List ℕ)

abbrev pub with_passed : AckMap → ℕ × List ℕ → Result (Unit {0}) AckError → AckMap
with_passed m a (Ok passed) = insert m a.0 a.1
with_passed m a (Err error) = m

-- of these acknowledgements by player, those that pass the check
abbrev pub passing : (check : ℕ → List ℕ → Result (Unit {0}) AckError) → List (ℕ × List ℕ) → AckMap
passing check acks = fold (λ m a. with_passed m a (check a.0 a.1)) empty acks

-- .. as a list, in the order of these
abbrev pub passing_acks : (check : ℕ → List ℕ → Result (Unit {0}) AckError) → List (ℕ × List ℕ) → List (ℕ × List ℕ)
passing_acks check acks = filter (λ a. is_ok (check a.0 a.1)) acks

abbrev pub with_held : ℕ → Option (List ℕ) → List (ℕ × List ℕ) → List (ℕ × List ℕ)
with_held player None later = later
with_held player (Some ack) later = (player, ack) ∷ later

-- the acknowledgements of these players that came in, in the order of the players
abbrev pub held_acks : AckMap → List ℕ → List (ℕ × List ℕ)
held_acks acks [] = []
held_acks acks (player ∷ players) = with_held player (get acks player) (held_acks acks players)

abbrev pub with_unsent : ℕ → Option (List ℕ) → Option ℕ → List (ℕ × ℕ) → List (ℕ × ℕ)
with_unsent player (Some ack) private later = later
with_unsent player None None later = later
with_unsent player None (Some private) later = (player, private) ∷ later

-- the players without an acknowledgement, in their order, each with its private half
abbrev pub unsent : AckMap → List (ℕ × ℕ) → List ℕ → List (ℕ × ℕ)
unsent acks privates [] = []
unsent acks privates (player ∷ players) = with_unsent player (get acks player) (lookup player privates) (unsent acks privates players)

-- .. and with the public half
abbrev pub to_send : List ℕ → List (ℕ × ℕ) → List (ℕ × (List ℕ × ℕ))
to_send public players = map (λ p. (p.0, (public, p.1))) players

-- The dealing is what the ceremony deals from some share and seed, and each acknowledgement that came in passes the check.
pub record IsDealerOf (deal_of : Round → ℕ → Option ℕ → List ℕ → Result (List ℕ × List (ℕ × ℕ)) DealError) (check_of : Round → ℕ → List ℕ → ℕ → List ℕ → Result (Unit {0}) AckError) (dealer : Dealer) : Type 0 where
  pub among : Contains dealer.round.dealers dealer.me
  pub share : Option ℕ
  pub seed : List ℕ
  pub dealt : deal_of dealer.round dealer.me share seed ≡ Ok (dealer.public, dealer.privates)
  pub passed : (player : ℕ) (ack : List ℕ) → get dealer.acks player ≡ Some ack → check_of dealer.round dealer.me dealer.public player ack ≡ Ok tt

-- An acknowledgement that passes is a duplicate where that player's came in, or was recorded, before.
abbrev pub ack_outcome_of : (counted recorded : Bool) → AckOutcome
ack_outcome_of counted recorded = if (counted || recorded) then Duplicate else Recorded

-- how the handling of an acknowledgement ended: in a record where that player's neither came in nor was recorded before
abbrev pub acked_in : {T E : Type 0} → AckMap → Notes (List ℕ) → (epoch player : ℕ) → Result T E → Option Bool
acked_in acks recorded epoch player result = made_in (not (is_some (get acks player) || contains_key recorded (epoch, player))) result

-- what a dealer answers, where the store did not refuse; want of memory is the store's
abbrev pub AnswersAck : Result AckOutcome AckHandleError → (check : Result (Unit {0}) AckError) → AckOutcome → Type 0
AnswersAck (Ok outcome) check its = (check ≡ Ok tt) × (outcome ≡ its)
AnswersAck (Err (Refused error)) check its = (check ≡ Err error) × (error ≢ NoMemory)
AnswersAck (Err (OfStore error)) check its = Unit {0}

-- What the handling of an acknowledgement leaves in memory: what passed the check and is a player's first counts, and is recorded if none was.
pub record HandlesAck {Dir : Type 0} (ends : Option Bool) (result : Result AckOutcome AckHandleError) (check : Result (Unit {0}) AckError)
    (epoch player : ℕ) (ack : List ℕ) (dealer now : Dealer) (old new : Store Dir) (same : Type 0) : Type 0 where
  pub answers : AnswersAck result check (ack_outcome_of (is_some (get dealer.acks player)) (contains_key old.acks (epoch, player)))
  pub rest : now ≡ record dealer { acks = now.acks }
  pub counted : now.acks ≡ if_made (made_in (not (is_some (get dealer.acks player))) result) (insert dealer.acks player ack) dealer.acks
  pub recorded : KeepsAck ends (epoch, player) ack old new
  -- a refusal touches nothing
  pub untouched : (e : AckError) → IsErrOf result (Refused e) → same

-- what an error of the handling is due to, where it is the store's
abbrev pub IsDueAs : AckHandleError → (disk secrets cut want : Type 0) → Type 0
IsDueAs (Refused error) disk secrets cut want = Unit {0}
IsDueAs (OfStore error) disk secrets cut want = ErrorIsDue error disk secrets cut want
