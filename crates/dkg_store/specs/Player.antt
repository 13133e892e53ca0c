-- What a player has acknowledged, beside the dealings that are recorded.
use Rattle.std.specs.Prelude.{◌≡◌, ◌⊎◌, ◌<◌, ◌^◌, ◌&&◌, ◌||◌, not, ℕ, Bool, List, [], ◌∷◌, ◌++◌, Option, Some, None, is_some, IsSome, IfSome, OnSome, Result, Ok, Err, IsOk, IsErrOf, IsTrue, if◌then◌else◌}
use Rattle.std.specs.List.{list_any}
use Rattle.std.specs.Ordering.{nat_cmp}
use Rattle.std.specs.FinMap.{FinMap, get, insert}
use Rattle.dkg_values.specs.Rising.{lookup}
use Rattle.dkg_ceremony.specs.Finishes.{has_public}
use Rattle.dkg_ceremony.specs.declared.dealer_log.DealerLog.{DealerLog}
use Rattle.dkg_ceremony.specs.declared.round.RoundParts.{RoundParts as Round}
use Rattle.dkg_ceremony.specs.declared.ceremony.DealingError.{DealingError}
use Rattle.dkg_journal.specs.Names.{Files}
use Rattle.dkg_infos.specs.declared.entry.Entry.{Entry}
use Rattle.dkg_infos.specs.declared.entry.Entry.TheVariants.{Recorded}
use Rattle.dkg_store.specs.Called.{ErrorIsDue, if_made, made_in}
use Rattle.dkg_store.specs.Pairs.{Pairs, HoldsDealings, HoldsEither}
use Rattle.dkg_store.specs.Recorded.{with_first}
use Rattle.dkg_store.specs.Rest.{SameRest}
use Rattle.dkg_secrets.specs.Secrets.{Secrets}
use Rattle.dkg_store.specs.declared.player.DealingHandleError.{DealingHandleError}
use Rattle.dkg_store.specs.declared.player.DealingHandleError.TheVariants.{Refused, Store as OfStore}
use Rattle.dkg_store.specs.declared.player.Player.{Player}
use Rattle.dkg_store.specs.declared.store.Store.{Store}

-- the acknowledgement of the dealing that is recorded
pub record Acknowledges (ack_of : ℕ → Round → ℕ → List ℕ → List ℕ) (me : ℕ) (round : Round) (pairs : Pairs) (epoch dealer : ℕ) (ack : List ℕ) : Type 0 where
  pub pair : List ℕ × ℕ
  pub recorded : get pairs (epoch, dealer) ≡ Some pair
  pub is : ack ≡ ack_of me round dealer pair.0

-- each acknowledgement that a player keeps is that of the dealing that is recorded
pub record IsPlayerOf (ack_of : ℕ → Round → ℕ → List ℕ → List ℕ) (me : ℕ) (round : Round) (acks : FinMap nat_cmp (List ℕ)) (pairs : Pairs) (epoch : ℕ) : Type 0 where
  pub kept : (dealer : ℕ) (ack : List ℕ) → get acks dealer ≡ Some ack → Acknowledges ack_of me round pairs epoch dealer ack

-- What a dealing that came in leaves: the dealings from before; or, where it is new and passed the check, these or those with it.
pub record MayKeep (check : Result (Unit {0}) DealingError) (pairs : Pairs) (key : ℕ × ℕ) (pair : List ℕ × ℕ) (image : Files → Type 0) (held : Secrets) : Type 0 where
  pub so : HoldsDealings pairs image held ⊎ ((check ≡ Ok tt) × (get pairs key ≡ None) × HoldsEither pairs (insert pairs key pair) image held)

-- A dealer's log bears this player's acknowledgement, and no recorded dealing of the dealer has the log's public half.
abbrev pub is_orphan : (bears : ℕ → DealerLog → Bool) → (dealings : List (ℕ × (List ℕ × ℕ))) → ℕ × DealerLog → Bool
is_orphan bears dealings p = bears p.0 p.1 && not (has_public p.1.public (lookup p.0 dealings))

-- there is one such log
abbrev pub has_orphan : (bears : ℕ → DealerLog → Bool) → (dealings : List (ℕ × (List ℕ × ℕ))) → List (ℕ × DealerLog) → Bool
has_orphan bears dealings logs = list_any (is_orphan bears dealings) logs

-- A dealing is new where its dealer's was neither answered nor recorded.
abbrev pub is_new : Option (List ℕ) → Option (List ℕ × ℕ) → Bool
is_new kept recorded = not (is_some kept || is_some recorded)

-- how the handling of a dealing ended
abbrev pub handled_in : {T E : Type 0} → FinMap nat_cmp (List ℕ) → Pairs → (epoch dealer : ℕ) → Result T E → Option Bool
handled_in acks pairs epoch dealer result = made_in (is_new (get acks dealer) (get pairs (epoch, dealer))) result

-- What a player answers: the acknowledgement that it kept, else that of the dealing that is recorded, and else what the check says.
abbrev pub answer_to : (ack_of : List ℕ → List ℕ) → Option (List ℕ) → Option (List ℕ × ℕ) → (check : Result (Unit {0}) DealingError) → List ℕ → Result (List ℕ) DealingError
answer_to ack_of (Some ack) recorded check public = Ok ack
answer_to ack_of None (Some pair) check public = Ok (ack_of pair.0)
answer_to ack_of None None (Ok passed) public = Ok (ack_of public)
answer_to ack_of None None (Err error) public = Err error

-- .. where the store did not refuse
abbrev pub AnswersDealing : Result (List ℕ) DealingHandleError → Result (List ℕ) DealingError → Type 0
AnswersDealing (Ok ack) answer = answer ≡ Ok ack
AnswersDealing (Err (Refused error)) answer = answer ≡ Err error
AnswersDealing (Err (OfStore error)) answer = Unit {0}

-- the acknowledgements with an answer, of which a dealer's first one stays
abbrev pub with_answer : {E : Type 0} → FinMap nat_cmp (List ℕ) → (dealer : ℕ) → Result (List ℕ) E → FinMap nat_cmp (List ℕ)
with_answer acks dealer (Ok ack) = if is_some (get acks dealer) then acks else insert acks dealer ack
with_answer acks dealer (Err error) = acks

-- What a recorded dealing leaves in memory: it is kept with its acknowledgement, recorded and told; or nothing of it, where the call was stopped.
pub record KeepsDealing {Dir : Type 0} (ends : Option Bool) (epoch dealer : ℕ) (public told : List ℕ) (private : ℕ) (ack : List ℕ)
    (kept kept_now : FinMap nat_cmp (List ℕ)) (halves halves_now : FinMap nat_cmp (List ℕ × ℕ)) (old new : Store Dir) (out out_now : List Entry) : Type 0 where
  pub acks : kept_now ≡ if_made ends (insert kept dealer ack) kept
  pub dealings : halves_now ≡ if_made ends (with_first halves dealer (public, private)) halves
  pub pairs : new.dealings ≡ if_made ends (insert old.dealings (epoch, dealer) (public, private)) old.dealings
  pub rest : SameRest old new
  pub says : out_now ≡ if_made ends (out ++ Recorded epoch dealer told private ∷ []) out
  pub fits : OnSome ends (dealer < 2 ^ 32)

-- What the handling of a dealing leaves in memory: its answer is kept, and just a new dealing is kept, recorded and told.
pub record Handles {Dir : Type 0} (ends : Option Bool) (result : Result (List ℕ) DealingHandleError) (answer : Result (List ℕ) DealingError)
    (epoch dealer : ℕ) (public : List ℕ) (private : ℕ) (player now : Player) (old new : Store Dir) (out out_now : List Entry) : Type 0 where
  pub answers : AnswersDealing result answer
  pub me : now.me ≡ player.me
  pub round : now.round ≡ player.round
  pub acks : now.acks ≡ with_answer player.acks dealer result
  pub dealings : now.dealings ≡ if_made ends (with_first player.dealings dealer (public, private)) player.dealings
  pub pairs : new.dealings ≡ if_made ends (insert old.dealings (epoch, dealer) (public, private)) old.dealings
  pub rest : SameRest old new
  pub says : out_now ≡ if_made ends (out ++ Recorded epoch dealer public private ∷ []) out
  pub fits : IfSome ends (λ made. IsTrue made → dealer < 2 ^ 32)

-- What touches nothing: a refusal; a dealing that the check refuses; one of a dealer whose dealing is recorded, but that its answer is kept; and one
-- that was answered before, which is answered.
pub record Untouched (kept : Option (List ℕ)) (recorded : Option (List ℕ × ℕ)) (check : Result (Unit {0}) DealingError) (result : Result (List ℕ) DealingHandleError) (same_player same_rest : Type 0) : Type 0 where
  pub refused : (e : DealingError) → IsErrOf result (Refused e) → same_player × same_rest
  pub unchecked : (e : DealingError) → check ≡ Err e → same_rest
  pub known : IsSome recorded → same_rest
  pub answered : IsSome kept → same_player × same_rest × IsOk result

-- what an error of the handling is due to, where it is the store's
abbrev pub IsDueTo : DealingHandleError → (disk secrets cut want : Type 0) → Type 0
IsDueTo (Refused error) disk secrets cut want = Unit {0}
IsDueTo (OfStore error) disk secrets cut want = ErrorIsDue error disk secrets cut want
