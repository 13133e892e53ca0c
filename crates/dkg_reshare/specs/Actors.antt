-- An actor between two calls, by its state.
use Rattle.std.specs.Prelude.{List, ◌≡◌, ℕ, Option, None, Bool, Result, Ok, Err, IsErrOf, IsTrue, ⊤}
use Rattle.std.specs.declared.num.NonZeroU32.{NonZeroU32}
use Rattle.std.specs.declared.num.NonZeroU64.{NonZeroU64}
use Rattle.dkg_ceremony.specs.declared.mode.Mode.{Mode}
use Rattle.dkg_ceremony.specs.declared.mode.ModeVersion.{ModeVersion}
use Rattle.dkg_ceremony.specs.declared.mode.Reveal.{Reveal}
use Rattle.dkg_journal.specs.Names.{Files}
use Rattle.dkg_store.specs.Acts.{Ended, went, broken, by_want, held_in}
use Rattle.dkg_secrets.specs.Secrets.{Secrets}
use Rattle.dkg_store.specs.declared.devices.Devices.{Devices}
use Rattle.dkg_infos.specs.declared.fault.Fault.{Fault}
use Rattle.dkg_core.specs.Agreeing.{AreAgreed}
use Rattle.dkg_core.specs.Live as core
use Rattle.dkg_core.specs.Live.{Live, Mailed}
use Rattle.dkg_reshare.specs.declared.actor.State.{State}
use Rattle.dkg_reshare.specs.declared.actor.State.TheVariants.{New, Living, Failed as HadFailed}
use Rattle.dkg_life.specs.declared.config.Terms.{Terms}
use Rattle.dkg_verifying.specs.declared.inclusion.Inclusion.{Inclusion}
use Rattle.dkg_life.specs.declared.life.Life.{Life}
use Rattle.dkg_reshare.specs.declared.message.Message.{Message}
use Rattle.dkg_reshare.specs.declared.message.Message.TheVariants as message
use Rattle.dkg_life.specs.declared.stop.Stop.{Stop}
use Rattle.dkg_verifying.specs.declared.told.Told.{Told}
use Rattle.dkg_artifact.specs.declared.job.Job.{Job}
use Rattle.std.specs.FinMap as maps
use Rattle.dkg_life.specs.declared.stop.Stop.TheVariants.{Failed}
use Rattle.dkg_life.specs.Ends.{by_stop}
use Rattle.dkg_blocks.specs.CarriedLogs.{CarriesWithin}
use Rattle.dkg_life.specs.LiveOf.{records_of}
use Rattle.dkg_life.specs.Ready.{IsReadyLife}
use Rattle.dkg_life.specs.Rules.{AckOf, DealOf, CheckAckOf, SameProvided}

-- STATES

abbrev pub IsNew : {C Dir Signer Cfg : Type 0} → State C Dir Signer Cfg → Type 0
IsNew New = ⊤
IsNew (Living life inclusion) = ⊥
IsNew HadFailed = ⊥

abbrev pub HasFailed : {C Dir Signer Cfg : Type 0} → State C Dir Signer Cfg → Type 0
HasFailed New = ⊥
HasFailed (Living life inclusion) = ⊥
HasFailed HadFailed = ⊤

abbrev pub IsLiving : {C Dir Signer Cfg : Type 0} → State C Dir Signer Cfg → Type 0
IsLiving New = ⊥
IsLiving (Living life inclusion) = ⊤
IsLiving HadFailed = ⊥

-- of a life and what its inclusion has, if there is one
abbrev pub IfIncluding : {C Dir Signer Cfg : Type 0} → State C Dir Signer Cfg → (Life Dir → Inclusion C Dir Signer Cfg → Type 0) → Type 0
IfIncluding New P = ⊤
IfIncluding (Living life inclusion) P = P life inclusion
IfIncluding HadFailed P = ⊤

-- .. of the life alone
abbrev pub IfLiving : {C Dir Signer Cfg : Type 0} → State C Dir Signer Cfg → (Life Dir → Type 0) → Type 0
IfLiving state P = IfIncluding state (λ life inclusion. P life)

-- the verification that runs, if one does
abbrev pub running_in : {C Dir Signer Cfg : Type 0} → State C Dir Signer Cfg → Option Job
running_in (Living life inclusion) = inclusion.verification.running
running_in state = None

-- what a request was told last, if it was made
abbrev pub told_in : {C Dir Signer Cfg : Type 0} → State C Dir Signer Cfg → (request : ℕ) → Option (Told Dir)
told_in (Living life inclusion) request = maps.get inclusion.told request
told_in state request = None

-- BETWEEN TWO CALLS

-- It was opened, and its life, if it goes on, stands on these devices.
pub record IsOpenedOn {C Dir Signer Cfg D X : Type 0} (tells : Bool) (files : D → Files) (image : D → Files → Type 0) (ack_of : AckOf) (deal_of : DealOf) (check_ack_of : CheckAckOf)
    (terms : Terms) (state : State C Dir Signer Cfg) (devices : Devices D X) : Type 0 where
  pub opened : IsNew state → ⊥
  pub ready : IfLiving state (λ life. IsReadyLife tells files image ack_of deal_of check_ack_of terms life devices)

-- Memory has what the devices give back.
abbrev pub MemoryAgrees : {C Dir Signer Cfg : Type 0} → State C Dir Signer Cfg → Files → Secrets → Type 0
MemoryAgrees state files s = IfLiving state (λ life. AreAgreed (records_of life.store) (held_in files s))

-- HOW A CALL ENDS

-- At Ok there is a life.
abbrev pub lives : {C Dir Signer Cfg : Type 0} → (Life Dir → Live Dir) → State C Dir Signer Cfg → Result (Unit {0}) Stop → Ended Fault (Live Dir)
lives view (Living life inclusion) (Ok done) = went (view life)
lives view New (Ok done) = broken by_want
lives view HadFailed (Ok done) = broken by_want
lives view state (Err stop) = by_stop stop

-- At Ok there is a life of which P holds, and at an error the actor has failed.
abbrev pub EndsAt : {C Dir Signer Cfg : Type 0} → State C Dir Signer Cfg → Result (Unit {0}) Stop → (Life Dir → Type 0) → Type 0
EndsAt (Living life inclusion) (Ok done) P = P life
EndsAt New (Ok done) P = ⊥
EndsAt HadFailed (Ok done) P = ⊥
EndsAt state (Err stop) P = HasFailed state

-- A call that ends in an error is the last one that does anything: nothing is done where one did before, and Failed comes exactly there.
pub record FailsStop {C Dir Signer Cfg : Type 0} (state : State C Dir Signer Cfg) (result : Result (Unit {0}) Stop) (same : Type 0) : Type 0 where
  pub stopped : HasFailed state → (result ≡ Err Failed) × same
  pub only : IsErrOf result Failed → HasFailed state

-- WHAT STAYS of an actor over a call: its life's random word, the parts that it was made of, and what its provider says, if that tells.
pub record ActorStays {C Dir Signer Cfg : Type 0} (old new : State C Dir Signer Cfg) (same : Type 0) (tells : Bool) (participants participants_now : ℕ → List ℕ)
    (directory directory_now : ℕ → List ℕ → Dir) : Type 0 where
  pub word : IfLiving old (λ life. IfLiving new (λ now. now.word ≡ life.word))
  pub rest : same
  pub provider : IsTrue tells → SameProvided participants participants_now directory directory_now

-- MESSAGES

abbrev pub message_of : {Dir Cfg : Type 0} → Message Dir Cfg → core.Message Dir
message_of (message.Peer from bytes) = Mailed (core.Peer from bytes)
message_of (message.Finalized b) = core.Finalized b
message_of (message.NextLog request height) = Mailed (core.NextLog request height)
message_of (message.ReleaseLog height) = Mailed (core.ReleaseLog height)
message_of (message.EpochInfo request) = Mailed (core.EpochInfoOf request)
message_of (message.Feed request b) = Mailed (core.Feed request b)
message_of (message.Over request) = Mailed (core.Over request)
message_of (message.Cancel request) = Mailed (core.Cancel request)
message_of message.Work = Mailed (core.Work None)

-- What is delivered is within this limit.
abbrev pub BringsWithin : {Dir Cfg : Type 0} → (limit : ℕ) → Message Dir Cfg → Type 0
BringsWithin limit (message.Finalized b) = CarriesWithin limit b
BringsWithin limit its = ⊤

-- TERMS

-- a configuration's plain data
pub record AreTerms (terms : Terms) (me : ℕ) (blocks : NonZeroU64) (limit : NonZeroU32) (max_mode : ModeVersion) (mode : Mode) (reveal : Reveal) (namespace : List ℕ) : Type 0 where
  pub me_is : terms.me ≡ me
  pub blocks_are : terms.blocks_per_epoch ≡ blocks
  pub limit_is : terms.limit ≡ limit
  pub version_is : terms.max_mode ≡ max_mode
  pub mode_is : terms.mode ≡ mode
  pub reveal_is : terms.reveal ≡ reveal
  pub namespace_is : terms.namespace ≡ namespace
