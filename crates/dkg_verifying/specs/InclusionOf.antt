-- What inclusion has in memory, as the relation's Inclusion.
use Rattle.std.specs.Prelude.{ℕ, false, List, [], ◌∷◌, ◌≡◌, ◌⊎◌, ◌↔◌, Contains, Option, Some, None, IfSome, IsOk, IsSome, IsSomeAnd, map, option_map, option_and_then, Ok}
use Rattle.std.specs.Ordering.{nat_cmp}
use Rattle.std.specs.FinMap as maps
use Rattle.std.specs.FinMap.{FinMap}
use Rattle.dkg_values.specs.Rising.{lookup}
use Rattle.dkg_ceremony.specs.Outcomes.{LogMap}
use Rattle.dkg_ceremony.specs.Schedule.{bounds_at}
use Rattle.dkg_artifact.specs.Requested as requested
use Rattle.dkg_artifact.specs.Results.{Checked}
use Rattle.dkg_artifact.specs.declared.artifact.Artifact as artifact
use Rattle.dkg_artifact.specs.declared.job.Dealings as dealt
use Rattle.dkg_artifact.specs.declared.job.Job as job
use Rattle.dkg_artifact.specs.declared.scan.Tip as scan
use Rattle.dkg_artifact.specs.declared.verified.Verified as verified
use Rattle.dkg_core.specs.Live as core
use Rattle.dkg_core.specs.Sources as placed
use Rattle.dkg_verifying.specs.declared.inclusion.Hand.{Hand}
use Rattle.dkg_verifying.specs.declared.inclusion.Inclusion.{Inclusion}
use Rattle.dkg_life.specs.declared.life.Life.{Life}
use Rattle.dkg_life.specs.declared.life.Stage.TheVariants as stage
use Rattle.dkg_verifying.specs.declared.told.EpochInfoResponse.TheVariants as response
use Rattle.dkg_verifying.specs.declared.told.Told.{Told}
use Rattle.dkg_verifying.specs.declared.told.Told.TheVariants as told
use Rattle.dkg_life.specs.LiveOf.{awaited_of}
use Rattle.dkg_life.specs.Rules.{CheckLogOf, DealingOf, FinishOf}
use Rattle.dkg_verifying.specs.Scanned.{IsFed}

-- WHAT REQUESTS WERE TOLD

abbrev pub answer_or : {Dir : Type 0} → Option (Told Dir) → Told Dir
answer_or None = told.Posted
answer_or (Some its) = its

-- A request was made: one that was told something before stays as it is.
abbrev pub posted_in : {Dir : Type 0} → (request : ℕ) → FinMap nat_cmp (Told Dir) → FinMap nat_cmp (Told Dir)
posted_in request answers = maps.insert answers request (answer_or (maps.get answers request))

-- what the relation keeps of an answer; it keeps none of a request that waits
abbrev pub kept_of : {Dir : Type 0} → Told Dir → Option (core.RequestAnswer Dir)
kept_of told.Posted = None
kept_of (told.Log payload) = Some (core.GaveLog payload)
kept_of (told.Info (response.Available payload)) = Some (core.GaveInfo payload)
kept_of (told.Info (response.Unavailable why)) = Some (core.GaveNone why)

-- THE RELATION'S WORDS FOR WHAT IS KEPT

abbrev pub waiting_request_of : {Dir : Type 0} → requested.WaitingRequest Dir → core.Request Dir
waiting_request_of r = record { number = r.number; blocks = r.blocks; ended = r.ended }

abbrev pub verified_of : verified.Verified → core.Verified
verified_of v = record { output = v.output; share = v.share }

abbrev pub checked_result_of : Checked → core.VerifiedLogs
checked_result_of c = record { round = c.round; me = c.me; logs = c.logs; result = option_map verified_of c.result }

abbrev pub job_dealings_of : dealt.Dealings → core.Dealings
job_dealings_of d = record { me = d.me; dealings = d.dealings }

abbrev pub job_of : job.Job → core.Job
job_of j = record { round = j.round; player = option_map job_dealings_of j.player; logs = j.logs }

abbrev pub artifact_of : {Dir : Type 0} → artifact.Artifact Dir → core.Artifact Dir
artifact_of a = record { info = a.info; share = a.share }

abbrev pub cached_of : {Dir : Type 0} → LogMap × artifact.Artifact Dir → core.Cached Dir
cached_of kept = record { logs = kept.0; artifact = artifact_of kept.1 }

abbrev pub tip_of : placed.Tip → scan.Tip
tip_of t = record { height = t.height; digest = t.digest }

-- INCLUSION

-- the requests in their order: the one in hand is the first
abbrev pub in_front : {Dir Cfg : Type 0} → Option (Hand Dir Cfg) → List (requested.WaitingRequest Dir) → List (requested.WaitingRequest Dir)
in_front None waiting = waiting
in_front (Some hand) waiting = hand.request ∷ waiting

-- This is what inclusion has, as the relation has it. The answers are in the order of their numbers here, and there in that of their coming.
pub record IsSeen {C Dir Signer Cfg : Type 0} (its : Inclusion C Dir Signer Cfg) (i : core.Inclusion Dir) : Type 0 where
  pub served : i.served ≡ its.served
  pub queue : i.queue ≡ map waiting_request_of (in_front its.hand its.requests)
  pub running : i.running ≡ option_map job_of its.verification.running
  pub waiter : i.waiter ≡ its.waiter
  pub retained : i.retained ≡ option_map checked_result_of its.verification.kept
  pub cached : i.cached ≡ option_map cached_of its.cache
  pub told : (request : ℕ) → lookup request i.told ≡ option_and_then kept_of (maps.get its.told request)
  pub used : (request : ℕ) → (Contains i.used request ⊎ IsSome (lookup request i.told)) ↔ IsSome (maps.get its.told request)

-- A verification can be run to its end: of its player no dealing lacks, and each passes the check.
pub record IsRunnable (dealing_of : DealingOf) (finish_of : FinishOf) (j : job.Job) : Type 0 where
  pub has_dealings : IfSome j.player (λ p. IsOk (finish_of j.round p.me p.dealings j.logs))
  pub plays : IfSome j.player (λ p. Contains j.round.players p.me)
  pub checked : IfSome j.player (λ p. (dealer : ℕ) → IfSome (lookup dealer p.dealings) (λ d. dealing_of j.round p.me dealer d.0 d.1 ≡ Ok tt))

-- The request in hand is one whose ancestry goes on, and its scan stands behind what it was fed.
pub record IsInHand {Dir Cfg : Type 0} (check_log_of : CheckLogOf) (blocks_per_epoch : ℕ) (life : Life Dir) (hand : Hand Dir Cfg) : Type 0 where
  pub includes : life.stage ≡ stage.Including
  pub goes_on : hand.request.ended ≡ false
  pub stands : IsSomeAnd life.round (λ round. IsFed check_log_of round (bounds_at blocks_per_epoch (awaited_of life)) (option_map tip_of life.tip) hand.request.blocks hand.scan)

-- What holds of it between two calls of a life: a request is in hand only while no verification runs, and without a round nothing waits.
pub record IsReadyInclusion {C Dir Signer Cfg : Type 0} (check_log_of : CheckLogOf) (dealing_of : DealingOf) (finish_of : FinishOf) (blocks_per_epoch : ℕ)
    (life : Life Dir) (its : Inclusion C Dir Signer Cfg) : Type 0 where
  pub hand : IfSome its.hand (IsInHand check_log_of blocks_per_epoch life)
  pub free : IsSome its.hand → its.verification.running ≡ None
  pub runs : IfSome its.verification.running (λ j. (life.stage ≡ stage.Including) × (life.round ≡ Some j.round) × IsRunnable dealing_of finish_of j)
  pub idle : life.stage ≡ stage.Following → its.requests ≡ []
  pub current : (life.stage ≡ stage.Following → ⊥) → IsSome life.store.current
  pub unserved : (life.stage ≡ stage.Including → ⊥) → its.served ≡ None

-- Behind a call no request waits that could be read: one is in hand, or a verification runs.
pub record IsSettledInclusion {C Dir Signer Cfg : Type 0} (check_log_of : CheckLogOf) (dealing_of : DealingOf) (finish_of : FinishOf) (blocks_per_epoch : ℕ)
    (life : Life Dir) (its : Inclusion C Dir Signer Cfg) : Type 0 where
  pub ready : IsReadyInclusion check_log_of dealing_of finish_of blocks_per_epoch life its
  pub settled : life.stage ≡ stage.Including → IsSome life.round → its.hand ≡ None → its.verification.running ≡ None → its.requests ≡ []
