-- The last block of an epoch that a node takes part in: the parts of its course, one by one.
use Rattle.std.specs.Prelude.{◌≡◌, Option, Some, None, option_map}
use Rattle.std.specs.Option.{option_map_or}
use Rattle.dkg_ceremony.specs.Outcomes.{LogMap}
use Rattle.dkg_ceremony.specs.declared.round.RoundParts.{RoundParts as Round}
use Rattle.dkg_store.specs.Recorded.{at_epoch, reached_logs}
use Rattle.dkg_infos.specs.declared.fault.Fault.{Fault}
use Rattle.dkg_infos.specs.declared.fault.Fault.TheVariants.{HeightRange}
use Rattle.dkg_infos.specs.declared.info.EpochInfo.{EpochInfo}
use Rattle.dkg_core.specs.Courses.{Course, Goes, Stops, bind}
use Rattle.dkg_core.specs.Fixed.{Fixed}
use Rattle.dkg_core.specs.Including as including
use Rattle.dkg_core.specs.Live as core
use Rattle.dkg_core.specs.Live.{Live}
use Rattle.dkg_verifying.specs.Including.{artifact_in}
use Rattle.dkg_life.specs.Rules.{BearsAckOf, DealingOf, FinishOf, OutcomeOf}
use Rattle.dkg_life.specs.declared.life.Life.{Life}

-- the recorded logs of a life's epoch that blocks at or below its tip carry
abbrev pub canonical_in : {Dir : Type 0} → Life Dir → LogMap
canonical_in life = reached_logs life.midpoint (option_map (λ t. t.height) life.tip) (at_epoch life.epoch life.store.logs)

-- A verification's job is made, and its result found, by these.
pub record FindsBy {Dir : Type 0} (bears_ack_of : BearsAckOf) (dealing_of : DealingOf) (outcome_of : OutcomeOf) (finish_of : FinishOf) (c : Fixed Dir) : Type 0 where
  pub bears : c.rules.bears_ack_of ≡ bears_ack_of
  pub dealing : c.rules.dealing_of ≡ dealing_of
  pub outcome : c.rules.outcome_of ≡ outcome_of
  pub finish : c.rules.finish_of ≡ finish_of

-- a verification that starts and ends in its step, and whose result is kept
abbrev pub verifies : {Dir : Type 0} → Fixed Dir → Round → LogMap → Live Dir → Course Dir Fault (Live Dir)
verifies c round logs st =
    let found = including.verified c (including.job_for c round logs st) in
    bind (including.starts_verifying c round logs None st) (λ st. Goes (including.retains c found st))

abbrev pub sees_verified_by : {Dir : Type 0} → Fixed Dir → Round → LogMap → Option core.VerifiedLogs → Live Dir → Course Dir Fault (Live Dir)
sees_verified_by c round logs (Some r) st = Goes st
sees_verified_by c round logs None st = verifies c round logs st

-- .. unless the result for these logs is kept already
abbrev pub sees_verified : {Dir : Type 0} → Fixed Dir → Round → LogMap → Live Dir → Course Dir Fault (Live Dir)
sees_verified c round logs st = sees_verified_by c round logs (including.retained_for st.inclusion.retained logs) st

-- the artifact of the result that is kept
abbrev pub derives_kept : {Dir : Type 0} → Fixed Dir → Live Dir → Course Dir Fault (core.Artifact Dir × Live Dir)
derives_kept c st = option_map_or (λ r. artifact_in c r st) st.inclusion.retained (Stops HeightRange)

-- the artifact that is cached of some logs
abbrev pub takes_cached : {Dir : Type 0} → LogMap → Live Dir → Course Dir Fault (core.Artifact Dir × Live Dir)
takes_cached logs st = option_map_or (λ made. Goes (made, st)) (including.cached_for st.inclusion.cached logs) (Stops HeightRange)

-- Two infos have the same parts, but for their directories.
pub record HaveSameParts {Dir : Type 0} (one other : EpochInfo Dir) : Type 0 where
  pub outcome : one.outcome ≡ other.outcome
  pub epoch : one.epoch ≡ other.epoch
  pub output : one.output ≡ other.output
  pub players : one.players ≡ other.players
  pub next_players : one.next_players ≡ other.next_players
