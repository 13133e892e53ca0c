-- Which artifact is kept, what it is derived from, and the faults that a course stops by.
use Rattle.std.proofs.Common.{◌≡◌, inl, inr, ℕ, ◌+◌, ◌^◌, ◌==◌, Bool, true, false, nat_le, nat_lt, List, length, Option, Some, None, refl, sym, ◌∙◌, ap}
use Rattle.std.specs.Prelude.{IfSome, option_map, if◌then◌else◌}
use Rattle.std.specs.Option.{option_map_or}
use Rattle.dkg_ceremony.specs.declared.output.Output.{Output}
use Rattle.dkg_infos.specs.InfoCodes.{peers_of}
use Rattle.dkg_infos.specs.NextInfos.{Provided, info_by, info_with}
use Rattle.dkg_infos.specs.declared.entry.Entry.{Entry}
use Rattle.dkg_infos.specs.declared.fault.Fault.{Fault}
use Rattle.dkg_infos.specs.declared.fault.Fault.TheVariants.{HeightRange, InvalidParticipants}
use Rattle.dkg_infos.specs.declared.fault.ParticipantsCause.TheVariants.{ProviderEmpty, ProviderAbove}
use Rattle.dkg_infos.specs.declared.info.EpochInfo.{EpochInfo}
use Rattle.dkg_infos.specs.declared.outcome.EpochOutcome.{EpochOutcome}
use Rattle.dkg_infos.specs.declared.outcome.EpochOutcome.TheVariants.{Success, Failure}
use Rattle.dkg_artifact.specs.declared.verified.Verified as verified
use Rattle.dkg_core.specs.Courses.{Course, Stops, bind}
use Rattle.dkg_core.specs.Fixed.{Fixed, OneShot}
use Rattle.dkg_core.specs.Including as including
use Rattle.dkg_core.specs.Including.{Continuation}
use Rattle.dkg_core.specs.Live.{Live, Artifact, VerifiedLogs}
use Rattle.dkg_life.specs.declared.stop.Stop.{Stop}
use Rattle.dkg_life.specs.Ends.{by_stop, cause_in}
use Rattle.dkg_verifying.specs.Including.{derives_in, ended_by, stops_by, unprovided}
use Rattle.dkg_verifying.specs.InclusionOf.{verified_of}
use Rattle.dkg_life.specs.Made.{Speaks}
use Rattle.dkg_life.specs.Rules.{SameProvided}
use Rattle.dkg_life.specs.Steps.{IsFaultOrWant}
use Rattle.dkg_verifying.proofs.Deriving.{derived}
use Rattle.dkg_life.proofs.Speaking.{gives_speaks, wants_speaks}

module _ {Dir : Type 0} (c : Fixed Dir) where
  -- what is cached is not derived again
  pub artifact_cached : (r : VerifiedLogs) (st : Live Dir) (next : Continuation Dir) (made : Artifact Dir) → including.cached_for st.inclusion.cached r.logs ≡ Some made → including.artifact c r st next ≡ next made st
  artifact_cached r st next made is = ap (λ (o : Option (Artifact Dir)). including.artifact_by c r o st next) is

  -- .. and what isn't, is derived and then cached
  pub artifact_derived : (info : EpochInfo Dir) (r : VerifiedLogs) (st : Live Dir) (next : Continuation Dir) → c.oneshot ≡ None → st.participation.current ≡ Some info
      → including.cached_for st.inclusion.cached r.logs ≡ None
      → including.artifact c r st next ≡ bind (derives_in c info r) (λ made. next made (including.with_cached r.logs made st))
  artifact_derived info r st next reshare current is =
      ap (λ (o : Option (Artifact Dir)). including.artifact_by c r o st next) is
      ∙ ap (λ (o : Option (OneShot Dir)). including.derives c o r st next) reshare
      ∙ ap (λ (o : Option (EpochInfo Dir)). option_map_or (λ info. including.derives_next c info r st (including.keeping_artifact r.logs next)) o (Stops HeightRange)) current
      ∙ derived c info r st (including.keeping_artifact r.logs next)

-- WHAT IS DERIVED, from what the provider says

module _ {Dir : Type 0} where
  info_alike : (directory directory_too : List ℕ → Dir) (outcome : EpochOutcome) (epoch : ℕ) (output : Output) (players next_players next_too : List ℕ) → next_players ≡ next_too
      → directory (peers_of output.players players next_players) ≡ directory_too (peers_of output.players players next_players)
      → info_with directory outcome epoch output players next_players ≡ info_with directory_too outcome epoch output players next_too
  info_alike directory directory_too outcome epoch output players next_players next_too same reached = λ i. record {
    outcome = outcome;
    epoch = epoch;
    output = output;
    players = players;
    next_players = same i;
    directory = (reached ∙ ap (λ (them : List ℕ). directory_too (peers_of output.players players them)) same) i;
  }

  -- the info after an info is the relation's
  pub info_is : (provided : Provided Dir) (participants : ℕ → List ℕ) (directory : (epoch : ℕ) → List ℕ → Dir) (info : EpochInfo Dir) (found : Option verified.Verified) (next_players : List ℕ)
      → ((epoch : ℕ) → provided.participants epoch ≡ participants epoch) → ((epoch : ℕ) (peers : List ℕ) → provided.directory epoch peers ≡ directory epoch peers)
      → next_players ≡ participants (info.epoch + 2)
      → info_with (directory (info.epoch + 1)) (ended_by info.output found).0 (info.epoch + 1) (ended_by info.output found).1 info.next_players next_players
      ≡ info_by provided info (option_map (λ v. v.output) (option_map verified_of found))
  info_is provided participants directory info None next_players says reaches is =
      info_alike (directory (info.epoch + 1)) (provided.directory (info.epoch + 1)) Failure (info.epoch + 1) info.output info.next_players next_players (provided.participants (info.epoch + 2))
      (is ∙ sym (says (info.epoch + 2))) (sym (reaches (info.epoch + 1) (peers_of info.output.players info.next_players next_players)))
  info_is provided participants directory info (Some its) next_players says reaches is =
      info_alike (directory (info.epoch + 1)) (provided.directory (info.epoch + 1)) Success (info.epoch + 1) its.output info.next_players next_players (provided.participants (info.epoch + 2))
      (is ∙ sym (says (info.epoch + 2))) (sym (reaches (info.epoch + 1) (peers_of its.output.players info.next_players next_players)))

  -- what a provider says twice, it says still
  pub same_provided : {old mid new : ℕ → List ℕ} {before between now : ℕ → List ℕ → Dir} → SameProvided old mid before between → SameProvided mid new between now → SameProvided old new before now
  same_provided first second = (λ epoch. second.0 epoch ∙ first.0 epoch, λ epoch peers. second.1 epoch peers ∙ first.1 epoch peers)

-- FAULTS, which a course stops by

-- such a fault comes from within
pub own_unprovided : (participants : ℕ → List ℕ) (limit epoch : ℕ) → IfSome (unprovided participants limit epoch) (λ its. cause_in its ≡ None)
own_unprovided participants limit epoch = by_test (nat_le (2 ^ 64) (epoch + 2)) (length (participants (epoch + 2)) == 0) (nat_lt limit (length (participants (epoch + 2))))
  where
    by_test : (past none above : Bool)
        → IfSome (if past then Some HeightRange else if none then Some (InvalidParticipants ProviderEmpty) else if above then Some (InvalidParticipants (ProviderAbove (length (participants (epoch + 2))) limit)) else None)
        (λ its. cause_in its ≡ None)
    by_test true none above = refl
    by_test false true above = refl
    by_test false false true = refl
    by_test false false false = tt

module _ {Dir S : Type 0} (acts : Course Dir Fault S) where
  pub fault_speaks : (o : Option Fault) (stop : Stop) → IsFaultOrWant o stop → IfSome o (λ its. cause_in its ≡ None) → (out : List Entry) → Speaks (stops_by o acts) (by_stop stop) out out
  fault_speaks None stop want own out = wants_speaks acts stop want out out refl
  fault_speaks (Some its) stop (inl want) own out = let stops : Course Dir Fault S = Stops its in wants_speaks stops stop want out out refl
  fault_speaks (Some its) stop (inr ends) own out = let stops : Course Dir Fault S = Stops its in gives_speaks stops stop its ends refl own out
