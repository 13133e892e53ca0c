-- The end of a verification that answered a request, over the life as it is then.
use Rattle.std.proofs.Common.{◌≡◌, ℕ, List, Option, Some, None, sym, subst}
use Rattle.dkg_ceremony.specs.Outcomes.{LogMap}
use Rattle.dkg_fence.specs.Readiness.{Readiness}
use Rattle.dkg_journal.specs.Names.{Files}
use Rattle.dkg_infos.specs.declared.entry.Entry.{Entry}
use Rattle.dkg_artifact.specs.declared.artifact.Artifact as artifact
use Rattle.dkg_secrets.specs.Secrets.{Secrets}
use Rattle.dkg_store.specs.Acts.{went}
use Rattle.dkg_store.specs.declared.devices.Devices.{Devices}
use Rattle.dkg_core.specs.Fixed.{Fixed}
use Rattle.dkg_core.specs.Including as including
use Rattle.dkg_core.specs.Live as core
use Rattle.dkg_verifying.specs.declared.inclusion.Inclusion.{Inclusion}
use Rattle.dkg_life.specs.declared.life.Life.{Life}
use Rattle.dkg_verifying.specs.Including.{caching, telling}
use Rattle.dkg_verifying.specs.InclusionOf.{IsSeen}
use Rattle.dkg_life.specs.LiveOf.{Beside, EndsWith, live_of}
use Rattle.dkg_life.specs.Made.{Makes, Tells}
use Rattle.dkg_verifying.proofs.Completing.{completed_makes, completed_told}
use Rattle.dkg_verifying.proofs.Within.{NoMore}

module _ {C Dir Signer Cfg : Type 0} (c : Fixed Dir) (reshare : c.oneshot ≡ None) (r : core.VerifiedLogs) (beside : Beside Dir) (fence : Readiness) (life now_life : Life Dir) (same : now_life ≡ life)
    (request : ℕ) (waits : beside.inclusion.waiter ≡ Some request) (cache : Option (LogMap × artifact.Artifact Dir)) (new_its : Inclusion C Dir Signer Cfg)
  where
    -- what inclusion has once the request is answered
    abbrev pub answered_beside : Beside Dir
    answered_beside = record beside { inclusion = (telling request (caching cache (live_of beside fence life))).inclusion }

    abbrev KeptAt : Life Dir → Type 0
    KeptAt l = IsSeen new_its (including.retains c r (live_of answered_beside fence l)).inclusion

    module _ {D X : Type 0} (files : D → Files) (image : D → Files → Type 0) (held : X → Secrets) (old new : Devices D X) (out now : List Entry) where
      pub ended_makes : KeptAt now_life
          → Makes files image held (including.artifact c r (live_of beside fence life) (including.answers_request c request)) (went (telling request (caching cache (live_of beside fence life)))) old new out now
          → EndsWith beside (λ i. IsSeen new_its i) NoMore (λ b. Makes files image held (including.completes c r (live_of beside fence life)) (went (live_of b fence now_life)) old new out now)
      ended_makes kept made =
          subst (λ (l : Life Dir). KeptAt l → EndsWith beside (λ i. IsSeen new_its i) NoMore (λ b. Makes files image held (including.completes c r (live_of beside fence life)) (went (live_of b fence l)) old new out now))
          (sym same) (λ is. completed_makes c reshare r beside fence life request waits cache files image held old new out now is made) kept

    pub ended_told : (out now : List Entry) → KeptAt now_life
        → Tells (including.artifact c r (live_of beside fence life) (including.answers_request c request)) (went (telling request (caching cache (live_of beside fence life)))) out now
        → EndsWith beside (λ i. IsSeen new_its i) NoMore (λ b. Tells (including.completes c r (live_of beside fence life)) (went (live_of b fence now_life)) out now)
    ended_told out now kept told =
        subst (λ (l : Life Dir). KeptAt l → EndsWith beside (λ i. IsSeen new_its i) NoMore (λ b. Tells (including.completes c r (live_of beside fence life)) (went (live_of b fence l)) out now))
        (sym same) (λ is. completed_told c reshare r beside fence life request waits cache out now is told) kept
