-- What is said of the shares that are read: what follows from it, and by what it holds in a step.
use Rattle.std.proofs.Common.{inl, inr, ℕ, List, Option, Some, sym, ◌∙◌, ap, subst}
use Rattle.dkg_values.specs.Rising.{lookup}
use Rattle.dkg_ceremony.specs.declared.round.RoundParts.{RoundParts as Round}
use Rattle.dkg_ceremony.specs.Outcomes.{LogMap}
use Rattle.dkg_infos.specs.declared.info.EpochInfo.{EpochInfo}
use Rattle.dkg_store.specs.Acts.{Held}
use Rattle.dkg_core.specs.Seen.{seen_in}
use Rattle.dkg_core.specs.Fixed.{Fixed}
use Rattle.dkg_core.specs.Live.{Live, Artifact}
use Rattle.dkg_core.specs.Storing.{ReadsSecrets}
use Rattle.dkg_core.specs.Asked.{OfShares, IsArtifactIn}
use Rattle.dkg_core.specs.Through.{IsLiveThrough, StepReads}

-- A record more changes no share: what is said of these devices' shares is said in the whole step.
pub step_reads : {Dir : Type 0} (c : Fixed Dir) (stored : OfShares) (h : Held) → ReadsSecrets c.seen → ((epoch : ℕ) → stored epoch (lookup epoch (c.seen h).shares)) → StepReads c stored (Some h)
step_reads c stored h secrets said k epoch (inl is) = subst (λ (x : Held). stored epoch (lookup epoch (c.seen x).shares)) (sym is) (said epoch)
step_reads c stored h secrets said k epoch (inr more) =
    subst (λ (shares : List (ℕ × ℕ)). stored epoch (lookup epoch shares)) (sym (secrets.shares k ∙ ap (λ (x : Held). (seen_in x).shares) more.2 ∙ sym (secrets.shares h))) (said epoch)

-- Whatever is said more of less.
module _ {Dir : Type 0} (c : Fixed Dir) (stored more : OfShares) (so : (epoch : ℕ) (share : Option ℕ) → stored epoch share → more epoch share) where
  artifact_as : (round : Round) (info : EpochInfo Dir) (st : Live Dir) (logs : LogMap) (made : Artifact Dir) → IsArtifactIn c stored round info st logs made → IsArtifactIn c more round info st logs made
  artifact_as round info st logs made is = record {
    provided = is.provided;
    info_is = is.info_is;
    matched = is.matched;
    success = is.success;
    failure = λ none. (λ plays. so info.epoch made.share ((is.failure none).0 plays), (is.failure none).1);
  }

  pub live_as : (st : Live Dir) → IsLiveThrough c stored st → IsLiveThrough c more st
  live_as st live =
      let has = live.asked.has in
      record {
        stands = live.stands;
        informed = live.informed;
        asked = record {
          has = record {
            served = has.served;
            none = has.none;
            early = has.early;
            waits = has.waits;
            runs = has.runs;
            kept = has.kept;
            made = λ d is. let its = has.made d is in (its.0, its.1, its.2, its.3, artifact_as its.0 its.1 st d.logs d.artifact its.4);
          };
          read = live.asked.read;
        };
      }
