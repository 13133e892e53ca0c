-- A block that is applied while including: its log is seen to and what waits is read, or the epoch ends with it.
use Rattle.std.proofs.Common.{◌≡◌, ℕ, nat_le, Bool, true, false, Option, Some, None, Ok, Err, refl, sym, ◌∙◌, ap}
use Rattle.std.specs.Prelude.{◌==◌, ◌&&◌, IsSome, is_none, is_some, option_and_then, if◌then◌else◌}
use Rattle.std.specs.Option.{option_map_or}
use Rattle.dkg_ceremony.specs.declared.epocher.Bounds.{Bounds}
use Rattle.dkg_ceremony.specs.declared.round.RoundParts.{RoundParts as Round}
use Rattle.dkg_fence.specs.Readiness.{Readiness}
use Rattle.dkg_types.specs.Blocks.{Block}
use Rattle.dkg_infos.specs.declared.fault.Fault.{Fault}
use Rattle.dkg_infos.specs.declared.fault.Fault.TheVariants.{LocalState}
use Rattle.dkg_infos.specs.declared.fault.LocalCause.TheVariants.{OutcomeOmitted}
use Rattle.dkg_infos.specs.declared.info.EpochInfo.{EpochInfo}
use Rattle.dkg_core.specs.Blocks as blocks
use Rattle.dkg_core.specs.Courses.{Course, Goes, Stops}
use Rattle.dkg_core.specs.Fixed.{Fixed, OneShot}
use Rattle.dkg_core.specs.Including.{advanced}
use Rattle.dkg_core.specs.Live as core
use Rattle.dkg_core.specs.Live.{Artifact, Live, is_last_height, with_tip}
use Rattle.dkg_core.specs.Sources.{Tip}
use Rattle.dkg_verifying.specs.declared.inclusion.Inclusion.{Inclusion}
use Rattle.dkg_life.specs.declared.life.Life.{Life}
use Rattle.dkg_verifying.specs.Including.{applies_included}
use Rattle.dkg_verifying.specs.InclusionOf.{IsSeen}
use Rattle.dkg_life.specs.LiveOf.{Beside, live_of}
use Rattle.dkg_life.specs.Steps.{AreBoundsAt, carried_in}
use Rattle.dkg_blocks.proofs.Applying.{carried_ill, carried_well, last_is, tip_at, tipped}
use Rattle.dkg_verifying.proofs.Included.{seen_as, seen_served}

-- WHAT COUNTS AS SERVED

-- behind a block of this height
abbrev pub still_served : (height : ℕ) → Option ℕ → Option ℕ
still_served height served = option_and_then (λ at. if nat_le at height then None else Some at) served

abbrev pub unserving_at : {Dir : Type 0} → (height : ℕ) → Beside Dir → Beside Dir
unserving_at height beside = record beside { inclusion = record beside.inclusion { served = still_served height beside.inclusion.served } }

pub unserved_seen : {C Dir Signer Cfg : Type 0} (its new : Inclusion C Dir Signer Cfg) (i : core.Inclusion Dir) (at height : ℕ) → at ≡ height → new ≡ record its { served = still_served at its.served } → IsSeen its i
    → IsSeen new (record i { served = still_served height i.served })
unserved_seen its new i at height same is seen =
    seen_as (record its { served = still_served at its.served }) new (record i { served = still_served height i.served }) is
    (seen_served its i seen (still_served height i.served) (still_served at its.served) (ap (still_served height) seen.served ∙ ap (λ (h : ℕ). still_served h its.served) (sym same)))

-- BEFORE THE LAST BLOCK

module _ {Dir : Type 0} (c : Fixed Dir) (b : Block Dir) where
  -- what follows the block's log
  abbrev pub behind_log : Live Dir → Course Dir Fault (Live Dir)
  behind_log st = advanced c (with_tip b (blocks.unserved b.height st))

  pub log_behind : (beside : Beside Dir) (fence : Readiness) (mid : Life Dir) (tip : Tip) → tip ≡ tip_at b
      → behind_log (live_of beside fence mid) ≡ advanced c (live_of (unserving_at b.height beside) fence (record mid { tip = Some tip }))
  log_behind beside fence mid tip at = ap (advanced c) (sym (tipped b (unserving_at b.height beside) fence mid tip at))

-- WHICH ONE IT IS

-- a round that is there
pub its_round : (o : Option Round) → IsSome o → (round : Round) × (o ≡ Some round)
its_round None some = absurd (let e : ◌≡◌ {A = Bool} false true = some in cc)
its_round (Some round) some = (round, refl)

module _ {Dir : Type 0} (c : Fixed Dir) (b : Block Dir) (n : ℕ) (same : c.blocks_per_epoch ≡ n) (reshare : c.oneshot ≡ None) (bounds : Bounds) (are : AreBoundsAt n bounds b.height) where
  module _ (st : Live Dir) (round : Round) (has : st.participation.round ≡ Some round) where
    abbrev at_test : Bool → Course Dir Fault (Live Dir)
    at_test q = if q then blocks.final_block c round b st else blocks.includes c round b st

    in_round : applies_included c b st ≡ at_test (is_last_height c b.height)
    in_round = ap (λ (o : Option Round). option_map_or (λ r. if is_last_height c b.height then blocks.final_block c r b st else blocks.includes c r b st) o (Goes st)) has

    pub is_final : (b.height == bounds.last) ≡ true → applies_included c b st ≡ blocks.final_block c round b st
    is_final is = in_round ∙ ap at_test (last_is c b n same reshare bounds are true is)

    pub not_final : (b.height == bounds.last) ≡ false → applies_included c b st ≡ blocks.includes c round b st
    not_final is = in_round ∙ ap at_test (last_is c b n same reshare bounds are false is)

  -- THE LAST ONE

  module _ (made : Artifact Dir) (st : Live Dir) where
    abbrev taking : EpochInfo Dir → Course Dir Fault (Live Dir)
    taking info = blocks.takes_over c b info (blocks.share_for c info made) st

    abbrev by_mode : Bool → Course Dir Fault (Live Dir)
    by_mode q = if q && is_none b.payload then (if is_some made.info then Stops (LocalState OutcomeOmitted) else blocks.passes_on c b None st) else blocks.carried c b taking

    concludes_is : blocks.concludes c b made st ≡ blocks.carried c b taking
    concludes_is = ap (λ (o : Option (OneShot Dir)). by_mode (is_some o)) reshare

    pub concluded_well : (info : EpochInfo Dir) → carried_in bounds.epoch b ≡ Ok info → blocks.concludes c b made st ≡ blocks.takes_over c b info (blocks.share_for c info made) st
    concluded_well info is = concludes_is ∙ carried_well c b n same reshare bounds are taking info is

    pub concluded_ill : (e : Fault) → carried_in bounds.epoch b ≡ Err e → blocks.concludes c b made st ≡ Stops e
    concluded_ill e is = concludes_is ∙ carried_ill c b n same reshare bounds are taking e is
