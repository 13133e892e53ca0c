-- What goes on of a life that passes through whole epochs, where no epoch is passed on.
use Rattle.std.proofs.Common.{◌≡◌, inl, inr, ℕ, Bool, true, false, Option, refl, sym, subst}
use Rattle.std.specs.Prelude.{◌+◌, ◌==◌, if◌then◌else◌}
use Rattle.dkg_ceremony.specs.declared.round.RoundParts.{RoundParts as Round}
use Rattle.dkg_ceremony.specs.Schedule.{midpoint}
use Rattle.dkg_types.specs.Blocks.{Block}
use Rattle.dkg_store.specs.Acts.{Held}
use Rattle.dkg_core.specs.Fixed.{Fixed}
use Rattle.dkg_core.specs.Live.{Live, Stage, Deals, Includes, Follows, Ends, Mail, Peer, NextLog, ReleaseLog, EpochInfoOf, Feed, Over, Cancel, Work, Mailed, Finalized, is_last_height, with_inclusion, with_tip}
use Rattle.dkg_core.specs.Setup as s
use Rattle.dkg_core.specs.Forms.{Judged, Refusal, Passed, Applied, judged_block}
use Rattle.dkg_core.specs.Stepping.{IsHeardBy, given_itself, dealt_behind}
use Rattle.dkg_core.specs.Asked.{OfShares}
use Rattle.dkg_core.specs.Through.{IsReadFrom, IsAppliedThrough, IsBlockThrough, IsIncludedThrough, IsFollowedThrough, IsStillThrough, NextLivesStayThrough, asked_by, included}
use Rattle.dkg_core.proofs.Including.{is_observed}
use Rattle.dkg_core.proofs.Mailing.{asked_beside}
use Rattle.dkg_core.proofs.StepDealing as dealing

module _ {Dir : Type 0} (c : Fixed Dir) (stored : OfShares) (st : Live Dir) where
  same_life : IsStillThrough st st
  same_life = record { epoch = refl; round = refl; seat = refl; current = refl; orchestrator = refl; probe = refl }

  -- another with such requests
  beside : (mid end : Live Dir) → IsStillThrough st mid → end ≡ with_inclusion end.inclusion mid → IsStillThrough st end
  beside mid end still same =
      subst (λ (x : Live Dir). IsStillThrough st x) (sym same)
      (record { epoch = still.epoch; round = still.round; seat = still.seat; current = still.current; orchestrator = still.orchestrator; probe = still.probe })

  mailed : (its : Mail Dir) (end : Live Dir) → IsReadFrom c (asked_by its st) end → IsStillThrough st end
  mailed its end read = beside (asked_by its st) end (beside st (asked_by its st) same_life (asked_beside st its)) read.same

  heard : (from : ℕ) (end : Live Dir) → IsHeardBy c st from end → IsStillThrough st end
  heard from end (inl same) = subst (λ (x : Live Dir). IsStillThrough st x) (sym same) same_life
  heard from end (inr (inl its)) =
      subst (λ (x : Live Dir). IsStillThrough st x) (sym its.is) (record { epoch = refl; round = refl; seat = refl; current = refl; orchestrator = refl; probe = refl })
  heard from end (inr (inr its)) =
      let same = (dealing.taken_same c st its.round.number its.dealer from its.ack st.records refl).same in
      subst (λ (x : Live Dir). IsStillThrough st x) (sym its.is)
      (record { epoch = same.epoch; round = same.round; seat = same.seat; current = same.current; orchestrator = same.orchestrator; probe = same.probe })

  module _ (block : Block Dir) (devices : Option Held) where
    dealt : IsStillThrough st (dealt_behind c block (given_itself c st))
    dealt = either (block.height + 1 == midpoint c.blocks_per_epoch (given_itself c st).participation.epoch)
      where
        either : (t : Bool) → IsStillThrough st (if t then s.begins_inclusion c (with_tip block (given_itself c st)) else with_tip block (given_itself c st))
        either true =
            let same = (dealing.given_same c st).same in
            record { epoch = same.epoch; round = same.round; seat = same.seat; current = same.current; orchestrator = same.orchestrator; probe = same.probe }
        either false =
            let same = (dealing.given_same c st).same in
            record { epoch = same.epoch; round = same.round; seat = same.seat; current = same.current; orchestrator = same.orchestrator; probe = same.probe }

    observed_so : (round : Round) → IsStillThrough st (included c round block st)
    observed_so round =
        let same = is_observed c round block st in
        record { epoch = same.epoch; round = same.round; seat = same.seat; current = same.current; orchestrator = same.orchestrator; probe = same.probe }

    at_tip : IsStillThrough st (with_tip block st)
    at_tip = record { epoch = refl; round = refl; seat = refl; current = refl; orchestrator = refl; probe = refl }

    includes : (t : Bool) (end : Live Dir) (left : Option Held) → (t ≡ true → ⊥) → IsIncludedThrough c stored block st devices t end left → IsStillThrough st end
    includes true end left none at = absurd (none refl)
    includes false end left none at = beside (included c at.0 block st) end (observed_so at.0) at.2.same

    follows : (t : Bool) (end : Live Dir) (left : Option Held) → (t ≡ true → ⊥) → IsFollowedThrough c stored block st devices t end left → IsStillThrough st end
    follows true end left none at = absurd (none refl)
    follows false end left none at = subst (λ (x : Live Dir). IsStillThrough st x) (sym at) at_tip

    applied : (stage : Stage) (end : Live Dir) (left : Option Held) → (is_last_height c block.height ≡ true → ⊥) → IsAppliedThrough c stored block st devices stage end left → IsStillThrough st end
    applied Deals end left none at = beside (dealt_behind c block (given_itself c st)) end dealt at.same
    applied Includes end left none at = includes (is_last_height c block.height) end left none at
    applied Follows end left none at = follows (is_last_height c block.height) end left none at
    applied Ends end left none at = absurd at

    judged : (j : Judged) (end : Live Dir) (left : Option Held) → (j ≡ Applied → is_last_height c block.height ≡ true → ⊥) → IsBlockThrough c stored block st devices j end left → IsStillThrough st end
    judged (Refusal fault) end left none at = absurd at
    judged Passed end left none at = subst (λ (x : Live Dir). IsStillThrough st x) (sym at.0) same_life
    judged Applied end left none at = applied st.participation.stage end left (none refl) at

pub next_lives_stay_through : {Dir : Type 0} → NextLivesStayThrough Dir
next_lives_stay_through c stored st (Finalized block) devices end left none next = judged c stored st block devices (judged_block c block st) end left none next.is
next_lives_stay_through c stored st (Mailed (Peer from bytes)) devices end left none next = heard c stored st from end next.is
next_lives_stay_through c stored st (Mailed (NextLog request height)) devices end left none next = mailed c stored st (NextLog request height) end next.is.0
next_lives_stay_through c stored st (Mailed (ReleaseLog height)) devices end left none next = mailed c stored st (ReleaseLog height) end next.is.0
next_lives_stay_through c stored st (Mailed (EpochInfoOf request)) devices end left none next = mailed c stored st (EpochInfoOf request) end next.is.0
next_lives_stay_through c stored st (Mailed (Feed request block)) devices end left none next = mailed c stored st (Feed request block) end next.is.0
next_lives_stay_through c stored st (Mailed (Over request)) devices end left none next = mailed c stored st (Over request) end next.is.0
next_lives_stay_through c stored st (Mailed (Cancel request)) devices end left none next = mailed c stored st (Cancel request) end next.is.0
next_lives_stay_through c stored st (Mailed (Work handed)) devices end left none next = mailed c stored st (Work handed) end next.is.0
