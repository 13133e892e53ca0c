-- What memory has of logs behind a step: what it had, and the log that a block brings which a life includes; behind an epoch's last block that is taken, what it had of the epoch and later ones.
use Rattle.std.proofs.Common.{◌≡◌, ◌⊎◌, inl, inr, ℕ, Bool, true, false, List, Option, Some, None, refl, sym, ◌∙◌, ap, subst}
use Rattle.std.specs.Prelude.{◌+◌, ◌-◌, ◌==◌, filter, is_some, not, option_and_then, if◌then◌else◌}
use Rattle.dkg_values.specs.Rising.{lookup}
use Rattle.dkg_ceremony.specs.declared.signed_log.SignedDealerLog.{SignedDealerLog}
use Rattle.dkg_ceremony.specs.Schedule.{midpoint}
use Rattle.dkg_ceremony.specs.declared.round.RoundParts.{RoundParts as Round}
use Rattle.dkg_types.specs.Blocks.{Block}
use Rattle.dkg_types.specs.PayloadCodes.{its_log}
use Rattle.dkg_store.specs.Acts.{Held}
use Rattle.dkg_core.specs.Asked.{OfShares}
use Rattle.dkg_core.specs.Dealing.{counts, with_ack}
use Rattle.dkg_core.specs.Fixed.{Fixed}
use Rattle.dkg_core.specs.Forms.{Applied, Judged, Passed, Refusal, judged_block}
use Rattle.dkg_core.specs.Including.{is_served_at}
use Rattle.dkg_core.specs.Live.{Cancel, Deals, Dealer, Ends, EpochInfoOf, Feed, Finalized, Follows, Includes, Live, Mail, Message, NextLog, Over, Peer, Records, ReleaseLog, Mailed, Stage, Work, is_last_height, recorded_at, with_inclusion, with_queue, with_tip}
use Rattle.dkg_core.specs.Logs.{is_accepted, recorded_log}
use Rattle.dkg_laws.specs.LogsRecorded.{first_of_both}
use Rattle.dkg_laws.specs.NodeThrough.{IsNodeThrough}
use Rattle.dkg_core.specs.Setup.{begins_inclusion, records_from}
use Rattle.dkg_core.specs.Stepping.{IsHeardBy, dealt_behind, given_itself, next_epoch, with_taken}
use Rattle.dkg_core.specs.Through.{IsAppliedThrough, IsBlockThrough, IsFollowedThrough, IsIncludedThrough, IsNextThrough, IsPassedOn, IsReadFrom, asked_by, observed, waits_for}
use Rattle.dkg_laws.proofs.Observing.{observes_first, observes_nothing_else}
use Rattle.dkg_core.proofs.StepDealing.{given_same}

module _ {Dir : Type 0} (c : Fixed Dir) (st : Live Dir) where
  -- The life includes the block, which isn't its epoch's last: its log was looked at. (`observes_first` and `observes_nothing_else` say what that leaves.)
  pub record HasObserved (b : Block Dir) (end : Live Dir) : Type 0 where
    pub applied : judged_block c b st ≡ Applied
    pub includes : st.participation.stage ≡ Includes
    pub below : is_last_height c b.height ≡ false
    pub round : Round
    pub of_epoch : st.participation.round ≡ Some round
    pub records : end.records ≡ (observed c round b st).records
    pub tip : end.tip ≡ Some (record { height = b.height; digest = b.digest })

  -- .. or it is an epoch's last, behind which the life goes over to the next one
  pub record HasPassedOn (b : Block Dir) (end : Live Dir) : Type 0 where
    pub applied : judged_block c b st ≡ Applied
    pub last : is_last_height c b.height ≡ true
    pub logs : end.records.logs ≡ (records_from (next_epoch c b - 1) st.records).logs

  -- .. or neither
  pub record HasNoLog (b : Block Dir) (end : Live Dir) : Type 0 where
    pub never : judged_block c b st ≡ Applied → st.participation.stage ≡ Includes → ⊥
    pub logs : end.records.logs ≡ st.records.logs

  abbrev pub LogsBehind : Message Dir → Live Dir → Type 0
  LogsBehind (Finalized b) end = HasNoLog b end ⊎ (HasObserved b end ⊎ HasPassedOn b end)
  LogsBehind (Mailed mail) end = end.records.logs ≡ st.records.logs

  deals_apart : ◌≡◌ {A = Stage} Deals Includes → ⊥
  deals_apart e = cc

  follows_apart : ◌≡◌ {A = Stage} Follows Includes → ⊥
  follows_apart e = cc

  passed_apart : ◌≡◌ {A = Judged} Passed Applied → ⊥
  passed_apart e = cc

  taken_logs : (epoch : ℕ) (d : Dealer) (player : ℕ) (ack : List ℕ) → (with_taken epoch d player ack st).records.logs ≡ st.records.logs
  taken_logs epoch d player ack = by_tests (is_some (lookup player d.acks)) (is_some (recorded_at st.records.acks epoch player))
    where
      by_tests : (one two : Bool) → (if one then st else if two then counts d player ack st else counts d player ack (with_ack epoch player ack st)).records.logs ≡ st.records.logs
      by_tests true two = refl
      by_tests false true = refl
      by_tests false false = refl

  heard_logs : (from : ℕ) (end : Live Dir) → IsHeardBy c st from end → end.records.logs ≡ st.records.logs
  heard_logs from end (inl same) = ap (λ (x : Live Dir). x.records.logs) same
  heard_logs from end (inr (inl its)) = ap (λ (x : Live Dir). x.records.logs) its.is
  heard_logs from end (inr (inr its)) = ap (λ (x : Live Dir). x.records.logs) its.is ∙ taken_logs (its.round).number its.dealer from its.ack

  asked_logs : (mail : Mail Dir) → (asked_by mail st).records.logs ≡ st.records.logs
  asked_logs (Peer from bytes) = refl
  asked_logs (NextLog request height) = refl
  asked_logs (ReleaseLog height) = by_test (is_served_at height st)
    where
      by_test : (t : Bool) → (if t then with_inclusion (record st.inclusion { served = None }) st else st).records.logs ≡ st.records.logs
      by_test true = refl
      by_test false = refl
  asked_logs (EpochInfoOf request) = refl
  asked_logs (Feed request block) = refl
  asked_logs (Over request) = refl
  asked_logs (Cancel request) = by_test (waits_for request st)
    where
      by_test : (t : Bool) → (if t then with_inclusion (record st.inclusion { waiter = None }) st else with_queue (filter (λ r. not (r.number == request)) st.inclusion.queue) st).records.logs ≡ st.records.logs
      by_test true = refl
      by_test false = refl
  asked_logs (Work handed) = refl

  pub dealt_logs : (b : Block Dir) (x : Live Dir) → (dealt_behind c b x).records.logs ≡ x.records.logs
  dealt_logs b x = by_test (b.height + 1 == midpoint c.blocks_per_epoch x.participation.epoch)
    where
      by_test : (t : Bool) → (if t then begins_inclusion c (with_tip b x) else with_tip b x).records.logs ≡ x.records.logs
      by_test true = refl
      by_test false = refl

  read_logs : (mid end : Live Dir) → IsReadFrom c mid end → end.records.logs ≡ mid.records.logs
  read_logs mid end read = ap (λ (x : Live Dir). x.records.logs) read.same

  module _ (stored : OfShares) (devices : Option Held) (end : Live Dir) (left : Option Held) where
    block_logs : (b : Block Dir) → IsBlockThrough c stored b st devices (judged_block c b st) end left → LogsBehind (Finalized b) end
    block_logs b next = by_judged (judged_block c b st) refl next
      where
        passed_on : judged_block c b st ≡ Applied → is_last_height c b.height ≡ true → IsPassedOn c stored b st devices end left → LogsBehind (Finalized b) end
        passed_on applied last taken = inr (inr (record {
          applied = applied;
          last = last;
          logs = ap (λ (r : Records). r.logs) (taken.seated).records ∙ ap (λ (n : ℕ). (records_from (n - 1) st.records).logs) (sym (taken.seated).of_epoch ∙ (taken.on).of_next);
        }))

        by_stage : judged_block c b st ≡ Applied → (stage : Stage) → st.participation.stage ≡ stage → (last : Bool) → is_last_height c b.height ≡ last → IsAppliedThrough c stored b st devices stage end left → LogsBehind (Finalized b) end
        by_stage applied Deals at last is dealt = inl (record {
          never = λ judged includes. deals_apart (sym at ∙ includes);
          logs = read_logs (dealt_behind c b (given_itself c st)) end dealt ∙ dealt_logs b (given_itself c st) ∙ ((given_same c st).same).logs;
        })
        by_stage applied Follows at true is followed = passed_on applied is (subst (λ (t : Bool). IsFollowedThrough c stored b st devices t end left) is followed)
        by_stage applied Follows at false is followed = inl (record {
          never = λ judged includes. follows_apart (sym at ∙ includes);
          logs = ap (λ (x : Live Dir). x.records.logs) (subst (λ (t : Bool). IsFollowedThrough c stored b st devices t end left) is followed);
        })
        by_stage applied Includes at true is its = passed_on applied is (subst (λ (t : Bool). IsIncludedThrough c stored b st devices t end left) is its)
        by_stage applied Includes at false is its =
            let included_so = subst (λ (t : Bool). IsIncludedThrough c stored b st devices t end left) is its in inr (inl (record {
              applied = applied;
              includes = at;
              below = is;
              round = included_so.0;
              of_epoch = included_so.1;
              records = ap (λ (x : Live Dir). x.records) (included_so.2).same;
              tip = ap (λ (x : Live Dir). x.tip) (included_so.2).same;
            }))
        by_stage applied Ends at last is none = absurd none

        by_judged : (j : Judged) → judged_block c b st ≡ j → IsBlockThrough c stored b st devices j end left → LogsBehind (Finalized b) end
        by_judged (Refusal fault) judged none = absurd none
        by_judged Passed judged same = inl (record { never = λ applied includes. passed_apart (sym judged ∙ applied); logs = ap (λ (x : Live Dir). x.records.logs) same.0 })
        by_judged Applied judged applied = by_stage judged st.participation.stage refl (is_last_height c b.height) refl applied

    pub logs_behind : (message : Message Dir) → IsNextThrough c stored st message devices end left → LogsBehind message end
    logs_behind (Finalized b) next = block_logs b next.is
    logs_behind (Mailed (Peer from bytes)) next = heard_logs from end next.is
    logs_behind (Mailed (NextLog request height)) next = read_logs (asked_by (NextLog request height) st) end next.is.0 ∙ asked_logs (NextLog request height)
    logs_behind (Mailed (ReleaseLog height)) next = read_logs (asked_by (ReleaseLog height) st) end next.is.0 ∙ asked_logs (ReleaseLog height)
    logs_behind (Mailed (EpochInfoOf request)) next = read_logs (asked_by (EpochInfoOf request) st) end next.is.0 ∙ asked_logs (EpochInfoOf request)
    logs_behind (Mailed (Feed request block)) next = read_logs (asked_by (Feed request block) st) end next.is.0 ∙ asked_logs (Feed request block)
    logs_behind (Mailed (Over request)) next = read_logs (asked_by (Over request) st) end next.is.0 ∙ asked_logs (Over request)
    logs_behind (Mailed (Cancel request)) next = read_logs (asked_by (Cancel request) st) end next.is.0 ∙ asked_logs (Cancel request)
    logs_behind (Mailed (Work handed)) next = read_logs (asked_by (Work handed) st) end next.is.0 ∙ asked_logs (Work handed)

-- .. and behind a node's step, whose orchestrator's half touches no records
module _ {Dir : Type 0} (c : Fixed Dir) (stored : OfShares) (st : Live Dir) (devices : Option Held) (end : Live Dir) (left : Option Held) where
  pub node_logs : (message : Message Dir) → IsNodeThrough c stored st message devices end left → LogsBehind c st message end
  node_logs message node = by_message message (logs_behind c st stored devices node.mid left message node.next)
    where
      records : end.records ≡ (node.mid).records
      records = ap (λ (x : Live Dir). x.records) node.same

      logs : end.records.logs ≡ (node.mid).records.logs
      logs = ap (λ (r : Records). r.logs) records

      by_message : (its : Message Dir) → LogsBehind c st its node.mid → LogsBehind c st its end
      by_message (Mailed mail) same = logs ∙ same
      by_message (Finalized b) (inl none) = inl (record { never = none.never; logs = logs ∙ none.logs })
      by_message (Finalized b) (inr (inl its)) = inr (inl (record {
        applied = its.applied;
        includes = its.includes;
        below = its.below;
        round = its.round;
        of_epoch = its.of_epoch;
        records = records ∙ its.records;
        tip = ap (λ (x : Live Dir). x.tip) node.same ∙ its.tip;
      }))
      by_message (Finalized b) (inr (inr its)) = inr (inr (record { applied = its.applied; last = its.last; logs = logs ∙ its.logs }))

-- THE LOG of a block that a life included is recorded, unless one of its dealer was,
module _ {Dir : Type 0} (c : Fixed Dir) (st : Live Dir) (b : Block Dir) (end : Live Dir) (its : HasObserved c st b end) where
  pub log_recorded : (log : SignedDealerLog) → option_and_then its_log b.payload ≡ Some log → is_accepted c its.round log ≡ true
      → recorded_at end.records.logs (its.round).number log.dealer ≡ Some (first_of_both (recorded_at st.records.logs (its.round).number log.dealer) (recorded_log b.height log.log))
  log_recorded log carried accepted = ap (λ (r : Records). recorded_at r.logs (its.round).number log.dealer) its.records ∙ observes_first c its.round b st log carried accepted

  -- .. and of no other dealer and epoch anything changes
  pub others_stay : (epoch dealer : ℕ)
      → ((log : SignedDealerLog) → option_and_then its_log b.payload ≡ Some log → is_accepted c its.round log ≡ true → ◌≡◌ {A = ℕ × ℕ} (epoch, dealer) ((its.round).number, log.dealer) → ⊥)
      → recorded_at end.records.logs epoch dealer ≡ recorded_at st.records.logs epoch dealer
  others_stay epoch dealer apart = ap (λ (r : Records). recorded_at r.logs epoch dealer) its.records ∙ observes_nothing_else c its.round b st epoch dealer apart
