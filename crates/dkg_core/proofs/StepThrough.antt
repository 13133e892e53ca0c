-- How steps end in a life that passes through whole epochs.
use Rattle.std.proofs.Common.{◌≡◌, ◌<◌, ◌⊎◌, inl, inr, ℕ, Bool, true, false, List, [], ◌∷◌, Option, Some, None, refl, sym, ◌∙◌, ap, subst, arith}
use Rattle.std.specs.Prelude.{◌+◌, ◌==◌, if◌then◌else◌, is_some, Result, Ok, Err}
use Rattle.std.specs.Option.{option_map_or}
use Rattle.std.proofs.lemmas.Bool.Decides.{nat_tests}
use Rattle.dkg_values.specs.Rising.{lookup}
use Rattle.dkg_ceremony.specs.declared.ceremony.AckError.{AckError}
use Rattle.dkg_ceremony.specs.declared.round.RoundParts.{RoundParts as Round}
use Rattle.dkg_ceremony.specs.Schedule.{epoch_of, midpoint}
use Rattle.dkg_types.specs.Blocks.{Block}
use Rattle.dkg_infos.specs.declared.fault.Fault.{Fault}
use Rattle.dkg_store.specs.Acts.{Held}
use Rattle.dkg_core.specs.Courses.{Course, Goes}
use Rattle.dkg_core.specs.Fixed.{Fixed}
use Rattle.dkg_core.specs.Live.{Live, Dealer, Seat, Plays, Watches, Stage, Deals, Includes, Follows, Ends, Inclusion, Request, Message, Mailed, Finalized, Mail, Peer, NextLog, ReleaseLog, EpochInfoOf, Feed, Over, Cancel, Work, recorded_at, is_last_height, with_tip, with_used}
use Rattle.dkg_core.specs.Setup as s
use Rattle.dkg_core.specs.Dealing as d
use Rattle.dkg_core.specs.Including.{advanced, served_now}
use Rattle.dkg_core.specs.Blocks as b
use Rattle.dkg_core.specs.Core.{step}
use Rattle.dkg_core.specs.Forms.{IsLiveIn, Judged, Passed, Applied, judged_block, ComesOver, share_read}
use Rattle.dkg_core.specs.Stepping.{IsHeardBy, with_taken, own_half, with_own_dealing, with_own_ack, given_in, given_itself, NoOwnDiffers, IsDealingStop}
use Rattle.dkg_core.specs.Asked.{OfShares, read_somewhere, ReadsShare, InRound, HasAsked, IsInformed, IsAskStop, IsReadOn}
use Rattle.dkg_core.specs.Through.{IsFormThrough, IsLiveThrough, IsTakenThrough, IsReadFrom, IsShareTaken, IsAppliedStopThrough, IsBlockStopThrough, IsAppliedThrough, IsBlockThrough, IsFollowedThrough, IsIncludedThrough, IsStopThrough, IsNextThrough, StepReads, StepsComeThrough, StepsLeadThrough, StepsLeadThroughOver, WasAsked, asked_by, included, unasked}
use Rattle.dkg_core.proofs.Advancing.{advances_lead}
use Rattle.dkg_core.proofs.Applied.{judged_comes, deals_below, includes_above}
use Rattle.dkg_core.proofs.Concluding as concluding
use Rattle.dkg_core.proofs.Including.{informed_as, includes_comes, live_read, read_from}
use Rattle.dkg_core.proofs.Mailing as mail
use Rattle.dkg_core.proofs.Mailing.{IsRequest, not_ended, unread}
use Rattle.dkg_core.proofs.Passing as passing
use Rattle.dkg_core.proofs.Setups.{over_if, over_as, over_behind, anywhere_over, comes_anywhere, came_over}
use Rattle.dkg_core.proofs.Splitting.{came_to}
use Rattle.dkg_core.proofs.StepDealing as dealing
use Rattle.dkg_core.proofs.StepFollowing as following
use Rattle.dkg_core.proofs.StepPeers as peer
use Rattle.dkg_core.proofs.Unasked.{Any, advanced_stays, includes_stay, mail_asked, over_never}

cons_apart : {A : Type 0} {x : A} {xs : List A} → ◌≡◌ {A = List A} (x ∷ xs) [] → ⊥
cons_apart e = cc

none_apart : {A : Type 0} (a : A) → ◌≡◌ {A = Option A} None (Some a) → ⊥
none_apart a e = cc

deals_apart : ◌≡◌ {A = Stage} Deals Follows → ⊥
deals_apart e = cc

deals_early : ◌≡◌ {A = Stage} Deals Includes → ⊥
deals_early e = cc

passed_apart : ◌≡◌ {A = Judged} Passed Applied → ⊥
passed_apart e = cc

includes_apart : ◌≡◌ {A = Stage} Includes Follows → ⊥
includes_apart e = cc

follows_apart : ◌≡◌ {A = Stage} Follows Includes → ⊥
follows_apart e = cc

same_number : (n m : ℕ) → (n == m) ≡ true → n ≡ m
same_number n m e = grind (arith, nat_tests)

-- BESIDE REQUESTS

-- what is heard and what is given touch nothing of requests
module _ {Dir : Type 0} (c : Fixed Dir) where
  taken_unasked : (st : Live Dir) (epoch : ℕ) (its : Dealer) (player : ℕ) (ack : List ℕ) → with_taken epoch its player ack (unasked st) ≡ unasked (with_taken epoch its player ack st)
  taken_unasked st epoch its player ack = either (is_some (lookup player its.acks)) (is_some (recorded_at st.records.acks epoch player))
    where
      either : (known kept : Bool) → (if known then unasked st else if kept then d.counts its player ack (unasked st) else d.counts its player ack (d.with_ack epoch player ack (unasked st)))
          ≡ unasked (if known then st else if kept then d.counts its player ack st else d.counts its player ack (d.with_ack epoch player ack st))
      either true kept = refl
      either false true = refl
      either false false = refl

  module _ (round : Round) (its : Dealer) where
    acked_unasked : (st : Live Dir) (answer : Result (Unit {0}) AckError) → with_own_ack c round its (unasked st) answer ≡ unasked (with_own_ack c round its st answer)
    acked_unasked st (Err e) = refl
    acked_unasked st (Ok passed) = taken_unasked st round.number its c.me (c.rules.ack_of c.me round c.me its.public)

    given_unasked_by : (st : Live Dir) (private : ℕ) (found : Option (List ℕ × ℕ)) (answer : Result (Unit {0}) AckError)
        → with_own_ack c round its (with_own_dealing c round its.public private (unasked st) found) answer ≡ unasked (with_own_ack c round its (with_own_dealing c round its.public private st found) answer)
    given_unasked_by st private (Some kept) answer = acked_unasked st answer
    given_unasked_by st private None answer = acked_unasked (d.with_dealing_of round.number c.me its.public private st) answer

    in_seat : (st : Live Dir) (seat : Seat) (half : Option ℕ) → given_in c round its (unasked st) seat half ≡ unasked (given_in c round its st seat half)
    in_seat st Plays (Some private) =
        given_unasked_by st private (recorded_at st.records.dealings round.number c.me) (c.rules.check_ack_of round c.me its.public c.me (c.rules.ack_of c.me round c.me its.public))
    in_seat st Plays None = refl
    in_seat st Watches half = refl

  given_unasked : (st : Live Dir) → given_itself c (unasked st) ≡ unasked (given_itself c st)
  given_unasked st = either st.participation.round st.participation.dealer
    where
      either : (found : Option Round) (its : Option Dealer)
          → option_map_or (λ round. option_map_or (λ x. given_in c round x (unasked st) st.participation.seat (own_half c round x)) its (unasked st)) found (unasked st)
          ≡ unasked (option_map_or (λ round. option_map_or (λ x. given_in c round x st st.participation.seat (own_half c round x)) its st) found st)
      either None its = refl
      either (Some round) None = refl
      either (Some round) (Some its) = in_seat round its st st.participation.seat (own_half c round its)

  heard_unasked : (st : Live Dir) (from : ℕ) (end : Live Dir) → IsHeardBy c st from end → (end.inclusion ≡ st.inclusion) × IsHeardBy c (unasked st) from (unasked end)
  heard_unasked st from end (inl same) = (ap (λ (x : Live Dir). x.inclusion) same, inl (ap unasked same))
  heard_unasked st from end (inr (inl heard)) = (
    ap (λ (x : Live Dir). x.inclusion) heard.is,
    inr (inl (record {
      round = heard.round;
      of_epoch = heard.of_epoch;
      public = heard.public;
      private = heard.private;
      accepted = record { round = heard.accepted.round; of_epoch = heard.accepted.of_epoch; of_round = heard.accepted.of_round; new = heard.accepted.new; valid = heard.accepted.valid };
      is = ap unasked heard.is;
    })),
  )
  heard_unasked st from end (inr (inr heard)) = (
    ap (λ (x : Live Dir). x.inclusion) heard.is ∙ (dealing.taken_same c st heard.round.number heard.dealer from heard.ack st.records refl).inclusion,
    inr (inr (record {
      round = heard.round;
      of_epoch = heard.of_epoch;
      dealer = heard.dealer;
      of_dealer = heard.of_dealer;
      ack = heard.ack;
      passes = heard.passes;
      is = ap unasked heard.is ∙ sym (taken_unasked st heard.round.number heard.dealer from heard.ack);
    })),
  )

-- A LIFE WITHOUT VERIFICATIONS

module _ {Dir : Type 0} (c : Fixed Dir) (stored : OfShares) where
  -- of one that doesn't include nothing is asked but requests
  pub early_has : (end : Live Dir) → end.inclusion.running ≡ None → end.inclusion.retained ≡ None → end.inclusion.cached ≡ None → end.inclusion.waiter ≡ None
      → ((end.participation.stage ≡ Includes → ⊥) → end.inclusion.served ≡ None) → (end.participation.stage ≡ Follows → end.inclusion.queue ≡ []) → HasAsked c stored end
  early_has end idle retained cached waiter served none = record {
    served = served;
    none = none;
    early = λ apart. (idle, retained, cached);
    waits = λ e. waiter;
    runs = λ job e. absurd (none_apart job (sym idle ∙ e));
    kept = λ r e. absurd (none_apart r (sym retained ∙ e));
    made = λ x e. absurd (none_apart x (sym cached ∙ e));
  }

  -- .. and what a life had that doesn't include, one with its inclusion has
  pub still_has : (st end : Live Dir) → HasAsked c stored st → (st.participation.stage ≡ Includes → ⊥) → end.inclusion ≡ st.inclusion → end.participation.stage ≡ st.participation.stage → HasAsked c stored end
  still_has st end has apart same stage =
      let early = has.early apart in
      let of : (P : Inclusion Dir → Type 0) → P st.inclusion → P end.inclusion = λ P p. subst P (sym same) p in
      early_has end (of (λ i. i.running ≡ None) early.0) (of (λ i. i.retained ≡ None) early.1) (of (λ i. i.cached ≡ None) early.2) (of (λ i. i.waiter ≡ None) (has.waits early.0))
      (λ other. of (λ i. i.served ≡ None) (has.served apart)) (λ follows. of (λ i. i.queue ≡ []) (has.none (sym stage ∙ follows)))

-- A LIFE THAT HEARD A PEER

module _ {Dir : Type 0} (c : Fixed Dir) (stored : OfShares) (st : Live Dir) (live : IsLiveThrough c stored st) (from : ℕ) where
  -- a message is read while dealing alone
  heard_through : st.participation.stage ≡ Deals → (end : Live Dir) → IsHeardBy c st from end → IsLiveThrough c stored end
  heard_through deals end heard =
      let beside = heard_unasked c st from end heard in
      let stays = stays_of heard in
      record {
        stands = peer.heard_live c (unasked st) from (unasked end) live.stands beside.1;
        informed = informed_as c st end stays.0 stays.1 stays.2 live.informed;
        asked = record {
          has = still_has c stored st end live.asked.has (λ includes. deals_early (sym deals ∙ includes)) beside.0 stays.3;
          read = λ includes none round is. absurd (deals_early (sym deals ∙ sym stays.3 ∙ includes));
        };
      }
    where
      stays_of : IsHeardBy c st from end
          → (end.participation.round ≡ st.participation.round) × (end.participation.current ≡ st.participation.current) × (end.participation.epoch ≡ st.participation.epoch)
          × (end.participation.stage ≡ st.participation.stage)
      stays_of (inl same) =
          (ap (λ (x : Live Dir). x.participation.round) same, ap (λ (x : Live Dir). x.participation.current) same, ap (λ (x : Live Dir). x.participation.epoch) same, ap (λ (x : Live Dir). x.participation.stage) same)
      stays_of (inr (inl its)) = (
        ap (λ (x : Live Dir). x.participation.round) its.is,
        ap (λ (x : Live Dir). x.participation.current) its.is,
        ap (λ (x : Live Dir). x.participation.epoch) its.is,
        ap (λ (x : Live Dir). x.participation.stage) its.is,
      )
      stays_of (inr (inr its)) =
          let frame = dealing.taken_same c st its.round.number its.dealer from its.ack st.records refl in (
            ap (λ (x : Live Dir). x.participation.round) its.is ∙ frame.same.round,
            ap (λ (x : Live Dir). x.participation.current) its.is ∙ frame.same.current,
            ap (λ (x : Live Dir). x.participation.epoch) its.is ∙ frame.same.epoch,
            ap (λ (x : Live Dir). x.participation.stage) its.is ∙ frame.stage,
          )

  abbrev Never : Fault → Type 0
  Never fault = ⊥

  -- .. and else it does nothing
  hears : (bytes : List ℕ) (stage : Stage) → st.participation.stage ≡ stage → (devices : Option Held)
      → ComesOver Never (λ end left. IsHeardBy c st from end × IsLiveThrough c stored end) (d.hears_peer_in c from bytes st stage) devices
  hears bytes Deals is devices =
      over_as Never Never (λ end left. IsHeardBy c st from end) (λ end left. IsHeardBy c st from end × IsLiveThrough c stored end) (d.hears_peer_in c from bytes st Deals) devices (λ fault never. never)
      (λ end left its. (its, heard_through is end its))
      (anywhere_over Never (IsHeardBy c st from) (d.hears_peer_in c from bytes st Deals) devices (peer.hears c st from bytes Deals))
  hears bytes Includes is devices = (inl refl, live)
  hears bytes Follows is devices = (inl refl, live)
  hears bytes Ends is devices = (inl refl, live)

-- A BLOCK

module _ {Dir : Type 0} (c : Fixed Dir) (form : IsFormThrough c) (stored : OfShares) (st : Live Dir) (live : IsLiveThrough c stored st) (block : Block Dir) (devices : Option Held) (reads : StepReads c stored devices) where
  abbrev Stop : Stage → Fault → Type 0
  Stop stage = IsAppliedStopThrough c stored block st devices stage

  abbrev To : Stage → Live Dir → Option Held → Type 0
  To stage end left = IsLiveThrough c stored end × IsAppliedThrough c stored block st devices stage end left

  -- .. and where it deals, none of its own dealings is another
  abbrev ToSo : Stage → Live Dir → Option Held → Type 0
  ToSo stage end left = To stage end left × (stage ≡ Deals → NoOwnDiffers c st)

  reads_now : ReadsShare c stored devices
  reads_now h epoch found = reads h epoch (inl found)

  module _ (accepted : judged_block c block st ≡ Applied) where
    -- WHILE DEALING

    module _ (is : st.participation.stage ≡ Deals) where
      located : (st.participation.epoch ≡ epoch_of c.blocks_per_epoch block.height) × (block.height < midpoint c.blocks_per_epoch (epoch_of c.blocks_per_epoch block.height))
      located = deals_below c block st live.stands accepted is

      abbrev mid : Live Dir
      mid = given_itself c st

      same : dealing.IsSameBut c st mid
      same = dealing.given_same c st

      stands : IsLiveIn c (unasked mid)
      stands = subst (IsLiveIn c) (given_unasked c st) (dealing.given_live c (unasked st) live.stands)

      apart : st.participation.stage ≡ Includes → ⊥
      apart includes = deals_early (sym is ∙ includes)

      has : HasAsked c stored mid
      has = still_has c stored st mid live.asked.has apart same.inclusion same.stage

      early : (mid.inclusion.running ≡ None) × (mid.inclusion.retained ≡ None) × (mid.inclusion.cached ≡ None)
      early = has.early (λ includes. apart (sym same.stage ∙ includes))

      informed : IsInformed c mid
      informed = informed_as c st mid same.same.round same.same.current same.same.epoch live.informed

      abbrev tip : Live Dir
      tip = with_tip block mid

      abbrev begun : Live Dir
      begun = s.begins_inclusion c tip

      abbrev goes : Bool → Live Dir
      goes t = if t then begun else tip

      goes_on : (block.height + 1 == midpoint c.blocks_per_epoch mid.participation.epoch) ≡ false → IsLiveThrough c stored tip
      goes_on e = record {
        stands = dealing.goes_on c form.form block (unasked mid) stands (same.stage ∙ is) (same.same.epoch ∙ located.0) located.1 e;
        informed = informed;
        asked = record {
          has = early_has c stored tip early.0 early.1 early.2 (has.waits early.0) has.served has.none;
          read = λ includes none round at. absurd (apart (sym same.stage ∙ includes));
        };
      }

      abbrev Begun : Live Dir → Option Held → Type 0
      Begun end left = IsLiveThrough c stored end × IsReadFrom c begun end

      begins : (block.height + 1 == midpoint c.blocks_per_epoch mid.participation.epoch) ≡ true → (left : Option Held) → ComesOver (Stop Deals) Begun (advanced c begun) left
      begins e left = by_queue st.inclusion.queue refl
        where
          comes : ComesOver (IsAskStop c begun) Begun (advanced c begun) left
          comes =
              over_as (IsAskStop c begun) (IsAskStop c begun) (λ end last. (last ≡ left) × IsReadOn c stored begun end) Begun (advanced c begun) left (λ fault stop. stop)
              (λ end last its. (
                live_read c stored begun end (dealing.begins c form.form block (unasked mid) stands (same.stage ∙ is) (same.same.epoch ∙ located.0) located.1 e) informed its.1,
                read_from c stored begun end its.1,
              ))
              (advances_lead c stored begun left form.form (λ r at. absurd (none_apart r (sym early.1 ∙ at))) informed
              (early_has c stored begun early.0 early.1 early.2 (has.waits early.0) (λ other. refl) (λ follows. absurd (includes_apart follows))))

          at_middle : block.height + 1 ≡ midpoint c.blocks_per_epoch st.participation.epoch
          at_middle = same_number (block.height + 1) (midpoint c.blocks_per_epoch mid.participation.epoch) e ∙ ap (λ (epoch : ℕ). midpoint c.blocks_per_epoch epoch) same.same.epoch

          by_queue : (queue : List (Request Dir)) → st.inclusion.queue ≡ queue → ComesOver (Stop Deals) Begun (advanced c begun) left
          by_queue [] none =
              over_never (Any c) (IsAskStop c begun) (Stop Deals) Begun (advanced c begun) left (advanced_stays c begun left (inl (ap (λ (its : Inclusion Dir). its.queue) same.inclusion ∙ none))) comes
          by_queue (r ∷ rs) there =
              over_as (IsAskStop c begun) (Stop Deals) Begun Begun (advanced c begun) left (λ fault stop. inr (at_middle, (λ none. cons_apart (sym there ∙ none)), stop)) (λ end left its. its) comes

      deals : ComesOver (Stop Deals) (ToSo Deals) (b.deals_at c block st) devices
      deals =
          let next : Live Dir → Course Dir Fault (Live Dir) =
          λ now. if block.height + 1 == midpoint c.blocks_per_epoch now.participation.epoch then advanced c (s.begins_inclusion c (with_tip block now)) else Goes (with_tip block now) in
          let given : Live Dir → Option Held → Type 0 = λ end left. (end ≡ mid) × NoOwnDiffers c st in
          over_behind (Stop Deals) given (ToSo Deals) (d.deals c st) next devices
          (over_as (IsDealingStop c st) (Stop Deals) given given (d.deals c st) devices (λ fault stop. inl stop) (λ end left its. its)
          (anywhere_over (IsDealingStop c st) (λ end. (end ≡ mid) × NoOwnDiffers c st) (d.deals c st) devices (dealing.deals_alike c st)))
          (λ end left its. subst (λ (x : Live Dir). ComesOver (Stop Deals) (ToSo Deals) (next x) left) (sym its.0) (behind left its.1))
        where
          either : (left : Option Held) (t : Bool) → (block.height + 1 == midpoint c.blocks_per_epoch mid.participation.epoch) ≡ t
              → ComesOver (Stop Deals) (λ end left. IsLiveThrough c stored end × IsReadFrom c (goes t) end) (if t then advanced c begun else Goes tip) left
          either left true e = begins e left
          either left false e = (goes_on e, unread c tip mid.inclusion mid.inclusion refl refl refl refl)

          behind : (left : Option Held) → NoOwnDiffers c st
              → ComesOver (Stop Deals) (ToSo Deals) (if block.height + 1 == midpoint c.blocks_per_epoch mid.participation.epoch then advanced c begun else Goes tip) left
          behind left none =
              over_as (Stop Deals) (Stop Deals) (To Deals) (ToSo Deals) (if block.height + 1 == midpoint c.blocks_per_epoch mid.participation.epoch then advanced c begun else Goes tip) left
              (λ fault stop. stop) (λ end last its. (its, λ deals. none)) (either left (block.height + 1 == midpoint c.blocks_per_epoch mid.participation.epoch) refl)

    -- WHILE INCLUDING

    module _ (is : st.participation.stage ≡ Includes) (round : Round) (of_epoch : st.participation.round ≡ Some round) where
      last_comes : is_last_height c block.height ≡ true → ComesOver (Stop Includes) (To Includes) (b.final_block c round block st) devices
      last_comes last =
          over_as (concluding.FinalStop c form stored block last st live is round of_epoch devices reads_now) (Stop Includes) (concluding.FinalTo c form stored block last st live is round of_epoch devices reads_now) (To Includes)
          (b.final_block c round block st) devices (λ fault stop. stop_at fault stop)
          (λ end left its. (its.0, subst (λ (t : Bool). IsIncludedThrough c stored block st devices t end left) (sym last) its.1))
          (concluding.final_comes c form stored block last st live is round of_epoch devices reads_now)
        where
          stop_at : (fault : Fault) → concluding.FinalStop c form stored block last st live is round of_epoch devices reads_now fault → Stop Includes fault
          stop_at fault (inl stop) = inl (inl last, stop)
          stop_at fault (inr stop) = inr (last, stop)

      below_comes : is_last_height c block.height ≡ false → ComesOver (Stop Includes) (To Includes) (b.includes c round block st) devices
      below_comes below = by_queue st.inclusion.queue refl
        where
          included_at : Round → Live Dir
          included_at its = included c its block st

          comes : ComesOver (IsAskStop c st) (To Includes) (b.includes c round block st) devices
          comes =
              let located = includes_above c block st live.stands accepted is in
              over_as (IsAskStop c st) (IsAskStop c st) (λ end left. IsLiveThrough c stored end × InRound st (λ round. IsReadFrom c (included_at round) end)) (To Includes) (b.includes c round block st) devices (λ fault stop. stop)
              (λ end left its. (its.0, subst (λ (t : Bool). IsIncludedThrough c stored block st devices t end left) (sym below) its.1))
              (includes_comes c form.form stored block st live is located.0 located.1 below round of_epoch devices reads)

          by_queue : (queue : List (Request Dir)) → st.inclusion.queue ≡ queue → ComesOver (Stop Includes) (To Includes) (b.includes c round block st) devices
          by_queue [] none = over_never (Any c) (IsAskStop c st) (Stop Includes) (To Includes) (b.includes c round block st) devices (includes_stay c round block st none devices) comes
          by_queue (r ∷ rs) there =
              over_as (IsAskStop c st) (Stop Includes) (To Includes) (To Includes) (b.includes c round block st) devices (λ fault stop. inl (inr (λ none. cons_apart (sym there ∙ none)), stop)) (λ end left its. its) comes

      includes : ComesOver (Stop Includes) (To Includes) (if is_last_height c block.height then b.final_block c round block st else b.includes c round block st) devices
      includes = over_if (Stop Includes) (To Includes) devices (is_last_height c block.height) (b.final_block c round block st) (b.includes c round block st) last_comes below_comes

    in_round : (is : st.participation.stage ≡ Includes) (found : Option Round) → st.participation.round ≡ found
        → ComesOver (Stop Includes) (To Includes) (option_map_or (λ round. if is_last_height c block.height then b.final_block c round block st else b.includes c round block st) found (Goes st)) devices
    in_round is None none = absurd (includes_apart (sym is ∙ (live.stands.without none).0))
    in_round is (Some round) of_epoch = includes is round of_epoch

    -- WHILE FOLLOWING

    module _ (is : st.participation.stage ≡ Follows) where
      at_tip : IsLiveThrough c stored (with_tip block st)
      at_tip =
          let has = live.asked.has in
          record {
            stands = following.followed c form.form block (unasked st) live.stands is devices;
            informed = live.informed;
            asked = record {
              has = record { served = has.served; none = has.none; early = has.early; waits = has.waits; runs = has.runs; kept = has.kept; made = has.made };
              read = λ includes none round at. absurd (follows_apart (sym is ∙ includes));
            };
          }

      follows : ComesOver (Stop Follows) (To Follows) (b.follows_at c block st) devices
      follows =
          over_if (Stop Follows) (To Follows) devices (is_last_height c block.height) (b.carried c block (λ info. b.follows_into c block info st)) (Goes (with_tip block st))
          (λ last. over_as (passing.PassingStop c form.form stored block last st devices) (Stop Follows) (passing.PassedTo c form.form stored block last st devices) (To Follows)
          (b.carried c block (λ info. b.follows_into c block info st)) devices (λ fault stop. (last, stop))
          (λ end left its. (its.0, subst (λ (t : Bool). IsFollowedThrough c stored block st devices t end left) (sym last) its.1))
          (passing.by_carried c form.form stored block last st devices (λ info. b.follows_into c block info st)
          (λ info carries of_next. passing.follows_into c form.form stored block last st devices info carries of_next (live.asked.has.none is)
          (λ h. subst (λ (stage : Stage). IsShareTaken c stored st h info (share_read c info h) stage) (sym is) refl))))
          (λ below. (at_tip, subst (λ (t : Bool). IsFollowedThrough c stored block st devices t (with_tip block st) devices) (sym below) refl))

    not_dealing : (stage : Stage) → (stage ≡ Deals → ⊥) → ComesOver (Stop stage) (To stage) (b.applies_in c block st stage) devices → ComesOver (Stop stage) (ToSo stage) (b.applies_in c block st stage) devices
    not_dealing stage apart comes =
        over_as (Stop stage) (Stop stage) (To stage) (ToSo stage) (b.applies_in c block st stage) devices (λ fault stop. stop) (λ end left its. (its, λ deals. absurd (apart deals))) comes

    applied : (stage : Stage) → st.participation.stage ≡ stage → ComesOver (Stop stage) (ToSo stage) (b.applies_in c block st stage) devices
    applied Deals is = deals is
    applied Includes is = not_dealing Includes (λ deals. deals_early (sym deals)) (in_round is st.participation.round refl)
    applied Follows is = not_dealing Follows (λ deals. deals_apart (sym deals)) (follows is)
    applied Ends is = absurd (not_ended c st live.stands is)

  -- WHATEVER IT IS

  abbrev pub BlockStop : Fault → Type 0
  BlockStop = IsStopThrough c stored st (Finalized block) devices

  abbrev pub BlockTo : Live Dir → Option Held → Type 0
  BlockTo = IsNextThrough c stored st (Finalized block) devices

  pub block_comes : ComesOver BlockStop BlockTo (b.delivers c block st) devices
  block_comes =
      judged_comes c block st devices BlockStop BlockTo
      (λ fault is. subst (λ (j : Judged). IsBlockStopThrough c stored block st devices j fault) (sym is) refl)
      (λ is. record { live = live; is = subst (λ (j : Judged). IsBlockThrough c stored block st devices j st devices) (sym is) (refl, refl); own = λ accepted deals. absurd (passed_apart (sym is ∙ accepted)) })
      (λ is. over_as (Stop st.participation.stage) BlockStop (ToSo st.participation.stage) BlockTo (b.applies c block st) devices
      (λ fault stop. subst (λ (j : Judged). IsBlockStopThrough c stored block st devices j fault) (sym is) stop)
      (λ end left its. record { live = its.0.0; is = subst (λ (j : Judged). IsBlockThrough c stored block st devices j end left) (sym is) its.0.1; own = λ accepted. its.1 })
      (applied is st.participation.stage refl))
      (not_ended c st live.stands)

-- A STEP

module _ {Dir : Type 0} (c : Fixed Dir) (form : IsFormThrough c) (stored : OfShares) (st : Live Dir) (live : IsLiveThrough c stored st) (devices : Option Held) (reads : StepReads c stored devices) where
  abbrev now_reads : ReadsShare c stored devices
  now_reads h epoch found = reads h epoch (inl found)

  abbrev Left : Message Dir → Live Dir → Option Held → Type 0
  Left message = IsNextThrough c stored st message devices

  abbrev ReadIn : Mail Dir → Live Dir → Option Held → Type 0
  ReadIn its = mail.ReadTo c form stored st live devices now_reads (asked_by its st)

  -- an event of a request that stops was asked
  requests : (its : Mail Dir) → IsRequest its → ((end : Live Dir) (left : Option Held) → ReadIn its end left → Left (Mailed its) end left) → IsTakenThrough c (Mailed its) st
      → ComesOver (λ fault. WasAsked its st × IsAskStop c st fault) (Left (Mailed its)) (step c (Mailed its) st) devices
  requests its is most taken = either (mail_asked c stored st live.asked.has devices its is)
    where
      comes : ComesOver (IsAskStop c st) (ReadIn its) (step c (Mailed its) st) devices
      comes = mail.mail_comes c form stored st live devices now_reads its is taken

      either : WasAsked its st ⊎ ComesOver (λ fault. ⊥) (Any c) (step c (Mailed its) st) devices → ComesOver (λ fault. WasAsked its st × IsAskStop c st fault) (Left (Mailed its)) (step c (Mailed its) st) devices
      either (inl asked) =
          over_as (IsAskStop c st) (λ fault. WasAsked its st × IsAskStop c st fault) (ReadIn its) (Left (Mailed its)) (step c (Mailed its) st) devices (λ fault stop. (asked, stop)) most comes
      either (inr never) =
          over_as (λ fault. WasAsked its st × IsAskStop c st fault) (λ fault. WasAsked its st × IsAskStop c st fault) (ReadIn its) (Left (Mailed its)) (step c (Mailed its) st) devices (λ fault stop. stop) most
          (over_never (Any c) (IsAskStop c st) (λ fault. WasAsked its st × IsAskStop c st fault) (ReadIn its) (step c (Mailed its) st) devices never comes)

  steps : (message : Message Dir) → IsTakenThrough c message st → ComesOver (IsStopThrough c stored st message devices) (Left message) (step c message st) devices
  steps (Finalized block) taken = block_comes c form stored st live block devices reads
  steps (Mailed (Peer from bytes)) taken =
      over_as (Never c stored st live from) (IsStopThrough c stored st (Mailed (Peer from bytes)) devices) (λ end left. IsHeardBy c st from end × IsLiveThrough c stored end) (Left (Mailed (Peer from bytes)))
      (step c (Mailed (Peer from bytes)) st) devices (λ fault never. never) (λ end left its. record { live = its.1; is = its.0; own = tt }) (hears c stored st live from bytes st.participation.stage refl devices)
  steps (Mailed (NextLog request height)) taken =
      over_as (IsStopThrough c stored st (Mailed (NextLog request height)) devices) (IsStopThrough c stored st (Mailed (NextLog request height)) devices) (ReadIn (NextLog request height)) (Left (Mailed (NextLog request height)))
      (step c (Mailed (NextLog request height)) st) devices (λ fault stop. stop) (λ end left its. record { live = its.0; is = (its.1, its.2); own = tt })
      (mail.serves c form stored st live devices now_reads (IsStopThrough c stored st (Mailed (NextLog request height)) devices) request height (served_now (with_used request st)) refl)
  steps (Mailed (ReleaseLog height)) taken = let its = mail.releases c form stored st live devices now_reads height in record { live = its.0; is = (its.1, its.2); own = tt }
  steps (Mailed (EpochInfoOf request)) taken = requests (EpochInfoOf request) tt (λ end left its. record { live = its.0; is = (its.1, its.2); own = tt }) taken
  steps (Mailed (Feed request block)) taken = requests (Feed request block) tt (λ end left its. record { live = its.0; is = (its.1, its.2); own = tt }) taken
  steps (Mailed (Over request)) taken = requests (Over request) tt (λ end left its. record { live = its.0; is = (its.1, its.2); own = tt }) taken
  steps (Mailed (Cancel request)) taken = requests (Cancel request) tt (λ end left its. record { live = its.0; is = (its.1, its.2); own = tt }) taken
  steps (Mailed (Work handed)) taken = requests (Work handed) tt (λ end left its. record { live = its.0; is = (its.1, its.2); own = tt }) taken

pub steps_come_through : {Dir : Type 0} → StepsComeThrough Dir
steps_come_through c stored st message devices form reads taken live = steps c form stored st live devices reads message taken

-- whatever is read, something is
pub reads_somewhere : {Dir : Type 0} (c : Fixed Dir) → StepReads c (read_somewhere c) None
reads_somewhere c h epoch found = (h, refl)

pub steps_lead_through : {Dir : Type 0} → StepsLeadThrough Dir
steps_lead_through c st message ended old new form taken live said =
    came_to (IsStopThrough c (read_somewhere c) st message None) (λ end. IsNextThrough c (read_somewhere c) st message None end None) (step c message st) ended old new
    (comes_anywhere (IsStopThrough c (read_somewhere c) st message None) (IsNextThrough c (read_somewhere c) st message None) (step c message st)
    (steps_come_through c (read_somewhere c) st message None form (reads_somewhere c) taken live)) said

pub steps_lead_through_over : {Dir : Type 0} → StepsLeadThroughOver Dir
steps_lead_through_over c stored st message ended w new form reads taken live run =
    came_over (IsStopThrough c stored st message (Some w.held)) (IsNextThrough c stored st message (Some w.held)) (step c message st) ended w new
    (steps_come_through c stored st message (Some w.held) form reads taken live) run
