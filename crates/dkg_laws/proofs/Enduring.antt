-- Any step keeps what was told of dealings, wherever it ends.
use Rattle.std.proofs.Common.{◌≡◌, ◌≤◌, ℕ, true, List, [], ◌∷◌, ◌++◌, Option, Some, None, refl, sym, ◌∙◌, ap}
use Rattle.std.specs.Prelude.{◌+◌, ◌-◌, ◌==◌, if◌then◌else◌, Result, Ok, Err, is_some}
use Rattle.std.specs.Option.{option_map_or}
use Rattle.std.specs.Str.{bytes_eq}
use Rattle.std.specs.FinMap.{find, get, get-entries}
use Rattle.dkg_values.specs.Codec.{whole as all_of}
use Rattle.dkg_values.specs.Rising.{lookup}
use Rattle.dkg_values.specs.declared.codec.CodecError.{CodecError}
use Rattle.dkg_ceremony.specs.declared.ceremony.AckError.{AckError}
use Rattle.dkg_ceremony.specs.declared.ceremony.DealingError.{DealingError}
use Rattle.dkg_ceremony.specs.declared.round.RoundParts.{RoundParts as Round}
use Rattle.dkg_ceremony.specs.declared.signed_log.SignedDealerLog.{SignedDealerLog}
use Rattle.dkg_ceremony.specs.Schedule.{epoch_of}
use Rattle.dkg_types.specs.Blocks.{Block}
use Rattle.dkg_infos.specs.declared.fault.Fault.TheVariants.{LocalState}
use Rattle.dkg_infos.specs.declared.fault.LocalCause.TheVariants.{OwnDealing}
use Rattle.dkg_infos.specs.declared.info.EpochInfo.{EpochInfo}
use Rattle.dkg_types.specs.declared.message.Message.{Message as Channel}
use Rattle.dkg_types.specs.declared.message.Message.TheVariants.{Dealer as ADealing, Ack as AnAck}
use Rattle.dkg_types.specs.MessageCodes.{message_at}
use Rattle.dkg_store.specs.Acts.{World, says}
use Rattle.dkg_store.specs.Events.{IsEvent}
use Rattle.dkg_store.specs.declared.event.Event.TheVariants as events
use Rattle.dkg_secrets.specs.Keys.{key_cmp}
use Rattle.dkg_core.specs.Courses.{Say, Goes, Stops, bind, Throughout}
use Rattle.dkg_core.specs.Fixed.{Fixed}
use Rattle.dkg_core.specs.Live.{Live, Dealer, Seat, Plays, Watches, Stage, Deals, Includes, Follows, Ends, Message, Mailed, Peer, Finalized, NextLog, ReleaseLog, EpochInfoOf, Feed, Over, Cancel, Work, recorded_at, with_used}
use Rattle.dkg_core.specs.Logs.{carried_log_event}
use Rattle.dkg_core.specs.Setup as s
use Rattle.dkg_core.specs.Dealing as d
use Rattle.dkg_core.specs.Including as i
use Rattle.dkg_core.specs.Blocks as b
use Rattle.dkg_core.specs.Core.{step}
use Rattle.dkg_core.specs.Behind.{IsAside}
use Rattle.dkg_core.specs.Heard.{recovered_in, Fits}
use Rattle.dkg_core.specs.Agreeing.{AreAgreed, CanRecord, BringsRecords}
use Rattle.dkg_infos.specs.declared.entry.Entry.{Entry}
use Rattle.dkg_infos.specs.declared.entry.Entry.TheVariants.{Ack, Offer}
use Rattle.dkg_core.specs.Laws.{reach_of}
use Rattle.dkg_core.specs.Enduring.{OwnAckOf, IsSaidFrom, IsKeptFrom, StepsKeep}
use Rattle.dkg_core.proofs.Agreeing as ag
use Rattle.dkg_core.proofs.Agreeing.{all_whole, whole_kept}
use Rattle.dkg_core.proofs.Running.{along_next, along_end}
use Rattle.dkg_core.proofs.Upkeep as up
use Rattle.dkg_core.proofs.Walking as walk
use Rattle.dkg_core.proofs.Upkeep.{along_if, along_option, tells, silent_done, silent_torn, there, dealing_done, dealing_told, half_torn, record_torn}

-- A STEP

module _ {Dir : Type 0} (c : Fixed Dir) (most : ℕ) (base : List Entry) where
  abbrev ack_of : OwnAckOf
  ack_of = c.rules.ack_of c.me

  abbrev P : World → Type 0
  P w = IsKeptFrom ack_of most base w

  tell : (w : World) (line : Entry) → IsSaidFrom ack_of most w.held line → P w → P (says w line)
  tell w line sound q = tells ack_of most base w line sound q

  told : (w : World) (line : Entry) → IsAside line → P w → P (says w line)
  told w line aside q = up.told c ack_of most base w line aside q

  prunes : (min : ℕ) → min ≤ most → (st : Live Dir) (w : World) → P w → Throughout P (s.prunes min st) w
  prunes min low st w q = up.prunes ack_of most base min low st w q

  commits_read : (info : EpochInfo Dir) (st : Live Dir) (w : World) → P w
      → Throughout {Dir = Dir} P (s.commits info (s.seed_for c info.epoch (lookup info.epoch (c.seen w.held).seeds)) (s.recovered_share c (c.seen w.held) info) st) w
  commits_read info st w q = up.commits_read c ack_of most base info st w q

  -- MESSAGES OF PEERS, AND OFFERS

  takes_ack : (epoch : ℕ) (dealer : Dealer) (player : ℕ) (ack : List ℕ) (st : Live Dir) (w : World) → IsEvent (events.Ack player ack) → P w → Throughout P (d.takes_ack epoch dealer player ack st) w
  takes_ack epoch dealer player ack st w is q =
      along_if P w (is_some (lookup player dealer.acks)) (Goes st)
      (if is_some (recorded_at st.records.acks epoch player) then Goes (d.counts dealer player ack st)
      else d.appends epoch (events.Ack player ack) (Goes (d.counts dealer player ack (d.with_ack epoch player ack st))))
      (λ e. q) (λ e. along_if P w (is_some (recorded_at st.records.acks epoch player)) (Goes (d.counts dealer player ack st))
      (d.appends epoch (events.Ack player ack) (Goes (d.counts dealer player ack (d.with_ack epoch player ack st))))
      (λ e. q) (λ e. (λ cause new tears. silent_torn ack_of most base epoch (events.Ack player ack) is refl w new cause tears q, silent_done ack_of most base epoch (events.Ack player ack) is refl w q)))

  checked_ack : (round : Round) (dealer : Dealer) (player : ℕ) (ack : List ℕ) (st : Live Dir) (check : Result (Unit {0}) AckError) (w : World) → IsEvent (events.Ack player ack) → P w
      → Throughout P (d.checked_ack round dealer player ack st check) w
  checked_ack round dealer player ack st (Err e) w is q = (q, tell w _ tt q)
  checked_ack round dealer player ack st (Ok passed) w is q = takes_ack round.number dealer player ack st w is q

  hears_ack : (round : Round) (dealer : Option Dealer) (from : ℕ) (ack : List ℕ) (st : Live Dir) (w : World) → IsEvent (events.Ack from ack) → P w → Throughout P (d.hears_ack c round dealer from ack st) w
  hears_ack round None from ack st w is q = (q, tell w _ tt q)
  hears_ack round (Some dealer) from ack st w is q = checked_ack round dealer from ack st (c.rules.check_ack_of round c.me dealer.public from ack) w is q

  -- a key that memory has is given back, and one that it lacks is new
  given : (st : Live Dir) (w : World) (key : ℕ × ℕ) (found : Option (List ℕ × ℕ)) → AreAgreed st.records w.held → find key_cmp key st.records.dealings ≡ found → get (recovered_in w.held) key ≡ found
  given st w key found a is = get-entries (recovered_in w.held) key ∙ ap (find key_cmp key) (sym a.dealings) ∙ is

  checked_dealing : (round : Round) (from : ℕ) (public : List ℕ) (private : ℕ) (st : Live Dir) (check : Result (Unit {0}) DealingError) (w : World) → IsEvent (events.Dealing from public)
      → get (recovered_in w.held) (round.number, from) ≡ None → P w → Throughout P (d.checked_dealing c round from public private st check) w
  checked_dealing round from public private st (Err e) w is fresh q = (q, tell w _ tt q)
  checked_dealing round from public private st (Ok passed) w is fresh q =
      let told = dealing_told ack_of most base round.number from public private is w fresh q in (
        half_torn ack_of most base round.number from public private is w fresh q,
        (
          record_torn ack_of most base round.number from public private is w fresh q,
          (
            dealing_done ack_of most base round.number from public private is w fresh q,
            (
              told,
              tell _ (Ack round.number from (ack_of round from public)) (λ above. ((public, private), round, there ack_of most base round.number from public private is w fresh q, refl, refl)) told,
            ),
          ),
        ),
      )

  of_recorded : (round : Round) (from : ℕ) (public : List ℕ) (private : ℕ) (st : Live Dir) (found : Option (List ℕ × ℕ)) (w : World) → IsEvent (events.Dealing from public)
      → recorded_at st.records.dealings round.number from ≡ found → AreAgreed st.records w.held → P w → Throughout P (d.hears_dealing_in c round from public private st found) w
  of_recorded round from public private st (Some pair) w is found a q =
      (q, tell w (Ack round.number from (ack_of round from pair.0)) (λ above. (pair, round, given st w (round.number, from) (Some pair) a found, refl, refl)) q)
  of_recorded round from public private st None w is none a q =
      checked_dealing round from public private st (c.rules.dealing_of round c.me from public private) w is (given st w (round.number, from) None a none) q

  a_dealing : (round : Round) (from : ℕ) (public : List ℕ) (private : ℕ) (st : Live Dir) (seat : Seat) (w : World) → IsEvent (events.Dealing from public) → AreAgreed st.records w.held → P w
      → Throughout P (d.seats_dealing_in c round from public private st seat) w
  a_dealing round from public private st Plays w is a q = of_recorded round from public private st (recorded_at st.records.dealings round.number from) w is refl a q
  a_dealing round from public private st Watches w is a q = (q, tell w _ tt q)

  reads : (round : Round) (from : ℕ) (st : Live Dir) (message : Result Channel CodecError) (w : World) → ((public : List ℕ) (private : ℕ) → message ≡ Ok (ADealing public private) → IsEvent (events.Dealing from public))
      → ((ack : List ℕ) → message ≡ Ok (AnAck ack) → IsEvent (events.Ack from ack)) → AreAgreed st.records w.held → P w → Throughout P (d.reads c round from st message) w
  reads round from st (Err e) w fits fits_ack a q = (q, tell w _ tt q)
  reads round from st (Ok (ADealing public private)) w fits fits_ack a q = a_dealing round from public private st st.participation.seat w (fits public private refl) a q
  reads round from st (Ok (AnAck ack)) w fits fits_ack a q = hears_ack round st.participation.dealer from ack st w (fits_ack ack refl) q

  hears : (from : ℕ) (bytes : List ℕ) (st : Live Dir) (stage : Stage) (w : World) → Fits c (from, bytes) → AreAgreed st.records w.held → P w → Throughout P (d.hears_peer_in c from bytes st stage) w
  hears from bytes st Deals w fits a q =
      walk.rounds c P told st (λ round. d.reads c round from st (all_of (message_at c.limit bytes))) w q (λ round. reads round from st (all_of (message_at c.limit bytes)) w fits.0 fits.1 a q)
  hears from bytes st Includes w fits a q = q
  hears from bytes st Follows w fits a q = q
  hears from bytes st Ends w fits a q = q

  module _ (fits_own : (round : Round) (public : List ℕ) → IsEvent (events.Ack c.me (c.rules.ack_of c.me round c.me public))) where
    own_ack : (round : Round) (public : List ℕ) (st : Live Dir) (w : World) → P w → Throughout P (d.own_ack c round public st) w
    own_ack round public st w q =
        let ack = c.rules.ack_of c.me round c.me public in
        along_option P w st.participation.dealer (λ dealer. d.checked_ack round dealer c.me ack st (c.rules.check_ack_of round c.me dealer.public c.me ack)) (Goes st)
        (λ dealer e. checked_ack round dealer c.me ack st (c.rules.check_ack_of round c.me dealer.public c.me ack) w (fits_own round public) q) (λ e. q)

    to_itself_in : (round : Round) (public : List ℕ) (private : ℕ) (st : Live Dir) (found : Option (List ℕ × ℕ)) (w : World) → IsEvent (events.Dealing c.me public)
        → recorded_at st.records.dealings round.number c.me ≡ found → AreAgreed st.records w.held → P w → Throughout P (d.deals_to_itself_in c round public private st found) w
    to_itself_in round public private st (Some pair) w is found a q =
        along_if P w (bytes_eq pair.0 public) (d.own_ack c round public st) (Stops (LocalState (OwnDealing round.number pair.0 public))) (λ e. own_ack round public st w q) (λ e. q)
    to_itself_in round public private st None w is none a q =
        let fresh = given st w (round.number, c.me) None a none in (
          half_torn ack_of most base round.number c.me public private is w fresh q,
          (
            record_torn ack_of most base round.number c.me public private is w fresh q,
            (
              dealing_done ack_of most base round.number c.me public private is w fresh q,
              own_ack round public (d.with_dealing_of round.number c.me public private st) _ (dealing_told ack_of most base round.number c.me public private is w fresh q),
            ),
          ),
        )

    to_itself : (round : Round) (public : List ℕ) (private : ℕ) (st : Live Dir) (seat : Seat) (w : World) → IsEvent (events.Dealing c.me public) → AreAgreed st.records w.held → P w
        → Throughout P (d.offers_to_itself_in c round public private st seat) w
    to_itself round public private st Plays w is a q = to_itself_in round public private st (recorded_at st.records.dealings round.number c.me) w is refl a q
    to_itself round public private st Watches w is a q = q

    offers : (round : Round) (public : List ℕ) (ps : List (ℕ × ℕ)) (st : Live Dir) (w : World) → IsEvent (events.Dealing c.me public) → AreAgreed st.records w.held → P w → Throughout P (d.offers c round public ps st) w
    offers round public [] st w is a q = q
    offers round public (p ∷ ps) st w is a q =
        let mine = d.offers_to_itself c round public p.1 st in
        let goes = to_itself round public p.1 st st.participation.seat w is a q in
        along_if P w (p.0 == c.me) (bind mine (λ st. d.offers c round public ps st)) (Say (Offer round.number p.0 public p.1) (d.offers c round public ps st))
        (λ e. along_next P mine (λ st. d.offers c round public ps st) w goes
        (λ end mid done. offers round public ps end mid is (ag.lands_at mine w mid end (ag.to_itself c fits_own round public p.1 st st.participation.seat w.held is a) done) (along_end P mine w mid end goes done)))
        (λ e. (q, offers round public ps st (says w (Offer round.number p.0 public p.1)) is a (tell w (Offer round.number p.0 public p.1) tt q)))

    deals : (st : Live Dir) (w : World) → ((dealer : Dealer) → st.participation.dealer ≡ Some dealer → IsEvent (events.Dealing c.me dealer.public)) → AreAgreed st.records w.held → P w → Throughout P (d.deals c st) w
    deals st w is a q =
        walk.rounds c P told st (λ round. option_map_or (λ dealer. d.offers c round dealer.public (s.unsent_of_round round dealer) st) st.participation.dealer (Goes st)) w q
        (λ round. along_option P w st.participation.dealer (λ dealer. d.offers c round dealer.public (s.unsent_of_round round dealer) st) (Goes st) (λ dealer e. offers round dealer.public (s.unsent_of_round round dealer) st w (is dealer e) a q) (λ e. q))

  -- BLOCKS

  module _ (block : Block Dir) (low : (epoch_of c.blocks_per_epoch (block.height + 1) - 1) ≤ most) where
    records_log : (epoch : ℕ) (log : SignedDealerLog) (st : Live Dir) (w : World) → IsEvent (events.LogAt log.dealer block.height log.log) → P w → Throughout P (b.records_log epoch block.height log st) w
    records_log epoch log st w is q =
        along_if P w (is_some (recorded_at st.records.logs epoch log.dealer)) (Goes st)
        (d.appends epoch (carried_log_event log.dealer block.height log.log) (Goes (b.with_log_at epoch log.dealer block.height log.log st)))
        (λ e. q) (λ e. (
          λ cause new tears. silent_torn ack_of most base epoch (events.LogAt log.dealer block.height log.log) is refl w new cause tears q,
          silent_done ack_of most base epoch (events.LogAt log.dealer block.height log.log) is refl w q,
        ))

    module _ (fits_own : (round : Round) (public : List ℕ) → IsEvent (events.Ack c.me (c.rules.ack_of c.me round c.me public))) (fits_log : BringsRecords c (Finalized block)) where
      abbrev Fitting : Live Dir → Type 0
      Fitting st = (dealer : Dealer) → st.participation.dealer ≡ Some dealer → IsEvent (events.Dealing c.me dealer.public)

      applies : (st : Live Dir) (stage : Stage) (w : World) → Fitting st → AreAgreed st.records w.held → P w → Throughout P (b.applies_in c block st stage) w
      applies st Deals w is a q = walk.ends_dealing c P told most commits_read prunes block low st w q (deals fits_own st w is a q)
      applies st Includes w is a q =
          walk.including c P told most commits_read prunes block low (λ info share st w q. up.commits c ack_of most base info (s.seed_for c info.epoch (lookup info.epoch (c.seen w.held).seeds)) share st w q) st w
          (λ log found epoch. records_log epoch log st w (fits_log log found) q) q
      applies st Follows w is a q = walk.follows_at c P told most commits_read prunes block low st w q
      applies st Ends w is a q = q

  steps : (st : Live Dir) (message : Message Dir) (w : World) → reach_of c message ≤ most → CanRecord c st message → AreAgreed st.records w.held → P w → Throughout P (step c message st) w
  steps st (Finalized block) w low can a q =
      walk.delivered c P told most commits_read prunes block st w q (λ judged. applies block low can.acks can.brings st st.participation.stage w can.dealing a q) st.participation.stage
  steps st (Mailed (Peer from bytes)) w low can a q = hears from bytes st st.participation.stage w can.brings a q
  steps st (Mailed (NextLog request height)) w low can a q = walk.gives c P told request height (i.served_now st) (with_used request st) w q
  steps st (Mailed (ReleaseLog height)) w low can a q = q
  steps st (Mailed (EpochInfoOf request)) w low can a q = walk.asks_in c P told request (with_used request st) st.participation.stage w q
  steps st (Mailed (Feed request block)) w low can a q = walk.advanced c P told (i.changed request (λ r. if r.ended then r else record r { blocks = r.blocks ++ block ∷ [] }) st) w q
  steps st (Mailed (Over request)) w low can a q = walk.advanced c P told (i.changed request (λ r. record r { ended = true }) st) w q
  steps st (Mailed (Cancel request)) w low can a q = walk.cancels c P told request st w q
  steps st (Mailed (Work handed)) w low can a q = walk.works c P told handed st w q

pub steps_keep : {Dir : Type 0} → StepsKeep Dir
steps_keep c st message most base w low a can q = steps c most base st message w low can a q
