-- What steps keep of the journal's notes.
use Rattle.std.proofs.Common.{◌≡◌, ◌≤◌, ◌<◌, ◌⊎◌, inl, inr, ℕ, Bool, true, false, cond, nat_le, List, [], ◌∷◌, Option, Some, None, refl, sym, ◌∙◌, ap, subst, arith}
use Rattle.std.specs.Prelude.{◌+◌, ◌-◌, ◌==◌, ◌++◌, if◌then◌else◌, Result, Ok, Err, is_some, option_and_then}
use Rattle.std.specs.Option.{option_map_or}
use Rattle.std.specs.Str.{bytes_eq}
use Rattle.std.specs.FinMap.{get, retain_keys, get-retain_keys}
use Rattle.dkg_values.specs.Rising.{lookup}
use Rattle.dkg_ceremony.specs.declared.ceremony.AckError.{AckError}
use Rattle.dkg_ceremony.specs.declared.round.RoundParts.{RoundParts as Round}
use Rattle.dkg_ceremony.specs.declared.signed_log.SignedDealerLog.{SignedDealerLog}
use Rattle.dkg_ceremony.specs.Schedule.{epoch_of}
use Rattle.dkg_journal.specs.Operations.{Appends, Prunes, Journaled}
use Rattle.dkg_journal.specs.Records.{SectionEntry, placed, from_section}
use Rattle.dkg_types.specs.Blocks.{Block}
use Rattle.dkg_infos.specs.declared.entry.Entry.TheVariants.{Offer}
use Rattle.dkg_infos.specs.declared.fault.Fault.{Fault}
use Rattle.dkg_infos.specs.declared.fault.Fault.TheVariants.{LocalState}
use Rattle.dkg_infos.specs.declared.fault.LocalCause.TheVariants.{OwnDealing}
use Rattle.dkg_infos.specs.declared.info.EpochInfo.{EpochInfo}
use Rattle.dkg_types.specs.PayloadCodes.{its_log}
use Rattle.dkg_secrets.specs.declared.secrets.SecretOp.{SecretOp}
use Rattle.dkg_secrets.specs.declared.secrets.SecretOp.TheVariants.{PutDealing, Prune}
use Rattle.dkg_secrets.proofs.Map.{keys_total, exact_keys, same_key, get_other, below_or}
use Rattle.dkg_store.specs.Acts.{Held, OnDisk, Changes, World, does, notes, Cause, Tears, IsDiskLeft}
use Rattle.dkg_store.specs.Events.{event_spelling, IsEvent}
use Rattle.dkg_store.specs.Noted.{Note, Notes, noted, noted_ack, noted_log, acks_in, logs_in}
use Rattle.dkg_store.specs.declared.event.Event.TheVariants as events
use Rattle.dkg_store.specs.declared.recorded_log.RecordedLog.{RecordedLog}
use Rattle.dkg_store.proofs.Noted.{says_ack, says_log, noted_placed, noted_silent}
use Rattle.dkg_store.proofs.Pruned.{acks_from, logs_from}
use Rattle.dkg_core.specs.Courses.{Course, Say, Goes, Stops, bind, Throughout}
use Rattle.dkg_core.specs.Fixed.{Fixed}
use Rattle.dkg_core.specs.Live.{Live, Records, Dealer, Seat, Plays, Watches, Stage, Deals, Includes, Follows, Ends, Message, Mailed, Peer, Finalized, NextLog, ReleaseLog, EpochInfoOf, Feed, Over, Cancel, Work, recorded_at, with_used}
use Rattle.dkg_core.specs.Logs.{carried_log_event, recorded_log}
use Rattle.dkg_core.specs.Setup as s
use Rattle.dkg_core.specs.Dealing as d
use Rattle.dkg_core.specs.Blocks as b
use Rattle.dkg_core.specs.Core.{step}
use Rattle.dkg_core.specs.Laws.{reach_of}
use Rattle.dkg_core.specs.Agreeing.{AreAgreed, CanRecord}
use Rattle.dkg_core.specs.Forms.{Applied, judged_block}
use Rattle.dkg_laws.specs.BlocksKept.{StillNoted, SameNoted}
use Rattle.dkg_core.proofs.Agreeing as ag
use Rattle.dkg_core.proofs.Agreeing.{unnoted, dealing_more}
use Rattle.dkg_ceremony.specs.declared.ceremony.DealingError.{DealingError}
use Rattle.dkg_types.specs.declared.message.Message.{Message as Channel}
use Rattle.dkg_types.specs.declared.message.Message.TheVariants.{Dealer as ADealing, Ack as AnAck}
use Rattle.dkg_types.specs.MessageCodes.{message_at}
use Rattle.dkg_values.specs.Codec.{whole as all_of}
use Rattle.dkg_values.specs.declared.codec.CodecError.{CodecError}
use Rattle.dkg_core.specs.Including as i
use Rattle.dkg_core.specs.Heard.{Fits}
use Rattle.dkg_core.proofs.Keeping.{left_entries}
use Rattle.dkg_core.proofs.Running.{along_next, along_end}
use Rattle.dkg_core.proofs.Upkeep.{along_if, along_option}
use Rattle.dkg_core.proofs.Walking as walk

pub not_there : {A : Type 0} (found : Option A) → is_some found ≡ false → found ≡ None
not_there None e = refl
not_there (Some a) e = absurd (let no : ◌≡◌ {A = Bool} true false = e in cc)

not_none : {A : Type 0} (a : A) (found : Option A) → found ≡ Some a → found ≡ None → ⊥
not_none a found some none = let no : ◌≡◌ {A = Option _} (Some a) None = sym some ∙ none in cc

-- ALONG A PRUNE

module _ {Dir : Type 0} (c : Fixed Dir) (R : List SectionEntry → Type 0) (most : ℕ) (pruned : (min : ℕ) (es : List SectionEntry) → min ≤ most → R es → R (from_section min es)) where
  abbrev Q : World → Type 0
  Q w = R (notes w.held)

  changed : (op : SecretOp) (cause : Cause) (w new : World) → Tears cause (Changes op) w new → Q w → Q new
  changed op cause w new tears q = subst (λ (j : Journaled). R j.entries) (sym tears.torn.0) q

  prune_torn : (min : ℕ) → min ≤ most → (w new : World) → IsDiskLeft (Prunes min) w.held.journaled new.held.journaled → Q w → Q new
  prune_torn min low w new (inl is) q = subst (λ (j : Journaled). R j.entries) (sym is) q
  prune_torn min low w new (inr (inl is)) q = subst (λ (j : Journaled). R j.entries) (sym is) (pruned min (notes w.held) low q)
  prune_torn min low w new (inr (inr part)) q =
      subst (λ (j : Journaled). R j.entries) (sym part.2) (pruned part.0 (notes w.held) (let least : part.0 ≤ min = part.1 in omega (arith, least, low)) q)

  pub prunes : (min : ℕ) → min ≤ most → (st : Live Dir) (w : World) → Q w → Throughout Q (s.prunes min st) w
  prunes min low st w q =
      let done = pruned min (notes w.held) low q in
      (λ cause new tears. prune_torn min low w new tears.torn.1 q, (λ cause new tears. changed (Prune min) cause (does w (OnDisk (Prunes min))) new tears done, done))

-- ALONG A STEP, by what each record of it keeps of the notes

-- R is kept by the record of a dealing, by that of an acknowledgement that is new, and by a prune.
pub record KeepsNotes (R : List SectionEntry → Type 0) (most : ℕ) : Type 0 where
  pub pruned : (min : ℕ) (es : List SectionEntry) → min ≤ most → R es → R (from_section min es)
  pub dealing : (epoch dealer : ℕ) (public : List ℕ) (es : List SectionEntry) → IsEvent (events.Dealing dealer public) → R es → R (placed es (epoch, event_spelling (events.Dealing dealer public)))
  pub ack : (epoch player : ℕ) (ack : List ℕ) (r : Records) (h : Held) → IsEvent (events.Ack player ack) → AreAgreed r h → recorded_at r.acks epoch player ≡ None → R (notes h)
      → R (placed (notes h) (epoch, event_spelling (events.Ack player ack)))

-- .. and by that of a log that is new
abbrev pub KeepsLog : {Dir : Type 0} → Block Dir → (R : List SectionEntry → Type 0) → Type 0
KeepsLog block R = (epoch : ℕ) (log : SignedDealerLog) (r : Records) (h : Held) → IsEvent (events.LogAt log.dealer block.height log.log) → AreAgreed r h → recorded_at r.logs epoch log.dealer ≡ None → R (notes h)
    → R (placed (notes h) (epoch, event_spelling (carried_log_event log.dealer block.height log.log)))

module _ {Dir : Type 0} (c : Fixed Dir) (R : List SectionEntry → Type 0) (most : ℕ) (keeps : KeepsNotes R most) where
  abbrev P : World → Type 0
  P w = R (notes w.held)

  -- an entry is there, or it isn't yet
  pub appended : (e : SectionEntry) (cause : Cause) (w new : World) → R (placed (notes w.held) e) → Tears cause (OnDisk (Appends e)) w new → P w → P new
  appended e cause w new more tears q = either (left_entries e w.held.journaled new.held.journaled tears.torn.1)
    where
      either : (notes new.held ≡ notes w.held) ⊎ (notes new.held ≡ placed (notes w.held) e) → P new
      either (inl is) = subst R (sym is) q
      either (inr is) = subst R (sym is) more

  pub commits : (info : EpochInfo Dir) (seed : List ℕ) (share : Option ℕ) (st : Live Dir) (w : World) → P w → Throughout {Dir = Dir} P (s.commits info seed share st) w
  commits info seed None st w q = (λ cause new tears. changed c R most keeps.pruned _ cause w new tears q, (q, q))
  commits info seed (Some share) st w q = (λ cause new tears. changed c R most keeps.pruned _ cause w new tears q, (λ cause new tears. changed c R most keeps.pruned _ cause _ new tears q, (q, q)))

  pub commits_read : (info : EpochInfo Dir) (st : Live Dir) (w : World) → P w
      → Throughout {Dir = Dir} P (s.commits info (s.seed_for c info.epoch (lookup info.epoch (c.seen w.held).seeds)) (s.recovered_share c (c.seen w.held) info) st) w
  commits_read info st w q = commits info (s.seed_for c info.epoch (lookup info.epoch (c.seen w.held).seeds)) (s.recovered_share c (c.seen w.held) info) st w q

  -- ITS OWN DEALING

  takes_ack : (epoch : ℕ) (dealer : Dealer) (player : ℕ) (ack : List ℕ) (st : Live Dir) (w : World) → IsEvent (events.Ack player ack) → AreAgreed st.records w.held → P w
      → Throughout P (d.takes_ack epoch dealer player ack st) w
  takes_ack epoch dealer player ack st w is a q =
      let recorded : Course Dir Fault (Live Dir) = d.appends epoch (events.Ack player ack) (Goes (d.counts dealer player ack (d.with_ack epoch player ack st))) in
      along_if P w (is_some (lookup player dealer.acks)) (Goes st) (if is_some (recorded_at st.records.acks epoch player) then Goes (d.counts dealer player ack st) else recorded) (λ e. q)
      (λ e. along_if P w (is_some (recorded_at st.records.acks epoch player)) (Goes (d.counts dealer player ack st)) recorded (λ e. q)
      (λ e. let more = keeps.ack epoch player ack st.records w.held is a (not_there (recorded_at st.records.acks epoch player) e) q in
      (λ cause new tears. appended (epoch, event_spelling (events.Ack player ack)) cause w new more tears q, more)))

  checked_ack : (round : Round) (dealer : Dealer) (player : ℕ) (ack : List ℕ) (st : Live Dir) (check : Result (Unit {0}) AckError) (w : World) → IsEvent (events.Ack player ack) → AreAgreed st.records w.held → P w
      → Throughout P (d.checked_ack round dealer player ack st check) w
  checked_ack round dealer player ack st (Err e) w is a q = (q, q)
  checked_ack round dealer player ack st (Ok passed) w is a q = takes_ack round.number dealer player ack st w is a q

  module _ (fits_own : (round : Round) (public : List ℕ) → IsEvent (events.Ack c.me (c.rules.ack_of c.me round c.me public))) where
    own_ack : (round : Round) (public : List ℕ) (st : Live Dir) (w : World) → AreAgreed st.records w.held → P w → Throughout P (d.own_ack c round public st) w
    own_ack round public st w a q =
        let ack = c.rules.ack_of c.me round c.me public in
        along_option P w st.participation.dealer (λ dealer. d.checked_ack round dealer c.me ack st (c.rules.check_ack_of round c.me dealer.public c.me ack)) (Goes st)
        (λ dealer e. checked_ack round dealer c.me ack st (c.rules.check_ack_of round c.me dealer.public c.me ack) w (fits_own round public) a q) (λ e. q)

    to_itself_in : (round : Round) (public : List ℕ) (private : ℕ) (st : Live Dir) (found : Option (List ℕ × ℕ)) (w : World) → IsEvent (events.Dealing c.me public)
        → recorded_at st.records.dealings round.number c.me ≡ found → AreAgreed st.records w.held → P w → Throughout P (d.deals_to_itself_in c round public private st found) w
    to_itself_in round public private st (Some pair) w is found a q =
        along_if P w (bytes_eq pair.0 public) (d.own_ack c round public st) (Stops (LocalState (OwnDealing round.number pair.0 public))) (λ e. own_ack round public st w a q) (λ e. q)
    to_itself_in round public private st None w is none a q =
        let mid : World = does w (Changes (PutDealing round.number c.me private)) in
        let more = keeps.dealing round.number c.me public (notes w.held) is q in (
          λ cause new tears. changed c R most keeps.pruned (PutDealing round.number c.me private) cause w new tears q,
          (
            λ cause new tears. appended (round.number, event_spelling (events.Dealing c.me public)) cause mid new more tears q,
            (more, own_ack round public (d.with_dealing_of round.number c.me public private st) _ (dealing_more round.number w.held st.records c.me public private is none a) more),
          ),
        )

    to_itself : (round : Round) (public : List ℕ) (private : ℕ) (st : Live Dir) (seat : Seat) (w : World) → IsEvent (events.Dealing c.me public) → AreAgreed st.records w.held → P w
        → Throughout P (d.offers_to_itself_in c round public private st seat) w
    to_itself round public private st Plays w is a q = to_itself_in round public private st (recorded_at st.records.dealings round.number c.me) w is refl a q
    to_itself round public private st Watches w is a q = q

    offers : (round : Round) (public : List ℕ) (ps : List (ℕ × ℕ)) (st : Live Dir) (w : World) → IsEvent (events.Dealing c.me public) → AreAgreed st.records w.held → P w → Throughout P (d.offers c round public ps st) w
    offers round public [] st w is a q = q
    offers round public (p ∷ ps) st w is a q =
        let mine = d.offers_to_itself c round public p.1 st in
        let goes = to_itself round public p.1 st st.participation.seat w is a q in
        along_if P w (p.0 == c.me) (bind mine (λ st. d.offers c round public ps st)) (Say (Offer round.number p.0 public p.1) (d.offers c round public ps st))
        (λ e. along_next P mine (λ st. d.offers c round public ps st) w goes
        (λ end mid done. offers round public ps end mid is (ag.lands_at mine w mid end (ag.to_itself c fits_own round public p.1 st st.participation.seat w.held is a) done) (along_end P mine w mid end goes done)))
        (λ e. (q, offers round public ps st _ is a q))

    deals : (st : Live Dir) (w : World) → ((dealer : Dealer) → st.participation.dealer ≡ Some dealer → IsEvent (events.Dealing c.me dealer.public)) → AreAgreed st.records w.held → P w → Throughout P (d.deals c st) w
    deals st w is a q =
        walk.rounds c P (λ w line aside q. q) st (λ round. option_map_or (λ dealer. d.offers c round dealer.public (s.unsent_of_round round dealer) st) st.participation.dealer (Goes st)) w q
        (λ round. along_option P w st.participation.dealer (λ dealer. d.offers c round dealer.public (s.unsent_of_round round dealer) st) (Goes st) (λ dealer e. offers round dealer.public (s.unsent_of_round round dealer) st w (is dealer e) a q) (λ e. q))

  -- A PEER'S MESSAGE

  module _ (from : ℕ) (st : Live Dir) (w : World) (a : AreAgreed st.records w.held) (q : P w) where
    checked_dealing : (round : Round) (public : List ℕ) (private : ℕ) (check : Result (Unit {0}) DealingError) → IsEvent (events.Dealing from public)
        → Throughout P (d.checked_dealing c round from public private st check) w
    checked_dealing round public private (Err e) is = (q, q)
    checked_dealing round public private (Ok passed) is =
        let mid : World = does w (Changes (PutDealing round.number from private)) in
        let more = keeps.dealing round.number from public (notes w.held) is q in (
          λ cause new tears. changed c R most keeps.pruned (PutDealing round.number from private) cause w new tears q,
          (λ cause new tears. appended (round.number, event_spelling (events.Dealing from public)) cause mid new more tears q, (more, (more, more))),
        )

    of_recorded : (round : Round) (public : List ℕ) (private : ℕ) (found : Option (List ℕ × ℕ)) → IsEvent (events.Dealing from public) → Throughout P (d.hears_dealing_in c round from public private st found) w
    of_recorded round public private (Some kept) is = (q, q)
    of_recorded round public private None is = checked_dealing round public private (c.rules.dealing_of round c.me from public private) is

    a_dealing : (round : Round) (public : List ℕ) (private : ℕ) (seat : Seat) → IsEvent (events.Dealing from public) → Throughout P (d.seats_dealing_in c round from public private st seat) w
    a_dealing round public private Plays is = of_recorded round public private (recorded_at st.records.dealings round.number from) is
    a_dealing round public private Watches is = (q, q)

    an_ack : (round : Round) (dealer : Option Dealer) (ack : List ℕ) → IsEvent (events.Ack from ack) → Throughout P (d.hears_ack c round dealer from ack st) w
    an_ack round None ack is = (q, q)
    an_ack round (Some dealer) ack is = checked_ack round dealer from ack st (c.rules.check_ack_of round c.me dealer.public from ack) w is a q

    reads : (round : Round) (message : Result Channel CodecError) → ((public : List ℕ) (private : ℕ) → message ≡ Ok (ADealing public private) → IsEvent (events.Dealing from public))
        → ((ack : List ℕ) → message ≡ Ok (AnAck ack) → IsEvent (events.Ack from ack)) → Throughout P (d.reads c round from st message) w
    reads round (Err e) fits fits_ack = (q, q)
    reads round (Ok (ADealing public private)) fits fits_ack = a_dealing round public private st.participation.seat (fits public private refl)
    reads round (Ok (AnAck ack)) fits fits_ack = an_ack round st.participation.dealer ack (fits_ack ack refl)

    hears : (bytes : List ℕ) (stage : Stage) → Fits c (from, bytes) → Throughout P (d.hears_peer_in c from bytes st stage) w
    hears bytes Deals fits =
        walk.rounds c P (λ w line aside q. q) st (λ round. d.reads c round from st (all_of (message_at c.limit bytes))) w q (λ round. reads round (all_of (message_at c.limit bytes)) fits.0 fits.1)
    hears bytes Includes fits = q
    hears bytes Follows fits = q
    hears bytes Ends fits = q

  -- A BLOCK, which isn't applied while including, or keeps R by its log

  module _ (block : Block Dir) (low : (epoch_of c.blocks_per_epoch (block.height + 1) - 1) ≤ most) (st : Live Dir) (w : World) (can : CanRecord c st (Finalized block)) (a : AreAgreed st.records w.held) where
    records_log : KeepsLog block R → (log : SignedDealerLog) → option_and_then its_log block.payload ≡ Some log → P w → (epoch : ℕ) → Throughout {Dir = Dir} P (b.records_log epoch block.height log st) w
    records_log keeps_log log is q epoch =
        along_if P w (is_some (recorded_at st.records.logs epoch log.dealer)) (Goes st)
        (d.appends epoch (carried_log_event log.dealer block.height log.log) (Goes (b.with_log_at epoch log.dealer block.height log.log st))) (λ e. q)
        (λ e. let more = keeps_log epoch log st.records w.held (can.brings log is) a (not_there (recorded_at st.records.logs epoch log.dealer) e) q in
        (λ cause new tears. appended (epoch, event_spelling (carried_log_event log.dealer block.height log.log)) cause w new more tears q, more))

    pub applies : (stage : Stage) → (stage ≡ Includes → KeepsLog block R) → P w → Throughout P (b.applies_in c block st stage) w
    applies Deals keeps_log q = walk.ends_dealing c P (λ w line aside q. q) most commits_read (prunes c R most keeps.pruned) block low st w q (deals can.acks st w can.dealing a q)
    applies Includes keeps_log q =
        walk.including c P (λ w line aside q. q) most commits_read (prunes c R most keeps.pruned) block low (λ info share st w q. commits info (s.seed_for c info.epoch (lookup info.epoch (c.seen w.held).seeds)) share st w q) st w
        (λ log is epoch. records_log (keeps_log refl) log is q epoch) q
    applies Follows keeps_log q = walk.follows_at c P (λ w line aside q. q) most commits_read (prunes c R most keeps.pruned) block low st w q
    applies Ends keeps_log q = q

    pub block_keeps : (judged_block c block st ≡ Applied → st.participation.stage ≡ Includes → KeepsLog block R) → P w → Throughout P (step c (Finalized block) st) w
    block_keeps keeps_log q = walk.delivered c P (λ w line aside q. q) most commits_read (prunes c R most keeps.pruned) block st w q (λ judged. applies st.participation.stage (keeps_log judged) q) st.participation.stage

  -- ANY MESSAGE

  pub step_keeps : (st : Live Dir) (message : Message Dir) (w : World) → reach_of c message ≤ most → CanRecord c st message → AreAgreed st.records w.held
      → ((block : Block Dir) → message ≡ Finalized block → judged_block c block st ≡ Applied → st.participation.stage ≡ Includes → KeepsLog block R) → P w → Throughout P (step c message st) w
  step_keeps st (Finalized block) w low can a keeps_log q = block_keeps block low st w can a (keeps_log block refl) q
  step_keeps st (Mailed (Peer from bytes)) w low can a keeps_log q = hears from st w a q bytes st.participation.stage can.brings
  step_keeps st (Mailed (NextLog request height)) w low can a keeps_log q = walk.gives c P (λ w line aside q. q) request height (i.served_now st) (with_used request st) w q
  step_keeps st (Mailed (ReleaseLog height)) w low can a keeps_log q = q
  step_keeps st (Mailed (EpochInfoOf request)) w low can a keeps_log q = walk.asks_in c P (λ w line aside q. q) request (with_used request st) st.participation.stage w q
  step_keeps st (Mailed (Feed request block)) w low can a keeps_log q =
      walk.advanced c P (λ w line aside q. q) (i.changed request (λ r. if r.ended then r else record r { blocks = r.blocks ++ block ∷ [] }) st) w q
  step_keeps st (Mailed (Over request)) w low can a keeps_log q = walk.advanced c P (λ w line aside q. q) (i.changed request (λ r. record r { ended = true }) st) w q
  step_keeps st (Mailed (Cancel request)) w low can a keeps_log q = walk.cancels c P (λ w line aside q. q) request st w q
  step_keeps st (Mailed (Work handed)) w low can a keeps_log q = walk.works c P (λ w line aside q. q) handed st w q

-- WHAT IS NOTED

module _ {V : Type 0} (note_of : SectionEntry → Option (Note V)) (most : ℕ) (held : Notes V) where
  abbrev pub Still : List SectionEntry → Type 0
  Still es = StillNoted most held (noted note_of es)

  abbrev pub Same : List SectionEntry → Type 0
  Same es = SameNoted most held (noted note_of es)

  -- an entry of no note
  still_silent : (e : SectionEntry) (es : List SectionEntry) → note_of e ≡ None → Still es → Still (placed es e)
  still_silent e es none was key value above got = ap (λ (m : Notes V). get m key) (noted_silent note_of e es none) ∙ was key value above got

  same_silent : (e : SectionEntry) (es : List SectionEntry) → note_of e ≡ None → Same es → Same (placed es e)
  same_silent e es none was key above = ap (λ (m : Notes V). get m key) (noted_silent note_of e es none) ∙ was key above

  -- .. and of a new one
  still_new : (e : SectionEntry) (es : List SectionEntry) (key : ℕ × ℕ) (value : V) → note_of e ≡ Some (key, value) → get (noted note_of es) key ≡ None → Still es → Still (placed es e)
  still_new e es at new is none was key value above got = elim (same_key keys_total exact_keys key at) [
    | inl here ↦ absurd (not_none value (get (noted note_of es) at) (ap (get (noted note_of es)) (sym here) ∙ was key value above got) none)
    | inr apart ↦ ap (λ (m : Notes V). get m key) (noted_placed note_of at new e es is none) ∙ get_other keys_total exact_keys (noted note_of es) at key new apart ∙ was key value above got
  ]

  module _ (from_is : (min : ℕ) (es : List SectionEntry) → noted note_of (from_section min es) ≡ retain_keys (noted note_of es) (λ k. nat_le min k.0)) where
    pub kept_at : (min : ℕ) (es : List SectionEntry) (key : ℕ × ℕ) → min ≤ key.0 → get (noted note_of (from_section min es)) key ≡ get (noted note_of es) key
    kept_at min es key above =
        ap (λ (m : Notes V). get m key) (from_is min es)
        ∙ get-retain_keys (noted note_of es) (λ (x : ℕ × ℕ). nat_le min x.0) key (λ x tied. ap (λ (y : ℕ × ℕ). nat_le min y.0) (sym (exact_keys key x tied)))
        ∙ ap (λ (t : Bool). cond t (get (noted note_of es) key) None) (is_above (below_or min key.0))
      where
        is_above : ((key.0 < min) × (nat_le min key.0 ≡ false)) ⊎ ((min ≤ key.0) × (nat_le min key.0 ≡ true)) → nat_le min key.0 ≡ true
        is_above (inl below) = absurd (let lt = below.0 in omega (arith, lt, above))
        is_above (inr here) = here.1

    still_pruned : (min : ℕ) (es : List SectionEntry) → min ≤ most → Still es → Still (from_section min es)
    still_pruned min es low was key value above got = kept_at min es key (omega (arith, low, above)) ∙ was key value above got

    same_pruned : (min : ℕ) (es : List SectionEntry) → min ≤ most → Same es → Same (from_section min es)
    same_pruned min es low was key above = kept_at min es key (omega (arith, low, above)) ∙ was key above

module _ (most : ℕ) where
  pub acks_keep : (held : Notes (List ℕ)) → KeepsNotes (Still noted_ack most held) most
  acks_keep held = record {
    pruned = still_pruned noted_ack most held acks_from;
    dealing = λ epoch dealer public es is was. still_silent noted_ack most held (epoch, event_spelling (events.Dealing dealer public)) es (says_ack epoch (events.Dealing dealer public) is) was;
    ack = λ epoch player ack r h is a none was. still_new noted_ack most held (epoch, event_spelling (events.Ack player ack)) (notes h) (epoch, player) ack (says_ack epoch (events.Ack player ack) is)
        (unnoted (acks_in (notes h)) r.acks (epoch, player) a.acks none) was;
  }

  pub acks_keep_log : {Dir : Type 0} (held : Notes (List ℕ)) (block : Block Dir) → KeepsLog block (Still noted_ack most held)
  acks_keep_log held block epoch log r h is a none was =
      still_silent noted_ack most held (epoch, event_spelling (carried_log_event log.dealer block.height log.log)) (notes h) (says_ack epoch (carried_log_event log.dealer block.height log.log) is) was

  pub logs_keep : (held : Notes RecordedLog) → KeepsNotes (Still noted_log most held) most
  logs_keep held = record {
    pruned = still_pruned noted_log most held logs_from;
    dealing = λ epoch dealer public es is was. still_silent noted_log most held (epoch, event_spelling (events.Dealing dealer public)) es (says_log epoch (events.Dealing dealer public) is) was;
    ack = λ epoch player ack r h is a none was. still_silent noted_log most held (epoch, event_spelling (events.Ack player ack)) (notes h) (says_log epoch (events.Ack player ack) is) was;
  }

  pub logs_keep_log : {Dir : Type 0} (held : Notes RecordedLog) (block : Block Dir) → KeepsLog block (Still noted_log most held)
  logs_keep_log held block epoch log r h is a none was =
      still_new noted_log most held (epoch, event_spelling (carried_log_event log.dealer block.height log.log)) (notes h) (epoch, log.dealer) (recorded_log block.height log.log)
      (says_log epoch (carried_log_event log.dealer block.height log.log) is) (unnoted (logs_in (notes h)) r.logs (epoch, log.dealer) a.logs none) was

  pub logs_stay : (held : Notes RecordedLog) → KeepsNotes (Same noted_log most held) most
  logs_stay held = record {
    pruned = same_pruned noted_log most held logs_from;
    dealing = λ epoch dealer public es is was. same_silent noted_log most held (epoch, event_spelling (events.Dealing dealer public)) es (says_log epoch (events.Dealing dealer public) is) was;
    ack = λ epoch player ack r h is a none was. same_silent noted_log most held (epoch, event_spelling (events.Ack player ack)) (notes h) (says_log epoch (events.Ack player ack) is) was;
  }
