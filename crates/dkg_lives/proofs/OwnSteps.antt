-- While a node deals, and as it hears a peer, no share and no seed changes.
use Rattle.std.proofs.Common.{◌≡◌, inl, inr, ℕ, List, [], ◌∷◌, Option, Some, None, Result, Ok, Err, ◌∙◌, ap}
use Rattle.std.specs.Prelude.{◌==◌, if◌then◌else◌, is_some}
use Rattle.std.specs.Option.{option_map_or}
use Rattle.std.specs.Str.{bytes_eq}
use Rattle.dkg_values.specs.Codec.{whole}
use Rattle.dkg_values.specs.declared.codec.CodecError.{CodecError}
use Rattle.dkg_ceremony.specs.declared.ceremony.AckError.{AckError}
use Rattle.dkg_ceremony.specs.declared.ceremony.DealingError.{DealingError}
use Rattle.dkg_ceremony.specs.declared.round.RoundParts.{RoundParts as Round}
use Rattle.dkg_ceremony.specs.declared.signed_log.SignedDealerLog.{SignedDealerLog}
use Rattle.dkg_journal.specs.Operations as of_journal
use Rattle.dkg_secrets.specs.Secrets.{Secrets}
use Rattle.dkg_secrets.specs.declared.secrets.SecretOp.TheVariants.{PutDealing}
use Rattle.dkg_infos.specs.declared.entry.Entry.TheVariants.{Offer}
use Rattle.dkg_infos.specs.declared.fault.Fault.{Fault}
use Rattle.dkg_infos.specs.declared.fault.Fault.TheVariants.{LocalState}
use Rattle.dkg_infos.specs.declared.fault.LocalCause.TheVariants.{OwnDealing}
use Rattle.dkg_types.specs.declared.message.Message.{Message as Channel}
use Rattle.dkg_types.specs.declared.message.Message.TheVariants.{Dealer as ADealing, Ack as AnAck}
use Rattle.dkg_types.specs.MessageCodes.{message_at}
use Rattle.dkg_store.specs.Acts.{Cause, Changes, OnDisk, Tears, World, does, says}
use Rattle.dkg_store.specs.declared.event.Event.TheVariants as events
use Rattle.dkg_core.specs.Blocks as b
use Rattle.dkg_core.specs.Courses.{Course, Goes, Say, Stops, Throughout, bind}
use Rattle.dkg_core.specs.Dealing as d
use Rattle.dkg_core.specs.Fixed.{Fixed}
use Rattle.dkg_core.specs.Live.{Dealer, Deals, Ends, Follows, Includes, Live, Plays, Seat, Stage, Watches, recorded_at}
use Rattle.dkg_core.specs.Logs.{carried_log_event}
use Rattle.dkg_core.specs.Setup as s
use Rattle.dkg_core.proofs.Running.{along_end, along_next}
use Rattle.dkg_core.proofs.Upkeep.{along_if, along_option}

-- WHILE IT DEALS no share and no seed changes

module _ {Dir : Type 0} (c : Fixed Dir) (from : World) where
  pub record SameSecrets (w : World) : Type 0 where
    pub seeds : w.held.secrets.seeds ≡ from.held.secrets.seeds
    pub shares : w.held.secrets.shares ≡ from.held.secrets.shares

  on_disk : (op : of_journal.JournalOperation) (cause : Cause) (w new : World) → Tears cause (OnDisk op) w new → SameSecrets w → SameSecrets new
  on_disk op cause w new tears q = record { seeds = ap (λ (t : Secrets). t.seeds) tears.torn.0 ∙ q.seeds; shares = ap (λ (t : Secrets). t.shares) tears.torn.0 ∙ q.shares }

  half_torn : (epoch dealer private : ℕ) (cause : Cause) (w new : World) → Tears cause (Changes (PutDealing epoch dealer private)) w new → SameSecrets w → SameSecrets new
  half_torn epoch dealer private cause w new tears q = elim (tears.torn.1).so [
    | inl is ↦ record { seeds = ap (λ (t : Secrets). t.seeds) is ∙ q.seeds; shares = ap (λ (t : Secrets). t.shares) is ∙ q.shares }
    | inr is ↦ record { seeds = ap (λ (t : Secrets). t.seeds) is ∙ q.seeds; shares = ap (λ (t : Secrets). t.shares) is ∙ q.shares }
  ]

  takes_ack : (epoch : ℕ) (dealer : Dealer) (player : ℕ) (ack : List ℕ) (st : Live Dir) (w : World) → SameSecrets w → Throughout SameSecrets (d.takes_ack epoch dealer player ack st) w
  takes_ack epoch dealer player ack st w q =
      let recorded : Course Dir Fault (Live Dir) = d.appends epoch (events.Ack player ack) (Goes (d.counts dealer player ack (d.with_ack epoch player ack st))) in
      along_if SameSecrets w (is_some _) (Goes st) (if is_some (recorded_at st.records.acks epoch player) then Goes (d.counts dealer player ack st) else recorded)
      (λ e. q) (λ e. along_if SameSecrets w (is_some (recorded_at st.records.acks epoch player)) (Goes (d.counts dealer player ack st)) recorded (λ e. q)
      (λ e. (λ cause new tears. on_disk _ cause w new tears q, record { seeds = q.seeds; shares = q.shares })))

  checked_ack : (round : Round) (dealer : Dealer) (player : ℕ) (ack : List ℕ) (st : Live Dir) (check : Result (Unit {0}) AckError) (w : World) → SameSecrets w → Throughout SameSecrets (d.checked_ack round dealer player ack st check) w
  checked_ack round dealer player ack st (Err e) w q = (q, record { seeds = q.seeds; shares = q.shares })
  checked_ack round dealer player ack st (Ok passed) w q = takes_ack round.number dealer player ack st w q

  own_ack : (round : Round) (public : List ℕ) (st : Live Dir) (w : World) → SameSecrets w → Throughout SameSecrets (d.own_ack c round public st) w
  own_ack round public st w q =
      let ack = c.rules.ack_of c.me round c.me public in
      along_option SameSecrets w st.participation.dealer (λ dealer. d.checked_ack round dealer c.me ack st (c.rules.check_ack_of round c.me dealer.public c.me ack)) (Goes st)
      (λ dealer e. checked_ack round dealer c.me ack st (c.rules.check_ack_of round c.me dealer.public c.me ack) w q) (λ e. q)

  to_itself_in : (round : Round) (public : List ℕ) (private : ℕ) (st : Live Dir) (found : Option (List ℕ × ℕ)) (w : World) → SameSecrets w → Throughout SameSecrets (d.deals_to_itself_in c round public private st found) w
  to_itself_in round public private st (Some pair) w q =
      along_if SameSecrets w (bytes_eq pair.0 public) (d.own_ack c round public st) (Stops (LocalState (OwnDealing round.number pair.0 public))) (λ e. own_ack round public st w q) (λ e. q)
  to_itself_in round public private st None w q =
      let mid : World = does w (Changes (PutDealing round.number c.me private)) in
      let half : SameSecrets mid = record { seeds = q.seeds; shares = q.shares } in (
        λ cause new tears. half_torn round.number c.me private cause w new tears q,
        (λ cause new tears. on_disk _ cause mid new tears half, (record { seeds = q.seeds; shares = q.shares }, own_ack round public (d.with_dealing_of round.number c.me public private st) _ (record { seeds = q.seeds; shares = q.shares }))),
      )

  to_itself : (round : Round) (public : List ℕ) (private : ℕ) (st : Live Dir) (seat : Seat) (w : World) → SameSecrets w → Throughout SameSecrets (d.offers_to_itself_in c round public private st seat) w
  to_itself round public private st Plays w q = to_itself_in round public private st (recorded_at st.records.dealings round.number c.me) w q
  to_itself round public private st Watches w q = q

  offers : (round : Round) (public : List ℕ) (ps : List (ℕ × ℕ)) (st : Live Dir) (w : World) → SameSecrets w → Throughout SameSecrets (d.offers c round public ps st) w
  offers round public [] st w q = q
  offers round public (p ∷ ps) st w q =
      let mine = d.offers_to_itself c round public p.1 st in
      along_if SameSecrets w (p.0 == c.me) (bind mine (λ st. d.offers c round public ps st)) (Say (Offer round.number p.0 public p.1) (d.offers c round public ps st))
      (λ e. let goes = to_itself round public p.1 st st.participation.seat w q in
      along_next SameSecrets mine (λ st. d.offers c round public ps st) w goes (λ end mid done. offers round public ps end mid (along_end SameSecrets mine w mid end goes done)))
      (λ e. (q, offers round public ps st (says w (Offer round.number p.0 public p.1)) (record { seeds = q.seeds; shares = q.shares })))

  pub deals_same : (st : Live Dir) (w : World) → SameSecrets w → Throughout SameSecrets (d.deals c st) w
  deals_same st w q =
      along_option SameSecrets w st.participation.round (λ round. option_map_or (λ dealer. d.offers c round dealer.public (s.unsent_of_round round dealer) st) st.participation.dealer (Goes st)) (Goes st)
      (λ round e. along_option SameSecrets w st.participation.dealer (λ dealer. d.offers c round dealer.public (s.unsent_of_round round dealer) st) (Goes st)
      (λ dealer e. offers round dealer.public (s.unsent_of_round round dealer) st w q) (λ e. q)) (λ e. q)

  -- as a log is recorded
  pub logs_same : (height : ℕ) (log : SignedDealerLog) (st : Live Dir) (w : World) → SameSecrets w → (epoch : ℕ) → Throughout SameSecrets (b.records_log epoch height log st) w
  logs_same height log st w q epoch =
      along_if SameSecrets w (is_some (recorded_at st.records.logs epoch log.dealer)) (Goes st) (d.appends epoch (carried_log_event log.dealer height log.log) (Goes (b.with_log_at epoch log.dealer height log.log st)))
      (λ e. q) (λ e. (λ cause new tears. on_disk _ cause w new tears q, record { seeds = q.seeds; shares = q.shares }))

  -- AS IT HEARS A PEER

  checked_dealing : (round : Round) (from_peer : ℕ) (public : List ℕ) (private : ℕ) (st : Live Dir) (check : Result (Unit {0}) DealingError) (w : World) → SameSecrets w
      → Throughout SameSecrets (d.checked_dealing c round from_peer public private st check) w
  checked_dealing round from_peer public private st (Err e) w q = (q, record { seeds = q.seeds; shares = q.shares })
  checked_dealing round from_peer public private st (Ok passed) w q =
      let mid : World = does w (Changes (PutDealing round.number from_peer private)) in
      let half : SameSecrets mid = record { seeds = q.seeds; shares = q.shares } in (
        λ cause new tears. half_torn round.number from_peer private cause w new tears q,
        (
          λ cause new tears. on_disk _ cause mid new tears half,
          (record { seeds = q.seeds; shares = q.shares }, (record { seeds = q.seeds; shares = q.shares }, record { seeds = q.seeds; shares = q.shares })),
        ),
      )

  hears_dealing : (round : Round) (from_peer : ℕ) (public : List ℕ) (private : ℕ) (st : Live Dir) (found : Option (List ℕ × ℕ)) (w : World) → SameSecrets w
      → Throughout SameSecrets (d.hears_dealing_in c round from_peer public private st found) w
  hears_dealing round from_peer public private st (Some kept) w q = (q, record { seeds = q.seeds; shares = q.shares })
  hears_dealing round from_peer public private st None w q = checked_dealing round from_peer public private st (c.rules.dealing_of round c.me from_peer public private) w q

  seats_dealing : (round : Round) (from_peer : ℕ) (public : List ℕ) (private : ℕ) (st : Live Dir) (seat : Seat) (w : World) → SameSecrets w
      → Throughout SameSecrets (d.seats_dealing_in c round from_peer public private st seat) w
  seats_dealing round from_peer public private st Plays w q = hears_dealing round from_peer public private st (recorded_at st.records.dealings round.number from_peer) w q
  seats_dealing round from_peer public private st Watches w q = (q, record { seeds = q.seeds; shares = q.shares })

  hears_ack : (round : Round) (dealer : Option Dealer) (from_peer : ℕ) (ack : List ℕ) (st : Live Dir) (w : World) → SameSecrets w → Throughout SameSecrets (d.hears_ack c round dealer from_peer ack st) w
  hears_ack round None from_peer ack st w q = (q, record { seeds = q.seeds; shares = q.shares })
  hears_ack round (Some dealer) from_peer ack st w q = checked_ack round dealer from_peer ack st (c.rules.check_ack_of round c.me dealer.public from_peer ack) w q

  reads : (round : Round) (from_peer : ℕ) (st : Live Dir) (message : Result Channel CodecError) (w : World) → SameSecrets w → Throughout SameSecrets (d.reads c round from_peer st message) w
  reads round from_peer st (Err e) w q = (q, record { seeds = q.seeds; shares = q.shares })
  reads round from_peer st (Ok (ADealing public private)) w q = seats_dealing round from_peer public private st st.participation.seat w q
  reads round from_peer st (Ok (AnAck ack)) w q = hears_ack round st.participation.dealer from_peer ack st w q

  pub hears_same : (from_peer : ℕ) (bytes : List ℕ) (st : Live Dir) (stage : Stage) (w : World) → SameSecrets w → Throughout SameSecrets (d.hears_peer_in c from_peer bytes st stage) w
  hears_same from_peer bytes st Deals w q =
      along_option SameSecrets w st.participation.round (λ round. d.reads c round from_peer st (whole (message_at c.limit bytes))) (Goes st)
      (λ round e. reads round from_peer st (whole (message_at c.limit bytes)) w q) (λ e. q)
  hears_same from_peer bytes st Includes w q = q
  hears_same from_peer bytes st Follows w q = q
  hears_same from_peer bytes st Ends w q = q
