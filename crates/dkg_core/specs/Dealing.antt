-- Dealing: peer messages, and this node's own dealing, which each new Early block offers.
use Rattle.std.specs.Prelude.{ℕ, List, [], ◌∷◌, ◌==◌, Option, Some, None, is_some, Result, Ok, Err, if◌then◌else◌}
use Rattle.std.specs.Option.{option_map_or}
use Rattle.std.specs.Str.{bytes_eq}
use Rattle.std.specs.FinMap.{put}
use Rattle.dkg_values.specs.Codec.{whole}
use Rattle.dkg_values.specs.Rising.{lookup, with_pair}
use Rattle.dkg_values.specs.declared.codec.CodecError.{CodecError}
use Rattle.dkg_ceremony.specs.declared.ceremony.AckError.{AckError}
use Rattle.dkg_ceremony.specs.declared.ceremony.AckError.TheVariants.{UnexpectedPlayer, InvalidAck, NoMemory}
use Rattle.dkg_ceremony.specs.declared.ceremony.DealingError.{DealingError}
use Rattle.dkg_ceremony.specs.declared.ceremony.DealingError.TheVariants.{UnexpectedDealer, InvalidCommitmentDegree, MismatchedReshareCommitment, InvalidDealerShare}
use Rattle.dkg_ceremony.specs.declared.round.RoundParts.{RoundParts as Round}
use Rattle.dkg_infos.specs.declared.entry.BlockedWhy.{BlockedWhy}
use Rattle.dkg_infos.specs.declared.entry.BlockedWhy.TheVariants as why
use Rattle.dkg_infos.specs.declared.entry.Entry.TheVariants.{Recorded, Ack, Offer, Blocked}
use Rattle.dkg_infos.specs.declared.fault.Fault.{Fault}
use Rattle.dkg_infos.specs.declared.fault.Fault.TheVariants.{LocalState}
use Rattle.dkg_infos.specs.declared.fault.LocalCause.TheVariants.{OwnDealing}
use Rattle.dkg_types.specs.declared.message.Message.{Message as Channel}
use Rattle.dkg_types.specs.declared.message.Message.TheVariants.{Dealer as ADealing, Ack as AnAck}
use Rattle.dkg_types.specs.MessageCodes.{message_at}
use Rattle.dkg_store.specs.Acts.{OnDisk, Changes}
use Rattle.dkg_journal.specs.Operations.{Appends}
use Rattle.dkg_core.specs.Courses.{Course, Say, Do, Goes, Stops, bind}
use Rattle.dkg_store.specs.Events.{event_spelling}
use Rattle.dkg_secrets.specs.Keys.{key_cmp}
use Rattle.dkg_store.specs.declared.event.Event.{Event}
use Rattle.dkg_store.specs.declared.event.Event.TheVariants as events
use Rattle.dkg_secrets.specs.declared.secrets.SecretOp.TheVariants.{PutDealing}
use Rattle.dkg_core.specs.Fixed.{Fixed}
use Rattle.dkg_core.specs.Live.{Live, Dealer, Seat, Plays, Watches, Stage, Deals, Includes, Follows, Ends, recorded_at, with_participation}
use Rattle.dkg_core.specs.Setup.{unsent_of_round}

abbrev pub blocks_sender : {Dir : Type 0} → (from : ℕ) → BlockedWhy → Live Dir → Course Dir Fault (Live Dir)
blocks_sender from reason st = Say (Blocked from reason) (Goes st)

-- An event is appended, in its epoch's section.
abbrev pub appends : {Dir S : Type 0} → (epoch : ℕ) → Event → Course Dir Fault S → Course Dir Fault S
appends epoch event course = Do (OnDisk (Appends (epoch, event_spelling event))) course

-- THE PLAYER

abbrev pub with_dealing_of : {Dir : Type 0} → (epoch dealer : ℕ) → List ℕ → ℕ → Live Dir → Live Dir
with_dealing_of epoch dealer public private st =
    record st { records = record st.records { dealings = put key_cmp (epoch, dealer) (public, private) st.records.dealings } }

-- A new dealing is kept: the private half, then the record, and then the line.
abbrev pub keeps : {Dir : Type 0} → (epoch dealer : ℕ) → List ℕ → ℕ → Live Dir → Course Dir Fault (Live Dir)
keeps epoch dealer public private st =
    Do (Changes (PutDealing epoch dealer private)) (appends epoch (events.Dealing dealer public)
    (Say (Recorded epoch dealer public private) (Goes (with_dealing_of epoch dealer public private st))))

abbrev pub acknowledges : {Dir : Type 0} → Fixed Dir → Round → (dealer : ℕ) → List ℕ → Live Dir → Course Dir Fault (Live Dir)
acknowledges c round dealer public st = Say (Ack round.number dealer (c.rules.ack_of c.me round dealer public)) (Goes st)

abbrev pub why_dealing : DealingError → BlockedWhy
why_dealing UnexpectedDealer = why.Dealer
why_dealing InvalidCommitmentDegree = why.Degree
why_dealing MismatchedReshareCommitment = why.Commitment
why_dealing InvalidDealerShare = why.Share

-- A new dealing is checked, and kept before it is acknowledged.
abbrev pub checked_dealing : {Dir : Type 0} → Fixed Dir → Round → (from : ℕ) → List ℕ → ℕ → Live Dir → Result (Unit {0}) DealingError → Course Dir Fault (Live Dir)
checked_dealing c round from public private st (Err e) = blocks_sender from (why_dealing e) st
checked_dealing c round from public private st (Ok passed) =
    bind (keeps round.number from public private st) (λ st. acknowledges c round from public st)

-- A dealer whose dealing is recorded gets the acknowledgement of that one, whatever the message says.
abbrev pub hears_dealing_in : {Dir : Type 0} → Fixed Dir → Round → (from : ℕ) → List ℕ → ℕ → Live Dir → Option (List ℕ × ℕ) → Course Dir Fault (Live Dir)
hears_dealing_in c round from public private st (Some kept) = acknowledges c round from kept.0 st
hears_dealing_in c round from public private st None = checked_dealing c round from public private st (c.rules.dealing_of round c.me from public private)

abbrev pub hears_dealing : {Dir : Type 0} → Fixed Dir → Round → (from : ℕ) → List ℕ → ℕ → Live Dir → Course Dir Fault (Live Dir)
hears_dealing c round from public private st = hears_dealing_in c round from public private st (recorded_at st.records.dealings round.number from)

abbrev pub seats_dealing_in : {Dir : Type 0} → Fixed Dir → Round → (from : ℕ) → List ℕ → ℕ → Live Dir → Seat → Course Dir Fault (Live Dir)
seats_dealing_in c round from public private st Plays = hears_dealing c round from public private st
seats_dealing_in c round from public private st Watches = blocks_sender from why.Nonplayer st

-- THE DEALER

-- An acknowledgement counts in this life.
abbrev pub counts : {Dir : Type 0} → Dealer → (player : ℕ) → List ℕ → Live Dir → Live Dir
counts d player ack st = with_participation (record st.participation { dealer = Some (record d { acks = with_pair (player, ack) d.acks }) }) st

abbrev pub with_ack : {Dir : Type 0} → (epoch player : ℕ) → List ℕ → Live Dir → Live Dir
with_ack epoch player ack st = record st { records = record st.records { acks = put key_cmp (epoch, player) ack st.records.acks } }

-- A valid acknowledgement is recorded where its player's is not, and counts where it didn't.
abbrev pub takes_ack : {Dir : Type 0} → (epoch : ℕ) → Dealer → (player : ℕ) → List ℕ → Live Dir → Course Dir Fault (Live Dir)
takes_ack epoch d player ack st =
    if is_some (lookup player d.acks) then Goes st
    else if is_some (recorded_at st.records.acks epoch player) then Goes (counts d player ack st)
    else appends epoch (events.Ack player ack) (Goes (counts d player ack (with_ack epoch player ack st)))

abbrev pub why_ack : AckError → BlockedWhy
why_ack UnexpectedPlayer = why.Player
why_ack InvalidAck = why.Ack
why_ack NoMemory = why.Ack

abbrev pub checked_ack : {Dir : Type 0} → Round → Dealer → (from : ℕ) → List ℕ → Live Dir → Result (Unit {0}) AckError → Course Dir Fault (Live Dir)
checked_ack round d from ack st (Err e) = blocks_sender from (why_ack e) st
checked_ack round d from ack st (Ok passed) = takes_ack round.number d from ack st

abbrev pub hears_ack : {Dir : Type 0} → Fixed Dir → Round → Option Dealer → (from : ℕ) → List ℕ → Live Dir → Course Dir Fault (Live Dir)
hears_ack c round None from ack st = blocks_sender from why.Nondealer st
hears_ack c round (Some d) from ack st = checked_ack round d from ack st (c.rules.check_ack_of round c.me d.public from ack)

-- PEER MESSAGES

-- A dealing goes to the player, and an acknowledgement to the dealer; without one the sender is blocked.
abbrev pub reads : {Dir : Type 0} → Fixed Dir → Round → (from : ℕ) → Live Dir → Result Channel CodecError → Course Dir Fault (Live Dir)
reads c round from st (Err e) = blocks_sender from why.Decode st
reads c round from st (Ok (ADealing public private)) = seats_dealing_in c round from public private st st.participation.seat
reads c round from st (Ok (AnAck ack)) = hears_ack c round st.participation.dealer from ack st

-- the round of an epoch that this node takes part in
abbrev pub with_round : {Dir : Type 0} → Live Dir → (Round → Course Dir Fault (Live Dir)) → Course Dir Fault (Live Dir)
with_round st f = option_map_or f st.participation.round (Goes st)

-- Messages are read while dealing alone.
abbrev pub hears_peer_in : {Dir : Type 0} → Fixed Dir → (from : ℕ) → List ℕ → Live Dir → Stage → Course Dir Fault (Live Dir)
hears_peer_in c from bytes st Deals = with_round st (λ round. reads c round from st (whole (message_at c.limit bytes)))
hears_peer_in c from bytes st Includes = Goes st
hears_peer_in c from bytes st Follows = Goes st
hears_peer_in c from bytes st Ends = Goes st

abbrev pub hears_peer : {Dir : Type 0} → Fixed Dir → (from : ℕ) → List ℕ → Live Dir → Course Dir Fault (Live Dir)
hears_peer c from bytes st = hears_peer_in c from bytes st st.participation.stage

-- OFFERS

-- Its own acknowledgement goes to its own dealer.
abbrev pub own_ack : {Dir : Type 0} → Fixed Dir → Round → List ℕ → Live Dir → Course Dir Fault (Live Dir)
own_ack c round public st =
    option_map_or (λ d. checked_ack round d c.me (c.rules.ack_of c.me round c.me public) st (c.rules.check_ack_of round c.me d.public c.me (c.rules.ack_of c.me round c.me public)))
    st.participation.dealer (Goes st)

-- Its own dealing goes through its own player. Another one that is kept is a fault.
abbrev pub deals_to_itself_in : {Dir : Type 0} → Fixed Dir → Round → List ℕ → ℕ → Live Dir → Option (List ℕ × ℕ) → Course Dir Fault (Live Dir)
deals_to_itself_in c round public private st (Some kept) =
    if bytes_eq kept.0 public then own_ack c round public st else Stops (LocalState (OwnDealing round.number kept.0 public))
deals_to_itself_in c round public private st None = bind (keeps round.number c.me public private st) (λ st. own_ack c round public st)

abbrev pub deals_to_itself : {Dir : Type 0} → Fixed Dir → Round → List ℕ → ℕ → Live Dir → Course Dir Fault (Live Dir)
deals_to_itself c round public private st = deals_to_itself_in c round public private st (recorded_at st.records.dealings round.number c.me)

-- It is passed over where this node has no player.
abbrev pub offers_to_itself_in : {Dir : Type 0} → Fixed Dir → Round → List ℕ → ℕ → Live Dir → Seat → Course Dir Fault (Live Dir)
offers_to_itself_in c round public private st Plays = deals_to_itself c round public private st
offers_to_itself_in c round public private st Watches = Goes st

abbrev pub offers_to_itself : {Dir : Type 0} → Fixed Dir → Round → List ℕ → ℕ → Live Dir → Course Dir Fault (Live Dir)
offers_to_itself c round public private st = offers_to_itself_in c round public private st st.participation.seat

-- The dealings of these players are offered, in their order.
abbrev pub offers : {Dir : Type 0} → Fixed Dir → Round → List ℕ → List (ℕ × ℕ) → Live Dir → Course Dir Fault (Live Dir)
offers c round public [] st = Goes st
offers c round public (p ∷ ps) st =
    if p.0 == c.me then bind (offers_to_itself c round public p.1 st) (λ st. offers c round public ps st)
    else Say (Offer round.number p.0 public p.1) (offers c round public ps st)

-- A dealer offers whatever isn't acknowledged.
abbrev pub deals : {Dir : Type 0} → Fixed Dir → Live Dir → Course Dir Fault (Live Dir)
deals c st = with_round st (λ round. option_map_or (λ d. offers c round d.public (unsent_of_round round d) st) st.participation.dealer (Goes st))
