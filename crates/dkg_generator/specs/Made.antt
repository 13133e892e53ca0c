-- The script that is made of a number: its configuration, its blocks and its lives.
use Rattle.std.specs.Prelude.{ℕ, zero, suc, ◌+◌, ◌-◌, ◌*◌, ◌==◌, nat_lt, Bool, false, List, [], ◌∷◌, ◌++◌, map, take, Option, Some, None, unwrap_or, if◌then◌else◌}
use Rattle.std.specs.List.{flat_map, range_with_len, slice_get}
use Rattle.std.specs.declared.num.NonZeroU32.{NonZeroU32}
use Rattle.std.specs.declared.num.NonZeroU64.{NonZeroU64}
use Rattle.std.proofs.Math.Nat.{zero-lt-suc}
use Rattle.dkg_values.specs.Rising.{lookup}
use Rattle.dkg_ceremony.specs.declared.mode.Mode.TheVariants.{NonZeroCounter}
use Rattle.dkg_ceremony.specs.declared.signed_log.SignedDealerLog.{SignedDealerLog}
use Rattle.dkg_ceremony.specs.Acks.{ack_of}
use Rattle.dkg_infos.specs.declared.directory.Unit as directory
use Rattle.dkg_infos.specs.declared.info.EpochInfo as info
use Rattle.dkg_types.specs.declared.message.Message.TheVariants.{Dealer, Ack}
use Rattle.dkg_types.specs.declared.payload.Payload.TheVariants.{DealerLog, EpochInfo}
use Rattle.dkg_types.specs.MessageCodes.{message_spelling}
use Rattle.dkg_types.specs.PayloadCodes.{payload_spelling}
use Rattle.dkg_infos.specs.Units.{unit_spelling}
use Rattle.dkg_text.specs.declared.script.Anchor.{Anchor}
use Rattle.dkg_text.specs.declared.script.Anchor.TheVariants.{Processed}
use Rattle.dkg_text.specs.declared.script.BlockLine.{BlockLine}
use Rattle.dkg_text.specs.declared.script.Event.{Event}
use Rattle.dkg_text.specs.declared.script.Event.TheVariants.{Peer, Final, Next, Info, Feed, Work}
use Rattle.dkg_text.specs.declared.script.Life.{Life}
use Rattle.dkg_text.specs.declared.script.PlayerLine.{PlayerLine}
use Rattle.dkg_text.specs.declared.script.Script.{Script}
use Rattle.dkg_text.specs.declared.script.ScriptConfig.{ScriptConfig}
use Rattle.dkg_ceremony.specs.Deals.{fresh_seed}
use Rattle.dkg_generator.specs.Chain.{Halves, dealing_made, epochs, everybody, failed, halves_of, info_made_after, made_info_at, logs_made, this_node, others, round_after}

-- an epoch has 64 blocks

abbrev pub Shown : Type 0
Shown = info.EpochInfo directory.Unit

-- THE CONFIGURATION

abbrev pub sixty_four : NonZeroU64
sixty_four = record { value = 64; ok = zero-lt-suc 63 }

abbrev pub seven : NonZeroU32
seven = record { value = 7; ok = zero-lt-suc 6 }

-- all take part in an epoch
abbrev pub players_of : (epoch : ℕ) → PlayerLine
players_of epoch = record { epoch = epoch; players = everybody }

abbrev pub made_config : ScriptConfig
made_config = record {
  me = this_node;
  blocks_per_epoch = sixty_four;
  limit = seven;
  mode = NonZeroCounter;
  max_mode = record { 0 = 0 };
  namespace = [];
  oneshot = None;
  players = map players_of (range_with_len 2 5);
  addresses = [];
  probe = None;
}

-- THE BLOCKS

abbrev pub info_bytes : Shown → List ℕ
info_bytes shown = payload_spelling unit_spelling (EpochInfo shown)

abbrev pub log_bytes : SignedDealerLog → List ℕ
log_bytes signed = payload_spelling unit_spelling (DealerLog signed)

-- what the first block of an epoch carries: the first of all that epoch's info, each other one nothing
unfoldable pub first_payload : Shown → Option (List ℕ)
first_payload shown = if shown.epoch == 0 then Some (info_bytes shown) else None

unfoldable pub next_of : (number : ℕ) → Shown → List ℕ
next_of number shown = info_bytes (info_made_after number shown)

unfoldable pub log_payloads : (number : ℕ) → Shown → List (List ℕ)
log_payloads number shown = map log_bytes (logs_made number shown)

-- What the block at an index of an epoch carries: the last one the next info, and from the midpoint on each a log, as long as there are any.
abbrev pub carried_at : (first : Option (List ℕ)) (next : List ℕ) (logs : List (List ℕ)) (index : ℕ) → Option (List ℕ)
carried_at first next logs index =
    if index == 0 then first
    else if index == 63 then Some next
    else if nat_lt index 32 then None
    else slice_get logs (index - 32)

-- the number of the block below
abbrev pub parent_of : (height : ℕ) → Option ℕ
parent_of zero = None
parent_of (suc below) = Some below

abbrev pub block_with : (height : ℕ) → Option (List ℕ) → BlockLine
block_with height payload = record { height = height; parent = parent_of height; view = 0; payload = payload }

abbrev pub block_at_index : (first : Option (List ℕ)) (next : List ℕ) (logs : List (List ℕ)) (epoch index : ℕ) → BlockLine
block_at_index first next logs epoch index = block_with (epoch * 64 + index) (carried_at first next logs index)

-- the blocks of an epoch
unfoldable pub blocks_with : (first : Option (List ℕ)) (next : List ℕ) (logs : List (List ℕ)) (epoch : ℕ) → List BlockLine
blocks_with first next logs epoch = map (block_at_index first next logs epoch) (range_with_len 0 64)

abbrev pub blocks_of : (number : ℕ) → Shown → List BlockLine
blocks_of number shown = blocks_with (first_payload shown) (next_of number shown) (log_payloads number shown) shown.epoch

-- WHAT REACHES THE NODE

-- a message and who sends it
abbrev pub MessageFrom : Type 0
MessageFrom = ℕ × List ℕ

abbrev pub peer_of : MessageFrom → Event
peer_of sent = Peer sent.0 sent.1

-- a dealing's message to this node
abbrev pub halves_message : Halves → List ℕ
halves_message halves = message_spelling (Dealer halves.0 (unwrap_or (lookup this_node halves.1) 0))

abbrev pub dealing_from : (number : ℕ) → Shown → (key : ℕ) → MessageFrom
dealing_from number shown key = (key, halves_message (dealing_made number shown key))

-- a player's acknowledgement of what this node deals
abbrev pub ack_from : (number : ℕ) → Shown → (key : ℕ) → MessageFrom
ack_from number shown key = (key, message_spelling (Ack (ack_of key (round_after shown) this_node (halves_of shown this_node (fresh_seed number shown.epoch)).0)))

-- This node is given a share by the first ceremony that ends well, since it holds none before.
abbrev pub holds_share : (number epoch : ℕ) → Bool
holds_share number epoch = nat_lt (if failed number == 0 then 1 else 0) epoch

unfoldable pub dealings_of : (number : ℕ) → Shown → List MessageFrom
dealings_of number shown = map (dealing_from number shown) others

unfoldable pub acks_to : (number : ℕ) → Shown → List MessageFrom
acks_to number shown = if holds_share number shown.epoch then map (ack_from number shown) others else []

-- a request for what the last block has to carry, which is fed the block below it
abbrev pub info_request_events : (epoch : ℕ) → List Event
info_request_events epoch = Info (2 * epoch + 1) ∷ Feed (2 * epoch + 1) (epoch * 64 + 62) ∷ Work ∷ []

-- what follows the delivery of the block at an index of an epoch
abbrev pub after_block : (dealings acks : List MessageFrom) (epoch index : ℕ) → List Event
after_block dealings acks epoch index =
    if index == 1 then map peer_of dealings
    else if index == 2 then map peer_of acks
    else if index == 16 then map peer_of (take 1 dealings)
    else if index == 39 then Next (2 * epoch) (epoch * 64 + 40) ∷ []
    else if index == 62 then info_request_events epoch
    else []

abbrev pub events_at : (dealings acks : List MessageFrom) (epoch index : ℕ) → List Event
events_at dealings acks epoch index = Final (epoch * 64 + index) ∷ after_block dealings acks epoch index

-- what is delivered at so many indexes of an epoch from one on
unfoldable pub events_with : (dealings acks : List MessageFrom) (epoch index count : ℕ) → List Event
events_with dealings acks epoch index count = flat_map (events_at dealings acks epoch) (range_with_len index count)

abbrev pub events_from : (number : ℕ) → Shown → (index count : ℕ) → List Event
events_from number shown index count = events_with (dealings_of number shown) (acks_to number shown) shown.epoch index count

-- THE LIVES

-- A life begins behind the first 16 blocks of an epoch, the first one at the first block of all.
abbrev pub rest_before : (number life : ℕ) → List Event
rest_before number zero = []
rest_before number (suc epoch) = events_from number (made_info_at number epoch) 16 48

-- .. and ends with the first 16 of the next, the last one at the last block of all.
abbrev pub begin_of : (number life : ℕ) → List Event
begin_of number life = if life == epochs then [] else events_from number (made_info_at number life) 0 16

-- the last block that was processed
abbrev pub anchor_of : (life : ℕ) → Option Anchor
anchor_of zero = None
anchor_of (suc epoch) = Some (Processed (epoch * 64 + 15))

-- that block, and the one that carries its epoch's info
abbrev pub held_of : (life : ℕ) → List ℕ
held_of zero = 0 ∷ []
held_of (suc epoch) = (epoch * 64 - 1) ∷ (epoch * 64 + 15) ∷ []

abbrev pub life_with : (number life : ℕ) → List Event → Life
life_with number life events = record { word = number; anchor = anchor_of life; held = held_of life; sync = None; events = events; cut = None; pick = 0 }

unfoldable pub life_of : (number life : ℕ) → Life
life_of number life = life_with number life (rest_before number life ++ begin_of number life)

-- THE SCRIPT

-- the blocks of an epoch
abbrev pub epoch_blocks : (number epoch : ℕ) → List BlockLine
epoch_blocks number epoch = blocks_of number (made_info_at number epoch)

-- The script of a number.
unfoldable pub made_script : (number : ℕ) → Script
made_script number = record {
  addressed = false;
  config = made_config;
  blocks = flat_map (epoch_blocks number) (range_with_len 0 epochs);
  lives = map (life_of number) (range_with_len 0 (epochs + 1));
}
