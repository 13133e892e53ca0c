-- A ceremony that is held once: its opening.
use Rattle.std.specs.Prelude.{ℕ, Bool, false, List, [], ◌||◌, nat_le, Option, Some, None, is_some, option_and_then, Result, Ok, Err, if◌then◌else◌}
use Rattle.std.specs.Option.{option_map_or}
use Rattle.dkg_values.specs.Rising.{lookup}
use Rattle.dkg_ceremony.specs.Schedule.{last}
use Rattle.dkg_types.specs.Blocks.{Block}
use Rattle.dkg_infos.specs.declared.fault.Fault.{Fault}
use Rattle.dkg_infos.specs.declared.fault.Fault.TheVariants.{FinalBlockMissing, InvalidParticipants, MissingEpochInfo}
use Rattle.dkg_infos.specs.declared.fault.ParticipantsCause.TheVariants.{Refused}
use Rattle.dkg_infos.specs.declared.participants.Participants.{Participants}
use Rattle.dkg_infos.specs.declared.participants.ParticipantsError.{ParticipantsError}
use Rattle.dkg_infos.specs.declared.participants.TrackedPeers.{TrackedPeers}
use Rattle.dkg_types.specs.BlockCodes.{info_of}
use Rattle.dkg_types.specs.PayloadCodes.{its_log}
use Rattle.dkg_infos.specs.Validation.{validation}
use Rattle.dkg_store.specs.Acts.{Changes}
use Rattle.dkg_core.specs.Courses.{Course, Do, CallOutside, Stops, Tracks}
use Rattle.dkg_secrets.specs.declared.secrets.SecretOp.TheVariants.{PutSeed}
use Rattle.dkg_core.specs.Fixed.{Fixed, OneShot}
use Rattle.dkg_core.specs.Sources.{Tip, startup}
use Rattle.dkg_core.specs.Live.{Live}
use Rattle.dkg_core.specs.Setup.{looks, seed_for, anew, draws_up}
use Rattle.dkg_core.specs.Blocks.{ends_once}

abbrev pub participants_in : {Dir : Type 0} → OneShot Dir → Participants
participants_in o = record { dealers = o.participants; players = o.participants; next_players = [] }

abbrev pub peers_in : {Dir : Type 0} → OneShot Dir → TrackedPeers
peers_in o = record { primary = o.participants; secondary = o.participants }

-- The participants are tracked, which a directory without one of them refuses.
abbrev pub is_refused : {Dir : Type 0} → Fixed Dir → OneShot Dir → Bool
is_refused c o = is_some (c.directories.lacking o.directory (peers_in o))

abbrev pub tracks_once : {Dir S : Type 0} → Fixed Dir → OneShot Dir → Course Dir Fault S → Course Dir Fault S
tracks_once c o course = if is_refused c o then course else CallOutside (Tracks 0 (peers_in o) o.directory) course

-- A tip at or above the last height, or a stored share of epoch 0: the ceremony is over.
abbrev pub is_finished : {Dir : Type 0} → Fixed Dir → Option Tip → Option ℕ → Bool
is_finished c tip share = option_map_or (λ t. nat_le (last c.blocks_per_epoch 0) t.height) tip false || is_some share

-- The final block of a finished ceremony has to be held, and has to be no log's.
abbrev pub ends_with : {Dir : Type 0} → Fixed Dir → Live Dir → Option (Block Dir) → Course Dir Fault (Live Dir)
ends_with c st None = Stops FinalBlockMissing
ends_with c st (Some b) = if is_some (option_and_then its_log b.payload) then Stops (MissingEpochInfo b.height) else ends_once c (info_of b.payload) st

-- The seed is put, and then the parts are made.
abbrev pub begins_once : {Dir : Type 0} → Fixed Dir → OneShot Dir → (seed : List ℕ) → Live Dir → Course Dir Fault (Live Dir)
begins_once c o seed st = Do (Changes (PutSeed 0 seed)) (draws_up c (participants_in o) None None seed (anew c st))

abbrev pub goes_once : {Dir : Type 0} → Fixed Dir → OneShot Dir → Option ℕ → (seed : List ℕ) → Live Dir → Course Dir Fault (Live Dir)
goes_once c o share seed st =
    if is_finished c st.tip share then ends_with c st (c.source.block (last c.blocks_per_epoch 0))
    else if is_refused c o then ends_once c None st
    else begins_once c o seed st

abbrev pub valid_once : {Dir : Type 0} → Fixed Dir → OneShot Dir → Live Dir → Result (Unit {0}) ParticipantsError → Course Dir Fault (Live Dir)
valid_once c o st (Err e) = Stops (InvalidParticipants (Refused e))
valid_once c o st (Ok passed) = tracks_once c o (looks c (λ s. goes_once c o (lookup 0 s.shares) (seed_for c 0 (lookup 0 s.seeds)) st))

-- An opening in one-shot mode, behind the store's: the plan is neither read nor changed.
abbrev pub opens_once : {Dir : Type 0} → Fixed Dir → OneShot Dir → Live Dir → Course Dir Fault (Live Dir)
opens_once c o st = valid_once c o (record st { tip = startup c.source.anchor None }) (validation (participants_in o) c.limit None 0)
