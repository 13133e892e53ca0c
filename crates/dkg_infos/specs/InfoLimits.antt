-- The limits that an info and participants keep to, and that what keeps to them can be read again.
--
-- A type keeps all that its spelling asks but the limits and the match of a directory.
use Rattle.std.proofs.Common.{◌≡◌, ℕ, ◌^◌, ◌<◌, ◌≤◌, Bool, true, List, length}
use Rattle.std.specs.Prelude.{IsTrue}
use Rattle.dkg_values.specs.Lists.{SetFits}
use Rattle.dkg_ceremony.specs.declared.output.Output.{Output}
use Rattle.dkg_ceremony.specs.Modes.{supports_of}
use Rattle.dkg_ceremony.specs.Outputs.{OutputFits}
use Rattle.dkg_infos.specs.declared.info.EpochInfo.{EpochInfo}
use Rattle.dkg_infos.specs.declared.participants.Participants.{Participants}
use Rattle.dkg_infos.specs.InfoCodes.{InfoFits, has_peers, peers_of}
use Rattle.dkg_infos.specs.ParticipantsCodes.{ParticipantsFit}

-- no set has more keys
pub record ParticipantsWithin (most : ℕ) (p : Participants) : Type 0 where
  pub dealers : length p.dealers ≤ most
  pub players : length p.players ≤ most
  pub next_players : length p.next_players ≤ most

pub participants_fit : (most : ℕ) (p : Participants) → SetFits most p.dealers → SetFits most p.players → SetFits most p.next_players → ParticipantsFit most p
participants_fit most p dealers players next_players = record { one = dealers; other = record { one = players; other = next_players } }

-- a mode that the version has, and no more dealers and players
pub record OutputWithin (most version : ℕ) (o : Output) : Type 0 where
  pub mode : IsTrue (supports_of version o.sharing.mode)
  pub dealers : length o.dealers ≤ most
  pub players : length o.players ≤ most

-- .. of the output, no more players and next players, and a directory of just the peers
pub record InfoWithin {Dir : Type 0} (matches : Dir → List ℕ → Bool) (most version : ℕ) (i : EpochInfo Dir) : Type 0 where
  pub output : OutputWithin most version i.output
  pub players : length i.players ≤ most
  pub next_players : length i.next_players ≤ most
  pub peers : has_peers matches i ≡ true

pub info_fits : {Dir : Type 0} (fits : List ℕ → Dir → Type 0) (matches : Dir → List ℕ → Bool) (most version : ℕ) (i : EpochInfo Dir) → i.epoch < 2 ^ 64 → OutputFits most version i.output → SetFits most i.players → SetFits most i.next_players
    → fits (peers_of i.output.players i.players i.next_players) i.directory → has_peers matches i ≡ true → InfoFits fits matches most version i
info_fits fits matches most version i epoch output players next_players directory peers = record {
  fit = record { one = record { one = tt; other = record { one = epoch; other = record { one = output; other = record { one = players; other = next_players } } } }; other = directory };
  passes = peers;
}
