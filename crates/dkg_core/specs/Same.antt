-- Whether two values are one, part by part.
use Rattle.std.specs.Prelude.{Bool, true, false, ◌&&◌, ◌==◌, List, [], ◌∷◌, Option, Some, None}
use Rattle.std.specs.Str.{bytes_eq}
use Rattle.dkg_ceremony.specs.declared.dealer_log.DealerLog.{DealerLog}
use Rattle.dkg_ceremony.specs.declared.log_entry.LogEntry.{LogEntry}
use Rattle.dkg_ceremony.specs.declared.log_entry.LogEntry.TheVariants.{Ack, Reveal}
use Rattle.dkg_ceremony.specs.declared.mode.Mode.{Mode}
use Rattle.dkg_ceremony.specs.declared.mode.Mode.TheVariants.{NonZeroCounter, RootsOfUnity}
use Rattle.dkg_ceremony.specs.declared.mode.Reveal.{Reveal as Revealing}
use Rattle.dkg_ceremony.specs.declared.mode.Reveal.TheVariants.{V1}
use Rattle.dkg_ceremony.specs.declared.output.Output.{Output}
use Rattle.dkg_ceremony.specs.declared.round.RoundParts.{RoundParts as Round}
use Rattle.dkg_ceremony.specs.declared.sharing.Sharing.{Sharing}
use Rattle.dkg_ceremony.specs.Outcomes.{LogMap}
use Rattle.dkg_infos.specs.declared.info.EpochInfo.{EpochInfo}
use Rattle.dkg_infos.specs.declared.outcome.EpochOutcome.{EpochOutcome}
use Rattle.dkg_infos.specs.declared.outcome.EpochOutcome.TheVariants.{Success, Failure}
use Rattle.dkg_core.specs.Fixed.{Directories}

-- LOGS

abbrev pub same_entry : LogEntry → LogEntry → Bool
same_entry (Ack a) (Ack b) = bytes_eq a b
same_entry (Reveal a) (Reveal b) = a == b
same_entry a b = false

abbrev pub same_entries : List LogEntry → List LogEntry → Bool
same_entries [] [] = true
same_entries (a ∷ as') (b ∷ bs) = same_entry a b && same_entries as' bs
same_entries as' bs = false

abbrev pub same_log : DealerLog → DealerLog → Bool
same_log a b = bytes_eq a.public b.public && same_entries a.entries b.entries

abbrev pub same_logs : LogMap → LogMap → Bool
same_logs [] [] = true
same_logs (a ∷ as') (b ∷ bs) = (a.0 == b.0) && same_log a.1 b.1 && same_logs as' bs
same_logs as' bs = false

-- OUTPUTS AND ROUNDS

abbrev pub same_mode : Mode → Mode → Bool
same_mode NonZeroCounter NonZeroCounter = true
same_mode RootsOfUnity RootsOfUnity = true
same_mode a b = false

abbrev pub same_revealing : Revealing → Revealing → Bool
same_revealing V1 V1 = true

abbrev pub same_sharing : Sharing → Sharing → Bool
same_sharing a b = same_mode a.mode b.mode && (a.total == b.total) && bytes_eq a.poly b.poly

abbrev pub same_output : Output → Output → Bool
same_output a b =
    bytes_eq a.summary b.summary && same_sharing a.sharing b.sharing && bytes_eq a.dealers b.dealers && bytes_eq a.players b.players && bytes_eq a.revealed b.revealed

abbrev pub same_previous : Option Output → Option Output → Bool
same_previous None None = true
same_previous (Some a) (Some b) = same_output a b
same_previous a b = false

abbrev pub same_round : Round → Round → Bool
same_round a b =
    bytes_eq a.namespace b.namespace && (a.number == b.number) && same_previous a.previous b.previous && same_mode a.mode b.mode && same_revealing a.reveal b.reveal
    && bytes_eq a.dealers b.dealers && bytes_eq a.players b.players

-- INFOS

abbrev pub same_outcome : EpochOutcome → EpochOutcome → Bool
same_outcome Success Success = true
same_outcome Failure Failure = true
same_outcome a b = false

-- Directories are one where their spellings are.
abbrev pub same_info : {Dir : Type 0} → Directories Dir → EpochInfo Dir → EpochInfo Dir → Bool
same_info directories a b =
    same_outcome a.outcome b.outcome && (a.epoch == b.epoch) && same_output a.output b.output && bytes_eq a.players b.players && bytes_eq a.next_players b.next_players
    && bytes_eq (directories.spelling a.directory) (directories.spelling b.directory)
