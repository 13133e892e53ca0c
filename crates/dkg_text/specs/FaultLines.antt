-- The line of a fault: its number, then its fields, a cause's number first among them.
use Rattle.std.specs.Prelude.{ℕ, List, [], ◌++◌, codes}
use Rattle.dkg_values.specs.declared.name.Name.{Name}
use Rattle.dkg_values.specs.declared.name.Name.TheVariants as name
use Rattle.dkg_ceremony.specs.declared.round.RoundError.{RoundError}
use Rattle.dkg_ceremony.specs.declared.round.RoundError.TheVariants as round
use Rattle.dkg_infos.specs.declared.fault.ConfigCause.{ConfigCause}
use Rattle.dkg_infos.specs.declared.fault.ConfigCause.TheVariants as config
use Rattle.dkg_infos.specs.declared.fault.LocalCause.{LocalCause}
use Rattle.dkg_infos.specs.declared.fault.LocalCause.TheVariants as local
use Rattle.dkg_infos.specs.declared.fault.ParticipantsCause.{ParticipantsCause}
use Rattle.dkg_infos.specs.declared.fault.ParticipantsCause.TheVariants as cause
use Rattle.dkg_infos.specs.declared.fault.Fault.{Fault}
use Rattle.dkg_infos.specs.declared.fault.Fault.TheVariants as fault
use Rattle.dkg_infos.specs.declared.participants.ParticipantsError.{ParticipantsError}
use Rattle.dkg_infos.specs.declared.participants.ParticipantsError.TheVariants as refused
use Rattle.dkg_infos.specs.Faults.{fault_number}
use Rattle.dkg_values.specs.Lists.{public_spelling}
use Rattle.dkg_text.specs.Fields.{bytes_field, number_field, word_field}

-- where a file is not in its grammar
abbrev pub place_fields : Name → ℕ → List ℕ
place_fields name.Plan place = word_field (codes "plan") ++ number_field place
place_fields name.Flat place = word_field (codes "flat") ++ number_field place
place_fields (name.Segment section) place = word_field (codes "segment") ++ number_field section ++ number_field place

abbrev pub config_number_of : ConfigCause → ℕ
config_number_of config.Mode = 1
config_number_of config.OneBlock = 2
config_number_of config.OneShotEmpty = 3
config_number_of config.OneShotWithout = 4

abbrev pub refused_fields : ParticipantsError → List ℕ
refused_fields refused.EmptyDealers = number_field 1
refused_fields refused.EmptyPlayers = number_field 2
refused_fields (refused.TooManyParticipants actual max) = number_field 3 ++ number_field actual ++ number_field max
refused_fields refused.InitialReshareDealers = number_field 4
refused_fields refused.UnknownReshareDealer = number_field 5

abbrev pub round_number_of : RoundError → ℕ
round_number_of round.NoDealers = 1
round_number_of round.NoPlayers = 2
round_number_of round.TooMany = 3
round_number_of round.DealersNotPrevious = 4
round_number_of round.NoMemory = 5

abbrev pub participants_fields : ParticipantsCause → List ℕ
participants_fields (cause.Refused refused) = refused_fields refused
participants_fields cause.ProviderEmpty = number_field 6
participants_fields (cause.ProviderAbove actual max) = number_field 7 ++ number_field actual ++ number_field max
participants_fields (cause.Round refused) = number_field 8 ++ number_field (round_number_of refused)

abbrev pub local_fields : LocalCause → List ℕ
local_fields (local.StoredDealing epoch dealer) = number_field 1 ++ number_field epoch ++ number_field dealer
local_fields (local.ShareRefused epoch) = number_field 2 ++ number_field epoch
local_fields (local.OwnDealing epoch kept dealt) =
    number_field 3 ++ number_field epoch ++ bytes_field (public_spelling kept) ++ bytes_field (public_spelling dealt)
local_fields local.NoShare = number_field 4
local_fields local.OutcomeOmitted = number_field 5

abbrev pub fault_fields : Fault → List ℕ
fault_fields (fault.Corrupt name place) = place_fields name place
fault_fields (fault.InvalidConfig cause) = number_field (config_number_of cause)
fault_fields (fault.StateSyncEpochs info floor) = number_field info ++ number_field floor
fault_fields (fault.ConflictingBlock height) = number_field height
fault_fields (fault.DetachedBlock height) = number_field height
fault_fields (fault.SkippedHeight awaited got) = number_field awaited ++ number_field got
fault_fields (fault.OutOfWindow height) = number_field height
fault_fields (fault.MissingEpochInfo height) = number_field height
fault_fields (fault.WrongEpoch expected got) = number_field expected ++ number_field got
fault_fields (fault.InvalidParticipants cause) = participants_fields cause
fault_fields (fault.DirectoryMismatch epoch) = number_field epoch
fault_fields (fault.LocalState cause) = local_fields cause
fault_fields _ = []

abbrev pub fault_line : Fault → List ℕ
fault_line fault = codes "fault" ++ number_field (fault_number fault) ++ fault_fields fault
