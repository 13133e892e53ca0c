-- The message of a fault.
use Rattle.std.specs.Prelude.{ℕ, List, [], ◌++◌, codes, decimal}
use Rattle.dkg_values.specs.declared.name.Name.{Name}
use Rattle.dkg_values.specs.declared.name.Name.TheVariants as name
use Rattle.dkg_ceremony.specs.declared.round.RoundError.{RoundError}
use Rattle.dkg_ceremony.specs.declared.round.RoundError.TheVariants as round
use Rattle.dkg_infos.specs.declared.fault.ConfigCause.{ConfigCause}
use Rattle.dkg_infos.specs.declared.fault.ConfigCause.TheVariants as config
use Rattle.dkg_infos.specs.declared.fault.LocalCause.{LocalCause}
use Rattle.dkg_infos.specs.declared.fault.LocalCause.TheVariants as local
use Rattle.dkg_infos.specs.declared.fault.ParticipantsCause.{ParticipantsCause}
use Rattle.dkg_infos.specs.declared.fault.ParticipantsCause.TheVariants as cause
use Rattle.dkg_infos.specs.declared.fault.Fault.{Fault}
use Rattle.dkg_infos.specs.declared.fault.Fault.TheVariants as fault
use Rattle.dkg_infos.specs.declared.participants.ParticipantsError.{ParticipantsError}
use Rattle.dkg_infos.specs.declared.participants.ParticipantsError.TheVariants as refused

-- a number between words
abbrev pub around : (front : List ℕ) → ℕ → (back : List ℕ) → List ℕ
around front number back = front ++ (decimal number ++ back)

-- two numbers, each between words
abbrev pub around_two : (front : List ℕ) → ℕ → (between : List ℕ) → ℕ → (back : List ℕ) → List ℕ
around_two front one between other back = front ++ (decimal one ++ around between other back)

abbrev pub file_words : Name → List ℕ
file_words name.Plan = codes "Plan"
file_words name.Flat = codes "Flat"
file_words (name.Segment section) = around (codes "Segment(") section (codes ")")

abbrev pub config_words : ConfigCause → List ℕ
config_words config.Mode = codes "the sharing mode is not supported"
config_words config.OneBlock = codes "a reshare needs more than one block an epoch"
config_words config.OneShotEmpty = codes "the one-shot set is empty"
config_words config.OneShotWithout = codes "the one-shot set is without this node"

abbrev pub refused_words : ParticipantsError → List ℕ
refused_words refused.EmptyDealers = codes "there are no dealers"
refused_words refused.EmptyPlayers = codes "there are no players"
refused_words (refused.TooManyParticipants actual max) = around_two [] actual (codes " participants of one kind, where ") max (codes " is the limit")
refused_words refused.InitialReshareDealers = codes "the first reshare's dealers are not the previous output's players"
refused_words refused.UnknownReshareDealer = codes "a reshare's dealer is not one of the previous output's players"

abbrev pub round_words : RoundError → List ℕ
round_words round.NoDealers = codes "a round without dealers"
round_words round.NoPlayers = codes "a round without players"
round_words round.TooMany = codes "more participants than points"
round_words round.DealersNotPrevious = codes "a dealer was no player of the previous round"
round_words round.NoMemory = codes "out of memory"

abbrev pub participants_words : ParticipantsCause → List ℕ
participants_words (cause.Refused refused) = refused_words refused
participants_words cause.ProviderEmpty = codes "the provider's set is empty"
participants_words (cause.ProviderAbove actual max) = around_two (codes "the provider's set has ") actual (codes " keys, where ") max (codes " is the limit")
participants_words (cause.Round refused) = codes "no round: " ++ round_words refused

abbrev pub local_words : LocalCause → List ℕ
local_words (local.StoredDealing epoch dealer) = around_two (codes "the stored dealing of dealer ") dealer (codes " for epoch ") epoch (codes " is refused")
local_words (local.ShareRefused epoch) = around (codes "the held share of epoch ") epoch (codes " is refused")
local_words (local.OwnDealing epoch kept dealt) = codes "the player keeps another dealing of this node for epoch " ++ decimal epoch
local_words local.NoShare = codes "the ceremony succeeded and gave this node no share"
local_words local.OutcomeOmitted = codes "the final block omits the outcome"

-- what a fault is, in words
abbrev pub fault_words : Fault → List ℕ
fault_words fault.NoMemory = codes "out of memory"
fault_words fault.Disk = codes "the disk failed"
fault_words fault.Secrets = codes "the secret store failed"
fault_words (fault.Corrupt name place) = around (codes "no record in its grammar at ") place (codes " of ") ++ file_words name
fault_words (fault.InvalidConfig cause) = config_words cause
fault_words (fault.StateSyncEpochs info floor) = around (codes "the material's info is of epoch ") info (codes ", its floor of epoch ") ++ decimal floor
fault_words fault.StateSyncMaterial = codes "the material is refused under the limits"
fault_words (fault.ConflictingBlock height) = codes "another block at the tip's height " ++ decimal height
fault_words (fault.DetachedBlock height) = around (codes "the block at height ") height (codes " has another parent than the tip")
fault_words (fault.SkippedHeight awaited got) = around_two (codes "a block at height ") got (codes ", where height ") awaited (codes " is awaited")
fault_words (fault.OutOfWindow height) = around (codes "the block at height ") height (codes " is outside the awaited window")
fault_words fault.HeightRange = codes "a height or an epoch passes 64 bits"
fault_words (fault.MissingEpochInfo height) = around (codes "the block at height ") height (codes " carries no info")
fault_words (fault.WrongEpoch expected got) = around_two (codes "an info of epoch ") got (codes ", where epoch ") expected (codes " is expected")
fault_words (fault.InvalidParticipants cause) = participants_words cause
fault_words (fault.DirectoryMismatch epoch) = around (codes "the directory of epoch ") epoch (codes " does not match its peers")
fault_words (fault.LocalState cause) = local_words cause
fault_words fault.FinalBlockMissing = codes "the final block is not held"
fault_words fault.FloorBlockMissing = codes "the floor's block is not held"
