-- The numbers of faults.
use Rattle.std.specs.Prelude.{ℕ}
use Rattle.dkg_infos.specs.declared.fault.Fault.{Fault}
use Rattle.dkg_infos.specs.declared.fault.Fault.TheVariants as faults

abbrev pub fault_number : Fault → ℕ
fault_number faults.NoMemory = 1
fault_number faults.Disk = 2
fault_number faults.Secrets = 3
fault_number (faults.Corrupt name place) = 4
fault_number (faults.InvalidConfig cause) = 5
fault_number (faults.StateSyncEpochs info floor) = 6
fault_number faults.StateSyncMaterial = 7
fault_number (faults.ConflictingBlock height) = 8
fault_number (faults.DetachedBlock height) = 9
fault_number (faults.SkippedHeight awaited got) = 10
fault_number (faults.OutOfWindow height) = 11
fault_number faults.HeightRange = 12
fault_number (faults.MissingEpochInfo height) = 13
fault_number (faults.WrongEpoch expected got) = 14
fault_number (faults.InvalidParticipants cause) = 15
fault_number (faults.DirectoryMismatch epoch) = 16
fault_number (faults.LocalState cause) = 17
fault_number faults.FinalBlockMissing = 18
fault_number faults.FloorBlockMissing = 19
