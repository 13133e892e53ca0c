-- How a command ended.
use Rattle.std.specs.Prelude.{ℕ}
use Rattle.dkg_outside.specs.declared.status.Status.{Status}
use Rattle.dkg_outside.specs.declared.status.Status.TheVariants as status

-- the number of a status, which is the program's exit status
abbrev pub exit_status_of : Status → ℕ
exit_status_of status.Done = 0
exit_status_of status.Usage = 2
exit_status_of (status.BadScript place) = 3
exit_status_of (status.Fault fault) = 4
exit_status_of status.Device = 5
exit_status_of status.NoMemory = 6
exit_status_of status.ReadFault = 7
exit_status_of status.WriteFault = 8
exit_status_of status.TooLong = 9
exit_status_of status.Unsupported = 10
