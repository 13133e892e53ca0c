-- What a desk answers for an error of the journal.
use Rattle.dkg_journal.specs.declared.call.JournalError.{JournalError}
use Rattle.dkg_journal.specs.declared.call.JournalError.TheVariants as of_journal
use Rattle.dkg_sign.specs.declared.error.DeskError.{DeskError}
use Rattle.dkg_sign.specs.declared.error.DeskError.TheVariants.{Disk, Corrupt, Cut, NoMemory}

abbrev pub desk_error_of : JournalError → DeskError
desk_error_of of_journal.Disk = Disk
desk_error_of (of_journal.Corrupt name place) = Corrupt place
desk_error_of of_journal.TooLong = Corrupt 0
desk_error_of of_journal.Cut = Cut
desk_error_of of_journal.NoMemory = NoMemory
