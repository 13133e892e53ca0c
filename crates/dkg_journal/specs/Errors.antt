-- The errors that a changing call may give.
use Rattle.dkg_journal.specs.declared.call.JournalError.{JournalError}
use Rattle.dkg_journal.specs.declared.call.JournalError.TheVariants.{Disk, Corrupt, TooLong, Cut, NoMemory}

abbrev pub IsOfDevice : JournalError → Type 0
IsOfDevice Disk = Unit {0}
IsOfDevice Cut = Unit {0}
IsOfDevice NoMemory = Unit {0}
IsOfDevice TooLong = ⊥
IsOfDevice (Corrupt name place) = ⊥

-- the errors that reading a file's bytes may give
abbrev pub IsOfReading : JournalError → Type 0
IsOfReading Disk = ⊥
IsOfReading Cut = ⊥
IsOfReading NoMemory = Unit {0}
IsOfReading TooLong = ⊥
IsOfReading (Corrupt name place) = Unit {0}

-- the errors that a reading call of a disk may give
abbrev pub IsOfDisk : JournalError → Type 0
IsOfDisk Disk = Unit {0}
IsOfDisk Cut = ⊥
IsOfDisk NoMemory = Unit {0}
IsOfDisk TooLong = ⊥
IsOfDisk (Corrupt name place) = ⊥
