-- Calls that put or take away whole files, one behind the other.
use Rattle.std.specs.Prelude.{◌≡◌, ◌⊎◌, List, [], ◌∷◌}
use Rattle.std.specs.List.{AllByRecursion}
use Rattle.dkg_journal.specs.Names.{Files}
use Rattle.dkg_journal.specs.Disk.{files_after}
use Rattle.dkg_journal.specs.declared.disk.Op.{Op}
use Rattle.dkg_journal.specs.declared.disk.Op.TheVariants.{WriteAt, Sync, Barrier, Install, Remove}

-- the call puts or takes away a whole file
abbrev pub IsOfWhole : Op → Type 0
IsOfWhole (Install name bytes) = Unit {0}
IsOfWhole (Remove name) = Unit {0}
IsOfWhole (WriteAt name place bytes) = ⊥
IsOfWhole (Sync name) = ⊥
IsOfWhole Barrier = ⊥

abbrev pub AreOfWhole : List Op → Type 0
AreOfWhole ops = AllByRecursion IsOfWhole ops

-- what a read gives after these calls
abbrev pub after_all : List Op → Files → Files
after_all [] f = f
after_all (op ∷ ops) f = after_all ops (files_after op f)

-- the files after all of these calls
abbrev pub Becomes : List Op → Files → Files → Type 0
Becomes ops old new = new ≡ after_all ops old

-- .. after the first of them, or after none
abbrev pub Amid : List Op → Files → Files → Type 0
Amid [] old new = new ≡ old
Amid (op ∷ ops) old new = (new ≡ old) ⊎ Amid ops (files_after op old) new
