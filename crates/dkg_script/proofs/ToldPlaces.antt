-- The place of a text that is no script's is told as it was read.
use Rattle.std.proofs.Common.{ℕ, Bool, List, Err}
use Rattle.dkg_reading.specs.declared.error.ScriptError.{ScriptError}
use Rattle.dkg_reading.specs.declared.error.ScriptError.TheVariants.{Bad, NoMemory}
use Rattle.dkg_reading.specs.Laws.{TellsPlace as PlaceRead}
use Rattle.dkg_script.specs.InForm.{TellsBadPlace, read_refusal}

pub told_as_read : (addressed : Bool) (bytes : List ℕ) (error : ScriptError) → PlaceRead addressed bytes (Err error) → TellsBadPlace addressed bytes (Err (read_refusal error))
told_as_read addressed bytes (Bad place) is = is
told_as_read addressed bytes NoMemory is = tt
