-- What a delivered block is to a node that has a position, or none.
use Rattle.std.specs.Prelude.{ℕ, List, ◌+◌, ◌==◌, ◌&&◌, not, nat_le, nat_lt, Option, Some, None, Result, Ok, Err, if◌then◌else◌}
use Rattle.std.specs.Str.{bytes_eq}
use Rattle.dkg_infos.specs.declared.fault.Fault.{Fault}
use Rattle.dkg_infos.specs.declared.fault.Fault.TheVariants.{ConflictingBlock, SkippedHeight, DetachedBlock}
use Rattle.dkg_life.specs.declared.tip.Judged.{Judged}
use Rattle.dkg_life.specs.declared.tip.Judged.TheVariants.{New, Again}
use Rattle.dkg_core.specs.Sources.{Tip}

-- in the order of the relation's `over_tip_in`, whose branches it names
unfoldable pub judged_over : Tip → (height : ℕ) (digest parent : List ℕ) → Result Judged Fault
judged_over t height digest parent =
    if (height == t.height) && not (bytes_eq digest t.digest) then Err (ConflictingBlock height)
    else if nat_lt (t.height + 1) height then Err (SkippedHeight (t.height + 1) height)
    else if (height == t.height + 1) && not (bytes_eq parent t.digest) then Err (DetachedBlock height)
    else if nat_le height t.height then Ok Again
    else Ok New

unfoldable pub judged : Option Tip → (height : ℕ) (digest parent : List ℕ) → Result Judged Fault
judged None height digest parent = Ok New
judged (Some t) height digest parent = judged_over t height digest parent
