-- How the entries of a whole run end: without a fault, or in the one that ended it.
use Rattle.std.proofs.Common.{List, inl, inr}
use Rattle.dkg_infos.specs.declared.entry.Entry.{Entry}
use Rattle.dkg_infos.specs.declared.fault.Fault.{Fault}
use Rattle.dkg_text.specs.declared.script.Script.{Script}
use Rattle.dkg_script.specs.Order.{IsInOrder}
use Rattle.dkg_script.specs.Promise.{Adds, RunsInOrder}
use Rattle.dkg_lives.proofs.Standing.{Moves, MayTell, IsBetweenOf, TellsFault}
use Rattle.dkg_along.proofs.Runs.{runs_in_order, faulted_in_order}
use Rattle.dkg_lives.proofs.Moving.{moves_then, moves_none}

pub told_in_order : (script : Script) (fault answered : Fault) (old mid new : List Entry) → Moves IsInOrder (IsBetweenOf script 0) (MayTell fault) old mid
    → TellsFault fault answered mid new → Adds old new (RunsInOrder script)
told_in_order script fault answered old mid new a (inl none) = runs_in_order script (MayTell fault) old new
    (moves_then IsInOrder (IsBetweenOf script 0) (MayTell fault) (MayTell fault) old mid new a
    (moves_none IsInOrder (MayTell fault) (MayTell fault) mid new none.1 (λ s p is. is)))
told_in_order script fault answered old mid new a (inr told) = faulted_in_order script fault old mid new told.1 a told.2
