-- What the entries of a whole run are, over all that the devices may have held.
use Rattle.std.proofs.Common.{◌+◌, List, [], ◌∷◌, ◌++◌, ◌≡◌, ◌≢◌, inl, inr, refl, ap, ◌∙◌, append_assoc, length}
use Rattle.std.specs.Prelude.{fold}
use Rattle.dkg_journal.specs.Names.{Files}
use Rattle.dkg_secrets.specs.Secrets.{Secrets}
use Rattle.dkg_infos.specs.declared.entry.Entry.{Entry}
use Rattle.dkg_infos.specs.declared.entry.Entry.TheVariants as entry
use Rattle.dkg_infos.specs.declared.fault.Fault.{Fault}
use Rattle.dkg_infos.specs.declared.fault.Fault.TheVariants.{NoMemory}
use Rattle.dkg_text.specs.declared.script.Script.{Script}
use Rattle.dkg_script.specs.Order.{InOrder, IsInOrder}
use Rattle.dkg_script.specs.Progress.{Progress, read, at_start, progress}
use Rattle.dkg_script.specs.Promise.{Adds, RunsInOrder, RunsAll}
use Rattle.dkg_script.specs.Setting.{Setting, setting_of}
use Rattle.dkg_script.proofs.EachEntry.{EachAfter, at_each}
use Rattle.dkg_lives.proofs.Standing.{Each, Moves, MayTell, IsBetweenOf}
use Rattle.dkg_lives.proofs.Moving.{each_of_both}

-- THE WHOLE RUN

pub each_after : (s : Setting) (E : Progress → Entry → Type 0) (added : List Entry) (p : Progress) → Each s E p added → EachAfter s E p added
each_after s E [] p each = tt
each_after s E (one ∷ added) p each = (each.0, each_after s E added (read s p one) each.1)

from_start : (s : Setting) (added : List Entry) → Each s (IsInOrder s) (at_start s) added → InOrder s added
unfolding InOrder
from_start s added each = at_each s (IsInOrder s) added (each_after s (IsInOrder s) added (at_start s) each)

pub starts : (script : Script) (files : Files) (secrets : Secrets) → IsBetweenOf script 0 (setting_of script files secrets) (at_start (setting_of script files secrets))
starts script files secrets = record { of_script = refl; between = record { lives = refl; step = refl; nothing = refl } }

pub runs_in_order : (script : Script) (Q : Setting → Progress → Type 0) (old new : List Entry) → Moves IsInOrder (IsBetweenOf script 0) Q old new → Adds old new (RunsInOrder script)
runs_in_order script Q old new a =
    (a.added, a.parts, λ files secrets. let s = setting_of script files secrets in from_start s a.added (a.each s (at_start s) (starts script files secrets)))

may_tell : (fault : Fault) (s : Setting) (p : Progress) → fault ≢ NoMemory → MayTell fault s p → IsInOrder s p (entry.Fault fault)
may_tell fault s p not (inl is) = absurd (not is)
may_tell fault s p not (inr may) = may

pub faulted_in_order : (script : Script) (fault : Fault) (old mid new : List Entry) → fault ≢ NoMemory → Moves IsInOrder (IsBetweenOf script 0) (MayTell fault) old mid
    → new ≡ mid ++ entry.Fault fault ∷ [] → Adds old new (RunsInOrder script)
faulted_in_order script fault old mid new not a is = (
  a.added ++ entry.Fault fault ∷ [],
  is ∙ ap (λ xs. xs ++ entry.Fault fault ∷ []) a.parts ∙ append_assoc old a.added (entry.Fault fault ∷ []),
  λ files secrets. let s = setting_of script files secrets in from_start s (a.added ++ entry.Fault fault ∷ [])
      (each_of_both s (IsInOrder s) a.added (entry.Fault fault ∷ []) (at_start s) (a.each s (at_start s) (starts script files secrets))
      (may_tell fault s (fold (read s) (at_start s) a.added) not (a.to s (at_start s) (starts script files secrets)), tt)),
)

pub runs_all : (script : Script) (old new : List Entry) → Moves IsInOrder (IsBetweenOf script 0) (IsBetweenOf script (length script.lives)) old new
    → Adds old new (RunsAll script)
unfolding progress
runs_all script old new a =
    (a.added, a.parts, λ files secrets. let s = setting_of script files secrets in (a.to s (at_start s) (starts script files secrets)).between.lives)
