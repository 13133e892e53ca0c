-- What an event of a request, or of the own log, leaves of a world: it touches no device.
use Rattle.std.specs.Prelude.{◌≡◌, ◌++◌, List, None}
use Rattle.std.specs.List.{AllByRecursion}
use Rattle.dkg_infos.specs.declared.entry.Entry.{Entry}
use Rattle.dkg_infos.specs.declared.entry.Entry.TheVariants.{Answer, Log}
use Rattle.dkg_store.specs.Acts.{World, Ended}
use Rattle.dkg_core.specs.Courses.{EndsSo}
use Rattle.dkg_core.specs.Fixed.{Fixed}
use Rattle.dkg_core.specs.Live.{Live, NodeStop, Mail, Mailed, Reshare, with_inclusion}
use Rattle.dkg_core.specs.Node.{node_step}
use Rattle.dkg_core.specs.Laws.{IsOther}
use Rattle.dkg_core.specs.Endings.{CameTo}

-- what a request is answered
abbrev pub IsAskedEntry : Entry → Type 0
IsAskedEntry (Answer request answer) = Unit {0}
IsAskedEntry (Log request log) = Unit {0}
IsAskedEntry line = ⊥

-- The devices are what they were, such lines alone were said, and where it went to its end, only what the life has of requests has changed.
pub record LeavesIdle {Dir : Type 0} (st : Live Dir) (ended : Ended NodeStop (Live Dir)) (w new : World) : Type 0 where
  pub held : new.held ≡ w.held
  pub fuse : new.fuse ≡ w.fuse
  pub lines : List Entry
  pub out : new.out ≡ w.out ++ lines
  pub says : AllByRecursion IsAskedEntry lines
  pub goes : CameTo (λ stop. Unit {0}) (λ end. end ≡ with_inclusion end.inclusion st) ended

-- MAIL BUT A PEER'S is idle, of whatever life and form, where the orchestrator waits for nothing.
abbrev pub MailsAreIdle : Type 0 → Type 0
MailsAreIdle Dir = (c : Fixed Dir) (mail : Mail Dir) (st : Live Dir) (ended : Ended NodeStop (Live Dir)) (w new : World) → IsOther (Mailed mail) → st.orchestrator.waiting ≡ None
    → EndsSo (node_step c (Reshare mail) st) ended w new → LeavesIdle st ended w new
