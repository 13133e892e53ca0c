-- What holds behind a call that made a step over a disk, whichever image a crash leaves of it.
use Rattle.dkg_journal.specs.Names.{Files}
use Rattle.dkg_store.specs.Acts.{Moment, MadeAt, Stands, held_in, went}
use Rattle.dkg_core.specs.Courses.{on_devices}
use Rattle.dkg_core.specs.Fixed.{Fixed}
use Rattle.dkg_core.specs.Live.{Live, Message}
use Rattle.dkg_core.specs.Core.{step}
use Rattle.dkg_core.specs.Agreeing.{AreAgreed, CanRecord}

-- Where memory had what the devices gave back before a step, it has behind one that went to its end, whichever image is left.
abbrev pub StaysAgreed : Type 0 → Type 1
StaysAgreed Dir = (c : Fixed Dir) (st end : Live Dir) (message : Message Dir) (files files_now : Files) (image next : Files → Type 0) (old new : Moment)
    → AreAgreed st.records (held_in files old.secrets) → CanRecord c st message → Stands files image
    → MadeAt (on_devices (step c message st)) (went end) files image files_now next old new → (d : Files) → next d → AreAgreed end.records (held_in d new.secrets)
