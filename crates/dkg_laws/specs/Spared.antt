-- What a node's opening leaves on the devices as it was, in the form of epochs and of whatever epoch.
use Rattle.std.specs.Prelude.{◌≡◌, ◌≤◌, ℕ}
use Rattle.std.specs.FinMap.{get}
use Rattle.dkg_store.specs.Acts.{World, Ended, notes, plan}
use Rattle.dkg_store.specs.Noted.{acks_in, logs_in}
use Rattle.dkg_core.specs.Courses.{EndsSo}
use Rattle.dkg_core.specs.Fixed.{Fixed}
use Rattle.dkg_core.specs.Live.{Live, NodeStop}
use Rattle.dkg_core.specs.Node.{node_opening}
use Rattle.dkg_core.specs.Laws.{StartsWithin}
use Rattle.dkg_core.specs.Forms.{IsForm}

-- THE PLAN is as it was, wherever an opening of the form ends.
abbrev pub NodeOpeningsKeepPlans : Type 0 → Type 0
NodeOpeningsKeepPlans Dir = (c : Fixed Dir) (ended : Ended NodeStop (Live Dir)) (w new : World) → IsForm c → EndsSo (node_opening c) ended w new → plan new.held ≡ plan w.held

-- LOGS AND ACKNOWLEDGEMENTS of the epoch that any opening starts in, of the one before, and of later ones are as they were, wherever it ends.
abbrev pub NodeOpeningsKeepNotes : Type 0 → Type 0
NodeOpeningsKeepNotes Dir = (c : Fixed Dir) (ended : Ended NodeStop (Live Dir)) (most : ℕ) (w new : World) → StartsWithin c most → EndsSo (node_opening c) ended w new
    → (key : ℕ × ℕ) → most ≤ key.0
    → (get (logs_in (notes new.held)) key ≡ get (logs_in (notes w.held)) key) × (get (acks_in (notes new.held)) key ≡ get (acks_in (notes w.held)) key)
