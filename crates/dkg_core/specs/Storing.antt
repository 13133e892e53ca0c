-- Seeds and shares that are stored stay what they are, wherever an opening or a step ends.
use Rattle.std.specs.Prelude.{ℕ, List, ◌≤◌, ◌≡◌, Some}
use Rattle.std.specs.FinMap.{get}
use Rattle.dkg_store.specs.Acts.{Held, World, Ended}
use Rattle.dkg_core.specs.Courses.{Throughout, EndsSo}
use Rattle.dkg_core.specs.Seen.{Seen, seen_in}
use Rattle.dkg_core.specs.Fixed.{Fixed}
use Rattle.dkg_core.specs.Live.{Live, NodeStop, Includes, Message, Mailed, Finalized}
use Rattle.dkg_core.specs.Core.{opening, step}
use Rattle.dkg_core.specs.Node.{node_opening, node_step}
use Rattle.dkg_core.specs.Behind.{event_of}
use Rattle.dkg_core.specs.Laws.{StartsWithin, reach_of}

-- A read gives the shares and the seeds that the devices hold, whatever it says of records and the plan.
pub record ReadsSecrets (seen : Held → Seen) : Type 0 where
  pub shares : (h : Held) → (seen h).shares ≡ (seen_in h).shares
  pub seeds : (h : Held) → (seen h).seeds ≡ (seen_in h).seeds

-- From an epoch on: each seed that these devices hold is held.
abbrev pub KeepsSeeds : (min : ℕ) → Held → World → Type 0
KeepsSeeds min h w = (epoch : ℕ) (seed : List ℕ) → min ≤ epoch → get h.secrets.seeds epoch ≡ Some seed → get w.held.secrets.seeds epoch ≡ Some seed

-- .. and each share
abbrev pub KeepsShares : (min : ℕ) → Held → World → Type 0
KeepsShares min h w = (epoch share : ℕ) → min ≤ epoch → get h.secrets.shares epoch ≡ Some share → get w.held.secrets.shares epoch ≡ Some share

-- Whatever is committed, its share is the one that is recovered: it takes no block while including, whose last one commits the share that it makes.
abbrev pub CommitsRecovered : {Dir : Type 0} → Live Dir → Message Dir → Type 0
CommitsRecovered st (Finalized b) = st.participation.stage ≡ Includes → ⊥
CommitsRecovered st (Mailed mail) = Unit {0}

-- AN OPENING keeps the seeds, of the epoch that it starts in and of the one before on, at every exit,
abbrev pub OpeningsKeepSeeds : Type 0 → Type 0
OpeningsKeepSeeds Dir = (c : Fixed Dir) (most : ℕ) (w : World) → ReadsSecrets c.seen → StartsWithin c most → Throughout (KeepsSeeds most w.held) (opening c) w

-- .. and the shares.
abbrev pub OpeningsKeepShares : Type 0 → Type 0
OpeningsKeepShares Dir = (c : Fixed Dir) (most : ℕ) (w : World) → ReadsSecrets c.seen → StartsWithin c most → Throughout (KeepsShares most w.held) (opening c) w

-- ANY STEP keeps the seeds, of the epochs that it prunes nothing of,
abbrev pub StepsKeepSeeds : Type 0 → Type 0
StepsKeepSeeds Dir = (c : Fixed Dir) (st : Live Dir) (message : Message Dir) (most : ℕ) (w : World) → ReadsSecrets c.seen → reach_of c message ≤ most
    → Throughout (KeepsSeeds most w.held) (step c message st) w

-- .. and the shares, where it commits what is recovered.
abbrev pub StepsKeepShares : Type 0 → Type 0
StepsKeepShares Dir = (c : Fixed Dir) (st : Live Dir) (message : Message Dir) (most : ℕ) (w : World) → ReadsSecrets c.seen → reach_of c message ≤ most → CommitsRecovered st message
    → Throughout (KeepsShares most w.held) (step c message st) w

-- SO DOES A NODE, wherever its opening ends,
abbrev pub NodeOpeningsKeepSecrets : Type 0 → Type 0
NodeOpeningsKeepSecrets Dir = (c : Fixed Dir) (ended : Ended NodeStop (Live Dir)) (most : ℕ) (w new : World) → ReadsSecrets c.seen → StartsWithin c most
    → EndsSo (node_opening c) ended w new → KeepsSeeds most w.held new × KeepsShares most w.held new

-- .. and its step.
abbrev pub NodeStepsKeepSecrets : Type 0 → Type 0
NodeStepsKeepSecrets Dir = (c : Fixed Dir) (st : Live Dir) (message : Message Dir) (ended : Ended NodeStop (Live Dir)) (most : ℕ) (w new : World) → ReadsSecrets c.seen → reach_of c message ≤ most
    → EndsSo (node_step c (event_of message) st) ended w new → KeepsSeeds most w.held new × (CommitsRecovered st message → KeepsShares most w.held new)
