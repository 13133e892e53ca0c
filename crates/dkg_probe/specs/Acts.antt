-- What a step does, as acts in their order: entries that it says, peers that it has tracked, and how it ends. A probe has no devices, so there are no
-- acts on them; and it has a manager, so there is one for that.
use Rattle.std.specs.Prelude.{◌≡◌, ◌⊎◌, ℕ, ◌<◌, [], ◌∷◌, ◌++◌, length, take, List, Option, Result, Ok, Err}
use Rattle.dkg_infos.specs.declared.entry.Entry.{Entry}
use Rattle.dkg_infos.specs.declared.participants.TrackedPeers.{TrackedPeers}
use Rattle.dkg_types.specs.Tracking.{with_set}

pub data ProbeActs (F S : Type 0) : Type 0 where
  Say : Entry → ProbeActs F S → ProbeActs F S
  -- a manager tracks these peers from now on
  Track : (epoch : ℕ) → TrackedPeers → ProbeActs F S → ProbeActs F S
  Goes : S → ProbeActs F S
  -- it ends by a fault of its own
  Stops : F → ProbeActs F S

-- these acts, and from what they end in others
abbrev pub probe_bind : {F S T : Type 0} → ProbeActs F S → (S → ProbeActs F T) → ProbeActs F T
probe_bind (Say line acts) next = Say line (probe_bind acts next)
probe_bind (Track epoch peers acts) next = Track epoch peers (probe_bind acts next)
probe_bind (Goes end) next = next end
probe_bind (Stops fault) next = Stops fault

-- these entries, and then the acts
abbrev pub says_all : {F S : Type 0} → List Entry → ProbeActs F S → ProbeActs F S
says_all [] acts = acts
says_all (line ∷ lines) acts = Say line (says_all lines acts)

-- All were run, from a transcript to another.
abbrev pub ProbeCompletes : {F S : Type 0} → ProbeActs F S → S → List Entry → List Entry → Type 0
ProbeCompletes (Say line acts) end out new = ProbeCompletes acts end (out ++ line ∷ []) new
ProbeCompletes (Track epoch peers acts) end out new = ProbeCompletes acts end out new
ProbeCompletes (Goes its) end out new = (new ≡ out) × (end ≡ its)
ProbeCompletes (Stops fault) end out new = ⊥

-- All were run, up to the fault.
abbrev pub ProbeFaults : {F S : Type 0} → ProbeActs F S → F → List Entry → List Entry → Type 0
ProbeFaults (Say line acts) fault out new = ProbeFaults acts fault (out ++ line ∷ []) new
ProbeFaults (Track epoch peers acts) fault out new = ProbeFaults acts fault out new
ProbeFaults (Goes end) fault out new = ⊥
ProbeFaults (Stops its) fault out new = (new ≡ out) × (fault ≡ its)

-- something is to be said yet
abbrev pub ProbeSpeaks : {F S : Type 0} → ProbeActs F S → Type 0
ProbeSpeaks (Say line acts) = Unit {0}
ProbeSpeaks (Track epoch peers acts) = ProbeSpeaks acts
ProbeSpeaks (Goes end) = ⊥
ProbeSpeaks (Stops fault) = ⊥

-- The first of them were run. The last entry is said by nobody who doesn't go through.
abbrev pub ProbeBreaks : {F S : Type 0} → ProbeActs F S → List Entry → List Entry → Type 0
ProbeBreaks (Say line acts) out new = (new ≡ out) ⊎ (ProbeSpeaks acts × ProbeBreaks acts (out ++ line ∷ []) new)
ProbeBreaks (Track epoch peers acts) out new = ProbeBreaks acts out new
ProbeBreaks (Goes end) out new = new ≡ out
ProbeBreaks (Stops fault) out new = new ≡ out

-- the first entries were said, but for the last ones
abbrev pub IsFront : List Entry → List Entry → List Entry → Type 0
IsFront lines out new = (count : ℕ) × (count < length lines) × (new ≡ out ++ take count lines)

-- How acts ended: in this, by a fault of their own, or anywhere, by want of memory.
pub data ProbeEnded (F S : Type 0) : Type 0 where
  went : S → ProbeEnded F S
  stopped : F → ProbeEnded F S
  broken : ProbeEnded F S

abbrev pub ProbeRuns : {F S : Type 0} → ProbeActs F S → ProbeEnded F S → List Entry → List Entry → Type 0
ProbeRuns acts (went end) out new = ProbeCompletes acts end out new
ProbeRuns acts (stopped fault) out new = ProbeFaults acts fault out new
ProbeRuns acts broken out new = ProbeBreaks acts out new

-- the sets that a manager tracks behind all of them, by number
abbrev pub tracked_after : {F S : Type 0} → ProbeActs F S → (ℕ → Option TrackedPeers) → ℕ → Option TrackedPeers
tracked_after (Say line acts) sets = tracked_after acts sets
tracked_after (Track epoch peers acts) sets = tracked_after acts (with_set sets epoch peers)
tracked_after (Goes end) sets = sets
tracked_after (Stops fault) sets = sets

-- What a manager tracks behind acts that ended so: what they say, and where they ended early that or what it did before.
abbrev pub ManagerTracks : {F S E : Type 0} → ProbeActs F S → Result (Unit {0}) E → (old new : ℕ → Option TrackedPeers) → Type 0
ManagerTracks acts (Ok u) old new = (n : ℕ) → new n ≡ tracked_after acts old n
ManagerTracks acts (Err e) old new = ((n : ℕ) → new n ≡ old n) ⊎ ((n : ℕ) → new n ≡ tracked_after acts old n)

-- P of each entry that is said and of the acts behind it, and Q where peers are tracked
abbrev pub Each : {F S : Type 0} → (Entry → ProbeActs F S → Type 0) → (Q : Type 0) → ProbeActs F S → Type 0
Each P Q (Say line acts) = P line acts × Each P Q acts
Each P Q (Track epoch peers acts) = Q × Each P Q acts
Each P Q (Goes end) = Unit {0}
Each P Q (Stops fault) = Unit {0}
