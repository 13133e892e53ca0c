-- What a life of a script is asked, and what it was fed: the blocks of a request, as a scan reads them, and the logs that these make.
use Rattle.std.specs.Prelude.{ℕ, ◌≡◌, ◌+◌, ◌-◌, ◌≤◌, ◌==◌, ◌⊎◌, Contains, fold, length, List, ◌∷◌, ◌++◌, Option, Some, slice_get, reverse, take, option_map, IsSomeAnd, if◌then◌else◌}
use Rattle.dkg_ceremony.specs.declared.epocher.Bounds.{Bounds}
use Rattle.dkg_ceremony.specs.declared.round.RoundParts.{RoundParts as Round}
use Rattle.dkg_ceremony.specs.Outcomes.{LogMap, outcome_of}
use Rattle.dkg_ceremony.specs.Schedule.{bounds_at, first, last, midpoint}
use Rattle.dkg_ceremony.specs.ValidLogs.{check_log_of}
use Rattle.dkg_types.specs.Blocks.{Block}
use Rattle.dkg_infos.specs.NextInfos.{next_info}
use Rattle.dkg_types.specs.Paths.{logs_of_path}
use Rattle.dkg_types.specs.PayloadCodes.{info_payload, payload_spelling}
use Rattle.dkg_infos.specs.Units.{unit_spelling}
use Rattle.dkg_infos.specs.declared.directory.Unit as directory
use Rattle.dkg_infos.specs.declared.entry.Why.{Why}
use Rattle.dkg_infos.specs.declared.info.EpochInfo.{EpochInfo}
use Rattle.dkg_artifact.specs.Ancestries.{CompletesPath, IsLinked, IsUnderWay, Refuses}
use Rattle.dkg_artifact.specs.Scans.{above}
use Rattle.dkg_artifact.specs.declared.scan.Tip as scan
use Rattle.dkg_text.specs.declared.script.Event.{Event}
use Rattle.dkg_text.specs.declared.script.Event.TheVariants.{Info, Over, Cancel}
use Rattle.dkg_text.specs.declared.script.Life.{Life}
use Rattle.dkg_text.specs.declared.script.Script.{Script}
use Rattle.dkg_script.specs.Asked.{fed_by}
use Rattle.dkg_core.specs.Logs.{filled_by}
use Rattle.dkg_lives.specs.Blamed.{per_epoch, tip_in}
use Rattle.dkg_lives.specs.Given.{blocks_in, numbered, provided_by}

-- HOW A REQUEST STANDS behind some events: it wasn't made, its ancestry goes on or has ended, or it was cancelled
pub data RequestStanding : Type 0 where
  Unmade : RequestStanding
  Open : RequestStanding
  FullyFed : RequestStanding
  Cancelled : RequestStanding

abbrev pub turns : (request : ℕ) → RequestStanding → Event → RequestStanding
turns request Unmade (Info number) = if number == request then Open else Unmade
turns request Open (Over number) = if number == request then FullyFed else Open
turns request Open (Cancel number) = if number == request then Cancelled else Open
turns request FullyFed (Cancel number) = if number == request then Cancelled else FullyFed
turns request standing _ = standing

-- .. behind the first j events of a life
abbrev pub request_standing : Life → (request j : ℕ) → RequestStanding
request_standing life request j = fold (turns request) Unmade (take j life.events)

-- It was made, and wasn't cancelled.
abbrev pub IsUncancelled : RequestStanding → Type 0
IsUncancelled Unmade = ⊥
IsUncancelled Open = Unit {0}
IsUncancelled FullyFed = Unit {0}
IsUncancelled Cancelled = ⊥

-- WHAT IT WAS FED

-- the blocks that a request was fed by the first j events, in their order, from the parent of the block asked for (or that block) downward
abbrev pub fed_in : Script → Life → (request j : ℕ) → List (Block directory.Unit)
fed_in script life request j = numbered (blocks_in script) (fed_by life request j)

-- the tip behind the first j events, as a scan has it
abbrev pub scan_tip : Script → Life → (j : ℕ) → Option scan.Tip
scan_tip script life j = option_map (λ t. record { height = t.height; digest = t.digest }) (tip_in script life j)

abbrev pub bounds_in : Script → (epoch : ℕ) → Bounds
bounds_in script epoch = bounds_at (per_epoch script) (first (per_epoch script) epoch)

-- what follows an epoch by some logs, as a payload's bytes
abbrev pub next_bytes : Script → EpochInfo directory.Unit → Round → LogMap → List ℕ
next_bytes script info round logs = payload_spelling unit_spelling (info_payload (next_info outcome_of (provided_by script) info round logs))

-- HOW AN ANCESTRY WAS READ at a step, above the tip of then: these blocks complete it (`path` is read, the lowest block first; whatever else was fed is `rest`)
pub record IsReadAt (script : Script) (life : Life) (epoch request j : ℕ) (round : Round) (found : LogMap) : Type 0 where
  pub path : List (Block directory.Unit)
  pub lowest : Block directory.Unit
  pub rest : List (Block directory.Unit)
  pub fed : fed_in script life request j ≡ reverse (lowest ∷ path) ++ rest
  pub completes : CompletesPath (bounds_in script epoch) (scan_tip script life j) path lowest
  pub logs : found ≡ logs_of_path check_log_of (midpoint (per_epoch script) epoch) (last (per_epoch script) epoch) round (above (scan_tip script life j) (lowest ∷ path))

-- .. and these logs were asked for: recorded ones at or below the tip, and those found for the other dealers
pub record WereAsked (script : Script) (life : Life) (epoch request j : ℕ) (round : Round) (recorded logs : LogMap) : Type 0 where
  pub found : LogMap
  pub read : IsReadAt script life epoch request j round found
  pub filled : logs ≡ filled_by recorded found

-- WHY AN ANCESTRY IS REFUSED: its front is under way, and the next block is refused
pub record IsRefusedAt (script : Script) (life : Life) (epoch request j : ℕ) (why : Why) : Type 0 where
  pub path : List (Block directory.Unit)
  pub next : Block directory.Unit
  pub rest : List (Block directory.Unit)
  pub fed : fed_in script life request j ≡ reverse path ++ (next ∷ rest)
  pub under_way : IsUnderWay (bounds_in script epoch) (scan_tip script life j) path
  pub so : Refuses (bounds_in script epoch) (scan_tip script life j) path next why

-- it ended too soon
pub record IsShortAt (script : Script) (life : Life) (epoch request j : ℕ) : Type 0 where
  pub closed : request_standing life request j ≡ FullyFed
  pub path : List (Block directory.Unit)
  pub fed : fed_in script life request j ≡ reverse path
  pub under_way : IsUnderWay (bounds_in script epoch) (scan_tip script life j) path

-- THE PATH OF AN ANSWER: linked blocks from the midpoint at the latest up to the block asked for or its parent. The upper ones are those that were fed first, from the top down, and the chain goes on below them.
pub record IsPathOf (script : Script) (chain : ℕ → Block directory.Unit → Type 0) (epoch : ℕ) (fed path : List (Block directory.Unit)) : Type 0 where
  pub lower : List (Block directory.Unit)
  pub upper : List (Block directory.Unit)
  pub rest : List (Block directory.Unit)
  pub parts : path ≡ lower ++ upper
  pub fed_first : fed ≡ reverse upper ++ rest
  pub below : (b : Block directory.Unit) → Contains lower b → chain b.height b
  pub linked : IsLinked path
  pub bottom : IsSomeAnd (slice_get path 0) (λ b. b.height ≤ midpoint (per_epoch script) epoch)
  pub top : IsSomeAnd (slice_get fed 0) (λ b. (slice_get path (length path - 1) ≡ Some b) × ((b.height ≡ last (per_epoch script) epoch) ⊎ (b.height + 1 ≡ last (per_epoch script) epoch)))
