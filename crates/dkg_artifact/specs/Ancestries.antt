-- What a scan's answers say of an ancestry, in terms of its blocks.
use Rattle.std.specs.Prelude.{◌≡◌, ◌≢◌, ◌⊎◌, ℕ, ◌+◌, ◌-◌, ◌<◌, ◌≤◌, List, [], ◌∷◌, Option, Some, None, IfSome}
use Rattle.dkg_ceremony.specs.declared.epocher.Bounds.{Bounds}
use Rattle.dkg_ceremony.specs.declared.round.RoundParts.{RoundParts as Round}
use Rattle.dkg_types.specs.Blocks.{Block}
use Rattle.dkg_types.specs.Paths.{logs_of_path}
use Rattle.dkg_infos.specs.declared.entry.Why.{Why}
use Rattle.dkg_infos.specs.declared.entry.Why.TheVariants.{Short, WrongHeight, Unlinked, Detached, Following, Terminal, Finished, Held}
use Rattle.dkg_artifact.specs.declared.scan.Fed.{Fed}
use Rattle.dkg_artifact.specs.declared.scan.Fed.TheVariants.{Need, Logs, Unavailable}
use Rattle.dkg_artifact.specs.Seen.{Scan}
use Rattle.dkg_artifact.specs.declared.scan.Tip.{Tip}
use Rattle.dkg_artifact.specs.Scans.{Check, above, link_of, lowest, tip_below}

-- A PATH AS IT WAS READ, THE LOWEST BLOCK FIRST

-- Each block is one lower than the next, which names it.
abbrev pub IsLinked : {Dir : Type 0} → List (Block Dir) → Type 0
IsLinked [] = Unit {0}
IsLinked (b ∷ []) = Unit {0}
IsLinked (b ∷ (c ∷ path)) = (c.height ≡ b.height + 1) × (c.parent ≡ b.digest) × IsLinked (c ∷ path)

-- It begins at the final block or its parent.
abbrev pub BeginsBelow : {Dir : Type 0} → (last : ℕ) → List (Block Dir) → Type 0
BeginsBelow last [] = Unit {0}
BeginsBelow last (b ∷ []) = (b.height ≡ last) ⊎ (b.height + 1 ≡ last)
BeginsBelow last (b ∷ (c ∷ path)) = BeginsBelow last (c ∷ path)

-- Every block of it is above the last needed height, or the final one.
abbrev pub IsHigher : {Dir : Type 0} → (last down_to : ℕ) → List (Block Dir) → Type 0
IsHigher last down_to [] = Unit {0}
IsHigher last down_to (b ∷ path) = ((down_to < b.height) ⊎ (b.height ≡ last)) × IsHigher last down_to path

-- A path of an ancestry that isn't read to the last needed height.
pub record IsUnderWay {Dir : Type 0} (bounds : Bounds) (tip : Option Tip) (path : List (Block Dir)) : Type 0 where
  pub linked : IsLinked path
  pub begins : BeginsBelow bounds.last path
  pub higher : IsHigher bounds.last (lowest bounds.midpoint tip) path

-- the height of the block that is read next
abbrev pub awaited : {Dir : Type 0} → (last : ℕ) → (path : List (Block Dir)) → ℕ
awaited last [] = last - 1
awaited last (b ∷ path) = b.height - 1

-- the digest that the block read last names
abbrev pub named_on_path : {Dir : Type 0} → (path : List (Block Dir)) → Option (List ℕ)
named_on_path [] = None
named_on_path (b ∷ path) = Some b.parent

-- the block above, if one was read, names this one
abbrev pub IsNamed : {Dir : Type 0} → Block Dir → (path : List (Block Dir)) → Type 0
IsNamed b path = IfSome (named_on_path path) (λ digest. digest ≡ b.digest)

-- Where the tip's successor is the last needed height, the lowest link is the tip: the block itself, where nothing above the tip is needed, or
-- else its parent.
abbrev pub IsOnTip : {Dir : Type 0} → (middle : ℕ) → Option Tip → Block Dir → Type 0
IsOnTip middle tip b = IfSome (tip_below middle tip) (λ digest. digest ≡ link_of (lowest middle tip) b)

-- WHERE A SCAN STANDS, AND WHAT IT ANSWERS

-- A scan of a round above a tip that has read a path, and answered its lowest block by Need.
pub record StandsAtPath {Dir : Type 0} (check : Check) (round : Round) (bounds : Bounds) (tip : Option Tip) (path : List (Block Dir)) (s : Scan) : Type 0 where
  pub under_way : IsUnderWay bounds tip path
  pub some : 0 < bounds.last
  pub its_round : s.round ≡ round
  pub its_last : s.last ≡ bounds.last
  pub its_lowest : s.down_to ≡ lowest bounds.midpoint tip
  pub its_below : s.below ≡ tip_below bounds.midpoint tip
  pub its_next : s.next ≡ Some (record { height = awaited bounds.last path; digest = named_on_path path })
  pub its_logs : s.found ≡ logs_of_path check bounds.midpoint bounds.last round (above tip path)

-- the awaited block, which the one above names
abbrev pub IsNextOnPath : {Dir : Type 0} → (last : ℕ) → (path : List (Block Dir)) → Block Dir → Type 0
IsNextOnPath last path b = (b.height ≡ awaited last path) × IsNamed b path

-- Why a block is refused behind a path. No cause but these is told.
abbrev pub Refuses : {Dir : Type 0} → Bounds → Option Tip → (path : List (Block Dir)) → Block Dir → Why → Type 0
Refuses bounds tip path b (WrongHeight wanted got) =
    (wanted ≡ awaited bounds.last path) × (got ≡ b.height) × (got ≢ wanted) × (path ≡ [] → got ≢ bounds.last)
Refuses bounds tip path b (Unlinked height) = (height ≡ b.height) × (height ≡ awaited bounds.last path) × (IsNamed b path → ⊥)
Refuses bounds tip path b (Detached height) =
    (height ≡ b.height) × IsNextOnPath bounds.last path b × (height ≤ lowest bounds.midpoint tip) × (IsOnTip bounds.midpoint tip b → ⊥)
Refuses bounds tip path b Short = ⊥
Refuses bounds tip path b Following = ⊥
Refuses bounds tip path b Terminal = ⊥
Refuses bounds tip path b Finished = ⊥
Refuses bounds tip path b Held = ⊥

-- A block that completes an ancestry, at or below the last needed height.
pub record CompletesPath {Dir : Type 0} (bounds : Bounds) (tip : Option Tip) (path : List (Block Dir)) (b : Block Dir) : Type 0 where
  pub linked : IsLinked (b ∷ path)
  pub begins : BeginsBelow bounds.last (b ∷ path)
  pub below_final : b.height < bounds.last
  pub low : b.height ≤ lowest bounds.midpoint tip
  pub on_tip : IsOnTip bounds.midpoint tip b

-- What an answer to a block says of it and of the path that was read above it.
abbrev pub SaysOfBlock : {Dir : Type 0} → Check → Round → Bounds → Option Tip → (path : List (Block Dir)) → Block Dir → Fed → Type 0
SaysOfBlock check round bounds tip path b Need = IsUnderWay bounds tip (b ∷ path)
SaysOfBlock check round bounds tip path b (Logs logs) =
    CompletesPath bounds tip path b × (logs ≡ logs_of_path check bounds.midpoint bounds.last round (above tip (b ∷ path)))
SaysOfBlock check round bounds tip path b (Unavailable why) = Refuses bounds tip path b why

-- A scan that stands at a path answers a block by what is so of both, and goes on from there where it needs more.
pub record Says {Dir : Type 0} (check : Check) (round : Round) (bounds : Bounds) (tip : Option Tip) (path : List (Block Dir)) (b : Block Dir)
    (answer : Fed) (after : Scan) : Type 0 where
  pub answers : SaysOfBlock check round bounds tip path b answer
  pub goes_on : answer ≡ Need → StandsAtPath check round bounds tip (b ∷ path) after

-- It does so of each path at which it stands.
abbrev pub SaysOfPath : {Dir : Type 0} → Check → (before : Scan) → Block Dir → (answer : Fed) → (after : Scan) → Type 0
SaysOfPath {Dir} check before b answer after = (round : Round) (bounds : Bounds) (tip : Option Tip) (path : List (Block Dir))
    → StandsAtPath check round bounds tip path before → Says check round bounds tip path b answer after

-- EACH ANSWER EXCLUDES THE OTHERS

abbrev pub IsLogs : Fed → Type 0
IsLogs Need = ⊥
IsLogs (Logs logs) = Unit {0}
IsLogs (Unavailable why) = ⊥

-- A block that leads on is answered by Need alone, and one that completes an ancestry by logs alone.
pub record AreApart (Dir : Type 0) (check : Check) : Type 0 where
  pub need : (round : Round) (bounds : Bounds) (tip : Option Tip) (path : List (Block Dir)) (b : Block Dir) (answer : Fed) → 0 < bounds.last
      → IsUnderWay bounds tip path → SaysOfBlock check round bounds tip path b answer → IsUnderWay bounds tip (b ∷ path) → answer ≡ Need
  pub logs : (round : Round) (bounds : Bounds) (tip : Option Tip) (path : List (Block Dir)) (b : Block Dir) (answer : Fed) → 0 < bounds.last
      → IsUnderWay bounds tip path → SaysOfBlock check round bounds tip path b answer → CompletesPath bounds tip path b → IsLogs answer
