-- What a scan answers to the blocks of an ancestry, from an epoch's final block or its parent downward.
use Rattle.std.specs.Prelude.{ℕ, ◌+◌, ◌-◌, ◌==◌, ◌&&◌, nat_lt, not, Bool, true, false, List, [], Option, Some, None, is_none, is_some, IsSome, option_and_then, if◌then◌else◌}
use Rattle.std.specs.List.{filter}
use Rattle.std.specs.Option.{option_map_or}
use Rattle.std.specs.Str.{bytes_eq}
use Rattle.dkg_values.specs.Rising.{index_of}
use Rattle.dkg_ceremony.specs.declared.dealer_log.DealerLog.{DealerLog}
use Rattle.dkg_ceremony.specs.declared.epocher.Bounds.{Bounds}
use Rattle.dkg_ceremony.specs.declared.round.RoundParts.{RoundParts as Round}
use Rattle.dkg_ceremony.specs.declared.signed_log.SignedDealerLog.{SignedDealerLog}
use Rattle.dkg_ceremony.specs.Outcomes.{LogMap}
use Rattle.dkg_types.specs.Blocks.{Block}
use Rattle.dkg_infos.specs.declared.entry.Why.TheVariants.{Short, WrongHeight, Unlinked, Detached}
use Rattle.dkg_types.specs.PayloadCodes.{its_log}
use Rattle.dkg_artifact.specs.Found.{with_log}
use Rattle.dkg_artifact.specs.declared.scan.Fed.{Fed}
use Rattle.dkg_artifact.specs.declared.scan.Fed.TheVariants.{Need, Logs, Unavailable}
use Rattle.dkg_artifact.specs.Seen.{Next, Scan}
use Rattle.dkg_artifact.specs.declared.scan.Stand.{Stand}
use Rattle.dkg_artifact.specs.declared.scan.Stand.TheVariants.{Final, Between, Lowest, Refused}
use Rattle.dkg_artifact.specs.declared.scan.Tip.{Tip}

-- WHERE A SCAN STARTS

-- the last needed height: the midpoint, or the tip's successor where the tip is at or above it
abbrev pub lowest : (middle : ℕ) → Option Tip → ℕ
lowest middle tip = option_map_or (λ t. if nat_lt t.height middle then middle else t.height + 1) tip middle

-- the tip's digest, where the tip's successor is the last needed height
abbrev pub tip_below : (middle : ℕ) → Option Tip → Option (List ℕ)
tip_below middle tip = option_and_then (λ t. if t.height + 1 == lowest middle tip then Some t.digest else None) tip

-- A final height of 0 needs no block.
abbrev pub first_next : (last : ℕ) → Option Next
first_next last = if last == 0 then None else Some (record { height = last - 1; digest = None })

abbrev pub first_answer : (last : ℕ) → Fed
first_answer last = if last == 0 then Logs [] else Need

abbrev pub starts : Round → Bounds → Option Tip → Scan
starts round bounds tip = record {
  round = round;
  last = bounds.last;
  down_to = lowest bounds.midpoint tip;
  below = tip_below bounds.midpoint tip;
  next = first_next bounds.last;
  found = [];
}

-- WHAT A BLOCK IS TO A SCAN

-- the final block, before any other
abbrev pub is_final : {Dir : Type 0} → Scan → Next → Block Dir → Bool
is_final s n b = is_none n.digest && (b.height == s.last)

-- a digest is named, and another than this
abbrev pub names_another : Option (List ℕ) → List ℕ → Bool
names_another named digest = option_map_or (λ d. not (bytes_eq d digest)) named false

-- the digest that the tip has to have: the block's own, where the block is the final one's parent and nothing above the tip is needed
abbrev pub link_of : {Dir : Type 0} → (down_to : ℕ) → Block Dir → List ℕ
link_of down_to b = if nat_lt b.height down_to then b.digest else b.parent

abbrev pub stand_of : {Dir : Type 0} → Scan → Next → Block Dir → Stand
stand_of s n b =
    if is_final s n b then Final
    else (if not (b.height == n.height) then Refused (WrongHeight n.height b.height)
    else (if names_another n.digest b.digest then Refused (Unlinked b.height)
    else (if nat_lt s.down_to b.height then Between
    else (if names_another s.below (link_of s.down_to b) then Refused (Detached b.height)
    else Lowest))))

-- WHAT A SCAN ANSWERS

-- a ceremony's check of a signed log
abbrev pub Check : Type 0
Check = Round → SignedDealerLog → Bool

-- a dealer of the round signed it, and it is checked
abbrev pub is_counted : Check → Round → SignedDealerLog → Bool
is_counted check round s = is_some (index_of s.dealer round.dealers) && check round s

-- a log that counts, with its dealer
abbrev pub counted_log : Check → Round → Option SignedDealerLog → Option (ℕ × DealerLog)
counted_log check round log = option_and_then (λ s. if is_counted check round s then Some (s.dealer, s.log) else None) log

-- The log that a block adds to those found: a block below the last needed height adds none.
abbrev pub added : {Dir : Type 0} → Check → Round → (down_to : ℕ) → Block Dir → Option (ℕ × DealerLog)
added check round down_to b = if nat_lt b.height down_to then None else counted_log check round (option_and_then its_log b.payload)

abbrev pub with_lower : {Dir : Type 0} → Check → Scan → Block Dir → LogMap
with_lower check s b = with_log (added check s.round s.down_to b) s.found

-- the scan behind a block, with the logs found by then
abbrev pub passes : {Dir : Type 0} → Scan → Block Dir → LogMap → Scan
passes s b found = record s { next = Some (record { height = b.height - 1; digest = Some b.parent }); found = found }

-- the scan once it has answered
abbrev pub closes : Scan → Scan
closes s = record s { next = None; found = [] }

abbrev pub answers_block : {Dir : Type 0} → Check → Scan → Block Dir → Stand → Fed × Scan
answers_block check s b Final = (Need, passes s b s.found)
answers_block check s b Between = (Need, passes s b (with_lower check s b))
answers_block check s b Lowest = (Logs (with_lower check s b), closes s)
answers_block check s b (Refused why) = (Unavailable why, closes s)

-- What a scan answers to a block, and where it stands then. To one that has answered the ancestry has ended.
abbrev pub feeds : {Dir : Type 0} → Check → Scan → Block Dir → Fed × Scan
feeds check s b = option_map_or (λ n. answers_block check s b (stand_of s n b)) s.next (Unavailable Short, s)

-- A PATH ABOVE A TIP

-- the blocks above a tip
abbrev pub is_above_tip : {Dir : Type 0} → Option Tip → Block Dir → Bool
is_above_tip tip b = option_map_or (λ t. nat_lt t.height b.height) tip true

abbrev pub above : {Dir : Type 0} → Option Tip → List (Block Dir) → List (Block Dir)
above tip = filter (is_above_tip tip)

-- WHETHER A SCAN AWAITS A BLOCK

abbrev pub IsAwaiting : Scan → Type 0
IsAwaiting s = IsSome s.next
