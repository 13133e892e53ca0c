-- What is presumed of a script's past, besides its consistency, where an answer or a share rests on all of an epoch's logs: the logs that the devices handed in record are the chain's, and
-- no block between an epoch's midpoint and a life's start was missed.
use Rattle.std.specs.Prelude.{ℕ, zero, suc, ◌≡◌, ◌+◌, ◌-◌, ◌<◌, ◌≤◌, true, false, List, [], ◌++◌, Option, Some, None, filter_map, option_to_list, IfSome}
use Rattle.std.specs.FinMap.{get}
use Rattle.dkg_ceremony.specs.declared.dealer_log.DealerLog.{DealerLog}
use Rattle.dkg_ceremony.specs.declared.round.RoundParts.{RoundParts as Round}
use Rattle.dkg_ceremony.specs.Outcomes.{LogMap, outcome_of}
use Rattle.dkg_ceremony.specs.ValidLogs.{check_log_of}
use Rattle.dkg_ceremony.specs.declared.signed_log.SignedDealerLog.{SignedDealerLog}
use Rattle.dkg_journal.specs.Records.{entries}
use Rattle.dkg_store.specs.Noted.{logs_in}
use Rattle.dkg_store.specs.declared.recorded_log.RecordedLog.{RecordedLog}
use Rattle.dkg_infos.specs.NextInfos.{Provided, next_info}
use Rattle.dkg_types.specs.Paths.{log_counts, logs_from}
use Rattle.dkg_text.specs.declared.script.Event.TheVariants.{Final}
use Rattle.dkg_text.specs.declared.script.Life.{Life}
use Rattle.dkg_script.specs.Blocks.{ScriptBlock, numbered_block, chain, known_info, round_at}
use Rattle.dkg_script.specs.Consistent.{IsConsistentScript}
use Rattle.dkg_script.specs.Position.{awaited_epoch, awaited_height_after, cut_of, event_of_step, life_follows}
use Rattle.dkg_script.specs.Readings.{Info}
use Rattle.dkg_script.specs.Schedule.{last, midpoint}
use Rattle.dkg_script.specs.Setting.{Setting, CutAt, blocks_per_epoch, life_at}
use Rattle.dkg_script.specs.Views.{log_with_height}

-- THE CHAIN'S LOGS of an epoch

-- its blocks at so many heights from one on
abbrev pub chain_from : Setting → (height count : ℕ) → List ScriptBlock
chain_from s height zero = []
chain_from s height (suc count) = option_to_list (chain s height) ++ chain_from s (height + 1) count

-- those that may carry logs of an epoch: from its midpoint on and below its last
abbrev pub log_blocks : Setting → (epoch : ℕ) → List ScriptBlock
log_blocks s epoch =
    let middle = midpoint (blocks_per_epoch s) epoch in chain_from s middle (last (blocks_per_epoch s) epoch - middle)

-- of each dealer of the round the first log that counts
abbrev pub chain_logs : Setting → Round → (epoch : ℕ) → LogMap
chain_logs s round epoch = logs_from check_log_of (midpoint (blocks_per_epoch s) epoch) (last (blocks_per_epoch s) epoch) round (filter_map log_with_height (log_blocks s epoch))

-- PREMISES

-- The chain's block at the height carries this log of the dealer, and it counts in the round,
pub record CountsAt (s : Setting) (epoch : ℕ) (round : Round) (height dealer : ℕ) (log : DealerLog) : Type 0 where
  pub block : ScriptBlock
  pub chained : chain s height ≡ Some block
  pub signed : SignedDealerLog
  pub carried : block.log ≡ Some signed
  pub dealer_is : signed.dealer ≡ dealer
  pub log_is : signed.log ≡ log
  pub counted : log_counts check_log_of (midpoint (blocks_per_epoch s) epoch) (last (blocks_per_epoch s) epoch) round (height, signed) ≡ true

-- .. and below it no block of the chain carries one of the dealer that counts.
abbrev pub IsFirstAt : Setting → (epoch : ℕ) → Round → (height dealer : ℕ) → Type 0
IsFirstAt s epoch round height dealer = (lower : ℕ) (log : DealerLog) → lower < height → CountsAt s epoch round lower dealer log → ⊥

-- A log that is noted with a height stands there on the chain. One without stands below each height that a life awaits first which awaits its epoch at any step.
abbrev pub StandsAtIts : Setting → (epoch height : ℕ) → Option ℕ → Type 0
StandsAtIts s epoch height (Some noted) = noted ≡ height
StandsAtIts s epoch height None = (l j : ℕ) (life : Life) → life_at s l ≡ Some life → awaited_epoch s l life j ≡ epoch → height < awaited_height_after s l life 0

-- Each log that was handed in, of an epoch that a life comes to and whose round the script has, is its dealer's first one on the chain, and is noted at its height.
abbrev pub AreChainLogs : Setting → Type 0
AreChainLogs s =
    (epoch dealer : ℕ) (noted : RecordedLog) (round : Round) (l j : ℕ) (life : Life) → life_at s l ≡ Some life → awaited_epoch s l life j ≡ epoch → round_at s epoch ≡ Some round
    → get (logs_in (entries s.files)) (epoch, dealer) ≡ Some noted → (height : ℕ) × CountsAt s epoch round height dealer noted.log × IsFirstAt s epoch round height dealer × StandsAtIts s epoch height noted.height

-- the step of a life was completed: the life did not end before it or within it
abbrev pub WasCompleted : List (Option CutAt) → (l step : ℕ) → Type 0
WasCompleted ends l step = IfSome (cut_of ends l) (λ at. step < at.step)

-- An earlier life that took part in the epoch was delivered the block at this height, in a step that was completed.
pub record WasSeen (s : Setting) (ends : List (Option CutAt)) (l epoch height : ℕ) : Type 0 where
  pub before : ℕ
  pub earlier : before < l
  pub life : Life
  pub life_is : life_at s before ≡ Some life
  pub step : ℕ
  pub number : ℕ
  pub block : ScriptBlock
  pub event : event_of_step life step ≡ Some (Final number)
  pub completed : WasCompleted ends before step
  pub block_is : numbered_block s number ≡ Some block
  pub height_is : block.height ≡ height
  pub awaited : awaited_epoch s before life (step - 1) ≡ epoch
  pub took_part : life_follows s before life epoch ≡ false

-- No block is missed between the midpoint of the epoch that a life begins in and its start, unless the life follows that epoch.
abbrev pub MissesNone : Setting → List (Option CutAt) → Type 0
MissesNone s ends =
    (l height : ℕ) (life : Life) → life_at s l ≡ Some life → life_follows s l life (awaited_epoch s l life 0) ≡ false
    → midpoint (blocks_per_epoch s) (awaited_epoch s l life 0) ≤ height → height < awaited_height_after s l life 0 → WasSeen s ends l (awaited_epoch s l life 0) height

-- blocks of one digest are one
abbrev pub IsOneDigest : Setting → Type 0
IsOneDigest s = (one other : ℕ) (a b : ScriptBlock) → numbered_block s one ≡ Some a → numbered_block s other ≡ Some b → a.digest ≡ b.digest → a ≡ b

-- WHERE ANSWERS ARE FROM THE PATH
pub record IsWholeHistory (s : Setting) (ends : List (Option CutAt)) : Type 0 where
  pub consistent : IsConsistentScript s ends
  pub one_digest : IsOneDigest s
  pub logs : AreChainLogs s
  pub missed : MissesNone s ends

-- WHERE SHARES STAND: an epoch's last block carries the info that the chain's logs of the epoch make, whatever the provider says
abbrev pub CarriesNext : Setting → Provided (List ℕ) → ScriptBlock → Type 0
CarriesNext s provided b =
    (epoch : ℕ) (info : Info) (round : Round) → b.height ≡ last (blocks_per_epoch s) epoch → known_info s epoch ≡ Some info → round_at s epoch ≡ Some round
    → b.info ≡ Some (next_info outcome_of provided info round (chain_logs s round epoch))
