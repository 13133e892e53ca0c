-- ANSWERS FROM THE PATH: what each answer to a final block's request says, by the entries and the script; first whatever the devices tell, and then over devices that tell.
use Rattle.std.specs.Prelude.{ℕ, ◌≡◌, ◌≤◌, ◌<◌, ◌+◌, ◌-◌, ◌^◌, true, false, List, Option, Some, IsSomeAnd, Ok, length, slice_get}
use Rattle.std.specs.Int.NonZero.{non_zero_u32_get}
use Rattle.dkg_ceremony.specs.declared.round.RoundParts.{RoundParts as Round}
use Rattle.dkg_ceremony.specs.Outcomes.{LogMap}
use Rattle.dkg_ceremony.specs.Schedule.{last, midpoint}
use Rattle.dkg_ceremony.specs.ValidLogs.{check_log_of}
use Rattle.dkg_journal.specs.Names.{Files}
use Rattle.dkg_journal.specs.Records.{entries}
use Rattle.dkg_secrets.specs.Secrets.{Secrets}
use Rattle.dkg_store.specs.Pairs.{IsWhole}
use Rattle.dkg_types.specs.Blocks.{Block}
use Rattle.dkg_types.specs.Paths.{logs_of_path}
use Rattle.dkg_infos.specs.Units.{unit_spelling}
use Rattle.dkg_infos.specs.declared.directory.Unit as directory
use Rattle.dkg_infos.specs.declared.entry.AnswerLine.{AnswerLine}
use Rattle.dkg_infos.specs.declared.entry.AnswerLine.TheVariants.{Available, Unavailable}
use Rattle.dkg_infos.specs.declared.entry.Entry.{Entry}
use Rattle.dkg_infos.specs.declared.entry.Entry.TheVariants.{Answer}
use Rattle.dkg_infos.specs.declared.entry.Why.{Why}
use Rattle.dkg_infos.specs.declared.entry.Why.TheVariants.{Short, Following, Terminal, Finished, Held}
use Rattle.dkg_infos.specs.declared.info.EpochInfo.{EpochInfo}
use Rattle.dkg_text.specs.declared.script.Event.TheVariants.{Final, Info}
use Rattle.dkg_text.specs.declared.script.Life.{Life}
use Rattle.dkg_text.specs.declared.script.Script.{Script}
use Rattle.dkg_script.specs.AsCut.{setting_as_cut}
use Rattle.dkg_script.specs.Epochs.{alone}
use Rattle.dkg_script.specs.Blocks.{chain, known_info, round_by}
use Rattle.dkg_script.specs.History.{IsWholeHistory}
use Rattle.dkg_script.specs.Inclusion.{IsFormOfInclusion}
use Rattle.dkg_script.specs.Players.{players_at}
use Rattle.dkg_script.specs.Position.{awaited_epoch, event_of_step, life_follows}
use Rattle.dkg_script.specs.Progress.{AtEachEntry, Progress, progress}
use Rattle.dkg_script.specs.Readings.{with_spelled}
use Rattle.dkg_script.specs.Setting.{Setting, life_at, setting_of}
use Rattle.dkg_script.specs.Views.{seen_block}
use Rattle.dkg_lives.specs.Asks.{IsPathOf, IsRefusedAt, IsShortAt, IsUncancelled, WereAsked, fed_in, next_bytes, request_standing}
use Rattle.dkg_lives.specs.Blamed.{IsInfoOf, IsTakenLast, per_epoch}
use Rattle.dkg_lives.specs.Given.{blocks_in}

-- WHATEVER THE DEVICES TELL

-- the request was made while this epoch was awaited, and isn't cancelled by the first j events
pub record IsAskedFor (script : Script) (l : ℕ) (life : Life) (epoch j request : ℕ) : Type 0 where
  pub at : ℕ
  pub before : at < j
  pub made : slice_get life.events at ≡ Some (Info request)
  pub same : awaited_epoch (alone script) l life at ≡ epoch
  pub uncancelled : IsUncancelled (request_standing life request j)

-- The provider names somebody for the epoch two above, and not more than the limit: IsProviderCause of no fault holds of the epoch.
pub record IsProvidedFor (script : Script) (epoch : ℕ) : Type 0 where
  pub in_range : epoch + 2 < 2 ^ 64
  pub some : 1 ≤ length (players_at script.config.players (epoch + 2))
  pub in_bound : length (players_at script.config.players (epoch + 2)) ≤ non_zero_u32_get script.config.limit

-- In step j the request is answered by the logs that were asked for as its ancestry was read, in this step or an earlier one that began while this epoch was awaited, in which the life takes part
-- and for which the provider's set is there.
pub record IsMadeOf (script : Script) (l : ℕ) (life : Life) (epoch j request : ℕ) (payload : Option (List ℕ)) : Type 0 where
  pub takes_part : life_follows (alone script) l life epoch ≡ false
  pub provided : IsProvidedFor script epoch
  pub info : EpochInfo directory.Unit
  pub info_is : IsInfoOf script life j epoch info
  pub round : Round
  pub round_is : round_by script epoch info ≡ Ok round
  pub at : ℕ
  pub within : at ≤ j
  pub same : awaited_epoch (alone script) l life (at - 1) ≡ epoch
  pub recorded : LogMap
  pub logs : LogMap
  pub asked : WereAsked script life epoch request at round recorded logs
  pub bytes : payload ≡ Some (next_bytes script info round logs)

-- why none is available
abbrev pub IsUnavailable : Script → (l : ℕ) → Life → (epoch j request : ℕ) → Why → Type 0
IsUnavailable script l life epoch j request Following = life_follows (alone script) l life epoch ≡ true
IsUnavailable script l life epoch j request Finished =
    (life_follows (alone script) l life epoch ≡ false)
    × IsSomeAnd (event_of_step life j) (λ event. (number : ℕ) × (b : Block directory.Unit) × (event ≡ Final number) × (slice_get (blocks_in script) number ≡ Some b) × IsTakenLast script l life (j - 1) b)
IsUnavailable script l life epoch j request Short = IsShortAt script life epoch request j
IsUnavailable script l life epoch j request Terminal = ⊥
IsUnavailable script l life epoch j request Held = ⊥
IsUnavailable script l life epoch j request why = IsRefusedAt script life epoch request j why

-- what an answer of step j says, which begins while this epoch is awaited: of which request it is, and what it is made of or why there is none
abbrev pub IsAnsweredSo : Script → (l : ℕ) → Life → (epoch j request : ℕ) → AnswerLine → Type 0
IsAnsweredSo script l life epoch j request (Available payload) = IsAskedFor script l life epoch j request × IsMadeOf script l life epoch j request payload
IsAnsweredSo script l life epoch j request (Unavailable why) = IsAskedFor script l life epoch j request × IsUnavailable script l life epoch j request why

abbrev pub IsAnswer : Script → Progress → Entry → Type 0
IsAnswer script p (Answer request answer) =
    IsSomeAnd (slice_get script.lives (length p.cuts)) (λ life. IsAnsweredSo script (length p.cuts) life (awaited_epoch (alone script) (length p.cuts) life (p.step - 1)) p.step request answer)
IsAnswer script p _ = Unit {0}

-- each entry is so, over what was written before it (the clause `answers` of the promise, beside `blamed`: it speaks of no device)
abbrev pub AnswersSo : Script → List Entry → Type 0
AnswersSo script out = (files : Files) (held : Secrets) → AtEachEntry (setting_of script files held) (IsAnswer script) out

-- OVER DEVICES THAT TELL, where the script has a whole history (dkg_script's History)

-- the chain, as a node's blocks
abbrev pub IsOfChain : Setting → (height : ℕ) → Block directory.Unit → Type 0
IsOfChain s height b = chain s height ≡ Some (seen_block unit_spelling b)

-- the answer is what follows the script's info of the epoch by the logs of a path of the request
pub record IsFromPath (s : Setting) (l : ℕ) (life : Life) (j request : ℕ) (payload : Option (List ℕ)) : Type 0 where
  pub epoch : ℕ
  pub epoch_is : epoch ≡ awaited_epoch s l life (j - 1)
  pub info : EpochInfo directory.Unit
  pub known : known_info s epoch ≡ Some (with_spelled unit_spelling info)
  pub round : Round
  pub round_is : round_by s.script epoch info ≡ Ok round
  pub path : List (Block directory.Unit)
  pub path_is : IsPathOf s.script (IsOfChain s) epoch (fed_in s.script life request j) path
  pub bytes : payload ≡ Some (next_bytes s.script info round (logs_of_path check_log_of (midpoint (per_epoch s.script) epoch) (last (per_epoch s.script) epoch) round path))

abbrev pub IsPathAnswer : Setting → Progress → Entry → Type 0
IsPathAnswer s p (Answer request (Available payload)) = IsSomeAnd (life_at s (length p.cuts)) (λ life. IsFromPath s (length p.cuts) life p.step request payload)
IsPathAnswer s p _ = Unit {0}

-- THE CLAUSE `paths` of the promise: of the entries that a run adds, whatever ends it, where the script as it was cut has a whole history and each dealing that was handed in has its private half
abbrev pub AnswersThePath : Script → Files → Secrets → List Entry → Type 0
AnswersThePath script files held out = let s = setting_as_cut script files held out in
    IsFormOfInclusion s.script → IsWholeHistory s (progress s out).cuts → IsWhole (entries s.files) s.secrets → AtEachEntry s (IsPathAnswer s) out
