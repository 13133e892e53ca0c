-- What a life has recorded of an epoch's logs where it counts them: first ones of the chain, and all of them up to its tip.
use Rattle.std.specs.Prelude.{ℕ, ◌≡◌, ◌<◌, Some, List}
use Rattle.std.specs.FinMap.{entries, get}
use Rattle.dkg_ceremony.specs.Outcomes.{LogMap}
use Rattle.dkg_ceremony.specs.Schedule.{last, midpoint}
use Rattle.dkg_ceremony.specs.ValidLogs.{check_log_of}
use Rattle.dkg_ceremony.specs.declared.round.RoundParts.{RoundParts as Round}
use Rattle.dkg_store.specs.Noted.{Notes}
use Rattle.dkg_store.specs.Recorded.{is_reached}
use Rattle.dkg_store.specs.declared.recorded_log.RecordedLog.{RecordedLog}
use Rattle.dkg_types.specs.Blocks as made
use Rattle.dkg_types.specs.Paths.{logs_of_path}
use Rattle.dkg_infos.specs.declared.directory.Unit as directory
use Rattle.dkg_text.specs.declared.script.Life.{Life}
use Rattle.dkg_script.specs.Position.{awaited_epoch, awaited_height_after}
use Rattle.dkg_script.specs.Setting.{Setting, blocks_per_epoch, life_at}
use Rattle.dkg_core.specs.Live.{Live}
use Rattle.dkg_core.specs.Sources.{Tip}
use Rattle.dkg_promises.specs.Answers.{IsOfChain}
use Rattle.dkg_lives.specs.Asks.{IsPathOf, fed_in}
use Rattle.dkg_lives.specs.Blamed.{per_epoch}
use Rattle.dkg_lives.proofs.ChainLogs.{brings_of}
use Rattle.dkg_lives.proofs.FirstLogs.{AreFirst}

abbrev U : Type 0
U = directory.Unit

module _ (s : Setting) where
  -- It lies below the start of each life that comes to the epoch.
  abbrev pub IsEarly : (epoch height : ℕ) → Type 0
  IsEarly epoch height = (l j : ℕ) (life : Life) → life_at s l ≡ Some life → awaited_epoch s l life j ≡ epoch → height < awaited_height_after s l life 0

  -- RECORDED UP TO THE TIP, of a life x in this epoch and round
  pub record IsRecordedTo (epoch : ℕ) (round : Round) (x : Live U) : Type 0 where
    pub m : Notes RecordedLog
    pub memory : x.records.logs ≡ entries m
    pub first : (t : Tip) → x.tip ≡ Some t
        → AreFirst (brings_of s epoch round) (λ (n : RecordedLog). n.log) (λ d. get m (epoch, d)) t.height (is_reached (midpoint (blocks_per_epoch s) epoch) (Some t.height))

  -- BY A PATH: these logs are those of a path of the request, by what it was fed by the first j events of the life
  pub record IsByPath (life : Life) (epoch request j : ℕ) (round : Round) (logs : LogMap) : Type 0 where
    pub path : List (made.Block U)
    pub path_is : IsPathOf s.script (IsOfChain s) epoch (fed_in s.script life request j) path
    pub logs_are : logs ≡ logs_of_path check_log_of (midpoint (per_epoch s.script) epoch) (last (per_epoch s.script) epoch) round path
