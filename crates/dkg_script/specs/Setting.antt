-- What a run is judged against: the script, what the devices held as the call began, and one case of what the plan held.
use Rattle.std.specs.Prelude.{ℕ, Bool, List, [], Option, is_some, slice_get, max, length}
use Rattle.std.specs.Option.{option_flatten, option_map_or}
use Rattle.std.specs.Int.NonZero.{non_zero_u32_get, non_zero_u64_get}
use Rattle.dkg_journal.specs.Names.{Files}
use Rattle.dkg_journal.specs.Records.{entries}
use Rattle.dkg_store.specs.Pairs.{Pairs, recovered}
use Rattle.dkg_secrets.specs.Secrets.{Secrets}
use Rattle.dkg_text.specs.declared.script.Life.{Life}
use Rattle.dkg_text.specs.declared.script.Script.{Script}
use Rattle.dkg_script.specs.Readings.{Limits, SyncMaterial}

pub record Setting : Type 0 where
  pub script : Script
  -- what the devices held as the call began
  pub files : Files
  pub secrets : Secrets
  -- one case of the start material that the plan held as each life opened
  pub plans : List (Option SyncMaterial)

abbrev pub setting_of : Script → Files → Secrets → Setting
setting_of script files secrets = record { script = script; files = files; secrets = secrets; plans = [] }

abbrev pub me : Setting → ℕ
me s = s.script.config.me

abbrev pub blocks_per_epoch : Setting → ℕ
blocks_per_epoch s = non_zero_u64_get s.script.config.blocks_per_epoch

abbrev pub is_oneshot : Setting → Bool
is_oneshot s = is_some s.script.config.oneshot

-- under which the node reads: in one-shot mode the limit is the number of participants, and at least 1
abbrev pub limits : Setting → Limits
limits s = record {
  limit = option_map_or (λ participants. max 1 (length participants)) s.script.config.oneshot (non_zero_u32_get s.script.config.limit);
  version = s.script.config.max_mode.0;
  addressed = s.script.addressed;
}

abbrev pub life_at : Setting → ℕ → Option Life
life_at s l = slice_get s.script.lives l

-- the stored start material that the life finds
abbrev pub found : Setting → ℕ → Option SyncMaterial
found s l = option_flatten (slice_get s.plans l)

-- where the transcript says that a life was cut: within or before this step, at this device call (0: before it)
pub record CutAt : Type 0 where
  pub step : ℕ
  pub call : ℕ

-- the dealings that devices of this content give back
abbrev pub recovered_from : Files → Secrets → Pairs
recovered_from files secrets = recovered (entries files) secrets
