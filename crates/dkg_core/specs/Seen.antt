-- What a read of both devices gives, as plain lists.
use Rattle.std.specs.Prelude.{ℕ, List, Option}
use Rattle.std.specs.FinMap as maps
use Rattle.dkg_store.specs.Acts.{Held, notes, plan}
use Rattle.dkg_store.specs.Noted.{acks_in, logs_in}
use Rattle.dkg_store.specs.Pairs.{recovered}
use Rattle.dkg_store.specs.Recorded.{Pair}
use Rattle.dkg_store.specs.declared.recorded_log.RecordedLog.{RecordedLog}

-- By epoch, or by epoch and key, rising: the dealings of which both halves are there, the acknowledgements, the logs with the heights of
-- their blocks, the shares and the seeds; and the bytes of the plan.
pub record Seen : Type 0 where
  pub dealings : List Pair
  pub acks : List ((ℕ × ℕ) × List ℕ)
  pub logs : List ((ℕ × ℕ) × RecordedLog)
  pub shares : List (ℕ × ℕ)
  pub seeds : List (ℕ × List ℕ)
  pub plan : Option (List ℕ)

-- the one that is meant
abbrev pub seen_in : Held → Seen
seen_in h = record {
  dealings = maps.entries (recovered (notes h) h.secrets);
  acks = maps.entries (acks_in (notes h));
  logs = maps.entries (logs_in (notes h));
  shares = maps.entries h.secrets.shares;
  seeds = maps.entries h.secrets.seeds;
  plan = plan h;
}
