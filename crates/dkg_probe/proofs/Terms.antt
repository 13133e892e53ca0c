-- A probe's terms, over what a directory's type says.
use Rattle.std.proofs.Common.{ℕ, Bool, List}
use Rattle.std.specs.Int.NonZero.{non_zero_u32_get}
use Rattle.dkg_values.specs.Codec.{Reading}
use Rattle.dkg_types.specs.BlockCodes.{block_at, block_payload_at}
use Rattle.dkg_types.specs.declared.finalization.Finalization.{Finalization}
use Rattle.dkg_probe.specs.declared.state.Terms.{Terms}
use Rattle.dkg_probe.specs.Probing.{ProbeFixed}

abbrev pub given : {S Cfg Dir : Type 0} → (S → Finalization → Bool) → (Dir → List ℕ) → (Cfg → List ℕ → Reading Dir) → (List ℕ → Cfg) → (Dir → List ℕ → Bool) → Terms S Dir → ProbeFixed Dir
given verifies spelling read config_of matches t = record {
  bootstrap = t.bootstrap;
  genesis = t.genesis;
  blocks_per_epoch = t.epocher;
  certifies = verifies t.verifier;
  spelling = spelling;
  read = block_at spelling (block_payload_at (λ (peers : List ℕ). read (config_of peers)) matches (non_zero_u32_get t.limits.0) t.limits.1.0);
}
