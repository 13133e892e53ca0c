-- A ceremony that succeeds: the final block commits this node's share, and the next setup deals with it. (The outcome is given: the stand-in's
-- weights search for inverses, which is more than a check computes.)
use Rattle.std.proofs.Common.{◌≡◌, [], ◌∷◌, Some, None, Ok, refl}
use Rattle.std.specs.Prelude.{replicate}
use Rattle.sha2.specs.Sha256.{first_words, schedule, rounds, compress, hash_after, digest_bytes, sha256}
use Rattle.dkg_values.specs.Uint.{groups}
use Rattle.dkg_ceremony.specs.declared.mode.Mode.TheVariants.{NonZeroCounter}
use Rattle.dkg_ceremony.specs.declared.output.Output.{Output}
use Rattle.dkg_ceremony.specs.declared.phase.Phase.TheVariants.{Early}
use Rattle.dkg_ceremony.specs.AgreementTest.{agreed}
use Rattle.dkg_ceremony.specs.Deals.{deal_of, coefficient_of, fresh_seed}
use Rattle.dkg_ceremony.specs.Polynomials.{value_at}
use Rattle.dkg_ceremony.specs.Rounds.{round_of}
use Rattle.dkg_types.specs.Blocks.{Block}
use Rattle.dkg_infos.specs.declared.entry.Entry.TheVariants.{Committed, Registered, Setup, Entered, Acked}
use Rattle.dkg_infos.specs.declared.entry.Part.TheVariants.{Both, Player}
use Rattle.dkg_infos.specs.declared.entry.Role.TheVariants.{Signer, Member}
use Rattle.dkg_types.specs.declared.payload.Payload.TheVariants as payloads
use Rattle.dkg_infos.specs.NextInfos.{info_by}
use Rattle.dkg_infos.specs.Validation.{validation}
use Rattle.dkg_store.specs.Acts.{OnDisk, Changes}
use Rattle.dkg_journal.specs.Operations.{Prunes}
use Rattle.dkg_secrets.specs.declared.secrets.SecretOp.TheVariants.{PutShare, PutSeed, Prune}
use Rattle.dkg_core.specs.Fixed.{stand_in}
use Rattle.dkg_core.specs.Live.{Delivers}
use Rattle.dkg_laws.proofs.Lives.{Life, plays}
use Rattle.dkg_laws.proofs.Worked.{Dir, life_of, above, configured, genesis, carrying, block, info, keys, last_of}

-- the output 5 - 18x - x², whose value at key 1's point is 65507
abbrev pub next_output : Output
next_output = record {
  summary = replicate 8 9;
  sharing = record { mode = NonZeroCounter; total = 4; poly = 5 ∷ 65503 ∷ 65520 ∷ [] };
  dealers = keys;
  players = keys;
  revealed = [];
  agree = agreed 4 (5 ∷ 65503 ∷ 65520 ∷ []) keys [] refl;
}

-- the tip stands at height 6
abbrev pub over_six : Life Dir
over_six = record (above 6 (6 ∷ []) (life_of 8 0 (genesis ∷ []))) {
  given = record (configured 8 0) {
    rules = record stand_in { outcome_of = λ round logs. Some next_output; finish_of = λ round me dealings logs. Ok (Some (next_output, 65507)) };
  };
}

abbrev pub final : Block Dir
final = block 7 (6 ∷ []) (Some (payloads.EpochInfo (info_by over_six.given.provided (info 0) (Some next_output))))

pub succeeds : last_of (plays over_six (Delivers final ∷ []))
    ≡ record {
      lines = Committed 1 (Some 65507) ∷ Registered 1 Signer ∷ Setup 1 Early Both ∷ Entered 1 ∷ Acked 7 ∷ [];
      operations = Changes (PutShare 1 65507) ∷ Changes (PutSeed 1 (fresh_seed 9 1)) ∷ OnDisk (Prunes 0) ∷ Changes (Prune 0) ∷ [];
      calls = 3;
      fault = None;
    }
unfolding validation round_of value_at deal_of coefficient_of first_words schedule rounds compress hash_after digest_bytes sha256 fresh_seed groups
succeeds = refl

-- where the block carries another info, the share isn't committed
pub differs : last_of (plays over_six (Delivers (carrying 7 1 (6 ∷ [])) ∷ []))
    ≡ record {
      lines = Committed 1 None ∷ Registered 1 Member ∷ Setup 1 Early Player ∷ Entered 1 ∷ Acked 7 ∷ [];
      operations = Changes (PutSeed 1 (fresh_seed 9 1)) ∷ OnDisk (Prunes 0) ∷ Changes (Prune 0) ∷ [];
      calls = 2;
      fault = None;
    }
unfolding validation round_of value_at deal_of coefficient_of first_words schedule rounds compress hash_after digest_bytes sha256 fresh_seed groups
differs = refl
