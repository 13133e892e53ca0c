-- Worked rows of delivered blocks: over a tip, a one-shot ceremony, and state sync.
use Rattle.std.proofs.Common.{◌≡◌, ℕ, List, [], ◌∷◌, Some, None, refl}
use Rattle.std.specs.Prelude.{replicate}
use Rattle.dkg_values.specs.Bytes.{byte_at}
use Rattle.dkg_values.specs.Codec.{many_at}
use Rattle.dkg_values.specs.Lists.{keys_at}
use Rattle.dkg_values.specs.Uint.{groups, groups_at}
use Rattle.dkg_ceremony.specs.declared.phase.Phase.TheVariants.{Early, Midpoint, Late}
use Rattle.dkg_ceremony.specs.Deals.{deal_of, fresh_seed}
use Rattle.dkg_ceremony.specs.Finishes.{finish_of}
use Rattle.dkg_ceremony.specs.Modes.{mode_at}
use Rattle.dkg_ceremony.specs.Outcomes.{selected_of, outcome_of}
use Rattle.dkg_ceremony.specs.Rounds.{round_of}
use Rattle.dkg_types.specs.Blocks.{Block}
use Rattle.dkg_infos.specs.declared.entry.AnswerLine.TheVariants.{Unavailable}
use Rattle.dkg_infos.specs.declared.entry.Entry.TheVariants.{Opened, Committed, Registered, Setup, Entered, Halted, Acked, Answer, Completed}
use Rattle.dkg_infos.specs.declared.entry.Part.TheVariants.{Player, Follow}
use Rattle.dkg_infos.specs.declared.entry.Role.TheVariants.{Member}
use Rattle.dkg_infos.specs.declared.entry.Why.TheVariants.{Following}
use Rattle.dkg_infos.specs.declared.fault.Fault.TheVariants.{ConflictingBlock, DetachedBlock, SkippedHeight, FloorBlockMissing, StateSyncMaterial}
use Rattle.dkg_infos.specs.InfoCodes.{info_output_at, parts_at}
use Rattle.dkg_infos.specs.OutcomeCodes.{outcome_after}
use Rattle.dkg_infos.specs.Validation.{validation}
use Rattle.dkg_store.specs.Acts.{OnDisk, Changes}
use Rattle.dkg_journal.specs.Operations.{Bars, Opens, PutsPlan, ClearsPlan}
use Rattle.dkg_secrets.specs.declared.secrets.SecretOp.TheVariants.{PutSeed}
use Rattle.dkg_core.specs.Fixed.{Material}
use Rattle.dkg_core.specs.Live.{Reshare, Delivers, EpochInfoOf, Faulted}
use Rattle.dkg_core.specs.Plans.{material_bytes}
use Rattle.dkg_laws.proofs.Mirror.{holding_plan}
use Rattle.dkg_laws.proofs.Lives.{Life, plays, plays_over}
use Rattle.dkg_laws.proofs.Worked.{Dir, life_of, above, configured, genesis, plain, block_with, info, of_setup, says, stops, last_of}

-- OVER A TIP: the other block of height 2, its child, and what stands above

abbrev pub over_two : Life Dir
over_two = above 2 (2 ∷ []) (life_of 8 0 (genesis ∷ []))

pub conflicting : last_of (plays over_two (Delivers (block_with (22 ∷ []) 2 (1 ∷ []) None) ∷ [])) ≡ stops (ConflictingBlock 2)
unfolding validation round_of
conflicting = refl

pub detached : last_of (plays over_two (Delivers (plain 3 (22 ∷ [])) ∷ [])) ≡ stops (DetachedBlock 3)
unfolding validation round_of
detached = refl

pub skipped : last_of (plays over_two (Delivers (plain 4 (3 ∷ [])) ∷ [])) ≡ stops (SkippedHeight 3 4)
unfolding validation round_of
skipped = refl

pub redelivered : last_of (plays over_two (Delivers (plain 1 (0 ∷ [])) ∷ [])) ≡ says (Acked 1 ∷ [])
unfolding validation round_of
redelivered = refl

-- ONE-SHOT

abbrev pub once : Life Dir
once = record (life_of 1 0 []) { given = record (configured 1 0) { oneshot = Some (record { participants = 1 ∷ []; directory = record {} }); limit = 1 } }

pub eleven : plays once (Delivers (plain 0 (0 ∷ [])) ∷ [])
    ≡ record { lines = Opened 0 [] ∷ Setup 0 Midpoint Player ∷ []; operations = OnDisk Bars ∷ OnDisk (Opens 0) ∷ Changes (PutSeed 0 (fresh_seed 9 0)) ∷ []; calls = 2; fault = None }
    ∷ says (Completed None ∷ Acked 0 ∷ []) ∷ []
unfolding validation round_of finish_of selected_of outcome_of deal_of
eleven = refl

-- STATE SYNC

abbrev pub floor_at : ℕ → Material Dir
floor_at height = record {
  info = info 0;
  floor = record { epoch = 0; view = 4; parent_view = 0; payload = replicate 32 height; certificate = replicate 8 0 };
}

abbrev pub floor_block : ℕ → Block Dir
floor_block height = block_with (replicate 32 height) height (height ∷ height ∷ []) None

abbrev pub synced : ℕ → List (Block Dir) → Life Dir
synced height held = record (life_of 8 0 held) { given = record (configured 8 0) { material = Some (floor_at height) } }

pub sixteen : plays (synced 4 (floor_block 4 ∷ [])) []
    ≡ record {
      lines = Opened 0 [] ∷ Registered 0 Member ∷ Committed 0 None ∷ Registered 0 Member ∷ Setup 0 Midpoint Player ∷ Entered 0 ∷ [];
      operations = OnDisk Bars ∷ OnDisk (Opens 0) ∷ OnDisk (PutsPlan (material_bytes (configured 8 0) (floor_at 4))) ∷ of_setup 0 0;
      calls = 4;
      fault = None;
    } ∷ []
unfolding validation round_of parts_at info_output_at outcome_after mode_at byte_at many_at keys_at groups_at groups
sixteen = refl

-- a floor that lies late
pub sixteen_late : plays (synced 5 (floor_block 5 ∷ [])) (Reshare (EpochInfoOf 1) ∷ [])
    ≡ record {
      lines = Opened 0 [] ∷ Registered 0 Member ∷ Committed 0 None ∷ Registered 0 Member ∷ Setup 0 Late Follow ∷ Entered 0 ∷ [];
      operations = OnDisk Bars ∷ OnDisk (Opens 0) ∷ OnDisk (PutsPlan (material_bytes (configured 8 0) (floor_at 5))) ∷ of_setup 0 0;
      calls = 4;
      fault = None;
    } ∷ says (Answer 1 (Unavailable Following) ∷ []) ∷ []
unfolding validation round_of parts_at info_output_at outcome_after mode_at byte_at many_at keys_at groups_at groups
sixteen_late = refl

-- .. whose block isn't held
pub sixteen_missing : plays (synced 5 []) []
    ≡ record {
      lines = Opened 0 [] ∷ Registered 0 Member ∷ [];
      operations = OnDisk Bars ∷ OnDisk (Opens 0) ∷ OnDisk (PutsPlan (material_bytes (configured 8 0) (floor_at 5))) ∷ [];
      calls = 2;
      fault = Some (Faulted FloorBlockMissing);
    } ∷ []
unfolding validation round_of parts_at info_output_at outcome_after mode_at byte_at many_at keys_at groups_at groups
sixteen_missing = refl

-- stored material of an epoch that the source has left is deleted
pub outdated : last_of (plays_over (holding_plan (material_bytes (configured 8 0) (floor_at 4))) (above 7 (7 ∷ []) (life_of 8 0 [])) [])
    ≡ record { lines = Opened 0 [] ∷ Setup 1 Early Follow ∷ Halted ∷ []; operations = OnDisk Bars ∷ OnDisk (Opens 0) ∷ OnDisk ClearsPlan ∷ []; calls = 2; fault = None }
unfolding validation round_of parts_at info_output_at outcome_after mode_at byte_at many_at keys_at groups_at groups
outdated = refl

-- stored material is found again, and gives what provided material gave
pub stored : plays_over (holding_plan (material_bytes (configured 8 0) (floor_at 4))) (life_of 8 0 (floor_block 4 ∷ [])) []
    ≡ record {
      lines = Opened 0 [] ∷ Registered 0 Member ∷ Committed 0 None ∷ Registered 0 Member ∷ Setup 0 Midpoint Player ∷ Entered 0 ∷ [];
      operations = OnDisk Bars ∷ OnDisk (Opens 0) ∷ of_setup 0 0;
      calls = 3;
      fault = None;
    } ∷ []
unfolding validation round_of parts_at info_output_at outcome_after mode_at byte_at many_at keys_at groups_at groups
stored = refl

-- material that is above the limit is refused before any call for it
pub refused : plays (record (life_of 8 0 (floor_block 4 ∷ [])) { given = record (configured 8 0) { material = Some (floor_at 4); limit = 3 } }) []
    ≡ record { lines = Opened 0 [] ∷ []; operations = OnDisk Bars ∷ OnDisk (Opens 0) ∷ []; calls = 1; fault = Some (Faulted StateSyncMaterial) } ∷ []
unfolding validation round_of parts_at info_output_at outcome_after mode_at byte_at many_at keys_at groups_at groups
refused = refl
