-- Worked values: keys 1 to 4, their output, infos, blocks, and this node's configuration.
use Rattle.std.proofs.Common.{ℕ, zero, suc, List, [], ◌∷◌, Option, Some, None, true, refl}
use Rattle.std.specs.Prelude.{◌+◌}
use Rattle.dkg_types.specs.FinalizationCodes.{is_certified}
use Rattle.dkg_ceremony.specs.AgreementTest.{agreed}
use Rattle.dkg_ceremony.specs.declared.mode.Mode.TheVariants.{NonZeroCounter}
use Rattle.dkg_ceremony.specs.declared.mode.Reveal.TheVariants.{V1}
use Rattle.dkg_ceremony.specs.declared.output.Output.{Output}
use Rattle.dkg_ceremony.specs.declared.phase.Phase.TheVariants.{Early}
use Rattle.dkg_types.specs.Blocks.{Block}
use Rattle.dkg_infos.specs.declared.directory.Unit as directory
use Rattle.dkg_infos.specs.declared.entry.Entry.{Entry}
use Rattle.dkg_infos.specs.declared.entry.Entry.TheVariants.{Opened, Committed, Registered, Setup, Recorded, Ack, Entered}
use Rattle.dkg_infos.specs.declared.entry.Part.TheVariants.{Player}
use Rattle.dkg_infos.specs.declared.entry.Role.TheVariants.{Member}
use Rattle.dkg_infos.specs.declared.fault.Fault.{Fault}
use Rattle.dkg_types.specs.declared.finalization.Finalization.{Finalization}
use Rattle.dkg_infos.specs.declared.info.EpochInfo.{EpochInfo}
use Rattle.dkg_infos.specs.declared.outcome.EpochOutcome.TheVariants.{Success, Failure}
use Rattle.dkg_types.specs.declared.payload.Payload.{Payload}
use Rattle.dkg_types.specs.declared.payload.Payload.TheVariants as payloads
use Rattle.dkg_infos.specs.Units.{unit_at, unit_spelling}
use Rattle.dkg_store.specs.Acts.{Operation, OnDisk, Changes}
use Rattle.dkg_journal.specs.Operations.{Bars, Opens, Appends, Prunes}
use Rattle.dkg_secrets.specs.declared.secrets.SecretOp.TheVariants.{PutSeed, PutDealing, Prune}
use Rattle.dkg_core.specs.Sources.{Absent, source_of}
use Rattle.dkg_ceremony.specs.Deals.{fresh_seed}
use Rattle.dkg_core.specs.Fixed.{Fixed, stand_in}
use Rattle.dkg_core.specs.Live.{NodeStop, Faulted}
use Rattle.dkg_laws.proofs.Lives.{Life}
use Rattle.dkg_laws.proofs.Mirror.{mirrored, Outcome}

abbrev pub Dir : Type 0
Dir = directory.Unit

abbrev pub keys : List ℕ
keys = 1 ∷ 2 ∷ 3 ∷ 4 ∷ []

abbrev pub output : Output
output = record {
  summary = 0 ∷ 0 ∷ 0 ∷ 0 ∷ 0 ∷ 0 ∷ 0 ∷ 0 ∷ [];
  sharing = record { mode = NonZeroCounter; total = 4; poly = 5 ∷ 1 ∷ 2 ∷ [] };
  dealers = keys;
  players = keys;
  revealed = [];
  agree = agreed 4 (5 ∷ 1 ∷ 2 ∷ []) keys [] refl;
}

-- the info of epoch 0, and of a later epoch that carries its output on
abbrev pub info : ℕ → EpochInfo Dir
info zero = record { outcome = Success; epoch = 0; output = output; players = keys; next_players = keys; directory = record {} }
info (suc e) = record { outcome = Failure; epoch = suc e; output = output; players = keys; next_players = keys; directory = record {} }

abbrev pub block_with : (digest : List ℕ) → (height : ℕ) → (parent : List ℕ) → Option (Payload Dir) → Block Dir
block_with digest height parent payload = record {
  context = record { epoch = 0; view = 0; leader = 0; parent_view = 0; parent = parent };
  parent = parent;
  height = height;
  payload = payload;
  digest = digest;
}

-- a block whose digest is its height
abbrev pub block : (height : ℕ) → (parent : List ℕ) → Option (Payload Dir) → Block Dir
block height parent payload = block_with (height ∷ []) height parent payload

-- one that carries nothing
abbrev pub plain : (height : ℕ) → (parent : List ℕ) → Block Dir
plain height parent = block height parent None

abbrev pub carrying : (height epoch : ℕ) → List ℕ → Block Dir
carrying height epoch parent = block height parent (Some (payloads.EpochInfo (info epoch)))

abbrev pub genesis : Block Dir
genesis = carrying 0 0 (0 ∷ [])

-- no block has a finalization
abbrev pub unsealed : Block Dir → Option Finalization
unsealed b = None

-- the inner application builds a block on the parent with the payload
abbrev pub built : Block Dir → Option (Payload Dir) → Option (Block Dir)
built parent payload = Some (block (parent.height + 1) parent.digest payload)

-- this node is key 1; the provider's sets are all four keys
abbrev pub configured : (blocks : ℕ) → (life : ℕ) → Fixed Dir
configured blocks life = record {
  me = 1;
  blocks_per_epoch = blocks;
  limit = 4;
  version = 0;
  mode = NonZeroCounter;
  reveal = V1;
  namespace = [];
  oneshot = None;
  rules = stand_in;
  directories = record { spelling = unit_spelling; read = λ peers. unit_at; matches = λ d peers. true; lacking = λ d peers. None };
  provided = record { participants = λ epoch. keys; directory = λ epoch peers. record {} };
  seen = mirrored;
  inner = record { prepared = built; proposed = built; accepts = λ ancestry. true };
  probed = record { snapshot = None; certifies = is_certified 0 };
  life = life;
  word = 9;
  material = None;
  opening_calls = 0;
  source = source_of unsealed None [] [];
}

abbrev pub life_of : (blocks : ℕ) → (life : ℕ) → List (Block Dir) → Life Dir
life_of blocks life held = record { given = configured blocks life; sealed = unsealed; anchor = None; held = held }

-- a life whose source tells a position: the block at this height was processed, and only its child is there
abbrev pub above : (height : ℕ) → (digest : List ℕ) → Life Dir → Life Dir
above height digest life = record life { anchor = Some (record { processed = Absent height; block = block_with (100 ∷ []) (height + 1) digest None }) }

abbrev pub says : List Entry → Outcome NodeStop
says lines = record { lines = lines; operations = []; calls = 0; fault = None }

abbrev pub stops : Fault → Outcome NodeStop
stops fault = record { lines = []; operations = []; calls = 0; fault = Some (Faulted fault) }

-- the last of the replies
abbrev pub last_of : List (Outcome NodeStop) → Outcome NodeStop
last_of [] = says []
last_of (r ∷ []) = r
last_of (r ∷ r' ∷ rs) = last_of (r' ∷ rs)

-- what a setup of an epoch says that is new to this member, and its operations
abbrev pub set_up : (epoch : ℕ) → List Entry
set_up epoch = Committed epoch None ∷ Registered epoch Member ∷ Setup epoch Early Player ∷ Entered epoch ∷ []

abbrev pub of_setup : (epoch min : ℕ) → List Operation
of_setup epoch min = Changes (PutSeed epoch (fresh_seed 9 epoch)) ∷ OnDisk (Prunes min) ∷ Changes (Prune min) ∷ []

-- the first opening of a member of epoch 0
abbrev pub opens : Outcome NodeStop
opens = record { lines = Opened 0 [] ∷ set_up 0; operations = OnDisk Bars ∷ OnDisk (Opens 0) ∷ of_setup 0 0; calls = 3; fault = None }

-- BYTES

-- dealer 2's dealing 15 + 7x + x² to key 1, and 15 + 9x + x²
abbrev pub dealt : List ℕ
dealt = 0 ∷ 3 ∷ 0 ∷ 15 ∷ 0 ∷ 7 ∷ 0 ∷ 1 ∷ 0 ∷ 23 ∷ []

abbrev pub dealt_again : List ℕ
dealt_again = 0 ∷ 3 ∷ 0 ∷ 15 ∷ 0 ∷ 9 ∷ 0 ∷ 1 ∷ 0 ∷ 25 ∷ []

-- key 1's acknowledgements of the first in epoch 0 and in epoch 1
abbrev pub ack_of_dealt : List ℕ
ack_of_dealt = 0x13 ∷ 0x48 ∷ 0x84 ∷ 0x48 ∷ 0x6F ∷ 0x93 ∷ 0x7D ∷ 0x35 ∷ []

abbrev pub ack_of_next : List ℕ
ack_of_next = 0x90 ∷ 0xF5 ∷ 0x18 ∷ 0xA4 ∷ 0x88 ∷ 0xF4 ∷ 0x71 ∷ 0xAA ∷ []

-- the journal's body of the record of dealer 2's dealing
abbrev pub body : List ℕ
body = 0 ∷ 0 ∷ 0 ∷ 0 ∷ 2 ∷ 3 ∷ 0 ∷ 15 ∷ 0 ∷ 7 ∷ 0 ∷ 1 ∷ []

-- the dealing is recorded in an epoch and acknowledged
abbrev pub records : (epoch : ℕ) → (calls : ℕ) → (ack : List ℕ) → Outcome NodeStop
records epoch calls ack = record {
  lines = Recorded epoch 2 (15 ∷ 7 ∷ 1 ∷ []) 23 ∷ Ack epoch 2 ack ∷ [];
  operations = Changes (PutDealing epoch 2 23) ∷ OnDisk (Appends (epoch, body)) ∷ [];
  calls = calls;
  fault = None;
}
