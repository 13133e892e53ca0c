-- What a probe that serves says: what is held, in its bytes, to whoever asked for it.
use Rattle.std.specs.Prelude.{◌≡◌, ℕ, List, ◌∷◌, ◌++◌, Some, Ok, Err}
use Rattle.dkg_values.specs.Uint.{uint}
use Rattle.dkg_values.specs.declared.codec.CodecError.{CodecError}
use Rattle.dkg_types.specs.BlockCodes.{block_spelling}
use Rattle.dkg_types.specs.Blocks.{Block}
use Rattle.dkg_types.specs.FinalizationCodes.{finalization_spelling}
use Rattle.dkg_infos.specs.declared.entry.BlockedWhy.TheVariants as why
use Rattle.dkg_infos.specs.declared.entry.Entry.{Entry}
use Rattle.dkg_infos.specs.declared.entry.Entry.TheVariants.{Blocked, Sent}
use Rattle.dkg_types.specs.declared.finalization.Finalization.{Finalization}
use Rattle.dkg_probe.specs.declared.event.Event.{Event}
use Rattle.dkg_probe.specs.declared.event.Event.TheVariants.{Subscribe, Unsubscribe, Attach, Peer, Retry}
use Rattle.dkg_probe.specs.declared.wire.Request.{Request}
use Rattle.dkg_probe.specs.declared.wire.Request.TheVariants as request
use Rattle.dkg_probe.specs.Probing.{ProbeFixed, begins_at}
use Rattle.dkg_probe.specs.Sources.{ProbeSource}
use Rattle.dkg_probe.specs.Wire.{request_of}

-- The bytes answer a request by what is held: the latest finalization, or that of the block that begins an epoch, or that block.
abbrev pub HoldsFor : {Dir : Type 0} → ProbeFixed Dir → ProbeSource Dir → Request → List ℕ → Type 0
HoldsFor c source request.Latest bytes = (f : Finalization) × (source.latest ≡ Some f) × (bytes ≡ 5 ∷ finalization_spelling f)
HoldsFor c source (request.Boundary epoch) bytes =
    (height : ℕ) × (f : Finalization) × (begins_at c.blocks_per_epoch epoch ≡ Some height) × (source.finalization height ≡ Some f)
    × (bytes ≡ 1 ∷ finalization_spelling f)
HoldsFor {Dir} c source (request.Block epoch) bytes =
    (height : ℕ) × (b : Block Dir) × (begins_at c.blocks_per_epoch epoch ≡ Some height) × (source.block height ≡ Some b)
    × (bytes ≡ 3 ∷ (uint epoch ++ block_spelling c.spelling b))

-- The asker alone is answered, by what is held for its request, or blocked, where its bytes are no message.
abbrev pub AnswersAsker : {Dir : Type 0} → ProbeFixed Dir → ProbeSource Dir → (peer : ℕ) → List ℕ → Entry → Type 0
AnswersAsker c source peer asked (Sent (Some to) bytes) = (to ≡ peer) × ((r : Request) × (request_of asked ≡ Ok (Some r)) × HoldsFor c source r bytes)
AnswersAsker c source peer asked (Blocked from why.Reply) = (from ≡ peer) × ((e : CodecError) × (request_of asked ≡ Err e))
AnswersAsker c source peer asked line = ⊥

-- of an entry that is said at an event: there is none but at a peer's message
abbrev pub Serves : {Dir : Type 0} → ProbeFixed Dir → ProbeSource Dir → Event → Entry → Type 0
Serves c source Subscribe line = ⊥
Serves c source Unsubscribe line = ⊥
Serves c source Attach line = ⊥
Serves c source (Peer from bytes) line = AnswersAsker c source from bytes line
Serves c source Retry line = ⊥
