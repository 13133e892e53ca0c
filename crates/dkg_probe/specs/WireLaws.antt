-- What the bytes of requests and responses are, over all bytes and all messages.
use Rattle.std.specs.Prelude.{◌≡◌, ◌⊎◌, ◌↔◌, ℕ, ◌<◌, ◌^◌, List, ◌∷◌, ◌++◌, Option, Some, None, Ok}
use Rattle.dkg_values.specs.Codec.{IsBytes}
use Rattle.dkg_values.specs.Uint.{uint}
use Rattle.dkg_types.specs.FinalizationCodes.{finalization_spelling, FinalizationFits}
use Rattle.dkg_probe.specs.declared.wire.Message.{Message}
use Rattle.dkg_probe.specs.declared.wire.Request.{Request}
use Rattle.dkg_probe.specs.declared.wire.Request.TheVariants as request
use Rattle.dkg_probe.specs.Wire.{ProbeReply, BoundaryReply, BlockReply, LatestReply, request_of, reply_of, probe_message_spelling, ProbeMessageFits, request_asked_by, answered_by}

abbrev pub BeginsWith : ℕ → List ℕ → Type 0
BeginsWith first bytes = (rest : List ℕ) × (bytes ≡ first ∷ rest)

-- The bytes that ask for this. What asks for nothing is a response's, by its first byte.
abbrev pub SpellsRequest : List ℕ → Option Request → Type 0
SpellsRequest bytes (Some (request.Boundary epoch)) = (epoch < 2 ^ 64) × (bytes ≡ 0 ∷ uint epoch)
SpellsRequest bytes (Some (request.Block epoch)) = (epoch < 2 ^ 64) × (bytes ≡ 2 ∷ uint epoch)
SpellsRequest bytes (Some request.Latest) = BeginsWith 4 bytes
SpellsRequest bytes None = BeginsWith 1 bytes ⊎ (BeginsWith 3 bytes ⊎ BeginsWith 5 bytes)

-- The bytes that answer this. What answers nothing is a request's, by its first byte.
abbrev pub SpellsReply : List ℕ → Option ProbeReply → Type 0
SpellsReply bytes (Some (BoundaryReply f)) = FinalizationFits f × (bytes ≡ 1 ∷ finalization_spelling f)
SpellsReply bytes (Some (BlockReply epoch body)) = (epoch < 2 ^ 64) × (bytes ≡ 3 ∷ (uint epoch ++ body))
SpellsReply bytes (Some (LatestReply f)) = FinalizationFits f × (bytes ≡ 5 ∷ finalization_spelling f)
SpellsReply bytes None = BeginsWith 0 bytes ⊎ (BeginsWith 2 bytes ⊎ BeginsWith 4 bytes)

-- some bytes are read as a request exactly where they spell it
abbrev pub AreRequests : Type 0
AreRequests = (bytes : List ℕ) (asked : Option Request) → IsBytes bytes → (request_of bytes ≡ Ok asked) ↔ SpellsRequest bytes asked

-- some bytes are read as a response exactly where they spell it
abbrev pub AreReplies : Type 0
AreReplies = (bytes : List ℕ) (answered : Option ProbeReply) → IsBytes bytes → (reply_of bytes ≡ Ok answered) ↔ SpellsReply bytes answered

-- a message is read as what it asks, and as what it answers
abbrev pub IsMessageReadAgain : {Dir Cfg : Type 0} → (Dir → List ℕ) → Message Dir Cfg → Type 0
IsMessageReadAgain spelling m = (request_of (probe_message_spelling spelling m) ≡ Ok (request_asked_by m)) × (reply_of (probe_message_spelling spelling m) ≡ Ok (answered_by spelling m))

abbrev pub AreReadAgain : {Dir : Type 0} → (Cfg : Type 0) → (Dir → List ℕ) → Type 0
AreReadAgain {Dir} Cfg spelling = (m : Message Dir Cfg) → ProbeMessageFits (λ _. Unit {0}) m → IsMessageReadAgain spelling m
