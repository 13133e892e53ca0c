-- Messages of the probe as bytes.
use Rattle.std.proofs.Common.{◌≡◌, ℕ, zero, suc, ◌+◌, ◌-◌, ◌<◌, ◌≤◌, ◌^◌, List, [], ◌++◌, length, Option, Some, None, Result, Ok, Err, arith, length-append}
use Rattle.std.specs.Prelude.{if◌then◌else◌}
use Rattle.std.specs.Str.{bytes_eq}
use Rattle.dkg_values.specs.declared.codec.CodecError.{CodecError}
use Rattle.dkg_values.specs.declared.codec.CodecError.TheVariants.{InvalidEnum, Invalid}
use Rattle.dkg_values.specs.declared.codec.What.TheVariants as what
use Rattle.dkg_values.specs.Bytes.{tagged, tagged_at}
use Rattle.dkg_values.specs.Codec.{Reading, Fails, whole, ◌>>=◌}
use Rattle.dkg_values.specs.Joined.{seen_at}
use Rattle.dkg_values.specs.Uint.{uint, uint_at}
use Rattle.dkg_values.specs.UintGrammar.{uint_short}
use Rattle.dkg_types.specs.Variants.{no_bytes, nothing_at}
use Rattle.dkg_infos.specs.InfoBounds.{IsBound}
use Rattle.dkg_types.specs.Bounds.{finalization_bound}
use Rattle.dkg_types.specs.BlockCodes.{block_spelling}
use Rattle.dkg_types.specs.FinalizationCodes.{finalization_at, finalization_spelling, FinalizationFits}
use Rattle.dkg_types.specs.Blocks.{Block}
use Rattle.dkg_types.specs.declared.finalization.Finalization.{Finalization}
use Rattle.dkg_probe.specs.declared.wire.Tag.{Tag}
use Rattle.dkg_probe.specs.declared.wire.Tag.TheVariants as tag
use Rattle.dkg_probe.specs.declared.wire.Request.{Request}
use Rattle.dkg_probe.specs.declared.wire.Request.TheVariants as request
use Rattle.dkg_probe.specs.declared.wire.Response.{Response}
use Rattle.dkg_probe.specs.declared.wire.Response.TheVariants as response
use Rattle.dkg_probe.specs.declared.wire.Message.{Message}
use Rattle.dkg_probe.specs.declared.wire.Message.TheVariants.{BoundaryRequest, BoundaryResponse, BlockRequest, BlockResponse, LatestRequest, LatestResponse}

-- ---- the first byte

abbrev pub tag_byte : Tag → ℕ
tag_byte tag.BoundaryRequest = 0
tag_byte tag.BoundaryResponse = 1
tag_byte tag.BlockRequest = 2
tag_byte tag.BlockResponse = 3
tag_byte tag.LatestRequest = 4
tag_byte tag.LatestResponse = 5

abbrev pub tag_spelling : Tag → List ℕ
tag_spelling = tagged tag_byte no_bytes

unfoldable pub tag_after : ℕ → List ℕ → Reading Tag
tag_after zero = seen_at (λ _. tag.BoundaryRequest) nothing_at
tag_after (suc zero) = seen_at (λ _. tag.BoundaryResponse) nothing_at
tag_after (suc (suc zero)) = seen_at (λ _. tag.BlockRequest) nothing_at
tag_after (suc (suc (suc zero))) = seen_at (λ _. tag.BlockResponse) nothing_at
tag_after (suc (suc (suc (suc zero)))) = seen_at (λ _. tag.LatestRequest) nothing_at
tag_after (suc (suc (suc (suc (suc zero))))) = seen_at (λ _. tag.LatestResponse) nothing_at
tag_after (suc (suc (suc (suc (suc (suc n)))))) = λ _. Err (InvalidEnum (suc (suc (suc (suc (suc (suc n)))))))

abbrev pub tag_at : List ℕ → Reading Tag
tag_at = tagged_at tag_after

-- ---- what is read

abbrev pub epoch_number_at : List ℕ → Reading ℕ
epoch_number_at = uint_at (2 ^ 64 - 1)

-- a value that was read, as one of those that are looked for
abbrev pub found_as : {A B : Type 0} → (A → B) → Result A CodecError → Result (Option B) CodecError
found_as f (Ok a) = Ok (Some (f a))
found_as f (Err e) = Err e

abbrev pub request_after : Tag → List ℕ → Result (Option Request) CodecError
request_after tag.BoundaryRequest rest = found_as request.Boundary (whole (epoch_number_at rest))
request_after tag.BoundaryResponse rest = Ok None
request_after tag.BlockRequest rest = found_as request.Block (whole (epoch_number_at rest))
request_after tag.BlockResponse rest = Ok None
request_after tag.LatestRequest rest = Ok (Some request.Latest)
request_after tag.LatestResponse rest = Ok None

-- what some bytes ask for; none where they are a response's
abbrev pub request_of : List ℕ → Result (Option Request) CodecError
request_of bytes = tag_at bytes >>= λ t. request_after t.0 t.1

-- what a response says, as lists
pub data ProbeReply : Type 0 where
  BoundaryReply : Finalization → ProbeReply
  BlockReply : (epoch : ℕ) → (body : List ℕ) → ProbeReply
  LatestReply : Finalization → ProbeReply

abbrev pub block_reply : ℕ × List ℕ → ProbeReply
block_reply p = BlockReply p.0 p.1

abbrev pub reply_after : Tag → List ℕ → Result (Option ProbeReply) CodecError
reply_after tag.BoundaryRequest rest = Ok None
reply_after tag.BoundaryResponse rest = found_as BoundaryReply (whole (finalization_at rest))
reply_after tag.BlockRequest rest = Ok None
reply_after tag.BlockResponse rest = found_as block_reply (epoch_number_at rest)
reply_after tag.LatestRequest rest = Ok None
reply_after tag.LatestResponse rest = found_as LatestReply (whole (finalization_at rest))

-- what some bytes answer; none where they are a request's
abbrev pub reply_of : List ℕ → Result (Option ProbeReply) CodecError
reply_of bytes = tag_at bytes >>= λ t. reply_after t.0 t.1

-- a block of this digest
abbrev pub with_commitment : {Dir : Type 0} → (commitment : List ℕ) → Result (Block Dir) CodecError → Result (Block Dir) CodecError
with_commitment commitment (Ok b) = if bytes_eq b.digest commitment then Ok b else Err (Invalid what.Commitment)
with_commitment commitment (Err e) = Err e

abbrev pub said_by : Response → ProbeReply
said_by (response.Boundary f) = BoundaryReply f
said_by (response.Block epoch body) = BlockReply epoch body.now
said_by (response.Latest f) = LatestReply f

-- what a call answered is what reading gives, unless memory ran out
abbrev pub AnswersReply : Result (Option ProbeReply) CodecError → Result (Option Response) CodecError → Type 0
AnswersReply reading (Ok None) = reading ≡ Ok None
AnswersReply reading (Ok (Some r)) = reading ≡ Ok (Some (said_by r))
AnswersReply reading (Err e) = Fails e reading

-- ---- what is written

abbrev pub probe_message_tag : {Dir Cfg : Type 0} → Message Dir Cfg → ℕ
probe_message_tag (BoundaryRequest epoch) = 0
probe_message_tag (BoundaryResponse f) = 1
probe_message_tag (BlockRequest epoch) = 2
probe_message_tag (BlockResponse epoch block) = 3
probe_message_tag LatestRequest = 4
probe_message_tag (LatestResponse f) = 5

abbrev pub probe_message_body : {Dir Cfg : Type 0} → (Dir → List ℕ) → Message Dir Cfg → List ℕ
probe_message_body spelling (BoundaryRequest epoch) = uint epoch
probe_message_body spelling (BoundaryResponse f) = finalization_spelling f
probe_message_body spelling (BlockRequest epoch) = uint epoch
probe_message_body spelling (BlockResponse epoch block) = uint epoch ++ block_spelling spelling block
probe_message_body spelling LatestRequest = []
probe_message_body spelling (LatestResponse f) = finalization_spelling f

abbrev pub probe_message_spelling : {Dir Cfg : Type 0} → (Dir → List ℕ) → Message Dir Cfg → List ℕ
probe_message_spelling spelling = tagged probe_message_tag (probe_message_body spelling)

-- what it carries fits
abbrev pub ProbeMessageFits : {Dir Cfg : Type 0} → (Block Dir → Type 0) → Message Dir Cfg → Type 0
ProbeMessageFits block_fits (BoundaryRequest epoch) = epoch < 2 ^ 64
ProbeMessageFits block_fits (BoundaryResponse f) = FinalizationFits f
ProbeMessageFits block_fits (BlockRequest epoch) = epoch < 2 ^ 64
ProbeMessageFits block_fits (BlockResponse epoch block) = (epoch < 2 ^ 64) × block_fits block
ProbeMessageFits block_fits LatestRequest = Unit {0}
ProbeMessageFits block_fits (LatestResponse f) = FinalizationFits f

message_within : {Dir Cfg : Type 0} (block_fits : Block Dir → Type 0) (spelling : Dir → List ℕ) (bound most : ℕ) → 71 ≤ most → 11 + bound ≤ most → IsBound block_fits (block_spelling spelling) bound → (m : Message Dir Cfg) → ProbeMessageFits block_fits m → length (probe_message_spelling spelling m) ≤ most
message_within block_fits spelling bound most long wide b (BoundaryRequest epoch) fit = omega (arith, uint_short epoch)
message_within block_fits spelling bound most long wide b (BoundaryResponse f) fit = omega (arith, finalization_bound.within f fit)
message_within block_fits spelling bound most long wide b (BlockRequest epoch) fit = omega (arith, uint_short epoch)
message_within block_fits spelling bound most long wide b (BlockResponse epoch block) fit = omega (arith, length-append (uint epoch) (block_spelling spelling block), uint_short epoch, b.within block fit.1)
message_within block_fits spelling bound most long wide b LatestRequest fit = omega arith
message_within block_fits spelling bound most long wide b (LatestResponse f) fit = omega (arith, finalization_bound.within f fit)

-- no message is longer than a finalization's, or a block's, with what stands before
pub probe_message_bound : {Dir Cfg : Type 0} (block_fits : Block Dir → Type 0) (spelling : Dir → List ℕ) (bound most : ℕ) → 71 ≤ most → 11 + bound ≤ most → IsBound block_fits (block_spelling spelling) bound → IsBound (ProbeMessageFits {Cfg = Cfg} block_fits) (probe_message_spelling spelling) most
probe_message_bound block_fits spelling bound most long wide b = record { within = message_within block_fits spelling bound most long wide b }

-- a message that was written is read as what it asks or answers
abbrev pub request_asked_by : {Dir Cfg : Type 0} → Message Dir Cfg → Option Request
request_asked_by (BoundaryRequest epoch) = Some (request.Boundary epoch)
request_asked_by (BoundaryResponse f) = None
request_asked_by (BlockRequest epoch) = Some (request.Block epoch)
request_asked_by (BlockResponse epoch block) = None
request_asked_by LatestRequest = Some request.Latest
request_asked_by (LatestResponse f) = None

abbrev pub answered_by : {Dir Cfg : Type 0} → (Dir → List ℕ) → Message Dir Cfg → Option ProbeReply
answered_by spelling (BoundaryRequest epoch) = None
answered_by spelling (BoundaryResponse f) = Some (BoundaryReply f)
answered_by spelling (BlockRequest epoch) = None
answered_by spelling (BlockResponse epoch block) = Some (BlockReply epoch (block_spelling spelling block))
answered_by spelling LatestRequest = None
answered_by spelling (LatestResponse f) = Some (LatestReply f)
