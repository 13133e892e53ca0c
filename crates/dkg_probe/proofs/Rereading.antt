-- What was written is read again, and what is read was written so.
use Rattle.std.proofs.Common.{◌≡◌, inl, inr, ℕ, zero, suc, ◌<◌, ◌^◌, List, [], ◌∷◌, ◌++◌, Option, Some, None, Result, Ok, Err, refl, sym, ap, subst, ◌∙◌}
use Rattle.std.proofs.lemmas.List.{append-nil}
use Rattle.dkg_values.specs.declared.codec.CodecError.{CodecError}
use Rattle.dkg_values.specs.Bytes.{byte_at}
use Rattle.dkg_values.specs.Codec.{IsBytes, whole}
use Rattle.dkg_values.specs.Grammar.{decoded_found}
use Rattle.dkg_values.specs.Uint.{uint}
use Rattle.dkg_values.specs.UintGrammar.{u64_grammar}
use Rattle.dkg_types.specs.BlockCodes.{block_spelling}
use Rattle.dkg_types.specs.FinalizationCodes.{finalization_at, finalization_spelling, FinalizationFits, finalization_grammar}
use Rattle.dkg_types.specs.Blocks.{Block}
use Rattle.dkg_types.specs.declared.finalization.Finalization.{Finalization}
use Rattle.dkg_probe.specs.declared.wire.Message.TheVariants.{BoundaryRequest, BoundaryResponse, BlockRequest, BlockResponse, LatestRequest, LatestResponse}
use Rattle.dkg_probe.specs.declared.wire.Message.{Message}
use Rattle.dkg_probe.specs.declared.wire.Request.{Request}
use Rattle.dkg_probe.specs.declared.wire.Request.TheVariants as request
use Rattle.dkg_probe.specs.Wire.{tag_after, epoch_number_at, found_as, request_of, reply_of, ProbeReply, BoundaryReply, BlockReply, LatestReply, block_reply, probe_message_spelling, ProbeMessageFits, request_asked_by, answered_by}
use Rattle.dkg_probe.specs.WireLaws.{SpellsRequest, SpellsReply, AreRequests, AreReplies, AreReadAgain}

number_whole : (n : ℕ) → n < 2 ^ 64 → whole (epoch_number_at (uint n)) ≡ Ok n
number_whole n small = ap (λ (bytes : List ℕ). whole (epoch_number_at bytes)) (sym (append-nil (uint n))) ∙ ap whole (u64_grammar.again n [] small)

finalization_whole : (f : Finalization) → FinalizationFits f → whole (finalization_at (finalization_spelling f)) ≡ Ok f
finalization_whole f fit = ap (λ (bytes : List ℕ). whole (finalization_at bytes)) (sym (append-nil (finalization_spelling f))) ∙ ap whole (finalization_grammar.again f [] fit)

-- ---- messages

requests_again : {Dir Cfg : Type 0} (block_fits : Block Dir → Type 0) (spelling : Dir → List ℕ) (m : Message Dir Cfg) → ProbeMessageFits block_fits m → request_of (probe_message_spelling spelling m) ≡ Ok (request_asked_by m)
unfolding byte_at tag_after
requests_again block_fits spelling (BoundaryRequest epoch) fit = ap (found_as request.Boundary) (number_whole epoch fit)
requests_again block_fits spelling (BoundaryResponse f) fit = refl
requests_again block_fits spelling (BlockRequest epoch) fit = ap (found_as request.Block) (number_whole epoch fit)
requests_again block_fits spelling (BlockResponse epoch block) fit = refl
requests_again block_fits spelling LatestRequest fit = refl
requests_again block_fits spelling (LatestResponse f) fit = refl

responses_again : {Dir Cfg : Type 0} (block_fits : Block Dir → Type 0) (spelling : Dir → List ℕ) (m : Message Dir Cfg) → ProbeMessageFits block_fits m → reply_of (probe_message_spelling spelling m) ≡ Ok (answered_by spelling m)
unfolding byte_at tag_after
responses_again block_fits spelling (BoundaryRequest epoch) fit = refl
responses_again block_fits spelling (BoundaryResponse f) fit = ap (found_as BoundaryReply) (finalization_whole f fit)
responses_again block_fits spelling (BlockRequest epoch) fit = refl
responses_again block_fits spelling (BlockResponse epoch block) fit = ap (found_as block_reply) (u64_grammar.again epoch (block_spelling spelling block) fit.0)
responses_again block_fits spelling LatestRequest fit = refl
responses_again block_fits spelling (LatestResponse f) fit = ap (found_as LatestReply) (finalization_whole f fit)

pub messages_again : {Dir : Type 0} (Cfg : Type 0) (spelling : Dir → List ℕ) → AreReadAgain Cfg spelling
messages_again {Dir} Cfg spelling m fit = (requests_again (λ (b : Block Dir). Unit {0}) spelling m fit, responses_again (λ (b : Block Dir). Unit {0}) spelling m fit)

-- ---- bytes

-- a value that was read
found : {A B : Type 0} (f : A → B) (reading : Result A CodecError) (o : Option B) → found_as f reading ≡ Ok o → (a : A) × (reading ≡ Ok a) × (o ≡ Some (f a))
found f (Ok a) o e = (a, refl, cc)
found f (Err d) o e = absurd cc

number_found : (bytes : List ℕ) (n : ℕ) → IsBytes bytes → whole (epoch_number_at bytes) ≡ Ok n → (n < 2 ^ 64) × (bytes ≡ uint n)
number_found bytes n are e = decoded_found (λ n. n < 2 ^ 64) uint epoch_number_at u64_grammar bytes are (Ok n) e

finalization_found : (bytes : List ℕ) (f : Finalization) → IsBytes bytes → whole (finalization_at bytes) ≡ Ok f → FinalizationFits f × (bytes ≡ finalization_spelling f)
finalization_found bytes f are e = decoded_found FinalizationFits finalization_spelling finalization_at finalization_grammar bytes are (Ok f) e

later : (b : ℕ) (rest : List ℕ) → IsBytes (b ∷ rest) → IsBytes rest
later b rest are i = are (suc i)

is_none : {A : Type 0} (o : Option A) → ◌≡◌ {A = Result (Option A) CodecError} (Ok None) (Ok o) → o ≡ None
is_none o e = cc

is_latest : (o : Option Request) → ◌≡◌ {A = Result (Option Request) CodecError} (Ok (Some request.Latest)) (Ok o) → o ≡ Some request.Latest
is_latest o e = cc

spelled : (bytes : List ℕ) (a b : Option Request) → b ≡ a → SpellsRequest bytes a → SpellsRequest bytes b
spelled bytes a b same is = subst (λ (o : Option Request). SpellsRequest bytes o) (sym same) is

requests_found : (bytes : List ℕ) (asked : Option Request) → IsBytes bytes → request_of bytes ≡ Ok asked → SpellsRequest bytes asked
unfolding byte_at tag_after
requests_found [] asked are e = absurd cc
requests_found (zero ∷ rest) asked are e =
    let f = found request.Boundary (whole (epoch_number_at rest)) asked e in
    let n = number_found rest f.0 (later zero rest are) f.1 in
    spelled (zero ∷ rest) (Some (request.Boundary f.0)) asked f.2 (n.0, ap (λ (bs : List ℕ). 0 ∷ bs) n.1)
requests_found (suc zero ∷ rest) asked are e = spelled (1 ∷ rest) None asked (is_none asked e) (inl (rest, refl))
requests_found (suc (suc zero) ∷ rest) asked are e =
    let f = found request.Block (whole (epoch_number_at rest)) asked e in
    let n = number_found rest f.0 (later 2 rest are) f.1 in
    spelled (2 ∷ rest) (Some (request.Block f.0)) asked f.2 (n.0, ap (λ (bs : List ℕ). 2 ∷ bs) n.1)
requests_found (suc (suc (suc zero)) ∷ rest) asked are e = spelled (3 ∷ rest) None asked (is_none asked e) (inr (inl (rest, refl)))
requests_found (suc (suc (suc (suc zero))) ∷ rest) asked are e = spelled (4 ∷ rest) (Some request.Latest) asked (is_latest asked e) (rest, refl)
requests_found (suc (suc (suc (suc (suc zero)))) ∷ rest) asked are e = spelled (5 ∷ rest) None asked (is_none asked e) (inr (inr (rest, refl)))
requests_found (suc (suc (suc (suc (suc (suc n))))) ∷ rest) asked are e = absurd cc

-- the reading of bytes that are these
at : {A : Type 0} (read : List ℕ → Result A CodecError) (bytes text : List ℕ) (a : A) → bytes ≡ text → read text ≡ Ok a → read bytes ≡ Ok a
at read bytes text a is e = ap read is ∙ e

request_starts : (rest : List ℕ) → (request_of (1 ∷ rest) ≡ Ok None) × (request_of (3 ∷ rest) ≡ Ok None) × (request_of (5 ∷ rest) ≡ Ok None) × (request_of (4 ∷ rest) ≡ Ok (Some request.Latest))
unfolding byte_at tag_after
request_starts rest = (refl, refl, refl, refl)

asks_boundary : (epoch : ℕ) → epoch < 2 ^ 64 → request_of (0 ∷ uint epoch) ≡ Ok (Some (request.Boundary epoch))
unfolding byte_at tag_after
asks_boundary epoch small = ap (found_as request.Boundary) (number_whole epoch small)

asks_block : (epoch : ℕ) → epoch < 2 ^ 64 → request_of (2 ∷ uint epoch) ≡ Ok (Some (request.Block epoch))
unfolding byte_at tag_after
asks_block epoch small = ap (found_as request.Block) (number_whole epoch small)

requests_spelled : (bytes : List ℕ) (asked : Option Request) → SpellsRequest bytes asked → request_of bytes ≡ Ok asked
requests_spelled bytes (Some (request.Boundary epoch)) is = at request_of bytes (0 ∷ uint epoch) (Some (request.Boundary epoch)) is.1 (asks_boundary epoch is.0)
requests_spelled bytes (Some (request.Block epoch)) is = at request_of bytes (2 ∷ uint epoch) (Some (request.Block epoch)) is.1 (asks_block epoch is.0)
requests_spelled bytes (Some request.Latest) is = at request_of bytes (4 ∷ is.0) (Some request.Latest) is.1 (request_starts is.0).3
requests_spelled bytes None (inl is) = at request_of bytes (1 ∷ is.0) None is.1 (request_starts is.0).0
requests_spelled bytes None (inr (inl is)) = at request_of bytes (3 ∷ is.0) None is.1 (request_starts is.0).1
requests_spelled bytes None (inr (inr is)) = at request_of bytes (5 ∷ is.0) None is.1 (request_starts is.0).2

pub are_requests : AreRequests
are_requests bytes asked are = (requests_found bytes asked are, requests_spelled bytes asked)

answers : (bytes : List ℕ) (a b : Option ProbeReply) → b ≡ a → SpellsReply bytes a → SpellsReply bytes b
answers bytes a b same is = subst (λ (o : Option ProbeReply). SpellsReply bytes o) (sym same) is

replies_found : (bytes : List ℕ) (answered : Option ProbeReply) → IsBytes bytes → reply_of bytes ≡ Ok answered → SpellsReply bytes answered
unfolding byte_at tag_after
replies_found [] answered are e = absurd cc
replies_found (zero ∷ rest) answered are e = answers (0 ∷ rest) None answered (is_none answered e) (inl (rest, refl))
replies_found (suc zero ∷ rest) answered are e =
    let f = found BoundaryReply (whole (finalization_at rest)) answered e in
    let n = finalization_found rest f.0 (later 1 rest are) f.1 in
    answers (1 ∷ rest) (Some (BoundaryReply f.0)) answered f.2 (n.0, ap (λ (bs : List ℕ). 1 ∷ bs) n.1)
replies_found (suc (suc zero) ∷ rest) answered are e = answers (2 ∷ rest) None answered (is_none answered e) (inr (inl (rest, refl)))
replies_found (suc (suc (suc zero)) ∷ rest) answered are e =
    let f = found block_reply (epoch_number_at rest) answered e in
    let n = u64_grammar.found rest f.0.0 f.0.1 (later 3 rest are) f.1 in
    answers (3 ∷ rest) (Some (BlockReply f.0.0 f.0.1)) answered f.2 (n.0, ap (λ (bs : List ℕ). 3 ∷ bs) n.1)
replies_found (suc (suc (suc (suc zero))) ∷ rest) answered are e = answers (4 ∷ rest) None answered (is_none answered e) (inr (inr (rest, refl)))
replies_found (suc (suc (suc (suc (suc zero)))) ∷ rest) answered are e =
    let f = found LatestReply (whole (finalization_at rest)) answered e in
    let n = finalization_found rest f.0 (later 5 rest are) f.1 in
    answers (5 ∷ rest) (Some (LatestReply f.0)) answered f.2 (n.0, ap (λ (bs : List ℕ). 5 ∷ bs) n.1)
replies_found (suc (suc (suc (suc (suc (suc n))))) ∷ rest) answered are e = absurd cc

reply_starts : (rest : List ℕ) → (reply_of (0 ∷ rest) ≡ Ok None) × (reply_of (2 ∷ rest) ≡ Ok None) × (reply_of (4 ∷ rest) ≡ Ok None)
unfolding byte_at tag_after
reply_starts rest = (refl, refl, refl)

gives_boundary : (f : Finalization) → FinalizationFits f → reply_of (1 ∷ finalization_spelling f) ≡ Ok (Some (BoundaryReply f))
unfolding byte_at tag_after
gives_boundary f fit = ap (found_as BoundaryReply) (finalization_whole f fit)

gives_latest : (f : Finalization) → FinalizationFits f → reply_of (5 ∷ finalization_spelling f) ≡ Ok (Some (LatestReply f))
unfolding byte_at tag_after
gives_latest f fit = ap (found_as LatestReply) (finalization_whole f fit)

gives_block : (epoch : ℕ) (body : List ℕ) → epoch < 2 ^ 64 → reply_of (3 ∷ (uint epoch ++ body)) ≡ Ok (Some (BlockReply epoch body))
unfolding byte_at tag_after
gives_block epoch body small = ap (found_as block_reply) (u64_grammar.again epoch body small)

replies_spelled : (bytes : List ℕ) (answered : Option ProbeReply) → SpellsReply bytes answered → reply_of bytes ≡ Ok answered
replies_spelled bytes (Some (BoundaryReply f)) is = at reply_of bytes (1 ∷ finalization_spelling f) (Some (BoundaryReply f)) is.1 (gives_boundary f is.0)
replies_spelled bytes (Some (BlockReply epoch body)) is = at reply_of bytes (3 ∷ (uint epoch ++ body)) (Some (BlockReply epoch body)) is.1 (gives_block epoch body is.0)
replies_spelled bytes (Some (LatestReply f)) is = at reply_of bytes (5 ∷ finalization_spelling f) (Some (LatestReply f)) is.1 (gives_latest f is.0)
replies_spelled bytes None (inl is) = at reply_of bytes (0 ∷ is.0) None is.1 (reply_starts is.0).0
replies_spelled bytes None (inr (inl is)) = at reply_of bytes (2 ∷ is.0) None is.1 (reply_starts is.0).1
replies_spelled bytes None (inr (inr is)) = at reply_of bytes (4 ∷ is.0) None is.1 (reply_starts is.0).2

pub are_replies : AreReplies
are_replies bytes answered are = (replies_found bytes answered are, replies_spelled bytes answered)
