-- How long spellings are at most.
use Rattle.std.proofs.Common.{◌≡◌, ℕ, ◌+◌, ◌*◌, ◌^◌, ◌<◌, ◌≤◌, Bool, Option, Some, None, List, [], ◌∷◌, ◌++◌, length, refl, ap, arith, length-append}
use Rattle.std.specs.Int.{w16, w32, to_be_bytes}
use Rattle.std.specs.List.{flat_map, AllByRecursion}
use Rattle.std.proofs.lemmas.List.Concat.{flat_map-cons}
use Rattle.dkg_values.specs.Uint.{uint}
use Rattle.dkg_values.specs.UintGrammar.{uint_narrow, uint_short}
use Rattle.dkg_values.specs.Joined.{BothFit, both_spelled}
use Rattle.dkg_values.specs.Lists.{public_spelling}
use Rattle.dkg_ceremony.specs.declared.log_entry.LogEntry.{LogEntry}
use Rattle.dkg_ceremony.specs.declared.log_entry.LogEntry.TheVariants as log_entry
use Rattle.dkg_ceremony.specs.declared.dealer_log.DealerLog as log
use Rattle.dkg_ceremony.specs.declared.signed_log.SignedDealerLog.{SignedDealerLog}
use Rattle.dkg_ceremony.specs.LogEntries.{EntryFits, entry_spelling, EntriesFit, entries_spelling}
use Rattle.dkg_ceremony.specs.Logs.{LogFits, log_spelling, SignedFits, signed_spelling}
use Rattle.dkg_types.specs.declared.message.Message.{Message}
use Rattle.dkg_types.specs.declared.message.Message.TheVariants.{Dealer, Ack}
use Rattle.dkg_types.specs.declared.payload.Payload.{Payload}
use Rattle.dkg_types.specs.declared.payload.Payload.TheVariants.{DealerLog, EpochInfo}
use Rattle.dkg_types.specs.BlockCodes.{BlockFits, block_bytes, block_spelling, ContextFits, context_bytes, FlaggedFits, flagged_bytes}
use Rattle.dkg_types.specs.FinalizationCodes.{FinalizationFits, finalization_spelling}
use Rattle.dkg_infos.specs.InfoCodes.{InfoFits, info_spelling}
use Rattle.dkg_types.specs.MessageCodes.{MessageFits, message_spelling}
use Rattle.dkg_types.specs.PayloadCodes.{PayloadFits, payload_spelling}
use Rattle.dkg_infos.specs.InfoBounds.{IsBound, public_bound, length_three}

entry_bound : (e : LogEntry) → EntryFits e → length (entry_spelling e) ≤ 9
entry_bound (log_entry.Ack ack) fit = omega (arith, fit)
entry_bound (log_entry.Reveal private) fit = omega arith

each_bound : (es : List LogEntry) → AllByRecursion EntryFits es → length (flat_map entry_spelling es) ≤ 9 * length es
each_bound [] all = omega arith
each_bound (e ∷ es) all = omega (arith, ap length (flat_map-cons entry_spelling e es), length-append (entry_spelling e) (flat_map entry_spelling es), entry_bound e all.0, each_bound es all.1)

entries_bound : (most : ℕ) (es : List LogEntry) → EntriesFit most es → length (entries_spelling es) ≤ 5 + 9 * most
entries_bound most es fit = omega (arith, fit.in_bound, length-append (uint (length es)) (flat_map entry_spelling es), uint_narrow (length es) fit.small, each_bound es fit.each)

log_bound : (most : ℕ) (log : log.DealerLog) → LogFits most log → length (log_spelling log) ≤ 10 + 11 * most
log_bound most log fit = omega (arith, length-append (public_spelling log.public) (entries_spelling log.entries), public_bound most log.public fit.one, entries_bound most log.entries fit.other)

pub signed_bound : (most : ℕ) (s : SignedDealerLog) → SignedFits most s → length (signed_spelling s) ≤ 22 + 11 * most
signed_bound most s fit = omega (arith, length_three (to_be_bytes w32 s.dealer) (log_spelling s.log) s.mark, log_bound most s.log fit.other.one, fit.other.other)

payload_within : {Dir : Type 0} (fits : List ℕ → Dir → Type 0) (spelling : Dir → List ℕ) (matches : Dir → List ℕ → Bool) (most version bound : ℕ) → 22 + 11 * most ≤ bound → IsBound (InfoFits fits matches most version) (info_spelling spelling) bound → (p : Payload Dir) → PayloadFits fits matches most version p → length (payload_spelling spelling p) ≤ 1 + bound
payload_within fits spelling matches most version bound enough b (DealerLog s) fit = omega (arith, enough, signed_bound most s fit)
payload_within fits spelling matches most version bound enough b (EpochInfo i) fit = omega (arith, b.within i fit)

pub payload_bound : {Dir : Type 0} (fits : List ℕ → Dir → Type 0) (spelling : Dir → List ℕ) (matches : Dir → List ℕ → Bool) (most version bound : ℕ) → 22 + 11 * most ≤ bound → IsBound (InfoFits fits matches most version) (info_spelling spelling) bound → IsBound (PayloadFits fits matches most version) (payload_spelling spelling) (1 + bound)
payload_bound fits spelling matches most version bound enough b = record { within = λ p fit. payload_within fits spelling matches most version bound enough b p fit }

message_within : (most : ℕ) → 1 ≤ most → (m : Message) → MessageFits most m → length (message_spelling m) ≤ 8 + 2 * most
message_within most some (Dealer public private) fit = omega (arith, length-append (public_spelling public) (to_be_bytes w16 private), public_bound most public fit.one)
message_within most some (Ack ack) fit = omega (arith, fit)

pub message_bound : (most : ℕ) → 1 ≤ most → IsBound (MessageFits most) message_spelling (8 + 2 * most)
message_bound most some = record { within = λ m fit. message_within most some m fit }

-- an epoch and a message
pub channel_bound : (most bound : ℕ) → IsBound (MessageFits most) message_spelling bound → IsBound (BothFit (λ n. n < 2 ^ 64) (MessageFits most)) (both_spelled uint message_spelling) (10 + bound)
channel_bound most bound b = record { within = λ p fit. omega (arith, length-append (uint p.0) (message_spelling p.1), uint_short p.0, b.within p.1 fit.other) }

length_five : (a b c d e : List ℕ) → length (a ++ b ++ c ++ d ++ e) ≡ length a + length b + length c + length d + length e
length_five a b c d e = simp length-append refl

pub context_bound : IsBound ContextFits context_bytes 66
context_bound = record {
  within = λ c fit. omega (arith, length_five (uint c.epoch) (uint c.view) (to_be_bytes w32 c.leader) (uint c.parent_view) c.parent, uint_short c.epoch, uint_short c.view, uint_short c.parent_view, fit.other.other.other.other);
}

pub finalization_bound : IsBound FinalizationFits finalization_spelling 70
finalization_bound = record {
  within = λ f fit. omega (arith, length_five (uint f.epoch) (uint f.view) (uint f.parent_view) f.payload f.certificate, uint_short f.epoch, uint_short f.view, uint_short f.parent_view, fit.other.other.other.one, fit.other.other.other.other);
}

flagged_within : {Dir : Type 0} (fits : Payload Dir → Type 0) (spelling : Dir → List ℕ) (bound : ℕ) → IsBound fits (payload_spelling spelling) bound → (payload : Option (Payload Dir)) → FlaggedFits fits payload → length (flagged_bytes spelling payload) ≤ 1 + bound
flagged_within fits spelling bound b None fit = omega arith
flagged_within fits spelling bound b (Some payload) fit = omega (arith, b.within payload fit)

length_four : (a b c d : List ℕ) → length (a ++ b ++ c ++ d) ≡ length a + length b + length c + length d
length_four a b c d = simp length-append refl

pub block_bound : {Dir : Type 0} (fits : Payload Dir → Type 0) (spelling : Dir → List ℕ) (bound : ℕ) → IsBound fits (payload_spelling spelling) bound → IsBound (BlockFits fits spelling) (block_spelling spelling) (109 + bound)
unfolding block_bytes
block_bound fits spelling bound b = record {
  within = λ block fit.
      omega (
        arith,
        length_four (context_bytes block.context) block.parent (uint block.height) (flagged_bytes spelling block.payload),
        context_bound.within block.context fit.parts.one.one,
        fit.parts.one.other.one,
        uint_short block.height,
        flagged_within fits spelling bound b block.payload fit.parts.other,
      );
}
