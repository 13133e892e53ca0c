-- Dealers' logs as bytes.
use Rattle.std.proofs.Common.{◌≡◌, ℕ, ◌^◌, ◌<◌, List, ◌++◌, length, refl, append_assoc}
use Rattle.std.specs.Int.{w32, to_be_bytes}
use Rattle.dkg_values.specs.Bytes.{bytes_at, bytes_grammar}
use Rattle.dkg_values.specs.Codec.{Reading, IsGrammar, number_at}
use Rattle.dkg_values.specs.Joined.{beside_at, beside_grammar, BothFit, both_spelled, seen_at, seen_grammar}
use Rattle.dkg_values.specs.Lists.{public_at, public_spelling, PublicFits}
use Rattle.dkg_values.specs.ListGrammar.{be32_grammar, public_grammar}
use Rattle.dkg_ceremony.specs.declared.log_entry.LogEntry.{LogEntry}
use Rattle.dkg_ceremony.specs.declared.dealer_log.DealerLog.{DealerLog}
use Rattle.dkg_ceremony.specs.declared.signed_log.SignedDealerLog.{SignedDealerLog}
use Rattle.dkg_ceremony.specs.LogEntries.{entries_at, entries_spelling, EntriesFit, entries_grammar}

-- ---- a log: the public half and the entries

abbrev pub log_spelling : DealerLog → List ℕ
log_spelling log = public_spelling log.public ++ entries_spelling log.entries

abbrev pub LogParts : Type 0
LogParts = List ℕ × List LogEntry

abbrev pub log_from : LogParts → DealerLog
log_from p = record { public = p.0; entries = p.1 }

abbrev pub log_parts : DealerLog → LogParts
log_parts log = (log.public, log.entries)

abbrev pub log_at : ℕ → List ℕ → Reading DealerLog
log_at most = seen_at log_from (beside_at (public_at most) (entries_at most))

abbrev pub LogFits : ℕ → DealerLog → Type 0
LogFits most log = BothFit (PublicFits most) (EntriesFit most) (log_parts log)

pub log_fits : (most : ℕ) (log : DealerLog) → PublicFits most log.public → EntriesFit most log.entries → LogFits most log
log_fits most log public entries = record { one = public; other = entries }

pub log_grammar : (most : ℕ) → IsGrammar (LogFits most) log_spelling (log_at most)
log_grammar most =
    let both = beside_grammar (PublicFits most) public_spelling (public_at most) (EntriesFit most) entries_spelling (entries_at most) (public_grammar most) (entries_grammar most) in
    seen_grammar (BothFit (PublicFits most) (EntriesFit most)) (both_spelled public_spelling entries_spelling) (beside_at (public_at most) (entries_at most)) log_from log_parts log_spelling both
    (λ a. refl) (λ b. refl) (λ log. refl)

-- ---- a signed log: the dealer, the log and the mark

abbrev pub signed_spelling : SignedDealerLog → List ℕ
signed_spelling s = to_be_bytes w32 s.dealer ++ log_spelling s.log ++ s.mark

abbrev pub SignedParts : Type 0
SignedParts = ℕ × (DealerLog × List ℕ)

abbrev pub signed_from : SignedParts → SignedDealerLog
signed_from p = record { dealer = p.0; log = p.1.0; mark = p.1.1 }

abbrev pub signed_parts : SignedDealerLog → SignedParts
signed_parts s = (s.dealer, (s.log, s.mark))

abbrev pub signed_at : ℕ → List ℕ → Reading SignedDealerLog
signed_at most = seen_at signed_from (beside_at (number_at w32) (beside_at (log_at most) (bytes_at 8)))

abbrev pub SignedFits : ℕ → SignedDealerLog → Type 0
SignedFits most s = BothFit (λ n. n < 2 ^ 32) (BothFit (LogFits most) (λ bs. length bs ≡ 8)) (signed_parts s)

pub signed_fits : (most : ℕ) (s : SignedDealerLog) → s.dealer < 2 ^ 32 → LogFits most s.log → length s.mark ≡ 8 → SignedFits most s
signed_fits most s dealer log mark = record { one = dealer; other = record { one = log; other = mark } }

pub signed_grammar : (most : ℕ) → IsGrammar (SignedFits most) signed_spelling (signed_at most)
signed_grammar most =
    let keys : ℕ → Type 0 = λ n. n < 2 ^ 32 in
    let marks : List ℕ → Type 0 = λ bs. length bs ≡ 8 in
    let two = beside_grammar (LogFits most) log_spelling (log_at most) marks (λ bs. bs) (bytes_at 8) (log_grammar most) (bytes_grammar 8) in
    let all = beside_grammar keys (to_be_bytes w32) (number_at w32) (BothFit (LogFits most) marks) (both_spelled log_spelling (λ bs. bs)) (beside_at (log_at most) (bytes_at 8)) be32_grammar two in
    seen_grammar (BothFit keys (BothFit (LogFits most) marks)) (both_spelled (to_be_bytes w32) (both_spelled log_spelling (λ bs. bs))) (beside_at (number_at w32) (beside_at (log_at most) (bytes_at 8))) signed_from signed_parts signed_spelling all
    (λ a. refl) (λ b. refl) (λ s. simp append_assoc)
