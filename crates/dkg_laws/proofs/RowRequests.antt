-- Worked rows of requests: a path's logs over real marks, its refusals, the application and the probe.
use Rattle.std.proofs.Common.{◌++◌, ◌≡◌, ℕ, List, [], ◌∷◌, Option, Some, None, refl, true}
use Rattle.sha2.specs.Sha256.{first_words, schedule, rounds, compress, hash_after, digest_bytes, sha256}
use Rattle.dkg_values.specs.Uint.{groups}
use Rattle.dkg_ceremony.specs.declared.dealer_log.DealerLog.{DealerLog}
use Rattle.dkg_ceremony.specs.declared.log_entry.LogEntry.TheVariants.{Reveal}
use Rattle.dkg_ceremony.specs.declared.mode.Mode.TheVariants.{NonZeroCounter}
use Rattle.dkg_ceremony.specs.declared.mode.Reveal.TheVariants.{V1}
use Rattle.dkg_ceremony.specs.declared.round.RoundParts.{RoundParts as Round}
use Rattle.dkg_ceremony.specs.declared.sign.Domain.TheVariants as domains
use Rattle.dkg_ceremony.specs.declared.signed_log.SignedDealerLog.{SignedDealerLog}
use Rattle.dkg_ceremony.specs.Finishes.{finish_of}
use Rattle.dkg_ceremony.specs.Outcomes.{selected_of, outcome_of}
use Rattle.dkg_types.specs.PayloadCodes.{payload_spelling}
use Rattle.dkg_infos.specs.Units.{unit_spelling}
use Rattle.dkg_ceremony.specs.Marks.{mark_of}
use Rattle.dkg_ceremony.specs.Rounds.{round_of, round_bytes}
use Rattle.dkg_ceremony.specs.ValidLogs.{check_log_of, log_content}
use Rattle.dkg_types.specs.Blocks.{Block}
use Rattle.dkg_infos.specs.declared.entry.AnswerLine.TheVariants.{Available, Unavailable}
use Rattle.dkg_infos.specs.declared.entry.Entry.TheVariants.{Answer}
use Rattle.dkg_infos.specs.declared.entry.Why.TheVariants as causes
use Rattle.dkg_types.specs.declared.payload.Payload.TheVariants as payloads
use Rattle.dkg_infos.specs.Validation.{validation}
use Rattle.dkg_store.specs.Acts.{Held}
use Rattle.dkg_core.specs.Live.{Live, Event, Reshare, EpochInfoOf, Feed, Over, Cancel, Work, NodeStop}
use Rattle.dkg_core.specs.Including.{Fed, Need, Found, scan}
use Rattle.dkg_laws.proofs.Mirror.{Outcome, nothing}
use Rattle.dkg_laws.proofs.Lives.{Life, at_step, end_after, plays}
use Rattle.dkg_laws.proofs.Worked.{Dir, life_of, above, genesis, info, plain, block, output, keys, says, last_of}

-- THE LOGS OF A PATH. The tip stands at height 3, so inclusion reads heights 4 to 6.

abbrev pub round : Round
round = record { namespace = []; number = 0; previous = Some output; mode = NonZeroCounter; reveal = V1; dealers = keys; players = keys }

abbrev pub log : ℕ → DealerLog
log first = record { public = first ∷ 7 ∷ 1 ∷ []; entries = Reveal 1 ∷ Reveal 2 ∷ Reveal 3 ∷ Reveal 4 ∷ [] }

abbrev pub signed_by : (dealer : ℕ) → DealerLog → SignedDealerLog
signed_by dealer log = record { dealer = dealer; log = log; mark = mark_of dealer domains.Log (log_content round log) }

abbrev pub logged : (height dealer : ℕ) → DealerLog → List ℕ → Block Dir
logged height dealer log parent = block height parent (Some (payloads.DealerLog (signed_by dealer log)))

abbrev pub over_three : Life Dir
over_three = above 3 (3 ∷ []) (life_of 8 0 (genesis ∷ []))

abbrev pub scan_in : Option (Live Dir × Held) → List (Block Dir) → Fed
scan_in None bs = Need
scan_in (Some p) bs = scan (at_step over_three []) round p.0 None [] bs true

-- what a scan of these blocks gives, over the life as it opened
abbrev pub scanned : List (Block Dir) → Fed
scanned bs = scan_in (end_after nothing over_three []) bs

-- of key 2 the lower log counts, and of key 3 the one it has
pub fifteen : scanned (logged 6 2 (log 16) (5 ∷ []) ∷ logged 5 3 (log 26) (4 ∷ []) ∷ logged 4 2 (log 15) (3 ∷ []) ∷ []) ≡ Found ((2, log 15) ∷ (3, log 26) ∷ [])
unfolding validation round_of check_log_of log_content groups mark_of round_bytes first_words schedule rounds compress hash_after digest_bytes sha256
fifteen = refl

-- a stranger's counts not
pub fifteen_stranger : scanned (logged 6 2 (log 16) (5 ∷ []) ∷ logged 5 9 (log 26) (4 ∷ []) ∷ logged 4 2 (log 15) (3 ∷ []) ∷ []) ≡ Found ((2, log 15) ∷ [])
unfolding validation round_of check_log_of log_content groups mark_of round_bytes first_words schedule rounds compress hash_after digest_bytes sha256
fifteen_stranger = refl

abbrev pub first_of : List (Outcome NodeStop) → Outcome NodeStop
first_of [] = says []
first_of (r ∷ rs) = r

abbrev pub feeding : List (Block Dir) → List (Event Dir)
feeding [] = Reshare (Over 1) ∷ []
feeding (b ∷ bs) = Reshare (Feed 1 b) ∷ feeding bs

-- without the block at height 4 the ancestry is short
pub fifteen_short : last_of (plays over_three (Reshare (EpochInfoOf 1) ∷ feeding (plain 6 (5 ∷ []) ∷ plain 5 (4 ∷ []) ∷ []))) ≡ says (Answer 1 (Unavailable causes.Short) ∷ [])
unfolding validation round_of
fifteen_short = refl

-- .. and with it in place of the one at height 5 a height is wrong
pub fifteen_height : plays over_three (Reshare (EpochInfoOf 1) ∷ Reshare (Feed 1 (plain 6 (5 ∷ []))) ∷ Reshare (Feed 1 (plain 4 (3 ∷ []))) ∷ [])
    ≡ first_of (plays over_three []) ∷ says [] ∷ says [] ∷ says (Answer 1 (Unavailable (causes.WrongHeight 5 4)) ∷ []) ∷ []
unfolding validation round_of
fifteen_height = refl

-- A VERIFICATION: a path without logs fails the ceremony. The first answer waits for the work, the second comes from the cache.

abbrev pub path : ℕ → List (Event Dir)
path request = Reshare (EpochInfoOf request) ∷ Reshare (Feed request (plain 6 (5 ∷ []))) ∷ Reshare (Feed request (plain 5 (4 ∷ []))) ∷ Reshare (Feed request (plain 4 (3 ∷ []))) ∷ []

abbrev pub answered : ℕ → Outcome NodeStop
answered request = says (Answer request (Available (Some (payload_spelling {Dir = Dir} unit_spelling (payloads.EpochInfo (info 1))))) ∷ [])

pub verifies : plays over_three (path 1 ++ Reshare (Work None) ∷ path 2)
    ≡ first_of (plays over_three []) ∷ says [] ∷ says [] ∷ says [] ∷ says [] ∷ answered 1 ∷ says [] ∷ says [] ∷ says [] ∷ answered 2 ∷ []
unfolding validation round_of finish_of selected_of outcome_of
verifies = refl

-- a request that is cancelled while it is verified is not answered, and its result serves the next
pub cancelled : plays over_three (path 1 ++ Reshare (Cancel 1) ∷ Reshare (Work None) ∷ path 2)
    ≡ first_of (plays over_three []) ∷ says [] ∷ says [] ∷ says [] ∷ says [] ∷ says [] ∷ says [] ∷ says [] ∷ says [] ∷ says [] ∷ answered 2 ∷ []
unfolding validation round_of finish_of selected_of outcome_of
cancelled = refl
