-- What messages that aren't a peer's say and do.
use Rattle.std.proofs.Common.{◌≡◌, ℕ, zero, suc, List, [], ◌∷◌, ◌++◌, true, false, Option, Some, None, refl, subst}
use Rattle.std.specs.Prelude.{◌+◌, ◌-◌, ◌^◌, ◌==◌, ◌&&◌, nat_lt, nat_le, length, filter, if◌then◌else◌, not, Result, Ok, Err, is_some, is_none, option_and_then, option_map}
use Rattle.std.proofs.Common.{arith}
use Rattle.std.proofs.lemmas.Bool.Decides.{nat_tests}
use Rattle.std.specs.List.{AllByRecursion}
use Rattle.std.specs.Option.{option_map_or}
use Rattle.std.specs.Str.{bytes_eq}
use Rattle.dkg_values.specs.Rising.{lookup}
use Rattle.dkg_ceremony.specs.declared.ceremony.AckError.{AckError}
use Rattle.dkg_ceremony.specs.declared.output.Output.{Output}
use Rattle.dkg_ceremony.specs.declared.round.RoundParts.{RoundParts as Round}
use Rattle.dkg_ceremony.specs.declared.signed_log.SignedDealerLog.{SignedDealerLog}
use Rattle.dkg_ceremony.specs.Outcomes.{LogMap}
use Rattle.dkg_ceremony.specs.Schedule.{epoch_of, midpoint}
use Rattle.dkg_types.specs.Blocks.{Block}
use Rattle.dkg_types.specs.BlockCodes.{info_of}
use Rattle.dkg_infos.specs.declared.entry.Entry.{Entry}
use Rattle.dkg_infos.specs.declared.entry.Entry.TheVariants as lines
use Rattle.dkg_infos.specs.declared.entry.Why.TheVariants.{Finished}
use Rattle.dkg_infos.specs.declared.fault.Fault.{Fault}
use Rattle.dkg_infos.specs.declared.fault.Fault.TheVariants.{HeightRange, InvalidParticipants, DirectoryMismatch, LocalState, ConflictingBlock, DetachedBlock, SkippedHeight, OutOfWindow, MissingEpochInfo, WrongEpoch}
use Rattle.dkg_infos.specs.declared.fault.LocalCause.TheVariants.{OwnDealing, OutcomeOmitted}
use Rattle.dkg_infos.specs.declared.fault.ParticipantsCause.TheVariants.{ProviderEmpty, ProviderAbove}
use Rattle.dkg_infos.specs.declared.info.EpochInfo.{EpochInfo}
use Rattle.dkg_infos.specs.NextInfos.{info_by}
use Rattle.dkg_types.specs.PayloadCodes.{its_log}
use Rattle.dkg_journal.specs.Operations.{Bars, Opens, Appends, Prunes, PutsPlan, ClearsPlan}
use Rattle.dkg_store.specs.Acts.{Operation, OnDisk, Changes}
use Rattle.dkg_core.specs.Courses.{Course, Say, Goes, Stops, bind, Deed}
use Rattle.dkg_store.specs.declared.event.Event.TheVariants as events
use Rattle.dkg_secrets.specs.declared.secrets.SecretOp.TheVariants.{PutShare, PutSeed, PutDealing, Prune}
use Rattle.dkg_core.specs.Sources.{Tip}
use Rattle.dkg_core.specs.Fixed.{Fixed, OneShot, has}
use Rattle.dkg_core.specs.Live.{Live, Dealer, Seat, Plays, Watches, Stage, Deals, Includes, Follows, Ends, Request, Job, Verified, VerifiedLogs, Artifact, Mailed, Peer, Finalized, NextLog, ReleaseLog, EpochInfoOf, Feed, Over, Cancel, Work, awaited_height, recorded_at, with_tip, with_inclusion, with_queue, with_used, is_last_height}
use Rattle.dkg_core.specs.Logs.{canonical, filled_by, is_accepted, carried_log_event}
use Rattle.dkg_core.specs.Setup as s
use Rattle.dkg_core.specs.Dealing as d
use Rattle.dkg_core.specs.Including as i
use Rattle.dkg_core.specs.Blocks as b
use Rattle.dkg_core.specs.Laws.{Law, Holds, IsSilent, PrunesAtMost, prune_law, OtherEntry, OtherOperation, OfHalves, OfOffers, IsAmong, IsDealtToItself, IsOffered, other_law, OthersAcknowledgeNothing}
use Rattle.dkg_core.proofs.Holding.{holds_as, holds_bind, holds_if, holds_option}
use Rattle.dkg_core.proofs.Pruning.{setups_prune}
use Rattle.dkg_core.proofs.Unsent.{all_as, found_among, IsUnsent, are_unsent}

same_number : (a b : ℕ) → (a == b) ≡ true → a ≡ b
same_number a b e = grind (arith, nat_tests)

other_number : (a b : ℕ) → (a == b) ≡ false → a ≡ b → ⊥
other_number a b e is = grind (arith, nat_tests)

module _ {Dir : Type 0} (c : Fixed Dir) (own : OfHalves) (offered : OfOffers) (most : ℕ) where
  abbrev law : Law Dir (Live Dir)
  law = other_law c own offered most

  same_line : (past : List (Deed Dir)) (line : Entry) → law.line past line → law.line past line
  same_line past line h = h

  same_operation : (past : List (Deed Dir)) (op : Operation) → law.operation past op → law.operation past op
  same_operation past op h = h

  -- one after another, under this law
  both : (past : List (Deed Dir)) (acts : Course Dir Fault (Live Dir)) (next : Live Dir → Course Dir Fault (Live Dir)) → Holds law past acts → ((past : List (Deed Dir)) (st : Live Dir) → Holds law past (next st)) → Holds law past (bind acts next)
  both past acts next h more = holds_bind law law past acts next same_line same_operation h (λ past st e. more past st)

  rounds : (past : List (Deed Dir)) (st : Live Dir) (f : Round → Course Dir Fault (Live Dir)) → ((round : Round) → Holds law past (f round)) → Holds law past (d.with_round st f)
  rounds past st f each = holds_option law past st.participation.round f (Goes st) (λ round e. each round) (λ e. tt)

  -- LOG REQUESTS

  serves : (past : List (Deed Dir)) (request height : ℕ) (log : Option SignedDealerLog) (st : Live Dir) → Holds law past (i.gives_log c request height log st)
  serves past request height None st = (tt, tt)
  serves past request height (Some log) st = (tt, tt)

  -- ARTIFACTS

  with_directory : (past : List (Deed Dir)) (info : EpochInfo Dir) (acts : Course Dir Fault (Live Dir)) → Holds law past acts → Holds law past (i.with_directory c info acts)
  with_directory past info acts h = holds_if law past (c.directories.matches info.directory (i.info_peers info)) acts (Stops (DirectoryMismatch info.epoch)) (λ e. h) (λ e. tt)

  share_by : (past : List (Deed Dir)) (info : EpochInfo Dir) (result : Option Verified) (f : Option ℕ → Course Dir Fault (Live Dir)) → ((share : Option ℕ) → Holds law past (f share)) → Holds law past (i.share_by c info result f)
  share_by past info (Some found) f each = each found.share
  share_by past info None f each = holds_if law past (has info.output.players c.me) (s.looks c (λ seen. f (lookup info.epoch seen.shares))) (f None) (λ e h. each (lookup info.epoch (c.seen h).shares)) (λ e. each None)

  with_provided : (past : List (Deed Dir)) (epoch : ℕ) (acts : Course Dir Fault (Live Dir)) → Holds law past acts → Holds law past (i.with_provided c epoch acts)
  with_provided past epoch acts h =
      let n = length (c.provided.participants epoch) in
      let above : Course Dir Fault (Live Dir) = Stops (InvalidParticipants (ProviderAbove n c.limit)) in
      let empty : Course Dir Fault (Live Dir) = Stops (InvalidParticipants ProviderEmpty) in
      holds_if law past (nat_le (2 ^ 64) epoch) (Stops HeightRange) (if n == 0 then empty else if nat_lt c.limit n then above else acts) (λ e. tt)
      (λ e. holds_if law past (n == 0) empty (if nat_lt c.limit n then above else acts) (λ e. tt) (λ e. holds_if law past (nat_lt c.limit n) above acts (λ e. tt) (λ e. h)))

  derives_next : (past : List (Deed Dir)) (info : EpochInfo Dir) (r : VerifiedLogs) (st : Live Dir) (next : i.Continuation Dir) → ((made : Artifact Dir) (st : Live Dir) → Holds law past (next made st)) → Holds law past (i.derives_next c info r st next)
  derives_next past info r st next each =
      let made = info_by c.provided info (option_map (λ found. found.output) r.result) in
      with_provided past (info.epoch + 2) (i.share_by c info r.result (λ share. i.with_directory c made (next (record { info = Some made; share = share }) st)))
      (share_by past info r.result (λ share. i.with_directory c made (next (record { info = Some made; share = share }) st))
      (λ share. with_directory past made (next (record { info = Some made; share = share }) st) (each (record { info = Some made; share = share }) st)))

  once_with : (past : List (Deed Dir)) (o : OneShot Dir) (output : Output) (share : Option ℕ) (st : Live Dir) (next : i.Continuation Dir) → ((made : Artifact Dir) (st : Live Dir) → Holds law past (next made st)) → Holds law past (i.oneshot_with c o output share st next)
  once_with past o output None st next each = tt
  once_with past o output (Some share) st next each =
      with_directory past (i.oneshot_made o output) (next (record { info = Some (i.oneshot_made o output); share = Some share }) st) (each (record { info = Some (i.oneshot_made o output); share = Some share }) st)

  derives : (past : List (Deed Dir)) (o : Option (OneShot Dir)) (r : VerifiedLogs) (st : Live Dir) (next : i.Continuation Dir) → ((made : Artifact Dir) (st : Live Dir) → Holds law past (next made st)) → Holds law past (i.derives c o r st next)
  derives past (Some o) r st next each =
      holds_option law past r.result (λ found. i.oneshot_with c o found.output found.share st (i.keeping_artifact r.logs next)) (i.keeping_artifact r.logs next (record { info = None; share = None }) st)
      (λ found e. once_with past o found.output found.share st (i.keeping_artifact r.logs next) (λ made st. each made (i.with_cached r.logs made st)))
      (λ e. each (record { info = None; share = None }) (i.with_cached r.logs (record { info = None; share = None }) st))
  derives past None r st next each =
      holds_option law past st.participation.current (λ info. i.derives_next c info r st (i.keeping_artifact r.logs next)) (Stops HeightRange)
      (λ info e. derives_next past info r st (i.keeping_artifact r.logs next) (λ made st. each made (i.with_cached r.logs made st))) (λ e. tt)

  artifact_by : (past : List (Deed Dir)) (r : VerifiedLogs) (cached : Option (Artifact Dir)) (st : Live Dir) (next : i.Continuation Dir) → ((made : Artifact Dir) (st : Live Dir) → Holds law past (next made st)) → Holds law past (i.artifact_by c r cached st next)
  artifact_by past r (Some made) st next each = each made st
  artifact_by past r None st next each = derives past c.oneshot r st next each

  artifact : (past : List (Deed Dir)) (r : VerifiedLogs) (st : Live Dir) (next : i.Continuation Dir) → ((made : Artifact Dir) (st : Live Dir) → Holds law past (next made st)) → Holds law past (i.artifact c r st next)
  artifact past r st next each = artifact_by past r (i.cached_for st.inclusion.cached r.logs) st next each

  -- ANSWERS

  starts_unless : (past : List (Deed Dir)) (job : Job) (waiter refused : Option ℕ) (st : Live Dir) → Holds law past (i.starts_unless job waiter refused st)
  starts_unless past job waiter (Some refused) st = tt
  starts_unless past job waiter None st = tt

  starts : (past : List (Deed Dir)) (round : Round) (logs : LogMap) (waiter : Option ℕ) (st : Live Dir) → Holds law past (i.starts_verifying c round logs waiter st)
  starts past round logs waiter st = starts_unless past (i.job_for c round logs st) waiter (if i.can_finish c round logs st then s.refused_in c round st else None) st

  asks_for_by : (past : List (Deed Dir)) (round : Round) (request : ℕ) (logs : LogMap) (cached : Option (Artifact Dir)) (retained : Option VerifiedLogs) (st : Live Dir) → Holds law past (i.asks_for_by c round request logs cached retained st)
  asks_for_by past round request logs (Some made) retained st = (tt, tt)
  asks_for_by past round request logs None (Some r) st = artifact past r st (i.answers_request c request) (λ made st. (tt, tt))
  asks_for_by past round request logs None None st = starts past round logs (Some request) st

  asks_for : (past : List (Deed Dir)) (round : Round) (request : ℕ) (logs : LogMap) (st : Live Dir) → Holds law past (i.asks_logs c round request logs st)
  asks_for past round request logs st = asks_for_by past round request logs (i.cached_for st.inclusion.cached logs) (i.retained_for st.inclusion.retained logs) st

  fed : (past : List (Deed Dir)) (round : Round) (request : ℕ) (st : Live Dir) (f : i.Fed) → Holds law past (i.fed c round request st f)
  fed past round request st i.Need = tt
  fed past round request st (i.Lacks reason) = (tt, tt)
  fed past round request st (i.Found logs) = asks_for past round request (filled_by (canonical c st) logs) st

  reads_first : (past : List (Deed Dir)) (round : Round) (next : Live Dir → Course Dir Fault (Live Dir)) (st : Live Dir) (stage : Stage) (running : Option Job) (queue : List (Request Dir))
      → ((past : List (Deed Dir)) (st : Live Dir) → Holds law past (next st)) → Holds law past (i.reads_first_in c round next st stage running queue)
  reads_first past round next st Deals running queue each = tt
  reads_first past round next st Includes None [] each = tt
  reads_first past round next st Includes None (r ∷ rs) each =
      holds_if law past (i.is_need (i.read_of c round st r)) (Goes st) (bind (i.fed c round r.number (with_queue rs st) (i.read_of c round st r)) next)
      (λ e. tt) (λ e. both past (i.fed c round r.number (with_queue rs st) (i.read_of c round st r)) next (fed past round r.number (with_queue rs st) (i.read_of c round st r)) each)
  reads_first past round next st Includes (Some logs) queue each = tt
  reads_first past round next st Follows running queue each = tt
  reads_first past round next st Ends running queue each = tt

  advances : (fuel : ℕ) (past : List (Deed Dir)) (st : Live Dir) → Holds law past (i.advances c fuel st)
  advances zero past st = tt
  advances (suc fuel) past st =
      rounds past st (λ round. i.reads_first c round (λ st. i.advances c fuel st) st)
      (λ round. reads_first past round (λ st. i.advances c fuel st) st st.participation.stage st.inclusion.running st.inclusion.queue (λ past st. advances fuel past st))

  advanced : (past : List (Deed Dir)) (st : Live Dir) → Holds law past (i.advanced c st)
  advanced past st = advances (length st.inclusion.queue) past st

  asks_in : (past : List (Deed Dir)) (request : ℕ) (st : Live Dir) (stage : Stage) → Holds law past (i.asks_in c request st stage)
  asks_in past request st Deals = tt
  asks_in past request st Includes = advanced past (i.queued request st)
  asks_in past request st Follows = (tt, tt)
  asks_in past request st Ends = (tt, tt)

  cancels : (past : List (Deed Dir)) (request : ℕ) (st : Live Dir) → Holds law past (i.cancels c request st)
  cancels past request st =
      holds_if law past (option_map_or (λ n. n == request) st.inclusion.waiter false) (Goes (with_inclusion (record st.inclusion { waiter = None }) st))
      (i.advanced c (with_queue (filter (λ r. not (r.number == request)) st.inclusion.queue) st)) (λ e. tt) (λ e. advanced past (with_queue (filter (λ r. not (r.number == request)) st.inclusion.queue) st))

  completes : (past : List (Deed Dir)) (r : VerifiedLogs) (st : Live Dir) (waiter : Option ℕ) → Holds law past (i.completes_in c r st waiter)
  completes past r st None = tt
  completes past r st (Some request) =
      artifact past r st (λ made st. bind (i.answers_request c request made st) (λ st. Goes (i.retains c r st))) (λ made st. (tt, tt))

  ends_verifying : (past : List (Deed Dir)) (handed : Option VerifiedLogs) (st : Live Dir) (running : Option Job) → Holds law past (i.ends_verifying_in c handed st running)
  ends_verifying past handed st None = tt
  ends_verifying past handed st (Some job) = completes past (i.job_result_of c handed job) st st.inclusion.waiter

  works : (past : List (Deed Dir)) (handed : Option VerifiedLogs) (st : Live Dir) → Holds law past (i.works c handed st)
  works past handed st =
      holds_if law past (is_some st.inclusion.running) (bind (i.ends_verifying c handed st) (λ st. i.advanced c st)) (Goes st)
      (λ e. both past (i.ends_verifying c handed st) (λ st. i.advanced c st) (ends_verifying past handed st st.inclusion.running) (λ past st. advanced past st)) (λ e. tt)

  -- OFFERS

  takes_ack : (past : List (Deed Dir)) (epoch : ℕ) (dealer : Dealer) (player : ℕ) (ack : List ℕ) (st : Live Dir) → Holds law past (d.takes_ack epoch dealer player ack st)
  takes_ack past epoch dealer player ack st =
      holds_if law past (is_some (lookup player dealer.acks)) (Goes st)
      (if is_some (recorded_at st.records.acks epoch player) then Goes (d.counts dealer player ack st)
      else d.appends epoch (events.Ack player ack) (Goes (d.counts dealer player ack (d.with_ack epoch player ack st))))
      (λ e. tt) (λ e. holds_if law past (is_some (recorded_at st.records.acks epoch player)) (Goes (d.counts dealer player ack st))
      (d.appends epoch (events.Ack player ack) (Goes (d.counts dealer player ack (d.with_ack epoch player ack st)))) (λ e. tt) (λ e. (tt, tt)))

  checked_ack : (past : List (Deed Dir)) (round : Round) (dealer : Dealer) (player : ℕ) (ack : List ℕ) (st : Live Dir) (check : Result (Unit {0}) AckError) → Holds law past (d.checked_ack round dealer player ack st check)
  checked_ack past round dealer player ack st (Err e) = (tt, tt)
  checked_ack past round dealer player ack st (Ok passed) = takes_ack past round.number dealer player ack st

  own_ack : (past : List (Deed Dir)) (round : Round) (public : List ℕ) (st : Live Dir) → Holds law past (d.own_ack c round public st)
  own_ack past round public st =
      let ack = c.rules.ack_of c.me round c.me public in
      holds_option law past st.participation.dealer (λ dealer. d.checked_ack round dealer c.me ack st (c.rules.check_ack_of round c.me dealer.public c.me ack)) (Goes st)
      (λ dealer e. checked_ack past round dealer c.me ack st (c.rules.check_ack_of round c.me dealer.public c.me ack)) (λ e. tt)

  to_itself_in : (past : List (Deed Dir)) (round : Round) (public : List ℕ) (private : ℕ) (st : Live Dir) (kept : Option (List ℕ × ℕ)) → own round.number public private
      → Holds law past (d.deals_to_itself_in c round public private st kept)
  to_itself_in past round public private st (Some kept) mine =
      holds_if law past (bytes_eq kept.0 public) (d.own_ack c round public st) (Stops (LocalState (OwnDealing round.number kept.0 public))) (λ e. own_ack past round public st) (λ e. tt)
  to_itself_in past round public private st None mine =
      both past (d.keeps round.number c.me public private st) (λ st. d.own_ack c round public st) ((refl, (public, mine)), (tt, ((refl, mine), tt))) (λ past st. own_ack past round public st)

  to_itself : (past : List (Deed Dir)) (round : Round) (public : List ℕ) (private : ℕ) (st : Live Dir) (seat : Seat) → own round.number public private → Holds law past (d.offers_to_itself_in c round public private st seat)
  to_itself past round public private st Plays mine = to_itself_in past round public private st (recorded_at st.records.dealings round.number c.me) mine
  to_itself past round public private st Watches mine = tt

  -- of these halves this node's own, and others'
  abbrev AreOwn : Round → List ℕ → List (ℕ × ℕ) → Type 0
  AreOwn round public ps = AllByRecursion (λ p. (p.0 ≡ c.me → own round.number public p.1) × ((p.0 ≡ c.me → ⊥) → offered round.number p.0 public p.1)) ps

  offers : (round : Round) (public : List ℕ) (ps : List (ℕ × ℕ)) (past : List (Deed Dir)) (st : Live Dir) → AreOwn round public ps → Holds law past (d.offers c round public ps st)
  offers round public [] past st mine = tt
  offers round public (p ∷ ps) past st mine =
      holds_if law past (p.0 == c.me) (bind (d.offers_to_itself c round public p.1 st) (λ st. d.offers c round public ps st)) (Say (lines.Offer round.number p.0 public p.1) (d.offers c round public ps st))
      (λ e. both past (d.offers_to_itself c round public p.1 st) (λ st. d.offers c round public ps st)
      (to_itself past round public p.1 st st.participation.seat (mine.0.0 (same_number p.0 c.me e))) (λ past st. offers round public ps past st mine.1))
      (λ e. (mine.0.1 (other_number p.0 c.me e), offers round public ps _ st mine.1))

  -- what this node's dealer deals to itself is its own
  abbrev Owns : Live Dir → Type 0
  Owns st = (round : Round) (dealer : Dealer) → st.participation.round ≡ Some round → st.participation.dealer ≡ Some dealer → AreOwn round dealer.public (s.unsent_of_round round dealer)

  deals : (past : List (Deed Dir)) (st : Live Dir) → Owns st → Holds law past (d.deals c st)
  deals past st owns =
      holds_option law past st.participation.round (λ round. option_map_or (λ dealer. d.offers c round dealer.public (s.unsent_of_round round dealer) st) st.participation.dealer (Goes st)) (Goes st)
      (λ round is_round. holds_option law past st.participation.dealer (λ dealer. d.offers c round dealer.public (s.unsent_of_round round dealer) st) (Goes st)
      (λ dealer is_dealer. offers round dealer.public (s.unsent_of_round round dealer) past st (owns round dealer is_round is_dealer)) (λ e. tt)) (λ e. tt)

-- SETUP

quiet : {Dir : Type 0} (c : Fixed Dir) (own : OfHalves) (offered : OfOffers) (past : List (Deed Dir)) (line : Entry) → IsSilent past line → OtherEntry c own offered past line
quiet c own offered past (lines.Recorded epoch dealer public private) h = absurd h
quiet c own offered past (lines.Ack epoch dealer ack) h = absurd h
quiet c own offered past (lines.Offer epoch player public private) h = absurd h
quiet c own offered past line h = h

pruning : {Dir : Type 0} (c : Fixed Dir) (own : OfHalves) (most : ℕ) (past : List (Deed Dir)) (op : Operation) → PrunesAtMost most past op → OtherOperation c own most past op
pruning c own most past (OnDisk Bars) h = absurd h
pruning c own most past (OnDisk (Opens calls)) h = absurd h
pruning c own most past (OnDisk (Appends e)) h = absurd h
pruning c own most past (OnDisk (Prunes min)) h = h
pruning c own most past (OnDisk (PutsPlan bytes)) h = absurd h
pruning c own most past (OnDisk ClearsPlan) h = absurd h
pruning c own most past (Changes (PutShare epoch share)) h = tt
pruning c own most past (Changes (PutSeed epoch seed)) h = tt
pruning c own most past (Changes (PutDealing epoch dealer private)) h = absurd h
pruning c own most past (Changes (Prune min)) h = h

module _ {Dir : Type 0} (c : Fixed Dir) (own : OfHalves) (offered : OfOffers) (block : Block Dir) where
  abbrev reach : ℕ
  reach = epoch_of c.blocks_per_epoch (block.height + 1) - 1

  abbrev of_block : Law Dir (Live Dir)
  of_block = other_law c own offered reach

  -- .. at the end of which the tip is the block
  abbrev at_block : Law Dir (Live Dir)
  at_block = record { line = OtherEntry c own offered; operation = OtherOperation c own reach; end = λ past st. awaited_height st ≡ block.height + 1 }

  sets_up : (past : List (Deed Dir)) (st : Live Dir) → awaited_height st ≡ block.height + 1 → Holds of_block past (s.setup c None st)
  sets_up past st is =
      subst (λ (height : ℕ). Holds (other_law c own offered (epoch_of c.blocks_per_epoch height - 1)) past (s.setup c None st)) is
      (holds_as (prune_law (epoch_of c.blocks_per_epoch (awaited_height st))) (other_law c own offered (epoch_of c.blocks_per_epoch (awaited_height st) - 1)) past (s.setup c None st)
      (quiet c own offered) (pruning c own (epoch_of c.blocks_per_epoch (awaited_height st) - 1)) (λ past st e. tt) (setups_prune c None st past))

  commits : (past : List (Deed Dir)) (info : EpochInfo Dir) (seed : List ℕ) (share : Option ℕ) (st : Live Dir) → Holds of_block past (s.commits info seed share st)
  commits past info seed None st = (tt, (tt, tt))
  commits past info seed (Some share) st = (tt, (tt, (tt, tt)))

  -- WHILE DEALING AND INCLUDING

  deals_at : (past : List (Deed Dir)) (st : Live Dir) → Owns c own offered reach st → Holds of_block past (b.deals_at c block st)
  deals_at past st owns =
      both c own offered reach past (d.deals c st) (λ st. if block.height + 1 == midpoint c.blocks_per_epoch st.participation.epoch then i.advanced c (s.begins_inclusion c (with_tip block st)) else Goes (with_tip block st))
      (deals c own offered reach past st owns) (λ past st. holds_if of_block past (block.height + 1 == midpoint c.blocks_per_epoch st.participation.epoch) (i.advanced c (s.begins_inclusion c (with_tip block st))) (Goes (with_tip block st))
      (λ e. advanced c own offered reach past (s.begins_inclusion c (with_tip block st))) (λ e. tt))

  records_log : (past : List (Deed Dir)) (epoch : ℕ) (log : SignedDealerLog) (st : Live Dir) → Holds of_block past (b.records_log epoch block.height log st)
  records_log past epoch log st =
      holds_if of_block past (is_some (recorded_at st.records.logs epoch log.dealer)) (Goes st)
      (d.appends epoch (carried_log_event log.dealer block.height log.log) (Goes (b.with_log_at epoch log.dealer block.height log.log st))) (λ e. tt) (λ e. (tt, tt))

  observes : (past : List (Deed Dir)) (round : Round) (st : Live Dir) (log : Option SignedDealerLog) → Holds of_block past (b.observes c round block st log)
  observes past round st None = tt
  observes past round st (Some log) =
      holds_if of_block past (is_accepted c round log) (bind (b.records_log round.number block.height log st) (λ st. Goes (b.without_own_log c log.dealer st))) (Goes st)
      (λ e. both c own offered reach past (b.records_log round.number block.height log st) (λ st. Goes (b.without_own_log c log.dealer st)) (records_log past round.number log st) (λ past st. tt)) (λ e. tt)

  includes : (past : List (Deed Dir)) (round : Round) (st : Live Dir) → Holds of_block past (b.includes c round block st)
  includes past round st =
      both c own offered reach past (b.observes c round block st (option_and_then its_log block.payload)) (λ st. i.advanced c (with_tip block (b.unserved block.height st)))
      (observes past round st (option_and_then its_log block.payload)) (λ past st. advanced c own offered reach past (with_tip block (b.unserved block.height st)))

  -- THE FINAL BLOCK

  answers_all : (requests : List (Request Dir)) (past : List (Deed Dir)) (st : Live Dir) → awaited_height st ≡ block.height + 1 → Holds at_block past (b.answers_all requests st)
  answers_all [] past st is = is
  answers_all (r ∷ rs) past st is =
      holds_bind at_block at_block past (i.answers_none r.number Finished st) (λ st. b.answers_all rs st) (λ past line h. h) (λ past op h. h) (tt, is) (λ past st is. answers_all rs past st is)

  passes_on : (past : List (Deed Dir)) (outcome : Option (EpochInfo Dir)) (st : Live Dir) → Holds of_block past (b.passes_on c block outcome st)
  passes_on past outcome st =
      holds_bind at_block of_block past (b.answers_all st.inclusion.queue (with_tip block st)) (λ st. if is_some c.oneshot then b.ends_once c outcome st else s.setup c None st) (λ past line h. h) (λ past op h. h)
      (answers_all st.inclusion.queue past (with_tip block st) refl)
      (λ past st is. holds_if of_block past (is_some c.oneshot) (b.ends_once c outcome st) (s.setup c None st) (λ e. (tt, tt)) (λ e. sets_up past st is))

  takes_over : (past : List (Deed Dir)) (info : EpochInfo Dir) (share : Option ℕ) (st : Live Dir) → Holds of_block past (b.takes_over c block info share st)
  takes_over past info share st = λ h.
      let seed = s.seed_for c info.epoch (lookup info.epoch (c.seen h).seeds) in
      both c own offered reach past (s.commits info seed share st) (λ st. bind (if is_some c.oneshot then Goes st else s.registers c info share st) (λ st. b.passes_on c block (Some info) st))
      (commits past info seed share st)
      (λ past st. both c own offered reach past (if is_some c.oneshot then Goes st else s.registers c info share st) (λ st. b.passes_on c block (Some info) st)
      (holds_if of_block past (is_some c.oneshot) (Goes st) (s.registers c info share st) (λ e. tt) (λ e. (tt, tt))) (λ past st. passes_on past (Some info) st))

  carried : (past : List (Deed Dir)) (f : EpochInfo Dir → Course Dir Fault (Live Dir)) → ((info : EpochInfo Dir) → Holds of_block past (f info)) → Holds of_block past (b.carried c block f)
  carried past f each =
      holds_option of_block past (info_of block.payload) (λ info. if info.epoch == b.expected_epoch c block.height then f info else Stops (WrongEpoch (b.expected_epoch c block.height) info.epoch)) (Stops (MissingEpochInfo block.height))
      (λ info e. holds_if of_block past (info.epoch == b.expected_epoch c block.height) (f info) (Stops (WrongEpoch (b.expected_epoch c block.height) info.epoch)) (λ e. each info) (λ e. tt)) (λ e. tt)

  concludes : (past : List (Deed Dir)) (made : Artifact Dir) (st : Live Dir) → Holds of_block past (b.concludes c block made st)
  concludes past made st =
      let omits : Course Dir Fault (Live Dir) = Stops (LocalState OutcomeOmitted) in
      holds_if of_block past (is_some c.oneshot && is_none block.payload) (if is_some made.info then omits else b.passes_on c block None st) (b.carried c block (λ info. b.takes_over c block info (b.share_for c info made) st))
      (λ e. holds_if of_block past (is_some made.info) omits (b.passes_on c block None st) (λ e. tt) (λ e. passes_on past None st))
      (λ e. carried past (λ info. b.takes_over c block info (b.share_for c info made) st) (λ info. takes_over past info (b.share_for c info made) st))

  derives_now : (past : List (Deed Dir)) (round : Round) (logs : LogMap) (r : Option VerifiedLogs) (st : Live Dir) → Holds of_block past (b.derives_at_block c round block logs r st)
  derives_now past round logs (Some r) st = artifact c own offered reach past r st (b.concludes c block) (λ made st. concludes past made st)
  derives_now past round logs None st =
      let found = i.verified c (i.job_for c round logs st) in
      both c own offered reach past (i.starts_verifying c round logs None st) (λ st. i.artifact c found (i.retains c found st) (b.concludes c block)) (starts c own offered reach past round logs None st)
      (λ past st. artifact c own offered reach past found (i.retains c found st) (b.concludes c block) (λ made st. concludes past made st))

  concludes_by : (past : List (Deed Dir)) (round : Round) (logs : LogMap) (before now : Option (Artifact Dir)) (st : Live Dir) → Holds of_block past (b.concludes_by c round block logs before now st)
  concludes_by past round logs (Some made) now st = concludes past made st
  concludes_by past round logs None (Some made) st = concludes past made st
  concludes_by past round logs None None st = derives_now past round logs (i.retained_for st.inclusion.retained logs) st

  final_block : (past : List (Deed Dir)) (round : Round) (st : Live Dir) → Holds of_block past (b.final_block c round block st)
  final_block past round st =
      let logs = canonical c st in
      let before = i.cached_for st.inclusion.cached logs in
      both c own offered reach past (i.ends_verifying c None st) (λ st. b.concludes_by c round block logs before (i.cached_for st.inclusion.cached logs) st)
      (ends_verifying c own offered reach past None st st.inclusion.running)
      (λ past st. concludes_by past round logs before (i.cached_for st.inclusion.cached logs) st)

  -- WHILE FOLLOWING

  follows_into : (past : List (Deed Dir)) (info : EpochInfo Dir) (st : Live Dir) → Holds of_block past (b.follows_into c block info st)
  follows_into past info st = λ h.
      let seed = s.seed_for c info.epoch (lookup info.epoch (c.seen h).seeds) in
      let share = s.recovered_share c (c.seen h) info in
      both c own offered reach past (s.commits info seed share st) (λ st. bind (s.registers c info share st) (λ st. s.setup c None (with_tip block st))) (commits past info seed share st)
      (λ past st. both c own offered reach past (s.registers c info share st) (λ st. s.setup c None (with_tip block st)) (tt, tt) (λ past st. sets_up past (with_tip block st) refl))

  follows_at : (past : List (Deed Dir)) (st : Live Dir) → Holds of_block past (b.follows_at c block st)
  follows_at past st =
      holds_if of_block past (is_last_height c block.height) (b.carried c block (λ info. b.follows_into c block info st)) (Goes (with_tip block st))
      (λ e. carried past (λ info. b.follows_into c block info st) (λ info. follows_into past info st)) (λ e. tt)

  -- ANY BLOCK

  applies : (past : List (Deed Dir)) (st : Live Dir) (stage : Stage) → Owns c own offered reach st → Holds of_block past (b.applies_in c block st stage)
  applies past st Deals owns = deals_at past st owns
  applies past st Includes owns =
      rounds c own offered reach past st (λ round. if is_last_height c block.height then b.final_block c round block st else b.includes c round block st)
      (λ round. holds_if of_block past (is_last_height c block.height) (b.final_block c round block st) (b.includes c round block st) (λ e. final_block past round st) (λ e. includes past round st))
  applies past st Follows owns = follows_at past st
  applies past st Ends owns = tt

  over_tip : (past : List (Deed Dir)) (st : Live Dir) (tip : Option Tip) → Owns c own offered reach st → Holds of_block past (b.over_tip_in c block st tip)
  over_tip past st None owns =
      holds_if of_block past (b.is_in_window c block st) (b.applies c block st) (Stops (OutOfWindow block.height)) (λ e. applies past st st.participation.stage owns) (λ e. tt)
  over_tip past st (Some t) owns =
      let low : Course Dir Fault (Live Dir) = if nat_le block.height t.height then Goes st else b.applies c block st in
      let child : Course Dir Fault (Live Dir) = if (block.height == t.height + 1) && not (bytes_eq block.parent t.digest) then Stops (DetachedBlock block.height) else low in
      let next : Course Dir Fault (Live Dir) = if nat_lt (t.height + 1) block.height then Stops (SkippedHeight (t.height + 1) block.height) else child in
      holds_if of_block past ((block.height == t.height) && not (bytes_eq block.digest t.digest)) (Stops (ConflictingBlock block.height)) next (λ e. tt)
      (λ e. holds_if of_block past (nat_lt (t.height + 1) block.height) (Stops (SkippedHeight (t.height + 1) block.height)) child (λ e. tt)
      (λ e. holds_if of_block past ((block.height == t.height + 1) && not (bytes_eq block.parent t.digest)) (Stops (DetachedBlock block.height)) low (λ e. tt)
      (λ e. holds_if of_block past (nat_le block.height t.height) (Goes st) (b.applies c block st) (λ e. tt) (λ e. applies past st st.participation.stage owns))))

  in_range : (past : List (Deed Dir)) (st : Live Dir) → Owns c own offered reach st → Holds of_block past (if s.is_past_range c block.height then Stops HeightRange else b.over_tip c block st)
  in_range past st owns = holds_if of_block past (s.is_past_range c block.height) (Stops HeightRange) (b.over_tip c block st) (λ e. tt) (λ e. over_tip past st st.tip owns)

  delivers : (past : List (Deed Dir)) (st : Live Dir) (stage : Stage) → Owns c own offered reach st → Holds of_block past (b.delivers_in c block st stage)
  delivers past st Deals owns = in_range past st owns
  delivers past st Includes owns = in_range past st owns
  delivers past st Follows owns = in_range past st owns
  delivers past st Ends owns = tt

owns : {Dir : Type 0} (c : Fixed Dir) (st : Live Dir) (most : ℕ) → Owns c (IsDealtToItself c st) (IsOffered c st) most st
owns c st most round dealer is_round is_dealer =
    all_as (IsUnsent dealer.acks dealer.privates round.players) (λ p. (p.0 ≡ c.me → IsDealtToItself c st round.number dealer.public p.1) × ((p.0 ≡ c.me → ⊥) → IsOffered c st round.number p.0 dealer.public p.1))
    (λ p is. (
      (λ me. record {
        round = round;
        of_epoch = is_round;
        of_round = refl;
        dealer = dealer;
        of_dealer = is_dealer;
        is_public = refl;
        is_private = subst (λ (k : ℕ). IsAmong (k, p.1) dealer.privates) me (found_among p.0 p.1 dealer.privates is.has);
      }),
      (λ other. record {
        round = round;
        of_epoch = is_round;
        of_round = refl;
        dealer = dealer;
        of_dealer = is_dealer;
        is_public = refl;
        is_private = is.has;
        plays = is.plays;
        lacks = is.lacks;
        other = other;
      }),
    ))
    (s.unsent_of_round round dealer) (are_unsent dealer.acks dealer.privates round.players)

pub others_acknowledge_nothing : {Dir : Type 0} → OthersAcknowledgeNothing Dir
others_acknowledge_nothing c st (Finalized block) other = delivers c (IsDealtToItself c st) (IsOffered c st) block [] st st.participation.stage (owns c st (reach c (IsDealtToItself c st) (IsOffered c st) block))
others_acknowledge_nothing c st (Mailed (Peer from bytes)) other = absurd other
others_acknowledge_nothing c st (Mailed (NextLog request height)) other = serves c (IsDealtToItself c st) (IsOffered c st) 0 [] request height (i.served_now st) (with_used request st)
others_acknowledge_nothing c st (Mailed (ReleaseLog height)) other = tt
others_acknowledge_nothing c st (Mailed (EpochInfoOf request)) other = asks_in c (IsDealtToItself c st) (IsOffered c st) 0 [] request (with_used request st) st.participation.stage
others_acknowledge_nothing c st (Mailed (Feed request block)) other = advanced c (IsDealtToItself c st) (IsOffered c st) 0 [] (i.changed request (λ r. if r.ended then r else record r { blocks = r.blocks ++ block ∷ [] }) st)
others_acknowledge_nothing c st (Mailed (Over request)) other = advanced c (IsDealtToItself c st) (IsOffered c st) 0 [] (i.changed request (λ r. record r { ended = true }) st)
others_acknowledge_nothing c st (Mailed (Cancel request)) other = cancels c (IsDealtToItself c st) (IsOffered c st) 0 [] request st
others_acknowledge_nothing c st (Mailed (Work handed)) other = works c (IsDealtToItself c st) (IsOffered c st) 0 [] handed st
