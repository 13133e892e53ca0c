-- Memory and devices agree behind every completed opening and step.
use Rattle.std.proofs.Common.{◌≡◌, ◌≤◌, ℕ, zero, suc, cond, Bool, true, false, nat_le, List, [], ◌∷◌, ◌++◌, Option, Some, None, IsSome, refl, sym, ◌∙◌, ap, subst, arith}
use Rattle.std.specs.Prelude.{◌+◌, ◌-◌, ◌^◌, ◌==◌, ◌&&◌, ◌||◌, nat_lt, length, filter, if◌then◌else◌, not, Result, Ok, Err, is_ok, is_some, is_none, option_and_then, option_map}
use Rattle.std.proofs.lemmas.Bool.Decides.{nat_tests}
use Rattle.std.specs.Option.{option_map_or}
use Rattle.std.specs.Str.{bytes_eq}
use Rattle.std.specs.declared.cmp.Ordering.TheVariants.{Equal}
use Rattle.std.specs.FinMap as maps
use Rattle.std.specs.FinMap.{FinMap, find, put, get, empty, retain_keys, get-retain_keys, get-entries, entries-insert, from_sorted, entries-from_sorted, get-from_sorted, entries_sorted, same_map}
use Rattle.std.specs.FinMap.Entries.{where_key, is_sorted-where_key, find-where_key}
use Rattle.dkg_values.specs.Codec.{whole as all_of}
use Rattle.dkg_values.specs.Rising.{lookup}
use Rattle.dkg_values.specs.declared.codec.CodecError.{CodecError}
use Rattle.dkg_ceremony.specs.declared.ceremony.AckError.{AckError}
use Rattle.dkg_ceremony.specs.declared.ceremony.DealingError.{DealingError}
use Rattle.dkg_ceremony.specs.declared.deal.DealError.{DealError}
use Rattle.dkg_ceremony.specs.declared.output.Output.{Output}
use Rattle.dkg_ceremony.specs.declared.phase.Phase.{Phase}
use Rattle.dkg_ceremony.specs.declared.phase.Phase.TheVariants.{Early, Midpoint, Late}
use Rattle.dkg_ceremony.specs.declared.round.RoundParts.{RoundParts as Round}
use Rattle.dkg_ceremony.specs.declared.round.RoundError.{RoundError}
use Rattle.dkg_ceremony.specs.declared.signed_log.SignedDealerLog.{SignedDealerLog}
use Rattle.dkg_ceremony.specs.Outcomes.{LogMap}
use Rattle.dkg_ceremony.specs.Schedule.{boundary, midpoint, last}
use Rattle.dkg_journal.specs.Operations.{Bars, Opens, Appends, Prunes, PutsPlan, ClearsPlan}
use Rattle.dkg_journal.specs.Records.{SectionEntry, from_section}
use Rattle.dkg_types.specs.Blocks.{Block}
use Rattle.dkg_types.specs.BlockCodes.{info_of}
use Rattle.dkg_infos.specs.declared.entry.Entry.TheVariants as lines
use Rattle.dkg_infos.specs.declared.entry.Why.TheVariants.{Finished}
use Rattle.dkg_infos.specs.declared.fault.Fault.{Fault}
use Rattle.dkg_infos.specs.declared.fault.Fault.TheVariants.{HeightRange, InvalidParticipants, DirectoryMismatch, LocalState, ConflictingBlock, DetachedBlock, SkippedHeight, OutOfWindow, MissingEpochInfo, WrongEpoch, StateSyncEpochs, StateSyncMaterial}
use Rattle.dkg_infos.specs.declared.fault.LocalCause.TheVariants.{OwnDealing, OutcomeOmitted}
use Rattle.dkg_infos.specs.declared.fault.ParticipantsCause.TheVariants.{ProviderEmpty, ProviderAbove}
use Rattle.dkg_infos.specs.declared.info.EpochInfo.{EpochInfo}
use Rattle.dkg_types.specs.declared.message.Message.{Message as Channel}
use Rattle.dkg_types.specs.declared.message.Message.TheVariants.{Dealer as ADealing, Ack as AnAck}
use Rattle.dkg_infos.specs.declared.participants.Participants.{Participants}
use Rattle.dkg_infos.specs.declared.participants.ParticipantsError.{ParticipantsError}
use Rattle.dkg_types.specs.MessageCodes.{message_at}
use Rattle.dkg_infos.specs.NextInfos.{info_by}
use Rattle.dkg_types.specs.PayloadCodes.{its_log}
use Rattle.dkg_infos.specs.Validation.{validation}
use Rattle.dkg_store.specs.Acts.{Held, OnDisk, Changes, World, says, does, held_after, notes}
use Rattle.dkg_store.specs.Events.{event_spelling, IsEvent}
use Rattle.dkg_store.specs.declared.event.Event.{Event}
use Rattle.dkg_store.specs.declared.event.Event.TheVariants as events
use Rattle.dkg_secrets.specs.declared.secrets.SecretOp.TheVariants.{PutShare, PutSeed, PutDealing, Prune}
use Rattle.dkg_secrets.specs.Keys.{key_cmp}
use Rattle.dkg_store.specs.Noted.{Notes, noted_ack, noted_log, acks_in, logs_in}
use Rattle.dkg_store.specs.Pairs.{Dealing, IsWhole, HasHalf, recovered, recorded_dealing, dealing_in_event}
use Rattle.dkg_secrets.specs.Secrets.{Secrets}
use Rattle.dkg_secrets.specs.Secrets as of_secrets
use Rattle.dkg_store.proofs.Halves.{recovered_at, prune_halves}
use Rattle.dkg_secrets.proofs.Map.{keys_total, exact_keys}
use Rattle.dkg_store.proofs.Noted.{says_ack, says_log, noted_placed, noted_silent}
use Rattle.dkg_store.proofs.Pairs.{record_one}
use Rattle.dkg_store.proofs.Pruned.{recovered_from, acks_from, logs_from}
use Rattle.dkg_store.proofs.Silent.{says_dealing}
use Rattle.dkg_secrets.proofs.Tried.{all_done}
use Rattle.dkg_core.specs.Sources.{Tip, startup}
use Rattle.dkg_core.specs.Courses.{Course, Say, Do, CallOutside, Ask, Goes, Stops, Tracks, bind, Finishes}
use Rattle.dkg_core.specs.Fixed.{Fixed, Material, OneShot, has, start}
use Rattle.dkg_core.specs.Live.{Live, Records, Dealer, Seat, Plays, Watches, Stage, Deals, Includes, Follows, Ends, Request, Job, Verified, VerifiedLogs, Artifact, Message, Mailed, Peer, Finalized, NextLog, ReleaseLog, EpochInfoOf, Feed, Over, Cancel, Work, awaited_height, recorded_at, records_of_epoch, phase_of, with_tip, with_participation, with_inclusion, with_queue, with_used, is_last_height}
use Rattle.dkg_core.specs.Logs.{canonical, filled_by, is_accepted, carried_log_event, logs_of, recorded_log}
use Rattle.dkg_core.specs.Setup as s
use Rattle.dkg_core.specs.Dealing as d
use Rattle.dkg_core.specs.Including as i
use Rattle.dkg_core.specs.Blocks as b
use Rattle.dkg_core.specs.Plans as p
use Rattle.dkg_core.specs.OneShots as o
use Rattle.dkg_core.specs.Core.{opening, step, opens_in, begun_life}
use Rattle.dkg_core.specs.Heard.{recovered_in, Fits}
use Rattle.dkg_core.specs.Agreeing.{AreAgreed, CanRecord, BringsRecords, StepsAgree, SetupsAgree, OpeningsAgree}
use Rattle.dkg_core.proofs.Keeping.{fold_silent, silent_whole}

-- WHERE A COURSE LANDS: its end, over what the devices hold

abbrev Lands : {Dir : Type 0} → Course Dir Fault (Live Dir) → Held → Type 0
Lands (Say line course) h = Lands course h
Lands (Do op course) h = Lands course (held_after op h)
Lands (CallOutside outer course) h = Lands course h
Lands (Ask f) h = Lands (f h) h
Lands (Goes st) h = AreAgreed st.records h
Lands (Stops fault) h = Unit {0}

lands_bind : {Dir : Type 0} (course : Course Dir Fault (Live Dir)) (next : Live Dir → Course Dir Fault (Live Dir)) (h : Held) → Lands course h
    → ((st : Live Dir) (h : Held) → AreAgreed st.records h → Lands (next st) h) → Lands (bind course next) h
lands_bind (Say line course) next h l more = lands_bind course next h l more
lands_bind (Do op course) next h l more = lands_bind course next (held_after op h) l more
lands_bind (CallOutside outer course) next h l more = lands_bind course next h l more
lands_bind (Ask f) next h l more = lands_bind (f h) next h l more
lands_bind (Goes st) next h l more = more st h l
lands_bind (Stops fault) next h l more = tt

lands_if : {Dir : Type 0} (t : Bool) (x y : Course Dir Fault (Live Dir)) (h : Held) → (t ≡ true → Lands x h) → (t ≡ false → Lands y h) → Lands (if t then x else y) h
lands_if true x y h one other = one refl
lands_if false x y h one other = other refl

lands_option : {Dir A : Type 0} (found : Option A) (f : A → Course Dir Fault (Live Dir)) (none : Course Dir Fault (Live Dir)) (h : Held)
    → ((a : A) → found ≡ Some a → Lands (f a) h) → (found ≡ None → Lands none h) → Lands (option_map_or f found none) h
lands_option None f none h some without = without refl
lands_option (Some a) f none h some without = some a refl

pub lands_at : {Dir : Type 0} (course : Course Dir Fault (Live Dir)) (w new : World) (end : Live Dir) → Lands course w.held → Finishes course end w new → AreAgreed end.records new.held
lands_at (Say line course) w new end l done = lands_at course (says w line) new end l done
lands_at (Do op course) w new end l done = lands_at course (does w op) new end l done
lands_at (CallOutside outer course) w new end l done = lands_at course w new end l done
lands_at (Ask f) w new end l done = lands_at (f w.held) w new end l done
lands_at {Dir} (Goes st) w new end l done =
    subst (λ (x : World). AreAgreed end.records x.held) (sym done.0) (subst (λ (x : Live Dir). AreAgreed x.records w.held) (sym done.1) l)
lands_at (Stops fault) w new end l done = absurd done

-- WHAT THE OPERATIONS DO

has_half : (s t : Secrets) (found : Option Dealing) → t.privates ≡ s.privates → HasHalf s found → HasHalf t found
has_half s t None same has = tt
has_half s t (Some d) same has = subst (λ (m : FinMap key_cmp ℕ). IsSome (get m d.key)) (sym same) has

pub all_whole : (s t : Secrets) (es : List SectionEntry) → t.privates ≡ s.privates → IsWhole es s → IsWhole es t
all_whole s t [] same whole = tt
all_whole s t (e ∷ es) same whole = (has_half s t (recorded_dealing e) same whole.0, all_whole s t es same whole.1)

-- a change of the secrets that leaves the private halves
same_halves : (r : Records) (h : Held) (t : Secrets) → t.privates ≡ h.secrets.privates → AreAgreed r h → AreAgreed r (record { journaled = h.journaled; secrets = t })
same_halves r h t same a = record {
  whole = all_whole h.secrets t (notes h) same a.whole;
  dealings = a.dealings ∙ ap maps.entries (sym (same_map keys_total exact_keys (recovered (notes h) t) (recovered (notes h) h.secrets)
      (λ k. recovered_at h.secrets t k (notes h) (ap (λ (m : FinMap key_cmp ℕ). get m k) same))));
  acks = a.acks;
  logs = a.logs;
}

-- PRUNES

at_least : (min n : ℕ) → nat_le min n ≡ true → min ≤ n
at_least min n e = grind (arith, nat_tests)

abbrev kept : ℕ → ℕ × ℕ → Bool
kept min k = nat_le min k.0

alike : (min : ℕ) (k x : ℕ × ℕ) → key_cmp k x ≡ Equal → kept min x ≡ kept min k
alike min k x tied = ap (kept min) (sym (exact_keys k x tied))

pub entries_kept : {V : Type 0} (m : FinMap key_cmp V) (min : ℕ) → maps.entries (retain_keys m (kept min)) ≡ s.kept_from min (maps.entries m)
entries_kept {V} m min =
    let es : List ((ℕ × ℕ) × V) = where_key key_cmp (kept min) (maps.entries m) in
    let sorted = is_sorted-where_key key_cmp (kept min) (maps.entries m) (entries_sorted m) in
    let same : retain_keys m (kept min) ≡ from_sorted {R = key_cmp} es =
    same_map keys_total exact_keys _ _ (λ k.
    get-retain_keys m (kept min) k (alike min k)
    ∙ ap (λ (found : Option V). cond (kept min k) found None) (get-entries m k)
    ∙ sym (find-where_key key_cmp (kept min) k (alike min k) (maps.entries m))
    ∙ sym (get-from_sorted key_cmp es k sorted)) in
    ap (maps.entries {K = ℕ × ℕ} {X = V} {R = key_cmp}) same ∙ entries-from_sorted key_cmp es sorted

cond_same : {A : Type 0} (t : Bool) (x y : Option A) → (t ≡ true → x ≡ y) → cond t x None ≡ cond t y None
cond_same true x y same = same refl
cond_same false x y same = refl

module _ (min : ℕ) (s t : Secrets) (halves : (k : ℕ × ℕ) → min ≤ k.0 → get t.privates k ≡ get s.privates k) where
  recovered_kept : (es : List SectionEntry) → recovered (from_section min es) t ≡ retain_keys (recovered es s) (kept min)
  recovered_kept es =
      recovered_from min es t
      ∙ same_map keys_total exact_keys (retain_keys (recovered es t) (kept min)) (retain_keys (recovered es s) (kept min)) (λ k.
      get-retain_keys (recovered es t) (kept min) k (alike min k)
      ∙ cond_same (kept min k) (get (recovered es t) k) (get (recovered es s) k) (λ e. recovered_at s t k es (halves k (at_least min k.0 e)))
      ∙ sym (get-retain_keys (recovered es s) (kept min) k (alike min k)))

  abbrev IsUnder : ℕ → Option Dealing → Type 0
  IsUnder section None = Unit {0}
  IsUnder section (Some d) = d.key.0 ≡ section

  under : (epoch : ℕ) (read : Result Event CodecError) → IsUnder epoch (dealing_in_event epoch read)
  under epoch (Ok (events.Dealing dealer public)) = refl
  under epoch (Ok (events.Ack player ack)) = tt
  under epoch (Ok (events.Log dealer log)) = tt
  under epoch (Ok (events.LogAt dealer height log)) = tt
  under epoch (Err e) = tt

  half_above : (section : ℕ) (found : Option Dealing) → IsUnder section found → min ≤ section → HasHalf s found → HasHalf t found
  half_above section None is above has = tt
  half_above section (Some d) is above has = subst IsSome (sym (halves d.key (subst (λ (n : ℕ). min ≤ n) (sym is) above))) has

  pub whole_kept : (es : List SectionEntry) → IsWhole es s → IsWhole (from_section min es) t
  whole_kept [] all = tt
  whole_kept (e ∷ es) all =
      elim (nat_le min e.0) as (λ (stays : Bool). nat_le min e.0 ≡ stays → IsWhole (cond stays (e ∷ from_section min es) (from_section min es)) t) [
        | true ↦ λ is. (half_above e.0 (recorded_dealing e) (under e.0 _) (at_least min e.0 is) all.0, whole_kept es all.1)
        | false ↦ λ is. whole_kept es all.1
      ] refl

pruned : (r : Records) (min : ℕ) (h : Held) → AreAgreed r h → AreAgreed (s.records_from min r) (held_after (Changes (Prune min)) (held_after (OnDisk (Prunes min)) h))
pruned r min h a =
    let t : Secrets = of_secrets.after (Prune min) h.secrets in
    let halves : (k : ℕ × ℕ) → min ≤ k.0 → get t.privates k ≡ get h.secrets.privates k = λ k above. prune_halves min h.secrets t k (all_done (Prune min) h.secrets t refl) above in
    record {
      whole = whole_kept min h.secrets t halves (notes h) a.whole;
      dealings = ap (s.kept_from min) a.dealings ∙ sym (entries_kept (recovered_in h) min) ∙ ap maps.entries (sym (recovered_kept min h.secrets t halves (notes h)));
      acks = ap (s.kept_from min) a.acks ∙ sym (entries_kept (acks_in (notes h)) min) ∙ ap maps.entries (sym (acks_from min (notes h)));
      logs = ap (s.kept_from min) a.logs ∙ sym (entries_kept (logs_in (notes h)) min) ∙ ap maps.entries (sym (logs_from min (notes h)));
    }

-- RECORDS

not_there : {A : Type 0} (found : Option A) → is_some found ≡ false → found ≡ None
not_there None e = refl
not_there (Some a) e = absurd (let f : ◌≡◌ {A = Bool} true false = e in cc)

-- nothing is noted at a key at which memory has nothing
pub unnoted : {V : Type 0} (m : Notes V) (records : List ((ℕ × ℕ) × V)) (k : ℕ × ℕ) → records ≡ maps.entries m → find key_cmp k records ≡ None → get m k ≡ None
unnoted m records k same none = get-entries m k ∙ ap (find key_cmp k) (sym same) ∙ none

pub put_same : {V : Type 0} (m : Notes V) (records : List ((ℕ × ℕ) × V)) (k : ℕ × ℕ) (v : V) → records ≡ maps.entries m → put key_cmp k v records ≡ maps.entries (maps.insert m k v)
put_same m records k v same = ap (put key_cmp k v) same ∙ sym (entries-insert keys_total m k v)

module _ (epoch : ℕ) (h : Held) where
  -- an acknowledgement more
  ack_more : (r : Records) (player : ℕ) (ack : List ℕ) → IsEvent (events.Ack player ack) → recorded_at r.acks epoch player ≡ None → AreAgreed r h
      → AreAgreed (record r { acks = put key_cmp (epoch, player) ack r.acks }) (held_after (OnDisk (Appends (epoch, event_spelling (events.Ack player ack)))) h)
  ack_more r player ack is none a =
      let e : SectionEntry = (epoch, event_spelling (events.Ack player ack)) in
      let silent : recorded_dealing e ≡ None = says_dealing epoch (events.Ack player ack) is in
      record {
        whole = silent_whole h.secrets e silent (notes h) a.whole;
        dealings = a.dealings ∙ ap maps.entries (sym (fold_silent h.secrets e silent (notes h) empty));
        acks = put_same (acks_in (notes h)) r.acks (epoch, player) ack a.acks
            ∙ ap maps.entries (sym (noted_placed noted_ack (epoch, player) ack e (notes h) (says_ack epoch (events.Ack player ack) is) (unnoted (acks_in (notes h)) r.acks (epoch, player) a.acks none)));
        logs = a.logs ∙ ap maps.entries (sym (noted_silent noted_log e (notes h) (says_log epoch (events.Ack player ack) is)));
      }

  -- a log more
  log_more : (r : Records) (log : SignedDealerLog) (height : ℕ) → IsEvent (events.LogAt log.dealer height log.log) → recorded_at r.logs epoch log.dealer ≡ None → AreAgreed r h
      → AreAgreed (record r { logs = put key_cmp (epoch, log.dealer) (recorded_log height log.log) r.logs }) (held_after (OnDisk (Appends (epoch, event_spelling (carried_log_event log.dealer height log.log)))) h)
  log_more r log height is none a =
      let e : SectionEntry = (epoch, event_spelling (carried_log_event log.dealer height log.log)) in
      let silent : recorded_dealing e ≡ None = says_dealing epoch (carried_log_event log.dealer height log.log) is in
      record {
        whole = silent_whole h.secrets e silent (notes h) a.whole;
        dealings = a.dealings ∙ ap maps.entries (sym (fold_silent h.secrets e silent (notes h) empty));
        acks = a.acks ∙ ap maps.entries (sym (noted_silent noted_ack e (notes h) (says_ack epoch (carried_log_event log.dealer height log.log) is)));
        logs = put_same (logs_in (notes h)) r.logs (epoch, log.dealer) (recorded_log height log.log) a.logs
            ∙ ap maps.entries (sym (noted_placed noted_log (epoch, log.dealer) (recorded_log height log.log) e (notes h) (says_log epoch (carried_log_event log.dealer height log.log) is)
            (unnoted (logs_in (notes h)) r.logs (epoch, log.dealer) a.logs none)));
      }

  -- a dealing more
  pub dealing_more : (r : Records) (dealer : ℕ) (public : List ℕ) (private : ℕ) → IsEvent (events.Dealing dealer public) → recorded_at r.dealings epoch dealer ≡ None → AreAgreed r h
      → AreAgreed (record r { dealings = put key_cmp (epoch, dealer) (public, private) r.dealings })
      (held_after (OnDisk (Appends (epoch, event_spelling (events.Dealing dealer public)))) (held_after (Changes (PutDealing epoch dealer private)) h))
  dealing_more r dealer public private is none a =
      let e : SectionEntry = (epoch, event_spelling (events.Dealing dealer public)) in
      let fresh : get (recovered_in h) (epoch, dealer) ≡ None = unnoted (recovered_in h) r.dealings (epoch, dealer) a.dealings none in
      let more = record_one epoch dealer private public is (recovered_in h) fresh h.secrets (notes h) a.whole refl in
      record {
        whole = more.0;
        dealings = put_same (recovered_in h) r.dealings (epoch, dealer) (public, private) a.dealings ∙ ap maps.entries (sym more.1);
        acks = a.acks ∙ ap maps.entries (sym (noted_silent noted_ack e (notes h) (says_ack epoch (events.Dealing dealer public) is)));
        logs = a.logs ∙ ap maps.entries (sym (noted_silent noted_log e (notes h) (says_log epoch (events.Dealing dealer public) is)));
      }

-- SETUP

module _ {Dir : Type 0} (c : Fixed Dir) where
  commits : (info : EpochInfo Dir) (seed : List ℕ) (share : Option ℕ) (st : Live Dir) (h : Held) → AreAgreed st.records h → Lands (s.commits info seed share st) h
  commits info seed None st h a = same_halves st.records h (of_secrets.after (PutSeed info.epoch seed) h.secrets) refl a
  commits info seed (Some share) st h a =
      let shared : Held = held_after (Changes (PutShare info.epoch share)) h in
      same_halves st.records shared (of_secrets.after (PutSeed info.epoch seed) shared.secrets) refl (same_halves st.records h (of_secrets.after (PutShare info.epoch share) h.secrets) refl a)

  commits_new : (standing : s.Standing) (info : EpochInfo Dir) (seed : List ℕ) (share : Option ℕ) (st : Live Dir) (h : Held) → AreAgreed st.records h → Lands (s.commits_new standing c info seed share st) h
  commits_new s.WasCommitted info seed share st h a = a
  commits_new s.Uncommitted info seed share st h a = lands_bind (s.commits info seed share st) (λ st. s.registers c info share st) h (commits info seed share st h a) (λ st h a. a)

  takes_part : (round : Round) (phase : Phase) (dealer : Option Dealer) (seat : Seat) (st : Live Dir) (h : Held) → AreAgreed st.records h → Lands (s.takes_part c round phase dealer seat st) h
  takes_part round Early dealer seat st h a = a
  takes_part round Midpoint dealer seat st h a = a
  takes_part round Late dealer seat st h a = a

  sits_down : (round : Round) (phase : Phase) (dealer : Option Dealer) (refused : Option ℕ) (st : Live Dir) (h : Held) → AreAgreed st.records h → Lands (s.sits_down c round phase dealer refused st) h
  sits_down round phase dealer (Some refused) st h a = tt
  sits_down round phase dealer None st h a = takes_part round phase dealer Plays st h a

  makes_player : (round : Round) (phase : Phase) (dealer : Option Dealer) (st : Live Dir) (h : Held) → AreAgreed st.records h → Lands (s.makes_player c round phase dealer st) h
  makes_player round phase dealer st h a =
      lands_if (not (has round.players c.me) || s.is_lost c round (records_of_epoch round.number st.records.dealings) (logs_of st round.number))
      (s.takes_part c round phase dealer Watches st) (s.sits_down c round phase dealer (s.refused_in c round st) st) h
      (λ e. takes_part round phase dealer Watches st h a) (λ e. sits_down round phase dealer (s.refused_in c round st) st h a)

  dealt_by : (round : Round) (phase : Phase) (st : Live Dir) (dealt : Result (List ℕ × List (ℕ × ℕ)) DealError) (h : Held) → AreAgreed st.records h → Lands (s.dealt_by c round phase st dealt) h
  dealt_by round phase st (Ok dealt) h a = makes_player round phase (s.dealer_for phase round (s.dealer_from c round st dealt)) st h a
  dealt_by round phase st (Err refused) h a = tt

  in_round : (phase : Phase) (share : Option ℕ) (seed : List ℕ) (st : Live Dir) (round : Result Round RoundError) (h : Held) → AreAgreed st.records h → Lands (s.in_round c phase share seed st round) h
  in_round phase share seed st (Err e) h a = tt
  in_round phase share seed st (Ok round) h a =
      lands_if (s.may_deal c round share st) (s.dealt_by c round phase st (c.rules.deal_of round c.me share seed)) (s.makes_player c round phase None st) h
      (λ e. dealt_by round phase st (c.rules.deal_of round c.me share seed) h a) (λ e. makes_player round phase None st h a)

  draws_up : (q : Participants) (previous : Option Output) (share : Option ℕ) (seed : List ℕ) (st : Live Dir) (h : Held) → AreAgreed st.records h → Lands (s.draws_up c q previous share seed st) h
  draws_up q previous share seed st h a =
      in_round (phase_of c (awaited_height st)) share seed st (c.rules.round_of c.namespace st.participation.epoch previous c.mode c.reveal q.dealers q.players) h a

  with_share_and_seed : (floor : Option ℕ) (standing : s.Standing) (info : EpochInfo Dir) (share : Option ℕ) (seed : List ℕ) (st : Live Dir) (h : Held) → AreAgreed st.records h
      → Lands (s.with_share_and_seed c floor standing info share seed st) h
  with_share_and_seed floor standing info share seed st h a =
      lands_bind (s.commits_new standing c info seed share st)
      (λ st. bind (s.prunes (st.participation.epoch - 1) st) (λ st. if s.is_late_floor c floor then s.follows c st else s.draws_up c (s.participants_of info) (Some info.output) share seed st))
      h (commits_new standing info seed share st h a)
      (λ st h a. lands_bind (s.prunes (st.participation.epoch - 1) st)
      (λ st. if s.is_late_floor c floor then s.follows c st else s.draws_up c (s.participants_of info) (Some info.output) share seed st)
      h (pruned st.records (st.participation.epoch - 1) h a)
      (λ st h a. lands_if (s.is_late_floor c floor) (s.follows c st) (s.draws_up c (s.participants_of info) (Some info.output) share seed st) h
      (λ e. a) (λ e. draws_up (s.participants_of info) (Some info.output) share seed st h a)))

  judged : (floor : Option ℕ) (standing : s.Standing) (info : EpochInfo Dir) (st : Live Dir) (valid : Result (Unit {0}) ParticipantsError) (h : Held) → AreAgreed st.records h
      → Lands (s.info_judged c floor standing info st valid) h
  judged floor standing info st (Err e) h a = tt
  judged floor standing info st (Ok passed) h a =
      with_share_and_seed floor standing info (s.recovered_share c (c.seen h) info) (s.seed_for c info.epoch (lookup info.epoch (c.seen h).seeds)) st h a

  with_info : (floor : Option ℕ) (standing : s.Standing) (info : EpochInfo Dir) (st : Live Dir) (h : Held) → AreAgreed st.records h → Lands (s.with_info c floor standing info st) h
  with_info floor standing info st h a =
      lands_if (info.epoch == st.participation.epoch) (s.info_judged c floor standing info st (validation (s.participants_of info) c.limit (Some info.output) info.epoch)) (Stops (WrongEpoch st.participation.epoch info.epoch)) h
      (λ e. judged floor standing info st (validation (s.participants_of info) c.limit (Some info.output) info.epoch) h a) (λ e. tt)

  from_boundary : (found : Option (Block Dir)) (st : Live Dir) (h : Held) → AreAgreed st.records h → Lands (s.from_boundary c found st) h
  from_boundary None st h a = a
  from_boundary (Some block) st h a =
      lands_option (info_of block.payload) (λ info. s.with_info c None s.Uncommitted info st) (Stops (MissingEpochInfo block.height)) h (λ info e. with_info None s.Uncommitted info st h a) (λ e. tt)

  from_material : (m : Option (EpochInfo Dir × ℕ)) (st : Live Dir) (h : Held) → AreAgreed st.records h → Lands (s.from_material c m st) h
  from_material (Some m) st h a = with_info (Some m.1) s.Uncommitted m.0 st h a
  from_material None st h a = from_boundary (c.source.block (boundary c.blocks_per_epoch st.participation.epoch)) st h a

  sets_up : (m : Option (EpochInfo Dir × ℕ)) (committed : Option (EpochInfo Dir)) (st : Live Dir) (h : Held) → AreAgreed st.records h → Lands (s.sets_up_by c m committed st) h
  sets_up m (Some info) st h a = with_info (option_map (λ m. m.1) m) s.WasCommitted info st h a
  sets_up m None st h a = from_material m st h a

  setup : (m : Option (EpochInfo Dir × ℕ)) (st : Live Dir) (h : Held) → AreAgreed st.records h → Lands (s.setup c m st) h
  setup m st h a =
      lands_if (s.is_past_range c (awaited_height st)) (Stops HeightRange) (s.sets_up c m st) h (λ e. tt) (λ e. sets_up m (s.committed_info (s.anew c st)) (s.anew c st) h a)

  -- REQUESTS AND ARTIFACTS

  rounds : (st : Live Dir) (f : Round → Course Dir Fault (Live Dir)) (h : Held) → AreAgreed st.records h → ((round : Round) → Lands (f round) h) → Lands (d.with_round st f) h
  rounds st f h a each = lands_option st.participation.round f (Goes st) h (λ round e. each round) (λ e. a)

  gives : (request height : ℕ) (log : Option SignedDealerLog) (st : Live Dir) (h : Held) → AreAgreed st.records h → Lands (i.gives_log c request height log st) h
  gives request height None st h a = a
  gives request height (Some log) st h a = a

  -- how an artifact goes on
  abbrev Each : Held → i.Continuation Dir → Type 0
  Each h next = (made : Artifact Dir) (st : Live Dir) → AreAgreed st.records h → Lands (next made st) h

  with_directory : (info : EpochInfo Dir) (course : Course Dir Fault (Live Dir)) (h : Held) → Lands course h → Lands (i.with_directory c info course) h
  with_directory info course h l = lands_if (c.directories.matches info.directory (i.info_peers info)) course (Stops (DirectoryMismatch info.epoch)) h (λ e. l) (λ e. tt)

  share_by : (info : EpochInfo Dir) (result : Option Verified) (f : Option ℕ → Course Dir Fault (Live Dir)) (h : Held) → ((share : Option ℕ) → Lands (f share) h) → Lands (i.share_by c info result f) h
  share_by info (Some found) f h each = each found.share
  share_by info None f h each =
      lands_if (has info.output.players c.me) (s.looks c (λ seen. f (lookup info.epoch seen.shares))) (f None) h (λ e. each (lookup info.epoch (c.seen h).shares)) (λ e. each None)

  with_provided : (epoch : ℕ) (course : Course Dir Fault (Live Dir)) (h : Held) → Lands course h → Lands (i.with_provided c epoch course) h
  with_provided epoch course h l =
      let n = length (c.provided.participants epoch) in
      let above : Course Dir Fault (Live Dir) = Stops (InvalidParticipants (ProviderAbove n c.limit)) in
      let none : Course Dir Fault (Live Dir) = Stops (InvalidParticipants ProviderEmpty) in
      lands_if (nat_le (2 ^ 64) epoch) (Stops HeightRange) (if n == 0 then none else if nat_lt c.limit n then above else course) h (λ e. tt)
      (λ e. lands_if (n == 0) none (if nat_lt c.limit n then above else course) h (λ e. tt) (λ e. lands_if (nat_lt c.limit n) above course h (λ e. tt) (λ e. l)))

  derives_next : (info : EpochInfo Dir) (r : VerifiedLogs) (st : Live Dir) (next : i.Continuation Dir) (h : Held) → AreAgreed st.records h → Each h next → Lands (i.derives_next c info r st next) h
  derives_next info r st next h a each =
      let made = info_by c.provided info (option_map (λ found. found.output) r.result) in
      with_provided (info.epoch + 2) (i.share_by c info r.result (λ share. i.with_directory c made (next (record { info = Some made; share = share }) st))) h
      (share_by info r.result (λ share. i.with_directory c made (next (record { info = Some made; share = share }) st)) h
      (λ share. with_directory made (next (record { info = Some made; share = share }) st) h (each (record { info = Some made; share = share }) st a)))

  once_with : (once : OneShot Dir) (output : Output) (share : Option ℕ) (st : Live Dir) (next : i.Continuation Dir) (h : Held) → AreAgreed st.records h → Each h next → Lands (i.oneshot_with c once output share st next) h
  once_with once output None st next h a each = tt
  once_with once output (Some share) st next h a each =
      with_directory (i.oneshot_made once output) (next (record { info = Some (i.oneshot_made once output); share = Some share }) st) h (each (record { info = Some (i.oneshot_made once output); share = Some share }) st a)

  derives : (once : Option (OneShot Dir)) (r : VerifiedLogs) (st : Live Dir) (next : i.Continuation Dir) (h : Held) → AreAgreed st.records h → Each h next → Lands (i.derives c once r st next) h
  derives (Some once) r st next h a each =
      lands_option r.result (λ found. i.oneshot_with c once found.output found.share st (i.keeping_artifact r.logs next)) (i.keeping_artifact r.logs next (record { info = None; share = None }) st) h
      (λ found e. once_with once found.output found.share st (i.keeping_artifact r.logs next) h a (λ made st a. each made (i.with_cached r.logs made st) a))
      (λ e. each (record { info = None; share = None }) (i.with_cached r.logs (record { info = None; share = None }) st) a)
  derives None r st next h a each =
      lands_option st.participation.current (λ info. i.derives_next c info r st (i.keeping_artifact r.logs next)) (Stops HeightRange) h
      (λ info e. derives_next info r st (i.keeping_artifact r.logs next) h a (λ made st a. each made (i.with_cached r.logs made st) a)) (λ e. tt)

  artifact_by : (r : VerifiedLogs) (cached : Option (Artifact Dir)) (st : Live Dir) (next : i.Continuation Dir) (h : Held) → AreAgreed st.records h → Each h next → Lands (i.artifact_by c r cached st next) h
  artifact_by r (Some made) st next h a each = each made st a
  artifact_by r None st next h a each = derives c.oneshot r st next h a each

  artifact : (r : VerifiedLogs) (st : Live Dir) (next : i.Continuation Dir) (h : Held) → AreAgreed st.records h → Each h next → Lands (i.artifact c r st next) h
  artifact r st next h a each = artifact_by r (i.cached_for st.inclusion.cached r.logs) st next h a each

  starts_unless : (job : Job) (waiter refused : Option ℕ) (st : Live Dir) (h : Held) → AreAgreed st.records h → Lands (i.starts_unless job waiter refused st) h
  starts_unless job waiter (Some refused) st h a = tt
  starts_unless job waiter None st h a = a

  starts : (round : Round) (logs : LogMap) (waiter : Option ℕ) (st : Live Dir) (h : Held) → AreAgreed st.records h → Lands (i.starts_verifying c round logs waiter st) h
  starts round logs waiter st h a = starts_unless (i.job_for c round logs st) waiter (if i.can_finish c round logs st then s.refused_in c round st else None) st h a

  asks_for : (round : Round) (request : ℕ) (logs : LogMap) (cached : Option (Artifact Dir)) (retained : Option VerifiedLogs) (st : Live Dir) (h : Held) → AreAgreed st.records h
      → Lands (i.asks_for_by c round request logs cached retained st) h
  asks_for round request logs (Some made) retained st h a = a
  asks_for round request logs None (Some r) st h a = artifact r st (i.answers_request c request) h a (λ made st a. a)
  asks_for round request logs None None st h a = starts round logs (Some request) st h a

  fed : (round : Round) (request : ℕ) (st : Live Dir) (f : i.Fed) (h : Held) → AreAgreed st.records h → Lands (i.fed c round request st f) h
  fed round request st i.Need h a = a
  fed round request st (i.Lacks reason) h a = a
  fed round request st (i.Found logs) h a =
      let all = filled_by (canonical c st) logs in
      asks_for round request all (i.cached_for st.inclusion.cached all) (i.retained_for st.inclusion.retained all) st h a

  reads_first : (round : Round) (next : Live Dir → Course Dir Fault (Live Dir)) (st : Live Dir) (stage : Stage) (running : Option Job) (queue : List (Request Dir)) (h : Held) → AreAgreed st.records h
      → ((st : Live Dir) (h : Held) → AreAgreed st.records h → Lands (next st) h) → Lands (i.reads_first_in c round next st stage running queue) h
  reads_first round next st Deals running queue h a each = a
  reads_first round next st Includes None [] h a each = a
  reads_first round next st Includes None (r ∷ rs) h a each =
      lands_if (i.is_need (i.read_of c round st r)) (Goes st) (bind (i.fed c round r.number (with_queue rs st) (i.read_of c round st r)) next) h
      (λ e. a) (λ e. lands_bind (i.fed c round r.number (with_queue rs st) (i.read_of c round st r)) next h (fed round r.number (with_queue rs st) (i.read_of c round st r) h a) each)
  reads_first round next st Includes (Some job) queue h a each = a
  reads_first round next st Follows running queue h a each = a
  reads_first round next st Ends running queue h a each = a

  advances : (fuel : ℕ) (st : Live Dir) (h : Held) → AreAgreed st.records h → Lands (i.advances c fuel st) h
  advances zero st h a = a
  advances (suc fuel) st h a =
      rounds st (λ round. i.reads_first c round (λ st. i.advances c fuel st) st) h a
      (λ round. reads_first round (λ st. i.advances c fuel st) st st.participation.stage st.inclusion.running st.inclusion.queue h a (λ st h a. advances fuel st h a))

  advanced : (st : Live Dir) (h : Held) → AreAgreed st.records h → Lands (i.advanced c st) h
  advanced st h a = advances (length st.inclusion.queue) st h a

  asks_in : (request : ℕ) (st : Live Dir) (stage : Stage) (h : Held) → AreAgreed st.records h → Lands (i.asks_in c request st stage) h
  asks_in request st Deals h a = a
  asks_in request st Includes h a = advanced (i.queued request st) h a
  asks_in request st Follows h a = a
  asks_in request st Ends h a = a

  releases : (height : ℕ) (st : Live Dir) (h : Held) → AreAgreed st.records h → Lands {Dir = Dir} (Goes (i.releases height st)) h
  releases height st h a =
      elim (i.is_served_at height st) as (λ (served : Bool). AreAgreed (if served then with_inclusion (record st.inclusion { served = None }) st else st).records h) [ true ↦ a | false ↦ a ]

  cancels : (request : ℕ) (st : Live Dir) (h : Held) → AreAgreed st.records h → Lands (i.cancels c request st) h
  cancels request st h a =
      lands_if (option_map_or (λ n. n == request) st.inclusion.waiter false) (Goes (with_inclusion (record st.inclusion { waiter = None }) st))
      (i.advanced c (with_queue (filter (λ r. not (r.number == request)) st.inclusion.queue) st)) h (λ e. a) (λ e. advanced (with_queue (filter (λ r. not (r.number == request)) st.inclusion.queue) st) h a)

  completes : (r : VerifiedLogs) (st : Live Dir) (waiter : Option ℕ) (h : Held) → AreAgreed st.records h → Lands (i.completes_in c r st waiter) h
  completes r st None h a = a
  completes r st (Some request) h a = artifact r st (λ made st. bind (i.answers_request c request made st) (λ st. Goes (i.retains c r st))) h a (λ made st a. a)

  ends_verifying : (handed : Option VerifiedLogs) (st : Live Dir) (running : Option Job) (h : Held) → AreAgreed st.records h → Lands (i.ends_verifying_in c handed st running) h
  ends_verifying handed st None h a = a
  ends_verifying handed st (Some job) h a = completes (i.job_result_of c handed job) st st.inclusion.waiter h a

  works : (handed : Option VerifiedLogs) (st : Live Dir) (h : Held) → AreAgreed st.records h → Lands (i.works c handed st) h
  works handed st h a =
      lands_if (is_some st.inclusion.running) (bind (i.ends_verifying c handed st) (λ st. i.advanced c st)) (Goes st) h
      (λ e. lands_bind (i.ends_verifying c handed st) (λ st. i.advanced c st) h (ends_verifying handed st st.inclusion.running h a) (λ st h a. advanced st h a)) (λ e. a)

  -- MESSAGES OF PEERS, AND OFFERS

  takes_ack : (epoch : ℕ) (dealer : Dealer) (player : ℕ) (ack : List ℕ) (st : Live Dir) (h : Held) → IsEvent (events.Ack player ack) → AreAgreed st.records h → Lands (d.takes_ack epoch dealer player ack st) h
  takes_ack epoch dealer player ack st h is a =
      lands_if (is_some (lookup player dealer.acks)) (Goes st)
      (if is_some (recorded_at st.records.acks epoch player) then Goes (d.counts dealer player ack st)
      else d.appends epoch (events.Ack player ack) (Goes (d.counts dealer player ack (d.with_ack epoch player ack st)))) h
      (λ e. a) (λ e. lands_if (is_some (recorded_at st.records.acks epoch player)) (Goes (d.counts dealer player ack st))
      (d.appends epoch (events.Ack player ack) (Goes (d.counts dealer player ack (d.with_ack epoch player ack st)))) h
      (λ e. a) (λ e. ack_more epoch h st.records player ack is (not_there (recorded_at st.records.acks epoch player) e) a))

  checked_ack : (round : Round) (dealer : Dealer) (player : ℕ) (ack : List ℕ) (st : Live Dir) (check : Result (Unit {0}) AckError) (h : Held) → IsEvent (events.Ack player ack) → AreAgreed st.records h
      → Lands (d.checked_ack round dealer player ack st check) h
  checked_ack round dealer player ack st (Err e) h is a = a
  checked_ack round dealer player ack st (Ok passed) h is a = takes_ack round.number dealer player ack st h is a

  hears_ack : (round : Round) (dealer : Option Dealer) (from : ℕ) (ack : List ℕ) (st : Live Dir) (h : Held) → IsEvent (events.Ack from ack) → AreAgreed st.records h → Lands (d.hears_ack c round dealer from ack st) h
  hears_ack round None from ack st h is a = a
  hears_ack round (Some dealer) from ack st h is a = checked_ack round dealer from ack st (c.rules.check_ack_of round c.me dealer.public from ack) h is a

  checked_dealing : (round : Round) (from : ℕ) (public : List ℕ) (private : ℕ) (st : Live Dir) (check : Result (Unit {0}) DealingError) (h : Held) → IsEvent (events.Dealing from public)
      → recorded_at st.records.dealings round.number from ≡ None → AreAgreed st.records h → Lands (d.checked_dealing c round from public private st check) h
  checked_dealing round from public private st (Err e) h is none a = a
  checked_dealing round from public private st (Ok passed) h is none a = dealing_more round.number h st.records from public private is none a

  of_recorded : (round : Round) (from : ℕ) (public : List ℕ) (private : ℕ) (st : Live Dir) (found : Option (List ℕ × ℕ)) (h : Held) → IsEvent (events.Dealing from public)
      → recorded_at st.records.dealings round.number from ≡ found → AreAgreed st.records h → Lands (d.hears_dealing_in c round from public private st found) h
  of_recorded round from public private st (Some kept) h is found a = a
  of_recorded round from public private st None h is none a = checked_dealing round from public private st (c.rules.dealing_of round c.me from public private) h is none a

  a_dealing : (round : Round) (from : ℕ) (public : List ℕ) (private : ℕ) (st : Live Dir) (seat : Seat) (h : Held) → IsEvent (events.Dealing from public) → AreAgreed st.records h
      → Lands (d.seats_dealing_in c round from public private st seat) h
  a_dealing round from public private st Plays h is a = of_recorded round from public private st (recorded_at st.records.dealings round.number from) h is refl a
  a_dealing round from public private st Watches h is a = a

  reads : (round : Round) (from : ℕ) (st : Live Dir) (message : Result Channel CodecError) (h : Held) → ((public : List ℕ) (private : ℕ) → message ≡ Ok (ADealing public private) → IsEvent (events.Dealing from public))
      → ((ack : List ℕ) → message ≡ Ok (AnAck ack) → IsEvent (events.Ack from ack)) → AreAgreed st.records h → Lands (d.reads c round from st message) h
  reads round from st (Err e) h fits fits_ack a = a
  reads round from st (Ok (ADealing public private)) h fits fits_ack a = a_dealing round from public private st st.participation.seat h (fits public private refl) a
  reads round from st (Ok (AnAck ack)) h fits fits_ack a = hears_ack round st.participation.dealer from ack st h (fits_ack ack refl) a

  hears : (from : ℕ) (bytes : List ℕ) (st : Live Dir) (stage : Stage) (h : Held) → Fits c (from, bytes) → AreAgreed st.records h → Lands (d.hears_peer_in c from bytes st stage) h
  hears from bytes st Deals h fits a =
      rounds st (λ round. d.reads c round from st (all_of (message_at c.limit bytes))) h a (λ round. reads round from st (all_of (message_at c.limit bytes)) h fits.0 fits.1 a)
  hears from bytes st Includes h fits a = a
  hears from bytes st Follows h fits a = a
  hears from bytes st Ends h fits a = a

  module _ (fits_own : (round : Round) (public : List ℕ) → IsEvent (events.Ack c.me (c.rules.ack_of c.me round c.me public))) where
    own_ack : (round : Round) (public : List ℕ) (st : Live Dir) (h : Held) → AreAgreed st.records h → Lands (d.own_ack c round public st) h
    own_ack round public st h a =
        let ack = c.rules.ack_of c.me round c.me public in
        lands_option st.participation.dealer (λ dealer. d.checked_ack round dealer c.me ack st (c.rules.check_ack_of round c.me dealer.public c.me ack)) (Goes st) h
        (λ dealer e. checked_ack round dealer c.me ack st (c.rules.check_ack_of round c.me dealer.public c.me ack) h (fits_own round public) a) (λ e. a)

    to_itself_in : (round : Round) (public : List ℕ) (private : ℕ) (st : Live Dir) (found : Option (List ℕ × ℕ)) (h : Held) → IsEvent (events.Dealing c.me public)
        → recorded_at st.records.dealings round.number c.me ≡ found → AreAgreed st.records h → Lands (d.deals_to_itself_in c round public private st found) h
    to_itself_in round public private st (Some kept) h is found a =
        lands_if (bytes_eq kept.0 public) (d.own_ack c round public st) (Stops (LocalState (OwnDealing round.number kept.0 public))) h (λ e. own_ack round public st h a) (λ e. tt)
    to_itself_in round public private st None h is none a =
        lands_bind (d.keeps round.number c.me public private st) (λ st. d.own_ack c round public st) h (dealing_more round.number h st.records c.me public private is none a) (λ st h a. own_ack round public st h a)

    pub to_itself : (round : Round) (public : List ℕ) (private : ℕ) (st : Live Dir) (seat : Seat) (h : Held) → IsEvent (events.Dealing c.me public) → AreAgreed st.records h
        → Lands (d.offers_to_itself_in c round public private st seat) h
    to_itself round public private st Plays h is a = to_itself_in round public private st (recorded_at st.records.dealings round.number c.me) h is refl a
    to_itself round public private st Watches h is a = a

    offers : (round : Round) (public : List ℕ) (ps : List (ℕ × ℕ)) (st : Live Dir) (h : Held) → IsEvent (events.Dealing c.me public) → AreAgreed st.records h → Lands (d.offers c round public ps st) h
    offers round public [] st h is a = a
    offers round public (q ∷ ps) st h is a =
        lands_if (q.0 == c.me) (bind (d.offers_to_itself c round public q.1 st) (λ st. d.offers c round public ps st)) (Say (lines.Offer round.number q.0 public q.1) (d.offers c round public ps st)) h
        (λ e. lands_bind (d.offers_to_itself c round public q.1 st) (λ st. d.offers c round public ps st) h (to_itself round public q.1 st st.participation.seat h is a) (λ st h a. offers round public ps st h is a))
        (λ e. offers round public ps st h is a)

    deals : (st : Live Dir) (h : Held) → ((dealer : Dealer) → st.participation.dealer ≡ Some dealer → IsEvent (events.Dealing c.me dealer.public)) → AreAgreed st.records h → Lands (d.deals c st) h
    deals st h is a =
        rounds st (λ round. option_map_or (λ dealer. d.offers c round dealer.public (s.unsent_of_round round dealer) st) st.participation.dealer (Goes st)) h a
        (λ round. lands_option st.participation.dealer (λ dealer. d.offers c round dealer.public (s.unsent_of_round round dealer) st) (Goes st) h (λ dealer e. offers round dealer.public (s.unsent_of_round round dealer) st h (is dealer e) a) (λ e. a))

  -- BLOCKS

  module _ (block : Block Dir) where
    without_own : (dealer : ℕ) (st : Live Dir) (h : Held) → AreAgreed st.records h → AreAgreed (b.without_own_log c dealer st).records h
    without_own dealer st h a =
        elim (dealer == c.me) as (λ (mine : Bool). AreAgreed (if mine then with_participation (record st.participation { dealer = option_map b.unoffered st.participation.dealer }) st else st).records h) [ true ↦ a | false ↦ a ]

    records_log : (epoch : ℕ) (log : SignedDealerLog) (st : Live Dir) (h : Held) → IsEvent (events.LogAt log.dealer block.height log.log) → AreAgreed st.records h → Lands (b.records_log epoch block.height log st) h
    records_log epoch log st h is a =
        lands_if (is_some (recorded_at st.records.logs epoch log.dealer)) (Goes st)
        (d.appends epoch (carried_log_event log.dealer block.height log.log) (Goes (b.with_log_at epoch log.dealer block.height log.log st))) h
        (λ e. a) (λ e. log_more epoch h st.records log block.height is (not_there (recorded_at st.records.logs epoch log.dealer) e) a)

    observes : (round : Round) (st : Live Dir) (log : Option SignedDealerLog) (h : Held) → ((found : SignedDealerLog) → log ≡ Some found → IsEvent (events.LogAt found.dealer block.height found.log))
        → AreAgreed st.records h → Lands (b.observes c round block st log) h
    observes round st None h is a = a
    observes round st (Some log) h is a =
        lands_if (is_accepted c round log) (bind (b.records_log round.number block.height log st) (λ st. Goes (b.without_own_log c log.dealer st))) (Goes st) h
        (λ e. lands_bind (b.records_log round.number block.height log st) (λ st. Goes (b.without_own_log c log.dealer st)) h (records_log round.number log st h (is log refl) a) (λ st h a. without_own log.dealer st h a)) (λ e. a)

    includes : (round : Round) (st : Live Dir) (h : Held) → BringsRecords c (Finalized block) → AreAgreed st.records h → Lands (b.includes c round block st) h
    includes round st h is a =
        lands_bind (b.observes c round block st (option_and_then its_log block.payload)) (λ st. i.advanced c (with_tip block (b.unserved block.height st))) h
        (observes round st (option_and_then its_log block.payload) h is a) (λ st h a. advanced (with_tip block (b.unserved block.height st)) h a)

    answers_all : (requests : List (Request Dir)) (st : Live Dir) (h : Held) → AreAgreed st.records h → Lands (b.answers_all requests st) h
    answers_all [] st h a = a
    answers_all (r ∷ rs) st h a = lands_bind (i.answers_none r.number Finished st) (λ st. b.answers_all rs st) h a (λ st h a. answers_all rs st h a)

    passes_on : (outcome : Option (EpochInfo Dir)) (st : Live Dir) (h : Held) → AreAgreed st.records h → Lands (b.passes_on c block outcome st) h
    passes_on outcome st h a =
        lands_bind (b.answers_all st.inclusion.queue (with_tip block st)) (λ st. if is_some c.oneshot then b.ends_once c outcome st else s.setup c None st) h (answers_all st.inclusion.queue (with_tip block st) h a)
        (λ st h a. lands_if (is_some c.oneshot) (b.ends_once c outcome st) (s.setup c None st) h (λ e. a) (λ e. setup None st h a))

    takes_over : (info : EpochInfo Dir) (share : Option ℕ) (st : Live Dir) (h : Held) → AreAgreed st.records h → Lands (b.takes_over c block info share st) h
    takes_over info share st h a =
        let seed = s.seed_for c info.epoch (lookup info.epoch (c.seen h).seeds) in
        lands_bind (s.commits info seed share st) (λ st. bind (if is_some c.oneshot then Goes st else s.registers c info share st) (λ st. b.passes_on c block (Some info) st)) h (commits info seed share st h a)
        (λ st h a. lands_bind (if is_some c.oneshot then Goes st else s.registers c info share st) (λ st. b.passes_on c block (Some info) st) h
        (lands_if (is_some c.oneshot) (Goes st) (s.registers c info share st) h (λ e. a) (λ e. a)) (λ st h a. passes_on (Some info) st h a))

    carried : (f : EpochInfo Dir → Course Dir Fault (Live Dir)) (h : Held) → ((info : EpochInfo Dir) → Lands (f info) h) → Lands (b.carried c block f) h
    carried f h each =
        lands_option (info_of block.payload) (λ info. if info.epoch == b.expected_epoch c block.height then f info else Stops (WrongEpoch (b.expected_epoch c block.height) info.epoch)) (Stops (MissingEpochInfo block.height)) h
        (λ info e. lands_if (info.epoch == b.expected_epoch c block.height) (f info) (Stops (WrongEpoch (b.expected_epoch c block.height) info.epoch)) h (λ e. each info) (λ e. tt)) (λ e. tt)

    concludes : (made : Artifact Dir) (st : Live Dir) (h : Held) → AreAgreed st.records h → Lands (b.concludes c block made st) h
    concludes made st h a =
        let omits : Course Dir Fault (Live Dir) = Stops (LocalState OutcomeOmitted) in
        lands_if (is_some c.oneshot && is_none block.payload) (if is_some made.info then omits else b.passes_on c block None st) (b.carried c block (λ info. b.takes_over c block info (b.share_for c info made) st)) h
        (λ e. lands_if (is_some made.info) omits (b.passes_on c block None st) h (λ e. tt) (λ e. passes_on None st h a))
        (λ e. carried (λ info. b.takes_over c block info (b.share_for c info made) st) h (λ info. takes_over info (b.share_for c info made) st h a))

    derives_now : (round : Round) (logs : LogMap) (r : Option VerifiedLogs) (st : Live Dir) (h : Held) → AreAgreed st.records h → Lands (b.derives_at_block c round block logs r st) h
    derives_now round logs (Some r) st h a = artifact r st (b.concludes c block) h a (λ made st a. concludes made st h a)
    derives_now round logs None st h a =
        let found = i.verified c (i.job_for c round logs st) in
        lands_bind (i.starts_verifying c round logs None st) (λ st. i.artifact c found (i.retains c found st) (b.concludes c block)) h (starts round logs None st h a)
        (λ st h a. artifact found (i.retains c found st) (b.concludes c block) h a (λ made st a. concludes made st h a))

    concludes_by : (round : Round) (logs : LogMap) (before now : Option (Artifact Dir)) (st : Live Dir) (h : Held) → AreAgreed st.records h → Lands (b.concludes_by c round block logs before now st) h
    concludes_by round logs (Some made) now st h a = concludes made st h a
    concludes_by round logs None (Some made) st h a = concludes made st h a
    concludes_by round logs None None st h a = derives_now round logs (i.retained_for st.inclusion.retained logs) st h a

    final_block : (round : Round) (st : Live Dir) (h : Held) → AreAgreed st.records h → Lands (b.final_block c round block st) h
    final_block round st h a =
        let logs = canonical c st in
        let before = i.cached_for st.inclusion.cached logs in
        lands_bind (i.ends_verifying c None st) (λ st. b.concludes_by c round block logs before (i.cached_for st.inclusion.cached logs) st) h (ends_verifying None st st.inclusion.running h a)
        (λ st h a. concludes_by round logs before (i.cached_for st.inclusion.cached logs) st h a)

    follows_into : (info : EpochInfo Dir) (st : Live Dir) (h : Held) → AreAgreed st.records h → Lands (b.follows_into c block info st) h
    follows_into info st h a =
        let seed = s.seed_for c info.epoch (lookup info.epoch (c.seen h).seeds) in
        let share = s.recovered_share c (c.seen h) info in
        lands_bind (s.commits info seed share st) (λ st. bind (s.registers c info share st) (λ st. s.setup c None (with_tip block st))) h (commits info seed share st h a)
        (λ st h a. lands_bind (s.registers c info share st) (λ st. s.setup c None (with_tip block st)) h a (λ st h a. setup None (with_tip block st) h a))

    follows_at : (st : Live Dir) (h : Held) → AreAgreed st.records h → Lands (b.follows_at c block st) h
    follows_at st h a =
        lands_if (is_last_height c block.height) (b.carried c block (λ info. b.follows_into c block info st)) (Goes (with_tip block st)) h
        (λ e. carried (λ info. b.follows_into c block info st) h (λ info. follows_into info st h a)) (λ e. a)

    module _ (fits_own : (round : Round) (public : List ℕ) → IsEvent (events.Ack c.me (c.rules.ack_of c.me round c.me public))) (fits_log : BringsRecords c (Finalized block)) where
      -- what this node's dealer deals fits a record
      abbrev Fitting : Live Dir → Type 0
      Fitting st = (dealer : Dealer) → st.participation.dealer ≡ Some dealer → IsEvent (events.Dealing c.me dealer.public)

      deals_at : (st : Live Dir) (h : Held) → Fitting st → AreAgreed st.records h → Lands (b.deals_at c block st) h
      deals_at st h is a =
          lands_bind (d.deals c st) (λ st. if block.height + 1 == midpoint c.blocks_per_epoch st.participation.epoch then i.advanced c (s.begins_inclusion c (with_tip block st)) else Goes (with_tip block st)) h
          (deals fits_own st h is a) (λ st h a. lands_if (block.height + 1 == midpoint c.blocks_per_epoch st.participation.epoch) (i.advanced c (s.begins_inclusion c (with_tip block st))) (Goes (with_tip block st)) h
          (λ e. advanced (s.begins_inclusion c (with_tip block st)) h a) (λ e. a))

      applies : (st : Live Dir) (stage : Stage) (h : Held) → Fitting st → AreAgreed st.records h → Lands (b.applies_in c block st stage) h
      applies st Deals h is a = deals_at st h is a
      applies st Includes h is a =
          rounds st (λ round. if is_last_height c block.height then b.final_block c round block st else b.includes c round block st) h a
          (λ round. lands_if (is_last_height c block.height) (b.final_block c round block st) (b.includes c round block st) h (λ e. final_block round st h a) (λ e. includes round st h fits_log a))
      applies st Follows h is a = follows_at st h a
      applies st Ends h is a = a

      over_tip : (st : Live Dir) (tip : Option Tip) (h : Held) → Fitting st → AreAgreed st.records h → Lands (b.over_tip_in c block st tip) h
      over_tip st None h is a =
          lands_if (b.is_in_window c block st) (b.applies c block st) (Stops (OutOfWindow block.height)) h (λ e. applies st st.participation.stage h is a) (λ e. tt)
      over_tip st (Some t) h is a =
          let low : Course Dir Fault (Live Dir) = if nat_le block.height t.height then Goes st else b.applies c block st in
          let child : Course Dir Fault (Live Dir) = if (block.height == t.height + 1) && not (bytes_eq block.parent t.digest) then Stops (DetachedBlock block.height) else low in
          let next : Course Dir Fault (Live Dir) = if nat_lt (t.height + 1) block.height then Stops (SkippedHeight (t.height + 1) block.height) else child in
          lands_if ((block.height == t.height) && not (bytes_eq block.digest t.digest)) (Stops (ConflictingBlock block.height)) next h (λ e. tt)
          (λ e. lands_if (nat_lt (t.height + 1) block.height) (Stops (SkippedHeight (t.height + 1) block.height)) child h (λ e. tt)
          (λ e. lands_if ((block.height == t.height + 1) && not (bytes_eq block.parent t.digest)) (Stops (DetachedBlock block.height)) low h (λ e. tt)
          (λ e. lands_if (nat_le block.height t.height) (Goes st) (b.applies c block st) h (λ e. a) (λ e. applies st st.participation.stage h is a))))

      in_reach : (st : Live Dir) (h : Held) → Fitting st → AreAgreed st.records h → Lands {Dir = Dir} (if s.is_past_range c block.height then Stops HeightRange else b.over_tip c block st) h
      in_reach st h is a = lands_if (s.is_past_range c block.height) (Stops HeightRange) (b.over_tip c block st) h (λ e. tt) (λ e. over_tip st st.tip h is a)

      delivers : (st : Live Dir) (stage : Stage) (h : Held) → Fitting st → AreAgreed st.records h → Lands (b.delivers_in c block st stage) h
      delivers st Deals h is a = in_reach st h is a
      delivers st Includes h is a = in_reach st h is a
      delivers st Follows h is a = in_reach st h is a
      delivers st Ends h is a = a

  -- ANY MESSAGE

  steps : (st : Live Dir) (message : Message Dir) (h : Held) → CanRecord c st message → AreAgreed st.records h → Lands (step c message st) h
  steps st (Finalized block) h can a = delivers block can.acks can.brings st st.participation.stage h can.dealing a
  steps st (Mailed (Peer from bytes)) h can a = hears from bytes st st.participation.stage h can.brings a
  steps st (Mailed (NextLog request height)) h can a = gives request height (i.served_now st) (with_used request st) h a
  steps st (Mailed (ReleaseLog height)) h can a = releases height st h a
  steps st (Mailed (EpochInfoOf request)) h can a = asks_in request (with_used request st) st.participation.stage h a
  steps st (Mailed (Feed request block)) h can a = advanced (i.changed request (λ r. if r.ended then r else record r { blocks = r.blocks ++ block ∷ [] }) st) h a
  steps st (Mailed (Over request)) h can a = advanced (i.changed request (λ r. record r { ended = true }) st) h a
  steps st (Mailed (Cancel request)) h can a = cancels request st h a
  steps st (Mailed (Work handed)) h can a = works handed st h a

  -- OPENINGS

  starts_at : (m : Material Dir) (found : Option (Block Dir)) (st : Live Dir) (h : Held) → AreAgreed st.records h → Lands (p.starts_at c m found st) h
  starts_at m None st h a = tt
  starts_at m (Some floor) st h a = setup (Some (m.info, floor.height)) (record st { tip = startup c.source.anchor (Some floor) }) h a

  starts_from : (st : Live Dir) (m : Option (Material Dir)) (h : Held) → AreAgreed st.records h → Lands (p.starts_from c st m) h
  starts_from st None h a = setup None (record st { tip = startup c.source.anchor None }) h a
  starts_from st (Some m) h a = starts_at m (c.source.by_digest m.floor.payload) (s.with_registered m.info.epoch (s.scheme_for c m.info (s.recovered_share c (c.seen h) m.info)) st) h a

  -- a change of the plan changes no entry
  same_plan : (r : Records) (h : Held) (bytes : List ℕ) → AreAgreed r h → AreAgreed r (held_after (OnDisk (PutsPlan bytes)) h)
  same_plan r h bytes a = record { whole = a.whole; dealings = a.dealings; acks = a.acks; logs = a.logs }

  no_plan : (r : Records) (h : Held) → AreAgreed r h → AreAgreed r (held_after (OnDisk ClearsPlan) h)
  no_plan r h a = record { whole = a.whole; dealings = a.dealings; acks = a.acks; logs = a.logs }

  resolves : (st : Live Dir) (m : Option (Material Dir)) (h : Held) → AreAgreed st.records h → Lands (p.resolves_plan c (p.starts_from c st) m) h
  resolves st None h a = starts_from st None h a
  resolves st (Some m) h a =
      lands_if (p.is_outdated c m) (Do (OnDisk ClearsPlan) (p.starts_from c st None)) (p.starts_from c st (Some m)) h (λ e. starts_from st None (held_after (OnDisk ClearsPlan) h) (no_plan st.records h a)) (λ e. starts_from st (Some m) h a)

  in_range : (course : Course Dir Fault (Live Dir)) (h : Held) → Lands course h → Lands (p.stays_in_range c course) h
  in_range course h l = lands_if (option_map_or (λ t. s.is_past_range c (t.height + 1)) (start c) false) (Stops HeightRange) course h (λ e. tt) (λ e. l)

  abbrev next_of : Live Dir → Option (Material Dir) → Course Dir Fault (Live Dir)
  next_of st found = p.stays_in_range c (p.resolves_plan c (p.starts_from c st) found)

  goes : (st : Live Dir) (found : Option (Material Dir)) (h : Held) → AreAgreed st.records h → Lands (next_of st found) h
  goes st found h a = in_range (p.resolves_plan c (p.starts_from c st) found) h (resolves st found h a)

  of_one_epoch : (m : Material Dir) (course : Course Dir Fault (Live Dir)) (h : Held) → Lands course h → Lands (p.of_one_epoch m course) h
  of_one_epoch m course h l = lands_if (m.info.epoch == m.floor.epoch) course (Stops (StateSyncEpochs m.info.epoch m.floor.epoch)) h (λ e. l) (λ e. tt)

  stored : (st : Live Dir) (read : Result (Material Dir) CodecError) (h : Held) → AreAgreed st.records h → Lands (p.stored (next_of st) read) h
  stored st (Err e) h a = tt
  stored st (Ok m) h a = of_one_epoch m (next_of st (Some m)) h (goes st (Some m) h a)

  reads_plan : (st : Live Dir) (plan : Option (List ℕ)) (h : Held) → AreAgreed st.records h → Lands (p.reads_plan c plan (next_of st)) h
  reads_plan st (Some bytes) h a = stored st (all_of (p.material_at c bytes)) h a
  reads_plan st None h a = goes st None h a

  finds : (st : Live Dir) (m : Option (Material Dir)) (h : Held) → AreAgreed st.records h → Lands (p.finds_material c m (next_of st)) h
  finds st (Some m) h a =
      of_one_epoch m (if is_ok (all_of (p.material_at c (p.material_bytes c m))) then Do (OnDisk (PutsPlan (p.material_bytes c m))) (next_of st (Some m)) else Stops StateSyncMaterial) h
      (lands_if (is_ok (all_of (p.material_at c (p.material_bytes c m)))) (Do (OnDisk (PutsPlan (p.material_bytes c m))) (next_of st (Some m))) (Stops StateSyncMaterial) h
      (λ e. goes st (Some m) (held_after (OnDisk (PutsPlan (p.material_bytes c m))) h) (same_plan st.records h (p.material_bytes c m) a)) (λ e. tt))
  finds st None h a = reads_plan st (c.seen h).plan h a

  ends_with : (st : Live Dir) (found : Option (Block Dir)) (h : Held) → AreAgreed st.records h → Lands (o.ends_with c st found) h
  ends_with st None h a = tt
  ends_with st (Some block) h a = lands_if (is_some (option_and_then its_log block.payload)) (Stops (MissingEpochInfo block.height)) (b.ends_once c (info_of block.payload) st) h (λ e. tt) (λ e. a)

  goes_once : (once : OneShot Dir) (share : Option ℕ) (seed : List ℕ) (st : Live Dir) (h : Held) → AreAgreed st.records h → Lands (o.goes_once c once share seed st) h
  goes_once once share seed st h a =
      lands_if (o.is_finished c st.tip share) (o.ends_with c st (c.source.block (last c.blocks_per_epoch 0))) (if o.is_refused c once then b.ends_once c None st else o.begins_once c once seed st) h
      (λ e. ends_with st (c.source.block (last c.blocks_per_epoch 0)) h a)
      (λ e. lands_if (o.is_refused c once) (b.ends_once c None st) (o.begins_once c once seed st) h (λ e. a)
      (λ e. draws_up (o.participants_in once) None None seed (s.anew c st) (held_after (Changes (PutSeed 0 seed)) h) (same_halves st.records h (of_secrets.after (PutSeed 0 seed) h.secrets) refl a)))

  tracks_once : (once : OneShot Dir) (course : Course Dir Fault (Live Dir)) (h : Held) → Lands course h → Lands (o.tracks_once c once course) h
  tracks_once once course h l = lands_if (o.is_refused c once) course (CallOutside (Tracks 0 (o.peers_in once) once.directory) course) h (λ e. l) (λ e. l)

  valid_once : (once : OneShot Dir) (st : Live Dir) (valid : Result (Unit {0}) ParticipantsError) (h : Held) → AreAgreed st.records h → Lands (o.valid_once c once st valid) h
  valid_once once st (Err e) h a = tt
  valid_once once st (Ok passed) h a =
      tracks_once once (s.looks c (λ seen. o.goes_once c once (lookup 0 seen.shares) (s.seed_for c 0 (lookup 0 seen.seeds)) st)) h
      (goes_once once (lookup 0 (c.seen h).shares) (s.seed_for c 0 (lookup 0 (c.seen h).seeds)) st h a)

  opens : (once : Option (OneShot Dir)) (st : Live Dir) (h : Held) → AreAgreed st.records h → Lands (opens_in c once st) h
  opens (Some once) st h a = in_range (o.opens_once c once st) h (valid_once once (record st { tip = startup c.source.anchor None }) (validation (o.participants_in once) c.limit None 0) h a)
  opens None st h a = finds st c.material h a

pub steps_agree : {Dir : Type 0} → StepsAgree Dir
steps_agree c st end message w new a can done = lands_at (step c message st) w new end (steps c st message w.held can a) done

pub setups_agree : {Dir : Type 0} → SetupsAgree Dir
setups_agree c material st end w new a done = lands_at (s.setup c material st) w new end (setup c material st w.held a) done

pub openings_agree : {Dir : Type 0} → OpeningsAgree Dir
openings_agree c end w new reads whole done =
    let opened : Held = held_after (OnDisk (Opens c.opening_calls)) (held_after (OnDisk Bars) w.held) in
    lands_at (opening c) w new end
    (opens c c.oneshot (begun_life (c.seen opened)) opened (record { whole = whole; dealings = reads.dealings opened; acks = reads.acks opened; logs = reads.logs opened })) done
