-- Memory has the dealings that the devices give back behind every step that is completed, and a step that prunes nothing keeps all that they gave back, wherever it ends. The devices need not be
-- whole.
use Rattle.std.proofs.Common.{◌≡◌, ◌≤◌, inl, inr, ℕ, Bool, true, false, nat_le, List, [], ◌∷◌, Option, Some, None, refl, sym, ◌∙◌, ap, subst, arith}
use Rattle.std.specs.Prelude.{◌+◌, ◌-◌, ◌==◌, ◌&&◌, ⊤, nat_lt, if◌then◌else◌, not, Result, Ok, Err, is_some, option_and_then, option_map}
use Rattle.std.specs.Option.{option_map_or}
use Rattle.std.specs.Str.{bytes_eq}
use Rattle.std.specs.FinMap as maps
use Rattle.std.specs.FinMap.{FinMap, empty, entries-insert, find, get, get-entries, put, same_map}
use Rattle.dkg_values.specs.Codec.{whole as all_of}
use Rattle.dkg_values.specs.Rising.{lookup}
use Rattle.dkg_values.specs.declared.codec.CodecError.{CodecError}
use Rattle.dkg_ceremony.specs.declared.ceremony.AckError.{AckError}
use Rattle.dkg_ceremony.specs.declared.ceremony.DealingError.{DealingError}
use Rattle.dkg_ceremony.specs.declared.dealer_log.DealerLog.{DealerLog}
use Rattle.dkg_ceremony.specs.declared.round.RoundParts.{RoundParts as Round}
use Rattle.dkg_ceremony.specs.declared.signed_log.SignedDealerLog.{SignedDealerLog}
use Rattle.dkg_ceremony.specs.Schedule.{midpoint}
use Rattle.dkg_journal.specs.Operations.{Appends, Prunes}
use Rattle.dkg_journal.specs.Records.{SectionEntry, placed}
use Rattle.dkg_journal.proofs.Order.{Above, placed_above}
use Rattle.dkg_types.specs.Blocks.{Block}
use Rattle.dkg_types.specs.MessageCodes.{message_at}
use Rattle.dkg_types.specs.PayloadCodes.{its_log}
use Rattle.dkg_infos.specs.declared.entry.Entry.{Entry}
use Rattle.dkg_infos.specs.declared.entry.Entry.TheVariants as lines
use Rattle.dkg_infos.specs.declared.fault.Fault.{Fault}
use Rattle.dkg_infos.specs.declared.fault.Fault.TheVariants.{ConflictingBlock, DetachedBlock, HeightRange, LocalState, OutOfWindow, SkippedHeight}
use Rattle.dkg_infos.specs.declared.fault.LocalCause.TheVariants.{OwnDealing, StoredDealing}
use Rattle.dkg_infos.specs.declared.info.EpochInfo.{EpochInfo}
use Rattle.dkg_types.specs.declared.message.Message.{Message as Channel}
use Rattle.dkg_types.specs.declared.message.Message.TheVariants.{Dealer as ADealing, Ack as AnAck}
use Rattle.dkg_secrets.specs.Keys.{key_cmp}
use Rattle.dkg_secrets.specs.Secrets.{Secrets}
use Rattle.dkg_secrets.specs.Secrets as of_secrets
use Rattle.dkg_secrets.specs.declared.secrets.SecretOp.TheVariants.{Prune, PutDealing, PutSeed, PutShare}
use Rattle.dkg_secrets.proofs.Map.{exact_keys, keys_total}
use Rattle.dkg_secrets.proofs.Tried.{all_done}
use Rattle.dkg_store.specs.Acts.{Changes, Held, OnDisk, World, held_after, does, notes, says, stopped, went}
use Rattle.dkg_store.specs.Events.{IsEvent, event_spelling}
use Rattle.dkg_store.specs.declared.event.Event.TheVariants as events
use Rattle.dkg_store.specs.Pairs.{Pairs, recovered}
use Rattle.dkg_store.specs.Recorded.{Pair}
use Rattle.dkg_store.proofs.Halves.{prune_halves, recovered_at}
use Rattle.dkg_store.proofs.Pairs.{get_other, same_key}
use Rattle.dkg_store.proofs.Silent.{says_dealing}
use Rattle.dkg_core.specs.Blocks as b
use Rattle.dkg_core.specs.Behind.{OnlySays}
use Rattle.dkg_core.specs.Core.{step}
use Rattle.dkg_core.specs.Courses.{Ask, CallOutside, Course, Do, EndsSo, Goes, Say, Stops, bind}
use Rattle.dkg_core.specs.Dealing as d
use Rattle.dkg_core.specs.Endings.{ComesTo}
use Rattle.dkg_core.specs.Fixed.{Fixed}
use Rattle.dkg_core.specs.Forms.{Applied, Judged, Passed, Refusal, committed_by, judged_block, judged_over_tip, set_up_by}
use Rattle.dkg_core.specs.Heard.{Fits, recovered_in}
use Rattle.dkg_core.specs.Including as i
use Rattle.dkg_laws.specs.Idle.{IsAskedEntry}
use Rattle.dkg_core.specs.Laws.{IsOther}
use Rattle.dkg_core.specs.Live.{Deals, Dealer, Ends, Follows, Includes, Live, Mail, Plays, Records, Seat, Mailed, Stage, Watches, is_last_height, recorded_at, with_inclusion, with_participation, with_tip}
use Rattle.dkg_core.specs.Logs.{is_accepted, carried_log_event, recorded_log}
use Rattle.dkg_core.specs.Setup as s
use Rattle.dkg_core.specs.Setup.{Standing, Uncommitted, WasCommitted}
use Rattle.dkg_core.specs.Sources.{Tip}
use Rattle.dkg_core.specs.Stepping.{IsDealingStop, given_itself}
use Rattle.dkg_core.proofs.Agreeing.{entries_kept}
use Rattle.dkg_laws.proofs.Idle as idle
use Rattle.dkg_core.proofs.Keeping.{fold_silent}
use Rattle.dkg_core.proofs.StepDealing as dealing
use Rattle.dkg_lives.proofs.LaterRecords.{above_from, pruned_later, recorded_later}

-- The dealings in memory are those that the devices give back, whose journal's sections rise.
pub record Knows (r : Records) (h : Held) : Type 0 where
  pub dealings : r.dealings ≡ maps.entries (recovered_in h)
  pub rising : Above 0 (notes h)

-- WHAT THE OPERATIONS DO

-- a change of the secrets that leaves the private halves
same_halves : (r : Records) (h : Held) (t : Secrets) → t.privates ≡ h.secrets.privates → Knows r h → Knows r (record { journaled = h.journaled; secrets = t })
same_halves r h t same a = record {
  dealings = a.dealings ∙ ap maps.entries (sym (same_map keys_total exact_keys (recovered (notes h) t) (recovered (notes h) h.secrets)
      (λ k. recovered_at h.secrets t k (notes h) (ap (λ (m : FinMap key_cmp ℕ). get m k) same))));
  rising = a.rising;
}

committed : {Dir : Type 0} (standing : Standing) (info : EpochInfo Dir) (share : Option ℕ) (seed : List ℕ) (r : Records) (h : Held) → Knows r h → Knows r (committed_by standing info share seed h)
committed Uncommitted info None seed r h a = same_halves r h (of_secrets.after (PutSeed info.epoch seed) h.secrets) refl a
committed Uncommitted info (Some share) seed r h a =
    let shared : Held = held_after (Changes (PutShare info.epoch share)) h in
    same_halves r shared (of_secrets.after (PutSeed info.epoch seed) shared.secrets) refl (same_halves r h (of_secrets.after (PutShare info.epoch share) h.secrets) refl a)
committed WasCommitted info share seed r h a = a

pruned : (r : Records) (min : ℕ) (h : Held) → Knows r h → Knows (s.records_from min r) (held_after (Changes (Prune min)) (held_after (OnDisk (Prunes min)) h))
pruned r min h a =
    let t : Secrets = of_secrets.after (Prune min) h.secrets in
    let halves : (k : ℕ × ℕ) → min ≤ k.0 → get t.privates k ≡ get h.secrets.privates k = λ k above. prune_halves min h.secrets t k (all_done (Prune min) h.secrets t refl) above in
    record {
      dealings = ap (s.kept_from min) a.dealings ∙ sym (entries_kept (recovered_in h) min) ∙ ap maps.entries (sym (pruned_later min h.secrets t halves (notes h)));
      rising = above_from min 0 (notes h) a.rising;
    }

-- A SETUP's
pub set_up : {Dir : Type 0} (standing : Standing) (epoch : ℕ) (info : EpochInfo Dir) (share : Option ℕ) (seed : List ℕ) (r : Records) (h : Held) → Knows r h
    → Knows (s.records_from (epoch - 1) r) (set_up_by standing epoch info share seed h)
set_up standing epoch info share seed r h a = pruned r (epoch - 1) (committed_by standing info share seed h) (committed standing info share seed r h a)

-- A COMMIT's
pub committed_first : {Dir : Type 0} (info : EpochInfo Dir) (share : Option ℕ) (seed : List ℕ) (r : Records) (h : Held) → Knows r h → Knows r (committed_by Uncommitted info share seed h)
committed_first info share seed r h a = committed Uncommitted info share seed r h a

-- RECORDS

low : (n : ℕ) → 0 ≤ n
low n = omega arith

put_same : (r : Records) (h : Held) (k : ℕ × ℕ) (v : List ℕ × ℕ) → r.dealings ≡ maps.entries (recovered_in h) → put key_cmp k v r.dealings ≡ maps.entries (maps.insert (recovered_in h) k v)
put_same r h k v same = ap (put key_cmp k v) same ∙ sym (entries-insert keys_total (recovered_in h) k v)

none_some : {A : Type 0} {x : A} → ◌≡◌ {A = Option A} None (Some x) → ⊥
none_some e = cc

-- X, where a stored dealing is refused
abbrev pub IfStored : Fault → Type 0 → Type 0
IfStored (LocalState (StoredDealing epoch dealer)) X = X
IfStored its X = ⊤

if_stored : (its : Fault) (X : Type 0) → X → IfStored its X
if_stored (LocalState (StoredDealing epoch dealer)) X x = x
if_stored its X x = tt

-- WHAT WAS GIVEN BACK stays so, and memory has it. Where a stored dealing is refused as a request is read, the devices give back these that memory has then.

module _ (given : Held) (asked : List Pair) where
  -- .. and the seeds and the shares are as they were
  pub record Persists (h : Held) : Type 0 where
    pub gives : (key : ℕ × ℕ) (v : List ℕ × ℕ) → get (recovered_in given) key ≡ Some v → get (recovered_in h) key ≡ Some v
    pub seeds : h.secrets.seeds ≡ given.secrets.seeds
    pub shares : h.secrets.shares ≡ given.secrets.shares

  abbrev pub IsKnown : {Dir : Type 0} → Live Dir → Held → Type 0
  IsKnown st h = Knows st.records h × Persists h

  module _ (epoch : ℕ) (h : Held) where
    -- a log more
    module _ (dealer height : ℕ) (log : DealerLog) (is : IsEvent (carried_log_event dealer height log)) where
      abbrev log_entry : SectionEntry
      log_entry = (epoch, event_spelling (carried_log_event dealer height log))

      logged : recovered (placed (notes h) log_entry) h.secrets ≡ recovered_in h
      logged = fold_silent h.secrets log_entry (says_dealing epoch (carried_log_event dealer height log) is) (notes h) empty

      log_more : (r : Records) → Knows r h → Knows (record r { logs = put key_cmp (epoch, dealer) (recorded_log height log) r.logs }) (held_after (OnDisk (Appends log_entry)) h)
      log_more r a = record { dealings = a.dealings ∙ ap maps.entries (sym logged); rising = placed_above (notes h) log_entry 0 a.rising (low epoch) }

      log_persists : Persists h → Persists (held_after (OnDisk (Appends log_entry)) h)
      log_persists was = record { gives = λ key v got. ap (λ (m : Pairs). get m key) logged ∙ was.gives key v got; seeds = was.seeds; shares = was.shares }

    -- an acknowledgement more
    module _ (player : ℕ) (ack : List ℕ) (is : IsEvent (events.Ack player ack)) where
      abbrev ack_entry : SectionEntry
      ack_entry = (epoch, event_spelling (events.Ack player ack))

      same : recovered (placed (notes h) ack_entry) h.secrets ≡ recovered_in h
      same = fold_silent h.secrets ack_entry (says_dealing epoch (events.Ack player ack) is) (notes h) empty

      ack_more : (r : Records) → Knows r h → Knows (record r { acks = put key_cmp (epoch, player) ack r.acks }) (held_after (OnDisk (Appends ack_entry)) h)
      ack_more r a = record { dealings = a.dealings ∙ ap maps.entries (sym same); rising = placed_above (notes h) ack_entry 0 a.rising (low epoch) }

      ack_persists : Persists h → Persists (held_after (OnDisk (Appends ack_entry)) h)
      ack_persists was = record { gives = λ key v got. ap (λ (m : Pairs). get m key) same ∙ was.gives key v got; seeds = was.seeds; shares = was.shares }

    -- a dealing more
    module _ (dealer : ℕ) (public : List ℕ) (private : ℕ) (is : IsEvent (events.Dealing dealer public)) (r : Records) (a : Knows r h) where
      abbrev dealing_entry : SectionEntry
      dealing_entry = (epoch, event_spelling (events.Dealing dealer public))

      abbrev behind : Held
      behind = held_after (OnDisk (Appends dealing_entry)) (held_after (Changes (PutDealing epoch dealer private)) h)

      inserted_is : recovered_in behind ≡ maps.insert (recovered_in h) (epoch, dealer) (public, private)
      inserted_is = recorded_later epoch dealer private public is h.secrets (notes h) a.rising

      dealing_more : Knows (record r { dealings = put key_cmp (epoch, dealer) (public, private) r.dealings }) behind
      dealing_more = record { dealings = put_same r h (epoch, dealer) (public, private) a.dealings ∙ ap maps.entries (sym inserted_is); rising = placed_above (notes h) dealing_entry 0 a.rising (low epoch) }

      dealing_persists : recorded_at r.dealings epoch dealer ≡ None → Persists h → Persists behind
      dealing_persists none was = record {
        gives = λ key v got. elim (same_key key (epoch, dealer)) [
          | inl is ↦ absurd (none_some (sym (get-entries (recovered_in h) (epoch, dealer) ∙ ap (find key_cmp (epoch, dealer)) (sym a.dealings) ∙ none) ∙ ap (get (recovered_in h)) (sym is) ∙ was.gives key v got))
          | inr apart ↦ ap (λ (m : Pairs). get m key) inserted_is ∙ get_other (recovered_in h) (epoch, dealer) key (public, private) apart ∙ was.gives key v got
        ];
        seeds = was.seeds;
        shares = was.shares;
      }

  -- WHERE A COURSE LANDS: its end, or its own fault, over what the devices hold

  abbrev pub Lands : {Dir : Type 0} → Course Dir Fault (Live Dir) → Held → Type 0
  Lands (Say line course) h = Lands course h
  Lands (Do op course) h = Lands course (held_after op h)
  Lands (CallOutside outer course) h = Lands course h
  Lands (Ask f) h = Lands (f h) h
  Lands (Goes st) h = IsKnown st h
  Lands (Stops fault) h = Persists h × IfStored fault (asked ≡ maps.entries (recovered_in h))

  lands_bind : {Dir : Type 0} (course : Course Dir Fault (Live Dir)) (next : Live Dir → Course Dir Fault (Live Dir)) (h : Held) → Lands course h
      → ((st : Live Dir) (h : Held) → IsKnown st h → Lands (next st) h) → Lands (bind course next) h
  lands_bind (Say line course) next h l more = lands_bind course next h l more
  lands_bind (Do op course) next h l more = lands_bind course next (held_after op h) l more
  lands_bind (CallOutside outer course) next h l more = lands_bind course next h l more
  lands_bind (Ask f) next h l more = lands_bind (f h) next h l more
  lands_bind (Goes st) next h l more = more st h l
  lands_bind (Stops fault) next h l more = l

  -- .. behind a course that comes to such an end
  lands_to : {Dir : Type 0} (stops : Fault → Type 0) (goes : Live Dir → Type 0) (course : Course Dir Fault (Live Dir)) (next : Live Dir → Course Dir Fault (Live Dir)) (h : Held) → Lands course h
      → ComesTo stops goes course → ((st : Live Dir) (h : Held) → IsKnown st h → goes st → Lands (next st) h) → Lands (bind course next) h
  lands_to stops goes (Say line course) next h l comes more = lands_to stops goes course next h l comes more
  lands_to stops goes (Do op course) next h l comes more = lands_to stops goes course next (held_after op h) l comes more
  lands_to stops goes (CallOutside outer course) next h l comes more = lands_to stops goes course next h l comes more
  lands_to stops goes (Ask f) next h l comes more = lands_to stops goes (f h) next h l (comes h) more
  lands_to stops goes (Goes st) next h l comes more = more st h l comes
  lands_to stops goes (Stops fault) next h l comes more = l

  -- .. and of one that touches no device, and changes only what the life has of requests
  pub lands_asked : {Dir : Type 0} (line : Entry → Type 0) (base : Live Dir) (course : Course Dir Fault (Live Dir)) (h : Held) → asked ≡ base.records.dealings → IsKnown base h
      → OnlySays line (λ end. end ≡ with_inclusion end.inclusion base) course → Lands course h
  lands_asked line base (Say one course) h is_asked a only = lands_asked line base course h is_asked a only.1
  lands_asked line base (Do op course) h is_asked a only = absurd only
  lands_asked line base (CallOutside outer course) h is_asked a only = lands_asked line base course h is_asked a only
  lands_asked line base (Ask f) h is_asked a only = lands_asked line base (f h) h is_asked a (only h)
  lands_asked {Dir} line base (Goes st) h is_asked a only = (subst (λ (r : Records). Knows r h) (sym (ap (λ (x : Live Dir). x.records) only)) a.0, a.1)
  lands_asked line base (Stops fault) h is_asked a only = (a.1, if_stored fault (asked ≡ maps.entries (recovered_in h)) (is_asked ∙ a.0.dealings))

  lands_if : {Dir : Type 0} (t : Bool) (x y : Course Dir Fault (Live Dir)) (h : Held) → (t ≡ true → Lands x h) → (t ≡ false → Lands y h) → Lands (if t then x else y) h
  lands_if true x y h one other = one refl
  lands_if false x y h one other = other refl

  lands_option : {Dir A : Type 0} (found : Option A) (f : A → Course Dir Fault (Live Dir)) (none : Course Dir Fault (Live Dir)) (h : Held)
      → ((a : A) → found ≡ Some a → Lands (f a) h) → (found ≡ None → Lands none h) → Lands (option_map_or f found none) h
  lands_option None f none h some without = without refl
  lands_option (Some a) f none h some without = some a refl

  pub lands_at : {Dir : Type 0} (course : Course Dir Fault (Live Dir)) (w new : World) (end : Live Dir) → Lands course w.held → EndsSo course (went end) w new → Knows end.records new.held
  lands_at (Say line course) w new end l done = lands_at course (says w line) new end l done
  lands_at (Do op course) w new end l done = lands_at course (does w op) new end l done
  lands_at (CallOutside outer course) w new end l done = lands_at course w new end l done
  lands_at (Ask f) w new end l done = lands_at (f w.held) w new end l done
  lands_at {Dir} (Goes st) w new end l done =
      subst (λ (x : World). Knows end.records x.held) (sym done.0) (subst (λ (x : Live Dir). Knows x.records w.held) (sym done.1) l.0)
  lands_at (Stops fault) w new end l done = absurd done

  -- .. where it wasn't broken off
  pub lands_went : {Dir : Type 0} (course : Course Dir Fault (Live Dir)) (w new : World) (end : Live Dir) → Lands course w.held → EndsSo course (went end) w new → Persists new.held
  lands_went (Say line course) w new end l done = lands_went course (says w line) new end l done
  lands_went (Do op course) w new end l done = lands_went course (does w op) new end l done
  lands_went (CallOutside outer course) w new end l done = lands_went course w new end l done
  lands_went (Ask f) w new end l done = lands_went (f w.held) w new end l done
  lands_went (Goes st) w new end l done = subst (λ (x : World). Persists x.held) (sym done.0) l.1
  lands_went (Stops fault) w new end l done = absurd done

  pub lands_stopped : {Dir : Type 0} (course : Course Dir Fault (Live Dir)) (w new : World) (its : Fault) → Lands course w.held → EndsSo course (stopped its) w new
      → Persists new.held × IfStored its (asked ≡ maps.entries (recovered_in new.held))
  lands_stopped (Say line course) w new its l done = lands_stopped course (says w line) new its l done
  lands_stopped (Do op course) w new its l done = lands_stopped course (does w op) new its l done
  lands_stopped (CallOutside outer course) w new its l done = lands_stopped course w new its l done
  lands_stopped (Ask f) w new its l done = lands_stopped (f w.held) w new its l done
  lands_stopped (Goes st) w new its l done = absurd done
  lands_stopped (Stops own) w new its l done =
      subst (λ (x : World). Persists x.held × IfStored its (asked ≡ maps.entries (recovered_in x.held))) (sym done.0)
      (subst (λ (y : Fault). Persists w.held × IfStored y (asked ≡ maps.entries (recovered_in w.held))) (sym done.1) l)

module _ {Dir : Type 0} (c : Fixed Dir) (given : Held) (asked : List Pair) where
  abbrev pub Comes : Course Dir Fault (Live Dir) → Held → Type 0
  Comes course h = Lands given asked course h

  abbrev pub Known : Live Dir → Held → Type 0
  Known st h = IsKnown given asked st h

  rounds : (st : Live Dir) (f : Round → Course Dir Fault (Live Dir)) (h : Held) → Known st h → ((round : Round) → Comes (f round) h) → Comes (d.with_round st f) h
  rounds st f h a each = lands_option given asked st.participation.round f (Goes st) h (λ round e. each round) (λ e. a)

  -- the life with one dealing more
  with_one : (epoch dealer : ℕ) (public : List ℕ) (private : ℕ) (st : Live Dir) (h : Held) → IsEvent (events.Dealing dealer public) → recorded_at st.records.dealings epoch dealer ≡ None → Known st h
      → Comes (d.keeps epoch dealer public private st) h
  with_one epoch dealer public private st h is none a =
      (dealing_more given asked epoch h dealer public private is st.records a.0, dealing_persists given asked epoch h dealer public private is st.records a.0 none a.1)

  -- MESSAGES OF PEERS

  takes_ack : (epoch : ℕ) (dealer : Dealer) (player : ℕ) (ack : List ℕ) (st : Live Dir) (h : Held) → IsEvent (events.Ack player ack) → Known st h → Comes (d.takes_ack epoch dealer player ack st) h
  takes_ack epoch dealer player ack st h is a =
      lands_if given asked (is_some (lookup player dealer.acks)) (Goes st)
      (if is_some (recorded_at st.records.acks epoch player) then Goes (d.counts dealer player ack st)
      else d.appends epoch (events.Ack player ack) (Goes (d.counts dealer player ack (d.with_ack epoch player ack st)))) h
      (λ e. a) (λ e. lands_if given asked (is_some (recorded_at st.records.acks epoch player)) (Goes (d.counts dealer player ack st))
      (d.appends epoch (events.Ack player ack) (Goes (d.counts dealer player ack (d.with_ack epoch player ack st)))) h
      (λ e. a) (λ e. (ack_more given asked epoch h player ack is st.records a.0, ack_persists given asked epoch h player ack is a.1)))

  checked_ack : (round : Round) (dealer : Dealer) (player : ℕ) (ack : List ℕ) (st : Live Dir) (check : Result (Unit {0}) AckError) (h : Held) → IsEvent (events.Ack player ack) → Known st h
      → Comes (d.checked_ack round dealer player ack st check) h
  checked_ack round dealer player ack st (Err e) h is a = a
  checked_ack round dealer player ack st (Ok passed) h is a = takes_ack round.number dealer player ack st h is a

  hears_ack : (round : Round) (dealer : Option Dealer) (from : ℕ) (ack : List ℕ) (st : Live Dir) (h : Held) → IsEvent (events.Ack from ack) → Known st h → Comes (d.hears_ack c round dealer from ack st) h
  hears_ack round None from ack st h is a = a
  hears_ack round (Some dealer) from ack st h is a = checked_ack round dealer from ack st (c.rules.check_ack_of round c.me dealer.public from ack) h is a

  checked_dealing : (round : Round) (from : ℕ) (public : List ℕ) (private : ℕ) (st : Live Dir) (check : Result (Unit {0}) DealingError) (h : Held) → IsEvent (events.Dealing from public)
      → recorded_at st.records.dealings round.number from ≡ None → Known st h → Comes (d.checked_dealing c round from public private st check) h
  checked_dealing round from public private st (Err e) h is none a = a
  checked_dealing round from public private st (Ok passed) h is none a = with_one round.number from public private st h is none a

  of_recorded : (round : Round) (from : ℕ) (public : List ℕ) (private : ℕ) (st : Live Dir) (found : Option (List ℕ × ℕ)) (h : Held) → IsEvent (events.Dealing from public)
      → recorded_at st.records.dealings round.number from ≡ found → Known st h → Comes (d.hears_dealing_in c round from public private st found) h
  of_recorded round from public private st (Some kept) h is found a = a
  of_recorded round from public private st None h is none a = checked_dealing round from public private st (c.rules.dealing_of round c.me from public private) h is none a

  a_dealing : (round : Round) (from : ℕ) (public : List ℕ) (private : ℕ) (st : Live Dir) (seat : Seat) (h : Held) → IsEvent (events.Dealing from public) → Known st h
      → Comes (d.seats_dealing_in c round from public private st seat) h
  a_dealing round from public private st Plays h is a = of_recorded round from public private st (recorded_at st.records.dealings round.number from) h is refl a
  a_dealing round from public private st Watches h is a = a

  reads : (round : Round) (from : ℕ) (st : Live Dir) (message : Result Channel CodecError) (h : Held) → ((public : List ℕ) (private : ℕ) → message ≡ Ok (ADealing public private) → IsEvent (events.Dealing from public))
      → ((ack : List ℕ) → message ≡ Ok (AnAck ack) → IsEvent (events.Ack from ack)) → Known st h → Comes (d.reads c round from st message) h
  reads round from st (Err e) h fits fits_ack a = a
  reads round from st (Ok (ADealing public private)) h fits fits_ack a = a_dealing round from public private st st.participation.seat h (fits public private refl) a
  reads round from st (Ok (AnAck ack)) h fits fits_ack a = hears_ack round st.participation.dealer from ack st h (fits_ack ack refl) a

  pub hears : (from : ℕ) (bytes : List ℕ) (st : Live Dir) (stage : Stage) (h : Held) → Fits c (from, bytes) → Known st h → Comes (d.hears_peer_in c from bytes st stage) h
  hears from bytes st Deals h fits a =
      rounds st (λ round. d.reads c round from st (all_of (message_at c.limit bytes))) h a (λ round. reads round from st (all_of (message_at c.limit bytes)) h fits.0 fits.1 a)
  hears from bytes st Includes h fits a = a
  hears from bytes st Follows h fits a = a
  hears from bytes st Ends h fits a = a

  -- REQUESTS are read
  advanced : (st : Live Dir) (h : Held) → asked ≡ st.records.dealings → Known st h → Comes (i.advanced c st) h
  advanced st h same a = lands_asked given asked IsAskedEntry st (i.advanced c st) h same a (idle.advanced c st st.inclusion)

  pub asks : (mail : Mail Dir) (st : Live Dir) (h : Held) → IsOther (Mailed mail) → asked ≡ st.records.dealings → Known st h → Comes (step c (Mailed mail) st) h
  asks mail st h other same a = lands_asked given asked IsAskedEntry st (step c (Mailed mail) st) h same a (idle.mails c st mail other)

  -- ITS OWN DEALING, which another one that is recorded ends

  module _ (fits_own : (round : Round) (public : List ℕ) → IsEvent (events.Ack c.me (c.rules.ack_of c.me round c.me public))) where
    own_ack : (round : Round) (public : List ℕ) (st : Live Dir) (h : Held) → Known st h → Comes (d.own_ack c round public st) h
    own_ack round public st h a =
        let ack = c.rules.ack_of c.me round c.me public in
        lands_option given asked st.participation.dealer (λ dealer. d.checked_ack round dealer c.me ack st (c.rules.check_ack_of round c.me dealer.public c.me ack)) (Goes st) h
        (λ dealer e. checked_ack round dealer c.me ack st (c.rules.check_ack_of round c.me dealer.public c.me ack) h (fits_own round public) a) (λ e. a)

    to_itself_in : (round : Round) (public : List ℕ) (private : ℕ) (st : Live Dir) (found : Option (List ℕ × ℕ)) (h : Held) → IsEvent (events.Dealing c.me public)
        → recorded_at st.records.dealings round.number c.me ≡ found → Known st h → Comes (d.deals_to_itself_in c round public private st found) h
    to_itself_in round public private st (Some kept) h is found a =
        lands_if given asked (bytes_eq kept.0 public) (d.own_ack c round public st) (Stops (LocalState (OwnDealing round.number kept.0 public))) h (λ e. own_ack round public st h a)
        (λ e. (a.1, tt))
    to_itself_in round public private st None h is none a =
        lands_bind given asked (d.keeps round.number c.me public private st) (λ st. d.own_ack c round public st) h (with_one round.number c.me public private st h is none a) (λ st h a. own_ack round public st h a)

    to_itself : (round : Round) (public : List ℕ) (private : ℕ) (st : Live Dir) (seat : Seat) (h : Held) → IsEvent (events.Dealing c.me public) → Known st h
        → Comes (d.offers_to_itself_in c round public private st seat) h
    to_itself round public private st Plays h is a = to_itself_in round public private st (recorded_at st.records.dealings round.number c.me) h is refl a
    to_itself round public private st Watches h is a = a

    offers : (round : Round) (public : List ℕ) (ps : List (ℕ × ℕ)) (st : Live Dir) (h : Held) → IsEvent (events.Dealing c.me public) → Known st h → Comes (d.offers c round public ps st) h
    offers round public [] st h is a = a
    offers round public (q ∷ ps) st h is a =
        lands_if given asked (q.0 == c.me) (bind (d.offers_to_itself c round public q.1 st) (λ st. d.offers c round public ps st)) (Say (lines.Offer round.number q.0 public q.1) (d.offers c round public ps st)) h
        (λ e. lands_bind given asked (d.offers_to_itself c round public q.1 st) (λ st. d.offers c round public ps st) h (to_itself round public q.1 st st.participation.seat h is a) (λ st h a. offers round public ps st h is a))
        (λ e. offers round public ps st h is a)

    deals : (st : Live Dir) (h : Held) → ((dealer : Dealer) → st.participation.dealer ≡ Some dealer → IsEvent (events.Dealing c.me dealer.public)) → Known st h → Comes (d.deals c st) h
    deals st h is a =
        rounds st (λ round. option_map_or (λ dealer. d.offers c round dealer.public (s.unsent_of_round round dealer) st) st.participation.dealer (Goes st)) h a
        (λ round. lands_option given asked st.participation.dealer (λ dealer. d.offers c round dealer.public (s.unsent_of_round round dealer) st) (Goes st) h
        (λ dealer e. offers round dealer.public (s.unsent_of_round round dealer) st h (is dealer e) a) (λ e. a))

    -- A BLOCK that is applied while dealing
    pub deals_at : (block : Block Dir) (st : Live Dir) (h : Held) → asked ≡ (given_itself c st).records.dealings → ((dealer : Dealer) → st.participation.dealer ≡ Some dealer → IsEvent (events.Dealing c.me dealer.public)) → Known st h
        → Comes (b.deals_at c block st) h
    deals_at block st h is_asked is a =
        lands_to given asked (IsDealingStop c st) (λ end. end ≡ given_itself c st) (d.deals c st)
        (λ st. if block.height + 1 == midpoint c.blocks_per_epoch st.participation.epoch then i.advanced c (s.begins_inclusion c (with_tip block st)) else Goes (with_tip block st)) h
        (deals st h is a) (dealing.deals c st)
        (λ now h a same. lands_if given asked (block.height + 1 == midpoint c.blocks_per_epoch now.participation.epoch) (i.advanced c (s.begins_inclusion c (with_tip block now))) (Goes (with_tip block now)) h
        (λ e. advanced (s.begins_inclusion c (with_tip block now)) h (is_asked ∙ sym (ap (λ (x : Live Dir). x.records.dealings) same)) a) (λ e. a))

  -- A BLOCK that is included, and isn't the epoch's last

  module _ (block : Block Dir) (fits : (log : SignedDealerLog) → option_and_then its_log block.payload ≡ Some log → IsEvent (events.LogAt log.dealer block.height log.log)) where
    without_own : (st : Live Dir) (h : Held) (t : Bool) → Known st h
        → Known (if t then with_participation (record st.participation { dealer = option_map b.unoffered st.participation.dealer }) st else st) h
    without_own st h true a = a
    without_own st h false a = a

    still_asked : (st : Live Dir) (t : Bool) → asked ≡ st.records.dealings
        → asked ≡ (if t then with_participation (record st.participation { dealer = option_map b.unoffered st.participation.dealer }) st else st).records.dealings
    still_asked st true is_asked = is_asked
    still_asked st false is_asked = is_asked

    observes_known : (round : Round) (found : Option SignedDealerLog) (st : Live Dir) (h : Held) → option_and_then its_log block.payload ≡ found → Known st h → Comes (b.observes c round block st found) h
    observes_known round None st h carried a = a
    observes_known round (Some log) st h carried a =
        lands_if given asked (is_accepted c round log) (bind (b.records_log round.number block.height log st) (λ now. Goes (b.without_own_log c log.dealer now))) (Goes st) h
        (λ e. lands_bind given asked (b.records_log round.number block.height log st) (λ now. Goes (b.without_own_log c log.dealer now)) h
        (lands_if given asked (is_some (recorded_at st.records.logs round.number log.dealer)) (Goes st)
        (d.appends round.number (carried_log_event log.dealer block.height log.log) (Goes (b.with_log_at round.number log.dealer block.height log.log st))) h (λ e. a)
        (λ e. (
          log_more given asked round.number h log.dealer block.height log.log (fits log carried) st.records a.0,
          log_persists given asked round.number h log.dealer block.height log.log (fits log carried) a.1,
        ))) (λ now h a. without_own now h (log.dealer == c.me) a)) (λ e. a)

    abbrev Asks : Course Dir Fault (Live Dir) → Type 0
    Asks course = ComesTo (λ (its : Fault). ⊤) (λ (now : Live Dir). asked ≡ now.records.dealings) course

    observes_same : (round : Round) (found : Option SignedDealerLog) (st : Live Dir) → asked ≡ st.records.dealings → Asks (b.observes c round block st found)
    observes_same round None st is_asked = is_asked
    observes_same round (Some log) st is_asked = by_test (is_accepted c round log)
      where
        by_found : (t : Bool)
            → Asks (bind (if t then Goes st else d.appends round.number (carried_log_event log.dealer block.height log.log) (Goes (b.with_log_at round.number log.dealer block.height log.log st))) (λ now. Goes (b.without_own_log c log.dealer now)))
        by_found true = still_asked st (log.dealer == c.me) is_asked
        by_found false = still_asked (b.with_log_at round.number log.dealer block.height log.log st) (log.dealer == c.me) is_asked

        by_test : (t : Bool) → Asks (if t then bind (b.records_log round.number block.height log st) (λ now. Goes (b.without_own_log c log.dealer now)) else Goes st)
        by_test true = by_found (is_some (recorded_at st.records.logs round.number log.dealer))
        by_test false = is_asked

    included : (round : Round) (st : Live Dir) (h : Held) → asked ≡ st.records.dealings → Known st h → Comes (b.includes c round block st) h
    included round st h same a =
        lands_to given asked (λ its. ⊤) (λ now. asked ≡ now.records.dealings) (b.observes c round block st (option_and_then its_log block.payload)) (λ now. i.advanced c (with_tip block (b.unserved block.height now))) h
        (observes_known round (option_and_then its_log block.payload) st h refl a) (observes_same round (option_and_then its_log block.payload) st same)
        (λ now h a same. advanced (with_tip block (b.unserved block.height now)) h same a)

    pub includes_at : (st : Live Dir) (h : Held) → is_last_height c block.height ≡ false → asked ≡ st.records.dealings → Known st h → Comes (b.applies_in c block st Includes) h
    includes_at st h not same a = rounds st (λ round. if is_last_height c block.height then b.final_block c round block st else b.includes c round block st) h a
        (λ round. subst (λ (t : Bool). Comes (if t then b.final_block c round block st else b.includes c round block st) h) (sym not)
        (included round st h same a))

  -- A DELIVERED BLOCK, by where it comes to where it is applied

  module _ (block : Block Dir) (st : Live Dir) (h : Held) (a : Known st h) (applies : judged_block c block st ≡ Applied → Comes (b.applies c block st) h) where
    over_tip : (tip : Option Tip) → judged_block c block st ≡ judged_over_tip c block st tip → Comes (b.over_tip_in c block st tip) h
    over_tip None r =
        lands_if given asked (b.is_in_window c block st) (b.applies c block st) (Stops (OutOfWindow block.height)) h
        (λ e. applies (r ∙ ap (λ (t : Bool). if t then Applied else Refusal (OutOfWindow block.height)) e)) (λ e. (a.1, tt))
    over_tip (Some t) r =
        let conflicts = (block.height == t.height) && not (bytes_eq block.digest t.digest) in
        let skips = nat_lt (t.height + 1) block.height in
        let detached = (block.height == t.height + 1) && not (bytes_eq block.parent t.digest) in
        let lower = nat_le block.height t.height in
        let third : Judged = if lower then Passed else Applied in
        let second : Judged = if detached then Refusal (DetachedBlock block.height) else third in
        let first : Judged = if skips then Refusal (SkippedHeight (t.height + 1) block.height) else second in
        let low_one : Course Dir Fault (Live Dir) = if lower then Goes st else b.applies c block st in
        let child : Course Dir Fault (Live Dir) = if detached then Stops (DetachedBlock block.height) else low_one in
        let next : Course Dir Fault (Live Dir) = if skips then Stops (SkippedHeight (t.height + 1) block.height) else child in
        lands_if given asked conflicts (Stops (ConflictingBlock block.height)) next h (λ e. (a.1, tt))
        (λ e. lands_if given asked skips (Stops (SkippedHeight (t.height + 1) block.height)) child h (λ e1. (a.1, tt))
        (λ e1. lands_if given asked detached (Stops (DetachedBlock block.height)) low_one h (λ e2. (a.1, tt))
        (λ e2. lands_if given asked lower (Goes st) (b.applies c block st) h (λ e3. a)
        (λ e3. applies (r ∙ ap (λ (x : Bool). if x then Refusal (ConflictingBlock block.height) else first) e ∙ ap (λ (x : Bool). if x then Refusal (SkippedHeight (t.height + 1) block.height) else second) e1
        ∙ ap (λ (x : Bool). if x then Refusal (DetachedBlock block.height) else third) e2 ∙ ap (λ (x : Bool). if x then Passed else Applied) e3)))))

    in_reach : Comes (if s.is_past_range c block.height then Stops HeightRange else b.over_tip c block st) h
    in_reach =
        lands_if given asked (s.is_past_range c block.height) (Stops HeightRange) (b.over_tip c block st) h (λ e. (a.1, tt))
        (λ e. over_tip st.tip (ap (λ (x : Bool). if x then Refusal HeightRange else judged_over_tip c block st st.tip) e))

    pub delivered : (stage : Stage) → Comes (b.delivers_in c block st stage) h
    delivered Deals = in_reach
    delivered Includes = in_reach
    delivered Follows = in_reach
    delivered Ends = a
