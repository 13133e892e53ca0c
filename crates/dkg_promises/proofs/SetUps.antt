-- What an opening and an epoch's last block tell and store: the last setup is of the epoch and the seat in which the life takes part from there on, and each share that is stored is told.
use Rattle.std.proofs.Common.{◌≡◌, ◌⊎◌, inl, inr, ◌≤◌, ℕ, Bool, true, false, List, [], ◌∷◌, Option, Some, None, refl, sym, ◌∙◌, ap, subst, fold, arith}
use Rattle.std.specs.Prelude.{◌-◌, ◌+◌, ◌==◌, ◌&&◌, ◌||◌, ◌↔◌, if◌then◌else◌, is_none, is_some, not, option_map, ◌^◌, IsFalse, Ok, Err, Result, option_and_then, nat_le, nat_lt, length}
use Rattle.std.specs.List.{list_any}
use Rattle.std.specs.Option.{option_map_or}
use Rattle.std.specs.Str.{bytes_eq}
use Rattle.std.proofs.lemmas.Bool.Decides.{nat_tests}
use Rattle.dkg_values.specs.Codec.{whole as all_of}
use Rattle.dkg_values.specs.Rising.{lookup}
use Rattle.dkg_values.specs.declared.codec.CodecError.{CodecError}
use Rattle.dkg_ceremony.specs.Outcomes.{LogMap}
use Rattle.dkg_ceremony.specs.Schedule.{boundary, epoch_of, midpoint}
use Rattle.dkg_ceremony.specs.declared.ceremony.AckError.{AckError}
use Rattle.dkg_ceremony.specs.declared.ceremony.DealingError.{DealingError}
use Rattle.dkg_ceremony.specs.declared.deal.DealError.{DealError}
use Rattle.dkg_ceremony.specs.declared.phase.Phase.{Phase}
use Rattle.dkg_ceremony.specs.declared.phase.Phase.TheVariants.{Early, Late, Midpoint}
use Rattle.dkg_ceremony.specs.declared.round.RoundError.{RoundError}
use Rattle.dkg_ceremony.specs.declared.round.RoundParts.{RoundParts as Round}
use Rattle.dkg_ceremony.specs.declared.signed_log.SignedDealerLog.{SignedDealerLog}
use Rattle.dkg_types.specs.BlockCodes.{info_of}
use Rattle.dkg_types.specs.Blocks.{Block}
use Rattle.dkg_types.specs.MessageCodes.{message_at}
use Rattle.dkg_types.specs.PayloadCodes.{its_log}
use Rattle.dkg_infos.specs.declared.entry.Entry.TheVariants.{Acked, Answer, Committed, Log, Offer, Opened, Setup}
use Rattle.dkg_infos.specs.declared.entry.Entry.{Entry}
use Rattle.dkg_infos.specs.declared.entry.Part.{Part}
use Rattle.dkg_infos.specs.declared.fault.Fault.TheVariants.{DirectoryMismatch, HeightRange, InvalidParticipants, LocalState, MissingEpochInfo, WrongEpoch}
use Rattle.dkg_infos.specs.declared.fault.Fault.{Fault}
use Rattle.dkg_infos.specs.declared.fault.LocalCause.TheVariants.{OutcomeOmitted, OwnDealing}
use Rattle.dkg_infos.specs.declared.fault.ParticipantsCause.TheVariants.{ProviderAbove, ProviderEmpty}
use Rattle.dkg_infos.specs.NextInfos.{info_by}
use Rattle.dkg_infos.specs.declared.entry.Why.TheVariants.{Finished}
use Rattle.dkg_infos.specs.declared.info.EpochInfo.{EpochInfo}
use Rattle.dkg_types.specs.declared.message.Message.TheVariants.{Ack as AnAck, Dealer as ADealing}
use Rattle.dkg_types.specs.declared.message.Message.{Message as Channel}
use Rattle.dkg_infos.specs.declared.participants.ParticipantsError.{ParticipantsError}
use Rattle.dkg_store.specs.declared.event.Event.TheVariants as events
use Rattle.dkg_secrets.specs.declared.secrets.SecretOp.TheVariants.{Prune, PutDealing, PutSeed, PutShare}
use Rattle.dkg_store.specs.Acts.{Changes, Held, OnDisk, Operation}
use Rattle.dkg_core.specs.Behind.{IsAside, IsSameBeside, OnlySays, event_of}
use Rattle.dkg_core.specs.Blocks as b
use Rattle.dkg_core.specs.Core.{begun_life, opening, opens_in, step}
use Rattle.dkg_core.specs.Courses.{Ask, CallOutside, Course, Do, Goes, Say, Stops, bind, under}
use Rattle.dkg_core.specs.Dealing as d
use Rattle.dkg_core.specs.Endings.{validity}
use Rattle.dkg_core.specs.Entering.{acked_at, asks_again, takes_delivered}
use Rattle.dkg_core.specs.Fixed.{Fixed, Material, OneShot, has, start}
use Rattle.dkg_core.specs.Forms.{Applied, IsForm, Judged, Passed, judged_block}
use Rattle.dkg_laws.specs.Idle.{IsAskedEntry}
use Rattle.dkg_core.specs.Including as i
use Rattle.dkg_core.specs.Including.{Continuation, cached_for}
use Rattle.dkg_core.specs.Live.{Artifact, Deals, Dealer, Ends, Faulted, Finalized, Follows, GaveNone, Includes, Job, Live, NodeStop, Peer, Plays, Request, Seat, Mailed, Stage, Verified, VerifiedLogs, Watches, awaited_height, is_last_height, records_of_epoch, phase_of, recorded_at, with_participation, with_queue, with_tip, with_told}
use Rattle.dkg_core.specs.Logs.{canonical, is_accepted, carried_log_event, logs_of}
use Rattle.dkg_core.specs.Node.{kept_material, node_opening, node_step, unless_once}
use Rattle.dkg_core.specs.Plans as p
use Rattle.dkg_core.specs.SayingThrough.{SaysSo}
use Rattle.dkg_core.specs.Setup as s
use Rattle.dkg_core.specs.Sources.{Tip, startup}
use Rattle.dkg_core.proofs.Applied.{judged_is}
use Rattle.dkg_core.proofs.Behind.{block_aside, heard_aside, opened_aside}
use Rattle.dkg_laws.proofs.Idle as idle
use Rattle.dkg_promises.specs.SharesStand.{PartPlays, WasSetUp, is_set_up}
use Rattle.dkg_lives.proofs.HalfLines as halves

-- THE LAST SETUP of some lines

abbrev pub last_line : Option (ℕ × Part) → Entry → Option (ℕ × Part)
last_line last (Setup epoch phase part) = Some (epoch, part)
last_line last (Opened life restored) = None
last_line last line = last

abbrev pub set_up_last : Option (ℕ × Part) → List Entry → Option (ℕ × Part)
set_up_last last lines = fold last_line last lines

pair_is : {x y : ℕ × Part} → ◌≡◌ {A = Option (ℕ × Part)} (Some x) (Some y) → x ≡ y
pair_is e = cc

-- it stands among them, with none behind it
module _ (epoch : ℕ) (part : Part) where
  abbrev Stands : Option (ℕ × Part) → List Entry → Type 0
  Stands last lines = ((last ≡ Some (epoch, part)) × IsFalse (list_any is_set_up lines)) ⊎ WasSetUp lines epoch part

  with_first : (line : Entry) (lines : List Entry) → WasSetUp lines epoch part → WasSetUp (line ∷ lines) epoch part
  with_first line lines its = record { front = line ∷ its.front; phase = its.phase; rest = its.rest; is = ap (λ (ls : List Entry). line ∷ ls) its.is; last = its.last }

  stands : (lines : List Entry) (last : Option (ℕ × Part)) → set_up_last last lines ≡ Some (epoch, part) → Stands last lines
  stands [] last is = inl (is, refl)
  stands (line ∷ lines) last is = by_line line (stands lines (last_line last line) is)
    where
      none_some : ◌≡◌ {A = Option (ℕ × Part)} None (Some (epoch, part)) → ⊥
      none_some e = cc

      number_of : (n : ℕ) (its : Part) → ◌≡◌ {A = Option (ℕ × Part)} (Some (n, its)) (Some (epoch, part)) → (n ≡ epoch) × (its ≡ part)
      number_of n its e = let same : ◌≡◌ {A = ℕ × Part} (n, its) (epoch, part) = pair_is e in (ap (λ (p : ℕ × Part). p.0) same, ap (λ (p : ℕ × Part). p.1) same)

      by_line : (line : Entry) → Stands (last_line last line) lines → Stands last (line ∷ lines)
      by_line (Setup n phase its) (inl (same, none)) = let parts = number_of n its same in
          inr (record { front = []; phase = phase; rest = lines; is = ap (λ (k : ℕ). Setup k phase its ∷ lines) parts.0 ∙ ap (λ (k : Part). Setup epoch phase k ∷ lines) parts.1; last = none })
      by_line (Opened life restored) (inl (same, none)) = absurd (none_some same)
      by_line other (inl so) = inl so
      by_line other (inr its) = inr (with_first other lines its)

  pub set_up_there : (lines : List Entry) → set_up_last None lines ≡ Some (epoch, part) → WasSetUp lines epoch part
  set_up_there lines is = either (stands lines None is)
    where
      none_some : ◌≡◌ {A = Option (ℕ × Part)} None (Some (epoch, part)) → ⊥
      none_some e = cc

      either : Stands None lines → WasSetUp lines epoch part
      either (inl (none, so)) = absurd (none_some none)
      either (inr its) = its

-- WHAT A COURSE TELLS AND STORES

-- the last setup that is told, and the epoch of a share that is stored and not told yet
pub record Telling : Type 0 where
  pub last : Option (ℕ × Part)
  pub untold : Option ℕ

abbrev pub after_line : Telling → Entry → Telling
after_line x (Setup epoch phase part) = record { last = Some (epoch, part); untold = x.untold }
after_line x (Opened life restored) = record { last = None; untold = x.untold }
after_line x (Committed epoch (Some share)) = record { last = x.last; untold = None }
after_line x line = x

-- a share is told where it was stored, and such an epoch is committed where this is the last setup
abbrev pub MaySay : (Into : ℕ → Type 0) (At : Option (ℕ × Part) → Type 0) → Telling → Entry → Type 0
MaySay Into At x (Committed epoch (Some share)) = (x.untold ≡ Some epoch) × (At x.last × Into epoch)
MaySay Into At x (Committed epoch None) = At x.last × Into epoch
MaySay Into At x line = Unit {0}

abbrev pub after_op : Telling → Operation → Telling
after_op x (Changes (PutShare epoch share)) = record { last = x.last; untold = Some epoch }
after_op x op = x

-- a line, and an operation, that leave all that
abbrev pub IsPlain : Entry → Type 0
IsPlain (Setup epoch phase part) = ⊥
IsPlain (Opened life restored) = ⊥
IsPlain (Committed epoch share) = ⊥
IsPlain line = Unit {0}

abbrev pub Spares : Operation → Type 0
Spares (Changes (PutShare epoch share)) = ⊥
Spares (Changes (Prune min)) = ⊥
Spares op = Unit {0}

pub plain_keeps : (x : Telling) (line : Entry) → IsPlain line → after_line x line ≡ x
plain_keeps x (Setup epoch phase part) is = absurd is
plain_keeps x (Opened life restored) is = absurd is
plain_keeps x (Committed epoch share) is = absurd is
plain_keeps x line is = refl

pub plain_said : (Into : ℕ → Type 0) (At : Option (ℕ × Part) → Type 0) (x : Telling) (line : Entry) → IsPlain line → MaySay Into At x line
plain_said Into At x (Committed epoch share) is = absurd is
plain_said Into At x line is = tt

pub spares_keeps : (x : Telling) (op : Operation) → Spares op → after_op x op ≡ x
spares_keeps x (Changes (PutShare epoch share)) is = absurd is
spares_keeps x (Changes (Prune min)) is = absurd is
spares_keeps x (Changes (PutSeed epoch seed)) is = refl
spares_keeps x (Changes (PutDealing epoch dealer private)) is = refl
spares_keeps x (OnDisk op) is = refl

-- A course that leaves all that
abbrev pub IsQuiet : {Dir F S : Type 0} → Course Dir F S → Type 0
IsQuiet (Say line course) = IsPlain line × IsQuiet course
IsQuiet (Do op course) = Spares op × IsQuiet course
IsQuiet (CallOutside outer course) = IsQuiet course
IsQuiet (Ask f) = (h : Held) → IsQuiet (f h)
IsQuiet (Goes end) = Unit {0}
IsQuiet (Stops fault) = Unit {0}

quiet_if : {Dir F S : Type 0} (t : Bool) (x y : Course Dir F S) → (t ≡ true → IsQuiet x) → (t ≡ false → IsQuiet y) → IsQuiet (if t then x else y)
quiet_if true x y one other = one refl
quiet_if false x y one other = other refl

quiet_option : {Dir F S A : Type 0} (f : A → Course Dir F S) (o : Option A) (none : Course Dir F S) → ((a : A) → IsQuiet (f a)) → IsQuiet none → IsQuiet (option_map_or f o none)
quiet_option f None none some without = without
quiet_option f (Some a) none some without = some a

quiet_behind : {Dir F S T : Type 0} (course : Course Dir F S) (next : S → Course Dir F T) → IsQuiet course → ((end : S) → IsQuiet (next end)) → IsQuiet (bind course next)
quiet_behind (Say line course) next so more = (so.0, quiet_behind course next so.1 more)
quiet_behind (Do op course) next so more = (so.0, quiet_behind course next so.1 more)
quiet_behind (CallOutside outer course) next so more = quiet_behind course next so more
quiet_behind (Ask f) next so more = λ h. quiet_behind (f h) next (so h) more
quiet_behind (Goes end) next so more = more end
quiet_behind (Stops fault) next so more = tt

quiet_under : {Dir F G S : Type 0} (name : F → G) (course : Course Dir F S) → IsQuiet course → IsQuiet (under name course)
quiet_under name (Say line course) so = (so.0, quiet_under name course so.1)
quiet_under name (Do op course) so = (so.0, quiet_under name course so.1)
quiet_under name (CallOutside outer course) so = quiet_under name course so
quiet_under name (Ask f) so = λ h. quiet_under name (f h) (so h)
quiet_under name (Goes end) so = tt
quiet_under name (Stops fault) so = tt

-- what only says such lines
quiet_only : {Dir F S : Type 0} (L : Entry → Type 0) (Q : S → Type 0) (course : Course Dir F S) → ((line : Entry) → L line → IsPlain line) → OnlySays L Q course → IsQuiet course
quiet_only L Q (Say line course) so only = (so line only.0, quiet_only L Q course so only.1)
quiet_only L Q (Do op course) so only = absurd only
quiet_only L Q (CallOutside outer course) so only = quiet_only L Q course so only
quiet_only L Q (Ask f) so only = λ h. quiet_only L Q (f h) so (only h)
quiet_only L Q (Goes end) so only = tt
quiet_only L Q (Stops fault) so only = tt

quiet_both : {Dir F S : Type 0} (L : Entry → Type 0) (Q : S → Type 0) (course : Course Dir F S) → SaysSo IsPlain course → OnlySays L Q course → IsQuiet course
quiet_both L Q (Say line course) so only = (so.0, quiet_both L Q course so.1 only.1)
quiet_both L Q (Do op course) so only = absurd only
quiet_both L Q (CallOutside outer course) so only = quiet_both L Q course so only
quiet_both L Q (Ask f) so only = λ h. quiet_both L Q (f h) (so h) (only h)
quiet_both L Q (Goes end) so only = tt
quiet_both L Q (Stops fault) so only = tt

-- the epochs whose shares may be stored and that may be committed, up to which may be pruned, and which setup is the last where an epoch is committed
module _ (Into : ℕ → Type 0) (most : ℕ) (At : Option (ℕ × Part) → Type 0) where
  abbrev pub MayDo : Telling → Operation → Type 0
  MayDo x (Changes (PutShare epoch share)) = (x.untold ≡ None) × Into epoch
  MayDo x (Changes (Prune min)) = (x.untold ≡ None) × (min ≤ most)
  MayDo x op = Unit {0}

  pub spares_may : (x : Telling) (op : Operation) → Spares op → MayDo x op
  spares_may x (Changes (PutShare epoch share)) is = absurd is
  spares_may x (Changes (Prune min)) is = absurd is
  spares_may x (Changes (PutSeed epoch seed)) is = tt
  spares_may x (Changes (PutDealing epoch dealer private)) is = tt
  spares_may x (OnDisk op) is = tt

  -- WHERE A COURSE LEADS, from what was told and stored before it
  abbrev pub LeadsTo : {Dir F S : Type 0} → (goes : Telling → S → Type 0) → Telling → Course Dir F S → Type 0
  LeadsTo goes x (Say line course) = MaySay Into At x line × LeadsTo goes (after_line x line) course
  LeadsTo goes x (Do op course) = MayDo x op × LeadsTo goes (after_op x op) course
  LeadsTo goes x (CallOutside outer course) = LeadsTo goes x course
  LeadsTo goes x (Ask f) = (h : Held) → LeadsTo goes x (f h)
  LeadsTo goes x (Goes end) = goes x end
  LeadsTo goes x (Stops fault) = Unit {0}

  module _ {Dir F S : Type 0} (goes : Telling → S → Type 0) where
    leads_if : (x : Telling) (t : Bool) (one other : Course Dir F S) → (t ≡ true → LeadsTo goes x one) → (t ≡ false → LeadsTo goes x other) → LeadsTo goes x (if t then one else other)
    leads_if x true one other when unless = when refl
    leads_if x false one other when unless = unless refl

    leads_option : {A : Type 0} (x : Telling) (f : A → Course Dir F S) (o : Option A) (none : Course Dir F S) → ((a : A) → LeadsTo goes x (f a)) → LeadsTo goes x none → LeadsTo goes x (option_map_or f o none)
    leads_option x f None none some without = without
    leads_option x f (Some a) none some without = some a

  -- behind one that leaves it
  leads_behind : {Dir F S T : Type 0} (goes : Telling → T → Type 0) (x : Telling) (course : Course Dir F S) (next : S → Course Dir F T) → IsQuiet course → ((end : S) → LeadsTo goes x (next end)) → LeadsTo goes x (bind course next)
  leads_behind goes x (Say line course) next so more =
      (plain_said Into At x line so.0, subst (λ (y : Telling). LeadsTo goes y (bind course next)) (sym (plain_keeps x line so.0)) (leads_behind goes x course next so.1 more))
  leads_behind goes x (Do op course) next so more =
      (spares_may x op so.0, subst (λ (y : Telling). LeadsTo goes y (bind course next)) (sym (spares_keeps x op so.0)) (leads_behind goes x course next so.1 more))
  leads_behind goes x (CallOutside outer course) next so more = leads_behind goes x course next so more
  leads_behind goes x (Ask f) next so more = λ h. leads_behind goes x (f h) next (so h) more
  leads_behind goes x (Goes end) next so more = more end
  leads_behind goes x (Stops fault) next so more = tt

  -- .. and behind any
  leads_then : {Dir F S T : Type 0} (goes : Telling → S → Type 0) (goes_on : Telling → T → Type 0) (x : Telling) (course : Course Dir F S) (next : S → Course Dir F T) → LeadsTo goes x course
      → ((x : Telling) (end : S) → goes x end → LeadsTo goes_on x (next end)) → LeadsTo goes_on x (bind course next)
  leads_then goes goes_on x (Say line course) next so more = (so.0, leads_then goes goes_on (after_line x line) course next so.1 more)
  leads_then goes goes_on x (Do op course) next so more = (so.0, leads_then goes goes_on (after_op x op) course next so.1 more)
  leads_then goes goes_on x (CallOutside outer course) next so more = leads_then goes goes_on x course next so more
  leads_then goes goes_on x (Ask f) next so more = λ h. leads_then goes goes_on x (f h) next (so h) more
  leads_then goes goes_on x (Goes end) next so more = more x end so
  leads_then goes goes_on x (Stops fault) next so more = tt

  leads_under : {Dir F G S : Type 0} (goes : Telling → S → Type 0) (name : F → G) (x : Telling) (course : Course Dir F S) → LeadsTo goes x course → LeadsTo goes x (under name course)
  leads_under goes name x (Say line course) so = (so.0, leads_under goes name (after_line x line) course so.1)
  leads_under goes name x (Do op course) so = (so.0, leads_under goes name (after_op x op) course so.1)
  leads_under goes name x (CallOutside outer course) so = leads_under goes name x course so
  leads_under goes name x (Ask f) so = λ h. leads_under goes name x (f h) (so h)
  leads_under goes name x (Goes end) so = so
  leads_under goes name x (Stops fault) so = tt

  -- by its ends alone, where it leaves it
  quiet_leads : {Dir F S : Type 0} (goes : Telling → S → Type 0) (L : Entry → Type 0) (Q : S → Type 0) (x : Telling) (course : Course Dir F S) → SaysSo IsPlain course → OnlySays L Q course → ((end : S) → Q end → goes x end) → LeadsTo goes x course
  quiet_leads goes L Q x (Say line course) so only more =
      (plain_said Into At x line so.0, subst (λ (y : Telling). LeadsTo goes y course) (sym (plain_keeps x line so.0)) (quiet_leads goes L Q x course so.1 only.1 more))
  quiet_leads goes L Q x (Do op course) so only more = absurd only
  quiet_leads goes L Q x (CallOutside outer course) so only more = quiet_leads goes L Q x course so only more
  quiet_leads goes L Q x (Ask f) so only more = λ h. quiet_leads goes L Q x (f h) (so h) (only h) more
  quiet_leads goes L Q x (Goes end) so only more = more end only
  quiet_leads goes L Q x (Stops fault) so only more = tt

-- THE SEAT of a life that takes part is that of the last setup, which is of its epoch
abbrev pub IsSeatedBy : {Dir : Type 0} → Option (ℕ × Part) → Live Dir → Type 0
IsSeatedBy last end = (round : Round) → end.participation.round ≡ Some round → (part : Part) × (last ≡ Some (end.participation.epoch, part)) × (PartPlays part ↔ (end.participation.seat ≡ Plays))

-- .. and so it stays where these three do
pub still_seated : {Dir : Type 0} (last : Option (ℕ × Part)) (st end : Live Dir) → end.participation.round ≡ st.participation.round → end.participation.epoch ≡ st.participation.epoch → end.participation.seat ≡ st.participation.seat
    → IsSeatedBy last st → IsSeatedBy last end
still_seated last st end round_is epoch_is seat_is so = λ round there.
    let its = so round (sym round_is ∙ there) in
    (its.0, its.1 ∙ ap (λ (e : ℕ). Some (e, its.0)) (sym epoch_is), subst (λ (x : Seat). PartPlays its.0 ↔ (x ≡ Plays)) (sym seat_is) its.2)

-- every share that was stored is told
abbrev pub IsSetUpBy : {Dir : Type 0} → Telling → Live Dir → Type 0
IsSetUpBy x end = IsSeatedBy x.last end × (x.untold ≡ None)

part_plays : (dealer : Option Dealer) (seat : Seat) → PartPlays (s.part_of dealer seat) ↔ (seat ≡ Plays)
part_plays (Some dealer) Plays = ((λ u. refl), (λ e. tt))
part_plays (Some dealer) Watches = ((λ none. absurd none), (λ e. absurd (let wrong : ◌≡◌ {A = Seat} Watches Plays = e in cc)))
part_plays None Plays = ((λ u. refl), (λ e. tt))
part_plays None Watches = ((λ none. absurd none), (λ e. absurd (let wrong : ◌≡◌ {A = Seat} Watches Plays = e in cc)))

none_round : {round : Round} → ◌≡◌ {A = Option Round} None (Some round) → ⊥
none_round e = cc

same_number : (n m : ℕ) → (n == m) ≡ true → n ≡ m
same_number n m e = grind (arith, nat_tests)

-- COURSES

module _ {Dir : Type 0} (c : Fixed Dir) where
  asked_plain : (line : Entry) → IsAskedEntry line → IsPlain line
  asked_plain (Answer request answer) is = tt
  asked_plain (Log request log) is = tt
  asked_plain line is = absurd is

  -- where requests are read
  advanced_plain : (now : Live Dir) → IsQuiet (i.advanced c now)
  advanced_plain now = quiet_only IsAskedEntry (idle.Beside c now) (i.advanced c now) asked_plain (idle.advanced c now now.inclusion)

  -- what a dealer and a player do
  takes_ack : (epoch : ℕ) (its : Dealer) (player : ℕ) (ack : List ℕ) (now : Live Dir) → IsQuiet (d.takes_ack epoch its player ack now)
  takes_ack epoch its player ack now = by_tests (is_some (lookup player its.acks)) (is_some (recorded_at now.records.acks epoch player))
    where
      by_tests : (one two : Bool) → IsQuiet {Dir = Dir} (if one then Goes now else if two then Goes (d.counts its player ack now) else d.appends epoch (events.Ack player ack) (Goes (d.counts its player ack (d.with_ack epoch player ack now))))
      by_tests true two = tt
      by_tests false true = tt
      by_tests false false = (tt, tt)

  checked_ack : (round : Round) (its : Dealer) (from : ℕ) (ack : List ℕ) (now : Live Dir) (check : Result (Unit {0}) AckError) → IsQuiet (d.checked_ack round its from ack now check)
  checked_ack round its from ack now (Err e) = (tt, tt)
  checked_ack round its from ack now (Ok passed) = takes_ack round.number its from ack now

  own_ack : (round : Round) (public : List ℕ) (now : Live Dir) → IsQuiet (d.own_ack c round public now)
  own_ack round public now =
      quiet_option (λ (its : Dealer). d.checked_ack round its c.me (c.rules.ack_of c.me round c.me public) now (c.rules.check_ack_of round c.me its.public c.me (c.rules.ack_of c.me round c.me public))) now.participation.dealer (Goes now)
      (λ its. checked_ack round its c.me (c.rules.ack_of c.me round c.me public) now (c.rules.check_ack_of round c.me its.public c.me (c.rules.ack_of c.me round c.me public))) tt

  to_itself : (round : Round) (public : List ℕ) (private : ℕ) (now : Live Dir) (found : Option (List ℕ × ℕ)) → IsQuiet (d.deals_to_itself_in c round public private now found)
  to_itself round public private now (Some kept) =
      quiet_if (bytes_eq kept.0 public) (d.own_ack c round public now) (Stops (LocalState (OwnDealing round.number kept.0 public))) (λ e. own_ack round public now) (λ e. tt)
  to_itself round public private now None = (tt, (tt, (tt, own_ack round public (d.with_dealing_of round.number c.me public private now))))

  seats : (round : Round) (public : List ℕ) (private : ℕ) (now : Live Dir) (seat : Seat) → IsQuiet (d.offers_to_itself_in c round public private now seat)
  seats round public private now Plays = to_itself round public private now (recorded_at now.records.dealings round.number c.me)
  seats round public private now Watches = tt

  offers : (round : Round) (public : List ℕ) (privates : List (ℕ × ℕ)) (now : Live Dir) → IsQuiet (d.offers c round public privates now)
  offers round public [] now = tt
  offers round public (x ∷ xs) now = by_test (λ end. offers round public xs end) (x.0 == c.me)
    where
      by_test : ((end : Live Dir) → IsQuiet (d.offers c round public xs end)) → (t : Bool) → IsQuiet {Dir = Dir} (if t then bind (d.offers_to_itself c round public x.1 now) (λ now. d.offers c round public xs now) else Say (Offer round.number x.0 public x.1) (d.offers c round public xs now))
      by_test rest true = quiet_behind (d.offers_to_itself c round public x.1 now) (λ now. d.offers c round public xs now) (seats round public x.1 now now.participation.seat) rest
      by_test rest false = (tt, rest now)

  deals_plain : (now : Live Dir) → IsQuiet (d.deals c now)
  deals_plain now =
      quiet_option (λ (round : Round). option_map_or (λ its. d.offers c round its.public (s.unsent_of_round round its) now) now.participation.dealer (Goes now)) now.participation.round (Goes now)
      (λ round. quiet_option (λ (its : Dealer). d.offers c round its.public (s.unsent_of_round round its) now) now.participation.dealer (Goes now) (λ its. offers round its.public (s.unsent_of_round round its) now) tt) tt

  checked_dealing : (round : Round) (from : ℕ) (public : List ℕ) (private : ℕ) (now : Live Dir) (check : Result (Unit {0}) DealingError) → IsQuiet (d.checked_dealing c round from public private now check)
  checked_dealing round from public private now (Err e) = (tt, tt)
  checked_dealing round from public private now (Ok passed) = (tt, (tt, (tt, (tt, tt))))

  of_recorded : (round : Round) (from : ℕ) (public : List ℕ) (private : ℕ) (now : Live Dir) (found : Option (List ℕ × ℕ)) → IsQuiet (d.hears_dealing_in c round from public private now found)
  of_recorded round from public private now (Some kept) = (tt, tt)
  of_recorded round from public private now None = checked_dealing round from public private now (c.rules.dealing_of round c.me from public private)

  a_dealing : (round : Round) (from : ℕ) (public : List ℕ) (private : ℕ) (now : Live Dir) (seat : Seat) → IsQuiet (d.seats_dealing_in c round from public private now seat)
  a_dealing round from public private now Plays = of_recorded round from public private now (recorded_at now.records.dealings round.number from)
  a_dealing round from public private now Watches = (tt, tt)

  an_ack : (round : Round) (found : Option Dealer) (from : ℕ) (ack : List ℕ) (now : Live Dir) → IsQuiet (d.hears_ack c round found from ack now)
  an_ack round None from ack now = (tt, tt)
  an_ack round (Some dealer) from ack now = checked_ack round dealer from ack now (c.rules.check_ack_of round c.me dealer.public from ack)

  message : (round : Round) (from : ℕ) (now : Live Dir) (read : Result Channel CodecError) → IsQuiet (d.reads c round from now read)
  message round from now (Err e) = (tt, tt)
  message round from now (Ok (ADealing public private)) = a_dealing round from public private now now.participation.seat
  message round from now (Ok (AnAck ack)) = an_ack round now.participation.dealer from ack now

  hears_plain : (from : ℕ) (bytes : List ℕ) (now : Live Dir) (stage : Stage) → IsQuiet (d.hears_peer_in c from bytes now stage)
  hears_plain from bytes now Deals =
      quiet_option (λ (round : Round). d.reads c round from now (all_of (message_at c.limit bytes))) now.participation.round (Goes now) (λ round. message round from now (all_of (message_at c.limit bytes))) tt
  hears_plain from bytes now Includes = tt
  hears_plain from bytes now Follows = tt
  hears_plain from bytes now Ends = tt

  -- a block below the last
  observes_plain : (round : Round) (block : Block Dir) (st : Live Dir) (log : Option SignedDealerLog) → IsQuiet (b.observes c round block st log)
  observes_plain round block st None = tt
  observes_plain round block st (Some log) = by_tests (is_accepted c round log) (is_some (recorded_at st.records.logs round.number log.dealer))
    where
      by_tests : (accepted kept : Bool)
          → IsQuiet {Dir = Dir} (if accepted then bind (if kept then Goes st else d.appends round.number (carried_log_event log.dealer block.height log.log) (Goes (b.with_log_at round.number log.dealer block.height log.log st)))
          (λ now. Goes (b.without_own_log c log.dealer now)) else Goes st)
      by_tests true true = tt
      by_tests true false = (tt, tt)
      by_tests false kept = tt

  below_plain : (round : Round) (block : Block Dir) (st : Live Dir) → IsQuiet (b.includes c round block st)
  below_plain round block st =
      quiet_behind (b.observes c round block st (option_and_then its_log block.payload)) (λ now. i.advanced c (with_tip block (b.unserved block.height now))) (observes_plain round block st (option_and_then its_log block.payload))
      (λ end. advanced_plain (with_tip block (b.unserved block.height end)))

  dealt_plain : (block : Block Dir) (st : Live Dir) → IsQuiet (b.deals_at c block st)
  dealt_plain block st =
      quiet_behind (d.deals c st) (λ now. if block.height + 1 == midpoint c.blocks_per_epoch now.participation.epoch then i.advanced c (s.begins_inclusion c (with_tip block now)) else Goes (with_tip block now))
      (deals_plain st)
      (λ end. quiet_if (block.height + 1 == midpoint c.blocks_per_epoch end.participation.epoch) (i.advanced c (s.begins_inclusion c (with_tip block end))) (Goes (with_tip block end))
      (λ e. advanced_plain (s.begins_inclusion c (with_tip block end))) (λ e. tt))

  module _ (Into : ℕ → Type 0) (most : ℕ) (At : Option (ℕ × Part) → Type 0) where
    abbrev Leads : {S : Type 0} → (Telling → S → Type 0) → Telling → Course Dir Fault S → Type 0
    Leads goes x course = LeadsTo Into most At goes x course

    abbrev if_so : (x : Telling) (t : Bool) (one other : Course Dir Fault (Live Dir)) → (t ≡ true → Leads IsSetUpBy x one) → (t ≡ false → Leads IsSetUpBy x other) → Leads IsSetUpBy x (if t then one else other)
    if_so = leads_if Into most At IsSetUpBy

    -- A SETUP

    takes_part : (round : Round) (phase : Phase) (dealer : Option Dealer) (seat : Seat) (now : Live Dir) (x : Telling) → x.untold ≡ None → Leads IsSetUpBy x (s.takes_part c round phase dealer seat now)
    takes_part round phase dealer seat now x none = (tt, (by_phase phase, none))
      where
        life : Live Dir
        life = with_participation (record now.participation { round = Some round; dealer = dealer; seat = seat }) now

        by_phase : (phase : Phase) → IsSeatedBy (Some (now.participation.epoch, s.part_of dealer seat)) (s.in_stage c phase life)
        by_phase Early = λ r there. (s.part_of dealer seat, refl, part_plays dealer seat)
        by_phase Midpoint = λ r there. (s.part_of dealer seat, refl, part_plays dealer seat)
        by_phase Late = λ r there. (s.part_of dealer seat, refl, part_plays dealer seat)

    sits_down : (round : Round) (phase : Phase) (dealer : Option Dealer) (refused : Option ℕ) (now : Live Dir) (x : Telling) → x.untold ≡ None → Leads IsSetUpBy x (s.sits_down c round phase dealer refused now)
    sits_down round phase dealer (Some who) now x none = tt
    sits_down round phase dealer None now x none = takes_part round phase dealer Plays now x none

    makes_player : (round : Round) (phase : Phase) (dealer : Option Dealer) (now : Live Dir) (x : Telling) → x.untold ≡ None → Leads IsSetUpBy x (s.makes_player c round phase dealer now)
    makes_player round phase dealer now x none =
        if_so x (not (has round.players c.me) || s.is_lost c round (records_of_epoch round.number now.records.dealings) (logs_of now round.number)) (s.takes_part c round phase dealer Watches now)
        (s.sits_down c round phase dealer (s.refused_in c round now) now) (λ e. takes_part round phase dealer Watches now x none) (λ e. sits_down round phase dealer (s.refused_in c round now) now x none)

    dealt_by : (round : Round) (phase : Phase) (now : Live Dir) (dealt : Result (List ℕ × List (ℕ × ℕ)) DealError) (x : Telling) → x.untold ≡ None → Leads IsSetUpBy x (s.dealt_by c round phase now dealt)
    dealt_by round phase now (Ok dealt) x none = makes_player round phase (s.dealer_for phase round (s.dealer_from c round now dealt)) now x none
    dealt_by round phase now (Err e) x none = tt

    in_round : (phase : Phase) (share : Option ℕ) (seed : List ℕ) (now : Live Dir) (drawn : Result Round RoundError) (x : Telling) → x.untold ≡ None → Leads IsSetUpBy x (s.in_round c phase share seed now drawn)
    in_round phase share seed now (Err e) x none = tt
    in_round phase share seed now (Ok round) x none =
        if_so x (s.may_deal c round share now) (s.dealt_by c round phase now (c.rules.deal_of round c.me share seed)) (s.makes_player c round phase None now)
        (λ e. dealt_by round phase now (c.rules.deal_of round c.me share seed) x none) (λ e. makes_player round phase None now x none)

    -- behind the prune
    behind_prune : (info : EpochInfo Dir) (share : Option ℕ) (seed : List ℕ) (now : Live Dir) (x : Telling) → x.untold ≡ None → now.participation.epoch - 1 ≤ most
        → Leads IsSetUpBy x (bind (s.prunes (now.participation.epoch - 1) now) (λ st. if s.is_late_floor c None then s.follows c st else s.draws_up c (s.participants_of info) (Some info.output) share seed st))
    behind_prune info share seed now x none low = (
      tt,
      (
        (none, low),
        in_round (phase_of c (awaited_height now)) share seed (record now { records = s.records_from (now.participation.epoch - 1) now.records })
            (c.rules.round_of c.namespace now.participation.epoch (Some info.output) c.mode c.reveal (s.participants_of info).dealers (s.participants_of info).players) x none,
      ),
    )

    -- what is committed is stored and told
    commits : {S : Type 0} (goes : Telling → S → Type 0) (info : EpochInfo Dir) (seed : List ℕ) (put : Option ℕ) (now : Live Dir) (next : Live Dir → Course Dir Fault S) (x : Telling) → x.untold ≡ None → At x.last → Into info.epoch
        → ((y : Telling) → y.untold ≡ None → At y.last → Leads goes y (next (with_participation (record now.participation { current = Some info }) now))) → Leads goes x (bind (s.commits info seed put now) next)
    commits goes info seed None now next x none at into more = (tt, ((at, into), more x none at))
    commits goes info seed (Some share) now next x none at into more = ((none, into), (tt, ((refl, (at, into)), more (record { last = x.last; untold = None }) refl at)))

    judged : (standing : s.Standing) (info : EpochInfo Dir) (now : Live Dir) (valid : Result (Unit {0}) ParticipantsError) (x : Telling) → x.untold ≡ None → At x.last → now.participation.epoch - 1 ≤ most → (standing ≡ s.Uncommitted → Into info.epoch)
        → Leads IsSetUpBy x (s.info_judged c None standing info now valid)
    judged standing info now (Err e) x none at low into = tt
    judged s.WasCommitted info now (Ok passed) x none at low into = λ h. behind_prune info (s.recovered_share c (c.seen h) info) (s.seed_for c info.epoch (lookup info.epoch (c.seen h).seeds)) now x none low
    judged s.Uncommitted info now (Ok passed) x none at low into = λ h.
        let share : Option ℕ = s.recovered_share c (c.seen h) info in
        let seed : List ℕ = s.seed_for c info.epoch (lookup info.epoch (c.seen h).seeds) in
        let last : Live Dir → Course Dir Fault (Live Dir) = λ st. bind (s.prunes (st.participation.epoch - 1) st) (λ st. if s.is_late_floor c None then s.follows c st else s.draws_up c (s.participants_of info) (Some info.output) share seed st) in
        leads_then Into most At (λ y end. (y.untold ≡ None) × (end.participation.epoch ≡ now.participation.epoch)) IsSetUpBy x (bind (s.commits info seed share now) (λ st. s.registers c info share st)) last
        (commits (λ y end. (y.untold ≡ None) × (end.participation.epoch ≡ now.participation.epoch)) info seed share now (λ st. s.registers c info share st) x none at (into refl) (λ y none at. (tt, (none, refl))))
        (λ y end so. behind_prune info share seed end y so.0 (subst (λ (e : ℕ). e - 1 ≤ most) (sym so.1) low))

    with_info : (standing : s.Standing) (info : EpochInfo Dir) (now : Live Dir) (x : Telling) → x.untold ≡ None → At x.last → now.participation.epoch - 1 ≤ most → (standing ≡ s.Uncommitted → Into now.participation.epoch) → Leads IsSetUpBy x (s.with_info c None standing info now)
    with_info standing info now x none at low into =
        if_so x (info.epoch == now.participation.epoch) (s.info_judged c None standing info now (validity c info)) (Stops (WrongEpoch now.participation.epoch info.epoch))
        (λ e. judged standing info now (validity c info) x none at low (λ is. subst Into (sym (same_number info.epoch now.participation.epoch e)) (into is))) (λ e. tt)

    -- (without its boundary block there is no round)
    from_boundary : (found : Option (Block Dir)) (now : Live Dir) (x : Telling) → x.untold ≡ None → At x.last → now.participation.epoch - 1 ≤ most → ((block : Block Dir) → found ≡ Some block → Into now.participation.epoch) → now.participation.round ≡ None → Leads IsSetUpBy x (s.from_boundary c found now)
    from_boundary None now x untold at low into none = (tt, ((λ round there. absurd (none_round (sym none ∙ there))), untold))
    from_boundary (Some block) now x untold at low into none =
        leads_option Into most At IsSetUpBy x (λ (info : EpochInfo Dir). s.with_info c None s.Uncommitted info now) (info_of block.payload) (Stops (MissingEpochInfo block.height)) (λ info. with_info s.Uncommitted info now x untold at low (λ is. into block refl)) tt

    sets_up : (committed : Option (EpochInfo Dir)) (now : Live Dir) (x : Telling) → x.untold ≡ None → At x.last → now.participation.epoch - 1 ≤ most
        → ((block : Block Dir) → c.source.block (boundary c.blocks_per_epoch now.participation.epoch) ≡ Some block → Into now.participation.epoch) → now.participation.round ≡ None → Leads IsSetUpBy x (s.sets_up_by c None committed now)
    sets_up (Some info) now x untold at low into none = with_info s.WasCommitted info now x untold at low (λ is. absurd (let wrong : ◌≡◌ {A = s.Standing} s.WasCommitted s.Uncommitted = is in cc))
    sets_up None now x untold at low into none = from_boundary (c.source.block (boundary c.blocks_per_epoch now.participation.epoch)) now x untold at low into none

    -- an epoch whose boundary block is there
    abbrev pub Served : (height : ℕ) → Type 0
    Served height = (block : Block Dir) → c.source.block (boundary c.blocks_per_epoch (epoch_of c.blocks_per_epoch height)) ≡ Some block → Into (epoch_of c.blocks_per_epoch height)

    setup_so : (now : Live Dir) (x : Telling) → x.untold ≡ None → At x.last → epoch_of c.blocks_per_epoch (awaited_height now) - 1 ≤ most → Served (awaited_height now) → Leads IsSetUpBy x (s.setup c None now)
    setup_so now x none at low into = if_so x (s.is_past_range c (awaited_height now)) (Stops HeightRange) (s.sets_up c None now) (λ e. tt) (λ e. sets_up (s.committed_info (s.anew c now)) (s.anew c now) x none at low into refl)

    module _ (form : IsForm c) where
      -- AN OPENING of the form

      abbrev begins : ℕ
      begins = option_map_or (λ t. t.height + 1) (startup c.source.anchor None) 0

      opening_so : At None → epoch_of c.blocks_per_epoch begins - 1 ≤ most → Served begins → (x : Telling) → x.untold ≡ None → Leads IsSetUpBy x (opening c)
      opening_so at low into x none = (tt, (tt, λ h. (tt, opens (begun_life (c.seen h)) (record { last = None; untold = x.untold }) none at)))
        where
          opens : (now : Live Dir) (y : Telling) → y.untold ≡ None → At y.last → Leads IsSetUpBy y (opens_in c c.oneshot now)
          opens now y none its = subst (λ (o : Option (OneShot Dir)). Leads IsSetUpBy y (opens_in c o now)) (sym form.reshare)
              (subst (λ (m : Option (Material Dir)). Leads IsSetUpBy y (p.finds_material c m (λ found. p.stays_in_range c (p.resolves_plan c (p.starts_from c now) found)))) (sym form.bare)
              (λ h. subst (λ (found : Option (List ℕ)). Leads IsSetUpBy y (p.reads_plan c found (λ found. p.stays_in_range c (p.resolves_plan c (p.starts_from c now) found)))) (sym (form.unplanned h))
              (if_so y (option_map_or (λ t. s.is_past_range c (t.height + 1)) (start c) false) (Stops HeightRange) (p.starts_from c now None) (λ e. tt)
              (λ e. setup_so (record now { tip = startup c.source.anchor None }) y none its low into))))

      -- AN EPOCH'S LAST BLOCK

      module _ (block : Block Dir) (low : epoch_of c.blocks_per_epoch (block.height + 1) - 1 ≤ most) (into : Into (epoch_of c.blocks_per_epoch (block.height + 1))) (into_next : Into (b.expected_epoch c block.height)) where
        next_setup : (outcome : Option (EpochInfo Dir)) (queue : List (Request Dir)) (now : Live Dir) (x : Telling) → x.untold ≡ None → At x.last → now.tip ≡ Some (record { height = block.height; digest = block.digest })
            → Leads IsSetUpBy x (bind (b.answers_all queue now) (λ now. if is_some c.oneshot then b.ends_once c outcome now else s.setup c None now))
        next_setup outcome [] now x none at tip =
            subst (λ (o : Option (OneShot Dir)). Leads IsSetUpBy x (if is_some o then b.ends_once c outcome (with_queue [] now) else s.setup c None (with_queue [] now))) (sym form.reshare)
            (setup_so (with_queue [] now) x none at (subst (λ (h : ℕ). epoch_of c.blocks_per_epoch h - 1 ≤ most) (sym awaited) low) (λ found is. subst (λ (h : ℕ). Into (epoch_of c.blocks_per_epoch h)) (sym awaited) into))
          where
            awaited : awaited_height now ≡ block.height + 1
            awaited = ap (λ (o : Option Tip). option_map_or (λ t. t.height + 1) o 0) tip
        next_setup outcome (r ∷ rs) now x none at tip = (tt, next_setup outcome rs (with_told r.number (GaveNone Finished) now) x none at tip)

        passes_on : (outcome : Option (EpochInfo Dir)) (now : Live Dir) (x : Telling) → x.untold ≡ None → At x.last → Leads IsSetUpBy x (b.passes_on c block outcome now)
        passes_on outcome now x none at = next_setup outcome now.inclusion.queue (with_tip block now) x none at refl

        takes_over : (info : EpochInfo Dir) (put : Option ℕ) (now : Live Dir) (x : Telling) → x.untold ≡ None → At x.last → Into info.epoch → Leads IsSetUpBy x (b.takes_over c block info put now)
        takes_over info put now x none at its = λ h.
            let seed : List ℕ = s.seed_for c info.epoch (lookup info.epoch (c.seen h).seeds) in
            let life : Live Dir = with_participation (record now.participation { current = Some info }) now in
            commits IsSetUpBy info seed put now (λ now. bind (if is_some c.oneshot then Goes now else s.registers c info put now) (λ now. b.passes_on c block (Some info) now)) x none at its
            (λ y untold at. subst (λ (o : Option (OneShot Dir)). Leads IsSetUpBy y (bind (if is_some o then Goes life else s.registers c info put life) (λ now. b.passes_on c block (Some info) now))) (sym form.reshare)
            (tt, passes_on (Some info) (s.with_registered info.epoch (s.scheme_for c info put) life) y untold at))

        carried : (f : EpochInfo Dir → Course Dir Fault (Live Dir)) (x : Telling) → ((info : EpochInfo Dir) → Into info.epoch → Leads IsSetUpBy x (f info)) → Leads IsSetUpBy x (b.carried c block f)
        carried f x so =
            leads_option Into most At IsSetUpBy x (λ (info : EpochInfo Dir). if info.epoch == b.expected_epoch c block.height then f info else Stops (WrongEpoch (b.expected_epoch c block.height) info.epoch)) (info_of block.payload) (Stops (MissingEpochInfo block.height))
            (λ info. if_so x (info.epoch == b.expected_epoch c block.height) (f info) (Stops (WrongEpoch (b.expected_epoch c block.height) info.epoch))
            (λ e. so info (subst Into (sym (same_number info.epoch (b.expected_epoch c block.height) e)) into_next)) (λ e. tt)) tt

        concludes : (made : Artifact Dir) (now : Live Dir) (x : Telling) → x.untold ≡ None → At x.last → Leads IsSetUpBy x (b.concludes c block made now)
        concludes made now x none at =
            if_so x (is_some c.oneshot && is_none block.payload) (if is_some made.info then Stops (LocalState OutcomeOmitted) else b.passes_on c block None now)
            (b.carried c block (λ info. b.takes_over c block info (b.share_for c info made) now))
            (λ e. if_so x (is_some made.info) (Stops (LocalState OutcomeOmitted)) (b.passes_on c block None now) (λ e. tt) (λ e. passes_on None now x none at))
            (λ e. carried (λ info. b.takes_over c block info (b.share_for c info made) now) x (λ info its. takes_over info (b.share_for c info made) now x none at its))

        -- the artifact tells nothing on the way
        module _ (x : Telling) (next : Continuation Dir) (so : (made : Artifact Dir) (now : Live Dir) → Leads IsSetUpBy x (next made now)) where
          with_directory : (info : EpochInfo Dir) (acts : Course Dir Fault (Live Dir)) → Leads IsSetUpBy x acts → Leads IsSetUpBy x (i.with_directory c info acts)
          with_directory info acts its = if_so x (c.directories.matches info.directory (i.info_peers info)) acts (Stops (DirectoryMismatch info.epoch)) (λ e. its) (λ e. tt)

          with_provided : (epoch : ℕ) (acts : Course Dir Fault (Live Dir)) → Leads IsSetUpBy x acts → Leads IsSetUpBy x (i.with_provided c epoch acts)
          with_provided epoch acts its =
              let second : Course Dir Fault (Live Dir) = if nat_lt c.limit (length (c.provided.participants epoch)) then Stops (InvalidParticipants (ProviderAbove (length (c.provided.participants epoch)) c.limit)) else acts in
              let first : Course Dir Fault (Live Dir) = if length (c.provided.participants epoch) == 0 then Stops (InvalidParticipants ProviderEmpty) else second in
              if_so x (nat_le (2 ^ 64) epoch) (Stops HeightRange) first (λ e. tt)
              (λ e. if_so x (length (c.provided.participants epoch) == 0) (Stops (InvalidParticipants ProviderEmpty)) second (λ e. tt)
              (λ e. if_so x (nat_lt c.limit (length (c.provided.participants epoch))) (Stops (InvalidParticipants (ProviderAbove (length (c.provided.participants epoch)) c.limit))) acts (λ e. tt) (λ e. its)))

          share_by : (info : EpochInfo Dir) (found : Option Verified) (f : Option ℕ → Course Dir Fault (Live Dir)) → ((share : Option ℕ) → Leads IsSetUpBy x (f share)) → Leads IsSetUpBy x (i.share_by c info found f)
          share_by info (Some its) f each = each its.share
          share_by info None f each = if_so x (has info.output.players c.me) (s.looks c (λ seen. f (lookup info.epoch seen.shares))) (f None) (λ e h. each (lookup info.epoch (c.seen h).shares)) (λ e. each None)

          derives_next : (info : EpochInfo Dir) (r : VerifiedLogs) (now : Live Dir) → Leads IsSetUpBy x (i.derives_next c info r now (i.keeping_artifact r.logs next))
          derives_next info r now =
              let made : EpochInfo Dir = info_by c.provided info (option_map (λ (found : Verified). found.output) r.result) in
              let goes : Option ℕ → Course Dir Fault (Live Dir) = λ share. i.with_directory c made (i.keeping_artifact r.logs next (record { info = Some made; share = share }) now) in
              with_provided (info.epoch + 2) (i.share_by c info r.result goes)
              (share_by info r.result goes (λ share. with_directory made (i.keeping_artifact r.logs next (record { info = Some made; share = share }) now)
              (so (record { info = Some made; share = share }) (i.with_cached r.logs (record { info = Some made; share = share }) now))))

          artifact_so : (r : VerifiedLogs) (cached : Option (Artifact Dir)) (now : Live Dir) → Leads IsSetUpBy x (i.artifact_by c r cached now next)
          artifact_so r (Some made) now = so made now
          artifact_so r None now =
              subst (λ (o : Option (OneShot Dir)). Leads IsSetUpBy x (i.derives c o r now next)) (sym form.reshare)
              (leads_option Into most At IsSetUpBy x (λ (info : EpochInfo Dir). i.derives_next c info r now (i.keeping_artifact r.logs next)) now.participation.current (Stops HeightRange) (λ info. derives_next info r now) tt)

        module _ (round : Round) (x : Telling) (none : x.untold ≡ None) (at : At x.last) where
          by_result : (r : VerifiedLogs) (now : Live Dir) → Leads IsSetUpBy x (i.artifact c r now (b.concludes c block))
          by_result r now = artifact_so x (b.concludes c block) (λ made end. concludes made end x none at) r (cached_for now.inclusion.cached r.logs) now

          starts_quiet : (job : Job) (waiter refused : Option ℕ) (now : Live Dir) → IsQuiet (i.starts_unless job waiter refused now)
          starts_quiet job waiter (Some who) now = tt
          starts_quiet job waiter None now = tt

          derives_now : (logs : LogMap) (retained : Option VerifiedLogs) (now : Live Dir) → Leads IsSetUpBy x (b.derives_at_block c round block logs retained now)
          derives_now logs (Some r) now = by_result r now
          derives_now logs None now =
              let found : VerifiedLogs = i.verified c (i.job_for c round logs now) in
              leads_behind Into most At IsSetUpBy x (i.starts_verifying c round logs None now) (λ now. i.artifact c found (i.retains c found now) (b.concludes c block))
              (starts_quiet (i.job_for c round logs now) None (if i.can_finish c round logs now then s.refused_in c round now else None) now) (λ end. by_result found (i.retains c found end))

          concludes_by : (logs : LogMap) (before now : Option (Artifact Dir)) (life : Live Dir) → Leads IsSetUpBy x (b.concludes_by c round block logs before now life)
          concludes_by logs (Some made) now life = concludes made life x none at
          concludes_by logs None (Some made) life = concludes made life x none at
          concludes_by logs None None life = derives_now logs (i.retained_for life.inclusion.retained logs) life

          final_so : (st : Live Dir) → Leads IsSetUpBy x (b.final_block c round block st)
          final_so st =
              leads_behind Into most At IsSetUpBy x (i.ends_verifying c None st)
              (λ now. b.concludes_by c round block (canonical c st) (cached_for st.inclusion.cached (canonical c st)) (cached_for now.inclusion.cached (canonical c st)) now)
              (quiet_only IsAskedEntry (idle.Beside c st) (i.ends_verifying c None st) asked_plain (idle.ends c st None st.inclusion.running))
              (λ end. concludes_by (canonical c st) (cached_for st.inclusion.cached (canonical c st)) (cached_for end.inclusion.cached (canonical c st)) end)

        follows_so : (st : Live Dir) (x : Telling) → x.untold ≡ None → At x.last → Leads IsSetUpBy x (b.carried c block (λ info. b.follows_into c block info st))
        follows_so st x none at = carried (λ info. b.follows_into c block info st) x (λ info its h.
            let share : Option ℕ = s.recovered_share c (c.seen h) info in
            commits IsSetUpBy info (s.seed_for c info.epoch (lookup info.epoch (c.seen h).seeds)) share st (λ st. bind (s.registers c info share st) (λ st. s.setup c None (with_tip block st))) x none at its
            (λ y untold at. (tt, setup_so (with_tip block (s.with_registered info.epoch (s.scheme_for c info share) (with_participation (record st.participation { current = Some info }) st))) y untold at low (λ found is. into))))

        taken_so : (st : Live Dir) (x : Telling) → x.untold ≡ None → At x.last → is_last_height c block.height ≡ true → (st.participation.stage ≡ Follows) ⊎ ((st.participation.stage ≡ Includes) × ((round : Round) × (st.participation.round ≡ Some round)))
            → Leads IsSetUpBy x (b.applies c block st)
        taken_so st x none its ends (inl at) =
            subst (λ (stage : Stage). Leads IsSetUpBy x (b.applies_in c block st stage)) (sym at)
            (subst (λ (t : Bool). Leads IsSetUpBy x (if t then b.carried c block (λ info. b.follows_into c block info st) else Goes (with_tip block st))) (sym ends) (follows_so st x none its))
        taken_so st x none its ends (inr (at, (round, there))) =
            subst (λ (stage : Stage). Leads IsSetUpBy x (b.applies_in c block st stage)) (sym at)
            (subst (λ (o : Option Round). Leads IsSetUpBy x (option_map_or (λ round. if is_last_height c block.height then b.final_block c round block st else b.includes c round block st) o (Goes st))) (sym there)
            (subst (λ (t : Bool). Leads IsSetUpBy x (if t then b.final_block c round block st else b.includes c round block st)) (sym ends) (final_so round x none its st)))

    -- behind the reshare half
    behind_half : (x : Telling) (end : Live Dir) (course : Course Dir NodeStop (Live Dir)) → SaysSo IsPlain course → OnlySays IsAside (IsSameBeside end) course → IsSetUpBy x end → LeadsTo Into most At IsSetUpBy x course
    behind_half x end course says only so =
        quiet_leads Into most At IsSetUpBy IsAside (IsSameBeside end) x course says only
        (λ left same. (still_seated x.last end left (ap (λ (y : Live Dir). y.participation.round) same) (ap (λ (y : Live Dir). y.participation.epoch) same) (ap (λ (y : Live Dir). y.participation.seat) same) so.0, so.1))

    -- A NODE'S OPENING
    pub opening_leads : (form : IsForm c) → At None → epoch_of c.blocks_per_epoch (option_map_or (λ t. t.height + 1) (startup c.source.anchor None) 0) - 1 ≤ most → Served (option_map_or (λ t. t.height + 1) (startup c.source.anchor None) 0)
        → (x : Telling) → x.untold ≡ None → LeadsTo Into most At IsSetUpBy x (node_opening c)
    opening_leads form at low into x none =
        leads_then Into most At IsSetUpBy IsSetUpBy x (under Faulted (opening c)) (λ st. unless_once c (kept_material c st) (Goes st)) (leads_under Into most At IsSetUpBy Faulted x (opening c) (opening_so form at low into x none))
        (λ y st so. behind_half y st (unless_once c (kept_material c st) (Goes st)) (halves.behind_opening c IsPlain (λ epoch. tt) tt (λ height. tt) st) (opened_aside c st) so)

    -- .. and its step by an epoch's last block that is taken over
    pub taken_leads : (form : IsForm c) (block : Block Dir) → epoch_of c.blocks_per_epoch (block.height + 1) - 1 ≤ most → Into (epoch_of c.blocks_per_epoch (block.height + 1)) → Into (b.expected_epoch c block.height) → (st : Live Dir) (x : Telling)
        → x.untold ≡ None → At x.last → judged_block c block st ≡ Applied → is_last_height c block.height ≡ true → (st.participation.stage ≡ Follows) ⊎ ((st.participation.stage ≡ Includes) × ((round : Round) × (st.participation.round ≡ Some round)))
        → LeadsTo Into most At IsSetUpBy x (node_step c (event_of (Finalized block)) st)
    taken_leads form block low into into_next st x none its applied ends at =
        leads_then Into most At IsSetUpBy IsSetUpBy x (under Faulted (step c (Finalized block) st)) behind (leads_under Into most At IsSetUpBy Faulted x (step c (Finalized block) st) half)
        (λ y st so. behind_half y st (behind st) (halves.behind_block c IsPlain (λ epoch. tt) tt (λ height. tt) block st) (block_aside c block st) so)
      where
        behind : Live Dir → Course Dir NodeStop (Live Dir)
        behind now = unless_once c (bind (takes_delivered c block now) (λ left. acked_at block.height left.answer left.live)) (Say (Acked block.height) (Goes now))

        never_ends : (st.participation.stage ≡ Follows) ⊎ ((st.participation.stage ≡ Includes) × ((round : Round) × (st.participation.round ≡ Some round))) → st.participation.stage ≡ Ends → ⊥
        never_ends (inl follows) is = let wrong : ◌≡◌ {A = Stage} Ends Follows = sym is ∙ follows in cc
        never_ends (inr includes) is = let wrong : ◌≡◌ {A = Stage} Ends Includes = sym is ∙ includes.0 in cc

        half : Leads IsSetUpBy x (step c (Finalized block) st)
        half = judged_is c block st (λ course. Leads IsSetUpBy x course) (λ t one other when unless. leads_if Into most At IsSetUpBy x t one other when unless) (λ fault is. tt)
            (λ is. absurd (let wrong : ◌≡◌ {A = Judged} Passed Applied = sym is ∙ applied in cc)) (λ is. taken_so form block low into into_next st x none its ends at) (λ is. absurd (never_ends at is))

  -- ANY OTHER STEP leaves all that

  applied_quiet : (block : Block Dir) (st : Live Dir) (stage : Stage) → (is_last_height c block.height ≡ true → (stage ≡ Deals) ⊎ (stage ≡ Ends)) → IsQuiet (b.applies_in c block st stage)
  applied_quiet block st Deals other = dealt_plain block st
  applied_quiet block st Includes other =
      quiet_option (λ (round : Round). if is_last_height c block.height then b.final_block c round block st else b.includes c round block st) st.participation.round (Goes st)
      (λ round. quiet_if (is_last_height c block.height) (b.final_block c round block st) (b.includes c round block st) (λ last. absurd (never (other last))) (λ below. below_plain round block st)) tt
    where
      never : (◌≡◌ {A = Stage} Includes Deals) ⊎ (◌≡◌ {A = Stage} Includes Ends) → ⊥
      never (inl e) = cc
      never (inr e) = cc
  applied_quiet block st Follows other =
      quiet_if (is_last_height c block.height) (b.carried c block (λ info. b.follows_into c block info st)) (Goes (with_tip block st)) (λ last. absurd (never (other last))) (λ below. tt)
    where
      never : (◌≡◌ {A = Stage} Follows Deals) ⊎ (◌≡◌ {A = Stage} Follows Ends) → ⊥
      never (inl e) = cc
      never (inr e) = cc
  applied_quiet block st Ends other = tt

  halves_quiet : (end : Live Dir) (course : Course Dir NodeStop (Live Dir)) → SaysSo IsPlain course → OnlySays IsAside (IsSameBeside end) course → IsQuiet course
  halves_quiet end course says only = quiet_both IsAside (IsSameBeside end) course says only

  pub block_quiet : (block : Block Dir) (st : Live Dir) → (judged_block c block st ≡ Applied → is_last_height c block.height ≡ true → (st.participation.stage ≡ Deals) ⊎ (st.participation.stage ≡ Ends))
      → IsQuiet (node_step c (event_of (Finalized block)) st)
  block_quiet block st other =
      quiet_behind (under Faulted (step c (Finalized block) st)) (λ now. unless_once c (bind (takes_delivered c block now) (λ left. acked_at block.height left.answer left.live)) (Say (Acked block.height) (Goes now)))
      (quiet_under Faulted (step c (Finalized block) st)
      (judged_is c block st (λ course. IsQuiet course) (λ t one other when unless. quiet_if t one other when unless) (λ fault is. tt) (λ is. tt) (λ is. applied_quiet block st st.participation.stage (other is)) (λ is. tt)))
      (λ now. halves_quiet now (unless_once c (bind (takes_delivered c block now) (λ left. acked_at block.height left.answer left.live)) (Say (Acked block.height) (Goes now)))
      (halves.behind_block c IsPlain (λ epoch. tt) tt (λ height. tt) block now) (block_aside c block now))

  pub peer_quiet : (from : ℕ) (bytes : List ℕ) (st : Live Dir) → IsQuiet (node_step c (event_of (Mailed (Peer from bytes))) st)
  peer_quiet from bytes st =
      quiet_behind (under Faulted (step c (Mailed (Peer from bytes)) st)) (λ end. unless_once c (asks_again c end) (Goes end)) (quiet_under Faulted (step c (Mailed (Peer from bytes)) st) (hears_plain from bytes st st.participation.stage))
      (λ now. halves_quiet now (unless_once c (asks_again c now) (Goes now)) (halves.behind_mail c IsPlain (λ epoch. tt) tt (λ height. tt) now) (heard_aside c now))
