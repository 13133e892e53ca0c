-- Where setups come to in the form of epochs.
use Rattle.std.proofs.Common.{◌≡◌, ◌≤◌, ℕ, Bool, true, false, cond, nat_le, List, [], ◌∷◌, Option, Some, None, refl, sym, ◌∙◌, ap, subst, arith}
use Rattle.std.specs.Prelude.{◌-◌, ◌^◌, ◌==◌, ◌&&◌, ◌||◌, nat_lt, filter, map, if◌then◌else◌, not, Result, Ok, Err, is_none, is_some, is_ok, option_map}
use Rattle.std.specs.List.{AllByRecursion}
use Rattle.std.specs.Cmp.{nat_cmp_total}
use Rattle.std.specs.declared.cmp.Ordering.{Ordering}
use Rattle.std.specs.FinMap.{FinMap, empty, get, insert, retain_keys, get-insert, get-retain_keys, nat_cmp-IsAntisymmetric}
use Rattle.std.specs.Ordering.{nat_cmp, is_eq}
use Rattle.std.proofs.lemmas.Cmp.{tied_itself}
use Rattle.std.proofs.lemmas.Bool.Decides.{nat_tests}
use Rattle.dkg_values.specs.Rising.{lookup}
use Rattle.dkg_ceremony.specs.declared.ceremony.AckError.{AckError}
use Rattle.dkg_ceremony.specs.declared.deal.DealError.{DealError}
use Rattle.dkg_ceremony.specs.declared.phase.Phase.{Phase}
use Rattle.dkg_ceremony.specs.declared.phase.Phase.TheVariants.{Early, Midpoint, Late}
use Rattle.dkg_ceremony.specs.declared.round.RoundParts.{RoundParts as Round}
use Rattle.dkg_ceremony.specs.declared.round.RoundError.{RoundError}
use Rattle.dkg_ceremony.specs.Outcomes.{LogMap}
use Rattle.dkg_ceremony.specs.Schedule.{epoch_of}
use Rattle.dkg_infos.specs.declared.fault.Fault.{Fault}
use Rattle.dkg_infos.specs.declared.fault.Fault.TheVariants.{WrongEpoch}
use Rattle.dkg_infos.specs.declared.info.EpochInfo.{EpochInfo}
use Rattle.dkg_infos.specs.declared.participants.ParticipantsError.{ParticipantsError}
use Rattle.dkg_store.specs.Acts.{Held, World, Ended, went, stopped, broken, Completes, Faults, says, does, held_after}
use Rattle.dkg_store.specs.Recorded.{Pair, first_refused, bare_logs}
use Rattle.dkg_store.specs.declared.recorded_log.RecordedLog.{RecordedLog}
use Rattle.dkg_core.specs.Courses.{Course, Say, Do, CallOutside, Ask, Goes, Stops, bind, under, on_devices, EndsSo}
use Rattle.dkg_core.specs.Fixed.{Fixed, has}
use Rattle.dkg_core.specs.Live.{Live, Records, Dealer, Inclusion, Stage, Deals, Includes, Seat, Plays, Watches, awaited_height, phase_of, records_of_epoch, with_inclusion}
use Rattle.dkg_core.specs.Logs.{logs_of}
use Rattle.dkg_core.specs.Setup as s
use Rattle.dkg_core.specs.Core.{no_inclusion}
use Rattle.dkg_core.specs.Endings.{ComesTo, CameTo, stage_in, validity, seat_in}
use Rattle.dkg_core.specs.Forms.{IsForm, IsMine, ComesOver, FindsHeld, round_for, signed_in, dealer_by, dealer_in, IsDealable, IsSetupFault, current_by, orchestrator_by, IsSeated, share_read, seed_read, set_up_by, StoresBoth, SetupsStore, SetupsComeTo}
use Rattle.dkg_core.specs.Asked.{IsEmptied}
use Rattle.dkg_core.specs.Through.{unasked, SetupsComeThrough}
use Rattle.dkg_core.proofs.Sound.{first_of_three}

-- WHERE A COURSE COMES TO

module _ {Dir F S : Type 0} (stops : F → Type 0) (goes : S → Option Held → Type 0) where
  pub over_if : (devices : Option Held) (t : Bool) (x y : Course Dir F S) → (t ≡ true → ComesOver stops goes x devices) → (t ≡ false → ComesOver stops goes y devices)
      → ComesOver stops goes (if t then x else y) devices
  over_if devices true x y one other = one refl
  over_if devices false x y one other = other refl

  pub over_asks : (devices : Option Held) (f : Held → Course Dir F S) → ((h : Held) → FindsHeld devices h → ComesOver stops goes (f h) devices) → ComesOver stops goes (Ask f) devices
  over_asks (Some h) f each = each h refl
  over_asks None f each = λ h. each h tt

  -- whatever is read
  pub comes_anywhere : (course : Course Dir F S) → ComesOver stops goes course None → ComesTo stops (λ end. goes end None) course
  comes_anywhere (Say line course) comes = comes_anywhere course comes
  comes_anywhere (Do op course) comes = comes_anywhere course comes
  comes_anywhere (CallOutside outer course) comes = comes_anywhere course comes
  comes_anywhere (Ask f) comes = λ h. comes_anywhere (f h) (comes h)
  comes_anywhere (Goes end) comes = comes
  comes_anywhere (Stops fault) comes = comes

  over_all : (course : Course Dir F S) (end : S) (w new : World) → ComesOver stops goes course (Some w.held) → Completes (on_devices course) end w new → goes end (Some new.held)
  over_all (Say line course) end w new comes run = over_all course end (says w line) new comes run
  over_all (Do op course) end w new comes run = over_all course end (does w op) new comes run
  over_all (CallOutside outer course) end w new comes run = over_all course end w new comes run
  over_all (Ask f) end w new comes run = over_all (f w.held) end w new comes run
  over_all (Goes its) end w new comes run = subst (λ (e : S). goes e (Some new.held)) (sym run.1) (subst (λ (v : World). goes its (Some v.held)) (sym run.0) comes)
  over_all (Stops fault) end w new comes run = absurd run

  over_faults : (course : Course Dir F S) (fault : F) (w new : World) → ComesOver stops goes course (Some w.held) → Faults (on_devices course) fault w new → stops fault
  over_faults (Say line course) fault w new comes run = over_faults course fault (says w line) new comes run
  over_faults (Do op course) fault w new comes run = over_faults course fault (does w op) new comes run
  over_faults (CallOutside outer course) fault w new comes run = over_faults course fault w new comes run
  over_faults (Ask f) fault w new comes run = over_faults (f w.held) fault w new comes run
  over_faults (Goes end) fault w new comes run = absurd run
  over_faults (Stops its) fault w new comes run = subst stops (sym run.1) comes

  -- a run over devices that tell came there
  pub came_over : (course : Course Dir F S) (ended : Ended F S) (w new : World) → ComesOver stops goes course (Some w.held) → EndsSo course ended w new → CameTo stops (λ end. goes end (Some new.held)) ended
  came_over course (went end) w new comes run = over_all course end w new comes run
  came_over course (stopped fault) w new comes run = over_faults course fault w new comes run
  came_over course (broken cause) w new comes run = tt

-- where a course comes to, whatever is read, it comes to over any devices
pub anywhere_over : {Dir F S : Type 0} (stops : F → Type 0) (goes : S → Type 0) (course : Course Dir F S) (devices : Option Held) → ComesTo stops goes course → ComesOver stops (λ end left. goes end) course devices
anywhere_over stops goes (Say line course) devices comes = anywhere_over stops goes course devices comes
anywhere_over stops goes (Do op course) devices comes = anywhere_over stops goes course (option_map (held_after op) devices) comes
anywhere_over stops goes (CallOutside outer course) devices comes = anywhere_over stops goes course devices comes
anywhere_over stops goes (Ask f) (Some h) comes = anywhere_over stops goes (f h) (Some h) (comes h)
anywhere_over stops goes (Ask f) None comes = λ h. anywhere_over stops goes (f h) None (comes h)
anywhere_over stops goes (Goes end) devices comes = comes
anywhere_over stops goes (Stops fault) devices comes = comes

-- to more
pub over_as : {Dir F S : Type 0} (stops others : F → Type 0) (goes ends : S → Option Held → Type 0) (course : Course Dir F S) (devices : Option Held)
    → ((fault : F) → stops fault → others fault) → ((end : S) (left : Option Held) → goes end left → ends end left) → ComesOver stops goes course devices → ComesOver others ends course devices
over_as stops others goes ends (Say line course) devices more most comes = over_as stops others goes ends course devices more most comes
over_as stops others goes ends (Do op course) devices more most comes = over_as stops others goes ends course (option_map (held_after op) devices) more most comes
over_as stops others goes ends (CallOutside outer course) devices more most comes = over_as stops others goes ends course devices more most comes
over_as stops others goes ends (Ask f) (Some h) more most comes = over_as stops others goes ends (f h) (Some h) more most comes
over_as stops others goes ends (Ask f) None more most comes = λ h. over_as stops others goes ends (f h) None more most (comes h)
over_as stops others goes ends (Goes end) devices more most comes = most end devices comes
over_as stops others goes ends (Stops fault) devices more most comes = more fault comes

-- one behind another, over what the first leaves
pub over_behind : {Dir F S T : Type 0} (stops : F → Type 0) (first : S → Option Held → Type 0) (goes : T → Option Held → Type 0) (course : Course Dir F S) (next : S → Course Dir F T) (devices : Option Held)
    → ComesOver stops first course devices → ((end : S) (left : Option Held) → first end left → ComesOver stops goes (next end) left) → ComesOver stops goes (bind course next) devices
over_behind stops first goes (Say line course) next devices comes so = over_behind stops first goes course next devices comes so
over_behind stops first goes (Do op course) next devices comes so = over_behind stops first goes course next (option_map (held_after op) devices) comes so
over_behind stops first goes (CallOutside outer course) next devices comes so = over_behind stops first goes course next devices comes so
over_behind stops first goes (Ask f) next (Some h) comes so = over_behind stops first goes (f h) next (Some h) comes so
over_behind stops first goes (Ask f) next None comes so = λ h. over_behind stops first goes (f h) next None (comes h) so
over_behind stops first goes (Goes end) next devices comes so = so end devices comes
over_behind stops first goes (Stops fault) next devices comes so = comes

-- under other names for its faults
pub over_under : {Dir F G S : Type 0} (name : F → G) (stops : F → Type 0) (goes : S → Option Held → Type 0) (course : Course Dir F S) (devices : Option Held)
    → ComesOver stops goes course devices → ComesOver (λ stop. (fault : F) × (stop ≡ name fault) × stops fault) goes (under name course) devices
over_under name stops goes (Say line course) devices comes = over_under name stops goes course devices comes
over_under name stops goes (Do op course) devices comes = over_under name stops goes course (option_map (held_after op) devices) comes
over_under name stops goes (CallOutside outer course) devices comes = over_under name stops goes course devices comes
over_under name stops goes (Ask f) (Some h) comes = over_under name stops goes (f h) (Some h) comes
over_under name stops goes (Ask f) None comes = λ h. over_under name stops goes (f h) None (comes h)
over_under name stops goes (Goes end) devices comes = comes
over_under name stops goes (Stops fault) devices comes = (fault, refl, comes)

-- there are devices
pub no_held : Held
no_held = record { journaled = record { entries = []; plan = None; names = [] }; secrets = record { shares = empty; seeds = empty; privates = empty } }

pub some_found : (devices : Option Held) → (h : Held) × FindsHeld devices h
some_found (Some h) = (h, refl)
some_found None = (no_held, tt)

-- APART

none_apart : {A : Type 0} (a : A) → ◌≡◌ {A = Option A} None (Some a) → ⊥
none_apart a e = cc

same_some : {A : Type 0} (a b : A) → ◌≡◌ {A = Option A} (Some a) (Some b) → a ≡ b
same_some a b e = cc

watches_apart : ◌≡◌ {A = Seat} Watches Plays → ⊥
watches_apart e = cc

includes_apart : ◌≡◌ {A = Stage} Includes Deals → ⊥
includes_apart e = cc

refused_apart : {A E : Type 0} (a : A) (e : E) → ◌≡◌ {A = Result A E} (Ok a) (Err e) → ⊥
refused_apart a e is = cc

bool_apart : (t : Bool) → t ≡ true → t ≡ false → ⊥
bool_apart t so not_so = cc

same_number : (n m : ℕ) → (n == m) ≡ true → n ≡ m
same_number n m e = grind (arith, nat_tests)

other_number : (n m : ℕ) → (n == m) ≡ false → n ≡ m → ⊥
other_number n m e is = grind (arith, nat_tests)

-- WHAT IS KEPT

below_min : (min epoch n : ℕ) → min ≤ epoch → nat_le min n ≡ false → (n == epoch) ≡ false
below_min min epoch n low e = grind (arith, nat_tests, low)

module _ {V : Type 0} where
  abbrev is_of : (epoch : ℕ) → (ℕ × ℕ) × V → Bool
  is_of epoch r = (r.0.0 == epoch) && nat_lt r.0.1 (2 ^ 32)

  one_kept : (min epoch : ℕ) → min ≤ epoch → (r : (ℕ × ℕ) × V) (rs kept : List ((ℕ × ℕ) × V)) → filter (is_of epoch) kept ≡ filter (is_of epoch) rs → (stays : Bool) → nat_le min r.0.0 ≡ stays
      → filter (is_of epoch) (cond stays (r ∷ kept) kept) ≡ filter (is_of epoch) (r ∷ rs)
  one_kept min epoch low r rs kept more true e = ap (λ (l : List ((ℕ × ℕ) × V)). cond (is_of epoch r) (r ∷ l) l) more
  one_kept min epoch low r rs kept more false e =
      more ∙ sym (ap (λ (t : Bool). cond (t && nat_lt r.0.1 (2 ^ 32)) (r ∷ filter (is_of epoch) rs) (filter (is_of epoch) rs)) (below_min min epoch r.0.0 low e))

  -- what is of an epoch lies not below the epoch before
  all_kept : (min epoch : ℕ) → min ≤ epoch → (rs : List ((ℕ × ℕ) × V)) → filter (is_of epoch) (s.kept_from min rs) ≡ filter (is_of epoch) rs
  all_kept min epoch low [] = refl
  all_kept min epoch low (r ∷ rs) = one_kept min epoch low r rs (s.kept_from min rs) (all_kept min epoch low rs) (nat_le min r.0.0) refl

  one_again : (min : ℕ) (r : (ℕ × ℕ) × V) (kept : List ((ℕ × ℕ) × V)) → s.kept_from min kept ≡ kept → (stays : Bool) → nat_le min r.0.0 ≡ stays → s.kept_from min (cond stays (r ∷ kept) kept) ≡ cond stays (r ∷ kept) kept
  one_again min r kept more true e = ap (λ (t : Bool). cond t (r ∷ s.kept_from min kept) (s.kept_from min kept)) e ∙ ap (λ (l : List ((ℕ × ℕ) × V)). r ∷ l) more
  one_again min r kept more false e = more

  -- what was kept is kept again
  kept_again : (min : ℕ) (rs : List ((ℕ × ℕ) × V)) → s.kept_from min (s.kept_from min rs) ≡ s.kept_from min rs
  kept_again min [] = refl
  kept_again min (r ∷ rs) = one_again min r (s.kept_from min rs) (kept_again min rs) (nat_le min r.0.0) refl

pub records_again : (min : ℕ) (r : Records) → s.records_from min (s.records_from min r) ≡ s.records_from min r
records_again min r =
    ap (λ (ds : List Pair). record (s.records_from min (s.records_from min r)) { dealings = ds }) (kept_again min r.dealings)
    ∙ ap (λ (acks : _). record (s.records_from min (s.records_from min r)) { dealings = s.kept_from min r.dealings; acks = acks }) (kept_again min r.acks)
    ∙ ap (λ (logs : _). record (s.records_from min r) { logs = logs }) (kept_again min r.logs)

-- recorded acknowledgements that are taken pass
module _ (check : ℕ → List ℕ → Result (Unit {0}) AckError) where
  abbrev Pass : List (ℕ × List ℕ) → Type 0
  Pass acks = AllByRecursion (λ (a : ℕ × List ℕ). check a.0 a.1 ≡ Ok tt) acks

  one_passes : (a : ℕ × List ℕ) (kept : List (ℕ × List ℕ)) → Pass kept → (checked : Result (Unit {0}) AckError) → check a.0 a.1 ≡ checked → Pass (cond (is_ok checked) (a ∷ kept) kept)
  one_passes a kept pass (Ok passed) e = (e, pass)
  one_passes a kept pass (Err refused) e = pass

  all_pass : (acks : List (ℕ × List ℕ)) → Pass (filter (λ (a : ℕ × List ℕ). is_ok (check a.0 a.1)) acks)
  all_pass [] = tt
  all_pass (a ∷ acks) = one_passes a (filter (λ (a : ℕ × List ℕ). is_ok (check a.0 a.1)) acks) (all_pass acks) (check a.0 a.1) refl

-- what is dealt
abbrev both_halves : List ℕ → List (ℕ × ℕ) → Result (List ℕ × List (ℕ × ℕ)) DealError
both_halves public privates = Ok (public, privates)

-- BEHIND THE COMMIT

-- the life that was committed and registered, where it wasn't before, and pruned
abbrev ready : {Dir : Type 0} → Fixed Dir → s.Standing → EpochInfo Dir → Option ℕ → Live Dir → Live Dir
ready c standing info share st = record st {
  records = s.records_from (st.participation.epoch - 1) st.records;
  participation = record st.participation { current = current_by standing info st.participation.current };
  orchestrator = orchestrator_by standing c info share st.orchestrator;
}

behind_commit : {Dir : Type 0} (c : Fixed Dir) (stops : Fault → Type 0) (goes : Live Dir → Type 0) (standing : s.Standing) (info : EpochInfo Dir) (share : Option ℕ) (seed : List ℕ) (st : Live Dir)
    → ((behind : Option Held) → ComesOver stops (λ end left. goes end × (left ≡ behind)) (s.draws_up c (s.participants_of info) (Some info.output) share seed (ready c standing info share st)) behind)
    → (devices : Option Held)
    → ComesOver stops (λ end left. goes end × (left ≡ option_map (set_up_by standing st.participation.epoch info share seed) devices)) (s.with_share_and_seed c None standing info share seed st) devices
behind_commit c stops goes s.WasCommitted info share seed st comes None = comes None
behind_commit c stops goes s.WasCommitted info share seed st comes (Some h) = comes (Some (set_up_by s.WasCommitted st.participation.epoch info share seed h))
behind_commit c stops goes s.Uncommitted info None seed st comes None = comes None
behind_commit c stops goes s.Uncommitted info None seed st comes (Some h) = comes (Some (set_up_by s.Uncommitted st.participation.epoch info None seed h))
behind_commit c stops goes s.Uncommitted info (Some share) seed st comes None = comes None
behind_commit c stops goes s.Uncommitted info (Some share) seed st comes (Some h) = comes (Some (set_up_by s.Uncommitted st.participation.epoch info (Some share) seed h))

-- WHAT IS STORED

module _ {V : Type 0} (m : FinMap nat_cmp V) (epoch : ℕ) (v : V) where
  from_before : (n : ℕ) → nat_le (n - 1) n ≡ true
  from_before n = grind (arith, nat_tests)

  -- what is put at an epoch stays behind a prune below the one before
  put_stays : get (retain_keys (insert m epoch v) (nat_le (epoch - 1))) epoch ≡ Some v
  put_stays =
      get-retain_keys (insert m epoch v) (nat_le (epoch - 1)) epoch (λ x tied. ap (nat_le (epoch - 1)) (sym (nat_cmp-IsAntisymmetric epoch x tied)))
      ∙ ap (λ (t : Bool). cond t (get (insert m epoch v) epoch) None) (from_before epoch)
      ∙ get-insert nat_cmp_total m epoch v epoch ∙ ap (λ (r : Ordering). cond (is_eq r) (Some v) (get m epoch)) (tied_itself nat_cmp_total epoch)

stores_both : {Dir : Type 0} (info : EpochInfo Dir) (share : Option ℕ) (seed : List ℕ) (h : Held) → StoresBoth info.epoch share seed (set_up_by s.Uncommitted info.epoch info share seed h)
stores_both info None seed h = record { seed_is = put_stays h.secrets.seeds info.epoch seed; share_is = tt }
stores_both info (Some share) seed h = record { seed_is = put_stays h.secrets.seeds info.epoch seed; share_is = put_stays h.secrets.shares info.epoch share }

pub setups_store : {Dir : Type 0} → SetupsStore Dir
setups_store epoch info share seed h same = subst (λ (e : ℕ). StoresBoth e share seed (set_up_by s.Uncommitted e info share seed h)) same (stores_both info share seed h)

-- A SETUP

module _ {Dir : Type 0} (c : Fixed Dir) (form : IsForm c) (standing : s.Standing) (info : EpochInfo Dir) (st : Live Dir)
    (awaited : st.participation.epoch ≡ epoch_of c.blocks_per_epoch (awaited_height st)) (empty : IsEmptied st.inclusion) where
  abbrev at_epoch : ℕ
  at_epoch = st.participation.epoch

  module _ (share : Option ℕ) (seed : List ℕ) (devices : Option Held) where
    abbrev Stop : Fault → Type 0
    Stop fault = IsSetupFault c at_epoch info share seed st fault

    abbrev Seated : Live Dir → Option Held → Type 0
    Seated end held = (IsSeated c standing info share seed (unasked st) (unasked end) × (end.inclusion ≡ st.inclusion)) × (held ≡ devices)

    abbrev left : Live Dir
    left = ready c standing info share st

    module _ (same : info.epoch ≡ at_epoch) (valid : validity c info ≡ Ok tt) where
      module _ (round : Round) (made : round_for c at_epoch info ≡ Ok round) where
        number : round.number ≡ at_epoch
        number = form.ceremony.round_has c.namespace at_epoch (Some info.output) c.mode c.reveal info.output.players info.players round made

        within : at_epoch - 1 ≤ round.number
        within = omega (arith, number)

        dealings_are : records_of_epoch round.number left.records.dealings ≡ records_of_epoch round.number st.records.dealings
        dealings_are = ap (map (λ (r : Pair). (r.0.1, r.1))) (all_kept (at_epoch - 1) round.number within st.records.dealings)

        logs_are : logs_of left round.number ≡ logs_of st round.number
        logs_are = ap (λ (rs : List ((ℕ × ℕ) × RecordedLog)). bare_logs (map (λ (r : (ℕ × ℕ) × RecordedLog). (r.0.1, r.1)) rs)) (all_kept (at_epoch - 1) round.number within st.records.logs)

        refused_is : s.refused_in c round left ≡ s.refused_in c round st
        refused_is = ap (first_refused (λ dealer. c.rules.dealing_of round c.me dealer)) (all_kept (at_epoch - 1) round.number within st.records.dealings)

        seat_is : seat_in c round left ≡ seat_in c round st
        seat_is =
            ap (λ (ds : List (ℕ × (List ℕ × ℕ))). if not (has round.players c.me) || s.is_lost c round ds (logs_of left round.number) then Watches else Plays) dealings_are
            ∙ ap (λ (ls : LogMap). if not (has round.players c.me) || s.is_lost c round (records_of_epoch round.number st.records.dealings) ls then Watches else Plays) logs_are

        may_is : s.may_deal c round share left ≡ s.may_deal c round share st
        may_is = ap (λ (ls : LogMap). has round.dealers c.me && (is_some share || is_none round.previous) && is_none (lookup c.me ls)) logs_are

        -- the dealer that a life of this phase begins with is the one that share and seed make
        abbrev HasDealer : Phase → Option Dealer → Type 0
        HasDealer phase dealer =
            (phase ≡ phase_of c (awaited_height st)) × IsDealable c round share seed left × (signed_in c round phase dealer ≡ dealer_in c round share seed phase left)
            × ((d : Dealer) → signed_in c round phase dealer ≡ Some d → IsMine c round (stage_in phase) d)

        abbrev inclusion_in : Phase → Inclusion Dir
        inclusion_in Early = st.inclusion
        inclusion_in Midpoint = record st.inclusion { served = None }
        inclusion_in Late = record st.inclusion { served = None }

        inclusion_is : (phase : Phase) → inclusion_in phase ≡ st.inclusion
        inclusion_is Early = refl
        inclusion_is Midpoint = ap (λ (served : Option ℕ). record st.inclusion { served = served }) (sym empty.served)
        inclusion_is Late = ap (λ (served : Option ℕ). record st.inclusion { served = served }) (sym empty.served)

        abbrev end_in : Phase → Option Dealer → Seat → Live Dir
        end_in phase dealer seat = record left {
          participation = record left.participation { stage = stage_in phase; round = Some round; dealer = signed_in c round phase dealer; seat = seat };
          inclusion = inclusion_in phase;
        }

        seated : (phase : Phase) (dealer : Option Dealer) (seat : Seat) → HasDealer phase dealer → seat ≡ seat_in c round left → (seat ≡ Plays → s.refused_in c round left ≡ None)
            → IsSeated c standing info share seed (unasked st) (unasked (end_in phase dealer seat))
        seated phase dealer seat its at_seat passes = record {
          of_epoch = same;
          valid = valid;
          round = round;
          drawn = made;
          in_round = refl;
          dealable = its.1;
          dealer = its.2 ∙ ap (λ (p : Phase). dealer_in c round share seed p left) its.0;
          seat = at_seat;
          passes = passes;
          current = refl;
          tip = refl;
          records = refl;
          orchestrator = refl;
          probe = refl;
          live = record {
            awaits = λ apart. awaited;
            in_round = λ other e. ap stage_in its.0;
            without = λ e. absurd (none_apart round (sym e));
            mine = λ d e. (round, refl, its.3 d e);
            numbered = λ other e. ap (λ (r : Round). r.number) (sym (same_some round other e)) ∙ number;
            idle = refl;
          };
        }

        takes : (phase : Phase) (dealer : Option Dealer) (seat : Seat) → HasDealer phase dealer → seat ≡ seat_in c round left → (seat ≡ Plays → s.refused_in c round left ≡ None)
            → ComesOver Stop Seated (s.takes_part c round phase dealer seat left) devices
        takes Early dealer seat its at_seat passes = ((seated Early dealer seat its at_seat passes, inclusion_is Early), refl)
        takes Midpoint dealer seat its at_seat passes = ((seated Midpoint dealer seat its at_seat passes, inclusion_is Midpoint), refl)
        takes Late dealer seat its at_seat passes = ((seated Late dealer seat its at_seat passes, inclusion_is Late), refl)

        abbrev stands_aside : Bool
        stands_aside = not (has round.players c.me) || s.is_lost c round (records_of_epoch round.number left.records.dealings) (logs_of left round.number)

        sits : (phase : Phase) (dealer : Option Dealer) (refused : Option ℕ) → HasDealer phase dealer → s.refused_in c round left ≡ refused → stands_aside ≡ false
            → ComesOver Stop Seated (s.sits_down c round phase dealer refused left) devices
        sits phase dealer (Some who) its refused aside = (
          number,
          (
            same,
            valid,
            (
              round,
              made,
              (λ may e gives. its.1 (may_is ∙ may) e gives, sym seat_is ∙ ap (λ (t : Bool). if t then Watches else Plays) aside, sym refused_is ∙ refused),
            ),
          ),
        )
        sits phase dealer None its refused aside = takes phase dealer Plays its (sym (ap (λ (t : Bool). if t then Watches else Plays) aside)) (λ plays. refused)

        player : (phase : Phase) (dealer : Option Dealer) → HasDealer phase dealer → ComesOver Stop Seated (s.makes_player c round phase dealer left) devices
        player phase dealer its =
            over_if Stop Seated devices stands_aside (s.takes_part c round phase dealer Watches left) (s.sits_down c round phase dealer (s.refused_in c round left) left)
            (λ e. takes phase dealer Watches its (sym (ap (λ (t : Bool). if t then Watches else Plays) e)) (λ plays. absurd (watches_apart plays)))
            (λ e. sits phase dealer (s.refused_in c round left) its refl e)

        -- no dealer
        nothing_signed : (phase : Phase) → signed_in c round phase None ≡ None
        nothing_signed Early = refl
        nothing_signed Midpoint = refl
        nothing_signed Late = refl

        undealt : (phase : Phase) → phase ≡ phase_of c (awaited_height st) → s.may_deal c round share left ≡ false → HasDealer phase None
        undealt phase is_phase never = (
          is_phase,
          λ may e gives. bool_apart (s.may_deal c round share left) may never,
          nothing_signed phase ∙ sym (ap (λ (t : Bool). if t then dealer_by c round phase left (c.rules.deal_of round c.me share seed) else None) never),
          λ d e. absurd (none_apart d (sym (nothing_signed phase) ∙ e)),
        )

        -- a dealer that was made
        module _ (may : s.may_deal c round share left ≡ true) (dealt : List ℕ × List (ℕ × ℕ)) (gives : c.rules.deal_of round c.me share seed ≡ Ok dealt) where
          abbrev dealing : Dealer
          dealing = s.dealer_from c round left dealt

          mine : (stage : Stage) (d : Dealer) → d.public ≡ dealt.0 → d.privates ≡ dealt.1 → d.acks ≡ dealing.acks → (stage ≡ Deals → d.log ≡ None) → IsMine c round stage d
          mine stage d is_public are_privates are_acks unsigned = record {
            member = first_of_three (has round.dealers c.me) (is_some share || is_none round.previous) (is_none (lookup c.me (logs_of left round.number))) may;
            share = share;
            seed = seed;
            dealt = gives ∙ ap (λ (public : List ℕ). both_halves public dealt.1) (sym is_public) ∙ ap (both_halves d.public) (sym are_privates);
            passed = subst (λ (acks : List (ℕ × List ℕ)). AllByRecursion (λ (a : ℕ × List ℕ). c.rules.check_ack_of round c.me d.public a.0 a.1 ≡ Ok tt) acks) (sym are_acks)
                (subst (λ (p : List ℕ). AllByRecursion (λ (a : ℕ × List ℕ). c.rules.check_ack_of round c.me p a.0 a.1 ≡ Ok tt) dealing.acks) (sym is_public)
                (all_pass (c.rules.check_ack_of round c.me dealt.0) (records_of_epoch round.number left.records.acks)));
            unsigned = unsigned;
          }

          -- .. is there while it has a quorum
          signed_mine : (kept : Bool) (d : Dealer) → option_map (s.signed c round) (if kept then Some dealing else None) ≡ Some d → IsMine c round Includes d
          signed_mine true d e = subst (IsMine c round Includes) (same_some (s.signed c round dealing) d e) (mine Includes (s.signed c round dealing) refl refl refl (λ deals. absurd (includes_apart deals)))
          signed_mine false d e = absurd (none_apart d e)

          is_mine : (phase : Phase) (d : Dealer) → signed_in c round phase (s.dealer_for phase round dealing) ≡ Some d → IsMine c round (stage_in phase) d
          is_mine Early d e = subst (IsMine c round Deals) (same_some dealing d e) (mine Deals dealing refl refl refl (λ deals. refl))
          is_mine Midpoint d e = signed_mine (s.has_quorum round dealing) d e
          is_mine Late d e = signed_mine (s.has_quorum round dealing) d e

          made_dealer : (phase : Phase) → phase ≡ phase_of c (awaited_height st) → HasDealer phase (s.dealer_for phase round dealing)
          made_dealer phase is_phase = (
            is_phase,
            λ is e refuses. refused_apart dealt e (sym gives ∙ refuses),
            sym (ap (λ (t : Bool). if t then dealer_by c round phase left (c.rules.deal_of round c.me share seed) else None) may ∙ ap (dealer_by c round phase left) gives),
            is_mine phase,
          )

        deals : (phase : Phase) → phase ≡ phase_of c (awaited_height st) → s.may_deal c round share left ≡ true → (dealt : Result (List ℕ × List (ℕ × ℕ)) DealError) → c.rules.deal_of round c.me share seed ≡ dealt
            → ComesOver Stop Seated (s.dealt_by c round phase left dealt) devices
        deals phase is_phase may (Ok dealt) gives = player phase (s.dealer_for phase round (s.dealer_from c round left dealt)) (made_dealer may dealt gives phase is_phase)
        deals phase is_phase may (Err e) gives = (number, (same, valid, (round, made, (sym may_is ∙ may, (e, gives)))))

      rounds : (phase : Phase) (drawn : Result Round RoundError) → phase ≡ phase_of c (awaited_height st) → round_for c at_epoch info ≡ drawn → ComesOver Stop Seated (s.in_round c phase share seed left drawn) devices
      rounds phase (Err e) is_phase made = (same, valid, made)
      rounds phase (Ok round) is_phase made =
          over_if Stop Seated devices (s.may_deal c round share left) (s.dealt_by c round phase left (c.rules.deal_of round c.me share seed)) (s.makes_player c round phase None left)
          (λ e. deals round made phase is_phase e (c.rules.deal_of round c.me share seed) refl) (λ e. player round made phase None (undealt round made phase is_phase e))

  module _ (devices : Option Held) where
    abbrev Stops_by : Fault → Type 0
    Stops_by fault = (h : Held) × FindsHeld devices h × IsSetupFault c at_epoch info (share_read c info h) (seed_read c info h) st fault

    abbrev Goes_to : Live Dir → Option Held → Type 0
    Goes_to end left =
        (h : Held) × FindsHeld devices h × IsSeated c standing info (share_read c info h) (seed_read c info h) (unasked st) (unasked end) × (end.inclusion ≡ st.inclusion)
        × (left ≡ option_map (set_up_by standing at_epoch info (share_read c info h) (seed_read c info h)) devices)

    shared : (h : Held) → FindsHeld devices h → info.epoch ≡ at_epoch → validity c info ≡ Ok tt → ComesOver Stops_by Goes_to (s.with_share_and_seed c None standing info (share_read c info h) (seed_read c info h) st) devices
    shared h found same valid =
        let share : Option ℕ = share_read c info h in
        let seed : List ℕ = seed_read c info h in
        over_as (IsSetupFault c at_epoch info share seed st) Stops_by
        (λ end left. (IsSeated c standing info share seed (unasked st) (unasked end) × (end.inclusion ≡ st.inclusion)) × (left ≡ option_map (set_up_by standing at_epoch info share seed) devices)) Goes_to
        (s.with_share_and_seed c None standing info share seed st) devices (λ fault stop. (h, found, stop)) (λ end left is. (h, found, is.0.0, is.0.1, is.1))
        (behind_commit c (IsSetupFault c at_epoch info share seed st) (λ end. IsSeated c standing info share seed (unasked st) (unasked end) × (end.inclusion ≡ st.inclusion)) standing info share seed st
        (λ behind. rounds share seed behind same valid (phase_of c (awaited_height st)) (round_for c at_epoch info) refl refl) devices)

    judged : (valid : Result (Unit {0}) ParticipantsError) → info.epoch ≡ at_epoch → validity c info ≡ valid → ComesOver Stops_by Goes_to (s.info_judged c None standing info st valid) devices
    judged (Err e) same valid = let known = some_found devices in (known.0, known.1, (same, valid))
    judged (Ok passed) same valid =
        over_asks Stops_by Goes_to devices (λ h. s.with_share_and_seed c None standing info (share_read c info h) (seed_read c info h) st) (λ h found. shared h found same valid)

    by_info : ComesOver Stops_by Goes_to (s.with_info c None standing info st) devices
    by_info =
        over_if Stops_by Goes_to devices (info.epoch == at_epoch) (s.info_judged c None standing info st (validity c info)) (Stops (WrongEpoch at_epoch info.epoch))
        (λ e. judged (validity c info) (same_number info.epoch at_epoch e) refl)
        (λ e. let known = some_found devices in (known.0, known.1, (refl, refl, other_number info.epoch at_epoch e)))

pub setups_come_through : {Dir : Type 0} → SetupsComeThrough Dir
setups_come_through c standing info st devices form awaited empty = by_info c form standing info st awaited empty devices

-- .. of a life that never had a request
nothing_asked : {Dir : Type 0} → IsEmptied {Dir = Dir} no_inclusion
nothing_asked = record { served = refl; queue = refl; running = refl; waiter = refl; retained = refl; cached = refl }

module _ {Dir : Type 0} (c : Fixed Dir) (standing : s.Standing) (info : EpochInfo Dir) (st : Live Dir) (idle : st.inclusion ≡ no_inclusion) where
  seated_idle : (share : Option ℕ) (seed : List ℕ) (end : Live Dir) → IsSeated c standing info share seed (unasked st) (unasked end) → end.inclusion ≡ st.inclusion → IsSeated c standing info share seed st end
  seated_idle share seed end its same =
      subst (λ (i : Inclusion Dir). IsSeated c standing info share seed st (with_inclusion i end)) (sym (same ∙ idle))
      (subst (λ (i : Inclusion Dir). IsSeated c standing info share seed (with_inclusion i st) (unasked end)) (sym idle) its)

pub setups_come_to : {Dir : Type 0} → SetupsComeTo Dir
setups_come_to c standing info st devices form awaited idle =
    let empty = subst IsEmptied (sym idle) nothing_asked in
    over_as (Stops_by c form standing info st awaited empty devices) (Stops_by c form standing info st awaited empty devices) (Goes_to c form standing info st awaited empty devices)
    (λ end left. (h : Held) × FindsHeld devices h × IsSeated c standing info (share_read c info h) (seed_read c info h) st end
    × (left ≡ option_map (set_up_by standing st.participation.epoch info (share_read c info h) (seed_read c info h)) devices)) (s.with_info c None standing info st) devices (λ fault stop. stop)
    (λ end left its. (its.0, its.1, seated_idle c standing info st idle (share_read c info its.0) (seed_read c info its.0) end its.2 its.3, its.4))
    (by_info c form standing info st awaited empty devices)
