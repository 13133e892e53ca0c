-- No request of a life is lost in a step: one that waits before it waits on, or is answered, and not both; and no other one is answered.
use Rattle.std.proofs.Common.{◌≡◌, ◌⊎◌, inl, inr, ℕ, zero, suc, ◌+◌, ◌==◌, ◌++◌, List, [], ◌∷◌, Option, Some, None, Bool, true, false, arith, refl, sym, ◌∙◌, ap, subst, length, append_assoc, append-nil}
use Rattle.std.specs.Prelude.{⊤, ◌^◌, ◌&&◌, filter, is_none, is_some, map, not, nat_le, nat_lt, IfSome, if◌then◌else◌, option_map, option_and_then}
use Rattle.std.specs.List.{AllByRecursion}
use Rattle.std.specs.Option.{option_map_or}
use Rattle.std.proofs.lemmas.Bool.Decides.{nat_tests}
use Rattle.dkg_values.specs.Rising.{lookup}
use Rattle.dkg_ceremony.specs.Outcomes.{LogMap}
use Rattle.dkg_ceremony.specs.Schedule.{midpoint}
use Rattle.dkg_ceremony.specs.declared.round.RoundParts.{RoundParts as Round}
use Rattle.dkg_ceremony.specs.declared.signed_log.SignedDealerLog.{SignedDealerLog}
use Rattle.dkg_types.specs.Blocks.{Block}
use Rattle.dkg_infos.specs.NextInfos.{info_by}
use Rattle.dkg_types.specs.PayloadCodes.{its_log}
use Rattle.dkg_infos.specs.declared.directory.Unit as directory
use Rattle.dkg_types.specs.BlockCodes.{info_of}
use Rattle.dkg_infos.specs.declared.entry.AnswerLine.{AnswerLine}
use Rattle.dkg_infos.specs.declared.entry.AnswerLine.TheVariants.{Unavailable}
use Rattle.dkg_infos.specs.declared.entry.Entry.{Entry}
use Rattle.dkg_infos.specs.declared.entry.Entry.TheVariants.{Acked, Answer, Committed, Log, Registered}
use Rattle.dkg_infos.specs.declared.entry.Why.TheVariants.{Finished}
use Rattle.dkg_infos.specs.declared.fault.Fault.{Fault}
use Rattle.dkg_infos.specs.declared.fault.Fault.TheVariants.{DirectoryMismatch, HeightRange, InvalidParticipants, LocalState, MissingEpochInfo, WrongEpoch}
use Rattle.dkg_infos.specs.declared.fault.LocalCause.TheVariants.{OutcomeOmitted}
use Rattle.dkg_infos.specs.declared.fault.ParticipantsCause.TheVariants.{ProviderEmpty, ProviderAbove}
use Rattle.dkg_infos.specs.declared.info.EpochInfo.{EpochInfo}
use Rattle.dkg_core.specs.Behind.{event_of}
use Rattle.dkg_core.specs.Blocks as b
use Rattle.dkg_core.specs.Core.{step}
use Rattle.dkg_core.specs.Courses.{Course, Say, Do, CallOutside, Ask, Goes, Stops, bind, on_devices, under}
use Rattle.dkg_core.specs.Dealing as d
use Rattle.dkg_core.specs.Endings.{ComesTo}
use Rattle.dkg_core.specs.Entering as half
use Rattle.dkg_core.specs.Entering.{takes_delivered}
use Rattle.dkg_core.specs.Fixed.{Fixed, OneShot, has}
use Rattle.dkg_core.specs.Forms.{Applied, Judged, Passed, judged_block}
use Rattle.dkg_core.specs.Including as i
use Rattle.dkg_core.specs.Including.{Fed, Need, Found, Lacks, can_finish, cached_for, is_need, job_for, read_of, job_result_of, retained_for, retains}
use Rattle.dkg_core.specs.Laws.{IsAmong}
use Rattle.dkg_core.specs.Live.{Artifact, Cancel, Deals, Ends, EpochInfoOf, Faulted, Feed, Finalized, Follows, GaveNone, Inclusion, Includes, Job, Live, Mail, Message, NextLog, NodeStop, Over, Peer, ReleaseLog, Request, Mailed, Stage, VerifiedLogs, Verified, Work, is_last_height, recorded_at, with_inclusion, with_participation, with_queue, with_tip, with_told, with_used}
use Rattle.dkg_core.specs.Logs.{canonical, filled_by, is_accepted, carried_log_event}
use Rattle.dkg_core.specs.Node.{node_step, unless_once}
use Rattle.dkg_laws.specs.NodeSaying.{IsHalfLine}
use Rattle.dkg_core.specs.Said.{Said, SaysAll}
use Rattle.dkg_core.specs.SayingThrough.{IsUnasked, SaysSo}
use Rattle.dkg_core.specs.Setup as s
use Rattle.dkg_core.specs.Stepping.{IsDealingStop, given_itself}
use Rattle.dkg_core.specs.Through.{cancelled, waits_for}
use Rattle.dkg_store.specs.Acts.{Held, went}
use Rattle.dkg_core.proofs.Applied.{judged_is}
use Rattle.dkg_core.proofs.SayingThrough.{deals_so, so_if}
use Rattle.dkg_core.proofs.StepDealing as dealing
use Rattle.dkg_lives.proofs.Apart.{AreApart, IsApart, IsReadAt, LacksNumber, Reads, apart_as, apart_kept, as_apart, behind_block, behind_mail, if_some, lacks_as, lacks_kept, observes_to}
use Rattle.dkg_lives.proofs.Unanswered.{IsUnanswered, again, behind_block as block_says}

abbrev U : Type 0
U = directory.Unit

same_number : (a b : ℕ) → (a == b) ≡ true → a ≡ b
same_number a b e = grind (arith, nat_tests)

same_some : {A : Type 0} {x y : A} → ◌≡◌ {A = Option A} (Some x) (Some y) → x ≡ y
same_some e = cc

none_some : {A : Type 0} {x : A} → ◌≡◌ {A = Option A} None (Some x) → ⊥
none_some e = cc

number_of : {a b : ℕ} {x y : AnswerLine} → ◌≡◌ {A = Entry} (Answer a x) (Answer b y) → a ≡ b
number_of e = cc

-- LISTS

pub among_left : {A : Type 0} (x : A) (xs ys : List A) → IsAmong x xs → IsAmong x (xs ++ ys)
among_left x [] ys among = absurd among
among_left x (y ∷ xs) ys (inl is) = inl is
among_left x (y ∷ xs) ys (inr among) = inr (among_left x xs ys among)

pub among_last : {A : Type 0} (x : A) (xs : List A) → IsAmong x (xs ++ x ∷ [])
among_last x [] = inl refl
among_last x (y ∷ xs) = inr (among_last x xs)

pub among_both : {A : Type 0} (x : A) (xs ys : List A) → IsAmong x (xs ++ ys) → IsAmong x xs ⊎ IsAmong x ys
among_both x [] ys among = inr among
among_both x (y ∷ xs) ys (inl is) = inl (inl is)
among_both x (y ∷ xs) ys (inr among) = of_both (among_both x xs ys among)
  where
    of_both : IsAmong x xs ⊎ IsAmong x ys → IsAmong x (y ∷ xs) ⊎ IsAmong x ys
    of_both (inl left) = inl (inr left)
    of_both (inr right) = inr right

all_of : {A : Type 0} (P : A → Type 0) (xs : List A) (x : A) → IsAmong x xs → AllByRecursion P xs → P x
all_of P [] x among all = absurd among
all_of P (y ∷ xs) x (inl is) all = subst P is all.0
all_of P (y ∷ xs) x (inr among) all = all_of P xs x among all.1

all_and_one : {A : Type 0} (P : A → Type 0) (xs : List A) (x : A) → AllByRecursion P xs → P x → AllByRecursion P (xs ++ x ∷ [])
all_and_one P [] x all one = (one, tt)
all_and_one P (y ∷ xs) x all one = (all.0, all_and_one P xs x all.1 one)

all_front : {A : Type 0} (P : A → Type 0) (xs ys : List A) → AllByRecursion P (xs ++ ys) → AllByRecursion P xs
all_front P [] ys all = tt
all_front P (x ∷ xs) ys all = (all.0, all_front P xs ys all.1)

pub among_mapped : {A B : Type 0} (f : A → B) (xs : List A) (x : A) → IsAmong x xs → IsAmong (f x) (map f xs)
among_mapped f [] x among = absurd among
among_mapped f (y ∷ xs) x (inl is) = inl (ap f is)
among_mapped f (y ∷ xs) x (inr among) = inr (among_mapped f xs x among)

among_map : {A B : Type 0} (f : A → B) (xs : List A) (y : B) → IsAmong y (map f xs) → (x : A) × IsAmong x xs × (f x ≡ y)
among_map f [] y among = absurd among
among_map f (x ∷ xs) y (inl is) = (x, inl refl, is)
among_map f (x ∷ xs) y (inr among) = let it = among_map f xs y among in (it.0, inr it.1, it.2)

-- the last of some that are apart has none of the others' numbers
module _ (last : Request U) where
  apart_front : (rs : List (Request U)) → AreApart (rs ++ last ∷ []) → AreApart rs
  apart_front [] apart = tt
  apart_front (r ∷ rs) apart = (all_front (λ (x : Request U). x.number ≡ r.number → ⊥) rs (last ∷ []) apart.0, apart_front rs apart.1)

  last_other : (rs : List (Request U)) (r : Request U) → IsAmong r rs → AreApart (rs ++ last ∷ []) → last.number ≡ r.number → ⊥
  last_other [] r among apart same = among
  last_other (x ∷ rs) r (inl is) apart same = all_of (λ (y : Request U). y.number ≡ x.number → ⊥) (rs ++ last ∷ []) last (among_last last rs) apart.0 (same ∙ ap (λ (y : Request U). y.number) (sym is))
  last_other (x ∷ rs) r (inr among) apart same = last_other rs r among apart.1 same

-- WHERE COURSES COME TO, with what they said by then

abbrev Accounts : {F S : Type 0} → (List Entry → S → Type 0) → List Entry → Course U F S → Type 0
Accounts P said (Say line course) = Accounts P (said ++ line ∷ []) course
Accounts P said (Do op course) = Accounts P said course
Accounts P said (CallOutside outer course) = Accounts P said course
Accounts P said (Ask f) = (h : Held) → Accounts P said (f h)
Accounts P said (Goes end) = P said end
Accounts P said (Stops fault) = ⊤

acc_behind : {F S T : Type 0} (Q : List Entry → S → Type 0) (P : List Entry → T → Type 0) (course : Course U F S) (next : S → Course U F T) (said : List Entry) → Accounts Q said course
    → ((now : List Entry) (end : S) → Q now end → Accounts P now (next end)) → Accounts P said (bind course next)
acc_behind Q P (Say line course) next said acc more = acc_behind Q P course next (said ++ line ∷ []) acc more
acc_behind Q P (Do op course) next said acc more = acc_behind Q P course next said acc more
acc_behind Q P (CallOutside outer course) next said acc more = acc_behind Q P course next said acc more
acc_behind Q P (Ask f) next said acc more = λ h. acc_behind Q P (f h) next said (acc h) more
acc_behind Q P (Goes end) next said acc more = more said end acc
acc_behind Q P (Stops fault) next said acc more = tt

acc_under : {F G S : Type 0} (P : List Entry → S → Type 0) (name : F → G) (course : Course U F S) (said : List Entry) → Accounts P said course → Accounts P said (under name course)
acc_under P name (Say line course) said acc = acc_under P name course (said ++ line ∷ []) acc
acc_under P name (Do op course) said acc = acc_under P name course said acc
acc_under P name (CallOutside outer course) said acc = acc_under P name course said acc
acc_under P name (Ask f) said acc = λ h. acc_under P name (f h) said (acc h)
acc_under P name (Goes end) said acc = acc
acc_under P name (Stops fault) said acc = tt

acc_any : {F S : Type 0} (P : List Entry → S → Type 0) → ((said : List Entry) (end : S) → P said end) → (course : Course U F S) (said : List Entry) → Accounts P said course
acc_any P so (Say line course) said = acc_any P so course (said ++ line ∷ [])
acc_any P so (Do op course) said = acc_any P so course said
acc_any P so (CallOutside outer course) said = acc_any P so course said
acc_any P so (Ask f) said = λ h. acc_any P so (f h) said
acc_any P so (Goes end) said = so said end
acc_any P so (Stops fault) said = tt

acc_as : {F S : Type 0} (P Q : List Entry → S → Type 0) → ((said : List Entry) (end : S) → P said end → Q said end) → (course : Course U F S) (said : List Entry) → Accounts P said course → Accounts Q said course
acc_as P Q more (Say line course) said acc = acc_as P Q more course (said ++ line ∷ []) acc
acc_as P Q more (Do op course) said acc = acc_as P Q more course said acc
acc_as P Q more (CallOutside outer course) said acc = acc_as P Q more course said acc
acc_as P Q more (Ask f) said acc = λ h. acc_as P Q more (f h) said (acc h)
acc_as P Q more (Goes end) said acc = more said end acc
acc_as P Q more (Stops fault) said acc = tt

-- where it comes to in any case, with what all it says is, behind what was said before
acc_said : {F S : Type 0} (Q : Entry → Type 0) (stops : F → Type 0) (goes : S → Type 0) (P : List Entry → S → Type 0) (start : List Entry) → ((more : List Entry) (end : S) → goes end → AllByRecursion Q more → P (start ++ more) end)
    → (course : Course U F S) (more : List Entry) → AllByRecursion Q more → SaysSo Q course → ComesTo stops goes course → Accounts P (start ++ more) course
acc_said Q stops goes P start so (Say line course) more all says comes =
    subst (λ (said : List Entry). Accounts P said course) (sym (append_assoc start more (line ∷ []))) (acc_said Q stops goes P start so course (more ++ line ∷ []) (all_and_one Q more line all says.0) says.1 comes)
acc_said Q stops goes P start so (Do op course) more all says comes = acc_said Q stops goes P start so course more all says comes
acc_said Q stops goes P start so (CallOutside outer course) more all says comes = acc_said Q stops goes P start so course more all says comes
acc_said Q stops goes P start so (Ask f) more all says comes = λ h. acc_said Q stops goes P start so (f h) more all (says h) (comes h)
acc_said Q stops goes P start so (Goes end) more all says comes = so more end comes all
acc_said Q stops goes P start so (Stops fault) more all says comes = tt

acc_if : {F S : Type 0} (P : List Entry → S → Type 0) (said : List Entry) (t : Bool) (x y : Course U F S) → (t ≡ true → Accounts P said x) → (t ≡ false → Accounts P said y) → Accounts P said (if t then x else y)
acc_if P said true x y one other = one refl
acc_if P said false x y one other = other refl

acc_option : {A F S : Type 0} (P : List Entry → S → Type 0) (said : List Entry) (f : A → Course U F S) (o : Option A) (none : Course U F S) → ((a : A) → o ≡ Some a → Accounts P said (f a)) → Accounts P said none
    → Accounts P said (option_map_or f o none)
acc_option P said f None none some without = without
acc_option P said f (Some a) none some without = some a refl

-- at the end of all of it
acc_all : {F S : Type 0} (P : List Entry → S → Type 0) (course : Course U F S) (said lines : List Entry) (end : S) → Accounts P said course → SaysAll (on_devices course) end lines → P (said ++ lines) end
acc_all P (Say line course) said lines end acc by =
    subst (λ (xs : List Entry). P xs end) (append_assoc said (line ∷ []) by.0 ∙ ap (λ (xs : List Entry). said ++ xs) (sym by.1)) (acc_all P course (said ++ line ∷ []) by.0 end acc by.2)
acc_all P (Do op course) said lines end acc by = acc_all P course said lines end acc by
acc_all P (CallOutside outer course) said lines end acc by = acc_all P course said lines end acc by
acc_all P (Ask f) said lines end acc by = acc_all P (f by.0) said lines end (acc by.0) by.1
acc_all P (Goes its) said lines end acc by =
    subst (λ (x : _). P (said ++ lines) x) (sym by.1) (subst (λ (xs : List Entry). P xs its) (sym (append-nil said) ∙ ap (λ (xs : List Entry). said ++ xs) (sym by.0)) acc)
acc_all P (Stops fault) said lines end acc by = absurd by

-- A REQUEST

abbrev pub IsWaiting : ℕ → Inclusion U → Type 0
IsWaiting n its = ((r : Request U) × IsAmong r its.queue × (r.number ≡ n)) ⊎ (its.waiter ≡ Some n)

abbrev pub IsAnsweredIn : ℕ → List Entry → Type 0
IsAnsweredIn n lines = (answer : AnswerLine) × IsAmong (Answer n answer) lines

waiting_as : (n : ℕ) (its other : Inclusion U) → other.queue ≡ its.queue → other.waiter ≡ its.waiter → IsWaiting n its → IsWaiting n other
waiting_as n its other queue waiter (inl (r, among, is)) = inl (r, subst (IsAmong r) (sym queue) among, is)
waiting_as n its other queue waiter (inr waits) = inr (waiter ∙ waits)

pub none_in : (n : ℕ) (lines : List Entry) → AllByRecursion IsUnanswered lines → IsAnsweredIn n lines → ⊥
none_in n lines all (answer, among) = all_of IsUnanswered lines (Answer n answer) among all

-- .. of one line
the_answered : (n request : ℕ) (answer : AnswerLine) → IsAnsweredIn n (Answer request answer ∷ []) → request ≡ n
the_answered n request answer (other, inl same) = number_of same
the_answered n request answer (other, inr none) = absurd none

-- the life with what a mail says of its requests, but for the end of a verification
abbrev pub before_mail : Mail U → Live U → Live U
before_mail (EpochInfoOf request) st = i.queued request (with_used request st)
before_mail (Cancel request) st = cancelled request st
before_mail mail st = st

pub cancelled_apart : (request : ℕ) (st : Live U) → IsApart st.inclusion → IsApart (cancelled request st).inclusion
cancelled_apart request st apart = by_test (waits_for request st)
  where
    keep : Request U → Bool
    keep r = not (r.number == request)

    by_test : (t : Bool) → IsApart (if t then with_inclusion (record st.inclusion { waiter = None }) st else with_queue (filter (λ r. not (r.number == request)) st.inclusion.queue) st).inclusion
    by_test true = record { queue = apart.queue; waiter = tt }
    by_test false = record {
      queue = apart_kept keep st.inclusion.queue apart.queue;
      waiter = if_some (λ number. LacksNumber number st.inclusion.queue) (λ number. LacksNumber number (filter keep st.inclusion.queue)) st.inclusion.waiter (λ number lacks. lacks_kept keep number st.inclusion.queue lacks) apart.waiter;
    }

-- what was before a step
abbrev pub Before : Live U → Message U → Live U
Before st (Finalized block) = st
Before st (Mailed mail) = before_mail mail st

module _ (c : Fixed U) (reshare : c.oneshot ≡ None) (n : ℕ) (Was : Type 0) where
  -- Where it waited before it waits, or was answered, and not both; elsewhere neither. No two requests have one number; and where no verification runs none is waited for.
  pub record IsKept (said : List Entry) (st : Live U) : Type 0 where
    pub either : Was → IsWaiting n st.inclusion ⊎ IsAnsweredIn n said
    pub only : IsWaiting n st.inclusion ⊎ IsAnsweredIn n said → Was
    pub once : IsWaiting n st.inclusion → IsAnsweredIn n said → ⊥
    pub apart : IsApart st.inclusion
    pub waits : st.inclusion.running ≡ None → st.inclusion.waiter ≡ None

  abbrev To : List Entry → Course U Fault (Live U) → Type 0
  To said course = Accounts IsKept said course

  answered_on : (said more : List Entry) → IsAnsweredIn n said → IsAnsweredIn n (said ++ more)
  answered_on said more (answer, among) = (answer, among_left (Answer n answer) said more among)

  answered_parts : (said more : List Entry) → IsAnsweredIn n (said ++ more) → IsAnsweredIn n said ⊎ IsAnsweredIn n more
  answered_parts said more (answer, among) = of_both (among_both (Answer n answer) said more among)
    where
      of_both : IsAmong (Answer n answer) said ⊎ IsAmong (Answer n answer) more → IsAnsweredIn n said ⊎ IsAnsweredIn n more
      of_both (inl left) = inl (answer, left)
      of_both (inr right) = inr (answer, right)

  -- another life with the same requests, with more said that answers none
  kept_by : (said more : List Entry) → (IsAnsweredIn n more → ⊥) → (st other : Live U) → other.inclusion.queue ≡ st.inclusion.queue → other.inclusion.waiter ≡ st.inclusion.waiter
      → (other.inclusion.running ≡ None → other.inclusion.waiter ≡ None) → IsKept said st → IsKept (said ++ more) other
  kept_by said more none st other queue waiter idle kept = record {
    either = λ was. by_either (kept.either was);
    only = λ now. kept.only (by_only now);
    once = λ waits answered. kept.once (back waits) (was_said (answered_parts said more answered));
    apart = as_apart st.inclusion other.inclusion queue waiter kept.apart;
    waits = idle;
  }
    where
      back : IsWaiting n other.inclusion → IsWaiting n st.inclusion
      back = waiting_as n other.inclusion st.inclusion (sym queue) (sym waiter)

      was_said : IsAnsweredIn n said ⊎ IsAnsweredIn n more → IsAnsweredIn n said
      was_said (inl answered) = answered
      was_said (inr answered) = absurd (none answered)

      by_either : IsWaiting n st.inclusion ⊎ IsAnsweredIn n said → IsWaiting n other.inclusion ⊎ IsAnsweredIn n (said ++ more)
      by_either (inl waits) = inl (waiting_as n st.inclusion other.inclusion queue waiter waits)
      by_either (inr answered) = inr (answered_on said more answered)

      by_only : IsWaiting n other.inclusion ⊎ IsAnsweredIn n (said ++ more) → IsWaiting n st.inclusion ⊎ IsAnsweredIn n said
      by_only (inl waits) = inl (back waits)
      by_only (inr answered) = inr (was_said (answered_parts said more answered))

  pub kept_as : (said more : List Entry) → (IsAnsweredIn n more → ⊥) → (st other : Live U) → other.inclusion.queue ≡ st.inclusion.queue → other.inclusion.waiter ≡ st.inclusion.waiter → other.inclusion.running ≡ st.inclusion.running
      → IsKept said st → IsKept (said ++ more) other
  kept_as said more none st other queue waiter running kept = kept_by said more none st other queue waiter (λ idle. waiter ∙ kept.waits (sym running ∙ idle)) kept

  nothing : IsAnsweredIn n [] → ⊥
  nothing (answer, none) = none

  kept_same : (said : List Entry) (st other : Live U) → other.inclusion.queue ≡ st.inclusion.queue → other.inclusion.waiter ≡ st.inclusion.waiter → other.inclusion.running ≡ st.inclusion.running → IsKept said st → IsKept said other
  kept_same said st other queue waiter running kept = subst (λ (xs : List Entry). IsKept xs other) (append-nil said) (kept_as said [] nothing st other queue waiter running kept)

  -- THE ARTIFACT
  module _ (P : List Entry → Live U → Type 0) (said : List Entry) (r : VerifiedLogs) (st : Live U) (next : Artifact U → Live U → Course U Fault (Live U))
      (so : (made : Artifact U) (now : Live U) → now.inclusion.queue ≡ st.inclusion.queue → now.inclusion.waiter ≡ st.inclusion.waiter → now.inclusion.running ≡ st.inclusion.running → Accounts P said (next made now)) where
    with_directory : (made_info : EpochInfo U) (share : Option ℕ) → Accounts P said (i.with_directory c made_info (i.keeping_artifact r.logs next (record { info = Some made_info; share = share }) st))
    with_directory made_info share =
        acc_if P said (c.directories.matches made_info.directory (i.info_peers made_info)) (i.keeping_artifact r.logs next (record { info = Some made_info; share = share }) st) (Stops (DirectoryMismatch made_info.epoch))
        (λ e. so (record { info = Some made_info; share = share }) (i.with_cached r.logs (record { info = Some made_info; share = share }) st) refl refl refl) (λ e. tt)

    provided : (epoch : ℕ) (acts : Course U Fault (Live U)) → Accounts P said acts → Accounts P said (i.with_provided c epoch acts)
    provided epoch acts to =
        let count : ℕ = length (c.provided.participants epoch) in
        let above : Course U Fault (Live U) = if nat_lt c.limit count then Stops (InvalidParticipants (ProviderAbove count c.limit)) else acts in
        let some : Course U Fault (Live U) = if count == 0 then Stops (InvalidParticipants ProviderEmpty) else above in
        acc_if P said (nat_le (2 ^ 64) epoch) (Stops HeightRange) some (λ e. tt)
        (λ e. acc_if P said (count == 0) (Stops (InvalidParticipants ProviderEmpty)) above (λ e. tt)
        (λ e. acc_if P said (nat_lt c.limit count) (Stops (InvalidParticipants (ProviderAbove count c.limit))) acts (λ e. tt) (λ e. to)))

    shared : (info : EpochInfo U) (result : Option Verified) (f : Option ℕ → Course U Fault (Live U)) → ((share : Option ℕ) → Accounts P said (f share)) → Accounts P said (i.share_by c info result f)
    shared info (Some found) f to = to found.share
    shared info None f to = acc_if P said (has info.output.players c.me) (s.looks c (λ seen. f (lookup info.epoch seen.shares))) (f None) (λ e h. to (lookup info.epoch (c.seen h).shares)) (λ e. to None)

    derived : Accounts P said (i.derives c c.oneshot r st next)
    derived =
        subst (λ (o : Option (OneShot U)). Accounts P said (i.derives c o r st next)) (sym reshare)
        (acc_option P said (λ (info : EpochInfo U). i.derives_next c info r st (i.keeping_artifact r.logs next)) st.participation.current (Stops HeightRange)
        (λ info e. let made : EpochInfo U = info_by c.provided info (option_map (λ (found : Verified). found.output) r.result) in
        provided (info.epoch + 2) (i.share_by c info r.result (λ share. i.with_directory c made (i.keeping_artifact r.logs next (record { info = Some made; share = share }) st)))
        (shared info r.result (λ share. i.with_directory c made (i.keeping_artifact r.logs next (record { info = Some made; share = share }) st)) (λ share. with_directory made share))) tt)

    artifact_to : Accounts P said (i.artifact c r st next)
    artifact_to = by_cached (cached_for st.inclusion.cached r.logs)
      where
        by_cached : (cached : Option (Artifact U)) → Accounts P said (i.artifact_by c r cached st next)
        by_cached (Some made) = so made st refl refl refl
        by_cached None = derived

  -- READING ONE, that is taken out of the queue: it is the one that is read, or it waits behind it, or was answered
  record IsPending (request : ℕ) (said : List Entry) (st : Live U) : Type 0 where
    pub either : Was → (IsWaiting n st.inclusion ⊎ IsAnsweredIn n said) ⊎ (request ≡ n)
    pub only : IsWaiting n st.inclusion ⊎ IsAnsweredIn n said → Was
    pub itself : request ≡ n → Was
    pub once : IsWaiting n st.inclusion → IsAnsweredIn n said → ⊥
    pub alone : request ≡ n → IsWaiting n st.inclusion ⊎ IsAnsweredIn n said → ⊥
    pub apart : IsApart st.inclusion
    pub lacks : LacksNumber request st.inclusion.queue

  module _ (round : Round) (request : ℕ) (said : List Entry) (st : Live U) (idle : st.inclusion.running ≡ None) (waiter : st.inclusion.waiter ≡ None) (pending : IsPending request said st) where
    told : (answer : AnswerLine) (now : Live U) → now.inclusion.queue ≡ st.inclusion.queue → now.inclusion.waiter ≡ st.inclusion.waiter → now.inclusion.running ≡ st.inclusion.running → IsKept (said ++ Answer request answer ∷ []) now
    told answer now queue same running = record {
      either = λ was. by_either (pending.either was);
      only = by_only;
      once = λ waits answered. by_parts waits (answered_parts said (Answer request answer ∷ []) answered);
      apart = as_apart st.inclusion now.inclusion queue same pending.apart;
      waits = λ none. same ∙ waiter;
    }
      where
        back : IsWaiting n now.inclusion → IsWaiting n st.inclusion
        back = waiting_as n now.inclusion st.inclusion (sym queue) (sym same)

        by_either : (IsWaiting n st.inclusion ⊎ IsAnsweredIn n said) ⊎ (request ≡ n) → IsWaiting n now.inclusion ⊎ IsAnsweredIn n (said ++ Answer request answer ∷ [])
        by_either (inl (inl waits)) = inl (waiting_as n st.inclusion now.inclusion queue same waits)
        by_either (inl (inr answered)) = inr (answered_on said (Answer request answer ∷ []) answered)
        by_either (inr is) = inr (answer, subst (λ (k : ℕ). IsAmong (Answer k answer) (said ++ Answer request answer ∷ [])) is (among_last (Answer request answer) said))

        of_parts : IsAnsweredIn n said ⊎ IsAnsweredIn n (Answer request answer ∷ []) → Was
        of_parts (inl answered) = pending.only (inr answered)
        of_parts (inr answered) = pending.itself (the_answered n request answer answered)

        by_only : IsWaiting n now.inclusion ⊎ IsAnsweredIn n (said ++ Answer request answer ∷ []) → Was
        by_only (inl waits) = pending.only (inl (back waits))
        by_only (inr answered) = of_parts (answered_parts said (Answer request answer ∷ []) answered)

        by_parts : IsWaiting n now.inclusion → IsAnsweredIn n said ⊎ IsAnsweredIn n (Answer request answer ∷ []) → ⊥
        by_parts waits (inl answered) = pending.once (back waits) answered
        by_parts waits (inr answered) = pending.alone (the_answered n request answer answered) (inl (back waits))

    starts : (job : Job) (refused : Option ℕ) → To said (i.starts_unless job (Some request) refused st)
    starts job (Some who) = tt
    starts job None = record {
      either = λ was. by_either (pending.either was);
      only = by_only;
      once = by_once;
      apart = record { queue = pending.apart.queue; waiter = pending.lacks };
      waits = λ none. absurd (none_some (sym none));
    }
      where
        by_either : (IsWaiting n st.inclusion ⊎ IsAnsweredIn n said) ⊎ (request ≡ n) → IsWaiting n (i.verifying job (Some request) st).inclusion ⊎ IsAnsweredIn n said
        by_either (inl (inl (inl queued))) = inl (inl queued)
        by_either (inl (inl (inr waits))) = absurd (none_some (sym waiter ∙ waits))
        by_either (inl (inr answered)) = inr answered
        by_either (inr is) = inl (inr (ap (λ (k : ℕ). Some k) is))

        by_only : IsWaiting n (i.verifying job (Some request) st).inclusion ⊎ IsAnsweredIn n said → Was
        by_only (inl (inl queued)) = pending.only (inl (inl queued))
        by_only (inl (inr waits)) = pending.itself (same_some waits)
        by_only (inr answered) = pending.only (inr answered)

        by_once : IsWaiting n (i.verifying job (Some request) st).inclusion → IsAnsweredIn n said → ⊥
        by_once (inl queued) answered = pending.once (inl queued) answered
        by_once (inr waits) answered = pending.alone (same_some waits) (inr answered)

    asks_by : (logs : LogMap) (cached : Option (Artifact U)) (retained : Option VerifiedLogs) → To said (i.asks_for_by c round request logs cached retained st)
    asks_by logs (Some made) retained = told _ _ refl refl refl
    asks_by logs None (Some r) = artifact_to IsKept said r st (i.answers_request c request) (λ made now queue same running. told _ _ queue same running)
    asks_by logs None None = starts (job_for c round logs st) (if can_finish c round logs st then s.refused_in c round st else None)

    fed_to : (f : Fed) → is_need f ≡ false → To said (i.fed c round request st f)
    fed_to Need some = absurd (let no : ◌≡◌ {A = Bool} true false = some in cc)
    fed_to (Lacks reason) some = told _ _ refl refl refl
    fed_to (Found found) some =
        asks_by (filled_by (canonical c st) found) (cached_for st.inclusion.cached (filled_by (canonical c st) found)) (retained_for st.inclusion.retained (filled_by (canonical c st) found))

  advances_to : (most : ℕ) (said : List Entry) (st : Live U) → IsKept said st → To said (i.advances c most st)
  advances_to zero said st kept = kept
  advances_to (suc most) said st kept = acc_option IsKept said (λ (round : Round). i.reads_first c round (λ now. i.advances c most now) st) st.participation.round (Goes st)
      (λ round e. by_stage (λ now end its. advances_to most now end its) round st.participation.stage st.inclusion.running st.inclusion.queue refl refl) kept
    where
      next : Live U → Course U Fault (Live U)
      next now = i.advances c most now

      first : (r : Request U) (rs : List (Request U)) → st.inclusion.queue ≡ r ∷ rs → st.inclusion.waiter ≡ None → IsPending r.number said (with_queue rs st)
      first r rs queue none = record {
        either = λ was. by_either (kept.either was);
        only = λ so. kept.only (by_only so);
        itself = λ is. kept.only (inl (at_first is));
        once = λ waits answered. kept.once (behind waits) answered;
        alone = alone;
        apart = record { queue = all.1; waiter = subst (λ (o : Option ℕ). IfSome o (λ number. LacksNumber number rs)) (sym none) tt };
        lacks = all.0;
      }
        where
          all : AreApart (r ∷ rs)
          all = subst AreApart queue kept.apart.queue

          at_first : r.number ≡ n → IsWaiting n st.inclusion
          at_first is = inl (r, subst (IsAmong r) (sym queue) (inl refl), is)

          behind : IsWaiting n (with_queue rs st).inclusion → IsWaiting n st.inclusion
          behind (inl (x, among, is)) = inl (x, subst (IsAmong x) (sym queue) (inr among), is)
          behind (inr waits) = inr waits

          of_among : (x : Request U) → x.number ≡ n → IsAmong x (r ∷ rs) → (IsWaiting n (with_queue rs st).inclusion ⊎ IsAnsweredIn n said) ⊎ (r.number ≡ n)
          of_among x is (inl same) = inr (ap (λ (y : Request U). y.number) same ∙ is)
          of_among x is (inr rest) = inl (inl (inl (x, rest, is)))

          by_either : IsWaiting n st.inclusion ⊎ IsAnsweredIn n said → (IsWaiting n (with_queue rs st).inclusion ⊎ IsAnsweredIn n said) ⊎ (r.number ≡ n)
          by_either (inl (inl (x, among, is))) = of_among x is (subst (IsAmong x) queue among)
          by_either (inl (inr waits)) = inl (inl (inr waits))
          by_either (inr answered) = inl (inr answered)

          by_only : IsWaiting n (with_queue rs st).inclusion ⊎ IsAnsweredIn n said → IsWaiting n st.inclusion ⊎ IsAnsweredIn n said
          by_only (inl waits) = inl (behind waits)
          by_only (inr answered) = inr answered

          alone : r.number ≡ n → IsWaiting n (with_queue rs st).inclusion ⊎ IsAnsweredIn n said → ⊥
          alone same (inl (inl (x, among, is))) = all_of (λ (y : Request U). y.number ≡ r.number → ⊥) rs x among all.0 (is ∙ sym same)
          alone same (inl (inr waits)) = none_some (sym none ∙ waits)
          alone same (inr answered) = kept.once (at_first same) answered

      by_stage : ((now : List Entry) (end : Live U) → IsKept now end → To now (i.advances c most end)) → (round : Round) (stage : Stage) (running : Option Job) (queue : List (Request U)) → st.inclusion.running ≡ running
          → st.inclusion.queue ≡ queue → To said (i.reads_first_in c round next st stage running queue)
      by_stage again round Includes None (r ∷ rs) idle queue =
          acc_if IsKept said (is_need (read_of c round st r)) (Goes st) (bind (i.fed c round r.number (with_queue rs st) (read_of c round st r)) next) (λ e. kept)
          (λ e. acc_behind IsKept IsKept (i.fed c round r.number (with_queue rs st) (read_of c round st r)) next said
          (fed_to round r.number said (with_queue rs st) idle (kept.waits idle) (first r rs queue (kept.waits idle)) (read_of c round st r) e) again)
      by_stage again round Includes None [] idle queue = kept
      by_stage again round Includes (Some job) queue idle is = kept
      by_stage again round Deals running queue idle is = kept
      by_stage again round Follows running queue idle is = kept
      by_stage again round Ends running queue idle is = kept

  advanced_to : (said : List Entry) (st : Live U) → IsKept said st → To said (i.advanced c st)
  advanced_to said st kept = advances_to (length st.inclusion.queue) said st kept

  -- MAIL

  module _ (st : Live U) where
    unanswered : (request : ℕ) (payload : Option (List ℕ)) → IsAnsweredIn n (Log request payload ∷ []) → ⊥
    unanswered request payload (answer, inl same) = let no : ◌≡◌ {A = Entry} (Log request payload) (Answer n answer) = same in cc
    unanswered request payload (answer, inr none) = none

    log_given : (request height : ℕ) (found : Option SignedDealerLog) → IsKept [] st → To [] (i.gives_log c request height found (with_used request st))
    log_given request height None kept = kept_as [] (Log request None ∷ []) (unanswered request None) st _ refl refl refl kept
    log_given request height (Some log) kept = kept_as [] (Log request (Some _) ∷ []) (unanswered request (Some _)) st _ refl refl refl kept

    released : (height : ℕ) → IsKept [] st → IsKept [] (i.releases height st)
    released height kept = by_test (i.is_served_at height st)
      where
        by_test : (t : Bool) → IsKept [] (if t then with_inclusion (record st.inclusion { served = None }) st else st)
        by_test true = kept_same [] st (with_inclusion (record st.inclusion { served = None }) st) refl refl refl kept
        by_test false = kept

    told_none : (request : ℕ) (answer : AnswerLine) (now : Live U) → now.inclusion.queue ≡ st.inclusion.queue → now.inclusion.waiter ≡ st.inclusion.waiter → now.inclusion.running ≡ st.inclusion.running
        → IsKept [] (i.queued request (with_used request st)) → IsKept (Answer request answer ∷ []) now
    told_none request answer now queue waiter running kept = record {
      either = λ was. by_either (kept.either was);
      only = by_only;
      once = λ waits answered. once waits (the_answered n request answer answered);
      apart = as_apart st.inclusion now.inclusion queue waiter (record {
        queue = apart_front asked st.inclusion.queue kept.apart.queue;
        waiter = if_some (λ number. LacksNumber number (st.inclusion.queue ++ asked ∷ [])) (λ number. LacksNumber number st.inclusion.queue) st.inclusion.waiter
            (λ number lacks. all_front (λ (x : Request U). x.number ≡ number → ⊥) st.inclusion.queue (asked ∷ []) lacks) kept.apart.waiter;
      });
      waits = λ none. waiter ∙ kept.waits (sym running ∙ none);
    }
      where
        asked : Request U
        asked = record { number = request; blocks = []; ended = false }

        by_either : IsWaiting n (i.queued request (with_used request st)).inclusion ⊎ IsAnsweredIn n [] → IsWaiting n now.inclusion ⊎ IsAnsweredIn n (Answer request answer ∷ [])
        by_either (inr (none, among)) = absurd among
        by_either (inl (inr waits)) = inl (inr (waiter ∙ waits))
        by_either (inl (inl (r, among, is))) = of_both (among_both r st.inclusion.queue (record { number = request; blocks = []; ended = false } ∷ []) among)
          where
            of_both : IsAmong r st.inclusion.queue ⊎ IsAmong r (record { number = request; blocks = []; ended = false } ∷ []) → IsWaiting n now.inclusion ⊎ IsAnsweredIn n (Answer request answer ∷ [])
            of_both (inl left) = inl (inl (r, subst (IsAmong r) (sym queue) left, is))
            of_both (inr (inl same)) = inr (answer, inl (ap (λ (k : ℕ). Answer k answer) (ap (λ (x : Request U). x.number) same ∙ is)))
            of_both (inr (inr none)) = absurd none

        by_only : IsWaiting n now.inclusion ⊎ IsAnsweredIn n (Answer request answer ∷ []) → Was
        by_only (inl (inl (r, among, is))) = kept.only (inl (inl (r, among_left r st.inclusion.queue (asked ∷ []) (subst (IsAmong r) queue among), is)))
        by_only (inl (inr waits)) = kept.only (inl (inr (sym waiter ∙ waits)))
        by_only (inr answered) = kept.only (inl (inl (asked, among_last asked st.inclusion.queue, the_answered n request answer answered)))

        once : IsWaiting n now.inclusion → request ≡ n → ⊥
        once (inl (r, among, is)) same = last_other asked st.inclusion.queue r (subst (IsAmong r) queue among) kept.apart.queue (same ∙ sym is)
        once (inr waits) same =
            all_of (λ (x : Request U). x.number ≡ n → ⊥) (st.inclusion.queue ++ asked ∷ []) asked (among_last asked st.inclusion.queue)
            (subst (λ (o : Option ℕ). IfSome o (λ number. LacksNumber number (st.inclusion.queue ++ asked ∷ []))) (sym waiter ∙ waits) kept.apart.waiter) same

    asks_to : (request : ℕ) (stage : Stage) → IsKept [] (i.queued request (with_used request st)) → To [] (i.asks_in c request (with_used request st) stage)
    asks_to request Deals kept = kept
    asks_to request Includes kept = advanced_to [] (i.queued request (with_used request st)) kept
    asks_to request Follows kept = told_none request _ _ refl refl refl kept
    asks_to request Ends kept = told_none request _ _ refl refl refl kept

    changed_to : (request : ℕ) (f : Request U → Request U) → ((r : Request U) → (f r).number ≡ r.number) → IsKept [] st → To [] (i.advanced c (i.changed request f st))
    changed_to request f same kept = advanced_to [] (i.changed request f st) (record {
      either = λ was. by_either (kept.either was);
      only = λ now. kept.only (by_only now);
      once = λ waits answered. kept.once (back waits) answered;
      apart = record {
        queue = apart_as its its_same st.inclusion.queue kept.apart.queue;
        waiter = if_some (λ number. LacksNumber number st.inclusion.queue) (λ number. LacksNumber number (map its st.inclusion.queue)) st.inclusion.waiter (λ number lacks. lacks_as its its_same number st.inclusion.queue lacks) kept.apart.waiter;
      };
      waits = kept.waits;
    })
      where
        its : Request U → Request U
        its r = if r.number == request then f r else r

        its_same : (r : Request U) → (its r).number ≡ r.number
        its_same r = by_test (r.number == request)
          where
            by_test : (t : Bool) → (if t then f r else r).number ≡ r.number
            by_test true = same r
            by_test false = refl

        by_either : IsWaiting n st.inclusion ⊎ IsAnsweredIn n [] → IsWaiting n (i.changed request f st).inclusion ⊎ IsAnsweredIn n []
        by_either (inr answered) = inr answered
        by_either (inl (inr waits)) = inl (inr waits)
        by_either (inl (inl (r, among, is))) = inl (inl (its r, among_mapped its st.inclusion.queue r among, its_same r ∙ is))

        back : IsWaiting n (i.changed request f st).inclusion → IsWaiting n st.inclusion
        back (inl (r, among, is)) = let was = among_map its st.inclusion.queue r among in inl (was.0, was.1, sym (its_same was.0) ∙ ap (λ (x : Request U). x.number) was.2 ∙ is)
        back (inr waits) = inr waits

        by_only : IsWaiting n (i.changed request f st).inclusion ⊎ IsAnsweredIn n [] → IsWaiting n st.inclusion ⊎ IsAnsweredIn n []
        by_only (inl waits) = inl (back waits)
        by_only (inr answered) = inr answered

    cancels_to : (request : ℕ) → IsKept [] (cancelled request st) → To [] (i.cancels c request st)
    cancels_to request = by_test (waits_for request st)
      where
        by_test : (t : Bool) → IsKept [] (if t then with_inclusion (record st.inclusion { waiter = None }) st else with_queue (filter (λ r. not (r.number == request)) st.inclusion.queue) st)
            → To [] (if t then Goes (with_inclusion (record st.inclusion { waiter = None }) st) else i.advanced c (with_queue (filter (λ r. not (r.number == request)) st.inclusion.queue) st))
        by_test true kept = kept
        by_test false kept = advanced_to [] (with_queue (filter (λ r. not (r.number == request)) st.inclusion.queue) st) kept

    completes_to : (r : VerifiedLogs) (waiter : Option ℕ) → st.inclusion.waiter ≡ waiter → IsKept [] st → To [] (i.completes_in c r st waiter)
    completes_to r None none kept = kept_by [] [] nothing st (retains c r st) refl (sym none) (λ idle. refl) kept
    completes_to r (Some request) there kept =
        artifact_to IsKept [] r st (λ made now. bind (i.answers_request c request made now) (λ now. Goes (retains c r now))) (λ made now queue waiter running. ended _ _ queue refl)
      where
        ended : (answer : AnswerLine) (now : Live U) → now.inclusion.queue ≡ st.inclusion.queue → now.inclusion.waiter ≡ None → IsKept (Answer request answer ∷ []) now
        ended answer now queue none = record {
          either = λ was. by_either (kept.either was);
          only = by_only;
          once = λ waits answered. once waits (the_answered n request answer answered);
          apart = record { queue = subst AreApart (sym queue) kept.apart.queue; waiter = subst (λ (o : Option ℕ). IfSome o (λ number. LacksNumber number now.inclusion.queue)) (sym none) tt };
          waits = λ idle. none;
        }
          where
            by_either : IsWaiting n st.inclusion ⊎ IsAnsweredIn n [] → IsWaiting n now.inclusion ⊎ IsAnsweredIn n (Answer request answer ∷ [])
            by_either (inr (nothing, among)) = absurd among
            by_either (inl (inr waits)) = inr (answer, inl (ap (λ (k : ℕ). Answer k answer) (same_some (sym there ∙ waits))))
            by_either (inl (inl (r, among, is))) = inl (inl (r, subst (IsAmong r) (sym queue) among, is))

            by_only : IsWaiting n now.inclusion ⊎ IsAnsweredIn n (Answer request answer ∷ []) → Was
            by_only (inl (inl (r, among, is))) = kept.only (inl (inl (r, subst (IsAmong r) queue among, is)))
            by_only (inl (inr waits)) = absurd (none_some (sym none ∙ waits))
            by_only (inr answered) = kept.only (inl (inr (there ∙ ap (λ (k : ℕ). Some k) (the_answered n request answer answered))))

            once : IsWaiting n now.inclusion → request ≡ n → ⊥
            once (inl (r, among, is)) same =
                all_of (λ (x : Request U). x.number ≡ request → ⊥) st.inclusion.queue r (subst (IsAmong r) queue among)
                (subst (λ (o : Option ℕ). IfSome o (λ number. LacksNumber number st.inclusion.queue)) there kept.apart.waiter) (is ∙ sym same)
            once (inr waits) same = none_some (sym none ∙ waits)

    works_to : (handed : Option VerifiedLogs) → IsKept [] st → To [] (i.works c handed st)
    works_to handed kept =
        acc_if IsKept [] (is_some st.inclusion.running) (bind (i.ends_verifying c handed st) (λ now. i.advanced c now)) (Goes st)
        (λ e. acc_behind IsKept IsKept (i.ends_verifying c handed st) (λ now. i.advanced c now) [] (by_running st.inclusion.running) (λ now end its. advanced_to now end its)) (λ e. kept)
      where
        by_running : (running : Option Job) → To [] (i.ends_verifying_in c handed st running)
        by_running None = kept
        by_running (Some job) = completes_to (job_result_of c handed job) st.inclusion.waiter refl kept

    fed_same : (block : Block U) (r : Request U) → (if r.ended then r else record r { blocks = r.blocks ++ block ∷ [] }).number ≡ r.number
    fed_same block r = by_test r.ended
      where
        by_test : (t : Bool) → (if t then r else record r { blocks = r.blocks ++ block ∷ [] }).number ≡ r.number
        by_test true = refl
        by_test false = refl

    -- of any mail but a peer's
    mail_to : (mail : Mail U) → IsKept [] (before_mail mail st) → ((from : ℕ) (bytes : List ℕ) → mail ≡ Peer from bytes → ⊥) → To [] (step c (Mailed mail) st)
    mail_to (Peer from bytes) kept other = absurd (other from bytes refl)
    mail_to (NextLog request height) kept other = log_given request height (i.served_now (with_used request st)) kept
    mail_to (ReleaseLog height) kept other = released height kept
    mail_to (EpochInfoOf request) kept other = asks_to request st.participation.stage kept
    mail_to (Feed request block) kept other = changed_to request (λ r. if r.ended then r else record r { blocks = r.blocks ++ block ∷ [] }) (fed_same block) kept
    mail_to (Over request) kept other = changed_to request (λ r. record r { ended = true }) (λ r. refl) kept
    mail_to (Cancel request) kept other = cancels_to request kept
    mail_to (Work handed) kept other = works_to handed kept

  -- A BLOCK

  module _ (st : Live U) (apart : IsApart st.inclusion) (block : Block U) (kept : IsKept [] st) where
    abbrev Where : List Entry → Live U → Type 0
    Where said end = IsReadAt c reshare st apart block → IsKept said end

    abbrev IsSeen : List Entry → Live U → Type 0
    IsSeen said end = (end.inclusion ≡ st.inclusion) × (IsAnsweredIn n said → ⊥)

    wherever : (course : Course U Fault (Live U)) → (IsReadAt c reshare st apart block → ⊥) → Accounts Where [] course
    wherever course none = acc_any Where (λ said end read. absurd (none read)) course []

    in_any : (course : Course U Fault (Live U)) → To [] course → Accounts Where [] course
    in_any course to = acc_as IsKept Where (λ said end its read. its) course [] to

    deals_to : To [] (b.deals_at c block st)
    deals_to =
        let mid : Live U = given_itself c st in
        let next : Live U → Course U Fault (Live U) =
        λ now. if block.height + 1 == midpoint c.blocks_per_epoch now.participation.epoch then i.advanced c (s.begins_inclusion c (with_tip block now)) else Goes (with_tip block now) in
        acc_behind (λ said end. IsKept said mid × (end ≡ mid)) IsKept (d.deals c st) next []
        (acc_said IsUnanswered (IsDealingStop c st) (λ end. end ≡ mid) (λ said end. IsKept said mid × (end ≡ mid)) [] (λ more end same none. (given more none, same)) (d.deals c st) [] tt (deals_so c IsUnanswered plain st) (dealing.deals c st))
        (λ now end its. subst (λ (x : Live U). To now (next x)) (sym its.1)
        (acc_if IsKept now (block.height + 1 == midpoint c.blocks_per_epoch mid.participation.epoch) (i.advanced c (s.begins_inclusion c (with_tip block mid))) (Goes (with_tip block mid))
        (λ e. advanced_to now (s.begins_inclusion c (with_tip block mid)) (kept_same now mid (s.begins_inclusion c (with_tip block mid)) refl refl refl its.0)) (λ e. kept_same now mid (with_tip block mid) refl refl refl its.0)))
      where
        plain : (line : Entry) → IsUnasked line → IsUnanswered line
        plain (Answer number answer) is = absurd is
        plain line is = tt

        given : (more : List Entry) → AllByRecursion IsUnanswered more → IsKept more (given_itself c st)
        given more none =
            let same = (dealing.given_same c st).inclusion in
            kept_as [] more (none_in n more none) st (given_itself c st) (ap (λ (x : Inclusion U). x.queue) same) (ap (λ (x : Inclusion U). x.waiter) same) (ap (λ (x : Inclusion U). x.running) same) kept

    includes_to : (round : Round) → To [] (b.includes c round block st)
    includes_to round =
        acc_behind IsSeen IsKept (b.observes c round block st (option_and_then its_log block.payload)) (λ now. i.advanced c (with_tip block (b.unserved block.height now))) []
        (acc_said IsUnanswered (λ (fault : Fault). ⊤) (λ end. end.inclusion ≡ st.inclusion) IsSeen [] (λ more end same none. (same, none_in n more none)) (b.observes c round block st (option_and_then its_log block.payload)) [] tt
        (observes_say (option_and_then its_log block.payload)) (observes_to c reshare st apart block round (option_and_then its_log block.payload)))
        (λ now end its. advanced_to now (with_tip block (b.unserved block.height end))
        (kept_as [] now its.1 st (with_tip block (b.unserved block.height end)) (ap (λ (x : Inclusion U). x.queue) its.0) (ap (λ (x : Inclusion U). x.waiter) its.0) (ap (λ (x : Inclusion U). x.running) its.0) kept))
      where
        observes_say : (log : Option SignedDealerLog) → SaysSo IsUnanswered (b.observes c round block st log)
        observes_say None = tt
        observes_say (Some log) = by_tests (is_accepted c round log) (is_some (recorded_at st.records.logs round.number log.dealer))
          where
            by_tests : (accepted recorded : Bool) → SaysSo {Dir = U} IsUnanswered (if accepted then bind (if recorded then Goes st else d.appends round.number (carried_log_event log.dealer block.height log.log) (Goes (b.with_log_at round.number log.dealer block.height log.log st)))
                (λ now. Goes (b.without_own_log c log.dealer now)) else Goes st)
            by_tests true true = tt
            by_tests true false = tt
            by_tests false recorded = tt

    applies_to : (stage : Stage) → st.participation.stage ≡ stage → Accounts Where [] (b.applies_in c block st stage)
    applies_to Deals is = in_any (b.deals_at c block st) deals_to
    applies_to Includes is = by_round st.participation.round
      where
        by_round : (o : Option Round) → Accounts Where [] (option_map_or (λ round. if is_last_height c block.height then b.final_block c round block st else b.includes c round block st) o (Goes st))
        by_round None = λ read. kept
        by_round (Some round) =
            acc_if Where [] (is_last_height c block.height) (b.final_block c round block st) (b.includes c round block st)
            (λ e. wherever (b.final_block c round block st) (λ read. at_last e read.1)) (λ e. in_any (b.includes c round block st) (includes_to round))
          where
            at_last : is_last_height c block.height ≡ true → (st.participation.stage ≡ Deals) ⊎ ((st.participation.stage ≡ Includes) × (is_last_height c block.height ≡ false)) → ⊥
            at_last e (inl deals) = let no : ◌≡◌ {A = Stage} Includes Deals = sym is ∙ deals in cc
            at_last e (inr other) = let no : ◌≡◌ {A = Bool} true false = sym e ∙ other.1 in cc
    applies_to Follows is = wherever (b.follows_at c block st) (λ read. neither read.1)
      where
        neither : (st.participation.stage ≡ Deals) ⊎ ((st.participation.stage ≡ Includes) × (is_last_height c block.height ≡ false)) → ⊥
        neither (inl deals) = let no : ◌≡◌ {A = Stage} Follows Deals = sym is ∙ deals in cc
        neither (inr other) = let no : ◌≡◌ {A = Stage} Follows Includes = sym is ∙ other.0 in cc
    applies_to Ends is = λ read. kept

    block_to : Accounts Where [] (step c (Finalized block) st)
    block_to =
        judged_is c block st (λ course. Accounts Where [] course) (λ t x y one other. acc_if Where [] t x y one other) (λ fault is. tt) (λ is read. kept) (λ is. applies_to st.participation.stage refl) (λ is read. kept)

  -- A NODE'S STEP, where requests are read

  module _ (st : Live U) (apart : IsApart st.inclusion) where
    -- behind the reshare half
    module _ (P : Type 0) (now : List Entry) (mid : Live U) where
      behind_so : (course : Course U NodeStop (Live U)) → SaysSo IsUnanswered course → ComesTo (λ (stop : NodeStop). ⊤) (λ end. end.inclusion ≡ mid.inclusion) course → (P → IsKept now mid) → Accounts (λ said end. P → IsKept said end) now course
      behind_so course says comes kept =
          subst (λ (said : List Entry). Accounts (λ said end. P → IsKept said end) said course) (append-nil now)
          (acc_said IsUnanswered (λ (stop : NodeStop). ⊤) (λ end. end.inclusion ≡ mid.inclusion) (λ said end. P → IsKept said end) now
          (λ more end same none p. kept_as now more (none_in n more none) mid end (ap (λ (x : Inclusion U). x.queue) same) (ap (λ (x : Inclusion U). x.waiter) same) (ap (λ (x : Inclusion U). x.running) same) (kept p)) course [] tt says comes)

    half_line : (line : Entry) → IsHalfLine line → IsUnanswered line
    half_line (Answer number answer) is = absurd is
    half_line line is = tt

    mail_says : (now : Live U) → SaysSo IsUnanswered (unless_once c (half.asks_again c now) (Goes now))
    mail_says now = so_if IsUnanswered (is_some c.oneshot) (Goes now) (half.asks_again c now) (λ e. tt) (λ e. again c IsUnanswered half_line now)

    mail_kept : (mail : Mail U) → IsKept [] (before_mail mail st) → ((from : ℕ) (bytes : List ℕ) → mail ≡ Peer from bytes → ⊥) → Accounts (λ said end. Reads c reshare st apart (Mailed mail) → IsKept said end) [] (node_step c (event_of (Mailed mail)) st)
    mail_kept mail kept other =
        acc_behind IsKept (λ said end. Reads c reshare st apart (Mailed mail) → IsKept said end) (under Faulted (step c (Mailed mail) st)) (λ now. unless_once c (half.asks_again c now) (Goes now)) []
        (acc_under IsKept Faulted (step c (Mailed mail) st) [] (mail_to st mail kept other))
        (λ said now its. behind_so (Reads c reshare st apart (Mailed mail)) said now (unless_once c (half.asks_again c now) (Goes now)) (mail_says now) (behind_mail c reshare now.inclusion now refl) (λ reads. its))

    node_kept : (message : Message U) → IsKept [] (Before st message) → Accounts (λ said end. Reads c reshare st apart message → IsKept said end) [] (node_step c (event_of message) st)
    node_kept (Finalized block) kept =
        acc_behind (Where st apart block kept) (λ said end. Reads c reshare st apart (Finalized block) → IsKept said end) (under Faulted (step c (Finalized block) st))
        (λ now. unless_once c (bind (takes_delivered c block now) (λ left. half.acked_at block.height left.answer left.live)) (Say (Acked block.height) (Goes now))) []
        (acc_under (Where st apart block kept) Faulted (step c (Finalized block) st) [] (block_to st apart block kept))
        (λ said now its. behind_so (Reads c reshare st apart (Finalized block)) said now
        (unless_once c (bind (takes_delivered c block now) (λ left. half.acked_at block.height left.answer left.live)) (Say (Acked block.height) (Goes now))) (block_says c IsUnanswered half_line block now) (behind_block c reshare now.inclusion block now refl) its)
    node_kept (Mailed (Peer from bytes)) kept = acc_any (λ said end. Reads c reshare st apart (Mailed (Peer from bytes)) → IsKept said end) (λ said end reads. absurd reads) (node_step c (event_of (Mailed (Peer from bytes))) st) []
    node_kept (Mailed (NextLog request height)) kept = mail_kept (NextLog request height) kept (λ from bytes e. cc)
    node_kept (Mailed (ReleaseLog height)) kept = mail_kept (ReleaseLog height) kept (λ from bytes e. cc)
    node_kept (Mailed (EpochInfoOf request)) kept = mail_kept (EpochInfoOf request) kept (λ from bytes e. cc)
    node_kept (Mailed (Feed request block)) kept = mail_kept (Feed request block) kept (λ from bytes e. cc)
    node_kept (Mailed (Over request)) kept = mail_kept (Over request) kept (λ from bytes e. cc)
    node_kept (Mailed (Cancel request)) kept = mail_kept (Cancel request) kept (λ from bytes e. cc)
    node_kept (Mailed (Work handed)) kept = mail_kept (Work handed) kept (λ from bytes e. cc)

    -- the request waits on behind the step, or was answered in it
    pub step_kept : (message : Message U) (end : Live U) (out now : List Entry) → IsKept [] (Before st message) → (said : Said (on_devices (node_step c (event_of message) st)) (went end) out now) → Reads c reshare st apart message
        → IsKept said.lines end
    step_kept message end out now kept said reads = acc_all (λ said end. Reads c reshare st apart message → IsKept said end) (node_step c (event_of message) st) [] said.lines end (node_kept message kept) said.by reads

    -- AN EPOCH'S LAST BLOCK answers all that wait
    module _ (was : Was) (kept : IsKept [] st) where
      abbrev Done : List Entry → Live U → Type 0
      Done said end = IsAnsweredIn n said

      abbrev IsLeft : List (Request U) → Type 0
      IsLeft rs = (r : Request U) × IsAmong r rs × (r.number ≡ n)

      abbrev Rest : List Entry → Live U → Type 0
      Rest said end = IsLeft end.inclusion.queue ⊎ IsAnsweredIn n said

      rest_on : (said : List Entry) (line : Entry) (now end : Live U) → end.inclusion.queue ≡ now.inclusion.queue → Rest said now → Rest (said ++ line ∷ []) end
      rest_on said line now end same (inl (r, among, is)) = inl (r, subst (IsAmong r) (sym same) among, is)
      rest_on said line now end same (inr answered) = inr (answered_on said (line ∷ []) answered)

      rest_same : (said : List Entry) (now end : Live U) → end.inclusion.queue ≡ now.inclusion.queue → Rest said now → Rest said end
      rest_same said now end same (inl (r, among, is)) = inl (r, subst (IsAmong r) (sym same) among, is)
      rest_same said now end same (inr answered) = inr answered

      -- one that was answered stays so
      stays : {F : Type 0} (course : Course U F (Live U)) (said : List Entry) → IsAnsweredIn n said → Accounts Done said course
      stays (Say line course) said done = stays course (said ++ line ∷ []) (answered_on said (line ∷ []) done)
      stays (Do op course) said done = stays course said done
      stays (CallOutside outer course) said done = stays course said done
      stays (Ask f) said done = λ h. stays (f h) said done
      stays (Goes end) said done = done
      stays (Stops fault) said done = tt

      answers_rest : (rs : List (Request U)) (now : Live U) (said : List Entry) → IsLeft rs ⊎ IsAnsweredIn n said → Accounts Done said (b.answers_all rs now)
      answers_rest [] now said (inl (r, none, is)) = absurd none
      answers_rest [] now said (inr done) = done
      answers_rest (x ∷ rs) now said rest = answers_rest rs (with_told x.number (GaveNone Finished) now) (said ++ Answer x.number (Unavailable Finished) ∷ []) (by_rest rest)
        where
          by_rest : IsLeft (x ∷ rs) ⊎ IsAnsweredIn n said → IsLeft rs ⊎ IsAnsweredIn n (said ++ Answer x.number (Unavailable Finished) ∷ [])
          by_rest (inl (r, inl same, is)) =
              inr (
                Unavailable Finished,
                subst (λ (k : ℕ). IsAmong (Answer k (Unavailable Finished)) (said ++ Answer x.number (Unavailable Finished) ∷ [])) (ap (λ (y : Request U). y.number) same ∙ is)
                    (among_last (Answer x.number (Unavailable Finished)) said),
              )
          by_rest (inl (r, inr among, is)) = inl (r, among, is)
          by_rest (inr done) = inr (answered_on said (Answer x.number (Unavailable Finished) ∷ []) done)

      passes : (block : Block U) (outcome : Option (EpochInfo U)) (now : Live U) (said : List Entry) → Rest said now → Accounts Done said (b.passes_on c block outcome now)
      passes block outcome now said rest =
          acc_behind Done Done (b.answers_all now.inclusion.queue (with_tip block now)) (λ x. if is_some c.oneshot then b.ends_once c outcome x else s.setup c None x) said
          (answers_rest now.inclusion.queue (with_tip block now) said rest) (λ more end done. stays (if is_some c.oneshot then b.ends_once c outcome end else s.setup c None end) more done)

      committed : (info : EpochInfo U) (seed : List ℕ) (share : Option ℕ) (now : Live U) (said : List Entry) → Rest said now → Accounts Rest said (s.commits info seed share now)
      committed info seed None now said rest = rest_on said (Committed info.epoch None) now (with_participation (record now.participation { current = Some info }) now) refl rest
      committed info seed (Some share) now said rest = rest_on said (Committed info.epoch (Some share)) now (with_participation (record now.participation { current = Some info }) now) refl rest

      registered : (info : EpochInfo U) (share : Option ℕ) (now : Live U) (said : List Entry) → Rest said now → Accounts Rest said (if is_some c.oneshot then Goes now else s.registers c info share now)
      registered info share now said rest = acc_if Rest said (is_some c.oneshot) (Goes now) (s.registers c info share now) (λ e. rest)
          (λ e. rest_on said (Registered info.epoch (s.role_of (s.scheme_for c info share))) now (s.with_registered info.epoch (s.scheme_for c info share) now) refl rest)

      takes : (block : Block U) (info : EpochInfo U) (share : Option ℕ) (now : Live U) (said : List Entry) → Rest said now → Accounts Done said (b.takes_over c block info share now)
      takes block info share now said rest = λ h.
          acc_behind Rest Done (s.commits info (s.seed_for c info.epoch (lookup info.epoch (c.seen h).seeds)) share now) (λ x. bind (if is_some c.oneshot then Goes x else s.registers c info share x) (λ y. b.passes_on c block (Some info) y)) said (committed info (s.seed_for c info.epoch (lookup info.epoch (c.seen h).seeds)) share now said rest)
          (λ more x left. acc_behind Rest Done (if is_some c.oneshot then Goes x else s.registers c info share x) (λ y. b.passes_on c block (Some info) y) more (registered info share x more left)
          (λ last y its. passes block (Some info) y last its))

      concludes : (block : Block U) (made : Artifact U) (now : Live U) (said : List Entry) → Rest said now → Accounts Done said (b.concludes c block made now)
      concludes block made now said rest =
          let omitted : Course U Fault (Live U) = if is_some made.info then Stops (LocalState OutcomeOmitted) else b.passes_on c block None now in
          acc_if Done said (is_some c.oneshot && is_none block.payload) omitted (b.carried c block over)
          (λ e. acc_if Done said (is_some made.info) (Stops (LocalState OutcomeOmitted)) (b.passes_on c block None now) (λ e. tt) (λ e. passes block None now said rest))
          (λ e. acc_option Done said by_epoch (info_of block.payload) (Stops (MissingEpochInfo block.height))
          (λ info e. acc_if Done said (info.epoch == b.expected_epoch c block.height) (over info) (Stops (WrongEpoch (b.expected_epoch c block.height) info.epoch)) (λ e. takes block info (b.share_for c info made) now said rest) (λ e. tt)) tt)
        where
          over : EpochInfo U → Course U Fault (Live U)
          over info = b.takes_over c block info (b.share_for c info made) now

          by_epoch : EpochInfo U → Course U Fault (Live U)
          by_epoch info = if info.epoch == b.expected_epoch c block.height then over info else Stops (WrongEpoch (b.expected_epoch c block.height) info.epoch)

      ended : Accounts Rest [] (i.ends_verifying c None st)
      ended = by_running st.inclusion.running refl (kept.either was)
        where
          by_running : (o : Option Job) → st.inclusion.running ≡ o → IsWaiting n st.inclusion ⊎ IsAnsweredIn n [] → Accounts Rest [] (i.ends_verifying_in c None st o)
          by_running o is (inr (answer, none)) = absurd none
          by_running None is (inl (inl left)) = inl left
          by_running None is (inl (inr waits)) = absurd (none_some (sym (kept.waits is) ∙ waits))
          by_running (Some job) is (inl waiting) = by_waiter st.inclusion.waiter refl waiting
            where
              by_waiter : (o : Option ℕ) → st.inclusion.waiter ≡ o → IsWaiting n st.inclusion → Accounts Rest [] (i.completes_in c (job_result_of c None job) st o)
              by_waiter None there (inl left) = inl left
              by_waiter None there (inr waits) = absurd (none_some (sym there ∙ waits))
              by_waiter (Some request) there waiting =
                  artifact_to Rest [] (job_result_of c None job) st (λ made now. bind (i.answers_request c request made now) (λ now. Goes (retains c (job_result_of c None job) now))) (λ made now queue waiter running. by_waiting _ now queue waiting)
                where
                  by_waiting : (answer : AnswerLine) (now : Live U) → now.inclusion.queue ≡ st.inclusion.queue → IsWaiting n st.inclusion → IsLeft now.inclusion.queue ⊎ IsAnsweredIn n (Answer request answer ∷ [])
                  by_waiting answer now queue (inl (r, among, is)) = inl (r, subst (IsAmong r) (sym queue) among, is)
                  by_waiting answer now queue (inr waits) = inr (answer, inl (ap (λ (k : ℕ). Answer k answer) (same_some (sym there ∙ waits))))

      module _ (round : Round) (block : Block U) (logs : LogMap) where
        derives_rest : (found : Option VerifiedLogs) (now : Live U) (said : List Entry) → Rest said now → Accounts Done said (b.derives_at_block c round block logs found now)
        derives_rest (Some r) now said rest = artifact_to Done said r now (b.concludes c block) (λ made x queue waiter running. concludes block made x said (rest_same said now x queue rest))
        derives_rest None now said rest =
            acc_behind Rest Done (i.starts_verifying c round logs None now) (λ x. i.artifact c found (retains c found x) (b.concludes c block)) said (starts_rest (if can_finish c round logs now then s.refused_in c round now else None))
            (λ more x left. artifact_to Done more found (retains c found x) (b.concludes c block) (λ made y queue waiter running. concludes block made y more (rest_same more x y queue left)))
          where
            found : VerifiedLogs
            found = i.verified c (job_for c round logs now)

            starts_rest : (refused : Option ℕ) → Accounts Rest said (i.starts_unless (job_for c round logs now) None refused now)
            starts_rest (Some who) = tt
            starts_rest None = rest

        concluded : (before behind : Option (Artifact U)) (now : Live U) (said : List Entry) → Rest said now → Accounts Done said (b.concludes_by c round block logs before behind now)
        concluded (Some made) behind now said rest = concludes block made now said rest
        concluded None (Some made) now said rest = concludes block made now said rest
        concluded None None now said rest = derives_rest (retained_for now.inclusion.retained logs) now said rest

      last_block : (round : Round) (block : Block U) → Accounts Done [] (b.final_block c round block st)
      last_block round block =
          acc_behind Rest Done (i.ends_verifying c None st) (λ now. b.concludes_by c round block (canonical c st) (cached_for st.inclusion.cached (canonical c st)) (cached_for now.inclusion.cached (canonical c st)) now) [] ended
          (λ said now rest. concluded round block (canonical c st) (cached_for st.inclusion.cached (canonical c st)) (cached_for now.inclusion.cached (canonical c st)) now said rest)

      -- .. where it is applied
      module _ (block : Block U) (applied : judged_block c block st ≡ Applied) (including : st.participation.stage ≡ Includes) (at_last : is_last_height c block.height ≡ true) (round : Round) (of : st.participation.round ≡ Some round) where
        at_stage : Accounts Done [] (b.applies_in c block st Includes)
        at_stage =
            subst (λ (o : Option Round). Accounts Done [] (option_map_or (λ round. if is_last_height c block.height then b.final_block c round block st else b.includes c round block st) o (Goes st))) (sym of)
            (subst (λ (t : Bool). Accounts Done [] (if t then b.final_block c round block st else b.includes c round block st)) (sym at_last) (last_block round block))

        step_last : Accounts Done [] (step c (Finalized block) st)
        step_last =
            judged_is c block st (λ course. Accounts Done [] course) (λ t x y one other. acc_if Done [] t x y one other) (λ fault is. tt) (λ is. absurd (let no : ◌≡◌ {A = Judged} Passed Applied = sym is ∙ applied in cc))
            (λ is. subst (λ (stage : Stage). Accounts Done [] (b.applies_in c block st stage)) (sym including) at_stage) (λ is. absurd (let no : ◌≡◌ {A = Stage} Ends Includes = sym is ∙ including in cc))

        pub last_kept : (end : Live U) (out now : List Entry) → (said : Said (on_devices (node_step c (event_of (Finalized block)) st)) (went end) out now) → IsAnsweredIn n said.lines
        last_kept end out now said = acc_all Done (node_step c (event_of (Finalized block)) st) [] said.lines end node_last said.by
          where
            next : Live U → Course U NodeStop (Live U)
            next now = unless_once c (bind (takes_delivered c block now) (λ left. half.acked_at block.height left.answer left.live)) (Say (Acked block.height) (Goes now))

            node_last : Accounts Done [] (node_step c (event_of (Finalized block)) st)
            node_last =
                acc_behind Done Done (under Faulted (step c (Finalized block) st)) next [] (acc_under Done Faulted (step c (Finalized block) st) [] step_last) (λ said now done. stays (next now) said done)

-- before a step
pub at_first : (c : Fixed U) (reshare : c.oneshot ≡ None) (n : ℕ) (st : Live U) → IsApart st.inclusion → (st.inclusion.running ≡ None → st.inclusion.waiter ≡ None) → IsKept c reshare n (IsWaiting n st.inclusion) [] st
at_first c reshare n st apart idle = record { either = λ waits. inl waits; only = by_only; once = λ waits answered. answered.1; apart = apart; waits = idle }
  where
    by_only : IsWaiting n st.inclusion ⊎ IsAnsweredIn n [] → IsWaiting n st.inclusion
    by_only (inl waits) = waits
    by_only (inr (answer, none)) = absurd none
