-- A message's step keeps the dealings that are current, in a life of any epoch: what its reshare half says and leaves, wherever it ends.
use Rattle.std.proofs.Common.{◌≡◌, ◌⊎◌, inl, inr, ℕ, ◌<◌, ◌-◌, List, [], ◌∷◌, ◌++◌, Option, Some, None, Bool, true, false, cond, refl, sym, ◌∙◌, ap, subst, length, arith, append-nil}
use Rattle.std.specs.Prelude.{fold, Result, Ok, Err, is_some, ◌+◌, ◌==◌, ◌&&◌, ◌^◌, if◌then◌else◌}
use Rattle.std.specs.FinMap as maps
use Rattle.std.specs.FinMap.{empty, get, get-entries, insert}
use Rattle.std.specs.List.{AllByRecursion, list_any}
use Rattle.std.proofs.lemmas.Bool.Decides.{nat_tests}
use Rattle.std.proofs.lemmas.List.{append_cancel_left}
use Rattle.dkg_values.specs.Codec.{whole}
use Rattle.dkg_values.specs.Rising.{lookup}
use Rattle.dkg_ceremony.specs.declared.ceremony.AckError.{AckError}
use Rattle.dkg_ceremony.specs.Acks.{ack_of}
use Rattle.dkg_ceremony.specs.Dealings.{dealing_of}
use Rattle.dkg_ceremony.specs.declared.round.RoundParts.{RoundParts as Round}
use Rattle.dkg_infos.specs.declared.entry.Entry.{Entry}
use Rattle.dkg_infos.specs.declared.entry.Entry.TheVariants as entry
use Rattle.dkg_infos.specs.declared.entry.Restored.{Restored}
use Rattle.dkg_infos.specs.declared.fault.Fault.{Fault}
use Rattle.dkg_types.specs.declared.message.Message.TheVariants.{Dealer as ADealing, Ack as AnAck}
use Rattle.dkg_types.specs.MessageCodes.{message_at}
use Rattle.dkg_text.specs.declared.script.Event.TheVariants.{Peer as FromPeer}
use Rattle.dkg_text.specs.declared.script.Life.{Life}
use Rattle.dkg_journal.specs.Operations.{Appends, Journaled}
use Rattle.dkg_journal.specs.Records as journal
use Rattle.dkg_journal.specs.Records.{placed}
use Rattle.dkg_store.specs.Acts.{Held, World, Cause, OnDisk, Changes, Tears, Ended, does, went, stopped, broken, notes}
use Rattle.dkg_store.specs.Events.{IsEvent, event_spelling}
use Rattle.dkg_store.specs.declared.event.Event.TheVariants as events
use Rattle.dkg_secrets.specs.declared.secrets.SecretOp.TheVariants.{PutDealing}
use Rattle.dkg_store.specs.Pairs.{Pairs, IsWhole, recovered, recorded_dealing as dealing_of_entry}
use Rattle.dkg_store.proofs.Silent.{says_dealing}
use Rattle.dkg_secrets.specs.Secrets.{Secrets, after as after_change}
use Rattle.dkg_store.proofs.Acts.{along_runs}
use Rattle.dkg_store.proofs.Pairs.{same_key, get_at, get_other, put_one, record_one}
use Rattle.dkg_script.specs.Blocks.{round_at}
use Rattle.dkg_script.specs.Due.{is_ack}
use Rattle.dkg_script.specs.Kept.{AllCurrent, Gives}
use Rattle.dkg_script.specs.Position.{awaited_epoch, event_of_step}
use Rattle.dkg_script.specs.Progress.{Progress, read, pair_of, with_restored, IsBrought}
use Rattle.dkg_script.specs.Readings.{dealing_in}
use Rattle.dkg_script.specs.Setting.{Setting, life_at, limits, me}
use Rattle.dkg_script.proofs.Bridges.{reads_dealing}
use Rattle.dkg_script.proofs.EachEntry.{EachAfter}
use Rattle.dkg_script.proofs.Steps.{InDealingStep, records, acknowledges, found_new}
use Rattle.dkg_core.specs.Courses.{Course, Goes, on_devices, deeds_of, EndsSo, Throughout}
use Rattle.dkg_core.specs.Fixed.{Fixed, stand_in}
use Rattle.dkg_core.specs.Live.{Live, Dealer, Plays, Mailed, Peer, recorded_at}
use Rattle.dkg_core.specs.Dealing as d
use Rattle.dkg_core.specs.Core.{step}
use Rattle.dkg_core.specs.Agreeing.{AreAgreed}
use Rattle.dkg_core.specs.Heard.{Fits, recovered_in}
use Rattle.dkg_core.specs.Transcripts.{AddsDeeds, IfWentTo, IsOwnEnd, deed_entries}
use Rattle.dkg_core.specs.Behind.{IsAside, OnlySays}
use Rattle.dkg_core.proofs.Behind.{leaves_devices}
use Rattle.dkg_core.proofs.Keeping.{fold_silent, left_entries, silent_whole}
use Rattle.dkg_core.proofs.Lines.{runs_add_deeds}
use Rattle.dkg_core.proofs.Upkeep.{along_if}
use Rattle.dkg_lives.proofs.PeerForms.{BringsDealing, IsUndue, by_form}
use Rattle.dkg_lives.proofs.Recorded.{gives_one, restored_at, with_pair_finds}
use Rattle.dkg_lives.proofs.Currently.{AreKept, IsKeptEntry, current_as, current_with, not_kept}

-- ONE DEALING MORE

still_given : (m : Pairs) (key : ℕ × ℕ) (v : List ℕ × ℕ) (x : Restored) → get m key ≡ None → Gives m x → Gives (insert m key v) x
still_given m key v x none given = get_other m key (x.epoch, x.dealer) v (λ same. let there : get m key ≡ Some (x.public, x.private) = ap (get m) (sym same) ∙ given in
    absurd (let both : None ≡ Some (x.public, x.private) = sym none ∙ there in cc)) ∙ given

all_still_given : (b : ℕ) (m : Pairs) (key : ℕ × ℕ) (v : List ℕ × ℕ) (xs : List Restored) → get m key ≡ None → AllCurrent b (Gives m) xs → AllCurrent b (Gives (insert m key v)) xs
all_still_given b m key v xs none all = current_as b (Gives m) (Gives (insert m key v)) (λ x now given. still_given m key v x none given) xs all

-- what the map gives now: the new dealing, or what it gave
new_or_old : (m : Pairs) (epoch dealer : ℕ) (v : List ℕ × ℕ) (x : Restored) → Gives (insert m (epoch, dealer) v) x → (x ≡ restored_at epoch dealer v) ⊎ Gives m x
new_or_old m epoch dealer v x given = elim (same_key (x.epoch, x.dealer) (epoch, dealer)) [
  | inl same ↦ inl (gives_one (insert m (epoch, dealer) v) x (restored_at epoch dealer v) given (get_at m (epoch, dealer) (epoch, dealer) v refl) (ap (λ (k : ℕ × ℕ). k.0) same) (ap (λ (k : ℕ × ℕ). k.1) same))
  | inr apart ↦ inr (sym (get_other m (epoch, dealer) (x.epoch, x.dealer) v apart) ∙ given)
]

-- A NEW DEALING IS KEPT, before anything is told

-- The devices are whole. They give back what they gave and nothing was told, or the new dealing with it.
abbrev pub HasNew : (epoch dealer : ℕ) → List ℕ → ℕ → World → World → Type 0
HasNew epoch dealer public private w new =
    IsWhole (notes new.held) new.held.secrets
    × (((new.out ≡ w.out) × (recovered_in new.held ≡ recovered_in w.held)) ⊎ (recovered_in new.held ≡ insert (recovered_in w.held) (epoch, dealer) (public, private)))

module _ (epoch dealer private : ℕ) (public : List ℕ) (w : World) (is_event : IsEvent (events.Dealing dealer public)) (none : get (recovered_in w.held) (epoch, dealer) ≡ None)
    (is_whole : IsWhole (notes w.held) w.held.secrets) where
  abbrev note : journal.SectionEntry
  note = (epoch, event_spelling (events.Dealing dealer public))

  abbrev secrets_then : Secrets
  secrets_then = after_change (PutDealing epoch dealer private) w.held.secrets

  half_put : IsWhole (notes w.held) secrets_then × (recovered (notes w.held) secrets_then ≡ recovered_in w.held)
  half_put = put_one epoch dealer private public is_event (recovered_in w.held) none w.held.secrets (notes w.held) is_whole refl

  both_put : IsWhole (placed (notes w.held) note) secrets_then × (recovered (placed (notes w.held) note) secrets_then ≡ insert (recovered_in w.held) (epoch, dealer) (public, private))
  both_put = record_one epoch dealer private public is_event (recovered_in w.held) none w.held.secrets (notes w.held) is_whole refl

  -- what the entries and the secrets have, the devices have
  has_of : (new : World) (es : List journal.SectionEntry) (held : Secrets) → notes new.held ≡ es → new.held.secrets ≡ held → IsWhole es held
      → ((new.out ≡ w.out) × (recovered es held ≡ recovered_in w.held)) ⊎ (recovered es held ≡ insert (recovered_in w.held) (epoch, dealer) (public, private)) → HasNew epoch dealer public private w new
  has_of new es held is_es is_held whole gives = rw (is_es, is_held) (whole, gives)

  torn_put : (cause : Cause) (new : World) → Tears cause (Changes (PutDealing epoch dealer private)) w new → HasNew epoch dealer public private w new
  torn_put cause new tears = by_secrets tears.torn.1.so
    where
      same : notes new.held ≡ notes w.held
      same = ap (λ (j : Journaled). j.entries) tears.torn.0

      by_secrets : (new.held.secrets ≡ w.held.secrets) ⊎ (new.held.secrets ≡ secrets_then) → HasNew epoch dealer public private w new
      by_secrets (inl is) = has_of new (notes w.held) w.held.secrets same is is_whole (inl (tears.same, refl))
      by_secrets (inr is) = has_of new (notes w.held) secrets_then same is half_put.0 (inl (tears.same, half_put.1))

  torn_append : (cause : Cause) (new : World) → Tears cause (OnDisk (Appends note)) (does w (Changes (PutDealing epoch dealer private))) new → HasNew epoch dealer public private w new
  torn_append cause new tears = has_by (left_entries note w.held.journaled new.held.journaled tears.torn.1)
    where
      has_by : (notes new.held ≡ notes w.held) ⊎ (notes new.held ≡ placed (notes w.held) note) → HasNew epoch dealer public private w new
      has_by (inl is) = has_of new (notes w.held) secrets_then is tears.torn.0 half_put.0 (inl (tears.same, half_put.1))
      has_by (inr is) = has_of new (placed (notes w.held) note) secrets_then is tears.torn.0 both_put.0 (inr both_put.1)

  done : (out : List Entry) → HasNew epoch dealer public private w (record (does (does w (Changes (PutDealing epoch dealer private))) (OnDisk (Appends note))) { out = out })
  done out = (both_put.0, inr both_put.1)

pub own_found : (x : Restored) → pair_of (x ∷ []) x.epoch x.dealer ≡ Some x
own_found x = by_key (x.epoch == x.epoch) (x.dealer == x.dealer) (itself x.epoch) (itself x.dealer)
  where
    itself : (n : ℕ) → (n == n) ≡ true
    itself n = grind (arith, nat_tests)

    by_key : (a b : Bool) → a ≡ true → b ≡ true → cond (a && b) (Some x) None ≡ Some x
    by_key a b ea eb = rw (ea, eb) refl

are_with : (b : ℕ) (m : Pairs) (recorded : List Restored) (epoch dealer : ℕ) (v : List ℕ × ℕ) → b < epoch + 2 → get m (epoch, dealer) ≡ None → AreKept b m recorded
    → AreKept b (insert m (epoch, dealer) v) (with_restored recorded (restored_at epoch dealer v))
are_with b m recorded epoch dealer v now none are = record {
  given = current_with b (Gives (insert m (epoch, dealer) v)) recorded (restored_at epoch dealer v) (all_still_given b m (epoch, dealer) v recorded none are.given) (λ now. get_at m (epoch, dealer) (epoch, dealer) v refl);
  known = λ x given. elim (new_or_old m epoch dealer v x given) [
    | inl is ↦ subst (λ (y : Restored). pair_of (with_restored recorded (restored_at epoch dealer v)) y.epoch y.dealer ≡ Some y) (sym is) of_new
    | inr old ↦ with_pair_finds recorded (restored_at epoch dealer v) x.epoch x.dealer ∙ (rw (are.known x old) refl)
  ];
}
  where
    of_new : pair_of (with_restored recorded (restored_at epoch dealer v)) epoch dealer ≡ Some (restored_at epoch dealer v)
    of_new = with_pair_finds recorded (restored_at epoch dealer v) epoch dealer ∙ (rw (not_kept b m recorded epoch dealer are.given now none) (own_found (restored_at epoch dealer v)))

-- WHAT A MESSAGE COMES TO

-- nothing of dealings
pub record IsPassed {Dir : Type 0} (c : Fixed Dir) (st : Live Dir) (from : ℕ) (bytes : List ℕ) (course : Course Dir Fault (Live Dir)) (h : Held) : Type 0 where
  pub only : OnlySays (λ line. Unit {0}) (λ end. Unit {0}) course
  pub aside : AllByRecursion IsAside (deed_entries (deeds_of course h))
  pub undue : IsUndue c st from bytes

-- The devices are whole, and give back what they gave.
abbrev pub IsSameGiven : World → World → Type 0
IsSameGiven w new = IsWhole (notes new.held) new.held.secrets × (recovered_in new.held ≡ recovered_in w.held)

-- an acknowledgement for this node's dealer
pub record IsTakenAck {Dir : Type 0} (c : Fixed Dir) (st : Live Dir) (from : ℕ) (bytes : List ℕ) (course : Course Dir Fault (Live Dir)) (h : Held) : Type 0 where
  pub aside : AllByRecursion IsAside (deed_entries (deeds_of course h))
  pub undue : IsUndue c st from bytes
  pub ack : List ℕ
  pub brings : whole (message_at c.limit bytes) ≡ Ok (AnAck ack)
  pub lasts : (w : World) → IsEvent (events.Ack from ack) → IsWhole (notes w.held) w.held.secrets → Throughout (IsSameGiven w) course w

-- a recorded dealing's acknowledgement
pub record IsAgain {Dir : Type 0} (c : Fixed Dir) (st : Live Dir) (from : ℕ) (bytes : List ℕ) (course : Course Dir Fault (Live Dir)) (h : Held) : Type 0 where
  pub round : Round
  pub public : List ℕ
  pub private : ℕ
  pub pair : List ℕ × ℕ
  pub brings : BringsDealing c st bytes round public private
  pub there : recorded_at st.records.dealings round.number from ≡ Some pair
  pub only : OnlySays (λ line. Unit {0}) (λ end. Unit {0}) course
  pub lines : deed_entries (deeds_of course h) ≡ entry.Ack round.number from (c.rules.ack_of c.me round from pair.0) ∷ []

-- a new one's record and acknowledgement
pub record IsNew {Dir : Type 0} (c : Fixed Dir) (st : Live Dir) (from : ℕ) (bytes : List ℕ) (course : Course Dir Fault (Live Dir)) (h : Held) : Type 0 where
  pub round : Round
  pub public : List ℕ
  pub private : ℕ
  pub brings : BringsDealing c st bytes round public private
  pub none : recorded_at st.records.dealings round.number from ≡ None
  pub valid : c.rules.dealing_of round c.me from public private ≡ Ok tt
  pub lines : deed_entries (deeds_of course h) ≡ entry.Recorded round.number from public private ∷ entry.Ack round.number from (c.rules.ack_of c.me round from public) ∷ []
  pub lasts : (w : World) → IsEvent (events.Dealing from public) → get (recovered_in w.held) (round.number, from) ≡ None → IsWhole (notes w.held) w.held.secrets
      → Throughout (HasNew round.number from public private w) course w

-- ITS LINES AND WHAT IT LEAVES, of an acknowledgement for the dealer

module _ {Dir : Type 0} (st : Live Dir) (round : Round) (dealer : Dealer) (from : ℕ) (ack : List ℕ) where
  abbrev noted : Course Dir Fault (Live Dir)
  noted = d.appends round.number (events.Ack from ack) (Goes (d.counts dealer from ack (d.with_ack round.number from ack st)))

  aside_if : (h : Held) (t : Bool) (x y : Course Dir Fault (Live Dir)) → AllByRecursion IsAside (deed_entries (deeds_of x h)) → AllByRecursion IsAside (deed_entries (deeds_of y h))
      → AllByRecursion IsAside (deed_entries (deeds_of (if t then x else y) h))
  aside_if h true x y one other = one
  aside_if h false x y one other = other

  ack_aside : (h : Held) (check : Result (Unit {0}) AckError) → AllByRecursion IsAside (deed_entries (deeds_of (d.checked_ack round dealer from ack st check) h))
  ack_aside h (Err e) = (tt, tt)
  ack_aside h (Ok passed) =
      aside_if h (is_some (lookup from dealer.acks)) (Goes st) (if is_some (recorded_at st.records.acks round.number from) then Goes (d.counts dealer from ack st) else noted) tt
      (aside_if h (is_some (recorded_at st.records.acks round.number from)) (Goes (d.counts dealer from ack st)) noted tt tt)

  abbrev silent_entry : journal.SectionEntry
  silent_entry = (round.number, event_spelling (events.Ack from ack))

  module _ (w : World) (is : IsEvent (events.Ack from ack)) (is_whole : IsWhole (notes w.held) w.held.secrets) where
    of_silent : dealing_of_entry silent_entry ≡ None
    of_silent = says_dealing round.number (events.Ack from ack) is

    same_of : (new : World) (es : List journal.SectionEntry) → notes new.held ≡ es → new.held.secrets ≡ w.held.secrets → IsWhole es w.held.secrets → recovered es w.held.secrets ≡ recovered_in w.held → IsSameGiven w new
    same_of new es is_es is_t its_whole gives = rw (is_es, is_t) (its_whole, gives)

    with_note : (new : World) → notes new.held ≡ placed (notes w.held) silent_entry → new.held.secrets ≡ w.held.secrets → IsSameGiven w new
    with_note new is_es is_t = same_of new (placed (notes w.held) silent_entry) is_es is_t (silent_whole w.held.secrets silent_entry of_silent (notes w.held) is_whole)
        (fold_silent w.held.secrets silent_entry of_silent (notes w.held) empty)

    note_torn : (cause : Cause) (new : World) → Tears cause (OnDisk (Appends silent_entry)) w new → IsSameGiven w new
    note_torn cause new tears = elim (left_entries silent_entry w.held.journaled new.held.journaled tears.torn.1) [
      | inl is_es ↦ same_of new (notes w.held) is_es tears.torn.0 is_whole refl
      | inr is_es ↦ with_note new is_es tears.torn.0
    ]

    ack_lasts : (check : Result (Unit {0}) AckError) → Throughout (IsSameGiven w) (d.checked_ack round dealer from ack st check) w
    ack_lasts (Err e) = ((is_whole, refl), (is_whole, refl))
    ack_lasts (Ok passed) =
        along_if (IsSameGiven w) w (is_some (lookup from dealer.acks)) (Goes st) (if is_some (recorded_at st.records.acks round.number from) then Goes (d.counts dealer from ack st) else noted)
        (λ e. (is_whole, refl))
        (λ e. along_if (IsSameGiven w) w (is_some (recorded_at st.records.acks round.number from)) (Goes (d.counts dealer from ack st)) noted (λ e. (is_whole, refl))
        (λ e. (note_torn, with_note (does w (OnDisk (Appends silent_entry))) refl refl)))

abbrev pub HasForm : {Dir : Type 0} → Fixed Dir → Live Dir → (from : ℕ) → List ℕ → Course Dir Fault (Live Dir) → Type 0
HasForm c st from bytes course = (h : Held) → IsPassed c st from bytes course h ⊎ (IsTakenAck c st from bytes course h ⊎ (IsAgain c st from bytes course h ⊎ IsNew c st from bytes course h))

pub has_form : {Dir : Type 0} (c : Fixed Dir) (st : Live Dir) (from : ℕ) (bytes : List ℕ) → HasForm c st from bytes (step c (Mailed (Peer from bytes)) st)
has_form c st from bytes = by_form c st from bytes (HasForm c st from bytes)
    (λ undue h. inl (record { only = tt; aside = tt; undue = undue }))
    (λ reason undue h. inl (record { only = (tt, tt); aside = (tt, tt); undue = undue }))
    (λ round dealer ack of_epoch brings undue h. inr (inl (record {
      aside = ack_aside st round dealer from ack h (c.rules.check_ack_of round c.me dealer.public from ack);
      undue = undue;
      ack = ack;
      brings = brings;
      lasts = λ w is is_whole. ack_lasts st round dealer from ack w is is_whole (c.rules.check_ack_of round c.me dealer.public from ack);
    })))
    (λ round public private pair brings there h. inr (inr (inl (record { round = round; public = public; private = private; pair = pair; brings = brings; there = there; only = (tt, tt); lines = refl }))))
    (λ round public private brings none valid h. inr (inr (inr (record {
      round = round;
      public = public;
      private = private;
      brings = brings;
      none = none;
      valid = valid;
      lines = refl;
      lasts = λ w is_event new whole. let over = done round.number from private public w is_event new whole in
          (torn_put round.number from private public w is_event new whole, (torn_append round.number from private public w is_event new whole, (over _, (over _, over _))));
    }))))

-- WHAT IS CARRIED within a life that has opened

pub record Knows {Dir : Type 0} (c : Fixed Dir) (s : Setting) : Type 0 where
  pub me_is : c.me ≡ me s
  pub limit_is : (limits s).limit ≡ c.limit
  pub rules_are : c.rules ≡ stand_in

-- Recorded dealings of this epoch pass, where the life plays in its round.
abbrev pub ValidAt : {Dir : Type 0} → (epoch : ℕ) → Live Dir → Held → Setting → Type 0
ValidAt epoch st h s = (round : Round) (dealer : ℕ) (pair : List ℕ × ℕ) → st.participation.round ≡ Some round → st.participation.seat ≡ Plays → dealer < 2 ^ 32
    → get (recovered_in h) (epoch, dealer) ≡ Some pair → dealing_of round (me s) dealer pair.0 pair.1 ≡ Ok tt

-- memory and devices, where this epoch has begun, and the round of the awaited epoch that the life takes part in
pub record Carries {Dir : Type 0} (c : Fixed Dir) (begun epoch : ℕ) (st : Live Dir) (h : Held) (s : Setting) (p : Progress) : Type 0 where
  pub knows : Knows c s
  pub agreed : AreAgreed st.records h
  pub are : AreKept begun (recovered_in h) p.recorded
  pub current : begun < epoch + 2
  pub in_round : (round : Round) → st.participation.round ≡ Some round → (round_at s epoch ≡ Some round) × (round.number ≡ epoch)
  pub valid : ValidAt epoch st h s

-- the message of this step, and where it stands
pub record IsAtMessage (epoch : ℕ) (life : Life) (l j from : ℕ) (bytes : List ℕ) (s : Setting) (p : Progress) : Type 0 where
  pub awaits : epoch ≡ awaited_epoch s l life (j - 1)
  pub life_is : life_at s l ≡ Some life
  pub lives : length p.cuts ≡ l
  pub step : p.step ≡ j
  pub event_is : event_of_step life j ≡ Some (FromPeer from bytes)
  pub nothing : p.written ≡ []

-- only what is recorded and written differs
pub record IsSameStep (p q : Progress) : Type 0 where
  pub cuts : q.cuts ≡ p.cuts
  pub step : q.step ≡ p.step
  pub opened : q.opened ≡ p.opened

-- The half's entries are kept, and so are the dealings on the devices. One that is on them and not recorded was brought by this step, which went not to its end.
pub record IsHeard {Dir : Type 0} (c : Fixed Dir) (begun epoch : ℕ) (st : Live Dir) (from : ℕ) (bytes : List ℕ) (life : Life) (l j : ℕ) (half : Ended Fault (Live Dir)) (w mid : World) (s : Setting) (p : Progress) : Type 0 where
  pub added : List Entry
  pub out : mid.out ≡ w.out ++ added
  pub each : EachAfter s (IsKeptEntry s) p added
  pub same : IsSameStep p (fold (read s) p added)
  pub whole : IsWhole (notes mid.held) mid.held.secrets
  pub given : AllCurrent begun (Gives (recovered_in mid.held)) (fold (read s) p added).recorded
  pub known : (pair : Restored) → Gives (recovered_in mid.held) pair → (pair_of (fold (read s) p added).recorded pair.epoch pair.dealer ≡ Some pair)
      ⊎ ((pair_of (fold (read s) p added).recorded pair.epoch pair.dealer ≡ None) × IsBrought s l life j pair)
  pub ended : IfWentTo half (λ end. ((pair : Restored) → Gives (recovered_in mid.held) pair → pair_of (fold (read s) p added).recorded pair.epoch pair.dealer ≡ Some pair)
      × ((IsUndue c st from bytes × ((fold (read s) p added).recorded ≡ p.recorded)) ⊎ (list_any is_ack (fold (read s) p added).written ≡ true)))
  pub valid : ValidAt epoch st mid.held s

-- LISTS

front_of_one : {A : Type 0} (x : A) (xs ys : List A) → x ∷ [] ≡ xs ++ ys → (xs ≡ []) ⊎ ((xs ≡ x ∷ []) × (ys ≡ []))
front_of_one x [] ys e = inl refl
front_of_one {A} x (a ∷ []) ys e = inr (cc, cc)
front_of_one {A} x (a ∷ b ∷ xs) ys e = absurd (let more : [] ≡ b ∷ (xs ++ ys) = cc in cons_apart b (xs ++ ys) more)
  where
    cons_apart : (b : A) (xs : List A) → [] ≡ b ∷ xs → ⊥
    cons_apart b xs e = cc

front_of_two : {A : Type 0} (x y : A) (xs ys : List A) → x ∷ y ∷ [] ≡ xs ++ ys → (xs ≡ []) ⊎ ((xs ≡ x ∷ []) ⊎ ((xs ≡ x ∷ y ∷ []) × (ys ≡ [])))
front_of_two x y [] ys e = inl refl
front_of_two {A} x y (a ∷ xs) ys e =
    let same : a ≡ x = cc in
    elim (front_of_one y xs ys (let rest : y ∷ [] ≡ xs ++ ys = cc in rest)) [
      | inl none ↦ inr (inl (ap (λ (l : List A). a ∷ l) none ∙ ap (λ (z : A). z ∷ []) same))
      | inr both ↦ inr (inr (ap (λ (l : List A). a ∷ l) both.0 ∙ ap (λ (z : A). z ∷ y ∷ []) same, both.1))
    ]

tail_is : {A : Type 0} {x y : A} {xs ys : List A} → x ∷ xs ≡ y ∷ ys → xs ≡ ys
tail_is e = cc

some_value : {A : Type 0} (x y : A) → Some x ≡ Some y → x ≡ y
some_value x y e = cc

both_none : {A : Type 0} (xs ys : List A) → xs ≡ [] → ys ≡ [] → xs ++ ys ≡ []
both_none xs ys none rest = ap (λ zs. zs ++ ys) none ∙ rest

only_one : {A : Type 0} (x : A) (xs ys : List A) → xs ≡ x ∷ [] → ys ≡ [] → xs ++ ys ≡ x ∷ []
only_one x xs ys one rest = ap (λ zs. zs ++ ys) one ∙ ap (λ zs. x ∷ zs) rest

cons_is_none : {A : Type 0} (x : A) (xs : List A) → x ∷ xs ≡ [] → ⊥
cons_is_none x xs e = cc

-- ENTRIES ASIDE

front_aside : (xs ys : List Entry) → AllByRecursion IsAside (xs ++ ys) → AllByRecursion IsAside xs
front_aside [] ys all = tt
front_aside (x ∷ xs) ys all = (all.0, front_aside xs ys all.1)

pub aside_kept : (s : Setting) (p : Progress) (one : Entry) → IsAside one → IsKeptEntry s p one
aside_kept s p (entry.Opened life restored) aside = absurd aside
aside_kept s p (entry.Recorded epoch dealer public private) aside = absurd aside
aside_kept s p (entry.Ack epoch dealer ack) aside = absurd aside
aside_kept s p (entry.Cut step call) aside = absurd aside
aside_kept s p (entry.Step step) aside = absurd aside
aside_kept s p other aside = (tt, tt)

-- they change nothing but what is written
pub record IsUnchanged (p q : Progress) : Type 0 where
  pub cuts : q.cuts ≡ p.cuts
  pub step : q.step ≡ p.step
  pub opened : q.opened ≡ p.opened
  pub recorded : q.recorded ≡ p.recorded

pub aside_read : (s : Setting) (p : Progress) (one : Entry) → IsAside one → IsUnchanged p (read s p one)
aside_read s p (entry.Opened life restored) aside = absurd aside
aside_read s p (entry.Recorded epoch dealer public private) aside = absurd aside
aside_read s p (entry.Cut step call) aside = absurd aside
aside_read s p (entry.Step step) aside = absurd aside
aside_read s p other aside = record { cuts = refl; step = refl; opened = refl; recorded = refl }

pub each_aside : (s : Setting) (entries : List Entry) (p : Progress) → AllByRecursion IsAside entries → EachAfter s (IsKeptEntry s) p entries
each_aside s [] p aside = tt
each_aside s (one ∷ entries) p aside = (aside_kept s p one aside.0, each_aside s entries (read s p one) aside.1)

pub read_aside : (s : Setting) (entries : List Entry) (p : Progress) → AllByRecursion IsAside entries → IsUnchanged p (fold (read s) p entries)
read_aside s [] p aside = record { cuts = refl; step = refl; opened = refl; recorded = refl }
read_aside s (one ∷ entries) p aside =
    let first = aside_read s p one aside.0 in
    let rest = read_aside s entries (read s p one) aside.1 in
    record { cuts = rest.cuts ∙ first.cuts; step = rest.step ∙ first.step; opened = rest.opened ∙ first.opened; recorded = rest.recorded ∙ first.recorded }

-- THE HALF'S RUN

if_went : {F S : Type 0} (ended : Ended F S) (P Q : S → Type 0) → ((end : S) → P end → Q end) → IfWentTo ended P → IfWentTo ended Q
if_went (went end) P Q so is = so end is
if_went (stopped fault) P Q so is = tt
if_went (broken cause) P Q so is = tt

all_ended : {F S : Type 0} (ended : Ended F S) (Q : S → Type 0) → ((end : S) → Q end) → IfWentTo ended Q
all_ended (went end) Q so = so end
all_ended (stopped fault) Q so = tt
all_ended (broken cause) Q so = tt

-- nothing was left unsaid
said_all : {Dir F S : Type 0} (course : Course Dir F S) (ended : Ended F S) (held now : Held) (rest : List Entry) → IsOwnEnd course ended held now rest → IfWentTo ended (λ end. rest ≡ [])
said_all course (went end) held now rest own = own.0
said_all course (stopped fault) held now rest own = tt
said_all course (broken cause) held now rest own = tt

module _ {Dir : Type 0} (c : Fixed Dir) (begun epoch : ℕ) (st : Live Dir) (from : ℕ) (bytes : List ℕ) (life : Life) (l j : ℕ) (half : Ended Fault (Live Dir)) (w mid : World) (s : Setting) (p : Progress)
    (at : IsAtMessage epoch life l j from bytes s p) (carries : Carries c begun epoch st w.held s p) (fits : Fits c (from, bytes)) (small : from < 2 ^ 32)
    (run : EndsSo (step c (Mailed (Peer from bytes)) st) half w mid) where
  abbrev pairs : Pairs
  pairs = recovered_in w.held

  abbrev Heard : Type 0
  Heard = IsHeard c begun epoch st from bytes life l j half w mid s p

  -- what is recorded in memory is what the devices give back
  found_is : (round : Round) → st.participation.round ≡ Some round → recorded_at st.records.dealings round.number from ≡ get pairs (epoch, from)
  found_is round is =
      ap (λ (rs : List ((ℕ × ℕ) × (List ℕ × ℕ))). recorded_at rs round.number from) carries.agreed.dealings
      ∙ ap (λ (n : ℕ). recorded_at (maps.entries pairs) n from) (carries.in_round round is).1 ∙ sym (get-entries pairs (epoch, from))

  decodes : (round : Round) (public : List ℕ) (private : ℕ) → BringsDealing c st bytes round public private → dealing_in (limits s) bytes ≡ Some (record { public = public; private = private })
  decodes round public private brings = reads_dealing (limits s) bytes public private (subst (λ (n : ℕ). whole (message_at n bytes) ≡ Ok (ADealing public private)) (sym carries.knows.limit_is) brings.brings)

  ack_is : (round : Round) (public : List ℕ) → c.rules.ack_of c.me round from public ≡ ack_of (me s) round from public
  ack_is round public = rw (carries.knows.rules_are, carries.knows.me_is) refl

  valid_is : (round : Round) (public : List ℕ) (private : ℕ) → c.rules.dealing_of round c.me from public private ≡ Ok tt → dealing_of round (me s) from public private ≡ Ok tt
  valid_is round public private is = rw (carries.knows.rules_are, carries.knows.me_is) at is

  in_step : (q : Progress) (round : Round) (v : List ℕ × ℕ) → q.cuts ≡ p.cuts → q.step ≡ p.step → st.participation.round ≡ Some round → dealing_of round (me s) from v.0 v.1 ≡ Ok tt
      → InDealingStep s q life round (restored_at epoch from v) bytes
  in_step q round v cuts step_is is valid = record {
    life_is = there;
    event_is = rw (step_is, at.step) at.event_is;
    awaited = at.awaits ∙ ap (λ (n : ℕ). awaited_epoch s n life (j - 1)) (sym at.lives ∙ sym (ap length cuts)) ∙ ap (λ (n : ℕ). awaited_epoch s (length q.cuts) life (n - 1)) (sym at.step ∙ sym step_is);
    round_is = (carries.in_round round is).0;
    valid = valid;
  }
    where
      there : life_at s (length q.cuts) ≡ Some life
      there = rw (cuts, at.lives) at.life_is

  brought : (round : Round) (public : List ℕ) (private : ℕ) → BringsDealing c st bytes round public private → dealing_of round (me s) from public private ≡ Ok tt
      → IsBrought s l life j (restored_at epoch from (public, private))
  brought round public private brings valid = record {
    epoch = at.awaits;
    event = rw at.event_is (refl, decodes round public private brings);
    valid = rw (carries.in_round round brings.of_epoch).0 valid;
  }

  adds : AddsDeeds (step c (Mailed (Peer from bytes)) st) half w mid
  adds = runs_add_deeds (step c (Mailed (Peer from bytes)) st) half w mid run

  told : IfWentTo half (λ end. adds.rest ≡ [])
  told = said_all (step c (Mailed (Peer from bytes)) st) half w.held mid.held adds.rest adds.own_end

  -- the devices give back what they gave
  module _ (same_given : IsSameGiven w mid) where
    valid_still : ValidAt epoch st mid.held s
    valid_still round dealer pair is plays low there = carries.valid round dealer pair is plays low (subst (λ (m : Pairs). get m (epoch, dealer) ≡ Some pair) same_given.1 there)

    are_still : AreKept begun (recovered_in mid.held) p.recorded
    are_still = subst (λ (m : Pairs). AreKept begun m p.recorded) (sym same_given.1) carries.are

    -- these entries were added, and record nothing
    with_entries : (EachAfter s (IsKeptEntry s) p adds.added) → IsUnchanged p (fold (read s) p adds.added)
        → IfWentTo half (λ end. IsUndue c st from bytes ⊎ (list_any is_ack (fold (read s) p adds.added).written ≡ true)) → Heard
    with_entries each same ended = record {
      added = adds.added;
      out = adds.out;
      each = each;
      same = record { cuts = same.cuts; step = same.step; opened = same.opened };
      whole = same_given.0;
      given = rw same.recorded are_still.given;
      known = λ pair there. inl (known pair there);
      ended = if_went half _ _ (λ end its. (known, elim its [ inl undue ↦ inl (undue, same.recorded) | inr is ↦ inr is ])) ended;
      valid = valid_still;
    }
      where
        known : (pair : Restored) → Gives (recovered_in mid.held) pair → pair_of (fold (read s) p adds.added).recorded pair.epoch pair.dealer ≡ Some pair
        known pair there = rw same.recorded (are_still.known pair there)

  -- .. where no device is touched
  untouched : OnlySays (λ line. Unit {0}) (λ end. Unit {0}) (step c (Mailed (Peer from bytes)) st) → IsSameGiven w mid
  untouched only =
      let same : mid.held ≡ w.held = (leaves_devices (λ line. Unit {0}) (λ end. Unit {0}) (step c (Mailed (Peer from bytes)) st) half w mid only run).held in
      (subst (λ (h : Held). IsWhole (notes h) h.secrets) (sym same) carries.agreed.whole, ap (λ (h : Held). recovered_in h) same)

  passed : IsPassed c st from bytes (step c (Mailed (Peer from bytes)) st) w.held → Heard
  passed its =
      let aside : AllByRecursion IsAside adds.added = front_aside adds.added adds.rest (subst (λ (ls : List Entry). AllByRecursion IsAside ls) adds.of_deeds its.aside) in
      with_entries (untouched its.only) (each_aside s adds.added p aside) (read_aside s adds.added p aside) (all_ended half _ (λ end. inl its.undue))

  taken : IsTakenAck c st from bytes (step c (Mailed (Peer from bytes)) st) w.held → Heard
  taken its =
      let aside : AllByRecursion IsAside adds.added = front_aside adds.added adds.rest (subst (λ (ls : List Entry). AllByRecursion IsAside ls) adds.of_deeds its.aside) in
      let same : IsSameGiven w mid = along_runs (IsSameGiven w) (on_devices (step c (Mailed (Peer from bytes)) st)) half w mid (its.lasts w (fits.1 its.ack its.brings) carries.agreed.whole) run in
      with_entries same (each_aside s adds.added p aside) (read_aside s adds.added p aside) (all_ended half _ (λ end. inl its.undue))

  wrote : (ack : List ℕ) (epoch : ℕ) → list_any is_ack (read s p (entry.Ack epoch from ack)).written ≡ true
  wrote ack epoch = rw at.nothing refl

  again : IsAgain c st from bytes (step c (Mailed (Peer from bytes)) st) w.held → Heard
  again its = elim (front_of_one ack_entry adds.added adds.rest (sym its.lines ∙ adds.of_deeds)) [
    | inl none ↦ with_entries (untouched its.only) (rw none tt) (rw none (record { cuts = refl; step = refl; opened = refl; recorded = refl }))
        (if_went half (λ end. adds.rest ≡ []) _ (λ end rest. absurd (cons_is_none ack_entry [] (sym its.lines ∙ adds.of_deeds ∙ both_none adds.added adds.rest none rest))) told)
    | inr both ↦ with_entries (untouched its.only) (rw both.0 (kept_ack, tt)) (rw both.0 (record { cuts = refl; step = refl; opened = refl; recorded = refl })) (all_ended half _ (λ end. inr (rw both.0 (wrote _ _))))
  ]
    where
      ack_entry : Entry
      ack_entry = entry.Ack its.round.number from (c.rules.ack_of c.me its.round from its.pair.0)

      there : get pairs (epoch, from) ≡ Some its.pair
      there = sym (found_is its.round its.brings.of_epoch) ∙ its.there

      kept_ack : IsKeptEntry s p (entry.Ack its.round.number from (c.rules.ack_of c.me its.round from its.pair.0))
      kept_ack = subst (λ (n : ℕ). IsKeptEntry s p (entry.Ack n from (c.rules.ack_of c.me its.round from its.pair.0))) (sym (carries.in_round its.round its.brings.of_epoch).1)
          (subst (λ (ack : List ℕ). IsKeptEntry s p (entry.Ack epoch from ack)) (sym (ack_is its.round its.pair.0)) (
            acknowledges s p life its.round (restored_at epoch from its.pair) bytes
                (in_step p its.round its.pair refl refl its.brings.of_epoch (carries.valid its.round from its.pair its.brings.of_epoch its.brings.plays small there))
                (record { public = its.public; private = its.private }) (decodes its.round its.public its.private its.brings) (carries.are.known (restored_at epoch from its.pair) there) (rw at.nothing refl),
            tt,
          ))

  module _ (its : IsNew c st from bytes (step c (Mailed (Peer from bytes)) st) w.held) where
    abbrev v : List ℕ × ℕ
    v = (its.public, its.private)

    abbrev pair : Restored
    pair = restored_at epoch from v

    abbrev recorded_entry : Entry
    recorded_entry = entry.Recorded epoch from its.public its.private

    abbrev ack_entry : Entry
    ack_entry = entry.Ack epoch from (ack_of (me s) its.round from its.public)

    first : its.round.number ≡ epoch
    first = (carries.in_round its.round its.brings.of_epoch).1

    lines_are : recorded_entry ∷ ack_entry ∷ [] ≡ adds.added ++ adds.rest
    lines_are = sym (ap (λ (n : ℕ). entry.Recorded n from its.public its.private ∷ entry.Ack n from (ack_of (me s) its.round from its.public) ∷ []) first)
        ∙ sym (ap (λ (ack : List ℕ). entry.Recorded its.round.number from its.public its.private ∷ entry.Ack its.round.number from ack ∷ []) (ack_is its.round its.public))
        ∙ sym its.lines ∙ adds.of_deeds

    none_there : get pairs (epoch, from) ≡ None
    none_there = sym (found_is its.round its.brings.of_epoch) ∙ its.none

    valid_new : dealing_of its.round (me s) from its.public its.private ≡ Ok tt
    valid_new = valid_is its.round its.public its.private its.valid

    unrecorded : pair_of p.recorded epoch from ≡ None
    unrecorded = not_kept begun pairs p.recorded epoch from carries.are.given carries.current none_there

    has : HasNew epoch from its.public its.private w mid
    has = subst (λ (n : ℕ). HasNew n from its.public its.private w mid) first
        (along_runs (HasNew its.round.number from its.public its.private w) (on_devices (step c (Mailed (Peer from bytes)) st)) half w mid
        (its.lasts w (fits.0 its.public its.private its.brings.brings) (subst (λ (n : ℕ). get pairs (n, from) ≡ None) (sym first) none_there) carries.agreed.whole) run)

    -- the new one passes, as do those from before
    valid_with : (round : Round) (dealer : ℕ) (other : List ℕ × ℕ) → st.participation.round ≡ Some round → st.participation.seat ≡ Plays → dealer < 2 ^ 32
        → get (insert pairs (epoch, from) v) (epoch, dealer) ≡ Some other → dealing_of round (me s) dealer other.0 other.1 ≡ Ok tt
    valid_with round dealer other is plays low there = elim (same_key (epoch, dealer) (epoch, from)) [
      | inl same ↦
          let here : ◌≡◌ {A = Option (List ℕ × ℕ)} (Some v) (Some other) = sym (get_at pairs (epoch, from) (epoch, dealer) v same) ∙ there in
          let its_own : v ≡ other = some_value v other here in
          let its_dealer : dealer ≡ from = ap (λ (k : ℕ × ℕ). k.1) same in
          let its_round : its.round ≡ round = some_value its.round round (sym its.brings.of_epoch ∙ is) in
          subst (λ (r : Round). dealing_of r (me s) dealer other.0 other.1 ≡ Ok tt) its_round
          (subst (λ (x : List ℕ × ℕ). dealing_of its.round (me s) dealer x.0 x.1 ≡ Ok tt) its_own
          (subst (λ (n : ℕ). dealing_of its.round (me s) n its.public its.private ≡ Ok tt) (sym its_dealer) valid_new))
      | inr apart ↦ carries.valid round dealer other is plays low (sym (get_other pairs (epoch, from) (epoch, dealer) v apart) ∙ there)
    ]

    valid_then : (round : Round) (dealer : ℕ) (other : List ℕ × ℕ) → st.participation.round ≡ Some round → st.participation.seat ≡ Plays → dealer < 2 ^ 32
        → get (recovered_in mid.held) (epoch, dealer) ≡ Some other → dealing_of round (me s) dealer other.0 other.1 ≡ Ok tt
    valid_then round dealer other is plays low there = elim has.1 [
      | inl same ↦ carries.valid round dealer other is plays low (subst (λ (m : Pairs). get m (epoch, dealer) ≡ Some other) same.1 there)
      | inr more ↦ valid_with round dealer other is plays low (subst (λ (m : Pairs). get m (epoch, dealer) ≡ Some other) more there)
    ]

    here : InDealingStep s p life its.round pair bytes
    here = in_step p its.round v refl refl its.brings.of_epoch valid_new

    kept_record : IsKeptEntry s p recorded_entry
    kept_record = (records s p life its.round pair bytes here unrecorded (decodes its.round its.public its.private its.brings), tt)

    abbrev behind : Progress
    behind = read s p recorded_entry

    kept_ack : IsKeptEntry s behind ack_entry
    kept_ack = (
      acknowledges s behind life its.round pair bytes (in_step behind its.round v refl refl its.brings.of_epoch valid_new) (record { public = its.public; private = its.private })
          (decodes its.round its.public its.private its.brings) (found_new s p life its.round pair bytes here unrecorded) (rw at.nothing refl),
      tt,
    )

    -- nothing was told
    untold : adds.added ≡ [] → Heard
    untold none = record {
      added = [];
      out = adds.out ∙ ap (λ (ls : List Entry). w.out ++ ls) none;
      each = tt;
      same = record { cuts = refl; step = refl; opened = refl };
      whole = has.0;
      given = elim has.1 [
        | inl same ↦ subst (λ (m : Pairs). AllCurrent begun (Gives m) p.recorded) (sym same.1) carries.are.given
        | inr more ↦ subst (λ (m : Pairs). AllCurrent begun (Gives m) p.recorded) (sym more) (all_still_given begun pairs (epoch, from) v p.recorded none_there carries.are.given)
      ];
      known = λ x there. elim has.1 [
        | inl same ↦ inl (carries.are.known x (subst (λ (m : Pairs). Gives m x) same.1 there))
        | inr more ↦ elim (new_or_old pairs epoch from v x (subst (λ (m : Pairs). Gives m x) more there)) [
          | inl is ↦ inr (subst (λ (y : Restored). (pair_of p.recorded y.epoch y.dealer ≡ None) × IsBrought s l life j y) (sym is) (unrecorded, brought its.round its.public its.private its.brings valid_new))
          | inr old ↦ inl (carries.are.known x old)
        ]
      ];
      ended = if_went half (λ end. adds.rest ≡ []) _ (λ end rest. absurd (cons_is_none recorded_entry (ack_entry ∷ []) (lines_are ∙ both_none adds.added adds.rest none rest))) told;
      valid = valid_then;
    }

    -- .. or the record, at least
    now_has : (one : Entry) (more : List Entry) → adds.added ≡ one ∷ more → recovered_in mid.held ≡ insert pairs (epoch, from) v
    now_has one more are = elim has.1 [
      | inl same ↦ absurd (cons_is_none one more (append_cancel_left w.out (one ∷ more) [] (ap (λ (ls : List Entry). w.out ++ ls) (sym are) ∙ sym adds.out ∙ same.0 ∙ sym (append-nil w.out))))
      | inr more ↦ more
    ]

    told_so : (added : List Entry) (one : Entry) (more : List Entry) → adds.added ≡ added → added ≡ one ∷ more → EachAfter s (IsKeptEntry s) p added → IsSameStep p (fold (read s) p added)
        → (fold (read s) p added).recorded ≡ with_restored p.recorded pair → IfWentTo half (λ end. list_any is_ack (fold (read s) p added).written ≡ true) → Heard
    told_so added one more are is each same recorded wrote = record {
      added = added;
      out = adds.out ∙ ap (λ (ls : List Entry). w.out ++ ls) are;
      each = each;
      same = same;
      whole = has.0;
      given = rw recorded all_known.given;
      known = λ x there. inl (known x there);
      ended = if_went half _ _ (λ end is. (known, inr is)) wrote;
      valid = valid_then;
    }
      where
        all_known : AreKept begun (recovered_in mid.held) (with_restored p.recorded pair)
        all_known = subst (λ (m : Pairs). AreKept begun m (with_restored p.recorded pair)) (sym (now_has one more (are ∙ is))) (are_with begun pairs p.recorded epoch from v carries.current none_there carries.are)

        known : (x : Restored) → Gives (recovered_in mid.held) x → pair_of (fold (read s) p added).recorded x.epoch x.dealer ≡ Some x
        known x there = rw recorded (all_known.known x there)

    new : Heard
    new = elim (front_of_two recorded_entry ack_entry adds.added adds.rest lines_are) [
      | inl none ↦ untold none
      | inr (inl one) ↦ told_so (recorded_entry ∷ []) recorded_entry [] one refl (kept_record, tt) (record { cuts = refl; step = refl; opened = refl }) refl
          (if_went half (λ end. adds.rest ≡ []) _ (λ end rest. absurd (cons_is_none ack_entry [] (tail_is (lines_are ∙ only_one recorded_entry adds.added adds.rest one rest)))) told)
      | inr (inr both) ↦ told_so (recorded_entry ∷ ack_entry ∷ []) recorded_entry (ack_entry ∷ []) both.0 refl (kept_record, (kept_ack, tt)) (record { cuts = refl; step = refl; opened = refl }) refl
          (all_ended half _ (λ end. rw at.nothing refl))
    ]

  -- A MESSAGE'S STEP, wherever its reshare half ends
  pub heard : Heard
  heard = elim (has_form c st from bytes w.held) [ inl its ↦ passed its | inr (inl its) ↦ taken its | inr (inr (inl its)) ↦ again its | inr (inr (inr its)) ↦ new its ]
