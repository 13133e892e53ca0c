-- A peer's message keeps the promise at every exit.
use Rattle.std.proofs.Common.{◌≡◌, ◌⊎◌, inl, inr, ℕ, cond, Bool, true, false, nat_lt, List, [], ◌∷◌, ◌++◌, fold, Option, Some, None, refl, sym, ◌∙◌, ap, subst, append_assoc}
use Rattle.std.specs.Prelude.{if◌then◌else◌, Result, Ok, Err, is_some}
use Rattle.std.specs.Option.{option_map_or}
use Rattle.std.specs.FinMap as maps
use Rattle.std.specs.FinMap.{find, put, get, insert, empty, get-entries, entries-insert}
use Rattle.dkg_values.specs.Codec.{whole as all_of}
use Rattle.dkg_values.specs.Rising.{lookup}
use Rattle.dkg_values.specs.declared.codec.CodecError.{CodecError}
use Rattle.dkg_ceremony.specs.declared.ceremony.AckError.{AckError}
use Rattle.dkg_ceremony.specs.declared.ceremony.DealingError.{DealingError}
use Rattle.dkg_ceremony.specs.declared.round.RoundParts.{RoundParts as Round}
use Rattle.dkg_journal.specs.Records.{SectionEntry, placed}
use Rattle.dkg_infos.specs.declared.entry.Entry.{Entry}
use Rattle.dkg_infos.specs.declared.entry.Entry.TheVariants.{Recorded, Ack}
use Rattle.dkg_types.specs.declared.message.Message.{Message as Channel}
use Rattle.dkg_types.specs.declared.message.Message.TheVariants.{Dealer as ADealing, Ack as AnAck}
use Rattle.dkg_types.specs.MessageCodes.{message_at}
use Rattle.dkg_journal.specs.Operations.{Appends, Journaled}
use Rattle.dkg_store.specs.Acts.{Held, Operation, OnDisk, Changes, Cause, World, says, does, Tears, IsDiskLeft, notes}
use Rattle.dkg_core.specs.Courses.{Course, Goes, Throughout, Finishes}
use Rattle.dkg_store.specs.Events.{event_spelling, IsEvent}
use Rattle.dkg_store.specs.declared.event.Event.TheVariants as events
use Rattle.dkg_secrets.specs.Keys.{key_cmp}
use Rattle.dkg_store.specs.Pairs.{Pairs, IsWhole, HasHalf, recovered, recorded_dealing, with_dealing}
use Rattle.dkg_secrets.specs.Secrets.{Secrets, after}
use Rattle.dkg_secrets.specs.declared.secrets.SecretOp.TheVariants.{PutDealing}
use Rattle.dkg_store.proofs.Pairs.{step as add, whole_placed, put_one, record_one, get_here}
use Rattle.dkg_secrets.proofs.Map.{keys_total}
use Rattle.dkg_store.proofs.Silent.{says_dealing}
use Rattle.dkg_core.specs.Fixed.{Fixed}
use Rattle.dkg_core.specs.Live.{Live, Dealer, Seat, Plays, Watches, Stage, Deals, Includes, Follows, Ends, recorded_at}
use Rattle.dkg_core.specs.Dealing.{reads, hears_peer_in, seats_dealing_in, hears_dealing_in, hears_ack, checked_dealing, checked_ack, takes_ack, acknowledges, appends, counts, with_ack}
use Rattle.dkg_core.specs.Laws.{IsAccepted}
use Rattle.dkg_core.specs.Heard.{recovered_in, Fits, IsAgreed, PeersAgree, IsSaid, MayHave, IsKeptAt, Agrees, PeersAreKept}

-- EITHER WAY

along_if : {Dir F S : Type 0} (P : World → Type 0) (w : World) (b : Bool) (x y : Course Dir F S) → (b ≡ true → Throughout P x w) → (b ≡ false → Throughout P y w) → Throughout P (if b then x else y) w
along_if P w true x y one other = one refl
along_if P w false x y one other = other refl

nothing_more : {A : Type 0} (xs : List A) → xs ≡ xs ++ []
nothing_more [] = refl
nothing_more (x ∷ xs) = ap (λ ys. x ∷ ys) (nothing_more xs)

-- what an append that was ended within leaves of the entries
pub left_entries : (e : SectionEntry) (j new : Journaled) → IsDiskLeft (Appends e) j new → (new.entries ≡ j.entries) ⊎ (new.entries ≡ placed j.entries e)
left_entries e j new (inl is) = inl (ap (λ (x : Journaled). x.entries) is)
left_entries e j new (inr (inl is)) = inr (ap (λ (x : Journaled). x.entries) is)
left_entries e j new (inr (inr is)) = inl (ap (λ (x : Journaled). x.entries) is)

-- A RECORD OF NO DEALING

module _ (s : Secrets) (e : SectionEntry) (silent : recorded_dealing e ≡ None) where
  pub fold_silent : (es : List SectionEntry) (m : Pairs) → fold (add s) m (placed es e) ≡ fold (add s) m es
  fold_silent [] m = ap (with_dealing s m) silent
  fold_silent (x ∷ xs) m = elim (nat_lt e.0 x.0) as (λ b. fold (add s) m (cond b (e ∷ x ∷ xs) (x ∷ placed xs e)) ≡ fold (add s) m (x ∷ xs)) [
    | true ↦ ap (λ (n : Pairs). fold (add s) n (x ∷ xs)) (ap (with_dealing s m) silent)
    | false ↦ fold_silent xs (add s m x)
  ]

  pub silent_whole : (es : List SectionEntry) → IsWhole es s → IsWhole (placed es e) s
  silent_whole es whole = whole_placed s e (subst (HasHalf s) (sym silent) tt) es whole

module _ {Dir : Type 0} (c : Fixed Dir) (st : Live Dir) (from : ℕ) (round : Round) (w : World) (pairs : Pairs) (is_round : st.participation.round ≡ Some round)
    (records : st.records.dealings ≡ maps.entries pairs) (is_whole : IsWhole (notes w.held) w.held.secrets) (is_given : recovered_in w.held ≡ pairs) where
  abbrev P : World → Type 0
  P new = IsKeptAt c st from round w.out pairs new

  -- nothing more was said, and the devices hold this
  unsaid : (new : World) → new.out ≡ w.out → IsWhole (notes new.held) new.held.secrets → MayHave c st from round pairs (recovered_in new.held) → P new
  unsaid new same whole gives = record { whole = whole; gives = gives; added = []; out = same ∙ nothing_more w.out; said = tt }

  -- .. and the entries and the secrets are these
  unsaid_over : (new : World) → new.out ≡ w.out → (es : List SectionEntry) (s : Secrets) → notes new.held ≡ es → new.held.secrets ≡ s → IsWhole es s → MayHave c st from round pairs (recovered es s) → P new
  unsaid_over new same es s is_es is_s whole gives =
      unsaid new same (subst (λ (x : List SectionEntry). IsWhole x new.held.secrets) (sym is_es) (subst (λ (x : Secrets). IsWhole es x) (sym is_s) whole))
      (subst (λ (x : List SectionEntry). MayHave c st from round pairs (recovered x new.held.secrets)) (sym is_es) (subst (λ (x : Secrets). MayHave c st from round pairs (recovered es x)) (sym is_s) gives))

  begins : P w
  begins = unsaid w refl is_whole (inl is_given)

  -- one line
  tells : (line : Entry) → IsSaid c round w.held line → P (says w line)
  tells line sound = record { whole = is_whole; gives = inl is_given; added = line ∷ []; out = refl; said = (sound, tt) }

  recorded_is : (o : Option (List ℕ × ℕ)) → recorded_at st.records.dealings round.number from ≡ o → get pairs (round.number, from) ≡ o
  recorded_is o is = get-entries pairs (round.number, from) ∙ ap (find key_cmp (round.number, from)) (sym records) ∙ is

  -- A RECORDED DEALING

  again : (kept : List ℕ × ℕ) → recorded_at st.records.dealings round.number from ≡ Some kept → Throughout P (acknowledges c round from kept.0 st) w
  again kept is =
      let sound = tells (Ack round.number from (c.rules.ack_of c.me round from kept.0)) (kept, ap (λ (m : Pairs). get m (round.number, from)) is_given ∙ recorded_is (Some kept) is, refl) in
      (begins, sound)

  -- A NEW DEALING

  module _ (public : List ℕ) (private : ℕ) (is_event : IsEvent (events.Dealing from public)) (is_new : recorded_at st.records.dealings round.number from ≡ None)
      (accepted : IsAccepted c st round.number from public private) where
    abbrev op : Operation
    op = Changes (PutDealing round.number from private)

    abbrev noted : Operation
    noted = OnDisk (Appends (round.number, event_spelling (events.Dealing from public)))

    is_none : get pairs (round.number, from) ≡ None
    is_none = recorded_is None is_new

    half_put : IsWhole (notes w.held) (after (PutDealing round.number from private) w.held.secrets) × (recovered (notes w.held) (after (PutDealing round.number from private) w.held.secrets) ≡ pairs)
    half_put = put_one round.number from private public is_event pairs is_none w.held.secrets (notes w.held) is_whole is_given

    both_put : IsWhole (placed (notes w.held) (round.number, event_spelling (events.Dealing from public))) (after (PutDealing round.number from private) w.held.secrets)
        × (recovered (placed (notes w.held) (round.number, event_spelling (events.Dealing from public))) (after (PutDealing round.number from private) w.held.secrets) ≡ insert pairs (round.number, from) (public, private))
    both_put = record_one round.number from private public is_event pairs is_none w.held.secrets (notes w.held) is_whole is_given

    here : (h : Held) → recovered_in h ≡ insert pairs (round.number, from) (public, private) → get (recovered_in h) (round.number, from) ≡ Some (public, private)
    here h is = ap (λ (m : Pairs). get m (round.number, from)) is ∙ get_here pairs (round.number, from) (public, private)

    -- within the put: the half is there or not
    torn_put : (cause : Cause) (new : World) → Tears cause op w new → P new
    torn_put cause new tears = unsaid_at (tears.torn.1).so
      where
        entries_are : notes new.held ≡ notes w.held
        entries_are = ap (λ (j : Journaled). j.entries) tears.torn.0

        unsaid_at : (new.held.secrets ≡ w.held.secrets) ⊎ (new.held.secrets ≡ after (PutDealing round.number from private) w.held.secrets) → P new
        unsaid_at (inl is) = unsaid_over new tears.same (notes w.held) w.held.secrets entries_are is is_whole (inl is_given)
        unsaid_at (inr is) =
            unsaid_over new tears.same (notes w.held) (after (PutDealing round.number from private) w.held.secrets) entries_are is half_put.0 (inl half_put.1)

    with_it : MayHave c st from round pairs (insert pairs (round.number, from) (public, private))
    with_it = inr (public, private, accepted, refl)

    -- within the append: the record is there or not
    torn_append : (cause : Cause) (new : World) → Tears cause noted (does w op) new → P new
    torn_append cause new tears = unsaid_at (left_entries (round.number, event_spelling (events.Dealing from public)) w.held.journaled new.held.journaled tears.torn.1)
      where
        unsaid_at : (notes new.held ≡ notes w.held) ⊎ (notes new.held ≡ placed (notes w.held) (round.number, event_spelling (events.Dealing from public))) → P new
        unsaid_at (inl is) =
            unsaid_over new tears.same (notes w.held) (after (PutDealing round.number from private) w.held.secrets) is tears.torn.0 half_put.0 (inl half_put.1)
        unsaid_at (inr is) =
            unsaid_over new tears.same (placed (notes w.held) (round.number, event_spelling (events.Dealing from public))) (after (PutDealing round.number from private) w.held.secrets)
            is tears.torn.0 both_put.0 (inr (public, private, accepted, both_put.1))

    abbrev done : World
    done = does (does w op) noted

    abbrev told : Entry
    told = Recorded round.number from public private

    abbrev acked : Entry
    acked = Ack round.number from (c.rules.ack_of c.me round from public)

    recorded_now : P done
    recorded_now = unsaid done refl both_put.0 (inr (public, private, accepted, both_put.1))

    told_now : P (says done told)
    told_now = record { whole = both_put.0; gives = inr (public, private, accepted, both_put.1); added = told ∷ []; out = refl; said = (here done.held both_put.1, tt) }

    acked_now : P (says (says done told) acked)
    acked_now = record {
      whole = both_put.0;
      gives = inr (public, private, accepted, both_put.1);
      added = told ∷ acked ∷ [];
      out = append_assoc w.out (told ∷ []) (acked ∷ []);
      said = (here done.held both_put.1, (((public, private), here done.held both_put.1, refl), tt));
    }

  checked : (public : List ℕ) (private : ℕ) (check : Result (Unit {0}) DealingError) → IsEvent (events.Dealing from public) → recorded_at st.records.dealings round.number from ≡ None
      → c.rules.dealing_of round c.me from public private ≡ check → Throughout P (checked_dealing c round from public private st check) w
  checked public private (Err e) is_event new is = (begins, tells _ tt)
  checked public private (Ok passed) is_event new is =
      let accepted : IsAccepted c st round.number from public private = record { round = round; of_epoch = is_round; of_round = refl; new = new; valid = is } in (
        torn_put public private is_event new accepted,
        (
          torn_append public private is_event new accepted,
          (
            recorded_now public private is_event new accepted,
            (told_now public private is_event new accepted, acked_now public private is_event new accepted),
          ),
        ),
      )

  of_recorded : (public : List ℕ) (private : ℕ) (kept : Option (List ℕ × ℕ)) → recorded_at st.records.dealings round.number from ≡ kept → IsEvent (events.Dealing from public)
      → Throughout P (hears_dealing_in c round from public private st kept) w
  of_recorded public private (Some kept) is is_event = again kept is
  of_recorded public private None new is_event = checked public private (c.rules.dealing_of round c.me from public private) is_event new refl

  a_dealing : (public : List ℕ) (private : ℕ) (seat : Seat) → IsEvent (events.Dealing from public) → Throughout P (seats_dealing_in c round from public private st seat) w
  a_dealing public private Plays is_event = of_recorded public private (recorded_at st.records.dealings round.number from) refl is_event
  a_dealing public private Watches is_event = (begins, tells _ tt)

  -- AN ACKNOWLEDGEMENT

  module _ (ack : List ℕ) (is_event : IsEvent (events.Ack from ack)) where
    abbrev entry : SectionEntry
    entry = (round.number, event_spelling (events.Ack from ack))

    silent : recorded_dealing entry ≡ None
    silent = says_dealing round.number (events.Ack from ack) is_event

    with_record : IsWhole (placed (notes w.held) entry) w.held.secrets × (recovered (placed (notes w.held) entry) w.held.secrets ≡ pairs)
    with_record = (silent_whole w.held.secrets entry silent (notes w.held) is_whole, fold_silent w.held.secrets entry silent (notes w.held) empty ∙ is_given)

    torn_ack : (cause : Cause) (new : World) → Tears cause (OnDisk (Appends entry)) w new → P new
    torn_ack cause new tears = unsaid_at (left_entries entry w.held.journaled new.held.journaled tears.torn.1)
      where
        unsaid_at : (notes new.held ≡ notes w.held) ⊎ (notes new.held ≡ placed (notes w.held) entry) → P new
        unsaid_at (inl is) = unsaid_over new tears.same (notes w.held) w.held.secrets is tears.torn.0 is_whole (inl is_given)
        unsaid_at (inr is) = unsaid_over new tears.same (placed (notes w.held) entry) w.held.secrets is tears.torn.0 with_record.0 (inl with_record.1)

    taken : (d : Dealer) → Throughout P (takes_ack round.number d from ack st) w
    taken d =
        along_if P w (is_some (lookup from d.acks)) (Goes st)
        (if is_some (recorded_at st.records.acks round.number from) then Goes (counts d from ack st)
        else appends round.number (events.Ack from ack) (Goes (counts d from ack (with_ack round.number from ack st))))
        (λ e. begins) (λ e. along_if P w (is_some (recorded_at st.records.acks round.number from)) (Goes (counts d from ack st))
        (appends round.number (events.Ack from ack) (Goes (counts d from ack (with_ack round.number from ack st))))
        (λ e. begins) (λ e. (torn_ack, unsaid (does w (OnDisk (Appends entry))) refl with_record.0 (inl with_record.1))))

    taken_or_not : (d : Dealer) (check : Result (Unit {0}) AckError) → Throughout P (checked_ack round d from ack st check) w
    taken_or_not d (Err e) = (begins, tells _ tt)
    taken_or_not d (Ok passed) = taken d

    an_ack : (dealer : Option Dealer) → Throughout P (hears_ack c round dealer from ack st) w
    an_ack None = (begins, tells _ tt)
    an_ack (Some d) = taken_or_not d (c.rules.check_ack_of round c.me d.public from ack)

  a_message : (message : Result Channel CodecError) → ((public : List ℕ) (private : ℕ) → message ≡ Ok (ADealing public private) → IsEvent (events.Dealing from public))
      → ((ack : List ℕ) → message ≡ Ok (AnAck ack) → IsEvent (events.Ack from ack)) → Throughout P (reads c round from st message) w
  a_message (Err e) fits fits_ack = (begins, tells _ tt)
  a_message (Ok (ADealing public private)) fits fits_ack = a_dealing public private st.participation.seat (fits public private refl)
  a_message (Ok (AnAck ack)) fits fits_ack = an_ack ack (fits_ack ack refl) st.participation.dealer

  in_stage : (bytes : List ℕ) (stage : Stage) → Agrees c st from bytes pairs w → Throughout P (hears_peer_in c from bytes st stage) w
  in_stage bytes Deals agrees =
      subst (λ (o : Option Round). Throughout P (option_map_or (λ round. reads c round from st (all_of (message_at c.limit bytes))) o (Goes st)) w) (sym is_round)
      (a_message (all_of (message_at c.limit bytes)) agrees.fits agrees.fits_ack)
  in_stage bytes Includes agrees = begins
  in_stage bytes Follows agrees = begins
  in_stage bytes Ends agrees = begins

pub kept : {Dir : Type 0} → PeersAreKept Dir
kept c st from bytes round w pairs is_round agrees = in_stage c st from round w pairs is_round agrees.records agrees.whole agrees.gives bytes st.participation.stage agrees

-- WHAT A COMPLETED MESSAGE LEAVES

lands_if : {Dir F S : Type 0} (Q : S → World → Type 0) (w : World) (b : Bool) (x y : Course Dir F S) → ((end : S) (new : World) → Finishes x end w new → Q end new) → ((end : S) (new : World) → Finishes y end w new → Q end new)
    → (end : S) (new : World) → Finishes (if b then x else y) end w new → Q end new
lands_if Q w true x y one other = one
lands_if Q w false x y one other = other

module _ {Dir : Type 0} (c : Fixed Dir) (st : Live Dir) (from : ℕ) (round : Round) (w : World) (is_round : st.participation.round ≡ Some round)
    (is_whole : IsWhole (notes w.held) w.held.secrets) (records : st.records.dealings ≡ maps.entries (recovered_in w.held)) where
  abbrev Q : Live Dir → World → Type 0
  Q end new = IsAgreed end round new

  -- it ended in this
  at_end : (its end : Live Dir) (there new : World) → (new ≡ there) × (end ≡ its) → Q its there → Q end new
  at_end its end there new done q = subst (λ (x : World). Q end x) (sym done.0) (subst (λ (x : Live Dir). Q x there) (sym done.1) q)

  same : Q st w
  same = record { of_epoch = is_round; whole = is_whole; records = records }

  told_only : (line : Entry) → Q st (says w line)
  told_only line = record { of_epoch = is_round; whole = is_whole; records = records }

  checked_lands : (public : List ℕ) (private : ℕ) (check : Result (Unit {0}) DealingError) → IsEvent (events.Dealing from public) → recorded_at st.records.dealings round.number from ≡ None
      → (end : Live Dir) (new : World) → Finishes (checked_dealing c round from public private st check) end w new → Q end new
  checked_lands public private (Err e) is_event none end new done = at_end st end _ new done (told_only _)
  checked_lands public private (Ok passed) is_event none end new done =
      let k : ℕ × ℕ = (round.number, from) in
      let fresh : get (recovered_in w.held) k ≡ None = get-entries (recovered_in w.held) k ∙ ap (find key_cmp k) (sym records) ∙ none in
      let both = record_one round.number from private public is_event (recovered_in w.held) fresh w.held.secrets (notes w.held) is_whole refl in
      at_end _ end _ new done (record {
        of_epoch = is_round;
        whole = both.0;
        records = ap (put key_cmp k (public, private)) records ∙ sym (entries-insert keys_total (recovered_in w.held) k (public, private)) ∙ ap maps.entries (sym both.1);
      })

  recorded_lands : (public : List ℕ) (private : ℕ) (kept : Option (List ℕ × ℕ)) → recorded_at st.records.dealings round.number from ≡ kept → IsEvent (events.Dealing from public)
      → (end : Live Dir) (new : World) → Finishes (hears_dealing_in c round from public private st kept) end w new → Q end new
  recorded_lands public private (Some pair) is is_event end new done = at_end st end _ new done (told_only _)
  recorded_lands public private None none is_event end new done = checked_lands public private (c.rules.dealing_of round c.me from public private) is_event none end new done

  dealing_lands : (public : List ℕ) (private : ℕ) (seat : Seat) → IsEvent (events.Dealing from public) → (end : Live Dir) (new : World) → Finishes (seats_dealing_in c round from public private st seat) end w new → Q end new
  dealing_lands public private Plays is_event end new done = recorded_lands public private (recorded_at st.records.dealings round.number from) refl is_event end new done
  dealing_lands public private Watches is_event end new done = at_end st end _ new done (told_only _)

  module _ (ack : List ℕ) (is_event : IsEvent (events.Ack from ack)) where
    abbrev ack_entry : SectionEntry
    ack_entry = (round.number, event_spelling (events.Ack from ack))

    ack_silent : recorded_dealing ack_entry ≡ None
    ack_silent = says_dealing round.number (events.Ack from ack) is_event

    taken_lands : (d : Dealer) (end : Live Dir) (new : World) → Finishes (takes_ack round.number d from ack st) end w new → Q end new
    taken_lands d =
        lands_if Q w (is_some (lookup from d.acks)) (Goes st)
        (if is_some (recorded_at st.records.acks round.number from) then Goes (counts d from ack st)
        else appends round.number (events.Ack from ack) (Goes (counts d from ack (with_ack round.number from ack st))))
        (λ end new done. at_end st end w new done same)
        (lands_if Q w (is_some (recorded_at st.records.acks round.number from)) (Goes (counts d from ack st))
        (appends round.number (events.Ack from ack) (Goes (counts d from ack (with_ack round.number from ack st))))
        (λ end new done. at_end (counts d from ack st) end w new done (record { of_epoch = is_round; whole = is_whole; records = records }))
        (λ end new done. at_end _ end _ new done (record {
          of_epoch = is_round;
          whole = silent_whole w.held.secrets ack_entry ack_silent (notes w.held) is_whole;
          records = records ∙ ap maps.entries (sym (fold_silent w.held.secrets ack_entry ack_silent (notes w.held) empty));
        })))

    checked_ack_lands : (d : Dealer) (check : Result (Unit {0}) AckError) (end : Live Dir) (new : World) → Finishes (checked_ack round d from ack st check) end w new → Q end new
    checked_ack_lands d (Err e) end new done = at_end st end _ new done (told_only _)
    checked_ack_lands d (Ok passed) end new done = taken_lands d end new done

    ack_lands : (dealer : Option Dealer) (end : Live Dir) (new : World) → Finishes (hears_ack c round dealer from ack st) end w new → Q end new
    ack_lands None end new done = at_end st end _ new done (told_only _)
    ack_lands (Some d) end new done = checked_ack_lands d (c.rules.check_ack_of round c.me d.public from ack) end new done

  message_lands : (message : Result Channel CodecError) → ((public : List ℕ) (private : ℕ) → message ≡ Ok (ADealing public private) → IsEvent (events.Dealing from public))
      → ((ack : List ℕ) → message ≡ Ok (AnAck ack) → IsEvent (events.Ack from ack)) → (end : Live Dir) (new : World) → Finishes (reads c round from st message) end w new → Q end new
  message_lands (Err e) fits fits_ack end new done = at_end st end _ new done (told_only _)
  message_lands (Ok (ADealing public private)) fits fits_ack end new done = dealing_lands public private st.participation.seat (fits public private refl) end new done
  message_lands (Ok (AnAck ack)) fits fits_ack end new done = ack_lands ack (fits_ack ack refl) st.participation.dealer end new done

  stage_lands : (bytes : List ℕ) (stage : Stage) → Fits c (from, bytes) → (end : Live Dir) (new : World) → Finishes (hears_peer_in c from bytes st stage) end w new → Q end new
  stage_lands bytes Deals fits end new ended =
      (subst (λ (o : Option Round). (end : Live Dir) (new : World) → Finishes (option_map_or (λ round. reads c round from st (all_of (message_at c.limit bytes))) o (Goes st)) end w new → Q end new) (sym is_round)
      (message_lands (all_of (message_at c.limit bytes)) fits.0 fits.1)) end new ended
  stage_lands bytes Includes fits end new ended = at_end st end w new ended same
  stage_lands bytes Follows fits end new ended = at_end st end w new ended same
  stage_lands bytes Ends fits end new ended = at_end st end w new ended same

pub agreed : {Dir : Type 0} → PeersAgree Dir
agreed c st end from bytes round w new before fits done = stage_lands c st from round w before.of_epoch before.whole before.records bytes st.participation.stage fits end new done
