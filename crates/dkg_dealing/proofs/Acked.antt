-- An acknowledgement that is handed to the dealer: its acts, and then the line of a refusal, are the relation's.
use Rattle.std.proofs.Common.{◌≡◌, ◌++◌, ◌∷◌, [], ℕ, Bool, true, false, not, List, Option, Some, is_some, Result, Ok, Err, refl, sym, ◌∙◌, ap, subst, append-nil}
use Rattle.std.specs.Prelude.{◌||◌, if◌then◌else◌, option_map, OnOk, OnErr, IfErr}
use Rattle.std.specs.FinMap as maps
use Rattle.std.specs.FinMap.{contains_key, get, get-entries, insert, put}
use Rattle.dkg_ceremony.specs.declared.ceremony.AckError.{AckError}
use Rattle.dkg_ceremony.specs.declared.round.RoundParts.{RoundParts as Round}
use Rattle.dkg_fence.specs.Readiness.{Readiness}
use Rattle.dkg_journal.specs.Burn.{Burn}
use Rattle.dkg_journal.specs.Names.{Files}
use Rattle.dkg_secrets.specs.Keys.{key_cmp}
use Rattle.dkg_secrets.specs.Secrets.{Secrets}
use Rattle.dkg_infos.specs.declared.entry.Entry.{Entry}
use Rattle.dkg_infos.specs.declared.entry.Entry.TheVariants.{Blocked}
use Rattle.dkg_infos.specs.declared.fault.Fault.{Fault}
use Rattle.dkg_infos.specs.declared.fault.Fault.TheVariants.{NoMemory}
use Rattle.dkg_values.specs.Rising.{lookup, with_pair}
use Rattle.dkg_store.specs.Acts as acts_of
use Rattle.dkg_store.specs.Acts.{Acts, Ended, Moment, moment, went}
use Rattle.dkg_store.specs.Called.{if_made}
use Rattle.dkg_store.specs.Calls.{acking}
use Rattle.dkg_store.specs.Events.{event_spelling}
use Rattle.dkg_store.specs.declared.dealer.AckOutcome.{AckOutcome}
use Rattle.dkg_store.specs.declared.dealer.Dealer.{Dealer}
use Rattle.dkg_store.specs.declared.event.Event.TheVariants as events
use Rattle.dkg_store.specs.declared.store.Store.{Store}
use Rattle.dkg_core.proofs.Storing.{looked_up}
use Rattle.dkg_core.specs.Courses as courses
use Rattle.dkg_core.specs.Courses.{Course, on_devices}
use Rattle.dkg_core.specs.Dealing as dealing
use Rattle.dkg_core.specs.Fixed.{Fixed}
use Rattle.dkg_core.specs.Live as live
use Rattle.dkg_core.specs.Live.{Live, recorded_at}
use Rattle.dkg_core.specs.Said.{Said}
use Rattle.dkg_life.specs.declared.life.Life.{Life}
use Rattle.dkg_life.specs.declared.stop.Stop.{Stop}
use Rattle.dkg_life.specs.declared.stop.Stop.TheVariants.{Fault as Faulted}
use Rattle.dkg_life.specs.Ends.{by_stop, ends_in, fault_of_store}
use Rattle.dkg_life.specs.LiveOf.{Beside, dealer_of, live_of}
use Rattle.dkg_life.specs.Made.{MakesAt}
use Rattle.dkg_life.specs.Rules.{CheckAckOf}
use Rattle.dkg_life.proofs.Burning.{line_makes, makes_early, makes_next, makes_nothing}
use Rattle.dkg_dealing.proofs.Counted.{counts_one, records_one}
use Rattle.dkg_life.proofs.Lines.{line_said}

module _ {Dir : Type 0} (round : Round) (d : live.Dealer) (from : ℕ) (ack : List ℕ) (st : Live Dir) where
  -- what is in memory then, where it passed
  abbrev counted_in : (counted recorded : Bool) → Live Dir
  counted_in counted recorded = if counted then st else if recorded then dealing.counts d from ack st else dealing.counts d from ack (dealing.with_ack round.number from ack st)

  abbrev its_acts : (epoch : ℕ) → Result (Unit {0}) AckError → (counted recorded : Bool) → Acts Fault (Result AckOutcome AckError)
  its_acts epoch check counted recorded = acts_of.under fault_of_store (acking check counted recorded (epoch, event_spelling (events.Ack from ack)))

  abbrev answered : (counted recorded : Bool) → Result AckOutcome AckError → Acts Fault (Live Dir)
  answered counted recorded (Ok outcome) = acts_of.Goes (counted_in counted recorded)
  answered counted recorded (Err e) = acts_of.Say (Blocked from (dealing.why_ack e)) (acts_of.Goes st)

  counts_as : (counted recorded : Bool)
      → on_devices {Dir = Dir} (if counted then courses.Goes st else if recorded then courses.Goes (dealing.counts d from ack st)
      else dealing.appends round.number (events.Ack from ack) (courses.Goes (dealing.counts d from ack (dealing.with_ack round.number from ack st))))
      ≡ acts_of.bind (its_acts round.number (Ok tt) counted recorded) (answered counted recorded)
  counts_as true recorded = refl
  counts_as false true = refl
  counts_as false false = refl

  checked_as : (check : Result (Unit {0}) AckError) → on_devices (dealing.checked_ack round d from ack st check)
      ≡ acts_of.bind (its_acts round.number check (is_some (lookup from d.acks)) (is_some (recorded_at st.records.acks round.number from)))
      (answered (is_some (lookup from d.acks)) (is_some (recorded_at st.records.acks round.number from)))
  checked_as (Err e) = refl
  checked_as (Ok passed) = counts_as (is_some (lookup from d.acks)) (is_some (recorded_at st.records.acks round.number from))

  -- nothing is said where it passed
  counted_said : (epoch : ℕ) (counted recorded : Bool) (out : List Entry)
      → Said (acts_of.bind (its_acts epoch (Ok tt) counted recorded) (answered counted recorded)) (went (counted_in counted recorded)) out out
  counted_said epoch true recorded out = record { lines = []; added = sym (append-nil out); by = (refl, refl) }
  counted_said epoch false true out = record { lines = []; added = sym (append-nil out); by = (refl, refl) }
  counted_said epoch false false out = record { lines = []; added = sym (append-nil out); by = (refl, refl) }

module _ {Dir : Type 0} (dealer : Dealer) (life : Life Dir) (beside : Beside Dir) (fence : Readiness) (from : ℕ) (ack : List ℕ) (old : Store Dir) (epoch : ℕ)
    (stored : life.store ≡ old) (has : life.dealer ≡ Some dealer) (number : dealer.round.number ≡ epoch)
  where
    abbrev st : Live Dir
    st = live_of beside fence life

    abbrev counted : Bool
    counted = is_some (get dealer.acks from)

    abbrev recorded : Bool
    recorded = contains_key old.acks (epoch, from)

    abbrev course : Result (Unit {0}) AckError → Course Dir Fault (Live Dir)
    course check = dealing.checked_ack dealer.round (dealer_of dealer) from ack st check

    abbrev of_store : Result (Unit {0}) AckError → Acts Fault (Result AckOutcome AckError)
    of_store check = its_acts dealer.round (dealer_of dealer) from ack st epoch check counted recorded

    course_is : (check : Result (Unit {0}) AckError) → on_devices (course check) ≡ acts_of.bind (of_store check) (answered dealer.round (dealer_of dealer) from ack st counted recorded)
    course_is check =
        checked_as dealer.round (dealer_of dealer) from ack st check
        ∙ (λ i. acts_of.bind (its_acts dealer.round (dealer_of dealer) from ack st (number i) check (same_counted i) (same_recorded i)) (answered dealer.round (dealer_of dealer) from ack st (same_counted i) (same_recorded i)))
      where
        same_counted : is_some (lookup from (maps.entries dealer.acks)) ≡ counted
        same_counted = ap (λ (o : Option (List ℕ)). is_some o) (looked_up from dealer.acks)

        same_recorded : is_some (recorded_at (maps.entries life.store.acks) dealer.round.number from) ≡ recorded
        same_recorded = ap (λ (o : Option (List ℕ)). is_some o) (sym (get-entries life.store.acks (dealer.round.number, from))) ∙ (λ i. contains_key (ap (λ (s : Store Dir). s.acks) stored i) (number i, from))

    module _ (store : Store Dir) (now : Dealer) (same : now ≡ record dealer { acks = now.acks }) (kept : store ≡ record old { journal = store.journal; acks = store.acks }) where
      abbrev new : Life Dir
      new = record life { store = store; dealer = Some now }

      live_is : (acks : List ((ℕ × ℕ) × List ℕ)) (its : Option live.Dealer) → maps.entries store.acks ≡ acks → Some (dealer_of now) ≡ its
          → live_of beside fence new ≡ record st { records = record st.records { acks = acks }; participation = record st.participation { dealer = its } }
      live_is acks its is_acks is_its = λ i. record st {
        records = record {
          dealings = maps.entries (ap (λ (s : Store Dir). s.dealings) (kept ∙ same_rest) i);
          acks = is_acks i;
          logs = maps.entries (ap (λ (s : Store Dir). s.logs) (kept ∙ same_rest) i);
        };
        participation = record st.participation { dealer = is_its i; current = ap (λ (s : Store Dir). s.current) (kept ∙ same_rest) i };
      }
        where
          same_rest : record old { journal = store.journal; acks = store.acks } ≡ record life.store { journal = store.journal; acks = store.acks }
          same_rest = λ i. record (sym stored i) { journal = store.journal; acks = store.acks }

      same_acks : life.store.acks ≡ old.acks
      same_acks = ap (λ (s : Store Dir). s.acks) stored

      -- what a life has in memory behind it
      acked_live : (c r : Bool) → now.acks ≡ if_made (Some (not c)) (insert dealer.acks from ack) dealer.acks
          → store.acks ≡ if_made (Some (not (c || r))) (insert old.acks (epoch, from) ack) old.acks
          → live_of beside fence new ≡ counted_in dealer.round (dealer_of dealer) from ack st c r
      acked_live true r counts records =
          live_is (maps.entries life.store.acks) (option_map dealer_of life.dealer) (ap maps.entries (records ∙ sym same_acks))
          (ap (λ (x : Dealer). Some (dealer_of x)) (same ∙ (λ i. record dealer { acks = counts i })) ∙ ap (λ (o : Option Dealer). option_map dealer_of o) (sym has))
      acked_live false true counts records =
          live_is (maps.entries life.store.acks) (Some (record (dealer_of dealer) { acks = with_pair (from, ack) (maps.entries dealer.acks) })) (ap maps.entries (records ∙ sym same_acks))
          (ap (λ (x : Dealer). Some (dealer_of x)) same ∙ (λ i. Some (record (dealer_of dealer) { acks = (ap maps.entries counts ∙ counts_one from ack dealer.acks) i })))
      acked_live false false counts records =
          live_is (put key_cmp (dealer.round.number, from) ack (maps.entries life.store.acks)) (Some (record (dealer_of dealer) { acks = with_pair (from, ack) (maps.entries dealer.acks) }))
          (ap maps.entries records ∙ records_one (epoch, from) ack old.acks ∙ (λ i. put key_cmp (sym number i, from) ack (maps.entries (sym same_acks i))))
          (ap (λ (x : Dealer). Some (dealer_of x)) same ∙ (λ i. Some (record (dealer_of dealer) { acks = (ap maps.entries counts ∙ counts_one from ack dealer.acks) i })))

      -- IT PASSED
      module _ (check : Result (Unit {0}) AckError) (outcome : AckOutcome) (counts : now.acks ≡ if_made (Some (not counted)) (insert dealer.acks from ack) dealer.acks)
          (records : store.acks ≡ if_made (Some (not (counted || recorded))) (insert old.acks (epoch, from) ack) old.acks)
        where
          pub ack_made : {files files_now : Files} {image next : Files → Type 0} {old mid : Moment}
              → MakesAt (of_store check) (went (Ok outcome)) files image files_now next old mid
              → MakesAt (on_devices (course check)) (went (live_of beside fence new)) files image files_now next old mid
          ack_made {files} {files_now} {image} {next} {old} {mid} first =
              subst (λ (x : Acts Fault (Live Dir)). MakesAt x (went (live_of beside fence new)) files image files_now next old mid) (sym (course_is check))
              (makes_next (answered dealer.round (dealer_of dealer) from ack st counted recorded) first (makes_nothing files_now next mid (acked_live counted recorded counts records)))

          pub ack_said : (out : List Entry) → check ≡ Ok tt → Said (on_devices (course check)) (went (live_of beside fence new)) out out
          ack_said out passed =
              subst (λ (x : Live Dir). Said (on_devices (course check)) (went x) out out) (sym (acked_live counted recorded counts records))
              (subst (λ (x : Acts Fault (Live Dir)). Said x (went (counted_in dealer.round (dealer_of dealer) from ack st counted recorded)) out out) (sym (course_is check))
              (subst (λ (x : Result (Unit {0}) AckError). Said (acts_of.bind (of_store x) (answered dealer.round (dealer_of dealer) from ack st counted recorded)) (went (counted_in dealer.round (dealer_of dealer) from ack st counted recorded)) out out)
              (sym passed) (counted_said dealer.round (dealer_of dealer) from ack st epoch counted recorded out)))

    -- IT WAS REFUSED, and the line was told or found no memory
    module _ (check : Result (Unit {0}) AckError) (why : AckError) (new : Life Dir) (untouched : new ≡ life) (result : Result (Unit {0}) Stop) {mid now : List Entry}
        (told : OnOk result (now ≡ mid ++ Blocked from (dealing.why_ack why) ∷ [])) (untold : OnErr result (now ≡ mid)) (memory : IfErr result (λ stop. stop ≡ Faulted NoMemory))
      where
        pub refused_made : {files files_now : Files} {image next : Files → Type 0} {old : Moment} {s : Secrets} {f : Burn}
            → MakesAt (of_store check) (went (Err why)) files image files_now next old (moment mid s f)
            → MakesAt (on_devices (course check)) (ends_in (live_of beside fence new) result) files image files_now next old (moment now s f)
        refused_made {files} {files_now} {image} {next} {old} {s} {f} first =
            subst (λ (x : Life Dir). MakesAt (on_devices (course check)) (ends_in (live_of beside fence x) result) files image files_now next old (moment now s f)) (sym untouched)
            (subst (λ (x : Acts Fault (Live Dir)). MakesAt x (ends_in st result) files image files_now next old (moment now s f)) (sym (course_is check))
            (makes_next (answered dealer.round (dealer_of dealer) from ack st counted recorded) first (line_makes (Blocked from (dealing.why_ack why)) st result files_now next s f told untold memory)))

        pub refused_said : check ≡ Err why → Said (on_devices (course check)) (ends_in (live_of beside fence new) result) mid now
        refused_said is =
            subst (λ (x : Life Dir). Said (on_devices (course check)) (ends_in (live_of beside fence x) result) mid now) (sym untouched)
            (subst (λ (x : Result (Unit {0}) AckError). Said (on_devices (course x)) (ends_in st result) mid now) (sym is)
            (line_said (Blocked from (dealing.why_ack why)) st result told untold memory))

    -- THE STORE FAILED
    pub ack_stopped : (check : Result (Unit {0}) AckError) (stop : Stop) {files files_now : Files} {image next : Files → Type 0} {old mid : Moment}
        → MakesAt (of_store check) (by_stop stop) files image files_now next old mid
        → MakesAt (on_devices (course check)) (by_stop stop) files image files_now next old mid
    ack_stopped check stop {files} {files_now} {image} {next} {old} {mid} first =
        subst (λ (x : Acts Fault (Live Dir)). MakesAt x (by_stop stop) files image files_now next old mid) (sym (course_is check))
        (makes_early (answered dealer.round (dealer_of dealer) from ack st counted recorded) stop first)

-- A PEER'S

module _ {Dir : Type 0} (c : Fixed Dir) (round : Round) (from : ℕ) (ack : List ℕ) (beside : Beside Dir) (fence : Readiness) (life : Life Dir) (dealer : Dealer) (check_ack_of : CheckAckOf)
    (has : life.dealer ≡ Some dealer) (k : c.rules.check_ack_of ≡ check_ack_of) (m : c.me ≡ dealer.me) (r : round ≡ dealer.round)
  where
    abbrev hears : Course Dir Fault (Live Dir)
    hears = dealing.hears_ack c round (option_map dealer_of life.dealer) from ack (live_of beside fence life)

    abbrev its_check : Result (Unit {0}) AckError
    its_check = check_ack_of dealer.round dealer.me dealer.public from ack

    hears_is : hears ≡ dealing.checked_ack dealer.round (dealer_of dealer) from ack (live_of beside fence life) its_check
    hears_is =
        ap (λ (o : Option Dealer). dealing.hears_ack c round (option_map dealer_of o) from ack (live_of beside fence life)) has
        ∙ (λ i. dealing.checked_ack (r i) (dealer_of dealer) from ack (live_of beside fence life) (k i (r i) (m i) dealer.public from ack))

    pub hears_made : (how : Ended Fault (Live Dir)) {files files_now : Files} {image next : Files → Type 0} {old new : Moment}
        → MakesAt (on_devices (dealing.checked_ack dealer.round (dealer_of dealer) from ack (live_of beside fence life) its_check)) how files image files_now next old new
        → MakesAt (on_devices hears) how files image files_now next old new
    hears_made how {files} {files_now} {image} {next} {old} {new} made = subst (λ (x : Course Dir Fault (Live Dir)). MakesAt (on_devices x) how files image files_now next old new) (sym hears_is) made

    pub hears_said : (how : Ended Fault (Live Dir)) {out now : List Entry} → Said (on_devices (dealing.checked_ack dealer.round (dealer_of dealer) from ack (live_of beside fence life) its_check)) how out now
        → Said (on_devices hears) how out now
    hears_said how {out} {now} said = subst (λ (x : Course Dir Fault (Live Dir)). Said (on_devices x) how out now) (sym hears_is) said
