-- A dealing that is heard: the player's acts and then the line are the relation's.
use Rattle.std.proofs.Common.{◌≡◌, ◌++◌, ◌∷◌, [], ℕ, List, Option, Some, None, Result, Ok, Err, refl, sym, ◌∙◌, ap, subst}
use Rattle.std.specs.Prelude.{OnOk, OnErr, IfErr}
use Rattle.std.specs.FinMap as maps
use Rattle.std.specs.FinMap.{get, get-entries}
use Rattle.dkg_ceremony.specs.declared.ceremony.DealingError.{DealingError}
use Rattle.dkg_ceremony.specs.declared.round.RoundParts.{RoundParts as Round}
use Rattle.dkg_fence.specs.Readiness.{Readiness}
use Rattle.dkg_journal.specs.Burn.{Burn}
use Rattle.dkg_journal.specs.Names.{Files}
use Rattle.dkg_infos.specs.declared.entry.Entry.{Entry}
use Rattle.dkg_infos.specs.declared.fault.Fault.{Fault}
use Rattle.dkg_infos.specs.declared.fault.Fault.TheVariants.{NoMemory}
use Rattle.dkg_store.specs.Acts as acts_of
use Rattle.dkg_store.specs.Acts.{Acts, went, Moment, moment}
use Rattle.dkg_store.specs.Rest.{SameRest}
use Rattle.dkg_secrets.specs.Secrets.{Secrets}
use Rattle.dkg_store.specs.declared.player.Player.{Player}
use Rattle.dkg_core.specs.Courses.{Course, on_devices}
use Rattle.dkg_core.specs.Dealing as dealing
use Rattle.dkg_core.specs.Fixed.{Fixed}
use Rattle.dkg_core.specs.Live.{Live, Plays, Seat, recorded_at}
use Rattle.dkg_core.proofs.Agreeing.{put_same}
use Rattle.dkg_life.specs.declared.life.Life.{Life}
use Rattle.dkg_life.specs.declared.stop.Stop.{Stop}
use Rattle.dkg_life.specs.declared.stop.Stop.TheVariants.{Fault as Faulted}
use Rattle.dkg_life.specs.Ends.{by_stop, ends_in}
use Rattle.dkg_life.specs.Heard.{player_answers, pairs_after}
use Rattle.dkg_life.specs.Made.{MakesAt}
use Rattle.dkg_life.specs.LiveOf.{Beside, live_of, seat_of}
use Rattle.dkg_life.specs.Rules.{AckOf, DealingOf}
use Rattle.dkg_core.specs.Said.{Said}
use Rattle.dkg_life.specs.Steps.{told_by}
use Rattle.dkg_life.proofs.Burning.{line_makes, makes_early, makes_next}
use Rattle.dkg_life.proofs.Lines.{line_said}
use Rattle.dkg_life.proofs.Said.{said_next, said_early}

module _ {Dir : Type 0} (c : Fixed Dir) (round : Round) (from : ℕ) (public : List ℕ) (private : ℕ) (st : Live Dir) where
  -- what is in memory then
  abbrev pub heard : Option (List ℕ × ℕ) → Result (Unit {0}) DealingError → Live Dir
  heard (Some kept) check = st
  heard None (Err e) = st
  heard None (Ok passed) = dealing.with_dealing_of round.number from public private st

  abbrev its_check : Result (Unit {0}) DealingError
  its_check = c.rules.dealing_of round c.me from public private

  checked_as : (check : Result (Unit {0}) DealingError) → on_devices (dealing.checked_dealing c round from public private st check)
      ≡ acts_of.bind (player_answers (λ r me d p q. check) c.rules.ack_of c.me round None round.number from public private) (λ a. acts_of.Say (told_by round.number from a) (acts_of.Goes (heard None check)))
  checked_as (Err e) = refl
  checked_as (Ok passed) = refl

  hears_as : (known : Option (List ℕ × ℕ)) → on_devices (dealing.hears_dealing_in c round from public private st known)
      ≡ acts_of.bind (player_answers c.rules.dealing_of c.rules.ack_of c.me round known round.number from public private) (λ a. acts_of.Say (told_by round.number from a) (acts_of.Goes (heard known its_check)))
  hears_as (Some kept) = refl
  hears_as None = checked_as its_check

-- what a life has in memory behind it
pub heard_live : {Dir : Type 0} (c : Fixed Dir) (round : Round) (from : ℕ) (public : List ℕ) (private : ℕ) (beside : Beside Dir) (fence : Readiness) (old new : Life Dir)
    → new ≡ record old { store = new.store; player = new.player } → SameRest old.store new.store → seat_of new.player ≡ seat_of old.player
    → (known : Option (List ℕ × ℕ)) (check : Result (Unit {0}) DealingError)
    → new.store.dealings ≡ pairs_after known check (round.number, from) (public, private) old.store.dealings
    → live_of beside fence new ≡ heard c round from public private (live_of beside fence old) known check
heard_live {Dir} c round from public private beside fence old new same rest seat known check pairs =
    ap (live_of beside fence) same ∙ by_records known check (ap maps.entries pairs)
  where
    with_records : (dealings : List ((ℕ × ℕ) × (List ℕ × ℕ))) → maps.entries new.store.dealings ≡ dealings
        → live_of beside fence (record old { store = new.store; player = new.player })
        ≡ record (live_of beside fence old) { records = record (live_of beside fence old).records { dealings = dealings } }
    with_records dealings is = λ i. record (live_of beside fence old) {
      records = record { dealings = is i; acks = maps.entries (rest.acks i); logs = maps.entries (rest.logs i) };
      participation = record (live_of beside fence old).participation { seat = seat i; current = rest.current i };
    }

    by_records : (known : Option (List ℕ × ℕ)) (check : Result (Unit {0}) DealingError)
        → maps.entries new.store.dealings ≡ maps.entries (pairs_after known check (round.number, from) (public, private) old.store.dealings)
        → live_of beside fence (record old { store = new.store; player = new.player }) ≡ heard c round from public private (live_of beside fence old) known check
    by_records (Some kept) check is = with_records _ is
    by_records None (Err e) is = with_records _ is
    by_records None (Ok passed) is = with_records _ (is ∙ sym (put_same old.store.dealings (maps.entries old.store.dealings) (round.number, from) (public, private) refl))

module _ {Dir : Type 0} (c : Fixed Dir) (round : Round) (from : ℕ) (public : List ℕ) (private : ℕ) (beside : Beside Dir) (fence : Readiness) (old : Life Dir)
    (dealing_of : DealingOf) (ack_of : AckOf) (player : Player) (epoch : ℕ)
    (d : c.rules.dealing_of ≡ dealing_of) (a : c.rules.ack_of ≡ ack_of) (m : c.me ≡ player.me) (r : round ≡ player.round) (e : epoch ≡ player.round.number) (plays : seat_of old.player ≡ Plays)
  where
    abbrev st : Live Dir
    st = live_of beside fence old

    abbrev its : Acts Fault (Result (List ℕ) DealingError)
    its = player_answers dealing_of ack_of player.me player.round (get old.store.dealings (epoch, from)) epoch from public private

    number : round.number ≡ epoch
    number = ap (λ (q : Round). q.number) r ∙ sym e

    abbrev known : Option (List ℕ × ℕ)
    known = recorded_at st.records.dealings round.number from

    is_known : known ≡ get old.store.dealings (epoch, from)
    is_known = sym (get-entries old.store.dealings (round.number, from)) ∙ ap (λ (n : ℕ). get old.store.dealings (n, from)) number

    abbrev end : Live Dir
    end = heard c round from public private st known (its_check c round from public private st)

    abbrev course : Course Dir Fault (Live Dir)
    course = dealing.seats_dealing_in c round from public private st (seat_of old.player)

    course_is : on_devices course ≡ acts_of.bind its (λ x. acts_of.Say (told_by epoch from x) (acts_of.Goes end))
    course_is = ap (λ (s : Seat). on_devices (dealing.seats_dealing_in c round from public private st s)) plays
        ∙ hears_as c round from public private st known
        ∙ (λ i. acts_of.bind (player_answers (d i) (a i) (m i) (r i) (is_known i) (number i) from public private) (λ x. acts_of.Say (told_by (number i) from x) (acts_of.Goes end)))

    pub ends_at : (new : Life Dir) → new ≡ record old { store = new.store; player = new.player } → SameRest old.store new.store → seat_of new.player ≡ seat_of old.player
        → new.store.dealings ≡ pairs_after (get old.store.dealings (epoch, from)) (dealing_of player.round player.me from public private) (epoch, from) (public, private) old.store.dealings
        → live_of beside fence new ≡ end
    ends_at new same rest seat pairs =
        heard_live c round from public private beside fence old new same rest seat known (its_check c round from public private st)
        (pairs ∙ (λ i. pairs_after (sym is_known i) (sym d i (sym r i) (sym m i) from public private) (sym number i, from) (public, private) old.store.dealings))

    -- the player answered, and the line was told or found no memory
    pub dealing_made : (new : Life Dir) → live_of beside fence new ≡ end → (answer : Result (List ℕ) DealingError) (result : Result (Unit {0}) Stop)
        {files files_mid : Files} {image between : Files → Type 0} {old_moment : Moment} {mid now : List Entry} {s : Secrets} {f : Burn}
        → MakesAt its (went answer) files image files_mid between old_moment (moment mid s f)
        → OnOk result (now ≡ mid ++ told_by epoch from answer ∷ []) → OnErr result (now ≡ mid) → IfErr result (λ stop. stop ≡ Faulted NoMemory)
        → MakesAt (on_devices course) (ends_in (live_of beside fence new) result) files image files_mid between old_moment (moment now s f)
    dealing_made new live answer result {files} {files_mid} {image} {between} {old_moment} {mid} {now} {s} {f} first told untold memory =
        subst (λ (x : Live Dir). MakesAt (on_devices course) (ends_in x result) files image files_mid between old_moment (moment now s f)) (sym live)
        (subst (λ (x : Acts Fault (Live Dir)). MakesAt x (ends_in end result) files image files_mid between old_moment (moment now s f)) (sym course_is)
        (makes_next (λ x. acts_of.Say (told_by epoch from x) (acts_of.Goes end)) first (line_makes (told_by epoch from answer) end result files_mid between s f told untold memory)))

    pub dealing_said : (new : Life Dir) → live_of beside fence new ≡ end → (answer : Result (List ℕ) DealingError) (result : Result (Unit {0}) Stop)
        {out mid now : List Entry} → Said its (went answer) out mid
        → OnOk result (now ≡ mid ++ told_by epoch from answer ∷ []) → OnErr result (now ≡ mid) → IfErr result (λ stop. stop ≡ Faulted NoMemory)
        → Said (on_devices course) (ends_in (live_of beside fence new) result) out now
    dealing_said new live answer result {out} {mid} {now} first told untold memory =
        subst (λ (x : Live Dir). Said (on_devices course) (ends_in x result) out now) (sym live)
        (subst (λ (x : Acts Fault (Live Dir)). Said x (ends_in end result) out now) (sym course_is)
        (said_next (λ x. acts_of.Say (told_by epoch from x) (acts_of.Goes end)) first (line_said (told_by epoch from answer) end result told untold memory)))

    -- it did not answer
    pub dealing_stopped : (stop : Stop) {files files_now : Files} {image now : Files → Type 0} {old_moment new_moment : Moment}
        → MakesAt its (by_stop stop) files image files_now now old_moment new_moment
        → MakesAt (on_devices course) (by_stop stop) files image files_now now old_moment new_moment
    dealing_stopped stop {files} {files_now} {image} {now} {old_moment} {new_moment} first =
        subst (λ (x : Acts Fault (Live Dir)). MakesAt x (by_stop stop) files image files_now now old_moment new_moment) (sym course_is)
        (makes_early (λ x. acts_of.Say (told_by epoch from x) (acts_of.Goes end)) stop first)

    pub dealing_unsaid : (stop : Stop) {out now : List Entry} → Said its (by_stop stop) out now
        → Said (on_devices course) (by_stop stop) out now
    dealing_unsaid stop {out} {now} first =
        subst (λ (x : Acts Fault (Live Dir)). Said x (by_stop stop) out now) (sym course_is)
        (said_early (λ x. acts_of.Say (told_by epoch from x) (acts_of.Goes end)) stop first)
