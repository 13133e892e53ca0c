-- A dealing of the round that is dealt: what a life makes of it is what the relation says.
use Rattle.std.proofs.Common.{◌≡◌, ◌++◌, ◌∷◌, [], ℕ, List, Some, Result, refl, sym, ◌∙◌, ap}
use Rattle.std.specs.Prelude.{OnOk, OnErr, IfErr}
use Rattle.std.specs.FinMap.{get}
use Rattle.dkg_ceremony.specs.declared.ceremony.DealingError.{DealingError}
use Rattle.dkg_ceremony.specs.declared.round.RoundParts.{RoundParts as Round}
use Rattle.dkg_fence.specs.Readiness.{Readiness}
use Rattle.dkg_journal.specs.Burn.{Burn}
use Rattle.dkg_journal.specs.Names.{Files}
use Rattle.dkg_infos.specs.declared.entry.Entry.{Entry}
use Rattle.dkg_infos.specs.declared.fault.Fault.{Fault}
use Rattle.dkg_infos.specs.declared.fault.Fault.TheVariants.{NoMemory}
use Rattle.dkg_store.specs.Acts.{Acts, Moment, moment, went}
use Rattle.dkg_store.specs.Rest.{SameRest}
use Rattle.dkg_secrets.specs.Secrets.{Secrets}
use Rattle.dkg_store.specs.declared.player.Player.{Player}
use Rattle.dkg_store.specs.declared.store.Store.{Store}
use Rattle.dkg_core.specs.Courses.{Course, on_devices}
use Rattle.dkg_core.specs.Dealing as dealing
use Rattle.dkg_core.specs.Fixed.{Fixed}
use Rattle.dkg_core.specs.Live.{Live}
use Rattle.dkg_life.specs.declared.config.Terms.{Terms}
use Rattle.dkg_life.specs.declared.life.Life.{Life}
use Rattle.dkg_life.specs.declared.stop.Stop.{Stop}
use Rattle.dkg_life.specs.declared.stop.Stop.TheVariants.{Fault as Faulted}
use Rattle.dkg_life.specs.Ends.{by_stop, ends_in}
use Rattle.dkg_life.specs.Given.{IsOf}
use Rattle.dkg_life.specs.Heard.{player_answers, pairs_after, round_dealt}
use Rattle.dkg_life.specs.LiveOf.{Beside, PlayerSits, Sits, SitsAt, live_of, seat_of}
use Rattle.dkg_life.specs.Made.{MakesAt}
use Rattle.dkg_life.specs.Rules.{AckOf, AnswersBy, CheckAckOf, DealingOf}
use Rattle.dkg_core.specs.Said.{Said}
use Rattle.dkg_life.specs.Steps.{told_by}
use Rattle.dkg_dealing.proofs.Hearing.{dealing_made, dealing_said, dealing_stopped, dealing_unsaid, ends_at}
use Rattle.dkg_life.proofs.Seated.{at_some, round_is, sits_at}

module _ {Dir : Type 0} (dealing_of : DealingOf) (ack_of : AckOf) (its : ℕ) (terms : Terms) (old : Life Dir) (player : Player) (epoch from : ℕ) (public : List ℕ) (private : ℕ)
    (is : old.player ≡ Some player) (seated : PlayerSits ack_of terms.me old) (mine : terms.me ≡ its) (dealt : round_dealt old ≡ Some epoch)
  where
    sits : Sits ack_of terms.me old player
    sits = at_some (Sits ack_of terms.me old) old.player player is seated

    -- the player is of the round that is dealt
    pub of_round : SitsAt ack_of its epoch old.store player
    of_round = sits_at ack_of terms.me its old player sits mine epoch dealt

    abbrev its_acts : Acts Fault (Result (List ℕ) DealingError)
    its_acts = player_answers dealing_of ack_of player.me player.round (get old.store.dealings (epoch, from)) epoch from public private

    module _ (c : Fixed Dir) (round : Round) (beside : Beside Dir) (fence : Readiness) (of : IsOf terms c) {check_ack_of : CheckAckOf} (by : AnswersBy dealing_of ack_of check_ack_of c.rules) (has : old.round ≡ Some round) where
      abbrev course : Course Dir Fault (Live Dir)
      course = dealing.seats_dealing_in c round from public private (live_of beside fence old) (seat_of old.player)

      mine_is : c.me ≡ player.me
      mine_is = of.me ∙ sym sits.sits.me_is

      its_round : round ≡ player.round
      its_round = round_is ack_of terms.me its old player sits mine round has

      module _ (store : Store Dir) (now : Player) (rest : SameRest old.store store)
          (pairs : store.dealings ≡ pairs_after (get old.store.dealings (epoch, from)) (dealing_of player.round player.me from public private) (epoch, from) (public, private) old.store.dealings)
          (answer : Result (List ℕ) DealingError) (result : Result (Unit {0}) Stop)
        where
          abbrev new : Life Dir
          new = record old { store = store; player = Some now }

          pub heard_made : {files files_mid : Files} {image between : Files → Type 0} {old_moment : Moment} {mid told : List Entry} {s : Secrets} {f : Burn}
              → MakesAt its_acts (went answer) files image files_mid between old_moment (moment mid s f)
              → OnOk result (told ≡ mid ++ told_by epoch from answer ∷ []) → OnErr result (told ≡ mid) → IfErr result (λ stop. stop ≡ Faulted NoMemory)
              → MakesAt (on_devices course) (ends_in (live_of beside fence new) result) files image files_mid between old_moment (moment told s f)
          heard_made first line untold memory =
              dealing_made c round from public private beside fence old dealing_of ack_of player epoch by.dealing by.ack mine_is its_round of_round.number (ap seat_of is) new
              (ends_at c round from public private beside fence old dealing_of ack_of player epoch by.dealing by.ack mine_is its_round of_round.number (ap seat_of is) new refl rest (sym (ap seat_of is)) pairs)
              answer result first line untold memory

          pub heard_said : {out mid told : List Entry} → Said its_acts (went answer) out mid
              → OnOk result (told ≡ mid ++ told_by epoch from answer ∷ []) → OnErr result (told ≡ mid) → IfErr result (λ stop. stop ≡ Faulted NoMemory)
              → Said (on_devices course) (ends_in (live_of beside fence new) result) out told
          heard_said first line untold memory =
              dealing_said c round from public private beside fence old dealing_of ack_of player epoch by.dealing by.ack mine_is its_round of_round.number (ap seat_of is) new
              (ends_at c round from public private beside fence old dealing_of ack_of player epoch by.dealing by.ack mine_is its_round of_round.number (ap seat_of is) new refl rest (sym (ap seat_of is)) pairs)
              answer result first line untold memory

      pub heard_stopped : (stop : Stop) {files files_now : Files} {image now : Files → Type 0} {old_moment new_moment : Moment}
          → MakesAt its_acts (by_stop stop) files image files_now now old_moment new_moment → MakesAt (on_devices course) (by_stop stop) files image files_now now old_moment new_moment
      heard_stopped stop first =
          dealing_stopped c round from public private beside fence old dealing_of ack_of player epoch by.dealing by.ack mine_is its_round of_round.number (ap seat_of is) stop first

      pub heard_unsaid : (stop : Stop) {out now : List Entry} → Said its_acts (by_stop stop) out now → Said (on_devices course) (by_stop stop) out now
      heard_unsaid stop first =
          dealing_unsaid c round from public private beside fence old dealing_of ack_of player epoch by.dealing by.ack mine_is its_round of_round.number (ap seat_of is) stop first
