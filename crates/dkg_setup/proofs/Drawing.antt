-- How a round is drawn up, and the dealer and the player are made.
use Rattle.std.proofs.Common.{◌≡◌, inl, inr, ℕ, ◌+◌, ◌≤◌, nat_lt, [], ◌∷◌, ◌++◌, ◌==◌, Bool, true, false, List, length, Option, Some, None, Result, Ok, Err, refl, sym, ◌∙◌, ap, subst, arith}
use Rattle.std.specs.Prelude.{IfErr, IfOk, IsSome, OnOk, option_map, if◌then◌else◌}
use Rattle.std.specs.Option.{option_map_or}
use Rattle.std.proofs.lemmas.Bool.Decides.{nat_tests}
use Rattle.dkg_ceremony.specs.declared.output.Output.{Output}
use Rattle.dkg_ceremony.specs.declared.phase.Phase.{Phase}
use Rattle.dkg_ceremony.specs.declared.round.RoundParts.{RoundParts as Round}
use Rattle.dkg_ceremony.specs.declared.round.RoundError.{RoundError}
use Rattle.dkg_infos.specs.declared.fault.Fault.{Fault}
use Rattle.dkg_infos.specs.declared.entry.Entry.{Entry}
use Rattle.dkg_infos.specs.declared.entry.Entry.TheVariants.{Setup}
use Rattle.dkg_infos.specs.declared.fault.Fault.TheVariants.{InvalidParticipants, LocalState, NoMemory}
use Rattle.dkg_infos.specs.declared.fault.LocalCause.TheVariants.{ShareRefused, StoredDealing}
use Rattle.dkg_infos.specs.declared.info.EpochInfo.{EpochInfo}
use Rattle.dkg_infos.specs.declared.fault.ParticipantsCause.TheVariants.{Round as NoRound}
use Rattle.dkg_infos.specs.declared.fault.Fault.TheVariants.{WrongEpoch}
use Rattle.dkg_infos.specs.declared.participants.Participants.{Participants}
use Rattle.dkg_infos.specs.declared.participants.ParticipantsError.{ParticipantsError}
use Rattle.dkg_infos.specs.declared.participants.ParticipantsError.TheVariants.{EmptyDealers, EmptyPlayers, TooManyParticipants}
use Rattle.dkg_infos.specs.Validation.{previous_validation, validation}
use Rattle.dkg_store.specs.declared.dealer.Dealer.{Dealer}
use Rattle.dkg_store.specs.declared.player.Player.{Player}
use Rattle.dkg_store.specs.Acts.{Ended, Runs, World, went}
use Rattle.dkg_core.specs.Asked.{IsEmptied}
use Rattle.dkg_core.specs.Courses.{Course, Goes, Say, Stops, on_devices}
use Rattle.dkg_core.specs.Fixed.{Fixed}
use Rattle.dkg_core.specs.Live.{Live, awaited_height, phase_of, with_participation}
use Rattle.dkg_core.specs.Setup as setup
use Rattle.dkg_core.specs.Sources.{Tip}
use Rattle.dkg_life.specs.declared.config.Terms.{Terms}
use Rattle.dkg_life.specs.declared.stop.Stop.{Stop}
use Rattle.dkg_life.specs.declared.stop.Stop.TheVariants.{Fault as Faulted}
use Rattle.dkg_life.specs.Ends.{IsCaused, by_stop, ends_in}
use Rattle.dkg_life.specs.Given.{IsOf}
use Rattle.dkg_fence.specs.Readiness.{Readiness}
use Rattle.dkg_life.specs.declared.life.Life.{Life}
use Rattle.dkg_life.specs.LiveOf.{Beside, IsDealing, PlayerSits, IsRoundWithin, dealer_of, live_of, seat_of}
use Rattle.dkg_life.specs.Made.{Speaks}
use Rattle.dkg_life.specs.Rules.{AckOf, CheckAckOf, DealOf, DealsBy, RoundOf, SignLogOf}
use Rattle.dkg_life.specs.Steps.{IsFaultOrWant, MakesDealer, MakesPlayer, StandsIn, no_round, refusal_of, refused_by, stage_begun_in}
use Rattle.dkg_life.proofs.Speaking.{gives_speaks, says_speaks, wants_speaks}

module _ {Dir : Type 0} (c : Fixed Dir) (p : Participants) (output : Output) (share : Option ℕ) (seed : List ℕ) (st : Live Dir) where
  abbrev its_phase : Phase
  its_phase = phase_of c (awaited_height st)

  abbrev its_round : Result Round RoundError
  its_round = c.rules.round_of c.namespace st.participation.epoch (Some output) c.mode c.reveal p.dealers p.players

  pub drawn : (round : Round) → its_round ≡ Ok round → setup.draws_up c p (Some output) share seed st ≡ setup.in_round c its_phase share seed st (Ok round)
  drawn round is = ap (setup.in_round c its_phase share seed st) is

  pub not_drawn : (e : RoundError) → its_round ≡ Err e → setup.draws_up c p (Some output) share seed st ≡ Stops (InvalidParticipants (NoRound e))
  not_drawn e is = ap (setup.in_round c its_phase share seed st) is

-- A line was told, and then no memory was found.
said_then_want : {Dir S : Type 0} (course : Course Dir Fault S) (line : Entry) (its : S) → course ≡ Say line (Goes its) → (stop : Stop) → stop ≡ Faulted NoMemory
    → (out now : List Entry) → now ≡ out ++ line ∷ [] → Speaks course (by_stop stop) out now
said_then_want {Dir} {S} course line its is stop want out now told = λ h f.
    let w : List Entry → World = λ l. record { out = l; held = h; fuse = f } in
    subst (λ (x : Course Dir Fault S). Runs (on_devices x) (by_stop stop) (w out) (w now)) (sym is)
    (subst (λ (how : Ended Fault S). Runs (on_devices {Dir = Dir} (Say line (Goes its))) how (w out) (w now)) (sym (ap (λ (s : Stop). by_stop {S = S} s) want)) (inr (tt, ap w told)))

-- DRAWN UP BY AN ACTOR of these terms, at this phase

module _ {Dir : Type 0} (c : Fixed Dir) (terms : Terms) (of : IsOf terms c) (round_of : RoundOf) (round_is : c.rules.round_of ≡ round_of)
    (info : EpochInfo Dir) (share : Option ℕ) (seed : List ℕ) (st : Live Dir) (out : List Entry)
  where
    abbrev asked : Result Round RoundError
    asked = round_of terms.namespace st.participation.epoch (Some info.output) terms.mode terms.reveal info.output.players info.players

    abbrev course : Course Dir Fault (Live Dir)
    course = setup.draws_up c (setup.participants_of info) (Some info.output) share seed st

    asked_is : its_round c (setup.participants_of info) info.output share seed st ≡ asked
    asked_is = λ i. round_is i (of.namespace i) st.participation.epoch (Some info.output) (of.mode i) (of.reveal i) info.output.players info.players

    drawn_as : (round : Round) → asked ≡ Ok round → (phase : Phase) → StandsIn c st phase → course ≡ setup.in_round c phase share seed st (Ok round)
    drawn_as round is phase stands =
        drawn c (setup.participants_of info) info.output share seed st round (asked_is ∙ is) ∙ ap (λ (p : Phase). setup.in_round c p share seed st (Ok round)) (sym stands)

    -- no round was drawn up
    not_round : (stop : Stop) (r : Result Round RoundError) → asked ≡ r → IsFaultOrWant (no_round r) stop → Speaks course (by_stop stop) out out
    not_round stop (Ok round) is want = wants_speaks course stop want out out refl
    not_round stop (Err e) is (inl want) = wants_speaks course stop want out out refl
    not_round stop (Err e) is (inr ends) =
        gives_speaks course stop (InvalidParticipants (NoRound e)) ends (not_drawn c (setup.participants_of info) info.output share seed st e (asked_is ∙ is)) refl out

    pub round_failed : (stop : Stop) → IsFaultOrWant (no_round asked) stop → Speaks course (by_stop stop) out out
    round_failed stop ends = not_round stop asked refl ends

    module _ (round : Round) (is : asked ≡ Ok round) (phase : Phase) (stands : StandsIn c st phase) where
      -- no dealer was made
      pub dealer_failed : (stop : Stop) → MakesDealer c round phase share seed st (Err stop) → Speaks course (by_stop stop) out out
      dealer_failed stop (inl want) = wants_speaks course stop want out out refl
      dealer_failed stop (inr a) = gives_speaks course stop (LocalState (ShareRefused round.number)) a.0 (drawn_as round is phase stands ∙ a.1) refl out

      module _ (dealer : Option Dealer) (dealt : MakesDealer c round phase share seed st (Ok dealer)) where
        player_as : course ≡ setup.makes_player c round phase (option_map dealer_of dealer) st
        player_as = drawn_as round is phase stands ∙ dealt

        -- no player was made
        pub player_failed : (stop : Stop) → MakesPlayer c round phase (option_map dealer_of dealer) st (Err stop) → Speaks course (by_stop stop) out out
        player_failed stop (inl want) = wants_speaks course stop want out out refl
        player_failed stop (inr a) = gives_speaks course stop (LocalState (StoredDealing round.number a.0)) a.1 (player_as ∙ a.3) refl out

        module _ (player : Option Player) (made : MakesPlayer c round phase (option_map dealer_of dealer) st (Ok player)) (now : List Entry)
            (told : now ≡ out ++ Setup st.participation.epoch phase (setup.part_of (option_map dealer_of dealer) (seat_of player)) ∷ [])
          where
            abbrev line : Entry
            line = Setup st.participation.epoch phase (setup.part_of (option_map dealer_of dealer) (seat_of player))

            abbrev its_end : Live Dir
            its_end = setup.in_stage c phase (with_participation (record st.participation { round = Some round; dealer = option_map dealer_of dealer; seat = seat_of player }) st)

            -- the line was told
            line_drawn : (end : Live Dir) → end ≡ its_end → Speaks course (went end) out now
            line_drawn end same = says_speaks course line end its_end (player_as ∙ made) same out now told

            -- .. and no memory was found for what follows
            stage_failed : (stop : Stop) → stop ≡ Faulted NoMemory → Speaks course (by_stop stop) out now
            stage_failed stop want = said_then_want course line its_end (player_as ∙ made) stop want out now told

            pub stage_ended : (end : Live Dir) (r : Result (Unit {0}) Stop) → OnOk r (end ≡ its_end) → IfErr r (λ stop. stop ≡ Faulted NoMemory) → Speaks course (ends_in end r) out now
            stage_ended end (Ok done) same want = line_drawn end same
            stage_ended end (Err stop) same want = stage_failed stop want

-- A round has what was asked for.
pub players_of : (r : Result Round RoundError) (whole : Round) → IfOk r (λ its. its ≡ whole) → (round : Round) → r ≡ Ok round → round.players ≡ whole.players
players_of r whole has round is = ap (λ (its : Round). its.players) (let P : Result Round RoundError → Type 0 = λ q. IfOk q (λ its. its ≡ whole) in subst P is has)

pub stands_on : {Dir : Type 0} (c : Fixed Dir) (old new : Live Dir) (phase : Phase) → new.tip ≡ old.tip → StandsIn c old phase → StandsIn c new phase
stands_on c old new phase same stands = stands ∙ ap (λ (tip : Option Tip). phase_of c (option_map_or (λ t. t.height + 1) tip 0)) (sym same)

-- HOW MANY PLAY

not_over : (max count : ℕ) → nat_lt max count ≡ false → count ≤ max
not_over max count is = grind (arith, nat_tests, is)

valid_in : (p : Participants) (max : ℕ) (a b d e : Bool) (rest : Result (Unit {0}) ParticipantsError)
    → (if a then Err EmptyDealers else if b then Err EmptyPlayers else if d then Err (TooManyParticipants (length p.dealers) max)
    else if e then Err (TooManyParticipants (length p.players) max) else rest) ≡ Ok tt → e ≡ false
valid_in p max true b d e rest is = absurd cc
valid_in p max false true d e rest is = absurd cc
valid_in p max false false true e rest is = absurd cc
valid_in p max false false false true rest is = absurd cc
valid_in p max false false false false rest is = refl

valid_players : (p : Participants) (max : ℕ) (previous : Option Output) (round : ℕ) → validation p max previous round ≡ Ok tt → length p.players ≤ max
unfolding validation
valid_players p max previous round is =
    not_over max (length p.players) (valid_in p max (length p.dealers == 0) (length p.players == 0) (nat_lt max (length p.dealers)) (nat_lt max (length p.players))
    (if nat_lt max (length p.next_players) then Err (TooManyParticipants (length p.next_players) max) else previous_validation p.dealers previous round) is)

judged_in : {Dir : Type 0} (epoch : ℕ) (info : EpochInfo Dir) (same : Bool) (valid : Result (Unit {0}) ParticipantsError)
    → (if same then refused_by valid else Some (WrongEpoch epoch info.epoch)) ≡ None → valid ≡ Ok tt
judged_in epoch info true (Ok tt) none = refl
judged_in epoch info true (Err e) none = absurd cc
judged_in epoch info false valid none = absurd cc

-- Of an info that passed, the players are no more than the limit.
pub few_players : {Dir : Type 0} (epoch limit : ℕ) (info : EpochInfo Dir) → refusal_of epoch limit info ≡ None → (players : List ℕ) → players ≡ info.players → length players ≤ limit
few_players epoch limit info none players is =
    subst (λ (l : List ℕ). length l ≤ limit) (sym is)
    (valid_players (setup.participants_of info) limit (Some info.output) info.epoch
    (judged_in epoch info (info.epoch == epoch) (validation (setup.participants_of info) limit (Some info.output) info.epoch) none))

-- what holds of a life behind it
pub sits_drawn : {Dir : Type 0} (ack_of : AckOf) (deal_of : DealOf) (check_ack_of : CheckAckOf) (me key : ℕ) → me ≡ key → (limit : ℕ) (phase : Phase) (new : Life Dir) (r : Result (Unit {0}) Stop)
    → PlayerSits ack_of me new → OnOk r (IsDealing deal_of check_ack_of key new) → IsRoundWithin limit new.round → IsSome new.round → OnOk r (new.stage ≡ stage_begun_in phase)
    → OnOk r (PlayerSits ack_of me new × IsDealing deal_of check_ack_of me new × IsRoundWithin limit new.round × IsSome new.round × (new.stage ≡ stage_begun_in phase))
sits_drawn ack_of deal_of check_ack_of me key same limit phase new (Ok done) seated dealing within joins stage = (seated, subst (λ (k : ℕ). IsDealing deal_of check_ack_of k new) (sym same) dealing, within, joins, stage)
sits_drawn ack_of deal_of check_ack_of me key same limit phase new (Err stop) seated dealing within joins stage = tt

-- what is in memory, where the stage began
pub begun_here : {Dir : Type 0} (c : Fixed Dir) (beside : Beside Dir) (fence : Readiness) (phase : Phase) (old new : Life Dir) (key : ℕ) (deal_of : DealOf) (check_ack_of : CheckAckOf) (sign_log_of : SignLogOf) (r : Result (Unit {0}) Stop)
    → OnOk r ((f : Fixed Dir) (b : Beside Dir) (w : Readiness) → IsEmptied b.inclusion → f.me ≡ key → DealsBy deal_of check_ack_of sign_log_of f.rules → live_of b w new ≡ setup.in_stage f phase (live_of b w old))
    → IsEmptied beside.inclusion → c.me ≡ key → DealsBy deal_of check_ack_of sign_log_of c.rules → OnOk r (live_of beside fence new ≡ setup.in_stage c phase (live_of beside fence old))
begun_here c beside fence phase old new key deal_of check_ack_of sign_log_of (Ok done) begun fresh mine deals = begun c beside fence fresh mine deals
begun_here c beside fence phase old new key deal_of check_ack_of sign_log_of (Err stop) begun fresh mine deals = tt

-- Want of memory blames no device.
pub causes_none : {T : Type 0} (r : Result T Stop) → IfErr r (λ stop. stop ≡ Faulted NoMemory) → IfErr r (λ stop. IsCaused stop ⊥ ⊥ ⊥)
causes_none (Ok x) want = tt
causes_none (Err stop) want = let R : Stop → Type 0 = λ s. IsCaused s ⊥ ⊥ ⊥ in subst R (sym want) tt
