-- What a setup leaves.
use Rattle.std.proofs.Common.{◌≡◌, ◌&&◌, ℕ, List, Bool, true, false, Option, Some, None, refl, sym, ◌∙◌, ap, subst}
use Rattle.std.specs.Prelude.{◌-◌, ◌==◌, ◌||◌, if◌then◌else◌, not, Result, Ok, Err, is_none, is_some, option_map, unwrap_or}
use Rattle.dkg_values.specs.Rising.{lookup}
use Rattle.dkg_ceremony.specs.declared.deal.DealError.{DealError}
use Rattle.dkg_ceremony.specs.declared.output.Output.{Output}
use Rattle.dkg_ceremony.specs.declared.phase.Phase.{Phase}
use Rattle.dkg_ceremony.specs.declared.phase.Phase.TheVariants.{Early, Midpoint, Late}
use Rattle.dkg_ceremony.specs.declared.round.RoundParts.{RoundParts as Round}
use Rattle.dkg_ceremony.specs.declared.round.RoundError.{RoundError}
use Rattle.dkg_ceremony.specs.Schedule.{epoch_of, boundary}
use Rattle.dkg_types.specs.Blocks.{Block}
use Rattle.dkg_types.specs.BlockCodes.{info_of}
use Rattle.dkg_infos.specs.declared.fault.Fault.TheVariants.{HeightRange, MissingEpochInfo, WrongEpoch}
use Rattle.dkg_infos.specs.declared.info.EpochInfo.{EpochInfo}
use Rattle.dkg_infos.specs.declared.participants.Participants.{Participants}
use Rattle.dkg_infos.specs.declared.participants.ParticipantsError.{ParticipantsError}
use Rattle.dkg_infos.specs.Validation.{validation}
use Rattle.dkg_core.specs.Courses.{Stops, bind, Deed}
use Rattle.dkg_core.specs.Fixed.{Fixed, has}
use Rattle.dkg_core.specs.Live.{Live, Dealer, Seat, Plays, Watches, awaited_height, phase_of, records_of_epoch}
use Rattle.dkg_core.specs.Logs.{logs_of}
use Rattle.dkg_core.specs.Setup as s
use Rattle.dkg_core.specs.Laws.{Law, Holds, Anything, IsCeremony, DealsValidly, IsSetUpFor, setup_law, SetupsAreSound}
use Rattle.dkg_core.proofs.Holding.{holds_bind, holds_if, holds_option}

same_some : {A : Type 0} (a b : A) → ◌≡◌ {A = Option A} (Some a) (Some b) → a ≡ b
same_some a b e = ap (λ (o : Option _). unwrap_or o a) e

not_some : {A : Type 0} (a : A) → ◌≡◌ {A = Option A} None (Some a) → ⊥
not_some a e = cc

pub first_of_three : (a b t : Bool) → (a && b && t) ≡ true → a ≡ true
first_of_three true b t e = refl
first_of_three false b t e = absurd (let no : ◌≡◌ {A = Bool} false true = e in cc)

-- the epoch is awaited, and no round is there yet
abbrev unset : {Dir : Type 0} → (epoch : ℕ) → Law Dir (Live Dir)
unset epoch = record { line = Anything; operation = Anything; end = λ past st. (st.participation.epoch ≡ epoch) × (st.participation.round ≡ None) }

module _ {Dir : Type 0} (c : Fixed Dir) (epoch : ℕ) (ceremony : IsCeremony c) where
  abbrev law : Law Dir (Live Dir)
  law = setup_law c epoch

  -- no round: nothing is asked
  bare : (st : Live Dir) → st.participation.epoch ≡ epoch → st.participation.round ≡ None → IsSetUpFor c epoch st
  bare st is none = record { awaits = is; round_is = λ round some. absurd (not_some round (sym none ∙ some)) }

  -- a log that is signed changes nothing of the dealing
  signed : (round : Round) (dealer : Option Dealer) → DealsValidly c round dealer → DealsValidly c round (option_map (s.signed c round) dealer)
  signed round None valid d private is plays found = absurd (not_some d is)
  signed round (Some dealer) valid d private is plays found =
      let same = same_some (s.signed c round dealer) d is in
      subst (λ (x : Dealer). c.rules.dealing_of round c.me c.me x.public private ≡ Ok tt) same
      (valid dealer private refl plays (subst (λ (x : Dealer). lookup c.me x.privates ≡ Some private) (sym same) found))

  -- the round that there is
  of_round : (round other : Round) (dealer : Option Dealer) → ◌≡◌ {A = Option Round} (Some round) (Some other) → round.number ≡ epoch → DealsValidly c round dealer → (other.number ≡ epoch) × DealsValidly c other dealer
  of_round round other dealer e number valid = subst (λ (r : Round). (r.number ≡ epoch) × DealsValidly c r dealer) (same_some round other e) (number, valid)

  takes_part : (past : List (Deed Dir)) (round : Round) (phase : Phase) (dealer : Option Dealer) (seat : Seat) (st : Live Dir) → st.participation.epoch ≡ epoch → round.number ≡ epoch → DealsValidly c round dealer
      → Holds law past (s.takes_part c round phase dealer seat st)
  takes_part past round Early dealer seat st is number valid = (tt, record { awaits = is; round_is = λ other e. of_round round other dealer e number valid })
  takes_part past round Midpoint dealer seat st is number valid = (tt, record { awaits = is; round_is = λ other e. of_round round other (option_map (s.signed c round) dealer) e number (signed round dealer valid) })
  takes_part past round Late dealer seat st is number valid = (tt, record { awaits = is; round_is = λ other e. of_round round other (option_map (s.signed c round) dealer) e number (signed round dealer valid) })

  sits_down : (past : List (Deed Dir)) (round : Round) (phase : Phase) (dealer : Option Dealer) (refused : Option ℕ) (st : Live Dir) → st.participation.epoch ≡ epoch → round.number ≡ epoch → DealsValidly c round dealer
      → Holds law past (s.sits_down c round phase dealer refused st)
  sits_down past round phase dealer None st is number valid = takes_part past round phase dealer Plays st is number valid
  sits_down past round phase dealer (Some refused) st is number valid = tt

  makes_player : (past : List (Deed Dir)) (round : Round) (phase : Phase) (dealer : Option Dealer) (st : Live Dir) → st.participation.epoch ≡ epoch → round.number ≡ epoch → DealsValidly c round dealer
      → Holds law past (s.makes_player c round phase dealer st)
  makes_player past round phase dealer st is number valid =
      holds_if law past (not (has round.players c.me) || s.is_lost c round (records_of_epoch round.number st.records.dealings) (logs_of st round.number))
      (s.takes_part c round phase dealer Watches st) (s.sits_down c round phase dealer (s.refused_in c round st) st)
      (λ e. takes_part past round phase dealer Watches st is number valid) (λ e. sits_down past round phase dealer (s.refused_in c round st) st is number valid)

  -- a dealer that is given up deals nothing
  kept : (phase : Phase) (round : Round) (d : Dealer) → DealsValidly c round (Some d) → DealsValidly c round (s.dealer_for phase round d)
  kept Early round d valid = valid
  kept Midpoint round d valid = elim (s.has_quorum round d) as (λ b. DealsValidly c round (if b then Some d else None)) [ true ↦ valid | false ↦ λ dealer private e plays found. absurd (not_some dealer e) ]
  kept Late round d valid = elim (s.has_quorum round d) as (λ b. DealsValidly c round (if b then Some d else None)) [ true ↦ valid | false ↦ λ dealer private e plays found. absurd (not_some dealer e) ]

  dealt_by : (past : List (Deed Dir)) (round : Round) (phase : Phase) (share : Option ℕ) (seed : List ℕ) (st : Live Dir) (dealt : Result (List ℕ × List (ℕ × ℕ)) DealError) → c.rules.deal_of round c.me share seed ≡ dealt
      → has round.dealers c.me ≡ true → st.participation.epoch ≡ epoch → round.number ≡ epoch → Holds law past (s.dealt_by c round phase st dealt)
  dealt_by past round phase share seed st (Err refused) gives member is number = tt
  dealt_by past round phase share seed st (Ok dealt) gives member is number =
      let made = s.dealer_from c round st dealt in
      makes_player past round phase (s.dealer_for phase round made) st is number
      (kept phase round made (λ dealer private e plays found.
      let same = same_some made dealer e in
      subst (λ (x : Dealer). c.rules.dealing_of round c.me c.me x.public private ≡ Ok tt) same
      (ceremony.deals_pass round share seed dealt.0 dealt.1 private member plays gives (subst (λ (x : Dealer). lookup c.me x.privates ≡ Some private) (sym same) found))))

  in_round : (past : List (Deed Dir)) (phase : Phase) (share : Option ℕ) (seed : List ℕ) (st : Live Dir) (round : Result Round RoundError) → ((r : Round) → round ≡ Ok r → r.number ≡ epoch) → st.participation.epoch ≡ epoch
      → Holds law past (s.in_round c phase share seed st round)
  in_round past phase share seed st (Err e) number is = tt
  in_round past phase share seed st (Ok round) number is =
      holds_if law past (s.may_deal c round share st) (s.dealt_by c round phase st (c.rules.deal_of round c.me share seed)) (s.makes_player c round phase None st)
      (λ e. dealt_by past round phase share seed st (c.rules.deal_of round c.me share seed) refl
      (first_of_three (has round.dealers c.me) (is_some share || is_none round.previous) (is_none (lookup c.me (logs_of st round.number))) e) is (number round refl))
      (λ e. makes_player past round phase None st is (number round refl) (λ dealer private e plays found. absurd (not_some dealer e)))

  draws_up : (past : List (Deed Dir)) (p : Participants) (previous : Option Output) (share : Option ℕ) (seed : List ℕ) (st : Live Dir) → st.participation.epoch ≡ epoch → Holds law past (s.draws_up c p previous share seed st)
  draws_up past p previous share seed st is =
      in_round past (phase_of c (awaited_height st)) share seed st (c.rules.round_of c.namespace st.participation.epoch previous c.mode c.reveal p.dealers p.players)
      (λ r e. ceremony.round_has c.namespace st.participation.epoch previous c.mode c.reveal p.dealers p.players r e ∙ is) is

  commits : (past : List (Deed Dir)) (info : EpochInfo Dir) (seed : List ℕ) (share : Option ℕ) (st : Live Dir) → (st.participation.epoch ≡ epoch) × (st.participation.round ≡ None) → Holds (unset epoch) past (s.commits info seed share st)
  commits past info seed None st is = (tt, (tt, is))
  commits past info seed (Some share) st is = (tt, (tt, (tt, is)))

  commits_new : (past : List (Deed Dir)) (standing : s.Standing) (info : EpochInfo Dir) (seed : List ℕ) (share : Option ℕ) (st : Live Dir) → (st.participation.epoch ≡ epoch) × (st.participation.round ≡ None) → Holds (unset epoch) past (s.commits_new standing c info seed share st)
  commits_new past s.WasCommitted info seed share st is = is
  commits_new past s.Uncommitted info seed share st is =
      holds_bind (unset epoch) (unset epoch) past (s.commits info seed share st) (λ st. s.registers c info share st) (λ past line h. h) (λ past op h. h) (commits past info seed share st is) (λ past st is. (tt, is))

  with_share_and_seed : (past : List (Deed Dir)) (floor : Option ℕ) (standing : s.Standing) (info : EpochInfo Dir) (share : Option ℕ) (seed : List ℕ) (st : Live Dir) → (st.participation.epoch ≡ epoch) × (st.participation.round ≡ None)
      → Holds law past (s.with_share_and_seed c floor standing info share seed st)
  with_share_and_seed past floor standing info share seed st is =
      holds_bind (unset epoch) law past (s.commits_new standing c info seed share st)
      (λ st. bind (s.prunes (st.participation.epoch - 1) st) (λ st. if s.is_late_floor c floor then s.follows c st else s.draws_up c (s.participants_of info) (Some info.output) share seed st))
      (λ past line h. h) (λ past op h. h) (commits_new past standing info seed share st is)
      (λ past st is. holds_bind (unset epoch) law past (s.prunes (st.participation.epoch - 1) st)
      (λ st. if s.is_late_floor c floor then s.follows c st else s.draws_up c (s.participants_of info) (Some info.output) share seed st)
      (λ past line h. h) (λ past op h. h) (tt, (tt, is))
      (λ past st is. holds_if law past (s.is_late_floor c floor) (s.follows c st) (s.draws_up c (s.participants_of info) (Some info.output) share seed st)
      (λ e. (tt, bare st is.0 is.1)) (λ e. draws_up past (s.participants_of info) (Some info.output) share seed st is.0)))

  judged : (past : List (Deed Dir)) (floor : Option ℕ) (standing : s.Standing) (info : EpochInfo Dir) (st : Live Dir) (valid : Result (Unit {0}) ParticipantsError) → (st.participation.epoch ≡ epoch) × (st.participation.round ≡ None)
      → Holds law past (s.info_judged c floor standing info st valid)
  judged past floor standing info st (Err e) is = tt
  judged past floor standing info st (Ok passed) is =
      λ h. with_share_and_seed past floor standing info (s.recovered_share c (c.seen h) info) (s.seed_for c info.epoch (lookup info.epoch (c.seen h).seeds)) st is

  with_info : (past : List (Deed Dir)) (floor : Option ℕ) (standing : s.Standing) (info : EpochInfo Dir) (st : Live Dir) → (st.participation.epoch ≡ epoch) × (st.participation.round ≡ None) → Holds law past (s.with_info c floor standing info st)
  with_info past floor standing info st is =
      holds_if law past (info.epoch == st.participation.epoch) (s.info_judged c floor standing info st (validation (s.participants_of info) c.limit (Some info.output) info.epoch)) (Stops (WrongEpoch st.participation.epoch info.epoch))
      (λ e. judged past floor standing info st (validation (s.participants_of info) c.limit (Some info.output) info.epoch) is) (λ e. tt)

  from_boundary : (past : List (Deed Dir)) (b : Option (Block Dir)) (st : Live Dir) → (st.participation.epoch ≡ epoch) × (st.participation.round ≡ None) → Holds law past (s.from_boundary c b st)
  from_boundary past None st is = (tt, bare st is.0 is.1)
  from_boundary past (Some b) st is =
      holds_option law past (info_of b.payload) (λ info. s.with_info c None s.Uncommitted info st) (Stops (MissingEpochInfo b.height)) (λ info e. with_info past None s.Uncommitted info st is) (λ e. tt)

  from_material : (past : List (Deed Dir)) (m : Option (EpochInfo Dir × ℕ)) (st : Live Dir) → (st.participation.epoch ≡ epoch) × (st.participation.round ≡ None) → Holds law past (s.from_material c m st)
  from_material past (Some m) st is = with_info past (Some m.1) s.Uncommitted m.0 st is
  from_material past None st is = from_boundary past (c.source.block (boundary c.blocks_per_epoch st.participation.epoch)) st is

  from_any : (past : List (Deed Dir)) (m : Option (EpochInfo Dir × ℕ)) (committed : Option (EpochInfo Dir)) (st : Live Dir) → (st.participation.epoch ≡ epoch) × (st.participation.round ≡ None)
      → Holds law past (s.sets_up_by c m committed st)
  from_any past m (Some info) st is = with_info past (option_map (λ m. m.1) m) s.WasCommitted info st is
  from_any past m None st is = from_material past m st is

pub setups_are_sound : {Dir : Type 0} → SetupsAreSound Dir
setups_are_sound c material st past ceremony =
    let epoch = epoch_of c.blocks_per_epoch (awaited_height st) in
    holds_if (setup_law c epoch) past (s.is_past_range c (awaited_height st)) (Stops HeightRange) (s.sets_up c material st)
    (λ e. tt) (λ e. from_any c epoch ceremony past material (s.committed_info (s.anew c st)) (s.anew c st) (refl, refl))
