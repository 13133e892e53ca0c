-- What a setup prunes.
use Rattle.std.proofs.Common.{◌≡◌, ◌≤◌, ℕ, List, Option, Some, None, refl, arith}
use Rattle.std.specs.Prelude.{◌-◌, ◌==◌, ◌||◌, if◌then◌else◌, not, Result, Ok, Err, option_map}
use Rattle.dkg_values.specs.Rising.{lookup}
use Rattle.dkg_ceremony.specs.declared.deal.DealError.{DealError}
use Rattle.dkg_ceremony.specs.declared.output.Output.{Output}
use Rattle.dkg_ceremony.specs.declared.phase.Phase.{Phase}
use Rattle.dkg_ceremony.specs.declared.round.RoundParts.{RoundParts as Round}
use Rattle.dkg_ceremony.specs.declared.round.RoundError.{RoundError}
use Rattle.dkg_ceremony.specs.Schedule.{epoch_of, boundary}
use Rattle.dkg_types.specs.Blocks.{Block}
use Rattle.dkg_types.specs.BlockCodes.{info_of}
use Rattle.dkg_infos.specs.declared.fault.Fault.TheVariants.{HeightRange, MissingEpochInfo, WrongEpoch}
use Rattle.dkg_infos.specs.declared.info.EpochInfo.{EpochInfo}
use Rattle.dkg_infos.specs.declared.participants.Participants.{Participants}
use Rattle.dkg_infos.specs.declared.participants.ParticipantsError.{ParticipantsError}
use Rattle.dkg_infos.specs.Validation.{validation}
use Rattle.dkg_core.specs.Courses.{Stops, bind, Deed}
use Rattle.dkg_core.specs.Fixed.{Fixed, has}
use Rattle.dkg_core.specs.Live.{Live, Dealer, Watches, awaited_height, phase_of, records_of_epoch}
use Rattle.dkg_core.specs.Logs.{logs_of}
use Rattle.dkg_core.specs.Setup as s
use Rattle.dkg_core.specs.Laws.{Law, Holds, IsSilent, PrunesAtMost, prune_law, SetupsPrune}
use Rattle.dkg_core.proofs.Holding.{holds_bind, holds_if, holds_option}

-- no lines, operations or ends are barred, but prunes above the epoch before; the epoch is that of the setup
abbrev at_epoch : {Dir : Type 0} → (epoch : ℕ) → Law Dir (Live Dir)
at_epoch epoch = record { line = IsSilent; operation = PrunesAtMost (epoch - 1); end = λ past st. st.participation.epoch ≡ epoch }

module _ {Dir : Type 0} (c : Fixed Dir) (epoch : ℕ) (past : List (Deed Dir)) where
  sits_down : (round : Round) (phase : Phase) (dealer : Option Dealer) (refused : Option ℕ) (st : Live Dir) → Holds (prune_law epoch) past (s.sits_down c round phase dealer refused st)
  sits_down round phase dealer None st = (tt, tt)
  sits_down round phase dealer (Some refused) st = tt

  makes_player : (round : Round) (phase : Phase) (dealer : Option Dealer) (st : Live Dir) → Holds (prune_law epoch) past (s.makes_player c round phase dealer st)
  makes_player round phase dealer st =
      holds_if (prune_law epoch) past (not (has round.players c.me) || s.is_lost c round (records_of_epoch round.number st.records.dealings) (logs_of st round.number))
      (s.takes_part c round phase dealer Watches st) (s.sits_down c round phase dealer (s.refused_in c round st) st)
      (λ e. (tt, tt)) (λ e. sits_down round phase dealer (s.refused_in c round st) st)

  dealt_by : (round : Round) (phase : Phase) (st : Live Dir) (dealt : Result (List ℕ × List (ℕ × ℕ)) DealError) → Holds (prune_law epoch) past (s.dealt_by c round phase st dealt)
  dealt_by round phase st (Ok dealt) = makes_player round phase (s.dealer_for phase round (s.dealer_from c round st dealt)) st
  dealt_by round phase st (Err refused) = tt

  in_round : (phase : Phase) (share : Option ℕ) (seed : List ℕ) (st : Live Dir) (round : Result Round RoundError) → Holds (prune_law epoch) past (s.in_round c phase share seed st round)
  in_round phase share seed st (Err e) = tt
  in_round phase share seed st (Ok round) =
      holds_if (prune_law epoch) past (s.may_deal c round share st) (s.dealt_by c round phase st (c.rules.deal_of round c.me share seed)) (s.makes_player c round phase None st)
      (λ e. dealt_by round phase st (c.rules.deal_of round c.me share seed)) (λ e. makes_player round phase None st)

  pub draws_up : (p : Participants) (previous : Option Output) (share : Option ℕ) (seed : List ℕ) (st : Live Dir) → Holds (prune_law epoch) past (s.draws_up c p previous share seed st)
  draws_up p previous share seed st = in_round (phase_of c (awaited_height st)) share seed st (c.rules.round_of c.namespace st.participation.epoch previous c.mode c.reveal p.dealers p.players)

module _ {Dir : Type 0} (c : Fixed Dir) (epoch : ℕ) where
  commits : (past : List (Deed Dir)) (info : EpochInfo Dir) (seed : List ℕ) (share : Option ℕ) (st : Live Dir) → st.participation.epoch ≡ epoch → Holds (at_epoch epoch) past (s.commits info seed share st)
  commits past info seed None st is = (tt, (tt, is))
  commits past info seed (Some share) st is = (tt, (tt, (tt, is)))

  commits_new : (past : List (Deed Dir)) (standing : s.Standing) (info : EpochInfo Dir) (seed : List ℕ) (share : Option ℕ) (st : Live Dir) → st.participation.epoch ≡ epoch
      → Holds (at_epoch epoch) past (s.commits_new standing c info seed share st)
  commits_new past s.WasCommitted info seed share st is = is
  commits_new past s.Uncommitted info seed share st is =
      holds_bind (at_epoch epoch) (at_epoch epoch) past (s.commits info seed share st) (λ st. s.registers c info share st) (λ past line h. h) (λ past op h. h)
      (commits past info seed share st is) (λ past st is. (tt, is))

  prunes : (past : List (Deed Dir)) (st : Live Dir) → st.participation.epoch ≡ epoch → Holds (at_epoch epoch) past (s.prunes (st.participation.epoch - 1) st)
  prunes past st is = (below is, (below is, is))
    where
      below : {e : ℕ} → e ≡ epoch → (e - 1) ≤ (epoch - 1)
      below e = omega arith

  with_share_and_seed : (past : List (Deed Dir)) (floor : Option ℕ) (standing : s.Standing) (info : EpochInfo Dir) (share : Option ℕ) (seed : List ℕ) (st : Live Dir) → st.participation.epoch ≡ epoch
      → Holds (prune_law epoch) past (s.with_share_and_seed c floor standing info share seed st)
  with_share_and_seed past floor standing info share seed st is =
      holds_bind (at_epoch epoch) (prune_law epoch) past (s.commits_new standing c info seed share st)
      (λ st. bind (s.prunes (st.participation.epoch - 1) st) (λ st. if s.is_late_floor c floor then s.follows c st else s.draws_up c (s.participants_of info) (Some info.output) share seed st))
      (λ past line h. h) (λ past op h. h) (commits_new past standing info seed share st is)
      (λ past st is. holds_bind (at_epoch epoch) (prune_law epoch) past (s.prunes (st.participation.epoch - 1) st)
      (λ st. if s.is_late_floor c floor then s.follows c st else s.draws_up c (s.participants_of info) (Some info.output) share seed st)
      (λ past line h. h) (λ past op h. h) (prunes past st is)
      (λ past st is. holds_if (prune_law epoch) past (s.is_late_floor c floor) (s.follows c st) (s.draws_up c (s.participants_of info) (Some info.output) share seed st)
      (λ e. (tt, tt)) (λ e. draws_up c epoch past (s.participants_of info) (Some info.output) share seed st)))

  judged : (past : List (Deed Dir)) (floor : Option ℕ) (standing : s.Standing) (info : EpochInfo Dir) (st : Live Dir) (valid : Result (Unit {0}) ParticipantsError) → st.participation.epoch ≡ epoch
      → Holds (prune_law epoch) past (s.info_judged c floor standing info st valid)
  judged past floor standing info st (Err e) is = tt
  judged past floor standing info st (Ok passed) is =
      λ h. with_share_and_seed past floor standing info (s.recovered_share c (c.seen h) info) (s.seed_for c info.epoch (lookup info.epoch (c.seen h).seeds)) st is

  with_info : (past : List (Deed Dir)) (floor : Option ℕ) (standing : s.Standing) (info : EpochInfo Dir) (st : Live Dir) → st.participation.epoch ≡ epoch → Holds (prune_law epoch) past (s.with_info c floor standing info st)
  with_info past floor standing info st is =
      holds_if (prune_law epoch) past (info.epoch == st.participation.epoch) (s.info_judged c floor standing info st (validation (s.participants_of info) c.limit (Some info.output) info.epoch)) (Stops (WrongEpoch st.participation.epoch info.epoch))
      (λ e. judged past floor standing info st (validation (s.participants_of info) c.limit (Some info.output) info.epoch) is) (λ e. tt)

  from_boundary : (past : List (Deed Dir)) (b : Option (Block Dir)) (st : Live Dir) → st.participation.epoch ≡ epoch → Holds (prune_law epoch) past (s.from_boundary c b st)
  from_boundary past None st is = (tt, tt)
  from_boundary past (Some b) st is =
      holds_option (prune_law epoch) past (info_of b.payload) (λ info. s.with_info c None s.Uncommitted info st) (Stops (MissingEpochInfo b.height)) (λ info e. with_info past None s.Uncommitted info st is) (λ e. tt)

  from_material : (past : List (Deed Dir)) (m : Option (EpochInfo Dir × ℕ)) (st : Live Dir) → st.participation.epoch ≡ epoch → Holds (prune_law epoch) past (s.from_material c m st)
  from_material past (Some m) st is = with_info past (Some m.1) s.Uncommitted m.0 st is
  from_material past None st is = from_boundary past (c.source.block (boundary c.blocks_per_epoch st.participation.epoch)) st is

  from_any : (past : List (Deed Dir)) (m : Option (EpochInfo Dir × ℕ)) (committed : Option (EpochInfo Dir)) (st : Live Dir) → st.participation.epoch ≡ epoch → Holds (prune_law epoch) past (s.sets_up_by c m committed st)
  from_any past m (Some info) st is = with_info past (option_map (λ m. m.1) m) s.WasCommitted info st is
  from_any past m None st is = from_material past m st is

pub setups_prune : {Dir : Type 0} → SetupsPrune Dir
setups_prune c material st past =
    holds_if (prune_law (epoch_of c.blocks_per_epoch (awaited_height st))) past (s.is_past_range c (awaited_height st)) (Stops HeightRange) (s.sets_up c material st)
    (λ e. tt) (λ e. from_any c (epoch_of c.blocks_per_epoch (awaited_height st)) past material (s.committed_info (s.anew c st)) (s.anew c st) refl)
