-- What an opening prunes, and what it lists.
use Rattle.std.proofs.Common.{◌≡◌, ◌≤◌, ℕ, List, ◌∷◌, true, false, Option, Some, None, refl, ap, subst, arith}
use Rattle.std.specs.Prelude.{◌+◌, ◌-◌, ◌==◌, nat_le, map, if◌then◌else◌, Result, Ok, Err, is_some, is_ok, option_and_then}
use Rattle.std.specs.Option.{option_map_or}
use Rattle.std.proofs.lemmas.Bool.Decides.{nat_tests}
use Rattle.dkg_values.specs.Codec.{whole}
use Rattle.dkg_values.specs.Rising.{lookup}
use Rattle.dkg_values.specs.declared.codec.CodecError.{CodecError}
use Rattle.dkg_ceremony.specs.Schedule.{epoch_of, last}
use Rattle.dkg_types.specs.Blocks.{Block}
use Rattle.dkg_types.specs.BlockCodes.{info_of}
use Rattle.dkg_infos.specs.declared.entry.Entry.TheVariants.{Opened}
use Rattle.dkg_infos.specs.declared.entry.Entry.{Entry}
use Rattle.dkg_infos.specs.declared.info.EpochInfo.{EpochInfo}
use Rattle.dkg_infos.specs.declared.fault.Fault.{Fault}
use Rattle.dkg_infos.specs.declared.fault.Fault.TheVariants.{HeightRange, StateSyncEpochs, StateSyncMaterial, MissingEpochInfo}
use Rattle.dkg_infos.specs.declared.participants.ParticipantsError.{ParticipantsError}
use Rattle.dkg_types.specs.PayloadCodes.{its_log}
use Rattle.dkg_infos.specs.Validation.{validation}
use Rattle.dkg_journal.specs.Operations.{Bars, Opens, Appends, Prunes, PutsPlan, ClearsPlan}
use Rattle.dkg_store.specs.Acts.{Held, Operation, OnDisk, Changes, held_after}
use Rattle.dkg_core.specs.Courses.{Course, Do, CallOutside, Stops, Tracks, Deed, SaidEntry, DidOperation, CalledOutside, deeds_of}
use Rattle.dkg_store.specs.Recorded.{Pair, restored_of}
use Rattle.dkg_secrets.specs.declared.secrets.SecretOp.TheVariants.{PutShare, PutSeed, PutDealing, Prune}
use Rattle.dkg_core.specs.Sources.{Tip, position, over_floor, startup}
use Rattle.dkg_core.specs.Fixed.{Fixed, Material, OneShot, start}
use Rattle.dkg_core.specs.Live.{Live, awaited_height}
use Rattle.dkg_core.specs.Setup as s
use Rattle.dkg_core.specs.Plans as p
use Rattle.dkg_core.specs.OneShots as o
use Rattle.dkg_core.specs.Blocks.{ends_once}
use Rattle.dkg_core.specs.Core.{opens_in, begun_life}
use Rattle.dkg_core.specs.Laws.{Law, Holds, IsSilent, PrunesAtMost, prune_law, OpeningEntry, OpeningOperation, opening_law, start_of, StartsWithin, OpeningsPrune}
use Rattle.dkg_core.specs.Heard.{OpeningsRestore}
use Rattle.dkg_core.proofs.Holding.{holds_as, holds_if}
use Rattle.dkg_core.proofs.Pruning.{setups_prune, draws_up}

lower : {Dir : Type 0} (low most : ℕ) → low ≤ most → (past : List (Deed Dir)) (op : Operation) → PrunesAtMost low past op → OpeningOperation most past op
lower low most le past (OnDisk Bars) h = absurd h
lower low most le past (OnDisk (Opens calls)) h = absurd h
lower low most le past (OnDisk (Appends e)) h = absurd h
lower low most le past (OnDisk (Prunes min)) h = omega arith
lower low most le past (OnDisk (PutsPlan bytes)) h = absurd h
lower low most le past (OnDisk ClearsPlan) h = absurd h
lower low most le past (Changes (PutShare epoch share)) h = tt
lower low most le past (Changes (PutSeed epoch seed)) h = tt
lower low most le past (Changes (PutDealing epoch dealer private)) h = absurd h
lower low most le past (Changes (Prune min)) h = omega arith

further : {Dir : Type 0} (most : ℕ) (past : List (Deed Dir)) (op : Operation) → OpeningOperation 0 past op → OpeningOperation most past op
further most past (OnDisk Bars) h = tt
further most past (OnDisk (Opens calls)) h = tt
further most past (OnDisk (PutsPlan bytes)) h = tt
further most past (OnDisk ClearsPlan) h = tt
further most past (OnDisk (Appends e)) h = absurd h
further most past (OnDisk (Prunes min)) h = omega arith
further most past (Changes op) h = lower 0 most (omega arith) past (Changes op) h

silent_in : {Dir : Type 0} (c : Fixed Dir) (past : List (Deed Dir)) (line : Entry) → IsSilent past line → OpeningEntry c past line
silent_in c past (Opened life restored) h = absurd h
silent_in c past line h = h

-- the height that is awaited over a floor: that above the position, or the floor's
pub above_floor : {Dir : Type 0} (P : ℕ → Type 0) (tip : Option Tip) (b : Block Dir) → P (option_map_or (λ t. t.height + 1) tip 0) → P b.height → P (option_map_or (λ t. t.height + 1) (over_floor tip b) 0)
above_floor P tip b by_anchor by_floor =
    elim (b.height == 0) as (λ zero. (b.height == 0) ≡ zero → P (option_map_or (λ (t : Tip). t.height + 1)
    (if zero then tip else if option_map_or (λ (t : Tip). nat_le b.height t.height) tip false then tip else Some (record { height = b.height - 1; digest = b.parent })) 0)) [
      | true ↦ λ e. by_anchor
      | false ↦ λ e. elim (option_map_or (λ (t : Tip). nat_le b.height t.height) tip false)
          as (λ below. P (option_map_or (λ (t : Tip). t.height + 1) (if below then tip else Some (record { height = b.height - 1; digest = b.parent })) 0)) [
            | true ↦ by_anchor
            | false ↦ subst P (let one : b.height ≡ b.height - 1 + 1 = grind (arith, nat_tests) in one) by_floor
          ]
    ] refl

-- A law that each setup keeps whose epoch is within reach, and what an opening says and does besides.
pub record Reaches {Dir : Type 0} (c : Fixed Dir) (law : Law Dir (Live Dir)) (Within : ℕ → Type 0) : Type 0 where
  pub by_anchor : Within (start_of c)
  pub by_floor : (digest : List ℕ) (b : Block Dir) → c.source.by_digest digest ≡ Some b → Within b.height
  pub lines : (past : List (Deed Dir)) (line : Entry) → IsSilent past line → law.line past line
  pub operations : (past : List (Deed Dir)) (op : Operation) → OpeningOperation 0 past op → law.operation past op
  pub ends : (past : List (Deed Dir)) (st : Live Dir) → law.end past st
  pub sets_up : (past : List (Deed Dir)) (material : Option (EpochInfo Dir × ℕ)) (st : Live Dir) → Within (awaited_height st) → Holds law past (s.setup c material st)

module _ {Dir : Type 0} (c : Fixed Dir) (law : Law Dir (Live Dir)) (Within : ℕ → Type 0) (r : Reaches c law Within) where
  starts_at : (past : List (Deed Dir)) (m : Material Dir) (b : Option (Block Dir)) (st : Live Dir) → c.source.by_digest m.floor.payload ≡ b → Holds law past (p.starts_at c m b st)
  starts_at past m None st is = tt
  starts_at past m (Some b) st is =
      r.sets_up past (Some (m.info, b.height)) (record st { tip = startup c.source.anchor (Some b) }) (above_floor Within (position c.source.anchor) b r.by_anchor (r.by_floor m.floor.payload b is))

  starts_from : (past : List (Deed Dir)) (st : Live Dir) (m : Option (Material Dir)) → Holds law past (p.starts_from c st m)
  starts_from past st None = r.sets_up past None (record st { tip = startup c.source.anchor None }) r.by_anchor
  starts_from past st (Some m) = λ h.
      let registered : Live Dir = s.with_registered m.info.epoch (s.scheme_for c m.info (s.recovered_share c (c.seen h) m.info)) st in
      (r.lines past _ tt, starts_at _ m (c.source.by_digest m.floor.payload) registered refl)

  resolves : (past : List (Deed Dir)) (st : Live Dir) (m : Option (Material Dir)) → Holds law past (p.resolves_plan c (p.starts_from c st) m)
  resolves past st None = starts_from past st None
  resolves past st (Some m) =
      holds_if law past (p.is_outdated c m) (Do (OnDisk ClearsPlan) (p.starts_from c st None)) (p.starts_from c st (Some m)) (λ e. (r.operations past (OnDisk ClearsPlan) tt, starts_from _ st None)) (λ e. starts_from past st (Some m))

  abbrev next : Live Dir → Option (Material Dir) → Course Dir Fault (Live Dir)
  next st found = p.stays_in_range c (p.resolves_plan c (p.starts_from c st) found)

  in_range : (past : List (Deed Dir)) (course : Course Dir Fault (Live Dir)) → Holds law past course → Holds law past (p.stays_in_range c course)
  in_range past course h = holds_if law past (option_map_or (λ t. s.is_past_range c (t.height + 1)) (start c) false) (Stops HeightRange) course (λ e. tt) (λ e. h)

  goes : (past : List (Deed Dir)) (st : Live Dir) (found : Option (Material Dir)) → Holds law past (next st found)
  goes past st found = in_range past (p.resolves_plan c (p.starts_from c st) found) (resolves past st found)

  of_one_epoch : (past : List (Deed Dir)) (m : Material Dir) (course : Course Dir Fault (Live Dir)) → Holds law past course → Holds law past (p.of_one_epoch m course)
  of_one_epoch past m course h = holds_if law past (m.info.epoch == m.floor.epoch) course (Stops (StateSyncEpochs m.info.epoch m.floor.epoch)) (λ e. h) (λ e. tt)

  stored : (past : List (Deed Dir)) (st : Live Dir) (read : Result (Material Dir) CodecError) → Holds law past (p.stored (next st) read)
  stored past st (Err e) = tt
  stored past st (Ok m) = of_one_epoch past m (next st (Some m)) (goes past st (Some m))

  reads : (past : List (Deed Dir)) (st : Live Dir) (plan : Option (List ℕ)) → Holds law past (p.reads_plan c plan (next st))
  reads past st (Some bytes) = stored past st (whole (p.material_at c bytes))
  reads past st None = goes past st None

  finds : (past : List (Deed Dir)) (st : Live Dir) (m : Option (Material Dir)) → Holds law past (p.finds_material c m (next st))
  finds past st (Some m) =
      of_one_epoch past m (if is_ok (whole (p.material_at c (p.material_bytes c m))) then Do (OnDisk (PutsPlan (p.material_bytes c m))) (next st (Some m)) else Stops StateSyncMaterial)
      (holds_if law past (is_ok (whole (p.material_at c (p.material_bytes c m)))) (Do (OnDisk (PutsPlan (p.material_bytes c m))) (next st (Some m))) (Stops StateSyncMaterial) (λ e. (r.operations past (OnDisk (PutsPlan (p.material_bytes c m))) tt, goes _ st (Some m))) (λ e. tt))
  finds past st None = λ h. reads past st (c.seen h).plan

  -- ONE-SHOT

  ends_with : (past : List (Deed Dir)) (st : Live Dir) (b : Option (Block Dir)) → Holds law past (o.ends_with c st b)
  ends_with past st None = tt
  ends_with past st (Some b) = holds_if law past (is_some (option_and_then its_log b.payload)) (Stops (MissingEpochInfo b.height)) (ends_once c (info_of b.payload) st) (λ e. tt) (λ e. (r.lines past _ tt, r.ends _ _))

  begins_once : (past : List (Deed Dir)) (once : OneShot Dir) (seed : List ℕ) (st : Live Dir) → Holds law past (o.begins_once c once seed st)
  begins_once past once seed st = (
    r.operations past (Changes (PutSeed 0 seed)) tt,
    holds_as (prune_law 0) law _ (s.draws_up c (o.participants_in once) None None seed (s.anew c st)) r.lines
        (λ past op h. r.operations past op (lower 0 0 (omega arith) past op h)) (λ past st e. r.ends past st) (draws_up c 0 _ (o.participants_in once) None None seed (s.anew c st)),
  )

  goes_once : (past : List (Deed Dir)) (once : OneShot Dir) (share : Option ℕ) (seed : List ℕ) (st : Live Dir) → Holds law past (o.goes_once c once share seed st)
  goes_once past once share seed st =
      holds_if law past (o.is_finished c st.tip share) (o.ends_with c st (c.source.block (last c.blocks_per_epoch 0))) (if o.is_refused c once then ends_once c None st else o.begins_once c once seed st)
      (λ e. ends_with past st (c.source.block (last c.blocks_per_epoch 0)))
      (λ e. holds_if law past (o.is_refused c once) (ends_once c None st) (o.begins_once c once seed st) (λ e. (r.lines past _ tt, r.ends _ _)) (λ e. begins_once past once seed st))

  tracks_once : (past : List (Deed Dir)) (once : OneShot Dir) (course : Course Dir Fault (Live Dir)) → ((past : List (Deed Dir)) → Holds law past course) → Holds law past (o.tracks_once c once course)
  tracks_once past once course each =
      holds_if law past (o.is_refused c once) course (CallOutside (Tracks 0 (o.peers_in once) once.directory) course) (λ e. each past) (λ e. each (CalledOutside (Tracks 0 (o.peers_in once) once.directory) ∷ past))

  valid_once : (past : List (Deed Dir)) (once : OneShot Dir) (st : Live Dir) (valid : Result (Unit {0}) ParticipantsError) → Holds law past (o.valid_once c once st valid)
  valid_once past once st (Err e) = tt
  valid_once past once st (Ok passed) =
      tracks_once past once (s.looks c (λ seen. o.goes_once c once (lookup 0 seen.shares) (s.seed_for c 0 (lookup 0 seen.seeds)) st))
      (λ past h. goes_once past once (lookup 0 (c.seen h).shares) (s.seed_for c 0 (lookup 0 (c.seen h).seeds)) st)

  pub opens : (past : List (Deed Dir)) (once : Option (OneShot Dir)) (st : Live Dir) → Holds law past (opens_in c once st)
  opens past (Some once) st = in_range past (o.opens_once c once st) (valid_once past once (record st { tip = startup c.source.anchor None }) (validation (o.participants_in once) c.limit None 0))
  opens past None st = finds past st c.material

-- what is pruned
reaching : {Dir : Type 0} (c : Fixed Dir) (most : ℕ) → StartsWithin c most → Reaches c (opening_law c most) (λ height. epoch_of c.blocks_per_epoch height - 1 ≤ most)
reaching c most starts = record {
  by_anchor = starts.by_anchor;
  by_floor = starts.by_floor;
  lines = silent_in c;
  operations = further most;
  ends = λ past st. tt;
  sets_up = λ past material st le.
      holds_as (prune_law (epoch_of c.blocks_per_epoch (awaited_height st))) (opening_law c most) past (s.setup c material st) (silent_in c)
      (lower (epoch_of c.blocks_per_epoch (awaited_height st) - 1) most le) (λ past st e. tt) (setups_prune c material st past);
}

pub openings_prune : {Dir : Type 0} → OpeningsPrune Dir
openings_prune c most starts =
    let within : ℕ → Type 0 = λ height. epoch_of c.blocks_per_epoch height - 1 ≤ most in
    (tt, (tt, λ h. ((refl, refl), opens c (opening_law c most) within (reaching c most starts) _ c.oneshot (begun_life (c.seen h)))))

pub openings_restore : {Dir : Type 0} → OpeningsRestore Dir
openings_restore c h reads =
    let opened : Held = held_after (OnDisk (Opens c.opening_calls)) (held_after (OnDisk Bars) h) in
    let rest = deeds_of (opens_in c c.oneshot (begun_life (c.seen opened))) opened in
    (rest, ap (λ (dealings : List Pair). DidOperation (OnDisk Bars) ∷ DidOperation (OnDisk (Opens c.opening_calls)) ∷ SaidEntry (Opened c.life (map restored_of dealings)) ∷ rest) (reads.dealings opened))
