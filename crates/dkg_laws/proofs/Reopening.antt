-- An opening keeps what was told of dealings, wherever it ends.
use Rattle.std.proofs.Common.{◌≡◌, ◌≤◌, inl, inr, ℕ, List, false, Option, Some, None, refl, ◌∙◌, ap}
use Rattle.std.specs.Prelude.{◌+◌, ◌-◌, ◌==◌, map, if◌then◌else◌, Result, Ok, Err, is_some, is_ok, option_and_then}
use Rattle.std.specs.Option.{option_map_or}
use Rattle.dkg_values.specs.Codec.{whole as all_of}
use Rattle.dkg_values.specs.Rising.{lookup}
use Rattle.dkg_values.specs.declared.codec.CodecError.{CodecError}
use Rattle.dkg_ceremony.specs.Schedule.{epoch_of, last}
use Rattle.dkg_types.specs.Blocks.{Block}
use Rattle.dkg_types.specs.BlockCodes.{info_of}
use Rattle.dkg_infos.specs.declared.entry.Entry.{Entry}
use Rattle.dkg_infos.specs.declared.entry.Entry.TheVariants.{Opened, Registered}
use Rattle.dkg_infos.specs.declared.fault.Fault.{Fault}
use Rattle.dkg_infos.specs.declared.fault.Fault.TheVariants.{HeightRange, StateSyncEpochs, StateSyncMaterial, MissingEpochInfo}
use Rattle.dkg_infos.specs.declared.info.EpochInfo.{EpochInfo}
use Rattle.dkg_infos.specs.declared.participants.ParticipantsError.{ParticipantsError}
use Rattle.dkg_types.specs.PayloadCodes.{its_log}
use Rattle.dkg_infos.specs.Validation.{validation}
use Rattle.dkg_journal.specs.Operations as of_journal
use Rattle.dkg_journal.specs.Operations.{Bars, Opens, PutsPlan, ClearsPlan, Journaled, InPart}
use Rattle.dkg_store.specs.Acts.{OnDisk, Changes, World, says, does, notes, IsDiskLeft}
use Rattle.dkg_store.specs.Recorded.{restored_of}
use Rattle.dkg_secrets.specs.declared.secrets.SecretOp.TheVariants.{PutSeed}
use Rattle.dkg_store.proofs.Halves.{seed_halves}
use Rattle.dkg_core.specs.Sources.{position, startup}
use Rattle.dkg_core.specs.Courses.{Course, Say, Do, CallOutside, Stops, Tracks, Throughout}
use Rattle.dkg_core.specs.Fixed.{Fixed, Material, OneShot, start}
use Rattle.dkg_core.specs.Live.{Live, awaited_height}
use Rattle.dkg_core.specs.Setup as s
use Rattle.dkg_core.specs.Plans as p
use Rattle.dkg_core.specs.OneShots as o
use Rattle.dkg_core.specs.Blocks.{ends_once}
use Rattle.dkg_core.specs.Core.{opening, opens_in, begun_life}
use Rattle.dkg_core.specs.Laws.{StartsWithin}
use Rattle.dkg_core.specs.Behind.{IsAside}
use Rattle.dkg_core.specs.Enduring.{OwnAckOf, IsSaidFrom, IsKeptFrom, OpeningsEndure}
use Rattle.dkg_core.proofs.Opening.{above_floor}
use Rattle.dkg_core.proofs.Upkeep as up
use Rattle.dkg_core.proofs.Upkeep.{along_if}
use Rattle.dkg_core.proofs.Walking as walk

-- what is left of an operation that changes no entry
left_same : (op : of_journal.JournalOperation) (j new : Journaled) → (of_journal.after_operation op j).entries ≡ j.entries → (InPart op j new → new.entries ≡ j.entries) → IsDiskLeft op j new → new.entries ≡ j.entries
left_same op j new kept part (inl is) = ap (λ (x : Journaled). x.entries) is
left_same op j new kept part (inr (inl is)) = ap (λ (x : Journaled). x.entries) is ∙ kept
left_same op j new kept part (inr (inr is)) = part is

module _ {Dir : Type 0} (c : Fixed Dir) (ack_of : OwnAckOf) (most : ℕ) (base : List Entry) (starts : StartsWithin c most) where
  abbrev P : World → Type 0
  P w = IsKeptFrom ack_of most base w

  tell : (w : World) (line : Entry) → IsSaidFrom ack_of most w.held line → P w → P (says w line)
  tell w line sound q = up.tells ack_of most base w line sound q

  told : (w : World) (line : Entry) → IsAside line → P w → P (says w line)
  told w line aside q = up.told c ack_of most base w line aside q

  same_entries : (w new : World) → new.out ≡ w.out → notes new.held ≡ notes w.held → new.held.secrets ≡ w.held.secrets → P w → P new
  same_entries w new same is_es is_t q = up.over ack_of most base w new (notes w.held) w.held.secrets same is_es is_t q.whole (λ key v above got. got) q

  -- an operation that changes no entry, and what follows
  behind : (op : of_journal.JournalOperation) → ((j : Journaled) → (of_journal.after_operation op j).entries ≡ j.entries) → ((j new : Journaled) → InPart op j new → new.entries ≡ j.entries)
      → (course : Course Dir Fault (Live Dir)) (w : World) → P w → (P (does w (OnDisk op)) → Throughout P course (does w (OnDisk op))) → Throughout P (Do (OnDisk op) course) w
  behind op kept part course w q next = (
    λ cause new tears. same_entries w new tears.same (left_same op w.held.journaled new.held.journaled (kept w.held.journaled) (part w.held.journaled new.held.journaled) tears.torn.1) tears.torn.0 q,
    next (same_entries w (does w (OnDisk op)) refl (kept w.held.journaled) refl q),
  )

  setup : (m : Option (EpochInfo Dir × ℕ)) (st : Live Dir) (w : World) → (epoch_of c.blocks_per_epoch (awaited_height st) - 1) ≤ most → P w → Throughout P (s.setup c m st) w
  setup m st w low q = walk.setup c P told most (λ info st w q. up.commits_read c ack_of most base info st w q) (λ min under st w q. up.prunes ack_of most base min under st w q) m st w low q

  starts_at : (m : Material Dir) (found : Option (Block Dir)) (st : Live Dir) (w : World) → c.source.by_digest m.floor.payload ≡ found → P w → Throughout P (p.starts_at c m found st) w
  starts_at m None st w is q = q
  starts_at m (Some floor) st w is q =
      setup (Some (m.info, floor.height)) (record st { tip = startup c.source.anchor (Some floor) }) w
      (above_floor (λ height. epoch_of c.blocks_per_epoch height - 1 ≤ most) (position c.source.anchor) floor starts.by_anchor (starts.by_floor m.floor.payload floor is)) q

  starts_from : (st : Live Dir) (m : Option (Material Dir)) (w : World) → P w → Throughout P (p.starts_from c st m) w
  starts_from st None w q = setup None (record st { tip = startup c.source.anchor None }) w starts.by_anchor q
  starts_from st (Some m) w q =
      let scheme = s.scheme_for c m.info (s.recovered_share c (c.seen w.held) m.info) in
      (q, starts_at m (c.source.by_digest m.floor.payload) (s.with_registered m.info.epoch scheme st) (says w (Registered m.info.epoch (s.role_of scheme))) refl (tell w (Registered m.info.epoch (s.role_of scheme)) tt q))

  resolves : (st : Live Dir) (m : Option (Material Dir)) (w : World) → P w → Throughout P (p.resolves_plan c (p.starts_from c st) m) w
  resolves st None w q = starts_from st None w q
  resolves st (Some m) w q =
      along_if P w (p.is_outdated c m) (Do (OnDisk ClearsPlan) (p.starts_from c st None)) (p.starts_from c st (Some m))
      (λ e. behind ClearsPlan (λ j. refl) (λ j new part. absurd part) (p.starts_from c st None) w q (λ q. starts_from st None (does w (OnDisk ClearsPlan)) q)) (λ e. starts_from st (Some m) w q)

  abbrev next : Live Dir → Option (Material Dir) → Course Dir Fault (Live Dir)
  next st found = p.stays_in_range c (p.resolves_plan c (p.starts_from c st) found)

  in_range : (course : Course Dir Fault (Live Dir)) (w : World) → P w → Throughout P course w → Throughout P (p.stays_in_range c course) w
  in_range course w q t = along_if P w (option_map_or (λ t. s.is_past_range c (t.height + 1)) (start c) false) (Stops HeightRange) course (λ e. q) (λ e. t)

  goes : (st : Live Dir) (found : Option (Material Dir)) (w : World) → P w → Throughout P (next st found) w
  goes st found w q = in_range (p.resolves_plan c (p.starts_from c st) found) w q (resolves st found w q)

  of_one_epoch : (m : Material Dir) (course : Course Dir Fault (Live Dir)) (w : World) → P w → Throughout P course w → Throughout P (p.of_one_epoch m course) w
  of_one_epoch m course w q t = along_if P w (m.info.epoch == m.floor.epoch) course (Stops (StateSyncEpochs m.info.epoch m.floor.epoch)) (λ e. t) (λ e. q)

  stored : (st : Live Dir) (read : Result (Material Dir) CodecError) (w : World) → P w → Throughout P (p.stored (next st) read) w
  stored st (Err e) w q = q
  stored st (Ok m) w q = of_one_epoch m (next st (Some m)) w q (goes st (Some m) w q)

  reads : (st : Live Dir) (plan : Option (List ℕ)) (w : World) → P w → Throughout P (p.reads_plan c plan (next st)) w
  reads st (Some bytes) w q = stored st (all_of (p.material_at c bytes)) w q
  reads st None w q = goes st None w q

  finds : (st : Live Dir) (m : Option (Material Dir)) (w : World) → P w → Throughout P (p.finds_material c m (next st)) w
  finds st (Some m) w q =
      let bytes = p.material_bytes c m in
      of_one_epoch m (if is_ok (all_of (p.material_at c bytes)) then Do (OnDisk (PutsPlan bytes)) (next st (Some m)) else Stops StateSyncMaterial) w q
      (along_if P w (is_ok (all_of (p.material_at c bytes))) (Do (OnDisk (PutsPlan bytes)) (next st (Some m))) (Stops StateSyncMaterial)
      (λ e. behind (PutsPlan bytes) (λ j. refl) (λ j new part. absurd part) (next st (Some m)) w q (λ q. goes st (Some m) (does w (OnDisk (PutsPlan bytes))) q)) (λ e. q))
  finds st None w q = reads st (c.seen w.held).plan w q

  -- ONE-SHOT

  ends_with : (st : Live Dir) (found : Option (Block Dir)) (w : World) → P w → Throughout P (o.ends_with c st found) w
  ends_with st None w q = q
  ends_with st (Some b) w q =
      along_if P w (is_some (option_and_then its_log b.payload)) (Stops (MissingEpochInfo b.height)) (ends_once c (info_of b.payload) st) (λ e. q) (λ e. (q, tell w _ tt q))

  begins_once : (once : OneShot Dir) (seed : List ℕ) (st : Live Dir) (w : World) → P w → Throughout P (o.begins_once c once seed st) w
  begins_once once seed st w q = (
    λ cause new tears. up.put_torn ack_of most base (PutSeed 0 seed) (seed_halves 0 seed) w new cause tears q,
    walk.draws_up c P told (o.participants_in once) None None seed (s.anew c st) (does w (Changes (PutSeed 0 seed))) (up.put_done ack_of most base (PutSeed 0 seed) (seed_halves 0 seed) w q),
  )

  goes_once : (once : OneShot Dir) (share : Option ℕ) (seed : List ℕ) (st : Live Dir) (w : World) → P w → Throughout P (o.goes_once c once share seed st) w
  goes_once once share seed st w q =
      along_if P w (o.is_finished c st.tip share) (o.ends_with c st (c.source.block (last c.blocks_per_epoch 0))) (if o.is_refused c once then ends_once c None st else o.begins_once c once seed st)
      (λ e. ends_with st (c.source.block (last c.blocks_per_epoch 0)) w q)
      (λ e. along_if P w (o.is_refused c once) (ends_once c None st) (o.begins_once c once seed st) (λ e. (q, tell w _ tt q)) (λ e. begins_once once seed st w q))

  tracks_once : (once : OneShot Dir) (course : Course Dir Fault (Live Dir)) (w : World) → Throughout P course w → Throughout P (o.tracks_once c once course) w
  tracks_once once course w t = along_if P w (o.is_refused c once) course (CallOutside (Tracks 0 (o.peers_in once) once.directory) course) (λ e. t) (λ e. t)

  valid_once : (once : OneShot Dir) (st : Live Dir) (valid : Result (Unit {0}) ParticipantsError) (w : World) → P w → Throughout P (o.valid_once c once st valid) w
  valid_once once st (Err e) w q = q
  valid_once once st (Ok passed) w q =
      tracks_once once (s.looks c (λ seen. o.goes_once c once (lookup 0 seen.shares) (s.seed_for c 0 (lookup 0 seen.seeds)) st)) w
      (goes_once once (lookup 0 (c.seen w.held).shares) (s.seed_for c 0 (lookup 0 (c.seen w.held).seeds)) st w q)

  opens : (once : Option (OneShot Dir)) (st : Live Dir) (w : World) → P w → Throughout P (opens_in c once st) w
  opens (Some once) st w q =
      in_range (o.opens_once c once st) w q (valid_once once (record st { tip = startup c.source.anchor None }) (validation (o.participants_in once) c.limit None 0) w q)
  opens None st w q = finds st c.material w q

  -- the barrier, the journal's opening, the line with what was restored
  abbrev restores : Course Dir Fault (Live Dir)
  restores = s.looks c (λ seen. Say (Opened c.life (map restored_of seen.dealings)) (opens_in c c.oneshot (begun_life seen)))

  restored : (w : World) → P w → Throughout P restores w
  restored w q = (q, opens c.oneshot (begun_life (c.seen w.held)) (says w _) (tell w _ tt q))

  openings : (w : World) → P w → Throughout P (opening c) w
  openings w q =
      behind Bars (λ j. refl) (λ j new part. absurd part) (Do (OnDisk (Opens c.opening_calls)) restores) w q (λ q.
      behind (Opens c.opening_calls) (λ j. refl) (λ j new part. part.0) restores (does w (OnDisk Bars)) q (λ q. restored (does (does w (OnDisk Bars)) (OnDisk (Opens c.opening_calls))) q))

pub openings_endure : {Dir : Type 0} → OpeningsEndure Dir
openings_endure c ack_of most base w starts q = openings c ack_of most base starts w q
