-- An opening and a setup without material, as courses of what the actor's functions do.
use Rattle.std.proofs.Common.{◌≡◌, ℕ, ◌+◌, Bool, true, false, List, Option, Some, None, refl, sym, ◌∙◌, ap, subst}
use Rattle.std.specs.Prelude.{◌==◌, option_and_then, if◌then◌else◌}
use Rattle.std.specs.Option.{option_map_or}
use Rattle.std.specs.FinMap as maps
use Rattle.dkg_ceremony.specs.Schedule.{boundary}
use Rattle.dkg_fence.specs.Readiness.{Readiness}
use Rattle.dkg_journal.specs.Names.{Files}
use Rattle.dkg_infos.specs.declared.entry.Entry.{Entry}
use Rattle.dkg_infos.specs.declared.fault.Fault.{Fault}
use Rattle.dkg_infos.specs.declared.fault.Fault.TheVariants.{HeightRange}
use Rattle.dkg_infos.specs.declared.info.EpochInfo.{EpochInfo}
use Rattle.dkg_store.specs.Acts.{Ended, Held, Moment}
use Rattle.dkg_store.specs.Noted.{Notes}
use Rattle.dkg_store.specs.Pairs.{Pairs}
use Rattle.dkg_store.specs.declared.recorded_log.RecordedLog.{RecordedLog}
use Rattle.dkg_store.specs.declared.store.Store.{Store}
use Rattle.dkg_core.specs.Core.{opens_in, opening, no_inclusion, no_orchestrator, no_participation, no_probe}
use Rattle.dkg_core.specs.Courses.{Course, Ask, Stops, bind, on_devices}
use Rattle.dkg_core.specs.Fixed.{Fixed, Material, OneShot, start}
use Rattle.dkg_core.specs.Live.{Live, Records, awaited_height}
use Rattle.dkg_core.specs.Plans as plans
use Rattle.dkg_core.specs.Setup as setup
use Rattle.dkg_core.specs.Sources.{SourceAnswers, Tip, startup}
use Rattle.dkg_life.specs.declared.life.Life.{Life}
use Rattle.dkg_life.specs.declared.life.Stage.TheVariants.{Following}
use Rattle.dkg_life.specs.LiveOf.{live_of, no_fence, nothing_beside, records_of}
use Rattle.dkg_life.specs.Made.{MakesAt, Tells}
use Rattle.dkg_life.specs.Opened.{opens_store, startup_of}

-- THE STORE

abbrev pub recorded : Pairs × Notes (List ℕ) × Notes RecordedLog → Records
recorded g = record { dealings = maps.entries g.0; acks = maps.entries g.1; logs = maps.entries g.2 }

-- AN OPENING

abbrev pub begun_by : {Dir : Type 0} → Records → Live Dir
begun_by r = record { records = r; tip = None; participation = no_participation; inclusion = no_inclusion; orchestrator = no_orchestrator; probe = no_probe }

-- where it begins
abbrev pub begun_at : {Dir : Type 0} → Fixed Dir → Records → Live Dir
begun_at c r = record (begun_by r) { tip = startup c.source.anchor None }

-- what follows the store's opening
abbrev pub sets_up_over : {Dir : Type 0} → Fixed Dir → Records → Course Dir Fault (Live Dir)
sets_up_over c r = Ask (λ h. setup.setup c None (begun_at c r))

module _ {Dir : Type 0} (c : Fixed Dir) (reshare : c.oneshot ≡ None) (bare : c.material ≡ None) (unplanned : (h : Held) → (c.seen h).plan ≡ None) where
  in_once : (tip : Option Tip) (course : Course Dir Fault (Live Dir)) (st : Live Dir) → awaited_height st ≡ option_map_or (λ t. t.height + 1) tip 0
      → (if option_map_or (λ t. setup.is_past_range c (t.height + 1)) tip false then Stops HeightRange else (if setup.is_past_range c (awaited_height st) then Stops HeightRange else course))
      ≡ (if setup.is_past_range c (awaited_height st) then Stops HeightRange else course)
  in_once None course st at = refl
  in_once (Some t) course st at = ap (λ (h : ℕ). if setup.is_past_range c h then Stops HeightRange else (if setup.is_past_range c (awaited_height st) then Stops HeightRange else course)) (sym at) ∙ twice (setup.is_past_range c (awaited_height st))
    where
      twice : (p : Bool) → (if p then Stops HeightRange else (if p then Stops HeightRange else course)) ≡ (if p then Stops HeightRange else course)
      twice true = refl
      twice false = refl

  -- With no material and no plan it is the setup of the epoch above the source's position.
  resharing : (r : Records) → plans.opens_resharing c (begun_by r) ≡ Ask (λ h. setup.setup c None (begun_at c r))
  resharing r =
      ap (λ (m : Option (Material Dir)). plans.finds_material c m (λ found. plans.stays_in_range c (plans.resolves_plan c (plans.starts_from c (begun_by r)) found))) bare
      ∙ (λ i. Ask (λ h. plans.reads_plan c (unplanned h i) (λ found. plans.stays_in_range c (plans.resolves_plan c (plans.starts_from c (begun_by r)) found))))
      ∙ (λ i. Ask (λ h. in_once (start c) (setup.sets_up c None (begun_at c r)) (begun_at c r) refl i))

  pub opening_as : opening c ≡ bind (opens_store c.seen c.life c.opening_calls) (sets_up_over c)
  opening_as =
      ap (λ (o : Option (OneShot Dir)). bind (opens_store c.seen c.life c.opening_calls) (λ r. opens_in c o (begun_by r))) reshare
      ∙ (λ i. bind (opens_store c.seen c.life c.opening_calls) (λ r. resharing r i))

-- what is in memory as the setup begins
pub begun_live : {Dir : Type 0} (c : Fixed Dir) (source : SourceAnswers Dir) → c.source ≡ source → (fence : Readiness) → fence ≡ no_fence → (word : ℕ) (store : Store Dir) → store.current ≡ None → (life : Life Dir)
    → life ≡ record { word = word; store = store; tip = startup_of source; epoch = 0; midpoint = 0; stage = Following; round = None; dealer = None; player = None }
    → live_of nothing_beside fence life ≡ begun_at c (records_of store)
begun_live {Dir} c source lent fence fresh word store current life is =
    ap (λ (l : Life Dir). live_of nothing_beside fence l) is
    ∙ (λ i. record (begun_by (records_of store)) {
      tip = startup_of (sym lent i);
      participation = record no_participation { current = current i };
      orchestrator = record no_orchestrator { fence = fresh i };
    })

-- THE SAME COURSE

module _ {Dir S : Type 0} {its course : Course Dir Fault S} (same : its ≡ course) (how : Ended Fault S) where
  pub makes_as : {files files_now : Files} {image now : Files → Type 0} {old new : Moment} → MakesAt (on_devices course) how files image files_now now old new
      → MakesAt (on_devices its) how files image files_now now old new
  makes_as {files} {files_now} {image} {now} {old} {new} made = subst (λ (x : Course Dir Fault S). MakesAt (on_devices x) how files image files_now now old new) (sym same) made

  pub tells_as : {out now : List Entry} → Tells course how out now → Tells its how out now
  tells_as {out} {now} told = subst (λ (x : Course Dir Fault S). Tells x how out now) (sym same) told

-- A SETUP, where no info is committed

module _ {Dir : Type 0} (c : Fixed Dir) (st : Live Dir) where
  pub out_of_range : setup.is_past_range c (awaited_height st) ≡ true → setup.setup c None st ≡ Stops HeightRange
  out_of_range past = ap (λ (p : Bool). if p then Stops HeightRange else setup.sets_up c None st) past

  pub sets_up_as : setup.is_past_range c (awaited_height st) ≡ false → st.participation.current ≡ None
      → setup.setup c None st ≡ setup.from_boundary c (c.source.block (boundary c.blocks_per_epoch (setup.anew c st).participation.epoch)) (setup.anew c st)
  sets_up_as within uncommitted =
      ap (λ (p : Bool). if p then Stops HeightRange else setup.sets_up c None st) within
      ∙ ap (λ (o : Option (EpochInfo Dir)). setup.sets_up_by c None (option_and_then (λ info. if info.epoch == (setup.anew c st).participation.epoch then Some info else None) o) (setup.anew c st)) uncommitted
