-- Which dealers' logs a step records, wherever it ends.
use Rattle.std.proofs.Common.{◌≡◌, ◌≤◌, ◌⊎◌, inl, inr, ℕ, true, false, List, Option, Some, None, refl, sym, ◌∙◌, ap, subst, arith}
use Rattle.std.specs.Prelude.{◌+◌, ◌-◌, if◌then◌else◌, is_some, option_and_then}
use Rattle.std.specs.FinMap.{get, insert}
use Rattle.dkg_values.specs.Rising.{lookup}
use Rattle.dkg_ceremony.specs.declared.round.RoundParts.{RoundParts as Round}
use Rattle.dkg_ceremony.specs.declared.signed_log.SignedDealerLog.{SignedDealerLog}
use Rattle.dkg_ceremony.specs.Schedule.{epoch_of}
use Rattle.dkg_journal.specs.Records.{SectionEntry, placed, from_section}
use Rattle.dkg_secrets.proofs.Map.{keys_total, exact_keys, same_key, get_here, get_other}
use Rattle.dkg_types.specs.Blocks.{Block}
use Rattle.dkg_types.specs.PayloadCodes.{its_log}
use Rattle.dkg_store.specs.Acts.{Held, World, notes}
use Rattle.dkg_store.specs.Events.{event_spelling}
use Rattle.dkg_store.specs.Noted.{Notes, noted, noted_log, logs_in}
use Rattle.dkg_store.specs.declared.event.Event.TheVariants as events
use Rattle.dkg_store.specs.declared.recorded_log.RecordedLog.{RecordedLog}
use Rattle.dkg_store.proofs.Acts.{along_runs}
use Rattle.dkg_store.proofs.Noted.{says_log, noted_placed, noted_silent}
use Rattle.dkg_store.proofs.Pruned.{logs_from}
use Rattle.dkg_core.specs.Courses.{Goes, bind, on_devices, Throughout}
use Rattle.dkg_core.specs.Fixed.{Fixed}
use Rattle.dkg_core.specs.Live.{Live, Stage, Deals, Includes, Follows, Ends, Mail, Message, Mailed, Finalized, recorded_at, is_last_height, with_tip}
use Rattle.dkg_core.specs.Logs.{is_accepted, carried_log_event, recorded_log}
use Rattle.dkg_core.specs.Setup as s
use Rattle.dkg_core.specs.Dealing as d
use Rattle.dkg_core.specs.Including as i
use Rattle.dkg_core.specs.Blocks as b
use Rattle.dkg_core.specs.Core.{step}
use Rattle.dkg_core.specs.Agreeing.{AreAgreed, CanRecord}
use Rattle.dkg_core.specs.Forms.{Applied, judged_block}
use Rattle.dkg_laws.specs.LogsRecorded.{IsRecordedNow, IsNotedNow, NodeStepsRecordLogs}
use Rattle.dkg_core.proofs.Agreeing.{unnoted}
use Rattle.dkg_core.proofs.Behind.{steps_run_behind}
use Rattle.dkg_laws.proofs.Noting as noting
use Rattle.dkg_laws.proofs.Noting.{KeepsNotes, Same, step_keeps, logs_stay}
use Rattle.dkg_core.proofs.Running.{along_next, along_end}
use Rattle.dkg_core.proofs.Upkeep.{along_if, along_option}
use Rattle.dkg_core.proofs.Walking as walk

message_apart : {Dir : Type 0} (mail : Mail Dir) (block : Block Dir) → ◌≡◌ {A = Message Dir} (Mailed mail) (Finalized block) → ⊥
message_apart mail block e = cc

module _ {Dir : Type 0} (c : Fixed Dir) (st : Live Dir) (block : Block Dir) (most : ℕ) (w : World) where
  abbrev held : Notes RecordedLog
  held = logs_in (notes w.held)

  -- every log is what it was, or is the block's
  abbrev R : List SectionEntry → Type 0
  R es = (key : ℕ × ℕ) → most ≤ key.0 → (get (noted noted_log es) key ≡ get held key) ⊎ IsRecordedNow c st block key (get (noted noted_log es) key)

  -- .. of which the same is noted
  still : (es more : List SectionEntry) (key : ℕ × ℕ) → get (noted noted_log more) key ≡ get (noted noted_log es) key
      → (get (noted noted_log es) key ≡ get held key) ⊎ IsRecordedNow c st block key (get (noted noted_log es) key)
      → (get (noted noted_log more) key ≡ get held key) ⊎ IsRecordedNow c st block key (get (noted noted_log more) key)
  still es more key same (inl was) = inl (same ∙ was)
  still es more key same (inr now) = inr (subst (λ (o : Option RecordedLog). IsRecordedNow c st block key o) (sym same) now)

  silent : (e : SectionEntry) (es : List SectionEntry) → noted_log e ≡ None → R es → R (placed es e)
  silent e es none was key above = still es (placed es e) key (ap (λ (m : Notes RecordedLog). get m key) (noted_silent noted_log e es none)) (was key above)

  keeps : KeepsNotes R most
  keeps = record {
    pruned = λ min es low was key above. still es (from_section min es) key (noting.kept_at noted_log most held logs_from min es key (at_least min most key.0 low above)) (was key above);
    dealing = λ epoch dealer public es is was. silent (epoch, event_spelling (events.Dealing dealer public)) es (says_log epoch (events.Dealing dealer public) is) was;
    ack = λ epoch player ack r h is a none was. silent (epoch, event_spelling (events.Ack player ack)) (notes h) (says_log epoch (events.Ack player ack) is) was;
  }
    where
      at_least : (min most n : ℕ) → min ≤ most → most ≤ n → min ≤ n
      at_least min most n low above = omega (arith, low, above)

  abbrev P : World → Type 0
  P now = R (notes now.held)

  module _ (low : (epoch_of c.blocks_per_epoch (block.height + 1) - 1) ≤ most) (can : CanRecord c st (Finalized block)) (agreed : AreAgreed st.records w.held) (judged : judged_block c block st ≡ Applied) where
    nothing_yet : P w
    nothing_yet key above = inl refl

    -- what comes behind says what it likes, and notes no log
    after : (now : Live Dir) (at : World) → P at → Throughout P (i.advanced c (with_tip block (b.unserved block.height now))) at
    after now at q = walk.advanced c P (λ x line aside q. q) (with_tip block (b.unserved block.height now)) at q

    module _ (includes : st.participation.stage ≡ Includes) (round : Round) (of_epoch : st.participation.round ≡ Some round) (below : is_last_height c block.height ≡ false)
        (log : SignedDealerLog) (carried : option_and_then its_log block.payload ≡ Some log) (accepted : is_accepted c round log ≡ true) where
      abbrev its_key : ℕ × ℕ
      its_key = (round.number, log.dealer)

      abbrev its_entry : SectionEntry
      its_entry = (round.number, event_spelling (carried_log_event log.dealer block.height log.log))

      recorded : recorded_at st.records.logs round.number log.dealer ≡ None → R (placed (notes w.held) its_entry)
      recorded none key above = elim (same_key keys_total exact_keys key its_key) [
        | inl here ↦ inr (record {
          applied = judged;
          includes = includes;
          round = round;
          of_epoch = of_epoch;
          below = below;
          log = log;
          carried = carried;
          accepted = accepted;
          new = none;
          at = here;
          is = ap (get (noted noted_log (placed (notes w.held) its_entry))) here ∙ ap (λ (m : Notes RecordedLog). get m its_key) placed_is
              ∙ get_here keys_total exact_keys held its_key (recorded_log block.height log.log);
        })
        | inr apart ↦ inl (ap (λ (m : Notes RecordedLog). get m key) placed_is ∙ get_other keys_total exact_keys held its_key key (recorded_log block.height log.log) apart)
      ]
        where
          placed_is : noted noted_log (placed (notes w.held) its_entry) ≡ insert held its_key (recorded_log block.height log.log)
          placed_is = noted_placed noted_log its_key (recorded_log block.height log.log) its_entry (notes w.held) (says_log round.number (carried_log_event log.dealer block.height log.log) (can.brings log carried))
              (unnoted held st.records.logs its_key agreed.logs none)

      records : Throughout {Dir = Dir} P (b.records_log round.number block.height log st) w
      records =
          along_if P w (is_some (recorded_at st.records.logs round.number log.dealer)) (Goes st)
          (d.appends round.number (carried_log_event log.dealer block.height log.log) (Goes (b.with_log_at round.number log.dealer block.height log.log st))) (λ e. nothing_yet)
          (λ e. let more = recorded (noting.not_there (recorded_at st.records.logs round.number log.dealer) e) in
          (λ cause new tears. noting.appended c R most keeps its_entry cause w new more tears nothing_yet, more))

    -- looking at its log
    observes : (includes : st.participation.stage ≡ Includes) (round : Round) → st.participation.round ≡ Some round → is_last_height c block.height ≡ false
        → (log : Option SignedDealerLog) → option_and_then its_log block.payload ≡ log → Throughout P (b.observes c round block st log) w
    observes includes round of_epoch below None carried = nothing_yet
    observes includes round of_epoch below (Some log) carried =
        along_if P w (is_accepted c round log) (bind (b.records_log round.number block.height log st) (λ now. Goes (b.without_own_log c log.dealer now))) (Goes st)
        (λ e. let goes = records includes round of_epoch below log carried e in
        along_next P (b.records_log round.number block.height log st) (λ now. Goes (b.without_own_log c log.dealer now)) w goes
        (λ end mid done. along_end P (b.records_log round.number block.height log st) w mid end goes done)) (λ e. nothing_yet)

    included : (includes : st.participation.stage ≡ Includes) (round : Round) → st.participation.round ≡ Some round → is_last_height c block.height ≡ false → Throughout P (b.includes c round block st) w
    included includes round of_epoch below =
        let first = b.observes c round block st (option_and_then its_log block.payload) in
        let goes = observes includes round of_epoch below (option_and_then its_log block.payload) refl in
        along_next P first (λ now. i.advanced c (with_tip block (b.unserved block.height now))) w goes
        (λ end mid done. after end mid (along_end P first w mid end goes done))

    last_one : (round : Round) → Throughout P (b.final_block c round block st) w
    last_one round =
        walk.final_block c P (λ x line aside q. q) most (noting.commits_read c R most keeps) (noting.prunes c R most keeps.pruned) block low
        (λ info share now at q. noting.commits c R most keeps info (s.seed_for c info.epoch (lookup info.epoch (c.seen at.held).seeds)) share now at q) round st w nothing_yet

    applied : (stage : Stage) → st.participation.stage ≡ stage → Throughout P (b.applies_in c block st stage) w
    applied Includes is =
        along_option P w st.participation.round (λ round. if is_last_height c block.height then b.final_block c round block st else b.includes c round block st) (Goes st)
        (λ round of_epoch. along_if P w (is_last_height c block.height) (b.final_block c round block st) (b.includes c round block st) (λ e. last_one round) (λ e. included is round of_epoch e)) (λ e. nothing_yet)
    applied Deals is = noting.applies c R most keeps block low st w can agreed Deals (λ e. absurd (let no : ◌≡◌ {A = Stage} Deals Includes = e in cc)) nothing_yet
    applied Follows is = noting.applies c R most keeps block low st w can agreed Follows (λ e. absurd (let no : ◌≡◌ {A = Stage} Follows Includes = e in cc)) nothing_yet
    applied Ends is = noting.applies c R most keeps block low st w can agreed Ends (λ e. absurd (let no : ◌≡◌ {A = Stage} Ends Includes = e in cc)) nothing_yet

  block_records : (epoch_of c.blocks_per_epoch (block.height + 1) - 1) ≤ most → CanRecord c st (Finalized block) → AreAgreed st.records w.held → Throughout P (step c (Finalized block) st) w
  block_records low can agreed =
      walk.delivered c P (λ x line aside q. q) most (noting.commits_read c R most keeps) (noting.prunes c R most keeps.pruned) block st w (λ key above. inl refl)
      (λ judged. applied low can agreed judged st.participation.stage refl) st.participation.stage

pub node_steps_record_logs : {Dir : Type 0} → NodeStepsRecordLogs Dir
node_steps_record_logs c st (Finalized block) ended most w new low agreed can run key above =
    let behind = steps_run_behind c st (Finalized block) ended w new run in
    let its = along_runs (P c st block most w) (on_devices (step c (Finalized block) st)) behind.half w behind.mid (block_records c st block most w low can agreed) behind.run key above in
    subst (λ (h : Held). IsNotedNow c st (Finalized block) key (get (logs_in (notes w.held)) key) (get (logs_in (notes h)) key)) (sym behind.held) its
node_steps_record_logs {Dir} c st (Mailed mail) ended most w new low agreed can run key above =
    let behind = steps_run_behind c st (Mailed mail) ended w new run in
    let logs = logs_in (notes w.held) in
    ap (λ (h : Held). get (logs_in (notes h)) key) behind.held
    ∙ along_runs (λ (x : World). Same noted_log most logs (notes x.held)) (on_devices (step c (Mailed mail) st)) behind.half w behind.mid
    (step_keeps c (Same noted_log most logs) most (logs_stay most logs) st (Mailed mail) w low can agreed (λ block is. absurd (message_apart mail block is)) (λ key above. refl)) behind.run key above
