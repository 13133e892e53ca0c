-- The opening of a store, and the setup behind it: made, said, and what is blamed.
use Rattle.std.proofs.Common.{◌≡◌, ◌⊎◌, inl, inr, ℕ, ◌+◌, Bool, List, [], ◌∷◌, ◌++◌, drop, length, map, Some, None, Result, Ok, Err, refl, sym, ◌∙◌, ap, subst}
use Rattle.std.specs.Prelude.{IfErr, IsTrue, OnOk, OnErr, if◌then◌else◌, ◌==◌}
use Rattle.std.specs.FinMap as maps
use Rattle.std.specs.FinMap.{get, get-entries}
use Rattle.dkg_values.specs.declared.name.Name.{Name}
use Rattle.dkg_fence.specs.Readiness.{Readiness}
use Rattle.dkg_journal.specs.Fuse.{Reached}
use Rattle.dkg_journal.specs.Gated.{gated, gated_behind}
use Rattle.dkg_journal.specs.Names.{Files}
use Rattle.dkg_journal.specs.Opening.{first_break}
use Rattle.dkg_journal.specs.Records.{SectionEntry, entries}
use Rattle.dkg_journal.specs.Views.{views}
use Rattle.dkg_journal.specs.declared.opening.JournalEntry.{JournalEntry}
use Rattle.dkg_infos.specs.declared.entry.Entry.{Entry}
use Rattle.dkg_infos.specs.declared.entry.Entry.TheVariants.{Opened}
use Rattle.dkg_infos.specs.declared.fault.Fault.{Fault}
use Rattle.dkg_infos.specs.declared.fault.Fault.TheVariants as fault
use Rattle.dkg_store.specs.Acts as acts_of
use Rattle.dkg_store.specs.Acts.{Acts, Ended, Held, MadeAt, Moment, OnDisk, Runs, Stands, World, held_after, broken as broken_by, held_in, stopped, went}
use Rattle.dkg_store.specs.Calls as calls_of
use Rattle.dkg_store.specs.Calls.{by_error}
use Rattle.dkg_store.specs.Noted.{Notes}
use Rattle.dkg_store.specs.declared.recorded_log.RecordedLog.{RecordedLog}
use Rattle.dkg_store.specs.Called.{ErrorIsDueWith}
use Rattle.dkg_store.specs.Counts.{CountsOn}
use Rattle.dkg_store.specs.Corrupt.{AreEvents, HasNoEvent, IsCorruptAt}
use Rattle.dkg_store.specs.Errors.{IsOfDevices, IsOfPruning}
use Rattle.dkg_store.specs.Events.{no_event_at}
use Rattle.dkg_store.specs.Pairs.{IsWhole, Pairs, recovered}
use Rattle.dkg_store.specs.Recorded.{Pair, restored_list, restored_of}
use Rattle.dkg_secrets.specs.Secrets.{Secrets}
use Rattle.dkg_store.specs.declared.call.StoreError.{StoreError}
use Rattle.dkg_store.specs.declared.call.StoreError.TheVariants.{Disk, Secrets as SecretsFailed, Corrupt, LocalState, StateSyncEpochs, StateSyncMaterial, Cut as StoreCut, NoMemory}
use Rattle.dkg_store.specs.declared.store.Store.{Store}
use Rattle.dkg_store.proofs.OpeningActs.{no_other, no_place}
use Rattle.dkg_journal.specs.Operations.{Bars, Opens}
use Rattle.dkg_core.specs.Agreeing.{AreAgreed}
use Rattle.dkg_core.specs.Core.{opening}
use Rattle.dkg_core.specs.Courses.{Course, Ask, bind, on_devices}
use Rattle.dkg_core.specs.Fixed.{Fixed}
use Rattle.dkg_core.specs.Live.{Live, Records}
use Rattle.dkg_core.specs.Setup as setup
use Rattle.dkg_core.specs.Sources.{SourceAnswers}
use Rattle.dkg_core.proofs.Agreeing.{setups_agree}
use Rattle.dkg_core.specs.Said.{SaysBy}
use Rattle.dkg_core.specs.Seen.{Seen}
use Rattle.dkg_life.specs.declared.stop.Stop.{Stop}
use Rattle.dkg_life.specs.declared.stop.Stop.TheVariants.{Fault as Faulted, Cut, Failed}
use Rattle.dkg_life.specs.Ready.{IsFoundAt}
use Rattle.dkg_life.specs.declared.config.Terms.{Terms}
use Rattle.dkg_life.specs.declared.life.Life.{Life}
use Rattle.dkg_life.specs.declared.life.Stage.TheVariants.{Following}
use Rattle.dkg_life.specs.Ends.{IsCausedBy, by_stop, ends_in, stop_of}
use Rattle.dkg_life.specs.Given.{AreGivenFrom, CanRead, HasRead, IsLent, reading}
use Rattle.dkg_life.specs.LiveOf.{live_of, no_fence, nothing_beside, records_of}
use Rattle.dkg_life.specs.Made.{MakesAt, Tells, UnlessBroken}
use Rattle.dkg_life.specs.Moved.{StaysFrom}
use Rattle.dkg_life.specs.Opened.{IsInGrammar, OpensReadable, opens_store, startup_of}
use Rattle.dkg_life.specs.Planless.{IsBareOpening, seen_planless}
use Rattle.dkg_setup.proofs.OpeningCourses.{begun_at, begun_live, makes_as, opening_as, recorded, sets_up_over, tells_as}
use Rattle.dkg_life.proofs.Burning.{burns_counted, by_stop_alike, line_makes, makes_early, makes_error, makes_next, makes_under, outside_of_pruning, unless_outside, unless_so}
use Rattle.dkg_life.proofs.Chained.{early_makes, early_told, then_makes, then_told}
use Rattle.dkg_setup.proofs.Giving.{given_above, given_on}
use Rattle.dkg_life.proofs.Said.{nothing_held, said_none}

-- A JOURNAL IN ITS GRAMMAR

-- an entry again, without the place of its gate
abbrev bare : SectionEntry → SectionEntry
bare e = (e.0, drop 1 e.1)

bare_behind : (section place : ℕ) (es : List SectionEntry) → map bare (gated_behind section place es) ≡ es
bare_behind section place [] = refl
bare_behind section place (e ∷ es) = let at = if e.0 == section then place else 0 in ap (λ (l : List SectionEntry). e ∷ l) (bare_behind e.0 (at + (5 + length e.1)) es)

bare_views : (es : List JournalEntry) → map bare (map gated es) ≡ views es
bare_views [] = refl
bare_views (e ∷ es) = ap (λ (l : List SectionEntry). (e.section, e.body) ∷ l) (bare_views es)

-- no record of it is corrupt
uncorrupt : (limit : ℕ) (files : Files) (name : Name) (place : ℕ) → IsInGrammar limit files → IsCorruptAt limit files name place → ⊥
uncorrupt limit files name place grammar at = by_cause at.so
  where
    by_cause : (first_break files ≡ Some (name, place)) ⊎ ((first_break files ≡ None) × HasNoEvent limit files name place) → ⊥
    by_cause (inl torn) = no_place (first_break files) (name, place) torn grammar.whole
    by_cause (inr other) =
        let same : views other.1.read ≡ entries files = sym (bare_views other.1.read) ∙ ap (map bare) other.1.are ∙ bare_behind 0 0 (entries files) in
        no_place (no_event_at limit other.1.read) (name, place) other.1.first (no_other limit other.1.read (subst (AreEvents limit) (sym same) grammar.events))

-- Where it was, so is its opening, however that ended.
pub was_readable : {T Readable : Type 0} → Readable → (r : Result T Stop) {out now : List Entry} {image next : Files → Type 0} {s t : Secrets} → OpensReadable Readable r out now image next s t
was_readable its (Ok x) = record { ok = its; untold = λ no. absurd (no its); shut = λ no. absurd (no its) }
was_readable its (Err stop) = record { ok = tt; untold = λ no. absurd (no its); shut = λ no. absurd (no its) }

-- so its opening ends by a device, a cut or want of memory
pub opens_by_devices : (limit : ℕ) (files : Files) → IsInGrammar limit files → (record_at : Name → ℕ → Type 0) (disk secrets cut want : Type 0) (e : StoreError) → ErrorIsDueWith record_at e disk secrets cut want
    → ((name : Name) (place : ℕ) → record_at name place → IsCorruptAt limit files name place) → IsOfDevices e
opens_by_devices limit files grammar record_at disk secrets cut want Disk due corrupt = tt
opens_by_devices limit files grammar record_at disk secrets cut want SecretsFailed due corrupt = tt
opens_by_devices limit files grammar record_at disk secrets cut want (Corrupt name place) due corrupt = absurd (uncorrupt limit files name place grammar (corrupt name place due))
opens_by_devices limit files grammar record_at disk secrets cut want (LocalState cause) due corrupt = absurd due
opens_by_devices limit files grammar record_at disk secrets cut want (StateSyncEpochs info floor) due corrupt = absurd due
opens_by_devices limit files grammar record_at disk secrets cut want StateSyncMaterial due corrupt = absurd due
opens_by_devices limit files grammar record_at disk secrets cut want StoreCut due corrupt = tt
opens_by_devices limit files grammar record_at disk secrets cut want NoMemory due corrupt = tt

-- AN OPENING THAT FAILED, and what it blames
pub opening_found : (limit : ℕ) (tells : Bool) (files : Files) (record_at : Name → ℕ → Type 0) (disk secrets cut want secrets_rose reached : Type 0) (e : StoreError) → ErrorIsDueWith record_at e disk secrets cut want
    → ((name : Name) (place : ℕ) → record_at name place → IsTrue tells → IsCorruptAt limit files name place) → (secrets → secrets_rose) → (cut → reached) → IsFoundAt limit tells files (stop_of e) disk secrets_rose reached
opening_found limit tells files record_at disk secrets cut want secrets_rose reached Disk due found of_secrets of_cut = due
opening_found limit tells files record_at disk secrets cut want secrets_rose reached SecretsFailed due found of_secrets of_cut = of_secrets due
opening_found limit tells files record_at disk secrets cut want secrets_rose reached (Corrupt name place) due found of_secrets of_cut = found name place due
opening_found limit tells files record_at disk secrets cut want secrets_rose reached (LocalState cause) due found of_secrets of_cut = absurd due
opening_found limit tells files record_at disk secrets cut want secrets_rose reached (StateSyncEpochs info floor) due found of_secrets of_cut = absurd due
opening_found limit tells files record_at disk secrets cut want secrets_rose reached StateSyncMaterial due found of_secrets of_cut = absurd due
opening_found limit tells files record_at disk secrets cut want secrets_rose reached StoreCut due found of_secrets of_cut = of_cut due
opening_found limit tells files record_at disk secrets cut want secrets_rose reached NoMemory due found of_secrets of_cut = tt

-- what a setup behind it blames is blamed of both
module _ (limit : ℕ) (tells : Bool) (files : Files) {disk secrets reached disk_around secrets_around reached_around : Type 0}
    (of_disk : disk → disk_around) (of_secrets : secrets → secrets_around) (of_cut : reached → reached_around)
  where
    pub found_around : (stop : Stop) → IsCausedBy tells stop disk secrets reached → IsFoundAt limit tells files stop disk_around secrets_around reached_around
    found_around (Faulted fault.NoMemory) is = tt
    found_around (Faulted fault.Disk) is = of_disk is
    found_around (Faulted fault.Secrets) is = of_secrets is
    found_around (Faulted (fault.Corrupt x y)) is = λ told. absurd (is told)
    found_around (Faulted (fault.InvalidConfig x)) is = tt
    found_around (Faulted (fault.StateSyncEpochs x y)) is = tt
    found_around (Faulted fault.StateSyncMaterial) is = tt
    found_around (Faulted (fault.ConflictingBlock x)) is = tt
    found_around (Faulted (fault.DetachedBlock x)) is = tt
    found_around (Faulted (fault.SkippedHeight x y)) is = tt
    found_around (Faulted (fault.OutOfWindow x)) is = tt
    found_around (Faulted fault.HeightRange) is = tt
    found_around (Faulted (fault.MissingEpochInfo x)) is = tt
    found_around (Faulted (fault.WrongEpoch x y)) is = tt
    found_around (Faulted (fault.InvalidParticipants x)) is = tt
    found_around (Faulted (fault.DirectoryMismatch x)) is = tt
    found_around (Faulted (fault.LocalState x)) is = tt
    found_around (Faulted fault.FinalBlockMissing) is = tt
    found_around (Faulted fault.FloorBlockMissing) is = tt
    found_around Cut is = of_cut is
    found_around Failed is = absurd is

-- AS ACTS: the store's opening, and the line

abbrev tells_line : (life : ℕ) → Pairs × Notes (List ℕ) × Notes RecordedLog → Acts Fault Records
tells_line life g = acts_of.Say (Opened life (restored_list g.0)) (acts_of.Goes (recorded g))

module _ (Dir : Type 0) (life calls : ℕ) {files files_now : Files} {image now : Files → Type 0} {old new : Moment} (counts : CountsOn old.fuse new.fuse)
  where
    -- it failed
    pub store_failed : (e : StoreError) → IsOfDevices e → MadeAt (calls_of.store_opening None calls None) (by_error e) files image files_now now old new
        → MakesAt (on_devices (opens_store {Dir = Dir} seen_planless life calls)) (by_stop (stop_of e)) files image files_now now old new
    store_failed e kind opened =
        makes_early (tells_line life) (stop_of e) (makes_error e kind opened counts.call counts.pick)

    -- .. or went, and its line was told, or found no memory
    pub store_opened : (g : Pairs × Notes (List ℕ) × Notes RecordedLog) → MadeAt (calls_of.store_opening None calls None) (went g) files image files_now now old new → (Reached old.fuse new.fuse → ⊥)
        → (result : Result (Unit {0}) Stop) {out : List Entry} → OnOk result (out ≡ new.out ++ Opened life (restored_list g.0) ∷ []) → OnErr result (out ≡ new.out)
        → IfErr result (λ stop. stop ≡ Faulted fault.NoMemory)
        → MakesAt (on_devices (opens_store {Dir = Dir} seen_planless life calls)) (ends_in (recorded g) result) files image files_now now old (acts_of.moment out new.secrets new.fuse)
    store_opened g opened uncut result {out} told untold memory =
        makes_next (tells_line life) (makes_under (went g) opened (burns_counted (went g) counts uncut))
        (line_makes (Opened life (restored_list g.0)) (recorded g) result files_now now new.secrets new.fuse told untold memory)

-- WHAT WAS READ

-- nothing
abbrev pub none_kept : Pairs
none_kept = maps.empty

abbrev pub nothing_seen : Seen
nothing_seen = record { dealings = maps.entries none_kept; acks = []; logs = []; shares = []; seeds = []; plan = None }

-- what a store has
abbrev pub seen_of : {Dir : Type 0} → Store Dir → Seen
seen_of store = record { dealings = maps.entries store.dealings; acks = maps.entries store.acks; logs = maps.entries store.logs; shares = []; seeds = []; plan = None }

-- The line says it.
pub opened_told : {Dir : Type 0} (store : Store Dir) (life calls : ℕ) {out now : List Entry} → now ≡ out ++ Opened life (map restored_of (maps.entries store.dealings)) ∷ []
    → Tells {Dir = Dir} (opens_store (λ h. seen_of store) life calls) (went (records_of store)) out now
opened_told store life calls told = record { lines = Opened life (map restored_of (maps.entries store.dealings)) ∷ []; added = told; by = (nothing_held, ([], refl, (refl, refl))) }

pub given_back : {Dir : Type 0} (store : Store Dir) (image : Files → Type 0) (es : List SectionEntry) (s t : Secrets) → store.dealings ≡ recovered es s → ((c : Files) → image c → entries c ≡ es) → t ≡ s
    → AreGivenFrom 0 (seen_of store).dealings image t
given_back store image es s t is settled same = λ c here key above.
    sym (get-entries store.dealings key) ∙ ap (λ (m : Pairs). get m key) (is ∙ (λ i. recovered (sym (settled c here) i) (sym same i)))

module _ (Dir : Type 0) (life calls : ℕ) where
  -- Where the store failed, nothing was said, whatever was read.
  pub store_untold : (e : StoreError) → IsOfPruning e → (out : List Entry) (P : Seen → Type 0)
      → HasRead (λ s. UnlessBroken (by_stop {S = Records} (stop_of e)) (P s)) (λ s. Tells {Dir = Dir} (opens_store (λ h. s) life calls) (by_stop (stop_of e)) out out)
  store_untold e kind out P = record {
    seen = nothing_seen;
    unplanned = refl;
    listed = (none_kept, refl);
    given = unless_outside Records (stop_of e) (P nothing_seen) (outside_of_pruning e kind);
    so = said_none (on_devices {Dir = Dir} (opens_store (λ h. nothing_seen) life calls)) e kind refl;
  }

  -- .. and where its line found no memory
  pub store_unlisted : (out now : List Entry) → now ≡ out → (P : Seen → Type 0)
      → HasRead (λ s. UnlessBroken (by_stop {S = Records} (Faulted fault.NoMemory)) (P s)) (λ s. Tells {Dir = Dir} (opens_store (λ h. s) life calls) (by_stop (Faulted fault.NoMemory)) out now)
  store_unlisted out now same P = record {
    seen = nothing_seen;
    unplanned = refl;
    listed = (none_kept, refl);
    given = tt;
    so = said_none (on_devices {Dir = Dir} (opens_store (λ h. nothing_seen) life calls)) NoMemory tt same;
  }

-- What was given from the first epoch on, is so from a later one.
pub given_untold : (S T : Type 0) (stop : Stop) (tells sure : Type 0) (min : ℕ) (dealings : List Pair) (image : Files → Type 0) (s : Secrets)
    → UnlessBroken (by_stop {S = S} stop) (tells → sure → AreGivenFrom 0 dealings image s) → UnlessBroken (by_stop {S = T} stop) (tells → sure → AreGivenFrom min dealings image s)
given_untold S T stop tells sure min dealings image s given =
    by_stop_alike S T stop (tells → sure → AreGivenFrom min dealings image s)
    (unless_so (by_stop {S = S} stop) {P = tells → sure → AreGivenFrom 0 dealings image s} {Q = tells → sure → AreGivenFrom min dealings image s} (λ its told too. given_above min dealings image s (its told too)) given)

module _ (tells sure : Type 0) (low min : ℕ) (same : low ≡ min) (dealings : List Pair) (files : Files) (image next : Files → Type 0) (s t : Secrets) (there : tells → image files) (given : tells → sure → AreGivenFrom 0 dealings image s) where
  -- .. and of what a setup behind it leaves
  pub given_behind : (tells → sure → StaysFrom low image next s t) → tells → sure → AreGivenFrom min dealings next t
  given_behind stays told too = subst (λ (m : ℕ). AreGivenFrom m dealings next t) same (given_on low dealings files image next s t (there told) (given told too) (stays told too))

  pub given_stopped : (S T : Type 0) (stop : Stop) → UnlessBroken (by_stop {S = S} stop) (tells → sure → StaysFrom low image next s t) → UnlessBroken (by_stop {S = T} stop) (tells → sure → AreGivenFrom min dealings next t)
  given_stopped S T stop stays =
      by_stop_alike S T stop (tells → sure → AreGivenFrom min dealings next t)
      (unless_so (by_stop {S = S} stop) {P = tells → sure → StaysFrom low image next s t} {Q = tells → sure → AreGivenFrom min dealings next t} given_behind stays)

-- A READ that changes nothing

module _ {Dir F S : Type 0} (course : Course Dir F S) where
  runs_asked : (how : Ended F S) (w new : World) → Runs (on_devices course) how w new → Runs (on_devices (Ask (λ h. course))) how w new
  runs_asked (went end) w new a = a
  runs_asked (stopped fault) w new a = a
  runs_asked (broken_by cause) w new a = a

  pub asked_makes : {how : Ended F S} {files files_now : Files} {image now : Files → Type 0} {old new : Moment} → MakesAt (on_devices course) how files image files_now now old new
      → MakesAt (on_devices (Ask (λ h. course))) how files image files_now now old new
  asked_makes {how} {files} {old = old} {new = new} it = record {
    made = record { made = λ stands c here. runs_asked how (acts_of.at old files) (acts_of.at new c) (it.made.made stands c here); stands = it.made.stands };
    burns = it.burns;
  }

  asked_says : (how : Ended F S) (lines : List Entry) → SaysBy (on_devices course) how lines → SaysBy (on_devices (Ask (λ h. course))) how lines
  asked_says (went end) lines by = (nothing_held, by)
  asked_says (stopped fault) lines by = (nothing_held, by)
  asked_says (broken_by cause) lines by = inr (nothing_held, by)

  pub asked_told : (how : Ended F S) {out now : List Entry} → Tells course how out now → Tells (Ask (λ h. course)) how out now
  asked_told how said = record { lines = said.lines; added = said.added; by = asked_says how said.lines said.by }

-- AN OPENING OF A LIFE

module _ {Dir : Type 0} (c : Fixed Dir) (is_bare : IsBareOpening c) (unplanned : (h : Held) → (c.seen h).plan ≡ None) (seen : Held → Seen) (reads : c.seen ≡ seen) (number calls : ℕ) (life_is : c.life ≡ number) (calls_are : c.opening_calls ≡ calls) where
  store_first : opening c ≡ bind (opens_store seen number calls) (sets_up_over c)
  store_first = opening_as c is_bare.reshare is_bare.bare unplanned ∙ (λ i. bind (opens_store (reads i) (life_is i) (calls_are i)) (sets_up_over c))

  -- the store failed
  pub opening_failed : (stop : Stop) {files files_now : Files} {image now : Files → Type 0} {old new : Moment} → MakesAt (on_devices (opens_store {Dir = Dir} seen number calls)) (by_stop stop) files image files_now now old new
      → MakesAt (on_devices (opening c)) (by_stop stop) files image files_now now old new
  opening_failed stop made = makes_as store_first (by_stop stop) (early_makes (opens_store seen number calls) (sets_up_over c) stop made)

  pub opening_untold : (stop : Stop) {out now : List Entry} → Tells {Dir = Dir} (opens_store seen number calls) (by_stop stop) out now → Tells (opening c) (by_stop stop) out now
  opening_untold stop told = tells_as store_first (by_stop stop) (early_told (opens_store seen number calls) (sets_up_over c) stop told)

  -- .. or the setup was made over it
  module _ (source : SourceAnswers Dir) (lent : c.source ≡ source) (fence : Readiness) (fresh : fence ≡ no_fence) (word : ℕ) (store : Store Dir) (current : store.current ≡ None) (life : Life Dir)
      (is : life ≡ record { word = word; store = store; tip = startup_of source; epoch = 0; midpoint = 0; stage = Following; round = None; dealer = None; player = None }) (how : Ended Fault (Live Dir))
    where
      setup_is : setup.setup c None (begun_at c (records_of store)) ≡ setup.setup c None (live_of nothing_beside fence life)
      setup_is = ap (λ (st : Live Dir). setup.setup c None st) (sym (begun_live c source lent fence fresh word store current life is))

      pub opening_made : {files files_mid files_now : Files} {image between now : Files → Type 0} {old mid new : Moment}
          → MakesAt (on_devices (opens_store {Dir = Dir} seen number calls)) (went (records_of store)) files image files_mid between old mid
          → MakesAt (on_devices (setup.setup c None (live_of nothing_beside fence life))) how files_mid between files_now now mid new
          → MakesAt (on_devices (opening c)) how files image files_now now old new
      opening_made first second =
          makes_as store_first how (then_makes (opens_store seen number calls) (sets_up_over c) (records_of store) how first
          (asked_makes (setup.setup c None (begun_at c (records_of store))) (makes_as setup_is how second)))

      pub opening_told : {out mid now : List Entry} → Tells {Dir = Dir} (opens_store seen number calls) (went (records_of store)) out mid → Tells (setup.setup c None (live_of nothing_beside fence life)) how mid now
          → Tells (opening c) how out now
      opening_told first second =
          tells_as store_first how (then_told (opens_store seen number calls) (sets_up_over c) (records_of store) how first
          (asked_told (setup.setup c None (begun_at c (records_of store))) how (tells_as setup_is how second)))

-- of which something was read
pub reading_lent : {Dir : Type 0} (terms : Terms) (source : SourceAnswers Dir) (word its : ℕ) (c : Fixed Dir) (s : Seen) → its ≡ word → s.plan ≡ None → IsLent terms source word c → IsLent terms source its (reading s c)
reading_lent terms source word its c s same unplanned lent = record {
  of = record {
    me = lent.of.me;
    blocks = lent.of.blocks;
    limit = lent.of.limit;
    version = lent.of.version;
    mode = lent.of.mode;
    reveal = lent.of.reveal;
    namespace = lent.of.namespace;
    unplanned = λ h. unplanned;
    reshare = lent.of.reshare;
    bare = lent.of.bare;
  };
  lent = lent.lent;
  word_is = lent.word_is ∙ sym same;
}

-- the word of the life that was begun
pub lent_to : {Dir : Type 0} (terms : Terms) (source : SourceAnswers Dir) (word its : ℕ) (c : Fixed Dir) → its ≡ word → IsLent terms source word c → IsLent terms source its c
lent_to terms source word its c same lent = record { of = lent.of; lent = lent.lent; word_is = lent.word_is ∙ sym same }

-- what a store gave back, with the shares and the seeds that a setup behind it read
abbrev pub with_secrets : Seen → Held → Seen
with_secrets s h = record s { shares = maps.entries h.secrets.shares; seeds = maps.entries h.secrets.seeds }

pub can_read : {Dir : Type 0} (s : Seen) (h : Held) (c : Fixed Dir) → CanRead (reading (with_secrets s h) c) h
can_read s h c = (h, refl, refl)

-- MEMORY AND DEVICES AGREE

-- behind the store's opening
pub store_agrees : (Dir : Type 0) (life calls : ℕ) (r : Records) {files files_now : Files} {image now : Files → Type 0} {old new : Moment}
    → MakesAt (on_devices (opens_store {Dir = Dir} seen_planless life calls)) (went r) files image files_now now old new → now files_now → Stands files image → IsWhole (entries files) old.secrets
    → AreAgreed r (held_in files_now new.secrets)
store_agrees Dir life calls r {files} {old = old} it here stands whole =
    let done = it.made.made stands _ here in
    let opened : Held = held_after (OnDisk (Opens calls)) (held_after (OnDisk Bars) (held_in files old.secrets)) in
    subst (λ (w : World). AreAgreed r w.held) (sym done.0) (subst (λ (x : Records). AreAgreed x opened) (sym done.1) (record { whole = whole; dealings = refl; acks = refl; logs = refl }))

-- .. and behind a setup
pub setup_agrees : {Dir : Type 0} (c : Fixed Dir) (st end : Live Dir) (result : Result (Unit {0}) Stop) {files files_now : Files} {image now : Files → Type 0} {old new : Moment}
    → MakesAt (on_devices (setup.setup c None st)) (ends_in end result) files image files_now now old new → now files_now
    → OnOk result (Stands files image → AreAgreed st.records (held_in files old.secrets) → AreAgreed end.records (held_in files_now new.secrets))
setup_agrees c st end (Ok done) {files} {files_now} {old = old} {new = new} it here = λ stands agreed.
    setups_agree c None st end (acts_of.at old files) (acts_of.at new files_now) agreed (it.made.made stands files_now here)
setup_agrees c st end (Err stop) it here = tt
