-- No corrupt record is found where each record is whole and an event; and a script that is valid however it is cut is so as it was cut.
use Rattle.std.proofs.Common.{◌≡◌, ◌⊎◌, inl, inr, ℕ, List, [], ◌∷◌, map, drop, Option, Some, None, Result, Ok, Err, refl, sym, ap, subst, ◌∙◌}
use Rattle.std.specs.Prelude.{IfErr}
use Rattle.dkg_journal.specs.Gated.{gated, gated_behind}
use Rattle.dkg_journal.specs.Names.{Files}
use Rattle.dkg_journal.specs.Opening.{first_break}
use Rattle.dkg_journal.specs.Records.{SectionEntry as Record, entries}
use Rattle.dkg_journal.specs.Views.{views}
use Rattle.dkg_journal.specs.declared.opening.JournalEntry.{JournalEntry}
use Rattle.dkg_values.specs.declared.name.Name.{Name}
use Rattle.dkg_infos.specs.declared.entry.Entry.{Entry}
use Rattle.dkg_infos.specs.declared.fault.Fault.{Fault}
use Rattle.dkg_infos.specs.declared.fault.Fault.TheVariants.{Corrupt}
use Rattle.dkg_store.specs.Corrupt.{AreEvents, AreFit, HasNoEvent, IsCorruptAt}
use Rattle.dkg_store.specs.Events.{no_event_at}
use Rattle.dkg_store.proofs.OpeningActs.{no_other, no_place}
use Rattle.dkg_text.specs.declared.script.Script.{Script}
use Rattle.dkg_script.specs.AsCut.{with_cuts}
use Rattle.dkg_script.specs.Order.{InOrder}
use Rattle.dkg_script.specs.Progress.{Progress, progress}
use Rattle.dkg_script.specs.Promise.{RunsInOrder}
use Rattle.dkg_script.specs.Setting.{CutAt, Setting, setting_of}
use Rattle.dkg_script.proofs.AsCut.{same_progress}
use Rattle.dkg_script.proofs.ScriptedCuts.{ends_as_scripted}
use Rattle.dkg_promises.specs.Complete.{IsValidAnyhow, IsValidAsCut, IsValidRun}
use Rattle.dkg_promises.specs.Found.{IsFoundRecord}
use Rattle.dkg_promises.specs.GivesBack.{NamesNoRecord}
use Rattle.dkg_promises.specs.Over.{DevicesStanding}

-- NO CORRUPT RECORD

-- an entry again, without the place of its gate
abbrev bare : Record → Record
bare e = (e.0, drop 1 e.1)

bare_behind : (section place : ℕ) (es : List Record) → map bare (gated_behind section place es) ≡ es
bare_behind section place [] = refl
bare_behind section place (e ∷ es) = ap (λ (l : List Record). e ∷ l) (bare_behind e.0 _ es)

bare_views : (es : List JournalEntry) → map bare (map gated es) ≡ views es
bare_views [] = refl
bare_views (e ∷ es) = ap (λ (l : List Record). (e.section, e.body) ∷ l) (bare_views es)

-- where all are whole, and events, none is corrupt
uncorrupt : (limit : ℕ) (name : Name) (place : ℕ) (files : Files) → first_break files ≡ None → AreEvents limit (entries files) → IsCorruptAt limit files name place → ⊥
uncorrupt limit name place files whole events at = by_cause at.so
  where
    by_cause : (first_break files ≡ Some (name, place)) ⊎ ((first_break files ≡ None) × HasNoEvent limit files name place) → ⊥
    by_cause (inl torn) = no_place (first_break files) (name, place) torn whole
    by_cause (inr other) =
        let same : views other.1.read ≡ entries files = sym (bare_views other.1.read) ∙ ap (map bare) other.1.are ∙ bare_behind 0 0 (entries files) in
        no_place (no_event_at limit other.1.read) (name, place) other.1.first (no_other limit other.1.read (subst (AreEvents limit) (sym same) events))

-- so no fault that is found names one
pub names_none : (limit : ℕ) (files : Files) (image : Files → Type 0) (its : Fault) → IsFoundRecord limit files its → AreFit limit image → image files → NamesNoRecord its
names_none limit files image (Corrupt name place) found fit here = uncorrupt limit name place files (fit.whole.each files here) (fit.events files here) found.so
names_none limit files image its found fit here = tt

-- THE CLAUSE of unblamed
pub unblamed : (limit : ℕ) (files_now : Files) (image now : Files → Type 0) (answered : Result (Unit {0}) Fault) → IfErr answered (IsFoundRecord limit files_now) → (AreFit limit image → AreFit limit now) → now files_now
    → IfErr answered (λ its. AreFit limit image → NamesNoRecord its)
unblamed limit files_now image now (Ok done) found fit here = tt
unblamed limit files_now image now (Err its) found fit here = λ fits. names_none limit files_now now its found (fit fits) here

-- What is valid however it is cut is valid as it was.
pub valid_as_cut : (script : Script) (entries : List Entry) (before : DevicesStanding) → IsValidAnyhow script before → RunsInOrder script entries → IsValidAsCut script entries before
valid_as_cut script entries before valid ordered =
    let s : Setting = setting_of script before.files before.held in
    let ends : List (Option CutAt) = (progress s entries).cuts in
    let here : InOrder s entries = ordered before.files before.held in
    subst (λ (its : List (Option CutAt)). IsValidRun (with_cuts ends s) before.image its) (sym (ap (λ (p : Progress). p.cuts) (same_progress s ends entries here refl))) (valid ends (ends_as_scripted s entries here))
