-- A valid script over valid devices of which no count rises is run to its end, unless memory runs out.
use Rattle.std.proofs.Common.{◌≡◌, ℕ, zero, suc, ◌++◌, ◌≤◌, List, [], Option, Some, None, Result, Ok, Err, refl, sym, ◌∙◌, ap, fold, length}
use Rattle.std.specs.Prelude.{IfErr}
use Rattle.std.specs.FinMap.{get}
use Rattle.std.proofs.lemmas.List.{append_cancel_left}
use Rattle.dkg_journal.specs.Names.{Files}
use Rattle.dkg_secrets.specs.Secrets as store
use Rattle.dkg_infos.specs.declared.entry.Entry.{Entry}
use Rattle.dkg_infos.specs.declared.fault.Fault.{Fault}
use Rattle.dkg_infos.specs.declared.fault.Fault.TheVariants.{Corrupt, Disk, NoMemory, Secrets}
use Rattle.dkg_text.specs.declared.script.Life.{Life}
use Rattle.dkg_text.specs.declared.script.Script.{Script}
use Rattle.dkg_script.specs.Inclusion.{IsFormOfInclusion}
use Rattle.dkg_script.specs.Progress.{at_start, progress, read}
use Rattle.dkg_script.specs.Promise.{cuts_in}
use Rattle.dkg_script.specs.Setting.{CutAt, Setting, found, life_at, setting_of}
use Rattle.dkg_store.specs.Acts.{Held, Stands, World, at, moment}
use Rattle.dkg_store.specs.Corrupt.{AreFit}
use Rattle.dkg_core.specs.Heard.{recovered_in}
use Rattle.dkg_core.specs.Seen.{Seen}
use Rattle.dkg_life.specs.declared.stop.Stop.{Stop}
use Rattle.dkg_lives.specs.Blamed.{IsFromOutside}
use Rattle.dkg_promises.specs.Complete.{IsValidRun}
use Rattle.dkg_script.specs.Ends.{EndsRun}
use Rattle.dkg_lives.specs.Epochs.{IsChecked, IsLifeInForm}
use Rattle.dkg_promises.specs.Found.{IsFoundRecord}
use Rattle.dkg_lives.specs.Given.{AreBytes, lived}
use Rattle.dkg_promises.specs.GivesBack.{limit_in}
use Rattle.dkg_lives.specs.Lives.{LivesSo, RunsOver, never}
use Rattle.dkg_script.specs.Valid.{IsValidCase}
use Rattle.dkg_lives.specs.Ways.{by_worlds}
use Rattle.dkg_promises.proofs.ClearLives.{HoldsAll, life_holds_all}
use Rattle.dkg_promises.proofs.Completing.{names_none}
use Rattle.dkg_along.proofs.EachLife.{worlds_over}
use Rattle.dkg_promises.proofs.EndsTold.{ends_are_told}
use Rattle.dkg_along.proofs.FitsBrought.{acks_fit, brings_fit}
use Rattle.dkg_promises.proofs.GivingDealings.{FitsRecords}
use Rattle.dkg_promises.proofs.Keeping.{history_of}
use Rattle.dkg_along.proofs.Leading.{Leads}
use Rattle.dkg_promises.proofs.LivesClear.{EndsOutside, run_clear}
use Rattle.dkg_promises.proofs.OfferingRuns.{run_ends}
use Rattle.dkg_lives.proofs.PlanlessReads.{planless_records, planless_secrets}

-- A RUN OVER WORLDS, of a script whose configuration is checked and whose payloads are bytes

module _ (script : Script) (form : IsFormOfInclusion script) (checked : IsChecked script) (bytes : AreBytes script.blocks) (files : Files) (image : Files → Type 0) (held : store.Secrets) (itself : image files) where
  abbrev s : Setting
  s = setting_of script files held

  none_found : (l : ℕ) → found s l ≡ None
  none_found zero = refl
  none_found (suc l) = refl

  module _ (ends : List (Option CutAt)) (valid : IsValidRun s image ends) where
    -- the case of no plan
    its_case : IsValidCase s ends
    its_case = valid.script.source [] (history_of s ends form valid.built.no_plan refl)

    abbrev All : Held → Type 0
    All h = HoldsAll s ends its_case form bytes none_found h

    lives_all : (l : ℕ) (life : Life) (seen : Held → Seen) (its : Files) → life_at s l ≡ Some life → by_worlds.reads seen → l ≤ length ends → (w new : World) (how : Result (Unit {0}) Stop) → All w.held
        → LivesSo by_worlds (lived s.script l life seen its) its w how new → All new.held × EndsOutside how
    lives_all l life seen its life_is reads begun w new how all so =
        life_holds_all s ends its_case form bytes none_found l life seen its life_is here (planless_records seen reads) (planless_secrets seen reads) fits begun w new how all so
      where
        here : IsLifeInForm (lived script l life seen its)
        here = worlds_over script form checked l life seen its life_is reads

        fits : FitsRecords s ends form its_case.consistent l life seen its life_is here (planless_records seen reads)
        fits = record { acks = acks_fit (lived script l life seen its) here; brings = brings_fit (lived script l life seen its) here bytes form.placed }

    module _ (old new added : List Entry) (is : new ≡ old ++ added) (files_now : Files) (held_now : store.Secrets) where
      abbrev w : World
      w = at (moment old held never) files

      first_all : All w.held
      first_all = record {
        given = (
          (
            valid.devices.stores.whole,
            λ key pair round low got made. valid.devices.agree.dealings key.0 key.1 pair.0 pair.1 round low got made,
          ),
          λ key pair mine got round made. valid.devices.agree.own key.0 pair.0 pair.1 round (ap (λ (n : ℕ). get (recovered_in w.held) (key.0, n)) (sym mine) ∙ got) made,
        );
        shares = λ epoch share got info known. valid.devices.agree.shares epoch share info got known;
      }

      comes_outside : ends ≡ cuts_in s added → (answered : Result (Unit {0}) Fault) → (Stands files image → RunsOver script answered files w (λ f. at (moment new held_now f) files_now)) → IfErr answered IsFromOutside
      unfolding progress
      comes_outside ends_are answered runs = run_clear All s ends lives_all checked (λ its. its ≡ files) w answered end first_all run.so ends_so
        where
          run : RunsOver script answered files w (λ f. at (moment new held_now f) files_now)
          run = runs (record { lands = valid.devices.stores.nothing_loose; itself = itself })

          end : World
          end = at (moment new held_now run.fuse) files_now

          told : Leads s (at_start s) old new (λ q. q.cuts ≡ run_ends script (λ its. its ≡ files) w (run.so).result (run.so).mid (run.so).lives)
          told = ends_are_told s (λ its. its ≡ files) w answered end run.so

          ends_so : ends ≡ run_ends script (λ its. its ≡ files) w (run.so).result (run.so).mid (run.so).lives
          ends_so = ends_are ∙ ap (λ (xs : List Entry). (fold (read s) (at_start s) xs).cuts) (append_cancel_left old added told.added (sym is ∙ told.out)) ∙ told.to

-- THE CLAUSE of complete, where the devices tell: P and Q say that the disk's count rose, and that of the secret store
pub completes : (script : Script) (form : IsFormOfInclusion script) (checked : IsChecked script) (bytes : AreBytes script.blocks) (files files_now : Files) (image now : Files → Type 0) (held held_now : store.Secrets) (P Q : Type 0)
    (answered : Result (Unit {0}) Fault) (old new added : List Entry) → new ≡ old ++ added → image files → now files_now
    → (Stands files image → RunsOver script answered files (at (moment old held never) files) (λ f. at (moment new held_now f) files_now))
    → EndsRun answered added P Q → IfErr answered (IsFoundRecord (limit_in script) files_now) → (AreFit (limit_in script) image → AreFit (limit_in script) now)
    → (let s = setting_of script files held in IfErr answered (λ its. IsValidRun s image (cuts_in s added) → (P → ⊥) → (Q → ⊥) → its ≡ NoMemory))
completes script form checked bytes files files_now image now held held_now P Q (Ok done) old new added is itself left runs ends found fit = tt
completes script form checked bytes files files_now image now held held_now P Q (Err its) old new added is itself left runs ends found fit = λ valid no_disk no_secrets.
    by_fault valid no_disk no_secrets its
    (comes_outside script form checked bytes files image held itself (cuts_in (setting_of script files held) added) valid old new added is files_now held_now refl (Err its) runs) ends found
  where
    s : Setting
    s = setting_of script files held

    by_fault : IsValidRun s image (cuts_in s added) → (P → ⊥) → (Q → ⊥) → (own : Fault) → IsFromOutside own → EndsRun (Err own) added P Q → IsFoundRecord (limit_in script) files_now own → own ≡ NoMemory
    by_fault valid no_disk no_secrets NoMemory out ends found = refl
    by_fault valid no_disk no_secrets Disk out ends found = absurd (no_disk ends.1)
    by_fault valid no_disk no_secrets Secrets out ends found = absurd (no_secrets ends.1)
    by_fault valid no_disk no_secrets (Corrupt name place) out ends found = absurd (names_none (limit_in script) files_now now (Corrupt name place) found (fit valid.devices.fit) left)
    by_fault valid no_disk no_secrets own out ends found = absurd out
