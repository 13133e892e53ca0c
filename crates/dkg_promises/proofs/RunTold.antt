-- What each line of a run over devices that tell says, from what its lives lead on to: the run begins with the devices that were handed in, and its entries tell how its lives ended.
use Rattle.std.proofs.Common.{◌≡◌, ◌+◌, ◌≤◌, ◌++◌, [], ℕ, false, List, Option, Some, Result, refl, sym, ◌∙◌, ap, subst}
use Rattle.std.specs.Prelude.{fold, is_some}
use Rattle.dkg_journal.specs.Names.{Files}
use Rattle.dkg_journal.specs.Records.{entries}
use Rattle.dkg_infos.specs.declared.entry.Entry.{Entry}
use Rattle.dkg_infos.specs.declared.fault.Fault.{Fault}
use Rattle.dkg_secrets.specs.Secrets.{Secrets}
use Rattle.dkg_text.specs.declared.script.Life.{Life}
use Rattle.dkg_script.specs.Consistent.{IsConsistentScript}
use Rattle.dkg_script.specs.LogsKnown.{LogsKnown}
use Rattle.dkg_script.specs.Position.{awaited_before, awaited_epoch, begun_before}
use Rattle.dkg_script.specs.Progress.{at_start, progress, read}
use Rattle.dkg_script.specs.Setting.{CutAt, Setting, is_oneshot, life_at}
use Rattle.dkg_store.specs.Acts.{Held, World, at, moment}
use Rattle.dkg_store.specs.Noted.{logs_in}
use Rattle.dkg_store.specs.Pairs.{IsWhole}
use Rattle.dkg_core.specs.Seen.{Seen}
use Rattle.dkg_lives.specs.Epochs.{IsLifeInForm}
use Rattle.dkg_lives.specs.Given.{lived}
use Rattle.dkg_lives.specs.Lives.{RunsOver, never}
use Rattle.dkg_lives.specs.Ways.{by_worlds}
use Rattle.dkg_promises.proofs.Keeping.{IsGivenSetting, given, lives_of, rests_at_start, same_behind}
use Rattle.dkg_along.proofs.LifeSteps.{IsLifeOfSetting}
use Rattle.dkg_along.proofs.EntryLives.{EachTold, LeadsOn, Told, run_told}
use Rattle.dkg_along.proofs.LivesTold.{BaseBetween}
use Rattle.dkg_along.proofs.ToldBeside.{OfLines, OfRests, OfSteps}
use Rattle.dkg_along.proofs.WorldLives.{IsCounted}

module _ (s : Setting) (built : IsGivenSetting s) (no_plans : s.plans ≡ []) (added : List Entry) (consistent : IsConsistentScript s (progress s added).cuts) where
  -- how the lives ended, as these entries tell it
  abbrev pub ends : List (Option CutAt)
  ends = (progress s added).cuts

  pub reshares : is_oneshot s ≡ false
  reshares = ap is_some built.form.reshares

  pub its_given : (l : ℕ) (life : Life) (seen : Held → Seen) (files : Files) → life_at s l ≡ Some life → by_worlds.reads seen → IsLifeInForm (lived s.script l life seen files) × IsLifeOfSetting s ends (lived s.script l life seen files)
  its_given = given s ends built no_plans consistent

  -- the world in which it begins
  abbrev pub begins : List Entry → World
  begins old_out = at (moment old_out s.secrets never) s.files

  -- WHAT THE DEVICES GIVE BACK THEN, where each dealing that was handed in has its private half
  pub base_begins : (marks : Type 0) (old_out : List Entry) → IsWhole (entries s.files) s.secrets → (marks → LogsKnown s (begun_before s [] 0) (at_start s).recorded (logs_in (entries s.files)))
      → BaseBetween s ends reshares consistent its_given marks 0 (begins old_out) []
  base_begins marks old_out whole known = (rests_at_start s (begins old_out).held refl refl whole, known)

  -- LINE BY LINE
  module _ (E : OfLines) (Between : OfRests) (Here : OfSteps s) (plain : (marks : Type 0) (before : List Entry) (line : Entry) → IsCounted line → E marks before line)
      (leads : (l : ℕ) (life : Life) (seen : Held → Seen) (files : Files) (life_is : life_at s l ≡ Some life) (reads : by_worlds.reads seen) (cuts : List (Option CutAt)) (back : awaited_before s cuts l ≤ awaited_epoch s l life 0 + 1)
      → LeadsOn s E ends reshares consistent its_given Between Here l life seen files life_is reads cuts back) where
    pub each_told : (marks : Type 0) (answered : Result (Unit {0}) Fault) (old_out new_out : List Entry) (secrets_now : Secrets) → new_out ≡ old_out ++ added → Between marks 0 (begins old_out) []
        → (c : Files) → RunsOver s.script answered s.files (begins old_out) (λ f. at (moment new_out secrets_now f) c) → EachTold s E marks [] added
    unfolding progress
    each_told marks answered old_out new_out secrets_now is first c run = subst (EachTold s E marks []) same told.each
      where
        new : World
        new = at (moment new_out secrets_now run.fuse) c

        end_so : (its : List Entry) → new_out ≡ old_out ++ its → (fold (read s) (at_start s) its).cuts ≡ ends
        end_so its out = ap (λ (xs : List Entry). (fold (read s) (at_start s) xs).cuts) (same_behind old_out its added (sym out ∙ is))

        told : Told s E marks [] old_out new_out (λ later b. Unit {0})
        told = run_told s E ends reshares consistent its_given Between Here plain (λ l life seen files life_is reads cuts back began. leads l life seen files life_is reads cuts back) (λ its. its ≡ s.files) marks (begins old_out) answered new
            (lives_of s [] s.script.lives refl) first end_so run.so

        same : told.added ≡ added
        same = same_behind old_out told.added added (sym told.out ∙ is)
