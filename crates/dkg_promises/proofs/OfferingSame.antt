-- Of a run over worlds follows that its entries offer the same to a player of an epoch at each time.
use Rattle.std.proofs.Common.{◌≡◌, ℕ, zero, suc, ◌++◌, List, Some, None, Result, refl, sym, ◌∙◌, ap, subst, fold}
use Rattle.std.proofs.lemmas.List.{append_cancel_left}
use Rattle.dkg_journal.specs.Names.{Files}
use Rattle.dkg_secrets.specs.Secrets.{Secrets}
use Rattle.dkg_infos.specs.declared.entry.Entry.{Entry}
use Rattle.dkg_infos.specs.declared.fault.Fault.{Fault}
use Rattle.dkg_text.specs.declared.script.Life.{Life}
use Rattle.dkg_text.specs.declared.script.Script.{Script}
use Rattle.dkg_script.specs.AsCut.{as_cut}
use Rattle.dkg_script.specs.Consistent.{IsConsistentScript}
use Rattle.dkg_script.specs.Inclusion.{IsFormOfInclusion}
use Rattle.dkg_script.specs.Progress.{at_start, progress, read}
use Rattle.dkg_script.specs.SameOffers.{OffersTheSame, SameOffers}
use Rattle.dkg_script.specs.Setting.{Setting, found, life_at, setting_of}
use Rattle.dkg_store.specs.Acts.{Held, World, at, moment}
use Rattle.dkg_core.specs.Seen.{Seen}
use Rattle.dkg_core.specs.Storing.{ReadsSecrets}
use Rattle.dkg_lives.specs.Epochs.{IsLifeInForm}
use Rattle.dkg_lives.specs.Given.{lived}
use Rattle.dkg_lives.specs.Lives.{RunsOver, never}
use Rattle.dkg_lives.specs.Ways.{by_worlds}
use Rattle.dkg_promises.proofs.EndsTold.{ends_are_told}
use Rattle.dkg_along.proofs.Leading.{Leads}
use Rattle.dkg_promises.proofs.OfferingRuns.{OffersSame, run_ends, run_offers}

module _ (script : Script) (files : Files) (secrets : Secrets) where
  abbrev s : Setting
  s = setting_of script files secrets

  none_found : (l : ℕ) → found s l ≡ None
  none_found zero = refl
  none_found (suc l) = refl

  -- what is known of each life that begins, by what it reads
  abbrev pub KnowsLives : Type 0
  KnowsLives = (l : ℕ) (life : Life) (seen : Held → Seen) (its : Files) → life_at s l ≡ Some life → by_worlds.reads seen → IsLifeInForm (lived script l life seen its) × ReadsSecrets seen

  pub same_offers : (form : IsFormOfInclusion script) → KnowsLives → (answered : Result (Unit {0}) Fault) (old new added : List Entry) (secrets_now : Secrets) (c : Files) → new ≡ old ++ added
      → RunsOver script answered files (at (moment old secrets never) files) (λ f. at (moment new secrets_now f) c) → IsConsistentScript s (progress s added).cuts → SameOffers added
  unfolding progress
  same_offers form knows answered old new added secrets_now c is run consistent = subst SameOffers (append_cancel_left old offers.added added (sym offers.out ∙ is)) offers.same
    where
      w : World
      w = at (moment old secrets never) files

      end : World
      end = at (moment new secrets_now run.fuse) c

      told : Leads s (at_start s) old new (λ q. q.cuts ≡ run_ends script (λ its. its ≡ files) w (run.so).result (run.so).mid (run.so).lives)
      told = ends_are_told s (λ its. its ≡ files) w answered end run.so

      ends : (fold (read s) (at_start s) added).cuts ≡ run_ends script (λ its. its ≡ files) w (run.so).result (run.so).mid (run.so).lives
      ends = ap (λ (xs : List Entry). (fold (read s) (at_start s) xs).cuts) (append_cancel_left old added told.added (sym is ∙ told.out)) ∙ told.to

      offers : OffersSame old new
      offers = run_offers s form none_found knows (λ its. its ≡ files) w answered end run.so (subst (IsConsistentScript s) ends consistent)

-- THE CLAUSE, of a run over the script as it was cut
pub offers_the_same : (script : Script) (files : Files) (secrets : Secrets) (added : List Entry) → (let ends = (progress (setting_of script files secrets) added).cuts in KnowsLives (as_cut ends script) files secrets)
    → (answered : Result (Unit {0}) Fault) (old new : List Entry) (secrets_now : Secrets) (c : Files) → new ≡ old ++ added
    → RunsOver (as_cut (progress (setting_of script files secrets) added).cuts script) answered files (at (moment old secrets never) files) (λ f. at (moment new secrets_now f) c) → OffersTheSame script files secrets added
offers_the_same script files secrets added knows answered old new secrets_now c is run = λ form consistent.
    same_offers (as_cut (progress (setting_of script files secrets) added).cuts script) files secrets form knows answered old new added secrets_now c is run consistent
