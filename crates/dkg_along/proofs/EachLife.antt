-- Each life of a script of the form of epochs, whose configuration was checked, is one of those that are meant, in either way.
use Rattle.std.proofs.Common.{◌≡◌, ℕ, Some, ap, ◌∙◌}
use Rattle.std.specs.Prelude.{slice_get}
use Rattle.dkg_journal.specs.Names.{Files}
use Rattle.dkg_text.specs.declared.script.Life.{Life}
use Rattle.dkg_text.specs.declared.script.Script.{Script}
use Rattle.dkg_script.specs.Inclusion.{IsFormOfInclusion}
use Rattle.dkg_store.specs.Acts.{Held}
use Rattle.dkg_core.specs.Seen.{Seen}
use Rattle.dkg_lives.specs.Epochs.{IsChecked, IsLifeInForm}
use Rattle.dkg_lives.specs.Given.{lived}
use Rattle.dkg_lives.specs.Ways.{ReadsSomething, by_worlds}
use Rattle.dkg_lives.proofs.Checked.{life_in_form}
use Rattle.dkg_lives.proofs.PlanlessReads.{planless}

module _ (script : Script) (form : IsFormOfInclusion script) (checked : IsChecked script) where
  -- over lines
  pub lives_over : (l : ℕ) (life : Life) (seen : Held → Seen) (files : Files) → slice_get script.lives l ≡ Some life → ReadsSomething seen → IsLifeInForm (lived script l life seen files)
  lives_over l life seen files at reads = life_in_form script l life seen files form checked at (λ h. ap (λ (f : Held → Seen). (f h).plan) reads.each ∙ reads.unplanned)

  -- over worlds
  pub worlds_over : (l : ℕ) (life : Life) (seen : Held → Seen) (files : Files) → slice_get script.lives l ≡ Some life → by_worlds.reads seen → IsLifeInForm (lived script l life seen files)
  worlds_over l life seen files at reads = life_in_form script l life seen files form checked at (planless seen reads)
