-- A run over many epochs leaves only shares that are this node's in what their epochs' infos carry on, where those before it were such.
use Rattle.std.proofs.Common.{◌≡◌, ℕ, suc, List, Option, Some, Result, sym, ◌∙◌, ap, subst}
use Rattle.std.specs.Prelude.{slice_get}
use Rattle.dkg_journal.specs.Names.{Files}
use Rattle.dkg_secrets.specs.Secrets.{Secrets}
use Rattle.dkg_infos.specs.declared.directory.Unit as directory
use Rattle.dkg_infos.specs.declared.fault.Fault.{Fault}
use Rattle.dkg_text.specs.declared.script.Event.{Event}
use Rattle.dkg_text.specs.declared.script.Life.{Life}
use Rattle.dkg_script.specs.Consistent.{IsConsistentScript}
use Rattle.dkg_script.specs.Inclusion.{IsFormOfInclusion}
use Rattle.dkg_script.specs.Setting.{Setting, CutAt, life_at}
use Rattle.dkg_store.specs.Acts.{Ended, Held, World, broken, notes, stopped, went}
use Rattle.dkg_store.specs.Pairs.{IsWhole, recovered}
use Rattle.dkg_core.specs.Endings.{CameTo}
use Rattle.dkg_core.specs.Heard.{recovered_in}
use Rattle.dkg_core.specs.Live.{Live, NodeStop}
use Rattle.dkg_core.specs.Meant.{ReadsRecords}
use Rattle.dkg_core.specs.Node.{node_opening}
use Rattle.dkg_core.specs.Seen.{Seen}
use Rattle.dkg_core.specs.Storing.{ReadsSecrets}
use Rattle.dkg_life.specs.declared.stop.Stop.{Stop}
use Rattle.dkg_lives.specs.Epochs.{IsLifeInForm}
use Rattle.dkg_lives.specs.Given.{Lived, at_step, lived, step_of}
use Rattle.dkg_promises.specs.GivesBack.{PassesAll}
use Rattle.dkg_lives.specs.Lives.{LivesSo, RunsSo}
use Rattle.dkg_lives.specs.Ways.{by_worlds}
use Rattle.dkg_lives.proofs.Awaiting.{IsReached}
use Rattle.dkg_promises.proofs.GivingDealings as giving
use Rattle.dkg_promises.proofs.GivingDealings.{FitsRecords, IsPassing, PassHeld}
use Rattle.dkg_along.proofs.GivingLives.{KeepsSo, LeavesSo, life_holds, run_holds}
use Rattle.dkg_along.proofs.SharesFit.{same_shares}
use Rattle.dkg_promises.proofs.SharesKnown.{IsFitting, IsMineAt, SharesFit, opening_fits, opening_fitting, step_fits, step_fitting}

-- whole devices give back dealings that pass, and hold shares that fit
abbrev pub PassAndFit : Setting → Held → Type 0
PassAndFit s h = PassHeld s h × SharesFit s h

module _ (s : Setting) (cuts : List (Option CutAt)) (form : IsFormOfInclusion s.script) (consistent : IsConsistentScript s cuts) (l : ℕ) (life : Life) (seen : Held → Seen) (files : Files) (life_is : life_at s l ≡ Some life)
    (here : IsLifeInForm (lived s.script l life seen files)) (records : ReadsRecords seen) (secrets : ReadsSecrets seen) (fits : FitsRecords s cuts form consistent l life seen files life_is here records) where
  abbrev g : Lived
  g = lived s.script l life seen files

  abbrev Passing : ℕ → Live directory.Unit → Held → Type 0
  Passing j st h = IsPassing s cuts form consistent l life seen files life_is here records j st h

  abbrev Here : ℕ → Live directory.Unit → Held → Type 0
  Here j st h = Passing j st h × SharesFit s h × IsFitting s (at_step g j) st

  so : (j : ℕ) (st : Live directory.Unit) (h : Held) → Here j st h → PassAndFit s h
  so j st h its = ((((its.0).agreed).whole, (its.0).passes), its.1)

  joined : (j : ℕ) (ended : Ended NodeStop (Live directory.Unit)) (h : Held) → LeavesSo (PassHeld s) (Passing j) ended h → SharesFit s h → CameTo (λ stop. Unit {0}) (IsFitting s (at_step g j)) ended
      → LeavesSo (PassAndFit s) (Here j) ended h
  joined j (went end) h passing shares fitting = (passing, shares, fitting)
  joined j (stopped stop) h pass shares u = (pass, shares)
  joined j (broken cause) h pass shares u = (pass, shares)

  opening_keeps : (h : Held) → PassAndFit s h → KeepsSo (PassAndFit s) (Here 0) (node_opening (at_step g 0)) h
  opening_keeps h its ended w new at run =
      joined 0 ended new.held (giving.opening_keeps s cuts form consistent l life seen files life_is here records h its.0 ended w new at run)
      (opening_fits s cuts form consistent l life seen files life_is secrets here ended w new (subst (SharesFit s) (sym at) its.1) run)
      (opening_fitting s cuts form consistent l life seen files life_is secrets here ended w new run)

  step_keeps : (i : ℕ) (its : Event) (st : Live directory.Unit) (h : Held) → slice_get life.events i ≡ Some its → IsReached life.cut (suc i) → Here i st h → KeepsSo (PassAndFit s) (Here (suc i)) (step_of g (suc i) its st) h
  step_keeps i its st h is reached stands ended w new at run =
      joined (suc i) ended new.held (giving.step_keeps s cuts form consistent l life seen files life_is here records fits i its st h is reached stands.0 ended w new at run)
      (step_fits s cuts form consistent l life seen files life_is secrets here i its is reached st ((stands.0).at).active stands.2 w (subst (SharesFit s) (sym at) stands.1) ended new run)
      (step_fitting s cuts form consistent l life seen files life_is secrets here i its is reached st ((stands.0).at).active stands.2 w (subst (SharesFit s) (sym at) stands.1) ended new run)

  -- A LIFE, wherever it ends
  pub life_shares : (w new : World) (how : Result (Unit {0}) Stop) → PassAndFit s w.held → LivesSo by_worlds g files w how new → PassAndFit s new.held
  life_shares w new how its lives =
      life_holds (PassAndFit s) Here so g step_keeps files w new how its (opening_keeps w.held its) (λ stop now refused. same_devices now refused.2.entries refused.2.secrets) lives
    where
      same_devices : (now : World) → notes now.held ≡ notes w.held → now.held.secrets ≡ w.held.secrets → PassAndFit s now.held
      same_devices now entries same =
          let given : recovered_in now.held ≡ recovered_in w.held = ap (λ es. recovered es now.held.secrets) entries ∙ ap (recovered (notes w.held)) same in (
            (
              subst (λ (t : Secrets). IsWhole (notes now.held) t) (sym same) (subst (λ es. IsWhole es w.held.secrets) (sym entries) its.0.0),
              subst (PassesAll s) (sym given) its.0.1,
            ),
            same_shares (IsMineAt s) w.held now.held (ap (λ (t : Secrets). t.shares) same) its.1,
          )

-- A RUN
pub run_shares : (s : Setting) (cuts : List (Option CutAt)) (form : IsFormOfInclusion s.script) (consistent : IsConsistentScript s cuts)
    → (over : (l : ℕ) (life : Life) (seen : Held → Seen) (files : Files) → slice_get s.script.lives l ≡ Some life → by_worlds.reads seen → IsLifeInForm (lived s.script l life seen files))
    → (records : (seen : Held → Seen) → by_worlds.reads seen → ReadsRecords seen) (secrets : (seen : Held → Seen) → by_worlds.reads seen → ReadsSecrets seen)
    → ((l : ℕ) (life : Life) (seen : Held → Seen) (files : Files) (life_is : life_at s l ≡ Some life) (here : IsLifeInForm (lived s.script l life seen files)) (read : ReadsRecords seen) → FitsRecords s cuts form consistent l life seen files life_is here read)
    → (first : Files → Type 0) (w new : World) (answered : Result (Unit {0}) Fault) → PassAndFit s w.held → RunsSo by_worlds s.script first w answered new → PassAndFit s new.held
run_shares s cuts form consistent over records secrets fits first w new answered its run =
    run_holds (PassAndFit s) s.script over
    (λ l life seen files there read here old now how its lives.
    life_shares s cuts form consistent l life seen files there here (records seen read) (secrets seen read) (fits l life seen files there here (records seen read)) old now how its lives)
    first w new answered its run
