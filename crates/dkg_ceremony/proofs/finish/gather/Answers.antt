use Rattle.std.proofs.Common.{◌≡◌, ℕ, List, Option, None, ap, subst, sym}
use Rattle.std.specs.Prelude.{IfOk, IfErr}
use Rattle.dkg_ceremony.specs.declared.round.RoundParts.{RoundParts as Round}
use Rattle.dkg_ceremony.specs.Finishes.{TellsMissingDealing, first_missing, known_privates, private_in}
use Rattle.dkg_ceremony.specs.ShareLaws.{missing_is}
use Rattle.dkg_ceremony.proofs.finish.gather.Goals as goal

pub returns-clause-all : goal.returns-clause-all
returns-clause-all c =
    subst (λ (missing : Option ℕ). IfOk c.privates_of.result (λ privates. (missing ≡ None) × (privates.items ≡ known_privates (private_in c.args.round.now.players c.args.me c.args.dealings.now c.args.logs.now) c.args.selected.now)))
    (sym (missing_is c.args.round.now c.args.me c.args.dealings.now c.args.logs.now c.args.selected.now c.requires.player c.requires.chosen)) (subst (λ (players : List ℕ). IfOk c.privates_of.result (λ privates. (first_missing (private_in players c.args.me c.args.dealings.now c.args.logs.now) c.args.selected.now ≡ None) × (privates.items ≡ known_privates (private_in players c.args.me c.args.dealings.now c.args.logs.now) c.args.selected.now)))
    (ap (λ (r : Round). r.players) c.parts.ensures) c.privates_of.ensures.all)

pub returns-clause-missing : goal.returns-clause-missing
returns-clause-missing c =
    subst (λ (missing : Option ℕ). IfErr c.privates_of.result (λ e. TellsMissingDealing missing e))
    (sym (missing_is c.args.round.now c.args.me c.args.dealings.now c.args.logs.now c.args.selected.now c.requires.player c.requires.chosen)) (subst (λ (players : List ℕ). IfErr c.privates_of.result (λ e. TellsMissingDealing (first_missing (private_in players c.args.me c.args.dealings.now c.args.logs.now) c.args.selected.now) e))
    (ap (λ (r : Round). r.players) c.parts.ensures) c.privates_of.ensures.missing)
