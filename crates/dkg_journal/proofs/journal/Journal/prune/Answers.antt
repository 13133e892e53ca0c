use Rattle.std.proofs.Common.{◌≡◌, List, sym, ◌∙◌, ap, subst}
use Rattle.std.proofs.lemmas.Result.{err_from_is_err_and}
use Rattle.std.specs.FinMap.{keys}
use Rattle.std.specs.Prelude.{filter}
use Rattle.dkg_journal.specs.Disk.{ImagesFollow}
use Rattle.dkg_journal.specs.Pruning.{is_below, prune_calls}
use Rattle.dkg_journal.specs.Wholes.{Amid, AreOfWhole, Becomes, after_all}
use Rattle.dkg_journal.specs.declared.disk.Op.{Op}
use Rattle.dkg_journal.proofs.Leaving.{may_none, place_calls, prune_finished, prune_leaves, prune_may, prune_open, prune_tried, prune_unbroken, remove_whole, thins_err, thins_ok}
use Rattle.dkg_journal.proofs.Standing.{does_err, does_ok}
use Rattle.dkg_journal.proofs.Steps.{all_same, ran_same, run_err, run_ok}
use Rattle.dkg_journal.proofs.Unbroken.{open_unbroken_images}
use Rattle.dkg_journal.proofs.journal.Journal.prune.Goals as goal

pub returns-in_err-ops-clause-thins : goal.returns-in_err-ops-clause-thins
returns-in_err-ops-clause-thins g c =
    let p = err_from_is_err_and c.from_residual.result c.from_residual.ensures.1 in
    λ tells. thins_err c.args.min c.from_residual.result p.0 _ _ p.1 (may_none c.args.min c.args.self.now.places _ _ (c.requires tells))

pub returns-in_err-ops-clause-sound : goal.returns-in_err-ops-clause-sound
returns-in_err-ops-clause-sound g c = λ tells. open_unbroken_images c.args.self.now.places _ _ (c.requires tells)

pub perform_all-requires : goal.perform_all-requires
perform_all-requires g c = λ tells.
    subst AreOfWhole (sym (c.deref.ensures.value ∙ c.in_ok-ops.ensures ∙ place_calls c.args.min c.args.self.now.places _ _ (c.requires tells))) (remove_whole (filter (is_below c.args.min) (keys (g.D.Disk.files c.args.disk.now))))

pub returns-in_err-perform_all-clause-thins : goal.returns-in_err-perform_all-clause-thins
returns-in_err-perform_all-clause-thins g c =
    let p = err_from_is_err_and c.from_residual-in_err-perform_all.result c.from_residual-in_err-perform_all.ensures.1 in
    λ tells.
    let is : c.deref.result.now ≡ prune_calls c.args.min (keys (g.D.Disk.files c.args.disk.now)) = c.deref.ensures.value ∙ c.in_ok-ops.ensures ∙ place_calls c.args.min c.args.self.now.places _ _ (c.requires tells) in
    let amid = subst (λ (l : List Op). ImagesFollow (Amid l) (g.D.Disk.image c.args.disk.now) (g.D.Disk.image c.perform_all.new.disk)) is (c.perform_all.ensures.amid tells) in
    thins_err c.args.min c.from_residual-in_err-perform_all.result p.0 _ _ p.1 (prune_may c.args.min c.args.self.now.places _ _ (c.requires tells) _ amid)

pub returns-in_err-perform_all-clause-sound : goal.returns-in_err-perform_all-clause-sound
returns-in_err-perform_all-clause-sound g c = λ tells.
    let is : c.deref.result.now ≡ prune_calls c.args.min (keys (g.D.Disk.files c.args.disk.now)) = c.deref.ensures.value ∙ c.in_ok-ops.ensures ∙ place_calls c.args.min c.args.self.now.places _ _ (c.requires tells) in
    let amid = subst (λ (l : List Op). ImagesFollow (Amid l) (g.D.Disk.image c.args.disk.now) (g.D.Disk.image c.perform_all.new.disk)) is (c.perform_all.ensures.amid tells) in
    prune_unbroken c.args.min c.args.self.now.places _ _ (c.requires tells) _ amid

pub returns-in_err-perform_all-clause-calls : goal.returns-in_err-perform_all-clause-calls
returns-in_err-perform_all-clause-calls g c = λ tells.
    let is : c.deref.result.now ≡ prune_calls c.args.min (keys (g.D.Disk.files c.args.disk.now)) = c.deref.ensures.value ∙ c.in_ok-ops.ensures ∙ place_calls c.args.min c.args.self.now.places _ _ (c.requires tells) in
    let ran = ran_same g.D.Disk.made _ _ _ _ _ _ is c.perform_all.ensures.calls.ran in
    let p = err_from_is_err_and c.from_residual-in_err-perform_all.result c.from_residual-in_err-perform_all.ensures.1 in
    run_err g.D.Disk.made c.from_residual-in_err-perform_all.result _ _ _ _ _ p.0 p.1 ran

pub returns-in_err-perform_all-clause-does : goal.returns-in_err-perform_all-clause-does
returns-in_err-perform_all-clause-does g c = λ tells.
    let is : c.deref.result.now ≡ prune_calls c.args.min (keys (g.D.Disk.files c.args.disk.now)) = c.deref.ensures.value ∙ c.in_ok-ops.ensures ∙ place_calls c.args.min c.args.self.now.places _ _ (c.requires tells) in
    let amid = subst (λ (l : List Op). ImagesFollow (Amid l) (g.D.Disk.image c.args.disk.now) (g.D.Disk.image c.perform_all.new.disk)) is (c.perform_all.ensures.amid tells) in
    let ran = ran_same g.D.Disk.made _ _ _ _ _ _ is c.perform_all.ensures.calls.ran in
    let p = err_from_is_err_and c.from_residual-in_err-perform_all.result c.from_residual-in_err-perform_all.ensures.1 in
    does_err _ _ _ c.from_residual-in_err-perform_all.result p.0 _ _ _ _ p.1 (λ lands. prune_tried c.args.min c.args.self.now.places _ _ (c.requires tells) _ lands g.D.Disk.made _ _ _ _ amid ran)

pub returns-clause-thins : goal.returns-clause-thins
returns-clause-thins g c = λ tells.
    let is : c.deref.result.now ≡ prune_calls c.args.min (keys (g.D.Disk.files c.args.disk.now)) = c.deref.ensures.value ∙ c.in_ok-ops.ensures ∙ place_calls c.args.min c.args.self.now.places _ _ (c.requires tells) in
    let amid = subst (λ (l : List Op). ImagesFollow (Amid l) (g.D.Disk.image c.args.disk.now) (g.D.Disk.image c.perform_all.new.disk)) is (c.perform_all.ensures.amid tells) in
    let done = subst (λ (l : List Op). ImagesFollow (Becomes l) (g.D.Disk.image c.args.disk.now) (g.D.Disk.image c.perform_all.new.disk)) is (c.in_ok-perform_all.ensures.done tells) in
    thins_ok c.args.min tt _ _ (prune_may c.args.min c.args.self.now.places _ _ (c.requires tells) _ amid) (prune_leaves c.args.min c.args.self.now.places _ _ (c.requires tells) _ done)

pub returns-clause-sound : goal.returns-clause-sound
returns-clause-sound g c = λ tells.
    let is : c.deref.result.now ≡ prune_calls c.args.min (keys (g.D.Disk.files c.args.disk.now)) = c.deref.ensures.value ∙ c.in_ok-ops.ensures ∙ place_calls c.args.min c.args.self.now.places _ _ (c.requires tells) in
    let amid = subst (λ (l : List Op). ImagesFollow (Amid l) (g.D.Disk.image c.args.disk.now) (g.D.Disk.image c.perform_all.new.disk)) is (c.perform_all.ensures.amid tells) in
    prune_unbroken c.args.min c.args.self.now.places _ _ (c.requires tells) _ amid

pub returns-clause-calls : goal.returns-clause-calls
returns-clause-calls g c = λ tells.
    let is : c.deref.result.now ≡ prune_calls c.args.min (keys (g.D.Disk.files c.args.disk.now)) = c.deref.ensures.value ∙ c.in_ok-ops.ensures ∙ place_calls c.args.min c.args.self.now.places _ _ (c.requires tells) in
    let all = all_same g.D.Disk.made _ _ _ _ _ _ is c.in_ok-perform_all.ensures.calls.all in
    run_ok g.D.Disk.made _ _ _ _ _ _ all

pub returns-clause-open : goal.returns-clause-open
returns-clause-open g c = λ tells.
    let is : c.deref.result.now ≡ prune_calls c.args.min (keys (g.D.Disk.files c.args.disk.now)) = c.deref.ensures.value ∙ c.in_ok-ops.ensures ∙ place_calls c.args.min c.args.self.now.places _ _ (c.requires tells) in
    let done = subst (λ (l : List Op). ImagesFollow (Becomes l) (g.D.Disk.image c.args.disk.now) (g.D.Disk.image c.perform_all.new.disk)) is (c.in_ok-perform_all.ensures.done tells) in
    prune_open c.args.min c.args.self.now.places _ _ (c.requires tells) _ _ _ done (g.met.D.Disk.reads _ tells) c.prune.ensures

pub returns-clause-does : goal.returns-clause-does
returns-clause-does g c = λ tells.
    let is : c.deref.result.now ≡ prune_calls c.args.min (keys (g.D.Disk.files c.args.disk.now)) = c.deref.ensures.value ∙ c.in_ok-ops.ensures ∙ place_calls c.args.min c.args.self.now.places _ _ (c.requires tells) in
    let amid = subst (λ (l : List Op). ImagesFollow (Amid l) (g.D.Disk.image c.args.disk.now) (g.D.Disk.image c.perform_all.new.disk)) is (c.perform_all.ensures.amid tells) in
    let ran = ran_same g.D.Disk.made _ _ _ _ _ _ is c.perform_all.ensures.calls.ran in
    let done = subst (λ (l : List Op). ImagesFollow (Becomes l) (g.D.Disk.image c.args.disk.now) (g.D.Disk.image c.perform_all.new.disk)) is (c.in_ok-perform_all.ensures.done tells) in
    let files = c.in_ok-perform_all.ensures.files tells ∙ ap (λ (l : List Op). after_all l (g.D.Disk.files c.args.disk.now)) is in
    let all = all_same g.D.Disk.made _ _ _ _ _ _ is c.in_ok-perform_all.ensures.calls.all in
    does_ok _ _ _ _ _ _ _ _
    (λ lands. prune_tried c.args.min c.args.self.now.places _ _ (c.requires tells) _ lands g.D.Disk.made _ _ _ _ amid ran)
    (λ lands. prune_finished c.args.min c.args.self.now.places _ _ (c.requires tells) _ lands g.D.Disk.made _ _ _ _ _ (g.met.D.Disk.reads _ tells) done files all)
