use Rattle.std.proofs.Common.{◌≡◌, [], List, length, refl, sym, ◌∙◌, ap, subst, rules}
use Rattle.std.proofs.lemmas.Result.{err_from_is_err_and}
use Rattle.dkg_journal.specs.Found.{FindsSegments}
use Rattle.dkg_journal.specs.Opening.{open_calls}
use Rattle.dkg_journal.specs.Wholes.{after_all}
use Rattle.dkg_journal.specs.declared.disk.Op.{Op}
use Rattle.dkg_journal.proofs.Amid.{becomes_lands, from_same}
use Rattle.dkg_journal.proofs.Fuses.{all_burnt, not_err, ran_spent}
use Rattle.dkg_journal.proofs.Gates.{finds_gated}
use Rattle.dkg_journal.proofs.Opened.{finds_alike, finds_open, finds_whole, follows_keeps, follows_tries, follows_unbroken, opened_standing, unchanged_keeps}
use Rattle.dkg_journal.proofs.OpenNames.{names_opened}
use Rattle.dkg_journal.proofs.Standing.{does_err, does_ok}
use Rattle.dkg_journal.proofs.Steps.{all_same, ran_same, run_err, run_ok, then_all, then_ran}
use Rattle.dkg_journal.proofs.journal.Journal.open.Goals as goal

pub returns-in_err-waiting-clause-images : goal.returns-in_err-waiting-clause-images
returns-in_err-waiting-clause-images g c = λ tells lands. record { keeps = unchanged_keeps g.D.Disk.files g.D.Disk.image _ _ c.find.ensures.same; sound = λ sound. record { each = λ f here. sound.each f (c.find.ensures.same.same_images f here) } }

pub perform_all-requires : goal.perform_all-requires
perform_all-requires g c = λ tells.
    let is : c.deref.result.now ≡ c.in_ok-waiting.field-0.mending.items = search rules in
    let finds = subst (λ (l : List Op). FindsSegments (g.D.Disk.files c.args.disk.now) c.in_ok-waiting.field-0.waiting.items c.in_ok-waiting.field-0.places l) (sym is) (c.in_ok-waiting.ensures.found tells) in
    finds_whole _ _ _ _ finds

pub returns-in_err-perform_all-clause-images : goal.returns-in_err-perform_all-clause-images
returns-in_err-perform_all-clause-images g c = λ tells lands.
    let is : c.deref.result.now ≡ c.in_ok-waiting.field-0.mending.items = search rules in
    let finds = subst (λ (l : List Op). FindsSegments (g.D.Disk.files c.args.disk.now) c.in_ok-waiting.field-0.waiting.items c.in_ok-waiting.field-0.places l) (sym is) (c.in_ok-waiting.ensures.found tells) in
    let amid = from_same g.D.Disk.files g.D.Disk.image _ _ _ _ c.find.ensures.same (c.perform_all.ensures.amid tells) in
    record { keeps = follows_keeps _ _ _ _ finds _ _ lands amid; sound = λ sound. follows_unbroken _ _ _ _ finds _ _ lands amid }

pub returns-in_err-perform_all-clause-calls : goal.returns-in_err-perform_all-clause-calls
returns-in_err-perform_all-clause-calls g c = λ tells.
    let is : c.deref.result.now ≡ c.in_ok-waiting.field-0.mending.items = search rules in
    let finds = subst (λ (l : List Op). FindsSegments (g.D.Disk.files c.args.disk.now) c.in_ok-waiting.field-0.waiting.items c.in_ok-waiting.field-0.places l) (sym is) (c.in_ok-waiting.ensures.found tells) in
    let ran = ran_same g.D.Disk.made _ _ _ _ _ _ finds.made (then_ran g.D.Disk.made g.met.D.Disk.made_more _ _ _ _ _ _ [] _ (record { each = c.find.ensures.calls; fuse = refl }) c.perform_all.ensures.calls.ran) in
    let p = err_from_is_err_and c.from_residual-in_err-perform_all.result c.from_residual-in_err-perform_all.ensures.1 in
    run_err g.D.Disk.made c.from_residual-in_err-perform_all.result _ _ _ _ _ p.0 p.1 ran

pub returns-in_err-perform_all-clause-does : goal.returns-in_err-perform_all-clause-does
returns-in_err-perform_all-clause-does g c = λ tells.
    let is : c.deref.result.now ≡ c.in_ok-waiting.field-0.mending.items = search rules in
    let finds = subst (λ (l : List Op). FindsSegments (g.D.Disk.files c.args.disk.now) c.in_ok-waiting.field-0.waiting.items c.in_ok-waiting.field-0.places l) (sym is) (c.in_ok-waiting.ensures.found tells) in
    let amid = from_same g.D.Disk.files g.D.Disk.image _ _ _ _ c.find.ensures.same (c.perform_all.ensures.amid tells) in
    let ran = ran_same g.D.Disk.made _ _ _ _ _ _ finds.made (then_ran g.D.Disk.made g.met.D.Disk.made_more _ _ _ _ _ _ [] _ (record { each = c.find.ensures.calls; fuse = refl }) c.perform_all.ensures.calls.ran) in
    let p = err_from_is_err_and c.from_residual-in_err-perform_all.result c.from_residual-in_err-perform_all.ensures.1 in
    does_err _ _ _ c.from_residual-in_err-perform_all.result p.0 _ _ _ _ p.1 (λ lands. record { each = follows_tries _ _ _ _ finds _ _ lands (length (open_calls (g.D.Disk.files c.args.disk.now))) amid; spent = ran_spent g.D.Disk.made _ _ _ _ _ (length (open_calls (g.D.Disk.files c.args.disk.now))) refl ran })

pub returns-clause-images : goal.returns-clause-images
returns-clause-images g c = λ tells lands.
    let is : c.deref.result.now ≡ c.in_ok-waiting.field-0.mending.items = search rules in
    let finds = subst (λ (l : List Op). FindsSegments (g.D.Disk.files c.args.disk.now) c.in_ok-waiting.field-0.waiting.items c.in_ok-waiting.field-0.places l) (sym is) (c.in_ok-waiting.ensures.found tells) in
    let amid = from_same g.D.Disk.files g.D.Disk.image _ _ _ _ c.find.ensures.same (c.perform_all.ensures.amid tells) in
    record { keeps = follows_keeps _ _ _ _ finds _ _ lands amid; sound = λ sound. follows_unbroken _ _ _ _ finds _ _ lands amid }

pub returns-clause-calls : goal.returns-clause-calls
returns-clause-calls g c = λ tells.
    let is : c.deref.result.now ≡ c.in_ok-waiting.field-0.mending.items = search rules in
    let finds = subst (λ (l : List Op). FindsSegments (g.D.Disk.files c.args.disk.now) c.in_ok-waiting.field-0.waiting.items c.in_ok-waiting.field-0.places l) (sym is) (c.in_ok-waiting.ensures.found tells) in
    let all = all_same g.D.Disk.made _ _ _ _ _ _ finds.made (then_all g.D.Disk.made g.met.D.Disk.made_more _ _ _ _ _ _ [] _ (record { each = c.find.ensures.calls; fuse = refl }) c.in_ok-perform_all.ensures.calls.all) in
    run_ok g.D.Disk.made _ _ _ _ _ _ all

pub returns-clause-gated : goal.returns-clause-gated
returns-clause-gated g c = λ tells. finds_gated _ _ _ _ (c.in_ok-waiting.ensures.found tells)

pub returns-clause-open : goal.returns-clause-open
returns-clause-open g c = λ tells lands.
    let is : c.deref.result.now ≡ c.in_ok-waiting.field-0.mending.items = search rules in
    let finds = subst (λ (l : List Op). FindsSegments (g.D.Disk.files c.args.disk.now) c.in_ok-waiting.field-0.waiting.items c.in_ok-waiting.field-0.places l) (sym is) (c.in_ok-waiting.ensures.found tells) in
    let files = c.in_ok-perform_all.ensures.files tells ∙ ap (after_all c.deref.result.now) c.find.ensures.same.same_files in
    let done = from_same g.D.Disk.files g.D.Disk.image _ _ _ _ c.find.ensures.same (c.in_ok-perform_all.ensures.done tells) in
    finds_open _ _ _ _ finds _ _ files (becomes_lands c.deref.result.now _ _ _ _ lands done files)

pub returns-clause-again : goal.returns-clause-again
returns-clause-again g c = record {
  alike = λ tells.
      let is : c.deref.result.now ≡ c.in_ok-waiting.field-0.mending.items = search rules in
      let finds = subst (λ (l : List Op). FindsSegments (g.D.Disk.files c.args.disk.now) c.in_ok-waiting.field-0.waiting.items c.in_ok-waiting.field-0.places l) (sym is) (c.in_ok-waiting.ensures.found tells) in
      let files = c.in_ok-perform_all.ensures.files tells ∙ ap (after_all c.deref.result.now) c.find.ensures.same.same_files in
      finds_alike _ _ _ _ finds _ files;
  unread = λ name place is. absurd (not_err _ _ is);
}

pub returns-clause-does : goal.returns-clause-does
returns-clause-does g c = λ tells.
    let is : c.deref.result.now ≡ c.in_ok-waiting.field-0.mending.items = search rules in
    let finds = subst (λ (l : List Op). FindsSegments (g.D.Disk.files c.args.disk.now) c.in_ok-waiting.field-0.waiting.items c.in_ok-waiting.field-0.places l) (sym is) (c.in_ok-waiting.ensures.found tells) in
    let amid = from_same g.D.Disk.files g.D.Disk.image _ _ _ _ c.find.ensures.same (c.perform_all.ensures.amid tells) in
    let ran = ran_same g.D.Disk.made _ _ _ _ _ _ finds.made (then_ran g.D.Disk.made g.met.D.Disk.made_more _ _ _ _ _ _ [] _ (record { each = c.find.ensures.calls; fuse = refl }) c.perform_all.ensures.calls.ran) in
    let files = c.in_ok-perform_all.ensures.files tells ∙ ap (after_all c.deref.result.now) c.find.ensures.same.same_files in
    let done = from_same g.D.Disk.files g.D.Disk.image _ _ _ _ c.find.ensures.same (c.in_ok-perform_all.ensures.done tells) in
    let all = all_same g.D.Disk.made _ _ _ _ _ _ finds.made (then_all g.D.Disk.made g.met.D.Disk.made_more _ _ _ _ _ _ [] _ (record { each = c.find.ensures.calls; fuse = refl }) c.in_ok-perform_all.ensures.calls.all) in
    does_ok _ _ _ _ _ _ _ _
    (λ lands. record { each = follows_tries _ _ _ _ finds _ _ lands (length (open_calls (g.D.Disk.files c.args.disk.now))) amid; spent = ran_spent g.D.Disk.made _ _ _ _ _ (length (open_calls (g.D.Disk.files c.args.disk.now))) refl ran })
    (λ lands. record { after = opened_standing _ _ _ _ finds _ files (names_opened _ _ _ _ finds) (length (open_calls (g.D.Disk.files c.args.disk.now))); settled = becomes_lands c.deref.result.now _ _ _ _ lands done files; spent = all_burnt g.D.Disk.made _ _ _ _ _ (length (open_calls (g.D.Disk.files c.args.disk.now))) refl all })
