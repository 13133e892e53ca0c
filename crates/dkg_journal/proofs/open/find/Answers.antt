use Rattle.std.proofs.Common.{[], sym, ◌∙◌, ap, subst}
use Rattle.std.specs.Prelude.{option_map}
use Rattle.std.specs.FinMap as map
use Rattle.dkg_values.specs.declared.name.Name.TheVariants.{Flat}
use Rattle.dkg_journal.specs.Names.{Files}
use Rattle.dkg_journal.specs.Found.{FindsSegments}
use Rattle.dkg_journal.proofs.Finding.{finds_segments}
use Rattle.dkg_journal.proofs.OnResult.{if_ok}
use Rattle.dkg_journal.proofs.open.find.Goals as goal

pub returns-in_err-read_flat-clause-calls : goal.returns-in_err-read_flat-clause-calls
returns-in_err-read_flat-clause-calls g c = g.met.D.Disk.made_more _ _ _ [] [] c.list.ensures.calls c.read_flat.ensures.calls

pub returns-in-None-clause-calls : goal.returns-in-None-clause-calls
returns-in-None-clause-calls g c = g.met.D.Disk.made_more _ _ _ [] [] (g.met.D.Disk.made_more _ _ _ [] [] c.list.ensures.calls c.read_flat.ensures.calls) c.find_segments.ensures.calls

pub returns-clause-calls : goal.returns-clause-calls
returns-clause-calls g c = g.met.D.Disk.made_more _ _ _ [] [] c.list.ensures.calls c.read_flat.ensures.calls

pub returns-in-None-clause-found : goal.returns-in-None-clause-found
returns-in-None-clause-found g c = if_ok c.find_segments.result (λ f so tells.
    let listed = c.deref.ensures.value ∙ c.in_ok-names.ensures.names tells ∙ ap (λ (m : Files). map.keys m) (sym c.list.ensures.same.same_files) in
    let files_are = c.read_flat.ensures.same.same_files ∙ c.list.ensures.same.same_files in
    let none = sym (ap (λ o. option_map (λ v. v.items) o) (sym c.in-None.is) ∙ c.in_ok-read_flat.ensures.bytes tells listed) in
    let names = c.deref-in-None.ensures.value ∙ c.in_ok-names.ensures.names tells ∙ ap (λ (m : Files). map.keys m) (sym files_are) in
    subst (λ (m : Files). FindsSegments m f.waiting.items f.places f.mending.items) files_are (finds_segments _ (ap (λ (m : Files). map.get m Flat) c.read_flat.ensures.same.same_files ∙ none) f.waiting.items f.places f.mending.items (so tells names))) c.find_segments.ensures.found
