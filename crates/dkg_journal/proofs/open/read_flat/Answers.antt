use Rattle.std.proofs.Common.{sym, ◌∙◌, ap}
use Rattle.std.specs.Ordering.{eq_by_cmp}
use Rattle.std.specs.List.{list_any}
use Rattle.std.specs.FinMap as map
use Rattle.dkg_values.specs.declared.name.Name.TheVariants.{Flat}
use Rattle.dkg_journal.specs.Names.{name_cmp}
use Rattle.dkg_journal.proofs.Leaving.{absent}
use Rattle.dkg_journal.proofs.open.read_flat.Goals as goal

pub returns-else-has_flat-clause-bytes : goal.returns-else-has_flat-clause-bytes
returns-else-has_flat-clause-bytes g c = λ tells names.
    sym (absent _ (map.contains_key-keys (g.D.Disk.files c.args.disk.now) Flat ∙ ap (list_any (eq_by_cmp name_cmp Flat)) (sym names) ∙ sym c.has_flat.ensures ∙ c.if-has_flat.false))
