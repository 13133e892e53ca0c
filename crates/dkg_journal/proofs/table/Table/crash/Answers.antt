use Rattle.std.proofs.Common.{◌≡◌, ℕ, Option, true, refl, ◌∙◌, subst, rules}
use Rattle.dkg_values.specs.declared.name.Name.{Name}
use Rattle.dkg_journal.specs.Kept.{settled, FileImage}
use Rattle.dkg_journal.specs.Table.{PickedRow, CrashedBy, file_at, FileLands}
use Rattle.dkg_journal.proofs.Rows.{walked}
use Rattle.dkg_journal.proofs.table.Table.crash.Goals as goal

-- What the walk's closure captures: how many loose bytes may be kept, the pick, and the file that is spared.
gone_through : (c : goal.After-retain) → ((q : Name) → FileLands (file_at q c.args.self.now) (file_at q c.retain.new.self.entries)) × CrashedBy c.args.pick c.args.but c.args.self.now c.retain.new.self.entries
gone_through c = walked _ (λ f. (f.1 ≡ c.args.pick) × (f.2 ≡ c.args.but)) (λ f. f.0) c.args.pick c.args.but (λ f g name v w b holds call.
    let answer : b ≡ true = search rules in
    let same : (g.1 ≡ f.1) × (g.2 ≡ f.2) = search rules in
    let image : FileImage v w.bytes = search rules in
    let sure : w ≡ settled w.bytes = search rules in
    let picked : PickedRow f.1 f.0 f.2 name v w g.0 = search rules in (
      answer,
      (same.0 ∙ holds.0, same.1 ∙ holds.1),
      image,
      sure,
      subst (λ (n : ℕ). PickedRow n f.0 c.args.but name v w g.0) holds.0 (subst (λ (o : Option Name). PickedRow f.1 f.0 o name v w g.0) holds.1 picked),
    )) _ (refl, refl) refl _ _ _ c.self.view_is c.retain.ensures.filtered

pub returns-clause-lands : goal.returns-clause-lands
returns-clause-lands c = (gone_through c).0

pub returns-clause-picked : goal.returns-clause-picked
returns-clause-picked c = (gone_through c).1
