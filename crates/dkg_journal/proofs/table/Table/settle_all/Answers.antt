use Rattle.std.proofs.Common.{◌∙◌, ap, rules}
use Rattle.std.proofs.lemmas.Map.Made.{map_same_pairs}
use Rattle.dkg_journal.specs.Kept.{settled}
use Rattle.dkg_journal.specs.Table.{Rows, file_at, made_sure}
use Rattle.dkg_journal.proofs.Rows.{all_sure}
use Rattle.dkg_journal.proofs.table.Table.settle_all.Goals as goal

pub returns : goal.returns
returns c = λ q.
    ap (λ (l : Rows). file_at q l) (map_same_pairs _ (λ f. settled f.bytes) _ (λ k v b w g call. search rules) _ _ c.retain.ensures.filtered)
    ∙ all_sure c.self.inside.held.entries q ∙ ap (λ (l : Rows). made_sure (file_at q l)) c.self.view_is
