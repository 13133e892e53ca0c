use Rattle.std.proofs.Common.{rules}
use Rattle.std.proofs.lemmas.List.Sorted.{answers_always}
use Rattle.dkg_rising.proofs.Indexes.{searched}
use Rattle.dkg_rising.proofs.rising_map.search.Goals as goal

pub returns : goal.returns
returns g c =
    let facts = c.binary_search_by_key.ensures in
    let by_key = facts.position (λ e. e.0) (answers_always _ _ _ (λ f a r next called. search rules)) in
    searched c.args.rising.now c.requires c.args.number c.binary_search_by_key.result facts.bound by_key
