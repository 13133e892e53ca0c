use Rattle.dkg_ceremony.specs.Deals.{fresh_seed}
use Rattle.dkg_ceremony.proofs.deal.fresh_seed.Goals as goal

pub returns : goal.returns
unfolding fresh_seed
returns c =
    let ends = c.finalize.ensures _ (c.update-2.ensures _ (c.update.ensures _ c.new-hasher.ensures)) in
    cc (ends, c.to_be_bytes.ensures, c.to_be_bytes-2.ensures, c.epoch.view_is)
