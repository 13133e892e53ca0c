use Rattle.dkg_generator.specs.Chain.{dealer_seed}
use Rattle.dkg_generator.proofs.chain.dealer_seed.Goals as goal

pub returns : goal.returns
unfolding dealer_seed
returns c =
    let ends = c.finalize.ensures _ (c.update-3.ensures _ (c.update-2.ensures _ (c.update.ensures _ c.new-hasher.ensures))) in
    cc (ends, c.to_be_bytes.ensures, c.to_be_bytes-2.ensures, c.to_be_bytes-3.ensures, c.key.view_is, c.epoch.view_is)
