use Rattle.dkg_store_calls.proofs.dealing.created.Goals as goal

pub returns : goal.returns
returns g c = record {
  is_open = c.create_dealer.ensures.open;
  me = c.create_dealer.ensures.me;
  dealer = c.create_dealer.ensures.dealer;
}
