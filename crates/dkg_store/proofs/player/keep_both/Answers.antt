use Rattle.dkg_store.proofs.Own.{took_back}
use Rattle.dkg_store.proofs.player.keep_both.Goals as goal

pub returns-in-Err-clause-no_dealing : goal.returns-in-Err-clause-no_dealing
returns-in-Err-clause-no_dealing c = took_back c.args.dealings.now _ _ c.args.dealer (c.args.public.now, c.args.private) c.in_ok-new.new c.in_ok-new.ensures.new c.in_ok-new.ensures.done c.forget_halves.ensures
