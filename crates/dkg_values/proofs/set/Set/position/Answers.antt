use Rattle.std.proofs.Common.{◌∙◌}
use Rattle.dkg_values.proofs.Searches.{found_index, found_none}
use Rattle.dkg_values.proofs.set.Set.position.Goals as goal

pub returns-in-Ok-clause-index : goal.returns-in-Ok-clause-index
returns-in-Ok-clause-index c = found_index c.deref.result.now c.args.self.now c.args.key c.in-Ok.i c.binary_search.result (c.deref.ensures.value ∙ c.self.view_is) (rw (← c.self.view_is) c.self.invariant.rising) c.in-Ok.is c.binary_search.ensures.position

pub returns-in-Err-clause-index : goal.returns-in-Err-clause-index
returns-in-Err-clause-index c = found_none c.deref.result.now c.args.self.now c.args.key c.in-Err.field-0 c.binary_search.result (c.deref.ensures.value ∙ c.self.view_is) (rw (← c.self.view_is) c.self.invariant.rising) c.in-Err.is c.binary_search.ensures.position
