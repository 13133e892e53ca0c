use Rattle.std.proofs.Common.{sym, ◌∙◌}
use Rattle.std.specs.FinMap.{entries}
use Rattle.dkg_secrets.proofs.Newest.{newest_last, newest_of_none}
use Rattle.dkg_secrets.proofs.number_map.NumberMap.newest_below.Goals as goal

pub returns-in-Some : goal.returns-in-Some
returns-in-Some g c = sym (newest_last c.args.bound (entries c.args.self.now) c.next_back.new.self (c.in-Some.field-0-0.now, c.in-Some.value.now) (sym c.below.ensures ∙ c.in-Some.ensures.steps))

pub returns-in-None : goal.returns-in-None
returns-in-None g c = sym (newest_of_none c.args.bound (entries c.args.self.now) (sym c.below.ensures ∙ c.in-None.ensures.steps.0))
