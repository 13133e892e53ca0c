use Rattle.std.proofs.Common.{◌∙◌}
use Rattle.dkg_ceremony.proofs.log_entries.LogEntriesEncodeSize.encode_size.Goals as goal

pub returns-clause-limit : goal.returns-clause-limit
returns-clause-limit c = λ most le. c.encode_size.ensures.limit most (rw (c.get.ensures ∙ c.self.view_is) le)
