use Rattle.std.proofs.Common.{IfSome, subst}
use Rattle.dkg_probe.specs.Sampling.{Sampled, IsHighest}
use Rattle.dkg_probe.proofs.Highest.{highest_if}
use Rattle.dkg_probe.proofs.sample.Sample.select.Goals as goal

pub returns-clause-highest : goal.returns-clause-highest
returns-clause-highest c =
    subst (λ (s : Sampled). IfSome c.highest_of-self-inside.result (IsHighest s.replies)) c.self.view_is (highest_if c.self.inside.replies.entries c.highest_of-self-inside.result c.len.ensures.ordered c.highest_of-self-inside.ensures)
