use Rattle.std.proofs.Common.{◌≡◌}
use Rattle.std.specs.Prelude.{fold}
use Rattle.dkg_probe.specs.Sampling.{better, highest}
use Rattle.dkg_probe.proofs.sample.highest_of.Given as goal

abbrev pub invariant-loop-reply : goal.invariant-loop-reply
invariant-loop-reply l = fold better l.best l.reply-iterator ≡ highest l.replies.entries
