use Rattle.std.specs.Int.NonZero.{non_zero_u64_get}
use Rattle.dkg_reshare.proofs.Ending.{stands_again}
use Rattle.dkg_verifying.specs.InclusionOf.{IsSeen, IsSettledInclusion}
use Rattle.dkg_core.specs.Core.{no_inclusion}
use Rattle.dkg_reshare_calls.proofs.Settled.{first_of}
use Rattle.dkg_reshare_calls.proofs.calls.open.Goals as goal

pub returns-clause-at : goal.returns-clause-at
returns-clause-at g c = stands_again g.D.Disk.tells g.D.Disk.files g.D.Disk.image g.C.Ceremony.ack_of g.C.Ceremony.deal_of g.C.Ceremony.check_ack_of c.open.new.self.terms c.open.new.self.state c.open.new.devices c.open.result c.open.ensures.ends

pub returns-clause-including : goal.returns-clause-including
returns-clause-including g c =
    first_of c.open.new.self.state (IsSettledInclusion g.C.Ceremony.check_log_of g.C.Ceremony.dealing_of g.C.Ceremony.finish_of (non_zero_u64_get c.open.new.self.terms.blocks_per_epoch))
    (λ life its. IsSeen its no_inclusion) c.open.ensures.including
