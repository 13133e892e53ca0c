use Rattle.std.specs.Int.NonZero.{non_zero_u64_get}
use Rattle.dkg_reshare.proofs.Ending.{stands_again}
use Rattle.dkg_life.specs.Ready.{IsReadyLife}
use Rattle.dkg_verifying.specs.InclusionOf.{IsSettledInclusion}
use Rattle.dkg_reshare_calls.proofs.Settled.{again}
use Rattle.dkg_reshare_calls.proofs.calls.step.Goals as goal

pub returns-clause-at : goal.returns-clause-at
returns-clause-at g c = stands_again g.D.Disk.tells g.D.Disk.files g.D.Disk.image g.C.Ceremony.ack_of g.C.Ceremony.deal_of g.C.Ceremony.check_ack_of c.step.new.self.terms c.step.new.self.state c.step.new.devices c.step.result c.step.ensures.ends

pub returns-clause-including : goal.returns-clause-including
returns-clause-including g c =
    again c.step.new.self.state c.step.result
    (λ life. IsReadyLife g.D.Disk.tells g.D.Disk.files g.D.Disk.image g.C.Ceremony.ack_of g.C.Ceremony.deal_of g.C.Ceremony.check_ack_of c.step.new.self.terms life c.step.new.devices)
    (IsSettledInclusion g.C.Ceremony.check_log_of g.C.Ceremony.dealing_of g.C.Ceremony.finish_of (non_zero_u64_get c.step.new.self.terms.blocks_per_epoch))
    c.step.ensures.ends c.step.ensures.including
