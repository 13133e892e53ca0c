use Rattle.std.proofs.Common.{◌+◌, ◌≤◌, length}
use Rattle.std.specs.Prelude.{IsSome, IsTrue}
use Rattle.std.specs.Int.NonZero.{non_zero_u64_get}
use Rattle.dkg_fence.specs.Readiness.{Readiness}
use Rattle.dkg_store.specs.Acts.{went}
use Rattle.dkg_core.specs.Fixed.{Fixed}
use Rattle.dkg_core.specs.Including.{advances}
use Rattle.dkg_life.specs.Ready.{IsReadyLife}
use Rattle.dkg_life.specs.Given.{IsOf, ReadsPlanless}
use Rattle.dkg_verifying.specs.InclusionOf.{IsReadyInclusion, IsSeen}
use Rattle.dkg_life.specs.LiveOf.{Beside, EndsWith, live_of}
use Rattle.dkg_life.specs.Made.{Makes, Tells}
use Rattle.dkg_life.specs.Moved.{Moved}
use Rattle.dkg_life.specs.Rules.{IncludesBy, IsRuledBy}
use Rattle.dkg_verifying.specs.Looks.{OnlyLooks}
use Rattle.dkg_verifying.proofs.Within.{NoMore}
use Rattle.dkg_inclusion.proofs.scanning.advance.Given as goal

abbrev pub invariant-loop-turn : goal.invariant-loop-turn
invariant-loop-turn g l = record {
  ready : IsReadyLife g.D.Disk.tells g.D.Disk.files g.D.Disk.image g.C.Ceremony.ack_of g.C.Ceremony.deal_of g.C.Ceremony.check_ack_of l.terms l.life l.devices;
  including : IsReadyInclusion g.C.Ceremony.check_log_of g.C.Ceremony.dealing_of g.C.Ceremony.finish_of (non_zero_u64_get l.terms.blocks_per_epoch) l.life l.inclusion;
  stays : OnlyLooks l.initial.life l.life g.X.SecretStore.held l.initial.devices l.devices g.P.ParticipantsProvider.tells
      (g.P.ParticipantsProvider.participants_of l.initial.provider) (g.P.ParticipantsProvider.participants_of l.provider)
      (g.P.ParticipantsProvider.directory_of l.initial.provider) (g.P.ParticipantsProvider.directory_of l.provider);
  left : IsSome l.life.round → length l.inclusion.requests + l._turn ≤ l.count;
  acts : IsTrue g.D.Disk.tells → IsTrue g.X.SecretStore.tells → IsTrue g.P.ParticipantsProvider.tells → (c : Fixed g.row.Dir.Denot) (beside : Beside g.row.Dir.Denot) (fence : Readiness) → IsOf l.terms c → ReadsPlanless c
      → IsRuledBy g.C.Ceremony.round_of g.C.Ceremony.deal_of g.C.Ceremony.dealing_of g.C.Ceremony.ack_of g.C.Ceremony.check_ack_of g.C.Ceremony.sign_log_of g.C.Ceremony.bears_ack_of g.C.Ceremony.share_public_of
      g.C.Ceremony.partial_public_of c.rules
      → IncludesBy g.C.Ceremony.check_log_of g.C.Ceremony.outcome_of g.C.Ceremony.finish_of (g.P.ParticipantsProvider.participants_of l.initial.provider) (g.P.ParticipantsProvider.directory_of l.initial.provider)
      g.Dir.Spelled.spelling g.Dir.Directory.matches_of c
      → IsSeen l.initial.inclusion beside.inclusion → EndsWith beside (IsSeen l.inclusion) NoMore
      (λ now. Makes g.D.Disk.files g.D.Disk.image g.X.SecretStore.held (advances c l._turn (live_of beside fence l.initial.life)) (went (live_of now fence l.life)) l.initial.devices l.devices l.initial.out.entries l.out.entries);
  tells : IsTrue g.P.ParticipantsProvider.tells → (c : Fixed g.row.Dir.Denot) (beside : Beside g.row.Dir.Denot) (fence : Readiness) → IsOf l.terms c → ReadsPlanless c
      → IsRuledBy g.C.Ceremony.round_of g.C.Ceremony.deal_of g.C.Ceremony.dealing_of g.C.Ceremony.ack_of g.C.Ceremony.check_ack_of g.C.Ceremony.sign_log_of g.C.Ceremony.bears_ack_of g.C.Ceremony.share_public_of
      g.C.Ceremony.partial_public_of c.rules
      → IncludesBy g.C.Ceremony.check_log_of g.C.Ceremony.outcome_of g.C.Ceremony.finish_of (g.P.ParticipantsProvider.participants_of l.initial.provider) (g.P.ParticipantsProvider.directory_of l.initial.provider)
      g.Dir.Spelled.spelling g.Dir.Directory.matches_of c
      → IsSeen l.initial.inclusion beside.inclusion → EndsWith beside (IsSeen l.inclusion) NoMore
      (λ now. Tells (advances c l._turn (live_of beside fence l.initial.life)) (went (live_of now fence l.life)) l.initial.out.entries l.out.entries);
  moved : Moved g.D.Disk.tells g.D.Disk.made g.X.SecretStore.made g.D.Disk.faults g.X.SecretStore.faults l.initial.devices l.devices;
}
