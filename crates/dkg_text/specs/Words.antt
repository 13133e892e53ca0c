-- The words that stand for what has no fields.
use Rattle.std.specs.Prelude.{ℕ, List, codes}
use Rattle.dkg_ceremony.specs.declared.phase.Phase.{Phase}
use Rattle.dkg_ceremony.specs.declared.phase.Phase.TheVariants as phase
use Rattle.dkg_infos.specs.declared.entry.Part.{Part}
use Rattle.dkg_infos.specs.declared.entry.Part.TheVariants as part
use Rattle.dkg_infos.specs.declared.entry.Role.{Role}
use Rattle.dkg_infos.specs.declared.entry.Role.TheVariants as role
use Rattle.dkg_infos.specs.declared.entry.BlockedWhy.{BlockedWhy}
use Rattle.dkg_infos.specs.declared.entry.BlockedWhy.TheVariants as blocked
use Rattle.dkg_infos.specs.declared.entry.Verdict.{Verdict}
use Rattle.dkg_infos.specs.declared.entry.Verdict.TheVariants as verdict

abbrev pub phase_text : Phase → List ℕ
phase_text phase.Early = codes "early"
phase_text phase.Midpoint = codes "midpoint"
phase_text phase.Late = codes "late"

abbrev pub part_text : Part → List ℕ
part_text part.Follow = codes "follow"
part_text part.Player = codes "player"
part_text part.Dealer = codes "dealer"
part_text part.Both = codes "both"
part_text part.Observer = codes "observer"

abbrev pub role_text : Role → List ℕ
role_text role.Signer = codes "signer"
role_text role.Member = codes "member"
role_text role.Verifier = codes "verifier"

abbrev pub blocked_text : BlockedWhy → List ℕ
blocked_text blocked.Decode = codes "decode"
blocked_text blocked.Nonplayer = codes "nonplayer"
blocked_text blocked.Nondealer = codes "nondealer"
blocked_text blocked.Dealer = codes "dealer"
blocked_text blocked.Degree = codes "degree"
blocked_text blocked.Commitment = codes "commitment"
blocked_text blocked.Share = codes "share"
blocked_text blocked.Player = codes "player"
blocked_text blocked.Ack = codes "ack"
blocked_text blocked.Reply = codes "reply"
blocked_text blocked.Member = codes "member"
blocked_text blocked.Invalid = codes "invalid"
blocked_text blocked.Boundary = codes "boundary"
blocked_text blocked.Block = codes "block"

abbrev pub verdict_text : Verdict → List ℕ
verdict_text verdict.Accept = codes "accept"
verdict_text verdict.Reject = codes "reject"
verdict_text verdict.Unresolved = codes "unresolved"
