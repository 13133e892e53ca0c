use Rattle.std.proofs.Common.{◌≡◌, subst}
use Rattle.std.specs.Prelude.{map}
use Rattle.std.specs.Int.NonZero.{non_zero_u64_get}
use Rattle.dkg_verifying.specs.Including.{ends_hand}
use Rattle.dkg_inclusion.proofs.Asking.{MakesOver, TellsOver, joined_as}
use Rattle.dkg_inclusion.proofs.Requesting.{end_answers, end_goes, ending}
use Rattle.dkg_verifying.proofs.Within.{within_as, within_behind}
use Rattle.dkg_inclusion.proofs.requests.end.Goals as goal

pub returns-clause-acts : goal.returns-clause-acts
returns-clause-acts g c = λ disk secrets provider fixed beside fence of reads by includes seen.
    let so = (end_goes g.C.Ceremony.check_log_of g.C.Ceremony.dealing_of g.C.Ceremony.finish_of (non_zero_u64_get c.args.terms.now.blocks_per_epoch) c.args.life.now c.requires.ready.placed fixed of.blocks includes.check_log beside fence c.args.request c.args.inclusion.now seen c.requires.including c.end_hand-fed.result c.end_hand-fed.new.inclusion (subst (λ rs. ends_hand c.args.request (record c.args.inclusion.now { requests = rs }) c.args.inclusion.now.hand ≡ (c.end_hand-fed.result, c.end_hand-fed.new.inclusion)) c.end.ensures c.end_hand-fed.ensures)) in
    within_behind beside (record beside { inclusion = record beside.inclusion { queue = map (ending c.args.request) beside.inclusion.queue } }).inclusion (within_as (λ i is. is) (λ now is made. joined_as (MakesOver g.D.Disk.files g.D.Disk.image g.X.SecretStore.held) {x = (c.args.devices.now, c.args.out.now.entries)} {y = (c.go_on.new.devices, c.go_on.new.out.entries)} so.goes made)
    (c.go_on.ensures.acts disk secrets provider fixed (record beside { inclusion = record beside.inclusion { queue = map (ending c.args.request) beside.inclusion.queue } }) fence of reads by includes so.seen))

pub returns-clause-tells : goal.returns-clause-tells
returns-clause-tells g c = λ provider fixed beside fence of reads by includes seen.
    let so = (end_goes g.C.Ceremony.check_log_of g.C.Ceremony.dealing_of g.C.Ceremony.finish_of (non_zero_u64_get c.args.terms.now.blocks_per_epoch) c.args.life.now c.requires.ready.placed fixed of.blocks includes.check_log beside fence c.args.request c.args.inclusion.now seen c.requires.including c.end_hand-fed.result c.end_hand-fed.new.inclusion (subst (λ rs. ends_hand c.args.request (record c.args.inclusion.now { requests = rs }) c.args.inclusion.now.hand ≡ (c.end_hand-fed.result, c.end_hand-fed.new.inclusion)) c.end.ensures c.end_hand-fed.ensures)) in
    within_behind beside (record beside { inclusion = record beside.inclusion { queue = map (ending c.args.request) beside.inclusion.queue } }).inclusion (within_as (λ i is. is) (λ now is made. joined_as TellsOver {x = c.args.out.now.entries} {y = c.go_on.new.out.entries} so.goes made)
    (c.go_on.ensures.tells provider fixed (record beside { inclusion = record beside.inclusion { queue = map (ending c.args.request) beside.inclusion.queue } }) fence of reads by includes so.seen))

pub returns-clause-ready : goal.returns-clause-ready
returns-clause-ready g c = c.go_on.ensures.ready

pub returns-clause-including : goal.returns-clause-including
returns-clause-including g c = c.go_on.ensures.including

pub returns-clause-stays : goal.returns-clause-stays
returns-clause-stays g c = c.go_on.ensures.stays

pub returns-clause-moved : goal.returns-clause-moved
returns-clause-moved g c = c.go_on.ensures.moved

pub returns-clause-causes : goal.returns-clause-causes
returns-clause-causes g c = c.go_on.ensures.causes

pub go_on-requires-clause-ready : goal.go_on-requires-clause-ready
go_on-requires-clause-ready g c = c.requires.ready

pub go_on-requires-clause-needs : goal.go_on-requires-clause-needs
go_on-requires-clause-needs g c = (end_answers g.C.Ceremony.check_log_of g.C.Ceremony.dealing_of g.C.Ceremony.finish_of (non_zero_u64_get c.args.terms.now.blocks_per_epoch) c.args.life.now c.requires.ready.placed c.args.request c.args.inclusion.now c.requires.including c.end_hand-fed.result c.end_hand-fed.new.inclusion (subst (λ rs. ends_hand c.args.request (record c.args.inclusion.now { requests = rs }) c.args.inclusion.now.hand ≡ (c.end_hand-fed.result, c.end_hand-fed.new.inclusion)) c.end.ensures c.end_hand-fed.ensures)).needs

pub go_on-requires-clause-answers : goal.go_on-requires-clause-answers
go_on-requires-clause-answers g c = (end_answers g.C.Ceremony.check_log_of g.C.Ceremony.dealing_of g.C.Ceremony.finish_of (non_zero_u64_get c.args.terms.now.blocks_per_epoch) c.args.life.now c.requires.ready.placed c.args.request c.args.inclusion.now c.requires.including c.end_hand-fed.result c.end_hand-fed.new.inclusion (subst (λ rs. ends_hand c.args.request (record c.args.inclusion.now { requests = rs }) c.args.inclusion.now.hand ≡ (c.end_hand-fed.result, c.end_hand-fed.new.inclusion)) c.end.ensures c.end_hand-fed.ensures)).answers

pub go_on-requires-clause-hand : goal.go_on-requires-clause-hand
go_on-requires-clause-hand g c = (end_answers g.C.Ceremony.check_log_of g.C.Ceremony.dealing_of g.C.Ceremony.finish_of (non_zero_u64_get c.args.terms.now.blocks_per_epoch) c.args.life.now c.requires.ready.placed c.args.request c.args.inclusion.now c.requires.including c.end_hand-fed.result c.end_hand-fed.new.inclusion (subst (λ rs. ends_hand c.args.request (record c.args.inclusion.now { requests = rs }) c.args.inclusion.now.hand ≡ (c.end_hand-fed.result, c.end_hand-fed.new.inclusion)) c.end.ensures c.end_hand-fed.ensures)).hand
