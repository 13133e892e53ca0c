use Rattle.std.proofs.Common.{ap, refl}
use Rattle.std.proofs.lemmas.Result.{err_from_is_err_and}
use Rattle.std.specs.Int.NonZero.{non_zero_u64_get}
use Rattle.dkg_artifact.specs.declared.scan.Fed as declared
use Rattle.dkg_verifying.specs.Including.{fed_of, goes_on}
use Rattle.dkg_life.specs.LiveOf.{live_of}
use Rattle.dkg_inclusion.proofs.Asking.{MakesOver, TellsOver, answer_stopped, answer_then, behind_hand, joined_as, makes_joins, seen_behind, tells_joins}
use Rattle.dkg_life.proofs.Blamed.{blamed_behind}
use Rattle.dkg_life.proofs.Burning.{makes_nothing}
use Rattle.dkg_life.proofs.Committing.{goes_told}
use Rattle.dkg_life.proofs.Kept.{moved_none, moved_then}
use Rattle.dkg_inclusion.proofs.Scans.{is_answered}
use Rattle.dkg_inclusion.proofs.Staying.{behind_ready, includes_on, some_in, some_of}
use Rattle.dkg_verifying.proofs.Telling.{ends_beside}
use Rattle.dkg_verifying.proofs.Within.{within_as, within_behind, within_then}
use Rattle.dkg_verifying.proofs.Looking.{looked, looked_then}
use Rattle.dkg_inclusion.proofs.requests.go_on.Goals as goal

-- IT NEEDS MORE

pub returns-in-Need-clause-acts : goal.returns-in-Need-clause-acts
returns-in-Need-clause-acts g c = λ disk secrets provider fixed beside fence of reads by includes seen.
    ends_beside beside seen refl (joined_as (MakesOver g.D.Disk.files g.D.Disk.image g.X.SecretStore.held) {x = (c.args.devices.now, c.args.out.now.entries)} {y = (c.args.devices.now, c.args.out.now.entries)} (ap (λ (x : declared.Fed). goes_on fixed c.args.request (fed_of x) (live_of beside fence c.args.life.now)) c.in-Need.is) (makes_nothing (g.D.Disk.files c.args.devices.now.disk.now) (g.D.Disk.image c.args.devices.now.disk.now) _ refl))

pub returns-in-Need-clause-tells : goal.returns-in-Need-clause-tells
returns-in-Need-clause-tells g c = λ provider fixed beside fence of reads by includes seen.
    ends_beside beside seen refl (joined_as TellsOver {x = c.args.out.now.entries} {y = c.args.out.now.entries} (ap (λ (x : declared.Fed). goes_on fixed c.args.request (fed_of x) (live_of beside fence c.args.life.now)) c.in-Need.is) (goes_told g.row.Dir.Denot (live_of beside fence c.args.life.now) c.args.out.now.entries))

pub returns-in-Need-clause-including : goal.returns-in-Need-clause-including
returns-in-Need-clause-including g c = c.requires.needs c.in-Need.is

pub returns-in-Need-clause-moved : goal.returns-in-Need-clause-moved
returns-in-Need-clause-moved g c = moved_none g.D.Disk.tells g.D.Disk.made g.X.SecretStore.made g.D.Disk.faults g.X.SecretStore.faults g.met.D.Disk.made_none g.met.X.SecretStore.made_none c.args.devices.now

-- IT IS ANSWERED

pub returns-in_ok-take_answer-in_default-clause-acts : goal.returns-in_ok-take_answer-in_default-clause-acts
returns-in_ok-take_answer-in_default-clause-acts g c = λ disk secrets provider fixed beside fence of reads by includes seen.
    let its = c.requires.hand c.in_default.not-Need in
    let hand = some_in _ c.args.inclusion.now.hand its.hand in
    let round = some_of c.args.life.now.round its.round in
    let answered = is_answered c.args.fed c.in_default.not-Need in
    let its_rest = c.take_answer.ensures.rest in
    within_behind beside (behind_hand (MakesOver g.D.Disk.files g.D.Disk.image g.X.SecretStore.held) (makes_joins g.D.Disk.files g.D.Disk.image g.X.SecretStore.held) fixed c.args.request beside fence c.args.life.now c.args.inclusion.now seen hand.0 hand.1 round.0 round.1 c.args.fed answered).inclusion
    (within_then (behind_hand (MakesOver g.D.Disk.files g.D.Disk.image g.X.SecretStore.held) (makes_joins g.D.Disk.files g.D.Disk.image g.X.SecretStore.held) fixed c.args.request beside fence c.args.life.now c.args.inclusion.now seen hand.0 hand.1 round.0 round.1 c.args.fed answered) (c.in_ok-take_answer-in_default.ensures.acts disk secrets provider fixed round.0 (behind_hand (MakesOver g.D.Disk.files g.D.Disk.image g.X.SecretStore.held) (makes_joins g.D.Disk.files g.D.Disk.image g.X.SecretStore.held) fixed c.args.request beside fence c.args.life.now c.args.inclusion.now seen hand.0 hand.1 round.0 round.1 c.args.fed answered) fence of reads by includes round.1 (seen_behind c.args.inclusion.now beside.inclusion seen))
    (λ now is made. within_as (λ i was. was) (λ later was next. answer_then (MakesOver g.D.Disk.files g.D.Disk.image g.X.SecretStore.held) (makes_joins g.D.Disk.files g.D.Disk.image g.X.SecretStore.held) fixed c.args.request beside fence c.args.life.now c.args.inclusion.now seen hand.0 hand.1 round.0 round.1 c.args.fed answered c.take_answer.new.inclusion (ap (λ x. x.hand) its_rest) (ap (λ x. x.requests) its_rest) now is _ c.take_answer.new.life (c.args.devices.now, c.args.out.now.entries) (c.take_answer.new.devices, c.take_answer.new.out.entries) (c.advance.new.devices, c.advance.new.out.entries) made next)
    (c.advance.ensures.acts disk secrets provider fixed now fence of reads by (includes_on fixed (c.take_answer.ensures.stays.provider provider) includes) is)))

pub returns-in_ok-take_answer-in_default-clause-tells : goal.returns-in_ok-take_answer-in_default-clause-tells
returns-in_ok-take_answer-in_default-clause-tells g c = λ provider fixed beside fence of reads by includes seen.
    let its = c.requires.hand c.in_default.not-Need in
    let hand = some_in _ c.args.inclusion.now.hand its.hand in
    let round = some_of c.args.life.now.round its.round in
    let answered = is_answered c.args.fed c.in_default.not-Need in
    let its_rest = c.take_answer.ensures.rest in
    within_behind beside (behind_hand TellsOver tells_joins fixed c.args.request beside fence c.args.life.now c.args.inclusion.now seen hand.0 hand.1 round.0 round.1 c.args.fed answered).inclusion
    (within_then (behind_hand TellsOver tells_joins fixed c.args.request beside fence c.args.life.now c.args.inclusion.now seen hand.0 hand.1 round.0 round.1 c.args.fed answered) (c.in_ok-take_answer-in_default.ensures.tells provider fixed round.0 (behind_hand TellsOver tells_joins fixed c.args.request beside fence c.args.life.now c.args.inclusion.now seen hand.0 hand.1 round.0 round.1 c.args.fed answered) fence of reads by includes round.1 (seen_behind c.args.inclusion.now beside.inclusion seen))
    (λ now is made. within_as (λ i was. was) (λ later was next. answer_then TellsOver tells_joins fixed c.args.request beside fence c.args.life.now c.args.inclusion.now seen hand.0 hand.1 round.0 round.1 c.args.fed answered c.take_answer.new.inclusion (ap (λ x. x.hand) its_rest) (ap (λ x. x.requests) its_rest) now is _ c.take_answer.new.life c.args.out.now.entries c.take_answer.new.out.entries c.advance.new.out.entries made next)
    (c.advance.ensures.tells provider fixed now fence of reads by (includes_on fixed (c.take_answer.ensures.stays.provider provider) includes) is)))

pub returns-in_ok-take_answer-in_default-clause-moved : goal.returns-in_ok-take_answer-in_default-clause-moved
returns-in_ok-take_answer-in_default-clause-moved g c = moved_then g.D.Disk.tells g.D.Disk.made g.X.SecretStore.made g.D.Disk.faults g.X.SecretStore.faults g.met.D.Disk.made_more g.met.X.SecretStore.made_more _ _ _ c.take_answer.ensures.moved c.advance.ensures.moved

pub returns-in_ok-take_answer-in_default-clause-causes : goal.returns-in_ok-take_answer-in_default-clause-causes
returns-in_ok-take_answer-in_default-clause-causes g c = blamed_behind g.D.Disk.tells g.D.Disk.made g.X.SecretStore.made g.D.Disk.faults g.X.SecretStore.faults _ _ _ c.take_answer.ensures.moved c.advance.ensures.moved c.advance.result c.advance.ensures.causes

pub returns-in_ok-take_answer-in_default-clause-ready : goal.returns-in_ok-take_answer-in_default-clause-ready
returns-in_ok-take_answer-in_default-clause-ready g c = c.advance.ensures.ready

pub returns-in_ok-take_answer-in_default-clause-including : goal.returns-in_ok-take_answer-in_default-clause-including
returns-in_ok-take_answer-in_default-clause-including g c = c.advance.ensures.including

pub returns-in_ok-take_answer-in_default-clause-stays : goal.returns-in_ok-take_answer-in_default-clause-stays
returns-in_ok-take_answer-in_default-clause-stays g c = looked_then c.take_answer.ensures.stays c.advance.ensures.stays

pub take_answer-requires-clause-ready : goal.take_answer-requires-clause-ready
take_answer-requires-clause-ready g c = c.requires.ready

pub take_answer-requires-clause-may : goal.take_answer-requires-clause-may
take_answer-requires-clause-may g c = ((c.requires.hand c.in_default.not-Need).includes, refl, (c.requires.hand c.in_default.not-Need).free)

pub take_answer-requires-clause-round : goal.take_answer-requires-clause-round
take_answer-requires-clause-round g c = (c.requires.hand c.in_default.not-Need).round

pub take_answer-requires-clause-including : goal.take_answer-requires-clause-including
take_answer-requires-clause-including g c = behind_ready g.C.Ceremony.check_log_of g.C.Ceremony.dealing_of g.C.Ceremony.finish_of (non_zero_u64_get c.args.terms.now.blocks_per_epoch) c.args.life.now c.args.inclusion.now c.args.fed c.in_default.not-Need c.requires.answers

pub advance-requires-clause-ready : goal.advance-requires-clause-ready
advance-requires-clause-ready g c = c.in_ok-take_answer-in_default.ensures.ready

pub advance-requires-clause-including : goal.advance-requires-clause-including
advance-requires-clause-including g c = c.in_ok-take_answer-in_default.ensures.including

-- IT STOPPED

pub returns-in_err-take_answer-in_default-clause-acts : goal.returns-in_err-take_answer-in_default-clause-acts
returns-in_err-take_answer-in_default-clause-acts g c = λ disk secrets provider fixed beside fence of reads by includes seen.
    let p = err_from_is_err_and c.from_residual.result c.from_residual.ensures.1 in
    let its = c.requires.hand c.in_default.not-Need in
    let hand = some_in _ c.args.inclusion.now.hand its.hand in
    let round = some_of c.args.life.now.round its.round in
    let answered = is_answered c.args.fed c.in_default.not-Need in
    rw (p.1, p.2) (within_behind beside (behind_hand (MakesOver g.D.Disk.files g.D.Disk.image g.X.SecretStore.held) (makes_joins g.D.Disk.files g.D.Disk.image g.X.SecretStore.held) fixed c.args.request beside fence c.args.life.now c.args.inclusion.now seen hand.0 hand.1 round.0 round.1 c.args.fed answered).inclusion (within_as (λ i was. was) (λ later was made. answer_stopped (MakesOver g.D.Disk.files g.D.Disk.image g.X.SecretStore.held) (makes_joins g.D.Disk.files g.D.Disk.image g.X.SecretStore.held) fixed c.args.request beside fence c.args.life.now c.args.inclusion.now seen hand.0 hand.1 round.0 round.1 c.args.fed answered c.in_err-take_answer-in_default.field-0.0 (c.args.devices.now, c.args.out.now.entries) (c.take_answer.new.devices, c.take_answer.new.out.entries) made)
    (c.in_err-take_answer-in_default.ensures.acts disk secrets provider fixed round.0 (behind_hand (MakesOver g.D.Disk.files g.D.Disk.image g.X.SecretStore.held) (makes_joins g.D.Disk.files g.D.Disk.image g.X.SecretStore.held) fixed c.args.request beside fence c.args.life.now c.args.inclusion.now seen hand.0 hand.1 round.0 round.1 c.args.fed answered) fence of reads by includes round.1 (seen_behind c.args.inclusion.now beside.inclusion seen))))

pub returns-in_err-take_answer-in_default-clause-tells : goal.returns-in_err-take_answer-in_default-clause-tells
returns-in_err-take_answer-in_default-clause-tells g c = λ provider fixed beside fence of reads by includes seen.
    let p = err_from_is_err_and c.from_residual.result c.from_residual.ensures.1 in
    let its = c.requires.hand c.in_default.not-Need in
    let hand = some_in _ c.args.inclusion.now.hand its.hand in
    let round = some_of c.args.life.now.round its.round in
    let answered = is_answered c.args.fed c.in_default.not-Need in
    rw (p.1, p.2) (within_behind beside (behind_hand TellsOver tells_joins fixed c.args.request beside fence c.args.life.now c.args.inclusion.now seen hand.0 hand.1 round.0 round.1 c.args.fed answered).inclusion (within_as (λ i was. was) (λ later was made. answer_stopped TellsOver tells_joins fixed c.args.request beside fence c.args.life.now c.args.inclusion.now seen hand.0 hand.1 round.0 round.1 c.args.fed answered c.in_err-take_answer-in_default.field-0.0 c.args.out.now.entries c.take_answer.new.out.entries made)
    (c.in_err-take_answer-in_default.ensures.tells provider fixed round.0 (behind_hand TellsOver tells_joins fixed c.args.request beside fence c.args.life.now c.args.inclusion.now seen hand.0 hand.1 round.0 round.1 c.args.fed answered) fence of reads by includes round.1 (seen_behind c.args.inclusion.now beside.inclusion seen))))

pub returns-in_err-take_answer-in_default-clause-ready : goal.returns-in_err-take_answer-in_default-clause-ready
returns-in_err-take_answer-in_default-clause-ready g c =
    let p = err_from_is_err_and c.from_residual.result c.from_residual.ensures.1 in
    rw p.1 tt

pub returns-in_err-take_answer-in_default-clause-including : goal.returns-in_err-take_answer-in_default-clause-including
returns-in_err-take_answer-in_default-clause-including g c =
    let p = err_from_is_err_and c.from_residual.result c.from_residual.ensures.1 in
    rw p.1 tt

pub returns-in_err-take_answer-in_default-clause-stays : goal.returns-in_err-take_answer-in_default-clause-stays
returns-in_err-take_answer-in_default-clause-stays g c = c.take_answer.ensures.stays

pub returns-in_err-take_answer-in_default-clause-moved : goal.returns-in_err-take_answer-in_default-clause-moved
returns-in_err-take_answer-in_default-clause-moved g c = c.take_answer.ensures.moved

pub returns-in_err-take_answer-in_default-clause-causes : goal.returns-in_err-take_answer-in_default-clause-causes
returns-in_err-take_answer-in_default-clause-causes g c =
    let p = err_from_is_err_and c.from_residual.result c.from_residual.ensures.1 in
    rw (p.1, p.2) c.in_err-take_answer-in_default.ensures.causes

-- NOTHING IS DONE

pub returns-in-Need-clause-ready : goal.returns-in-Need-clause-ready
returns-in-Need-clause-ready g c = c.requires.ready

pub returns-in-Need-clause-stays : goal.returns-in-Need-clause-stays
returns-in-Need-clause-stays g c = looked

pub returns-in-Need-clause-causes : goal.returns-in-Need-clause-causes
returns-in-Need-clause-causes g c = tt
