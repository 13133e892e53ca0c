use Rattle.std.proofs.Common.{refl}
use Rattle.std.proofs.lemmas.Result.{err_from_is_err_and}
use Rattle.std.specs.Int.NonZero.{non_zero_u32_get}
use Rattle.dkg_dealing.proofs.Heard.{heard_made, heard_said, heard_stopped, heard_unsaid, of_round}
use Rattle.dkg_life.proofs.Dealt.{ready_heard}
use Rattle.dkg_life.proofs.Kept.{moved_none}
use Rattle.dkg_life.proofs.Seated.{on_ok}
use Rattle.dkg_dealing.proofs.dealing.hear_dealing.Goals as goal

pub handle-requires-clause-sits : goal.handle-requires-clause-sits
handle-requires-clause-sits g c = of_round g.C.Ceremony.dealing_of g.C.Ceremony.ack_of _ c.args.terms.now c.args.life.now c.in-Some.player c.args.epoch c.args.from c.args.public c.args.private
    c.in-Some.is c.requires.ready.seated c.requires.me c.requires.dealt

pub returns-clause-acts : goal.returns-clause-acts
returns-clause-acts g c = λ disk secrets fixed round beside fence of by has.
    heard_made g.C.Ceremony.dealing_of g.C.Ceremony.ack_of _ c.args.terms.now c.args.life.now c.in-Some.player c.args.epoch c.args.from c.args.public c.args.private
    c.in-Some.is c.requires.ready.seated c.requires.me c.requires.dealt
    fixed round beside fence of by has c.handle.new.store c.handle.new.player c.in_ok-answer.ensures.keeps.rest c.in_ok-answer.ensures.keeps.pairs c.in_ok-answer.answer c.tell_answer.result
    (c.in_ok-answer.ensures.acts disk secrets) c.tell_answer.ensures.told c.tell_answer.ensures.untold c.tell_answer.ensures.memory

pub returns-clause-tells : goal.returns-clause-tells
returns-clause-tells g c = λ fixed round beside fence of by has.
    heard_said g.C.Ceremony.dealing_of g.C.Ceremony.ack_of _ c.args.terms.now c.args.life.now c.in-Some.player c.args.epoch c.args.from c.args.public c.args.private
    c.in-Some.is c.requires.ready.seated c.requires.me c.requires.dealt
    fixed round beside fence of by has c.handle.new.store c.handle.new.player c.in_ok-answer.ensures.keeps.rest c.in_ok-answer.ensures.keeps.pairs c.in_ok-answer.answer c.tell_answer.result
    c.in_ok-answer.ensures.tells c.tell_answer.ensures.told c.tell_answer.ensures.untold c.tell_answer.ensures.memory

pub returns-clause-fit : goal.returns-clause-fit
returns-clause-fit g c = λ told fit.
    let most = non_zero_u32_get c.args.terms.now.limit in
    c.handle.ensures.fit told most c.requires.fits.one.in_bound fit

pub returns-in_err-answer-clause-fit : goal.returns-in_err-answer-clause-fit
returns-in_err-answer-clause-fit g c = λ told fit.
    let most = non_zero_u32_get c.args.terms.now.limit in
    c.handle.ensures.fit told most c.requires.fits.one.in_bound fit

pub returns-in_err-answer-clause-acts : goal.returns-in_err-answer-clause-acts
returns-in_err-answer-clause-acts g c = λ disk secrets fixed round beside fence of by has.
    let p = err_from_is_err_and c.from_residual.result c.from_residual.ensures.1 in
    rw (p.1, p.2) (heard_stopped g.C.Ceremony.dealing_of g.C.Ceremony.ack_of _ c.args.terms.now c.args.life.now c.in-Some.player c.args.epoch c.args.from c.args.public c.args.private
    c.in-Some.is c.requires.ready.seated c.requires.me c.requires.dealt
    fixed round beside fence of by has c.in_err-answer.field-0.0 (c.in_err-answer.ensures.acts disk secrets))

pub returns-in_err-answer-clause-tells : goal.returns-in_err-answer-clause-tells
returns-in_err-answer-clause-tells g c = λ fixed round beside fence of by has.
    let p = err_from_is_err_and c.from_residual.result c.from_residual.ensures.1 in
    rw (p.1, p.2) (heard_unsaid g.C.Ceremony.dealing_of g.C.Ceremony.ack_of _ c.args.terms.now c.args.life.now c.in-Some.player c.args.epoch c.args.from c.args.public c.args.private
    c.in-Some.is c.requires.ready.seated c.requires.me c.requires.dealt
    fixed round beside fence of by has c.in_err-answer.field-0.0 c.in_err-answer.ensures.tells)

pub returns-in_default-clause-moved : goal.returns-in_default-clause-moved
returns-in_default-clause-moved g c = moved_none g.D.Disk.tells g.D.Disk.made g.X.SecretStore.made g.D.Disk.faults g.X.SecretStore.faults g.met.D.Disk.made_none g.met.X.SecretStore.made_none c.args.devices.now

pub returns-clause-ready : goal.returns-clause-ready
returns-clause-ready g c =
    on_ok c.tell_answer.result (ready_heard g.D.Disk.tells g.D.Disk.files g.D.Disk.image g.C.Ceremony.ack_of g.C.Ceremony.deal_of g.C.Ceremony.check_ack_of c.args.terms.now c.args.life.now c.args.devices.now c.requires.ready
    c.handle.new.devices _ c.in-Some.player c.handle.new.player c.handle.new.store c.in-Some.is c.requires.me c.in_ok-answer.ensures.keeps.sits c.in_ok-answer.ensures.firm)

pub returns-in_default-clause-current : goal.returns-in_default-clause-current
returns-in_default-clause-current g c = refl

pub returns-in_err-answer-clause-current : goal.returns-in_err-answer-clause-current
returns-in_err-answer-clause-current g c = c.handle.ensures.keeps.rest.current

pub returns-clause-current : goal.returns-clause-current
returns-clause-current g c = c.handle.ensures.keeps.rest.current
