use Rattle.std.proofs.Common.{refl}
use Rattle.std.specs.Int.NonZero.{non_zero_u64_get}
use Rattle.dkg_life.specs.declared.life.Life.{Life}
use Rattle.dkg_life.proofs.Burning.{by_stop_alike}
use Rattle.dkg_verifying.proofs.Included.{empty_settled}
use Rattle.dkg_reshare.proofs.actor.Actor.open.Goals as goal

pub returns-in-Err-clause-acts : goal.returns-in-Err-clause-acts
returns-in-Err-clause-acts g c = λ disk secrets fixed opening by fresh. c.in-Err.ensures.acts disk secrets fixed opening by fresh

pub returns-in-Err-clause-tells : goal.returns-in-Err-clause-tells
returns-in-Err-clause-tells g c = λ fixed lent life is_bare by fresh.
    let read = c.in-Err.ensures.tells fixed lent life is_bare by fresh in
    record { seen = read.seen; unplanned = read.unplanned; listed = read.listed; given = by_stop_alike (Life g.row.Dir.Denot) (Unit {0}) c.in-Err.why _ read.given; so = read.so }

pub returns-in-Err-clause-readable : goal.returns-in-Err-clause-readable
returns-in-Err-clause-readable g c = λ told. let its = c.in-Err.ensures.readable told in record { ok = tt; untold = its.untold; shut = its.shut }

pub returns-in-Err-clause-ends : goal.returns-in-Err-clause-ends
returns-in-Err-clause-ends g c = rw c.fail.ensures.failed tt

pub returns-in-Err-clause-word : goal.returns-in-Err-clause-word
returns-in-Err-clause-word g c = rw c.fail.ensures.failed tt

pub returns-in-Err-clause-rest : goal.returns-in-Err-clause-rest
returns-in-Err-clause-rest g c = (c.fail.ensures.rest.0, c.fail.ensures.rest.1, c.fail.ensures.provider, c.fail.ensures.rest.2, c.fail.ensures.rest.3)

pub returns-in-Err-clause-live : goal.returns-in-Err-clause-live
returns-in-Err-clause-live g c = tt

pub returns-in-Err-clause-moved : goal.returns-in-Err-clause-moved
returns-in-Err-clause-moved g c = c.open_life.ensures.moved

pub returns-in-Err-clause-causes : goal.returns-in-Err-clause-causes
returns-in-Err-clause-causes g c = c.in-Err.ensures.causes

pub returns-in-Err-clause-loose : goal.returns-in-Err-clause-loose
returns-in-Err-clause-loose g c = c.open_life.ensures.above

pub returns-in-Ok-clause-acts : goal.returns-in-Ok-clause-acts
returns-in-Ok-clause-acts g c = λ disk secrets fixed opening by fresh. c.in-Ok.ensures.acts disk secrets fixed opening by fresh

pub returns-in-Ok-clause-tells : goal.returns-in-Ok-clause-tells
returns-in-Ok-clause-tells g c = λ fixed lent life is_bare by fresh.
    let read = c.in-Ok.ensures.tells fixed lent life is_bare by fresh in
    record { seen = read.seen; unplanned = read.unplanned; listed = read.listed; given = read.given; so = read.so }

pub returns-in-Ok-clause-readable : goal.returns-in-Ok-clause-readable
returns-in-Ok-clause-readable g c = λ told. let its = c.in-Ok.ensures.readable told in record { ok = its.ok; untold = its.untold; shut = its.shut }

pub returns-in-Ok-clause-ends : goal.returns-in-Ok-clause-ends
returns-in-Ok-clause-ends g c = c.in-Ok.ensures.ready

pub returns-in-Ok-clause-word : goal.returns-in-Ok-clause-word
returns-in-Ok-clause-word g c = c.in-Ok.ensures.word

pub returns-in-Ok-clause-rest : goal.returns-in-Ok-clause-rest
returns-in-Ok-clause-rest g c = (refl, refl, refl, refl, refl)

pub returns-in-Ok-clause-live : goal.returns-in-Ok-clause-live
returns-in-Ok-clause-live g c = c.in-Ok.ensures.live

pub returns-in-Ok-clause-moved : goal.returns-in-Ok-clause-moved
returns-in-Ok-clause-moved g c = c.open_life.ensures.moved

pub returns-in-Ok-clause-causes : goal.returns-in-Ok-clause-causes
returns-in-Ok-clause-causes g c = tt

pub returns-in-Ok-clause-loose : goal.returns-in-Ok-clause-loose
returns-in-Ok-clause-loose g c = c.open_life.ensures.above

pub returns-in-Err-clause-including : goal.returns-in-Err-clause-including
returns-in-Err-clause-including g c = rw c.fail.ensures.failed tt

pub returns-in-Ok-clause-including : goal.returns-in-Ok-clause-including
returns-in-Ok-clause-including g c = (
  empty_settled g.C.Ceremony.check_log_of g.C.Ceremony.dealing_of g.C.Ceremony.finish_of (non_zero_u64_get c.args.self.now.terms.blocks_per_epoch) c.in-Ok.life c.new.result
      c.new.ensures.empty.0 c.new.ensures.empty.1 c.new.ensures.empty.2 c.new.ensures.empty.3 c.in-Ok.ensures.current,
  c.new.ensures.seen,
)
