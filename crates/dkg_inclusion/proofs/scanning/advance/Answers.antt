use Rattle.std.proofs.Common.{◌≡◌, ◌+◌, ◌≤◌, true, false, length, refl, sym, ◌∙◌, subst, arith}
use Rattle.std.proofs.lemmas.List.{nil_from_length}
use Rattle.std.proofs.lemmas.Result.{err_from_is_err_and}
use Rattle.std.specs.Prelude.{IsSome}
use Rattle.std.specs.Int.NonZero.{non_zero_u64_get}
use Rattle.dkg_life.specs.LiveOf.{live_of}
use Rattle.dkg_inclusion.proofs.Asking.{MakesOver, TellsOver, behind_length, front_length, makes_joins, no_more, one_more, stopped_at, tells_joins}
use Rattle.dkg_life.proofs.Blamed.{caused_behind}
use Rattle.dkg_life.proofs.Burning.{makes_nothing}
use Rattle.dkg_life.proofs.Committing.{goes_told}
use Rattle.dkg_life.proofs.Kept.{moved_none, moved_then}
use Rattle.dkg_inclusion.proofs.Requesting.{settled_waits}
use Rattle.dkg_inclusion.proofs.Staying.{includes_on}
use Rattle.dkg_verifying.proofs.Telling.{ends_beside}
use Rattle.dkg_verifying.proofs.Within.{within_as, within_then}
use Rattle.dkg_verifying.proofs.Looking.{looked, looked_then}
use Rattle.dkg_inclusion.proofs.scanning.advance.Goals as goal

-- NOTHING WAS READ YET

pub loop-turn-init : goal.loop-turn-init
loop-turn-init g c = record {
  ready = c.requires.ready;
  including = c.requires.including;
  stays = looked;
  left = λ some. omega (arith, c.len-count.ensures);
  acts = λ disk secrets provider fixed beside fence of reads by includes seen.
      ends_beside beside seen refl (makes_nothing (g.D.Disk.files c.args.devices.now.disk.now) (g.D.Disk.image c.args.devices.now.disk.now) _ refl);
  tells = λ provider fixed beside fence of reads by includes seen. ends_beside beside seen refl (goes_told g.row.Dir.Denot (live_of beside fence c.args.life.now) c.args.out.now.entries);
  moved = moved_none g.D.Disk.tells g.D.Disk.made g.X.SecretStore.made g.D.Disk.faults g.X.SecretStore.faults g.met.D.Disk.made_none g.met.X.SecretStore.made_none c.args.devices.now;
}

-- A TURN

pub loop-turn-preserved : goal.loop-turn-preserved
loop-turn-preserved g c = record {
  ready = c.in_ok-read_first.ensures.ready;
  including = c.in_ok-read_first.ensures.including;
  stays = looked_then c.loop-turn.invariant.stays c.read_first.ensures.stays;
  left = λ some. let here = subst (λ l. IsSome l.round) c.read_first.ensures.stays.same some in
      behind_length c.loop-turn.inclusion.requests c.read_first.new.inclusion.requests c.loop-turn._turn c.len-count.result (c.in_ok-read_first.ensures.left here) (c.loop-turn.invariant.left here) c.loop-turn-test.true;
  acts = λ disk secrets provider fixed beside fence of reads by includes seen.
      within_then beside (c.loop-turn.invariant.acts disk secrets provider fixed beside fence of reads by includes seen)
      (λ now is made. within_as (λ i was. was) (λ later was next. one_more (MakesOver g.D.Disk.files g.D.Disk.image g.X.SecretStore.held) (makes_joins g.D.Disk.files g.D.Disk.image g.X.SecretStore.held) fixed c.loop-turn._turn (live_of beside fence c.args.life.now) (live_of now fence c.loop-turn.life) _ (c.args.devices.now, c.args.out.now.entries) (c.loop-turn.devices, c.loop-turn.out.entries) (c.read_first.new.devices, c.read_first.new.out.entries) made next)
      (c.in_ok-read_first.ensures.acts disk secrets provider fixed now fence of reads by (includes_on fixed (c.loop-turn.invariant.stays.provider provider) includes) is));
  tells = λ provider fixed beside fence of reads by includes seen.
      within_then beside (c.loop-turn.invariant.tells provider fixed beside fence of reads by includes seen)
      (λ now is made. within_as (λ i was. was) (λ later was next. one_more TellsOver tells_joins fixed c.loop-turn._turn (live_of beside fence c.args.life.now) (live_of now fence c.loop-turn.life) _ c.args.out.now.entries c.loop-turn.out.entries c.read_first.new.out.entries made next)
      (c.in_ok-read_first.ensures.tells provider fixed now fence of reads by (includes_on fixed (c.loop-turn.invariant.stays.provider provider) includes) is));
  moved = moved_then g.D.Disk.tells g.D.Disk.made g.X.SecretStore.made g.D.Disk.faults g.X.SecretStore.faults g.met.D.Disk.made_more g.met.X.SecretStore.made_more _ _ _ c.loop-turn.invariant.moved c.read_first.ensures.moved;
}

-- NO OTHER CAN BE READ

pub returns-then-not-may_read-clause-acts : goal.returns-then-not-may_read-clause-acts
returns-then-not-may_read-clause-acts g c = λ disk secrets provider fixed beside fence of reads by includes seen.
    within_as (λ i is. is) (λ now is made. no_more (MakesOver g.D.Disk.files g.D.Disk.image g.X.SecretStore.held) (makes_joins g.D.Disk.files g.D.Disk.image g.X.SecretStore.held) fixed c.loop-turn._turn (length beside.inclusion.queue) (let few = front_length c.args.inclusion.now.hand c.args.inclusion.now.requests in rw seen.queue (omega (arith, few, c.len-count.ensures))) (live_of beside fence c.args.life.now) (live_of now fence c.loop-turn.life) (c.args.devices.now, c.args.out.now.entries) (c.loop-turn.devices, c.loop-turn.out.entries) made
    (settled_waits g.C.Ceremony.check_log_of g.C.Ceremony.dealing_of g.C.Ceremony.finish_of (non_zero_u64_get c.args.terms.now.blocks_per_epoch) c.loop-turn.life c.loop-turn.invariant.ready.placed fixed of.blocks includes.check_log now fence c.loop-turn.inclusion is (record { ready = c.loop-turn.invariant.including; settled = λ is some none free. absurd (let e : true ≡ false = sym (c.may_read.ensures.1 (is, none, free)) ∙ c.if-not-may_read.true in cc) }))) (c.loop-turn.invariant.acts disk secrets provider fixed beside fence of reads by includes seen)

pub returns-then-not-may_read-clause-tells : goal.returns-then-not-may_read-clause-tells
returns-then-not-may_read-clause-tells g c = λ provider fixed beside fence of reads by includes seen.
    within_as (λ i is. is) (λ now is made. no_more TellsOver tells_joins fixed c.loop-turn._turn (length beside.inclusion.queue) (let few = front_length c.args.inclusion.now.hand c.args.inclusion.now.requests in rw seen.queue (omega (arith, few, c.len-count.ensures))) (live_of beside fence c.args.life.now) (live_of now fence c.loop-turn.life) c.args.out.now.entries c.loop-turn.out.entries made
    (settled_waits g.C.Ceremony.check_log_of g.C.Ceremony.dealing_of g.C.Ceremony.finish_of (non_zero_u64_get c.args.terms.now.blocks_per_epoch) c.loop-turn.life c.loop-turn.invariant.ready.placed fixed of.blocks includes.check_log now fence c.loop-turn.inclusion is (record { ready = c.loop-turn.invariant.including; settled = λ is some none free. absurd (let e : true ≡ false = sym (c.may_read.ensures.1 (is, none, free)) ∙ c.if-not-may_read.true in cc) }))) (c.loop-turn.invariant.tells provider fixed beside fence of reads by includes seen)

pub returns-then-not-may_read-clause-including : goal.returns-then-not-may_read-clause-including
returns-then-not-may_read-clause-including g c = (record { ready = c.loop-turn.invariant.including; settled = λ is some none free. absurd (let e : true ≡ false = sym (c.may_read.ensures.1 (is, none, free)) ∙ c.if-not-may_read.true in cc) })

pub returns-then-not-may_read-clause-ready : goal.returns-then-not-may_read-clause-ready
returns-then-not-may_read-clause-ready g c = c.loop-turn.invariant.ready

pub returns-then-not-may_read-clause-stays : goal.returns-then-not-may_read-clause-stays
returns-then-not-may_read-clause-stays g c = c.loop-turn.invariant.stays

pub returns-then-not-may_read-clause-moved : goal.returns-then-not-may_read-clause-moved
returns-then-not-may_read-clause-moved g c = c.loop-turn.invariant.moved

-- ALL WERE

pub returns-clause-acts : goal.returns-clause-acts
returns-clause-acts g c = λ disk secrets provider fixed beside fence of reads by includes seen.
    within_as (λ i is. is) (λ now is made. no_more (MakesOver g.D.Disk.files g.D.Disk.image g.X.SecretStore.held) (makes_joins g.D.Disk.files g.D.Disk.image g.X.SecretStore.held) fixed c.loop-turn._turn (length beside.inclusion.queue) (let few = front_length c.args.inclusion.now.hand c.args.inclusion.now.requests in rw seen.queue (omega (arith, few, c.len-count.ensures))) (live_of beside fence c.args.life.now) (live_of now fence c.loop-turn.life) (c.args.devices.now, c.args.out.now.entries) (c.loop-turn.devices, c.loop-turn.out.entries) made
    (settled_waits g.C.Ceremony.check_log_of g.C.Ceremony.dealing_of g.C.Ceremony.finish_of (non_zero_u64_get c.args.terms.now.blocks_per_epoch) c.loop-turn.life c.loop-turn.invariant.ready.placed fixed of.blocks includes.check_log now fence c.loop-turn.inclusion is (record { ready = c.loop-turn.invariant.including; settled = λ is some none free. nil_from_length c.loop-turn.inclusion.requests (let few = c.loop-turn.invariant.left some in omega (arith, few, c.loop-turn-test.false)) }))) (c.loop-turn.invariant.acts disk secrets provider fixed beside fence of reads by includes seen)

pub returns-clause-tells : goal.returns-clause-tells
returns-clause-tells g c = λ provider fixed beside fence of reads by includes seen.
    within_as (λ i is. is) (λ now is made. no_more TellsOver tells_joins fixed c.loop-turn._turn (length beside.inclusion.queue) (let few = front_length c.args.inclusion.now.hand c.args.inclusion.now.requests in rw seen.queue (omega (arith, few, c.len-count.ensures))) (live_of beside fence c.args.life.now) (live_of now fence c.loop-turn.life) c.args.out.now.entries c.loop-turn.out.entries made
    (settled_waits g.C.Ceremony.check_log_of g.C.Ceremony.dealing_of g.C.Ceremony.finish_of (non_zero_u64_get c.args.terms.now.blocks_per_epoch) c.loop-turn.life c.loop-turn.invariant.ready.placed fixed of.blocks includes.check_log now fence c.loop-turn.inclusion is (record { ready = c.loop-turn.invariant.including; settled = λ is some none free. nil_from_length c.loop-turn.inclusion.requests (let few = c.loop-turn.invariant.left some in omega (arith, few, c.loop-turn-test.false)) }))) (c.loop-turn.invariant.tells provider fixed beside fence of reads by includes seen)

pub returns-clause-including : goal.returns-clause-including
returns-clause-including g c = (record { ready = c.loop-turn.invariant.including; settled = λ is some none free. nil_from_length c.loop-turn.inclusion.requests (let few = c.loop-turn.invariant.left some in omega (arith, few, c.loop-turn-test.false)) })

pub returns-clause-ready : goal.returns-clause-ready
returns-clause-ready g c = c.loop-turn.invariant.ready

pub returns-clause-stays : goal.returns-clause-stays
returns-clause-stays g c = c.loop-turn.invariant.stays

pub returns-clause-moved : goal.returns-clause-moved
returns-clause-moved g c = c.loop-turn.invariant.moved

-- IT STOPPED

pub returns-in_err-read_first-clause-acts : goal.returns-in_err-read_first-clause-acts
returns-in_err-read_first-clause-acts g c = λ disk secrets provider fixed beside fence of reads by includes seen.
    let p = err_from_is_err_and c.from_residual.result c.from_residual.ensures.1 in
    let few = front_length c.args.inclusion.now.hand c.args.inclusion.now.requests in
    let within : c.loop-turn._turn + 1 ≤ length beside.inclusion.queue = rw seen.queue (omega (arith, few, c.len-count.ensures, c.loop-turn-test.true)) in
    rw (p.1, p.2) (within_then beside (c.loop-turn.invariant.acts disk secrets provider fixed beside fence of reads by includes seen)
    (λ now is made. within_as (λ i was. was) (λ later was next. stopped_at (MakesOver g.D.Disk.files g.D.Disk.image g.X.SecretStore.held) (makes_joins g.D.Disk.files g.D.Disk.image g.X.SecretStore.held) fixed (c.loop-turn._turn + 1) (length beside.inclusion.queue) within (live_of beside fence c.args.life.now) c.in_err-read_first.field-0.0 (c.args.devices.now, c.args.out.now.entries) (c.read_first.new.devices, c.read_first.new.out.entries)
    (one_more (MakesOver g.D.Disk.files g.D.Disk.image g.X.SecretStore.held) (makes_joins g.D.Disk.files g.D.Disk.image g.X.SecretStore.held) fixed c.loop-turn._turn (live_of beside fence c.args.life.now) (live_of now fence c.loop-turn.life) _ (c.args.devices.now, c.args.out.now.entries) (c.loop-turn.devices, c.loop-turn.out.entries) (c.read_first.new.devices, c.read_first.new.out.entries) made next))
    (c.in_err-read_first.ensures.acts disk secrets provider fixed now fence of reads by (includes_on fixed (c.loop-turn.invariant.stays.provider provider) includes) is)))

pub returns-in_err-read_first-clause-tells : goal.returns-in_err-read_first-clause-tells
returns-in_err-read_first-clause-tells g c = λ provider fixed beside fence of reads by includes seen.
    let p = err_from_is_err_and c.from_residual.result c.from_residual.ensures.1 in
    let few = front_length c.args.inclusion.now.hand c.args.inclusion.now.requests in
    let within : c.loop-turn._turn + 1 ≤ length beside.inclusion.queue = rw seen.queue (omega (arith, few, c.len-count.ensures, c.loop-turn-test.true)) in
    rw (p.1, p.2) (within_then beside (c.loop-turn.invariant.tells provider fixed beside fence of reads by includes seen)
    (λ now is made. within_as (λ i was. was) (λ later was next. stopped_at TellsOver tells_joins fixed (c.loop-turn._turn + 1) (length beside.inclusion.queue) within (live_of beside fence c.args.life.now) c.in_err-read_first.field-0.0 c.args.out.now.entries c.read_first.new.out.entries
    (one_more TellsOver tells_joins fixed c.loop-turn._turn (live_of beside fence c.args.life.now) (live_of now fence c.loop-turn.life) _ c.args.out.now.entries c.loop-turn.out.entries c.read_first.new.out.entries made next))
    (c.in_err-read_first.ensures.tells provider fixed now fence of reads by (includes_on fixed (c.loop-turn.invariant.stays.provider provider) includes) is)))

pub returns-in_err-read_first-clause-ready : goal.returns-in_err-read_first-clause-ready
returns-in_err-read_first-clause-ready g c =
    let p = err_from_is_err_and c.from_residual.result c.from_residual.ensures.1 in
    rw p.1 tt

pub returns-in_err-read_first-clause-including : goal.returns-in_err-read_first-clause-including
returns-in_err-read_first-clause-including g c =
    let p = err_from_is_err_and c.from_residual.result c.from_residual.ensures.1 in
    rw p.1 tt

pub returns-in_err-read_first-clause-stays : goal.returns-in_err-read_first-clause-stays
returns-in_err-read_first-clause-stays g c = looked_then c.loop-turn.invariant.stays c.read_first.ensures.stays

pub returns-in_err-read_first-clause-moved : goal.returns-in_err-read_first-clause-moved
returns-in_err-read_first-clause-moved g c = moved_then g.D.Disk.tells g.D.Disk.made g.X.SecretStore.made g.D.Disk.faults g.X.SecretStore.faults g.met.D.Disk.made_more g.met.X.SecretStore.made_more _ _ _ c.loop-turn.invariant.moved c.read_first.ensures.moved

pub returns-in_err-read_first-clause-causes : goal.returns-in_err-read_first-clause-causes
returns-in_err-read_first-clause-causes g c =
    let p = err_from_is_err_and c.from_residual.result c.from_residual.ensures.1 in
    rw (p.1, p.2) (caused_behind g.D.Disk.tells g.D.Disk.made g.X.SecretStore.made g.D.Disk.faults g.X.SecretStore.faults _ _ _ c.loop-turn.invariant.moved c.read_first.ensures.moved c.in_err-read_first.field-0.0 c.in_err-read_first.ensures.causes)

pub returns-then-not-may_read-clause-causes : goal.returns-then-not-may_read-clause-causes
returns-then-not-may_read-clause-causes g c = tt

pub returns-clause-causes : goal.returns-clause-causes
returns-clause-causes g c = tt

pub read_first-requires-clause-ready : goal.read_first-requires-clause-ready
read_first-requires-clause-ready g c = c.loop-turn.invariant.ready

pub read_first-requires-clause-including : goal.read_first-requires-clause-including
read_first-requires-clause-including g c = c.loop-turn.invariant.including

pub read_first-requires-clause-may : goal.read_first-requires-clause-may
read_first-requires-clause-may g c = c.may_read.ensures.0 c.if-not-may_read.false
