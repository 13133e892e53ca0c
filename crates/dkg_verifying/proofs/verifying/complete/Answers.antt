use Rattle.std.proofs.Common.{refl, ◌∙◌, ap}
use Rattle.std.specs.Int.NonZero.{non_zero_u64_get}
use Rattle.std.proofs.lemmas.Result.{err_from_is_err_and}
use Rattle.dkg_infos.specs.declared.fault.Fault.TheVariants.{NoMemory}
use Rattle.dkg_store.specs.Acts.{went}
use Rattle.dkg_store.specs.declared.store.Store.{Store}
use Rattle.dkg_core.specs.Including as including
use Rattle.dkg_life.specs.declared.stop.Stop.TheVariants.{Fault as Faulted}
use Rattle.dkg_life.specs.Ends.{by_stop}
use Rattle.dkg_verifying.specs.InclusionOf.{checked_result_of}
use Rattle.dkg_life.specs.LiveOf.{live_of}
use Rattle.dkg_life.proofs.Burning.{speaks_makes}
use Rattle.dkg_verifying.proofs.Completed.{answered_beside, ended_makes, ended_told}
use Rattle.dkg_verifying.proofs.Completing.{alone_speaks, forgotten_makes, forgotten_told, includes_now, middle_now, seen_answered, unanswered_makes, unanswered_told}
use Rattle.dkg_life.proofs.Kept.{moved_none}
use Rattle.dkg_life.proofs.Said.{speaks_tells}
use Rattle.dkg_life.proofs.Speaking.{wants_speaks}
use Rattle.dkg_verifying.proofs.Telling.{ends_beside}
use Rattle.dkg_verifying.proofs.Within.{within_as}
use Rattle.dkg_verifying.proofs.Looking.{looked}
use Rattle.dkg_verifying.proofs.verifying.complete.Goals as goal

pub returns-in_err-retain-clause-acts : goal.returns-in_err-retain-clause-acts
returns-in_err-retain-clause-acts g c = λ disk secrets provided fixed beside fence of reads by provides seen.
    let p = err_from_is_err_and c.from_residual.result c.from_residual.ensures.1 in
    let course = including.completes fixed (checked_result_of c.args.verified) (live_of beside fence c.args.life.now) in
    rw (p.1, p.2) (ends_beside beside tt refl (speaks_makes course (by_stop (Faulted NoMemory)) _ _ (wants_speaks course (Faulted NoMemory) refl _ _ refl)))

pub returns-in_err-retain-clause-tells : goal.returns-in_err-retain-clause-tells
returns-in_err-retain-clause-tells g c = λ provided fixed beside fence of reads by provides seen.
    let p = err_from_is_err_and c.from_residual.result c.from_residual.ensures.1 in
    let course = including.completes fixed (checked_result_of c.args.verified) (live_of beside fence c.args.life.now) in
    rw (p.1, p.2) (ends_beside beside tt refl (speaks_tells course (by_stop (Faulted NoMemory)) (wants_speaks course (Faulted NoMemory) refl _ _ refl)))

pub returns-in_err-retain-clause-moved : goal.returns-in_err-retain-clause-moved
returns-in_err-retain-clause-moved g c = moved_none g.D.Disk.tells g.D.Disk.made g.X.SecretStore.made g.D.Disk.faults g.X.SecretStore.faults g.met.D.Disk.made_none g.met.X.SecretStore.made_none c.args.devices.now

pub returns-in_err-retain-clause-stays : goal.returns-in_err-retain-clause-stays
returns-in_err-retain-clause-stays g c = looked

pub returns-in_default-clause-moved : goal.returns-in_default-clause-moved
returns-in_default-clause-moved g c = moved_none g.D.Disk.tells g.D.Disk.made g.X.SecretStore.made g.D.Disk.faults g.X.SecretStore.faults g.met.D.Disk.made_none g.met.X.SecretStore.made_none c.args.devices.now

pub returns-in_default-clause-acts : goal.returns-in_default-clause-acts
returns-in_default-clause-acts g c = λ disk secrets provided fixed beside fence of reads by provides seen.
    let n = non_zero_u64_get c.args.terms.now.blocks_per_epoch in
    let includes = includes_now g.C.Ceremony.check_log_of g.C.Ceremony.dealing_of g.C.Ceremony.finish_of n c.args.life.now c.args.inclusion.now c.requires.including c.requires.runs in
    let middle = middle_now fixed n c.args.life.now of.blocks includes c.requires.ready.placed in
    let course = including.completes fixed (checked_result_of c.args.verified) (live_of beside fence c.args.life.now) in
    within_as (λ i is. is) (λ now is says. speaks_makes course (went (live_of now fence c.args.life.now)) _ _ says)
    (alone_speaks fixed of.reshare (checked_result_of c.args.verified) beside fence c.args.life.now (seen.waiter ∙ c.in_default.is) (c.in_ok-retain.ensures.kept fixed beside fence middle seen) c.args.out.now.entries)

pub returns-in_default-clause-tells : goal.returns-in_default-clause-tells
returns-in_default-clause-tells g c = λ provided fixed beside fence of reads by provides seen.
    let n = non_zero_u64_get c.args.terms.now.blocks_per_epoch in
    let includes = includes_now g.C.Ceremony.check_log_of g.C.Ceremony.dealing_of g.C.Ceremony.finish_of n c.args.life.now c.args.inclusion.now c.requires.including c.requires.runs in
    let middle = middle_now fixed n c.args.life.now of.blocks includes c.requires.ready.placed in
    let course = including.completes fixed (checked_result_of c.args.verified) (live_of beside fence c.args.life.now) in
    within_as (λ i is. is) (λ now is says. speaks_tells course (went (live_of now fence c.args.life.now)) says)
    (alone_speaks fixed of.reshare (checked_result_of c.args.verified) beside fence c.args.life.now (seen.waiter ∙ c.in_default.is) (c.in_ok-retain.ensures.kept fixed beside fence middle seen) c.args.out.now.entries)

pub returns-in_default-clause-stays : goal.returns-in_default-clause-stays
returns-in_default-clause-stays g c = looked

pub returns-in_err-answer_by-clause-acts : goal.returns-in_err-answer_by-clause-acts
returns-in_err-answer_by-clause-acts g c = λ disk secrets provided fixed beside fence of reads by provides seen.
    let p = err_from_is_err_and c.from_residual-in_err-answer_by.result c.from_residual-in_err-answer_by.ensures.1 in
    rw (p.1, p.2) (unanswered_makes fixed of.reshare (checked_result_of c.args.verified) beside fence c.args.life.now c.in-Some.request (seen.waiter ∙ c.in-Some.is) c.answer_by.new.cache
    g.D.Disk.files g.D.Disk.image g.X.SecretStore.held c.args.devices.now c.answer_by.new.devices c.args.out.now.entries c.answer_by.new.out.entries
    c.in_err-answer_by.field-0.0 tt (c.in_err-answer_by.ensures.acts disk secrets provided fixed (live_of beside fence c.args.life.now) of reads provides refl seen.cached))

pub returns-in_err-answer_by-clause-tells : goal.returns-in_err-answer_by-clause-tells
returns-in_err-answer_by-clause-tells g c = λ provided fixed beside fence of reads by provides seen.
    let p = err_from_is_err_and c.from_residual-in_err-answer_by.result c.from_residual-in_err-answer_by.ensures.1 in
    rw (p.1, p.2) (unanswered_told fixed of.reshare (checked_result_of c.args.verified) beside fence c.args.life.now c.in-Some.request (seen.waiter ∙ c.in-Some.is) c.answer_by.new.cache c.in_err-answer_by.field-0.0
    c.args.out.now.entries c.answer_by.new.out.entries tt (c.in_err-answer_by.ensures.tells provided fixed (live_of beside fence c.args.life.now) of reads provides refl seen.cached))

pub returns-in_err-answer_by-clause-stays : goal.returns-in_err-answer_by-clause-stays
returns-in_err-answer_by-clause-stays g c = record {
  same = λ i. record c.args.life.now { store = c.answer_by.ensures.store i };
  disk = c.answer_by.ensures.disk;
  held = c.answer_by.ensures.held;
  provider = c.answer_by.ensures.provider;
}

pub returns-in_err-retain-2-clause-acts : goal.returns-in_err-retain-2-clause-acts
returns-in_err-retain-2-clause-acts g c = λ disk secrets provided fixed beside fence of reads by provides seen.
    let p = err_from_is_err_and c.from_residual-in_err-retain-2.result c.from_residual-in_err-retain-2.ensures.1 in
    rw (p.1, p.2) (forgotten_makes fixed of.reshare (checked_result_of c.args.verified) beside fence c.args.life.now c.in-Some.request (seen.waiter ∙ c.in-Some.is) c.answer_by.new.cache
    g.D.Disk.files g.D.Disk.image g.X.SecretStore.held c.args.devices.now c.answer_by.new.devices c.args.out.now.entries c.answer_by.new.out.entries
    (Faulted NoMemory) refl tt (c.in_ok-answer_by.ensures.acts disk secrets provided fixed (live_of beside fence c.args.life.now) of reads provides refl seen.cached))

pub returns-in_err-retain-2-clause-tells : goal.returns-in_err-retain-2-clause-tells
returns-in_err-retain-2-clause-tells g c = λ provided fixed beside fence of reads by provides seen.
    let p = err_from_is_err_and c.from_residual-in_err-retain-2.result c.from_residual-in_err-retain-2.ensures.1 in
    rw (p.1, p.2) (forgotten_told fixed of.reshare (checked_result_of c.args.verified) beside fence c.args.life.now c.in-Some.request (seen.waiter ∙ c.in-Some.is) c.answer_by.new.cache (Faulted NoMemory) refl
    c.args.out.now.entries c.answer_by.new.out.entries tt (c.in_ok-answer_by.ensures.tells provided fixed (live_of beside fence c.args.life.now) of reads provides refl seen.cached))

pub returns-in_err-retain-2-clause-stays : goal.returns-in_err-retain-2-clause-stays
returns-in_err-retain-2-clause-stays g c = record {
  same = λ i. record c.args.life.now { store = c.answer_by.ensures.store i };
  disk = c.answer_by.ensures.disk;
  held = c.answer_by.ensures.held;
  provider = c.answer_by.ensures.provider;
}

pub returns-clause-acts : goal.returns-clause-acts
returns-clause-acts g c = λ disk secrets provided fixed beside fence of reads by provides seen.
    let n = non_zero_u64_get c.args.terms.now.blocks_per_epoch in
    let includes = includes_now g.C.Ceremony.check_log_of g.C.Ceremony.dealing_of g.C.Ceremony.finish_of n c.args.life.now c.args.inclusion.now c.requires.including c.requires.runs in
    let middle = middle_now fixed n c.args.life.now of.blocks includes c.requires.ready.placed in
    let same = ap (λ (s : Store g.row.Dir.Denot). record c.args.life.now { store = s }) c.in_ok-answer_by.ensures.store in
    let answered = answered_beside fixed of.reshare (checked_result_of c.args.verified) beside fence c.args.life.now (record c.args.life.now { store = c.answer_by.new.store }) same c.in-Some.request
    (seen.waiter ∙ c.in-Some.is) c.answer_by.new.cache c.retain-2.new.inclusion in
    let kept = c.in_ok-retain-2.ensures.kept fixed answered fence middle
    (seen_answered c.args.inclusion.now beside fence c.args.life.now seen c.answer_by.new.cache c.answer_by.new.told c.in-Some.request c.args.verified.logs c.in_ok-answer_by.ensures.told) in
    ended_makes fixed of.reshare (checked_result_of c.args.verified) beside fence c.args.life.now (record c.args.life.now { store = c.answer_by.new.store }) same c.in-Some.request (seen.waiter ∙ c.in-Some.is) c.answer_by.new.cache c.retain-2.new.inclusion
    g.D.Disk.files g.D.Disk.image g.X.SecretStore.held c.args.devices.now c.answer_by.new.devices c.args.out.now.entries c.answer_by.new.out.entries kept
    (c.in_ok-answer_by.ensures.acts disk secrets provided fixed (live_of beside fence c.args.life.now) of reads provides refl seen.cached)

pub returns-clause-tells : goal.returns-clause-tells
returns-clause-tells g c = λ provided fixed beside fence of reads by provides seen.
    let n = non_zero_u64_get c.args.terms.now.blocks_per_epoch in
    let includes = includes_now g.C.Ceremony.check_log_of g.C.Ceremony.dealing_of g.C.Ceremony.finish_of n c.args.life.now c.args.inclusion.now c.requires.including c.requires.runs in
    let middle = middle_now fixed n c.args.life.now of.blocks includes c.requires.ready.placed in
    let same = ap (λ (s : Store g.row.Dir.Denot). record c.args.life.now { store = s }) c.in_ok-answer_by.ensures.store in
    let answered = answered_beside fixed of.reshare (checked_result_of c.args.verified) beside fence c.args.life.now (record c.args.life.now { store = c.answer_by.new.store }) same c.in-Some.request
    (seen.waiter ∙ c.in-Some.is) c.answer_by.new.cache c.retain-2.new.inclusion in
    let kept = c.in_ok-retain-2.ensures.kept fixed answered fence middle
    (seen_answered c.args.inclusion.now beside fence c.args.life.now seen c.answer_by.new.cache c.answer_by.new.told c.in-Some.request c.args.verified.logs c.in_ok-answer_by.ensures.told) in
    ended_told fixed of.reshare (checked_result_of c.args.verified) beside fence c.args.life.now (record c.args.life.now { store = c.answer_by.new.store }) same c.in-Some.request (seen.waiter ∙ c.in-Some.is) c.answer_by.new.cache c.retain-2.new.inclusion
    c.args.out.now.entries c.answer_by.new.out.entries kept
    (c.in_ok-answer_by.ensures.tells provided fixed (live_of beside fence c.args.life.now) of reads provides refl seen.cached)

pub returns-clause-stays : goal.returns-clause-stays
returns-clause-stays g c = record {
  same = λ i. record c.args.life.now { store = c.answer_by.ensures.store i };
  disk = c.answer_by.ensures.disk;
  held = c.answer_by.ensures.held;
  provider = c.answer_by.ensures.provider;
}
