use Rattle.std.proofs.Common.{◌≡◌, ◌+◌, ◌<◌, ℕ, Option, Some, None, Ok, true, false, ap, refl, sym, subst, ◌∙◌}
use Rattle.std.specs.Prelude.{◌==◌, IsSome}
use Rattle.std.proofs.lemmas.Result.{err_from_is_err_and}
use Rattle.std.specs.Int.NonZero.{non_zero_u64_get}
use Rattle.dkg_infos.specs.declared.info.EpochInfo.{EpochInfo}
use Rattle.dkg_life.specs.declared.life.Life.{Life}
use Rattle.dkg_life.specs.declared.life.Stage.{Stage}
use Rattle.dkg_life.specs.declared.life.Stage.TheVariants.{Dealing, Including}
use Rattle.dkg_store.specs.Acts.{went}
use Rattle.dkg_life.specs.Ends.{by_stop, ends_in}
use Rattle.dkg_life.specs.LiveOf.{live_of}
use Rattle.dkg_blocks.proofs.Applying.{dealing_ended, ends_offers, goes_on, offered_makes, offered_told, unoffered_makes, unoffered_told, unserving}
use Rattle.dkg_setup.proofs.OpeningCourses.{makes_as, tells_as}
use Rattle.dkg_life.proofs.Beside.{none_with, with_as}
use Rattle.dkg_life.proofs.Blamed.{blamed_behind}
use Rattle.dkg_life.proofs.Burning.{speaks_makes}
use Rattle.dkg_verifying.proofs.Included.{apart_settled, begun_ready, seen_served}
use Rattle.dkg_life.proofs.Kept.{moved_then}
use Rattle.dkg_blocks.proofs.Readying.{middle_at, ready_dealing, ready_including, to_sign}
use Rattle.dkg_life.proofs.Said.{speaks_tells}
use Rattle.dkg_life.proofs.Speaking.{wants_speaks}
use Rattle.dkg_reshare.proofs.blocks.apply_dealing.Goals as goal

pub returns-in_err-deal-clause-acts : goal.returns-in_err-deal-clause-acts
returns-in_err-deal-clause-acts g c = λ disk secrets provided fixed beside fence of reads by provides seen.
    let p = err_from_is_err_and c.from_residual.result c.from_residual.ensures.1 in
    rw (p.1, p.2) (none_with beside _ _ _ beside.inclusion tt refl (unoffered_makes fixed c.args.block.now (live_of beside fence c.args.life.now) c.in_err-deal.field-0.0 (c.in_err-deal.ensures.acts disk secrets fixed beside fence of by.answers)))

pub returns-in_err-deal-clause-tells : goal.returns-in_err-deal-clause-tells
returns-in_err-deal-clause-tells g c = λ provided fixed beside fence of reads by provides seen.
    let p = err_from_is_err_and c.from_residual.result c.from_residual.ensures.1 in
    rw (p.1, p.2) (none_with beside _ _ _ beside.inclusion tt refl (unoffered_told fixed c.args.block.now (live_of beside fence c.args.life.now) c.in_err-deal.field-0.0 (c.in_err-deal.ensures.tells fixed beside fence of by.answers)))

pub returns-in_err-deal-clause-causes : goal.returns-in_err-deal-clause-causes
returns-in_err-deal-clause-causes g c =
    let p = err_from_is_err_and c.from_residual.result c.from_residual.ensures.1 in
    rw (p.1, p.2) c.in_err-deal.ensures.causes

pub returns-in_err-deal-clause-provider : goal.returns-in_err-deal-clause-provider
returns-in_err-deal-clause-provider g c = λ provided. (λ epoch. refl, λ epoch peers. refl)

-- DEALING ENDS

pub begin_inclusion-requires : goal.begin_inclusion-requires
begin_inclusion-requires g c = record {
  signs = to_sign g.C.Ceremony.deal_of g.C.Ceremony.check_ack_of c.args.terms.now.me _ c.requires.me c.deal.new.life (ap (λ (l : Life g.row.Dir.Denot). l.stage) c.deal.ensures.rest ∙ c.requires.dealing) c.in_ok-deal.ensures.ready.dealing;
}

pub returns-in_err-begin_inclusion-clause-acts : goal.returns-in_err-begin_inclusion-clause-acts
returns-in_err-begin_inclusion-clause-acts g c = λ disk secrets provided fixed beside fence of reads by provides seen.
    let p = err_from_is_err_and c.from_residual-in_err-begin_inclusion.result c.from_residual-in_err-begin_inclusion.ensures.1 in
    rw (p.1, p.2) (none_with beside _ _ _ beside.inclusion tt refl (offered_makes fixed c.args.block.now (live_of beside fence c.args.life.now) (live_of beside fence c.deal.new.life) (by_stop c.in_err-begin_inclusion.field-0.0) (c.in_ok-deal.ensures.acts disk secrets fixed beside fence of by.answers)
    (speaks_makes (ends_offers fixed c.args.block.now (live_of beside fence c.deal.new.life)) (by_stop c.in_err-begin_inclusion.field-0.0) _ _ (wants_speaks (ends_offers fixed c.args.block.now (live_of beside fence c.deal.new.life)) c.in_err-begin_inclusion.field-0.0 c.in_err-begin_inclusion.ensures.memory
    c.deal.new.out.entries c.deal.new.out.entries refl))))

pub returns-in_err-begin_inclusion-clause-tells : goal.returns-in_err-begin_inclusion-clause-tells
returns-in_err-begin_inclusion-clause-tells g c = λ provided fixed beside fence of reads by provides seen.
    let p = err_from_is_err_and c.from_residual-in_err-begin_inclusion.result c.from_residual-in_err-begin_inclusion.ensures.1 in
    rw (p.1, p.2) (none_with beside _ _ _ beside.inclusion tt refl (offered_told fixed c.args.block.now (live_of beside fence c.args.life.now) (live_of beside fence c.deal.new.life) (by_stop c.in_err-begin_inclusion.field-0.0) (c.in_ok-deal.ensures.tells fixed beside fence of by.answers)
    (speaks_tells (ends_offers fixed c.args.block.now (live_of beside fence c.deal.new.life)) (by_stop c.in_err-begin_inclusion.field-0.0) (wants_speaks (ends_offers fixed c.args.block.now (live_of beside fence c.deal.new.life)) c.in_err-begin_inclusion.field-0.0 c.in_err-begin_inclusion.ensures.memory
    c.deal.new.out.entries c.deal.new.out.entries refl))))

pub returns-in_err-begin_inclusion-clause-causes : goal.returns-in_err-begin_inclusion-clause-causes
returns-in_err-begin_inclusion-clause-causes g c =
    let p = err_from_is_err_and c.from_residual-in_err-begin_inclusion.result c.from_residual-in_err-begin_inclusion.ensures.1 in
    rw (p.1, p.2) (rw c.in_err-begin_inclusion.ensures.memory tt)

pub returns-in_err-begin_inclusion-clause-moves : goal.returns-in_err-begin_inclusion-clause-moves
returns-in_err-begin_inclusion-clause-moves g c = record {
  word = ap (λ (l : Life g.row.Dir.Denot). l.word) c.begin_inclusion.ensures.rest ∙ ap (λ (l : Life g.row.Dir.Denot). l.word) c.deal.ensures.rest;
  moved = c.deal.ensures.moved;
  fit = c.deal.ensures.fit;
}

pub returns-in_err-begin_inclusion-clause-provider : goal.returns-in_err-begin_inclusion-clause-provider
returns-in_err-begin_inclusion-clause-provider g c = λ provided. (λ epoch. refl, λ epoch peers. refl)

pub advance-requires-clause-ready : goal.advance-requires-clause-ready
advance-requires-clause-ready g c =
    let stage = ap (λ (l : Life g.row.Dir.Denot). l.stage) c.deal.ensures.rest ∙ c.requires.dealing in
    let is : (c.args.block.now.height + 1 == c.deal.new.life.midpoint) ≡ true = ap (λ (h : ℕ). h + 1 == c.deal.new.life.midpoint) (sym c.height.ensures) ∙ sym c.ends_dealing.ensures ∙ c.if-ends_dealing.true in
    ready_including g.D.Disk.tells g.D.Disk.files g.D.Disk.image g.C.Ceremony.ack_of g.C.Ceremony.deal_of g.C.Ceremony.check_ack_of c.args.terms.now c.deal.new.devices c.args.block.now c.deal.new.life stage c.in_ok-deal.ensures.ready
    (c.requires.next ∙ sym (ap (λ (l : Life g.row.Dir.Denot). l.epoch) c.deal.ensures.rest)) (subst (λ (m : ℕ). c.args.block.now.height < m) (sym (ap (λ (l : Life g.row.Dir.Denot). l.midpoint) c.deal.ensures.rest)) c.requires.early)
    c.tip_of.result c.tip_of.ensures is _ c.requires.me c.begin_inclusion.new.life c.begin_inclusion.ensures.rest (Ok tt) c.in_ok-begin_inclusion.ensures.stage c.in_ok-begin_inclusion.ensures.dealing

pub advance-requires-clause-including : goal.advance-requires-clause-including
advance-requires-clause-including g c =
    begun_ready g.C.Ceremony.check_log_of g.C.Ceremony.dealing_of g.C.Ceremony.finish_of (non_zero_u64_get c.args.terms.now.blocks_per_epoch) c.args.life.now c.begin_inclusion.new.life c.args.inclusion.now c.requires.including
    c.requires.dealing c.in_ok-begin_inclusion.ensures.stage
    (λ some. subst (λ (o : Option (EpochInfo g.row.Dir.Denot)). IsSome o) (sym (ap (λ (l : Life g.row.Dir.Denot). l.store.current) c.begin_inclusion.ensures.rest ∙ c.deal.ensures.current)) some)

pub returns-then-ends_dealing-clause-acts : goal.returns-then-ends_dealing-clause-acts
returns-then-ends_dealing-clause-acts g c = λ disk secrets provided fixed beside fence of reads by provides seen.
    let n = non_zero_u64_get c.args.terms.now.blocks_per_epoch in
    let stage = ap (λ (l : Life g.row.Dir.Denot). l.stage) c.deal.ensures.rest ∙ c.requires.dealing in
    let is : (c.args.block.now.height + 1 == c.deal.new.life.midpoint) ≡ true = ap (λ (h : ℕ). h + 1 == c.deal.new.life.midpoint) (sym c.height.ensures) ∙ sym c.ends_dealing.ensures ∙ c.if-ends_dealing.true in
    with_as beside (unserving beside).inclusion (λ more none. none)
    (λ now made. offered_makes fixed c.args.block.now (live_of beside fence c.args.life.now) (live_of beside fence c.deal.new.life) (ends_in (live_of now fence c.advance.new.life) c.advance.result) (c.in_ok-deal.ensures.acts disk secrets fixed beside fence of by.answers)
    (makes_as (dealing_ended fixed c.args.block.now beside fence c.deal.new.life n of.blocks (middle_at n c.deal.new.life stage c.in_ok-deal.ensures.ready.placed) is c.tip_of.result c.tip_of.ensures c.begin_inclusion.new.life
    (c.in_ok-begin_inclusion.ensures.begun fixed (unserving beside) fence refl (of.me ∙ c.requires.me) by.deals)) _ made))
    (λ its is. is)
    (c.advance.ensures.acts disk secrets provided fixed (unserving beside) fence of reads by provides (seen_served c.args.inclusion.now beside.inclusion seen None None refl))

pub returns-then-ends_dealing-clause-tells : goal.returns-then-ends_dealing-clause-tells
returns-then-ends_dealing-clause-tells g c = λ provided fixed beside fence of reads by provides seen.
    let n = non_zero_u64_get c.args.terms.now.blocks_per_epoch in
    let stage = ap (λ (l : Life g.row.Dir.Denot). l.stage) c.deal.ensures.rest ∙ c.requires.dealing in
    let is : (c.args.block.now.height + 1 == c.deal.new.life.midpoint) ≡ true = ap (λ (h : ℕ). h + 1 == c.deal.new.life.midpoint) (sym c.height.ensures) ∙ sym c.ends_dealing.ensures ∙ c.if-ends_dealing.true in
    with_as beside (unserving beside).inclusion (λ more none. none)
    (λ now told. offered_told fixed c.args.block.now (live_of beside fence c.args.life.now) (live_of beside fence c.deal.new.life) (ends_in (live_of now fence c.advance.new.life) c.advance.result) (c.in_ok-deal.ensures.tells fixed beside fence of by.answers)
    (tells_as (dealing_ended fixed c.args.block.now beside fence c.deal.new.life n of.blocks (middle_at n c.deal.new.life stage c.in_ok-deal.ensures.ready.placed) is c.tip_of.result c.tip_of.ensures c.begin_inclusion.new.life
    (c.in_ok-begin_inclusion.ensures.begun fixed (unserving beside) fence refl (of.me ∙ c.requires.me) by.deals)) _ told))
    (λ its is. is)
    (c.advance.ensures.tells provided fixed (unserving beside) fence of reads by provides (seen_served c.args.inclusion.now beside.inclusion seen None None refl))

pub returns-then-ends_dealing-clause-ready : goal.returns-then-ends_dealing-clause-ready
returns-then-ends_dealing-clause-ready g c = c.advance.ensures.ready

pub returns-then-ends_dealing-clause-including : goal.returns-then-ends_dealing-clause-including
returns-then-ends_dealing-clause-including g c = c.advance.ensures.including

pub returns-then-ends_dealing-clause-provider : goal.returns-then-ends_dealing-clause-provider
returns-then-ends_dealing-clause-provider g c = c.advance.ensures.stays.provider

pub returns-then-ends_dealing-clause-moves : goal.returns-then-ends_dealing-clause-moves
returns-then-ends_dealing-clause-moves g c = record {
  word = ap (λ (l : Life g.row.Dir.Denot). l.word) c.advance.ensures.stays.same ∙ ap (λ (l : Life g.row.Dir.Denot). l.word) c.begin_inclusion.ensures.rest ∙ ap (λ (l : Life g.row.Dir.Denot). l.word) c.deal.ensures.rest;
  moved = moved_then g.D.Disk.tells g.D.Disk.made g.X.SecretStore.made g.D.Disk.faults g.X.SecretStore.faults g.met.D.Disk.made_more g.met.X.SecretStore.made_more _ _ _ c.deal.ensures.moved c.advance.ensures.moved;
  fit = λ told fit. rw c.advance.ensures.stays.disk (c.deal.ensures.fit told fit);
}

pub returns-then-ends_dealing-clause-causes : goal.returns-then-ends_dealing-clause-causes
returns-then-ends_dealing-clause-causes g c =
    blamed_behind g.D.Disk.tells g.D.Disk.made g.X.SecretStore.made g.D.Disk.faults g.X.SecretStore.faults _ _ _ c.deal.ensures.moved c.advance.ensures.moved c.advance.result c.advance.ensures.causes

-- IT GOES ON

pub returns-clause-acts : goal.returns-clause-acts
returns-clause-acts g c = λ disk secrets provided fixed beside fence of reads by provides seen.
    let n = non_zero_u64_get c.args.terms.now.blocks_per_epoch in
    let stage = ap (λ (l : Life g.row.Dir.Denot). l.stage) c.deal.ensures.rest ∙ c.requires.dealing in
    let is : (c.args.block.now.height + 1 == c.deal.new.life.midpoint) ≡ false = ap (λ (h : ℕ). h + 1 == c.deal.new.life.midpoint) (sym c.height.ensures) ∙ sym c.ends_dealing.ensures ∙ c.if-ends_dealing.false in
    none_with beside _ _ _ beside.inclusion seen refl (offered_makes fixed c.args.block.now (live_of beside fence c.args.life.now) (live_of beside fence c.deal.new.life) (went (live_of beside fence (record c.deal.new.life { tip = Some c.tip_of.result }))) (c.in_ok-deal.ensures.acts disk secrets fixed beside fence of by.answers)
    (speaks_makes (ends_offers fixed c.args.block.now (live_of beside fence c.deal.new.life)) (went (live_of beside fence (record c.deal.new.life { tip = Some c.tip_of.result }))) _ _
    (goes_on fixed c.args.block.now beside fence c.deal.new.life n of.blocks (middle_at n c.deal.new.life stage c.in_ok-deal.ensures.ready.placed) is c.tip_of.result c.tip_of.ensures c.deal.new.out.entries)))

pub returns-clause-tells : goal.returns-clause-tells
returns-clause-tells g c = λ provided fixed beside fence of reads by provides seen.
    let n = non_zero_u64_get c.args.terms.now.blocks_per_epoch in
    let stage = ap (λ (l : Life g.row.Dir.Denot). l.stage) c.deal.ensures.rest ∙ c.requires.dealing in
    let is : (c.args.block.now.height + 1 == c.deal.new.life.midpoint) ≡ false = ap (λ (h : ℕ). h + 1 == c.deal.new.life.midpoint) (sym c.height.ensures) ∙ sym c.ends_dealing.ensures ∙ c.if-ends_dealing.false in
    none_with beside _ _ _ beside.inclusion seen refl (offered_told fixed c.args.block.now (live_of beside fence c.args.life.now) (live_of beside fence c.deal.new.life) (went (live_of beside fence (record c.deal.new.life { tip = Some c.tip_of.result }))) (c.in_ok-deal.ensures.tells fixed beside fence of by.answers)
    (speaks_tells (ends_offers fixed c.args.block.now (live_of beside fence c.deal.new.life)) (went (live_of beside fence (record c.deal.new.life { tip = Some c.tip_of.result })))
    (goes_on fixed c.args.block.now beside fence c.deal.new.life n of.blocks (middle_at n c.deal.new.life stage c.in_ok-deal.ensures.ready.placed) is c.tip_of.result c.tip_of.ensures c.deal.new.out.entries)))

pub returns-clause-including : goal.returns-clause-including
returns-clause-including g c =
    apart_settled g.C.Ceremony.check_log_of g.C.Ceremony.dealing_of g.C.Ceremony.finish_of (non_zero_u64_get c.args.terms.now.blocks_per_epoch) c.args.life.now (record c.deal.new.life { tip = Some c.tip_of.result }) c.args.inclusion.now
    c.requires.including (λ includes. let h : ◌≡◌ {A = Stage} Including Dealing = sym includes ∙ c.requires.dealing in cc) (ap (λ (l : Life g.row.Dir.Denot). l.stage) c.deal.ensures.rest)
    (λ some. subst (λ (o : Option (EpochInfo g.row.Dir.Denot)). IsSome o) (sym c.deal.ensures.current) some)

pub returns-clause-provider : goal.returns-clause-provider
returns-clause-provider g c = λ provided. (λ epoch. refl, λ epoch peers. refl)

pub returns-clause-ready : goal.returns-clause-ready
returns-clause-ready g c =
    let stage = ap (λ (l : Life g.row.Dir.Denot). l.stage) c.deal.ensures.rest ∙ c.requires.dealing in
    ready_dealing g.D.Disk.tells g.D.Disk.files g.D.Disk.image g.C.Ceremony.ack_of g.C.Ceremony.deal_of g.C.Ceremony.check_ack_of c.args.terms.now c.deal.new.devices c.args.block.now c.deal.new.life stage c.in_ok-deal.ensures.ready
    (c.requires.next ∙ sym (ap (λ (l : Life g.row.Dir.Denot). l.epoch) c.deal.ensures.rest)) (subst (λ (m : ℕ). c.args.block.now.height < m) (sym (ap (λ (l : Life g.row.Dir.Denot). l.midpoint) c.deal.ensures.rest)) c.requires.early)
    c.tip_of.result c.tip_of.ensures (ap (λ (h : ℕ). h + 1 == c.deal.new.life.midpoint) (sym c.height.ensures) ∙ sym c.ends_dealing.ensures ∙ c.if-ends_dealing.false)

pub returns-clause-moves : goal.returns-clause-moves
returns-clause-moves g c = record {
  word = ap (λ (l : Life g.row.Dir.Denot). l.word) c.deal.ensures.rest;
  moved = c.deal.ensures.moved;
  fit = c.deal.ensures.fit;
}

pub deal-requires-clause-dealing : goal.deal-requires-clause-dealing
deal-requires-clause-dealing g c = c.requires.dealing

pub deal-requires-clause-me : goal.deal-requires-clause-me
deal-requires-clause-me g c = c.requires.me

pub deal-requires-clause-ready : goal.deal-requires-clause-ready
deal-requires-clause-ready g c = c.requires.ready

pub returns-in_err-deal-clause-moves : goal.returns-in_err-deal-clause-moves
returns-in_err-deal-clause-moves g c = record {
  word = ap (λ (l : Life g.row.Dir.Denot). l.word) c.deal.ensures.rest;
  moved = c.deal.ensures.moved;
  fit = c.deal.ensures.fit;
}
