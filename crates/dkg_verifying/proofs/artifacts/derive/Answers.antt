use Rattle.std.proofs.Common.{◌∙◌, Option, Some, ap, refl, sym, subst, true}
use Rattle.std.specs.Prelude.{option_map}
use Rattle.std.specs.Int.NonZero.{non_zero_u32_get}
use Rattle.std.proofs.lemmas.Result.{err_from_is_err_and}
use Rattle.dkg_infos.specs.declared.fault.Fault.{Fault}
use Rattle.dkg_artifact.specs.Results.{Checked}
use Rattle.dkg_core.specs.Live.{VerifiedLogs}
use Rattle.dkg_verifying.specs.Derived.{follows_with}
use Rattle.dkg_verifying.specs.Including.{derives_in}
use Rattle.dkg_verifying.specs.InclusionOf.{checked_result_of, verified_of}
use Rattle.dkg_life.specs.Steps.{IsFaultOrWant}
use Rattle.dkg_verifying.proofs.Caching.{info_is, own_unprovided}
use Rattle.dkg_verifying.proofs.Derived.{derived_made, derived_told, for_info_made, for_info_told, is_provided, mismatch_is, mismatch_made, mismatch_told, one_value, refused_info, unprovided_is, unprovided_made, unprovided_told, unread_made, unread_told, want_made, want_told}
use Rattle.dkg_life.proofs.Kept.{moved_none}
use Rattle.dkg_verifying.proofs.artifacts.derive.Goals as goal

pub returns-in_err-info-clause-acts : goal.returns-in_err-info-clause-acts
returns-in_err-info-clause-acts g c = λ disk secrets told info fixed current of reads includes out.
    let p = err_from_is_err_and c.from_residual.result c.from_residual.ensures.1 in
    rw (p.1, p.2) (want_made (derives_in fixed info (checked_result_of c.args.verified.now)) _ _)

pub returns-in_err-info-clause-tells : goal.returns-in_err-info-clause-tells
returns-in_err-info-clause-tells g c = λ told info fixed current of reads includes out.
    let p = err_from_is_err_and c.from_residual.result c.from_residual.ensures.1 in
    rw (p.1, p.2) (want_told (derives_in fixed info (checked_result_of c.args.verified.now)) out)

pub returns-in_err-info-clause-moved : goal.returns-in_err-info-clause-moved
returns-in_err-info-clause-moved g c = moved_none g.D.Disk.tells g.D.Disk.made g.X.SecretStore.made g.D.Disk.faults g.X.SecretStore.faults g.met.D.Disk.made_none g.met.X.SecretStore.made_none c.args.devices.now

pub returns-in_err-next_players-clause-moved : goal.returns-in_err-next_players-clause-moved
returns-in_err-next_players-clause-moved g c = moved_none g.D.Disk.tells g.D.Disk.made g.X.SecretStore.made g.D.Disk.faults g.X.SecretStore.faults g.met.D.Disk.made_none g.met.X.SecretStore.made_none c.args.devices.now

pub returns-in_err-next_players-clause-acts : goal.returns-in_err-next_players-clause-acts
returns-in_err-next_players-clause-acts g c = λ disk secrets told info fixed current of reads includes out.
    let p = err_from_is_err_and c.from_residual-in_err-next_players.result c.from_residual-in_err-next_players.ensures.1 in
    let its = c.in_ok-info.info in
    let r = checked_result_of c.args.verified.now in
    let same = one_value its info (c.in_ok-info.ensures ∙ current) in
    let alike = unprovided_is fixed.provided.participants (g.P.ParticipantsProvider.participants_of c.args.provider.now) fixed.limit (non_zero_u32_get c.args.terms.now.limit) its.epoch includes.participants_are of.limit in
    let refused = subst (λ (o : Option Fault). IsFaultOrWant o c.in_err-next_players.field-0.0) (sym alike) (c.in_err-next_players.ensures.err told) in
    rw (p.1, p.2) (for_info_made fixed info its r r same refl
    (unprovided_made fixed its r c.in_err-next_players.field-0.0 refused (own_unprovided fixed.provided.participants fixed.limit its.epoch) _ _))

pub returns-in_err-next_players-clause-tells : goal.returns-in_err-next_players-clause-tells
returns-in_err-next_players-clause-tells g c = λ told info fixed current of reads includes out.
    let p = err_from_is_err_and c.from_residual-in_err-next_players.result c.from_residual-in_err-next_players.ensures.1 in
    let its = c.in_ok-info.info in
    let r = checked_result_of c.args.verified.now in
    let same = one_value its info (c.in_ok-info.ensures ∙ current) in
    let alike = unprovided_is fixed.provided.participants (g.P.ParticipantsProvider.participants_of c.args.provider.now) fixed.limit (non_zero_u32_get c.args.terms.now.limit) its.epoch includes.participants_are of.limit in
    let refused = subst (λ (o : Option Fault). IsFaultOrWant o c.in_err-next_players.field-0.0) (sym alike) (c.in_err-next_players.ensures.err told) in
    rw (p.1, p.2) (for_info_told fixed info its r r same refl
    (unprovided_told fixed its r c.in_err-next_players.field-0.0 refused (own_unprovided fixed.provided.participants fixed.limit its.epoch) out))

pub returns-in_err-share-clause-acts : goal.returns-in_err-share-clause-acts
returns-in_err-share-clause-acts g c = λ disk secrets told info fixed current of reads includes out.
    let p = err_from_is_err_and c.from_residual-in_err-share.result c.from_residual-in_err-share.ensures.1 in
    let its = c.in_ok-info.info in
    let v = c.verified.inside in
    let r : VerifiedLogs = record { round = v.round; me = v.me; logs = v.logs; result = option_map verified_of v.result } in
    let whole = ap (λ (x : Checked). checked_result_of x) c.verified.view_is in
    let participants = g.P.ParticipantsProvider.participants_of c.args.provider.now in
    let limit = non_zero_u32_get c.args.terms.now.limit in
    let set = c.in_ok-next_players in
    let is_one = unprovided_is fixed.provided.participants participants fixed.limit limit its.epoch includes.participants_are of.limit
    ∙ is_provided participants limit its.epoch set.next_players (set.ensures.ok told) set.ensures.within.0 set.ensures.within.1 set.ensures.within.2 in
    rw (p.1, p.2) (for_info_made fixed info its _ r (one_value its info (c.in_ok-info.ensures ∙ current)) whole
    (unread_made fixed its r is_one c.in_err-share.field-0.0 (c.in_err-share.ensures.acts disk secrets fixed of.me reads out)))

pub returns-in_err-share-clause-tells : goal.returns-in_err-share-clause-tells
returns-in_err-share-clause-tells g c = λ told info fixed current of reads includes out.
    let p = err_from_is_err_and c.from_residual-in_err-share.result c.from_residual-in_err-share.ensures.1 in
    let its = c.in_ok-info.info in
    let v = c.verified.inside in
    let r : VerifiedLogs = record { round = v.round; me = v.me; logs = v.logs; result = option_map verified_of v.result } in
    let whole = ap (λ (x : Checked). checked_result_of x) c.verified.view_is in
    let participants = g.P.ParticipantsProvider.participants_of c.args.provider.now in
    let limit = non_zero_u32_get c.args.terms.now.limit in
    let set = c.in_ok-next_players in
    let is_one = unprovided_is fixed.provided.participants participants fixed.limit limit its.epoch includes.participants_are of.limit
    ∙ is_provided participants limit its.epoch set.next_players (set.ensures.ok told) set.ensures.within.0 set.ensures.within.1 set.ensures.within.2 in
    rw (p.1, p.2) (for_info_told fixed info its _ r (one_value its info (c.in_ok-info.ensures ∙ current)) whole
    (unread_told fixed its r is_one c.in_err-share.field-0.0 (c.in_err-share.ensures.tells fixed of.me reads out)))

pub returns-in_err-info-2-clause-acts : goal.returns-in_err-info-2-clause-acts
returns-in_err-info-2-clause-acts g c = λ disk secrets told info fixed current of reads includes out.
    let p = err_from_is_err_and c.from_residual-in_err-info-2.result c.from_residual-in_err-info-2.ensures.1 in
    let its = c.in_ok-info.info in
    let v = c.verified.inside in
    let r : VerifiedLogs = record { round = v.round; me = v.me; logs = v.logs; result = option_map verified_of v.result } in
    let whole = ap (λ (x : Checked). checked_result_of x) c.verified.view_is in
    let participants = g.P.ParticipantsProvider.participants_of c.args.provider.now in
    let directory = g.P.ParticipantsProvider.directory_of c.provided.new.provider in
    let limit = non_zero_u32_get c.args.terms.now.limit in
    let set = c.in_ok-next_players in
    let is_one = unprovided_is fixed.provided.participants participants fixed.limit limit its.epoch includes.participants_are of.limit
    ∙ is_provided participants limit its.epoch set.next_players (set.ensures.ok told) set.ensures.within.0 set.ensures.within.1 set.ensures.within.2 in
    let made = info_is fixed.provided participants directory its v.result set.next_players includes.participants_are
    (λ e peers. includes.directory_is e peers ∙ sym ((c.provided.ensures.provider told).1 e peers)) (set.ensures.ok told) in
    rw (p.1, p.2) (for_info_made fixed info its _ r (one_value its info (c.in_ok-info.ensures ∙ current)) whole
    (mismatch_made fixed its r is_one c.in_ok-share.share c.in_err-info-2.field-0.0
    (refused_info fixed its r c.in_err-info-2.field-0.0 (follows_with directory its v.result set.next_players) made _ includes.matches_are (c.in_err-info-2.ensures.err told))
    (c.in_ok-share.ensures.acts disk secrets fixed of.me reads out)))

pub returns-in_err-info-2-clause-tells : goal.returns-in_err-info-2-clause-tells
returns-in_err-info-2-clause-tells g c = λ told info fixed current of reads includes out.
    let p = err_from_is_err_and c.from_residual-in_err-info-2.result c.from_residual-in_err-info-2.ensures.1 in
    let its = c.in_ok-info.info in
    let v = c.verified.inside in
    let r : VerifiedLogs = record { round = v.round; me = v.me; logs = v.logs; result = option_map verified_of v.result } in
    let whole = ap (λ (x : Checked). checked_result_of x) c.verified.view_is in
    let participants = g.P.ParticipantsProvider.participants_of c.args.provider.now in
    let directory = g.P.ParticipantsProvider.directory_of c.provided.new.provider in
    let limit = non_zero_u32_get c.args.terms.now.limit in
    let set = c.in_ok-next_players in
    let is_one = unprovided_is fixed.provided.participants participants fixed.limit limit its.epoch includes.participants_are of.limit
    ∙ is_provided participants limit its.epoch set.next_players (set.ensures.ok told) set.ensures.within.0 set.ensures.within.1 set.ensures.within.2 in
    let made = info_is fixed.provided participants directory its v.result set.next_players includes.participants_are
    (λ e peers. includes.directory_is e peers ∙ sym ((c.provided.ensures.provider told).1 e peers)) (set.ensures.ok told) in
    rw (p.1, p.2) (for_info_told fixed info its _ r (one_value its info (c.in_ok-info.ensures ∙ current)) whole
    (mismatch_told fixed its r is_one c.in_ok-share.share c.in_err-info-2.field-0.0
    (refused_info fixed its r c.in_err-info-2.field-0.0 (follows_with directory its v.result set.next_players) made _ includes.matches_are (c.in_err-info-2.ensures.err told))
    (c.in_ok-share.ensures.tells fixed of.me reads out)))

pub returns-clause-acts : goal.returns-clause-acts
returns-clause-acts g c = λ disk secrets told info fixed current of reads includes out.
    let its = c.in_ok-info.info in
    let v = c.verified.inside in
    let r : VerifiedLogs = record { round = v.round; me = v.me; logs = v.logs; result = option_map verified_of v.result } in
    let whole = ap (λ (x : Checked). checked_result_of x) c.verified.view_is in
    let participants = g.P.ParticipantsProvider.participants_of c.args.provider.now in
    let limit = non_zero_u32_get c.args.terms.now.limit in
    let set = c.in_ok-next_players in
    let made = c.in_ok-info-2 in
    let is_one = unprovided_is fixed.provided.participants participants fixed.limit limit its.epoch includes.participants_are of.limit
    ∙ is_provided participants limit its.epoch set.next_players (set.ensures.ok told) set.ensures.within.0 set.ensures.within.1 set.ensures.within.2 in
    let is = (made.ensures.ok told).0 ∙ info_is fixed.provided participants (g.P.ParticipantsProvider.directory_of c.provided.new.provider) its v.result set.next_players includes.participants_are
    (λ e peers. includes.directory_is e peers ∙ sym ((c.provided.ensures.provider told).1 e peers)) (set.ensures.ok told) in
    for_info_made fixed info its _ r (one_value its info (c.in_ok-info.ensures ∙ current)) whole
    (derived_made fixed its r is_one c.in_ok-share.share (mismatch_is fixed its r _ made.info true includes.matches_are is (made.ensures.ok told).1) _
    (λ i. record { info = Some (is i); share = c.in_ok-share.share }) (c.in_ok-share.ensures.acts disk secrets fixed of.me reads out))

pub returns-clause-tells : goal.returns-clause-tells
returns-clause-tells g c = λ told info fixed current of reads includes out.
    let its = c.in_ok-info.info in
    let v = c.verified.inside in
    let r : VerifiedLogs = record { round = v.round; me = v.me; logs = v.logs; result = option_map verified_of v.result } in
    let whole = ap (λ (x : Checked). checked_result_of x) c.verified.view_is in
    let participants = g.P.ParticipantsProvider.participants_of c.args.provider.now in
    let limit = non_zero_u32_get c.args.terms.now.limit in
    let set = c.in_ok-next_players in
    let made = c.in_ok-info-2 in
    let is_one = unprovided_is fixed.provided.participants participants fixed.limit limit its.epoch includes.participants_are of.limit
    ∙ is_provided participants limit its.epoch set.next_players (set.ensures.ok told) set.ensures.within.0 set.ensures.within.1 set.ensures.within.2 in
    let is = (made.ensures.ok told).0 ∙ info_is fixed.provided participants (g.P.ParticipantsProvider.directory_of c.provided.new.provider) its v.result set.next_players includes.participants_are
    (λ e peers. includes.directory_is e peers ∙ sym ((c.provided.ensures.provider told).1 e peers)) (set.ensures.ok told) in
    for_info_told fixed info its _ r (one_value its info (c.in_ok-info.ensures ∙ current)) whole
    (derived_told fixed its r is_one c.in_ok-share.share (mismatch_is fixed its r _ made.info true includes.matches_are is (made.ensures.ok told).1) _
    (λ i. record { info = Some (is i); share = c.in_ok-share.share }) (c.in_ok-share.ensures.tells fixed of.me reads out))
