use Rattle.std.proofs.Common.{◌≡◌, Some, ap, refl, sym, ◌∙◌}
use Rattle.std.specs.Int.NonZero.{non_zero_u64_get}
use Rattle.std.specs.Prelude.{option_map}
use Rattle.dkg_ceremony.specs.declared.round.RoundParts.{RoundParts as Round}
use Rattle.dkg_types.specs.PayloadCodes.{info_payload}
use Rattle.dkg_core.specs.Including as including
use Rattle.dkg_core.specs.Live.{GaveInfo}
use Rattle.dkg_verifying.specs.InclusionOf.{artifact_of}
use Rattle.dkg_life.specs.LiveOf.{live_of}
use Rattle.dkg_verifying.specs.declared.told.EpochInfoResponse.TheVariants.{Available}
use Rattle.dkg_verifying.specs.declared.told.Told.TheVariants.{Info}
use Rattle.dkg_inclusion.proofs.Asking.{MakesOver, TellsOver, cached_ends, from_cache, from_kept, from_none, joined_as, not_some, told_ends}
use Rattle.dkg_life.proofs.Beside.{then_well}
use Rattle.dkg_life.proofs.Burning.{speaks_makes}
use Rattle.dkg_life.proofs.Committing.{in_any}
use Rattle.dkg_life.proofs.Kept.{moved_none}
use Rattle.dkg_life.proofs.Said.{speaks_tells}
use Rattle.dkg_inclusion.proofs.Staying.{nothing_blames, ready_answered, ready_on, ready_verifying, some_value, verifying_rest, want_blames}
use Rattle.dkg_verifying.proofs.Within.{within_as}
use Rattle.dkg_verifying.proofs.Looking.{looked}
use Rattle.dkg_inclusion.proofs.scanning.ask_for.Goals as goal

-- FROM THE CACHE

pub returns-in-Some-clause-acts : goal.returns-in-Some-clause-acts
returns-in-Some-clause-acts g c = λ disk secrets provider fixed round beside fence of reads by includes has seen.
    told_ends (MakesOver g.D.Disk.files g.D.Disk.image g.X.SecretStore.held) beside fence c.args.life.now c.args.inclusion.now seen c.args.request c.answer.result
    (including.asks_logs fixed round c.args.request c.args.logs (live_of beside fence c.args.life.now)) (c.args.devices.now, c.args.out.now.entries) (c.args.devices.now, c.answer.new.out.entries)
    (Info (Available (option_map info_payload c.in-Some.artifact.now.info))) (GaveInfo (option_map info_payload c.in-Some.artifact.now.info)) refl c.answer.new.told c.answer.ensures.told
    (joined_as (MakesOver g.D.Disk.files g.D.Disk.image g.X.SecretStore.held) {x = (c.args.devices.now, c.args.out.now.entries)} {y = (c.args.devices.now, c.answer.new.out.entries)}
    (from_cache fixed round c.args.request c.args.logs beside fence c.args.life.now c.args.inclusion.now seen (c.in-Some.ensures.exactly.0 refl) c.in-Some.artifact.now (c.in-Some.ensures.kept refl))
    (speaks_makes (including.answers_request fixed c.args.request (artifact_of c.in-Some.artifact.now) (live_of beside fence c.args.life.now)) _ (g.D.Disk.files c.args.devices.now.disk.now) (g.D.Disk.image c.args.devices.now.disk.now)
    (c.answer.ensures.speaks fixed (live_of beside fence c.args.life.now) includes.spelling_is)))

pub returns-in-Some-clause-tells : goal.returns-in-Some-clause-tells
returns-in-Some-clause-tells g c = λ provider fixed round beside fence of reads by includes has seen.
    told_ends TellsOver beside fence c.args.life.now c.args.inclusion.now seen c.args.request c.answer.result
    (including.asks_logs fixed round c.args.request c.args.logs (live_of beside fence c.args.life.now)) c.args.out.now.entries c.answer.new.out.entries
    (Info (Available (option_map info_payload c.in-Some.artifact.now.info))) (GaveInfo (option_map info_payload c.in-Some.artifact.now.info)) refl c.answer.new.told c.answer.ensures.told
    (joined_as TellsOver {x = c.args.out.now.entries} {y = c.answer.new.out.entries}
    (from_cache fixed round c.args.request c.args.logs beside fence c.args.life.now c.args.inclusion.now seen (c.in-Some.ensures.exactly.0 refl) c.in-Some.artifact.now (c.in-Some.ensures.kept refl))
    (speaks_tells (including.answers_request fixed c.args.request (artifact_of c.in-Some.artifact.now) (live_of beside fence c.args.life.now)) _ (c.answer.ensures.speaks fixed (live_of beside fence c.args.life.now) includes.spelling_is)))

pub returns-in-Some-clause-ready : goal.returns-in-Some-clause-ready
returns-in-Some-clause-ready g c = in_any c.answer.result c.requires.ready

pub returns-in-Some-clause-including : goal.returns-in-Some-clause-including
returns-in-Some-clause-including g c =
    in_any c.answer.result (ready_answered g.C.Ceremony.check_log_of g.C.Ceremony.dealing_of g.C.Ceremony.finish_of (non_zero_u64_get c.args.terms.now.blocks_per_epoch) c.args.life.now c.args.inclusion.now c.args.inclusion.now.cache c.answer.new.told c.requires.including)

pub returns-in-Some-clause-moved : goal.returns-in-Some-clause-moved
returns-in-Some-clause-moved g c = moved_none g.D.Disk.tells g.D.Disk.made g.X.SecretStore.made g.D.Disk.faults g.X.SecretStore.faults g.met.D.Disk.made_none g.met.X.SecretStore.made_none c.args.devices.now

pub returns-in-Some-clause-causes : goal.returns-in-Some-clause-causes
returns-in-Some-clause-causes g c = want_blames _ _ _ c.answer.result c.answer.ensures.memory

-- FROM THE RESULT THAT IS KEPT

pub returns-in-Some-ready-clause-acts : goal.returns-in-Some-ready-clause-acts
returns-in-Some-ready-clause-acts g c = λ disk secrets provider fixed round beside fence of reads by includes has seen.
    rw c.answer_by.ensures.store (cached_ends (MakesOver g.D.Disk.files g.D.Disk.image g.X.SecretStore.held) beside fence c.args.life.now c.args.inclusion.now seen c.args.request c.answer_by.result
    (including.asks_logs fixed round c.args.request c.args.logs (live_of beside fence c.args.life.now)) (c.args.devices.now, c.args.out.now.entries) (c.answer_by.new.devices, c.answer_by.new.out.entries)
    c.answer_by.new.cache c.answer_by.new.told c.in-Some-ready.ready.now.logs c.answer_by.ensures.told
    (joined_as (MakesOver g.D.Disk.files g.D.Disk.image g.X.SecretStore.held) {x = (c.args.devices.now, c.args.out.now.entries)} {y = (c.answer_by.new.devices, c.answer_by.new.out.entries)}
    (from_kept fixed round c.args.request c.args.logs beside fence c.args.life.now c.args.inclusion.now seen (λ here. not_some c.get.result c.in_default.not-Some (c.get.ensures.exactly.1 here)) (c.in-Some-ready.ensures.exactly.0 refl)
    c.in-Some-ready.ready.now (c.in-Some-ready.ensures.kept refl))
    (c.answer_by.ensures.acts disk secrets provider fixed (live_of beside fence c.args.life.now) of reads includes refl seen.cached)))

pub returns-in-Some-ready-clause-tells : goal.returns-in-Some-ready-clause-tells
returns-in-Some-ready-clause-tells g c = λ provider fixed round beside fence of reads by includes has seen.
    rw c.answer_by.ensures.store (cached_ends TellsOver beside fence c.args.life.now c.args.inclusion.now seen c.args.request c.answer_by.result
    (including.asks_logs fixed round c.args.request c.args.logs (live_of beside fence c.args.life.now)) c.args.out.now.entries c.answer_by.new.out.entries
    c.answer_by.new.cache c.answer_by.new.told c.in-Some-ready.ready.now.logs c.answer_by.ensures.told
    (joined_as TellsOver {x = c.args.out.now.entries} {y = c.answer_by.new.out.entries}
    (from_kept fixed round c.args.request c.args.logs beside fence c.args.life.now c.args.inclusion.now seen (λ here. not_some c.get.result c.in_default.not-Some (c.get.ensures.exactly.1 here)) (c.in-Some-ready.ensures.exactly.0 refl)
    c.in-Some-ready.ready.now (c.in-Some-ready.ensures.kept refl))
    (c.answer_by.ensures.tells provider fixed (live_of beside fence c.args.life.now) of reads includes refl seen.cached)))

pub returns-in-Some-ready-clause-ready : goal.returns-in-Some-ready-clause-ready
returns-in-Some-ready-clause-ready g c =
    rw c.answer_by.ensures.store (in_any c.answer_by.result (ready_on g.D.Disk.tells g.D.Disk.files g.D.Disk.image g.C.Ceremony.ack_of g.C.Ceremony.deal_of g.C.Ceremony.check_ack_of c.args.terms.now
    c.args.life.now c.args.life.now c.args.devices.now c.answer_by.new.devices refl c.answer_by.ensures.disk c.requires.ready))

pub returns-in-Some-ready-clause-including : goal.returns-in-Some-ready-clause-including
returns-in-Some-ready-clause-including g c =
    rw c.answer_by.ensures.store (in_any c.answer_by.result (ready_answered g.C.Ceremony.check_log_of g.C.Ceremony.dealing_of g.C.Ceremony.finish_of (non_zero_u64_get c.args.terms.now.blocks_per_epoch) c.args.life.now c.args.inclusion.now c.answer_by.new.cache c.answer_by.new.told c.requires.including))

pub returns-in-Some-ready-clause-stays : goal.returns-in-Some-ready-clause-stays
returns-in-Some-ready-clause-stays g c = record {
  same = rw c.answer_by.ensures.store refl;
  disk = c.answer_by.ensures.disk;
  held = c.answer_by.ensures.held;
  provider = c.answer_by.ensures.provider;
}

pub returns-in-Some-ready-clause-moved : goal.returns-in-Some-ready-clause-moved
returns-in-Some-ready-clause-moved g c = c.answer_by.ensures.moved

pub returns-in-Some-ready-clause-causes : goal.returns-in-Some-ready-clause-causes
returns-in-Some-ready-clause-causes g c = c.answer_by.ensures.causes

-- FROM A VERIFICATION THAT STARTS

pub returns-clause-acts : goal.returns-clause-acts
returns-clause-acts g c = λ disk secrets provider fixed round beside fence of reads by includes has seen.
    let one : c.in-Some-round.round ≡ round = some_value c.in-Some-round.round round (sym c.in-Some-round.is ∙ has) in
    within_as (λ i is. is) (λ now is speaks. joined_as (MakesOver g.D.Disk.files g.D.Disk.image g.X.SecretStore.held) {x = (c.args.devices.now, c.args.out.now.entries)} {y = (c.args.devices.now, c.args.out.now.entries)}
    (from_none fixed round c.args.request c.args.logs beside fence c.args.life.now c.args.inclusion.now seen (λ here. not_some c.get.result c.in_default.not-Some (c.get.ensures.exactly.1 here)) (λ here. not_some c.ready.result c.in_default-ready.not-Some (c.ready.ensures.exactly.1 here))
    ∙ ap (λ (r : Round). including.starts_verifying fixed r c.args.logs (Some c.args.request) (live_of beside fence c.args.life.now)) (sym one))
    (speaks_makes (including.starts_verifying fixed c.in-Some-round.round c.args.logs (Some c.args.request) (live_of beside fence c.args.life.now)) _ (g.D.Disk.files c.args.devices.now.disk.now) (g.D.Disk.image c.args.devices.now.disk.now) (speaks c.args.out.now.entries)))
    (c.start_verifying.ensures.speaks fixed beside fence of.me by.seats.bears by.seats.dealing seen)

pub returns-clause-tells : goal.returns-clause-tells
returns-clause-tells g c = λ provider fixed round beside fence of reads by includes has seen.
    let one : c.in-Some-round.round ≡ round = some_value c.in-Some-round.round round (sym c.in-Some-round.is ∙ has) in
    within_as (λ i is. is) (λ now is speaks. joined_as TellsOver {x = c.args.out.now.entries} {y = c.args.out.now.entries}
    (from_none fixed round c.args.request c.args.logs beside fence c.args.life.now c.args.inclusion.now seen (λ here. not_some c.get.result c.in_default.not-Some (c.get.ensures.exactly.1 here)) (λ here. not_some c.ready.result c.in_default-ready.not-Some (c.ready.ensures.exactly.1 here))
    ∙ ap (λ (r : Round). including.starts_verifying fixed r c.args.logs (Some c.args.request) (live_of beside fence c.args.life.now)) (sym one))
    (speaks_tells (including.starts_verifying fixed c.in-Some-round.round c.args.logs (Some c.args.request) (live_of beside fence c.args.life.now)) _ (speaks c.args.out.now.entries)))
    (c.start_verifying.ensures.speaks fixed beside fence of.me by.seats.bears by.seats.dealing seen)

pub returns-clause-ready : goal.returns-clause-ready
returns-clause-ready g c = in_any c.start_verifying.result c.requires.ready

pub returns-clause-including : goal.returns-clause-including
returns-clause-including g c =
    then_well c.start_verifying.result (λ runs. ready_verifying g.C.Ceremony.check_log_of g.C.Ceremony.dealing_of g.C.Ceremony.finish_of (non_zero_u64_get c.args.terms.now.blocks_per_epoch) c.args.life.now c.args.inclusion.now c.start_verifying.new.inclusion
    c.start_verifying.ensures.rest c.requires.may.1 c.requires.may.0 c.in-Some-round.round c.in-Some-round.is runs c.requires.including) c.start_verifying.ensures.runs

pub returns-clause-rest : goal.returns-clause-rest
returns-clause-rest g c = verifying_rest c.args.inclusion.now c.start_verifying.new.inclusion c.start_verifying.ensures.rest

pub returns-clause-moved : goal.returns-clause-moved
returns-clause-moved g c = moved_none g.D.Disk.tells g.D.Disk.made g.X.SecretStore.made g.D.Disk.faults g.X.SecretStore.faults g.met.D.Disk.made_none g.met.X.SecretStore.made_none c.args.devices.now

pub returns-clause-causes : goal.returns-clause-causes
returns-clause-causes g c = nothing_blames _ _ _ c.start_verifying.result c.start_verifying.ensures.causes

-- WHAT STAYS

pub returns-in-Some-clause-stays : goal.returns-in-Some-clause-stays
returns-in-Some-clause-stays g c = looked

pub returns-in-Some-clause-rest : goal.returns-in-Some-clause-rest
returns-in-Some-clause-rest g c = refl

pub returns-in-Some-ready-clause-rest : goal.returns-in-Some-ready-clause-rest
returns-in-Some-ready-clause-rest g c = refl

pub returns-clause-stays : goal.returns-clause-stays
returns-clause-stays g c = looked
