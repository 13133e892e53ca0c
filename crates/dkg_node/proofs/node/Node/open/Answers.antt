use Rattle.std.proofs.Common.{ap, refl, subst, sym, ◌∙◌}
use Rattle.std.specs.declared.num.NonZeroU32.{NonZeroU32}
use Rattle.dkg_around.specs.declared.players.Players as players
use Rattle.std.specs.Int.NonZero.{non_zero_u32_get, non_zero_u64_get}
use Rattle.std.proofs.lemmas.Result.{err_from_is_err_and}
use Rattle.dkg_store.specs.Acts.{by_want}
use Rattle.dkg_core.specs.Heard.{recovered_in}
use Rattle.std.specs.Prelude.{◌≤◌, ◌^◌}
use Rattle.dkg_ceremony.specs.declared.mode.ModeVersion.{ModeVersion}
use Rattle.dkg_life.specs.Planless.{seen_planless}
use Rattle.dkg_life.proofs.Burning.{makes_none}
use Rattle.dkg_life.proofs.Kept.{above_itself, moved_none}
use Rattle.dkg_life.proofs.Said.{nothing_held}
use Rattle.dkg_lives.specs.Given.{starts_above}
use Rattle.dkg_lives.proofs.Checked.{not_refused}
use Rattle.dkg_node.proofs.NodeOpens.{are_of}
use Rattle.dkg_node.proofs.Noding.{unsaid}
use Rattle.dkg_node.proofs.Shutting.{unopened}
use Rattle.dkg_node.proofs.node.Node.open.Goals as goal

pub returns-in_err-config-clause-acts : goal.returns-in_err-config-clause-acts
returns-in_err-config-clause-acts g c = λ disk secrets grammar.
    let p = err_from_is_err_and c.from_residual.result c.from_residual.ensures.1 in
    rw (p.1, p.2) (makes_none _ _ _ _ by_want tt refl)

pub returns-in_err-config-clause-tells : goal.returns-in_err-config-clause-tells
returns-in_err-config-clause-tells g c =
    let p = err_from_is_err_and c.from_residual.result c.from_residual.ensures.1 in
    rw (p.1, p.2) (record { seen = seen_planless nothing_held; unplanned = refl; listed = (recovered_in nothing_held, refl); given = tt; so = unsaid _ by_want c.args.out.now.entries })

pub returns-in_err-config-clause-readable : goal.returns-in_err-config-clause-readable
returns-in_err-config-clause-readable g c = λ told.
    let p = err_from_is_err_and c.from_residual.result c.from_residual.ensures.1 in
    rw (p.1, p.2) (unopened _ _ _ c.args.out.now.entries _ _)

pub returns-in_err-actor-clause-readable : goal.returns-in_err-actor-clause-readable
returns-in_err-actor-clause-readable g c = λ told.
    let p = err_from_is_err_and c.from_residual-in_err-actor.result c.from_residual-in_err-actor.ensures.1 in
    rw (p.1, p.2) (unopened _ _ _ c.args.out.now.entries _ _)

pub returns-in_err-actor-clause-acts : goal.returns-in_err-actor-clause-acts
returns-in_err-actor-clause-acts g c = absurd (not_refused c.args.script.now c.requires.here.checked _ _ _ c.in_ok-config.ensures.2 (ap (λ (v : ModeVersion). v.0) c.in_ok-config.ensures.3) (ap non_zero_u64_get c.in_ok-config.ensures.6) _ c.in_err-actor.ensures.refused)

pub returns-in_err-actor-clause-tells : goal.returns-in_err-actor-clause-tells
returns-in_err-actor-clause-tells g c = absurd (not_refused c.args.script.now c.requires.here.checked _ _ _ c.in_ok-config.ensures.2 (ap (λ (v : ModeVersion). v.0) c.in_ok-config.ensures.3) (ap non_zero_u64_get c.in_ok-config.ensures.6) _ c.in_err-actor.ensures.refused)

pub returns-in_err-actor-clause-causes : goal.returns-in_err-actor-clause-causes
returns-in_err-actor-clause-causes g c = absurd (not_refused c.args.script.now c.requires.here.checked _ _ _ c.in_ok-config.ensures.2 (ap (λ (v : ModeVersion). v.0) c.in_ok-config.ensures.3) (ap non_zero_u64_get c.in_ok-config.ensures.6) _ c.in_err-actor.ensures.refused)

pub returns-in_err-actor-clause-moved : goal.returns-in_err-actor-clause-moved
returns-in_err-actor-clause-moved g c = absurd (not_refused c.args.script.now c.requires.here.checked _ _ _ c.in_ok-config.ensures.2 (ap (λ (v : ModeVersion). v.0) c.in_ok-config.ensures.3) (ap non_zero_u64_get c.in_ok-config.ensures.6) _ c.in_err-actor.ensures.refused)

pub returns-in_err-actor-clause-loose : goal.returns-in_err-actor-clause-loose
returns-in_err-actor-clause-loose g c = absurd (not_refused c.args.script.now c.requires.here.checked _ _ _ c.in_ok-config.ensures.2 (ap (λ (v : ModeVersion). v.0) c.in_ok-config.ensures.3) (ap non_zero_u64_get c.in_ok-config.ensures.6) _ c.in_err-actor.ensures.refused)

pub returns-in_err-config-clause-ready : goal.returns-in_err-config-clause-ready
returns-in_err-config-clause-ready g c = let p = err_from_is_err_and c.from_residual.result c.from_residual.ensures.1 in rw p.1 tt

pub returns-in_err-config-clause-of : goal.returns-in_err-config-clause-of
returns-in_err-config-clause-of g c = let p = err_from_is_err_and c.from_residual.result c.from_residual.ensures.1 in rw p.1 tt

pub returns-in_err-actor-clause-ready : goal.returns-in_err-actor-clause-ready
returns-in_err-actor-clause-ready g c = let p = err_from_is_err_and c.from_residual-in_err-actor.result c.from_residual-in_err-actor.ensures.1 in rw p.1 tt

pub returns-in_err-actor-clause-of : goal.returns-in_err-actor-clause-of
returns-in_err-actor-clause-of g c = let p = err_from_is_err_and c.from_residual-in_err-actor.result c.from_residual-in_err-actor.ensures.1 in rw p.1 tt

pub returns-in_err-config-clause-moved : goal.returns-in_err-config-clause-moved
returns-in_err-config-clause-moved g c = moved_none g.D.Disk.tells g.D.Disk.made g.X.SecretStore.made g.D.Disk.faults g.X.SecretStore.faults g.met.D.Disk.made_none g.met.X.SecretStore.made_none c.args.devices.now

pub returns-in_err-config-clause-causes : goal.returns-in_err-config-clause-causes
returns-in_err-config-clause-causes g c = let p = err_from_is_err_and c.from_residual.result c.from_residual.ensures.1 in rw (p.1, p.2) tt

pub returns-in_err-config-clause-loose : goal.returns-in_err-config-clause-loose
returns-in_err-config-clause-loose g c = λ told. above_itself (starts_above c.args.script.now c.args.number c.args.life.now) (g.D.Disk.image c.args.devices.now.disk.now) (g.X.SecretStore.held c.args.devices.now.secrets.now)

pub config_of-requires : goal.config_of-requires
config_of-requires g c = c.requires.here.form.rising

pub new-requires : goal.new-requires
new-requires g c = record { in_bound = subst (λ (n : NonZeroU32). non_zero_u32_get n ≤ 2 ^ 30) (sym c.in_ok-config.ensures.5) c.requires.here.form.in_bound }

-- BOTH HALVES ARE OPENED over an actor that is made of the script's configuration

pub open_halves-requires-clause-here : goal.open_halves-requires-clause-here
open_halves-requires-clause-here g c = c.requires.here

pub open_halves-requires-clause-new : goal.open_halves-requires-clause-new
open_halves-requires-clause-new g c = c.in_ok-actor.ensures.new

pub open_halves-requires-clause-are : goal.open_halves-requires-clause-are
open_halves-requires-clause-are g c = are_of (c.in_ok-actor.actor).terms c.args.script.now.config _ _ _ _ _ _ _ c.in_ok-actor.ensures.terms c.in_ok-config.ensures.0 c.in_ok-config.ensures.1 c.in_ok-config.ensures.2 c.in_ok-config.ensures.3 c.in_ok-config.ensures.4 c.in_ok-config.ensures.5 c.in_ok-config.ensures.6

pub open_halves-requires-clause-players : goal.open_halves-requires-clause-players
open_halves-requires-clause-players g c = ap (λ (p : players.Players). p.lines.now) c.in_ok-actor.ensures.parts.3 ∙ c.in_ok-config.ensures.7

pub open_halves-requires-clause-fresh : goal.open_halves-requires-clause-fresh
open_halves-requires-clause-fresh g c = c.new-fence.ensures.fresh

pub returns-in_err-half-clause-ready : goal.returns-in_err-half-clause-ready
returns-in_err-half-clause-ready g c = let p = err_from_is_err_and c.from_residual-in_err-half.result c.from_residual-in_err-half.ensures.1 in rw p.1 tt

pub returns-in_err-half-clause-of : goal.returns-in_err-half-clause-of
returns-in_err-half-clause-of g c = let p = err_from_is_err_and c.from_residual-in_err-half.result c.from_residual-in_err-half.ensures.1 in rw p.1 tt

pub returns-in_err-half-clause-acts : goal.returns-in_err-half-clause-acts
returns-in_err-half-clause-acts g c =
    let p = err_from_is_err_and c.from_residual-in_err-half.result c.from_residual-in_err-half.ensures.1 in
    rw (p.1, p.2) c.in_err-half.ensures.acts

pub returns-in_err-half-clause-tells : goal.returns-in_err-half-clause-tells
returns-in_err-half-clause-tells g c =
    let p = err_from_is_err_and c.from_residual-in_err-half.result c.from_residual-in_err-half.ensures.1 in
    rw (p.1, p.2) c.in_err-half.ensures.tells

pub returns-in_err-half-clause-readable : goal.returns-in_err-half-clause-readable
returns-in_err-half-clause-readable g c = λ told.
    let p = err_from_is_err_and c.from_residual-in_err-half.result c.from_residual-in_err-half.ensures.1 in
    let its = c.in_err-half.ensures.readable told in
    rw (p.1, p.2) (record { ok = tt; untold = its.untold; shut = its.shut })

pub returns-in_err-half-clause-causes : goal.returns-in_err-half-clause-causes
returns-in_err-half-clause-causes g c =
    let p = err_from_is_err_and c.from_residual-in_err-half.result c.from_residual-in_err-half.ensures.1 in
    rw (p.1, p.2) c.in_err-half.ensures.causes

pub returns-in_err-half-clause-moved : goal.returns-in_err-half-clause-moved
returns-in_err-half-clause-moved g c = c.in_err-half.ensures.moved

pub returns-in_err-half-clause-loose : goal.returns-in_err-half-clause-loose
returns-in_err-half-clause-loose g c = c.in_err-half.ensures.loose

pub returns-clause-ready : goal.returns-clause-ready
returns-clause-ready g c = c.in_ok-half.ensures.ready

pub returns-clause-of : goal.returns-clause-of
returns-clause-of g c = c.in_ok-half.ensures.of

pub returns-clause-acts : goal.returns-clause-acts
returns-clause-acts g c = c.in_ok-half.ensures.acts

pub returns-clause-tells : goal.returns-clause-tells
returns-clause-tells g c = c.in_ok-half.ensures.tells

pub returns-clause-readable : goal.returns-clause-readable
returns-clause-readable g c = λ told.
    let its = c.in_ok-half.ensures.readable told in
    record { ok = its.ok; untold = its.untold; shut = its.shut }

pub returns-clause-moved : goal.returns-clause-moved
returns-clause-moved g c = c.in_ok-half.ensures.moved

pub returns-clause-loose : goal.returns-clause-loose
returns-clause-loose g c = c.in_ok-half.ensures.loose

pub returns-clause-causes : goal.returns-clause-causes
returns-clause-causes g c = tt
