use Rattle.std.proofs.Common.{◌≡◌, ap, refl, sym, ◌∙◌}
use Rattle.std.specs.Int.NonZero.{non_zero_u64_get}
use Rattle.dkg_core.specs.Blocks as blocks
use Rattle.dkg_life.specs.declared.life.Stage.{Stage}
use Rattle.dkg_life.specs.declared.life.Stage.TheVariants.{Dealing, Following}
use Rattle.dkg_life.specs.LiveOf.{live_of, stage_of}
use Rattle.dkg_setup.proofs.OpeningCourses.{makes_as, tells_as}
use Rattle.dkg_life.proofs.Beside.{took_nothing, with_as}
use Rattle.dkg_blocks.proofs.Blaming.{result_caused}
use Rattle.dkg_life.proofs.Seated.{on_ok}
use Rattle.dkg_blocks.proofs.Standing.{is_early, is_next, its_epoch}
use Rattle.dkg_reshare.proofs.blocks.apply.Goals as goal

pub apply_dealing-requires-clause-early : goal.apply_dealing-requires-clause-early
apply_dealing-requires-clause-early g c = is_early (non_zero_u64_get c.args.terms.now.blocks_per_epoch) c.args.life.now c.requires.ready.placed c.args.block.now c.requires.taken c.in-Dealing.is

pub apply_dealing-requires-clause-next : goal.apply_dealing-requires-clause-next
apply_dealing-requires-clause-next g c = its_epoch (non_zero_u64_get c.args.terms.now.blocks_per_epoch) c.args.life.now c.requires.ready.placed c.args.block.now c.requires.taken
    (λ follows. absurd (let h : ◌≡◌ {A = Stage} Dealing Following = sym c.in-Dealing.is ∙ follows in cc))

pub apply_dealing-requires-clause-dealing : goal.apply_dealing-requires-clause-dealing
apply_dealing-requires-clause-dealing g c = c.in-Dealing.is

pub apply_dealing-requires-clause-me : goal.apply_dealing-requires-clause-me
apply_dealing-requires-clause-me g c = c.requires.me

pub apply_dealing-requires-clause-ready : goal.apply_dealing-requires-clause-ready
apply_dealing-requires-clause-ready g c = c.requires.ready

pub apply_dealing-requires-clause-including : goal.apply_dealing-requires-clause-including
apply_dealing-requires-clause-including g c = c.requires.including

pub apply_included-requires-clause-me : goal.apply_included-requires-clause-me
apply_included-requires-clause-me g c = c.requires.me

pub apply_included-requires-clause-ready : goal.apply_included-requires-clause-ready
apply_included-requires-clause-ready g c = c.requires.ready

pub apply_included-requires-clause-including : goal.apply_included-requires-clause-including
apply_included-requires-clause-including g c = c.requires.including

pub apply_included-requires-clause-includes : goal.apply_included-requires-clause-includes
apply_included-requires-clause-includes g c = c.in-Including.is

pub apply_included-requires-clause-bounds : goal.apply_included-requires-clause-bounds
apply_included-requires-clause-bounds g c = c.requires.bounds

pub apply_included-requires-clause-next : goal.apply_included-requires-clause-next
apply_included-requires-clause-next g c = is_next (non_zero_u64_get c.args.terms.now.blocks_per_epoch) c.args.life.now c.requires.ready.placed c.args.block.now c.requires.taken c.in-Including.is

pub apply_included-requires-clause-within : goal.apply_included-requires-clause-within
apply_included-requires-clause-within g c = c.requires.within

pub follow_block-requires-clause-following : goal.follow_block-requires-clause-following
follow_block-requires-clause-following g c = c.in-Following.is

pub follow_block-requires-clause-bounds : goal.follow_block-requires-clause-bounds
follow_block-requires-clause-bounds g c = c.requires.bounds

pub follow_block-requires-clause-me : goal.follow_block-requires-clause-me
follow_block-requires-clause-me g c = c.requires.me

pub follow_block-requires-clause-ready : goal.follow_block-requires-clause-ready
follow_block-requires-clause-ready g c = c.requires.ready

pub follow_block-requires-clause-including : goal.follow_block-requires-clause-including
follow_block-requires-clause-including g c = c.requires.including

pub returns-in-Dealing-clause-acts : goal.returns-in-Dealing-clause-acts
returns-in-Dealing-clause-acts g c = λ disk secrets provided fixed beside of reads by provides seen.
    with_as beside beside.inclusion (λ more none. on_ok c.apply_dealing.result (took_nothing g.R.Registrar.tells (g.R.Registrar.taken c.args.registrar.now) more none)) (λ now made. makes_as (ap (λ (s : Stage). blocks.applies_in fixed c.args.block.now (live_of beside c.args.fence.now c.args.life.now) (stage_of s)) c.in-Dealing.is) _ made) (λ i its. its)
    (c.apply_dealing.ensures.acts disk secrets provided fixed beside c.args.fence.now of.of reads by provides seen)

pub returns-in-Dealing-clause-tells : goal.returns-in-Dealing-clause-tells
returns-in-Dealing-clause-tells g c = λ provided fixed beside of reads by provides seen.
    with_as beside beside.inclusion (λ more none. on_ok c.apply_dealing.result (took_nothing g.R.Registrar.tells (g.R.Registrar.taken c.args.registrar.now) more none)) (λ now told. tells_as (ap (λ (s : Stage). blocks.applies_in fixed c.args.block.now (live_of beside c.args.fence.now c.args.life.now) (stage_of s)) c.in-Dealing.is) _ told) (λ i its. its)
    (c.apply_dealing.ensures.tells provided fixed beside c.args.fence.now of.of reads by provides seen)

pub returns-in-Dealing-clause-causes : goal.returns-in-Dealing-clause-causes
returns-in-Dealing-clause-causes g c = result_caused g.D.Disk.tells (λ x. x) (λ x. x) (λ x. x) c.apply_dealing.result c.apply_dealing.ensures.causes

pub returns-in-Including-clause-acts : goal.returns-in-Including-clause-acts
returns-in-Including-clause-acts g c = λ disk secrets provided fixed beside of reads by provides seen.
    with_as beside beside.inclusion (λ more took. took) (λ now made. makes_as (ap (λ (s : Stage). blocks.applies_in fixed c.args.block.now (live_of beside c.args.fence.now c.args.life.now) (stage_of s)) c.in-Including.is) _ made) (λ i its. its)
    (c.apply_included.ensures.acts disk secrets provided fixed beside of reads by provides seen)

pub returns-in-Including-clause-tells : goal.returns-in-Including-clause-tells
returns-in-Including-clause-tells g c = λ provided fixed beside of reads by provides seen.
    with_as beside beside.inclusion (λ more took. took) (λ now told. tells_as (ap (λ (s : Stage). blocks.applies_in fixed c.args.block.now (live_of beside c.args.fence.now c.args.life.now) (stage_of s)) c.in-Including.is) _ told) (λ i its. its)
    (c.apply_included.ensures.tells provided fixed beside of reads by provides seen)

pub returns-in-Following-clause-acts : goal.returns-in-Following-clause-acts
returns-in-Following-clause-acts g c = λ disk secrets provided fixed beside of reads by provides seen.
    with_as beside beside.inclusion (λ more took. took) (λ now made. makes_as (ap (λ (s : Stage). blocks.applies_in fixed c.args.block.now (live_of beside c.args.fence.now c.args.life.now) (stage_of s)) c.in-Following.is) _ made) (λ i its. its)
    (c.follow_block.ensures.acts disk secrets fixed beside of reads by seen)

pub returns-in-Following-clause-tells : goal.returns-in-Following-clause-tells
returns-in-Following-clause-tells g c = λ provided fixed beside of reads by provides seen.
    with_as beside beside.inclusion (λ more took. took) (λ now told. tells_as (ap (λ (s : Stage). blocks.applies_in fixed c.args.block.now (live_of beside c.args.fence.now c.args.life.now) (stage_of s)) c.in-Following.is) _ told) (λ i its. its)
    (c.follow_block.ensures.tells fixed beside of reads by seen)

pub returns-in-Following-clause-provider : goal.returns-in-Following-clause-provider
returns-in-Following-clause-provider g c = λ provided. (λ epoch. refl, λ epoch peers. refl)

pub returns-in-Dealing-clause-ready : goal.returns-in-Dealing-clause-ready
returns-in-Dealing-clause-ready g c = c.apply_dealing.ensures.ready

pub returns-in-Dealing-clause-including : goal.returns-in-Dealing-clause-including
returns-in-Dealing-clause-including g c = c.apply_dealing.ensures.including

pub returns-in-Dealing-clause-moves : goal.returns-in-Dealing-clause-moves
returns-in-Dealing-clause-moves g c = c.apply_dealing.ensures.moves

pub returns-in-Dealing-clause-provider : goal.returns-in-Dealing-clause-provider
returns-in-Dealing-clause-provider g c = c.apply_dealing.ensures.provider

pub returns-in-Including-clause-ready : goal.returns-in-Including-clause-ready
returns-in-Including-clause-ready g c = c.apply_included.ensures.ready

pub returns-in-Including-clause-including : goal.returns-in-Including-clause-including
returns-in-Including-clause-including g c = c.apply_included.ensures.including

pub returns-in-Including-clause-moves : goal.returns-in-Including-clause-moves
returns-in-Including-clause-moves g c = c.apply_included.ensures.moves

pub returns-in-Including-clause-provider : goal.returns-in-Including-clause-provider
returns-in-Including-clause-provider g c = c.apply_included.ensures.provider

pub returns-in-Including-clause-causes : goal.returns-in-Including-clause-causes
returns-in-Including-clause-causes g c = c.apply_included.ensures.causes

pub returns-in-Following-clause-ready : goal.returns-in-Following-clause-ready
returns-in-Following-clause-ready g c = c.follow_block.ensures.ready

pub returns-in-Following-clause-including : goal.returns-in-Following-clause-including
returns-in-Following-clause-including g c = c.follow_block.ensures.including

pub returns-in-Following-clause-moves : goal.returns-in-Following-clause-moves
returns-in-Following-clause-moves g c = c.follow_block.ensures.moves

pub returns-in-Following-clause-causes : goal.returns-in-Following-clause-causes
returns-in-Following-clause-causes g c = c.follow_block.ensures.causes
