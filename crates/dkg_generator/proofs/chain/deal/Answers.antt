use Rattle.std.proofs.Common.{◌≡◌, ℕ, List, Option, Result, Some, Ok, Err, sym, ap, ◌∙◌}
use Rattle.dkg_ceremony.specs.declared.deal.DealError.{DealError}
use Rattle.dkg_ceremony.specs.declared.deal.DealError.TheVariants.{ShareRefused}
use Rattle.dkg_ceremony.specs.declared.round.RoundParts.{RoundParts as Round}
use Rattle.dkg_ceremony.specs.Deals.{deal_of}
use Rattle.dkg_generator.specs.Chain.{Halves, round_after}
use Rattle.dkg_generator.specs.Made.{Shown}
use Rattle.dkg_generator.proofs.Deals.{halves_are, halves_whole, not_refused}
use Rattle.dkg_generator.proofs.chain.deal.Goals as goal

-- what a signer was answered in a round is what the key deals after the info
dealt_so : (shown : Shown) (round : Round) (key signer : ℕ) (share : Option ℕ) (seed : List ℕ) (answer : Result Halves DealError) → round ≡ round_after shown → signer ≡ key
    → deal_of round signer share seed ≡ answer → deal_of (round_after shown) key share seed ≡ answer
dealt_so shown round key signer share seed answer is whose dealt =
    ap (λ (r : Round). deal_of r key share seed) (sym is) ∙ ap (λ (k : ℕ). deal_of round k share seed) (sym whose) ∙ dealt

pub returns-in-Ok-clause-dealt : goal.returns-in-Ok-clause-dealt
returns-in-Ok-clause-dealt c =
    let share = c.share_of-share.result in
    let e = dealt_so c.args.info.now c.args.round.now c.args.key c.new.result (Some share) c.args.seed.now (Ok c.in-Ok.halves) c.requires.round c.new.ensures c.in-Ok.ensures in
    halves_are c.args.info.now c.args.key share c.args.seed.now c.in-Ok.halves c.share_of-share.ensures e

pub returns-in-Ok-clause-whole : goal.returns-in-Ok-clause-whole
returns-in-Ok-clause-whole c =
    let share = c.share_of-share.result in
    let e = dealt_so c.args.info.now c.args.round.now c.args.key c.new.result (Some share) c.args.seed.now (Ok c.in-Ok.halves) c.requires.round c.new.ensures c.in-Ok.ensures in
    halves_whole c.args.info.now c.args.key share c.args.seed.now c.in-Ok.halves c.requires.dealer e

pub unreachable-requires : goal.unreachable-requires
unreachable-requires c =
    let share = c.share_of-share.result in
    let refused = rw c.in-Err-ShareRefused.field-0-is at c.in-Err-ShareRefused.ensures in
    let e = dealt_so c.args.info.now c.args.round.now c.args.key c.new.result (Some share) c.args.seed.now (Err ShareRefused) c.requires.round c.new.ensures refused in
    not_refused c.args.info.now c.args.key share c.args.seed.now c.share_of-share.ensures e
