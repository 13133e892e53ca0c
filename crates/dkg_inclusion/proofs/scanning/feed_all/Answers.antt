use Rattle.std.proofs.Common.{◌≡◌, ◌++◌, ◌∷◌, [], List, ap, refl, sym, ◌∙◌, rules, take, drop}
use Rattle.std.proofs.lemmas.List.{take_all, take_more, take-append-drop}
use Rattle.dkg_types.specs.Blocks.{Block}
use Rattle.dkg_artifact.specs.declared.scan.Fed as declared
use Rattle.dkg_artifact.specs.declared.scan.Fed.TheVariants.{Need}
use Rattle.dkg_verifying.specs.Scanned.{fed_all}
use Rattle.dkg_inclusion.proofs.Scans.{fed_more, fed_then, needs_is, not_need}
use Rattle.dkg_inclusion.proofs.scanning.feed_all.Goals as goal

pub loop-block-init : goal.loop-block-init
loop-block-init g c = record { fed = refl; awaits = c.requires }

pub feed-requires : goal.feed-requires
feed-requires g c = c.loop-block.invariant.awaits (needs_is c.loop-block.fed (sym c.is_need.ensures ∙ c.if-not-is_need.false))

pub loop-block-preserved : goal.loop-block-preserved
loop-block-preserved g c =
    let needs : c.loop-block.fed ≡ Need = needs_is c.loop-block.fed (sym c.is_need.ensures ∙ c.if-not-is_need.false) in
    let check = g.C.Ceremony.check_log_of in
    record {
      fed =
          ap (λ (bs : List (Block g.row.Dir.Denot)). fed_all check c.args.scan.now c.args.first bs)
          (take_more c.deref-block-items.result.now c.loop-block.block-index c.block-item.result c.loop-block-test.true
          ∙ ap (λ (b : Block g.row.Dir.Denot). take c.loop-block.block-index c.deref-block-items.result.now ++ b ∷ []) (sym c.block-item.is))
          ∙ fed_more check c.args.scan.now c.loop-block.scan c.args.first (take c.loop-block.block-index c.deref-block-items.result.now) c.block-item.result
          (c.loop-block.invariant.fed ∙ ap (λ (f : declared.Fed). (f, c.loop-block.scan)) needs)
          ∙ sym c.in_ok-fed.ensures.ok;
      awaits = c.in_ok-fed.ensures.awaits;
    }

pub returns-then-not-is_need-clause-fed : goal.returns-then-not-is_need-clause-fed
returns-then-not-is_need-clause-fed g c =
    let check = g.C.Ceremony.check_log_of in
    let items : c.deref-block-items.result.now ≡ c.args.request.now.blocks = search rules in
    sym (ap (λ (bs : List (Block g.row.Dir.Denot)). fed_all check c.args.scan.now c.args.first bs) (sym (take-append-drop c.loop-block.block-index c.deref-block-items.result.now ∙ items))
    ∙ fed_then check c.args.scan.now c.loop-block.scan c.args.first c.loop-block.fed (take c.loop-block.block-index c.deref-block-items.result.now) (drop c.loop-block.block-index c.deref-block-items.result.now)
    (not_need c.loop-block.fed (sym c.is_need.ensures ∙ c.if-not-is_need.true)) c.loop-block.invariant.fed)

pub returns-clause-fed : goal.returns-clause-fed
returns-clause-fed g c =
    let check = g.C.Ceremony.check_log_of in
    let items : c.deref-block-items.result.now ≡ c.args.request.now.blocks = search rules in
    sym (ap (λ (bs : List (Block g.row.Dir.Denot)). fed_all check c.args.scan.now c.args.first bs) (sym (take_all c.loop-block.block-index c.deref-block-items.result.now c.loop-block-test.false ∙ items))
    ∙ c.loop-block.invariant.fed)

pub returns-clause-awaits : goal.returns-clause-awaits
returns-clause-awaits g c = c.loop-block.invariant.awaits
