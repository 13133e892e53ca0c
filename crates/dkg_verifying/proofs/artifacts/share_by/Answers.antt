use Rattle.std.proofs.Common.{◌∙◌, ℕ, ap, sym}
use Rattle.dkg_core.specs.Fixed.{has}
use Rattle.dkg_verifying.proofs.Derived.{share_made, share_told}
use Rattle.dkg_verifying.proofs.artifacts.share_by.Goals as goal

pub returns-in_ok-share-in-None-clause-acts : goal.returns-in_ok-share-in-None-clause-acts
returns-in_ok-share-in-None-clause-acts g c = λ disk secrets fixed mine reads out.
    share_made fixed c.args.info.now c.args.found.now c.in-None.is (ap (λ (me : ℕ). has c.args.info.now.output.players me) mine ∙ sym c.has.ensures.index ∙ c.if-has.true) reads
    g.D.Disk.files g.D.Disk.image c.in_ok-share-in-None.field-0 c.share.ensures.disk c.share.ensures.same c.share.ensures.fuse (c.in_ok-share-in-None.ensures.share secrets)

pub returns-in_ok-share-in-None-clause-tells : goal.returns-in_ok-share-in-None-clause-tells
returns-in_ok-share-in-None-clause-tells g c = λ fixed mine reads out.
    share_told fixed c.args.info.now c.args.found.now c.in-None.is (ap (λ (me : ℕ). has c.args.info.now.output.players me) mine ∙ sym c.has.ensures.index ∙ c.if-has.true) reads
    c.in_ok-share-in-None.field-0 out
