use Rattle.std.proofs.Common.{List, ap, sym, ◌∙◌}
use Rattle.std.specs.Int.NonZero.{non_zero_u32_get}
use Rattle.std.specs.Prelude.{slice_get}
use Rattle.dkg_types.specs.Blocks.{Block}
use Rattle.dkg_infos.specs.declared.directory.Unit as directory
use Rattle.dkg_node.proofs.Noding.{block_made, block_said, feed_made, feed_said, within_source}
use Rattle.dkg_node.proofs.node.Node.step.Goals as goal

-- A MESSAGE of the dealing channel

pub hear-requires-clause-ready : goal.hear-requires-clause-ready
hear-requires-clause-ready g c = c.requires.ready

pub hear-requires-clause-goes : goal.hear-requires-clause-goes
hear-requires-clause-goes g c = c.requires.goes

pub returns-in-Peer-clause-acts : goal.returns-in-Peer-clause-acts
returns-in-Peer-clause-acts g c = λ disk secrets lived number st of here may view. rw (c.in-Peer.is, sym c.as_slice.ensures) (c.hear.ensures.acts disk secrets lived number st of may view)

pub returns-in-Peer-clause-tells : goal.returns-in-Peer-clause-tells
returns-in-Peer-clause-tells g c = λ lived number st of here may view. rw (c.in-Peer.is, sym c.as_slice.ensures) (c.hear.ensures.tells lived number st of may view)

pub returns-in-Peer-clause-ready : goal.returns-in-Peer-clause-ready
returns-in-Peer-clause-ready g c = c.hear.ensures.ready

pub returns-in-Peer-clause-terms : goal.returns-in-Peer-clause-terms
returns-in-Peer-clause-terms g c = c.hear.ensures.terms

pub returns-in-Peer-clause-of : goal.returns-in-Peer-clause-of
returns-in-Peer-clause-of g c = c.hear.ensures.of

pub returns-in-Peer-clause-moved : goal.returns-in-Peer-clause-moved
returns-in-Peer-clause-moved g c = c.hear.ensures.moved

pub returns-in-Peer-clause-causes : goal.returns-in-Peer-clause-causes
returns-in-Peer-clause-causes g c = c.hear.ensures.causes

pub returns-in-Peer-clause-fit : goal.returns-in-Peer-clause-fit
returns-in-Peer-clause-fit g c = c.hear.ensures.fit

-- A BLOCK

pub deliver-requires-clause-within : goal.deliver-requires-clause-within
deliver-requires-clause-within g c =
    within_source (non_zero_u32_get (c.args.self.now).actor.terms.limit) c.args.source.now c.args.event.now c.in-Final.block c.in-Some.block.now c.in-Final.is (sym c.in-Some.ensures) c.requires.here

pub deliver-requires-clause-ready : goal.deliver-requires-clause-ready
deliver-requires-clause-ready g c = c.requires.ready

pub deliver-requires-clause-goes : goal.deliver-requires-clause-goes
deliver-requires-clause-goes g c = c.requires.goes

pub returns-in-Some-clause-acts : goal.returns-in-Some-clause-acts
returns-in-Some-clause-acts g c = λ disk secrets lived number st of here may view.
    let at = ap (λ (bs : List (Block directory.Unit)). slice_get bs c.in-Final.block) (sym here) ∙ sym c.in-Some.ensures in
    rw c.in-Final.is (block_made lived number c.in-Final.block st c.in-Some.block.now at c.deliver.new.self c.deliver.result _ _ _ _ _ _ (c.deliver.ensures.acts disk secrets lived number st of may view))

pub returns-in-Some-clause-tells : goal.returns-in-Some-clause-tells
returns-in-Some-clause-tells g c = λ lived number st of here may view.
    let at = ap (λ (bs : List (Block directory.Unit)). slice_get bs c.in-Final.block) (sym here) ∙ sym c.in-Some.ensures in
    rw c.in-Final.is (block_said lived number c.in-Final.block st c.in-Some.block.now at c.deliver.new.self c.deliver.result _ _ (c.deliver.ensures.tells lived number st of may view))

pub returns-in-Some-clause-ready : goal.returns-in-Some-clause-ready
returns-in-Some-clause-ready g c = c.deliver.ensures.ready

pub returns-in-Some-clause-terms : goal.returns-in-Some-clause-terms
returns-in-Some-clause-terms g c = c.deliver.ensures.terms

pub returns-in-Some-clause-of : goal.returns-in-Some-clause-of
returns-in-Some-clause-of g c = c.deliver.ensures.of

pub returns-in-Some-clause-moved : goal.returns-in-Some-clause-moved
returns-in-Some-clause-moved g c = c.deliver.ensures.moved

pub returns-in-Some-clause-causes : goal.returns-in-Some-clause-causes
returns-in-Some-clause-causes g c = c.deliver.ensures.causes

pub returns-in-Some-clause-fit : goal.returns-in-Some-clause-fit
returns-in-Some-clause-fit g c = c.deliver.ensures.fit

-- WHAT IS ASKED, and what a request is told

pub send-requires-clause-mail : goal.send-requires-clause-mail
send-requires-clause-mail g c = tt

pub send-requires-clause-ready : goal.send-requires-clause-ready
send-requires-clause-ready g c = c.requires.ready

pub send-requires-clause-goes : goal.send-requires-clause-goes
send-requires-clause-goes g c = c.requires.goes

pub returns-in-Next-clause-acts : goal.returns-in-Next-clause-acts
returns-in-Next-clause-acts g c = λ disk secrets lived number st of here may view. rw c.in-Next.is (c.send.ensures.acts disk secrets lived number st of may view)

pub returns-in-Next-clause-tells : goal.returns-in-Next-clause-tells
returns-in-Next-clause-tells g c = λ lived number st of here may view. rw c.in-Next.is (c.send.ensures.tells lived number st of may view)

pub returns-in-Next-clause-ready : goal.returns-in-Next-clause-ready
returns-in-Next-clause-ready g c = c.send.ensures.ready

pub returns-in-Next-clause-terms : goal.returns-in-Next-clause-terms
returns-in-Next-clause-terms g c = c.send.ensures.terms

pub returns-in-Next-clause-of : goal.returns-in-Next-clause-of
returns-in-Next-clause-of g c = c.send.ensures.of

pub returns-in-Next-clause-moved : goal.returns-in-Next-clause-moved
returns-in-Next-clause-moved g c = c.send.ensures.moved

pub returns-in-Next-clause-causes : goal.returns-in-Next-clause-causes
returns-in-Next-clause-causes g c = c.send.ensures.causes

pub returns-in-Next-clause-fit : goal.returns-in-Next-clause-fit
returns-in-Next-clause-fit g c = c.send.ensures.fit

pub send-requires-in-Release-clause-mail : goal.send-requires-in-Release-clause-mail
send-requires-in-Release-clause-mail g c = tt

pub send-requires-in-Release-clause-ready : goal.send-requires-in-Release-clause-ready
send-requires-in-Release-clause-ready g c = c.requires.ready

pub send-requires-in-Release-clause-goes : goal.send-requires-in-Release-clause-goes
send-requires-in-Release-clause-goes g c = c.requires.goes

pub returns-in-Release-clause-acts : goal.returns-in-Release-clause-acts
returns-in-Release-clause-acts g c = λ disk secrets lived number st of here may view. rw c.in-Release.is (c.send-in-Release.ensures.acts disk secrets lived number st of may view)

pub returns-in-Release-clause-tells : goal.returns-in-Release-clause-tells
returns-in-Release-clause-tells g c = λ lived number st of here may view. rw c.in-Release.is (c.send-in-Release.ensures.tells lived number st of may view)

pub returns-in-Release-clause-ready : goal.returns-in-Release-clause-ready
returns-in-Release-clause-ready g c = c.send-in-Release.ensures.ready

pub returns-in-Release-clause-terms : goal.returns-in-Release-clause-terms
returns-in-Release-clause-terms g c = c.send-in-Release.ensures.terms

pub returns-in-Release-clause-of : goal.returns-in-Release-clause-of
returns-in-Release-clause-of g c = c.send-in-Release.ensures.of

pub returns-in-Release-clause-moved : goal.returns-in-Release-clause-moved
returns-in-Release-clause-moved g c = c.send-in-Release.ensures.moved

pub returns-in-Release-clause-causes : goal.returns-in-Release-clause-causes
returns-in-Release-clause-causes g c = c.send-in-Release.ensures.causes

pub returns-in-Release-clause-fit : goal.returns-in-Release-clause-fit
returns-in-Release-clause-fit g c = c.send-in-Release.ensures.fit

pub send-requires-in-Info-clause-mail : goal.send-requires-in-Info-clause-mail
send-requires-in-Info-clause-mail g c = tt

pub send-requires-in-Info-clause-ready : goal.send-requires-in-Info-clause-ready
send-requires-in-Info-clause-ready g c = c.requires.ready

pub send-requires-in-Info-clause-goes : goal.send-requires-in-Info-clause-goes
send-requires-in-Info-clause-goes g c = c.requires.goes

pub returns-in-Info-clause-acts : goal.returns-in-Info-clause-acts
returns-in-Info-clause-acts g c = λ disk secrets lived number st of here may view. rw c.in-Info.is (c.send-in-Info.ensures.acts disk secrets lived number st of may view)

pub returns-in-Info-clause-tells : goal.returns-in-Info-clause-tells
returns-in-Info-clause-tells g c = λ lived number st of here may view. rw c.in-Info.is (c.send-in-Info.ensures.tells lived number st of may view)

pub returns-in-Info-clause-ready : goal.returns-in-Info-clause-ready
returns-in-Info-clause-ready g c = c.send-in-Info.ensures.ready

pub returns-in-Info-clause-terms : goal.returns-in-Info-clause-terms
returns-in-Info-clause-terms g c = c.send-in-Info.ensures.terms

pub returns-in-Info-clause-of : goal.returns-in-Info-clause-of
returns-in-Info-clause-of g c = c.send-in-Info.ensures.of

pub returns-in-Info-clause-moved : goal.returns-in-Info-clause-moved
returns-in-Info-clause-moved g c = c.send-in-Info.ensures.moved

pub returns-in-Info-clause-causes : goal.returns-in-Info-clause-causes
returns-in-Info-clause-causes g c = c.send-in-Info.ensures.causes

pub returns-in-Info-clause-fit : goal.returns-in-Info-clause-fit
returns-in-Info-clause-fit g c = c.send-in-Info.ensures.fit

pub send-requires-in-Over-clause-mail : goal.send-requires-in-Over-clause-mail
send-requires-in-Over-clause-mail g c = tt

pub send-requires-in-Over-clause-ready : goal.send-requires-in-Over-clause-ready
send-requires-in-Over-clause-ready g c = c.requires.ready

pub send-requires-in-Over-clause-goes : goal.send-requires-in-Over-clause-goes
send-requires-in-Over-clause-goes g c = c.requires.goes

pub returns-in-Over-clause-acts : goal.returns-in-Over-clause-acts
returns-in-Over-clause-acts g c = λ disk secrets lived number st of here may view. rw c.in-Over.is (c.send-in-Over.ensures.acts disk secrets lived number st of may view)

pub returns-in-Over-clause-tells : goal.returns-in-Over-clause-tells
returns-in-Over-clause-tells g c = λ lived number st of here may view. rw c.in-Over.is (c.send-in-Over.ensures.tells lived number st of may view)

pub returns-in-Over-clause-ready : goal.returns-in-Over-clause-ready
returns-in-Over-clause-ready g c = c.send-in-Over.ensures.ready

pub returns-in-Over-clause-terms : goal.returns-in-Over-clause-terms
returns-in-Over-clause-terms g c = c.send-in-Over.ensures.terms

pub returns-in-Over-clause-of : goal.returns-in-Over-clause-of
returns-in-Over-clause-of g c = c.send-in-Over.ensures.of

pub returns-in-Over-clause-moved : goal.returns-in-Over-clause-moved
returns-in-Over-clause-moved g c = c.send-in-Over.ensures.moved

pub returns-in-Over-clause-causes : goal.returns-in-Over-clause-causes
returns-in-Over-clause-causes g c = c.send-in-Over.ensures.causes

pub returns-in-Over-clause-fit : goal.returns-in-Over-clause-fit
returns-in-Over-clause-fit g c = c.send-in-Over.ensures.fit

pub send-requires-in-Cancel-clause-mail : goal.send-requires-in-Cancel-clause-mail
send-requires-in-Cancel-clause-mail g c = tt

pub send-requires-in-Cancel-clause-ready : goal.send-requires-in-Cancel-clause-ready
send-requires-in-Cancel-clause-ready g c = c.requires.ready

pub send-requires-in-Cancel-clause-goes : goal.send-requires-in-Cancel-clause-goes
send-requires-in-Cancel-clause-goes g c = c.requires.goes

pub returns-in-Cancel-clause-acts : goal.returns-in-Cancel-clause-acts
returns-in-Cancel-clause-acts g c = λ disk secrets lived number st of here may view. rw c.in-Cancel.is (c.send-in-Cancel.ensures.acts disk secrets lived number st of may view)

pub returns-in-Cancel-clause-tells : goal.returns-in-Cancel-clause-tells
returns-in-Cancel-clause-tells g c = λ lived number st of here may view. rw c.in-Cancel.is (c.send-in-Cancel.ensures.tells lived number st of may view)

pub returns-in-Cancel-clause-ready : goal.returns-in-Cancel-clause-ready
returns-in-Cancel-clause-ready g c = c.send-in-Cancel.ensures.ready

pub returns-in-Cancel-clause-terms : goal.returns-in-Cancel-clause-terms
returns-in-Cancel-clause-terms g c = c.send-in-Cancel.ensures.terms

pub returns-in-Cancel-clause-of : goal.returns-in-Cancel-clause-of
returns-in-Cancel-clause-of g c = c.send-in-Cancel.ensures.of

pub returns-in-Cancel-clause-moved : goal.returns-in-Cancel-clause-moved
returns-in-Cancel-clause-moved g c = c.send-in-Cancel.ensures.moved

pub returns-in-Cancel-clause-causes : goal.returns-in-Cancel-clause-causes
returns-in-Cancel-clause-causes g c = c.send-in-Cancel.ensures.causes

pub returns-in-Cancel-clause-fit : goal.returns-in-Cancel-clause-fit
returns-in-Cancel-clause-fit g c = c.send-in-Cancel.ensures.fit

pub send-requires-in-Work-clause-mail : goal.send-requires-in-Work-clause-mail
send-requires-in-Work-clause-mail g c = tt

pub send-requires-in-Work-clause-ready : goal.send-requires-in-Work-clause-ready
send-requires-in-Work-clause-ready g c = c.requires.ready

pub send-requires-in-Work-clause-goes : goal.send-requires-in-Work-clause-goes
send-requires-in-Work-clause-goes g c = c.requires.goes

pub returns-in-Work-clause-acts : goal.returns-in-Work-clause-acts
returns-in-Work-clause-acts g c = λ disk secrets lived number st of here may view. rw c.in-Work.is (c.send-in-Work.ensures.acts disk secrets lived number st of may view)

pub returns-in-Work-clause-tells : goal.returns-in-Work-clause-tells
returns-in-Work-clause-tells g c = λ lived number st of here may view. rw c.in-Work.is (c.send-in-Work.ensures.tells lived number st of may view)

pub returns-in-Work-clause-ready : goal.returns-in-Work-clause-ready
returns-in-Work-clause-ready g c = c.send-in-Work.ensures.ready

pub returns-in-Work-clause-terms : goal.returns-in-Work-clause-terms
returns-in-Work-clause-terms g c = c.send-in-Work.ensures.terms

pub returns-in-Work-clause-of : goal.returns-in-Work-clause-of
returns-in-Work-clause-of g c = c.send-in-Work.ensures.of

pub returns-in-Work-clause-moved : goal.returns-in-Work-clause-moved
returns-in-Work-clause-moved g c = c.send-in-Work.ensures.moved

pub returns-in-Work-clause-causes : goal.returns-in-Work-clause-causes
returns-in-Work-clause-causes g c = c.send-in-Work.ensures.causes

pub returns-in-Work-clause-fit : goal.returns-in-Work-clause-fit
returns-in-Work-clause-fit g c = c.send-in-Work.ensures.fit

-- .. with a block of its ancestry

pub feed-requires-clause-ready : goal.feed-requires-clause-ready
feed-requires-clause-ready g c = c.requires.ready

pub feed-requires-clause-goes : goal.feed-requires-clause-goes
feed-requires-clause-goes g c = c.requires.goes

pub returns-in-Some-of_number-clause-acts : goal.returns-in-Some-of_number-clause-acts
returns-in-Some-of_number-clause-acts g c = λ disk secrets lived number st of here may view.
    let at = ap (λ (bs : List (Block directory.Unit)). slice_get bs c.in-Feed.block) (sym here) ∙ sym c.in-Some-of_number.ensures in
    rw c.in-Feed.is (feed_made lived number c.in-Feed.block st c.in-Some-of_number.block.now at c.feed.new.self c.feed.result _ _ _ _ _ _ c.in-Feed.request (c.feed.ensures.acts disk secrets lived number st of may view))

pub returns-in-Some-of_number-clause-tells : goal.returns-in-Some-of_number-clause-tells
returns-in-Some-of_number-clause-tells g c = λ lived number st of here may view.
    let at = ap (λ (bs : List (Block directory.Unit)). slice_get bs c.in-Feed.block) (sym here) ∙ sym c.in-Some-of_number.ensures in
    rw c.in-Feed.is (feed_said lived number c.in-Feed.block st c.in-Some-of_number.block.now at c.feed.new.self c.feed.result _ _ c.in-Feed.request (c.feed.ensures.tells lived number st of may view))

pub returns-in-Some-of_number-clause-ready : goal.returns-in-Some-of_number-clause-ready
returns-in-Some-of_number-clause-ready g c = c.feed.ensures.ready

pub returns-in-Some-of_number-clause-terms : goal.returns-in-Some-of_number-clause-terms
returns-in-Some-of_number-clause-terms g c = c.feed.ensures.terms

pub returns-in-Some-of_number-clause-of : goal.returns-in-Some-of_number-clause-of
returns-in-Some-of_number-clause-of g c = c.feed.ensures.of

pub returns-in-Some-of_number-clause-moved : goal.returns-in-Some-of_number-clause-moved
returns-in-Some-of_number-clause-moved g c = c.feed.ensures.moved

pub returns-in-Some-of_number-clause-causes : goal.returns-in-Some-of_number-clause-causes
returns-in-Some-of_number-clause-causes g c = c.feed.ensures.causes

pub returns-in-Some-of_number-clause-fit : goal.returns-in-Some-of_number-clause-fit
returns-in-Some-of_number-clause-fit g c = c.feed.ensures.fit
