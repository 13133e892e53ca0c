use Rattle.std.proofs.Common.{Option, Some, ap, refl, subst, arith, length, ◌≤◌, ◌∙◌}
use Rattle.std.proofs.lemmas.Result.{err_from_is_err_and}
use Rattle.std.specs.Int.NonZero.{non_zero_u32_get}
use Rattle.dkg_store.specs.Acts.{went}
use Rattle.dkg_store.specs.declared.dealer.Dealer.{Dealer}
use Rattle.dkg_store.specs.declared.store.Store.{Store}
use Rattle.dkg_core.specs.Dealing as dealing
use Rattle.dkg_life.specs.Ends.{by_stop}
use Rattle.dkg_life.specs.LiveOf.{DealsIn, live_of}
use Rattle.dkg_life.proofs.Blamed.{blamed_behind}
use Rattle.dkg_life.proofs.Burning.{speaks_makes}
use Rattle.dkg_life.proofs.Dealt.{deals_number, dealt_number, halves_same, halves_some, ok_so, ready_acked, ready_heard, while_dealing}
use Rattle.dkg_life.proofs.Kept.{moved_none, moved_then}
use Rattle.dkg_life.specs.Made.{Tells}
use Rattle.dkg_life.proofs.Offered.{passes_told, watches_itself}
use Rattle.dkg_dealing.proofs.Owned.{given_made, given_said, no_dealer, own_few, own_seat, own_unrefused, refused_blames, refused_speaks, ungiven_made, ungiven_said}
use Rattle.dkg_life.proofs.Said.{speaks_tells}
use Rattle.dkg_life.proofs.Seated.{at_some}
use Rattle.dkg_dealing.proofs.offers.offer_to_itself.Goals as goal

-- WITHOUT A PLAYER (a dealer is there)

pub returns-in_default-clause-acts : goal.returns-in_default-clause-acts
returns-in_default-clause-acts g c = absurd (no_dealer _ c.args.life.now.dealer c.in_default.is c.requires.half)

pub returns-in_default-clause-tells : goal.returns-in_default-clause-tells
returns-in_default-clause-tells g c = absurd (no_dealer _ c.args.life.now.dealer c.in_default.is c.requires.half)

pub returns-in_default-clause-moved : goal.returns-in_default-clause-moved
returns-in_default-clause-moved g c = moved_none g.D.Disk.tells g.D.Disk.made g.X.SecretStore.made g.D.Disk.faults g.X.SecretStore.faults g.met.D.Disk.made_none g.met.X.SecretStore.made_none c.args.devices.now

pub returns-in_default-clause-stays : goal.returns-in_default-clause-stays
returns-in_default-clause-stays g c = halves_same c.args.life.now.dealer

pub returns-in_default-player-clause-tells : goal.returns-in_default-player-clause-tells
returns-in_default-player-clause-tells g c = λ fixed round beside fence of by has.
    let life = c.args.life.now in
    let course = dealing.offers_to_itself fixed round c.args.public c.args.private (live_of beside fence life) in
    subst (λ (o : Option Dealer). Tells course (went (live_of beside fence (record life { dealer = o }))) c.args.out.now.entries c.args.out.now.entries) c.in-Some.is
    (passes_told course (live_of beside fence life) (watches_itself fixed beside fence life round c.args.public c.args.private c.in_default-player.is) c.args.out.now.entries)

pub returns-in_default-player-clause-moved : goal.returns-in_default-player-clause-moved
returns-in_default-player-clause-moved g c = moved_none g.D.Disk.tells g.D.Disk.made g.X.SecretStore.made g.D.Disk.faults g.X.SecretStore.faults g.met.D.Disk.made_none g.met.X.SecretStore.made_none c.args.devices.now

pub returns-in_default-player-clause-stays : goal.returns-in_default-player-clause-stays
returns-in_default-player-clause-stays g c = halves_some c.args.life.now.dealer c.in-Some.dealer c.in-Some.dealer c.in-Some.is refl

-- ANOTHER DEALING IS RECORDED

pub returns-in_err-check_own-clause-acts : goal.returns-in_err-check_own-clause-acts
returns-in_err-check_own-clause-acts g c = λ disk secrets fixed round beside fence of by has.
    let p = err_from_is_err_and c.from_residual.result c.from_residual.ensures.1 in
    rw (p.1, p.2) (speaks_makes (dealing.offers_to_itself fixed round c.args.public c.args.private (live_of beside fence c.args.life.now)) (by_stop c.in_err-check_own.field-0.0) _ _
    (refused_speaks fixed round c.args.public c.args.private beside fence c.args.life.now c.in-Some-player.player c.args.terms.now.me c.args.epoch of.me (dealt_number c.args.life.now c.args.epoch round c.requires.dealt has) c.in-Some-player.is
    c.in_err-check_own.field-0.0 c.in_err-check_own.ensures.err c.args.out.now.entries))

pub returns-in_err-check_own-clause-tells : goal.returns-in_err-check_own-clause-tells
returns-in_err-check_own-clause-tells g c = λ fixed round beside fence of by has.
    let p = err_from_is_err_and c.from_residual.result c.from_residual.ensures.1 in
    rw (p.1, p.2) (speaks_tells (dealing.offers_to_itself fixed round c.args.public c.args.private (live_of beside fence c.args.life.now)) (by_stop c.in_err-check_own.field-0.0)
    (refused_speaks fixed round c.args.public c.args.private beside fence c.args.life.now c.in-Some-player.player c.args.terms.now.me c.args.epoch of.me (dealt_number c.args.life.now c.args.epoch round c.requires.dealt has) c.in-Some-player.is
    c.in_err-check_own.field-0.0 c.in_err-check_own.ensures.err c.args.out.now.entries))

pub returns-in_err-check_own-clause-causes : goal.returns-in_err-check_own-clause-causes
returns-in_err-check_own-clause-causes g c =
    let p = err_from_is_err_and c.from_residual.result c.from_residual.ensures.1 in
    rw (p.1, p.2) (refused_blames _ c.args.epoch c.args.public c.in_err-check_own.field-0.0 c.in_err-check_own.ensures.err _ _ _)

pub returns-in_err-check_own-clause-moved : goal.returns-in_err-check_own-clause-moved
returns-in_err-check_own-clause-moved g c = moved_none g.D.Disk.tells g.D.Disk.made g.X.SecretStore.made g.D.Disk.faults g.X.SecretStore.faults g.met.D.Disk.made_none g.met.X.SecretStore.made_none c.args.devices.now

pub returns-in_err-check_own-clause-stays : goal.returns-in_err-check_own-clause-stays
returns-in_err-check_own-clause-stays g c = halves_some c.args.life.now.dealer c.in-Some.dealer c.in-Some.dealer c.in-Some.is refl

-- THE PLAYER

pub handle-requires-clause-in_bound : goal.handle-requires-clause-in_bound
handle-requires-clause-in_bound g c =
    let few : length c.args.public ≤ non_zero_u32_get c.args.terms.now.limit = own_few g.C.Ceremony.dealing_of g.C.Ceremony.ack_of g.C.Ceremony.deal_of g.C.Ceremony.check_ack_of _ c.args.terms.now c.args.life.now c.in-Some.dealer c.in-Some-player.player c.args.epoch c.args.public c.args.private
    c.in-Some.is c.in-Some-player.is c.requires.ready.seated c.requires.ready.dealing c.requires.me c.requires.dealt c.requires.half g.met.C.Ceremony.deals_pass
    g.met.C.Ceremony.deals_are_short c.requires.ready.within in
    omega (arith, few, c.args.terms.now.in_bound)

pub handle-requires-clause-sits : goal.handle-requires-clause-sits
handle-requires-clause-sits g c = own_seat g.C.Ceremony.dealing_of g.C.Ceremony.ack_of g.C.Ceremony.deal_of g.C.Ceremony.check_ack_of _ c.args.terms.now c.args.life.now c.in-Some.dealer c.in-Some-player.player c.args.epoch c.args.public c.args.private
    c.in-Some.is c.in-Some-player.is c.requires.ready.seated c.requires.ready.dealing c.requires.me c.requires.dealt c.requires.half g.met.C.Ceremony.deals_pass

pub returns-in_err-answer-clause-acts : goal.returns-in_err-answer-clause-acts
returns-in_err-answer-clause-acts g c = λ disk secrets fixed round beside fence of by has.
    let p = err_from_is_err_and c.from_residual-in_err-answer.result c.from_residual-in_err-answer.ensures.1 in
    rw (p.1, p.2) (ungiven_made g.C.Ceremony.dealing_of g.C.Ceremony.ack_of g.C.Ceremony.deal_of g.C.Ceremony.check_ack_of _ c.args.terms.now c.args.life.now c.in-Some.dealer c.in-Some-player.player c.args.epoch c.args.public c.args.private
    c.in-Some.is c.in-Some-player.is c.requires.ready.seated c.requires.ready.dealing c.requires.me c.requires.dealt c.requires.half g.met.C.Ceremony.deals_pass c.in_ok-check_own.ensures.ok fixed round beside fence of by has
    c.in_err-answer.field-0.0 (c.in_err-answer.ensures.acts disk secrets))

pub returns-in_err-answer-clause-tells : goal.returns-in_err-answer-clause-tells
returns-in_err-answer-clause-tells g c = λ fixed round beside fence of by has.
    let p = err_from_is_err_and c.from_residual-in_err-answer.result c.from_residual-in_err-answer.ensures.1 in
    rw (p.1, p.2) (ungiven_said g.C.Ceremony.dealing_of g.C.Ceremony.ack_of g.C.Ceremony.deal_of g.C.Ceremony.check_ack_of _ c.args.terms.now c.args.life.now c.in-Some.dealer c.in-Some-player.player c.args.epoch c.args.public c.args.private
    c.in-Some.is c.in-Some-player.is c.requires.ready.seated c.requires.ready.dealing c.requires.me c.requires.dealt c.requires.half g.met.C.Ceremony.deals_pass c.in_ok-check_own.ensures.ok fixed round beside fence of by has
    c.in_err-answer.field-0.0 c.in_err-answer.ensures.tells)

pub returns-in_err-answer-clause-stays : goal.returns-in_err-answer-clause-stays
returns-in_err-answer-clause-stays g c = halves_some c.args.life.now.dealer c.in-Some.dealer c.in-Some.dealer c.in-Some.is refl

pub returns-in_err-answer-clause-fit : goal.returns-in_err-answer-clause-fit
returns-in_err-answer-clause-fit g c = λ told fit.
    let limit = non_zero_u32_get c.args.terms.now.limit in
    c.handle.ensures.fit told limit (own_few g.C.Ceremony.dealing_of g.C.Ceremony.ack_of g.C.Ceremony.deal_of g.C.Ceremony.check_ack_of _ c.args.terms.now c.args.life.now c.in-Some.dealer c.in-Some-player.player c.args.epoch c.args.public c.args.private
    c.in-Some.is c.in-Some-player.is c.requires.ready.seated c.requires.ready.dealing c.requires.me c.requires.dealt c.requires.half g.met.C.Ceremony.deals_pass
    g.met.C.Ceremony.deals_are_short c.requires.ready.within) fit

pub unreachable-requires : goal.unreachable-requires
unreachable-requires g c = own_unrefused g.C.Ceremony.dealing_of g.C.Ceremony.ack_of g.C.Ceremony.deal_of g.C.Ceremony.check_ack_of _ c.args.terms.now c.args.life.now c.in-Some.dealer c.in-Some-player.player c.args.epoch c.args.public c.args.private
    c.in-Some.is c.in-Some-player.is c.requires.ready.seated c.requires.ready.dealing c.requires.me c.requires.dealt c.requires.half g.met.C.Ceremony.deals_pass c.in_ok-check_own.ensures.ok c.in-Err.field-0 (rw c.in-Err.is at c.in_ok-answer.ensures.tells)

-- THE DEALER

pub take_ack-requires-clause-is_open : goal.take_ack-requires-clause-is_open
take_ack-requires-clause-is_open g c =
    let deals = at_some (DealsIn g.C.Ceremony.deal_of g.C.Ceremony.check_ack_of c.args.terms.now.me c.args.life.now) c.args.life.now.dealer c.in-Some.dealer c.in-Some.is c.requires.ready.dealing in
    deals.is_open (while_dealing c.args.life.now c.args.epoch c.requires.dealt)

pub returns-clause-ready : goal.returns-clause-ready
returns-clause-ready g c =
    ok_so c.take_ack.result
    (λ firm. ready_acked g.D.Disk.tells g.D.Disk.files g.D.Disk.image g.C.Ceremony.ack_of g.C.Ceremony.deal_of g.C.Ceremony.check_ack_of c.args.terms.now (record c.args.life.now { store = c.handle.new.store; player = Some c.handle.new.player }) c.handle.new.devices
    (ready_heard g.D.Disk.tells g.D.Disk.files g.D.Disk.image g.C.Ceremony.ack_of g.C.Ceremony.deal_of g.C.Ceremony.check_ack_of c.args.terms.now c.args.life.now c.args.devices.now c.requires.ready c.handle.new.devices _ c.in-Some-player.player c.handle.new.player c.handle.new.store c.in-Some-player.is c.requires.me c.in_ok-answer.ensures.keeps.sits c.in_ok-answer.ensures.firm)
    c.take_ack.new.devices c.in-Some.dealer c.take_ack.new.dealer c.take_ack.new.store c.in-Some.is c.take_ack.ensures.dealer.0 c.take_ack.ensures.dealer.1
    (ap (λ (s : Store g.row.Dir.Denot). s.dealings) c.take_ack.ensures.store) firm)
    c.take_ack.ensures.firm

pub returns-clause-stays : goal.returns-clause-stays
returns-clause-stays g c = halves_some c.args.life.now.dealer c.in-Some.dealer c.take_ack.new.dealer c.in-Some.is c.take_ack.ensures.dealer.0

pub returns-clause-acts : goal.returns-clause-acts
returns-clause-acts g c = λ disk secrets fixed round beside fence of by has.
    let deals = at_some (DealsIn g.C.Ceremony.deal_of g.C.Ceremony.check_ack_of c.args.terms.now.me c.args.life.now) c.args.life.now.dealer c.in-Some.dealer c.in-Some.is c.requires.ready.dealing in
    given_made g.C.Ceremony.dealing_of g.C.Ceremony.ack_of g.C.Ceremony.deal_of g.C.Ceremony.check_ack_of _ c.args.terms.now c.args.life.now c.in-Some.dealer c.in-Some-player.player c.args.epoch c.args.public c.args.private
    c.in-Some.is c.in-Some-player.is c.requires.ready.seated c.requires.ready.dealing c.requires.me c.requires.dealt c.requires.half g.met.C.Ceremony.deals_pass c.in_ok-check_own.ensures.ok fixed round beside fence of by has
    c.handle.new.store c.handle.new.player c.in_ok-answer.ensures.keeps.rest c.in_ok-answer.ensures.keeps.pairs c.in-Ok.ack (rw c.in-Ok.is at c.in_ok-answer.ensures.tells) _
    (rw c.in-Ok.is at (c.in_ok-answer.ensures.acts disk secrets))
    (c.take_ack.ensures.acts disk secrets (record c.args.life.now { store = c.handle.new.store; player = Some c.handle.new.player }) beside fence refl c.in-Some.is (deals_number g.C.Ceremony.deal_of g.C.Ceremony.check_ack_of c.args.terms.now.me c.args.life.now c.in-Some.dealer deals c.args.epoch c.requires.dealt))

pub returns-clause-tells : goal.returns-clause-tells
returns-clause-tells g c = λ fixed round beside fence of by has.
    let deals = at_some (DealsIn g.C.Ceremony.deal_of g.C.Ceremony.check_ack_of c.args.terms.now.me c.args.life.now) c.args.life.now.dealer c.in-Some.dealer c.in-Some.is c.requires.ready.dealing in
    given_said g.C.Ceremony.dealing_of g.C.Ceremony.ack_of g.C.Ceremony.deal_of g.C.Ceremony.check_ack_of _ c.args.terms.now c.args.life.now c.in-Some.dealer c.in-Some-player.player c.args.epoch c.args.public c.args.private
    c.in-Some.is c.in-Some-player.is c.requires.ready.seated c.requires.ready.dealing c.requires.me c.requires.dealt c.requires.half g.met.C.Ceremony.deals_pass c.in_ok-check_own.ensures.ok fixed round beside fence of by has
    c.handle.new.store c.handle.new.player c.in_ok-answer.ensures.keeps.rest c.in_ok-answer.ensures.keeps.pairs c.in-Ok.ack (rw c.in-Ok.is at c.in_ok-answer.ensures.tells) _
    (c.take_ack.ensures.tells (record c.args.life.now { store = c.handle.new.store; player = Some c.handle.new.player }) beside fence refl c.in-Some.is (deals_number g.C.Ceremony.deal_of g.C.Ceremony.check_ack_of c.args.terms.now.me c.args.life.now c.in-Some.dealer deals c.args.epoch c.requires.dealt))

pub returns-clause-moved : goal.returns-clause-moved
returns-clause-moved g c = moved_then g.D.Disk.tells g.D.Disk.made g.X.SecretStore.made g.D.Disk.faults g.X.SecretStore.faults g.met.D.Disk.made_more g.met.X.SecretStore.made_more _ _ _ c.handle.ensures.moved c.take_ack.ensures.moved

pub returns-clause-causes : goal.returns-clause-causes
returns-clause-causes g c = blamed_behind g.D.Disk.tells g.D.Disk.made g.X.SecretStore.made g.D.Disk.faults g.X.SecretStore.faults _ _ _ c.handle.ensures.moved c.take_ack.ensures.moved c.take_ack.result c.take_ack.ensures.causes

pub returns-clause-fit : goal.returns-clause-fit
returns-clause-fit g c = λ told fit.
    let limit = non_zero_u32_get c.args.terms.now.limit in
    c.take_ack.ensures.fit told limit (c.handle.ensures.fit told limit (own_few g.C.Ceremony.dealing_of g.C.Ceremony.ack_of g.C.Ceremony.deal_of g.C.Ceremony.check_ack_of _ c.args.terms.now c.args.life.now c.in-Some.dealer c.in-Some-player.player c.args.epoch c.args.public c.args.private
    c.in-Some.is c.in-Some-player.is c.requires.ready.seated c.requires.ready.dealing c.requires.me c.requires.dealt c.requires.half g.met.C.Ceremony.deals_pass
    g.met.C.Ceremony.deals_are_short c.requires.ready.within) fit)

pub returns-in_default-clause-current : goal.returns-in_default-clause-current
returns-in_default-clause-current g c = refl

pub returns-in_default-player-clause-current : goal.returns-in_default-player-clause-current
returns-in_default-player-clause-current g c = refl

pub returns-in_err-check_own-clause-current : goal.returns-in_err-check_own-clause-current
returns-in_err-check_own-clause-current g c = refl

pub returns-in_err-answer-clause-current : goal.returns-in_err-answer-clause-current
returns-in_err-answer-clause-current g c = c.handle.ensures.keeps.rest.current

pub returns-clause-current : goal.returns-clause-current
returns-clause-current g c = ap (λ (s : Store g.row.Dir.Denot). s.current) c.take_ack.ensures.store ∙ c.handle.ensures.keeps.rest.current
