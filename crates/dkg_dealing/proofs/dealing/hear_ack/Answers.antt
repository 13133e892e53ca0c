use Rattle.std.proofs.Common.{ap, refl, sym, ◌∙◌}
use Rattle.dkg_store.specs.declared.store.Store.{Store}
use Rattle.std.specs.Int.NonZero.{non_zero_u32_get}
use Rattle.dkg_life.specs.LiveOf.{DealsIn}
use Rattle.dkg_dealing.proofs.Acked.{hears_made, hears_said}
use Rattle.dkg_life.proofs.Dealt.{deals_number, deals_round, ok_so, ready_acked, while_dealing}
use Rattle.dkg_life.proofs.Kept.{moved_none}
use Rattle.dkg_life.proofs.Seated.{at_some}
use Rattle.dkg_dealing.proofs.dealing.hear_ack.Goals as goal

pub take_ack-requires-clause-is_open : goal.take_ack-requires-clause-is_open
take_ack-requires-clause-is_open g c =
    let deals = at_some (DealsIn g.C.Ceremony.deal_of g.C.Ceremony.check_ack_of c.args.terms.now.me c.args.life.now) c.args.life.now.dealer c.in-Some.dealer c.in-Some.is c.requires.ready.dealing in
    deals.is_open (while_dealing c.args.life.now c.args.epoch c.requires.dealt)

pub returns-clause-ready : goal.returns-clause-ready
returns-clause-ready g c =
    ok_so c.take_ack.result
    (λ firm. ready_acked g.D.Disk.tells g.D.Disk.files g.D.Disk.image g.C.Ceremony.ack_of g.C.Ceremony.deal_of g.C.Ceremony.check_ack_of c.args.terms.now c.args.life.now c.args.devices.now c.requires.ready c.take_ack.new.devices
    c.in-Some.dealer c.take_ack.new.dealer c.take_ack.new.store c.in-Some.is c.take_ack.ensures.dealer.0 c.take_ack.ensures.dealer.1
    (ap (λ (s : Store g.row.Dir.Denot). s.dealings) c.take_ack.ensures.store) firm)
    c.take_ack.ensures.firm

pub returns-clause-acts : goal.returns-clause-acts
returns-clause-acts g c = λ disk secrets fixed round beside fence of by has.
    let deals = at_some (DealsIn g.C.Ceremony.deal_of g.C.Ceremony.check_ack_of c.args.terms.now.me c.args.life.now) c.args.life.now.dealer c.in-Some.dealer c.in-Some.is c.requires.ready.dealing in
    hears_made fixed round c.args.from c.args.ack beside fence c.args.life.now c.in-Some.dealer g.C.Ceremony.check_ack_of c.in-Some.is by.check_ack (of.me ∙ sym deals.deals.me_is)
    (deals_round g.C.Ceremony.deal_of g.C.Ceremony.check_ack_of c.args.terms.now.me c.args.life.now c.in-Some.dealer deals round has) _
    (c.take_ack.ensures.acts disk secrets c.args.life.now beside fence refl c.in-Some.is (deals_number g.C.Ceremony.deal_of g.C.Ceremony.check_ack_of c.args.terms.now.me c.args.life.now c.in-Some.dealer deals c.args.epoch c.requires.dealt))

pub returns-clause-tells : goal.returns-clause-tells
returns-clause-tells g c = λ fixed round beside fence of by has.
    let deals = at_some (DealsIn g.C.Ceremony.deal_of g.C.Ceremony.check_ack_of c.args.terms.now.me c.args.life.now) c.args.life.now.dealer c.in-Some.dealer c.in-Some.is c.requires.ready.dealing in
    hears_said fixed round c.args.from c.args.ack beside fence c.args.life.now c.in-Some.dealer g.C.Ceremony.check_ack_of c.in-Some.is by.check_ack (of.me ∙ sym deals.deals.me_is)
    (deals_round g.C.Ceremony.deal_of g.C.Ceremony.check_ack_of c.args.terms.now.me c.args.life.now c.in-Some.dealer deals round has) _
    (c.take_ack.ensures.tells c.args.life.now beside fence refl c.in-Some.is (deals_number g.C.Ceremony.deal_of g.C.Ceremony.check_ack_of c.args.terms.now.me c.args.life.now c.in-Some.dealer deals c.args.epoch c.requires.dealt))

pub returns-clause-fit : goal.returns-clause-fit
returns-clause-fit g c = λ told fit. c.take_ack.ensures.fit told (non_zero_u32_get c.args.terms.now.limit) fit

pub returns-in_default-clause-moved : goal.returns-in_default-clause-moved
returns-in_default-clause-moved g c = moved_none g.D.Disk.tells g.D.Disk.made g.X.SecretStore.made g.D.Disk.faults g.X.SecretStore.faults g.met.D.Disk.made_none g.met.X.SecretStore.made_none c.args.devices.now

pub returns-in_default-clause-current : goal.returns-in_default-clause-current
returns-in_default-clause-current g c = refl

pub returns-clause-current : goal.returns-clause-current
returns-clause-current g c = ap (λ (s : Store g.row.Dir.Denot). s.current) c.take_ack.ensures.store
