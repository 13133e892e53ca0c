use Rattle.std.proofs.Common.{ap, sym, ◌∙◌}
use Rattle.dkg_life.specs.declared.life.Life.{Life}
use Rattle.dkg_life.specs.declared.life.Stage.TheVariants.{Including}
use Rattle.dkg_life.specs.LiveOf.{IsToSign, live_of}
use Rattle.dkg_life.proofs.Dealers.{begun_bare, begun_signed, signs_it}
use Rattle.dkg_life.proofs.Seated.{at_some}
use Rattle.dkg_setup.proofs.midpoint.begin_inclusion.Goals as goal
use Rattle.dkg_setup.proofs.midpoint.begin_inclusion.Goals.{in-Some+in_ok-finalize, in_default}

pub returns-clause-begun : goal.returns-clause-begun
returns-clause-begun g c = λ fixed beside fence unserved mine deals. elim c.match-life.branch [
  | in-Some+in_ok-finalize w ↦
      let signs = at_some (IsToSign g.C.Ceremony.deal_of g.C.Ceremony.check_ack_of _ c.args.life.now.round) c.args.life.now.dealer w.in-Some.dealer w.in-Some.is c.requires.signs in
      ap (λ (l : Life g.row.Dir.Denot). live_of beside fence (record l { stage = Including })) w.life-is
      ∙ begun_signed fixed beside unserved fence c.args.life.now g.C.Ceremony.sign_log_of deals.sign_log w.in-Some.dealer w.finalize.new.self w.in-Some.is signs.round signs.has_it signs.deals.round_is
      (signs.deals.me_is ∙ sym mine) (signs_it _ _ _ _ w.in_ok-finalize.ensures.log (w.in_ok-finalize.ensures.first ∙ signs.is_open))
      w.in_ok-finalize.ensures.public w.in_ok-finalize.ensures.privates w.in_ok-finalize.ensures.acks
  | in_default w ↦ ap (λ (l : Life g.row.Dir.Denot). live_of beside fence (record l { stage = Including })) w.life-is ∙ begun_bare fixed beside unserved fence c.args.life.now w.in_default.is
]
