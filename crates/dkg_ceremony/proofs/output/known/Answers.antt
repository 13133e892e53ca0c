use Rattle.dkg_ceremony.specs.FewParts.{are_few}
use Rattle.dkg_ceremony.proofs.output.known.Goals as goal

pub returns : goal.returns
returns c =
    let o = c.args.output.now in
    are_few o.sharing.total o.sharing.poly o.players o.revealed o.agree c.as_slice-players.ensures.kept c.as_slice-revealed.ensures.kept
