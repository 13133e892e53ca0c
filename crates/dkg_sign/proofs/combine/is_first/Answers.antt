use Rattle.std.proofs.Common.{◌<◌, length, sym, arith}
use Rattle.dkg_sign.proofs.Signers.{meets}
use Rattle.dkg_sign.proofs.combine.is_first.Goals as goal

pub returns-in-Some : goal.returns-in-Some
returns-in-Some c = λ met are.
    let lt : c.in-Some.index < length c.args.seen.now = omega (arith, c.in-Some.ensures.within, c.requires.flags) in
    meets c.args.participants.now met c.args.seen.now c.args.key c.in-Some.index (sym c.in-Some.ensures.index) lt are
