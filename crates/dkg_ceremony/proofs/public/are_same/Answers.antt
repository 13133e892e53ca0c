use Rattle.std.proofs.Common.{◌≡◌, eqb}
use Rattle.std.specs.Cmp.Lexicographic.{pointwise}
use Rattle.std.proofs.lemmas.Bool.Decides.{Decides-eqb}
use Rattle.std.proofs.lemmas.Slice.Eq.{slice_eq-Decides}
use Rattle.dkg_ceremony.proofs.public.are_same.Goals as goal

pub returns : goal.returns
returns c =
    let e : c.eq.result ≡ pointwise eqb c.args.one.now c.args.other.now = c.eq.ensures in
    slice_eq-Decides {E = eqb} Decides-eqb c.args.one.now c.args.other.now c.eq.result e
