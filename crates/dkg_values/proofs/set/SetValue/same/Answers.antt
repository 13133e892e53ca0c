use Rattle.std.proofs.Common.{◌≡◌, eqb}
use Rattle.std.specs.Cmp.Lexicographic.{pointwise}
use Rattle.std.proofs.lemmas.Bool.Decides.{Decides-eqb}
use Rattle.std.proofs.lemmas.Slice.Eq.{slice_eq-Decides}
use Rattle.dkg_values.proofs.set.SetValue.same.Goals as goal

pub returns : goal.returns
returns c =
    let e : c.eq.result ≡ pointwise eqb c.self.inside.keys.items c.other.inside.keys.items = c.eq.ensures in
    let d = slice_eq-Decides {E = eqb} Decides-eqb c.self.inside.keys.items c.other.inside.keys.items c.eq.result e in
    rw (← c.self.view_is, ← c.other.view_is) d
