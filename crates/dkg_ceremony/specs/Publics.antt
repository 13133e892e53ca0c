-- What a public half keeps: all that its spelling asks, but the limits on how many elements.
use Rattle.std.proofs.Common.{ℕ, suc, ◌<◌, ◌≤◌, ◌^◌, List, [], ◌∷◌, length}
use Rattle.std.specs.Prelude.{slice_index}
use Rattle.std.specs.List.{AllByRecursion}
use Rattle.dkg_values.specs.Lists.{PublicFits}

pub record IsPublic (elements : List ℕ) : Type 0 where
  pub some : 1 ≤ length elements
  pub in_bound : length elements < 2 ^ 32
  pub small : (i : ℕ) → slice_index elements i < 65521

all_small : (elements : List ℕ) → ((i : ℕ) → slice_index elements i < 65521) → AllByRecursion (λ e. e < 65521) elements
all_small [] small = tt
all_small (e ∷ es) small = (small 0, all_small es (λ i. small (suc i)))

pub public_fits : (most : ℕ) (elements : List ℕ) → IsPublic elements → length elements ≤ most → PublicFits most elements
public_fits most elements kept le = record { some = kept.some; in_bound = le; small = kept.in_bound; elements = all_small elements kept.small }
