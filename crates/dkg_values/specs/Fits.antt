-- What a set and a map keep is all that their spellings ask, but the limit on how many.
use Rattle.std.proofs.Common.{ℕ, suc, ◌+◌, ◌<◌, ◌≤◌, ◌^◌, List, [], ◌∷◌, length}
use Rattle.std.specs.Prelude.{slice_index}
use Rattle.std.specs.List.{AllByRecursion}
use Rattle.dkg_values.specs.Rising.{Rises, IsSet, IsMap, keys_of}
use Rattle.dkg_values.specs.RisingLaws.{rises_from}
use Rattle.dkg_values.specs.Lists.{RiseFrom, SetFits, MapFits, values_of}

rise_from : (least : ℕ) (keys : List ℕ) → Rises least keys → ((i : ℕ) → slice_index keys i < 2 ^ 32) → RiseFrom least keys
rise_from least [] r small = tt
rise_from least (key ∷ keys) r small = (r.0, small 0, rise_from (key + 1) keys r.1 (λ i. small (suc i)))

pub set_fits : (most : ℕ) (keys : List ℕ) → IsSet keys → length keys ≤ most → SetFits most keys
set_fits most keys kept le = record { in_bound = le; small = kept.in_bound; rising = rise_from 0 keys (rises_from keys kept.rising) kept.small }

pub map_fits : {V : Type 0} (fits : V → Type 0) (least most : ℕ) (pairs : List (ℕ × V)) → IsMap pairs → least ≤ length pairs → length pairs ≤ most → AllByRecursion fits (values_of pairs) → MapFits fits least most pairs
map_fits fits least most pairs kept ge le values = record {
  many = ge;
  in_bound = le;
  small = kept.in_bound;
  rising = rise_from 0 (keys_of pairs) (rises_from (keys_of pairs) kept.rising) kept.small;
  values = values;
}
