-- The test of what the parts of an output agree on.
use Rattle.std.specs.Prelude.{◌≡◌, ℕ, ◌<◌, ◌==◌, ◌&&◌, not, true, List, length}
use Rattle.std.proofs.Common.{arith}
use Rattle.std.proofs.Props.{props}
use Rattle.std.proofs.lemmas.Bool.{and_parts, and_from, eqb-true, eq-eqb}
use Rattle.std.proofs.lemmas.Bool.Decides.{nat_tests}
use Rattle.dkg_ceremony.specs.Thresholds.{quorum_of}
use Rattle.dkg_ceremony.specs.Agreement.{all_in, parts_agree, PartsAgree}

some_from : (n : ℕ) → not (n == 0) ≡ true → 0 < n
some_from n e = grind (arith, nat_tests)

from_some : (n : ℕ) → 0 < n → not (n == 0) ≡ true
from_some n lt = grind (arith, nat_tests)

pub agreed : (total : ℕ) (poly players revealed : List ℕ) → parts_agree total poly players revealed ≡ true → PartsAgree total poly players revealed
agreed total poly players revealed e =
    let outer = and_parts ((total == length players) && not (length players == 0) && (length poly == quorum_of total)) (all_in revealed players) e in
    let next = and_parts ((total == length players) && not (length players == 0)) (length poly == quorum_of total) outer.0 in
    let inner = and_parts (total == length players) (not (length players == 0)) next.0 in
    record {
      total_is = eqb-true _ _ inner.0;
      some = some_from _ inner.1;
      degree = eqb-true _ _ next.1;
      among = outer.1;
    }

pub agreeing : (total : ℕ) (poly players revealed : List ℕ) → PartsAgree total poly players revealed → parts_agree total poly players revealed ≡ true
agreeing total poly players revealed a =
    and_from _ _ (and_from _ _ (and_from _ _ (eq-eqb _ _ a.total_is) (from_some _ a.some)) (eq-eqb _ _ a.degree)) a.among

-- there is one proof of it at most
pub agree_once : (total : ℕ) (poly players revealed : List ℕ) → IsProp (PartsAgree total poly players revealed)
agree_once total poly players revealed = hlevel props
