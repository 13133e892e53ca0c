-- The directory that says nothing.
use Rattle.std.proofs.Common.{◌≤◌, List, [], length, ℕ, Ok, refl, ap, arith}
use Rattle.std.specs.Prelude.{⊤}
use Rattle.dkg_values.specs.Codec.{Reading, IsGrammar}
use Rattle.dkg_values.specs.Grammar.{ok_is}
use Rattle.dkg_infos.specs.declared.directory.Unit as directory

abbrev pub unit_at : List ℕ → Reading directory.Unit
unit_at bytes = Ok (record {}, bytes)

abbrev pub unit_spelling : directory.Unit → List ℕ
unit_spelling u = []

pub unit_grammar : IsGrammar (λ (u : directory.Unit). ⊤) unit_spelling unit_at
unit_grammar = record {
  found = λ bytes v rest are e. (tt, ap (λ (x : directory.Unit × List ℕ). x.1) (ok_is (record {}, bytes) (v, rest) e));
  again = λ v rest fit. refl;
}

pub unit_within : (peers : List ℕ) (u : directory.Unit) → ⊤ → length (unit_spelling u) ≤ 0
unit_within peers u fit = omega arith

pub unit_rising : (few many : ℕ) → few ≤ many → 0 ≤ 0
unit_rising few many le = omega arith
