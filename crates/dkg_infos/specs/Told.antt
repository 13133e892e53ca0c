-- What a transcript tells, and how many entries it has room for.
use Rattle.std.specs.Prelude.{ℕ, List, refl}
use Rattle.std.specs.Coded.{Coded, code_by, coded×, coded_ℕ, coded_list}
use Rattle.dkg_infos.specs.declared.entry.Entry.{Entry}
use Rattle.dkg_infos.specs.contracts.entry.Entry as entry

pub record ToldEntries : Type 0 where
  pub entries : List Entry
  pub spare : ℕ

abbrev pub coded_told : Coded ToldEntries
coded_told = code_by (List Entry × ℕ) (coded× (coded_list entry.the_row.coded) coded_ℕ) (λ t. (t.entries, t.spare)) (λ p. record { entries = p.0; spare = p.1 }) (λ _. refl)
