-- The marks of keys on contents.
use Rattle.std.specs.Prelude.{ℕ, List, [], ◌∷◌, ◌++◌, take}
use Rattle.std.specs.Int.{w32, to_be_bytes}
use Rattle.sha2.specs.Sha256.{sha256}
use Rattle.dkg_ceremony.specs.declared.sign.Domain.{Domain}
use Rattle.dkg_ceremony.specs.declared.sign.Domain.TheVariants as domains

abbrev pub domain_byte : Domain → ℕ
domain_byte domains.Ack = 1
domain_byte domains.Log = 2
domain_byte domains.Round = 3
domain_byte domains.Final = 4

-- the first eight bytes of a digest
unfoldable pub mark_of : ℕ → Domain → List ℕ → List ℕ
mark_of key domain content = take 8 (sha256 (to_be_bytes w32 key ++ domain_byte domain ∷ [] ++ content))
