-- Hashes, partials and signatures as numbers.
use Rattle.std.specs.Prelude.{ℕ, ◌*◌, ◌%◌, ◌==◌, List, take, Option, option_map, if◌then◌else◌}
use Rattle.std.specs.Int.{w16, from_be_bytes}
use Rattle.sha2.specs.Sha256.{sha256}
use Rattle.dkg_ceremony.specs.Polynomials.{prime}
use Rattle.dkg_ceremony.specs.declared.sharing.Sharing.{Sharing}
use Rattle.dkg_types.specs.declared.scheme.SchemeInfo.{SchemeInfo}
use Rattle.dkg_sign.specs.Materials.{scheme_key, value_of}

abbrev pub one_for_none : ℕ → ℕ
one_for_none n = if n == 0 then 1 else n

-- The hash of a message: the first two bytes of its SHA-256, modulo the prime, and 1 where that is 0.
unfoldable pub hash_of : List ℕ → ℕ
hash_of message = one_for_none (from_be_bytes w16 (take 2 (sha256 message)) % prime)

-- an element times a hash
abbrev pub times : (hash : ℕ) → ℕ → ℕ
times hash x = x * hash % prime

-- The partial of a participant on a hash: the sharing's value at its point times the hash.
abbrev pub partial_at : SchemeInfo → (signer hash : ℕ) → Option ℕ
partial_at info signer hash = option_map (times hash) (value_of info signer)

-- .. on a message
abbrev pub partial_of : SchemeInfo → (signer : ℕ) → List ℕ → Option ℕ
partial_of info signer message = partial_at info signer (hash_of message)

-- The signature of a sharing: its constant coefficient times the hash.
abbrev pub signature_of : Sharing → List ℕ → ℕ
signature_of sharing message = times (hash_of message) (scheme_key sharing.poly)
