-- A node's part in an epoch's threshold scheme.
use Rattle.std.specs.Prelude.{ℕ, List, Option, Some, None, is_some, if◌then◌else◌}
use Rattle.dkg_ceremony.specs.declared.sharing.Sharing.{Sharing}
use Rattle.dkg_types.specs.declared.scheme.SchemeInfo.{SchemeInfo}
use Rattle.dkg_types.specs.declared.scheme.SchemeInfo.TheVariants.{Verifier, Member, Signer}
use Rattle.dkg_values.specs.Rising.{index_of}

-- a signer with a share; else a member where the key is a participant; else a verifier
abbrev pub scheme_of : ℕ → List ℕ → Sharing → Option ℕ → SchemeInfo
scheme_of key participants sharing (Some share) = Signer participants sharing share
scheme_of key participants sharing None = if is_some (index_of key participants) then Member participants sharing key else Verifier participants sharing
