-- Committing an epoch: its share, if there is one, then its seed.
use Rattle.std.specs.Prelude.{ℕ, List, [], ◌∷◌, Option, Some, None}
use Rattle.dkg_secrets.specs.Secrets.{Secrets, after}
use Rattle.dkg_secrets.specs.declared.secrets.SecretOp.{SecretOp}
use Rattle.dkg_secrets.specs.declared.secrets.SecretOp.TheVariants.{PutShare, PutSeed}

abbrev pub commit_calls : ℕ → List ℕ → Option ℕ → List SecretOp
commit_calls epoch seed None = PutSeed epoch seed ∷ []
commit_calls epoch seed (Some share) = PutShare epoch share ∷ PutSeed epoch seed ∷ []

abbrev pub committed : ℕ → List ℕ → Option ℕ → Secrets → Secrets
committed epoch seed None s = after (PutSeed epoch seed) s
committed epoch seed (Some share) s = after (PutSeed epoch seed) (after (PutShare epoch share) s)
