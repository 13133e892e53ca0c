-- The changing calls, the cuts and the crashes that a secret store in memory has had.
use Rattle.std.proofs.Common.{subst}
use Rattle.std.specs.Prelude.{◌≡◌, ◌⊎◌, List, [], ◌∷◌, ◌++◌, refl}
use Rattle.dkg_journal.specs.DeviceCall.{DeviceCall, CallMade, CutIn, Crashes}
use Rattle.dkg_secrets.specs.Cuts.{after_cut}
use Rattle.dkg_secrets.specs.Secrets.{Secrets, Tries}
use Rattle.dkg_secrets.specs.declared.secrets.SecretOp.{SecretOp}

-- What one leaves. A cut leaves what its pick says, or found no memory and changed nothing; a crash changes nothing.
abbrev pub Leaves : DeviceCall SecretOp → Secrets → Secrets → Type 0
Leaves (CallMade op) old new = Tries op old new
Leaves (CutIn op pick) old new = Tries op old new × ((new ≡ after_cut op pick old) ⊎ (new ≡ old))
Leaves (Crashes pick) old new = new ≡ old

-- one after another, and no others
abbrev pub MadeSecrets : List (DeviceCall SecretOp) → Secrets → Secrets → Type 0
MadeSecrets [] old new = new ≡ old
MadeSecrets (call ∷ calls) old new = (mid : Secrets) × Leaves call old mid × MadeSecrets calls mid new

pub secrets_made_both : (xs ys : List (DeviceCall SecretOp)) (a b c : Secrets) → MadeSecrets xs a b → MadeSecrets ys b c → MadeSecrets (xs ++ ys) a c
secrets_made_both [] ys a b c first second = subst (λ s. MadeSecrets ys s c) first second
secrets_made_both (call ∷ xs) ys a b c first second = (first.0, first.1, secrets_made_both xs ys first.0 b c first.2 second)

pub secrets_made_one : (call : DeviceCall SecretOp) (s t : Secrets) → Leaves call s t → MadeSecrets (call ∷ []) s t
secrets_made_one call s t leaves = (t, leaves, refl)
