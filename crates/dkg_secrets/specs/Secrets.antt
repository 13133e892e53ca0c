-- What a secret store holds, and what its calls do to it.
use Rattle.std.specs.Prelude.{◌≡◌, ◌⊎◌, ◌≤◌, ℕ, List, nat_le, nat_lt, Option, Some, None, Result, IsErrOf, refl, if◌then◌else◌}
use Rattle.std.specs.List.{fold}
use Rattle.std.specs.Ordering.{nat_cmp}
use Rattle.std.specs.Coded.{Coded, code_by, coded×, coded_ℕ, coded_list}
use Rattle.std.specs.FinMap.{FinMap, get, insert, retain_keys, code}
use Rattle.dkg_journal.specs.Disk.{Rose}
use Rattle.dkg_secrets.specs.Keys.{key_cmp, StaysOrGoes}
use Rattle.dkg_secrets.specs.declared.secrets.SecretError.{SecretError}
use Rattle.dkg_secrets.specs.declared.secrets.SecretError.TheVariants.{Failed, NoMemory}
use Rattle.dkg_secrets.specs.declared.secrets.SecretOp.{SecretOp}
use Rattle.dkg_secrets.specs.declared.secrets.SecretOp.TheVariants.{PutShare, PutSeed, PutDealing, Prune}

-- the value at the highest key below a bound
abbrev pub newest_below : {V : Type 0} → List (ℕ × V) → (bound : ℕ) → Option V
newest_below pairs bound = fold (λ newest p. if nat_lt p.0 bound then Some p.1 else newest) None pairs

-- the shares and the seeds by epoch, the private halves by epoch and dealer
pub record Secrets : Type 0 where
  pub shares : FinMap nat_cmp ℕ
  pub seeds : FinMap nat_cmp (List ℕ)
  pub privates : FinMap key_cmp ℕ

abbrev pub coded_secrets : Coded Secrets
coded_secrets = code_by (FinMap nat_cmp ℕ × (FinMap nat_cmp (List ℕ) × FinMap key_cmp ℕ)) (coded× (code coded_ℕ coded_ℕ) (coded× (code coded_ℕ (coded_list coded_ℕ)) (code (coded× coded_ℕ coded_ℕ) coded_ℕ)))
    (λ s. (s.shares, (s.seeds, s.privates))) (λ p. record { shares = p.0; seeds = p.1.0; privates = p.1.1 }) (λ _. refl)

abbrev pub after : SecretOp → Secrets → Secrets
after (PutShare epoch share) s = record s { shares = insert s.shares epoch share }
after (PutSeed epoch seed) s = record s { seeds = insert s.seeds epoch seed }
after (PutDealing epoch dealer private) s = record s { privates = insert s.privates (epoch, dealer) private }
after (Prune min) s = record { shares = retain_keys s.shares (nat_le min); seeds = retain_keys s.seeds (nat_le min); privates = retain_keys s.privates (λ k. nat_le min k.0) }

pub record IsTornPrune (min : ℕ) (old new : Secrets) : Type 0 where
  pub shares : (epoch : ℕ) → StaysOrGoes min epoch (get old.shares epoch) (get new.shares epoch)
  pub seeds : (epoch : ℕ) → StaysOrGoes min epoch (get old.seeds epoch) (get new.seeds epoch)
  pub privates : (k : ℕ × ℕ) → StaysOrGoes min k.0 (get old.privates k) (get new.privates k)

abbrev pub MayDo : SecretOp → Secrets → Secrets → Type 0
MayDo (Prune min) old new = IsTornPrune min old new
MayDo op old new = (new ≡ old) ⊎ (new ≡ after op old)

-- The call returned, failed, or was cut: a put is done or not.
pub record Tries (op : SecretOp) (old new : Secrets) : Type 0 where
  pub so : MayDo op old new

pub record HasSecretCause {T : Type 0} (before now : ℕ) (result : Result T SecretError) : Type 0 where
  pub later : before ≤ now
  pub failed : IsErrOf result Failed → Rose before now

-- The call answers want of memory only where the store counted one.
pub record HasSecretWant {T : Type 0} (before now : ℕ) (result : Result T SecretError) : Type 0 where
  pub later : before ≤ now
  pub wanted : IsErrOf result NoMemory → Rose before now
