-- What a call that asks says behind others that asked.
use Rattle.std.proofs.Common.{◌≡◌, ℕ, ◌≤◌, Result, Ok, Err, arith}
use Rattle.dkg_journal.proofs.Counted.{rose_after}
use Rattle.dkg_secrets.specs.Secrets.{HasSecretCause, HasSecretWant}
use Rattle.dkg_secrets.specs.declared.secrets.SecretError.{SecretError}
use Rattle.dkg_secrets.specs.declared.secrets.SecretError.TheVariants.{Failed, NoMemory}

module _ {T : Type 0} (a b c : ℕ) (low : a ≤ b) where
  pub cause_behind : (e : SecretError) → HasSecretCause {T = T} b c (Err e) → HasSecretCause {T = T} a c (Err e)
  cause_behind e is = record { later = omega (arith, low, is.later); failed = λ of. rose_after a b c low is.later (is.failed of) }

  pub want_behind : (e : SecretError) → HasSecretWant {T = T} b c (Err e) → HasSecretWant {T = T} a c (Err e)
  want_behind e is = record { later = omega (arith, low, is.later); wanted = λ of. rose_after a b c low is.later (is.wanted of) }

never : {T : Type 0} (x : T) (e : SecretError) → ◌≡◌ {A = Result T SecretError} (Ok x) (Err e) → ⊥
never x e is = absurd cc

pub cause_found : {T : Type 0} (a c : ℕ) (x : T) → a ≤ c → HasSecretCause a c (Ok x)
cause_found a c x low = record { later = low; failed = λ of. absurd (never x Failed of) }

pub want_found : {T : Type 0} (a c : ℕ) (x : T) → a ≤ c → HasSecretWant a c (Ok x)
want_found a c x low = record { later = low; wanted = λ of. absurd (never x NoMemory of) }
