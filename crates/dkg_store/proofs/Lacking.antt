-- Why no outcome is found.
use Rattle.std.proofs.Common.{◌≡◌, ◌⊎◌, inl, inr, ℕ, Option, Result, Ok, Err, refl, subst}
use Rattle.std.specs.Prelude.{IfErr}
use Rattle.dkg_ceremony.specs.declared.output.Output.{Output}
use Rattle.dkg_ceremony.specs.declared.finish.FinishError.{FinishError}
use Rattle.dkg_ceremony.specs.declared.finish.FinishError.TheVariants.{NoMemory, MissingDealing}
use Rattle.dkg_ceremony.specs.Finishes.{AnswersFinish}

-- What is known of each refusal of an answer is known of a refusal that was given, but for want of memory.
pub refused_by : (P : FinishError → Type 0) (answer result : Result (Option (Output × ℕ)) FinishError) → IfErr answer P → AnswersFinish answer result → IfErr result (λ e. (e ≡ NoMemory) ⊎ P e)
refused_by P answer (Ok found) law is = tt
refused_by P answer (Err NoMemory) law is = inl refl
refused_by P answer (Err (MissingDealing dealer)) law is = inr (subst (λ (a : Result (Option (Output × ℕ)) FinishError). IfErr a P) is law)
