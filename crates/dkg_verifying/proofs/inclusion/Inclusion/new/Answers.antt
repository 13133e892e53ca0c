use Rattle.std.proofs.Common.{◌≡◌, inl, inr, ℕ, [], Option, None, refl, sym, ◌∙◌, ap, arith}
use Rattle.std.specs.Prelude.{◌⊎◌, Contains, IsSome, map, option_and_then, option_map}
use Rattle.std.specs.FinMap.{FinMap, get, get-empty}
use Rattle.std.specs.Ordering.{nat_cmp}
use Rattle.dkg_core.specs.Live as core
use Rattle.dkg_verifying.specs.declared.told.Told.{Told}
use Rattle.dkg_verifying.specs.InclusionOf.{cached_of, job_of, kept_of, waiting_request_of, checked_result_of}
use Rattle.dkg_verifying.proofs.inclusion.Inclusion.new.Goals as goal

none_some : (P : Type 0) (o : Option P) → o ≡ None → IsSome o → ⊥
none_some P o none some = absurd cc

none_held : (P : Type 0) (q : ℕ) (o : Option P) → o ≡ None → Contains [] q ⊎ IsSome o → ⊥
none_held P q o none (inl has) = let below = has.1 in absurd (omega (arith, below))
none_held P q o none (inr has) = none_some P o none has

pub returns-clause-seen : goal.returns-clause-seen
returns-clause-seen g c =
    let answers : FinMap nat_cmp (Told g.row.Dir.Denot) = c.new-4.result in
    let none : (q : ℕ) → get answers q ≡ None = λ q. ap (λ (m : FinMap nat_cmp (Told g.row.Dir.Denot)). get m q) c.new-4.ensures ∙ get-empty nat_cmp q in
    record {
      served = refl;
      queue = sym (ap (map waiting_request_of) c.new.ensures);
      running = sym (ap (option_map job_of) c.new-2.ensures.running);
      waiter = refl;
      retained = sym (ap (option_map checked_result_of) c.new-2.ensures.kept);
      cached = sym (ap (option_map cached_of) c.new-3.ensures);
      told = λ q. sym (ap (option_and_then kept_of) (none q));
      used = λ q. (λ any. absurd (none_held (core.RequestAnswer g.row.Dir.Denot) q None refl any), λ has. absurd (none_some (Told g.row.Dir.Denot) (get answers q) (none q) has));
    }
