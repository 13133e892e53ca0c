-- What the calls of a secret store may do, from what they did.
use Rattle.std.proofs.Common.{◌≡◌, inl, inr, ℕ, nat_le, cond, Option, None, sym, subst, ◌∙◌, ap}
use Rattle.std.specs.FinMap.{get, get-retain_keys, nat_cmp-IsAntisymmetric}
use Rattle.dkg_secrets.specs.Keys.{StaysOrGoes}
use Rattle.dkg_secrets.specs.Secrets.{Secrets, Tries, after}
use Rattle.dkg_secrets.specs.declared.secrets.SecretOp.{SecretOp}
use Rattle.dkg_secrets.specs.declared.secrets.SecretOp.TheVariants.{PutShare, PutSeed, PutDealing, Prune}
use Rattle.dkg_secrets.proofs.Map.{below_or, exact_keys}

torn_at : {X : Type 0} (min epoch : ℕ) (old : Option X) → StaysOrGoes min epoch old (cond (nat_le min epoch) old None)
torn_at min epoch old = elim (below_or min epoch) [
  | inl below ↦ inr (below.0, ap (λ b. cond b old None) below.1)
  | inr above ↦ inl (ap (λ b. cond b old None) above.1)
]

pub nothing_done : (op : SecretOp) (s t : Secrets) → t ≡ s → Tries op s t
nothing_done (PutShare epoch share) s t same = record { so = inl same }
nothing_done (PutSeed epoch seed) s t same = record { so = inl same }
nothing_done (PutDealing epoch dealer private) s t same = record { so = inl same }
nothing_done (Prune min) s t same = record {
  so = record {
    shares = λ q. inl (ap (λ (u : Secrets). get u.shares q) same);
    seeds = λ q. inl (ap (λ (u : Secrets). get u.seeds q) same);
    privates = λ q. inl (ap (λ (u : Secrets). get u.privates q) same);
  };
}

pub all_done : (op : SecretOp) (s t : Secrets) → t ≡ after op s → Tries op s t
all_done (PutShare epoch share) s t done = record { so = inr done }
all_done (PutSeed epoch seed) s t done = record { so = inr done }
all_done (PutDealing epoch dealer private) s t done = record { so = inr done }
all_done (Prune min) s t done = record {
  so = record {
    shares = λ q. subst (StaysOrGoes min q (get s.shares q)) (sym (ap (λ (u : Secrets). get u.shares q) done ∙ get-retain_keys s.shares (nat_le min) q (λ x tied. ap (nat_le min) (sym (nat_cmp-IsAntisymmetric q x tied))))) (torn_at min q (get s.shares q));
    seeds = λ q. subst (StaysOrGoes min q (get s.seeds q)) (sym (ap (λ (u : Secrets). get u.seeds q) done ∙ get-retain_keys s.seeds (nat_le min) q (λ x tied. ap (nat_le min) (sym (nat_cmp-IsAntisymmetric q x tied))))) (torn_at min q (get s.seeds q));
    privates = λ q. subst (StaysOrGoes min q.0 (get s.privates q)) (sym (ap (λ (u : Secrets). get u.privates q) done ∙ get-retain_keys s.privates (λ k. nat_le min k.0) q (λ x tied. ap (λ (y : ℕ × ℕ). nat_le min y.0) (sym (exact_keys q x tied))))) (torn_at min q.0 (get s.privates q));
  };
}
