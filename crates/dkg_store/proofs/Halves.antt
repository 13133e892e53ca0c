-- What is recovered depends on the private halves alone.
use Rattle.std.proofs.Common.{◌≡◌, ◌≢◌, inl, inr, ℕ, ◌<◌, ◌≤◌, List, [], ◌∷◌, fold, Option, Some, None, IsSome, refl, sym, ◌∙◌, ap, subst, arith}
use Rattle.std.specs.FinMap.{get, empty, same_map}
use Rattle.dkg_journal.specs.Names.{Files}
use Rattle.dkg_journal.specs.Records.{SectionEntry, entries}
use Rattle.dkg_secrets.specs.Secrets.{Secrets, Tries}
use Rattle.dkg_secrets.specs.declared.secrets.SecretOp.TheVariants.{PutShare, PutSeed, Prune}
use Rattle.dkg_store.specs.Pairs.{Pairs, Dealing, recorded_dealing, with_half, with_dealing, recovered, HasHalf, IsWhole, HoldsDealings}
use Rattle.dkg_secrets.proofs.Map.{keys_total, exact_keys}
use Rattle.dkg_store.proofs.Pairs.{same_key, get_at, get_other, step}

-- one half more, or none, at this key and at another
half_there : (d : Dealing) (h : Option ℕ) (k : ℕ × ℕ) (m n : Pairs) → k ≡ d.key → get m k ≡ get n k → get (with_half m d h) k ≡ get (with_half n d h) k
half_there d None k m n is same = same
half_there d (Some p) k m n is same = get_at m d.key k (d.public, p) is ∙ sym (get_at n d.key k (d.public, p) is)

half_else : (d : Dealing) (h : Option ℕ) (k : ℕ × ℕ) (m : Pairs) → k ≢ d.key → get (with_half m d h) k ≡ get m k
half_else d None k m apart = refl
half_else d (Some p) k m apart = get_other m d.key k (d.public, p) apart

one_at : (s t : Secrets) (k : ℕ × ℕ) (m n : Pairs) (o : Option Dealing) → get t.privates k ≡ get s.privates k → get m k ≡ get n k → get (with_dealing t m o) k ≡ get (with_dealing s n o) k
one_at s t k m n None halves same = same
one_at s t k m n (Some d) halves same = elim (same_key k d.key) [
  | inl is ↦ ap (λ (h : Option ℕ). get (with_half m d h) k) (ap (get t.privates) (sym is) ∙ halves ∙ ap (get s.privates) is) ∙ half_there d (get s.privates d.key) k m n is same
  | inr apart ↦ half_else d (get t.privates d.key) k m apart ∙ same ∙ sym (half_else d (get s.privates d.key) k n apart)
]

all_at : (s t : Secrets) (k : ℕ × ℕ) (es : List SectionEntry) (m n : Pairs) → get t.privates k ≡ get s.privates k → get m k ≡ get n k → get (fold (step t) m es) k ≡ get (fold (step s) n es) k
all_at s t k [] m n halves same = same
all_at s t k (e ∷ es) m n halves same = all_at s t k es (step t m e) (step s n e) halves (one_at s t k m n (recorded_dealing e) halves same)

-- where the private half of a key is the same, what is recovered of it is
pub recovered_at : (s t : Secrets) (k : ℕ × ℕ) (es : List SectionEntry) → get t.privates k ≡ get s.privates k → get (recovered es t) k ≡ get (recovered es s) k
recovered_at s t k es halves = all_at s t k es empty empty halves refl

has_half : (s t : Secrets) (o : Option Dealing) → ((k : ℕ × ℕ) → get t.privates k ≡ get s.privates k) → HasHalf s o → HasHalf t o
has_half s t None halves has = tt
has_half s t (Some d) halves has = subst IsSome (sym (halves d.key)) has

all_whole : (s t : Secrets) (es : List SectionEntry) → ((k : ℕ × ℕ) → get t.privates k ≡ get s.privates k) → IsWhole es s → IsWhole es t
all_whole s t [] halves whole = tt
all_whole s t (e ∷ es) halves whole = (has_half s t (recorded_dealing e) halves whole.0, all_whole s t es halves whole.1)

-- .. and where all are, what holds does
pub halves_hold : (pairs : Pairs) (image : Files → Type 0) (s t : Secrets) → ((k : ℕ × ℕ) → get t.privates k ≡ get s.privates k) → HoldsDealings pairs image s → HoldsDealings pairs image t
halves_hold pairs image s t halves holds = record {
  whole = λ c here. all_whole s t (entries c) halves (holds.whole c here);
  gives = λ c here. same_map keys_total exact_keys _ _ (λ k. recovered_at s t k (entries c) (halves k)) ∙ holds.gives c here;
}

-- a share or a seed that was put, or not
pub share_halves : (epoch share : ℕ) (s t : Secrets) → Tries (PutShare epoch share) s t → t.privates ≡ s.privates
share_halves epoch share s t tries = elim tries.so [
  | inl same ↦ ap (λ (x : Secrets). x.privates) same
  | inr done ↦ ap (λ (x : Secrets). x.privates) done
]

pub seed_halves : (epoch : ℕ) (seed : List ℕ) (s t : Secrets) → Tries (PutSeed epoch seed) s t → t.privates ≡ s.privates
seed_halves epoch seed s t tries = elim tries.so [
  | inl same ↦ ap (λ (x : Secrets). x.privates) same
  | inr done ↦ ap (λ (x : Secrets). x.privates) done
]

-- a prune that was tried keeps the halves at or above its minimum
pub prune_halves : (min : ℕ) (s t : Secrets) (k : ℕ × ℕ) → Tries (Prune min) s t → min ≤ k.0 → get t.privates k ≡ get s.privates k
prune_halves min s t k tries above = elim (tries.so.privates k) [
  | inl same ↦ same
  | inr gone ↦ absurd (let below : k.0 < min = gone.0 in omega arith)
]
