-- One candidate more.
use Rattle.std.proofs.Common.{◌≡◌, ℕ, Bool, true, false, cond, List, [], ◌∷◌, ◌++◌, map, Option, Some, None, refl, sym, ap, ◌∙◌}
use Rattle.std.specs.Prelude.{◌&&◌, ◌||◌, not}
use Rattle.std.specs.BTreeMap.{is_at}
use Rattle.std.specs.BTreeSet.{BTreeSet, contains}
use Rattle.std.specs.Cmp.{nat_cmp_total, eq_by_cmp_equiv}
use Rattle.std.specs.Ordering.{nat_cmp}
use Rattle.dkg_probe.specs.Candidates.{Candidate, candidate_keys, has_peer, are_apart, IsKept}

or_last : (a : Bool) → (a || false) ≡ a
or_last true = refl
or_last false = refl

or_assoc : (a b c : Bool) → (a || (b || c)) ≡ ((a || b) || c)
or_assoc true b c = refl
or_assoc false b c = refl

neither : (a b : Bool) → (a || b) ≡ false → (a ≡ false) × (b ≡ false)
neither true b e = absurd cc
neither false b e = (refl, e)

both : (a b : Bool) → (a && b) ≡ true → (a ≡ true) × (b ≡ true)
both true b e = (refl, e)
both false b e = absurd cc

or_is : (a b : Bool) → cond a true b ≡ (b || a)
or_is true true = refl
or_is true false = refl
or_is false true = refl
or_is false false = refl

tie_symm : (p q : ℕ) → is_at (nat_cmp p) q ≡ is_at (nat_cmp q) p
tie_symm p q = (eq_by_cmp_equiv nat_cmp_total).symm p q

has_peer-last : (q : ℕ) (xs : List ℕ) (p : ℕ) → has_peer q (xs ++ p ∷ []) ≡ (has_peer q xs || is_at (nat_cmp q) p)
has_peer-last q [] p = or_last (is_at (nat_cmp q) p)
has_peer-last q (x ∷ xs) p = ap (λ (b : Bool). is_at (nat_cmp q) x || b) (has_peer-last q xs p) ∙ or_assoc (is_at (nat_cmp q) x) (has_peer q xs) (is_at (nat_cmp q) p)

apart-last : (xs : List ℕ) (p : ℕ) → are_apart xs ≡ true → has_peer p xs ≡ false → are_apart (xs ++ p ∷ []) ≡ true
apart-last [] p apart new = refl
apart-last (x ∷ xs) p apart new =
    let a = both (not (has_peer x xs)) (are_apart xs) apart in
    let n = neither (is_at (nat_cmp p) x) (has_peer p xs) new in
    let one : not (has_peer x xs || is_at (nat_cmp x) p) ≡ true = rw (tie_symm x p, n.0, or_last (has_peer x xs)) a.0 in
    let more : are_apart (xs ++ p ∷ []) ≡ true = apart-last xs p a.1 n.1 in
    rw (has_peer-last x xs p, one, more) refl

keys-last : (cs : List Candidate) (c : Candidate) → map (λ (d : Candidate). d.0) (cs ++ c ∷ []) ≡ map (λ (d : Candidate). d.0) cs ++ c.0 ∷ []
keys-last [] c = refl
keys-last (d ∷ ds) c = ap (λ (ps : List ℕ). d.0 ∷ ps) (keys-last ds c)

peers-last : (asked : Option Candidate) (others : List Candidate) (c : Candidate) → candidate_keys asked (others ++ c ∷ []) ≡ candidate_keys asked others ++ c.0 ∷ []
peers-last None others c = keys-last others c
peers-last (Some d) others c = ap (λ (ps : List ℕ). d.0 ∷ ps) (keys-last others c)

pub kept-last : (asked : Option Candidate) (others : List Candidate) (c : Candidate) (old new : BTreeSet ℕ) → IsKept asked others old → has_peer c.0 (candidate_keys asked others) ≡ false
    → ((q : ℕ) → contains nat_cmp new q ≡ cond (is_at (nat_cmp c.0) q) true (contains nat_cmp old q)) → IsKept asked (others ++ c ∷ []) new
kept-last asked others c old new kept absent adds = record {
  apart = ap are_apart (peers-last asked others c) ∙ apart-last (candidate_keys asked others) c.0 kept.apart absent;
  members = λ q.
      adds q
      ∙ ap (λ (b : Bool). cond (is_at (nat_cmp c.0) q) true b) (kept.members q)
      ∙ or_is (is_at (nat_cmp c.0) q) (has_peer q (candidate_keys asked others))
      ∙ ap (λ (b : Bool). has_peer q (candidate_keys asked others) || b) (tie_symm c.0 q)
      ∙ sym (has_peer-last q (candidate_keys asked others) c.0)
      ∙ ap (has_peer q) (sym (peers-last asked others c));
}
