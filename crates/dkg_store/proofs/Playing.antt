-- A player's acknowledgements beside the recorded dealings.
use Rattle.std.proofs.Common.{◌≡◌, inl, inr, ℕ, List, Option, Some, None, IsSome, is_some, Bool, true, false, if◌then◌else◌, refl, sym, ◌∙◌, ap, subst}
use Rattle.std.specs.Ordering.{nat_cmp}
use Rattle.std.specs.FinMap.{FinMap, get, insert, nat_cmp-IsAntisymmetric}
use Rattle.std.specs.Cmp.{nat_cmp_total}
use Rattle.dkg_ceremony.specs.declared.round.RoundParts.{RoundParts as Round}
use Rattle.dkg_store.specs.Pairs.{Pairs}
use Rattle.dkg_store.specs.Player.{IsPlayerOf, Acknowledges}
use Rattle.dkg_secrets.proofs.Map as map
use Rattle.dkg_store.proofs.Pairs.{get_here, get_other}

some_is : {A : Type 0} (x y : A) → ◌≡◌ {A = Option A} (Some x) (Some y) → x ≡ y
some_is x y e = cc

module _ (ack_of : ℕ → Round → ℕ → List ℕ → List ℕ) (me : ℕ) (round : Round) (pairs : Pairs) (epoch dealer : ℕ) (pair : List ℕ × ℕ) where
  -- what is recorded is acknowledged
  pub stored : (ack : List ℕ) → get pairs (epoch, dealer) ≡ Some pair → ack ≡ ack_of me round dealer pair.0 → Acknowledges ack_of me round pairs epoch dealer ack
  stored ack there is = record { pair = pair; recorded = there; is = is }

  -- what is recorded now is acknowledged
  pub new : (ack : List ℕ) → ack ≡ ack_of me round dealer pair.0 → Acknowledges ack_of me round (insert pairs (epoch, dealer) pair) epoch dealer ack
  new ack is = record { pair = pair; recorded = get_here pairs (epoch, dealer) pair; is = is }

  -- one more acknowledgement
  pub one_more : (acks : FinMap nat_cmp (List ℕ)) (ack : List ℕ) → IsPlayerOf ack_of me round acks pairs epoch → Acknowledges ack_of me round pairs epoch dealer ack → IsPlayerOf ack_of me round (insert acks dealer ack) pairs epoch
  one_more acks ack is here = record {
    kept = λ q a there. elim (map.same_key nat_cmp_total nat_cmp-IsAntisymmetric q dealer) as (λ w. Acknowledges ack_of me round pairs epoch q a) [
      | inl same ↦ subst (λ (d : ℕ). Acknowledges ack_of me round pairs epoch d a) (sym same)
          (subst (λ (b : List ℕ). Acknowledges ack_of me round pairs epoch dealer b) (some_is ack a (sym (map.get_at nat_cmp_total nat_cmp-IsAntisymmetric acks dealer q ack same) ∙ there)) here)
      | inr apart ↦ is.kept q a (sym (map.get_other nat_cmp_total nat_cmp-IsAntisymmetric acks dealer q ack apart) ∙ there)
    ];
  }

  -- a new dealing of one that was not acknowledged
  pub dealt : (acks : FinMap nat_cmp (List ℕ)) → get pairs (epoch, dealer) ≡ None → IsPlayerOf ack_of me round acks pairs epoch → IsPlayerOf ack_of me round acks (insert pairs (epoch, dealer) pair) epoch
  dealt acks none is = record {
    kept = λ q a there. let was = is.kept q a there in elim (map.same_key nat_cmp_total nat_cmp-IsAntisymmetric q dealer) as (λ w. Acknowledges ack_of me round (insert pairs (epoch, dealer) pair) epoch q a) [
      | inl same ↦ absurd (let h : ◌≡◌ {A = Option (List ℕ × ℕ)} None (Some was.pair) = sym none ∙ ap (λ (d : ℕ). get pairs (epoch, d)) (sym same) ∙ was.recorded in cc)
      | inr apart ↦ record { pair = was.pair; recorded = get_other pairs (epoch, dealer) (epoch, q) pair (λ e. apart (ap (λ (k : ℕ × ℕ). k.1) e)) ∙ was.recorded; is = was.is }
    ];
  }

some_there : {A : Type 0} (o : Option A) (x : A) → o ≡ Some x → IsSome o
some_there o x is = subst IsSome (sym is) refl

-- whom a player has acknowledged is recorded
pub known : (ack_of : ℕ → Round → ℕ → List ℕ → List ℕ) (me : ℕ) (round : Round) (acks : FinMap nat_cmp (List ℕ)) (pairs : Pairs) (epoch dealer : ℕ) (ack : List ℕ) → IsPlayerOf ack_of me round acks pairs epoch → get acks dealer ≡ Some ack → IsSome (get pairs (epoch, dealer))
known ack_of me round acks pairs epoch dealer ack is there = let was = is.kept dealer ack there in some_there (get pairs (epoch, dealer)) was.pair was.recorded

pub where_some : {A B : Type 0} (o : Option A) (x y : B) → IsSome o → x ≡ (if is_some o then x else y)
where_some (Some a) x y some = refl
where_some {A} None x y some = absurd (let h : ◌≡◌ {A = Bool} false true = some in cc)

pub not_none : {A : Type 0} (o : Option A) → IsSome o → o ≡ None → ⊥
not_none {A} o some none = let h : ◌≡◌ {A = Bool} false true = subst IsSome none some in cc
