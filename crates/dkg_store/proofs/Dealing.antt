-- The acknowledgements that a dealer holds, in the order of the players.
use Rattle.std.proofs.Common.{◌≡◌, ◌≤◌, inl, inr, ℕ, suc, length, arith, Bool, cond, List, [], ◌∷◌, filter, fold, Option, Some, None, is_some, Result, Ok, Err, refl, sym, ◌∙◌, ap, subst}
use Rattle.std.specs.Prelude.{◌||◌, true, false, Contains, IsSomeAnd, IfOk}
use Rattle.std.specs.Ordering.{nat_cmp}
use Rattle.std.specs.Cmp.{nat_cmp_total}
use Rattle.std.specs.FinMap.{get, insert, empty, get-empty, nat_cmp-IsAntisymmetric}
use Rattle.std.specs.List.Sorted.{IsStrictlyIncreasing}
use Rattle.std.proofs.lemmas.List.{length-map}
use Rattle.std.proofs.lemmas.List.Kept.{IsStrictlyIncreasing-filter}
use Rattle.dkg_values.specs.Rising.{IsSet, keys_of, lookup}
use Rattle.dkg_ceremony.specs.ValidLogs.{has_entry}
use Rattle.dkg_ceremony.specs.declared.ceremony.AckError.{AckError}
use Rattle.dkg_ceremony.specs.declared.deal.DealError.{DealError}
use Rattle.dkg_ceremony.specs.declared.round.RoundParts.{RoundParts as Round}
use Rattle.dkg_store.specs.Dealer.{AckMap, held_acks, with_held, passing, with_passed, unsent, with_unsent, to_send, IsDealerOf}
use Rattle.dkg_store.specs.declared.dealer.Dealer.{Dealer}
use Rattle.dkg_secrets.proofs.Map as map

keys_with : (player : ℕ) (o : Option (List ℕ)) (later : List (ℕ × List ℕ)) → keys_of (with_held player o later) ≡ cond (is_some o) (player ∷ keys_of later) (keys_of later)
keys_with player None later = refl
keys_with player (Some ack) later = refl

held_keys : (acks : AckMap) (players : List ℕ) → keys_of (held_acks acks players) ≡ filter (λ (k : ℕ). is_some (get acks k)) players
held_keys acks [] = refl
held_keys acks (player ∷ players) =
    keys_with player (get acks player) (held_acks acks players)
    ∙ ap (λ (ks : List ℕ). cond (is_some (get acks player)) (player ∷ ks) ks) (held_keys acks players)

pub held_rising : (acks : AckMap) (players : List ℕ) → IsSet players → IsStrictlyIncreasing (keys_of (held_acks acks players))
held_rising acks players set = subst IsStrictlyIncreasing (sym (held_keys acks players)) (IsStrictlyIncreasing-filter (λ (k : ℕ). is_some (get acks k)) players set.rising)

some_is : {A : Type 0} (x y : A) → ◌≡◌ {A = Option A} (Some x) (Some y) → x ≡ y
some_is x y e = cc

-- an acknowledgement more that passes
passes_more : (check : ℕ → List ℕ → Result (Unit {0}) AckError) (m : AckMap) (player : ℕ) (ack : List ℕ) → check player ack ≡ Ok tt → ((q : ℕ) (a : List ℕ) → get m q ≡ Some a → check q a ≡ Ok tt) → (q : ℕ) (a : List ℕ) → get (insert m player ack) q ≡ Some a → check q a ≡ Ok tt
passes_more check m player ack passed all q a there = elim (map.same_key nat_cmp_total nat_cmp-IsAntisymmetric q player) [
  | inl same ↦
      let is : ack ≡ a = some_is ack a (sym (map.get_at nat_cmp_total nat_cmp-IsAntisymmetric m player q ack same) ∙ there) in
      subst (λ (k : ℕ). check k a ≡ Ok tt) (sym same) (subst (λ (b : List ℕ). check player b ≡ Ok tt) is passed)
  | inr apart ↦ all q a (sym (map.get_other nat_cmp_total nat_cmp-IsAntisymmetric m player q ack apart) ∙ there)
]

passed_one : (check : ℕ → List ℕ → Result (Unit {0}) AckError) (m : AckMap) (p : ℕ × List ℕ) (r : Result (Unit {0}) AckError) → check p.0 p.1 ≡ r → ((q : ℕ) (a : List ℕ) → get m q ≡ Some a → check q a ≡ Ok tt) → (q : ℕ) (a : List ℕ) → get (with_passed m p r) q ≡ Some a → check q a ≡ Ok tt
passed_one check m p (Ok tt) is all = passes_more check m p.0 p.1 is all
passed_one check m p (Err error) is all = all

passed_all : (check : ℕ → List ℕ → Result (Unit {0}) AckError) (acks : List (ℕ × List ℕ)) (m : AckMap) → ((q : ℕ) (a : List ℕ) → get m q ≡ Some a → check q a ≡ Ok tt) → (q : ℕ) (a : List ℕ) → get (fold (λ n p. with_passed n p (check p.0 p.1)) m acks) q ≡ Some a → check q a ≡ Ok tt
passed_all check [] m all = all
passed_all check (p ∷ ps) m all = passed_all check ps (with_passed m p (check p.0 p.1)) (passed_one check m p (check p.0 p.1) refl all)

none_empty : (q : ℕ) (a : List ℕ) → ◌≡◌ {A = Option (List ℕ)} None (Some a) → ⊥
none_empty q a e = cc

-- what was replayed passes
pub passing_passes : (check : ℕ → List ℕ → Result (Unit {0}) AckError) (acks : List (ℕ × List ℕ)) (q : ℕ) (a : List ℕ) → get (passing check acks) q ≡ Some a → check q a ≡ Ok tt
passing_passes check acks = passed_all check acks empty (λ q a there. absurd (none_empty q a (sym (get-empty nat_cmp q) ∙ there)))

module _ (deal_of : Round → ℕ → Option ℕ → List ℕ → Result (List ℕ × List (ℕ × ℕ)) DealError) (check_of : Round → ℕ → List ℕ → ℕ → List ℕ → Result (Unit {0}) AckError) where
  -- one more counts
  pub counts_one : (d : Dealer) (player : ℕ) (ack : List ℕ) → check_of d.round d.me d.public player ack ≡ Ok tt → IsDealerOf deal_of check_of d → IsDealerOf deal_of check_of (record d { acks = insert d.acks player ack })
  counts_one d player ack passed is = record {
    among = is.among;
    share = is.share;
    seed = is.seed;
    dealt = is.dealt;
    passed = passes_more (check_of d.round d.me d.public) d.acks player ack passed is.passed;
  }

  -- a dealer that was made, with the acknowledgements that were replayed
  pub made_dealer : (d : Dealer) (share : Option ℕ) (seed : List ℕ) (acks : List (ℕ × List ℕ)) → Contains d.round.dealers d.me → deal_of d.round d.me share seed ≡ Ok (d.public, d.privates) → d.acks ≡ passing (check_of d.round d.me d.public) acks → IsDealerOf deal_of check_of d
  made_dealer d share seed acks among dealt kept = record {
    among = among;
    share = share;
    seed = seed;
    dealt = dealt;
    passed = λ player ack there. passing_passes (check_of d.round d.me d.public) acks player ack (ap (λ (m : AckMap). get m player) (sym kept) ∙ there);
  }

some_of : {A : Type 0} (P : A → Type 0) (o : Option A) → IsSomeAnd o P → is_some o ≡ true
some_of P None has = absurd has
some_of P (Some x) has = refl

either_true : (a b : Bool) → b ≡ true → (a || b) ≡ true
either_true true b is = refl
either_true false b is = is

-- what is dealt has a private half for each player
pub has_entries : {E : Type 0} (P : List ℕ × List (ℕ × ℕ) → ℕ → ℕ → Type 0) (r : Result (List ℕ × List (ℕ × ℕ)) E) (public : List ℕ) (privates : List (ℕ × ℕ)) (players : List ℕ) → r ≡ Ok (public, privates)
    → IfOk r (λ dealt. (me : ℕ) → Contains players me → IsSomeAnd (lookup me dealt.1) (P dealt me)) → (acks : List (ℕ × List ℕ)) (player : ℕ) → Contains players player → has_entry privates acks player ≡ true
has_entries {E} P r public privates players is all acks player plays =
    let each = subst (λ (x : Result (List ℕ × List (ℕ × ℕ)) E). IfOk x (λ dealt. (me : ℕ) → Contains players me → IsSomeAnd (lookup me dealt.1) (P dealt me))) is all in
    either_true (is_some (lookup player acks)) (is_some (lookup player privates)) (some_of (P (public, privates) player) (lookup player privates) (each player plays))

one_unsent : (player : ℕ) (ack : Option (List ℕ)) (private : Option ℕ) (later : List (ℕ × ℕ)) (n : ℕ) → length later ≤ n → length (with_unsent player ack private later) ≤ suc n
one_unsent player (Some ack) private later n le = omega arith
one_unsent player None None later n le = omega arith
one_unsent player None (Some private) later n le = omega arith

-- no more are sent to than play
pub unsent_few : (acks : AckMap) (privates : List (ℕ × ℕ)) (players : List ℕ) → length (unsent acks privates players) ≤ length players
unsent_few acks privates [] = omega arith
unsent_few acks privates (player ∷ players) = one_unsent player (get acks player) (lookup player privates) (unsent acks privates players) (length players) (unsent_few acks privates players)

pub sent_few : (public : List ℕ) (players : List (ℕ × ℕ)) → length (to_send public players) ≡ length players
sent_few public players = length-map players (λ (p : ℕ × ℕ). (p.0, (public, p.1)))
