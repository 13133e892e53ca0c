-- What is dealt passes the check.
use Rattle.std.proofs.Common.{◌≡◌, ℕ, zero, suc, ◌+◌, ◌-◌, ◌<◌, ◌≤◌, ◌^◌, Bool, true, false, cond, eqb, List, [], ◌∷◌, ◌++◌, length, get_or, take, map, Option, Some, None, is_some, Ok, Err, inl, inr, refl, sym, ap, subst, ◌∙◌, add-one, arith}
use Rattle.std.specs.Prelude.{◌↔◌, option_map, IfSome, Contains, IfErr, IfOk, IsOk, IsSomeAnd, not}
use Rattle.std.specs.List.{position_from, range_with_len}
use Rattle.std.specs.List.Sorted.{IsStrictlyIncreasing}
use Rattle.std.proofs.Math.Nat.{max-eq_left}
use Rattle.std.proofs.lemmas.Bool.{cases_Bool, eq-eqb, eqb-true}
use Rattle.std.proofs.lemmas.List.{take_all}
use Rattle.std.proofs.lemmas.List.FromFn.{length-map-range_with_len}
use Rattle.dkg_values.specs.Rising.{IsSet, keys_of, lookup, index_of}
use Rattle.dkg_values.specs.IndexLaws.{index_of-Contains}
use Rattle.dkg_ceremony.specs.declared.round.RoundParts.{RoundParts as Round}
use Rattle.dkg_ceremony.specs.declared.output.Output.{Output}
use Rattle.dkg_ceremony.specs.declared.deal.DealError.TheVariants.{ShareRefused}
use Rattle.dkg_ceremony.specs.Polynomials.{value_at}
use Rattle.dkg_ceremony.specs.Thresholds.{quorum_of}
use Rattle.dkg_ceremony.specs.Dealings.{dealing_of, fits_at, reshares}
use Rattle.dkg_ceremony.specs.PartialPublics.{partial_public_of, share_public_of}
use Rattle.dkg_ceremony.specs.Deals.{again_of, both_halves, deal_of, dealt_at, dealt_length, dealt_poly, halves_from, is_share_of}

pub keys_of_halves : (poly : List ℕ) (index : ℕ) (players : List ℕ) → keys_of (halves_from poly index players) ≡ players
keys_of_halves poly index [] = refl
keys_of_halves poly index (player ∷ players) = ap (λ (ks : List ℕ). player ∷ ks) (keys_of_halves poly (index + 1) players)

length_halves : (poly : List ℕ) (index : ℕ) (players : List ℕ) → length (halves_from poly index players) ≡ length players
length_halves poly index [] = refl
length_halves poly index (player ∷ players) = ap suc (length_halves poly (index + 1) players)

halves_step : (poly : List ℕ) (index : ℕ) (players : List ℕ) (i d : ℕ) → i < length players → halves_from poly index (take (suc i) players) ≡ halves_from poly index (take i players) ++ (get_or players i d, value_at poly (index + i + 1)) ∷ []
halves_step poly index [] i d lt = absurd (omega arith)
halves_step poly index (player ∷ players) zero d lt = ap (λ (x : ℕ). (player, value_at poly (x + 1)) ∷ []) (omega arith)
halves_step poly index (player ∷ players) (suc i) d lt =
    let next : index + suc i ≡ index + 1 + i = omega arith in
    ap (λ (ps : List (ℕ × ℕ)). (player, value_at poly (index + 1)) ∷ ps) (halves_step poly (index + 1) players i d (omega arith) ∙ ap (λ (x : ℕ). halves_from poly (index + 1) (take i players) ++ (get_or players i d, value_at poly (x + 1)) ∷ []) (sym next))

-- the private half of one player more
pub halves_more : (poly players : List ℕ) (i player value : ℕ) → i < length players → player ≡ get_or players i player → value ≡ value_at poly (i + 1) → halves_from poly 0 (take (i + 1) players) ≡ halves_from poly 0 (take i players) ++ (player, value) ∷ []
halves_more poly players i player value lt is at =
    let same : (player, value) ≡ (get_or players i player, value_at poly (0 + i + 1)) = let zero_less : 0 + i ≡ i = omega arith in cc in
    rw add-one (halves_step poly 0 players i player lt ∙ ap (λ (p : ℕ × ℕ). halves_from poly 0 (take i players) ++ p ∷ []) (sym same))

-- Where all players were gone through, their keys rise.
pub record AreHalves (poly players : List ℕ) (pairs : List (ℕ × ℕ)) : Type 0 where
  pub all : pairs ≡ halves_from poly 0 players
  pub in_bound : length pairs < 2 ^ 32
  pub rising : IsStrictlyIncreasing (keys_of pairs)

pub are_halves : (poly players : List ℕ) (pairs : List (ℕ × ℕ)) (i : ℕ) → IsSet players → length players ≤ i → pairs ≡ halves_from poly 0 (take i players) → AreHalves poly players pairs
are_halves poly players pairs i kept le is =
    let whole : pairs ≡ halves_from poly 0 players = is ∙ ap (halves_from poly 0) (take_all i players le) in
    record {
      all = whole;
      in_bound = omega (arith, ap length whole, length_halves poly 0 players, kept.in_bound);
      rising = subst (λ (ps : List (ℕ × ℕ)). IsStrictlyIncreasing (keys_of ps)) (sym whole) (subst IsStrictlyIncreasing (sym (keys_of_halves poly 0 players)) kept.rising);
    }

-- ---- what is dealt passes the check

pub found_index : (o : Option ℕ) → is_some o ≡ true → (index : ℕ) × (o ≡ Some index)
found_index None e = absurd cc
found_index (Some index) e = (index, refl)

index_is : (key : ℕ) (keys : List ℕ) → Contains keys key → (index : ℕ) × (index_of key keys ≡ Some index)
index_is key keys c = found_index (index_of key keys) (index_of-Contains key keys c)

half_at : (poly : List ℕ) (base : ℕ) (players : List ℕ) (player index : ℕ) → position_from (λ x. eqb x player) base players ≡ Some index → lookup player (halves_from poly base players) ≡ Some (value_at poly (index + 1))
half_at poly base [] player index e = absurd cc
half_at poly base (x ∷ xs) player index e =
    elim (cases_Bool (eqb x player)) [
      | inl here ↦
          let at : Some base ≡ Some index = rw here at e in
          let same : base ≡ index = cc in
          rw here (ap (λ (n : ℕ). Some (value_at poly (n + 1))) same)
      | inr other ↦ rw other (half_at poly (base + 1) xs player index (rw other at e))
    ]

-- the check, part by part
pub record DealingPasses (round : Round) (me dealer : ℕ) (public : List ℕ) (private : ℕ) : Type 0 where
  pub dealer_there : is_some (index_of dealer round.dealers) ≡ true
  pub degree : length public ≡ quorum_of (length round.players)
  pub again : reshares round.previous dealer public ≡ true
  pub fits : fits_at (index_of me round.players) public private ≡ true

pub dealing_passes : (round : Round) (me dealer : ℕ) (public : List ℕ) (private : ℕ) → DealingPasses round me dealer public private → dealing_of round me dealer public private ≡ Ok tt
unfolding dealing_of
dealing_passes round me dealer public private p = let long = eq-eqb (length public) (quorum_of (length round.players)) p.degree in rw (p.dealer_there, long, p.again, p.fits) refl

first_dealt : (share : ℕ) (seed : List ℕ) (count : ℕ) → 0 < count → dealt_poly (Some share) seed count ≡ share ∷ map (dealt_at (Some share) seed) (range_with_len (0 + 1) (count - 1))
first_dealt share seed zero lt = absurd (omega arith)
first_dealt share seed (suc n) lt = let less : suc n - 1 ≡ n = omega arith in rw less refl

dealt_again : (previous : Option Output) (dealer : ℕ) (share : Option ℕ) (seed : List ℕ) (count : ℕ) → 0 < count → is_share_of previous dealer share ≡ true → reshares previous dealer (dealt_poly (again_of previous share) seed count) ≡ true
dealt_again None dealer share seed count lt e = refl
dealt_again (Some o) dealer None seed count lt e = absurd cc
dealt_again (Some o) dealer (Some share) seed count lt e = rw (first_dealt share seed count lt) e

-- each player finds its private half, with which it passes
abbrev pub Deal : Type 0
Deal = List ℕ × List (ℕ × ℕ)

halves_pass : (round : Round) (signer : ℕ) (share : Option ℕ) (seed : List ℕ) → Contains round.dealers signer → is_share_of round.previous signer share ≡ true → (me : ℕ) → Contains round.players me
    → IsSomeAnd (lookup me (halves_from (dealt_poly (again_of round.previous share) seed (dealt_length (length round.players))) 0 round.players)) (λ private. dealing_of round me signer (dealt_poly (again_of round.previous share) seed (dealt_length (length round.players))) private ≡ Ok tt)
halves_pass round signer share seed is_dealer ok me (k, lt, is) =
    let count = dealt_length (length round.players) in
    let poly = dealt_poly (again_of round.previous share) seed count in
    let index = index_is me round.players (k, lt, is) in
    let some : 0 < quorum_of (length round.players) = omega arith in
    let enough : dealt_length (length round.players) ≡ quorum_of (length round.players) = let least : 1 ≤ quorum_of (length round.players) = omega arith in max-eq_left least in
    let more : 0 < count = omega (arith, enough, some) in
    let passes : dealing_of round me signer poly (value_at poly (index.0 + 1)) ≡ Ok tt = dealing_passes round me signer poly (value_at poly (index.0 + 1)) (record {
      dealer_there = index_of-Contains signer round.dealers is_dealer;
      degree = length-map-range_with_len (dealt_at (again_of round.previous share) seed) 0 count ∙ enough;
      again = dealt_again round.previous signer share seed count more ok;
      fits = rw (index.1) (eq-eqb (value_at poly (index.0 + 1)) (value_at poly (index.0 + 1)) refl);
    }) in
    rw (half_at poly 0 round.players me index.0 index.1) passes

deal_where : (round : Round) (signer : ℕ) (share : Option ℕ) (seed : List ℕ) → Contains round.dealers signer → (b : Bool) → is_share_of round.previous signer share ≡ b
    → IfOk (cond (not b) (Err ShareRefused) (Ok (both_halves (dealt_poly (again_of round.previous share) seed (dealt_length (length round.players))) round.players))) (λ d. (me : ℕ) → Contains round.players me → IsSomeAnd (lookup me d.1) (λ private. dealing_of round me signer d.0 private ≡ Ok tt))
deal_where round signer share seed is_dealer true e = halves_pass round signer share seed is_dealer e
deal_where round signer share seed is_dealer false e = tt

-- what a dealer deals passes each player's check
pub deals_pass : (round : Round) (signer : ℕ) (share : Option ℕ) (seed : List ℕ) → Contains round.dealers signer
    → IfOk (deal_of round signer share seed) (λ d. (me : ℕ) → Contains round.players me → IsSomeAnd (lookup me d.1) (λ private. dealing_of round me signer d.0 private ≡ Ok tt))
unfolding deal_of
deals_pass round signer share seed is_dealer = deal_where round signer share seed is_dealer (is_share_of round.previous signer share) refl

-- ---- how long a public half is

long_dealt : (count n : ℕ) → 1 ≤ n → count ≤ n → dealt_length count ≤ n
long_dealt zero n one few = let is : dealt_length 0 ≡ 1 = refl in omega (arith, one, is)
long_dealt (suc k) n one few =
    let least : 1 ≤ quorum_of (suc k) = omega arith in
    let is : dealt_length (suc k) ≡ quorum_of (suc k) = max-eq_left least in
    omega (arith, is, few)

short_where : (round : Round) (share : Option ℕ) (seed : List ℕ) (b : Bool)
    → IfOk (cond (not b) (Err ShareRefused) (Ok (both_halves (dealt_poly share seed (dealt_length (length round.players))) round.players))) (λ d. (n : ℕ) → 1 ≤ n → length round.players ≤ n → length d.0 ≤ n)
short_where round share seed true = λ n one few.
    let long : dealt_length (length round.players) ≤ n = long_dealt (length round.players) n one few in
    let is = length-map-range_with_len (dealt_at share seed) 0 (dealt_length (length round.players)) in
    omega (arith, is, long)
short_where round share seed false = tt

-- a public half has no more coefficients than there are players, or one
pub deals_are_short : (round : Round) (signer : ℕ) (share : Option ℕ) (seed : List ℕ)
    → IfOk (deal_of round signer share seed) (λ d. (n : ℕ) → 1 ≤ n → length round.players ≤ n → length d.0 ≤ n)
unfolding deal_of
deals_are_short round signer share seed = short_where round (again_of round.previous share) seed (is_share_of round.previous signer share)

-- ---- who may deal

held : (o : Output) (signer share : ℕ) → (index : Option ℕ) → (fits_at index o.sharing.poly share ≡ true) ↔ (option_map (λ n. value_at o.sharing.poly (n + 1)) index ≡ Some share)
held o signer share None = (λ e. absurd cc, λ e. absurd cc)
held o signer share (Some index) = (λ e. ap (λ (n : ℕ). Some n) (sym (eqb-true share (value_at o.sharing.poly (index + 1)) e)), λ e. eq-eqb share (value_at o.sharing.poly (index + 1)) (let same : value_at o.sharing.poly (index + 1) ≡ share = cc in sym same))

abbrev pub HasShare : Option Output → (signer : ℕ) → Option ℕ → Type 0
HasShare previous signer share = IfSome previous (λ o. IsSomeAnd share (λ s. partial_public_of o signer ≡ Some (share_public_of s)))

has_share : (previous : Option Output) (signer : ℕ) (share : Option ℕ) → (is_share_of previous signer share ≡ true) ↔ HasShare previous signer share
unfolding partial_public_of
has_share None signer share = (λ e. tt, λ h. refl)
has_share (Some o) signer None = (λ e. absurd cc, λ h. absurd h)
has_share (Some o) signer (Some share) = held o signer share (index_of signer o.players)

not_refused : (b : Bool) (dealt : Deal) → (cond (not b) (Err ShareRefused) (Ok dealt) ≡ Err ShareRefused → ⊥) ↔ (b ≡ true)
not_refused true dealt = (λ h. refl, λ e is. cc)
not_refused false dealt = (λ h. absurd (h refl), λ e is. cc)

-- a dealing is there just where there is a share to deal, or none is needed
is_dealt : (b : Bool) (dealt : Deal) → IsOk (cond (not b) (Err ShareRefused) (Ok dealt)) ↔ (b ≡ true)
is_dealt true dealt = (λ h. refl, λ e. refl)
is_dealt false dealt = (λ h. h, λ e. e)

pub holders_deal : (round : Round) (signer : ℕ) (share : Option ℕ) (seed : List ℕ) → IsOk (deal_of round signer share seed) ↔ HasShare round.previous signer share
unfolding deal_of
holders_deal round signer share seed =
    let one = is_dealt (is_share_of round.previous signer share) (both_halves (dealt_poly (again_of round.previous share) seed (dealt_length (length round.players))) round.players) in
    let two = has_share round.previous signer share in
    (λ h. two.0 (one.0 h), λ h. one.1 (two.1 h))

share_refused : (b : Bool) (dealt : Deal) → IfErr (cond (not b) (Err ShareRefused) (Ok dealt)) (λ e. e ≡ ShareRefused)
share_refused true dealt = tt
share_refused false dealt = refl

-- nothing else keeps a dealer from dealing
pub only_shares_are_refused : (round : Round) (signer : ℕ) (share : Option ℕ) (seed : List ℕ) → IfErr (deal_of round signer share seed) (λ e. e ≡ ShareRefused)
unfolding deal_of
only_shares_are_refused round signer share seed =
    share_refused (is_share_of round.previous signer share) (both_halves (dealt_poly (again_of round.previous share) seed (dealt_length (length round.players))) round.players)

pub shares_are_dealt : (round : Round) (signer : ℕ) (share : Option ℕ) (seed : List ℕ) → (deal_of round signer share seed ≡ Err ShareRefused → ⊥) ↔ HasShare round.previous signer share
unfolding deal_of
shares_are_dealt round signer share seed =
    let one = not_refused (is_share_of round.previous signer share) (both_halves (dealt_poly (again_of round.previous share) seed (dealt_length (length round.players))) round.players) in
    let two = has_share round.previous signer share in
    (λ h. two.0 (one.0 h), λ h. one.1 (two.1 h))
