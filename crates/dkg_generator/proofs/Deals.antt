-- Each key deals with its share, and each player finds a private half.
use Rattle.std.proofs.Common.{◌≡◌, ℕ, true, List, Option, Some, None, Ok, Err, Result, refl, sym, ap, subst, ◌∙◌, map}
use Rattle.std.specs.Prelude.{Contains, IfOk, IsSome, IsSomeAnd, is_some, option_map}
use Rattle.dkg_values.specs.IndexLaws.{index_of-Contains}
use Rattle.dkg_values.specs.Rising.{lookup, map_of, index_of}
use Rattle.dkg_ceremony.specs.declared.deal.DealError.{DealError}
use Rattle.dkg_ceremony.specs.declared.deal.DealError.TheVariants.{ShareRefused}
use Rattle.dkg_ceremony.specs.declared.output.Output.{Output}
use Rattle.dkg_ceremony.specs.DealLaws.{deals_pass, shares_are_dealt}
use Rattle.dkg_ceremony.specs.Dealings.{dealing_of}
use Rattle.dkg_ceremony.specs.Deals.{deal_of}
use Rattle.dkg_ceremony.specs.PartialPublics.{partial_public_of}
use Rattle.dkg_generator.specs.Chain.{Halves, everybody, halves_of, round_after}
use Rattle.dkg_generator.specs.Made.{Shown}

nothing_mapped : (f : ℕ → ℕ) (o : Option ℕ) → is_some o ≡ true → option_map f o ≡ None → ⊥
nothing_mapped f None some none = cc
nothing_mapped f (Some x) some none = cc

-- whoever takes part has a share
pub has_share : (output : Output) (key : ℕ) → output.players ≡ everybody → Contains everybody key → partial_public_of output key ≡ None → ⊥
unfolding partial_public_of
has_share output key holders holder none =
    let there : is_some (index_of key output.players) ≡ true = subst (λ (players : List ℕ). is_some (index_of key players) ≡ true) (sym holders) (index_of-Contains key everybody holder) in
    nothing_mapped _ (index_of key output.players) there none

pub not_refused : (shown : Shown) (key share : ℕ) (seed : List ℕ) → partial_public_of shown.output key ≡ Some share → deal_of (round_after shown) key (Some share) seed ≡ Err ShareRefused → ⊥
not_refused shown key share seed is refused = (shares_are_dealt (round_after shown) key (Some share) seed).1 is refused

pub halves_are : (shown : Shown) (key share : ℕ) (seed : List ℕ) (halves : Halves) → partial_public_of shown.output key ≡ Some share → deal_of (round_after shown) key (Some share) seed ≡ Ok halves → halves ≡ halves_of shown key seed
unfolding halves_of
halves_are shown key share seed halves is e = rw (is, e) refl

some_of : {A : Type 0} (P : A → Type 0) (o : Option A) → IsSomeAnd o P → IsSome o
some_of P None h = absurd h
some_of P (Some x) h = refl

pub halves_whole : (shown : Shown) (key share : ℕ) (seed : List ℕ) (halves : Halves) → Contains everybody key → deal_of (round_after shown) key (Some share) seed ≡ Ok halves → (player : ℕ) → Contains everybody player → IsSome (lookup player halves.1)
halves_whole shown key share seed halves holder e player plays =
    let Passes : Result Halves DealError → Type 0 = λ r. IfOk r (λ d. (me : ℕ) → Contains everybody me → IsSomeAnd (lookup me d.1) (λ private. dealing_of (round_after shown) me key d.0 private ≡ Ok tt)) in
    let pass = subst Passes e (deals_pass (round_after shown) key (Some share) seed holder) in
    some_of _ (lookup player halves.1) (pass player plays)

-- the keys of all rise
pub in_order : (f : ℕ → List ℕ) → map_of (map (λ player. (player, f player)) everybody) ≡ map (λ player. (player, f player)) everybody
in_order f = refl
