-- A share with which something is dealt is this node's of the output that the round carries on; such a share isn't refused, and there is one of them.
use Rattle.std.proofs.Common.{◌≡◌, ℕ, Bool, true, false, List, Option, Some, None, Result, Ok, Err, refl, sym, ◌∙◌, subst, length}
use Rattle.std.specs.Prelude.{IfSome, IsSomeAnd, if◌then◌else◌, not}
use Rattle.dkg_ceremony.specs.DealLaws.{HasShare, shares_are_dealt}
use Rattle.dkg_ceremony.specs.Deals.{again_of, both_halves, deal_of, dealt_length, dealt_poly, is_share_of}
use Rattle.dkg_ceremony.specs.PartialPublics.{partial_public_of, share_public_of}
use Rattle.dkg_ceremony.specs.declared.deal.DealError.{DealError}
use Rattle.dkg_ceremony.specs.declared.deal.DealError.TheVariants.{ShareRefused}
use Rattle.dkg_ceremony.specs.declared.output.Output.{Output}
use Rattle.dkg_ceremony.specs.declared.round.RoundParts.{RoundParts as Round}
use Rattle.dkg_promises.specs.Found.{IsCarriedShare}

ok_err : {A E : Type 0} {x : A} {e : E} → ◌≡◌ {A = Result A E} (Ok x) (Err e) → ⊥
ok_err is = cc

-- what fits an output
abbrev FitsOutput : (me share : ℕ) → Output → Type 0
FitsOutput me share output = partial_public_of output me ≡ Some (share_public_of share)

pub fits_dealt : (round : Round) (me share : ℕ) (seed : List ℕ) (dealt : List ℕ × List (ℕ × ℕ)) (output : Output) → round.previous ≡ Some output → deal_of round me (Some share) seed ≡ Ok dealt → IsCarriedShare me round share
fits_dealt round me share seed dealt output carries deals =
    subst (λ (o : Option Output). IsSomeAnd o (FitsOutput me share)) (sym carries)
    (subst (λ (o : Option Output). IfSome o (λ output. IsSomeAnd (Some share) (λ s. FitsOutput me s output))) carries ((shares_are_dealt round me (Some share) seed).0 never))
  where
    never : deal_of round me (Some share) seed ≡ Err ShareRefused → ⊥
    never refused = let wrong : ◌≡◌ {A = Result (List ℕ × List (ℕ × ℕ)) DealError} (Ok dealt) (Err ShareRefused) = sym deals ∙ refused in cc

-- it is refused for one reason
deal_errs : (round : Round) (signer : ℕ) (share : Option ℕ) (seed : List ℕ) (why : DealError) → deal_of round signer share seed ≡ Err why → deal_of round signer share seed ≡ Err ShareRefused
unfolding deal_of
deal_errs round signer share seed why is = by_test (is_share_of round.previous signer share) is
  where
    by_test : (t : Bool) → (if not t then Err ShareRefused else Ok (both_halves (dealt_poly (again_of round.previous share) seed (dealt_length (length round.players))) round.players)) ≡ Err why
        → (if not t then Err ShareRefused else Ok (both_halves (dealt_poly (again_of round.previous share) seed (dealt_length (length round.players))) round.players)) ≡ Err ShareRefused
    by_test true e = absurd (ok_err e)
    by_test false e = refl

pub carried_serves : (round : Round) (me share : ℕ) (seed : List ℕ) (why : DealError) → IsCarriedShare me round share → deal_of round me (Some share) seed ≡ Err why → ⊥
carried_serves round me share seed why carried deals = (shares_are_dealt round me (Some share) seed).1 (has round.previous carried) (deal_errs round me (Some share) seed why deals)
  where
    has : (o : Option Output) → IsSomeAnd o (FitsOutput me share) → HasShare o me (Some share)
    has None none = tt
    has (Some output) fits = fits

pub one_share : (round : Round) (me share other : ℕ) → IsCarriedShare me round share → IsCarriedShare me round other → share ≡ other
one_share round me share other = by_previous round.previous
  where
    the_same : {x y : ℕ} → ◌≡◌ {A = Option ℕ} (Some x) (Some y) → x ≡ y
    the_same e = cc

    by_previous : (o : Option Output) → IsSomeAnd o (FitsOutput me share) → IsSomeAnd o (FitsOutput me other) → share ≡ other
    by_previous None one two = absurd one
    by_previous (Some output) one two = the_same (sym one ∙ two)
