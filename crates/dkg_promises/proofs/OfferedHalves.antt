-- Halves that were offered stay what the stored share and seed deal in the script's round: so those of one epoch and player are one.
use Rattle.std.proofs.Common.{◌≡◌, ◌⊎◌, inl, inr, ◌<◌, ◌≤◌, ℕ, zero, suc, List, [], ◌∷◌, ◌++◌, Option, Some, Result, Ok, sym, ◌∙◌, ap, subst, arith, append_assoc, append-nil, length}
use Rattle.std.specs.Prelude.{Contains, slice_index_or}
use Rattle.std.specs.List.{AllByRecursion}
use Rattle.std.specs.FinMap.{get}
use Rattle.std.proofs.lemmas.List.Elements.{Contains-append_cases}
use Rattle.dkg_values.specs.Rising.{lookup}
use Rattle.dkg_ceremony.specs.Deals.{deal_of}
use Rattle.dkg_ceremony.specs.declared.deal.DealError.{DealError}
use Rattle.dkg_ceremony.specs.declared.round.RoundParts.{RoundParts as Round}
use Rattle.dkg_infos.specs.declared.entry.Entry.{Entry}
use Rattle.dkg_infos.specs.declared.entry.Entry.TheVariants.{Offer}
use Rattle.dkg_script.specs.Blocks.{round_at}
use Rattle.dkg_script.specs.SameOffers.{SameOffers}
use Rattle.dkg_script.specs.Setting.{Setting, me}
use Rattle.dkg_store.specs.Acts.{Held, World}
use Rattle.dkg_core.specs.Storing.{KeepsSeeds}
use Rattle.dkg_promises.specs.Found.{IsCarriedShare}
use Rattle.dkg_lives.proofs.OpeningsStore.{IsUnoffered, all_joined}
use Rattle.dkg_promises.proofs.Sharing.{one_share}

some_is : {A : Type 0} {x y : A} → ◌≡◌ {A = Option A} (Some x) (Some y) → x ≡ y
some_is e = cc

ok_is : {A : Type 0} {x y : A} → ◌≡◌ {A = Result A DealError} (Ok x) (Ok y) → x ≡ y
ok_is e = cc

contains_all : {A : Type 0} (P : A → Type 0) (xs : List A) (x : A) (k : ℕ) → k < length xs → slice_index_or xs k x ≡ x → AllByRecursion P xs → P x
contains_all P [] x k within is all = absurd (omega (arith, within))
contains_all P (y ∷ ys) x zero within is all = subst P is all.0
contains_all P (y ∷ ys) x (suc k) within is all = contains_all P ys x k (omega (arith, within)) is all.1

pub all_of : {A : Type 0} (P : A → Type 0) (xs : List A) (x : A) → AllByRecursion P xs → Contains xs x → P x
all_of P xs x all its = contains_all P xs x its.0 its.1 its.2 all

-- A HALF that this node's share of the output that the round carries on and the seed of the epoch deal, which is stored
pub record IsDealtAt (s : Setting) (h : Held) (epoch player : ℕ) (public : List ℕ) (private : ℕ) : Type 0 where
  pub round : Round
  pub round_is : round_at s epoch ≡ Some round
  pub share : ℕ
  pub seed : List ℕ
  pub privates : List (ℕ × ℕ)
  pub dealt : deal_of round (me s) (Some share) seed ≡ Ok (public, privates)
  pub half : lookup player privates ≡ Some private
  pub fits : IsCarriedShare (me s) round share
  pub seed_is : get h.secrets.seeds epoch ≡ Some seed

-- there is one
pub one_dealt : (s : Setting) (h : Held) (epoch player : ℕ) (public other_public : List ℕ) (private other_private : ℕ) → IsDealtAt s h epoch player public private → IsDealtAt s h epoch player other_public other_private
    → (public ≡ other_public) × (private ≡ other_private)
one_dealt s h epoch player public other_public private other_private a b = (ap (λ (d : List ℕ × List (ℕ × ℕ)). d.0) same_deal, some_is (sym a.half ∙ ap (λ (d : List ℕ × List (ℕ × ℕ)). lookup player d.1) same_deal ∙ b.half))
  where
    same_round : a.round ≡ b.round
    same_round = some_is (sym a.round_is ∙ b.round_is)

    same_share : a.share ≡ b.share
    same_share = one_share b.round (me s) a.share b.share (subst (λ (r : Round). IsCarriedShare (me s) r a.share) same_round a.fits) b.fits

    same_seed : a.seed ≡ b.seed
    same_seed = some_is (sym a.seed_is ∙ b.seed_is)

    same_deal : ◌≡◌ {A = List ℕ × List (ℕ × ℕ)} (public, a.privates) (other_public, b.privates)
    same_deal = ok_is (sym a.dealt ∙ ap (λ (r : Round). deal_of r (me s) (Some a.share) a.seed) same_round ∙ ap (λ (share : ℕ). deal_of b.round (me s) (Some share) a.seed) same_share
        ∙ ap (λ (seed : List ℕ). deal_of b.round (me s) (Some b.share) seed) same_seed ∙ b.dealt)

-- it stays so where the seed is kept
pub still_dealt : (s : Setting) (most : ℕ) (h : Held) (new : World) (epoch player : ℕ) (public : List ℕ) (private : ℕ) → KeepsSeeds most h new → most ≤ epoch → IsDealtAt s h epoch player public private
    → IsDealtAt s new.held epoch player public private
still_dealt s most h new epoch player public private seeds above its = record {
  round = its.round;
  round_is = its.round_is;
  share = its.share;
  seed = its.seed;
  privates = its.privates;
  dealt = its.dealt;
  half = its.half;
  fits = its.fits;
  seed_is = seeds epoch its.seed above its.seed_is;
}

-- WHAT WAS OFFERED, and what is offered now, from an epoch on

abbrev pub IsOfferedFrom : Setting → (most : ℕ) → Held → Entry → Type 0
IsOfferedFrom s most h (Offer epoch player public private) = most ≤ epoch → IsDealtAt s h epoch player public private
IsOfferedFrom s most h line = Unit {0}

abbrev pub IsOfferedNow : Setting → (most : ℕ) → Held → Entry → Type 0
IsOfferedNow s most h (Offer epoch player public private) = (most ≤ epoch) × IsDealtAt s h epoch player public private
IsOfferedNow s most h line = Unit {0}

pub unoffered_now : (s : Setting) (most : ℕ) (h : Held) (lines : List Entry) → AllByRecursion IsUnoffered lines → AllByRecursion (IsOfferedNow s most h) lines
unoffered_now s most h [] all = tt
unoffered_now s most h (line ∷ lines) all = (one line all.0, unoffered_now s most h lines all.1)
  where
    one : (line : Entry) → IsUnoffered line → IsOfferedNow s most h line
    one (Offer epoch player public private) none = absurd none
    one line none = tt

-- Since these lines each half that was offered to a player of an epoch is one, and those from this epoch on stay what is dealt.
pub record HasOffered (s : Setting) (most : ℕ) (base : List Entry) (w : World) : Type 0 where
  pub added : List Entry
  pub out : w.out ≡ base ++ added
  pub same : SameOffers added
  pub dealt : AllByRecursion (IsOfferedFrom s most w.held) added

none_in : {A B : Type 0} (x : A) → Contains [] x → B
none_in x its = absurd (let below = its.1 in omega (arith, below))

pub nothing_offered : (s : Setting) (most : ℕ) (w : World) → HasOffered s most w.out w
nothing_offered s most w = record {
  added = [];
  out = sym (append-nil w.out);
  same = record { one = λ epoch player public other_public private other_private a b. none_in (Offer epoch player public private) a };
  dealt = tt;
}

-- MORE is offered now, and what is stored is kept from a later epoch on
module _ (s : Setting) (most next : ℕ) (rises : most ≤ next) (base : List Entry) (w new : World) (before : HasOffered s most base w) (lines : List Entry) (out : new.out ≡ w.out ++ lines)
    (seeds : KeepsSeeds next w.held new) (now : AllByRecursion (IsOfferedNow s most w.held) lines) where
  old_still : (line : Entry) → IsOfferedFrom s most w.held line → IsOfferedFrom s next new.held line
  old_still (Offer epoch player public private) was = λ above. still_dealt s next w.held new epoch player public private seeds above (was (omega (arith, rises, above)))
  old_still line was = tt

  all_still : (lines : List Entry) → AllByRecursion (IsOfferedFrom s most w.held) lines → AllByRecursion (IsOfferedFrom s next new.held) lines
  all_still [] all = tt
  all_still (line ∷ lines) all = (old_still line all.0, all_still lines all.1)

  new_still : (line : Entry) → IsOfferedNow s most w.held line → IsOfferedFrom s next new.held line
  new_still (Offer epoch player public private) its = λ above. still_dealt s next w.held new epoch player public private seeds above its.1
  new_still line its = tt

  all_new : (lines : List Entry) → AllByRecursion (IsOfferedNow s most w.held) lines → AllByRecursion (IsOfferedFrom s next new.held) lines
  all_new [] all = tt
  all_new (line ∷ lines) all = (new_still line all.0, all_new lines all.1)

  one_now : (epoch player : ℕ) (public other_public : List ℕ) (private other_private : ℕ) → Contains (before.added ++ lines) (Offer epoch player public private) → Contains (before.added ++ lines) (Offer epoch player other_public other_private)
      → (public ≡ other_public) × (private ≡ other_private)
  one_now epoch player public other_public private other_private a b =
      either (Contains-append_cases before.added lines (Offer epoch player public private) a) (Contains-append_cases before.added lines (Offer epoch player other_public other_private) b)
    where
      at_old : (public : List ℕ) (private : ℕ) → Contains before.added (Offer epoch player public private) → most ≤ epoch → IsDealtAt s w.held epoch player public private
      at_old public private its = all_of (IsOfferedFrom s most w.held) before.added (Offer epoch player public private) before.dealt its

      at_new : (public : List ℕ) (private : ℕ) → Contains lines (Offer epoch player public private) → (most ≤ epoch) × IsDealtAt s w.held epoch player public private
      at_new public private its = all_of (IsOfferedNow s most w.held) lines (Offer epoch player public private) now its

      either : Contains before.added (Offer epoch player public private) ⊎ Contains lines (Offer epoch player public private)
          → Contains before.added (Offer epoch player other_public other_private) ⊎ Contains lines (Offer epoch player other_public other_private) → (public ≡ other_public) × (private ≡ other_private)
      either (inl x) (inl y) = (before.same).one epoch player public other_public private other_private x y
      either (inl x) (inr y) = let its = at_new other_public other_private y in one_dealt s w.held epoch player public other_public private other_private (at_old public private x its.0) its.1
      either (inr x) (inl y) = let its = at_new public private x in one_dealt s w.held epoch player public other_public private other_private its.1 (at_old other_public other_private y its.0)
      either (inr x) (inr y) = one_dealt s w.held epoch player public other_public private other_private (at_new public private x).1 (at_new other_public other_private y).1

  pub more_offered : HasOffered s next base new
  more_offered = record {
    added = before.added ++ lines;
    out = out ∙ ap (λ (xs : List Entry). xs ++ lines) before.out ∙ append_assoc base before.added lines;
    same = record { one = one_now };
    dealt = all_joined (IsOfferedFrom s next new.held) before.added lines (all_still before.added before.dealt) (all_new lines now);
  }
