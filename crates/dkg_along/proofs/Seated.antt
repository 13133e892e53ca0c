-- Recorded dealings of the epoch in which a life plays pass, and so does what it deals to itself.
use Rattle.std.proofs.Common.{◌≡◌, inl, inr, ℕ, suc, ◌<◌, true, List, [], ◌∷◌, Option, Some, sym, subst, ◌∙◌, arith, length}
use Rattle.std.specs.Prelude.{Contains, Ok}
use Rattle.dkg_values.specs.IndexLaws.{index_of-Contains}
use Rattle.dkg_ceremony.specs.Dealings.{dealing_of}
use Rattle.dkg_ceremony.specs.declared.round.RoundParts.{RoundParts as Round}
use Rattle.dkg_script.specs.Setting.{Setting, me}
use Rattle.dkg_core.specs.Fixed.{Fixed, has}
use Rattle.dkg_core.specs.Asked.{OfShares}
use Rattle.dkg_core.specs.Forms.{IsForm, IsMine}
use Rattle.dkg_core.specs.Laws.{IsAmong}
use Rattle.dkg_core.specs.Live.{Live}
use Rattle.dkg_core.specs.Through.{IsLiveThrough}
use Rattle.dkg_lives.proofs.Heard.{Knows}
use Rattle.dkg_lives.proofs.NoOthers.{IsOwnDealt}

some_is : {A : Type 0} (x y : A) → ◌≡◌ {A = Option A} (Some x) (Some y) → x ≡ y
some_is x y e = cc

-- WHAT IT DEALS TO ITSELF

among_has : (key : ℕ) (keys : List ℕ) → IsAmong key keys → Contains keys key
among_has key [] there = absurd there
among_has key (x ∷ xs) (inl is) = (0, omega arith, is)
among_has key (x ∷ xs) (inr there) = let c = among_has key xs there in let less : c.0 < length xs = c.1 in (suc c.0, omega (arith, less), c.2)

pub own_valid : {Dir : Type 0} (c : Fixed Dir) (stored : OfShares) (s : Setting) (st : Live Dir) (key : ℕ × ℕ) (pair : List ℕ × ℕ) → IsForm c → IsLiveThrough c stored st → Knows c s → (its : IsOwnDealt c st key pair)
    → dealing_of its.round (me s) (me s) pair.0 pair.1 ≡ Ok tt
own_valid {Dir} c stored s st key pair form live knows its = as_known (subst (λ (public : List ℕ). c.rules.dealing_of its.round c.me c.me public pair.1 ≡ Ok tt) (sym its.public)
    (subst (λ (r : Round). c.rules.dealing_of r c.me c.me (its.dealer).public pair.1 ≡ Ok tt) same_round
    (form.ceremony.deals_pass mine.0 mine.2.share mine.2.seed (its.dealer).public (its.dealer).privates pair.1 mine.2.member plays mine.2.dealt its.private)))
  where
    mine : (round : Round) × (st.participation.round ≡ Some round) × IsMine c round st.participation.stage its.dealer
    mine = (live.stands).mine its.dealer its.of_dealer

    same_round : mine.0 ≡ its.round
    same_round = some_is mine.0 its.round (sym mine.1 ∙ its.of_epoch)

    plays : has (mine.0).players c.me ≡ true
    plays = index_of-Contains c.me (mine.0).players (among_has c.me (mine.0).players (subst (λ (r : Round). IsAmong c.me r.players) (sym same_round) its.plays))

    as_known : c.rules.dealing_of its.round c.me c.me pair.0 pair.1 ≡ Ok tt → dealing_of its.round (me s) (me s) pair.0 pair.1 ≡ Ok tt
    as_known is = rw (knows.rules_are, knows.me_is) at is
