-- A life's player, between two calls.
use Rattle.std.proofs.Common.{◌≡◌, ℕ, Option, Some, None, Result, Ok, Err, sym, ◌∙◌, ap, subst}
use Rattle.std.specs.Prelude.{IfSome, OnOk, option_map, if◌then◌else◌}
use Rattle.dkg_ceremony.specs.declared.round.RoundParts.{RoundParts as Round}
use Rattle.dkg_store.specs.declared.player.Player.{Player}
use Rattle.dkg_life.specs.declared.life.Life.{Life}
use Rattle.dkg_life.specs.declared.life.Stage.{Stage}
use Rattle.dkg_life.specs.declared.life.Stage.TheVariants.{Dealing, Including, Following}
use Rattle.dkg_life.specs.Heard.{round_dealt}
use Rattle.dkg_life.specs.LiveOf.{Sits, SitsAt, SitsIn}
use Rattle.dkg_life.specs.Rules.{AckOf}
use Rattle.dkg_life.specs.Steps.{is_dealing}

pub at_some : {A : Type 0} (P : A → Type 0) (o : Option A) (x : A) → o ≡ Some x → IfSome o P → P x
at_some {A} P o x is h = let Q : Option A → Type 0 = λ q. IfSome q P in subst Q is h

pub on_ok : {T E P : Type 0} (r : Result T E) → P → OnOk r P
on_ok (Ok x) p = p
on_ok (Err e) p = tt

pub same_some : {A : Type 0} (x y : A) → ◌≡◌ {A = Option A} (Some x) (Some y) → x ≡ y
same_some x y e = cc

number_in : (s : Stage) (o : Option Round) (epoch : ℕ) (round : Round) → (if is_dealing s then option_map (λ r. r.number) o else None) ≡ Some epoch → o ≡ Some round → epoch ≡ round.number
number_in Dealing o epoch round dealt has = same_some epoch round.number (sym dealt ∙ ap (λ (q : Option Round). option_map (λ r. r.number) q) has)
number_in Including o epoch round dealt has = absurd cc
number_in Following o epoch round dealt has = absurd cc

module _ {Dir : Type 0} (ack_of : AckOf) (me its : ℕ) (life : Life Dir) (player : Player) (sits : Sits ack_of me life player) (mine : me ≡ its) where
  -- a player of the round that is dealt
  pub sits_at : (epoch : ℕ) → round_dealt life ≡ Some epoch → SitsAt ack_of its epoch life.store player
  sits_at epoch dealt = record {
    number = number_in life.stage life.round epoch sits.round dealt sits.has ∙ ap (λ (r : Round). r.number) (sym sits.sits.round_is);
    sits = subst (λ (r : Round). SitsIn ack_of its life.store r player) (sym sits.sits.round_is) (subst (λ (k : ℕ). SitsIn ack_of k life.store sits.round player) mine sits.sits);
  }

  pub round_is : (round : Round) → life.round ≡ Some round → round ≡ player.round
  round_is round has = same_some round sits.round (sym has ∙ sits.has) ∙ sym sits.sits.round_is

-- A player of a life's round sits in it.
pub seated_in : {Dir : Type 0} (ack_of : AckOf) (me : ℕ) (life : Life Dir) (round : Round) → life.round ≡ Some round → (player : Option Player)
    → IfSome player (SitsIn ack_of me life.store round) → IfSome player (Sits ack_of me life)
seated_in ack_of me life round has None sits = tt
seated_in ack_of me life round has (Some player) sits = record { round = round; has = has; sits = sits }
