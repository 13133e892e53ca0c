-- A player that has acknowledged nothing, and what a recording leaves.
use Rattle.std.proofs.Common.{◌≡◌, inr, ℕ, List, Option, Some, None, Result, Err, IsErr, Contains, IfSome, IsSome, refl, ap, subst, sym, ◌∙◌}
use Rattle.dkg_ceremony.specs.declared.ceremony.DealingError.{DealingError}
use Rattle.dkg_journal.specs.Journals.{IsOpen}
use Rattle.dkg_journal.specs.Names.{Files}
use Rattle.dkg_journal.specs.declared.journal.Journal.{Journal}
use Rattle.dkg_example.specs.declared.Answer.TheVariants.{Block}
use Rattle.std.specs.FinMap.{FinMap, get, insert, empty, get-empty}
use Rattle.std.specs.Ordering.{nat_cmp}
use Rattle.dkg_ceremony.specs.declared.round.RoundParts.{RoundParts as Round}
use Rattle.dkg_store.specs.Pairs.{Pairs}
use Rattle.dkg_store.specs.Player.{Acknowledges, IsPlayerOf}
use Rattle.dkg_store.specs.declared.player.Player.{Player}
use Rattle.dkg_store.proofs.Pairs.{get_other}
use Rattle.dkg_store.proofs.Playing.{not_none}
use Rattle.dkg_example.specs.Sent.{IsFair, IsNodePlaying}
use Rattle.dkg_example.specs.declared.Node.{Node}

none_kept : (acks : FinMap nat_cmp (List ℕ)) (dealer : ℕ) → acks ≡ empty → get acks dealer ≡ None
none_kept acks dealer none = ap (λ (m : FinMap nat_cmp (List ℕ)). get m dealer) none ∙ get-empty nat_cmp dealer

fresh : (ack_of : ℕ → Round → ℕ → List ℕ → List ℕ) (me : ℕ) (round : Round) (acks : FinMap nat_cmp (List ℕ)) (pairs : Pairs) (epoch : ℕ) → acks ≡ empty → IsPlayerOf ack_of me round acks pairs epoch
fresh ack_of me round acks pairs epoch none = record { kept = λ dealer ack is. let not : get acks dealer ≡ None = none_kept acks dealer none in cc }

playing : (ack_of : ℕ → Round → ℕ → List ℕ → List ℕ) (me : ℕ) (round : Round) (node : Node) → node.player.me ≡ me → node.player.round ≡ round → node.player.acks ≡ empty → Contains round.players me
    → IsNodePlaying ack_of node
playing ack_of me round node mine its none sits = record {
  seated = subst (λ (n : ℕ). Contains node.player.round.players n) (sym mine) (subst (λ (r : Round). Contains r.players me) (sym its) sits);
  answers = fresh ack_of node.player.me node.player.round node.player.acks node.store.dealings node.epoch none;
}

-- a player that has acknowledged nothing is one of any recorded dealings, and sits in its round
pub fresh_player : (ack_of : ℕ → Round → ℕ → List ℕ → List ℕ) (me : ℕ) (round : Round) (made : Option Player) (node : Node)
    → made ≡ Some node.player → IfSome made (λ p. p.me ≡ me) → IfSome made (λ p. p.round ≡ round) → IfSome made (λ p. p.acks ≡ empty) → Contains round.players me → IsNodePlaying ack_of node
fresh_player ack_of me round made node is mine its none sits = playing ack_of me round node (subst (λ (m : Option Player). IfSome m (λ p. p.me ≡ me)) is mine)
    (subst (λ (m : Option Player). IfSome m (λ p. p.round ≡ round)) is its) (subst (λ (m : Option Player). IfSome m (λ p. p.acks ≡ empty)) is none) sits

-- what is recorded stays where another's dealing is
pub added : (pairs : Pairs) (key : ℕ × ℕ) (pair : List ℕ × ℕ) (epoch dealer : ℕ) → get pairs key ≡ None → IsSome (get pairs (epoch, dealer)) → get (insert pairs key pair) (epoch, dealer) ≡ get pairs (epoch, dealer)
added pairs key pair epoch dealer none there =
    get_other pairs key (epoch, dealer) pair (λ e. not_none (get pairs (epoch, dealer)) there (ap (λ (k : ℕ × ℕ). get pairs k) e ∙ none))

-- the node still plays, behind a message
pub plays_on : (ack_of : ℕ → Round → ℕ → List ℕ → List ℕ) (old new : Node) → new.player.me ≡ old.player.me → new.player.round ≡ old.player.round → IsNodePlaying ack_of old
    → IsPlayerOf ack_of new.player.me new.player.round new.player.acks new.store.dealings new.epoch → IsNodePlaying ack_of new
plays_on ack_of old new mine its playing answers = record {
  seated = subst (λ (n : ℕ). Contains new.player.round.players n) (sym mine) (subst (λ (r : Round). Contains r.players old.player.me) (sym its) playing.seated);
  answers = answers;
}

-- An acknowledgement of the node that it was is one of the node that it is.
pub sent_by : (ack_of : ℕ → Round → ℕ → List ℕ → List ℕ) (me its : ℕ) (round other : Round) (pairs : Pairs) (epoch dealer : ℕ) (ack : List ℕ) → its ≡ me → other ≡ round → Acknowledges ack_of me round pairs epoch dealer ack
    → Acknowledges ack_of its other pairs epoch dealer ack
sent_by ack_of me its round other pairs epoch dealer ack mine same is =
    subst (λ (n : ℕ). Acknowledges ack_of n other pairs epoch dealer ack) (sym mine) (subst (λ (r : Round). Acknowledges ack_of me r pairs epoch dealer ack) (sym same) is)

-- a refusal is fair
pub refused_fair : (check : Result (Unit {0}) DealingError) (public : List ℕ) (pairs : Pairs) (epoch dealer : ℕ) (e : DealingError) → check ≡ Err e → get pairs (epoch, dealer) ≡ None → IsFair check public pairs epoch dealer Block
refused_fair check public pairs epoch dealer e refused none = inr (subst (λ (c : Result (Unit {0}) DealingError). IsErr c) (sym refused) refl, none)

-- a journal that is as it was, on a disk that is
pub open_still : {D : Type 0} (files : D → Files) (image : D → Files → Type 0) (was now : Journal) (a b : D) → now ≡ was → b ≡ a → IsOpen was (files a) (image a) → IsOpen now (files b) (image b)
open_still {D} files image was now a b same_journal same_disk is =
    subst (λ (j : Journal). IsOpen j (files b) (image b)) (sym same_journal) (subst (λ (d : D). IsOpen was (files d) (image d)) (sym same_disk) is)
