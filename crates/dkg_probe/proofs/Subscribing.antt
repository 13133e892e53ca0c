-- What a subscriber is answered is known.
use Rattle.std.proofs.Common.{◌≡◌, ℕ, Option, Some, None, IfSome, refl, sym, ap}
use Rattle.dkg_turn.specs.Known.{Known}
use Rattle.dkg_turn.specs.Passes.{Posted}
use Rattle.dkg_probe.specs.declared.artifact.Artifact.{Artifact as Found}
use Rattle.dkg_probe.specs.declared.event.Event.{Event}
use Rattle.dkg_probe.specs.declared.event.Event.TheVariants.{Subscribe, Unsubscribe, Attach, Peer, Retry}
use Rattle.dkg_probe.specs.Mailboxes.{Meets, flat_answer, Subscribed}

-- who answers what is known meets every event
pub meets_known : {Dir : Type 0} (known : Option (Found Dir)) (event : Event) (answer : Option (Found Dir)) → answer ≡ known → Meets known event answer
meets_known known Subscribe answer same = same
meets_known known Unsubscribe answer same = tt
meets_known known Attach answer same = tt
meets_known known (Peer from bytes) answer same = tt
meets_known known Retry answer same = tt

if_said : {A : Type 0} (P : A → Type 0) (said : Option A) → ((a : A) → said ≡ Some a → P a) → IfSome said P
if_said P None met = tt
if_said P (Some a) met = met a refl

module _ {T C R Dir : Type 0} (turns : T → C → R → T → Type 0) (start : T) (same : R → R → Type 0) (told : T → ℕ → Option R) (call : C) (answered : R → Option (Option (Found Dir))) (stopped : T → C → R → T → Type 0)
    (meets : T → Event → Option (Found Dir) → Type 0) (known : T → Option (Found Dir)) (owes : (core : T) (event : Event) (answer : Option (Found Dir)) → meets core event answer → Meets (known core) event answer) where
  pub subscribed : (said : Option (Option (Found Dir))) (answer : Option (Found Dir)) (v w : Known T C R) → said ≡ Some answer → Posted turns start same told call answered stopped meets Subscribe said v w
      → Subscribed turns start same told call answered stopped meets known answer v w
  subscribed said answer v w is posted = record {
    said = said;
    answer_is = sym (ap flat_answer is);
    posted = posted;
    known_is = if_said (λ (a : Option (Found Dir)). a ≡ known posted.called.after) said (λ a here. owes posted.called.after Subscribe a (posted.met a here));
  }
