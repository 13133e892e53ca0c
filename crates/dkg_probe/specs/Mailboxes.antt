-- What a probe behind a lock answers its mailbox.
use Rattle.std.specs.Prelude.{◌≡◌, ℕ, Option, Some, None, IfSome}
use Rattle.dkg_turn.specs.Known.{Known}
use Rattle.dkg_turn.specs.Passes.{Posted}
use Rattle.dkg_probe.specs.declared.artifact.Artifact.{Artifact as Found}
use Rattle.dkg_probe.specs.declared.event.Event.{Event}
use Rattle.dkg_probe.specs.declared.event.Event.TheVariants.{Subscribe, Unsubscribe, Attach, Peer, Retry}

-- An answer to an event, by what is known after its turn: to a subscriber it is just that.
abbrev pub Meets : {Dir : Type 0} → (known : Option (Found Dir)) → Event → Option (Found Dir) → Type 0
Meets known Subscribe answer = answer ≡ known
Meets known Unsubscribe answer = Unit {0}
Meets known Attach answer = Unit {0}
Meets known (Peer from bytes) answer = Unit {0}
Meets known Retry answer = Unit {0}

-- an answer that may be none
abbrev pub flat_answer : {A : Type 0} → Option (Option A) → Option A
flat_answer None = None
flat_answer (Some answer) = answer

-- An answer to a subscriber: none where its turn ended by a stop, else what is known behind that turn.
module _ {T C R Dir : Type 0} (turns : T → C → R → T → Type 0) (start : T) (same : R → R → Type 0) (told : T → ℕ → Option R) (call : C) (answered : R → Option (Option (Found Dir))) (stopped : T → C → R → T → Type 0)
    (meets : T → Event → Option (Found Dir) → Type 0) (known : T → Option (Found Dir)) where
  pub record Subscribed (answer : Option (Found Dir)) (v w : Known T C R) : Type 0 where
    pub said : Option (Option (Found Dir))
    pub answer_is : answer ≡ flat_answer said
    pub posted : Posted turns start same told call answered stopped meets Subscribe said v w
    pub known_is : IfSome said (λ artifact. artifact ≡ known posted.called.after)
