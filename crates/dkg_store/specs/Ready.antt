-- The calls of a new dealing, made up before the first of them.
use Rattle.std.specs.Prelude.{◌≡◌, ℕ, List}
use Rattle.dkg_journal.specs.Records.{SectionEntry}
use Rattle.dkg_journal.specs.declared.journal.Journal.{Journal}
use Rattle.dkg_store.specs.Both.{EitherOp, put_then_append}
use Rattle.dkg_store.specs.Events.{event_spelling, IsEvent}
use Rattle.dkg_store.specs.declared.event.Event.TheVariants as events
use Rattle.dkg_secrets.specs.declared.secrets.SecretOp.TheVariants.{PutDealing}
use Rattle.dkg_store.specs.declared.store.ReadyDealing.{ReadyDealing}

pub record IsReadyDealing (ready : ReadyDealing) (epoch dealer : ℕ) (public : List ℕ) (private : ℕ) : Type 0 where
  pub puts : ready.put ≡ PutDealing epoch dealer private
  pub body : ready.body.items ≡ event_spelling (events.Dealing dealer public)
  pub fits : IsEvent (events.Dealing dealer public)

-- its entry
abbrev pub dealing_entry : (epoch dealer : ℕ) → List ℕ → SectionEntry
dealing_entry epoch dealer public = (epoch, event_spelling (events.Dealing dealer public))

-- the put of its private half, and the append of its entry
abbrev pub dealing_calls : Journal → (epoch dealer : ℕ) → List ℕ → ℕ → List EitherOp
dealing_calls journal epoch dealer public private = put_then_append (PutDealing epoch dealer private) journal (dealing_entry epoch dealer public)
