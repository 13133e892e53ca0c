-- A text's script of the form of epochs is of the form of inclusion: none of its events asks for an info.
use Rattle.std.proofs.Common.{List, [], ◌∷◌}
use Rattle.std.specs.List.{AllByRecursion}
use Rattle.dkg_text.specs.declared.script.BlockLine.{BlockLine}
use Rattle.dkg_text.specs.declared.script.Event.{Event}
use Rattle.dkg_text.specs.declared.script.Event.TheVariants.{Peer, Final}
use Rattle.dkg_text.specs.declared.script.Life.{Life}
use Rattle.dkg_script.specs.Asked.{AskAnew}
use Rattle.dkg_script.specs.InForm.{EpochsIsOfInclusion}
use Rattle.dkg_script.specs.Epochs as epochs
use Rattle.dkg_script.specs.Inclusion as inclusion
use Rattle.dkg_script.proofs.Formed.{holds_at}

events_within : (blocks : List BlockLine) (events : List Event) → AllByRecursion (epochs.IsEpochsEvent blocks) events → AllByRecursion (inclusion.IsEventIn blocks) events
events_within blocks [] all = tt
events_within blocks (Peer from bytes ∷ events) all = (all.0, events_within blocks events all.1)
events_within blocks (Final number ∷ events) all = (all.0, events_within blocks events all.1)
events_within blocks (event ∷ events) all = absurd all.0

pub epochs_within : EpochsIsOfInclusion
epochs_within script of_text form = record {
  plain = form.plain;
  reshares = form.reshares;
  own = form.own;
  in_bound = form.in_bound;
  short = form.short;
  rising = of_text.rising;
  blocks = form.blocks;
  placed = form.placed;
  lives = λ l life is.
      let its = form.lives l life is in
      record {
        anchor = its.anchor;
        no_sync = its.no_sync;
        events = events_within script.blocks life.events its.events;
        anew = holds_at (λ (life : Life). AskAnew life.events) script.lives l life of_text.anew is;
      };
}
