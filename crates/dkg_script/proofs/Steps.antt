-- One step over variables: a new valid dealing is recorded and acknowledged, and one that is recorded is acknowledged again.
use Rattle.std.proofs.Common.{ℕ, ◌-◌, List, [], ◌∷◌, ◌++◌, ◌≡◌, refl, Some, None, Ok, true, length, arith, false}
use Rattle.std.specs.Prelude.{IsSomeAnd}
use Rattle.std.proofs.lemmas.List.Folds.{find-append}
use Rattle.std.proofs.lemmas.Bool.Decides.{eqb_tells}
use Rattle.dkg_ceremony.specs.declared.round.RoundParts.{RoundParts as Round}
use Rattle.dkg_ceremony.specs.Acks.{ack_of}
use Rattle.dkg_ceremony.specs.Dealings.{dealing_of}
use Rattle.dkg_infos.specs.declared.entry.Entry.{Entry}
use Rattle.dkg_infos.specs.declared.entry.Entry.TheVariants.{Recorded, Ack}
use Rattle.dkg_infos.specs.declared.entry.Restored.{Restored}
use Rattle.dkg_text.specs.declared.script.Event.TheVariants.{Peer}
use Rattle.dkg_text.specs.declared.script.Life.{Life}
use Rattle.dkg_script.specs.Readings.{BothHalves, dealing_in}
use Rattle.dkg_script.specs.Setting.{Setting, me, limits, life_at}
use Rattle.dkg_script.specs.Blocks.{round_at}
use Rattle.dkg_script.specs.Position.{event_of_step, awaited_epoch}
use Rattle.dkg_script.specs.Progress.{Progress, pair_of, has_pair_key, with_restored, IsValid, Brings}
use Rattle.dkg_script.specs.Kept.{IsSound, IsSoundAck}
use Rattle.std.specs.List.{list_any}
use Rattle.dkg_script.specs.Due.{is_ack}

abbrev pub recorded_entry : Restored → Entry
recorded_entry pair = Recorded pair.epoch pair.dealer pair.public pair.private

abbrev pub ack_entry : Restored → List ℕ → Entry
ack_entry pair ack = Ack pair.epoch pair.dealer ack

-- the step in hand is that of a message of the pair's dealer, in the pair's epoch, and its round accepts the pair
pub record InDealingStep (s : Setting) (p : Progress) (life : Life) (round : Round) (pair : Restored) (bytes : List ℕ) : Type 0 where
  pub life_is : life_at s (length p.cuts) ≡ Some life
  pub event_is : event_of_step life p.step ≡ Some (Peer pair.dealer bytes)
  pub awaited : pair.epoch ≡ awaited_epoch s (length p.cuts) life (p.step - 1)
  pub round_is : round_at s pair.epoch ≡ Some round
  pub valid : dealing_of round (me s) pair.dealer pair.public pair.private ≡ Ok tt

module _ (s : Setting) (p : Progress) (life : Life) (round : Round) (pair : Restored) (bytes : List ℕ) (h : InDealingStep s p life round pair bytes) where
  pub is_valid : IsValid s pair
  is_valid = rw h.round_is h.valid

  brings : dealing_in (limits s) bytes ≡ Some (record { public = pair.public; private = pair.private }) → IsSomeAnd (event_of_step life p.step) (λ event. Brings s event pair)
  brings decodes = rw h.event_is (refl, decodes)

  -- a new dealing's record
  module _ (new : pair_of p.recorded pair.epoch pair.dealer ≡ None) where
    with_new : with_restored p.recorded pair ≡ p.recorded ++ pair ∷ []
    with_new = rw new

    own_key : has_pair_key pair.epoch pair.dealer pair ≡ true
    own_key = grind (arith, eqb_tells)

    pub found_new : pair_of (with_restored p.recorded pair) pair.epoch pair.dealer ≡ Some pair
    found_new = rw (with_new, find-append, new, own_key)

    pub records : dealing_in (limits s) bytes ≡ Some (record { public = pair.public; private = pair.private }) → IsSound s p (recorded_entry pair)
    records decodes = record { first = λ new. rw h.life_is (record { epoch = h.awaited; event = brings decodes; valid = is_valid }); stays = found_new }

  -- a recorded dealing's acknowledgement, whatever dealing the message brings
  pub acknowledges : (brought : BothHalves) → dealing_in (limits s) bytes ≡ Some brought → pair_of p.recorded pair.epoch pair.dealer ≡ Some pair
      → (once : list_any is_ack p.written ≡ false)
      → IsSound s p (ack_entry pair (ack_of (me s) round pair.dealer pair.public))
  acknowledges brought decodes recorded once = rw h.life_is sound
    where
      sound : IsSoundAck s p pair.epoch pair.dealer (ack_of (me s) round pair.dealer pair.public) life
      sound = record {
        event = rw h.event_is (refl, rw decodes refl);
        awaited = h.awaited;
        of_recorded = rw (recorded, h.round_is) (h.valid, refl);
        once = once;
      }
