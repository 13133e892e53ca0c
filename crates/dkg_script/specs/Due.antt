-- When an acknowledgement is owed.
use Rattle.std.specs.Prelude.{ℕ, List, ◌≡◌, ◌<◌, ◌-◌, ◌⊎◌, Bool, true, false, Ok, IsTrue, IsFalse, IsSome, IsSomeAnd, length}
use Rattle.std.specs.List.{list_any}
use Rattle.dkg_ceremony.specs.declared.round.RoundParts.{RoundParts as Round}
use Rattle.dkg_ceremony.specs.Dealings.{dealing_of}
use Rattle.dkg_values.specs.Rising.{has_key}
use Rattle.dkg_infos.specs.declared.entry.Entry.{Entry}
use Rattle.dkg_infos.specs.declared.entry.Entry.TheVariants.{Ack}
use Rattle.dkg_text.specs.declared.script.Event.{Event}
use Rattle.dkg_text.specs.declared.script.Event.TheVariants.{Peer}
use Rattle.dkg_text.specs.declared.script.Life.{Life}
use Rattle.dkg_script.specs.Schedule.{midpoint}
use Rattle.dkg_script.specs.Readings.{BothHalves, dealing_in}
use Rattle.dkg_script.specs.Setting.{Setting, me, limits, is_oneshot, blocks_per_epoch, life_at}
use Rattle.dkg_script.specs.Blocks.{round_at}
use Rattle.dkg_script.specs.Position.{event_of_step, awaited_height_after, awaited_epoch, life_follows, is_oneshot_finished}
use Rattle.dkg_script.specs.Progress.{Progress, pair_of}

abbrev pub is_ack : Entry → Bool
is_ack (Ack epoch dealer ack) = true
is_ack _ = false

-- the step wrote an acknowledgement
abbrev pub WroteAck : List Entry → Type 0
WroteAck written = IsTrue (list_any is_ack written)

-- A dealing that this node has to acknowledge, in a round that it plays.
pub record IsDueDealing (s : Setting) (p : Progress) (epoch from : ℕ) (round : Round) (dealing : BothHalves) : Type 0 where
  pub player : IsTrue (has_key (me s) round.players)
  pub dealer : IsTrue (has_key from round.dealers)
  pub valid : (dealing_of round (me s) from dealing.public dealing.private ≡ Ok tt) ⊎ IsSome (pair_of p.recorded epoch from)

abbrev pub IsDueEvent : Setting → Progress → ℕ → Event → Type 0
IsDueEvent s p epoch (Peer from bytes) =
    IsSomeAnd (round_at s epoch) (λ round. IsSomeAnd (dealing_in (limits s) bytes) (IsDueDealing s p epoch from round))
IsDueEvent s p epoch _ = ⊥

-- The event of the step in hand is a dealing that this node has to acknowledge.
pub record IsDueIn (s : Setting) (p : Progress) (life : Life) : Type 0 where
  pub unfinished : IsFalse (is_oneshot_finished s p.cuts (length p.cuts) life)
  pub takes_part : IsFalse (life_follows s (length p.cuts) life (awaited_epoch s (length p.cuts) life (p.step - 1)))
  pub oneshot : IsTrue (is_oneshot s) → awaited_epoch s (length p.cuts) life (p.step - 1) ≡ 0
  pub early : awaited_height_after s (length p.cuts) life (p.step - 1)
      < midpoint (blocks_per_epoch s) (awaited_epoch s (length p.cuts) life (p.step - 1))
  pub dealing : IsSomeAnd (event_of_step life p.step) (IsDueEvent s p (awaited_epoch s (length p.cuts) life (p.step - 1)))

abbrev pub IsDueNow : Setting → Progress → Type 0
IsDueNow s p = IsSomeAnd (life_at s (length p.cuts)) (IsDueIn s p)
