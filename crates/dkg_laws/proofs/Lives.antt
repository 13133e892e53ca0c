-- Lives that are played: an opening and events, one after another, with the source that each step is lent.
use Rattle.std.proofs.Common.{List, [], ◌∷◌, Option}
use Rattle.std.specs.Prelude.{◌++◌, fold}
use Rattle.dkg_types.specs.Blocks.{Block}
use Rattle.dkg_infos.specs.declared.fault.Fault.TheVariants.{HeightRange}
use Rattle.dkg_types.specs.declared.finalization.Finalization.{Finalization}
use Rattle.dkg_store.specs.Acts.{Held}
use Rattle.dkg_core.specs.Sources.{Anchor, source_of}
use Rattle.dkg_core.specs.Fixed.{Fixed, lending}
use Rattle.dkg_core.specs.Live.{Live, Event, Delivers, NodeStop, Faulted}
use Rattle.dkg_core.specs.Node.{node_opening, node_step}
use Rattle.dkg_laws.proofs.Mirror.{nothing, played, Played, Outcome, outcome_of, after_end}

-- What a life's steps are given but for the source; and of the source the finalization of a block, the position that it tells, and the blocks that it holds.
pub record Life (Dir : Type 0) : Type 0 where
  pub given : Fixed Dir
  pub sealed : Block Dir → Option Finalization
  pub anchor : Option (Anchor Dir)
  pub held : List (Block Dir)

-- what a step is given, once these blocks were delivered
abbrev pub at_step : {Dir : Type 0} → Life Dir → (delivered : List (Block Dir)) → Fixed Dir
at_step life delivered = lending (source_of life.sealed life.anchor life.held delivered) life.given

-- a delivered block is in the source from its step on
abbrev pub with_event : {Dir : Type 0} → Event Dir → List (Block Dir) → List (Block Dir)
with_event (Delivers b) delivered = delivered ++ b ∷ []
with_event event delivered = delivered

abbrev pub delivered_by : {Dir : Type 0} → List (Event Dir) → List (Block Dir)
delivered_by events = fold (λ delivered event. with_event event delivered) [] events

abbrev pub next_played : {Dir : Type 0} → Life Dir → (delivered : List (Block Dir)) → Event Dir → Option (Live Dir × Held) → Played Dir NodeStop (Live Dir)
next_played life delivered event end = after_end (Faulted HeightRange) (node_step (at_step life delivered) event) end

-- the outcomes of a course, and of the events after it
abbrev pub outcomes : {Dir : Type 0} → Life Dir → (delivered : List (Block Dir)) → List (Event Dir) → Played Dir NodeStop (Live Dir) → List (Outcome NodeStop)
outcomes life delivered [] p = outcome_of p ∷ []
outcomes life delivered (event ∷ events) p =
    outcome_of p ∷ outcomes life (with_event event delivered) events (next_played life (with_event event delivered) event p.end)

-- what it ended in after these events
abbrev pub end_from : {Dir : Type 0} → Life Dir → (delivered : List (Block Dir)) → List (Event Dir) → Played Dir NodeStop (Live Dir) → Option (Live Dir × Held)
end_from life delivered [] p = p.end
end_from life delivered (event ∷ events) p = end_from life (with_event event delivered) events (next_played life (with_event event delivered) event p.end)

abbrev pub opened : {Dir : Type 0} → Life Dir → Held → Played Dir NodeStop (Live Dir)
opened life h = played (node_opening (at_step life [])) h

-- the outcomes of an opening over these devices, or over empty ones, and of these events
abbrev pub plays_over : {Dir : Type 0} → Held → Life Dir → List (Event Dir) → List (Outcome NodeStop)
plays_over h life events = outcomes life [] events (opened life h)

abbrev pub plays : {Dir : Type 0} → Life Dir → List (Event Dir) → List (Outcome NodeStop)
plays life events = plays_over nothing life events

abbrev pub end_after : {Dir : Type 0} → Held → Life Dir → List (Event Dir) → Option (Live Dir × Held)
end_after h life events = end_from life [] events (opened life h)
