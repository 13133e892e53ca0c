-- Dealers' logs as they are recorded, and which of them count.
use Rattle.std.specs.Prelude.{ℕ, Bool, ◌&&◌, [], ◌∷◌, option_map, Some}
use Rattle.dkg_ceremony.specs.declared.dealer_log.DealerLog.{DealerLog}
use Rattle.dkg_ceremony.specs.declared.round.RoundParts.{RoundParts as Round}
use Rattle.dkg_ceremony.specs.declared.signed_log.SignedDealerLog.{SignedDealerLog}
use Rattle.dkg_ceremony.specs.Outcomes.{LogMap}
use Rattle.dkg_ceremony.specs.Schedule.{midpoint}
use Rattle.dkg_values.specs.Rising.{with_pair}
use Rattle.dkg_store.specs.Recorded.{bare_logs, reached_logs}
use Rattle.dkg_store.specs.declared.event.Event.{Event}
use Rattle.dkg_store.specs.declared.event.Event.TheVariants.{LogAt}
use Rattle.dkg_store.specs.declared.recorded_log.RecordedLog.{RecordedLog}
use Rattle.dkg_core.specs.Fixed.{Fixed, has}
use Rattle.dkg_core.specs.Live.{Live, records_of_epoch}

-- the record of a log that a block at a height carries, in the journal and in memory
abbrev pub carried_log_event : (dealer height : ℕ) → DealerLog → Event
carried_log_event dealer height log = LogAt dealer height log

abbrev pub recorded_log : (height : ℕ) → DealerLog → RecordedLog
recorded_log height log = record { height = Some height; log = log }

-- A log counts in a round where it is of one of the round's dealers, and the check accepts it.
abbrev pub is_accepted : {Dir : Type 0} → Fixed Dir → Round → SignedDealerLog → Bool
is_accepted c round log = has round.dealers log.dealer && c.rules.check_log_of round log

-- all recorded logs of an epoch, whatever their heights
abbrev pub logs_of : {Dir : Type 0} → Live Dir → (epoch : ℕ) → LogMap
logs_of st epoch = bare_logs (records_of_epoch epoch st.records.logs)

-- .. and those of the awaited epoch that blocks at or below the tip carry
abbrev pub canonical : {Dir : Type 0} → Fixed Dir → Live Dir → LogMap
canonical c st =
    reached_logs (midpoint c.blocks_per_epoch st.participation.epoch) (option_map (λ t. t.height) st.tip) (records_of_epoch st.participation.epoch st.records.logs)

-- WORDS ON LOGS BY DEALER

-- these, and others of dealers that have none among them
abbrev pub filled_by : LogMap → LogMap → LogMap
filled_by [] others = others
filled_by (log ∷ logs) others = with_pair log (filled_by logs others)
