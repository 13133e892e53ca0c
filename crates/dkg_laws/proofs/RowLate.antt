-- A life that opens late: with the dealing whose acknowledgement a recorded log bears, and without it. And the fence.
use Rattle.std.proofs.Common.{◌≡◌, List, [], ◌∷◌, ◌++◌, None, refl, false}
use Rattle.sha2.specs.Sha256.{first_words, schedule, rounds, compress, hash_after, digest_bytes, sha256}
use Rattle.dkg_values.specs.Bytes.{byte_at}
use Rattle.dkg_values.specs.Codec.{many_at}
use Rattle.dkg_values.specs.Uint.{groups, groups_at}
use Rattle.dkg_ceremony.specs.declared.dealer_log.DealerLog.{DealerLog}
use Rattle.dkg_ceremony.specs.declared.log_entry.LogEntry.TheVariants.{Ack, Reveal}
use Rattle.dkg_ceremony.specs.declared.phase.Phase.TheVariants.{Late}
use Rattle.dkg_ceremony.specs.Acks.{ack_content, check_ack_of}
use Rattle.dkg_ceremony.specs.Dealings.{dealing_of}
use Rattle.dkg_ceremony.specs.LogEntries.{entry_after}
use Rattle.dkg_ceremony.specs.Marks.{mark_of}
use Rattle.dkg_ceremony.specs.Polynomials.{value_at}
use Rattle.dkg_ceremony.specs.Rounds.{round_of, round_bytes}
use Rattle.dkg_ceremony.specs.ValidLogs.{bears_ack_of}
use Rattle.dkg_fence.specs.declared.fence.Waited.TheVariants.{Ready, Pending, Closed}
use Rattle.dkg_fence.specs.Fence.{marked, closed}
use Rattle.dkg_fence.specs.Readiness.{Readiness}
use Rattle.dkg_infos.specs.declared.entry.Entry.TheVariants.{Opened, Committed, Registered, Setup, Entered}
use Rattle.dkg_infos.specs.declared.entry.Part.{Part}
use Rattle.dkg_infos.specs.declared.entry.Part.TheVariants.{Player, Observer}
use Rattle.dkg_infos.specs.declared.entry.Restored.{Restored}
use Rattle.dkg_infos.specs.declared.entry.Role.TheVariants.{Member}
use Rattle.dkg_infos.specs.Validation.{validation}
use Rattle.dkg_journal.specs.Records.{SectionEntry}
use Rattle.dkg_values.specs.declared.name.Name.TheVariants.{Segment}
use Rattle.dkg_store.specs.Acts.{OnDisk}
use Rattle.dkg_journal.specs.Operations.{Bars, Opens}
use Rattle.dkg_store.specs.Events.{event_after, event_spelling}
use Rattle.dkg_store.specs.declared.event.Event.TheVariants as events
use Rattle.dkg_core.specs.Live.{NodeStop}
use Rattle.dkg_core.specs.Entering.{wait_for}
use Rattle.dkg_laws.proofs.Mirror.{Outcome, holding, secret}
use Rattle.dkg_laws.proofs.Lives.{Life, plays_over}
use Rattle.dkg_laws.proofs.Worked.{Dir, life_of, above, genesis, of_setup, body, ack_of_dealt}

-- dealer 2's log with this node's acknowledgement
abbrev pub log : DealerLog
log = record { public = 15 ∷ 7 ∷ 1 ∷ []; entries = Ack ack_of_dealt ∷ Reveal 33 ∷ Reveal 45 ∷ Reveal 59 ∷ [] }

abbrev pub journal : List SectionEntry
journal = (0, body) ∷ (0, event_spelling (events.Log 2 log)) ∷ []

-- the tip stands at height 4
abbrev pub over_four : Life Dir
over_four = above 4 (4 ∷ []) (life_of 8 0 (genesis ∷ []))

abbrev pub opens_as : List Restored → Part → Outcome NodeStop
opens_as restored part = record {
  lines = Opened 0 restored ∷ Committed 0 None ∷ Registered 0 Member ∷ Setup 0 Late part ∷ Entered 0 ∷ [];
  operations = OnDisk Bars ∷ OnDisk (Opens 0) ∷ of_setup 0 0;
  calls = 3;
  fault = None;
}

pub nine : plays_over (holding (journal ++ secret 0 (12 ∷ 2 ∷ 23 ∷ []) ∷ []) (Segment 0 ∷ [])) over_four []
    ≡ opens_as (record { epoch = 0; dealer = 2; public = 15 ∷ 7 ∷ 1 ∷ []; private = 23 } ∷ []) Player ∷ []
unfolding validation round_of dealing_of value_at event_after entry_after byte_at many_at groups_at groups bears_ack_of check_ack_of ack_content mark_of round_bytes first_words schedule rounds compress hash_after digest_bytes sha256
nine = refl

-- the secrets were lost
pub nine_lost : plays_over (holding journal (Segment 0 ∷ [])) over_four [] ≡ opens_as [] Observer ∷ []
unfolding validation round_of dealing_of value_at event_after entry_after byte_at many_at groups_at groups bears_ack_of check_ack_of ack_content mark_of round_bytes first_words schedule rounds compress hash_after digest_bytes sha256
nine_lost = refl

-- THE FENCE

abbrev pub fence : Readiness
fence = record { ready = None; closed = false; awaited = None }

pub twenty_ready : wait_for (marked 1 (marked 2 fence)) 2 ≡ Ready
twenty_ready = refl

pub twenty_pending : wait_for fence 0 ≡ Pending
twenty_pending = refl

pub twenty_closed : wait_for (closed fence) 3 ≡ Closed
twenty_closed = refl

pub twenty_ready_closed : wait_for (closed (marked 1 fence)) 1 ≡ Ready
twenty_ready_closed = refl
