-- No log bears an acknowledgement that this node never gave.
use Rattle.std.specs.Prelude.{ℕ, List, ◌≡◌, ◌<◌, IsTrue, IfSome, IsSomeAnd, length}
use Rattle.std.specs.List.{AllByRecursion}
use Rattle.dkg_ceremony.specs.declared.dealer_log.DealerLog.{DealerLog}
use Rattle.dkg_ceremony.specs.ValidLogs.{bears_ack_of}
use Rattle.dkg_journal.specs.Records as journal
use Rattle.dkg_store.specs.Noted.{noted_log}
use Rattle.dkg_store.specs.Recorded.{restored_list}
use Rattle.dkg_infos.specs.declared.entry.Entry.{Entry}
use Rattle.dkg_infos.specs.declared.entry.Entry.TheVariants.{Step, Cut}
use Rattle.dkg_infos.specs.declared.entry.Restored.{Restored}
use Rattle.dkg_text.specs.declared.script.Event.{Event}
use Rattle.dkg_text.specs.declared.script.Event.TheVariants.{Final}
use Rattle.dkg_script.specs.Schedule.{epoch_of}
use Rattle.dkg_script.specs.Setting.{Setting, me, blocks_per_epoch, life_at, recovered_from}
use Rattle.dkg_script.specs.Blocks.{ScriptBlock, numbered_block, round_at}
use Rattle.dkg_script.specs.Position.{event_of_step}
use Rattle.dkg_script.specs.Progress.{Progress, AtEachEntry, pair_of}

-- A dealer's log of this epoch that bears this node's acknowledgement has the public half of the dealing recorded.
abbrev pub IsOwnMarkKnown : Setting → List Restored → (epoch dealer : ℕ) → DealerLog → Type 0
IsOwnMarkKnown s pairs epoch dealer log =
    IfSome (round_at s epoch) (λ round. IsTrue (bears_ack_of round dealer log (me s))
    → IsSomeAnd (pair_of pairs epoch dealer) (λ pair. log.public ≡ pair.public))

abbrev pub IsKnownInBlock : Setting → List Restored → ScriptBlock → Type 0
IsKnownInBlock s pairs b = IfSome b.log (λ signed. IsOwnMarkKnown s pairs (epoch_of (blocks_per_epoch s) b.height) signed.dealer signed.log)

abbrev pub IsKnownInEvent : Setting → List Restored → Event → Type 0
IsKnownInEvent s pairs (Final number) = IfSome (numbered_block s number) (IsKnownInBlock s pairs)
IsKnownInEvent s pairs _ = Unit {0}

abbrev pub IsKnownInStep : Setting → Progress → Type 0
IsKnownInStep s p =
    IfSome (life_at s (length p.cuts)) (λ life. IfSome (event_of_step life p.step) (IsKnownInEvent s p.recorded))

-- at the end of each step that began
abbrev pub IsKnownAt : Setting → Progress → Entry → Type 0
IsKnownAt s p (Step step) = IsKnownInStep s p
IsKnownAt s p (Cut step call) = 0 < call → IsKnownInStep s p
IsKnownAt s p _ = Unit {0}

-- an entry of the journal that records a log
abbrev pub IsKnownInEntry : Setting → List Restored → journal.SectionEntry → Type 0
IsKnownInEntry s pairs entry = IfSome (noted_log entry) (λ note. IsOwnMarkKnown s pairs note.0.0 note.0.1 note.1.log)

-- each log that the devices handed in record
abbrev pub AreKnownHandedIn : Setting → Type 0
AreKnownHandedIn s = AllByRecursion (IsKnownInEntry s (restored_list (recovered_from s.files s.secrets))) (journal.entries s.files)

pub record OwnMarks (s : Setting) (out : List Entry) : Type 0 where
  pub delivered : AtEachEntry s (IsKnownAt s) out
  pub handed_in : AreKnownHandedIn s
